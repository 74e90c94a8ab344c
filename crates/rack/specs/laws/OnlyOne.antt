-- What four words mean, soundness and the maker: no other outcome fits a call, and wrong ones do not meet its contract.
use Rattle.std.specs.Prelude.{ℕ, ◌≤◌, ◌≡◌, refl, Bool, true, false, [], ◌∷◌, negsuc, None, Some}
use Rattle.std.proofs.Common.{ap, sym, ◌∙◌, arith}
use Rattle.std.specs.Int.Count.{ones}
use Rattle.number.specs.Value.{alternating_of, signed_of}
use Rattle.quorum.specs.Sets.{majority, asks_enough, within}
use Rattle.method.specs.declared.Body.TheVariants.{Keep, Kept}
use Rattle.method.specs.declared.Party.{Party}
use Rattle.method.specs.declared.Event.{Event}
use Rattle.method.specs.declared.Event.TheVariants.{StartRead, StartWrite, Deliver, Lose, Copy, Resend, Stop, Off, On, Unknown}
use Rattle.rack.specs.declared.Made.{Made}
use Rattle.method.specs.Plan.{active_party}
use Rattle.rack.specs.Places.{of_sizes, idle}
use Rattle.rack.specs.Sound.{settings_fit, pair_fits, body_fits, message_fits, held_fits, holding_fits, phase_fits, operation_fits, work_fits, owes, owed_by, sound_of, owed_in}
use Rattle.rack.specs.Run.{fresh_rack, made_of, byte, event_of}
use Rattle.rack.specs.laws.Fresh.{fresh_sound}
use Rattle.rack.specs.Answers.{kind_in, first_in, cell_in, value_in}
use Rattle.stamps.specs.laws.OnlyOne.{yes_not_no}
use Rattle.stamps.specs.Examples.{pair_of}
use Rattle.rack.specs.Same.{SameEvent, SameMade}
use Rattle.rack.specs.Examples.{sizes, asks, told, stopped}

-- Every call here but `events::decode` and `made` answers yes or no, or a number: two answers that are both what is stated are the same by `one_answer` of
-- stamps' OnlyOne.

-- ---- events::decode

pub one_event : (kind a b v : ℕ) (r r' : Event) → r ≡ event_of kind a b v → r' ≡ event_of kind a b v → SameEvent r r'
one_event kind a b v r r' p q =
    let e : r ≡ r' = p ∙ sym q in
    record { kind = ap kind_in e; first = ap first_in e; cell = ap cell_in e; value = ap value_in e; same = e }

-- kind 9 is no event, and client 256 is not client 0
pub not_kind_9 : (r : Event) → r ≡ event_of 9 0 0 0 → kind_in r ≡ 8 → ⊥
unfolding event_of kind_in
not_kind_9 r p q = let e : kind_in r ≡ 9 = ap kind_in p in omega arith

pub not_client_256 : (r : Event) → r ≡ event_of 6 256 0 0 → kind_in r ≡ 6 → ⊥
unfolding event_of byte kind_in
not_client_256 r p q = let e : kind_in r ≡ 9 = ap kind_in p in omega arith

-- ---- sizes_in

pub not_16_replicas : (r : Bool) → r ≡ settings_fit (record { replicas = 16; clients = 8; cells = 16 }) → r ≡ true → ⊥
unfolding settings_fit
not_16_replicas r p q = yes_not_no q p

pub not_15_too_many : (r : Bool) → r ≡ settings_fit (record { replicas = 15; clients = 8; cells = 16 }) → r ≡ false → ⊥
unfolding settings_fit
not_15_too_many r p q = yes_not_no p q

-- ---- soundness::sound, part by part: pairs, messages, slots

-- of two clients there is no rank 2, and there is a rank 1
pub not_rank_2 : (r : Bool) → r ≡ pair_fits sizes (pair_of 1 2 5) → r ≡ true → ⊥
unfolding pair_fits
not_rank_2 r p q = yes_not_no q p

pub not_rank_1_unknown : (r : Bool) → r ≡ pair_fits sizes (pair_of 1 1 5) → r ≡ false → ⊥
unfolding pair_fits
not_rank_1_unknown r p q = yes_not_no p q

pub not_keep_of_rank_2 : (r : Bool) → r ≡ body_fits sizes (Keep (pair_of 1 2 5)) → r ≡ true → ⊥
unfolding body_fits pair_fits
not_keep_of_rank_2 r p q = yes_not_no q p

pub not_kept_unfit : (r : Bool) → r ≡ body_fits sizes Kept → r ≡ false → ⊥
unfolding body_fits
not_kept_unfit r p q = yes_not_no p q

pub not_replica_3 : (r : Bool) → r ≡ message_fits sizes (asks 3) → r ≡ true → ⊥
unfolding message_fits
not_replica_3 r p q = yes_not_no q p

pub not_replica_2_unknown : (r : Bool) → r ≡ message_fits sizes (asks 2) → r ≡ false → ⊥
unfolding message_fits body_fits
not_replica_2_unknown r p q = yes_not_no p q

pub not_empty_unfit : (r : Bool) → r ≡ held_fits sizes None → r ≡ false → ⊥
unfolding held_fits
not_empty_unfit r p q = yes_not_no p q

pub not_held_replica_3 : (r : Bool) → r ≡ held_fits sizes (Some (asks 3)) → r ≡ true → ⊥
unfolding held_fits message_fits
not_held_replica_3 r p q = yes_not_no q p

-- ---- open operations

-- two of three are a majority already, replica 3 isn't there, and one of three is fine
pub not_majority_open : (r : Bool) → r ≡ work_fits sizes (told 0b011) → r ≡ true → ⊥
unfolding work_fits operation_fits phase_fits holding_fits pair_fits within asks_enough majority ones
not_majority_open r p q = yes_not_no q p

pub not_fourth_told : (r : Bool) → r ≡ work_fits sizes (told 0b1000) → r ≡ true → ⊥
unfolding work_fits operation_fits pair_fits within
not_fourth_told r p q = yes_not_no q p

pub not_one_unfit : (r : Bool) → r ≡ work_fits sizes (told 0b001) → r ≡ false → ⊥
unfolding work_fits operation_fits phase_fits holding_fits pair_fits within asks_enough majority ones
not_one_unfit r p q = yes_not_no p q

-- ---- owed_by, owed_by_all

pub one_owed : (party : Party) (r r' : ℕ) → (r ≡ owed_by party) × (r ≤ 1) → (r' ≡ owed_by party) × (r' ≤ 1) → r ≡ r'
one_owed party r r' p q = p.0 ∙ sym q.0

pub not_owed_stopped : (r : ℕ) → r ≡ owed_by stopped → r ≡ 1 → ⊥
unfolding owed_by
not_owed_stopped r p q = omega arith

pub not_free_asking : (r : ℕ) → r ≡ owed_by (active_party 1 (told 0b001)) → r ≡ 0 → ⊥
unfolding owed_by owes
not_free_asking r p q = omega arith

-- of one that asks, one that is idle and one that is stopped, one answer is owed
pub not_all_owe : (r : ℕ) → r ≡ owed_in 3 (active_party 1 (told 0b001) ∷ idle ∷ stopped ∷ []) → r ≡ 3 → ⊥
unfolding owed_in owed_by owes
not_all_owe r p q = let e : r ≡ 1 = p in omega arith

pub not_none_owes : (r : ℕ) → r ≡ owed_in 3 (active_party 1 (told 0b001) ∷ idle ∷ stopped ∷ []) → r ≡ 0 → ⊥
unfolding owed_in owed_by owes
not_none_owes r p q = let e : r ≡ 1 = p in omega arith

-- ---- the whole rack

pub not_fresh_unsound : (r : Bool) → r ≡ sound_of (fresh_rack (of_sizes 15 8 16)) → r ≡ false → ⊥
unfolding settings_fit
not_fresh_unsound r p q = yes_not_no (p ∙ fresh_sound 15 8 16 refl) q

pub not_16_sound : (r : Bool) → r ≡ sound_of (fresh_rack (of_sizes 16 8 16)) → r ≡ true → ⊥
unfolding sound_of settings_fit fresh_rack
not_16_sound r p q = yes_not_no q p

-- ---- Rack::made

pub one_made : (replicas clients cells : ℕ) (r r' : Made) → r ≡ made_of (of_sizes replicas clients cells) → r' ≡ made_of (of_sizes replicas clients cells) → SameMade r r'
one_made replicas clients cells r r' p q =
    let e : r ≡ r' = p ∙ sym q in
    record { refusal = ap (λ (x : Made). x.refusal) e; rack = ap (λ (x : Made). x.rack) e }

-- 15, 8, 16 are made; 16, 8, 16 is refused, and beside it stands no rack of 16 replicas
pub not_15_refused : (r : Made) → r ≡ made_of (of_sizes 15 8 16) → r.refusal ≡ 1 → ⊥
unfolding made_of settings_fit
not_15_refused r p q = let e : r.refusal ≡ 0 = ap (λ (x : Made). x.refusal) p in omega arith

pub not_16_made : (r : Made) → r ≡ made_of (of_sizes 16 8 16) → r.refusal ≡ 0 → ⊥
unfolding made_of settings_fit
not_16_made r p q = let e : r.refusal ≡ 1 = ap (λ (x : Made). x.refusal) p in omega arith

pub not_beside_16 : (r : Made) → r ≡ made_of (of_sizes 16 8 16) → r.rack.settings.replicas ≡ 16 → ⊥
unfolding made_of settings_fit fresh_rack
not_beside_16 r p q = let e : r.rack.settings.replicas ≡ 1 = ap (λ (x : Made). x.rack.settings.replicas) p in omega arith

-- ---- what answers say

-- client 5 starts a read of cell 3, and a write there of -9, which stands in a record as 17
pub says_read_start : (r : Event) → r ≡ event_of 0 5 3 17 → (kind_in r ≡ 0) × (first_in r ≡ 5) × (cell_in r ≡ 3) × (value_in r ≡ 0)
unfolding event_of byte kind_in first_in cell_in value_in
says_read_start r p = let e : r ≡ StartRead (record { 0 = 5 }) (record { 0 = 3 }) = p in (ap kind_in e, ap first_in e, ap cell_in e, ap value_in e)

pub says_write_start : (r : Event) → r ≡ event_of 1 5 3 17 → (kind_in r ≡ 1) × (first_in r ≡ 5) × (cell_in r ≡ 3) × (value_in r ≡ 17)
unfolding event_of byte signed_of alternating_of kind_in first_in cell_in value_in
says_write_start r p = let e : r ≡ StartWrite (record { 0 = 5 }) (record { 0 = 3 }) (negsuc 8) = p in (ap kind_in e, ap first_in e, ap cell_in e, ap value_in e)

-- slot 200 is delivered, lost and copied: of the other words nothing is said
pub says_deliver : (r : Event) → r ≡ event_of 2 200 3 17 → (kind_in r ≡ 2) × (first_in r ≡ 200) × (cell_in r ≡ 0) × (value_in r ≡ 0)
unfolding event_of kind_in first_in cell_in value_in
says_deliver r p = let e : r ≡ Deliver 200 = p in (ap kind_in e, ap first_in e, ap cell_in e, ap value_in e)

pub says_lose : (r : Event) → r ≡ event_of 3 200 3 17 → (kind_in r ≡ 3) × (first_in r ≡ 200) × (cell_in r ≡ 0) × (value_in r ≡ 0)
unfolding event_of kind_in first_in cell_in value_in
says_lose r p = let e : r ≡ Lose 200 = p in (ap kind_in e, ap first_in e, ap cell_in e, ap value_in e)

pub says_copy : (r : Event) → r ≡ event_of 4 200 3 17 → (kind_in r ≡ 4) × (first_in r ≡ 200) × (cell_in r ≡ 0) × (value_in r ≡ 0)
unfolding event_of kind_in first_in cell_in value_in
says_copy r p = let e : r ≡ Copy 200 = p in (ap kind_in e, ap first_in e, ap cell_in e, ap value_in e)

-- client 5 sends again, and is stopped; replica 14 is turned off and on
pub says_resend : (r : Event) → r ≡ event_of 5 5 3 17 → (kind_in r ≡ 5) × (first_in r ≡ 5) × (cell_in r ≡ 0) × (value_in r ≡ 0)
unfolding event_of byte kind_in first_in cell_in value_in
says_resend r p = let e : r ≡ Resend (record { 0 = 5 }) = p in (ap kind_in e, ap first_in e, ap cell_in e, ap value_in e)

pub says_stop : (r : Event) → r ≡ event_of 6 5 3 17 → (kind_in r ≡ 6) × (first_in r ≡ 5) × (cell_in r ≡ 0) × (value_in r ≡ 0)
unfolding event_of byte kind_in first_in cell_in value_in
says_stop r p = let e : r ≡ Stop (record { 0 = 5 }) = p in (ap kind_in e, ap first_in e, ap cell_in e, ap value_in e)

pub says_off : (r : Event) → r ≡ event_of 7 14 3 17 → (kind_in r ≡ 7) × (first_in r ≡ 14) × (cell_in r ≡ 0) × (value_in r ≡ 0)
unfolding event_of byte kind_in first_in cell_in value_in
says_off r p = let e : r ≡ Off (record { 0 = 14 }) = p in (ap kind_in e, ap first_in e, ap cell_in e, ap value_in e)

pub says_on : (r : Event) → r ≡ event_of 8 14 3 17 → (kind_in r ≡ 8) × (first_in r ≡ 14) × (cell_in r ≡ 0) × (value_in r ≡ 0)
unfolding event_of byte kind_in first_in cell_in value_in
says_on r p = let e : r ≡ On (record { 0 = 14 }) = p in (ap kind_in e, ap first_in e, ap cell_in e, ap value_in e)

-- kind 9 is no event, and names nothing
pub says_no_event : (r : Event) → r ≡ event_of 9 5 3 17 → (kind_in r ≡ 9) × (first_in r ≡ 0) × (cell_in r ≡ 0) × (value_in r ≡ 0)
unfolding event_of kind_in first_in cell_in value_in
says_no_event r p = let e : r ≡ Unknown = p in (ap kind_in e, ap first_in e, ap cell_in e, ap value_in e)
