-- Plans: no other outcome fits a call, and wrong ones do not meet its contract.
use Rattle.std.specs.Prelude.{ℕ, ◌<◌, true, false, ◌≡◌, refl, None, Some, Option}
use Rattle.std.proofs.Common.{ap, sym, ◌∙◌, arith}
use Rattle.std.specs.Int.Count.{ones}
use Rattle.method.specs.declared.Message.{Message}
use Rattle.record.specs.declared.Entry.{Entry}
use Rattle.record.specs.declared.Entry.TheVariants.{ReadAsked}
use Rattle.quorum.specs.Sets.{set_bits, has_replica, with_replica, without_replica, majority, asks_enough, every_replica}
use Rattle.stamps.specs.Stamp.{fresh_pair, stamp_less, raised}
use Rattle.stamps.specs.Examples.{pair_of}
use Rattle.method.specs.declared.Body.TheVariants.{Ask, Kept}
use Rattle.method.specs.declared.Goal.TheVariants.{Read}
use Rattle.method.specs.declared.Phase.TheVariants.{Asking}
use Rattle.method.specs.declared.Sight.{Sight}
use Rattle.method.specs.declared.Event.{Event}
use Rattle.method.specs.declared.Event.TheVariants.{StartRead, Deliver, Resend, Off}
use Rattle.method.specs.declared.Note.TheVariants.{Nothing, Asked, Ended}
use Rattle.method.specs.Decision.{Decision}
use Rattle.method.specs.Plan.{start_of, keep_of, current, keeps_of, message_of, active_party, no_message}
use Rattle.method.specs.Refusals.{decision_of}
use Rattle.method.specs.Answers.{refusal_in, party_after, pair_after, power_after, clear_in, note_in, message_in, sent_to}
use Rattle.method.specs.Same.{SameOutcome}
use Rattle.method.specs.Examples.{three, reading, telling, giving, newer}
use Rattle.method.specs.laws.InTurn.{start_in, start_turn, if_on, phase_ends, tell_enough, tell_phase, tell_work, tell_turn, deliver_turn, resend_in, resend_turn, off_turn}
use Rattle.method.specs.laws.InTurn.{slot_turn, turn_of}
use Rattle.method.proofs.theorems.InTurn.{in_turn}

pub one_outcome : (o r r' : Decision) → r ≡ o → r' ≡ o → SameOutcome r r'
one_outcome o r r' p q =
    let e : r ≡ r' = p ∙ sym q in
    record {
      refusal = ap refusal_in e;
      party = λ s. ap (party_after s) e;
      pair = λ s. ap (pair_after s) e;
      power = λ s. ap (power_after s) e;
      clear = ap clear_in e;
      note = ap note_in e;
      message = ap message_in e;
      to = ap sent_to e;
      same = e;
    }

pub one_plan : (s : Sight) (held : Option Message) (e : Event) (r r' : Decision) → r ≡ decision_of s held e → r' ≡ decision_of s held e → SameOutcome r r'
one_plan s held e r r' p q = one_outcome (decision_of s held e) r r' p q

-- what is decided, as the code decides it
by_turn : (s : Sight) (held : Option Message) (e : Event) {r : Decision} → r ≡ decision_of s held e → r ≡ turn_of s held e
by_turn s held e p = p ∙ sym (in_turn s held e)

-- a client that is idle can start: it isn't refused, every replica is asked, and the record gets an entry
pub not_start_refused : (r : Decision) → r ≡ decision_of (three None) None (StartRead (record { 0 = 0 }) (record { 0 = 0 })) → 0 < refusal_in r → ⊥
unfolding turn_of start_turn start_in start_of refusal_in
not_start_refused r p q = let e : refusal_in r ≡ 0 = ap refusal_in (by_turn _ _ _ p) in omega arith

pub not_start_unsent : (r : Decision) → r ≡ decision_of (three None) None (StartRead (record { 0 = 0 }) (record { 0 = 0 })) → sent_to r ≡ 0 → ⊥
unfolding turn_of start_turn start_in start_of every_replica set_bits sent_to
not_start_unsent r p q = let e : sent_to r ≡ 7 = ap sent_to (by_turn _ _ _ p) in omega arith

pub not_start_unrecorded : (r : Decision) → r ≡ decision_of (three None) None (StartRead (record { 0 = 0 }) (record { 0 = 0 })) → note_in r ≡ Nothing → ⊥
unfolding turn_of start_turn start_in start_of note_in
not_start_unrecorded r p q =
    let e : note_in r ≡ Asked (ReadAsked (record { 0 = 0 }) (record { 0 = 0 })) = ap note_in (by_turn _ _ _ p) in
    let z : ◌≡◌ {A = ℕ} 0 1 = cc in omega arith

-- at a majority of tells a keep goes to every replica and not to the two that told, and the read doesn't end
pub not_keep_to_few : (r : Decision) → r ≡ decision_of (three reading) telling (Deliver 0) → sent_to r ≡ 0b011 → ⊥
unfolding turn_of slot_turn deliver_turn tell_turn current tell_work tell_phase has_replica with_replica set_bits tell_enough asks_enough majority ones phase_ends keeps_of every_replica sent_to
not_keep_to_few r p q = let e : sent_to r ≡ 7 = ap sent_to (by_turn _ _ _ p) in omega arith

pub not_read_unkept : (r : Decision) (entry : Entry) → r ≡ decision_of (three reading) telling (Deliver 0) → note_in r ≡ Ended entry → ⊥
unfolding turn_of slot_turn deliver_turn tell_turn current tell_work tell_phase has_replica with_replica set_bits tell_enough asks_enough majority ones phase_ends keeps_of note_in
not_read_unkept r entry p q =
    let e : note_in r ≡ Nothing = ap note_in (by_turn _ _ _ p) in
    let z : ◌≡◌ {A = ℕ} 0 1 = cc in omega arith

-- with no operation open there is nothing to send again
pub not_resend_idle : (r : Decision) → r ≡ decision_of (three None) None (Resend (record { 0 = 0 })) → refusal_in r ≡ 0 → ⊥
unfolding turn_of resend_turn resend_in refusal_in
not_resend_idle r p q = let e : refusal_in r ≡ 7 = ap refusal_in (by_turn _ _ _ p) in omega arith

pub not_unanswered : (r : Decision) → r ≡ decision_of (three None) giving (Deliver 0) → sent_to r ≡ 0 → ⊥
unfolding turn_of slot_turn deliver_turn if_on keep_of has_replica with_replica set_bits sent_to
not_unanswered r p q = let e : sent_to r ≡ 1 = ap sent_to (by_turn _ _ _ p) in omega arith

-- ---- what answers say

-- an outcome says in every word what the stated one says
said : (s : Sight) {o r : Decision} → r ≡ o → (refusal_in r ≡ refusal_in o) × (party_after s r ≡ party_after s o) × (pair_after s r ≡ pair_after s o)
    × (power_after s r ≡ power_after s o) × (clear_in r ≡ clear_in o) × (note_in r ≡ note_in o) × (message_in r ≡ message_in o) × (sent_to r ≡ sent_to o)
said s {o} {r} p = let w = one_outcome o r o p refl in (w.refusal, w.party s, w.pair s, w.power s, w.clear, w.note, w.message, w.to)

-- a start asks all three replicas and the record gets its entry; the client asks, with nothing held, and pair, power and slot stay
pub says_start : (r : Decision) → r ≡ decision_of (three None) None (StartRead (record { 0 = 0 }) (record { 0 = 0 }))
    → (refusal_in r ≡ 0)
    × (party_after (three None) r ≡ active_party 2 (Some (record { cell = record { 0 = 0 }; goal = Read; phase = Asking None; set = 0 })))
    × (pair_after (three None) r ≡ fresh_pair)
    × (power_after (three None) r ≡ 0b111) × (clear_in r ≡ false) × (note_in r ≡ Asked (ReadAsked (record { 0 = 0 }) (record { 0 = 0 })))
    × (message_in r ≡ message_of (record { 0 = 0 }) (record { 0 = 0 }) (record { 0 = 0 }) 2 Ask) × (sent_to r ≡ 0b111)
unfolding turn_of start_turn start_in start_of every_replica set_bits refusal_in party_after pair_after power_after clear_in note_in message_in sent_to
says_start r p = said (three None) (by_turn _ _ _ p)

-- a keep with a greater stamp: the replica's pair is that one, its slot becomes empty, and kept goes back; the client, the power and the record stay
pub says_keep : (r : Decision) → r ≡ decision_of (three None) newer (Deliver 0)
    → (refusal_in r ≡ 0) × (party_after (three None) r ≡ active_party 1 None) × (pair_after (three None) r ≡ pair_of 2 1 6)
    × (power_after (three None) r ≡ 0b111) × (clear_in r ≡ true) × (note_in r ≡ Nothing)
    × (message_in r ≡ message_of (record { 0 = 0 }) (record { 0 = 0 }) (record { 0 = 0 }) 1 Kept) × (sent_to r ≡ 0b001)
unfolding turn_of slot_turn deliver_turn if_on keep_of has_replica with_replica set_bits raised stamp_less refusal_in party_after pair_after power_after clear_in note_in message_in sent_to
says_keep r p = said (three None) (by_turn _ _ _ p)

-- replica 1 switched off: 0 and 2 are left on, and nothing is sent
pub says_off : (r : Decision) → r ≡ decision_of (three None) None (Off (record { 0 = 1 }))
    → (refusal_in r ≡ 0) × (party_after (three None) r ≡ active_party 1 None) × (pair_after (three None) r ≡ fresh_pair)
    × (power_after (three None) r ≡ 0b101) × (clear_in r ≡ false) × (note_in r ≡ Nothing) × (message_in r ≡ no_message) × (sent_to r ≡ 0)
unfolding turn_of off_turn has_replica without_replica refusal_in party_after pair_after power_after clear_in note_in message_in sent_to
says_off r p = said (three None) (by_turn _ _ _ p)

-- a resend by an idle client is refused 7: it leaves all as it was, sends nothing and records nothing
pub says_7 : (r : Decision) → r ≡ decision_of (three None) None (Resend (record { 0 = 0 }))
    → (refusal_in r ≡ 7) × (party_after (three None) r ≡ active_party 1 None) × (pair_after (three None) r ≡ fresh_pair)
    × (power_after (three None) r ≡ 0b111) × (clear_in r ≡ false) × (note_in r ≡ Nothing) × (message_in r ≡ no_message) × (sent_to r ≡ 0)
unfolding turn_of resend_turn resend_in refusal_in party_after pair_after power_after clear_in note_in message_in sent_to
says_7 r p = said (three None) (by_turn _ _ _ p)
