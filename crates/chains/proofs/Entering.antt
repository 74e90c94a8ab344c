-- One entry more in the table.
use Prim.Native.Nat.{ℕ, ◌+◌, ◌-◌, ◌≤◌, ◌<◌}
use mathlib.Core.Path.{◌≡◌, refl, sym, ap, ◌∙◌, subst}
use mathlib.Core.Logic.{◌⊎◌, inl, inr, ⊎_elim}
use mathlib.Core.Bool.{true, false, true≢false}
use mathlib.Core.List.{List}
use native.Mathlib.Omega.{arith}
use native.Mathlib.Decide.{ℕ_discrete}
use lib.ListN.{get_or, set, length-set}
use lib.Seq.{get_or-set_same, get_or-set_other}
use Rattle.record.specs.Record.{entry_limit}
use Rattle.std.specs.Prelude.{Option, Some, None}
use Rattle.std.specs.Option.{is_some}
use Rattle.chains.specs.Chains.{Again, NoneAgain}
use Rattle.chains.specs.Table.{chain_count, home_at, Homed, Latest, Chained, Empty, Found, Stays, Linking}
use Rattle.chains.specs.laws.Entering.{Decides, Only, Entered}

-- a test's two answers
pub tells_yes : {P : Type 0} → P → Decides P true
tells_yes x = record { yes = λ _. x; no = λ e. absurd (true≢false e) }

pub tells_no : {P : Type 0} → (P → ⊥) → Decides P false
tells_no n = record { yes = λ e. absurd (true≢false (sym e)); no = λ _. n }

-- below n + 1 is n, or below n
upper : {n p : ℕ} → p < n + 1 → (p ≡ n) ⊎ (p < n)
upper {n} {p} l = elim (ℕ_discrete p n) [ yes e ↦ inl e | no ne ↦ inr (omega (arith, ne)) ]

module _ {kinds cells values : List ℕ} where
  -- the table before the first entry
  pub chained_none : {head next : List ℕ} → Empty head next → Chained kinds cells values 0 head next
  chained_none t = record {
    few = omega arith;
    head_long = t.head_long;
    next_long = t.next_long;
    heads = λ h small. record { one = λ l. absurd (omega (arith, t.no_heads h)); last = λ p q. absurd (let a = q.below in omega arith) };
    nexts = λ p l. absurd (omega arith);
  }

  -- a link stays the latest past an entry that is not of its chain
  latest_on : {n h link : ℕ} → Latest kinds cells values n h link → (get_or kinds n 0 ≡ 1 → home_at cells values n ≡ h → ⊥) → Latest kinds cells values (n + 1) h link
  latest_on {n} {h} {link} t other = record {
    one = λ l. (let q = t.one l in record { below = (let a = q.below in omega arith); write = q.write; home = q.home });
    last = λ p q. ⊎_elim
        (λ e. absurd (other (ap (λ x. get_or kinds x 0) (sym e) ∙ q.write) (ap (home_at cells values) (sym e) ∙ q.home)))
        (λ l. t.last p (record { below = l; write = q.write; home = q.home })) (upper q.below);
  }

  module _ {n : ℕ} {head next : List ℕ} (t : Chained kinds cells values n head next) (room : n < entry_limit) where
    -- an entry that is no write
    pub chained_pass : (get_or kinds n 0 ≡ 1 → ⊥) → Chained kinds cells values (n + 1) head next
    chained_pass not = record {
      few = omega arith;
      head_long = t.head_long;
      next_long = t.next_long;
      heads = λ h small. latest_on (t.heads h small) (λ w _. not w);
      nexts = λ p l w. ⊎_elim (λ e. absurd (not (ap (λ x. get_or kinds x 0) (sym e) ∙ w))) (λ b. t.nexts p b w) (upper l);
    }

    pub pass_only : Only kinds n next next
    pass_only = record { same = λ q h. refl }

    module _ (write : get_or kinds n 0 ≡ 1) {b : ℕ} (eb : b ≡ home_at cells values n) (small : b < chain_count) where
      heads_on : (h : ℕ) → h < chain_count → Latest kinds cells values (n + 1) h (get_or (set head b (n + 1)) h 0)
      heads_on h sh = elim (ℕ_discrete h b) [
        | yes e ↦ (let q : get_or (set head b (n + 1)) h 0 ≡ n + 1 =
            ap (λ x. get_or (set head b (n + 1)) x 0) e ∙ get_or-set_same head b (n + 1) 0 (let a = t.head_long in omega arith) in
            subst (Latest kinds cells values (n + 1) h) (sym q) (record {
              one = λ _. (let z : n + 1 - 1 ≡ n = omega arith in
                  subst (Homed kinds cells values (n + 1) h) (sym z) (record { below = omega arith; write = write; home = sym (e ∙ eb) }));
              last = λ p w. w.below;
            }))
        | no ne ↦ subst (Latest kinds cells values (n + 1) h) (sym (get_or-set_other head b h (n + 1) 0 ne))
            (latest_on (t.heads h sh) (λ _ e. ne (sym e ∙ sym eb)))
      ]

      nexts_on : (p : ℕ) → p < n + 1 → get_or kinds p 0 ≡ 1 → Latest kinds cells values p (home_at cells values p) (get_or (set next n (get_or head b 0)) p 0)
      nexts_on p l w = ⊎_elim
          (λ e. let q : get_or (set next n (get_or head b 0)) n 0 ≡ get_or head b 0 = get_or-set_same next n (get_or head b 0) 0 (let a = t.next_long in omega arith) in
          subst (λ x. Latest kinds cells values x (home_at cells values x) (get_or (set next n (get_or head b 0)) x 0)) (sym e)
          (subst (Latest kinds cells values n (home_at cells values n)) (sym q) (subst (λ x. Latest kinds cells values n x (get_or head b 0)) eb (t.heads b small))))
          (λ o. subst (Latest kinds cells values p (home_at cells values p)) (sym (get_or-set_other next n p (get_or head b 0) 0 (λ e. omega arith))) (t.nexts p o w))
          (upper l)

      -- a write, in front of its chain
      pub chained_more : Chained kinds cells values (n + 1) (set head b (n + 1)) (set next n (get_or head b 0))
      chained_more = record {
        few = omega arith;
        head_long = length-set head b (n + 1) ∙ t.head_long;
        next_long = length-set next n (get_or head b 0) ∙ t.next_long;
        heads = heads_on;
        nexts = nexts_on;
      }

      pub next_only : Only kinds n next (set next n (get_or head b 0))
      next_only = record { same = λ q h. get_or-set_other next n q (get_or head b 0) 0 (λ e. h e write) }

  -- whether a write asks again, by what the search for it gave
  pub again_told : {p : ℕ} (r : Option ℕ) → get_or kinds p 0 ≡ 1 → (get_or values p 0 ≡ 0 → ⊥) → Found kinds cells values p (get_or cells p 0) (get_or values p 0) r
      → Decides (Again kinds cells values p) (is_some r)
  again_told (Some w) k some f = let (l, a) = f.at w refl in tells_yes (record { write = k; again = inr (w, (l, a)) })
  again_told None k some f = tells_no (λ a. ⊎_elim some (λ (q, (l, b)). f.none refl q l b) a.again)

  -- none asks again past an entry that does not
  pub none_more : {n : ℕ} → (Again kinds cells values n → ⊥) → NoneAgain kinds cells values n → NoneAgain kinds cells values (n + 1)
  none_more not none p l a = ⊎_elim (λ e. not (subst (Again kinds cells values) e a)) (λ b. none p b a) (upper l)

pub none_yet : (kinds cells values : List ℕ) → NoneAgain kinds cells values 0
none_yet kinds cells values p l a = omega arith

module _ {kinds cells values : List ℕ} {was head next : List ℕ} where
  pub is_entered : {before : List ℕ} {p : ℕ} → Chained kinds cells values (p + 1) head next → (Again kinds cells values p → ⊥)
      → Only kinds p was next → Entered kinds cells values p before was head next true
  is_entered t n o = record {
    entered = λ _. (t, n);
    others = λ _. o;
    again = λ e. absurd (true≢false e);
    heads = λ e. absurd (true≢false e);
    nexts = λ e. absurd (true≢false e);
  }

  pub links_all : {n p : ℕ} → p ≤ n → n ≤ p → Chained kinds cells values p head next → NoneAgain kinds cells values p → Stays kinds p was next
      → Linking kinds cells values n was head next None
  links_all {n} {p} a b t none stays =
      let e : p ≡ n = omega arith in record {
        all = λ _. subst (λ x. NoneAgain kinds cells values x × Chained kinds cells values x head next) e (none, t);
        all_stays = λ _. subst (λ x. Stays kinds x was next) e stays;
        again = λ q f. (let z : ◌≡◌ {A = ℕ} 0 1 = cc in absurd (omega arith));
        begun = λ q f. (let z : ◌≡◌ {A = ℕ} 0 1 = cc in absurd (omega arith));
        begun_stays = λ q f. (let z : ◌≡◌ {A = ℕ} 0 1 = cc in absurd (omega arith));
      }

  pub links_again : {n p : ℕ} → p < n → Again kinds cells values p → NoneAgain kinds cells values p → Chained kinds cells values p head next
      → Stays kinds p was next → Linking kinds cells values n was head next (Some p)
  links_again {n} {p} l a none t stays = record {
    all = λ f. (let z : ◌≡◌ {A = ℕ} 0 1 = cc in absurd (omega arith));
    all_stays = λ f. (let z : ◌≡◌ {A = ℕ} 0 1 = cc in absurd (omega arith));
    again = λ q f. (let e : p ≡ q = cc in subst (λ x. (x < n) × (Again kinds cells values x × NoneAgain kinds cells values x)) e (l, (a, none)));
    begun = λ q f. (let e : p ≡ q = cc in subst (λ x. Chained kinds cells values x head next) e t);
    begun_stays = λ q f. (let e : p ≡ q = cc in subst (λ x. Stays kinds x was next) e stays);
  }

-- an entry that asks again leaves all as it was
pub not_entered : {kinds cells values head next : List ℕ} {p : ℕ} → Again kinds cells values p → Entered kinds cells values p head next head next false
not_entered a = record {
  entered = λ e. absurd (true≢false (sym e));
  others = λ e. absurd (true≢false (sym e));
  again = λ _. a;
  heads = λ _. refl;
  nexts = λ _. refl;
}

-- next stays, one entry further
pub stays_on : {kinds was next more : List ℕ} {p : ℕ} → Stays kinds p was next → Only kinds p next more → Stays kinds (p + 1) was more
stays_on {kinds} s o = record {
  same = λ q h. o.same q (λ e w. h (omega arith) (ap (λ x. get_or kinds x 0) e ∙ w)) ∙ s.same q (λ l w. h (omega arith) w);
}

-- at first all stays
pub stays_none : (kinds was : List ℕ) → Stays kinds 0 was was
stays_none kinds was = record { same = λ q h. refl }
