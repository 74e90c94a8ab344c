-- The search down a chain of the table: every write that asks what is looked for is below the link, and the link leads to a write of the chain.
use Prim.Native.Nat.{ℕ, ◌-◌, ◌≤◌, ◌<◌}
use mathlib.Core.Path.{◌≡◌, refl, sym, ap, ap₂, ◌∙◌, subst}
use mathlib.Core.List.{List}
use native.Mathlib.Omega.{arith}
use native.Mathlib.Decide.{dec_lt}
use lib.ListN.{get_or}
use Rattle.record.specs.Record.{entry_limit}
use Rattle.std.specs.Prelude.{Some, None}
use Rattle.chains.specs.Chains.{Asks}
use Rattle.chains.specs.Table.{chain_count, home_of, Homed, Latest, Chained, Found}

pub record Walk (kinds cells values : List ℕ) (n : ℕ) (head next : List ℕ) (cell value link : ℕ) : Type 0 where
  pub table : Chained kinds cells values n head next
  pub ahead : (p : ℕ) → p < n → Asks kinds cells values p cell value → p < link
  pub on : 0 < link → Homed kinds cells values n (home_of cell value) (link - 1)

-- what is looked for is in its chain
asks_homed : {kinds cells values : List ℕ} {cell value m h p : ℕ} → h ≡ home_of cell value → p < m → Asks kinds cells values p cell value →
    Homed kinds cells values m h p
asks_homed e l a = record { below = l; write = a.write; home = ap₂ home_of a.cell a.value ∙ sym e }

module _ {kinds cells values : List ℕ} {n : ℕ} {head next : List ℕ} {cell value : ℕ} where
  -- the search begins at the chain's head
  pub walk_start : {h link : ℕ} → Chained kinds cells values n head next → h ≡ home_of cell value → h < chain_count → link ≡ get_or head h 0 →
      Walk kinds cells values n head next cell value link
  walk_start {h} {link} t eh small el =
      let top = subst (Latest kinds cells values n h) (sym el) (t.heads h small) in record {
        table = t;
        ahead = λ p l a. top.last p (asks_homed eh l a);
        on = λ l. subst (λ x. Homed kinds cells values n x (link - 1)) eh (top.one l);
      }

  module _ {link : ℕ} (w : Walk kinds cells values n head next cell value link) (some : 0 < link) where
    pub walk_fits : link - 1 < entry_limit
    walk_fits = let a = (w.on some).below in let b = w.table.few in omega arith

    -- the next link of the chain leads to its greatest write before this one
    further : {more : ℕ} → more ≡ get_or next (link - 1) 0 → Latest kinds cells values (link - 1) (home_of cell value) more
    further e = let h = w.on some in
        subst (Latest kinds cells values (link - 1) (home_of cell value)) (sym e)
        (subst (λ x. Latest kinds cells values (link - 1) x (get_or next (link - 1) 0)) h.home (w.table.nexts (link - 1) h.below h.write))

    pub walk_down : {more : ℕ} → more ≡ get_or next (link - 1) 0 → more < link
    walk_down {more} e = elim (dec_lt 0 more) [ yes l ↦ (let q = ((further e).one l).below in omega arith) | no z ↦ omega (arith, z) ]

    -- a write that asks another thing is passed
    pub walk_on : {more : ℕ} → more ≡ get_or next (link - 1) 0 → ((get_or cells (link - 1) 0 ≡ cell) × (get_or values (link - 1) 0 ≡ value) → ⊥) →
        Walk kinds cells values n head next cell value more
    walk_on {more} e other = record {
      table = w.table;
      ahead = λ p l a.
          (let b = w.ahead p l a in
          let d : p ≡ link - 1 → ⊥ = λ q. other (ap (λ x. get_or cells x 0) (sym q) ∙ a.cell, ap (λ x. get_or values x 0) (sym q) ∙ a.value) in
          (further e).last p (asks_homed refl (omega (arith, d)) a));
      on = λ l. (let h = (further e).one l in let b = (w.on some).below in
          record { below = (let q = h.below in omega arith); write = h.write; home = h.home });
    }

    pub walk_found : (get_or cells (link - 1) 0 ≡ cell) × (get_or values (link - 1) 0 ≡ value) → Found kinds cells values n cell value (Some (link - 1))
    walk_found (ec, ev) = record {
      at = λ x e. (let q : link - 1 ≡ x = cc in let h = w.on some in
          subst (λ y. (y < n) × Asks kinds cells values y cell value) q (h.below, record { write = h.write; cell = ec; value = ev }));
      latest = λ x e p l b a. (let q : link - 1 ≡ x = cc in omega (arith, w.ahead p b a));
      none = λ e. (let z : ◌≡◌ {A = ℕ} 0 1 = cc in absurd (omega arith));
    }

  -- at the end of the chain nothing is left
  pub walk_none : {link : ℕ} → Walk kinds cells values n head next cell value link → link ≤ 0 → Found kinds cells values n cell value None
  walk_none w e = record {
    at = λ x q. (let z : ◌≡◌ {A = ℕ} 0 1 = cc in absurd (omega arith));
    latest = λ x q. (let z : ◌≡◌ {A = ℕ} 0 1 = cc in absurd (omega arith));
    none = λ _ p l a. (let b = w.ahead p l a in omega arith);
  }
