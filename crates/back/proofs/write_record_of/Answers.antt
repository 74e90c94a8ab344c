-- `back::write_record_of` meets its contract. Assumes nothing.
use Rattle.std.specs.Prelude.{ℕ, List, ◌*◌, ◌≤◌, ◌≡◌, min, length}
use Rattle.std.proofs.Common.{arith, rules}
use Rattle.std.proofs.lemmas.List.Edits.{sets}
use Rattle.std.proofs.Math.Nat.{min-le_right}
use Rattle.rack.specs.declared.Rack.{Rack}
use Rattle.rows.specs.Rows.{rows_of}
use Rattle.back.specs.laws.Lines.{entries_of, n_capped, Lined, lined_long, lined_writes}
use Rattle.back.proofs.write_record_of.Goals as goal

-- as many lines as the rack counts, or as there are places for
lined : (r : Rack) (n : ℕ) (d now : List ℕ) → length r.lines ≡ 2048 → n ≡ min r.count 2048 → length d ≡ 4 * 2048 → now ≡ sets d 0 (rows_of (entries_of n r.lines)) → Lined r n d now
lined r n d now long e room rows =
    let m : min r.count 2048 ≤ 2048 = min-le_right r.count 2048 in
    record {
      few = omega arith;
      all = rw e (n_capped 2048 r.count r.lines long);
      room = omega arith;
      rows = rows;
    }

pub slice_bounds-write_record-end : goal.slice_bounds-write_record-end
slice_bounds-write_record-end c = lined_long (lined c.args.rack c.min-n.result _ _ (search rules) c.min-n.ensures (search rules) c.store_lines.ensures)

pub returns : goal.returns
returns c = lined_writes (lined c.args.rack c.min-n.result _ _ (search rules) c.min-n.ensures (search rules) c.store_lines.ensures) _ _ _ c.write_record.ensures
