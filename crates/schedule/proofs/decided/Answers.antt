use Rattle.std.proofs.Common.{refl, sym, ◌∙◌, arith}
use Rattle.runs.specs.laws.Loop.{not_there, there_slot, going_plan}
use Rattle.schedule.proofs.Laws.{going_of, seen}
use Rattle.schedule.proofs.decided.Goals as goal

pub returns-then-not-in_rack : goal.returns-then-not-in_rack
returns-then-not-in_rack c = sym (not_there _ _ _ _ _ _ _ (going_of _ _ c.requires) _ (sym c.in_rack.ensures ∙ c.if-not-in_rack.true))

pub offset_bounds-rack-slot_of : goal.offset_bounds-rack-slot_of
offset_bounds-rack-slot_of c =
    record { fits = omega (arith, there_slot _ _ _ _ _ _ _ (going_of _ _ c.requires) _ _ (sym c.in_rack.ensures ∙ c.if-not-in_rack.false) c.slot_of.ensures) }

pub bounds-rack-slot_of : goal.bounds-rack-slot_of
bounds-rack-slot_of c = there_slot _ _ _ _ _ _ _ (going_of _ _ c.requires) _ _ (sym c.in_rack.ensures ∙ c.if-not-in_rack.false) c.slot_of.ensures

pub offset_bounds-rack-client_of : goal.offset_bounds-rack-client_of
offset_bounds-rack-client_of c =
    record { fits = omega (arith, (seen _ _ c.requires _ _ _ _ (sym c.in_rack.ensures ∙ c.if-not-in_rack.false) c.slot_of.ensures c.client_of.ensures refl).client) }

pub bounds-rack-client_of : goal.bounds-rack-client_of
bounds-rack-client_of c =
    (seen _ _ c.requires _ _ _ _ (sym c.in_rack.ensures ∙ c.if-not-in_rack.false) c.slot_of.ensures c.client_of.ensures refl).client

pub offset_bounds-rack-place_in : goal.offset_bounds-rack-place_in
offset_bounds-rack-place_in c =
    record {
      fits = omega (arith, (seen _ _ c.requires _ _ _ _ (sym c.in_rack.ensures ∙ c.if-not-in_rack.false) c.slot_of.ensures c.client_of.ensures c.place_in.ensures).pair);
    }

pub bounds-rack-place_in : goal.bounds-rack-place_in
bounds-rack-place_in c =
    (seen _ _ c.requires _ _ _ _ (sym c.in_rack.ensures ∙ c.if-not-in_rack.false) c.slot_of.ensures c.client_of.ensures c.place_in.ensures).pair

pub returns : goal.returns
returns c =
    sym (going_plan _ _ _ _ _ _ _ (going_of _ _ c.requires) _ _ _ _ _ _ (sym c.in_rack.ensures ∙ c.if-not-in_rack.false) c.slot_of.ensures c.client_of.ensures
    c.place_in.ensures c.plan.ensures c.checked.ensures)
