use Rattle.std.proofs.Common.{refl, ap, ◌∙◌, arith}
use Rattle.rack.specs.declared.Rack.{Rack}
use Rattle.runs.specs.laws.Loop.{room_fits, going_send, going_entry, there_slot, shipping_end}
use Rattle.schedule.proofs.Laws.{going_of, seen, inside, turned_noted, ready_next, noted_wire}
use Rattle.schedule.proofs.apply.Goals as goal

pub bounds-rack-j : goal.bounds-rack-j
bounds-rack-j c = there_slot _ _ _ _ _ _ _ (going_of _ _ c.requires.0) _ _ (inside _ _ c.requires.0 _ _ c.requires.1) c.slot_of-j.ensures

pub bounds-rack-j-2 : goal.bounds-rack-j-2
bounds-rack-j-2 c = there_slot _ _ _ _ _ _ _ (going_of _ _ c.requires.0) _ _ (inside _ _ c.requires.0 _ _ c.requires.1) c.slot_of-j.ensures

pub bounds-rack-j-3 : goal.bounds-rack-j-3
bounds-rack-j-3 c = there_slot _ _ _ _ _ _ _ (going_of _ _ c.requires.0) _ _ (inside _ _ c.requires.0 _ _ c.requires.1) c.slot_of-j.ensures

pub offset_bounds-rack-j : goal.offset_bounds-rack-j
offset_bounds-rack-j c =
    record { fits = omega (arith, there_slot _ _ _ _ _ _ _ (going_of _ _ c.requires.0) _ _ (inside _ _ c.requires.0 _ _ c.requires.1) c.slot_of-j.ensures) }

pub offset_bounds-rack-j-2 : goal.offset_bounds-rack-j-2
offset_bounds-rack-j-2 c =
    record { fits = omega (arith, there_slot _ _ _ _ _ _ _ (going_of _ _ c.requires.0) _ _ (inside _ _ c.requires.0 _ _ c.requires.1) c.slot_of-j.ensures) }

pub offset_bounds-rack-j-3 : goal.offset_bounds-rack-j-3
offset_bounds-rack-j-3 c =
    record { fits = omega (arith, there_slot _ _ _ _ _ _ _ (going_of _ _ c.requires.0) _ _ (inside _ _ c.requires.0 _ _ c.requires.1) c.slot_of-j.ensures) }

pub bounds-rack-client_of : goal.bounds-rack-client_of
bounds-rack-client_of c =
    (seen _ _ c.requires.0 _ _ _ _ (inside _ _ c.requires.0 _ _ c.requires.1) c.slot_of-j.ensures c.client_of.ensures refl).client

pub offset_bounds-rack-client_of : goal.offset_bounds-rack-client_of
offset_bounds-rack-client_of c =
    record { fits = omega (arith, (seen _ _ c.requires.0 _ _ _ _ (inside _ _ c.requires.0 _ _ c.requires.1) c.slot_of-j.ensures c.client_of.ensures refl).client) }

pub bounds-rack-place_in : goal.bounds-rack-place_in
bounds-rack-place_in c =
    (seen _ _ c.requires.0 _ _ _ _ (inside _ _ c.requires.0 _ _ c.requires.1) c.slot_of-j.ensures c.client_of.ensures c.place_in.ensures).pair

pub offset_bounds-rack-place_in : goal.offset_bounds-rack-place_in
offset_bounds-rack-place_in c =
    record {
      fits = omega (arith, (seen _ _ c.requires.0 _ _ _ _ (inside _ _ c.requires.0 _ _ c.requires.1) c.slot_of-j.ensures c.client_of.ensures c.place_in.ensures).pair);
    }

pub room_after-free-requires : goal.room_after-free-requires
room_after-free-requires c = room_fits _ _ _ _ _ _ _ (going_of _ _ c.requires.0) _ _ c.requires.1

pub send-requires : goal.send-requires
send-requires c =
    going_send _ _ _ _ _ _ _ (going_of _ _ c.requires.0) _ _ _ _ _ c.requires.1 c.slot_of-j.ensures c.slot_after.ensures c.mark.ensures

pub note-requires : goal.note-requires
note-requires c =
    omega (arith, going_entry _ _ _ _ _ _ _ (going_of _ _ c.requires.0) _ _ c.requires.1, ap (λ (q : Rack). q.count) c.send.ensures.same)

pub returns : goal.returns
returns c =
    let e = c.note.ensures ∙ turned_noted _ _ _ _ _ _ _ _ c.slot_of-j.ensures c.client_of.ensures c.place_in.ensures c.slot_after.ensures
    (shipping_end _ _ _ _ _ _ c.send.ensures refl) in (
      ready_next _ _ _ c.requires.1 _ _ e _ c.requires.0 _
          (ap (λ (q : Rack). q.wire) c.note.ensures ∙ noted_wire _ _) c.send.ensures.send.tied c.room_after-free.ensures,
      e,
    )
