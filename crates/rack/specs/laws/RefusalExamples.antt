-- The table of refusals gives each example's answer: shown by computing.
use Rattle.std.specs.Prelude.{refl}
use Rattle.std.specs.Int.Count.{ones}
use Rattle.quorum.specs.Sets.{set_bits, has_replica, with_replica, majority, asks_enough, every_replica, others, without_replica, within}
use Rattle.slots.specs.Free.{count_from}
use Rattle.stamps.specs.Stamp.{stamp_less, raised}
use Rattle.method.specs.Plan.{start_of, ask_of, keep_of, current, chosen, keeps_of, tell_counts, tell_in, tell_at, tell_of, kept_of, deliver_in, deliver_of, copy_of, resend_of, stop_of}
use Rattle.method.specs.Plan.{of_slot, plan_of}
use Rattle.method.specs.Holding.{holds}
use Rattle.method.specs.About.{client_in, client_of}
use Rattle.method.specs.Refusals.{is_start, names_slot, names_client, is_resend, is_delivery, slot_empty, client_stopped, already_open, none_open, replica_off, switched_so}
use Rattle.method.specs.Refusals.{op_spent, number_spent}
use Rattle.rack.specs.Places.{free_at, room_of}
use Rattle.rack.specs.Sound.{all_below, settings_fit, pair_fits, body_fits, message_fits, held_fits, holding_fits, phase_fits, operation_fits, work_fits, owes, owed_by, owed_in}
use Rattle.rack.specs.Sound.{owed, wire_fits, pairs_fit, parties_fit, record_fits, sound_of}
use Rattle.rack.specs.Looking.{in_rack, slot_of, place_in}
use Rattle.rack.specs.Refusals.{record_full, freed, wire_full, applies, least_from, refusal_of}
use Rattle.rack.specs.Run.{fresh_rack}
use Rattle.rack.specs.RefusalExamples.{TableShown}

pub table_shown : TableShown
unfolding ones set_bits has_replica with_replica majority asks_enough every_replica others without_replica within count_from stamp_less raised start_of ask_of keep_of current chosen keeps_of
    tell_counts tell_in tell_at tell_of kept_of deliver_in deliver_of copy_of resend_of stop_of of_slot plan_of holds client_in client_of is_start names_slot names_client is_resend is_delivery
    slot_empty client_stopped already_open none_open replica_off switched_so op_spent number_spent free_at room_of all_below settings_fit pair_fits body_fits message_fits held_fits holding_fits
    phase_fits operation_fits work_fits owes owed_by owed_in owed wire_fits pairs_fit parties_fit record_fits sound_of in_rack slot_of place_in record_full freed wire_full applies least_from
    refusal_of fresh_rack
table_shown =
    record {
      gets_2 = refl;
      not_2 = refl;
      gets_3_client = refl;
      not_3_client = refl;
      gets_3_cell = refl;
      not_3_cell = refl;
      gets_3_slot = refl;
      not_3_slot = refl;
      gets_3_replica = refl;
      not_3_replica = refl;
      gets_3_kind = refl;
      gets_4 = refl;
      not_4 = refl;
      gets_5 = refl;
      not_5 = refl;
      gets_6 = refl;
      not_6 = refl;
      gets_7 = refl;
      not_7 = refl;
      gets_8 = refl;
      not_8 = refl;
      gets_9 = refl;
      not_9 = refl;
      gets_10 = refl;
      not_10 = refl;
      gets_11 = refl;
      not_11 = refl;
      gets_11_owed = refl;
      not_11_owed = refl;
      gets_12_held = refl;
      gets_12_told = refl;
      not_12_held = refl;
      not_12_told = refl;
      not_12_read = refl;
      gets_13 = refl;
      not_13 = refl;
      gets_13_copy = refl;
      not_13_copy = refl;
      gets_13_deliver = refl;
      not_13_deliver = refl;
    }
