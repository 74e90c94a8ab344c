-- The sheet's line on what a write costs, shown of the definitions.
use Rattle.std.specs.Prelude.{refl}
use Rattle.std.specs.Int.Count.{ones}
use Rattle.number.specs.Value.{signed_of}
use Rattle.quorum.specs.Sets.{set_bits, has_replica, with_replica, majority, asks_enough, keeps_enough, every_replica, within, members_from}
use Rattle.slots.specs.Free.{count_from, first_from}
use Rattle.stamps.specs.Stamp.{stamp_less, raised}
use Rattle.method.specs.Plan.{start_of, ask_of, keep_of, current, chosen, keeps_of, tell_counts, tell_in, tell_at, tell_of, kept_counts, kept_in, kept_at, kept_of, deliver_in, deliver_of}
use Rattle.method.specs.Plan.{of_slot}
use Rattle.method.specs.Plan.{plan_of}
use Rattle.method.specs.Holding.{holds, last_entry}
use Rattle.method.specs.Refusals.{is_unknown, is_start, names_slot, names_client, is_resend, is_delivery, slot_empty, client_stopped, already_open, none_open, replica_off, switched_so}
use Rattle.method.specs.Refusals.{op_spent, number_spent}
use Rattle.rack.specs.Places.{free_at, room_of, sent_of, record_of}
use Rattle.rack.specs.Sound.{all_below, settings_fit, pair_fits, body_fits, message_fits, held_fits, holding_fits, phase_fits, operation_fits, work_fits, owes, owed_by, owed_in, owed}
use Rattle.rack.specs.Sound.{wire_fits}
use Rattle.rack.specs.Sound.{pairs_fit, parties_fit, record_fits, sound_of}
use Rattle.method.specs.About.{client_in, client_of}
use Rattle.rack.specs.Run.{fresh_rack, byte, event_of, addressed, cleared, recorded, entries_in, applied_of, turn, run_from, run_of}
use Rattle.rack.specs.Refusals.{record_full, freed, wire_full, applies, least_from, refusal_of, decided}
use Rattle.rack.specs.Looking.{in_rack, slot_of, place_in}
use Rattle.rack.specs.Counts.{sent_by, delivered_by, counted, count_over}
use Rattle.counts.specs.Counts.{in_use, copied_by, lost_by, total_of, is_request, request_of, requests_by, ends_by, ends_of}
use Rattle.counts.specs.Sheet.{CountLine}

pub count_line : CountLine
unfolding in_use copied_by lost_by total_of is_request request_of requests_by ends_by ends_of record_of set_bits has_replica with_replica majority asks_enough keeps_enough every_replica within
    members_from ones count_from first_from stamp_less raised start_of ask_of keep_of current chosen keeps_of holds tell_counts tell_in tell_at tell_of last_entry kept_counts kept_in kept_at
    kept_of deliver_in deliver_of of_slot plan_of is_unknown is_start names_slot names_client is_resend is_delivery slot_empty client_stopped already_open none_open replica_off switched_so op_spent
    number_spent free_at room_of sent_of all_below settings_fit pair_fits body_fits message_fits held_fits holding_fits phase_fits operation_fits work_fits owes owed_by owed_in owed wire_fits
    pairs_fit parties_fit record_fits sound_of fresh_rack byte event_of in_rack slot_of client_in place_in client_of record_full freed wire_full applies least_from refusal_of decided addressed
    cleared recorded entries_in applied_of turn run_from run_of signed_of sent_by delivered_by counted count_over
count_line = record { tally = refl; used = refl; ended = refl; requests = refl }
