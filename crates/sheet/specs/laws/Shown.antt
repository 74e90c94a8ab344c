-- The bench sheet's table holds: each line by citing what is shown already, or by computing.
use Rattle.std.specs.Prelude.{ℕ, ◌≡◌, refl, true, List, []}
use Rattle.std.proofs.Math.Path.{ap}
use Rattle.std.proofs.Common.{◌∙◌}
use Rattle.std.specs.Int.Count.{ones}
use Rattle.number.specs.Number.{groups_of, taken, last_of, value_of, number_of, number_at, and_then}
use Rattle.number.specs.Value.{alternating_of, signed_of}
use Rattle.number.specs.laws.Sheet.{of_127, of_128}
use Rattle.record.specs.declared.Entry.{Entry}
use Rattle.record.specs.Entry.{entry_bytes, up_to, fields_at, entry_at}
use Rattle.record.specs.Record.{entries, fault_after, standing_after, before, unless_refused, enter, held_from, bytes_held, all_of, bytes_of}
use Rattle.record.specs.laws.Sheet.{sheet_reads}
use Rattle.law.specs.Operation.{note, notes, operations}
use Rattle.law.specs.Part.{part_from, part_of}
use Rattle.law.specs.laws.Decide.{Yes, No, by_yes, by_no}
use Rattle.law.proofs.theorems.Search.{dec_lawful}
use Rattle.verdict.specs.declared.Verdict.{Verdict}
use Rattle.verdict.specs.Verdict.{asks_for, asked_among, repeats, distinct_from, distinct, taken_for, Judges}
use Rattle.verdict.specs.laws.Bench.{all_bytes, no_other, lowest_2, twelve_judged, twelve_verdict, stale_judged, stale_verdict}
use Rattle.quorum.specs.Sets.{set_bits, has_replica, with_replica, majority, asks_enough, keeps_enough, every_replica, within, members_from}
use Rattle.slots.specs.Free.{count_from, first_from}
use Rattle.stamps.specs.Stamp.{stamp_less, raised}
use Rattle.method.specs.Plan.{start_of, ask_of, keep_of, current, chosen, keeps_of, tell_counts, tell_in, tell_at, tell_of, kept_counts, kept_in, kept_at, kept_of, deliver_in, deliver_of}
use Rattle.method.specs.Plan.{of_slot}
use Rattle.method.specs.Plan.{plan_of}
use Rattle.method.specs.Holding.{holds, last_entry}
use Rattle.method.specs.Refusals.{is_unknown, is_start, names_slot, names_client, is_resend, is_delivery, slot_empty, client_stopped, already_open, none_open, replica_off, switched_so}
use Rattle.method.specs.Refusals.{op_spent, number_spent}
use Rattle.rack.specs.Places.{free_at, room_of, sent_of, record_of}
use Rattle.rack.specs.Sound.{all_below, settings_fit, pair_fits, body_fits, message_fits, held_fits, holding_fits, phase_fits, operation_fits, work_fits, owes, owed_by, owed_in, owed}
use Rattle.rack.specs.Sound.{wire_fits}
use Rattle.rack.specs.Sound.{pairs_fit, parties_fit, record_fits, sound_of}
use Rattle.method.specs.About.{client_in, client_of}
use Rattle.rack.specs.Run.{fresh_rack, byte, event_of, addressed, cleared, recorded, entries_in, applied_of, turn, run_from, run_of}
use Rattle.rack.specs.Refusals.{record_full, freed, wire_full, applies, least_from, refusal_of, decided}
use Rattle.rack.specs.Looking.{in_rack, slot_of, place_in}
use Rattle.rack.specs.Counts.{sent_by, delivered_by, counted, count_over}
use Rattle.sheet.specs.Sheet.{BytesSay, lawful, unlawful, Sheet}

-- how a record's line is shown: what its bytes hold is computed, and so is whether there is a lawful order
module _ {bytes : List ℕ} {es : List Entry} (held : bytes_held bytes ≡ entries es) (written : bytes_of es ≡ bytes) (small : all_bytes bytes ≡ true)
    (fresh : distinct (entries es) ≡ entries es) where
  taken_for_lem : taken_for bytes ≡ entries es
  unfolding taken_for
  taken_for_lem = ap distinct held ∙ fresh

  says : (v : Verdict) → Judges (taken_for bytes) v → BytesSay bytes es v
  says v right = record { held = held; written = written; right = right; only = no_other bytes small v right }

  lawful_line_lem : Yes (dec_lawful (operations es)) → BytesSay bytes es lawful
  lawful_line_lem t = says lawful (es, (taken_for_lem, by_yes (dec_lawful (operations es)) t))

  unlawful_line : part_of 0 es ≡ [] → part_of 1 es ≡ [] → No (dec_lawful (operations (part_of 2 es))) → BytesSay bytes es (unlawful 2)
  unlawful_line p q t = says (unlawful 2) (es, (taken_for_lem, lowest_2 es p q (by_no (dec_lawful (operations (part_of 2 es))) t)))

pub sheet : Sheet
unfolding groups_of alternating_of bytes_held held_from all_of distinct distinct_from all_bytes operations notes dec_lawful entry_bytes enter unless_refused before fault_after standing_after entry_at
    fields_at up_to and_then number_at number_of taken last_of value_of signed_of repeats asked_among asks_for note part_of part_from set_bits has_replica with_replica majority asks_enough
    keeps_enough every_replica within members_from ones count_from first_from stamp_less raised start_of ask_of keep_of current chosen keeps_of holds tell_counts tell_in tell_at
    tell_of last_entry kept_counts kept_in kept_at kept_of deliver_in deliver_of of_slot plan_of is_unknown is_start names_slot names_client is_resend is_delivery slot_empty client_stopped
    already_open none_open replica_off switched_so op_spent number_spent free_at room_of sent_of all_below settings_fit pair_fits body_fits message_fits held_fits holding_fits phase_fits
    operation_fits work_fits owes owed_by owed_in owed wire_fits pairs_fit parties_fit record_fits sound_of fresh_rack byte event_of in_rack slot_of client_in place_in client_of record_full freed
    wire_full applies least_from refusal_of decided addressed cleared recorded entries_in applied_of turn run_from run_of sent_by delivered_by counted count_over record_of
sheet =
    record {
      number_127 = of_127;
      number_128 = of_128;
      number_300 = refl;
      number_largest = refl;
      value_minus_1 = refl;
      value_64 = refl;
      value_minus_64 = refl;
      value_lowest = refl;
      no_bytes = lawful_line_lem refl refl refl refl tt;
      twelve = record { held = sheet_reads; written = refl; right = twelve_judged; only = twelve_verdict };
      twelve_bytes = refl;
      four_entries = refl;
      last_00 = record { held = refl; written = refl; right = stale_judged; only = stale_verdict };
      five_then_0 = unlawful_line refl refl refl refl refl refl tt;
      five_then_0_done = unlawful_line refl refl refl refl refl refl tt;
      zero_then_5 = lawful_line_lem refl refl refl refl tt;
      zero_then_5_done = lawful_line_lem refl refl refl refl tt;
      early_5 = unlawful_line refl refl refl refl refl refl tt;
      unread = lawful_line_lem refl refl refl refl tt;
      asks = refl;
      keeps = refl;
      all = refl;
      none_refused = refl;
      idle = refl;
      both_entries = refl;
      left = refl;
      free = refl;
      first = refl;
      second = refl;
      third = refl;
      sent = refl;
      delivered = refl;
    }
