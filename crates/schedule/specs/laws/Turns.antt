-- What a turn of a schedule counts on, and what its entry leaves.
use Rattle.std.specs.Prelude.{◌+◌, ◌≡◌, true, length}
use Rattle.slots.specs.Words.{Maps}
use Rattle.method.specs.declared.Note.{Note}
use Rattle.rack.specs.declared.Rack.{Rack}
use Rattle.rack.specs.Places.{slot_limit, free_at, room_of}
use Rattle.rack.specs.Sound.{sound_of}
use Rattle.rack.specs.Run.{recorded, entries_in}
use Rattle.schedule.specs.declared.Free.{Free}

-- the rack is sound, and these are the free slots of its wire
pub record Ready (r : Rack) (free : Free) : Type 0 where
  pub sound : sound_of r ≡ true
  pub tied : Maps (free_at r.wire) free.map
  pub rooms : free.room ≡ room_of r.wire
  pub wire_long : length r.wire ≡ slot_limit

-- the rack with the entry that an event adds, if any
unfoldable pub noted : Rack → Note → Rack
noted r n =
    record {
      settings = r.settings;
      power = r.power;
      count = r.count + entries_in n;
      parties = r.parties;
      pairs = r.pairs;
      wire = r.wire;
      lines = recorded n r.count r.lines;
    }
