-- The bench sheet: one table of its starred lines, in the paper's order, each a fact of the definitions. `sheet` of Shown.antt shows them all. The sheet's
-- other lines are run and compared by crate bench.
use Rattle.std.specs.Prelude.{ℕ, ◌≡◌, List, [], ◌∷◌, ◌++◌, length, pos, negsuc, None, Some, Option}
use Rattle.method.specs.declared.Message.{Message}
use Rattle.number.specs.Number.{number_bytes}
use Rattle.number.specs.Value.{alternating_of}
use Rattle.record.specs.declared.Entry.{Entry}
use Rattle.record.specs.Record.{entries, bytes_held, bytes_of}
use Rattle.law.specs.Examples.{reads, writes, told_by, done_by}
use Rattle.verdict.specs.declared.Verdict.{Verdict}
use Rattle.verdict.specs.declared.Verdict.TheVariants.{Lawful as says_lawful, Unlawful as says_unlawful}
use Rattle.verdict.specs.Verdict.{taken_for, Judges}
use Rattle.stamps.specs.declared.Pair.{Pair}
use Rattle.method.specs.declared.Body.{Body}
use Rattle.method.specs.declared.Body.TheVariants.{Ask, Keep}
use Rattle.rack.specs.declared.Rack.{Rack}
use Rattle.rack.specs.declared.Ran.{Ran}
use Rattle.stamps.specs.Stamp.{fresh_pair}
use Rattle.method.specs.Plan.{message_of}
use Rattle.rack.specs.Places.{of_sizes, party_at, pair_at, held_at, room_of, record_of}
use Rattle.rack.specs.Run.{fresh_rack, run_of}
use Rattle.rack.specs.Counts.{sent_by, delivered_by, count_over}

-- ---- the words of the table

-- What a line says of a record: its bytes are those of these entries, read and written, and this verdict on them is right, and no other.
pub record BytesSay (bytes : List ℕ) (es : List Entry) (v : Verdict) : Type 0 where
  pub held : bytes_held bytes ≡ entries es
  pub written : bytes_of es ≡ bytes
  pub right : Judges (taken_for bytes) v
  pub only : (w : Verdict) → Judges (taken_for bytes) w → w ≡ v

-- the judge finds every cell lawful
abbrev pub lawful : Verdict
lawful = says_lawful

-- the judge names the lowest unlawful cell
abbrev pub unlawful : ℕ → Verdict
unlawful cell = says_unlawful (record { 0 = cell })

-- an event in four words: client 0 starts a write of 9, which stands as 18, to cell 0
abbrev start : List ℕ
start = 1 ∷ 0 ∷ 0 ∷ 18 ∷ []

-- an event in four words: a slot is delivered
abbrev deliver : ℕ → List ℕ
deliver slot = 2 ∷ slot ∷ 0 ∷ 0 ∷ []

-- deliver 0, 1, 0, 1
abbrev four : List ℕ
four = deliver 0 ++ (deliver 1 ++ (deliver 0 ++ deliver 1))

-- three replicas: the rack after the start and these events
abbrev three : List ℕ → Ran
three events = run_of (fresh_rack (of_sizes 3 1 1)) 9 (start ++ events)

-- a message of client 0's operation 1 on cell 0, to or from replica k
abbrev message : ℕ → Body → Option Message
message k body = Some (message_of (record { 0 = 0 }) (record { 0 = k }) (record { 0 = 0 }) 1 body)

-- stamp (1, 0) and value 9
abbrev nine : Pair
nine = record { stamp = record { number = 1; rank = 0 }; value = pos 9 }

-- the first five slots
abbrev slots : Rack → List (Option Message)
slots r = held_at r 0 ∷ held_at r 1 ∷ held_at r 2 ∷ held_at r 3 ∷ held_at r 4 ∷ []

-- ---- the table

-- the starred lines, in the paper's words and order
pub record Sheet : Type 0 where
  -- * 127 is 7F, 128 is 80 01, 300 is AC 02, 4,294,967,295 is FF FF FF FF 0F.
  pub number_127 : number_bytes 127 ≡ 0x7F ∷ []
  pub number_128 : number_bytes 128 ≡ 0x80 ∷ 0x01 ∷ []
  pub number_300 : number_bytes 300 ≡ 0xAC ∷ 0x02 ∷ []
  pub number_largest : number_bytes 4294967295 ≡ 0xFF ∷ 0xFF ∷ 0xFF ∷ 0xFF ∷ 0x0F ∷ []
  -- * Value -1 is 01, 64 is 80 01, -64 is 7F, -2,147,483,648 is FF FF FF FF 0F. (`negsuc n` is -n - 1.)
  pub value_minus_1 : number_bytes (alternating_of (negsuc 0)) ≡ 0x01 ∷ []
  pub value_64 : number_bytes (alternating_of (pos 64)) ≡ 0x80 ∷ 0x01 ∷ []
  pub value_minus_64 : number_bytes (alternating_of (negsuc 63)) ≡ 0x7F ∷ []
  pub value_lowest : number_bytes (alternating_of (negsuc 2147483647)) ≡ 0xFF ∷ 0xFF ∷ 0xFF ∷ 0xFF ∷ 0x0F ∷ []
  -- * No bytes: lawful.
  pub no_bytes : BytesSay [] [] lawful
  -- * 01 00 02 0A 03 00 00 01 02 02 01 0A: lawful, 12 bytes, 4 entries. Client 0 writes 5 to cell 2, client 1 reads 5.
  pub twelve : BytesSay
      (0x01 ∷ 0x00 ∷ 0x02 ∷ 0x0A ∷ 0x03 ∷ 0x00 ∷ 0x00 ∷ 0x01 ∷ 0x02 ∷ 0x02 ∷ 0x01 ∷ 0x0A ∷ [])
      (writes 0 2 (pos 5) ∷ done_by 0 ∷ reads 1 2 ∷ told_by 1 (pos 5) ∷ [])
      lawful
  pub twelve_bytes : length {A = ℕ} (0x01 ∷ 0x00 ∷ 0x02 ∷ 0x0A ∷ 0x03 ∷ 0x00 ∷ 0x00 ∷ 0x01 ∷ 0x02 ∷ 0x02 ∷ 0x01 ∷ 0x0A ∷ []) ≡ 12
  pub four_entries : length (writes 0 2 (pos 5) ∷ done_by 0 ∷ reads 1 2 ∷ told_by 1 (pos 5) ∷ []) ≡ 4
  -- * The same with last byte 00: unlawful cell 2.
  pub last_00 : BytesSay
      (0x01 ∷ 0x00 ∷ 0x02 ∷ 0x0A ∷ 0x03 ∷ 0x00 ∷ 0x00 ∷ 0x01 ∷ 0x02 ∷ 0x02 ∷ 0x01 ∷ 0x00 ∷ [])
      (writes 0 2 (pos 5) ∷ done_by 0 ∷ reads 1 2 ∷ told_by 1 (pos 0) ∷ [])
      (unlawful 2)
  -- * While a write of 5 is open, client 1 reads 5 and then 0: unlawful. 0 and then 5: lawful. (The write stays open, or is done_by after them.)
  pub five_then_0 : BytesSay
      (0x01 ∷ 0x00 ∷ 0x02 ∷ 0x0A ∷ 0x00 ∷ 0x01 ∷ 0x02 ∷ 0x02 ∷ 0x01 ∷ 0x0A ∷ 0x00 ∷ 0x01 ∷ 0x02 ∷ 0x02 ∷ 0x01 ∷ 0x00 ∷ [])
      (writes 0 2 (pos 5) ∷ reads 1 2 ∷ told_by 1 (pos 5) ∷ reads 1 2 ∷ told_by 1 (pos 0) ∷ [])
      (unlawful 2)
  pub five_then_0_done : BytesSay
      (0x01 ∷ 0x00 ∷ 0x02 ∷ 0x0A ∷ 0x00 ∷ 0x01 ∷ 0x02 ∷ 0x02 ∷ 0x01 ∷ 0x0A ∷ 0x00 ∷ 0x01 ∷ 0x02 ∷ 0x02 ∷ 0x01 ∷ 0x00 ∷ 0x03 ∷ 0x00 ∷ [])
      (writes 0 2 (pos 5) ∷ reads 1 2 ∷ told_by 1 (pos 5) ∷ reads 1 2 ∷ told_by 1 (pos 0) ∷ done_by 0 ∷ [])
      (unlawful 2)
  pub zero_then_5 : BytesSay
      (0x01 ∷ 0x00 ∷ 0x02 ∷ 0x0A ∷ 0x00 ∷ 0x01 ∷ 0x02 ∷ 0x02 ∷ 0x01 ∷ 0x00 ∷ 0x00 ∷ 0x01 ∷ 0x02 ∷ 0x02 ∷ 0x01 ∷ 0x0A ∷ [])
      (writes 0 2 (pos 5) ∷ reads 1 2 ∷ told_by 1 (pos 0) ∷ reads 1 2 ∷ told_by 1 (pos 5) ∷ [])
      lawful
  pub zero_then_5_done : BytesSay
      (0x01 ∷ 0x00 ∷ 0x02 ∷ 0x0A ∷ 0x00 ∷ 0x01 ∷ 0x02 ∷ 0x02 ∷ 0x01 ∷ 0x00 ∷ 0x00 ∷ 0x01 ∷ 0x02 ∷ 0x02 ∷ 0x01 ∷ 0x0A ∷ 0x03 ∷ 0x00 ∷ [])
      (writes 0 2 (pos 5) ∷ reads 1 2 ∷ told_by 1 (pos 0) ∷ reads 1 2 ∷ told_by 1 (pos 5) ∷ done_by 0 ∷ [])
      lawful
  -- * A read of 5 that ends before any write of 5 is asked: unlawful.
  pub early_5 : BytesSay
      (0x00 ∷ 0x01 ∷ 0x02 ∷ 0x02 ∷ 0x01 ∷ 0x0A ∷ 0x01 ∷ 0x00 ∷ 0x02 ∷ 0x0A ∷ 0x03 ∷ 0x00 ∷ [])
      (reads 1 2 ∷ told_by 1 (pos 5) ∷ writes 0 2 (pos 5) ∷ done_by 0 ∷ [])
      (unlawful 2)
  -- * An unfinished write nobody read: lawful.
  pub unread : BytesSay
      (0x01 ∷ 0x00 ∷ 0x02 ∷ 0x0A ∷ [])
      (writes 0 2 (pos 5) ∷ [])
      lawful
  -- * Three replicas, client 0 writes 9 to cell 0. Asks take slots 0, 1, 2.
  pub asks : slots (three []).rack ≡ message 0 Ask ∷ message 1 Ask ∷ message 2 Ask ∷ None ∷ None ∷ []
  -- Deliver 0, 1, 0, 1: keeps with stamp (1, 0) stand in slots 0, 1, 3.
  pub keeps : slots (three four).rack ≡ message 0 (Keep nine) ∷ message 1 (Keep nine) ∷ message 2 Ask ∷ message 2 (Keep nine) ∷ None ∷ []
  -- Deliver 0, 1, 0, 1: done_by.
  pub all : (three (four ++ four)).done ≡ 9
  pub none_refused : (three (four ++ four)).refusal ≡ 0
  pub idle : (party_at (three (four ++ four)).rack 0).work ≡ None
  pub both_entries : record_of (three (four ++ four)).rack ≡ writes 0 0 (pos 9) ∷ done_by 0 ∷ []
  -- Slots 2 and 3 are still used;
  pub left : slots (three (four ++ four)).rack ≡ None ∷ None ∷ message 2 Ask ∷ message 2 (Keep nine) ∷ None ∷ []
  pub free : room_of (three (four ++ four)).rack.wire ≡ 254
  -- replica 2 still has 0.
  pub first : pair_at (three (four ++ four)).rack 0 0 ≡ nine
  pub second : pair_at (three (four ++ four)).rack 1 0 ≡ nine
  pub third : pair_at (three (four ++ four)).rack 2 0 ≡ fresh_pair
  -- Sent 10, delivered 8.
  pub sent : count_over sent_by 9 (fresh_rack (of_sizes 3 1 1)) (start ++ (four ++ four)) ≡ 10
  pub delivered : count_over (λ e p. delivered_by e) 9 (fresh_rack (of_sizes 3 1 1)) (start ++ (four ++ four)) ≡ 8
