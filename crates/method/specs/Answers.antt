-- What a decision means, case by case: the refusal by the paper's number, and every value of a plan. A refused event changes nothing, so what it leaves
-- is then what it saw.
use Rattle.std.specs.Prelude.{ℕ, Bool, false, Err, Ok}
use Rattle.stamps.specs.declared.Pair.{Pair}
use Rattle.method.specs.declared.Message.{Message}
use Rattle.method.specs.declared.Party.{Party}
use Rattle.method.specs.declared.Sight.{Sight}
use Rattle.method.specs.declared.Note.{Note}
use Rattle.method.specs.declared.Note.TheVariants.{Nothing}
use Rattle.method.specs.Decision.{Decision}
use Rattle.method.specs.Plan.{no_message}

-- the refusal; 0 where the event is done
unfoldable pub refusal_in : Decision → ℕ
refusal_in (Err k) = k
refusal_in (Ok p) = 0

-- the client after the event
unfoldable pub party_after : Sight → Decision → Party
party_after s (Err k) = s.party
party_after s (Ok p) = p.party

-- the replica's pair after it
unfoldable pub pair_after : Sight → Decision → Pair
pair_after s (Err k) = s.pair
pair_after s (Ok p) = p.pair

-- the set of replicas that are on after it
unfoldable pub power_after : Sight → Decision → ℕ
power_after s (Err k) = s.power
power_after s (Ok p) = p.power

-- whether its slot becomes empty
unfoldable pub clear_in : Decision → Bool
clear_in (Err k) = false
clear_in (Ok p) = p.clear

-- the entry that the record gets, if any
unfoldable pub note_in : Decision → Note
note_in (Err k) = Nothing
note_in (Ok p) = p.note

-- the message that is sent; one that is no message where the event is refused
unfoldable pub message_in : Decision → Message
message_in (Err k) = no_message
message_in (Ok p) = p.message

-- the set of replicas that its message goes to; the empty one where nothing is sent
unfoldable pub sent_to : Decision → ℕ
sent_to (Err k) = 0
sent_to (Ok p) = p.to
