-- When two decisions are one.
use Rattle.std.specs.Prelude.{◌≡◌}
use Rattle.method.specs.declared.Sight.{Sight}
use Rattle.method.specs.Decision.{Decision}
use Rattle.method.specs.Answers.{refusal_in, party_after, pair_after, power_after, clear_in, note_in, message_in, sent_to}

-- two decisions that refuse alike, leave the same of whatever was seen, send and record the same, and are one
pub record SameOutcome (r r' : Decision) : Type 0 where
  pub refusal : refusal_in r ≡ refusal_in r'
  pub party : (s : Sight) → party_after s r ≡ party_after s r'
  pub pair : (s : Sight) → pair_after s r ≡ pair_after s r'
  pub power : (s : Sight) → power_after s r ≡ power_after s r'
  pub clear : clear_in r ≡ clear_in r'
  pub note : note_in r ≡ note_in r'
  pub message : message_in r ≡ message_in r'
  pub to : sent_to r ≡ sent_to r'
  pub same : r ≡ r'
