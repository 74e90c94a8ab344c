-- When two outcomes of a call are one.
use Rattle.std.specs.Prelude.{◌≡◌, List, ℕ}
use Rattle.rack.specs.declared.Ran.{Ran}
use Rattle.play.specs.Play.{Recorded}
use Rattle.play.specs.Answers.{refusal_in, fault_in, count_in}

-- the number done, the refusal and the rack are settled
pub record SameRan (q q' : Ran) : Type 0 where
  pub done : q.done ≡ q'.done
  pub refusal : q.refusal ≡ q'.refusal
  pub rack : q.rack ≡ q'.rack

-- the refusal, the fault's byte, the number of bytes written, the answer itself and every lent byte are settled
pub record SameRecorded (r r' : Recorded) (d d' : List ℕ) : Type 0 where
  pub refusal : refusal_in r ≡ refusal_in r'
  pub fault : fault_in r ≡ fault_in r'
  pub count : count_in r ≡ count_in r'
  pub same : r ≡ r'
  pub lent : d ≡ d'
