-- The run is the definition's, so the promise holds of it.
use Rattle.promise.proofs.theorems.Promise.{promise}
use Rattle.promise.proofs.run_fresh.Goals as goal

pub returns : goal.returns
returns c = record {
  value = rw (c.run.ensures, c.made-made.ensures);
  lawful = rw (c.run.ensures, c.made-made.ensures) (promise _ _ _ _ _);
}
