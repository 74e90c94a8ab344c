-- When two outcomes of a call are one.
use Rattle.std.specs.Prelude.{ℕ, List, ◌≡◌, Option}
use Rattle.number.specs.Answers.{refusal_of, number_in, next_in, put_refusal_of, put_next_in}
use Rattle.number.specs.Number.{Number}

-- two answers that refuse alike, hand out the same number and the same place, and are one answer
pub record SameNumber (r r' : Number) : Type 0 where
  pub refusal : refusal_of r ≡ refusal_of r'
  pub number : number_in r ≡ number_in r'
  pub next : next_in r ≡ next_in r'
  pub same : r ≡ r'

-- two outcomes that refuse alike, answer the same place and leave the same bytes, and whose answers are one
pub record SamePut (r r' : Option ℕ) (d d' : List ℕ) : Type 0 where
  pub refusal : put_refusal_of r ≡ put_refusal_of r'
  pub next : put_next_in r ≡ put_next_in r'
  pub same : r ≡ r'
  pub bytes : d ≡ d'
