-- When two outcomes of a call are one.
use Rattle.std.specs.Prelude.{◌≡◌}
use Rattle.verdict.specs.declared.Verdict.{Verdict}
use Rattle.verdict.specs.Answers.{case_of, refusal_in, entry_in, cell_in}

-- two verdicts that say the same, with the same refusal, entry and cell
pub record SameVerdict (v v' : Verdict) : Type 0 where
  pub says : case_of v ≡ case_of v'
  pub refusal : refusal_in v ≡ refusal_in v'
  pub entry : entry_in v ≡ entry_in v'
  pub cell : cell_in v ≡ cell_in v'
