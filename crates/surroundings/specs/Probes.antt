-- How asking a gatekeeper whether it is there ends.
use Rattle.std.specs.Prelude.{ℕ, ◌≡◌, ◌⊎◌, Bool, true, false, List, [], IfOk, Result, Ok, Err}
use Rattle.probing.specs.Statuses.{probe_status}
use Rattle.probing.specs.Told.{IsAnswerTold}
use Rattle.probing.specs.declared.ask.ProbeFault.{ProbeFault}

-- The exit status: 0 if the answer confirms, or 4 if that can't be told; 1 if it doesn't confirm;
-- and that of the fault if there is no answer.
abbrev pub IsProbeStatus : Result Bool ProbeFault → ℕ → Type 0
IsProbeStatus (Ok true) status = (status ≡ 0) ⊎ (status ≡ 4)
IsProbeStatus (Ok false) status = status ≡ 1
IsProbeStatus (Err fault) status = status ≡ probe_status fault

-- A gatekeeper was asked. If there is an answer, a text tells how some octets read, and the answer
-- says whether they confirm. The exit status is that of the answer.
pub record IsProbed (status : ℕ) : Type 0 where
  pub text : List ℕ
  pub answer : Result Bool ProbeFault
  pub told : IfOk answer (λ found. IsAnswerTold [] text found)
  pub ended : IsProbeStatus answer status
