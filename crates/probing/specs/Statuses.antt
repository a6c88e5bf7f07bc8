-- Why a probe gets no answer, and the exit status of each fault of a probe.
use Rattle.std.specs.Prelude.{ℕ}
use Rattle.std.specs.declared.io.ErrorKind.{ErrorKind}
use Rattle.std.specs.declared.io.ErrorKind.TheVariants.{ConnectionRefused}
use Rattle.probing.specs.declared.ask.ProbeFault.{ProbeFault}
use Rattle.probing.specs.declared.ask.ProbeFault.TheVariants.{NoAnswer, Refused, NotSent, Bind}
use Rattle.probing.specs.declared.ask.ProbeFault.TheVariants.{Memory}

-- 1: there is no answer; 3: no memory; 4: the address wasn't bound
abbrev pub probe_status : ProbeFault → ℕ
probe_status NoAnswer = 1
probe_status Refused = 1
probe_status NotSent = 1
probe_status Bind = 4
probe_status Memory = 3

-- why nothing was received, by the system's error
abbrev pub silence_of : ErrorKind → ProbeFault
silence_of ConnectionRefused = Refused
silence_of _ = NoAnswer
