-- What a line does while a run is read.
use Rattle.kc_audit.specs.declared.run_text.RunText.{RunText}
use Rattle.kc_audit.specs.declared.stage.Turn.{Turn}
use Rattle.kc_audit.specs.declared.stage.Turn.TheVariants.{Go, Stop, End}
use Rattle.kc_audit.specs.Documents.{Step, Goes, Ends, Stops}

-- the step of a line, if the run was already lengthened
abbrev pub step_told : RunText → Turn → Step
step_told run (Go stage) = Goes run stage
step_told run End = Ends run
step_told run (Stop reason) = Stops reason
