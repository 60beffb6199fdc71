-- A text of `run` is a run text whose groups explain its readers.
use Rattle.std.specs.Prelude.{ℕ, ◌≡◌, ◌≤◌, ◌<◌, Bool, false, List, length}
use Rattle.kc_history.specs.declared.replies.Reply.{Reply}
use Rattle.kc_batch.specs.BatchInputs.{BatchInput, WithBatches, HeaderRefused}
use Rattle.kc_audit.specs.declared.run_text.RunText.{RunText}
use Rattle.kc_audit.specs.declared.verdict.AuditVerdict.TheVariants.{Explained}
use Rattle.kc_audit.specs.Documents.{Accepted, document_in}
use Rattle.kc_audit.specs.Laws.{lines_of}
use Rattle.kc_audit.specs.Verdicts.{replies_of, IsExplained}
use Rattle.kc_session.specs.States.{Step, history_of}
use Rattle.kcore.specs.declared.limits.TheConstants.{RUN_LINE_LIMIT, INPUT_LIMIT}
use Rattle.kcore.specs.AuditText.{verdict_line, IsAuditText}
use Rattle.kcore.specs.Inputs.{input_said}
use Rattle.kcore.specs.RunText.{IsRun}

-- a run of n vertices as it is recorded: the groups of the history of these steps, and the replies of its readers
abbrev pub recorded : ℕ → List Step → List (List Reply) → RunText
recorded n steps replies = record { vertices = n; groups = lines_of (history_of steps); readers = replies }

-- the text is read as this run, and its groups explain each reader from the start on
--
-- The text of `audit` for it is `explained`.
pub record IsExplainedText (run : RunText) (text : List ℕ) : Type 0 where
  pub read : document_in RUN_LINE_LIMIT INPUT_LIMIT text ≡ Accepted run
  pub explained : (r : ℕ) → r < length run.readers → IsExplained run (replies_of run r)
  pub audited : (line : List ℕ) (refused : Bool) → IsAuditText text line refused → (line ≡ verdict_line Explained) × (refused ≡ false)

abbrev pub ExplainsAfter : BatchInput → Type 0
ExplainsAfter (HeaderRefused line) = Unit {0}
ExplainsAfter (WithBatches header batches) =
    (replies : List (List Reply)) (text : List ℕ) (refused : Bool) → length text ≤ INPUT_LIMIT → (r : IsRun header batches replies text refused) → IsExplainedText (recorded header.n r.steps replies) text

-- the text of each run of each input with a header is explained if it is within the limit of an input
abbrev pub RunIsExplained : Type 0
RunIsExplained = (bytes : List ℕ) → ExplainsAfter (input_said bytes)
