-- What an audit says of a run.
use Rattle.std.specs.Prelude.{ℕ, ◌<◌, ◌≤◌, ◌-◌, List, [], take, length, get_or}
use Rattle.kc_history.specs.declared.replies.Reply.{Reply}
use Rattle.kc_history.specs.Replies.{AreExplained}
use Rattle.kc_audit.specs.Runs.{history_of}
use Rattle.kc_audit.specs.declared.run_text.RunText.{RunText}
use Rattle.kc_audit.specs.declared.verdict.AuditVerdict.{AuditVerdict}
use Rattle.kc_audit.specs.declared.verdict.AuditVerdict.TheVariants.{Explained, Unexplained}

-- the replies of a reader of the run; none if there is no such reader
abbrev pub replies_of : RunText → ℕ → List Reply
replies_of run reader = get_or run.readers reader []

-- the group lines of the run explain these replies, from its start on
abbrev pub IsExplained : RunText → List Reply → Type 0
IsExplained run rs = AreExplained run.vertices (history_of run.groups) 0 rs

-- reply `ask`, counted from 1, is the first up to which the replies aren't explained
pub record IsFirstUnexplained (run : RunText) (rs : List Reply) (ask : ℕ) : Type 0 where
  pub counted : 1 ≤ ask
  pub within : ask ≤ length rs
  pub before : IsExplained run (take (ask - 1) rs)
  pub unfit : IsExplained run (take ask rs) → ⊥

-- this is the least reader whose replies aren't explained, and its first reply up to which they aren't
pub record IsUnexplained (run : RunText) (reader ask : ℕ) : Type 0 where
  pub within : reader < length run.readers
  pub before : (r : ℕ) → r < reader → IsExplained run (replies_of run r)
  pub here : IsFirstUnexplained run (replies_of run reader) ask

-- what each verdict means
abbrev pub IsVerdict : RunText → AuditVerdict → Type 0
IsVerdict run Explained = (r : ℕ) → r < length run.readers → IsExplained run (replies_of run r)
IsVerdict run (Unexplained reader ask) = IsUnexplained run reader ask
