-- The text of a session, and the facts that hold of its history.
use Rattle.std.specs.Prelude.{ℕ, ◌≡◌, List, ◌++◌, length, All, Option, Some, None, Result, Ok, Err}
use Rattle.std.specs.Io.KnownBytes.{append_known}
use Rattle.kc_text.specs.Writing.{IsPrefix}
use Rattle.kc_levels.specs.declared.profile.Profile.{Profile}
use Rattle.kc_history.specs.declared.entries.Entry.{Entry}
use Rattle.kc_history.specs.declared.replies.Reply.{Reply}
use Rattle.kc_history.specs.Points.{graph_at, levels_at}
use Rattle.kc_history.specs.Replies.{AreExplained}
use Rattle.kc_batch.specs.declared.batch.Next.{Next}
use Rattle.kc_batch.specs.HeaderShape.{HeaderShape}
use Rattle.kc_engine.specs.Laws.{IsHistoryOf}
use Rattle.kc_report.specs.Lines.{head_text}
use Rattle.kc_report.specs.VertexLines.{tail_text}
use Rattle.kc_session.specs.declared.ended.Ended.{Ended}
use Rattle.kc_session.specs.declared.fault.SessionFault.{SessionFault}
use Rattle.kc_session.specs.declared.report.Report.TheVariants.{Lines}
use Rattle.kc_session.specs.Asking.{Fit}
use Rattle.kc_session.specs.Ended.{IsEnded}
use Rattle.kc_session.specs.ReaderLines.{reader_lines}
use Rattle.kc_session.specs.RunText.{batch_lines}
use Rattle.kc_session.specs.States.{Step, start, AreSteps, last_state, history_of}

-- the steps of the batches, and the replies to the readers meanwhile
pub record IsSession (header : HeaderShape) (batches : List Next) : Type 0 where
  -- a batch is refused and changes nothing, or it leads to the extremal levels
  pub steps : List Step
  pub are_steps : AreSteps (start header.profile header.n) batches steps
  -- the entries of all phases in order: each group is one entry, so it takes effect at once
  pub history : List Entry
  pub history_is : history ≡ history_of steps
  -- the last point of the history has the graph and the levels after all batches
  pub ends : IsHistoryOf header.n history (last_state (start header.profile header.n) steps)
  -- the replies to the questions of each ask, with levels at points of the history that never go back
  pub replies : List (List Reply)
  pub fit : Fit header.asks replies
  pub explained : All (AreExplained header.n history 0) replies

-- the lines of the readers, and those of the n vertices at the last point of a history
abbrev pub rest_text : Profile → ℕ → List (List Reply) → List Entry → List ℕ
rest_text p n replies history =
    reader_lines 0 replies ++ tail_text p (graph_at n history (length history)) (levels_at n history (length history))

-- the lines of the batches, and the rest
abbrev pub body_text : HeaderShape → List Next → List Step → List (List Reply) → List ℕ
body_text header batches steps replies =
    batch_lines Lines 1 (start header.profile header.n) batches steps ++ rest_text header.profile header.n replies (history_of steps)

-- the text of a session: its head, and the lines after it
abbrev pub session_text : HeaderShape → List Next → List Step → List (List Reply) → List ℕ
session_text header batches steps replies = head_text header.n ++ body_text header batches steps replies

-- the text of a session was written, and it ended with these counts
--
-- The text is `session_text`, or `body_text` if the head was written before.
pub record WroteSession (text : HeaderShape → List Next → List Step → List (List Reply) → List ℕ) (header : HeaderShape) (batches : List Next) (before now : Option (List ℕ)) (ended : Ended) : Type 0 where
  pub session : IsSession header batches
  pub taken : now ≡ append_known before (text header batches session.steps session.replies)
  pub ends : IsEnded header batches session.steps session.replies ended

-- a prefix of the text of a session was written
pub record WroteSomeOfSession (text : HeaderShape → List Next → List Step → List (List Reply) → List ℕ) (header : HeaderShape) (batches : List Next) (before now : Option (List ℕ)) : Type 0 where
  pub session : IsSession header batches
  pub prefix : IsPrefix before now (text header batches session.steps session.replies)

-- with Ok the whole text was written, and otherwise a prefix, if the source tells the batches
abbrev pub WritesSession : (HeaderShape → List Next → List Step → List (List Reply) → List ℕ) → HeaderShape → Option (List Next) → Option (List ℕ) → Option (List ℕ) → Result Ended SessionFault → Type 0
WritesSession text header None before now result = Unit {0}
WritesSession text header (Some batches) before now (Ok ended) = WroteSession text header batches before now ended
WritesSession text header (Some batches) before now (Err _) = WroteSomeOfSession text header batches before now
