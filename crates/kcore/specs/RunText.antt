-- The text of `run` for an input, and the facts in it about the history of the input's batches.
use Rattle.std.specs.Prelude.{ℕ, ◌≡◌, nat_lt, Bool, List, All}
use Rattle.kc_batch.specs.declared.batch.Next.{Next}
use Rattle.kc_batch.specs.HeaderShape.{HeaderShape}
use Rattle.kc_batch.specs.BatchInputs.{BatchInput}
use Rattle.kc_history.specs.declared.entries.Entry.{Entry}
use Rattle.kc_history.specs.declared.replies.Reply.{Reply}
use Rattle.kc_history.specs.Points.{graph_at, levels_at}
use Rattle.kc_history.specs.Replies.{AreExplained}
use Rattle.kc_bound.specs.Nearness.{IsNear}
use Rattle.kc_session.specs.States.{start, Step, AreSteps, history_of}
use Rattle.kc_session.specs.Counts.{refused_in}
use Rattle.kc_session.specs.Asking.{Fit}
use Rattle.kc_session.specs.SessionText.{session_text}
use Rattle.kcore.specs.InputTexts.{IsTextOf}

-- a run of a header with these batches and these replies of its readers: its text, and whether some batch is refused
pub record IsRun (header : HeaderShape) (batches : List Next) (replies : List (List Reply)) (text : List ℕ) (refused : Bool) : Type 0 where
  -- the step of each batch: refused without any change, or its edges leave and come in, with levels lowered and raised
  pub steps : List Step
  pub are_steps : AreSteps (start header.profile header.n) batches steps
  -- the entries of all phases in order; a group of vertices that move together is one entry, so it takes effect at once
  pub history : List Entry
  pub history_is : history ≡ history_of steps
  -- both invariants hold at each point of the history, and levels are near coreness; a point past the end is the end
  pub near : (point : ℕ) → IsNear header.profile (graph_at header.n history point) (levels_at header.n history point)
  -- each reader's replies answer the questions of its ask, with levels at points of the history that never go back
  pub fit : Fit header.asks replies
  pub explained : All (AreExplained header.n history 0) replies
  -- the text has each batch, these replies, and the levels at the end
  pub text_is : text ≡ session_text header batches steps replies
  pub refusal : nat_lt 0 (refused_in (start header.profile header.n) batches steps) ≡ refused

-- the text is that of a run with some replies
abbrev pub IsRunOf : HeaderShape → List Next → List ℕ → Bool → Type 0
IsRunOf header batches text refused = (replies : List (List Reply)) × IsRun header batches replies text refused

-- the text of an input, and whether the input, or a part of it, is refused
abbrev pub IsRunText : BatchInput → List ℕ → Bool → Type 0
IsRunText = IsTextOf IsRunOf
