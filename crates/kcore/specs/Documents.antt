-- Texts that end in a document of the graph and the levels after the batches of an input.
use Rattle.std.specs.Prelude.{ℕ, ◌≡◌, nat_lt, Bool, List, ◌++◌}
use Rattle.kc_batch.specs.declared.batch.Next.{Next}
use Rattle.kc_batch.specs.HeaderShape.{HeaderShape}
use Rattle.kc_engine.specs.States.{State}
use Rattle.kc_session.specs.declared.report.Report.TheVariants.{Notes}
use Rattle.kc_session.specs.States.{start, Step, AreSteps, last_state}
use Rattle.kc_session.specs.Counts.{refused_in}
use Rattle.kc_session.specs.RunText.{batch_lines}

-- a whole text of a header with these batches, and whether some of them are refused
--
-- It has a note of each refused batch, and then a document of the graph and the levels after the last. `IsDocument`
-- defines the documents of a state.
pub record EndsInDocument (IsDocument : State → List ℕ → Type 0) (header : HeaderShape) (batches : List Next) (text : List ℕ) (refused : Bool) : Type 0 where
  pub steps : List Step
  pub are_steps : AreSteps (start header.profile header.n) batches steps
  pub document : List ℕ
  pub is_document : IsDocument (last_state (start header.profile header.n) steps) document
  pub text_is : text ≡ batch_lines Notes 1 (start header.profile header.n) batches steps ++ document
  pub refusal : nat_lt 0 (refused_in (start header.profile header.n) batches steps) ≡ refused
