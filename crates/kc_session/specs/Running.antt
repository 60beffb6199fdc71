-- The result of batches, and the text written for them, after they were run or a fault came.
use Rattle.std.specs.Prelude.{ℕ, List, Option}
use Rattle.kc_text.specs.Writing.{IsPrefix}
use Rattle.kc_batch.specs.declared.batch.Next.{Next}
use Rattle.kc_engine.specs.States.{State}
use Rattle.kc_session.specs.declared.report.Report.{Report}
use Rattle.kc_session.specs.RunText.{batch_lines}
use Rattle.kc_session.specs.States.{Step, AreSteps}

-- a prefix of the text of the batches was written
pub record WroteSomeBatches (report : Report) (s : State) (batches : List Next) (before now : Option (List ℕ)) : Type 0 where
  pub steps : List Step
  pub are_steps : AreSteps s batches steps
  pub prefix : IsPrefix before now (batch_lines report 1 s batches steps)
