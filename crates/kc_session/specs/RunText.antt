-- The text of several batches.
use Rattle.std.specs.Prelude.{ℕ, ◌+◌, List, [], ◌∷◌, ◌++◌}
use Rattle.kc_graph.specs.Cleaning.{cleaned}
use Rattle.kc_batch.specs.declared.batch.Next.{Next}
use Rattle.kc_batch.specs.declared.batch.Next.TheVariants.{Items, Refused, End}
use Rattle.kc_groups.specs.declared.plans.PhasePlan.{PhasePlan}
use Rattle.kc_engine.specs.States.{State}
use Rattle.kc_session.specs.declared.report.Report.{Report}
use Rattle.kc_session.specs.Reports.{refused_text, cleaned_text}
use Rattle.kc_session.specs.States.{Step, refusal_of}

-- the text of the batch with this number in this state, if it has these phases
--
-- A batch that is refused after its cleaning is refused at its `end`.
abbrev pub step_text : Report → ℕ → State → Next → List PhasePlan → List ℕ
step_text report number s (Items batch) phases = let c = cleaned s.graph batch.items in cleaned_text report number batch.line c (refusal_of s c) phases
step_text report number s (Refused line reason) phases = refused_text report number line reason
step_text report number s End phases = []

-- the text of these batches with these steps; the first has this number
abbrev pub batch_lines : Report → ℕ → State → List Next → List Step → List ℕ
batch_lines report number s [] ts = []
batch_lines report number s (b ∷ bs) [] = []
batch_lines report number s (b ∷ bs) (t ∷ ts) = step_text report number s b t.phases ++ batch_lines report (number + 1) t.state bs ts
