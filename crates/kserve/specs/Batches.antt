-- What drained batches do to the graph and its levels.
use Rattle.std.specs.Prelude.{ℕ, ◌≡◌, List, [], ◌∷◌}
use Rattle.kc_graph.specs.Cleaning.{cleaned}
use Rattle.kc_levels.specs.declared.profile.Profile.TheVariants.{One}
use Rattle.kc_engine.specs.States.{State}
use Rattle.kc_engine.specs.States as states
use Rattle.kc_engine.specs.Batches.{IsAfterBatch}
use Rattle.kc_intake.specs.declared.updates.Update.{Update}
use Rattle.kserve.specs.Fitting.{items_of}

-- before the first batch: no edges among n vertices, all levels 0, no phases
abbrev pub start : ℕ → State
start n = states.start One n 0

-- the batches lead from the state s to t, one after another
--
-- Each is cleaned. Its edges leave and come in, and the levels are lowered and raised.
abbrev pub LeadTo : State → List (List Update) → State → Type 0
LeadTo s [] t = t ≡ s
LeadTo s (batch ∷ batches) t = (u : State) × (IsAfterBatch s (cleaned s.graph (items_of batch)) u × LeadTo u batches t)
