-- The rule of the queue: the facts between any two steps about the updates in it and about the knowledge of each pass.
use Rattle.std.specs.Prelude.{◌≡◌, ℕ, ◌<◌, ◌≤◌, List, [], ◌++◌, Option, Some, None, Contains}
use mathlib.Core.Option.{some}
use lib.ListN.{get_elem?}
use Rattle.kc_graph.specs.declared.items.Item.{Item}
use Rattle.kc_intake.specs.declared.updates.Update.{Update}
use Rattle.kc_intake.specs.declared.roles.Submitted.{Submitted}
use Rattle.kc_intake.specs.declared.roles.Drained.{Drained}
use Rattle.kc_intake.specs.declared.roles.Role.{Role}
use Rattle.kc_intake.specs.declared.roles.Role.TheVariants.{Spent, Submits, Drains}
use Rattle.kc_intake.specs.Updates.{updates_of, numbered, all_updates}

-- the knowledge of pass j is true
--
-- The drainer has pass `drainer`, client c has pass `pass c`, and it has sent `sent c`.
abbrev pub PassHolds : ℕ → Drained → (ℕ → Option ℕ) → (ℕ → List Item) → ℕ → Role → Type 0
PassHolds drainer state pass sent j Spent = Unit {0}
PassHolds drainer state pass sent j (Submits s) = (pass s.client ≡ Some j) × (s.items ≡ sent s.client)
PassHolds drainer state pass sent j (Drains d) = (j ≡ drainer) × (d ≡ state)

-- the rule of a queue that holds `items`, oldest first
--
-- `holds` is the invariant of the intake's user, of the drained updates and of those that wait.
pub record IsKept (holds : List Update → List Update → Type 0) (items : List Update) (views : List Role) : Type 0 where
  pub drainer : ℕ
  pub state : Drained
  pub pass : ℕ → Option ℕ
  pub sent : ℕ → List Item
  -- the items that each client sent are those drained of it, followed by those that the queue holds of it
  pub whole : (c : ℕ) → updates_of c (all_updates state.taken ++ items) ≡ numbered c 0 (sent c)
  -- later clients have sent nothing
  pub later : (c : ℕ) → state.clients ≤ c → (pass c ≡ None) × (sent c ≡ [])
  -- clients that were taken in send nothing more
  pub joined : (s : Submitted) → Contains state.joined s → (s.client < state.clients) × (pass s.client ≡ None) × (s.items ≡ sent s.client)
  pub invariant : holds (all_updates state.taken) items
  pub passes : (j : ℕ) (v : Role) → get_elem? views j ≡ some v → PassHolds drainer state pass sent j v
