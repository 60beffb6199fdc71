-- When a queue counts as full or empty, and when a user's invariant stays true.
use Rattle.std.specs.Prelude.{◌≡◌, ℕ, ◌<◌, List, [], ◌∷◌, ◌++◌, length}
use mathlib.Core.Option.{some}
use lib.ListN.{get_elem?}
use Rattle.crossbeam_queue.specs.Fifo.{Held}
use Rattle.kc_graph.specs.declared.items.Item.{Item}
use Rattle.kc_intake.specs.declared.updates.Update.{Update}
use Rattle.kc_intake.specs.declared.roles.Submitted.{Submitted}
use Rattle.kc_intake.specs.declared.roles.Role.{Role}
use Rattle.kc_intake.specs.Rule.{IsKept}
use Rattle.kc_intake.specs.Updates.{updates_of, updates_in, all_updates}
use Rattle.kc_intake.specs.Views.{DrainerShape, drainer_role, AreAllDrained}

-- invariants of the updates drained of an intake and of those that wait in it, both oldest first
abbrev pub Holds : Type 1
Holds = List Update → List Update → Type 0

-- the next update of a client
abbrev pub next_update : Submitted → Item → Update
next_update s item = record { client = s.client; serial = length s.items; item = item }

-- the invariant stays true when a client that submitted s submits one more item, while fewer than n updates wait
abbrev pub StaysAtSubmit : Holds → ℕ → Submitted → Item → Type 0
StaysAtSubmit holds n s item = (drained waiting : List Update) → length waiting < n → updates_of s.client (drained ++ waiting) ≡ updates_in s → holds drained waiting → holds drained (waiting ++ next_update s item ∷ [])

-- the invariant stays true when the update that waits longest is drained
abbrev pub StaysAtDrain : Holds → Type 0
StaysAtDrain holds = (drained waiting : List Update) (u : Update) → holds drained (u ∷ waiting) → holds (drained ++ u ∷ []) waiting

-- the invariant holds of the drained updates and of those that wait
pub record HoldsOf (holds : Holds) (drained : List Update) : Type 0 where
  pub waiting : List Update
  pub invariant : holds drained waiting

-- the queue may hold these updates beside a pass that knows `role`
--
-- There are views of all passes with which the rule is kept.
pub record MayWait (holds : Holds) (role : Role) (items : List Update) : Type 0 where
  pub views : List Role
  pub pass : ℕ
  pub kept : IsKept holds items views
  pub at : get_elem? views pass ≡ some role

-- the queue held n updates at a step at which the pass had this role
abbrev pub HeldAtStep : Holds → ℕ → Role → Type 0
HeldAtStep holds n role = Held n (MayWait holds role)

-- the drainer found the queue empty: it was so at a step, and all items of the clients taken in are drained
--
-- The invariant holds of the drained updates while none waits.
abbrev pub FoundEmpty : Holds → DrainerShape → Type 0
FoundEmpty holds d = HeldAtStep holds 0 (drainer_role d) × AreAllDrained d × holds (all_updates d.taken) []
