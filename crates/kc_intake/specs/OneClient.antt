-- The meaning of "full" for a client that submits alone.
use Rattle.std.specs.Prelude.{◌≡◌, ℕ, ◌≤◌, [], ◌++◌, length}
use Rattle.kc_graph.specs.declared.items.Item.{Item}
use Rattle.kc_intake.specs.declared.roles.Submitted.{Submitted}
use Rattle.kc_intake.specs.declared.roles.Role.TheVariants.{Submits}
use Rattle.kc_intake.specs.Causes.{Holds, StaysAtSubmit, StaysAtDrain, HeldAtStep}
use Rattle.kc_intake.specs.Updates.{updates_of}

-- all updates are of client c
abbrev pub AreOf : ℕ → Holds
AreOf c drained waiting = updates_of c (drained ++ waiting) ≡ drained ++ waiting

-- the user of an intake may pick this invariant if client c alone submits
--
-- Then c finds n updates in the queue only once it has submitted n items.
pub record FillsAlone : Type 0 where
  pub begins : (c : ℕ) → AreOf c [] []
  pub submits : (n : ℕ) (s : Submitted) (item : Item) → StaysAtSubmit (AreOf s.client) n s item
  pub drains : (c : ℕ) → StaysAtDrain (AreOf c)
  pub full : (n : ℕ) (s : Submitted) → HeldAtStep (AreOf s.client) n (Submits s) → n ≤ length s.items
