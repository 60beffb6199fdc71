-- The clients of an intake before they submit, and once they have ended; and what was drained of them.
use Rattle.std.specs.Prelude.{ℕ, ◌≡◌, ◌≤◌, ◌<◌, List, [], length, get_or, All}
use mathlib.Core.List.{IsPrefix}
use Rattle.kc_graph.specs.declared.items.Item.{Item}
use Rattle.kc_intake.specs.declared.updates.Update.{Update}
use Rattle.kc_intake.specs.Updates.{updates_of, updates_in, all_updates}
use Rattle.kc_intake.specs.Views.{IntakeShape, ClientShape, DrainerShape, new_client, submitted}

-- client number c, which has submitted the items of a script
abbrev pub ended_client : IntakeShape → ℕ → List Item → ClientShape
ended_client intake c script = record { intake = intake; number = c; sent = script }

-- `count` clients, in the order of their numbers, which have submitted nothing
pub record AreNew (intake : IntakeShape) (count : ℕ) (clients : List ClientShape) : Type 0 where
  pub count_is : length clients ≡ count
  pub each : (c : ℕ) (d : ClientShape) → c < count → get_or clients c d ≡ new_client intake c

-- each client has submitted the script of its number
pub record HaveEnded (intake : IntakeShape) (scripts : List (List Item)) (clients : List ClientShape) : Type 0 where
  pub count_is : length clients ≡ length scripts
  pub each : (c : ℕ) (d : ClientShape) → c < length scripts → get_or clients c d ≡ ended_client intake c (get_or scripts c [])

-- what was drained of each client are the first ones of its updates
abbrev pub AreTakenIn : List (List Update) → List ClientShape → Type 0
AreTakenIn taken clients = All (λ client. IsPrefix (updates_of client.number (all_updates taken)) (updates_in (submitted client))) clients

-- what an intake has drained since it was opened
--
-- Each batch has 1 to as many updates as the intake holds. Each update is of one of the clients.
pub record AreDrained (intake : IntakeShape) (old new : DrainerShape) : Type 0 where
  pub intake_is : new.intake ≡ intake
  pub clients_are : new.clients ≡ old.clients
  pub sizes : All (λ batch. (1 ≤ length batch) × (length batch ≤ intake.capacity)) new.taken
  pub clients : All (λ u. u.client < old.clients) (all_updates new.taken)
