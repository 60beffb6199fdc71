-- The change of a pass's role at each step of the queue.
use Rattle.std.specs.Prelude.{◌≡◌, ◌+◌, ◌<◌, List, [], ◌∷◌, ◌++◌, Contains}
use Rattle.kc_intake.specs.declared.updates.Update.{Update}
use Rattle.kc_intake.specs.declared.roles.Submitted.{Submitted}
use Rattle.kc_intake.specs.declared.roles.Drained.{Drained}
use Rattle.kc_intake.specs.declared.roles.Role.{Role}
use Rattle.kc_intake.specs.declared.roles.Role.TheVariants.{Submits, Drains}
use Rattle.kc_intake.specs.Updates.{updates_of, updates_in, all_updates, AreNumbered}
use Rattle.kc_intake.specs.Views.{submitted_of, drained_of}
use Rattle.kc_intake.specs.Causes.{Holds, HoldsOf, MayWait}

-- the drainer of a queue that was just made
abbrev pub first_role : Role
first_role = Drains (record { clients = 0; taken = []; joined = [] })

abbrev pub at_client : (Submitted → Submitted) → Role → Role
at_client f (Submits s) = Submits (f s)
at_client f v = v

abbrev pub at_drainer : (Drained → Drained) → Role → Role
at_drainer f (Drains d) = Drains (f d)
at_drainer f v = v

-- one more client
abbrev pub with_client : Role → Role
with_client = at_drainer (λ d. record d { clients = d.clients + 1 })

-- the role of the new client
abbrev pub client_of : Role → Role
client_of v = Submits (record { client = (drained_of v).clients; items = [] })

-- an update was submitted
abbrev pub with_sent : Update → Submitted → Submitted
with_sent u s = record s { items = s.items ++ u.item ∷ [] }

abbrev pub sends : Role → Update → Role → Type 0
sends v u w = w ≡ at_client (with_sent u) v

-- an update is put at the end of the last batch, or begins the first one
abbrev pub with_last : Update → List (List Update) → List (List Update)
with_last u [] = (u ∷ []) ∷ []
with_last u (batch ∷ []) = (batch ++ u ∷ []) ∷ []
with_last u (batch ∷ next ∷ batches) = batch ∷ with_last u (next ∷ batches)

-- an update begins a batch
abbrev pub with_begun : Update → Drained → Drained
with_begun u d = record d { taken = d.taken ++ (u ∷ []) ∷ [] }

-- an update is added to the last batch
abbrev pub with_added : Update → Drained → Drained
with_added u d = record d { taken = with_last u d.taken }

-- the update is of a client of the intake, and the drained updates are numbered
--
-- The invariant holds of them and of those that still wait.
pub record IsSound (holds : Holds) (u : Update) (v w : Role) : Type 0 where
  pub client_in : u.client < (drained_of v).clients
  pub numbers : AreNumbered (drained_of w).taken
  pub invariant : HoldsOf holds (all_updates (drained_of w).taken)

abbrev pub begins : Holds → Role → Update → Role → Type 0
begins holds v u w = (w ≡ at_drainer (with_begun u) v) × IsSound holds u v w

abbrev pub adds : Holds → Role → Update → Role → Type 0
adds holds v u w = (w ≡ at_drainer (with_added u) v) × IsSound holds u v w

-- the items that each client sent that was taken in are those drained of it, followed by those that the queue holds of
-- it
abbrev pub AreWhole : Drained → List Update → Type 0
AreWhole d items = (s : Submitted) → Contains d.joined s → updates_of s.client (all_updates d.taken ++ items) ≡ updates_in s

abbrev pub drain_learns : Holds → Role → List Update → Type 0
drain_learns holds v items = MayWait holds v items × AreWhole (drained_of v) items × holds (all_updates (drained_of v).taken) items

-- a client is taken in
abbrev pub took_in : Role → Role → Role
took_in v w = at_drainer (λ d. record d { joined = d.joined ++ submitted_of w ∷ [] }) v
