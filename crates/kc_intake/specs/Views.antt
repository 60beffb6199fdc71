-- What contracts see of an intake, a client and a drainer, and the knowledge of their passes.
use Rattle.std.specs.Prelude.{◌≡◌, ℕ, List, [], All}
use Rattle.atomic_table.specs.Seated.{TableId}
use Rattle.crossbeam_queue.specs.Passes.{Pass, view}
use Rattle.kc_graph.specs.declared.items.Item.{Item}
use Rattle.kc_intake.specs.declared.updates.Update.{Update}
use Rattle.kc_intake.specs.declared.roles.Submitted.{Submitted}
use Rattle.kc_intake.specs.declared.roles.Drained.{Drained}
use Rattle.kc_intake.specs.declared.roles.Role.{Role}
use Rattle.kc_intake.specs.declared.roles.Role.TheVariants.{Submits, Drains}
use Rattle.kc_intake.specs.Updates.{updates_of, updates_in, all_updates}

-- an intake: which queue it is, and the most updates that it holds
pub record IntakeShape : Type 0 where
  pub queue : TableId
  pub capacity : ℕ

-- a client: its intake, its number, and the items that it submitted
pub record ClientShape : Type 0 where
  pub intake : IntakeShape
  pub number : ℕ
  pub sent : List Item

-- a drainer
--
-- The fields are its intake, the last drained batch, the number of clients, and all drained batches. The last field has
-- the items that each client sent that was taken in.
pub record DrainerShape : Type 0 where
  pub intake : IntakeShape
  pub batch : List Update
  pub clients : ℕ
  pub taken : List (List Update)
  pub joined : List Submitted

abbrev pub intake_of : TableId → IntakeShape
intake_of queue = record { queue = queue; capacity = queue.slots }

abbrev pub submitted_of : Role → Submitted
submitted_of (Submits s) = s
submitted_of _ = record { client = 0; items = [] }

abbrev pub drained_of : Role → Drained
drained_of (Drains d) = d
drained_of _ = record { clients = 0; taken = []; joined = [] }

abbrev pub client_shape : Pass Update Role → ClientShape
client_shape p = record { intake = intake_of p.table_id; number = (submitted_of (view p)).client; sent = (submitted_of (view p)).items }

abbrev pub drainer_shape : Pass Update Role → List Update → DrainerShape
drainer_shape p batch = record { intake = intake_of p.table_id; batch = batch; clients = (drained_of (view p)).clients; taken = (drained_of (view p)).taken; joined = (drained_of (view p)).joined }

-- a pass that submits, with no slot out
pub record IsClient (p : Pass Update Role) : Type 0 where
  pub role_is : view p ≡ Submits (submitted_of (view p))
  pub free : p.me.1 ≡ []

-- a pass that drains, with no slot out
pub record IsDrainer (p : Pass Update Role) : Type 0 where
  pub role_is : view p ≡ Drains (drained_of (view p))
  pub free : p.me.1 ≡ []

-- the items that a client submitted
abbrev pub submitted : ClientShape → Submitted
submitted c = record { client = c.number; items = c.sent }

-- the knowledge of a client's pass
abbrev pub client_role : ClientShape → Role
client_role c = Submits (submitted c)

-- the knowledge of a drainer's pass
abbrev pub drainer_role : DrainerShape → Role
drainer_role d = Drains (record { clients = d.clients; taken = d.taken; joined = d.joined })

-- all items are drained that were sent by the clients taken in
abbrev pub AreAllDrained : DrainerShape → Type 0
AreAllDrained d = All (λ s. updates_of s.client (all_updates d.taken) ≡ updates_in s) d.joined

-- client number c of an intake; it has submitted nothing
abbrev pub new_client : IntakeShape → ℕ → ClientShape
new_client intake c = record { intake = intake; number = c; sent = [] }
