-- The options of a service, and the service that was just opened.
use Rattle.std.specs.Prelude.{ℕ, ◌≡◌, ◌<◌, ◌≤◌, false, []}
use Rattle.atomic_table.specs.Seated.{TableId}
use Rattle.kc_graph.specs.declared.limits.TheConstants.{MAX_EDGES, MAX_VERTICES}
use Rattle.kc_engine.specs.States.{start}
use Rattle.kc_service.specs.declared.options.Options.{Options}
use Rattle.kc_service.specs.declared.options.TheConstants.{MAX_WORKERS}
use Rattle.kc_service.specs.declared.faults.OpenFault.{OpenFault}
use Rattle.kc_service.specs.declared.faults.OpenFault.TheVariants.{Vertices, Workers, EdgeLimit, Memory}
use Rattle.kc_service.specs.Services.{ServiceView}

-- the range of the number of vertices
pub record IsVertexCount (n : ℕ) : Type 0 where
  pub some : 1 ≤ n
  pub few : n ≤ MAX_VERTICES

-- the range of the number of workers
pub record IsWorkerCount (n : ℕ) : Type 0 where
  pub some : 1 ≤ n
  pub few : n ≤ MAX_WORKERS

-- each number of the options is in its range
pub record IsInRange (o : Options) : Type 0 where
  pub vertices : IsVertexCount o.vertices
  pub workers : IsWorkerCount o.workers
  pub edges : o.edge_limit ≤ MAX_EDGES

-- the fault names the first number of the options that isn't in its range
abbrev pub RangeCause : Options → OpenFault → Type 0
RangeCause o (Vertices n) = (n ≡ o.vertices) × (IsVertexCount n → ⊥)
RangeCause o (Workers n) = IsVertexCount o.vertices × ((n ≡ o.workers) × (IsWorkerCount n → ⊥))
RangeCause o (EdgeLimit n) = IsVertexCount o.vertices × (IsWorkerCount o.workers × ((n ≡ o.edge_limit) × (MAX_EDGES < n)))
RangeCause o (Memory _) = ⊥

-- the cause for which a service with these options isn't opened: `Memory` only if each number is in its range
abbrev pub OpenCause : Options → OpenFault → Type 0
OpenCause o (Vertices n) = RangeCause o (Vertices n)
OpenCause o (Workers n) = RangeCause o (Workers n)
OpenCause o (EdgeLimit n) = RangeCause o (EdgeLimit n)
OpenCause o (Memory _) = IsInRange o

-- a service that was just opened: no edges, all levels 0, no phases, and nothing shown
abbrev pub opened : TableId → Options → ServiceView
opened table o = record { table = table; vertices = o.vertices; state = start o.profile o.vertices 0; history = []; edge_limit = o.edge_limit; halted = false }
