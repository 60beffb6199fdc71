-- What contracts see of a service, and the results of batches.
use Rattle.std.specs.Prelude.{ℕ, ◌≡◌, ◌⊎◌, ◌<◌, ◌≤◌, Bool, true, false, List, ◌++◌, length, take, All, Option, Some, None, Result, Ok, Err}
use Rattle.std.specs.List.{HoldsAt}
use Rattle.std.specs.Io.KnownBytes.{append_known}
use Rattle.atomic_table.specs.Seated.{TableId}
use Rattle.kc_text.specs.Writing.{IsPrefix}
use Rattle.kc_text.specs.Causes.{Rose}
use Rattle.kc_graph.specs.declared.items.Item.{Item}
use Rattle.kc_graph.specs.declared.limits.TheConstants.{MAX_ITEMS}
use Rattle.kc_graph.specs.Cleaning.{IsInside, cleaned}
use Rattle.kc_history.specs.declared.entries.Entry.{Entry}
use Rattle.kc_groups.specs.Entries.{entries_in}
use Rattle.kc_store.specs.Seats.{StoreShape, WriterShape}
use Rattle.kc_engine.specs.declared.faults.EngineFault.TheVariants as engine
use Rattle.kc_engine.specs.States.{State}
use Rattle.kc_engine.specs.Batches.{refusal_of, moves_through, IsAfterPhases}
use Rattle.kc_engine.specs.Planning.{EngineView}
use Rattle.kc_cert.specs.Texts.{certificate_text}
use Rattle.kc_service.specs.declared.applied.Applied.{Applied}
use Rattle.kc_service.specs.declared.faults.ApplyFault.{ApplyFault}
use Rattle.kc_service.specs.declared.faults.ApplyFault.TheVariants.{Halted, TooMany, OutOfRange, EdgeLimit, PhaseLimit, Memory}
use Rattle.kc_service.specs.declared.faults.CorenessFault.{CorenessFault}
use Rattle.kc_service.specs.declared.faults.CorenessFault.TheVariants as coreness
use Rattle.kc_service.specs.declared.faults.CertificateFault.{CertificateFault}
use Rattle.kc_service.specs.declared.faults.CertificateFault.TheVariants as certificate

-- what contracts see of a service; once it has halted, graph and levels of the state are unspecified
pub record ServiceView : Type 0 where
  -- the table in which its levels are shown
  pub table : TableId
  pub vertices : ℕ
  pub state : State
  -- the entries of all batches, which readers see
  pub history : List Entry
  pub edge_limit : ℕ
  pub halted : Bool

-- the service of a store, an engine and a writer
abbrev pub view_of : StoreShape → EngineView → WriterShape → ServiceView
view_of s e w = record { table = s.table; vertices = s.vertices; state = e.state; history = w.state.history; edge_limit = e.edge_limit; halted = e.halted }

-- i is the index of the first item with a vertex that isn't below n
pub record IsFirstOutside (n : ℕ) (items : List Item) (i : ℕ) : Type 0 where
  pub inside : i < length items
  pub outside : HoldsAt (λ (item : Item). IsInside n item → ⊥) items i
  pub before : All (IsInside n) (take i items)

-- the items may be a batch of a service that hasn't halted
pub record IsDue (s : ServiceView) (items : List Item) : Type 0 where
  pub running : s.halted ≡ false
  pub few : length items ≤ MAX_ITEMS
  pub inside : All (IsInside s.vertices) items

-- the batch was applied: t is the service s after it
--
-- The levels are lowered and then raised (`IsAfterPhases`). Readers see the entries of the phases after those before.
pub record IsApplied (s : ServiceView) (items : List Item) (a : Applied) (t : ServiceView) : Type 0 where
  pub due : IsDue s items
  pub accepted : refusal_of s.edge_limit s.state (cleaned s.state.graph items) ≡ None
  pub after : IsAfterPhases s.state (cleaned s.state.graph items) t.state a.phases
  pub moves : a.moves ≡ moves_through s.vertices s.state.levels after.after.levels.between t.state.levels
  pub added : a.added ≡ length (cleaned s.state.graph items).added
  pub removed : a.removed ≡ length (cleaned s.state.graph items).removed
  pub rest : t ≡ record s { state = t.state; history = s.history ++ entries_in a.phases }

-- there was no memory for a batch that isn't refused, and the service has halted; readers see what they saw before
pub record IsCutOff (s : ServiceView) (items : List Item) (t : ServiceView) : Type 0 where
  pub due : IsDue s items
  pub accepted : refusal_of s.edge_limit s.state (cleaned s.state.graph items) ≡ None
  pub halted : t.halted ≡ true
  pub rest : t ≡ record s { state = t.state; halted = true }

-- the answer of `apply` to items, and the service before and after it
abbrev pub Applies : ServiceView → List Item → Result Applied ApplyFault → ServiceView → Type 0
Applies s items (Ok a) t = IsApplied s items a t
Applies s items (Err Halted) t = (s.halted ≡ true) × (t ≡ s)
Applies s items (Err (TooMany k)) t = (s.halted ≡ false) × ((k ≡ length items) × ((MAX_ITEMS < k) × (t ≡ s)))
Applies s items (Err (OutOfRange i)) t = (s.halted ≡ false) × ((length items ≤ MAX_ITEMS) × (IsFirstOutside s.vertices items i × (t ≡ s)))
Applies s items (Err (EdgeLimit edges)) t = IsDue s items × ((refusal_of s.edge_limit s.state (cleaned s.state.graph items) ≡ Some (engine.EdgeLimit edges)) × (t ≡ s))
Applies s items (Err (PhaseLimit phase)) t = IsDue s items × ((refusal_of s.edge_limit s.state (cleaned s.state.graph items) ≡ Some (engine.PhaseLimit phase)) × (t ≡ s))
Applies s items (Err (Memory error)) t = IsDue s items × ((t ≡ s) ⊎ IsCutOff s items t)

-- `coreness` answers `Halted` exactly if the service has halted
abbrev pub CorenessCause : {T : Type 0} → Bool → Result T CorenessFault → Type 0
CorenessCause halted (Ok _) = halted ≡ false
CorenessCause halted (Err coreness.Halted) = halted ≡ true
CorenessCause halted (Err (coreness.Memory _)) = halted ≡ false

-- the certificate of the state
abbrev pub text_of : State → List ℕ
text_of s = certificate_text (record { profile = s.profile; graph = s.graph; levels = s.levels })

-- the bytes that a sink took before and after `certificate`
abbrev pub Certifies : {T : Type 0} → ServiceView → Option (List ℕ) → Option (List ℕ) → Result T CertificateFault → Type 0
Certifies s before now (Ok _) = (s.halted ≡ false) × (now ≡ append_known before (text_of s.state))
Certifies s before now (Err certificate.Halted) = (s.halted ≡ true) × (now ≡ before)
Certifies s before now (Err certificate.WriteFault) = (s.halted ≡ false) × IsPrefix before now (text_of s.state)
Certifies s before now (Err (certificate.Memory _)) = (s.halted ≡ false) × IsPrefix before now (text_of s.state)

-- `WriteFault` comes only if the sink's count of faults rose, and otherwise the count stays
abbrev pub CertificateCause : {T : Type 0} → ℕ → ℕ → Result T CertificateFault → Type 0
CertificateCause before now (Ok _) = now ≡ before
CertificateCause before now (Err certificate.Halted) = now ≡ before
CertificateCause before now (Err certificate.WriteFault) = Rose before now
CertificateCause before now (Err (certificate.Memory _)) = now ≡ before
