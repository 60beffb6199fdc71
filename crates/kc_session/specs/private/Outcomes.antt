-- The result of a batch without a fault.
use Rattle.std.specs.Prelude.{◌≡◌, List, Option, Some, None}
use Rattle.kc_graph.specs.declared.cleaning.Cleaned.{Cleaned}
use Rattle.kc_graph.specs.declared.items.Item.{Item}
use Rattle.kc_graph.specs.Cleaning.{cleaned}
use Rattle.kc_text.specs.declared.reason.Reason.{Reason}
use Rattle.kc_engine.specs.declared.faults.EngineFault.{EngineFault}
use Rattle.kc_engine.specs.States.{State}
use Rattle.kc_engine.specs.Batches.{IsAfterPhases}
use Rattle.kc_history.specs.declared.entries.Entry.{Entry}
use Rattle.kc_groups.specs.Entries.{entries_in}
use Rattle.kc_session.specs.declared.applying.Outcome.{Outcome}
use Rattle.kc_session.specs.declared.applying.Outcome.TheVariants.{Accepted, Refused}
use Rattle.kc_session.specs.declared.watched.Watched.{Watched}
use Rattle.kc_session.specs.private.Audiences.{longer, shown_to}
use Rattle.kc_session.specs.States.{refusal_of, reason_of}

-- a batch with the cleaning c is refused in the state s for this reason, and leaves the state t
pub record IsRefusedFor (s : State) (c : Cleaned) (reason : Reason) (t : State) : Type 0 where
  pub fault : EngineFault
  pub refused : refusal_of s c ≡ Some fault
  pub word : reason ≡ reason_of fault
  pub same : t ≡ s

-- a batch with the cleaning c in the state s has this outcome, and leaves the state t
--
-- The history h, if there is one, grew to i by the entries of the batch.
abbrev pub Becomes : State → Cleaned → Outcome → State → Option (List Entry) → Option (List Entry) → Type 0
Becomes s c (Accepted d plan) t h i = (refusal_of s c ≡ None) × (d ≡ c) × IsAfterPhases s c t plan.phases × (i ≡ longer h (entries_in plan.phases))
Becomes s c (Refused reason) t h i = IsRefusedFor s c reason t × (i ≡ h)

-- a batch with these items was applied to an engine beside its audience, with this outcome (`Becomes`)
abbrev pub Applies : Watched → List Item → Outcome → Watched → Type 0
Applies w items o x = Becomes w.engine.state (cleaned w.engine.state.graph items) o x.engine.state (shown_to w.audience) (shown_to x.audience)
