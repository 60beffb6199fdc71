-- The history that is shown to an audience.
use Rattle.std.specs.Prelude.{◌≡◌, List, ◌++◌, Option, Some, None}
use Rattle.std.specs.Option.{option_map}
use Rattle.kc_graph.specs.declared.cleaning.Cleaned.{Cleaned}
use Rattle.kc_graph.specs.declared.limits.TheConstants.{MAX_EDGES}
use Rattle.kc_history.specs.declared.entries.Entry.{Entry}
use Rattle.kc_groups.specs.declared.plans.PhasePlan.{PhasePlan}
use Rattle.kc_store.specs.Seats.{StoreShape, WriterShape}
use Rattle.kc_engine.specs.States.{State, IsSound}
use Rattle.kc_engine.specs.Batches.{IsCleaning, IsAfterPhases}
use Rattle.kc_engine.specs.Showing as showing
use Rattle.kc_session.specs.declared.audience.Audience.{Audience}
use Rattle.kc_session.specs.declared.audience.Audience.TheVariants.{Readers, Nobody}

-- the store in which the audience looks levels up, if there is one, and the store's writer
abbrev pub store_of : Audience → Option StoreShape
store_of (Readers store writer) = Some store.now
store_of Nobody = None

abbrev pub writer_of : Audience → Option WriterShape
writer_of (Readers store writer) = Some writer
writer_of Nobody = None

-- the history that was shown to the audience, if there is one
abbrev pub shown_to : Audience → Option (List Entry)
shown_to (Readers store writer) = Some writer.state.history
shown_to Nobody = None

-- the audience is up to date with this state: everything that led to it was shown
abbrev pub IsAbreast : Audience → State → Type 0
IsAbreast (Readers store writer) s = (writer.table ≡ store.now.table) × showing.IsAbreast writer.state s
IsAbreast Nobody s = Unit {0}

-- a history and these entries after it, if there is a history
abbrev pub longer : Option (List Entry) → List Entry → Option (List Entry)
longer history entries = option_map (λ es. es ++ entries) history

-- these are the phases of a batch that leads to the state t, and the audience is up to date with the state before it
pub record LeadOver (a : Audience) (plans : List PhasePlan) (t : State) : Type 0 where
  pub before : State
  pub batch : Cleaned
  pub sound : IsSound MAX_EDGES before
  pub cleaning : IsCleaning before.graph batch
  pub after : IsAfterPhases before batch t plans
  pub abreast : IsAbreast a before
