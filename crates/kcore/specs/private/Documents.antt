-- The state after the batches of an input, and the writing of a document of it.
use Rattle.std.specs.Prelude.{ℕ, ◌≡◌, false, List, Option, Result}
use Rattle.kc_graph.specs.declared.limits.TheConstants.{MAX_EDGES}
use Rattle.kc_levels.specs.declared.profile.Profile.{Profile}
use Rattle.kc_engine.specs.Planning.{EngineView}
use Rattle.kc_engine.specs.States.{State, IsSound}
use Rattle.kc_text.specs.declared.buf.SendFault.{SendFault}
use Rattle.kc_text.specs.Writing.{Appends}

-- the engine hasn't halted, its state is sound, and its levels have the thresholds of the profile
pub record IsLast (profile : Profile) (engine : EngineView) : Type 0 where
  pub running : engine.halted ≡ false
  pub profile_is : engine.state.profile ≡ profile
  pub sound : IsSound MAX_EDGES engine.state

-- a document of a state was written, or after a fault a prefix of one
pub record WritesDocument {T : Type 0} (IsDocument : State → List ℕ → Type 0) (s : State) (before now : Option (List ℕ)) (result : Result T SendFault) : Type 0 where
  pub document : List ℕ
  pub is_document : IsDocument s document
  pub appends : Appends before now document result

-- each state has a document
abbrev pub HasDocuments : (State → List ℕ → Type 0) → Type 0
HasDocuments IsDocument = (s : State) → IsSound MAX_EDGES s → (document : List ℕ) × IsDocument s document
