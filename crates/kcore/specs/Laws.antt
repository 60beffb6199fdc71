-- Laws of the texts; each is the contract of a function in `laws`.
use Rattle.std.specs.Prelude.{ℕ, ◌≡◌, ◌≤◌, ◌<◌, ◌*◌, Bool, List, ◌++◌, All, get_or}
use Rattle.kc_levels.specs.declared.profile.Profile.{Profile}
use Rattle.kc_levels.specs.declared.profile.Profile.TheVariants.{Two}
use Rattle.kc_levels.specs.declared.thresholds.Estimate.{Estimate}
use Rattle.kc_levels.specs.LevelList.{MeetsBoth}
use Rattle.kc_history.specs.declared.replies.Reply.{Reply}
use Rattle.kc_history.specs.Replies.{AreExplained}
use Rattle.kc_bound.specs.Cores.{IsCoreness}
use Rattle.kc_dense.specs.Dense.{IsHalfAsDenseAsAny}
use Rattle.kc_batch.specs.declared.batch.Next.{Next}
use Rattle.kc_batch.specs.HeaderShape.{HeaderShape}
use Rattle.kc_batch.specs.BatchInputs.{BatchInput, WithBatches, HeaderRefused}
use Rattle.kc_engine.specs.States.{State}
use Rattle.kc_session.specs.States.{start, Step, AreSteps, last_state, history_of}
use Rattle.kc_session.specs.Asking.{Fit}
use Rattle.kc_session.specs.ReaderLines.{reader_lines}
use Rattle.kcore.specs.Inputs.{input_said}
use Rattle.kcore.specs.RunText.{IsRun, IsRunText}
use Rattle.kcore.specs.Corenesses.{AreCorenesses}
use Rattle.kcore.specs.ExactText.{printed_of}
use Rattle.kcore.specs.DenseText.{AreMembers}
use Rattle.kcore.specs.Points.{AreNearAtEachPoint, ArePoints}

-- each input has a text of a run
abbrev pub InputHasText : Type 0
InputHasText = (bytes : List ℕ) → (text : List ℕ) × ((refused : Bool) × IsRunText (input_said bytes) text refused)

-- a header with batches has exactly one list of steps, one for each batch; so it has one history, that of these steps
pub record HasOneHistory (header : HeaderShape) (batches : List Next) : Type 0 where
  pub steps : List Step
  pub are_steps : AreSteps (start header.profile header.n) batches steps
  pub only : (others : List Step) → AreSteps (start header.profile header.n) batches others → others ≡ steps

abbrev pub HasHistory : BatchInput → Type 0
HasHistory (HeaderRefused line) = Unit {0}
HasHistory (WithBatches header batches) = HasOneHistory header batches

-- each input has exactly one history
abbrev pub InputHasOneHistory : Type 0
InputHasOneHistory = (bytes : List ℕ) → HasHistory (input_said bytes)

-- each list of replies that fits the asks of an input, and that the history of its batches explains, has a text
abbrev pub TakesReplies : BatchInput → Type 0
TakesReplies (HeaderRefused line) = Unit {0}
TakesReplies (WithBatches header batches) =
    (steps : List Step) (replies : List (List Reply)) → AreSteps (start header.profile header.n) batches steps
    → Fit header.asks replies → All (AreExplained header.n (history_of steps) 0) replies
    → (text : List ℕ) × ((refused : Bool) × IsRun header batches replies text refused)

abbrev pub RepliesHaveText : Type 0
RepliesHaveText = (bytes : List ℕ) → TakesReplies (input_said bytes)

-- two texts that differ in the lines of the readers alone
pub record AreAlike (replies others : List (List Reply)) (text other : List ℕ) : Type 0 where
  pub first : List ℕ
  pub last : List ℕ
  pub one : text ≡ first ++ (reader_lines 0 replies ++ last)
  pub two : other ≡ first ++ (reader_lines 0 others ++ last)

-- two texts of runs of an input differ in the lines of the readers alone, and both say the same about refusal
--
-- So with the same replies they are one text.
abbrev pub HasTextsAlike : BatchInput → Type 0
HasTextsAlike (HeaderRefused line) = Unit {0}
HasTextsAlike (WithBatches header batches) =
    (replies others : List (List Reply)) (text other : List ℕ) (x y : Bool) → IsRun header batches replies text x → IsRun header batches others other y
    → AreAlike replies others text other × (x ≡ y)

abbrev pub TextsAreAlike : Type 0
TextsAreAlike = (bytes : List ℕ) → HasTextsAlike (input_said bytes)

-- each input has exactly one text, and it is refused or it isn't
abbrev pub HasOneText : (BatchInput → List ℕ → Bool → Type 0) → Type 0
HasOneText IsText =
    (bytes : List ℕ) →
    (text : List ℕ) × ((refused : Bool) × (IsText (input_said bytes) text refused
    × ((a : List ℕ) (x : Bool) → IsText (input_said bytes) a x → (a ≡ text) × (x ≡ refused))))

-- the states of an input are points of its history
abbrev pub HasPoints : BatchInput → Type 0
HasPoints (HeaderRefused line) = Unit {0}
HasPoints (WithBatches header batches) =
    (steps : List Step) → AreSteps (start header.profile header.n) batches steps → ArePoints header.profile header.n steps

abbrev pub StatesArePoints : Type 0
StatesArePoints = (bytes : List ℕ) → HasPoints (input_said bytes)

-- at each point of the history both invariants hold, and the levels are near the coreness
--
-- This includes the points between two groups of one phase.
abbrev pub IsNearThroughout : BatchInput → Type 0
IsNearThroughout (HeaderRefused line) = Unit {0}
IsNearThroughout (WithBatches header batches) =
    (steps : List Step) → AreSteps (start header.profile header.n) batches steps → AreNearAtEachPoint header.profile header.n steps

abbrev pub EachPointIsNear : Type 0
EachPointIsNear = (bytes : List ℕ) → IsNearThroughout (input_said bytes)

-- both invariants hold in a state with this profile, and the printed numbers of each vertex bound its coreness
--
-- In the second profile the coreness is also at most twice the estimate.
pub record HoldsIn (p : Profile) (s : State) : Type 0 where
  pub profile : s.profile ≡ p
  pub both : MeetsBoth s.profile s.graph s.levels
  pub low : (v c : ℕ) → IsCoreness s.graph v c → (printed_of s v).lo ≤ c
  pub high : (v c : ℕ) → IsCoreness s.graph v c → c ≤ (printed_of s v).hi
  pub estimate : (v c : ℕ) → IsCoreness s.graph v c → (printed_of s v).est ≤ 2 * c
  pub near : (v c : ℕ) → IsCoreness s.graph v c → c ≤ 3 * (printed_of s v).est
  pub nearer : p ≡ Two → (v c : ℕ) → IsCoreness s.graph v c → c ≤ 2 * (printed_of s v).est

-- these facts hold in each state of an input: the first, and the one after each batch
abbrev pub HoldsThroughout : BatchInput → Type 0
HoldsThroughout (HeaderRefused line) = Unit {0}
HoldsThroughout (WithBatches header batches) =
    (steps : List Step) → AreSteps (start header.profile header.n) batches steps
    → HoldsIn header.profile (start header.profile header.n) × All (λ (t : Step). HoldsIn header.profile t.state) steps

abbrev pub EachStateHolds : Type 0
EachStateHolds = (bytes : List ℕ) → HoldsThroughout (input_said bytes)

-- an estimate printed in this profile, and its bounds, fit a printed coreness
pub record FitsCoreness (p : Profile) (printed : Estimate) (coreness : ℕ) : Type 0 where
  pub low : printed.lo ≤ coreness
  pub high : coreness ≤ printed.hi
  pub estimate : printed.est ≤ 2 * coreness
  pub near : coreness ≤ 3 * printed.est
  pub nearer : p ≡ Two → coreness ≤ 2 * printed.est

-- the printed numbers fit the coreness on the line of each vertex in the exact text of an input
abbrev pub FitsExactly : BatchInput → Type 0
FitsExactly (HeaderRefused line) = Unit {0}
FitsExactly (WithBatches header batches) =
    (steps : List Step) → AreSteps (start header.profile header.n) batches steps
    → (corenesses : List ℕ) → AreCorenesses (last_state (start header.profile header.n) steps).graph corenesses
    → (v : ℕ) → v < header.n → FitsCoreness header.profile (printed_of (last_state (start header.profile header.n) steps) v) (get_or corenesses v 0)

-- no set of vertices has more than twice as many edges per vertex as the members of the dense text of an input
abbrev pub HasHalfDensity : BatchInput → Type 0
HasHalfDensity (HeaderRefused line) = Unit {0}
HasHalfDensity (WithBatches header batches) =
    (steps : List Step) → AreSteps (start header.profile header.n) batches steps
    → (members : List ℕ) → AreMembers (last_state (start header.profile header.n) steps).graph members
    → IsHalfAsDenseAsAny (last_state (start header.profile header.n) steps).graph members
