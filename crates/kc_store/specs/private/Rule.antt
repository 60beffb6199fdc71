-- The store's rule: what holds between any two steps, of the words and of the state of each seat.
--
-- For n vertices the table has 3 * n + 1 words:
--
--     0               the number of phases begun
--     v + 1           the mark of vertex v, packed: its new level, and label and phase of the group with which
--                     it moves; the phase is 0 if v doesn't move
--     n + 1 + g       the stamp of label g: the phase in which a group of this label was published last, or 0
--     2 * n + 1 + v   the old level of vertex v
--
-- `history` is the writer's, and `rest` the groups of the open phase that aren't published yet. The number of the open
-- phase is p, and ws are the words.
use Rattle.std.specs.Prelude.{◌≡◌, ◌≢◌, ◌⊎◌, ℕ, ◌+◌, ◌*◌, ◌^◌, ◌<◌, ◌≤◌, true, false, List, [], ◌∷◌, ◌++◌, length, drop, take, slice_index, Option, Some, None, Contains}
use Rattle.std.specs.List.{slice_get}
use mathlib.Core.Option.{some}
use mathlib.Core.List.{IsPrefix}
use lib.ListN.{get_elem?}
use Rattle.atomic_table.specs.Table.{State}
use Rattle.kc_words.specs.declared.marks.Mark.{Mark}
use Rattle.kc_words.specs.Packed.{unpacked}
use Rattle.kc_history.specs.declared.limits.TheConstants.{MAX_PHASE}
use Rattle.kc_graph.specs.declared.limits.TheConstants.{MAX_VERTICES}
use Rattle.kc_history.specs.declared.entries.Entry.{Entry}
use Rattle.kc_history.specs.Ends.{last_move}
use Rattle.kc_history.specs.private.Ends.{level_of, stamp_of, phases_in}
use Rattle.kc_groups.specs.declared.plans.PhasePlan.{PhasePlan}
use Rattle.kc_groups.specs.Entries.{entries_of, entries_in}
use Rattle.kc_store.specs.declared.roles.WriterState.{WriterState}
use Rattle.kc_store.specs.declared.roles.Loan.{Loan}
use Rattle.kc_store.specs.declared.roles.MarkerState.{MarkerState}
use Rattle.kc_store.specs.declared.roles.Pending.{Pending}
use Rattle.kc_store.specs.declared.roles.Role.{Role}
use Rattle.kc_store.specs.declared.roles.Role.TheVariants.{Spent, Writes, Marks, Reads, Looks, FoundBelow}
use Rattle.kc_store.specs.Plans.{Move, IsFormed}
use Rattle.kc_store.specs.private.Plans.{group_of}
use Rattle.kc_store.specs.States.{empty_plan}

-- a group that is not published yet: its vertices are on their old levels
pub record Waits (n phase : ℕ) (history : List Entry) (e : Entry) : Type 0 where
  pub phase_is : e.phase ≡ phase
  pub label : ℕ
  pub label_is : e.label ≡ Some label
  pub label_in : label < n
  pub older : stamp_of 0 history label < phase
  pub moves : (v : ℕ) (m : Move) → last_move v e.moves ≡ Some m → (v < n) × (level_of 0 history v ≡ m.old) × (m.old ≢ m.new)

abbrev pub AllWait : ℕ → ℕ → List Entry → List Entry → Type 0
AllWait n phase history [] = Unit {0}
AllWait n phase history (e ∷ es) = Waits n phase history e × AllWait n phase history es

-- two groups have different labels, and no vertex in common
pub record AreApart (e f : Entry) : Type 0 where
  pub labels : e.label ≢ f.label
  pub vertices : (v : ℕ) (m : Move) → last_move v f.moves ≡ Some m → last_move v e.moves ≡ None

abbrev pub ApartFrom : Entry → List Entry → Type 0
ApartFrom e [] = Unit {0}
ApartFrom e (f ∷ fs) = AreApart e f × ApartFrom e fs

abbrev pub AllApart : List Entry → Type 0
AllApart [] = Unit {0}
AllApart (e ∷ es) = ApartFrom e es × AllApart es

-- the mark u of v is of a move of a group that is not published yet
--
-- v is on the old level of this move, and its old-level word o has that level.
pub record IsUnpublished (history rest : List Entry) (p v : ℕ) (u : Mark) (o : ℕ) : Type 0 where
  pub phase_is : u.phase ≡ p
  pub group : Entry
  pub group_is : group_of u.label rest ≡ Some group
  pub move : Move
  pub move_is : last_move v group.moves ≡ Some move
  pub new_is : move.new ≡ u.new
  pub level_is : level_of 0 history v ≡ move.old
  pub old_is : o ≡ move.old

-- v has the mark u and the old-level word o
--
-- If the stamp is at least the mark's phase, v is on the new level. That is always so if the mark's phase is 0.
pub record Fits (n : ℕ) (history rest : List Entry) (p v : ℕ) (u : Mark) (o : ℕ) : Type 0 where
  pub label_in : u.label < n
  pub shown : u.phase ≤ stamp_of 0 history u.label → level_of 0 history v ≡ u.new
  pub unpublished : stamp_of 0 history u.label < u.phase → IsUnpublished history rest p v u o

-- the word w has the mark of the move of v, if v moves in a group that is not published yet
abbrev pub IsMarked : List Entry → ℕ → ℕ → ℕ → Type 0
IsMarked rest p v w = (g : ℕ) (e : Entry) (m : Move) → group_of g rest ≡ Some e → last_move v e.moves ≡ Some m → unpacked w ≡ record { new = m.new; label = g; phase = p }

-- the word o is the old level of the move of v, if v moves in a group that is not published yet
abbrev pub IsNoted : List Entry → ℕ → ℕ → Type 0
IsNoted rest v o = (g : ℕ) (e : Entry) (m : Move) → group_of g rest ≡ Some e → last_move v e.moves ≡ Some m → o ≡ m.old

-- no group that is not published yet moves v
abbrev pub IsUnmoved : List Entry → ℕ → Type 0
IsUnmoved rest v = (g : ℕ) (e : Entry) → group_of g rest ≡ Some e → last_move v e.moves ≡ None

abbrev pub AllNoted : ℕ → List Entry → List ℕ → List ℕ → Type 0
AllNoted n rest ws vs = (v : ℕ) → Contains vs v → (v < n) × IsNoted rest v (slice_index ws (2 * n + 1 + v))

abbrev pub AllMarked : List Entry → ℕ → List ℕ → List ℕ → Type 0
AllMarked rest p ws vs = (v : ℕ) → Contains vs v → IsMarked rest p v (slice_index ws (v + 1))

abbrev pub AllCleared : ℕ → List Entry → List ℕ → List ℕ → Type 0
AllCleared n rest ws vs = (v : ℕ) → Contains vs v → (v < n) × IsUnmoved rest v × ((unpacked (slice_index ws (v + 1))).phase ≡ 0)

-- each marked move is noted
abbrev pub AreMarkedNoted : List ℕ → List ℕ → Type 0
AreMarkedNoted marked noted = (v : ℕ) → Contains marked v → Contains noted v

-- the words are as the writer, or a marker, left them that noted, marked and cleared the moves of these vertices
pub record MarksHold (n : ℕ) (rest : List Entry) (p : ℕ) (ws noted marked cleared : List ℕ) : Type 0 where
  pub notes : AllNoted n rest ws noted
  pub marks : AllMarked rest p ws marked
  pub marks_noted : AreMarkedNoted marked noted
  pub clears : AllCleared n rest ws cleared

-- the stamps are those of the history, and none is above the number of the open phase
pub record StampsHold (n : ℕ) (history : List Entry) (p : ℕ) (ws : List ℕ) : Type 0 where
  pub words : (g : ℕ) → g < n → slice_index ws (n + 1 + g) ≡ stamp_of 0 history g
  pub below : (g : ℕ) → stamp_of 0 history g ≤ p

-- the groups that are not published yet wait, and no two of them have a label or a vertex in common
pub record RestHolds (n : ℕ) (history rest : List Entry) (p : ℕ) : Type 0 where
  pub waiting : AllWait n p history rest
  pub apart : AllApart rest

-- the facts that hold of the words
pub record Facts (n : ℕ) (history rest : List Entry) (p : ℕ) (ws : List ℕ) : Type 0 where
  pub sized : length ws ≡ 3 * n + 1
  pub small : n ≤ MAX_VERTICES
  pub phase_is : slice_index ws 0 ≡ p
  pub phase_in : p ≤ MAX_PHASE
  pub stamps : StampsHold n history p ws
  pub groups : RestHolds n history rest p
  pub vertices : (v : ℕ) → v < n → Fits n history rest p v (unpacked (slice_index ws (v + 1))) (slice_index ws (2 * n + 1 + v))
  pub olds : (v : ℕ) → v < n → slice_index ws (2 * n + 1 + v) < 2 ^ 16

-- a packed word that any seat may store for v beside its old-level word o
pub record IsSoundMark (n : ℕ) (history rest : List Entry) (p v w o : ℕ) : Type 0 where
  pub fits : Fits n history rest p v (unpacked w) o
  pub marked : IsMarked rest p v w
  pub cleared : IsUnmoved rest v → (unpacked w).phase ≡ 0

-- an old level that any seat may store for v
pub record IsSoundOld (history : List Entry) (v o : ℕ) : Type 0 where
  pub level_is : level_of 0 history v ≡ o
  pub short : o < 2 ^ 16

-- v has the level l at some point of the history that is not before the end of `from`
pub record Reaches (from history : List Entry) (v l : ℕ) : Type 0 where
  pub point : List Entry
  pub after : IsPrefix from point
  pub within : IsPrefix point history
  pub level_is : level_of 0 point v ≡ l

-- the facts of a pass between two loads of a read
pub record IsReading (n : ℕ) (history : List Entry) (q : Pending) : Type 0 where
  pub seen_in : IsPrefix q.seen q.from
  pub from_in : IsPrefix q.from history
  pub made_in : q.made ≤ length q.seen
  pub vertices_is : q.vertices ≡ n
  pub inside : q.vertex < n

-- the facts that a pass has after its first load
pub record LookHolds (n : ℕ) (history rest : List Entry) (p : ℕ) (ws : List ℕ) (q : Pending) : Type 0 where
  pub reading : IsReading n history q
  pub label_in : (unpacked q.word).label < n
  pub shown : (unpacked q.word).phase ≤ stamp_of 0 history (unpacked q.word).label → Reaches q.from history q.vertex (unpacked q.word).new
  pub unpublished : stamp_of 0 history (unpacked q.word).label < (unpacked q.word).phase → IsUnpublished history rest p q.vertex (unpacked q.word) (slice_index ws (2 * n + 1 + q.vertex))

-- the facts of a pass that found the stamp below the word's phase
--
-- The old-level word is the level of the vertex at some point since the pass's first load.
pub record BelowHolds (n : ℕ) (history : List Entry) (ws : List ℕ) (q : Pending) : Type 0 where
  pub reading : IsReading n history q
  pub old : Reaches q.from history q.vertex (slice_index ws (2 * n + 1 + q.vertex))

abbrev pub AllBegin : List Entry → List (List Entry) → Type 0
AllBegin history [] = Unit {0}
AllBegin history (k ∷ ks) = IsPrefix k history × AllBegin history ks

-- the groups that are not published yet
abbrev pub rest_of : WriterState → List Entry
rest_of s = drop s.published s.plan.groups

-- the vertices of the published groups are on their new levels
abbrev pub AllShown : List Entry → List Entry → ℕ → Type 0
AllShown history groups count = (k : ℕ) (e : Entry) (v : ℕ) (m : Move) → k < count → slice_get groups k ≡ Some e → last_move v e.moves ≡ Some m → level_of 0 history v ≡ m.new

-- plans of consecutive phases after phase `before`, each well formed
abbrev pub AllFormed : ℕ → ℕ → List PhasePlan → Type 0
AllFormed n before [] = Unit {0}
AllFormed n before (plan ∷ plans) = IsFormed n (before + 1) plan × AllFormed n (before + 1) plans

-- a history is whole phases, and then the quiet entry and the first groups of the open phase, if there is one
--
-- The phases are consecutive, and their plans well formed.
abbrev pub IsGrown : ℕ → ℕ → List Entry → PhasePlan → ℕ → Type 0
IsGrown n before history plan count =
    ((history ≡ []) × (plan ≡ empty_plan before) × (count ≡ 0))
    ⊎ ((whole : List PhasePlan) × AllFormed n before (whole ++ plan ∷ []) × (history ≡ entries_in whole ++ take (count + 1) (entries_of plan)))

-- the plan of the open phase is well formed, and the vertices of its first `count` groups are on their new levels
pub record PlanHolds (n phase : ℕ) (history : List Entry) (plan : PhasePlan) (count : ℕ) : Type 0 where
  pub formed : IsFormed n phase plan
  pub published_in : count ≤ length plan.groups
  pub shown : AllShown history plan.groups count

-- the facts that hold of the words and of the writer's state
pub record WriterHolds (n : ℕ) (s : WriterState) (ws : List ℕ) : Type 0 where
  pub vertices_is : s.vertices ≡ n
  pub phases_are : s.phase ≡ s.before + phases_in s.history
  pub grown : IsGrown n s.before s.history s.plan s.published
  pub facts : Facts n s.history (rest_of s) s.phase ws
  pub plan : PlanHolds n s.phase s.history s.plan s.published
  pub marks : MarksHold n (rest_of s) s.phase ws s.noted s.marked s.cleared
  pub begin : AllBegin s.history s.joined

-- the facts that hold of a marker that is out, if the writer has these loans, plan and number of published groups
pub record MarkerHolds (n : ℕ) (loans : List Loan) (lent phase : ℕ) (plan : PhasePlan) (published : ℕ) (ws : List ℕ) (m : MarkerState) : Type 0 where
  pub listed : Contains loans m.loan
  pub number_in : m.loan.number < lent
  pub vertices_is : m.vertices ≡ n
  pub phase_is : m.phase ≡ phase
  pub plan_is : m.plan ≡ plan
  pub early : m.loan.published ≡ false → published ≤ m.loan.group
  pub late : m.loan.published ≡ true → m.loan.group < published
  pub marks : MarksHold n (drop published plan.groups) phase ws m.noted m.marked m.cleared

-- the facts that hold of the seat j, if the writer has seat `writer` and the state s
abbrev pub SeatHolds : ℕ → WriterState → ℕ → List ℕ → ℕ → Role → Type 0
SeatHolds n s writer ws j Spent = Unit {0}
SeatHolds n s writer ws j (Writes t) = (j ≡ writer) × (t ≡ s)
SeatHolds n s writer ws j (Marks m) = MarkerHolds n s.loans s.lent s.phase s.plan s.published ws m
SeatHolds n s writer ws j (Reads vertices seen made) = (vertices ≡ n) × IsPrefix seen s.history × (made ≤ length seen)
SeatHolds n s writer ws j (Looks q) = LookHolds n s.history (rest_of s) s.phase ws q
SeatHolds n s writer ws j (FoundBelow q) = BelowHolds n s.history ws q

abbrev pub number_of : Role → Option ℕ
number_of (Marks m) = Some m.loan.number
number_of _ = None

-- no two markers have the same loan
abbrev pub AreOwnLoans : List Role → Type 0
AreOwnLoans views = (i j k : ℕ) (v w : Role) → get_elem? views i ≡ some v → get_elem? views j ≡ some w → number_of v ≡ Some k → number_of w ≡ Some k → i ≡ j

-- the rule of a table for n vertices
pub record IsKept (n : ℕ) (s : State ℕ Role) : Type 0 where
  pub state : WriterState
  pub writer : ℕ
  pub writes : WriterHolds n state s.words
  pub seats : (j : ℕ) (v : Role) → get_elem? s.views j ≡ some v → SeatHolds n state writer s.words j v
  pub own : AreOwnLoans s.views
