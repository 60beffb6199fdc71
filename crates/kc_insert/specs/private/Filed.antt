-- Which vertices wait when a sweep begins.
use Rattle.std.specs.Prelude.{All, ℕ, ◌+◌, ◌-◌, ◌≤◌, ◌<◌, ◌≡◌, ◌≢◌, ◌==◌, ◌&&◌, ◌⊎◌, ◌++◌, ◌∷◌, ◌^◌, not, nat_lt, cond, true, false, List, [], length, get_or, set}
use Rattle.kc_graph.specs.Numbers.{has_number}
use Rattle.kc_graph.specs.Shape.{neighbours_of}
use Rattle.kc_levels.specs.declared.moves.Move.{Move}
use Rattle.kc_levels.specs.declared.profile.Profile.{Profile}
use Rattle.kc_levels.specs.Thresholds.{high, group_of, top_level}
use Rattle.kc_levels.specs.LevelList.{IsCapped}
use Rattle.kc_levels.specs.private.Following.{IsCopied}
use Rattle.kc_insert.specs.declared.counted.Counted.{Counted}
use Rattle.kc_insert.specs.Ranges.{counts_of, Cut, IsCut, HasVertex, Part, waits, Watch}
use Rattle.kc_insert.specs.private.Ranges.{IsSameCut}
use Rattle.kc_insert.specs.private.Watched.{count_at}

-- v counts `own` from now on, and waits on its level by y if it counted otherwise before and its group allows fewer
pub record HasFollowed (p : Profile) (n : ℕ) (y : List ℕ) (v own : ℕ) (old new : Watch) (first queue : List (List ℕ)) : Type 0 where
  pub counts : new ≡ record old { counts = set old.counts (v - old.first) own }
  pub waits : queue ≡ cond (not (count_at old v == own) && nat_lt (high p (group_of p n (get_or y v 0))) own) (set first (get_or y v 0) (get_or first (get_or y v 0) [] ++ v ∷ [])) first

-- v is a vertex of the range, on a level that there is and that has a list of waiting vertices
pub record CanFollowOne (p : Profile) (n : ℕ) (y fresh : List ℕ) (v : ℕ) (old : Watch) (first : List (List ℕ)) : Type 0 where
  pub held : HasVertex old v
  pub inside : (v < length y) × (v < length fresh)
  pub level : get_or y v 0 ≤ top_level p n
  pub room : get_or y v 0 < length first

-- the first i vertices of the range count afresh. Each of them waits if it counted otherwise before and counts more
-- than its group allows. A vertex that waited waits still. All others that wait are of the range, on their levels by y.
pub record HaveFiled (p : Profile) (n : ℕ) (y fresh : List ℕ) (i : ℕ) (old new : Watch) (first queue : List (List ℕ)) : Type 0 where
  pub watch : new ≡ record old { counts = new.counts }
  pub sized : length new.counts ≡ length old.counts
  pub counts : (v : ℕ) → old.first ≤ v → v < old.first + i → count_at new v ≡ get_or fresh v 0
  pub later : (v : ℕ) → old.first + i ≤ v → count_at new v ≡ count_at old v
  pub buckets : length queue ≡ length first
  pub still : (k u : ℕ) → has_number u (get_or first k []) ≡ true → has_number u (get_or queue k []) ≡ true
  pub only : (k u : ℕ) → has_number u (get_or queue k []) ≡ true → (has_number u (get_or first k []) ≡ true) ⊎ (HasVertex old u × (get_or y u 0 ≡ k))
  pub found : (u : ℕ) → old.first ≤ u → u < old.first + i → count_at old u ≢ get_or fresh u 0 → high p (group_of p n (get_or y u 0)) < get_or fresh u 0 → has_number u (get_or queue (get_or y u 0) []) ≡ true

-- the range is of the vertices of the list, each of which has a level that there is
pub record CanFollow (p : Profile) (n : ℕ) (y fresh : List ℕ) (old : Part) : Type 0 where
  pub inside : (v : ℕ) → HasVertex old.watch v → v < length fresh
  pub few : length fresh ≤ 2 ^ 24
  pub levels : (length y ≡ length fresh) × (n ≡ length fresh) × IsCapped p n y
  pub room : top_level p n < length old.queue

-- all vertices of the range count afresh
pub record HasFiled (p : Profile) (n : ℕ) (y fresh : List ℕ) (old new : Part) : Type 0 where
  pub part : new ≡ record old { watch = new.watch; queue = new.queue }
  pub filed : HaveFiled p n y fresh (length old.watch.counts) old.watch new.watch old.queue new.queue

-- each vertex that waits does so on its level. A vertex waits if it counts more neighbours by `fresh` than its group
-- allows, unless its place in `counts` is as in `before`.
pub record IsFiling (p : Profile) (n : ℕ) (y fresh before counts : List ℕ) (queue : ℕ → List ℕ) : Type 0 where
  pub waiting : (k v : ℕ) → has_number v (queue k) ≡ true → (v < n) × (get_or y v 0 ≡ k)
  pub found : (v : ℕ) → v < n → (has_number v (queue (get_or y v 0)) ≡ true) ⊎ ((get_or fresh v 0 ≤ high p (group_of p n (get_or y v 0))) ⊎ (get_or counts v 0 ≡ get_or before v 0))

-- the vertices of the list are cut, each has a level that there is, and each level has a list
pub record CanFile (p : Profile) (n : ℕ) (y fresh : List ℕ) (old : Cut) : Type 0 where
  pub few : length fresh ≤ 2 ^ 24
  pub levels : (length y ≡ length fresh) × (n ≡ length fresh) × IsCapped p n y
  pub cut : IsCut (length fresh) (top_level p n + 1) old

-- all vertices but those that are spared count afresh, and wait if they count otherwise than before and more than their
-- groups allow
pub record HaveCounted (p : Profile) (n : ℕ) (y fresh : List ℕ) (spared : ℕ → Type 0) (old new : Cut) : Type 0 where
  pub same : IsSameCut old new
  pub copied : IsCopied fresh (counts_of old) (counts_of new) spared
  pub filing : (before : List ℕ) → IsFiling p n y fresh before (counts_of old) (waits old) → IsFiling p n y fresh before (counts_of new) (waits new)

-- all vertices but those that are spared count afresh, however many levels there are, and all else is as before
pub record AreCopied (fresh : List ℕ) (spared : ℕ → Type 0) (old new : Cut) : Type 0 where
  pub same : IsSameCut old new
  pub queues : (j : ℕ) (d : Part) → j < length old.parts → (get_or new.parts j d).queue ≡ (get_or old.parts j d).queue
  pub copied : (levels : ℕ) → IsCut (length fresh) levels old → IsCopied fresh (counts_of old) (counts_of new) spared

-- the vertex v and its neighbours count as in the graph, and all others as before
abbrev pub IsRowCopied : Counted → ℕ → Cut → Cut → Type 0
IsRowCopied fresh v old new = AreCopied fresh.counts.now (λ u. (u ≢ v) × (has_number u (neighbours_of v fresh.graph.now.edges) ≡ false)) old new

-- the vertices that moved and their neighbours count as in the graph, and all others as before
abbrev pub AreRowsCopied : Counted → List Move → Cut → Cut → Type 0
AreRowsCopied fresh moves old new = AreCopied fresh.counts.now (λ u. All (λ (m : Move). (u ≢ m.vertex) × (has_number u (neighbours_of m.vertex fresh.graph.now.edges) ≡ false)) moves) old new

-- what contracts see of a `Fresh`: the scale, the levels, and the counts in the graph
pub record Following : Type 0 where
  pub profile : Profile
  pub vertices : ℕ
  pub levels : List ℕ
  pub counts : List ℕ

-- the same for a `Following`
abbrev pub MayFile : Following → Cut → Type 0
MayFile f old = CanFile f.profile f.vertices f.levels f.counts old

abbrev pub AreFiled : Following → (ℕ → Type 0) → Cut → Cut → Type 0
AreFiled f spared old new = HaveCounted f.profile f.vertices f.levels f.counts spared old new

abbrev pub MayFollow : Following → Part → Type 0
MayFollow f old = CanFollow f.profile f.vertices f.levels f.counts old

abbrev pub HasFollowedAll : Following → Part → Part → Type 0
HasFollowedAll f old new = HasFiled f.profile f.vertices f.levels f.counts old new

-- in each range all vertices count afresh
abbrev pub AllFollowed : Following → List Part → List Part → Type 0
AllFollowed f old new = (length new ≡ length old) × ((j : ℕ) (d : Part) → j < length old → HasFollowedAll f (get_or old j d) (get_or new j d))

abbrev pub MayFollowOne : Following → ℕ → Watch → List (List ℕ) → Type 0
MayFollowOne f v old first = CanFollowOne f.profile f.vertices f.levels f.counts v old first

abbrev pub HasFollowedOne : Following → ℕ → Watch → Watch → List (List ℕ) → List (List ℕ) → Type 0
HasFollowedOne f v old new first queue = HasFollowed f.profile f.vertices f.levels v (get_or f.counts v 0) old new first queue

abbrev pub HaveFollowed : Following → ℕ → Watch → Watch → List (List ℕ) → List (List ℕ) → Type 0
HaveFollowed f i old new first queue = HaveFiled f.profile f.vertices f.levels f.counts i old new first queue
