-- How a workspace keeps the vertices of a graph: cut into ranges that follow each other.
use Rattle.std.specs.Prelude.{ℕ, ◌+◌, ◌/◌, ◌≤◌, ◌<◌, ◌≡◌, true, false, Bool, List, [], length, get_or}
use Rattle.std.specs.List.{flat_map}
use Rattle.kc_graph.specs.Numbers.{has_number}
use Rattle.kc_graph.specs.Shape.{GraphShape, Pair}
use Rattle.kc_levels.specs.declared.profile.Profile.{Profile}
use Rattle.kc_levels.specs.Thresholds.{top_level}

-- what contracts see of a `WatchedCounts`
pub record Watch : Type 0 where
  -- the first vertex
  pub first : ℕ
  -- what each vertex counts
  pub counts : List ℕ
  -- the limit: the greatest count with which a rising vertex stays
  pub most : ℕ
  -- the watch list: the vertices whose count became the limit, and maybe others
  pub doubtful : List ℕ

-- v is one of the vertices
pub record HasVertex (w : Watch) (v : ℕ) : Type 0 where
  pub from : w.first ≤ v
  pub below : v < w.first + length w.counts

-- what contracts see of a `Told`: all that is told, in order, and the same cut by ranges
pub record Tell : Type 0 where
  pub all : List ℕ
  pub lists : List (List ℕ)

-- the range of v, of ranges of `width` vertices
abbrev pub range_of : ℕ → ℕ → ℕ
range_of width v = v / width

-- what contracts see of a `Range`
pub record Part : Type 0 where
  pub watch : Watch
  pub queue : List (List ℕ)
  pub meetings : List (List Pair)
  pub began : List ℕ
  pub risen : List ℕ
  pub stay : List ℕ
  pub begun : List ℕ
  pub tell : Tell
  pub steps : ℕ
  pub is_short : Bool

-- what contracts see of a `Ranges`
pub record Cut : Type 0 where
  pub width : ℕ
  pub parts : List Part
  pub told : List Tell

-- no range
abbrev pub no_part : Part
no_part = record { watch = record { first = 0; counts = []; most = 0; doubtful = [] }; queue = []; meetings = []; began = []; risen = []; stay = []; begun = []; tell = record { all = []; lists = [] }; steps = 0; is_short = false }

-- the range at a place
abbrev pub part_at : Cut → ℕ → Part
part_at r j = get_or r.parts j no_part

-- the range of v
abbrev pub part_of : Cut → ℕ → Part
part_of r v = part_at r (range_of r.width v)

-- how many neighbours each vertex counts
abbrev pub counts_of : Cut → List ℕ
counts_of r = flat_map (λ (p : Part). p.watch.counts) r.parts

-- v is a vertex of its range
pub record IsIn (r : Cut) (v : ℕ) : Type 0 where
  pub place : range_of r.width v < length r.parts
  pub held : HasVertex (part_of r v).watch v

-- the ranges have n vertices, each in its own range, a list for each of `levels` levels, and lists to tell all ranges
pub record IsCut (n levels : ℕ) (r : Cut) : Type 0 where
  pub wide : 0 < r.width
  pub vertex : (v : ℕ) → v < n → IsIn r v
  pub own : (j v : ℕ) → j < length r.parts → HasVertex (part_at r j).watch v → (v < n) × (range_of r.width v ≡ j)
  pub queues : (j : ℕ) → j < length r.parts → length (part_at r j).queue ≡ levels
  pub meetings : (j : ℕ) → j < length r.parts → length (part_at r j).meetings ≡ levels
  pub tells : (j : ℕ) → j < length r.parts → length (part_at r j).tell.lists ≡ length r.parts
  pub told : (length r.told ≡ length r.parts) × ((j : ℕ) (d : Tell) → j < length r.parts → length (get_or r.told j d).lists ≡ length r.parts)

-- the vertices that wait on the level
abbrev pub waits : Cut → ℕ → List ℕ
waits r k = flat_map (λ (p : Part). get_or p.queue k []) r.parts

-- the meetings on the level
abbrev pub meets : Cut → ℕ → List Pair
meets r k = flat_map (λ (p : Part). get_or p.meetings k []) r.parts

-- all that began to rise and are kept
abbrev pub all_began : Cut → List ℕ
all_began r = flat_map (λ (p : Part). p.began) r.parts

-- all that rose
abbrev pub all_risen : Cut → List ℕ
all_risen r = flat_map (λ (p : Part). p.risen) r.parts

-- between phases no vertex rises or is to be met, and the watch lists have vertices of their own ranges alone
pub record AreQuiet (p : Profile) (g : GraphShape) (r : Cut) : Type 0 where
  pub shape : IsCut g.vertices (top_level p g.vertices + 1) r
  pub none : (all_began r ≡ []) × (all_risen r ≡ []) × ((k : ℕ) → meets r k ≡ [])
  pub begun : (j : ℕ) → j < length r.parts → (part_at r j).begun ≡ []
  pub steps : (j : ℕ) → j < length r.parts → (part_at r j).steps ≡ 0
  pub inside : (j v : ℕ) → j < length r.parts → has_number v (part_at r j).watch.doubtful ≡ true → HasVertex (part_at r j).watch v
