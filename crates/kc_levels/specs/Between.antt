-- A graph with a level list that lies between two others.
use Rattle.std.specs.Prelude.{ℕ, ◌≤◌, ◌<◌, ◌≡◌, ◌⊎◌, true, List, length, get_or}
use Rattle.kc_graph.specs.Shape.{GraphShape, IsGraph, joined}
use Rattle.kc_levels.specs.declared.profile.Profile.{Profile}
use Rattle.kc_levels.specs.LevelList.{MeetsBoth}

-- the vertex v has the same level and the same neighbours on the same levels in h with y as in g with x
pub record IsAlike (g h : GraphShape) (x y : List ℕ) (v : ℕ) : Type 0 where
  pub level : get_or y v 0 ≡ get_or x v 0
  pub edges : (w : ℕ) → joined v w h.edges ≡ joined v w g.edges
  pub levels : (w : ℕ) → joined v w g.edges ≡ true → get_or y w 0 ≡ get_or x w 0

-- three graphs on the same vertices
pub record ShareVertices (a b h : GraphShape) : Type 0 where
  pub lower : IsGraph a
  pub upper : IsGraph b
  pub middle : IsGraph h
  pub same_lower : a.vertices ≡ h.vertices
  pub same_upper : b.vertices ≡ h.vertices

-- h with y lies between a with xa and b with xb
--
-- It has at least the edges and levels of a, and at most those of b. A vertex whose level differs in a and b is as in
-- one of them.
pub record IsBetween (a b h : GraphShape) (xa xb y : List ℕ) : Type 0 where
  pub graphs : ShareVertices a b h
  pub sized : length y ≡ h.vertices
  pub above : (w : ℕ) → get_or xa w 0 ≤ get_or y w 0
  pub below : (w : ℕ) → get_or y w 0 ≤ get_or xb w 0
  pub more : (v w : ℕ) → joined v w a.edges ≡ true → joined v w h.edges ≡ true
  pub fewer : (v w : ℕ) → joined v w h.edges ≡ true → joined v w b.edges ≡ true
  pub each : (v : ℕ) → v < h.vertices → (get_or xa v 0 ≡ get_or xb v 0) ⊎ (IsAlike a h xa y v ⊎ IsAlike b h xb y v)

-- between two that meet both invariants, both hold
abbrev pub BetweenMeetsBoth : Type 0
BetweenMeetsBoth =
    (p : Profile) (a b h : GraphShape) (xa xb y : List ℕ) → IsBetween a b h xa xb y → MeetsBoth p a xa → MeetsBoth p b xb → MeetsBoth p h y
