-- Laws of orientations and colourings; each is the contract of a function in `laws`.
use Rattle.std.specs.Prelude.{ℕ, ◌*◌, ◌≡◌, ◌≢◌, ◌≤◌, ◌<◌, true, false, not, List, [], ◌∷◌, length, get_or, sum_by}
use Rattle.kc_graph.specs.Numbers.{has_number, RisesFrom}
use Rattle.kc_graph.specs.Shape.{GraphShape, IsGraph, joined}
use Rattle.kc_levels.specs.declared.profile.Profile.{Profile}
use Rattle.kc_levels.specs.declared.profile.Profile.TheVariants.{Two}
use Rattle.kc_levels.specs.Thresholds.{high, lo, group_of}
use Rattle.kc_levels.specs.LevelList.{MeetsUpper}
use Rattle.kc_orient.specs.Shape.{above, out_neighbours, orientation}
use Rattle.kc_orient.specs.Colouring.{IsColouring}

-- of two vertices exactly one is above the other, no vertex is above itself, and above is transitive
pub record AboveIsAnOrder : Type 0 where
  pub one_way : (x : List ℕ) (v w : ℕ) → v ≢ w → above x w v ≡ not (above x v w)
  pub never_itself : (x : List ℕ) (v : ℕ) → above x v v ≡ false
  pub onward : (x : List ℕ) (u v w : ℕ) → above x u v ≡ true → above x v w ≡ true → above x u w ≡ true

-- each edge stands in exactly one of the lists of its ends, and the lists have nothing else
--
-- So all lists together are as long as the list of edges.
pub record EachEdgeOnce : Type 0 where
  pub edge : (g : GraphShape) (x : List ℕ) (v w : ℕ) → IsGraph g → joined v w g.edges ≡ true →
      has_number v (out_neighbours g x w) ≡ not (has_number w (out_neighbours g x v))
  pub only : (g : GraphShape) (x : List ℕ) (v w : ℕ) → has_number w (out_neighbours g x v) ≡ true → joined v w g.edges ≡ true
  pub ascending : (g : GraphShape) (x : List ℕ) (v : ℕ) → IsGraph g → RisesFrom 0 (out_neighbours g x v)
  pub count : (g : GraphShape) (x : List ℕ) → IsGraph g → sum_by length (orientation g x).outs ≡ length g.edges

-- from v the edges lead to the first vertex of the list, and from each to the next
abbrev pub IsWalk : GraphShape → List ℕ → ℕ → List ℕ → Type 0
IsWalk g x v [] = Unit {0}
IsWalk g x v (w ∷ ws) = (has_number w (out_neighbours g x v) ≡ true) × IsWalk g x w ws

-- no walk along the edges comes back to where it began
abbrev pub NoCycle : Type 0
NoCycle = (g : GraphShape) (x : List ℕ) (v : ℕ) (ws : List ℕ) → IsWalk g x v ws → has_number v ws ≡ false

-- a vertex that meets the upper invariant has at most the high of its band out-neighbours
--
-- That is at most six times the band's lo, in the second profile four times.
pub record OutNeighboursAreFew : Type 0 where
  pub most : (p : Profile) (g : GraphShape) (x : List ℕ) (v : ℕ) → MeetsUpper p g x v →
      length (out_neighbours g x v) ≤ high p (group_of p g.vertices (get_or x v 0))
  pub near : (p : Profile) (g : GraphShape) (x : List ℕ) (v : ℕ) → MeetsUpper p g x v →
      length (out_neighbours g x v) ≤ 6 * lo p (group_of p g.vertices (get_or x v 0))
  pub nearer : (g : GraphShape) (x : List ℕ) (v : ℕ) → MeetsUpper Two g x v →
      length (out_neighbours g x v) ≤ 4 * lo Two (group_of Two g.vertices (get_or x v 0))

-- an orientation has exactly one colouring
pub record ColouringIsOne : Type 0 where
  pub some : (g : GraphShape) (x : List ℕ) → IsGraph g → (c : List ℕ) × IsColouring (orientation g x).outs c
  pub one : (g : GraphShape) (x c d : List ℕ) →
      IsColouring (orientation g x).outs c → IsColouring (orientation g x).outs d → c ≡ d

-- the ends of an edge have different colours
abbrev pub ColouringIsProper : Type 0
ColouringIsProper =
    (g : GraphShape) (x c : List ℕ) → IsGraph g → IsColouring (orientation g x).outs c →
    (v w : ℕ) → joined v w g.edges ≡ true → get_or c v 0 ≢ get_or c w 0

-- no colour is above the number of its vertex's out-neighbours
abbrev pub ColoursAreFew : Type 0
ColoursAreFew =
    (outs : List (List ℕ)) (c : List ℕ) → IsColouring outs c →
    (v : ℕ) → v < length outs → get_or c v 0 ≤ length (get_or outs v [])
