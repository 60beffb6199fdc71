-- What is said of vertices in a `Capped`: with its graph and its levels, by the profile of its thresholds.
use Rattle.std.specs.Prelude.{ℕ, Bool, List}
use Rattle.kc_graph.specs.Shape.{GraphShape}
use Rattle.kc_levels.specs.LevelList.{MeetsLower}
use Rattle.kc_delete.specs.declared.capped.Capped.{Capped}
use Rattle.kc_delete.specs.private.Settling.{WaitsOrMeets, is_short, AreLookedAt}
use Rattle.kc_delete.specs.private.Waiting.{IsSifted, IsTaken}

-- the graph
abbrev pub graph_of : Capped → GraphShape
graph_of c = c.adj.now.graph

-- v has too few neighbours to stand on its level
abbrev pub is_short_in : Capped → ℕ → Bool
is_short_in c v = is_short c.th.now.profile c.adj.now.graph c.adj.now.levels v

-- v has enough neighbours to stand on its level
abbrev pub MeetsLowerIn : Capped → ℕ → Type 0
MeetsLowerIn c v = MeetsLower c.th.now.profile c.adj.now.graph c.adj.now.levels v

-- v waits, or has enough neighbours to stand on its level
abbrev pub WaitsOrMeetsIn : Capped → List Bool → ℕ → Type 0
WaitsOrMeetsIn c waits v = WaitsOrMeets c.th.now.profile c.adj.now.graph c.adj.now.levels waits v

-- each neighbour of v was looked at after v fell from a level to its own
abbrev pub AreLookedAtIn : Capped → ℕ → ℕ → List Bool → Type 0
AreLookedAtIn c v from waits = AreLookedAt c.th.now.profile c.adj.now.graph v from c.adj.now.levels waits

-- some of the vertices that waited wait no more: they have enough neighbours to stand on their levels
abbrev pub IsSiftedIn : Capped → List Bool → List Bool → Type 0
IsSiftedIn c before after = IsSifted c.th.now.profile c.adj.now.graph c.adj.now.levels before after

-- v waited, and waits no more; some others wait no more either, which have enough neighbours to stand on their levels
abbrev pub IsTakenIn : Capped → List Bool → List Bool → ℕ → Type 0
IsTakenIn c before after v = IsTaken c.th.now.profile c.adj.now.graph c.adj.now.levels before after v
