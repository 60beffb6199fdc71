-- Moves and edges ascend in each entry.
use Rattle.std.proofs.Common.{ℕ, Bool, List, ◌∷◌, get_or, map}
use Rattle.std.specs.List.{All}
use Rattle.std.proofs.lemmas.List.Elements.{All-map, All-cons}
use Rattle.kc_graph.specs.Numbers.{RisesFrom}
use Rattle.kc_graph.specs.Shape.{GraphShape, Pair, EdgesFrom}
use Rattle.kc_graph.proofs.lemmas.Edges.{edges_from_filter}
use Rattle.kc_history.specs.declared.entries.Entry.{Entry}
use Rattle.kc_groups.specs.declared.plans.PhasePlan.{PhasePlan}
use Rattle.kc_groups.specs.Entries.{labels_below, group_entry, quiet_entry, ends_at, is_quiet, AreEntries}
use Rattle.kc_groups.specs.WellFormed.{vertices_of}
use Rattle.kc_groups.specs.Laws.{IsPhase, PlanAscends}
use Rattle.kc_groups.proofs.ListLemmas.{moves_rise}

edges_ascend : (phase : ℕ) (add : Bool) (edges : List Pair) (x y : List ℕ) (g : GraphShape) (plan : PhasePlan) → IsPhase edges x y g → AreEntries phase add edges x y g plan → All (λ (e : Entry). EdgesFrom g.vertices 0 0 e.edges) (plan.quiet ∷ plan.groups)
edges_ascend phase add edges x y g plan is a =
    rw (a.quiet, a.groups)
    (All-cons (λ (e : Entry). EdgesFrom g.vertices 0 0 e.edges) (quiet_entry phase add edges x y) (map (group_entry phase add edges x y a.labels g.vertices) (labels_below a.labels g.vertices))
    (edges_from_filter g.vertices 0 0 (is_quiet x y) edges is.ascending)
    (All-map (λ (e : Entry). EdgesFrom g.vertices 0 0 e.edges) (group_entry phase add edges x y a.labels g.vertices) (labels_below a.labels g.vertices)
    (λ i d h. edges_from_filter g.vertices 0 0 (ends_at a.labels (get_or (labels_below a.labels g.vertices) i d)) edges is.ascending)))

pub plan_ascends : PlanAscends
plan_ascends = record {
  moves = λ phase add edges x y g plan a.
      rw a.groups
      (All-map (λ (e : Entry). RisesFrom 0 (vertices_of e)) (group_entry phase add edges x y a.labels g.vertices) (labels_below a.labels g.vertices)
      (λ i d h. (moves_rise a.labels x y (get_or (labels_below a.labels g.vertices) i d) g.vertices).0));
  edges = edges_ascend;
}
