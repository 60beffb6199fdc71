-- Phases, one after another: each is a phase on the graph that has all its edges, and their entries lead over them.
use Rattle.std.proofs.Common.{ℕ, ◌≡◌, Bool, true, false, cond, ◌||◌, List, [], ◌∷◌, ◌++◌, length, refl, ap, sym, ◌∙◌, arith}
use Rattle.std.specs.Prelude.{All}
use Rattle.std.proofs.lemmas.Bool.Decides.{nat_tests}
use Rattle.std.proofs.lemmas.List.Elements.{All-cons, All-nil}
use Rattle.std.proofs.lemmas.Bool.{or_right}
use Rattle.std.proofs.lemmas.Grind.{common_steps}
use Rattle.kc_graph.specs.Shape.{GraphShape, Pair, EdgesFrom, IsGraph, same_edge, has_edge, with_edges, without_edges}
use Rattle.kc_graph.specs.Changes.{AllPresent}
use Rattle.kc_graph.proofs.lemmas.Changes.{vertices-with_edges, vertices-without_edges, has_edge-with_edges, insertions_keep_graph, removals_keep_graph, inside_from_ascending}
use Rattle.kc_levels.specs.declared.profile.Profile.{Profile}
use Rattle.kc_history.specs.Points.{graph_after, levels_after}
use Rattle.kc_history.proofs.lemmas.Points.{graph_after-append, levels_after-append}
use Rattle.kc_groups.specs.declared.plans.PhasePlan.{PhasePlan}
use Rattle.kc_groups.specs.Entries.{entries_of, entries_in}
use Rattle.kc_groups.specs.Phases.{AreChangeable, graph_after_phase, graph_with_all, AreLevelsAfterPhase, LeadsTo, LeadOn}
use Rattle.kc_groups.specs.Laws.{IsPhase, PhasesLead}
use Rattle.kc_groups.proofs.LeadLaw.{entries_lead_over}

own_edge : (e : Pair) (es : List Pair) → has_edge e (e ∷ es) ≡ true
own_edge e es = grind (arith, nat_tests)

-- what is true of each edge of a list
all_members : (P : Pair → Type 0) (es : List Pair) → ((e : Pair) → has_edge e es ≡ true → P e) → All P es
all_members P [] h = All-nil P
all_members P (e ∷ es) h = All-cons P e es (h e (own_edge e es)) (all_members P es (λ f m. h f (or_right (same_edge f e) (has_edge f es) m)))

-- edges that came in are there
pub present_after : (g : GraphShape) (es : List Pair) → AllPresent (with_edges g es) es
present_after g es = all_members (λ e. has_edge e (with_edges g es).edges ≡ true) es (λ e m. has_edge-with_edges e g es ∙ ap (λ (t : Bool). t || has_edge e g.edges) m)

-- what a phase leaves: a graph of as many vertices, with as many levels
pub record AreKept (g h : GraphShape) (y : List ℕ) : Type 0 where
  pub graph : IsGraph h
  pub vertices : h.vertices ≡ g.vertices
  pub sized : length y ≡ h.vertices

kept_as : (p : Profile) (add : Bool) (g h : GraphShape) (x y : List ℕ) (es : List Pair) → IsGraph g → EdgesFrom g.vertices 0 0 es → h ≡ graph_after_phase add g es → AreLevelsAfterPhase p add g es x y → AreKept g h y
kept_as p true g h x y es graph up is moved = grind (arith, nat_tests, common_steps, insertions_keep_graph, inside_from_ascending, vertices-with_edges, moved.raisable.sized)
kept_as p false g h x y es graph up is moved = grind (arith, nat_tests, common_steps, removals_keep_graph, vertices-without_edges, moved.lowerable.sized)

pub kept : (p : Profile) (g h : GraphShape) (x y : List ℕ) (plan : PhasePlan) → IsGraph g → LeadsTo p g x plan h y → AreKept g h y
kept p g h x y plan graph a = kept_as p a.add g h x y a.edges graph a.ascending a.graph a.levels

phase_as : (add : Bool) (g h : GraphShape) (x y : List ℕ) (es : List Pair) → IsGraph g → length x ≡ g.vertices → EdgesFrom g.vertices 0 0 es → AreChangeable add g es → AreKept g h y → IsPhase es x y (graph_with_all add g es)
phase_as true g h x y es graph sized up ready k = grind (arith, nat_tests, common_steps, vertices-with_edges, insertions_keep_graph, inside_from_ascending, present_after, k.sized, k.vertices)
phase_as false g h x y es graph sized up ready k = record { graph = graph; before = sized; after = k.sized ∙ k.vertices; ascending = up; present = ready }

-- a phase is one on the graph that has all its edges
pub is_phase : (p : Profile) (g h : GraphShape) (x y : List ℕ) (plan : PhasePlan) → IsGraph g → length x ≡ g.vertices → (a : LeadsTo p g x plan h y) → IsPhase a.edges x y (graph_with_all a.add g a.edges)
is_phase p g h x y plan graph sized a = phase_as a.add g h x y a.edges graph sized a.ascending a.changeable (kept p g h x y plan graph a)

with_all_vertices : (add : Bool) (g : GraphShape) (es : List Pair) → g.vertices ≡ (graph_with_all add g es).vertices
with_all_vertices true g es = sym (vertices-with_edges g es)
with_all_vertices false g es = refl

after_as : (add : Bool) (g : GraphShape) (es : List Pair) → cond add (with_edges g es) (without_edges g es) ≡ graph_after_phase add g es
after_as true g es = refl
after_as false g es = refl

pub phase_graph : (p : Profile) (g h : GraphShape) (x y : List ℕ) (plan : PhasePlan) → IsGraph g → length x ≡ g.vertices → LeadsTo p g x plan h y → graph_after g (entries_of plan) ≡ h
phase_graph p g h x y plan graph sized a =
    entries_lead_over.graph a.phase a.add a.edges x y (graph_with_all a.add g a.edges) g plan (is_phase p g h x y plan graph sized a) a.entries graph (with_all_vertices a.add g a.edges)
    ∙ after_as a.add g a.edges ∙ sym a.graph

pub phase_levels : (p : Profile) (g h : GraphShape) (x y : List ℕ) (plan : PhasePlan) → IsGraph g → length x ≡ g.vertices → LeadsTo p g x plan h y → levels_after x (entries_of plan) ≡ y
phase_levels p g h x y plan graph sized a =
    entries_lead_over.levels a.phase a.add a.edges x y (graph_with_all a.add g a.edges) plan (is_phase p g h x y plan graph sized a) a.entries

graphs : (p : Profile) (g h : GraphShape) (x y : List ℕ) (plans : List PhasePlan) → IsGraph g → length x ≡ g.vertices → LeadOn p g x plans h y → graph_after g (entries_in plans) ≡ h
graphs p g h x y [] graph sized a = sym a.0
graphs p g h x y (plan ∷ plans) graph sized (m, (z, (one, rest))) =
    let k = kept p g m x z plan graph one in
    graph_after-append g (entries_of plan) (entries_in plans) ∙ ap (λ (i : GraphShape). graph_after i (entries_in plans)) (phase_graph p g m x z plan graph sized one)
    ∙ graphs p m h z y plans k.graph k.sized rest

levels : (p : Profile) (g h : GraphShape) (x y : List ℕ) (plans : List PhasePlan) → IsGraph g → length x ≡ g.vertices → LeadOn p g x plans h y → levels_after x (entries_in plans) ≡ y
levels p g h x y [] graph sized a = sym a.1
levels p g h x y (plan ∷ plans) graph sized (m, (z, (one, rest))) =
    let k = kept p g m x z plan graph one in
    levels_after-append x (entries_of plan) (entries_in plans) ∙ ap (λ (i : List ℕ). levels_after i (entries_in plans)) (phase_levels p g m x z plan graph sized one)
    ∙ levels p m h z y plans k.graph k.sized rest

on : (p : Profile) (g h k : GraphShape) (x y z : List ℕ) (plans more : List PhasePlan) → LeadOn p g x plans h y → LeadOn p h y more k z → LeadOn p g x (plans ++ more) k z
on p g h k x y z [] more a b = rw (a.0, a.1) at b
on p g h k x y z (plan ∷ plans) more (m, (w, (one, rest))) b = (m, (w, (one, on p m h k w y z plans more rest b)))

pub phases_lead : PhasesLead
phases_lead = record { graph = graphs; levels = levels; on = on }
