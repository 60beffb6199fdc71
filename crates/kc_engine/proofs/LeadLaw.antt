-- Each phase of a batch leads from the graph and levels before it to those after it.
use Rattle.std.proofs.Common.{ℕ, ◌≡◌, ◌≢◌, true, false, List, [], ◌∷◌, ◌+◌, refl, arith}
use Rattle.std.proofs.lemmas.Bool.Decides.{nat_tests}
use Rattle.kc_graph.specs.Shape.{Pair, GraphShape, EdgesFrom, with_edges, without_edges}
use Rattle.kc_graph.specs.Changes.{AllPresent, AllAbsent}
use Rattle.kc_levels.specs.declared.profile.Profile.{Profile}
use Rattle.kc_groups.specs.declared.plans.PhasePlan.{PhasePlan}
use Rattle.kc_groups.specs.Phases.{LeadsTo, LeadOn}
use Rattle.kc_groups.proofs.lemmas.Phases.{phases_lead}
use Rattle.kc_engine.specs.Batches.{phases_for, AreLoweredIn, AreRaisedIn, ArePhaseOf, graph_after_batch}
use Rattle.kc_engine.specs.Laws.{PhasesLeadOneByOne}
use Rattle.kc_engine.proofs.BatchLemmas.{fits, ascend_later}

some_edges : (e : Pair) (es : List Pair) → e ∷ es ≢ []
some_edges e es same = cc

alone : (p : Profile) (g h : GraphShape) (x y : List ℕ) (plan : PhasePlan) (plans : List PhasePlan) → plans ≡ plan ∷ [] → LeadsTo p g x plan h y → LeadOn p g x plans h y
alone p g h x y plan plans one a = rw one (h, (y, (a, (refl, refl))))

-- the phase in which edges leave, if some do
out : (p : Profile) (phase : ℕ) (es : List Pair) (x y : List ℕ) (g : GraphShape) (plans : List PhasePlan) → EdgesFrom g.vertices 0 0 es → AllPresent g es → AreLoweredIn p g es x y → ArePhaseOf phase false es x y g plans
    → LeadOn p g x plans (without_edges g es) y
out p phase es x y g plans up present low a = grind (arith, nat_tests, alone, some_edges)

-- and the one in which they come in
in_again : (p : Profile) (phase : ℕ) (es : List Pair) (x y : List ℕ) (g : GraphShape) (plans : List PhasePlan) → EdgesFrom g.vertices 0 0 es → AllAbsent g es → AreRaisedIn p g es x y → ArePhaseOf phase true es x y (with_edges g es) plans
    → LeadOn p g x plans (with_edges g es) y
in_again p phase es x y g plans up absent high a = grind (arith, nat_tests, alone, some_edges)

pub phases_lead_one_by_one : PhasesLeadOneByOne
phases_lead_one_by_one limit s t c plans sound cleaning a =
    let f = fits s.graph c sound.graph cleaning in
    let between = a.after.levels.between in
    let first = out s.profile (s.phases + 1) c.removed s.levels between s.graph a.phases.leaving f.removed_ascend f.removed_present a.after.levels.lowered a.phases.deletion in
    let second = in_again s.profile (s.phases + phases_for c.removed + 1) c.added between t.levels (without_edges s.graph c.removed) a.phases.coming (ascend_later s.graph c f) f.added_absent_later a.after.levels.raised a.phases.insertion in
    rw (a.phases.all, a.after.graph) (phases_lead.on s.profile s.graph (without_edges s.graph c.removed) (graph_after_batch s.graph c) s.levels between t.levels a.phases.leaving a.phases.coming first second)
