-- Both invariants hold at each point of phases, one after another, and the coreness is near.
use Rattle.std.proofs.Common.{ℕ, suc, zero, ◌≡◌, ◌≤◌, ◌*◌, Bool, true, false, List, [], ◌∷◌, ◌++◌, take, replicate, refl, sym, arith}
use Rattle.std.proofs.lemmas.List.{length-replicate, get_or-replicate}
use Rattle.std.proofs.lemmas.Bool.Decides.{nat_tests}
use Rattle.kc_graph.specs.Shape.{Pair, GraphShape, IsGraph, EdgesFrom, with_edges}
use Rattle.kc_graph.proofs.lemmas.Changes.{vertices-with_edges, vertices-without_edges, inside_from_ascending}
use Rattle.kc_levels.specs.declared.profile.Profile.{Profile}
use Rattle.kc_levels.specs.declared.profile.Profile.TheVariants.{Two}
use Rattle.kc_levels.specs.Thresholds.{est}
use Rattle.kc_levels.specs.LevelList.{at_least, MeetsBoth, IsBelow}
use Rattle.kc_levels.proofs.lemmas.Both.{between_meets_both, insertion_keeps_both, deletion_keeps_both}
use Rattle.kc_history.specs.declared.entries.Entry.{Entry}
use Rattle.kc_history.specs.Points.{with_moves, with_entry, graph_after, levels_after}
use Rattle.kc_groups.specs.declared.plans.PhasePlan.{PhasePlan}
use Rattle.kc_groups.specs.Entries.{entries_of, entries_in, AreEntries}
use Rattle.kc_groups.specs.Phases.{graph_after_phase, graph_with_all, AreLevelsAfterPhase, LeadOn}
use Rattle.kc_groups.specs.Laws.{IsPhase}
use Rattle.kc_groups.proofs.lemmas.Phases.{points_lie_between, kept, is_phase, phase_graph, phase_levels}
use Rattle.kc_bound.specs.Cores.{IsCoreness}
use Rattle.kc_bound.specs.Nearness.{group_at, IsNear}
use Rattle.kc_bound.specs.Laws.{BothAreNear, EachPointIsNear}
use Rattle.kc_bound.proofs.LevelBounds.{high_bounds_coreness, lo_bounds_coreness, estimate_is_near_coreness}

nearer_in : (p : Profile) (g : GraphShape) (x : List ℕ) → IsGraph g → MeetsBoth p g x → p ≡ Two → (v c : ℕ) → IsCoreness g v c → c ≤ 2 * est p (group_at p g x v)
nearer_in p g x graph both e v c is = grind (arith, nat_tests, estimate_is_near_coreness)

pub both_are_near : BothAreNear
both_are_near p g x graph both = record {
  graph = graph;
  both = both;
  low = λ v c is. lo_bounds_coreness p g x graph both.lower v c is;
  high = λ v c is. high_bounds_coreness p g x both.upper v c is;
  estimate = λ v c is. estimate_is_near_coreness.estimate p g x graph both v c is;
  coreness = λ v c is. estimate_is_near_coreness.coreness p g x graph both v c is;
  nearer = λ e v c is. nearer_in p g x graph both e v c is;
}

-- at each point of no entries, and of entries that follow others
near_none : (p : Profile) (g : GraphShape) (x : List ℕ) → IsNear p g x → (k : ℕ) → IsNear p (graph_after g (take k [])) (levels_after x (take k []))
near_none p g x h zero = h
near_none p g x h (suc k) = h

near_append : (p : Profile) (g : GraphShape) (x : List ℕ) (es fs : List Entry)
    → ((k : ℕ) → IsNear p (graph_after g (take k es)) (levels_after x (take k es)))
    → ((k : ℕ) → IsNear p (graph_after (graph_after g es) (take k fs)) (levels_after (levels_after x es) (take k fs)))
    → (k : ℕ) → IsNear p (graph_after g (take k (es ++ fs))) (levels_after x (take k (es ++ fs)))
near_append p g x [] fs a b k = b k
near_append p g x (e ∷ es) fs a b zero = a 0
near_append p g x (e ∷ es) fs a b (suc k) = near_append p (with_entry g e) (with_moves x e.moves) es fs (λ j. a (suc j)) b k

-- both invariants are kept by a phase
both_as : (p : Profile) (add : Bool) (g h : GraphShape) (x y : List ℕ) (es : List Pair) → IsGraph g → MeetsBoth p g x → EdgesFrom g.vertices 0 0 es → h ≡ graph_after_phase add g es → AreLevelsAfterPhase p add g es x y → MeetsBoth p h y
both_as p true g h x y es graph both up is moved = rw is (insertion_keeps_both p g es x y graph (inside_from_ascending g.vertices 0 0 es up) both moved)
both_as p false g h x y es graph both up is moved = rw is (deletion_keeps_both p g es x y graph both moved)

-- at each point of a phase they hold
points_as : (p : Profile) (phase : ℕ) (add : Bool) (g h : GraphShape) (x y : List ℕ) (es : List Pair) (plan : PhasePlan) → IsGraph g → MeetsBoth p g x → h ≡ graph_after_phase add g es → AreLevelsAfterPhase p add g es x y
    → IsPhase es x y (graph_with_all add g es) → AreEntries phase add es x y (graph_with_all add g es) plan → MeetsBoth p h y
    → (k : ℕ) → IsNear p (graph_after g (take k (entries_of plan))) (levels_after x (take k (entries_of plan)))
points_as p phase true g h x y es plan graph both is moved phased entries after k =
    let same = vertices-with_edges g es in
    let w = points_lie_between.insertion phase es x y (with_edges g es) g plan k phased entries graph (sym same) refl moved.raisable.from in
    both_are_near p _ _ w.graphs.middle (between_meets_both p _ _ _ _ _ _ w both (rw is at after))
points_as p phase false g h x y es plan graph both is moved phased entries after k =
    let same = vertices-without_edges g es in
    let under : IsBelow g.vertices y x = rw same at moved.lowerable.under in
    let w = points_lie_between.deletion phase es x y g plan k phased entries under in
    both_are_near p _ _ w.graphs.middle (between_meets_both p _ _ _ _ _ _ w (rw is at after) both)

later : (p : Profile) (g h : GraphShape) (x y : List ℕ) (plans : List PhasePlan) (k : ℕ) → IsGraph g → MeetsBoth p g x → LeadOn p g x plans h y → IsNear p (graph_after g (take k (entries_in plans))) (levels_after x (take k (entries_in plans)))
later p g h x y [] k graph both a = near_none p g x (both_are_near p g x graph both) k
later p g h x y (plan ∷ plans) k graph both (m, (z, (one, rest))) =
    let after = both_as p one.add g m x z one.edges graph both one.ascending one.graph one.levels in
    let inside = points_as p one.phase one.add g m x z one.edges plan graph both one.graph one.levels (is_phase p g m x z plan graph both.sized one) one.entries after in
    near_append p g x (entries_of plan) (entries_in plans) inside
    (λ j. rw (phase_graph p g m x z plan graph both.sized one, phase_levels p g m x z plan graph both.sized one) (later p m h z y plans j (kept p g m x z plan graph one).graph after rest)) k

-- without edges and on level 0 both invariants hold
start_meets_both : (p : Profile) (n : ℕ) → MeetsBoth p (record { vertices = n; edges = [] }) (replicate n 0)
unfolding at_least
start_meets_both p n = record {
  sized = length-replicate {A = ℕ} n 0;
  upper = λ v h. omega arith;
  lower = λ v h. rw (get_or-replicate {A = ℕ} n v 0 0 h) tt;
}

pub each_point_is_near : EachPointIsNear
each_point_is_near = record {
  later = later;
  history = λ p n h y plans k a. later p (record { vertices = n; edges = [] }) h (replicate n 0) y plans k tt (start_meets_both p n) a;
}
