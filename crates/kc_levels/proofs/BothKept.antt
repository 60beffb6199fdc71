-- Both invariants are kept where edges come in and the levels rise, and where edges leave and the levels fall.
use Rattle.std.proofs.Common.{ℕ, suc, zero, ◌≤◌, ◌<◌, ◌≡◌, inl, inr, true, leb, ◌&&◌, List, length, get_or, set, refl, ap, sym, ◌∙◌, arith, subst}
use Rattle.std.specs.Prelude.{count_by}
use Rattle.std.proofs.lemmas.Bool.{cases_lt}
use Rattle.std.proofs.lemmas.Bool.Decides.{nat_tests}
use Rattle.std.proofs.lemmas.List.{length-set, get_or-set_same}
use Rattle.kc_graph.specs.Numbers.{count_below}
use Rattle.kc_graph.specs.Shape.{GraphShape, Pair, IsGraph, neighbours_of, has_edge, joined, with_edges, without_edges}
use Rattle.kc_graph.proofs.lemmas.Counts.{count_below-mono}
use Rattle.kc_graph.proofs.lemmas.Neighbours.{count_by-neighbours_of}
use Rattle.kc_graph.proofs.lemmas.Changes.{vertices-with_edges, vertices-without_edges, has_edge-with_edges, has_edge-without_edges, insertions_keep_graph, removals_keep_graph}
use Rattle.kc_levels.specs.declared.profile.Profile.{Profile}
use Rattle.kc_levels.specs.Thresholds.{low, high, group_of, top_level}
use Rattle.kc_levels.specs.LevelList.{at_least, IsBelow, IsHeld, MeetsUpper, MeetsBoth, IsRaisable, IsRaised, IsLowerable, IsLowered}
use Rattle.kc_levels.specs.Laws.{InsertionKeepsBoth, DeletionKeepsBoth}
use Rattle.kc_levels.proofs.Sequences.{low-high}
use Rattle.kc_levels.proofs.Places.{changed}
use Rattle.kc_levels.proofs.AtLeast.{at_least-mono}
use Rattle.kc_levels.proofs.Lowering.{held_mono}

-- each edge of g is one of h
pub record IsSubgraph (g h : GraphShape) : Type 0 where
  pub small : IsGraph g
  pub large : IsGraph h
  pub same : g.vertices ≡ h.vertices
  pub edges : (e : Pair) → has_edge e g.edges ≡ true → has_edge e h.edges ≡ true

-- fewer edges and lower levels count no more
pub at_least-subgraph : (g h : GraphShape) (y x : List ℕ) (v l : ℕ) → IsSubgraph g h → length y ≡ g.vertices → IsBelow g.vertices y x → at_least g y v l ≤ at_least h x v l
unfolding at_least
at_least-subgraph g h y x v l s long below =
    omega (arith, at_least-mono g y x v l long below, fewer)
  where
    joined_in_both : (w : ℕ) → joined v w g.edges && leb l (get_or x w 0) ≡ true → joined v w h.edges && leb l (get_or x w 0) ≡ true
    joined_in_both w both = grind (arith, nat_tests, s.edges)

    fewer : count_by (λ w. leb l (get_or x w 0)) (neighbours_of v g.edges) ≤ count_by (λ w. leb l (get_or x w 0)) (neighbours_of v h.edges)
    fewer =
        let in_g = count_by-neighbours_of g.vertices v (λ w. leb l (get_or x w 0)) g.edges s.small in
        let in_h = count_by-neighbours_of h.vertices v (λ w. leb l (get_or x w 0)) h.edges s.large in
        let more = count_below-mono g.vertices (λ w. joined v w g.edges && leb l (get_or x w 0)) (λ w. joined v w h.edges && leb l (get_or x w 0)) (λ w at both. joined_in_both w both) in
        let at_h = ap (λ n. count_below n (λ w. joined v w h.edges && leb l (get_or x w 0))) s.same in
        omega (arith, in_g, in_h, more, at_h)

module _ (p : Profile) (g h : GraphShape) (x y : List ℕ) where
  module _ (s : IsSubgraph g h) (both : MeetsBoth p h x) (r : IsLowered p g x y) where
    -- a vertex that fell could not stay one level higher
    fell : (v : ℕ) → v < g.vertices → get_or y v 0 < get_or x v 0 → at_least g y v (get_or y v 0) < low p (group_of p g.vertices (get_or y v 0))
    fell v at less = elim (cases_lt (at_least g y v (get_or y v 0)) (low p (group_of p g.vertices (get_or y v 0)))) [
      | inl lt ↦ lt
      | inr ge ↦
          let up : IsBelow g.vertices y (set y v (suc (get_or y v 0))) = λ u hu. changed y v (suc (get_or y v 0)) inside (λ t k. get_or y t 0 ≤ k) u (omega arith) (λ ne. omega arith) in
          let lowerable : IsLowerable p g x (set y v (suc (get_or y v 0))) = record {
            sized = length-set y v (suc (get_or y v 0)) ∙ r.lowerable.sized;
            under = λ u hu. changed y v (suc (get_or y v 0)) inside (λ t k. k ≤ get_or x t 0) u (omega arith) (λ ne. r.lowerable.under u hu);
            lower = λ u hu. changed y v (suc (get_or y v 0)) inside (λ t k. IsHeld p g (set y v (suc (get_or y v 0))) t k) u
                (held_mono p g y (set y v (suc (get_or y v 0))) v (suc (get_or y v 0)) r.lowerable.sized up ge)
                (λ ne. held_mono p g y (set y v (suc (get_or y v 0))) u (get_or y u 0) r.lowerable.sized up (r.lowerable.lower u hu));
          } in
          let capped : get_or (set y v (suc (get_or y v 0))) v 0 ≤ get_or y v 0 = r.greatest (set y v (suc (get_or y v 0))) lowerable v at in
          absurd (omega (arith, get_or-set_same y v (suc (get_or y v 0)) 0 inside))
    ]
      where
        inside : v < length y
        inside = omega (arith, r.lowerable.sized)

    upper_after : (v : ℕ) → v < g.vertices → MeetsUpper p g y v
    upper_after v at = elim (cases_lt (get_or y v 0) (get_or x v 0)) [
      | inl lt ↦ omega (arith, fell v at lt, low-high p (group_of p g.vertices (get_or y v 0)))
      | inr ge ↦
          let same : get_or x v 0 ≡ get_or y v 0 = omega (arith, r.lowerable.under v at) in
          let before : at_least h x v (get_or x v 0) ≤ high p (group_of p h.vertices (get_or x v 0)) = both.upper v (omega (arith, s.same)) in
          let before' : at_least h x v (get_or y v 0) ≤ high p (group_of p g.vertices (get_or y v 0)) = rw (s.same, sym same) before in
          omega (arith, at_least-subgraph g h y x v (get_or y v 0) s r.lowerable.sized r.lowerable.under)
    ]

    pub lowering_keeps : MeetsBoth p g y
    lowering_keeps = record { sized = r.lowerable.sized; upper = upper_after; lower = r.lowerable.lower }

  module _ (s : IsSubgraph h g) (both : MeetsBoth p h x) (r : IsRaised p g x y) where
    -- a vertex that rose could not stay one level lower
    rose : (v l : ℕ) → v < g.vertices → get_or y v 0 ≡ suc l → get_or x v 0 ≤ l → high p (group_of p g.vertices l) < at_least g y v l
    rose v l at is more = elim (cases_lt (high p (group_of p g.vertices l)) (at_least g y v l)) [
      | inl lt ↦ lt
      | inr ge ↦
          let down : IsBelow g.vertices (set y v l) y = λ u hu. changed y v l inside (λ t k. k ≤ get_or y t 0) u (omega arith) (λ ne. omega arith) in
          let raisable : IsRaisable p g x (set y v l) = record {
            sized = length-set y v l ∙ r.raisable.sized;
            from = λ u hu. changed y v l inside (λ t k. get_or x t 0 ≤ k) u more (λ ne. r.raisable.from u hu);
            capped = λ u hu. changed y v l inside (λ t k. k ≤ top_level p g.vertices) u (omega (arith, r.raisable.capped v at)) (λ ne. r.raisable.capped u hu);
            upper = λ u hu. changed y v l inside (λ t k. at_least g (set y v l) t k ≤ high p (group_of p g.vertices k)) u
                (omega (arith, at_least-mono g (set y v l) y v l (length-set y v l ∙ r.raisable.sized) down))
                (λ ne. omega (arith, r.raisable.upper u hu, at_least-mono g (set y v l) y u (get_or y u 0) (length-set y v l ∙ r.raisable.sized) down));
          } in
          let least : get_or y v 0 ≤ get_or (set y v l) v 0 = r.least (set y v l) raisable v at in
          absurd (omega (arith, get_or-set_same y v l 0 inside))
    ]
      where
        inside : v < length y
        inside = omega (arith, r.raisable.sized)

    lower_at : (v k : ℕ) → v < g.vertices → get_or y v 0 ≡ k → IsHeld p g y v k
    lower_at v zero at is = tt
    lower_at v (suc l) at is = elim (cases_lt l (get_or x v 0)) [
      | inl lt ↦
          let same : get_or x v 0 ≡ suc l = omega (arith, r.raisable.from v at) in
          let before : IsHeld p h x v (suc l) = subst (IsHeld p h x v) same (both.lower v (omega (arith, s.same))) in
          let before' : low p (group_of p g.vertices l) ≤ at_least h x v l = rw (sym s.same) before in
          omega (arith, at_least-subgraph h g x y v l s both.sized (λ u hu. r.raisable.from u (omega (arith, s.same))))
      | inr ge ↦ omega (arith, rose v l at is ge, low-high p (group_of p g.vertices l))
    ]

    pub raising_keeps : MeetsBoth p g y
    raising_keeps = record { sized = r.raisable.sized; upper = r.raisable.upper; lower = λ v at. lower_at v (get_or y v 0) at refl }

pub insertion_keeps_both : InsertionKeepsBoth
insertion_keeps_both p g added x y graph order both r = raising_keeps p (with_edges g added) g x y (record {
  small = graph;
  large = insertions_keep_graph g added graph order;
  same = sym (vertices-with_edges g added);
  edges = λ e there. has_edge-with_edges e g added ∙ grind (arith, nat_tests, there);
}) both r

pub deletion_keeps_both : DeletionKeepsBoth
deletion_keeps_both p g removed x y graph both r = lowering_keeps p (without_edges g removed) g x y (record {
  small = removals_keep_graph g removed graph;
  large = graph;
  same = vertices-without_edges g removed;
  edges = λ e there. let still = sym (has_edge-without_edges e g removed) ∙ there in grind (arith, nat_tests, still);
}) both r
