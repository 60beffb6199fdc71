-- Both invariants between two states in which they hold, and in one vertex.
use Rattle.std.proofs.Common.{ℕ, suc, zero, ◌≤◌, ◌<◌, ◌≡◌, inl, inr, true, ◌&&◌, List, get_or, sym, arith}
use Rattle.std.specs.Prelude.{nat_le}
use Rattle.std.proofs.lemmas.Bool.{leb-true, le-leb, and_parts, and_from}
use Rattle.std.proofs.lemmas.Bool.Decides.{nat_tests}
use Rattle.kc_graph.specs.Numbers.{count_below}
use Rattle.kc_graph.specs.Shape.{GraphShape, IsGraph, joined}
use Rattle.kc_graph.proofs.lemmas.Neighbours.{count_by-neighbours_of}
use Rattle.kc_graph.proofs.lemmas.Counts.{count_below_agree, count_below-mono}
use Rattle.kc_levels.specs.declared.profile.Profile.{Profile}
use Rattle.kc_levels.specs.Thresholds.{low, high, group_of}
use Rattle.kc_levels.specs.LevelList.{at_least, MeetsUpper, MeetsLower, IsHeld}
use Rattle.kc_levels.specs.Between.{IsAlike, BetweenMeetsBoth}

-- at_least as a count over all vertices
over_all : (g : GraphShape) (x : List ℕ) (v l : ℕ) → IsGraph g → at_least g x v l ≡ count_below g.vertices (λ w. joined v w g.edges && nat_le l (get_or x w 0))
unfolding at_least
over_all g x v l graph = count_by-neighbours_of g.vertices v (λ w. nat_le l (get_or x w 0)) g.edges graph

at_least-more : (g h : GraphShape) (x y : List ℕ) (v l : ℕ) → IsGraph g → IsGraph h → g.vertices ≡ h.vertices → ((w : ℕ) → joined v w g.edges ≡ true → joined v w h.edges ≡ true) → ((w : ℕ) → get_or x w 0 ≤ get_or y w 0) → at_least g x v l ≤ at_least h y v l
at_least-more g h x y v l g_is h_is same edges levels = grind (arith, nat_tests, over_all, count_below-mono, and_parts, and_from, le-leb, leb-true)

at_least-alike : (g h : GraphShape) (x y : List ℕ) (v l : ℕ) → IsGraph g → IsGraph h → g.vertices ≡ h.vertices → IsAlike g h x y v → at_least h y v l ≡ at_least g x v l
at_least-alike g h x y v l g_is h_is same is = grind (arith, nat_tests, over_all, count_below_agree, is.edges, is.levels)

held-from : (p : Profile) (g h : GraphShape) (x y : List ℕ) (v l : ℕ) → g.vertices ≡ h.vertices → ((k : ℕ) → at_least g x v k ≤ at_least h y v k) → IsHeld p g x v l → IsHeld p h y v l
held-from p g h x y v zero same counts held = tt
held-from p g h x y v (suc l) same counts held =
    let here : low p (group_of p h.vertices l) ≤ at_least g x v l = rw (← same) held in
    omega (arith, counts l)

upper-alike : (p : Profile) (g h : GraphShape) (x y : List ℕ) (v : ℕ) → IsGraph g → IsGraph h → g.vertices ≡ h.vertices → IsAlike g h x y v → MeetsUpper p g x v → MeetsUpper p h y v
upper-alike p g h x y v g_is h_is same is meets = rw (at_least-alike g h x y v (get_or y v 0) g_is h_is same is, is.level, ← same) meets

lower-alike : (p : Profile) (g h : GraphShape) (x y : List ℕ) (v : ℕ) → IsGraph g → IsGraph h → g.vertices ≡ h.vertices → IsAlike g h x y v → MeetsLower p g x v → MeetsLower p h y v
lower-alike p g h x y v g_is h_is same is meets =
    rw is.level (held-from p g h x y v (get_or x v 0) same (λ k. omega (arith, at_least-alike g h x y v k g_is h_is same is)) meets)

pub between_meets_both : BetweenMeetsBoth
between_meets_both p a b h xa xb y is first last = record { sized = is.sized; upper = upper; lower = lower }
  where
    at_a : (v : ℕ) → v < h.vertices → v < a.vertices
    at_a v lt = omega (arith, is.graphs.same_lower)

    at_b : (v : ℕ) → v < h.vertices → v < b.vertices
    at_b v lt = omega (arith, is.graphs.same_upper)

    upper : (v : ℕ) → v < h.vertices → MeetsUpper p h y v
    upper v lt = elim (is.each v lt) [
      | inr changed ↦ elim changed [
        | inl alike ↦ upper-alike p a h xa y v is.graphs.lower is.graphs.middle is.graphs.same_lower alike (first.upper v (at_a v lt))
        | inr alike ↦ upper-alike p b h xb y v is.graphs.upper is.graphs.middle is.graphs.same_upper alike (last.upper v (at_b v lt))
      ]
      | inl same ↦
          let level : get_or y v 0 ≡ get_or xb v 0 = omega (arith, is.above v, is.below v) in
          let fewer : at_least h y v (get_or y v 0) ≤ at_least b xb v (get_or y v 0) = at_least-more h b y xb v (get_or y v 0) is.graphs.middle is.graphs.upper (sym is.graphs.same_upper) (λ w e. is.fewer v w e) is.below in
          let meets : at_least b xb v (get_or y v 0) ≤ high p (group_of p h.vertices (get_or y v 0)) = rw (level, ← is.graphs.same_upper) (last.upper v (at_b v lt)) in
          omega arith
    ]

    lower : (v : ℕ) → v < h.vertices → MeetsLower p h y v
    lower v lt = elim (is.each v lt) [
      | inr changed ↦ elim changed [
        | inl alike ↦ lower-alike p a h xa y v is.graphs.lower is.graphs.middle is.graphs.same_lower alike (first.lower v (at_a v lt))
        | inr alike ↦ lower-alike p b h xb y v is.graphs.upper is.graphs.middle is.graphs.same_upper alike (last.lower v (at_b v lt))
      ]
      | inl same ↦
          let level : get_or y v 0 ≡ get_or xa v 0 = omega (arith, is.above v, is.below v) in
          rw level (held-from p a h xa y v (get_or xa v 0) is.graphs.same_lower (λ k. at_least-more a h xa y v k is.graphs.lower is.graphs.middle is.graphs.same_lower (λ w e. is.more v w e) is.above) (first.lower v (at_a v lt)))
    ]
