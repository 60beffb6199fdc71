-- The vertices that came to a level rise from it together, over several levels at once: they count each other on each of the levels,
-- and no other vertex that they count, or that counts them, stands on the way.
use Rattle.std.proofs.Common.{ℕ, suc, zero, ◌+◌, ◌-◌, ◌≤◌, ◌<◌, ◌≡◌, inl, inr, true, false, List, get_or, refl, ap, sym, ◌∙◌, arith, subst}
use Rattle.std.proofs.lemmas.Bool.{cases_lt, cases_Bool, true≢false}
use Rattle.std.proofs.lemmas.Bool.Decides.{nat_tests}
use Rattle.std.proofs.lemmas.Grind.{same_number_lists}
use Rattle.kc_graph.specs.Numbers.{has_number}
use Rattle.kc_graph.specs.Shape.{GraphShape, Pair, IsGraph, neighbours_of, has_edge}
use Rattle.kc_graph.proofs.lemmas.Neighbours.{neighbours_both}
use Rattle.kc_levels.specs.declared.profile.Profile.{Profile}
use Rattle.kc_levels.specs.Thresholds.{high, group_of}
use Rattle.kc_levels.specs.LevelList.{at_least}
use Rattle.kc_levels.specs.private.LevelList.{IsRaising}
use Rattle.kc_levels.proofs.lemmas.Raising.{raising_many}
use Rattle.kc_insert.specs.private.Rising.{all_at}
use Rattle.kc_insert.specs.private.Sweeping.{AreAwaited, AreRising, IsFree, IsPaid, IsSweeping, Sweeping, together}
use Rattle.kc_insert.proofs.Efforts.{effort_more}
use Rattle.kc_insert.proofs.Tests.{count_agree, less_differs}
use Rattle.kc_insert.proofs.Lifting.{length-all_at, all_at_here, all_at_other}
use Rattle.kc_insert.proofs.Stepping.{rises_rose}

pub free_less : (l j k : ℕ) (waits : ℕ → List ℕ) (meets : ℕ → List Pair) → j ≤ k → IsFree l k waits meets → IsFree l j waits meets
free_less l j k waits meets le free = record {
  none_waits = λ i at before. free.none_waits i at (omega (arith, before, le));
  none_meets = λ i at to. free.none_meets i at (omega (arith, to, le));
}

module _ (p : Profile) (g : GraphShape) (x : List ℕ) (s : Sweeping) (i : IsSweeping p g x s) (k : ℕ) (le : s.level ≤ k) (free : IsFree s.level k s.waits s.meets) where
  pub come_to : (v : ℕ) → has_number v s.rising ≡ true → get_or (all_at s.levels s.rising k) v 0 ≡ k
  come_to v there = all_at_here s.levels s.rising k v (omega (arith, i.placed.raising.sized, (i.rise.came v there).0)) there

  kept : (v : ℕ) → has_number v s.rising ≡ false → get_or (all_at s.levels s.rising k) v 0 ≡ get_or s.levels v 0
  kept v none = all_at_other s.levels s.rising k v none

  -- no neighbour of a vertex that came to the level stood on one of the levels
  nobody_near : (v w : ℕ) → has_number v s.rising ≡ true → has_number w (neighbours_of v g.edges) ≡ true → s.level ≤ get_or x w 0 → k < get_or x w 0
  nobody_near v w there near at = elim (cases_lt k (get_or x w 0)) [
    | inl lt ↦ lt
    | inr ge ↦
        let came = i.rise.came v there in
        let edge : has_edge (v, w) (s.meets (get_or x w 0)) ≡ true = i.awaited.each (get_or x w 0) v w at (rises_rose p g x s i v there) (record { near = near; level = refl; below = omega (arith, came.2, at) }) in
        absurd (true≢false (sym edge ∙ ap (has_edge (v, w)) (free.none_meets (get_or x w 0) at ge)))
  ]

  -- each vertex has as many neighbours on its level or above as before
  pub same_together : (v : ℕ) → at_least g s.levels v (get_or s.levels v 0) ≡ at_least g (all_at s.levels s.rising k) v (get_or (all_at s.levels s.rising k) v 0)
  unfolding at_least
  same_together v = grind (arith, nat_tests, count_agree, come_to, kept, nobody_near, neighbours_both)

  counted_together : (v : ℕ) → v < g.vertices → s.count v ≡ at_least g (all_at s.levels s.rising k) v (get_or (all_at s.levels s.rising k) v 0)
  counted_together v h = i.awaited.counted v h ∙ same_together v

  rising_together : AreRising g x (together s k)
  rising_together = record {
    came = λ v there. let it = i.rise.came v there in (it.0, come_to v there, omega (arith, it.2, le));
    distinct = i.rise.distinct;
    moved = λ v. grind (arith, nat_tests, rises_rose, less_differs, come_to, kept);
    once = i.rise.once;
  }

  awaited_together : AreAwaited p g x (together s k)
  awaited_together = record {
    counted = counted_together;
    waiting = λ j v at there. i.awaited.waiting j v (omega (arith, at, le)) there;
    found = λ v h. grind (arith, nat_tests, kept, same_together, true≢false, free.none_waits);
    met = λ j v w at there. i.awaited.met j v w (omega (arith, at, le)) there;
    each = λ j v w at rose it. i.awaited.each j v w (omega (arith, at, le)) rose it;
    apart = λ j at. i.awaited.apart j (omega (arith, at, le));
  }

module _ (p : Profile) (g : GraphShape) (x : List ℕ) (s : Sweeping) (i : IsSweeping p g x s) (graph : IsGraph g) (over : (v : ℕ) → has_number v s.rising ≡ true → high p (group_of p g.vertices s.level) < s.count v) where
  -- the vertices that came to the level are there
  all_at_same : all_at s.levels s.rising s.level ≡ s.levels
  all_at_same = grind (arith, nat_tests, same_number_lists, length-all_at, all_at_here, all_at_other)

  raising_together : (k d : ℕ) → IsFree s.level k s.waits s.meets → s.level + d ≤ k → ((j : ℕ) → s.level ≤ j → j < k → group_of p g.vertices j ≡ group_of p g.vertices s.level) → IsRaising p g x (all_at s.levels s.rising (s.level + d))
  raising_together k zero free near same =
      let none : s.level + 0 ≡ s.level = omega arith in
      subst (IsRaising p g x) (sym (ap (all_at s.levels s.rising) none ∙ all_at_same)) i.placed.raising
  raising_together k (suc d) free near same =
      let le : s.level ≤ s.level + d = omega arith in
      let le' : s.level ≤ s.level + suc d = omega arith in
      let free_d : IsFree s.level (s.level + d) s.waits s.meets = free_less s.level (s.level + d) k s.waits s.meets (omega (arith, near)) free in
      let free_d' : IsFree s.level (s.level + suc d) s.waits s.meets = free_less s.level (s.level + suc d) k s.waits s.meets near free in
      let before : IsRaising p g x (all_at s.levels s.rising (s.level + d)) = raising_together k d free (omega (arith, near)) same in
      raising_many p g x (all_at s.levels s.rising (s.level + d)) (all_at s.levels s.rising (s.level + suc d)) graph before (length-all_at s.levels s.rising (s.level + suc d) ∙ i.placed.raising.sized) (λ v h. elim (cases_Bool (has_number v s.rising)) [
        | inr none ↦ inl (all_at_other s.levels s.rising (s.level + suc d) v none ∙ sym (all_at_other s.levels s.rising (s.level + d) v none))
        | inl there ↦
            let on : get_or (all_at s.levels s.rising (s.level + d)) v 0 ≡ s.level + d = come_to p g x s i (s.level + d) le free_d v there in
            inr (
              omega (arith, come_to p g x s i (s.level + suc d) le' free_d' v there, on),
              λ meets.
                  let few : at_least g (all_at s.levels s.rising (s.level + d)) v (get_or (all_at s.levels s.rising (s.level + d)) v 0) ≤ high p (group_of p g.vertices s.level) = subst (λ j. at_least g (all_at s.levels s.rising (s.level + d)) v (get_or (all_at s.levels s.rising (s.level + d)) v 0) ≤ high p j) (ap (group_of p g.vertices) on ∙ same (s.level + d) le (omega (arith, near))) meets in
                  absurd (omega (arith, few, over v there, counted_together p g x s i (s.level + d) le free_d v h)),
            )
      ])

  -- they are on the level k, on which no vertex of the levels between stands in their way
  pub sweeping_together : (k : ℕ) → s.level ≤ k → IsFree s.level k s.waits s.meets → ((j : ℕ) → s.level ≤ j → j < k → group_of p g.vertices j ≡ group_of p g.vertices s.level) → IsSweeping p g x (together s k)
  sweeping_together k le free same = record {
    placed = record {
      start = i.placed.start;
      raising =
          let all_way : s.level + (k - s.level) ≡ k = omega (arith, le) in
          subst (λ j. IsRaising p g x (all_at s.levels s.rising j)) all_way (raising_together k (k - s.level) free (omega (arith, all_way)) same);
      stood = λ v at none. all_at_other s.levels s.rising k v none ∙ i.placed.stood v (omega (arith, at, le, all_at_other s.levels s.rising k v none)) none;
    };
    rise = rising_together p g x s i k le free;
    awaited = awaited_together p g x s i k le free;
  }

  pub paid_together : (k first now : ℕ) → s.level ≤ k → IsFree s.level k s.waits s.meets → IsPaid g x s first now → IsPaid g x (together s k) first now
  paid_together k first now le free paid = omega (
    arith,
    paid,
    effort_more g x s.levels (all_at s.levels s.rising k) g.vertices (λ v h. elim (cases_Bool (has_number v s.rising)) [
      | inl there ↦ omega (arith, (i.rise.came v there).1, come_to p g x s i k le free v there, le)
      | inr none ↦ omega (arith, all_at_other s.levels s.rising k v none)
    ]),
  )
