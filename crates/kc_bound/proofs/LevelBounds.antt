-- The two bounds of coreness by the level of a vertex, for every profile.
use Rattle.std.proofs.Common.{ℕ, suc, zero, ◌+◌, ◌-◌, ◌*◌, ◌/◌, ◌≤◌, ◌<◌, ◌≡◌, List, get_or, refl, arith, one-add, add-zero}
use Rattle.std.proofs.lemmas.Nat.{div-mul-add}
use Rattle.std.proofs.Math.Nat.{div-mul-le_self}
use Rattle.std.proofs.lemmas.Bool.Decides.{nat_tests}
use Rattle.kc_graph.specs.Shape.{GraphShape}
use Rattle.kc_levels.specs.declared.profile.Profile.{Profile}
use Rattle.kc_levels.specs.declared.profile.Profile.TheVariants.{Two}
use Rattle.kc_levels.specs.Thresholds.{low, high, lo, grow, height, group_of, lo_after}
use Rattle.kc_levels.specs.LevelList.{at_least, IsHeld}
use Rattle.kc_levels.proofs.lemmas.Thresholds.{lo_after-pos, low-pos, low-mono, high-mono, grow-ge, high-est, high-est-two, height-pos, grow-height, group_of-mono}
use Rattle.kc_bound.specs.Laws.{CorenessIsOne, HighBoundsCoreness, LoBoundsCoreness, EstimateIsNearCoreness}
use Rattle.kc_bound.proofs.HighBound.{high_bound}
use Rattle.kc_bound.proofs.LoBound.{held_core}
use Rattle.kc_bound.proofs.Growth.{lo_after-le, growth-step}

pub high_bounds_coreness : HighBoundsCoreness
high_bounds_coreness p g x meets v c is =
    high_bound g x (λ l. high p (group_of p g.vertices l)) is.set c v
    (λ a b le. high-mono p (group_of p g.vertices a) (group_of p g.vertices b) (group_of-mono p g.vertices a b some le)) meets is.core is.holds
  where
    some : 1 ≤ g.vertices
    some = omega (arith, is.core.vertices v is.holds)

-- the first level of group i + 1
group_of-first : (p : Profile) (n i : ℕ) → 1 ≤ n → group_of p n (1 + i * height p n) ≡ suc i
group_of-first p n i some = rw one-add (let e = rw add-zero at (div-mul-add i (height p n) 0 (height-pos p n some)) in omega arith)

-- a vertex that is held on a level above 0 has the neighbours that the level below asks
held-below : (p : Profile) (g : GraphShape) (x : List ℕ) (v l : ℕ) → IsHeld p g x v l → 0 < l → low p (group_of p g.vertices (l - 1)) ≤ at_least g x v (l - 1)
held-below p g x v l held some = grind (arith, nat_tests)

pub lo_bounds_coreness : LoBoundsCoreness
unfolding low grow lo
lo_bounds_coreness p g x graph meets v c is = at_level (get_or x v 0) refl
  where
    inside : v < g.vertices
    inside = is.core.vertices v is.holds

    floor : ℕ → ℕ
    floor l = low p (group_of p g.vertices l)

    rises : (a b : ℕ) → a ≤ b → floor a ≤ floor b
    rises a b le = low-mono p (group_of p g.vertices a) (group_of p g.vertices b) (group_of-mono p g.vertices a b (omega (arith, inside)) le)

    held : (u : ℕ) → u < g.vertices → 0 < get_or x u 0 → floor (get_or x u 0 - 1) ≤ at_least g x u (get_or x u 0 - 1)
    held u h some = held-below p g x u (get_or x u 0) (meets u h) some

    in_group : (i l : ℕ) → get_or x v 0 ≡ suc l → i ≡ l / height p g.vertices → lo p (suc i) ≤ c
    in_group zero l at e =
        let found = held_core g x floor (λ j. 1 + j * g.vertices) 0 1 1 0 v graph rises held (omega arith) (λ r s j more le. absurd (omega arith)) (omega arith) (omega arith) inside (omega arith) in
        is.most found.0 1 found.1 found.2
    in_group (suc i) l at e =
        let l' = low p (suc i) in
        let t = lo_after p l' - 1 in
        let t_is : suc t ≡ lo_after p l' = omega (arith, lo_after-pos p l') in
        let reach : suc i * height p g.vertices ≤ l = rw (← e) at (div-mul-le_self l (height p g.vertices)) in
        let found = held_core g x floor (grow p) (1 + i * height p g.vertices) (height p g.vertices) (l' - t) t v graph rises held
        (rw (group_of-first p g.vertices i (omega (arith, inside))) (omega (arith, lo_after-le p l')))
        (λ r s j more le. growth-step p l' r s (grow p j) (low-pos p (suc i)) (omega (arith, grow-ge p j)) le more)
        (omega arith) (grow-height p g.vertices) inside (omega arith) in
        rw (← t_is) (is.most found.0 (suc t) found.1 found.2)

    at_level : (l : ℕ) → get_or x v 0 ≡ l → lo p (group_of p g.vertices l) ≤ c
    at_level l at = grind (arith, nat_tests, one-add, in_group, g.vertices)

pub estimate_is_near_coreness : EstimateIsNearCoreness
estimate_is_near_coreness = record {
  estimate = λ p g x graph meets v c is. omega (arith, lo_bounds_coreness p g x graph meets.lower v c is);
  coreness = λ p g x graph meets v c is.
      omega (arith, high_bounds_coreness p g x meets.upper v c is, high-est p (group_of p g.vertices (get_or x v 0)));
  nearer = λ g x graph meets v c is.
      omega (arith, high_bounds_coreness Two g x meets.upper v c is, high-est-two (group_of Two g.vertices (get_or x v 0)));
}

pub coreness_is_one : CorenessIsOne
coreness_is_one g v a b is is' = omega (arith, is.most is'.set b is'.core is'.holds, is'.most is.set a is.core is.holds)
