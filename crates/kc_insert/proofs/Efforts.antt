-- What a step adds to the steps that a sweep may take.
use Rattle.std.proofs.Common.{ℕ, suc, zero, ◌+◌, ◌-◌, ◌*◌, ◌≤◌, ◌<◌, ◌≡◌, ◌≢◌, inl, inr, true, List, [], ◌∷◌, ◌++◌, length, get_or, set, refl, ap, sym, ◌∙◌, arith, subst}
use Rattle.std.proofs.Math.Nat.{mul-le-mul_right}
use Rattle.std.proofs.lemmas.Bool.{cases_eq, true≢false}
use Rattle.std.proofs.lemmas.Bool.Decides.{nat_tests}
use Rattle.std.proofs.lemmas.List.{length-set, get_or-set_same, get_or-set_other}
use Rattle.kc_graph.specs.Numbers.{has_number}
use Rattle.kc_graph.specs.Shape.{GraphShape, neighbours_of}
use Rattle.kc_levels.specs.Following.{AreDistinct}
use Rattle.kc_adj.specs.Degrees.{degrees}
use Rattle.kc_insert.specs.Effort.{effort}
use Rattle.kc_insert.specs.private.Rising.{all_at}

pub effort_none : (g : GraphShape) (x : List ℕ) (n : ℕ) → effort g x x n ≡ 0
effort_none g x zero = refl
effort_none g x (suc n) = grind (arith, nat_tests, effort_none g x n)

pub effort_more : (g : GraphShape) (x y z : List ℕ) (n : ℕ) → ((v : ℕ) → v < n → get_or y v 0 ≤ get_or z v 0) → effort g x y n ≤ effort g x z n
effort_more g x y z zero more = omega arith
effort_more g x y z (suc n) more = grind (arith, nat_tests, effort_more g x y z n (λ v h. more v (omega (arith, h))), mul-le-mul_right)

effort_other : (g : GraphShape) (x y : List ℕ) (v l n : ℕ) → n ≤ v → effort g x (set y v l) n ≡ effort g x y n
effort_other g x y v l zero le = refl
effort_other g x y v l (suc n) le = grind (arith, nat_tests, effort_other g x y v l n (omega arith), get_or-set_other)

-- what one rise adds
effort_rise : (g : GraphShape) (x y : List ℕ) (v n : ℕ) → v < length y → v < n → get_or x v 0 ≤ get_or y v 0 → effort g x (set y v (get_or y v 0 + 1)) n ≡ effort g x y n + (3 * length (neighbours_of v g.edges) + 1)
effort_rise g x y v zero inside h le = absurd (omega arith)
effort_rise g x y v (suc n) inside h le = elim (cases_eq v n) [
  | inl e ↦
      subst (λ u. effort g x (set y v (get_or y v 0 + 1)) n + (get_or (set y v (get_or y v 0 + 1)) u 0 - get_or x u 0) * (3 * length (neighbours_of u g.edges) + 1) ≡ (effort g x y n + (get_or y u 0 - get_or x u 0) * (3 * length (neighbours_of u g.edges) + 1)) + (3 * length (neighbours_of v g.edges) + 1)) e
      (plain _ _ _ _ _ _ (effort_other g x y v (get_or y v 0 + 1) n (omega arith)) (get_or-set_same y v (get_or y v 0 + 1) 0 inside) le)
  | inr ne ↦
      ap (λ k. effort g x (set y v (get_or y v 0 + 1)) n + (k - get_or x n 0) * (3 * length (neighbours_of n g.edges) + 1)) (get_or-set_other y v n (get_or y v 0 + 1) 0 (λ e. ne (sym e)))
      ∙ swap _ _ _ _ (effort_rise g x y v n inside (omega arith) le)
]
  where
    plain : (a b k y_ x_ c : ℕ) → a ≡ b → k ≡ y_ + 1 → x_ ≤ y_ → a + (k - x_) * c ≡ (b + (y_ - x_) * c) + c
    plain a b k y_ x_ c e f le =
        let one : k - x_ ≡ (y_ - x_) + 1 = omega arith in
        rw (e, one) (grind arith)

    swap : (a b c d : ℕ) → a ≡ b + c → a + d ≡ (b + d) + c
    swap a b c d e = omega arith

-- what the rises of several vertices of one level add
pub effort_up : (g : GraphShape) (x y vs : List ℕ) (l n : ℕ) → AreDistinct vs → ((v : ℕ) → has_number v vs ≡ true → (v < n) × (v < length y) × (get_or y v 0 ≡ l) × (get_or x v 0 ≤ l)) → effort g x (all_at y vs (l + 1)) n ≡ effort g x y n + (3 * degrees g vs + length vs)
effort_up g x y [] l n distinct all = omega arith
effort_up g x y (v ∷ vs) l n distinct all =
    let here = all v (grind (arith, nat_tests)) in
    let one : effort g x (set y v (l + 1)) n ≡ effort g x y n + (3 * length (neighbours_of v g.edges) + 1) = subst (λ k. effort g x (set y v (k + 1)) n ≡ effort g x y n + (3 * length (neighbours_of v g.edges) + 1)) here.2 (effort_rise g x y v n here.1 here.0 (omega (arith, here.2, here.3))) in
    let more = effort_up g x (set y v (l + 1)) vs l n distinct.1 (λ u there.
    let that = all u (grind (arith, nat_tests, there)) in
    let other : u ≢ v = λ e. true≢false (sym there ∙ ap (λ t. has_number t vs) e ∙ distinct.0) in
    (that.0, rw (length-set y v (l + 1)) that.1, get_or-set_other y v u (l + 1) 0 other ∙ that.2, that.3)) in
    omega (arith, one, more)

pub degrees-append : (g : GraphShape) (us vs : List ℕ) → degrees g (us ++ vs) ≡ degrees g us + degrees g vs
degrees-append g [] vs = omega arith
degrees-append g (u ∷ us) vs = omega (arith, degrees-append g us vs)
