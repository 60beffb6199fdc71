-- A list whose members have different things has at least as many members.
use Rattle.std.proofs.Common.{ℕ, suc, zero, ◌+◌, ◌≤◌, ◌<◌, ◌≡◌, ◌≢◌, inl, inr, true, List, [], ◌∷◌, length, refl, ap, sym, ◌∙◌, arith}
use Rattle.std.proofs.lemmas.Bool.{cases_eq, true≢false, eq-eqb, ne_eqb}
use Rattle.std.proofs.lemmas.Bool.Decides.{nat_tests}
use Rattle.kc_graph.specs.Numbers.{has_number}
use Rattle.kc_graph.specs.private.Numbers.{without}
use Rattle.kc_graph.proofs.lemmas.Numbers.{has_number-without}

length-without-le : (a : ℕ) (ws : List ℕ) → length (without a ws) ≤ length ws
length-without-le a [] = omega arith
length-without-le a (w ∷ ws) = grind (arith, nat_tests, length-without-le a ws, eq-eqb, ne_eqb)

length-without : (a : ℕ) (ws : List ℕ) → has_number a ws ≡ true → length (without a ws) + 1 ≤ length ws
length-without a [] at = absurd (true≢false (sym at))
length-without a (w ∷ ws) at = elim (cases_eq w a) [
  | inl same ↦ rw (eq-eqb w a same) (omega (arith, length-without-le a ws))
  | inr ne ↦ rw (ne_eqb w a ne) (omega (arith, length-without a ws (grind (arith, nat_tests, at, ne))))
]

-- where each number below m is that of a member, the list has at least m members
pub pigeons : (f : ℕ → ℕ) (m : ℕ) (ws : List ℕ) → ((k : ℕ) → k < m → (w : ℕ) × (has_number w ws ≡ true) × (f w ≡ k)) → m ≤ length ws
pigeons f zero ws each = omega arith
pigeons f (suc m) ws each =
    let last = each m (omega arith) in
    omega (arith, length-without last.0 ws last.1, pigeons f m (without last.0 ws) (λ k h. let at = each k (omega arith) in (at.0, kept at.0 last.0 (λ e. other k h (sym at.2 ∙ ap f (sym e) ∙ last.2)) at.1, at.2)))
  where
    other : (k : ℕ) → k < m → k ≡ m → ⊥
    other k h e = absurd (omega arith)

    kept : (u a : ℕ) → a ≢ u → has_number u ws ≡ true → has_number u (without a ws) ≡ true
    kept u a ne at = has_number-without u a ws ∙ rw (ne_eqb a u ne, at) refl
