use Rattle.std.proofs.Common.{ℕ, ◌≡◌, ◌+◌, ◌<◌, ◌∙◌, inl, inr, true, List, [], ◌∷◌, ◌++◌, get_or, ap, arith}
use Rattle.std.proofs.lemmas.Bool.{cases_eq, cases_Bool}
use Rattle.std.proofs.lemmas.Bool.Decides.{nat_tests}
use Rattle.kc_graph.specs.Numbers.{has_number}
use Rattle.kc_graph.proofs.lemmas.Numbers.{has_number-push}
use Rattle.kc_levels.specs.Following.{AreDistinct}
use Rattle.kc_levels.proofs.lemmas.Moves.{distinct_push}
use Rattle.graph_tests.proofs.tests.adj.try_vertices.Goals as goal
use Rattle.graph_tests.proofs.tests.adj.try_vertices.Goals.{then-get-gt0+in_ok-push, else-get-gt0}

module _ (levels : List ℕ) (k : ℕ) (vs : List ℕ) where
  abbrev AreHighBelow : ℕ → List ℕ → Type 0
  AreHighBelow n us = ((u : ℕ) → has_number u us ≡ true → u < n) × ((u : ℕ) → u < n → 0 < get_or levels u 0 → has_number u us ≡ true) × AreDistinct us

  pushed : AreHighBelow k vs → AreHighBelow (k + 1) (vs ++ k ∷ [])
  pushed s = (
    λ u there. elim (cases_Bool (has_number u vs)) [
      | inl old ↦ omega (arith, s.0 u old)
      | inr new ↦ let push = has_number-push u k vs in grind (arith, nat_tests)
    ],
    λ u h high. has_number-push u k vs ∙ (elim (cases_eq u k) [
      | inl e ↦ grind (arith, nat_tests, e)
      | inr ne ↦ let old : has_number u vs ≡ true = s.1 u (omega (arith, h, ne)) high in grind (arith, nat_tests, old)
    ]),
    distinct_push vs k s.2 (elim (cases_Bool (has_number k vs)) [
      | inl there ↦ absurd (omega (arith, s.0 k there))
      | inr none ↦ none
    ]),
  )

  passed : get_or levels k 0 ≡ 0 → AreHighBelow k vs → AreHighBelow (k + 1) vs
  passed zero s = (
    λ u there. omega (arith, s.0 u there),
    λ u h high. elim (cases_eq u k) [
      | inl e ↦ absurd (omega (arith, high, zero, ap (λ n. get_or levels n 0) e))
      | inr ne ↦ s.1 u (omega (arith, h, ne)) high
    ],
    s.2,
  )

pub loop-v-preserved : goal.loop-v-preserved
loop-v-preserved c = elim c.if-get-gt0.branch [
  | then-get-gt0+in_ok-push w ↦ rw (w.vertices-is, w.in_ok-push.ensures.items) (pushed c.args.levels.now c.loop-v.v c.loop-v.vertices.items c.loop-v.invariant)
  | else-get-gt0 w ↦ rw w.vertices-is (passed c.args.levels.now c.loop-v.v c.loop-v.vertices.items (omega (arith, c.get.ensures, w.if-get-gt0.false)) c.loop-v.invariant)
]
