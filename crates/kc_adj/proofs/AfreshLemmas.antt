-- Counts that are made afresh, piece by piece.
use Rattle.std.proofs.Common.{ℕ, ◌+◌, ◌-◌, ◌≡◌, inl, inr, List, ◌++◌, length, get_or, refl, ap, subst, ◌∙◌, arith}
use Rattle.std.proofs.lemmas.Bool.{cases_lt}
use Rattle.std.proofs.lemmas.List.{get_or_append_left, get_or-append_right, length-append}
use Rattle.kc_graph.specs.Shape.{GraphShape}
use Rattle.kc_levels.specs.LevelList.{at_least}
use Rattle.kc_adj.specs.LeveledGraph.{IsCounted}
use Rattle.kc_adj.specs.private.Afresh.{AreCounted}

module _ (g : GraphShape) (x : List ℕ) (d first : ℕ) where
  pub counted_both : (middle : ℕ) (front back : List ℕ) → middle ≡ first + length front → AreCounted g x d first (length front) front → AreCounted g x d middle (length back) back → AreCounted g x d first (length (front ++ back)) (front ++ back)
  counted_both middle front back next s t k h = elim (cases_lt k (length front)) [
    | inl lt ↦ get_or_append_left front back 0 k lt ∙ s k lt
    | inr ge ↦
        let same : middle + (k - length front) ≡ first + k = omega (arith, next, ge) in
        get_or-append_right front back (length front) k 0 refl ge
        ∙ t (k - length front) (omega (arith, h, length-append front back, ge))
        ∙ ap (λ u. at_least g x u (get_or x u 0 - d)) same
  ]

pub counted_all : (g : GraphShape) (x : List ℕ) (d : ℕ) (counts : List ℕ) → length counts ≡ g.vertices → AreCounted g x d 0 (length counts) counts → IsCounted g x d counts
counted_all g x d counts long s = record {
  sized = long;
  values = λ v h.
      let same : 0 + v ≡ v = omega arith in
      subst (λ u. get_or counts v 0 ≡ at_least g x u (get_or x u 0 - d)) same (s v (omega (arith, h, long)));
}
