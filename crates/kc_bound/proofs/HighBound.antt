-- The upper bound: a core has a member of least level, all of whose neighbours in it are at that level or above.
use Rattle.std.proofs.Common.{ℕ, suc, zero, ◌≤◌, ◌<◌, ◌≡◌, ◌⊎◌, inl, inr, Bool, true, false, List, get_or, arith}
use Rattle.std.proofs.lemmas.Bool.{cases_lt, cases_Bool, both_ways, le-leb}
use Rattle.std.proofs.lemmas.Bool.Decides.{nat_tests}
use Rattle.kc_graph.specs.Shape.{GraphShape}
use Rattle.kc_levels.specs.LevelList.{at_least}
use Rattle.kc_levels.proofs.lemmas.AtLeast.{count_by-mono}
use Rattle.kc_bound.specs.Cores.{degree_within, IsCore}

-- a member of least level, or none at all
pub record Lowest (s : ℕ → Bool) (x : List ℕ) (n : ℕ) : Type 0 where
  pub member : ℕ
  pub holds : s member ≡ true
  pub low : (w : ℕ) → w < n → s w ≡ true → get_or x member 0 ≤ get_or x w 0

pub lowest_or_none : (s : ℕ → Bool) (x : List ℕ) (n : ℕ) → Lowest s x n ⊎ ((w : ℕ) → w < n → s w ≡ false)
lowest_or_none s x zero = inr (λ w h. absurd (omega arith))
lowest_or_none s x (suc n) = elim (lowest_or_none s x n) [
  | inl l ↦ elim (cases_Bool (s n)) [
    | inl in_set ↦ grind (arith, nat_tests, lowest_or_none s x n, cases_lt (get_or x n 0) (get_or x l.member 0))
    | inr out ↦ grind (arith, nat_tests, lowest_or_none s x n, both_ways, out)
  ]
  | inr none ↦ grind (arith, nat_tests, lowest_or_none s x n, cases_Bool (s n), both_ways)
]

-- no core is deeper than what any rising bound allows each vertex at its own level or above
pub high_bound : (g : GraphShape) (x : List ℕ) (bound : ℕ → ℕ) (s : ℕ → Bool) (k v : ℕ) → ((a b : ℕ) → a ≤ b → bound a ≤ bound b) → ((u : ℕ) → u < g.vertices → at_least g x u (get_or x u 0) ≤ bound (get_or x u 0)) → IsCore g k s → s v ≡ true → k ≤ bound (get_or x v 0)
unfolding degree_within at_least
high_bound g x bound s k v rises meets core holds = grind (arith, nat_tests, lowest_or_none s x g.vertices, lowest_or_none, count_by-mono, le-leb, both_ways, core.vertices, core.enough)
