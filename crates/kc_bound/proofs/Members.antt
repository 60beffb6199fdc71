-- The members of a set of vertices, as a list.
use Rattle.std.proofs.Common.{ℕ, suc, zero, ◌≡◌, Bool, false, ◌&&◌, cond, ltb, List, [], ◌∷◌, ◌∙◌, arith}
use Rattle.std.proofs.lemmas.Bool.{lt-ltb}
use Rattle.std.proofs.lemmas.Bool.Decides.{nat_tests}
use Rattle.kc_graph.specs.Numbers.{has_number}
use Rattle.kc_bound.specs.Laws.{CoresAreLists}

abbrev members : ℕ → (ℕ → Bool) → List ℕ
members zero s = []
members (suc n) s = cond (s n) (n ∷ members n s) (members n s)

has_number-members : (n : ℕ) (s : ℕ → Bool) (u : ℕ) → has_number u (members n s) ≡ (ltb u n && s u)
has_number-members zero s u = grind (arith, nat_tests)
has_number-members (suc n) s u = grind (arith, nat_tests, has_number-members n s u)

pub cores_are_lists : CoresAreLists
cores_are_lists g k s core = (members g.vertices s, λ u. has_number-members g.vertices s u ∙ inside u)
  where
    none : (b : Bool) → (b && false) ≡ false
    none b = grind arith

    inside : (u : ℕ) → (ltb u g.vertices && s u) ≡ s u
    inside u = grind (arith, nat_tests, lt-ltb, none, g.vertices, core.vertices)
