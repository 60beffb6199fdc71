-- The lower bound: were a held vertex taken away, so many of the levels below it would go with it that the graph is too
-- small for them.
use Rattle.std.proofs.Common.{ℕ, suc, zero, ◌+◌, ◌-◌, ◌*◌, ◌≤◌, ◌<◌, ◌≡◌, inl, inr, Bool, true, List, get_or, refl, arith, subst}
use Rattle.std.proofs.lemmas.Bool.{cases_Bool, le-leb}
use Rattle.std.proofs.lemmas.Bool.Decides.{nat_tests}
use Rattle.kc_graph.specs.Shape.{GraphShape, IsGraph}
use Rattle.kc_levels.specs.LevelList.{at_least}
use Rattle.kc_graph.specs.Numbers.{count_below}
use Rattle.kc_graph.proofs.lemmas.Counts.{count_below-le}
use Rattle.kc_levels.proofs.lemmas.AtLeast.{at_least-down}
use Rattle.kc_bound.specs.Cores.{IsCore}
use Rattle.kc_bound.proofs.Counts.{count_below-pos}
use Rattle.kc_bound.proofs.Removals.{gone, Needs, Rest, rest}

-- a vertex that no step down may leave behind grows by the steps of `grow`
grown : (size_at grow : ℕ → ℕ) (base h m t : ℕ) → ((r s j : ℕ) → m * r ≤ t * s → grow j ≤ r → grow (suc j) ≤ s) → ((d : ℕ) → d < h → m * size_at (suc (base + d)) ≤ t * size_at (base + d)) → grow 0 ≤ size_at (base + h) → (j d : ℕ) → d + j ≡ h → grow j ≤ size_at (base + d)
grown size_at grow base h m t step links first zero d e = let same : d ≡ h = omega arith in rw same first
grown size_at grow base h m t step links first (suc j) d e =
    let later : grow j ≤ size_at (suc (base + d)) = subst (λ (l : ℕ). grow j ≤ size_at l) (next base d) (grown size_at grow base h m t step links first j (suc d) (omega arith)) in
    step (size_at (suc (base + d))) (size_at (base + d)) j (links d (omega arith)) later
  where
    next : (a b : ℕ) → a + suc b ≡ suc (a + b)
    next a b = omega arith

-- The lower half over any rising `floor`, and any `grow` that the two numbers m and t keep up with.
pub held_core : (g : GraphShape) (x : List ℕ) (floor grow : ℕ → ℕ) (base h m t v : ℕ)
    → IsGraph g
    → ((a b : ℕ) → a ≤ b → floor a ≤ floor b)
    → ((u : ℕ) → u < g.vertices → 0 < get_or x u 0 → floor (get_or x u 0 - 1) ≤ at_least g x u (get_or x u 0 - 1))
    → t + m ≤ floor base
    → ((r s j : ℕ) → m * r ≤ t * s → grow j ≤ r → grow (suc j) ≤ s)
    → grow 0 ≤ 1
    → g.vertices < grow h
    → v < g.vertices
    → base + h ≤ get_or x v 0
    → (s : ℕ → Bool) × (IsCore g (suc t) s) × (s v ≡ true)
held_core g x floor grow base h m t v graph rises meets enough step one above inside high =
    elim (cases_Bool (r.set v)) [
      | inl in_set ↦ (r.set, r.core, in_set)
      | inr out ↦
          let there : gone r.set x (base + h) v ≡ true = rw (out, le-leb (base + h) (get_or x v 0) high) refl in
          let some : 1 ≤ size_at (base + h) = count_below-pos g.vertices (gone r.set x (base + h)) v inside there in
          let all : grow h ≤ size_at (base + 0) = grown size_at grow base h m t step links (omega arith) h 0 (omega arith) in
          absurd (omega (arith, count_below-le g.vertices (gone r.set x (base + 0))))
    ]
  where
    r : Rest g t
    r = rest g t graph

    size_at : ℕ → ℕ
    size_at k = count_below g.vertices (gone r.set x k)

    needs : (d : ℕ) → Needs g x (base + d) (t + m)
    needs d u h above = grind (arith, nat_tests, at_least-down)

    links : (d : ℕ) → d < h → m * size_at (suc (base + d)) ≤ t * size_at (base + d)
    links d lt = let said = r.thinned.spent x (base + d) m (needs d) in omega arith
