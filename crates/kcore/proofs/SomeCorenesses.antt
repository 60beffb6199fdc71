-- There is exactly one list of the corenesses of a graph's vertices.
use Rattle.std.proofs.Common.{ℕ, zero, suc, ◌≡◌, ◌≤◌, ◌<◌, List, [], ◌∷◌, ◌++◌, length, get_or, refl, sym, ap, ◌∙◌, arith, subst, inl, inr}
use Rattle.std.proofs.lemmas.Bool.{cases_lt}
use Rattle.std.proofs.lemmas.List.{get_or_append_left, length-append}
use Rattle.std.proofs.Math.Seq.{get_or-append_seam}
use Rattle.kc_graph.specs.Shape.{GraphShape, IsGraph}
use Rattle.kc_bound.specs.Cores.{IsCoreness}
use Rattle.std.proofs.lemmas.Grind.{same_number_lists}
use Rattle.kc_bound.proofs.lemmas.Coreness.{each_has_coreness, coreness_is_one}
use Rattle.kcore.specs.Corenesses.{AreCorenesses}

-- the corenesses of the vertices below k
corenesses_below : (g : GraphShape) (k : ℕ) → IsGraph g → k ≤ g.vertices → (cs : List ℕ) × ((length cs ≡ k) × ((v : ℕ) → v < k → IsCoreness g v (get_or cs v 0)))
corenesses_below g zero graph h = ([], (refl, λ v lt. absurd (omega arith)))
corenesses_below g (suc k) graph h =
    let there = corenesses_below g k graph (omega arith) in
    let one = each_has_coreness g k graph (omega arith) in
    let size = there.1.0 in (
      there.0 ++ one.0 ∷ [],
      (
        omega (arith, length-append there.0 (one.0 ∷ []), size),
        λ v lt. elim (cases_lt v k) [
          | inl below ↦
              let short : v < length there.0 = omega (arith, size, below) in
              subst (λ c. IsCoreness g v c) (sym (get_or_append_left there.0 (one.0 ∷ []) 0 v short)) (there.1.1 v below)
          | inr rest ↦
              let is : v ≡ k = omega (arith, rest, lt) in
              let at : get_or (there.0 ++ one.0 ∷ []) v 0 ≡ one.0 = ap (λ i. get_or (there.0 ++ one.0 ∷ []) i 0) (is ∙ sym size) ∙ get_or-append_seam there.0 one.0 [] 0 in
              subst (λ c. IsCoreness g v c) (sym at) (subst (λ u. IsCoreness g u one.0) (sym is) one.1)
        ],
      ),
    )

pub some_corenesses : (g : GraphShape) → IsGraph g → (cs : List ℕ) × AreCorenesses g cs
some_corenesses g graph = let all = corenesses_below g g.vertices graph (omega arith) in (all.0, record { sized = all.1.0; each = all.1.1 })

pub one_corenesses : (g : GraphShape) (a b : List ℕ) → AreCorenesses g a → AreCorenesses g b → a ≡ b
one_corenesses g a b p q = same_number_lists a b (p.sized ∙ sym q.sized) (λ v h.
    let below : v < g.vertices = omega (arith, h, p.sized) in
    coreness_is_one g v (get_or a v 0) (get_or b v 0) (p.each v below) (q.each v below))
