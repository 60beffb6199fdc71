use Rattle.std.proofs.Common.{◌∙◌, ℕ, List, drop, ap, subst}
use Rattle.std.specs.List.Sorted.{IsPermutation}
use Rattle.std.proofs.lemmas.List.{take_rest}
use Rattle.std.proofs.lemmas.List.Sorted.{IsNonDecreasingBy-from_sort}
use Rattle.kc_dense.specs.Dense.{IsDensePart}
use Rattle.kc_dense.proofs.SetLemmas.{has_number-permutation}
use Rattle.kc_dense.proofs.DegreeLemmas.{edges_agree}
use Rattle.kc_dense.proofs.MemberLemmas.{members_dense, members_few}
use Rattle.kc_dense.proofs.FactorLemmas.{dense_part_is_half_as_dense}
use Rattle.kc_dense.proofs.dense_part.densest.Goals as goal

moved : (c : goal.After-drop-peeled-2) → IsPermutation (drop c.in_ok-peeled.peeled.densest.first c.in_ok-peeled.peeled.order.items) c.sort_unstable.new.self.items
moved c =
    let first = c.in_ok-peeled.peeled.densest.first in
    let part = c.in_ok-members.ensures.items ∙ take_rest c.deref.result.now first ∙ ap (λ (xs : List ℕ). drop first xs) c.deref.ensures.value in
    subst (λ (xs : List ℕ). IsPermutation xs c.sort_unstable.new.self.items) part c.sort_unstable.ensures.permutation

dense : (c : goal.After-drop-peeled-2) → IsDensePart c.args.graph.now c.sort_unstable.new.self.items
dense c =
    members_dense _ _ _ _ c.in_ok-peeled.ensures.peeled c.in_ok-peeled.ensures.densest (moved c) (IsNonDecreasingBy-from_sort (λ x. x) _ c.sort_unstable.ensures.sorted)

pub returns-clause-members : goal.returns-clause-members
returns-clause-members c = dense c

pub returns-clause-edges : goal.returns-clause-edges
returns-clause-edges c =
    c.in_ok-peeled.ensures.edges ∙ edges_agree c.args.graph.now _ _ (λ u. has_number-permutation u _ _ (moved c))

pub returns-clause-factor : goal.returns-clause-factor
returns-clause-factor c = dense_part_is_half_as_dense c.args.graph.now _ c.vertices.ensures.graph (dense c)

pub returns-clause-few : goal.returns-clause-few
returns-clause-few c = members_few c.args.graph.now _ (dense c)
