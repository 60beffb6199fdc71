use Rattle.std.proofs.Common.{◌≡◌, ◌∙◌, ◌+◌, ◌++◌, ◌-◌, ℕ, List, drop, replicate, length, ap, arith, vec_len}
use Rattle.std.proofs.lemmas.List.{with_items_is}
use Rattle.kc_dense.specs.declared.tournament.TheConstants.{GREATEST}
use Rattle.kc_dense.proofs.TournamentLemmas.{new_leaves, tree_new, new_numbers}
use Rattle.kc_dense.proofs.tournament.Tournament.new.Goals as goal

sized : (c : goal.After-nodes-6-1) → length c.play.new.nodes ≡ c.resize-2.new.self.len
sized c = omega (arith, c.deref_mut.ensures.len)

leaves : (c : goal.After-nodes-6-1) → drop c.next_power_of_two-width.result c.play.new.nodes ≡ c.args.numbers.now ++ replicate (c.next_power_of_two-width.result - length c.args.numbers.now) GREATEST
leaves c =
    let width = c.next_power_of_two-width.result in
    let counted : vec_len c.extend_from_slice.new.self ≡ width + length c.args.numbers.now = omega (arith, c.in_ok-extend_from_slice.ensures.len, c.in_ok-resize.ensures.len) in
    c.play.ensures.leaves ∙ ap (λ (xs : List ℕ). drop width xs) c.deref_mut.ensures.value
    ∙ new_leaves width (vec_len c.in_ok-nodes.nodes) (vec_len c.extend_from_slice.new.self) GREATEST c.args.numbers.now _ _ _ _ c.next_power_of_two-width.ensures.lower_bound
    c.in_ok-nodes.ensures.items c.in_ok-nodes.ensures.len c.in_ok-resize.ensures.items c.in_ok-extend_from_slice.ensures.items counted c.in_ok-resize-2.ensures.items

pub invariant_of-result : goal.invariant_of-result
invariant_of-result c =
    rw (with_items_is c.resize-2.new.self c.play.new.nodes (sized c))
    (tree_new c.next_power_of_two-width.result c.args.numbers.now c.play.new.nodes c.next_power_of_two-width.ensures.power c.next_power_of_two-width.ensures.lower_bound
    (λ i h. omega (arith, c.type_inv.numbers i)) (omega (arith, sized c, c.in_ok-resize-2.ensures.len)) c.play.ensures.played (leaves c))

pub returns : goal.returns
returns c =
    rw (with_items_is c.resize-2.new.self c.play.new.nodes (sized c))
    (new_numbers c.next_power_of_two-width.result GREATEST c.args.numbers.now c.play.new.nodes (leaves c))
