use Rattle.std.proofs.Common.{◌≡◌, ◌<◌, ◌∙◌, ℕ, List, length, drop, set, sym, ap, arith}
use Rattle.std.proofs.lemmas.List.{with_items_is, length-take}
use Rattle.kc_dense.proofs.TournamentLemmas.{tree_set, numbers_set}
use Rattle.kc_dense.proofs.tournament.Tournament.set.Goals as goal

sized : (c : goal.After-self-1) → length c.replay.new.nodes ≡ c.self.inside.nodes.len
sized c = omega (arith, c.deref_mut.ensures.len)

leaves : (c : goal.After-self-1) → drop c.self.inside.width c.replay.new.nodes ≡ set (drop c.self.inside.width c.self.inside.nodes.items) c.args.i c.args.number
leaves c = c.replay.ensures.leaves ∙ ap (λ (xs : List ℕ). set (drop c.self.inside.width xs) c.args.i c.args.number) c.deref_mut.ensures.value

pub invariant_of-self : goal.invariant_of-self
invariant_of-self c =
    let inside : c.args.i < c.self.inside.len = omega (arith, c.requires, ap length (sym c.self.view_is), length-take c.self.inside.len (drop c.self.inside.width c.self.inside.nodes.items)) in
    rw (with_items_is c.self.inside.nodes c.replay.new.nodes (sized c))
    (tree_set _ _ c.args.i c.args.number c.self.inside.nodes.items _ c.self.invariant inside (omega (arith, c.ranges.number.fits)) (omega (arith, ap length c.deref_mut.ensures.value)) c.replay.ensures.played (leaves c))

pub returns : goal.returns
returns c =
    rw (with_items_is c.self.inside.nodes c.replay.new.nodes (sized c), sym c.self.view_is)
    (numbers_set c.self.inside.len c.self.inside.width c.args.i c.args.number c.self.inside.nodes.items c.replay.new.nodes (leaves c))
