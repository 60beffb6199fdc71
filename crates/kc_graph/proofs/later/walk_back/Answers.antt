use Rattle.std.proofs.Common.{◌≡◌, drop, length, subst, arith}
use Rattle.std.proofs.lemmas.List.{drop_all, length-drop}
use Rattle.kc_graph.specs.private.Later.{IsNetEffect}
use Rattle.kc_graph.proofs.LaterLemmas.{counts_few}
use Rattle.kc_graph.proofs.later.walk_back.Goals as goal

pub loop-place-init : goal.loop-place-init
loop-place-init c = record {
  within = omega arith;
  comes = rw (drop_all (length c.args.items.now) c.args.items.now (omega arith)) (c.of_none-later.ensures c.args.graph.now.edges);
}

pub take-requires-clause-repeats_room : goal.take-requires-clause-repeats_room
take-requires-clause-repeats_room c =
    let few = counts_few c.args.graph.now.edges (drop c.loop-place.place c.args.items.now) c.loop-place.later c.loop-place.invariant.comes in
    omega (arith, few.1, c.requires.few, c.loop-place.invariant.within, c.loop-place-test.true, length-drop c.loop-place.place c.args.items.now)

pub take-requires-clause-idle_room : goal.take-requires-clause-idle_room
take-requires-clause-idle_room c =
    let few = counts_few c.args.graph.now.edges (drop c.loop-place.place c.args.items.now) c.loop-place.later c.loop-place.invariant.comes in
    omega (arith, few.2, c.requires.few, c.loop-place.invariant.within, c.loop-place-test.true, length-drop c.loop-place.place c.args.items.now)

pub returns : goal.returns
returns c =
    let first : c.loop-place.place ≡ 0 = omega (arith, c.loop-place-test.false) in
    subst (λ p. IsNetEffect c.args.graph.now.edges (drop p c.args.items.now) c.loop-place.later) first c.loop-place.invariant.comes
