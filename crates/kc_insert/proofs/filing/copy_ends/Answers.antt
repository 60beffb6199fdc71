use Rattle.std.proofs.Common.{◌<◌, ◌≢◌, length, get_or, refl, sym, subst, arith, ◌∙◌}
use Rattle.kc_graph.specs.Shape.{Pair}
use Rattle.kc_insert.proofs.Copying.{copied_more, copied_on, copied_one_vertex, copied_whole, in_same}
use Rattle.kc_insert.proofs.filing.copy_ends.Goals as goal

pub loop-e-preserved : goal.loop-e-preserved
loop-e-preserved c =
    let high : c.e.inside.b < length c.args.fresh.now = subst (λ (e : Pair). e.1 < length c.args.fresh.now) (sym (c.e.view_is ∙ c.e-item.is)) (c.requires.inside c.loop-e.e-index _ c.loop-e-test.true) in
    let low : c.e.inside.a < length c.args.fresh.now = omega (arith, high, c.e.invariant) in
    let at_a = in_same c.args.ranges.now c.loop-e.ranges c.e.inside.a c.loop-e.invariant.same (c.requires.vertices c.e.inside.a low) in
    let one = copied_one_vertex c.args.fresh.now c.e.inside.a (get_or c.args.fresh.now c.e.inside.a 0) c.loop-e.ranges c.set.new.self at_a refl c.set.ensures in
    let at_b = in_same c.loop-e.ranges c.set.new.self c.e.inside.b one.same (in_same c.args.ranges.now c.loop-e.ranges c.e.inside.b c.loop-e.invariant.same (c.requires.vertices c.e.inside.b high)) in
    let two = copied_one_vertex c.args.fresh.now c.e.inside.b (get_or c.args.fresh.now c.e.inside.b 0) c.set.new.self c.set-in-loop-e.new.self at_b refl c.set-in-loop-e.ensures in
    copied_more (λ v (e : Pair). (v ≢ e.0) × (v ≢ e.1)) c.args.edges.now c.loop-e.e-index _ (c.e.inside.a, c.e.inside.b) c.args.fresh.now c.args.ranges.now c.loop-e.ranges _ c.loop-e-test.true (c.e.view_is ∙ c.e-item.is) c.loop-e.invariant
    (copied_on c.args.fresh.now (λ v. v ≢ c.e.inside.a) (λ v. v ≢ c.e.inside.b) (λ v. (v ≢ c.e.inside.a) × (v ≢ c.e.inside.b)) c.loop-e.ranges c.set.new.self _ one two (λ v p q. (p, q)))

pub returns : goal.returns
returns c = copied_whole (λ v (e : Pair). (v ≢ e.0) × (v ≢ e.1)) c.args.edges.now c.loop-e.e-index c.args.fresh.now c.args.ranges.now c.loop-e.ranges (omega (arith, c.loop-e-test.false)) c.loop-e.invariant
