use Rattle.std.proofs.Common.{◌*◌, ◌≡◌, refl, arith}
use Rattle.kc_insert.proofs.Making.{made, making_last, making_next}
use Rattle.kc_insert.proofs.ranges.Ranges.new.Goals as goal

pub loop-i-preserved : goal.loop-i-preserved
loop-i-preserved c =
    let first : c.first_of-first.result ≡ c.loop-i.i * c.args.layout.width = c.first_of-first.ensures in
    let one = made c.args.layout.width c.args.counts.now c.args.levels c.ranges-ranges.result c.loop-i.i c.first_of-first.result c.end_of-end.result _ c.in_ok-new.field-0 c.in_ok-new.ensures refl (omega (arith, first, c.end_of-end.ensures.from)) c.end_of-end.ensures.within (λ v h here. let it = c.end_of-end.ensures.inside v h here in (omega (arith, it.0, first), it.1)) (λ v low high_. c.end_of-end.ensures.own v (omega (arith, low, first)) high_) in
    rw (c.in_ok-push.ensures.items, c.in_ok-push-2.ensures.items) (making_next c.args.layout.width c.args.counts.now c.args.levels c.ranges-ranges.result c.loop-i.i c.loop-i.items.items c.loop-i.told.items c.loop-i.invariant c.in_ok-new.field-0 c.in_ok-new-2.field-0 one c.in_ok-new-2.ensures)

pub returns : goal.returns
returns c = making_last c.args.layout.width c.args.counts.now c.args.levels c.ranges-ranges.result c.loop-i.i c.loop-i.items.items c.loop-i.told.items c.args.layout.some (omega (arith, c.loop-i-test.false)) (omega (arith, c.loop-i.auto.i-end)) c.ranges-ranges.ensures.inside c.loop-i.invariant
