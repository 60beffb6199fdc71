use Rattle.std.proofs.Common.{◌≡◌, length, ap, arith}
use Rattle.kc_insert.specs.Ranges.{Part}
use Rattle.kc_insert.proofs.Halting.{halting_count, halting_few, halting_first, halting_last, halting_next}
use Rattle.kc_insert.proofs.ranges.stop_each.Goals as goal

pub loop-i-init : goal.loop-i-init
loop-i-init c = halting_first c.args.levels.now c.args.items.now

pub overflow_add-count : goal.overflow_add-count
overflow_add-count c =
    let count : c.len-count.result ≡ length c.let_stay.new.self.stay = omega (arith, c.len-count.ensures, ap (λ (p : Part). length p.stay) c.range.view_is) in
    omega (arith, count, halting_few c.args.levels.now c.loop-i.levels c.let_stay.new.levels c.loop-i.i c.loop-i.count c.args.items.now c.loop-i.items c.let_stay.new.self c.index-items-i.result (omega (arith, c.loop-i-test.true, c.loop-i.invariant.ranges.sized)) c.loop-i.invariant c.requires c.in_ok-let_stay.ensures.same.0 c.in_ok-let_stay.ensures.same.1 c.in_ok-let_stay.ensures.part c.in_ok-let_stay.ensures.stay)

pub loop-i-preserved : goal.loop-i-preserved
loop-i-preserved c =
    let count : c.len-count.result ≡ length c.let_stay.new.self.stay = omega (arith, c.len-count.ensures, ap (λ (p : Part). length p.stay) c.range.view_is) in
    rw count (halting_next c.args.levels.now c.loop-i.levels c.let_stay.new.levels c.loop-i.i c.loop-i.count c.args.items.now c.loop-i.items c.let_stay.new.self c.index-items-i.result (omega (arith, c.loop-i-test.true, c.loop-i.invariant.ranges.sized)) c.loop-i.invariant c.requires c.in_ok-let_stay.ensures.same.0 c.in_ok-let_stay.ensures.same.1 c.in_ok-let_stay.ensures.part c.in_ok-let_stay.ensures.stay)

pub returns-clause-stop : goal.returns-clause-stop
returns-clause-stop c = halting_last c.args.levels.now c.loop-i.levels c.loop-i.i c.loop-i.count c.args.items.now c.loop-i.items (omega (arith, c.loop-i-test.false, c.loop-i.invariant.ranges.sized)) c.loop-i.invariant

pub returns-clause-count : goal.returns-clause-count
returns-clause-count c = halting_count c.args.levels.now c.loop-i.levels c.loop-i.i c.loop-i.count c.args.items.now c.loop-i.items (omega (arith, c.loop-i-test.false, c.loop-i.invariant.ranges.sized)) c.loop-i.invariant
