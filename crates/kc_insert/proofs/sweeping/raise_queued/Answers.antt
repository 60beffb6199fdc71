use Rattle.std.proofs.Common.{ℕ, List, ◌+◌, ◌<◌, length, ap, sym, ◌∙◌, subst, arith}
use Rattle.kc_graph.specs.Numbers.{has_number}
use Rattle.kc_levels.specs.Following.{AreDistinct}
use Rattle.kc_levels.specs.LevelList.{IsCapped, IsRaised}
use Rattle.kc_levels.specs.Moved.{is_moved}
use Rattle.kc_levels.specs.Thresholds.{top_level}
use Rattle.kc_adj.specs.Degrees.{degrees}
use Rattle.kc_insert.specs.Effort.{effort}
use Rattle.kc_insert.specs.private.LevelStep.{AreInOrder}
use Rattle.kc_insert.specs.private.Ranges.{count_of}
use Rattle.kc_insert.specs.private.Sweeping.{AreCounted}
use Rattle.kc_insert.specs.Ranges.{all_risen, Cut}
use Rattle.kc_insert.proofs.Phases.{queues_long, queues_same, stopped_order, some_range, ends_began, ends_inside, ends_paid, ends_raised, ends_small, none_rises, starts_order, starts_paid, starts_sweeping}
use Rattle.kc_insert.proofs.sweeping.raise_queued.Goals as goal

pub loop-sweep-init : goal.loop-sweep-init
loop-sweep-init g c =
    let tops : top_level c.args.scaled.th.now.profile c.args.scaled.graph.now.vertices < 65535 = omega (arith, c.top-top.ensures.value, c.top-top.ensures.small, ap (top_level c.args.scaled.th.now.profile) c.args.scaled.scale) in
    let order = starts_order c.args.scaled.th.now.profile c.args.scaled.graph.now c.args.sweep.now.levels c.go_to.new.self c.args.sweep.now.ranges c.requires.quiet c.requires.sized c.requires.capped tops c.go_to.ensures.level c.go_to.ensures.rises c.go_to.ensures.seen in
    let sweeping = starts_sweeping c.args.scaled.th.now.profile c.args.scaled.graph.now c.args.sweep.now.levels c.go_to.new.self c.args.sweep.now.ranges c.requires.quiet c.requires.sized c.requires.capped tops c.go_to.ensures.level c.go_to.ensures.rises c.go_to.ensures.seen c.requires.counted c.requires.queued in
    let paid = starts_paid c.args.scaled.th.now.profile c.args.scaled.graph.now c.args.sweep.now.levels c.go_to.new.self c.args.sweep.now.ranges c.requires.quiet c.requires.sized c.requires.capped tops c.go_to.ensures.level c.go_to.ensures.rises c.go_to.ensures.seen c.requires.counted c.requires.queued c.args.steps.now in
    let some = some_range c.args.scaled.th.now.profile c.args.scaled.graph.now c.go_to.new.self c.args.sweep.now.ranges order (omega (arith, c.vertices-n.ensures.positive, c.vertices-n.ensures.count)) in (
      c.go_on.ensures.within (top_level c.args.scaled.th.now.profile c.args.scaled.graph.now.vertices + 1) some (queues_same c.args.scaled.th.now.profile c.args.scaled.graph.now c.go_to.new.self c.args.sweep.now.ranges order) (omega (arith, c.go_to.ensures.level)),
      c.go_on.ensures.running c.args.scaled c.args.steps.now c.args.sweep.now.levels.stored c.args.steps.now (record { order = order; sweeping = sweeping; paid = paid }),
    )

pub go_on-requires-in-loop-sweep : goal.go_on-requires-in-loop-sweep
go_on-requires-in-loop-sweep g c =
    let i = c.in_ok-rise_on.ensures.running c.args.sweep.now.levels.stored c.args.steps.now c.loop-sweep.invariant.1 in
    record { within = queues_long c.args.scaled.th.now.profile c.args.scaled.graph.now c.rise_on.new.sweep.levels c.rise_on.new.sweep.ranges c.rise_on.new.sweep.levels.level i.order (omega (arith, c.in_ok-rise_on.ensures.within, ap (top_level c.args.scaled.th.now.profile) c.args.scaled.scale)) }

pub loop-sweep-preserved : goal.loop-sweep-preserved
loop-sweep-preserved g c =
    let i = c.in_ok-rise_on.ensures.running c.args.sweep.now.levels.stored c.args.steps.now c.loop-sweep.invariant.1 in
    let some = some_range c.args.scaled.th.now.profile c.args.scaled.graph.now c.rise_on.new.sweep.levels c.rise_on.new.sweep.ranges i.order (omega (arith, c.vertices-n.ensures.positive, c.vertices-n.ensures.count)) in (
      c.go_on-in-loop-sweep.ensures.within (top_level c.args.scaled.th.now.profile c.args.scaled.graph.now.vertices + 1) some (queues_same c.args.scaled.th.now.profile c.args.scaled.graph.now c.rise_on.new.sweep.levels c.rise_on.new.sweep.ranges i.order) (omega (arith, c.in_ok-rise_on.ensures.within, ap (top_level c.args.scaled.th.now.profile) c.args.scaled.scale)),
      c.go_on-in-loop-sweep.ensures.running c.args.scaled c.rise_on.new.steps c.args.sweep.now.levels.stored c.args.steps.now i,
    )

pub stop_all-requires-clause-small : goal.stop_all-requires-clause-small
stop_all-requires-clause-small g c = λ v up. omega (arith, ends_small c.args.scaled.th.now.profile c.args.scaled.graph.now c.args.sweep.now.levels.stored c.loop-sweep.sweep.levels c.loop-sweep.sweep.ranges c.vertices-n.ensures.graph c.loop-sweep.invariant.1.order c.loop-sweep.invariant.1.sweeping v up, c.top-top.ensures.value, c.top-top.ensures.small, ap (top_level c.args.scaled.th.now.profile) c.args.scaled.scale)

pub stop_all-requires-clause-inside : goal.stop_all-requires-clause-inside
stop_all-requires-clause-inside g c = ends_inside c.args.scaled.th.now.profile c.args.scaled.graph.now c.args.sweep.now.levels.stored c.loop-sweep.sweep.levels c.loop-sweep.sweep.ranges c.vertices-n.ensures.graph c.loop-sweep.invariant.1.order c.loop-sweep.invariant.1.sweeping

pub stop_all-requires-clause-began : goal.stop_all-requires-clause-began
stop_all-requires-clause-began g c = ends_began c.args.scaled.th.now.profile c.args.scaled.graph.now c.args.sweep.now.levels.stored c.loop-sweep.sweep.levels c.loop-sweep.sweep.ranges c.vertices-n.ensures.graph c.loop-sweep.invariant.1.order c.loop-sweep.invariant.1.sweeping

pub returns : goal.returns
returns g c =
    let i = c.loop-sweep.invariant.1 in
    let tops : top_level c.args.scaled.th.now.profile c.args.scaled.graph.now.vertices < 65535 = omega (arith, c.top-top.ensures.value, c.top-top.ensures.small, ap (top_level c.args.scaled.th.now.profile) c.args.scaled.scale) in
    let long = ap (λ (z : List ℕ). length z) c.stop_all.ensures.levels ∙ i.sweeping.placed.raising.sized in
    let capped = subst (λ (z : List ℕ). IsCapped c.args.scaled.th.now.profile c.args.scaled.graph.now.vertices z) (sym c.stop_all.ensures.levels) i.sweeping.placed.raising.capped in
    record {
      raised = subst (λ (z : List ℕ). IsRaised c.args.scaled.th.now.profile c.args.scaled.graph.now c.args.sweep.now.levels.stored z) (sym c.stop_all.ensures.levels) (ends_raised c.args.scaled.th.now.profile c.args.scaled.graph.now c.args.sweep.now.levels.stored c.loop-sweep.sweep.levels c.loop-sweep.sweep.ranges c.vertices-n.ensures.graph c.loop-sweep.invariant.1.order c.loop-sweep.invariant.1.sweeping (omega (arith, c.top-top.ensures.value, c.loop-sweep-test.false, ap (top_level c.args.scaled.th.now.profile) c.args.scaled.scale)));
      counted = subst (λ (r : Cut). AreCounted c.args.scaled.graph.now c.stop_all.new.self.levels.stored (count_of r)) (sym c.stop_all.ensures.ranges) (subst (λ (z : List ℕ). AreCounted c.args.scaled.graph.now z (count_of c.loop-sweep.sweep.ranges)) (sym c.stop_all.ensures.levels) i.sweeping.awaited.counted);
      moved = record {
        risen = λ v. ap (λ (r : Cut). has_number v (all_risen r)) c.stop_all.ensures.ranges ∙ c.loop-sweep.invariant.1.sweeping.rise.moved v ∙ ap (λ (z : List ℕ). is_moved c.args.sweep.now.levels.stored z v) (sym c.stop_all.ensures.levels);
        once = subst (λ (r : Cut). AreDistinct (all_risen r)) (sym c.stop_all.ensures.ranges) c.loop-sweep.invariant.1.sweeping.rise.once;
      };
      order = subst (λ (r : Cut). AreInOrder c.args.scaled.th.now.profile c.args.scaled.graph.now c.stop_all.new.self.levels r) (sym c.stop_all.ensures.ranges) (stopped_order c.args.scaled.th.now.profile c.args.scaled.graph.now c.loop-sweep.sweep.levels c.stop_all.new.self.levels c.loop-sweep.sweep.ranges (none_rises c.args.scaled.th.now.profile c.args.scaled.graph.now.vertices c.stop_all.new.self.levels long capped tops) i.order);
      paid = omega (arith, ends_paid c.args.scaled.th.now.profile c.args.scaled.graph.now c.args.sweep.now.levels.stored c.loop-sweep.sweep.levels c.loop-sweep.sweep.ranges c.vertices-n.ensures.graph i.order i.sweeping c.args.steps.now c.loop-sweep.steps i.paid, ap (λ (r : Cut). degrees c.args.scaled.graph.now (all_risen r) + length (all_risen r)) c.stop_all.ensures.ranges, ap (λ (z : List ℕ). effort c.args.scaled.graph.now c.args.sweep.now.levels.stored z c.args.scaled.graph.now.vertices) c.stop_all.ensures.levels);
    }
