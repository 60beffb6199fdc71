use Rattle.std.proofs.Common.{◌+◌, ◌<◌, length, ap, sym, subst, arith}
use Rattle.std.proofs.lemmas.List.{get_or_default}
use Rattle.kc_levels.specs.Thresholds.{group_of, high, top_level}
use Rattle.kc_insert.specs.declared.rising.RisingLevels.{RisingLevels}
use Rattle.kc_insert.specs.declared.sweep.Sweep.{Sweep}
use Rattle.kc_insert.specs.private.LevelStep.{AreInOrder, HasLimit, IsRunning, IsUnderWay}
use Rattle.kc_insert.specs.Ranges.{no_part, Part}
use Rattle.kc_insert.proofs.Anew.{can_look, looked_limit, looked_order, looked_running, looked_way}
use Rattle.kc_insert.proofs.sweeping.rise_on.Goals as goal

pub look_anew-requires-clause-can : goal.look_anew-requires-clause-can
look_anew-requires-clause-can g c = can_look c.args.scaled.th.now.profile c.args.scaled.graph.now c.args.sweep.now.levels c.args.sweep.now.ranges c.requires.running.sweeping.placed.raising.sized c.requires.running.order

pub rise_together-requires-clause-waiting : goal.rise_together-requires-clause-waiting
rise_together-requires-clause-waiting g c = λ k d at.
    let order : AreInOrder c.args.scaled.th.now.profile c.args.scaled.graph.now c.args.sweep.now.levels c.look_anew.new.self.ranges = looked_order c.args.scaled.th.now.profile c.args.scaled.graph.now c.args.sweep.now.levels _ c.args.sweep.now.ranges c.look_anew.new.self.ranges c.requires.running.order c.in_ok-look_anew.ensures.looked c.in_ok-look_anew.ensures.same.0 c.in_ok-look_anew.ensures.same.1 in
    let room : c.args.sweep.now.levels.level < top_level c.args.scaled.th.now.profile c.args.scaled.graph.now.vertices = subst (λ n. c.args.sweep.now.levels.level < top_level c.args.scaled.th.now.profile n) c.args.scaled.scale c.requires.room in
    omega (arith, room, ap (λ (s : RisingLevels). s.level) c.in_ok-look_anew.ensures.levels, ap (λ (q : Part). length q.queue) (get_or_default c.look_anew.new.self.ranges.parts k d no_part at), order.shape.queues k at)

pub rise_together-requires-clause-met : goal.rise_together-requires-clause-met
rise_together-requires-clause-met g c = λ k d at.
    let order : AreInOrder c.args.scaled.th.now.profile c.args.scaled.graph.now c.args.sweep.now.levels c.look_anew.new.self.ranges = looked_order c.args.scaled.th.now.profile c.args.scaled.graph.now c.args.sweep.now.levels _ c.args.sweep.now.ranges c.look_anew.new.self.ranges c.requires.running.order c.in_ok-look_anew.ensures.looked c.in_ok-look_anew.ensures.same.0 c.in_ok-look_anew.ensures.same.1 in
    let room : c.args.sweep.now.levels.level < top_level c.args.scaled.th.now.profile c.args.scaled.graph.now.vertices = subst (λ n. c.args.sweep.now.levels.level < top_level c.args.scaled.th.now.profile n) c.args.scaled.scale c.requires.room in
    omega (arith, room, ap (λ (s : RisingLevels). s.level) c.in_ok-look_anew.ensures.levels, ap (λ (q : Part). length q.meetings) (get_or_default c.look_anew.new.self.ranges.parts k d no_part at), order.shape.meetings k at)

pub returns-then-rise_together-clause-running : goal.returns-then-rise_together-clause-running
returns-then-rise_together-clause-running g c = λ x first run.
    let limit : HasLimit (high c.args.scaled.th.now.profile (group_of c.args.scaled.th.now.profile c.args.scaled.th.now.vertices c.look_anew.new.self.levels.level)) c.look_anew.new.self.ranges = subst (λ (s : RisingLevels). HasLimit (high c.args.scaled.th.now.profile (group_of c.args.scaled.th.now.profile c.args.scaled.th.now.vertices s.level)) c.look_anew.new.self.ranges) (sym c.in_ok-look_anew.ensures.levels) (looked_limit c.args.scaled.th.now.profile c.args.scaled.graph.now c.args.sweep.now.levels _ c.args.sweep.now.ranges c.look_anew.new.self.ranges c.requires.running.order c.in_ok-look_anew.ensures.looked c.in_ok-look_anew.ensures.same.0 c.in_ok-look_anew.ensures.same.1) in
    let on : IsRunning c.args.scaled.th.now.profile c.args.scaled.graph.now x first c.args.steps.now c.look_anew.new.self.levels c.look_anew.new.self.ranges = subst (λ (s : RisingLevels). IsRunning c.args.scaled.th.now.profile c.args.scaled.graph.now x first c.args.steps.now s c.look_anew.new.self.ranges) (sym c.in_ok-look_anew.ensures.levels) (looked_running c.args.scaled.th.now.profile c.args.scaled.graph.now c.args.sweep.now.levels _ c.args.sweep.now.ranges c.look_anew.new.self.ranges c.in_ok-look_anew.ensures.looked c.in_ok-look_anew.ensures.same.0 c.in_ok-look_anew.ensures.same.1 x first c.args.steps.now run) in
    c.rise_together.ensures.running limit c.args.steps.now x first on

pub raise_level-requires-clause-running : goal.raise_level-requires-clause-running
raise_level-requires-clause-running g c κs within =
    let way : IsUnderWay c.args.scaled.th.now.profile c.args.scaled.graph.now c.look_anew.new.self.levels c.look_anew.new.self.ranges = subst (λ (s : RisingLevels). IsUnderWay c.args.scaled.th.now.profile c.args.scaled.graph.now s c.look_anew.new.self.ranges) (sym c.in_ok-look_anew.ensures.levels) (looked_way c.args.scaled.th.now.profile c.args.scaled.graph.now c.args.sweep.now.levels _ c.args.sweep.now.ranges c.look_anew.new.self.ranges c.in_ok-look_anew.ensures.looked c.in_ok-look_anew.ensures.same.0 c.in_ok-look_anew.ensures.same.1 c.requires.running) in
    subst (λ (w : Sweep). IsUnderWay c.args.scaled.th.now.profile c.args.scaled.graph.now w.levels w.ranges) (sym (c.rise_together.ensures.stays c.if-rise_together.false)) way

pub returns-clause-running : goal.returns-clause-running
returns-clause-running g c = λ x first run.
    let on : IsRunning c.args.scaled.th.now.profile c.args.scaled.graph.now x first c.args.steps.now c.look_anew.new.self.levels c.look_anew.new.self.ranges = subst (λ (s : RisingLevels). IsRunning c.args.scaled.th.now.profile c.args.scaled.graph.now x first c.args.steps.now s c.look_anew.new.self.ranges) (sym c.in_ok-look_anew.ensures.levels) (looked_running c.args.scaled.th.now.profile c.args.scaled.graph.now c.args.sweep.now.levels _ c.args.sweep.now.ranges c.look_anew.new.self.ranges c.in_ok-look_anew.ensures.looked c.in_ok-look_anew.ensures.same.0 c.in_ok-look_anew.ensures.same.1 x first c.args.steps.now run) in
    let went : IsRunning c.args.scaled.th.now.profile c.args.scaled.graph.now x first (c.args.steps.now + c.in_ok-count.count) c.raise_level.new.sweep.levels c.raise_level.new.sweep.ranges = c.in_ok-count.ensures.running c.args.steps.now x first (subst (λ (w : Sweep). IsRunning c.args.scaled.th.now.profile c.args.scaled.graph.now x first c.args.steps.now w.levels w.ranges) (sym (c.rise_together.ensures.stays c.if-rise_together.false)) on) in
    subst (λ n. IsRunning c.args.scaled.th.now.profile c.args.scaled.graph.now x first n c.raise_level.new.sweep.levels c.raise_level.new.sweep.ranges) (sym c.add.ensures) went
