use Rattle.std.proofs.Common.{◌≡◌, ◌≤◌, ◌+◌, ◌∙◌, ap, refl, sym, arith, length, List, [], ◌∷◌, ◌++◌}
use Rattle.std.proofs.lemmas.List.{length-append}
use Rattle.kc_graph.specs.declared.limits.TheConstants.{MAX_ITEMS}
use Rattle.kserve.specs.declared.limits.TheConstants.{CAPACITY}
use Rattle.kserve.proofs.Leads.{count_more}
use Rattle.kc_intake.specs.declared.updates.Update.{Update}
use Rattle.kc_intake.specs.Updates.{all_updates}
use Rattle.kc_intake.specs.Views.{DrainerShape}
use Rattle.kserve.specs.Batches.{start}
use Rattle.kserve.proofs.ServerLemmas.{none_served, none_within, none_drained, drained_more, served_same, served_more, running_more, running_as, ready, cause_on}
use Rattle.kserve.proofs.server.Server.run.Goals as goal

pub loop-turn-init : goal.loop-turn-init
loop-turn-init g c =
    let asked = c.args.context.now in record {
      served = none_served {T = Unit {0}} asked.n (start asked.n) c.args.drainer.now.taken c.args.self.now.engine.state _ _ tt c.requires.drainer.1 c.requires.fresh.state refl;
      running = (c.requires.fresh.open_for, none_within asked.n c.args.self.now.engine.state c.requires.fresh.state);
      drained = none_drained c.args.intake.now c.args.drainer.now c.requires.drainer.0 c.requires.drainer.1;
      count = ap (λ (bs : List (List Update)). length (all_updates bs)) (sym c.requires.drainer.1);
      number = ap (λ (bs : List (List Update)). length bs) (sym c.requires.drainer.1);
      fewer = omega arith;
      few = omega arith;
      cause = refl;
    }

pub go_on-course-requires-clause-ready : goal.go_on-course-requires-clause-ready
go_on-course-requires-clause-ready g c κs within =
    let asked = c.args.context.now in
    let i = c.loop-turn.invariant in
    let few : c.loop-turn.drained ≤ MAX_ITEMS = omega (arith, c.if-drained-count.false, c.context.inside.asked.now.counted, c.context.inside.asked.now.ranges.few_items) in
    ready asked.n c.loop-turn.drained (start asked.n) c.loop-turn.self.engine c.loop-turn.drainer.taken _ _ c.loop-turn.course refl few i.served i.running

pub loop-turn-preserved : goal.loop-turn-preserved
loop-turn-preserved g c =
    let asked = c.args.context.now in
    let i = c.loop-turn.invariant in
    let few : c.loop-turn.drained ≤ MAX_ITEMS = omega (arith, c.if-drained-count.false, c.context.inside.asked.now.counted, c.context.inside.asked.now.ranges.few_items) in
    let b = c.drain.new.drainer.batch in
    let taken : c.drain.new.drainer.taken ≡ c.loop-turn.drainer.taken ++ b ∷ [] = ap (λ (d : DrainerShape). d.taken) c.in-Ok.ensures.ok in
    let size = c.in-Ok.ensures.size in
    let less : length b ≤ CAPACITY = omega (arith, size.1, c.requires.capacity) in
    let served = rw c.batch-updates.ensures at c.go_on-course.ensures.served in
    let number : c.loop-turn.number + 1 ≡ 1 + length c.loop-turn.drainer.taken = omega (arith, i.number) in
    let shown : length c.batch.result.now ≡ length b = ap (λ (us : List Update). length us) c.batch.ensures in
    let all = ap (λ (bs : List (List Update)). length (all_updates bs)) taken in
    let more = count_more c.loop-turn.drainer.taken b in
    let longer = ap (λ (bs : List (List Update)). length bs) taken ∙ length-append c.loop-turn.drainer.taken (b ∷ []) in
    let running =
    running_more asked.n (c.loop-turn.number + 1) c.loop-turn.drained (start asked.n) c.loop-turn.self.engine c.go_on-course.new.self.engine c.loop-turn.drainer.taken b _ _ _ c.loop-turn.course c.go_on-course.result refl few size.0 less i.served i.running served
    c.go_on-course.ensures.open in
    record {
      served = served_same asked.n (start asked.n) (c.loop-turn.drainer.taken ++ b ∷ []) c.drain.new.drainer.taken c.go_on-course.new.self.engine.state _ _ c.go_on-course.result taken
          (served_more asked.n (c.loop-turn.number + 1) (start asked.n) c.loop-turn.self.engine.state c.go_on-course.new.self.engine.state c.loop-turn.drainer.taken b _ _ _ c.loop-turn.course c.go_on-course.result number i.served served);
      running = running_as (c.loop-turn.drained + length b) (c.loop-turn.drained + length c.batch.result.now) c.go_on-course.new.self.engine c.go_on-course.result (omega (arith, shown)) running;
      drained = drained_more c.args.intake.now c.args.drainer.now c.loop-turn.drainer c.drain.new.drainer i.drained c.in-Ok.ensures.ok size c.in-Ok.ensures.clients;
      count = omega (arith, i.count, shown, all, more);
      number = omega (arith, i.number, longer);
      fewer = omega (arith, i.fewer, shown, size.0);
      few = omega (arith, few, shown, less);
      cause = cause_on asked.n (c.loop-turn.number + 1) b c.loop-turn.self.engine.state c.go_on-course.new.self.engine.state _ _ _ _ _ c.loop-turn.course c.go_on-course.result i.cause c.go_on-course.ensures.cause served;
    }
