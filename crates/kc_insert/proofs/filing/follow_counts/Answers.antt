use Rattle.std.proofs.Common.{◌+◌, ◌<◌, length, get_or, ap, ◌∙◌, arith}
use Rattle.kc_insert.specs.private.Filed.{Following}
use Rattle.kc_insert.specs.Ranges.{Watch}
use Rattle.kc_insert.proofs.Following.{filed_first, filed_next, filed_over}
use Rattle.kc_insert.proofs.filing.follow_counts.Goals as goal

pub loop-i-init : goal.loop-i-init
loop-i-init c = (
  omega (arith, c.next_changed-i.ensures.within, ap length c.counts-count.ensures),
  filed_over c.args.fresh.now.profile c.args.fresh.now.vertices c.args.fresh.now.levels c.args.fresh.now.counts 0 c.next_changed-i.result c.args.watched.now c.args.watched.now c.args.queue.now c.args.queue.now (omega arith) (λ k from below. c.next_changed-i.ensures.same k from below ∙ ap (λ (f : Following). get_or f.counts (c.args.watched.now.first + k) 0) c.fresh.view_is)
      (filed_first c.args.fresh.now.profile c.args.fresh.now.vertices c.args.fresh.now.levels c.args.fresh.now.counts c.args.watched.now c.args.queue.now),
)

pub follow_count-requires : goal.follow_count-requires
follow_count-requires c =
    let at : c.loop-i.i < length c.args.watched.now.counts = omega (arith, c.loop-i-test.true, ap length c.counts-count.ensures) in
    let low : c.first-first.result + c.loop-i.i < length c.args.fresh.now.counts = c.requires.inside (c.first-first.result + c.loop-i.i) (record { from = omega (arith, c.first-first.ensures); below = omega (arith, at, c.first-first.ensures) }) in
    let level = c.requires.levels.2 (c.first-first.result + c.loop-i.i) (omega (arith, low, c.requires.levels.1)) in
    let first = ap (λ (w : Watch). w.first) c.loop-i.invariant.1.watch in
    record {
      held = record { from = omega (arith, c.first-first.ensures, first); below = omega (arith, at, c.first-first.ensures, first, c.loop-i.invariant.1.sized) };
      inside = (omega (arith, low, c.requires.levels.0), low);
      level = level;
      room = omega (arith, level, c.requires.room, c.loop-i.invariant.1.buckets);
    }

pub loop-i-preserved : goal.loop-i-preserved
loop-i-preserved c =
    let at : c.loop-i.i < length c.args.watched.now.counts = omega (arith, c.loop-i-test.true, ap length c.counts-count.ensures) in
    let low : c.first-first.result + c.loop-i.i < length c.args.fresh.now.counts = c.requires.inside (c.first-first.result + c.loop-i.i) (record { from = omega (arith, c.first-first.ensures); below = omega (arith, at, c.first-first.ensures) }) in
    let next = filed_next c.args.fresh.now.profile c.args.fresh.now.vertices c.args.fresh.now.levels c.args.fresh.now.counts c.loop-i.i (c.first-first.result + c.loop-i.i) c.args.watched.now c.loop-i.watched c.follow_count.new.watched c.args.queue.now c.loop-i.queue c.follow_count.new.queue (omega (arith, c.first-first.ensures)) at (omega (arith, c.requires.levels.2 (c.first-first.result + c.loop-i.i) (omega (arith, low, c.requires.levels.1)), c.requires.room)) c.loop-i.invariant.1 c.in_ok-follow_count.ensures in (
      omega (arith, c.next_changed-i-in-loop-i.ensures.within, next.sized, ap length c.counts-count.ensures),
      filed_over c.args.fresh.now.profile c.args.fresh.now.vertices c.args.fresh.now.levels c.args.fresh.now.counts (c.loop-i.i + 1) c.next_changed-i-in-loop-i.result c.args.watched.now c.follow_count.new.watched c.args.queue.now c.follow_count.new.queue c.next_changed-i-in-loop-i.ensures.from (λ k from below. c.next_changed-i-in-loop-i.ensures.same k from below ∙ ap (λ (f : Following). get_or f.counts (c.follow_count.new.watched.first + k) 0) c.fresh.view_is) next,
    )
