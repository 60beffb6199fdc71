use Rattle.std.proofs.Common.{◌≡◌, ◌-◌, length, arith, length-take, length-drop, drop}
use Rattle.kc_session.proofs.LoadLemmas.{more_given, put_length}
use Rattle.kc_session.proofs.gen_source.GenSourceSource.read.Goals as goal

pub loop-count-preserved : goal.loop-count-preserved
loop-count-preserved c =
    let rest = length c.loop-count.buf - c.loop-count.count in
    let part : length c.give-more.new.buf ≡ rest = omega (arith, c.give-more.auto.buf, length-take rest (drop c.loop-count.count c.loop-count.buf), length-drop c.loop-count.count c.loop-count.buf) in
    let all = put_length c.loop-count.count c.loop-count.buf c.give-more.new.buf (omega arith) part in (
      more_given c.loop-count.count c.give-more.result rest _ _ _ _ _ (omega arith) c.give-more.ensures.bound c.loop-count.invariant.0 c.give-more.ensures.given,
      omega (arith, all, c.if-count-buf.false),
    )
