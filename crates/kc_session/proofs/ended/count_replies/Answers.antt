use Rattle.std.proofs.Common.{List, length, refl, arith}
use Rattle.kc_history.specs.declared.replies.Reply.{Reply}
use Rattle.kc_session.proofs.SumLemmas.{sum_next, sum_all}
use Rattle.kc_session.proofs.ended.count_replies.Goals as goal

pub loop-replies-preserved : goal.loop-replies-preserved
loop-replies-preserved c = sum_next (List Reply) (λ (rs : List Reply). length rs) c.args.lists.now c.loop-replies.replies-index c.replies-item.result c.loop-replies.count _ _ c.loop-replies-test.true c.loop-replies.invariant (rw c.replies-item.is at c.len.ensures) refl

pub returns : goal.returns
returns c = let last = c.loop-replies-test.false in let below = c.loop-replies.auto.replies-index-end in sum_all (List Reply) (λ (rs : List Reply). length rs) c.args.lists.now c.loop-replies.replies-index c.loop-replies.count (omega (arith, last, below)) c.loop-replies.invariant
