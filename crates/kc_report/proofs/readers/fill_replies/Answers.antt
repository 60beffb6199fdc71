use Rattle.std.proofs.Common.{◌∷◌}
use Rattle.kc_history.specs.declared.replies.Reply.{Reply}
use Rattle.kc_report.specs.Lines.{reply_word}
use Rattle.kc_report.proofs.TextLemmas.{members_more}
use Rattle.kc_report.proofs.readers.fill_replies.Goals as goal

pub loop-r-preserved : goal.loop-r-preserved
loop-r-preserved c =
    members_more (λ (r : Reply). 32 ∷ reply_word r) c.args.replies.now c.loop-r.r-index _ c.args.buf.now c.loop-r.buf _ c.loop-r-test.true c.loop-r.invariant (rw c.from.ensures at c.in_ok-put_pair.ensures)
