use Rattle.std.proofs.Common.{◌∙◌, ap, ◌++◌, List, ℕ}
use Rattle.kc_report.proofs.LineLemmas.{sent_as, refusal_filled}
use Rattle.kc_report.proofs.refusals.send_refusal.Goals as goal

pub returns-clause-text : goal.returns-clause-text
returns-clause-text g c =
    sent_as _ _ _ _ _
    (refusal_filled c.args.line c.args.reason c.args.buf.now _ _ _ c.in_ok-put_named.ensures c.in_ok-put.ensures.ok (c.in_ok-put-2.ensures.ok ∙ ap (λ (w : List ℕ). c.put.new.self ++ w) c.word.ensures))
    c.send_to.ensures.sent
