use Rattle.std.proofs.Common.{◌∙◌, ap, sym, length}
use Rattle.kc_store.specs.Seats.{PassShape}
use Rattle.kc_session.proofs.AskingLemmas.{fresh_is_kept}
use Rattle.kc_session.proofs.agent.Agent.open.Goals as goal

pub invariant_of-result : goal.invariant_of-result
invariant_of-result c =
    let p = c.pass.ensures.pass in
    fresh_is_kept c.vertices.result c.args.reader c.pass.result c.in_ok-replies.replies.items c.args.ask
    (ap (λ (s : PassShape). s.made) p ∙ sym (ap (λ (s : PassShape). length s.seen) p)) c.in_ok-replies.ensures (rw c.vertices.ensures (c.requires.vertices)) c.requires.few
