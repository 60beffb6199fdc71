use Rattle.std.proofs.Common.{[], refl, ◌∙◌, inl, inr}
use Rattle.kc_batch.specs.private.Tokens.{onto_token}
use Rattle.kc_batch.specs.Batches.{Within, batch_from, batch_of, with_next}
use Rattle.kc_batch.proofs.Stepping.{step_on, step_last, passed_over, batch_start, batch_end, batch_long, batch_item, batch_other, batch_limit, batch_none}
use Rattle.kc_batch.proofs.batch.find_batch.Goals as goal

pub returns-in_ok-next-in-BatchStart-clause-batch : goal.returns-in_ok-next-in-BatchStart-clause-batch
returns-in_ok-next-in-BatchStart-clause-batch g c =
    let t = c.in_ok-token.token in
    step_on (batch_of c.args.rules) (batch_from c.args.rules (Within [])) (onto_token t) _ _ c.in_ok-token.ensures.token (batch_start c.args.rules t c.in-BatchStart.is)
    ∙ rw (c.new-begun.ensures.rules, c.new-begun.ensures.items) at c.in_ok-next-in-BatchStart.ensures.batch

pub returns-in-BatchEnd-clause-batch : goal.returns-in-BatchEnd-clause-batch
returns-in-BatchEnd-clause-batch g c =
    let t = c.in_ok-token.token in
    step_on (batch_of c.args.rules) (with_next _) (onto_token t) _ _ c.in_ok-token.ensures.token (batch_end c.args.rules t c.in-BatchEnd.is)

pub returns-in-Limit-clause-batch : goal.returns-in-Limit-clause-batch
returns-in-Limit-clause-batch g c =
    let t = c.in_ok-token.token in
    step_last (batch_of c.args.rules) (with_next _) t _ _ c.in_ok-token.ensures.token (c.in_ok-token.ensures.last (rw c.in-Limit.is tt)) (λ rest. rw c.in-Limit.is refl) (batch_limit c.args.rules t c.in-Limit.is)

pub returns-in-InputEnd-clause-batch : goal.returns-in-InputEnd-clause-batch
returns-in-InputEnd-clause-batch g c =
    let t = c.in_ok-token.token in
    step_last (batch_of c.args.rules) (with_next _) t _ _ c.in_ok-token.ensures.token (c.in_ok-token.ensures.last (rw c.in-InputEnd.is tt)) (λ rest. rw c.in-InputEnd.is refl) (batch_none c.args.rules t c.in-InputEnd.is)

pub returns-in_ok-pass_to_end-in-TooLong-clause-batch : goal.returns-in_ok-pass_to_end-in-TooLong-clause-batch
returns-in_ok-pass_to_end-in-TooLong-clause-batch g c =
    let t = c.in_ok-token.token in
    passed_over (batch_of c.args.rules) _ t _ _ _ c.in_ok-token.ensures.token (batch_long c.args.rules t c.in-TooLong.is) c.in_ok-pass_to_end-in-TooLong.ensures.passed

pub returns-in_ok-pass_to_end-in-Item-clause-batch : goal.returns-in_ok-pass_to_end-in-Item-clause-batch
returns-in_ok-pass_to_end-in-Item-clause-batch g c =
    let t = c.in_ok-token.token in
    let s = c.in_ok-pass_to_end-in-Item.ensures.passed in
    elim c.in-Item.is [
      | inl p ↦ passed_over (batch_of c.args.rules) _ t _ _ _ c.in_ok-token.ensures.token (batch_item c.args.rules t p.0 p.1) s
      | inr e ↦ passed_over (batch_of c.args.rules) _ t _ _ _ c.in_ok-token.ensures.token (batch_other c.args.rules t e) s
    ]
