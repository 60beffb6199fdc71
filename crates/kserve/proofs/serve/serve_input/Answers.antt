use Rattle.std.proofs.Common.{refl}
use Rattle.kserve.proofs.ServingLemmas.{scripts_written, refusal_written, unread, nothing_written, done_cause, refused_cause}
use Rattle.kserve.proofs.serve.serve_input.Goals as goal

pub returns-in-Ok-Accepted-clause-text : goal.returns-in-Ok-Accepted-clause-text
returns-in-Ok-Accepted-clause-text g c =
    rw c.status_after.ensures
    (scripts_written (Unit {0}) (g.S.Source.left c.args.src.now) _ _ c.in-Ok-Accepted.asked c.serve_scripts.result (rw c.in-Ok-Accepted.field-0-is at c.in-Ok-Accepted.ensures.said) c.serve_scripts.ensures.text)

pub returns-in-Ok-Accepted-clause-cause : goal.returns-in-Ok-Accepted-clause-cause
returns-in-Ok-Accepted-clause-cause g c =
    rw c.status_after.ensures (done_cause (Unit {0}) _ _ _ _ c.serve_scripts.result c.in-Ok-Accepted.ensures.cause c.serve_scripts.ensures.cause)

pub returns-in-Ok-Refused-clause-text : goal.returns-in-Ok-Refused-clause-text
returns-in-Ok-Refused-clause-text g c =
    rw c.status_after-in-Ok-Refused.ensures
    (refusal_written (Unit {0}) (g.S.Source.left c.args.src.now) _ _ c.in-Ok-Refused.line c.in-Ok-Refused.reason c.write_refusal-written.result (rw c.in-Ok-Refused.field-0-is at c.in-Ok-Refused.ensures.said) c.write_refusal-written.ensures.text)

pub returns-in-Ok-Refused-clause-cause : goal.returns-in-Ok-Refused-clause-cause
returns-in-Ok-Refused-clause-cause g c =
    rw c.status_after-in-Ok-Refused.ensures (refused_cause (Unit {0}) _ _ _ _ c.write_refusal-written.result c.in-Ok-Refused.ensures.cause c.write_refusal-written.ensures.cause)

pub returns-in-Err-ReadFault-clause-text : goal.returns-in-Err-ReadFault-clause-text
returns-in-Err-ReadFault-clause-text g c = unread (g.S.Source.left c.args.src.now) _ _ refl

pub returns-in-Err-Memory-clause-text : goal.returns-in-Err-Memory-clause-text
returns-in-Err-Memory-clause-text g c = nothing_written (g.S.Source.left c.args.src.now) _ _ refl
