use Rattle.std.proofs.Common.{arith, refl, ◌∙◌, inl, inr}
use Rattle.std.proofs.lemmas.Iterator.Adapters.{option_map_id}
use Rattle.kc_batch.specs.Batches.{after_end}
use Rattle.kc_batch.specs.private.Tokens.{onto_token}
use Rattle.kc_batch.proofs.Saying.{takes_le}
use Rattle.kc_batch.proofs.Stepping.{step_on, step_last, passed_by, after_on, after_at_end, after_at_last}
use Rattle.kc_batch.proofs.batch.pass_to_end.Goals as goal

pub returns-in-BatchEnd-clause-passed : goal.returns-in-BatchEnd-clause-passed
returns-in-BatchEnd-clause-passed g c =
    let t = c.in_ok-token.token in
    let s = c.in_ok-token.ensures in
    elim c.in-BatchEnd.is [
      | inl e ↦ c.loop-token.invariant.same ∙ step_on after_end (λ x. x) (onto_token t) _ _ s.token (after_at_end t e) ∙ option_map_id _
      | inr o ↦ elim o [
        | inl e ↦ c.loop-token.invariant.same ∙ step_last after_end (λ x. x) t _ _ s.token (s.last (rw e tt)) (λ rest. rw e refl) (after_at_last t (inl e)) ∙ option_map_id _
        | inr e ↦ c.loop-token.invariant.same ∙ step_last after_end (λ x. x) t _ _ s.token (s.last (rw e tt)) (λ rest. rw e refl) (after_at_last t (inr e)) ∙ option_map_id _
      ]
    ]

pub loop-token-preserved : goal.loop-token-preserved
loop-token-preserved g c =
    let h = passed_by c.in_ok-token.token.kind c.in_default.not-BatchEnd c.in_default.not-Limit c.in_default.not-InputEnd in
    record {
      same = c.loop-token.invariant.same ∙ step_on after_end after_end (onto_token c.in_ok-token.token) _ _ c.in_ok-token.ensures.token (after_on c.in_ok-token.token h);
      budget = omega (arith, takes_le _ _ _ c.in_ok-token.ensures.takes, c.loop-token.invariant.budget);
      taken = c.in_ok-token.ensures.taken ∙ c.loop-token.invariant.taken;
      read_faults = c.in_ok-token.ensures.cause.0 ∙ c.loop-token.invariant.read_faults;
      write_faults = c.in_ok-token.ensures.cause.1 ∙ c.loop-token.invariant.write_faults;
    }
