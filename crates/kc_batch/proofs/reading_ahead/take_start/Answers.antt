use Rattle.std.proofs.Common.{◌∙◌, [], refl, sym, ap, arith}
use Rattle.std.specs.Option.{option_map}
use Rattle.kc_text.specs.WholeLines.{whole_line}
use Rattle.kc_batch.specs.declared.token.Token.{Token}
use Rattle.kc_batch.specs.declared.token.Kind.TheVariants.{BatchStart}
use Rattle.kc_batch.specs.private.Tokens.{onto_token}
use Rattle.kc_batch.specs.Batches.{Between, Within, batches, batches_from}
use Rattle.kc_batch.proofs.Aheads.{between_start}
use Rattle.kc_batch.proofs.Saying.{says, says_nothing, told_token, told_no_token}
use Rattle.kc_batch.proofs.Stepping.{step_on}
use Rattle.kc_batch.proofs.reading_ahead.take_start.Goals as goal

pub returns-in-Some-BatchStart-clause-batches : goal.returns-in-Some-BatchStart-clause-batches
returns-in-Some-BatchStart-clause-batches c = λ rules left.
    let s = says c.in-Some.text.now BatchStart (sym (rw c.in-Some-BatchStart.field-0-is at c.in-Some-BatchStart.ensures)) in
    let k = rw c.in-Some.ensures.text at s in
    let line = whole_line c.pass_line.result c.in-Some.len c.loop-text.reader.scan in
    let t : Token = record { number = c.pass_line.result; kind = BatchStart } in
    c.loop-text.invariant.same rules left
    ∙ step_on (batches_from rules Between) (batches_from rules (Within [])) (onto_token t) _ _ (told_token line BatchStart _ _ k.kept k.kind (c.pass_line.ensures.line left)) (between_start rules t refl)

pub loop-text-preserved : goal.loop-text-preserved
loop-text-preserved c =
    let s = says_nothing c.in-Some.text.now (sym c.in-None.ensures) in
    let k = rw c.in-Some.ensures.text at s in
    let line = whole_line c.pass_line-in-None.result c.in-Some.len c.loop-text.reader.scan in
    record {
      same = λ rules left. c.loop-text.invariant.same rules left ∙ ap (option_map (batches rules)) (told_no_token line _ _ k (c.pass_line-in-None.ensures.line left));
      budget = omega (arith, c.pass_line-in-None.ensures.takes, c.loop-text.invariant.budget);
    }
