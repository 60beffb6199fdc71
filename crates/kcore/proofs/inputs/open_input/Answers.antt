use Rattle.std.proofs.Common.{◌∙◌, sym, refl, inl, inr}
use Rattle.std.proofs.lemmas.Result.{err_from_is_err_and}
use Rattle.kc_text.specs.Kept.{kept_left}
use Rattle.kc_graph.specs.declared.limits.TheConstants.{MAX_ITEMS}
use Rattle.kc_batch.proofs.lemmas.Inputs.{told_input, told_accepted, told_refused}
use Rattle.kcore.specs.declared.limits.TheConstants.{LINE_LIMIT, INPUT_LIMIT}
use Rattle.kcore.proofs.Openings.{is_refused}
use Rattle.kcore.proofs.inputs.open_input.Goals as goal

pub returns-in_err-lines-clause-text : goal.returns-in_err-lines-clause-text
returns-in_err-lines-clause-text g c =
    let p = err_from_is_err_and c.from_residual.result c.from_residual.ensures.1 in
    rw p.1 (inl refl)

pub returns-in-Ok-clause-text : goal.returns-in-Ok-clause-text
returns-in-Ok-clause-text g c =
    let left = g.S.Source.left c.args.src.now in
    let told = told_input LINE_LIMIT INPUT_LIMIT MAX_ITEMS c.in_ok-lines.lines left (c.in_ok-lines.ensures.lines left) in
    (sym told ∙ told_accepted MAX_ITEMS c.in-Ok.header _ _ c.in-Ok.ensures.header, refl)

pub returns-in_err-write_header_refused-in-Err-Refused-clause-text : goal.returns-in_err-write_header_refused-in-Err-Refused-clause-text
returns-in_err-write_header_refused-in-Err-Refused-clause-text g c =
    let left = g.S.Source.left c.args.src.now in
    let told = told_input LINE_LIMIT INPUT_LIMIT MAX_ITEMS c.in_ok-lines.lines left (c.in_ok-lines.ensures.lines left) in
    let p = err_from_is_err_and c.from_residual-in_err-write_header_refused-in-Err-Refused.result c.from_residual-in_err-write_header_refused-in-Err-Refused.ensures.1 in
    rw p.1 (inr (record {
      line = c.in-Err-Refused.line;
      is_said = is_refused c.in-Err-Refused.line _ (kept_left c.read.new.reader (g.S.Source.left c.read.new.src)) (sym told ∙ told_refused MAX_ITEMS c.in-Err-Refused.line _ _ (rw c.in-Err-Refused.field-0-is at c.in-Err-Refused.ensures.header));
      prefix = rw c.in-Err-Refused.field-0-is at c.in_err-write_header_refused-in-Err-Refused.ensures.text;
    }))

pub returns-in-Err-Refused-clause-text : goal.returns-in-Err-Refused-clause-text
returns-in-Err-Refused-clause-text g c =
    let left = g.S.Source.left c.args.src.now in
    let told = told_input LINE_LIMIT INPUT_LIMIT MAX_ITEMS c.in_ok-lines.lines left (c.in_ok-lines.ensures.lines left) in
    record {
      line = c.in-Err-Refused.line;
      is_said = is_refused c.in-Err-Refused.line _ (kept_left c.read.new.reader (g.S.Source.left c.read.new.src)) (sym told ∙ told_refused MAX_ITEMS c.in-Err-Refused.line _ _ (rw c.in-Err-Refused.field-0-is at c.in-Err-Refused.ensures.header));
      taken = rw c.in-Err-Refused.field-0-is at c.in_ok-write_header_refused-in-Err-Refused.ensures.text;
    }

pub returns-in-Err-ReadFault-clause-text : goal.returns-in-Err-ReadFault-clause-text
returns-in-Err-ReadFault-clause-text g c = inl refl

pub returns-clause-text : goal.returns-clause-text
returns-clause-text g c = inl refl
