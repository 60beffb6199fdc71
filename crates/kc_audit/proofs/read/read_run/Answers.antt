use Rattle.std.proofs.Common.{◌∙◌, sym}
use Rattle.kc_text.specs.Kept.{text_of}
use Rattle.kc_audit.specs.declared.stage.Stage.TheVariants.{Batches}
use Rattle.kc_audit.specs.Documents.{Refused, empty_run, first_place, read_from, after_head, document_of}
use Rattle.kc_audit.proofs.Stepping.{head_there, head_missing, vertices_there, vertices_missing, step_on, answer_before, refused_here}
use Rattle.kc_audit.proofs.read.read_run.Goals as goal

pub returns-in-Err-clause-document : goal.returns-in-Err-clause-document
returns-in-Err-clause-document g c =
    let line = c.in_ok-first.first in
    let reason = c.in-Err.reason in
    let missing = rw c.form_of.ensures.kind at (c.in-Err.ensures (text_of line.body)) in
    refused_here document_of line reason _ _ (step_on document_of (λ rest. Refused line.number reason) line _ _ c.in_ok-first.ensures.line (head_missing line reason (sym missing)))

pub returns-in-Ok-clause-document : goal.returns-in-Ok-clause-document
returns-in-Ok-clause-document g c =
    let first = c.in_ok-first.first in
    let second = c.in_ok-second.second in
    let n = c.in-Ok.n in
    let head = rw c.form_of.ensures.kind at (c.in_default.ensures (text_of first.body)) in
    let found = rw c.form_of-2.ensures.kind at (c.in-Ok.ensures (text_of second.body)) in
    let told = step_on document_of after_head first _ _ c.in_ok-first.ensures.line (head_there first _ (sym head))
    ∙ step_on after_head (read_from (empty_run n) (Batches first_place)) second _ _ c.in_ok-second.ensures.line (vertices_there second n (sym found)) in
    answer_before document_of (read_from (empty_run n) (Batches first_place)) _ _ c.read_lines.result told (rw c.new.ensures at c.read_lines.ensures.document)

pub returns-clause-document : goal.returns-clause-document
returns-clause-document g c =
    let first = c.in_ok-first.first in
    let second = c.in_ok-second.second in
    let reason = c.in-Err-vertices_of.reason in
    let head = rw c.form_of.ensures.kind at (c.in_default.ensures (text_of first.body)) in
    let missing = rw c.form_of-2.ensures.kind at (c.in-Err-vertices_of.ensures (text_of second.body)) in
    let told = step_on document_of after_head first _ _ c.in_ok-first.ensures.line (head_there first _ (sym head))
    ∙ step_on after_head (λ rest. Refused second.number reason) second _ _ c.in_ok-second.ensures.line (vertices_missing second reason (sym missing)) in
    refused_here document_of second reason _ _ told
