use Rattle.std.proofs.Common.{◌∙◌}
use Rattle.kc_audit.specs.declared.stage.Stage.TheVariants.{Batches}
use Rattle.kc_audit.specs.Documents.{Accepted, Refused, first_place, read_from}
use Rattle.kc_audit.proofs.Stepping.{fits_text, goes_on, stops, ends, step_on, accepted_here, refused_here}
use Rattle.kc_audit.proofs.read.read_lines.Goals as goal

pub returns-in-End-clause-document : goal.returns-in-End-clause-document
returns-in-End-clause-document g c =
    let line = c.in_ok-line.line in
    let run = c.turn_at.new.draft.run in
    let step = rw (c.text_of-text.ensures, c.form_of-form.ensures.kind, c.in-End.is) at c.in_ok-next.ensures.step in
    accepted_here (read_from c.args.draft.run (Batches first_place)) run _ _
    (c.loop-draft.invariant.same ∙ step_on (read_from c.loop-draft.draft.run c.loop-draft.stage) (λ rest. Accepted run) line _ _ c.in_ok-line.ensures.line (ends c.loop-draft.draft.run c.loop-draft.stage line run step))

pub returns-in-Stop-clause-document : goal.returns-in-Stop-clause-document
returns-in-Stop-clause-document g c =
    let line = c.in_ok-line.line in
    let reason = c.in-Stop.reason in
    let step = rw (c.text_of-text.ensures, c.form_of-form.ensures.kind, c.in-Stop.is) at c.in_ok-next.ensures.step in
    refused_here (read_from c.args.draft.run (Batches first_place)) line reason _ _
    (c.loop-draft.invariant.same ∙ step_on (read_from c.loop-draft.draft.run c.loop-draft.stage) (λ rest. Refused line.number reason) line _ _ c.in_ok-line.ensures.line (stops c.loop-draft.draft.run c.loop-draft.stage line reason step))

pub loop-draft-preserved : goal.loop-draft-preserved
loop-draft-preserved g c =
    let line = c.in_ok-line.line in
    let run = c.turn_at.new.draft.run in
    let step = rw (c.text_of-text.ensures, c.form_of-form.ensures.kind, c.in-Go.is) at c.in_ok-next.ensures.step in
    record {
      same = rw c.give_back.ensures
          (c.loop-draft.invariant.same ∙ step_on (read_from c.loop-draft.draft.run c.loop-draft.stage) (read_from run c.in-Go.next) line _ _ c.in_ok-line.ensures.line (goes_on c.loop-draft.draft.run c.loop-draft.stage line run c.in-Go.next step));
      sound = c.in_ok-next.ensures.sound c.loop-draft.invariant.sound;
      faults = c.in_ok-line.ensures.cause ∙ c.loop-draft.invariant.faults;
    }

pub loop-draft-smaller : goal.loop-draft-smaller
loop-draft-smaller g c =
    let step = rw (c.text_of-text.ensures, c.form_of-form.ensures.kind, c.in-Go.is) at c.in_ok-next.ensures.step in
    rw c.give_back.ensures ((fits_text c.loop-draft.draft.run c.loop-draft.stage c.in_ok-line.line.body c.turn_at.new.draft.run c.in-Go.next step).takes _ _ c.in_ok-line.ensures.takes)
