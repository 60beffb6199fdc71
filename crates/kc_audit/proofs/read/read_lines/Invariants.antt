use Rattle.std.proofs.Common.{◌≡◌}
use Rattle.std.specs.Option.{option_map}
use Rattle.kc_text.specs.Reading.{budget}
use Rattle.kc_text.specs.Kept.{kept_left}
use Rattle.kc_audit.specs.Runs.{IsAuditable}
use Rattle.kc_audit.specs.Documents.{first_place, read_from}
use Rattle.kc_audit.specs.declared.stage.Stage.TheVariants.{Batches}
use Rattle.kc_audit.proofs.read.read_lines.Given as goal

abbrev pub invariant-loop-draft : goal.invariant-loop-draft
invariant-loop-draft g l = record {
  same : option_map (read_from l.fn.draft.run (Batches first_place)) (kept_left l.fn.reader (g.S.Source.left l.fn.src)) ≡ option_map (read_from l.draft.run l.stage) (kept_left l.reader (g.S.Source.left l.src));
  sound : IsAuditable l.draft.run;
  faults : g.S.Source.faults l.src ≡ g.S.Source.faults l.fn.src;
}

abbrev pub decreases-loop-draft : goal.decreases-loop-draft
decreases-loop-draft g l = budget l.reader
