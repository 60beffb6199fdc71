use Rattle.std.proofs.Common.{◌≡◌, ◌≤◌}
use Rattle.kc_text.specs.Reading.{budget}
use Rattle.kc_text.specs.Kept.{kept_left}
use Rattle.kc_text.proofs.kept.next_kept.Given as goal

abbrev pub invariant-loop-line : goal.invariant-loop-line
invariant-loop-line g l = record {
  kept : kept_left l.reader (g.S.Source.left l.src) ≡ kept_left l.fn.reader (g.S.Source.left l.fn.src);
  budget : budget l.reader ≤ budget l.fn.reader;
  faults : g.S.Source.faults l.src ≡ g.S.Source.faults l.fn.src;
}

abbrev pub decreases-loop-line : goal.decreases-loop-line
decreases-loop-line g l = budget l.reader
