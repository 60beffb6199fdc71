use Rattle.std.proofs.Common.{◌≡◌, true}
use Rattle.kc_text.specs.private.Scanning.{scan_lines_left}
use Rattle.kc_text.specs.Scanning.{scan_budget, is_scan_decided}
use Rattle.kc_text.specs.private.ScannerSteps.{work}
use Rattle.kc_text.proofs.scanner.Scanner.next_line.Given as goal

abbrev pub invariant-loop-line : goal.invariant-loop-line
invariant-loop-line g l = record {
  lines : scan_lines_left l.self (g.S.Source.left l.src) ≡ scan_lines_left l.fn.self (g.S.Source.left l.fn.src);
  budget : scan_budget l.self ≡ scan_budget l.fn.self;
  unread : is_scan_decided l.fn.self ≡ true → (l.src ≡ l.fn.src) × (l.self ≡ l.fn.self);
  faults : g.S.Source.faults l.src ≡ g.S.Source.faults l.fn.src;
}

abbrev pub decreases-loop-line : goal.decreases-loop-line
decreases-loop-line g l = work l.self
