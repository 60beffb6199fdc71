use Rattle.std.proofs.Common.{arith}
use Rattle.std.proofs.lemmas.List.{nil_from_length, take_min}
use Rattle.kc_text.proofs.scanner.Scanner.ready_lines.Goals as goal

pub returns-clause-some : goal.returns-clause-some
returns-clause-some c = rw (← c.self.view_is) (record {
  fresh = nil_from_length _ (omega (arith, c.taken.ensures, c.if-taken-gt0.false));
  bytes_are = rw (c.min.ensures, c.ready-ready.ensures) (take_min c.self.inside.room c.self.inside.window);
})
