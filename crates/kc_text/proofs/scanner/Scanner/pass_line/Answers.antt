use Rattle.std.proofs.Common.{refl}
use Rattle.kc_text.proofs.Giving.{gives_whole}
use Rattle.kc_text.proofs.scanner.Scanner.pass_line.Goals as goal

pub returns : goal.returns
returns c =
    let w = rw (← c.self.view_is) at c.requires.whole in
    record { gives = rw (← c.self.view_is, c.pass-number.ensures.number, c.pass-number.ensures.next) (gives_whole _ _ _ _ _ _ c.args.len _ _ _ w refl refl c.pass.ensures) }
