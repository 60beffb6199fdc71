use Rattle.std.proofs.Common.{◌∙◌, sym, ap}
use Rattle.std.specs.Option.{option_map}
use Rattle.kc_text.specs.Reading.{onto}
use Rattle.kc_text.proofs.Giving.{told_line}
use Rattle.kc_text.proofs.Holding.{told_scan}
use Rattle.kc_text.proofs.reader.LineReader.pass_line.Goals as goal

pub returns-clause-line : goal.returns-clause-line
returns-clause-line c = λ left.
    let w = rw (← c.self.view_is) at c.requires.whole in
    rw (← c.self.view_is) (told_scan _ _ _ _ w.last w.held ∙ (told_line _ _ _ left c.pass_line.ensures.gives ∙ ap (option_map (onto _)) (sym (told_scan _ _ _ _ w.last w.held))))
