use Rattle.kc_text.proofs.Numbering.{no_digits}
use Rattle.kc_text.proofs.number.pass_digits.Goals as goal

pub pass_more_digits-requires : goal.pass_more_digits-requires
pass_more_digits-requires c = no_digits c.args.line.now c.args.start c.requires
