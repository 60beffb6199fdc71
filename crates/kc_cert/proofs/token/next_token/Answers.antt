use Rattle.std.proofs.Common.{arith}
use Rattle.std.proofs.lemmas.Bool.Decides.{nat_tests}
use Rattle.kc_text.specs.WholeLines.{whole_line}
use Rattle.kc_cert.proofs.NamedLines.{says_edge, says_level}
use Rattle.kc_cert.proofs.Saying.{told_token, told_kept_token}
use Rattle.kc_cert.proofs.token.next_token.Goals as goal

pub returns-in-Some-clause-token : goal.returns-in-Some-clause-token
returns-in-Some-clause-token g c =
    let line = whole_line c.pass_line-number.result c.in-Some.edge.len c.args.reader.now.scan in
    told_token line _ _ _ (says_edge _ _ _ c.in-Some.ensures.says) (c.pass_line-number.ensures.line _)

pub returns-in-Some-numbers_after-clause-token : goal.returns-in-Some-numbers_after-clause-token
returns-in-Some-numbers_after-clause-token g c =
    let line = whole_line c.pass_line-number-in-Some-numbers_after.result c.in-Some-numbers_after.level.len c.args.reader.now.scan in
    told_token line _ _ _ (says_level _ _ _ c.in-Some-numbers_after.ensures.says) (c.pass_line-number-in-Some-numbers_after.ensures.line _)

pub returns-clause-token : goal.returns-clause-token
returns-clause-token g c = grind (arith, nat_tests, told_kept_token, c.give_back.ensures, c.kind_of-kind.ensures, c.in_ok-line.ensures.line)
