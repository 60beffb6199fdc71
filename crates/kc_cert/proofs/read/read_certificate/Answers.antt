use Rattle.std.proofs.Common.{◌∙◌, arith}
use Rattle.std.proofs.lemmas.Result.{err_from_is_err_and}
use Rattle.std.proofs.lemmas.Bool.Decides.{nat_tests}
use Rattle.kc_cert.proofs.Stepping.{answers_before}
use Rattle.kc_cert.proofs.read.read_certificate.Goals as goal

pub returns-in_err-graph-clause-document : goal.returns-in_err-graph-clause-document
returns-in_err-graph-clause-document g c = grind (arith, nat_tests, err_from_is_err_and, answers_before, c.from_residual-in_err-graph.ensures.1, c.in_ok-head.ensures.head, c.in_err-graph.ensures.edges)

pub returns-in_err-levels-clause-document : goal.returns-in_err-levels-clause-document
returns-in_err-levels-clause-document g c = grind (arith, nat_tests, err_from_is_err_and, answers_before, c.from_residual-in_err-levels.ensures.1, c.in_ok-head.ensures.head, c.in_ok-graph.ensures.edges, c.in_err-levels.ensures.levels)

pub returns-clause-document : goal.returns-clause-document
returns-clause-document g c = answers_before _ _ _ _ c.read_end.result (c.in_ok-head.ensures.head ∙ c.in_ok-graph.ensures.edges ∙ c.in_ok-levels.ensures.levels) c.read_end.ensures.document
