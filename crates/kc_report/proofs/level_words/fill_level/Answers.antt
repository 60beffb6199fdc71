use Rattle.std.proofs.Common.{arith}
use Rattle.std.proofs.lemmas.Result.{on_ok_weaker}
use Rattle.kc_report.proofs.LineLemmas.{level_filled, level_short}
use Rattle.kc_report.proofs.level_words.fill_level.Goals as goal

pub returns-clause-words : goal.returns-clause-words
returns-clause-words c = on_ok_weaker c.put.result (λ up. level_filled c.args.level c.args.estimate _ _ _ c.clear.ensures c.in_ok-fill_bounds.ensures up) c.put.ensures.ok

pub returns-clause-short : goal.returns-clause-short
returns-clause-short c =
    on_ok_weaker c.put.result
    (λ up. level_short c.args.level c.args.estimate _ (omega arith) (omega arith) (omega arith) (omega arith) (level_filled c.args.level c.args.estimate _ _ _ c.clear.ensures c.in_ok-fill_bounds.ensures up))
    c.put.ensures.ok
