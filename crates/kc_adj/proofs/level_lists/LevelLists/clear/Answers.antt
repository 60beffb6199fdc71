use Rattle.std.proofs.Common.{[], length, replicate, arith, ap, ◌∙◌}
use Rattle.kc_adj.proofs.Marks.{all_bare}
use Rattle.kc_adj.proofs.level_lists.LevelLists.clear.Goals as goal

pub returns : goal.returns
returns g c =
    c.self-2.view_is
    ∙ all_bare c.loop-level.self (λ k h. c.loop-level.invariant.2 k (omega (arith, h, c.loop-level-test.false, c.len.ensures, ap (λ ls. length ls) c.self.view_is)))
    ∙ ap (λ n. replicate n []) c.loop-level.invariant.0
