use Rattle.std.proofs.Common.{◌≢◌, List, length, refl, ap, arith, ◌∙◌}
use Rattle.std.proofs.lemmas.List.{length-set}
use Rattle.kc_levels.specs.declared.moves.Move.{Move}
use Rattle.kc_levels.proofs.Copied.{copied_all}
use Rattle.kc_levels.proofs.Ascending.{levels_copied, following_next}
use Rattle.kc_levels.proofs.levels.Levels.follow.Goals as goal

pub loop-m-preserved : goal.loop-m-preserved
loop-m-preserved c = (
  rw c.set.ensures (length-set c.loop-m.self _ _ ∙ c.loop-m.invariant.0),
  λ y is. following_next c.args.self.now y c.loop-m.self c.set.new.self c.args.moves.now c.loop-m.m-index _ c.loop-m.invariant.0 (omega (arith, c.loop-m-test.true, ap (λ (ms : List Move). length ms) c.as_slice-m-items.ensures)) is (rw c.as_slice-m-items.ensures at c.set.ensures) (c.loop-m.invariant.1 y is),
)

pub returns-clause-follows : goal.returns-clause-follows
returns-clause-follows c = λ y long is.
    levels_copied _ c.args.self.now y c.loop-m.self c.args.moves.now refl long is (copied_all (λ v (m : Move). v ≢ m.vertex) c.args.moves.now c.loop-m.m-index y c.args.self.now c.loop-m.self (omega (arith, c.loop-m-test.false, ap (λ (ms : List Move). length ms) c.as_slice-m-items.ensures)) (c.loop-m.invariant.1 y is))
