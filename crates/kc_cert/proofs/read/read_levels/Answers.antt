use Rattle.std.proofs.Common.{◌+◌, ◌-◌, ◌<◌, ◌∙◌, ◌++◌, ◌∷◌, [], length, take, length-set, sym, arith}
use Rattle.std.proofs.lemmas.List.{take_all, take_more_set}
use Rattle.std.specs.Prelude.{Err}
use Rattle.std.proofs.lemmas.Result.{err_from_is_err_and}
use Rattle.std.proofs.lemmas.Bool.Decides.{nat_tests}
use Rattle.kc_cert.specs.Documents.{AtBody}
use Rattle.kc_cert.proofs.LevelSteps.{level_fits, level_step, capped_more}
use Rattle.kc_cert.proofs.Stepping.{reaches_on, answers_before, answers_misfit}
use Rattle.kc_cert.proofs.read.read_levels.Goals as goal

pub returns-in_err-level-clause-levels : goal.returns-in_err-level-clause-levels
returns-in_err-level-clause-levels g c =
    let t = c.in_ok-token.token in
    let n = c.vertices-n.result in
    let v = c.loop-v.v in
    let xs = c.loop-v.levels in
    let step = level_step c.args.profile c.args.graph.now xs 0 0 v n c.top-top.result t.kind _ c.vertices-n.ensures.count c.loop-v.invariant.top c.loop-v.invariant.sized c.loop-v-test.true c.level_of.ensures in
    let p = err_from_is_err_and c.from_residual-in_err-level.result c.from_residual-in_err-level.ensures.1 in
    rw (p.1, p.2) (answers_before _ _ _ _ (Err c.in_err-level.field-0.0) c.loop-v.invariant.same (answers_misfit (AtBody (record { profile = c.args.profile; graph = c.args.graph.now; levels = take v xs }) 0 0 0 (n - v)) (λ l. AtBody (record { profile = c.args.profile; graph = c.args.graph.now; levels = take v xs ++ l ∷ [] }) 0 0 0 (n - (v + 1))) t _ _ _ _ step c.in_ok-token.ensures.token c.in_err-level.ensures.fits))

pub returns-clause-levels : goal.returns-clause-levels
returns-clause-levels g c = grind (arith, nat_tests, take_all, c.loop-v-test.false, c.loop-v.invariant.sized, c.loop-v.invariant.same)

pub loop-v-preserved : goal.loop-v-preserved
loop-v-preserved g c =
    let t = c.in_ok-token.token in
    let xs = c.loop-v.levels in
    let v = c.loop-v.v in
    let l = c.in_ok-level.level in
    let x_is = sym c.in_ok-level.ensures.fits ∙ c.level_of.ensures in
    let inside : v < length xs = omega (arith, c.loop-v-test.true, c.loop-v.invariant.sized) in
    let step = level_step c.args.profile c.args.graph.now xs 0 0 v c.vertices-n.result c.top-top.result t.kind _ c.vertices-n.ensures.count c.loop-v.invariant.top c.loop-v.invariant.sized c.loop-v-test.true x_is in
    record {
      same = rw (c.set.ensures, take_more_set xs v l inside) (c.loop-v.invariant.same ∙ reaches_on _ _ t _ _ step tt c.in_ok-token.ensures.token);
      top = c.loop-v.invariant.top;
      sized = rw c.set.ensures (length-set xs v l ∙ c.loop-v.invariant.sized);
      capped = rw c.set.ensures (capped_more xs v l c.top-top.result c.loop-v.invariant.capped inside (level_fits c.vertices-n.result c.top-top.result v t.kind l (sym x_is)));
      faults = c.in_ok-token.ensures.cause ∙ c.loop-v.invariant.faults;
    }
