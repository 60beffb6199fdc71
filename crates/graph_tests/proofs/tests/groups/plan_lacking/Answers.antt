use Rattle.std.proofs.Common.{ap, ◌∙◌}
use Rattle.kc_levels.specs.Moved.{moves_between}
use Rattle.kc_groups.proofs.lemmas.Phases.{present_after}
use Rattle.kc_groups.proofs.lemmas.Plans.{between_in_order}
use Rattle.graph_tests.proofs.tests.groups.plan_lacking.Goals as goal

pub plan_moves-requires-clause-order : goal.plan_moves-requires-clause-order
plan_moves-requires-clause-order g c κs within =
    between_in_order c.args.graph.now.vertices c.args.case.now.before.now c.args.case.now.after.now c.moves_from-moves.result
    (c.moves_from-moves.ensures ∙ ap (λ k. moves_between k c.args.case.now.before.now c.args.case.now.after.now) c.requires.before)

pub plan_moves-requires-clause-present : goal.plan_moves-requires-clause-present
plan_moves-requires-clause-present g c κs within = present_after c.args.graph.now c.args.edges.now
