use Rattle.std.proofs.Common.{ℕ, List, ◌≡◌, ◌≤◌, ap, sym, ◌∙◌, arith}
use Rattle.kc_graph.specs.Numbers.{has_number}
use Rattle.kc_insert.specs.private.Rising.{all_at, rises, seen}
use Rattle.kc_insert.proofs.Kept.{gone_order, went_together, went_together_paid}
use Rattle.kc_insert.proofs.Together.{free_less}
use Rattle.kc_insert.proofs.sweeping.rise_together.Goals as goal

pub returns-clause-running : goal.returns-clause-running
returns-clause-running c = λ limit now x first running.
    let g = c.args.scaled.graph.now in
    let scale = c.args.scaled.scale in
    let graph = c.vertices-n.ensures.graph in
    let most = rw scale at limit in
    let clear = c.has_doubt.ensures c.if-has_doubt.false in
    let goes : (risers : List ℕ) → ((v : ℕ) → rises c.args.sweep.now.levels v ≡ has_number v risers) → seen c.go_to.new.self ≡ all_at (seen c.args.sweep.now.levels) risers c.go_to.new.self.level = λ risers h. c.go_to.ensures.seen risers h ∙ ap (all_at (seen c.args.sweep.now.levels) risers) (sym c.go_to.ensures.level) in
    let le : c.args.sweep.now.levels.level ≤ c.go_to.new.self.level = omega (arith, c.go_to.ensures.level, c.end_of_band.ensures.over) in
    let free = free_less c.args.sweep.now.levels.level c.go_to.new.self.level c.free_level-limit.result _ _ (omega (arith, c.go_to.ensures.level, c.end_of_band.ensures.within)) (c.free_level-limit.ensures.free (omega (arith, c.free_level-limit.ensures.from, c.if-limit-level.false))) in
    record {
      order = gone_order c.args.scaled.th.now.profile g c.args.sweep.now.levels c.go_to.new.self c.args.sweep.now.ranges c.go_to.ensures.rises running.order;
      sweeping = went_together c.args.scaled.th.now.profile g x c.args.sweep.now.levels c.go_to.new.self c.args.sweep.now.ranges graph running.order most clear c.go_to.ensures.rises goes le free (λ k a b. rw (← scale) (c.end_of_band.ensures.same k a (omega (arith, b, c.go_to.ensures.level)))) running.sweeping;
      paid = went_together_paid c.args.scaled.th.now.profile g x c.args.sweep.now.levels c.go_to.new.self c.args.sweep.now.ranges first now graph running.order most clear c.go_to.ensures.rises goes le free running.sweeping running.paid;
    }
