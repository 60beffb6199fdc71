use Rattle.std.proofs.Common.{ap, sym, ◌∙◌, arith}
use Rattle.kc_insert.specs.private.Rising.{all_at, seen}
use Rattle.kc_insert.proofs.Kept.{gone_order, went_on, went_on_paid}
use Rattle.kc_insert.proofs.sweep.Sweep.go_on.Goals as goal

pub returns-then-not-has_begun-clause-running : goal.returns-then-not-has_begun-clause-running
returns-then-not-has_begun-clause-running c = λ s now x first i.
    let p = s.th.now.profile in
    let g = s.graph.now in
    record {
      order = gone_order p g c.args.self.now.levels c.go_to.new.self c.args.self.now.ranges c.go_to.ensures.rises i.order;
      sweeping = went_on p g x c.args.self.now.levels c.go_to.new.self c.args.self.now.ranges i.order c.go_to.ensures.rises (λ risers h. c.go_to.ensures.seen risers h ∙ ap (all_at (seen c.args.self.now.levels) risers) (sym c.go_to.ensures.level)) (c.has_begun.ensures c.if-not-has_begun.true) (omega (arith, c.go_to.ensures.level, c.next_waiting-next.ensures.from)) (λ k a b. c.next_waiting-next.ensures.none k a (omega (arith, b, c.go_to.ensures.level))) i.sweeping;
      paid = went_on_paid p g x c.args.self.now.levels c.go_to.new.self c.args.self.now.ranges first now i.order c.go_to.ensures.rises (λ risers h. c.go_to.ensures.seen risers h ∙ ap (all_at (seen c.args.self.now.levels) risers) (sym c.go_to.ensures.level)) (c.has_begun.ensures c.if-not-has_begun.true) i.paid;
    }
