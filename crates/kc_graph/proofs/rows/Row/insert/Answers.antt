use Rattle.std.proofs.Common.{◌∙◌, sym, ap}
use Rattle.kc_graph.specs.private.Numbers.{put}
use Rattle.kc_graph.proofs.SearchLemmas.{pushed, put_found}
use Rattle.kc_graph.proofs.CarryLemmas.{carried}
use Rattle.kc_graph.proofs.rows.Row.insert.Goals as goal

pub invariant_of-self-then-ends_below : goal.invariant_of-self-then-ends_below
invariant_of-self-then-ends_below c =
    let above = rw c.as_slice.ensures at c.ends_below.ensures in
    (pushed _ _ c.args.x c.self.invariant (above.0 c.if-ends_below.true) (rw c.make_room.ensures at c.in_ok-push.ensures.ok)).1

pub returns-then-ends_below-clause-ok : goal.returns-then-ends_below-clause-ok
returns-then-ends_below-clause-ok c =
    let above = rw c.as_slice.ensures at c.ends_below.ensures in
    (pushed _ _ c.args.x c.self.invariant (above.0 c.if-ends_below.true) (rw c.make_room.ensures at c.in_ok-push.ensures.ok)).0 ∙ ap (put c.args.x) c.self.view_is

pub returns-in-Ok-clause-ok : goal.returns-in-Ok-clause-ok
returns-in-Ok-clause-ok c =
    sym (rw c.self.view_is at (put_found _ c.args.x _ c.self.invariant (rw c.as_slice-2.ensures at c.in-Ok.ensures)))

pub invariant_of-self-in-Err : goal.invariant_of-self-in-Err
invariant_of-self-in-Err c =
    (carried c.push-in-Err.new.self _ _ _ c.args.x _ c.self.invariant (rw c.as_slice-2.ensures at c.in-Err.ensures)
    (rw c.make_room-in-Err.ensures at c.in_ok-push-in-Err.ensures.ok) c.as_mut_slice.ensures.value c.carry_down.auto.items c.carry_down.ensures).1

pub returns-in_ok-push-in-Err-clause-ok : goal.returns-in_ok-push-in-Err-clause-ok
returns-in_ok-push-in-Err-clause-ok c =
    (carried c.push-in-Err.new.self _ _ _ c.args.x _ c.self.invariant (rw c.as_slice-2.ensures at c.in-Err.ensures)
    (rw c.make_room-in-Err.ensures at c.in_ok-push-in-Err.ensures.ok) c.as_mut_slice.ensures.value c.carry_down.auto.items c.carry_down.ensures).0
    ∙ ap (put c.args.x) c.self.view_is

pub returns-then-ends_below-clause-rises : goal.returns-then-ends_below-clause-rises
returns-then-ends_below-clause-rises c =
    let above = rw c.as_slice.ensures at c.ends_below.ensures in
    (pushed _ _ c.args.x c.self.invariant (above.0 c.if-ends_below.true) (rw c.make_room.ensures at c.in_ok-push.ensures.ok)).1

pub returns-in_ok-push-in-Err-clause-rises : goal.returns-in_ok-push-in-Err-clause-rises
returns-in_ok-push-in-Err-clause-rises c =
    (carried c.push-in-Err.new.self _ _ _ c.args.x _ c.self.invariant (rw c.as_slice-2.ensures at c.in-Err.ensures)
    (rw c.make_room-in-Err.ensures at c.in_ok-push-in-Err.ensures.ok) c.as_mut_slice.ensures.value c.carry_down.auto.items c.carry_down.ensures).1
