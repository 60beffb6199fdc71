use Rattle.std.proofs.Common.{ℕ, List, ◌≡◌, get_or, length, ap, sym, subst, ◌∙◌, arith}
use Rattle.kc_insert.specs.private.Crossing.{Crossing}
use Rattle.kc_insert.specs.private.Sharing.{AreTold, CanLessen, HearLess}
use Rattle.kc_insert.specs.Ranges.{Tell}
use Rattle.kc_insert.proofs.Shared.{can_hear, hear_first, heard_dealt, next_enough, next_heard, next_held}
use Rattle.kc_insert.proofs.sharing.hear_less.Goals as goal

pub hear_less_each-requires-after_bounds : goal.hear_less_each-requires-after_bounds
hear_less_each-requires-after_bounds g c κs within =
    let lists = subst (λ b. AreTold c.args.step.now.width b (length c.args.items.now) c.args.told.now) (ap (λ (s : Crossing). s.is_dealt) (sym c.step.view_is) ∙ c.if-step.true) c.requires.lists in
    λ i d at. can_hear c.args.step.now.width c.args.told.now c.args.items.now c.requires.ready lists i at d

pub returns-then-step : goal.returns-then-step
returns-then-step g c =
    let lists = subst (λ b. AreTold c.args.step.now.width b (length c.args.items.now) c.args.told.now) (ap (λ (s : Crossing). s.is_dealt) (sym c.step.view_is) ∙ c.if-step.true) c.requires.lists in
    record {
      sized = c.hear_less_each.auto.items;
      each = λ j d h. heard_dealt c.args.step.now.width c.args.told.now c.args.items.now c.requires.ready lists j h _ _ (c.hear_less_each.ensures j d h (c.in_ok-check.ensures j d (omega (arith, h, c.hear_less_each.auto.items))));
    }

pub loop-i-init : goal.loop-i-init
loop-i-init g c = hear_first c.args.step.now.width c.args.items.now

pub hear_less_all-requires : goal.hear_less_all-requires
hear_less_all-requires g c =
    let is : (get_or c.args.told.now c.loop-i.i c.index-told-i.result).all ≡ c.all.result.now = ap (λ (t : Tell). t.all) (sym c.index-told-i.is) ∙ sym c.all.ensures in
    subst (λ (s : Crossing). CanLessen s.width c.all.result.now c.loop-i.items) (sym c.step.view_is) (subst (λ (xs : List ℕ). CanLessen c.args.step.now.width xs c.loop-i.items) is (record {
      held = next_held c.args.step.now.width c.args.told.now c.args.items.now c.requires.ready c.loop-i.i c.index-told-i.result (omega arith) c.loop-i.items c.loop-i.invariant;
      enough = next_enough c.args.step.now.width c.args.told.now c.args.items.now c.requires.ready c.loop-i.i c.index-told-i.result (omega arith) c.loop-i.items c.loop-i.invariant;
    }))

pub loop-i-preserved : goal.loop-i-preserved
loop-i-preserved g c =
    let is : (get_or c.args.told.now c.loop-i.i c.index-told-i.result).all ≡ c.all.result.now = ap (λ (t : Tell). t.all) (sym c.index-told-i.is) ∙ sym c.all.ensures in
    next_heard c.args.step.now.width c.args.told.now c.args.items.now c.requires.ready c.loop-i.i c.index-told-i.result (omega arith) c.loop-i.items c.loop-i.invariant c.hear_less_all.new.items (subst (λ (xs : List ℕ). HearLess c.args.step.now.width xs c.loop-i.items c.hear_less_all.new.items) (sym is) (subst (λ (s : Crossing). HearLess s.width c.all.result.now c.loop-i.items c.hear_less_all.new.items) c.step.view_is c.in_ok-hear_less_all.ensures))
