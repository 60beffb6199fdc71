use Rattle.std.proofs.Common.{ℕ, List, ◌≡◌, ◌+◌, get_or, length, ap, sym, subst, ◌∙◌, arith}
use Rattle.kc_insert.specs.private.Crossing.{Crossing}
use Rattle.kc_insert.specs.private.Sharing.{AreTold, CanMeet, HearMore}
use Rattle.kc_insert.specs.Ranges.{Tell}
use Rattle.kc_insert.proofs.Shared.{can_meet, meet_first, met_dealt, next_met, next_room, next_small, next_there}
use Rattle.kc_insert.proofs.sharing.hear_more.Goals as goal

pub hear_more_each-requires-after_bounds : goal.hear_more_each-requires-after_bounds
hear_more_each-requires-after_bounds g c κs within =
    let lists = subst (λ b. AreTold c.args.step.now.width b (length c.args.items.now) c.args.told.now) (ap (λ (s : Crossing). s.is_dealt) (sym c.step.view_is) ∙ c.if-step.true) c.requires.lists in
    λ i d at. can_meet c.args.step.now.width (c.args.step.now.level + 1) c.args.told.now c.args.items.now c.requires.ready lists i at c.requires.few d

pub returns-then-step : goal.returns-then-step
returns-then-step g c =
    let lists = subst (λ b. AreTold c.args.step.now.width b (length c.args.items.now) c.args.told.now) (ap (λ (s : Crossing). s.is_dealt) (sym c.step.view_is) ∙ c.if-step.true) c.requires.lists in
    record {
      sized = c.hear_more_each.auto.items;
      each = λ j d h. met_dealt c.args.step.now.width (c.args.step.now.level + 1) c.args.told.now c.args.items.now c.requires.ready lists j h c.args.most _ _ (c.hear_more_each.ensures j d h (c.in_ok-check.ensures j d (omega (arith, h, c.hear_more_each.auto.items))));
    }

pub loop-i-init : goal.loop-i-init
loop-i-init g c = meet_first c.args.step.now.width (c.args.step.now.level + 1) c.args.most c.args.items.now

pub hear_more_all-requires : goal.hear_more_all-requires
hear_more_all-requires g c =
    let is : (get_or c.args.told.now c.loop-i.i c.index-told-i.result).all ≡ c.all.result.now = ap (λ (t : Tell). t.all) (sym c.index-told-i.is) ∙ sym c.all.ensures in
    subst (λ (s : Crossing). CanMeet s.width (s.level + 1) c.all.result.now c.loop-i.items) (sym c.step.view_is) (subst (λ (xs : List ℕ). CanMeet c.args.step.now.width (c.args.step.now.level + 1) xs c.loop-i.items) is (record {
      held = next_there c.args.step.now.width (c.args.step.now.level + 1) c.args.told.now c.args.items.now c.requires.ready c.args.most c.loop-i.i c.index-told-i.result (omega arith) c.loop-i.items c.loop-i.invariant;
      small = next_small c.args.step.now.width (c.args.step.now.level + 1) c.args.told.now c.args.items.now c.requires.ready c.args.most c.loop-i.i c.index-told-i.result (omega arith) c.loop-i.items c.loop-i.invariant;
      room = next_room c.args.step.now.width (c.args.step.now.level + 1) c.args.told.now c.args.items.now c.requires.ready c.args.most c.loop-i.i c.index-told-i.result (omega arith) c.loop-i.items c.loop-i.invariant;
    }))

pub loop-i-preserved : goal.loop-i-preserved
loop-i-preserved g c =
    let is : (get_or c.args.told.now c.loop-i.i c.index-told-i.result).all ≡ c.all.result.now = ap (λ (t : Tell). t.all) (sym c.index-told-i.is) ∙ sym c.all.ensures in
    next_met c.args.step.now.width (c.args.step.now.level + 1) c.args.told.now c.args.items.now c.requires.ready c.args.most c.loop-i.i c.index-told-i.result (omega arith) c.loop-i.items c.loop-i.invariant c.hear_more_all.new.items (subst (λ (xs : List ℕ). HearMore c.args.step.now.width (c.args.step.now.level + 1) c.args.most xs c.loop-i.items c.hear_more_all.new.items) (sym is) (subst (λ (s : Crossing). HearMore s.width (s.level + 1) c.args.most c.all.result.now c.loop-i.items c.hear_more_all.new.items) c.step.view_is c.in_ok-hear_more_all.ensures))
