use Rattle.std.proofs.Common.{◌≡◌, List, length, ap, sym, subst, ◌∙◌, arith}
use Rattle.std.proofs.lemmas.List.{with_items_is}
use Rattle.kc_insert.specs.private.Crossing.{Crossing}
use Rattle.kc_insert.specs.private.Ranges.{AreToldAll}
use Rattle.kc_insert.specs.private.Sharing.{AllRisen, CanRiseAll}
use Rattle.kc_insert.specs.Ranges.{Cut, Part, Tell}
use Rattle.kc_insert.proofs.Coming.{all_risen, are_few, are_told, can_meet}
use Rattle.kc_insert.proofs.ranges.Ranges.rise.Goals as goal

-- the ranges can rise, by the slices that the code has of them
can_rise : (k : Crossing) (ps qs : List Part) (ts us : List Tell) → qs ≡ ps → us ≡ ts → CanRiseAll k ps ts → CanRiseAll k qs us
can_rise k ps qs ts us e f can = rw (e, f) can

pub rise_each-requires-after_bounds : goal.rise_each-requires-after_bounds
rise_each-requires-after_bounds g c κs within =
    λ i d h. (can_rise _ _ _ _ _ (c.as_mut_slice-items.ensures.value ∙ ap (λ (r : Cut). r.parts) c.self.view_is) (c.as_mut_slice-told.ensures.value ∙ ap (λ (r : Cut). r.told) c.self.view_is) c.requires).each i d h

pub collect-requires : goal.collect-requires
collect-requires g c =
    let can = can_rise _ _ _ _ _ (c.as_mut_slice-items.ensures.value ∙ ap (λ (r : Cut). r.parts) c.self.view_is) (c.as_mut_slice-told.ensures.value ∙ ap (λ (r : Cut). r.told) c.self.view_is) c.requires in
    can.told ∙ sym c.rise_each.auto.items

pub hear_more-requires-clause-lists : goal.hear_more-requires-clause-lists
hear_more-requires-clause-lists g c κs within =
    let can = can_rise _ _ _ _ _ (c.as_mut_slice-items.ensures.value ∙ ap (λ (r : Cut). r.parts) c.self.view_is) (c.as_mut_slice-told.ensures.value ∙ ap (λ (r : Cut). r.told) c.self.view_is) c.requires in
    are_told c.args.step.now c.as_mut_slice-items.result.now c.rise_each.new.items c.collect.new.items c.as_mut_slice-told.result.now c.collect.new.told can c.rise_each.auto.items c.collect.auto.items c.collect.auto.told (λ i d h. c.rise_each.ensures i d h (c.in_ok-check.ensures i d (omega (arith, h, c.rise_each.auto.items)))) (λ i d e h. c.collect.ensures.items i d e h) (λ i d e h. c.collect.ensures.told i d e h)

pub hear_more-requires-clause-ready : goal.hear_more-requires-clause-ready
hear_more-requires-clause-ready g c κs within =
    let can = can_rise _ _ _ _ _ (c.as_mut_slice-items.ensures.value ∙ ap (λ (r : Cut). r.parts) c.self.view_is) (c.as_mut_slice-told.ensures.value ∙ ap (λ (r : Cut). r.told) c.self.view_is) c.requires in
    can_meet c.args.step.now c.as_mut_slice-items.result.now c.rise_each.new.items c.collect.new.items c.as_mut_slice-told.result.now c.collect.new.told can c.rise_each.auto.items c.collect.auto.items c.collect.auto.told (λ i d h. c.rise_each.ensures i d h (c.in_ok-check.ensures i d (omega (arith, h, c.rise_each.auto.items)))) (λ i d e h. c.collect.ensures.items i d e h) (λ i d e h. c.collect.ensures.told i d e h)

pub hear_more-requires-clause-few : goal.hear_more-requires-clause-few
hear_more-requires-clause-few g c κs within =
    let can = can_rise _ _ _ _ _ (c.as_mut_slice-items.ensures.value ∙ ap (λ (r : Cut). r.parts) c.self.view_is) (c.as_mut_slice-told.ensures.value ∙ ap (λ (r : Cut). r.told) c.self.view_is) c.requires in
    are_few c.args.step.now c.as_mut_slice-items.result.now c.rise_each.new.items c.collect.new.items c.as_mut_slice-told.result.now c.collect.new.told can c.rise_each.auto.items c.collect.auto.items c.collect.auto.told (λ i d h. c.rise_each.ensures i d h (c.in_ok-check.ensures i d (omega (arith, h, c.rise_each.auto.items)))) (λ i d e h. c.collect.ensures.items i d e h) (λ i d e h. c.collect.ensures.told i d e h)

pub returns-clause-risen : goal.returns-clause-risen
returns-clause-risen g c =
    let items_is = c.as_mut_slice-items.ensures.value ∙ ap (λ (r : Cut). r.parts) c.self.view_is in
    let can = can_rise _ _ _ _ _ items_is (c.as_mut_slice-told.ensures.value ∙ ap (λ (r : Cut). r.told) c.self.view_is) c.requires in
    let risen = all_risen c.args.step.now c.as_mut_slice-items.result.now c.rise_each.new.items c.collect.new.items c.as_mut_slice-told.result.now c.collect.new.told can c.rise_each.auto.items c.collect.auto.items c.collect.auto.told (λ i d h. c.rise_each.ensures i d h (c.in_ok-check.ensures i d (omega (arith, h, c.rise_each.auto.items)))) (λ i d e h. c.collect.ensures.items i d e h) (λ i d e h. c.collect.ensures.told i d e h) c.args.most c.hear_more.new.items c.in_ok-hear_more.ensures in
    let after = with_items_is c.self.inside.items c.hear_more.new.items (omega (arith, risen.sized, c.as_mut_slice-items.ensures.len)) in
    subst (λ (ps : List Part). AllRisen c.args.step.now c.args.most c.args.self.now.parts ps) (sym after) (subst (λ (ps : List Part). AllRisen c.args.step.now c.args.most ps c.hear_more.new.items) items_is risen)

pub returns-clause-told : goal.returns-clause-told
returns-clause-told g c =
    let items_is = c.as_mut_slice-items.ensures.value ∙ ap (λ (r : Cut). r.parts) c.self.view_is in
    let can = can_rise _ _ _ _ _ items_is (c.as_mut_slice-told.ensures.value ∙ ap (λ (r : Cut). r.told) c.self.view_is) c.requires in
    let lists = are_told c.args.step.now c.as_mut_slice-items.result.now c.rise_each.new.items c.collect.new.items c.as_mut_slice-told.result.now c.collect.new.told can c.rise_each.auto.items c.collect.auto.items c.collect.auto.told (λ i d h. c.rise_each.ensures i d h (c.in_ok-check.ensures i d (omega (arith, h, c.rise_each.auto.items)))) (λ i d e h. c.collect.ensures.items i d e h) (λ i d e h. c.collect.ensures.told i d e h) in
    let after = with_items_is c.self.inside.told c.collect.new.told (omega (arith, c.collect.auto.told, c.as_mut_slice-told.ensures.len)) in
    subst (λ (ts : List Tell). AreToldAll (length c.args.self.now.parts) ts) (sym after) (record {
      long = c.collect.auto.told ∙ can.told ∙ ap length items_is;
      lists = λ j d h. lists.sized j d (omega (arith, h, c.collect.auto.told, can.told, ap length items_is)) ∙ c.collect.auto.items ∙ c.rise_each.auto.items ∙ ap length items_is;
    })
