use Rattle.std.proofs.Common.{◌∙◌, sym, arith}
use Rattle.kc_insert.proofs.Parting.{all_parted, are_told, can_lessen}
use Rattle.kc_insert.proofs.sharing.part_all.Goals as goal

pub part_each-requires-after_bounds : goal.part_each-requires-after_bounds
part_each-requires-after_bounds g c κs within = λ i d h. c.requires.each i d h

pub collect-requires : goal.collect-requires
collect-requires g c = c.requires.told ∙ sym c.part_each.auto.items

pub hear_less-requires-clause-lists : goal.hear_less-requires-clause-lists
hear_less-requires-clause-lists g c κs within = are_told c.args.step.now c.args.items.now c.part_each.new.items c.collect.new.items c.args.told.now c.collect.new.told c.requires c.part_each.auto.items c.collect.auto.items c.collect.auto.told (λ i d h. c.part_each.ensures i d h (c.in_ok-check.ensures i d (omega (arith, h, c.part_each.auto.items)))) (λ i d e h. c.collect.ensures.items i d e h) (λ i d e h. c.collect.ensures.told i d e h)

pub hear_less-requires-clause-ready : goal.hear_less-requires-clause-ready
hear_less-requires-clause-ready g c κs within = can_lessen c.args.step.now c.args.items.now c.part_each.new.items c.collect.new.items c.args.told.now c.collect.new.told c.requires c.part_each.auto.items c.collect.auto.items c.collect.auto.told (λ i d h. c.part_each.ensures i d h (c.in_ok-check.ensures i d (omega (arith, h, c.part_each.auto.items)))) (λ i d e h. c.collect.ensures.items i d e h) (λ i d e h. c.collect.ensures.told i d e h)

pub returns-clause-parted : goal.returns-clause-parted
returns-clause-parted g c = all_parted c.args.step.now c.args.items.now c.part_each.new.items c.collect.new.items c.args.told.now c.collect.new.told c.requires c.part_each.auto.items c.collect.auto.items c.collect.auto.told (λ i d h. c.part_each.ensures i d h (c.in_ok-check.ensures i d (omega (arith, h, c.part_each.auto.items)))) (λ i d e h. c.collect.ensures.items i d e h) (λ i d e h. c.collect.ensures.told i d e h) c.hear_less.new.items c.in_ok-hear_less.ensures

pub returns-clause-told : goal.returns-clause-told
returns-clause-told g c = λ k t h. (are_told c.args.step.now c.args.items.now c.part_each.new.items c.collect.new.items c.args.told.now c.collect.new.told c.requires c.part_each.auto.items c.collect.auto.items c.collect.auto.told (λ i d h. c.part_each.ensures i d h (c.in_ok-check.ensures i d (omega (arith, h, c.part_each.auto.items)))) (λ i d e h. c.collect.ensures.items i d e h) (λ i d e h. c.collect.ensures.told i d e h)).sized k t h ∙ c.collect.auto.items ∙ c.part_each.auto.items
