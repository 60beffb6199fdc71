use Rattle.std.proofs.Common.{List, get_or, length, ap, sym, subst, ◌∙◌, arith}
use Rattle.kc_insert.specs.private.Filed.{CanFile, CanFollow, HasFiled}
use Rattle.std.proofs.lemmas.List.{with_items_is}
use Rattle.kc_insert.specs.Ranges.{Cut, Part}
use Rattle.kc_insert.proofs.Filled.{all_filed, can_follow}
use Rattle.kc_insert.proofs.filing.file_all.Goals as goal

pub follow_all-requires-clause-ready : goal.follow_all-requires-clause-ready
follow_all-requires-clause-ready g c κs within = λ i d h.
    let can = subst (λ (r : Cut). CanFile c.args.fresh.now.profile c.args.fresh.now.vertices c.args.fresh.now.levels c.args.fresh.now.counts r) (sym c.ranges-2.view_is) c.requires.can in
    subst (λ (ps : List Part). CanFollow c.args.fresh.now.profile c.args.fresh.now.vertices c.args.fresh.now.levels c.args.fresh.now.counts (get_or ps i d)) (sym c.deref_mut.ensures.value) (can_follow c.args.fresh.now.profile c.args.fresh.now.vertices c.args.fresh.now.levels c.args.fresh.now.counts _ can i d (omega (arith, h, ap length c.deref_mut.ensures.value)))

pub returns : goal.returns
returns g c =
    let before = c.deref_mut.ensures.value ∙ ap (λ (r : Cut). r.parts) c.ranges-2.view_is in
    let after = with_items_is c.ranges-2.inside.items c.follow_all.new.items (omega (arith, c.in_ok-follow_all.ensures.0, c.deref_mut.ensures.len)) in
    all_filed c.args.fresh.now.profile c.args.fresh.now.vertices c.args.fresh.now.levels c.args.fresh.now.counts c.args.ranges.now _ c.requires.can (ap (λ (r : Cut). r.width) c.ranges-2.view_is) (ap (λ (r : Cut). r.told) c.ranges-2.view_is) (ap length after ∙ c.in_ok-follow_all.ensures.0 ∙ ap length before) (λ j d h.
    subst (λ (ps : List Part). HasFiled c.args.fresh.now.profile c.args.fresh.now.vertices c.args.fresh.now.levels c.args.fresh.now.counts (get_or c.args.ranges.now.parts j d) (get_or ps j d)) (sym after)
    (subst (λ (ps : List Part). HasFiled c.args.fresh.now.profile c.args.fresh.now.vertices c.args.fresh.now.levels c.args.fresh.now.counts (get_or ps j d) (get_or c.follow_all.new.items j d)) before (c.in_ok-follow_all.ensures.1 j d (omega (arith, h, ap length before)))))
