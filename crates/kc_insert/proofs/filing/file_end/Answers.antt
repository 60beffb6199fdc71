use Rattle.std.proofs.Common.{get_or, length, set, ap, sym, subst, ◌∙◌, arith}
use Rattle.std.proofs.lemmas.List.{get_or_default}
use Rattle.kc_insert.specs.private.Filed.{HasFollowed}
use Rattle.kc_insert.specs.Ranges.{Cut, HasVertex, no_part, Part, range_of}
use Rattle.kc_insert.proofs.Filled.{end_filed}
use Rattle.kc_insert.proofs.filing.file_end.Goals as goal

pub follow_count-requires : goal.follow_count-requires
follow_count-requires c =
    let d = c.index_mut-range.result.now in
    let here = c.range.view_is ∙ c.index_mut-range.ensures.value ∙ ap (λ k. get_or c.ranges-2.inside.items.items k c.index_mut-range.result.now) c.range_of.ensures ∙ ap (λ (r : Cut). get_or r.parts (range_of r.width c.args.v) c.index_mut-range.result.now) c.ranges-2.view_is in
    let it = c.requires.can.cut.vertex c.args.v c.requires.vertex in
    let long = ap (λ (p : Part). length p.queue) (here ∙ get_or_default c.args.ranges.now.parts (range_of c.args.ranges.now.width c.args.v) d no_part it.place) in
    let level = c.requires.can.levels.2 c.args.v (omega (arith, c.requires.vertex, c.requires.can.levels.1)) in
    record {
      held = subst (λ (p : Part). HasVertex p.watch c.args.v) (sym (here ∙ get_or_default c.args.ranges.now.parts (range_of c.args.ranges.now.width c.args.v) d no_part it.place)) it.held;
      inside = (omega (arith, c.requires.vertex, c.requires.can.levels.0), c.requires.vertex);
      level = level;
      room = omega (arith, long, level, c.requires.can.cut.queues (range_of c.args.ranges.now.width c.args.v) it.place);
    }

pub returns : goal.returns
returns c =
    let d = c.index_mut-range.result.now in
    let here = c.range.view_is ∙ c.index_mut-range.ensures.value ∙ ap (λ k. get_or c.ranges-2.inside.items.items k c.index_mut-range.result.now) c.range_of.ensures ∙ ap (λ (r : Cut). get_or r.parts (range_of r.width c.args.v) c.index_mut-range.result.now) c.ranges-2.view_is in
    let b : Part = record { watch = c.follow_count.new.watched; queue = c.follow_count.new.queue; meetings = c.range.inside.meetings; began = c.range.inside.began.items; risen = c.range.inside.risen.items; stay = c.range.inside.stay.items; begun = c.range.inside.begun.items; tell = c.range.inside.told; steps = c.range.inside.steps; is_short = c.range.inside.is_short } in
    end_filed c.args.fresh.now.profile c.args.fresh.now.vertices c.args.fresh.now.levels c.args.fresh.now.counts c.args.v c.args.ranges.now _ b c.follow_count.new.watched c.follow_count.new.queue d c.requires.can c.requires.vertex
    (ap (λ (r : Cut). record r { parts = set r.parts c.range_of.result b }) c.ranges-2.view_is ∙ ap (λ k. record c.args.ranges.now { parts = set c.args.ranges.now.parts k b }) (c.range_of.ensures ∙ ap (λ (r : Cut). range_of r.width c.args.v) c.ranges-2.view_is))
    (ap (λ (p : Part). record p { watch = c.follow_count.new.watched; queue = c.follow_count.new.queue }) here)
    (subst (λ (p : Part). HasFollowed c.args.fresh.now.profile c.args.fresh.now.vertices c.args.fresh.now.levels c.args.v (get_or c.args.fresh.now.counts c.args.v 0) p.watch c.follow_count.new.watched p.queue c.follow_count.new.queue) here c.in_ok-follow_count.ensures)
