use Rattle.std.proofs.Common.{arith, ap, length, get_or, List, ◌∙◌}
use Rattle.kc_history.specs.declared.entries.Entry.{Entry}
use Rattle.kc_engine.proofs.showing.sizes.moves_of.Goals as goal

pub overflow_cast-result : goal.overflow_cast-result
overflow_cast-result c =
    let few = c.plans_are_small.ensures.moves c.args.n c.args.plan.now c.requires.formed c.args.g c.index-as_slice-g.result c.requires.inside in
    let len = c.len.ensures ∙ ap (λ (es : List Entry). length (get_or es c.args.g c.index-as_slice-g.result).moves) c.as_slice.ensures in
    omega (arith, few, c.ranges.n.fits, len)
