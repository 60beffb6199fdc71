use Rattle.std.proofs.Common.{◌≡◌, ◌<◌, ◌≤◌, arith, refl, ap, sym, ◌∙◌}
use borrow.Author.Count.{below_more}
use Rattle.kc_levels.specs.Thresholds.{grow, next_grow}
use Rattle.kc_levels.proofs.ProfileFacts.{next_grow-above, most_height-small}
use Rattle.kc_levels.proofs.Sequences.{grow-next, grow-ge}
use Rattle.kc_levels.proofs.Groups.{grow-few, height-is}
use Rattle.kc_levels.proofs.thresholds.height_of.Goals as goal

pub loop-grown-init : goal.loop-grown-init
unfolding grow
loop-grown-init c = (refl, λ i h. absurd (omega arith))

pub overflow_add-height : goal.overflow_add-height
overflow_add-height c =
    let is : c.loop-grown.grown ≡ grow c.args.profile c.loop-grown.height = c.loop-grown.invariant.0 in
    omega (arith, grow-few c.args.profile c.loop-grown.height (omega arith), most_height-small c.args.profile)

pub loop-grown-smaller : goal.loop-grown-smaller
loop-grown-smaller c =
    let is : c.loop-grown.grown ≡ grow c.args.profile c.loop-grown.height = c.loop-grown.invariant.0 in
    let above : c.loop-grown.grown < next_grow c.args.profile c.loop-grown.grown =
    next_grow-above c.args.profile c.loop-grown.grown (omega (arith, grow-ge c.args.profile c.loop-grown.height)) in
    omega arith

pub loop-grown-preserved : goal.loop-grown-preserved
loop-grown-preserved c =
    let is : c.loop-grown.grown ≡ grow c.args.profile c.loop-grown.height = c.loop-grown.invariant.0 in
    let here : grow c.args.profile c.loop-grown.height ≤ c.args.n = omega arith in (
      c.next_grow-grown.ensures ∙ ap (next_grow c.args.profile) is ∙ sym (grow-next c.args.profile c.loop-grown.height),
      below_more (λ i. grow c.args.profile i ≤ c.args.n) c.loop-grown.height c.loop-grown.invariant.1 here,
    )

pub returns : goal.returns
returns c =
    let is : c.loop-grown.grown ≡ grow c.args.profile c.loop-grown.height = c.loop-grown.invariant.0 in
    sym (height-is c.args.profile c.args.n c.loop-grown.height (omega arith) c.loop-grown.invariant.1)
