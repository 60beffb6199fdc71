use Rattle.std.proofs.Common.{ap, sym, ◌∙◌, arith}
use Rattle.std.specs.List.{flat_map}
use Rattle.kc_insert.specs.Ranges.{all_began, Cut, Part}
use Rattle.kc_insert.proofs.Nearest.{flat_none}
use Rattle.kc_insert.proofs.ranges.Ranges.has_begun.Goals as goal

pub returns : goal.returns
returns c = λ e. ap (λ (r : Cut). all_began r) (sym c.self.view_is) ∙ ap (flat_map (λ (p : Part). p.began)) (sym c.as_slice-items.ensures.value) ∙ flat_none (λ (p : Part). p.began) c.as_slice-items.result.now (λ k d h. c.loop-range.invariant k d (omega (arith, h, c.loop-range-test.false)))
