use Rattle.std.proofs.Common.{◌≡◌, arith, ◌∙◌}
use Rattle.std.proofs.lemmas.List.{get_or_read}
use Rattle.kc_levels.specs.Thresholds.{low}
use Rattle.kc_levels.proofs.Groups.{low-small}
use Rattle.kc_levels.proofs.thresholds.Thresholds.low.Goals as goal

pub returns-clause-small : goal.returns-clause-small
returns-clause-small c =
    let t = c.self.invariant in
    let inside = rw (← c.self.view_is) at c.requires in
    let read : c.index.result.now ≡ low c.self.inside.profile c.args.i =
    get_or_read c.self.inside.lows.items c.args.i c.index.result.now (omega (arith, t.sized)) c.index.ensures 0 ∙ t.lows_are c.args.i (omega (arith, t.sized)) in
    omega (arith, low-small c.self.inside.profile c.self.inside.n c.args.i t.small inside)
