use Rattle.std.proofs.Common.{arith}
use Rattle.kc_batch.proofs.ItemLines.{walk_on}
use Rattle.kc_batch.proofs.adding.CrewWalk.walk.Goals as goal

pub returns : goal.returns
returns g c =
    let p = rw c.split_at.ensures.front at c.in_ok-first.ensures in
    let q = rw c.split_at.ensures.back at c.in_ok-second.ensures in
    walk_on c.args.lines.rules c.args.lines.limit c.line_end-place.result c.in_ok-first.first c.in_ok-second.second c.args.lines.bytes.now c.args.items.now _ _ c.line_end-place.ensures (omega (arith, c.if-first-place.false)) p q
