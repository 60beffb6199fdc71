use Rattle.std.proofs.Common.{◌≤◌, ◌++◌, length, arith}
use Rattle.std.proofs.lemmas.List.{length-append}
use Rattle.kc_batch.proofs.ItemLines.{walk_on, walk_after}
use Rattle.kc_batch.proofs.adding.+sharing.Goals as goal

pub add_parts-returns : goal.add_parts-returns
add_parts-returns g t c =
    let lines = c.args.lines in
    let place = c.line_end-place.result in
    let mid = c.add_both-first.new.items in
    let later = c.add_both-first.new.later in
    let p = rw (c.split_at.ensures.front, c.in_ok-first.was {u = tt}) at c.add_both-first.ensures.front in
    let q = rw (c.split_at.ensures.back, c.new-later.ensures, c.in_ok-second.was {u = tt}) at c.add_both-first.ensures.back in
    let few : length (mid ++ later) ≤ lines.rules.item_limit = rw length-append (omega (arith, p.few, c.len.ensures, c.len-else-first-place.ensures, c.if-rules-len.false)) in
    rw c.in_ok-append.ensures.ok (walk_on lines.rules lines.limit place c.in_ok-first.first c.in_ok-second.second lines.bytes.now c.args.items.now mid (mid ++ later) c.line_end-place.ensures (omega (arith, c.if-first-place.false)) p
    (walk_after lines.rules lines.limit _ mid later c.in_ok-second.second few q))
