use Rattle.std.proofs.Common.{◌-◌, ◌≡◌, length, refl}
use Rattle.kc_batch.proofs.ItemLines.{adds_items, can_pass, still_items}
use Rattle.kc_batch.proofs.adding.add_items.Goals as goal

pub returns-clause-items : goal.returns-clause-items
returns-clause-items g c = let w = c.in_ok-len.ensures in still_items _ _ _ _ _ c.requires.items w.few w.adds

pub pass_lines-requires-clause-ready : goal.pass_lines-requires-clause-ready
pass_lines-requires-clause-ready g c =
    let w = c.in_ok-len.ensures in
    let count : c.len.result - c.len-before.result ≡ length c.walk.new.items - length c.args.items.now = rw (c.len.ensures, c.len-before.ensures) refl in
    can_pass c.args.rules _ _ _ _ _ _ c.in-Some.ensures.some w.within (rw c.line_limit-limit.ensures at w.adds) count

pub returns-clause-adds : goal.returns-clause-adds
returns-clause-adds g c =
    let w = c.in_ok-len.ensures in
    let count : c.len.result - c.len-before.result ≡ length c.walk.new.items - length c.args.items.now = rw (c.len.ensures, c.len-before.ensures) refl in
    rw c.pass_lines.ensures (adds_items c.args.rules _ _ _ _ _ _ c.in-Some.ensures.some w.within w.few (rw c.line_limit-limit.ensures at w.adds) count)
