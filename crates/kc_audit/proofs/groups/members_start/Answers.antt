use Rattle.std.proofs.Common.{◌<◌, arith, sym}
use Rattle.kc_audit.proofs.FlatLemmas.{start_first, start_after}
use Rattle.kc_audit.proofs.groups.members_start.Goals as goal

pub returns-then-i-eq0 : goal.returns-then-i-eq0
returns-then-i-eq0 c = sym (start_first 0 c.args.heads.now c.args.i c.if-i-eq0.true)

pub returns-else-i-eq0 : goal.returns-else-i-eq0
returns-else-i-eq0 c =
    let some : 0 < c.args.i = omega (arith, c.if-i-eq0.false) in
    sym (start_after 0 c.args.heads.now c.args.i _ some c.requires)
