use Rattle.std.proofs.Common.{◌<◌, List, length, ap, arith, rules}
use Rattle.kc_audit.specs.declared.flat.Head.{Head}
use Rattle.kc_audit.specs.declared.groups.GroupLine.{GroupLine}
use Rattle.kc_audit.proofs.FlatLemmas.{length-lines, line_at}
use Rattle.kc_audit.proofs.groups.GroupLines.phase.Goals as goal

pub index-requires : goal.index-requires
index-requires c =
    let within : c.args.i < length c.self.inside.heads.items =
    omega (arith, length-lines 0 c.self.inside.heads.items c.self.inside.members.items, ap (λ (ls : List GroupLine). length ls) c.self.view_is) in
    search rules

pub returns : goal.returns
returns c =
    let hs = c.self.inside.heads.items in
    let within : c.args.i < length hs = omega (arith, length-lines 0 hs c.self.inside.members.items, ap (λ (ls : List GroupLine). length ls) c.self.view_is) in
    rw (← c.self.view_is, line_at 0 hs c.self.inside.members.items c.args.i c.index.result.now within) (ap (λ (h : Head). h.phase) c.index.ensures)
