use Rattle.std.proofs.Common.{◌<◌, List, length, ap, arith, rules}
use Rattle.kc_audit.specs.declared.groups.GroupLine.{GroupLine}
use Rattle.kc_audit.proofs.FlatLemmas.{length-lines, line_at, lies_inside}
use Rattle.kc_audit.proofs.groups.GroupLines.members.Goals as goal

pub members_start-start-requires : goal.members_start-start-requires
members_start-start-requires c =
    let within : c.args.i < length c.self.inside.heads.items =
    omega (arith, length-lines 0 c.self.inside.heads.items c.self.inside.members.items, ap (λ (ls : List GroupLine). length ls) c.self.view_is) in
    search rules

pub index-requires : goal.index-requires
index-requires c =
    let within : c.args.i < length c.self.inside.heads.items =
    omega (arith, length-lines 0 c.self.inside.heads.items c.self.inside.members.items, ap (λ (ls : List GroupLine). length ls) c.self.view_is) in
    search rules

pub part_of-requires : goal.part_of-requires
part_of-requires c =
    let hs = c.self.inside.heads.items in
    let within : c.args.i < length hs = omega (arith, length-lines 0 hs c.self.inside.members.items, ap (λ (ls : List GroupLine). length ls) c.self.view_is) in
    let lies = rw (← c.index.ensures) at (lies_inside 0 hs (length c.self.inside.members.items) c.args.i c.index.result.now c.self.invariant within) in
    record { rising = rw (c.members_start-start.ensures, c.deref.ensures.value) lies.rising; within = rw c.deref-2.ensures.value lies.within }

pub returns : goal.returns
returns c =
    let hs = c.self.inside.heads.items in
    let ms = c.self.inside.members.items in
    let within : c.args.i < length hs = omega (arith, length-lines 0 hs ms, ap (λ (ls : List GroupLine). length ls) c.self.view_is) in
    rw (← c.self.view_is, line_at 0 hs ms c.args.i c.index.result.now within, c.part_of.ensures, c.members_start-start.ensures, c.deref.ensures.value, c.deref-2.ensures.value, ← c.index.ensures)
