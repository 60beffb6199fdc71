use Rattle.std.proofs.Common.{◌≡◌, ◌++◌, length, refl, sym, arith, rules, length-append}
use Rattle.kc_audit.proofs.FlatLemmas.{lines_push, end_push}
use Rattle.kc_audit.proofs.groups.GroupLines.push_members.Goals as goal

pub invariant_of-self-2 : goal.invariant_of-self-2
invariant_of-self-2 c =
    let ms = c.self.inside.members.items in
    let new = c.args.members.now in
    let len : c.len.result ≡ length ms = search rules in
    rw (c.in_ok-push.ensures.items, c.reserve.ensures.items, c.in_ok-extend_from_slice.ensures.items, len)
    (end_push 0 c.self.inside.heads.items (length ms) _ (length (ms ++ new)) c.self.invariant (omega arith) (sym (length-append ms new)))

pub returns-clause-ok : goal.returns-clause-ok
returns-clause-ok c =
    let ms = c.self.inside.members.items in
    let len : c.len.result ≡ length ms = search rules in
    rw (← c.self.view_is, c.in_ok-push.ensures.items, c.reserve.ensures.items, c.in_ok-extend_from_slice.ensures.items, len)
    (lines_push 0 c.self.inside.heads.items ms _ c.args.members.now c.self.invariant refl)
