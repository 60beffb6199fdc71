use Rattle.std.proofs.Common.{◌<◌, ◌≤◌, length, rules}
use Rattle.kc_delete.proofs.WaitingLemmas.{filed_reached, filed_more}
use Rattle.kc_delete.proofs.waiting.Waiting.add.Goals as goal

pub invariant_of-self-2 : goal.invariant_of-self-2
invariant_of-self-2 c =
    let reached = filed_reached _ c.self.inside.filed c.reach.new.self _ _ c.self.invariant c.in_ok-reach.ensures.longer c.in_ok-reach.ensures.same in
    let under_first : c.min-self-inside.result ≤ c.self.inside.first = search rules in
    let under_level : c.min-self-inside.result ≤ c.args.level = search rules in
    let vertex : c.args.v < length c.self.inside.marks.items = search rules in
    rw c.in_ok-file.ensures.ok
    (filed_more c.self.inside.first c.min-self-inside.result c.args.level c.args.v c.reach.new.self _ c.self.inside.marks.items reached under_first under_level c.in_ok-reach.ensures.enough vertex)
