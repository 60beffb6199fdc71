use Rattle.std.proofs.Common.{◌≡◌, take}
use Rattle.kc_session.specs.Ended.{replies_in}
use Rattle.kc_session.proofs.ended.count_replies.Given as goal

abbrev pub invariant-loop-replies : goal.invariant-loop-replies
invariant-loop-replies l = l.count ≡ replies_in (take l.replies-index l.lists)
