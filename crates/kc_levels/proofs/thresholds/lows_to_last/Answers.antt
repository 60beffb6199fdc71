use Rattle.std.proofs.Common.{arith}
use Rattle.kc_levels.proofs.TableLemmas.{low_table-first, low_table-more, low_table-end}
use Rattle.kc_levels.proofs.thresholds.lows_to_last.Goals as goal

pub loop-profile-init : goal.loop-profile-init
loop-profile-init c =
    rw (c.in_ok-push-2.ensures.items, c.in_ok-push.ensures.items, c.new-lows.ensures.items) (low_table-first c.args.profile c.args.n)

pub loop-profile-preserved : goal.loop-profile-preserved
loop-profile-preserved c =
    rw c.in_ok-push-3.ensures.items
    (low_table-more c.args.profile c.args.n c.loop-profile.last _ c.loop-profile.lows.items c.loop-profile.invariant (omega arith) c.requires.small c.next_low-last.ensures)

pub returns-clause-sized : goal.returns-clause-sized
returns-clause-sized c = low_table-end c.args.profile c.args.n c.loop-profile.last c.loop-profile.lows.items c.loop-profile.invariant (omega arith)
