use Rattle.std.proofs.Common.{rules}
use Rattle.kc_store.proofs.Joins.{glues_from, tells_from, glued_writer}
use Rattle.kc_store.proofs.writer.Writer.take_in.Goals as goal

pub join_seat-requires : goal.join_seat-requires
join_seat-requires c = (search rules, search rules, search rules, search rules, glues_from _ _ _ _ _ c.self.invariant.me_is c.pass.invariant.me_is)

pub load-requires : goal.load-requires
load-requires c = (search rules, search rules, tells_from _ c.store.inside.n _ _ _ c.store.invariant.0 (glued_writer _ _ _ c.self.invariant.me_is c.pass.invariant.me_is c.join_seat.ensures.2).0)
