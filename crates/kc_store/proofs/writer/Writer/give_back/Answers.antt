use Rattle.std.proofs.Common.{rules}
use Rattle.kc_store.proofs.Joins.{gives_from}
use Rattle.kc_store.proofs.writer.Writer.give_back.Goals as goal

pub join_seat-requires : goal.join_seat-requires
join_seat-requires c = (search rules, search rules, search rules, search rules, gives_from _ _ _ _ _ c.self.invariant.me_is c.marker.invariant.0.me_is)
