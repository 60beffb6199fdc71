use Rattle.std.proofs.Common.{rules}
use Rattle.kc_store.proofs.Joins.{cuts_from}
use Rattle.kc_store.proofs.writer.Writer.pass.Goals as goal

pub split_seat-requires : goal.split_seat-requires
split_seat-requires c = (search rules, search rules, cuts_from _ _ _ c.self.invariant.me_is)
