use Rattle.std.proofs.Common.{rules}
use Rattle.kc_store.proofs.Joins.{lends_from}
use Rattle.kc_store.proofs.writer.Writer.lend_as.Goals as goal

pub split_seat-requires : goal.split_seat-requires
split_seat-requires g c = (search rules, search rules, lends_from _ _ _ _ _ _ _ _ _ c.requires.range.0 c.requires.range.1 c.requires.range.2 c.self.invariant.me_is)
