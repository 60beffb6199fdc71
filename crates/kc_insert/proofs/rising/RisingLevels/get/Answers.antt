use Rattle.std.proofs.Common.{sym, ◌∙◌}
use Rattle.kc_insert.proofs.Seen.{length-seen, seen_high, seen_low}
use Rattle.kc_insert.proofs.rising.RisingLevels.get.Goals as goal

pub get-level-requires : goal.get-level-requires
get-level-requires c = rw (length-seen c.args.self.now) at c.requires

pub returns-then-level : goal.returns-then-level
returns-then-level c = sym (seen_high c.args.self.now c.args.v c.requires (sym c.get-level.ensures ∙ c.if-level.true))

pub returns-else-level : goal.returns-else-level
returns-else-level c = c.get-level.ensures ∙ sym (seen_low c.args.self.now c.args.v c.requires (λ high_. c.if-level.false (c.get-level.ensures ∙ high_)))
