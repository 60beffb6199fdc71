use Rattle.std.proofs.Common.{sym, ◌∙◌}
use Rattle.kc_delete.proofs.FallenLemmas.{noted_first}
use Rattle.kc_delete.proofs.fallen.Fallen.note.Goals as goal

pub returns-in_ok-push-clause-noted : goal.returns-in_ok-push-clause-noted
returns-in_ok-push-clause-noted c = λ y to s inside here under less.
    rw c.in_ok-push.ensures.items (noted_first c.args.self.now.before y c.args.self.now.vertices.items c.args.v c.args.from to s inside here under less (sym c.get.ensures ∙ c.if-get-from.true))
