use Rattle.std.proofs.Common.{◌∙◌, sym, ap}
use Rattle.kc_graph.specs.private.Numbers.{without}
use Rattle.kc_graph.proofs.SearchLemmas.{removed, without_not_found}
use Rattle.kc_graph.proofs.rows.Row.remove.Goals as goal

pub invariant_of-self : goal.invariant_of-self
invariant_of-self c =
    (removed _ _ _ _ c.self.invariant (rw c.as_slice.ensures at c.in-Ok.ensures) c.remove.ensures.items).1

pub returns-in-Ok-clause-value : goal.returns-in-Ok-clause-value
returns-in-Ok-clause-value c =
    (removed _ _ _ _ c.self.invariant (rw c.as_slice.ensures at c.in-Ok.ensures) c.remove.ensures.items).0
    ∙ ap (without c.args.x) c.self.view_is

pub returns-in_default-clause-value : goal.returns-in_default-clause-value
returns-in_default-clause-value c =
    sym (without_not_found _ c.args.x _ (rw (c.as_slice.ensures, c.self.view_is) at c.in_default.ensures))

pub returns-in-Ok-clause-rises : goal.returns-in-Ok-clause-rises
returns-in-Ok-clause-rises c =
    (removed _ _ _ _ c.self.invariant (rw c.as_slice.ensures at c.in-Ok.ensures) c.remove.ensures.items).1
