use Rattle.std.proofs.Common.{sym, subst}
use Rattle.kc_insert.specs.private.Parts.{CanHearLess}
use Rattle.kc_insert.specs.Ranges.{Part}
use Rattle.kc_insert.proofs.sharing.hear_less_each.Goals as goal

pub for_each_mut-requires-clause-accepts : goal.for_each_mut-requires-clause-accepts
for_each_mut-requires-clause-accepts g c κs within = λ i p at is. subst (λ (q : Part). CanHearLess c.args.told.now i q) (sym is) (c.requires i p.now at)
