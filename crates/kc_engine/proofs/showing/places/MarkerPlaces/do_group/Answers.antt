use Rattle.std.proofs.Common.{ap, sym, ◌∙◌}
use Rattle.kc_engine.specs.private.Shows.{ShowShape}
use Rattle.kc_engine.proofs.Loans.{may_do, done_tables, group_done}
use Rattle.kc_engine.proofs.showing.places.MarkerPlaces.do_group.Goals as goal

pub do_lent-requires-clause-may : goal.do_lent-requires-clause-may
do_lent-requires-clause-may g c κs within = may_do _ _ _ _ _ _ _ _ _ c.requires.table c.requires.plan c.requires.due c.lend_all.ensures.lent

pub give_back_all-requires-clause-markers : goal.give_back_all-requires-clause-markers
give_back_all-requires-clause-markers g c = done_tables _ _ _ _ _ _ _ _ _ (c.requires.table ∙ sym (ap (λ (s : ShowShape). s.table) c.show.view_is)) c.lend_all.ensures.lent c.do_lent.ensures.done

pub returns-clause-done : goal.returns-clause-done
returns-clause-done g c = group_done _ _ _ _ _ _ _ _ _ c.lend_all.ensures.lent c.do_lent.ensures.done c.give_back_all.ensures.returned
