use Rattle.kc_insert.proofs.range.Range.let_stay.Goals as goal

pub stop_watched-requires-clause-inside : goal.stop_watched-requires-clause-inside
stop_watched-requires-clause-inside c = rw (← c.self.view_is) at c.requires.inside
