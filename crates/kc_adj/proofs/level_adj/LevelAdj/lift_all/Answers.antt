use Rattle.kc_adj.proofs.LiftLemmas.{lifted}
use Rattle.kc_adj.proofs.level_adj.LevelAdj.lift_all.Goals as goal

pub lift_counts-requires-clause-vertices : goal.lift_counts-requires-clause-vertices
lift_counts-requires-clause-vertices g c = rw c.new-lift.ensures (lifted _ _ (rw (← c.self.view_is) at c.requires.vertices) (rw (← c.self.view_is) at c.requires.moved) c.requires.once)
