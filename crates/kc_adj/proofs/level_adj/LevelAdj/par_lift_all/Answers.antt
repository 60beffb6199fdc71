use Rattle.kc_adj.proofs.LiftLemmas.{lifted}
use Rattle.kc_adj.proofs.level_adj.LevelAdj.par_lift_all.Goals as goal

pub par_lift_counts-requires-clause-vertices : goal.par_lift_counts-requires-clause-vertices
par_lift_counts-requires-clause-vertices g c κs within = rw c.new-lift.ensures (lifted _ _ (rw (← c.self.view_is) at c.requires.vertices) (rw (← c.self.view_is) at c.requires.moved) c.requires.once)
