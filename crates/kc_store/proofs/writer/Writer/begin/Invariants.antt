use Rattle.kc_store.proofs.writer.Writer.begin.Given as goal

abbrev pub ghosts-begin_as : goal.ghosts-begin_as
ghosts-begin_as a = record { plan = a.plan.now }
