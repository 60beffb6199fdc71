use Rattle.graph_tests.proofs.tests.delete.batches_fall_as_by_recounting.Given as goal

abbrev pub ghosts-highest : goal.ghosts-highest
ghosts-highest g a = record { name = a.blank.name; parts = a.blank.parts }
