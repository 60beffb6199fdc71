use Rattle.graph_tests.proofs.tests.adj.lifted_together_as_one_by_one.Given as goal

abbrev pub ghosts-check_lifted : goal.ghosts-check_lifted
ghosts-check_lifted g a = record { name = a.blank.name; parts = a.blank.parts }
