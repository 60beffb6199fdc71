use Rattle.graph_tests.proofs.tests.adj.counts_and_desired_levels.Given as goal

abbrev pub ghosts-check_changes : goal.ghosts-check_changes
ghosts-check_changes g a = record { name = a.blank.name; parts = a.blank.parts }
