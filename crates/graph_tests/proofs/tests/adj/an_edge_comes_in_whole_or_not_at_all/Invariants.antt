use Rattle.graph_tests.proofs.tests.adj.an_edge_comes_in_whole_or_not_at_all.Given as goal

abbrev pub ghosts-check_link : goal.ghosts-check_link
ghosts-check_link g a = record { name = a.blank.name; parts = a.blank.parts }
