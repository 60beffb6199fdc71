use Rattle.graph_tests.proofs.tests.insert.come_in_cut.Given as goal

abbrev pub ghosts-come_in_counted : goal.ghosts-come_in_counted
ghosts-come_in_counted g a = record { name = a.blank.name; parts = a.blank.parts }
