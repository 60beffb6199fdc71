use Rattle.graph_tests.proofs.tests.delete.check.Given as goal

abbrev pub ghosts-leave_alone : goal.ghosts-leave_alone
ghosts-leave_alone g a = record { name = a.blank.name; parts = a.blank.parts }
