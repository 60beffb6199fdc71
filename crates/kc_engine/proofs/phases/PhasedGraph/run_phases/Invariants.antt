use Rattle.kc_engine.proofs.phases.PhasedGraph.run_phases.Given as goal

abbrev pub ghosts-deletion_phase : goal.ghosts-deletion_phase
ghosts-deletion_phase g a = record { name = a.blank.name; parts = a.blank.parts }

abbrev pub ghosts-insertion_phase : goal.ghosts-insertion_phase
ghosts-insertion_phase g a = record { name = a.blank.name; parts = a.blank.parts }
