use Rattle.kc_store.proofs.writer.Writer.lend.Given as goal

abbrev pub ghosts-lend_as : goal.ghosts-lend_as
ghosts-lend_as a = record { group = a.g; low = a.from; high = a.to }
