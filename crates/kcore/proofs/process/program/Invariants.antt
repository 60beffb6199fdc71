-- The reader and the writer tell the bytes that are known by std's contracts.
use Rattle.std.specs.Prelude.{is_some}
use Rattle.std.specs.Io.Buffered.{writer_contents}
use Rattle.kcore.proofs.process.program.Given as goal

abbrev pub ghosts-told-J-Told : goal.ghosts-told-J-Told
ghosts-told-J-Told g a = record { told = is_some (g.R.Read.remaining a.reader) }

abbrev pub ghosts-told-K-Told : goal.ghosts-told-K-Told
ghosts-told-K-Told g a = record { told = is_some (writer_contents g.W.Write.contents a.writer) }
