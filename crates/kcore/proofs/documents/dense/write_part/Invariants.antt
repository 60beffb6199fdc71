use Rattle.std.proofs.Common.{◌≡◌, ◌++◌, length, take}
use Rattle.std.specs.List.{flat_map}
use Rattle.std.specs.Io.KnownBytes.{append_known}
use Rattle.kcore.specs.DenseLines.{size_line, member_line}
use Rattle.kcore.proofs.documents.dense.write_part.Given as goal

abbrev pub invariant-loop-v : goal.invariant-loop-v
invariant-loop-v g l = record {
  taken : g.K.Sink.taken l.sink ≡ append_known (g.K.Sink.taken l.fn.sink) (size_line (length l.members) l.part.edges ++ flat_map member_line (take l.v-index l.members));
  faults : g.K.Sink.faults l.sink ≡ g.K.Sink.faults l.fn.sink;
}
