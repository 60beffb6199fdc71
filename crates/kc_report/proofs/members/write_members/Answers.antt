use Rattle.std.proofs.Common.{refl, arith, length, drop_of_length-le}
use Rattle.kc_report.proofs.members.write_members.Goals as goal

pub loop-left-init : goal.loop-left-init
loop-left-init c = record {
  room = omega arith;
  within = omega arith;
  few = omega arith;
  written = rw (drop_of_length-le c.args.words.now {i = 176} (omega arith), drop_of_length-le c.args.moves.now {i = length c.args.moves.now} (omega arith)) refl;
}
