use Rattle.std.proofs.Common.{◌≡◌, ◌<◌, ◌^◌, drop}
use Rattle.kc_text.proofs.Digits.{number_from}
use Rattle.kc_text.proofs.number.read_number.Given as goal

abbrev pub invariant-loop-digit : goal.invariant-loop-digit
invariant-loop-digit l = record {
  same : number_from 0 l.bytes ≡ number_from l.value (drop l.digit-index l.bytes);
  small : l.value < 2 ^ 32;
}
