use Rattle.std.proofs.Common.{◌≡◌, ◌+◌, ◌-◌, arith, refl, length-set}
use Rattle.std.proofs.lemmas.List.{drop-set}
use Rattle.kc_report.proofs.LineLemmas.{short}
use Rattle.kc_report.proofs.pairs.write_pair.Goals as goal

pub write_digits-start-requires : goal.write_digits-start-requires
write_digits-start-requires c = omega (arith, short c.from.result (omega arith), short c.from-2.result (omega arith), length-set c.write_digits-middle.new.buf (c.write_digits-middle.result - 1) c.args.between)

pub returns-clause-written : goal.returns-clause-written
returns-clause-written c =
    let m = c.write_digits-middle in
    let s = c.write_digits-start in
    let between = short c.from.result (omega arith) in
    let before = short c.from-2.result (omega arith) in
    let long = length-set m.new.buf (m.result - 1) c.args.between in
    let to : m.result - 1 + 1 ≡ m.result = omega arith in
    let so : s.result - 1 + 1 ≡ s.result = omega arith in
    rw (drop-set s.new.buf (s.result - 1) 32 (omega arith), so, s.ensures.written, drop-set m.new.buf (m.result - 1) c.args.between (omega arith), to, m.ensures.written, c.from.ensures, c.from-2.ensures) refl
