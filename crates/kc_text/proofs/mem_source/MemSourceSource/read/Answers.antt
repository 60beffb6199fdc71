use Rattle.std.proofs.Common.{◌≤◌, ◌∙◌, sym, ap, arith, length, drop}
use Rattle.std.specs.Prelude.{Some}
use Rattle.std.proofs.lemmas.List.{take_rest}
use Rattle.kc_text.proofs.Ranges.{piece_given}
use Rattle.kc_text.proofs.mem_source.MemSourceSource.read.Goals as goal

pub returns-clause-given : goal.returns-clause-given
returns-clause-given c =
    let after = rw (c.deref-2.ensures.value, take_rest) at c.copy_from_slice.ensures.after in
    let k = rw (c.deref-2.ensures.value, take_rest) at c.min-count.ensures in
    let h : c.min-count.result ≤ length (drop c.self.inside.at c.self.inside.bytes.items) = omega (arith, k) in
    ap Some (sym (ap (λ r. r.left) c.self.view_is) ∙ piece_given c.self.inside.bytes.items c.args.buf.now c.copy_from_slice.new.self c.self.inside.at c.min-count.result after h)
