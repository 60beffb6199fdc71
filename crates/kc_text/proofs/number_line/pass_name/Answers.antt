use Rattle.std.proofs.Common.{◌≡◌, ◌∙◌, length, take, sym, arith}
use Rattle.std.proofs.lemmas.Slice.Eq.{bytes_eq-Decides}
use Rattle.kc_text.proofs.NamedLines.{begins_named}
use Rattle.kc_text.proofs.number_line.pass_name.Goals as goal

pub returns-clause-begins : goal.returns-clause-begins
returns-clause-begins c =
    let name : take (length c.args.name.now) c.args.bytes.now ≡ c.args.name.now = sym ((bytes_eq-Decides c.args.name.now _).0 (sym c.starts_with.ensures.value ∙ c.if-not-starts_with.false)) in
    begins_named _ _ c.requires name (omega (arith, c.if-len-bytes.false, c.starts_with.ensures.bound)) (sym c.parts_words.ensures ∙ c.if-not-parts_words.false)
