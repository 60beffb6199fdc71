use Rattle.std.proofs.Common.{◌∙◌, sym}
use Rattle.kc_text.specs.Reading.{onto}
use Rattle.kc_batch.proofs.lemmas.Inputs.{step_on}
use Rattle.kserve.specs.declared.head.Head.TheVariants as head
use Rattle.kserve.specs.Inputs.{input_from, after_magic, after_head}
use Rattle.kserve.proofs.Heads.{magic_there, magic_missing, vertices_there, vertices_missing}
use Rattle.kserve.proofs.head.read_head.Goals as goal

pub returns-then-not-is_magic-clause-head : goal.returns-then-not-is_magic-clause-head
returns-then-not-is_magic-clause-head g c =
    let first = c.in_ok-first.first in
    step_on input_from (after_head (head.Refused first.number)) (onto first) _ _ c.in_ok-first.ensures.line (magic_missing first (rw c.text_of.ensures at (sym c.is_magic.ensures ∙ c.if-not-is_magic.true)))

pub returns-in-Some-clause-head : goal.returns-in-Some-clause-head
returns-in-Some-clause-head g c =
    let first = c.in_ok-first.first in
    let second = c.in_ok-second.second in
    step_on input_from after_magic (onto first) _ _ c.in_ok-first.ensures.line (magic_there first (rw c.text_of.ensures at (sym c.is_magic.ensures ∙ c.if-not-is_magic.false)))
    ∙ step_on after_magic (after_head (head.Vertices c.in-Some.n)) (onto second) _ _ c.in_ok-second.ensures.line (vertices_there second c.in-Some.n (rw c.text_of-2.ensures at (sym c.vertices_in.ensures.value ∙ c.in-Some.is)))

pub returns-clause-head : goal.returns-clause-head
returns-clause-head g c =
    let first = c.in_ok-first.first in
    let second = c.in_ok-second.second in
    step_on input_from after_magic (onto first) _ _ c.in_ok-first.ensures.line (magic_there first (rw c.text_of.ensures at (sym c.is_magic.ensures ∙ c.if-not-is_magic.false)))
    ∙ step_on after_magic (after_head (head.Refused second.number)) (onto second) _ _ c.in_ok-second.ensures.line (vertices_missing second (rw c.text_of-2.ensures at (sym c.vertices_in.ensures.value ∙ c.in-None.is)))
