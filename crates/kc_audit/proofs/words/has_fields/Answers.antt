use Rattle.std.proofs.Common.{sym, ◌∙◌}
use Rattle.kc_audit.proofs.WordLemmas.{field_missing, field_other, field_no_number, field_there, fields_end}
use Rattle.kc_audit.proofs.words.has_fields.Goals as goal

pub returns-in_default-next_word : goal.returns-in_default-next_word
returns-in_default-next_word c = sym (c.loop-name_start.invariant.same ∙ field_missing _ _ _ _ c.in-Some.ensures.word.words c.in_default-next_word.ensures.none)

pub returns-then-not-is_named : goal.returns-then-not-is_named
returns-then-not-is_named c = sym (c.loop-name_start.invariant.same ∙ field_other _ _ _ _ _ _ c.in-Some.ensures.word.words c.in-Some-next_word.ensures.word.words (sym c.is_named.ensures ∙ c.if-not-is_named.true))

pub returns-in_default-number_at : goal.returns-in_default-number_at
returns-in_default-number_at c =
    sym (c.loop-name_start.invariant.same ∙ field_no_number _ _ _ _ _ _ c.in-Some.ensures.word.words c.in-Some-next_word.ensures.word.words c.in_default-number_at.ensures.number)

pub loop-name_start-preserved : goal.loop-name_start-preserved
loop-name_start-preserved c = record {
  same = c.loop-name_start.invariant.same ∙ field_there _ _ _ _ _ _ _ _ c.in-Some.ensures.word.words c.in-Some-next_word.ensures.word.words (sym c.is_named.ensures ∙ c.if-not-is_named.false) c.in-Some-number_at.ensures.number;
  within = c.in-Some-number_at.ensures.within;
  names_within = c.in-Some.ensures.word.within;
}

pub returns : goal.returns
returns c = c.is_at_end.ensures ∙ sym (c.loop-name_start.invariant.same ∙ fields_end _ _ c.in_default.ensures.none)
