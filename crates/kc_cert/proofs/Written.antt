-- A text that is written part by part.
use Rattle.std.proofs.Common.{ℕ, ◌≡◌, List, [], ◌++◌, refl, sym, ap, ◌∙◌, append_assoc, arith}
use Rattle.std.specs.Prelude.{Option, Result, Ok, Err}
use Rattle.std.specs.Io.KnownBytes.{append_known}
use Rattle.std.proofs.lemmas.List.{append-nil}
use Rattle.std.proofs.lemmas.Bool.Decides.{nat_tests}
use Rattle.kc_text.specs.declared.buf.SendFault.{SendFault}
use Rattle.kc_text.specs.Writing.{IsPrefix, Appends}
use Rattle.kc_text.proofs.lemmas.Writing.{append_none, append_twice, prefix_then, prefix_longer}

-- all of the text but this rest was taken
pub record Writes (before now : Option (List ℕ)) (text rest : List ℕ) : Type 0 where
  pub said : List ℕ
  pub taken : now ≡ append_known before said
  pub whole : text ≡ said ++ rest

pub writes_start : (before : Option (List ℕ)) (text : List ℕ) → Writes before before text text
writes_start before text = record { said = []; taken = append_none before; whole = refl }

-- the next part was taken
pub writes_on : (before now later : Option (List ℕ)) (text part rest rest' : List ℕ) → rest ≡ part ++ rest' → Writes before now text rest → later ≡ append_known now part → Writes before later text rest'
writes_on before now later text part rest rest' e w t = record {
  said = w.said ++ part;
  taken = append_twice before now later w.said part w.taken t;
  whole = w.whole ∙ ap (λ (xs : List ℕ). w.said ++ xs) e ∙ sym (append_assoc w.said part rest');
}

-- a prefix of the next part was taken
pub writes_fault : (before now later : Option (List ℕ)) (text part rest rest' : List ℕ) → rest ≡ part ++ rest' → Writes before now text rest → IsPrefix now later part → IsPrefix before later text
writes_fault before now later text part rest rest' e w p = grind (arith, nat_tests, prefix_then, prefix_longer, w.said, w.whole, w.taken)

-- nothing is left
pub writes_end : (before now : Option (List ℕ)) (text rest : List ℕ) → rest ≡ [] → Writes before now text rest → now ≡ append_known before text
writes_end before now text rest e w = grind (arith, nat_tests, append-nil, w.said, w.whole, w.taken)

-- the last part, as far as the result says
pub writes_last : {T : Type 0} → (before now later : Option (List ℕ)) (text part rest : List ℕ) (result : Result T SendFault) → rest ≡ part → Writes before now text rest → Appends now later part result → Appends before later text result
writes_last before now later text part rest (Ok x) e w a =
    writes_end before later text [] refl (writes_on before now later text part rest [] (e ∙ sym (append-nil part)) w a)
writes_last before now later text part rest (Err f) e w a =
    writes_fault before now later text part rest [] (e ∙ sym (append-nil part)) w a
