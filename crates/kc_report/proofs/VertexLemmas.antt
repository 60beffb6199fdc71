-- The lines of the vertices, as they are written one after another.
use Rattle.std.proofs.Common.{ℕ, zero, suc, ◌≡◌, ◌≤◌, ◌<◌, ◌+◌, List, [], ◌++◌, refl, sym, ap, ◌∙◌, append_assoc, arith, inl, inr, add-one}
use Rattle.std.proofs.lemmas.Bool.{cases_lt}
use Rattle.std.proofs.lemmas.List.{append-nil}
use Rattle.std.specs.Io.KnownBytes.{append_known}
use Rattle.std.specs.Prelude.{Option, Result, Ok, Err, IsOk, IfOk, MatchResult}
use Rattle.std.proofs.lemmas.Bool.Decides.{nat_tests}
use Rattle.kc_text.specs.Writing.{IsPrefix, Appends}
use Rattle.kc_text.specs.declared.buf.SendFault.{SendFault}
use Rattle.kc_text.proofs.lemmas.Writing.{append_none, append_twice, prefix_longer, prefix_then}
use Rattle.kc_report.specs.VertexLines.{vertex_lines}
use Rattle.kc_report.specs.private.HeldBack.{IsHeldBack}
use Rattle.kc_report.specs.private.Tails.{AreLinesOf}

-- the lines of the vertices below n begin with those below v
lines_begin : (line : ℕ → List ℕ) (v n : ℕ) → v ≤ n → (rest : List ℕ) × (vertex_lines line n ≡ vertex_lines line v ++ rest)
unfolding vertex_lines
lines_begin line v zero h = let e : v ≡ 0 = omega arith in ([], rw e refl)
lines_begin line v (suc n) h = elim (cases_lt n v) [
  | inl lt ↦ let e : v ≡ suc n = omega arith in ([], rw e (sym (append-nil _)))
  | inr ge ↦
      let there = lines_begin line v n ge in
      (there.0 ++ line n, rw there.1 (append_assoc (vertex_lines line v) there.0 _))
]

pub lines_more : (line : ℕ → List ℕ) (before now later : Option (List ℕ)) (v : ℕ) → now ≡ append_known before (vertex_lines line v) → later ≡ append_known now (line v) → later ≡ append_known before (vertex_lines line (v + 1))
unfolding vertex_lines
lines_more line before now later v e f = rw add-one (append_twice before now later _ _ e f)

-- some lines were written, and a prefix of the next
pub lines_prefix : (line : ℕ → List ℕ) (before now later : Option (List ℕ)) (v n : ℕ) → v < n → now ≡ append_known before (vertex_lines line v) → IsPrefix now later (line v) → IsPrefix before later (vertex_lines line n)
unfolding vertex_lines
lines_prefix line before now later v n h e f =
    let there = lines_begin line (suc v) n (omega arith) in
    rw there.1 (prefix_longer before later (vertex_lines line v ++ line v) there.0 (prefix_then before now later _ _ e f))

-- nothing was written, and nothing is held back
pub held_none : (line : ℕ → List ℕ) (before : Option (List ℕ)) (buf : List ℕ) → buf ≡ [] → IsHeldBack before before (vertex_lines line 0) buf
unfolding vertex_lines
held_none line before buf e = record { said = []; all = sym e; taken = append_none before }

-- one more line is held back
pub held_more : (line : ℕ → List ℕ) (before now : Option (List ℕ)) (v : ℕ) (old new : List ℕ) → IsHeldBack before now (vertex_lines line v) old → new ≡ old ++ line v → IsHeldBack before now (vertex_lines line (v + 1)) new
unfolding vertex_lines
held_more line before now v old new a e = grind (arith, nat_tests, add-one, append_assoc, a.said, a.all, a.taken)

-- what was held back was written too
pub held_sent : (before now later : Option (List ℕ)) (text held : List ℕ) → IsHeldBack before now text held → later ≡ append_known now held → later ≡ append_known before text
held_sent before now later text held a e = append_twice before now later a.said held a.taken e ∙ ap (λ (said : List ℕ). append_known before said) (sym a.all)

-- what was held back was written too, and nothing more is held back
pub held_emptied : (before now later : Option (List ℕ)) (text held new : List ℕ) → IsHeldBack before now text held → later ≡ append_known now held → new ≡ [] → IsHeldBack before later text new
held_emptied before now later text held new a e none = record { said = text; all = rw none (sym (append-nil text)); taken = held_sent before now later text held a e }

-- a prefix of what was held back was written
pub held_then : (before now later : Option (List ℕ)) (text held : List ℕ) → IsHeldBack before now text held → IsPrefix now later held → IsPrefix before later text
held_then before now later text held a b = record {
  said = a.said ++ b.said;
  rest = b.rest;
  all = a.all ∙ ap (λ (rest : List ℕ). a.said ++ rest) b.all ∙ sym (append_assoc a.said b.said b.rest);
  taken = append_twice before now later a.said b.said a.taken b.taken;
}

-- what was held back was written, so far as it was
pub appends_held : {T : Type 0} → (before now later : Option (List ℕ)) (text held : List ℕ) (result : Result T SendFault) → IsHeldBack before now text held → Appends now later held result → Appends before later text result
appends_held before now later text held (Ok x) a s = held_sent before now later text held a s
appends_held before now later text held (Err f) a s = held_then before now later text held a s

-- some lines were written or held back, and a prefix of what was held back was written
pub held_prefix : (line : ℕ → List ℕ) (before now later : Option (List ℕ)) (v n : ℕ) (held : List ℕ) → v ≤ n → IsHeldBack before now (vertex_lines line v) held → IsPrefix now later held → IsPrefix before later (vertex_lines line n)
held_prefix line before now later v n held h a b =
    let there = lines_begin line v n h in
    rw there.1 (prefix_longer before later (vertex_lines line v) there.0 (held_then before now later (vertex_lines line v) held a b))

-- nothing was written yet
pub no_lines : (line : ℕ → List ℕ) (before : Option (List ℕ)) (k : ℕ) → k ≡ 0 → before ≡ append_known before (vertex_lines line k)
unfolding vertex_lines
no_lines line before k e = rw e (append_none before)

-- some lines were written
pub some_lines : (line : ℕ → List ℕ) (before now : Option (List ℕ)) (v n : ℕ) → v ≤ n → now ≡ append_known before (vertex_lines line v) → IsPrefix before now (vertex_lines line n)
some_lines line before now v n h e =
    let there = lines_begin line v n h in
    record { said = vertex_lines line v; rest = there.0; all = there.1; taken = e }

-- one more line was put together
pub piece_line : (line : ℕ → List ℕ) (first v : ℕ) (text new : List ℕ) → AreLinesOf line first v text → new ≡ text ++ line v → AreLinesOf line first (v + 1) new
unfolding vertex_lines
piece_line line first v text new are e = rw (add-one, e) (ap (λ (t : List ℕ). t ++ line v) are ∙ append_assoc (vertex_lines line first) text (line v))

-- after some lines those of a piece were written
pub piece_more : (line : ℕ → List ℕ) (before now later : Option (List ℕ)) (first end : ℕ) (text : List ℕ) → now ≡ append_known before (vertex_lines line first) → AreLinesOf line first end text → later ≡ append_known now text
    → later ≡ append_known before (vertex_lines line end)
piece_more line before now later first end text e are f = rw are (append_twice before now later (vertex_lines line first) text e f)

-- after some lines a prefix of those of a piece was written
piece_part : (line : ℕ → List ℕ) (before now later : Option (List ℕ)) (first end n : ℕ) (text : List ℕ) → end ≤ n → now ≡ append_known before (vertex_lines line first) → AreLinesOf line first end text → IsPrefix now later text
    → IsPrefix before later (vertex_lines line n)
piece_part line before now later first end n text h e are f =
    let there = lines_begin line end n h in
    rw (there.1, are) (prefix_longer before later (vertex_lines line first ++ text) there.0 (prefix_then before now later (vertex_lines line first) text e f))

-- after some lines a piece was written in part, or there was no memory for it
pub piece_failed : {E : Type 0} (line : ℕ → List ℕ) (before now later : Option (List ℕ)) (first end n : ℕ) (text : Result (List ℕ) E) → first ≤ n → end ≤ n → now ≡ append_known before (vertex_lines line first) → IfOk text (AreLinesOf line first end)
    → MatchResult text (λ bytes. IsPrefix now later bytes) (λ _. later ≡ now) → IsPrefix before later (vertex_lines line n)
piece_failed line before now later first end n (Ok bytes) b h e are f = piece_part line before now later first end n bytes h e are f
piece_failed line before now later first end n (Err x) b h e are f = some_lines line before later first n b (f ∙ e)

-- after some lines a piece was written, for which there was memory
pub piece_written : {E : Type 0} (line : ℕ → List ℕ) (before now later : Option (List ℕ)) (first end : ℕ) (text : Result (List ℕ) E) → IsOk text → now ≡ append_known before (vertex_lines line first) → IfOk text (AreLinesOf line first end)
    → MatchResult text (λ bytes. later ≡ append_known now bytes) (λ _. later ≡ now) → later ≡ append_known before (vertex_lines line end)
piece_written line before now later first end (Ok bytes) made e are f = piece_more line before now later first end bytes e are f
piece_written line before now later first end (Err x) made e are f = absurd cc
