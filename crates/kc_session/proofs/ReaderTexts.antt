-- The lines of readers, as they are written one after another.
use Rattle.std.proofs.Common.{ℕ, suc, zero, ◌≡◌, ◌+◌, ◌<◌, List, [], ◌∷◌, ◌++◌, length, get_or, take, refl, ap, sym, ◌∙◌, arith, subst, append_assoc, append-nil}
use Rattle.std.specs.Prelude.{Option}
use Rattle.std.specs.Io.KnownBytes.{append_known}
use Rattle.std.proofs.lemmas.Bool.Decides.{nat_tests}
use Rattle.kc_text.specs.Writing.{IsPrefix}
use Rattle.kc_text.proofs.lemmas.Writing.{append_twice, prefix_longer, prefix_then}
use Rattle.kc_history.specs.declared.replies.Reply.{Reply}
use Rattle.kc_report.specs.Lines.{reader_line}
use Rattle.kc_session.specs.ReaderLines.{reader_lines}

lines_suc : (k : ℕ) (rs : List (List Reply)) (i : ℕ) (d : List Reply) → i < length rs → reader_lines k (take (suc i) rs) ≡ reader_lines k (take i rs) ++ reader_line (k + i) (get_or rs i d)
lines_suc k [] i d lt = absurd (omega (arith, lt))
lines_suc k (r ∷ rs) zero d lt = let e : k ≡ k + 0 = omega arith in append-nil (reader_line k r) ∙ ap (λ j. reader_line j r) e
lines_suc k (r ∷ rs) (suc i) d lt = grind (arith, nat_tests, lines_suc (k + 1) rs i d (omega (arith, lt)), append_assoc)

lines_more : (k : ℕ) (rs : List (List Reply)) (i : ℕ) (d : List Reply) → i < length rs → reader_lines k (take (i + 1) rs) ≡ reader_lines k (take i rs) ++ reader_line (k + i) (get_or rs i d)
lines_more k rs i d lt = let e : i + 1 ≡ suc i = omega arith in ap (λ j. reader_lines k (take j rs)) e ∙ lines_suc k rs i d lt

lines_begin : (k : ℕ) (rs : List (List Reply)) (i : ℕ) → (rest : List ℕ) × (reader_lines k rs ≡ reader_lines k (take i rs) ++ rest)
lines_begin k [] zero = ([], refl)
lines_begin k [] (suc i) = ([], refl)
lines_begin k (r ∷ rs) zero = (reader_lines k (r ∷ rs), refl)
lines_begin k (r ∷ rs) (suc i) = let h = lines_begin (k + 1) rs i in (h.0, ap (λ (t : List ℕ). reader_line k r ++ t) h.1 ∙ sym (append_assoc (reader_line k r) (reader_lines (k + 1) (take i rs)) h.0))

pub readers_more : (rs : List (List Reply)) (i : ℕ) (d x : List Reply) (before now later : Option (List ℕ)) → i < length rs → x ≡ get_or rs i d → now ≡ append_known before (reader_lines 0 (take i rs)) → later ≡ append_known now (reader_line i x)
    → later ≡ append_known before (reader_lines 0 (take (i + 1) rs))
readers_more rs i d x before now later lt is e f =
    let z : 0 + i ≡ i = omega arith in
    append_twice before now later (reader_lines 0 (take i rs)) (reader_line i (get_or rs i d)) e (f ∙ ap (λ (y : List Reply). append_known now (reader_line i y)) is)
    ∙ ap (λ (t : List ℕ). append_known before t) (ap (λ j. reader_lines 0 (take i rs) ++ reader_line j (get_or rs i d)) (sym z) ∙ sym (lines_more 0 rs i d lt))

pub readers_prefix : (rs : List (List Reply)) (i : ℕ) (d x : List Reply) (before now later : Option (List ℕ)) → i < length rs → x ≡ get_or rs i d → now ≡ append_known before (reader_lines 0 (take i rs)) → IsPrefix now later (reader_line i x) → IsPrefix before later (reader_lines 0 rs)
readers_prefix rs i d x before now later lt is e p =
    let z : 0 + i ≡ i = omega arith in
    let there = lines_begin 0 rs (i + 1) in
    let step : reader_lines 0 (take (i + 1) rs) ≡ reader_lines 0 (take i rs) ++ reader_line i (get_or rs i d) = lines_more 0 rs i d lt ∙ ap (λ j. reader_lines 0 (take i rs) ++ reader_line j (get_or rs i d)) z in
    let q : IsPrefix now later (reader_line i (get_or rs i d)) = subst (λ (y : List Reply). IsPrefix now later (reader_line i y)) is p in
    subst (λ (t : List ℕ). IsPrefix before later t) (sym there.1)
    (prefix_longer before later (reader_lines 0 (take (i + 1) rs)) there.0 (subst (λ (t : List ℕ). IsPrefix before later t) (sym step) (prefix_then before now later (reader_lines 0 (take i rs)) (reader_line i (get_or rs i d)) e q)))
