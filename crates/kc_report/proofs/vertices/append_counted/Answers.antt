use Rattle.std.proofs.Common.{ℕ, ◌≡◌, ◌<◌, ◌≤◌, ◌-◌, List, ◌∷◌, [], ◌++◌, ◌∙◌, length, drop, get_or, decimal, refl, arith, take_all, length-drop}
use Rattle.std.specs.Prelude.{codes}
use Rattle.std.proofs.lemmas.List.{get_or_default}
use Rattle.std.proofs.lemmas.Result.{on_ok_weaker}
use Rattle.kc_report.proofs.LineLemmas.{short, counted_filled}
use Rattle.kc_report.specs.VertexLines.{estimate_of}
use Rattle.kc_report.specs.private.LevelWords.{AreShort}
use Rattle.kc_report.proofs.vertices.append_counted.Goals as goal

words_are : (words : List (List ℕ)) (level : ℕ) (bytes item : List ℕ) → bytes ≡ item → item ≡ get_or words level item → level < length words → bytes ≡ get_or words level []
words_are words level bytes item e is h = e ∙ is ∙ get_or_default words level item [] h

few : (words : List (List ℕ)) (level : ℕ) (bytes item : List ℕ) → bytes ≡ item → item ≡ get_or words level item → level < length words → AreShort words → length bytes ≤ 62
few words level bytes item e is h s = rw (words_are words level bytes item e is h) (s level h)

pub write_digits-up-requires : goal.write_digits-up-requires
write_digits-up-requires c = omega (arith, short c.from.result (omega arith))

pub write_bytes-level-requires : goal.write_bytes-level-requires
write_bytes-level-requires c = omega (arith, short c.from.result (omega arith), few _ _ _ _ c.as_bytes.ensures c.index-words-counts.is c.requires.level c.requires.short)

pub write_named-start-requires : goal.write_named-start-requires
write_named-start-requires c = omega (arith, short c.from.result (omega arith), few _ _ _ _ c.as_bytes.ensures c.index-words-counts.is c.requires.level c.requires.short)

pub returns : goal.returns
returns c p n w =
    let counts = c.args.counts in
    let s = c.write_named-start in
    let line : drop s.result s.new.line ≡ codes "vertex " ++ (decimal counts.v ++ (c.as_bytes.result.now ++ (decimal counts.up ++ (codes " down " ++ (decimal counts.down ++ 10 ∷ []))))) =
    rw (s.ensures.written, c.write_bytes-level.ensures.written, c.write_digits-up.ensures.written, c.from.ensures, c.write_named-down.ensures.written) refl in
    let all = take_all (106 - s.result) (drop s.result s.new.line) (omega (arith, length-drop s.result s.new.line)) in
    on_ok_weaker c.put.result
    (λ e. counted_filled counts.v counts.level counts.up counts.down (estimate_of p n counts.level) _ _ _ (words_are _ _ _ _ c.as_bytes.ensures c.index-words-counts.is c.requires.level ∙ w counts.level c.requires.level) (e ∙ rw (all, line) refl))
    c.put.ensures.ok
