-- A history by its group lines.
use Rattle.std.proofs.Common.{ℕ, zero, suc, ◌≤◌, ◌≡◌, List, [], ◌∷◌, length, take, map, replicate, get_or, refl, ap, ◌∙◌, arith}
use Rattle.std.specs.Prelude.{All, Option, None}
use Rattle.std.proofs.lemmas.List.Elements.{All-head, All-tail}
use Rattle.std.proofs.lemmas.Bool.Decides.{nat_tests}
use Rattle.kc_levels.specs.declared.moves.Move.{Move}
use Rattle.kc_history.specs.declared.entries.Entry.{Entry}
use Rattle.kc_history.specs.declared.replies.Reply.{Reply}
use Rattle.kc_history.specs.Points.{with_moves, levels_after}
use Rattle.kc_history.specs.Replies.{IsLevelAt, AreExplained}
use Rattle.kc_audit.specs.declared.groups.GroupLine.{GroupLine}
use Rattle.kc_audit.specs.Runs.{moves_of, history_of}
use Rattle.kc_audit.specs.Laws.{member_of, line_before, lines_of, IsQuietUnlessLabelled, LinesExplain}
use Rattle.kc_audit.proofs.MoveLemmas.{length-history}

-- where point p of a history is in the history of its group lines
abbrev point_of : List Entry → ℕ → ℕ
point_of history p = length (lines_of (take p history))

moved_same : (x : List ℕ) (ms : List Move) → with_moves x (moves_of (map member_of ms)) ≡ with_moves x ms
moved_same x [] = refl
moved_same x (m ∷ ms) = moved_same _ ms

after_line : (x : List ℕ) (e : Entry) (label : Option ℕ) (rest : List GroupLine) → (label ≡ None → e.moves ≡ []) → levels_after x (history_of (line_before e label rest)) ≡ levels_after (with_moves x e.moves) (history_of rest)
after_line x e label rest quiet = grind (arith, nat_tests, moved_same)

after_lines : (x : List ℕ) (es : List Entry) → All IsQuietUnlessLabelled es → levels_after x (history_of (lines_of es)) ≡ levels_after x es
after_lines x [] q = refl
after_lines x (e ∷ es) q = after_line x e e.label (lines_of es) (All-head IsQuietUnlessLabelled e es q) ∙ after_lines (with_moves x e.moves) es (All-tail IsQuietUnlessLabelled e es q)

take_line : (e : Entry) (label : Option ℕ) (some all : List GroupLine) → take (length some) (history_of all) ≡ history_of some
    → take (length (line_before e label some)) (history_of (line_before e label all)) ≡ history_of (line_before e label some)
take_line e label some all h = grind (arith, nat_tests)

take_lines : (history : List Entry) (p : ℕ) → take (point_of history p) (history_of (lines_of history)) ≡ history_of (lines_of (take p history))
take_lines history zero = refl
take_lines [] (suc p) = refl
take_lines (e ∷ es) (suc p) = take_line e e.label (lines_of (take p es)) (lines_of es) (take_lines es p)

longer_line : (e : Entry) (label : Option ℕ) (some all : List GroupLine) → length some ≤ length all → length (line_before e label some) ≤ length (line_before e label all)
longer_line e label some all h = grind (arith, nat_tests)

points_rise : (history : List Entry) (p q : ℕ) → p ≤ q → point_of history p ≤ point_of history q
points_rise history zero q h = omega arith
points_rise history (suc p) zero h = absurd (omega (arith, h))
points_rise [] (suc p) (suc q) h = omega arith
points_rise (e ∷ es) (suc p) (suc q) h = longer_line e e.label (lines_of (take p es)) (lines_of (take q es)) (points_rise es p q (omega (arith, h)))

points_inside : (history : List Entry) (p : ℕ) → point_of history p ≤ length (lines_of history)
points_inside history zero = omega arith
points_inside [] (suc p) = omega arith
points_inside (e ∷ es) (suc p) = longer_line e e.label (lines_of (take p es)) (lines_of es) (points_inside es p)

level_by_lines : (n : ℕ) (history : List Entry) (p : ℕ) (r : Reply) → All IsQuietUnlessLabelled history → IsLevelAt n history p r → IsLevelAt n (history_of (lines_of history)) (point_of history p) r
level_by_lines n history p r q h = record {
  inside = omega (arith, points_inside history p, length-history (lines_of history));
  level =
      ap (λ (es : List Entry). get_or (levels_after (replicate n 0) es) r.vertex 0) (take_lines history p)
      ∙ (ap (λ (x : List ℕ). get_or x r.vertex 0) (after_lines (replicate n 0) (take p history) (Rattle.std.proofs.lemmas.List.Elements.All-take IsQuietUnlessLabelled p history q)) ∙ h.level);
}

by_lines : (n : ℕ) (history : List Entry) (from : ℕ) (rs : List Reply) → All IsQuietUnlessLabelled history → AreExplained n history from rs → AreExplained n (history_of (lines_of history)) (point_of history from) rs
by_lines n history from [] q h = tt
by_lines n history from (r ∷ rs) q h = (point_of history h.0, (points_rise history from h.0 h.1.0, (level_by_lines n history h.0 r q h.1.1.0, by_lines n history h.0 rs q h.1.1.1)))

pub lines_explain : LinesExplain
lines_explain n history rs q h = by_lines n history 0 rs q h
