-- The lines of the text of `orient` as they are composed.
use Rattle.std.proofs.Common.{ℕ, ◌+◌, ◌<◌, ◌≡◌, List, [], ◌∷◌, ◌++◌, length, get_or, take, map, ap, ◌∙◌, append_assoc}
use Rattle.std.specs.Prelude.{decimal, codes}
use Rattle.std.specs.List.{join_with_byte, flat_map}
use Rattle.kc_report.proofs.lemmas.Lines.{members_more, joined}
use Rattle.kcore.specs.OrientLines.{oriented_line}

-- one more vertex was appended
pub vertex_at : (xs : List ℕ) (i : ℕ) (d w : ℕ) (old buffer more : List ℕ) → i < length xs → w ≡ get_or xs i d → buffer ≡ old ++ flat_map (λ (k : ℕ). 32 ∷ decimal k) (take i xs) → more ≡ (buffer ++ codes " ") ++ decimal w
    → more ≡ old ++ flat_map (λ (k : ℕ). 32 ∷ decimal k) (take (i + 1) xs)
vertex_at xs i d w old buffer more h is e em =
    members_more (λ (k : ℕ). 32 ∷ decimal k) xs i d old buffer more h e (em ∙ append_assoc buffer (codes " ") (decimal w) ∙ ap (λ (k : ℕ). buffer ++ 32 ∷ decimal k) is)

regrouped : (p v b c o m s e : List ℕ) → ((((((p ++ s) ++ v) ++ ((s ++ b) ++ s)) ++ c) ++ (s ++ o)) ++ m) ++ e ≡ (p ++ (s ++ (v ++ (s ++ (b ++ (s ++ (c ++ (s ++ (o ++ m))))))))) ++ e
regrouped p v b c o m s e = simp append_assoc

parts : (v colour : ℕ) (outs words old a b c d : List ℕ) → old ≡ [] → a ≡ (old ++ codes "vertex ") ++ decimal v → b ≡ (a ++ codes " colour ") ++ decimal colour → c ≡ b ++ codes " out" → d ≡ c ++ outs → words ≡ codes "out" ++ outs
    → d ++ 10 ∷ [] ≡ (codes "vertex" ++ 32 ∷ (decimal v ++ 32 ∷ (codes "colour" ++ 32 ∷ (decimal colour ++ 32 ∷ words)))) ++ 10 ∷ []
parts v colour outs words old a b c d z ea eb ec ed ew = rw (ed, ec, eb, ea, z, ew) (regrouped (codes "vertex") (decimal v) (codes "colour") (decimal colour) (codes "out") outs (32 ∷ []) (10 ∷ []))

pub oriented_filled : (v colour : ℕ) (out old a b c d : List ℕ) → old ≡ [] → a ≡ (old ++ codes "vertex ") ++ decimal v → b ≡ (a ++ codes " colour ") ++ decimal colour → c ≡ b ++ codes " out" → d ≡ c ++ flat_map (λ (w : ℕ). 32 ∷ decimal w) out
    → d ++ 10 ∷ [] ≡ oriented_line v colour out
oriented_filled v colour out old a b c d z ea eb ec ed =
    parts v colour (flat_map (λ (w : ℕ). 32 ∷ decimal w) out) (join_with_byte 32 (codes "out" ∷ map decimal out)) old a b c d z ea eb ec ed (joined (codes "out") decimal out)
