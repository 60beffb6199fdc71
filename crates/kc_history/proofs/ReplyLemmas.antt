-- Replies that a history explains.
use Rattle.std.proofs.Common.{ℕ, suc, zero, ◌≡◌, List, [], ◌∷◌, ◌++◌, length, get_or, replicate, refl, ap, ◌∙◌, arith, length-append}
use Rattle.kc_history.specs.declared.entries.Entry.{Entry}
use Rattle.kc_history.proofs.PointLemmas.{points_stay}
use Rattle.kc_history.specs.declared.replies.Reply.{Reply}
use Rattle.kc_history.specs.Replies.{IsLevelAt, AreExplained, vertices_of, zeros}
use Rattle.kc_history.specs.Laws.{LongerExplains, EarlierExplains, EndExplainsMore, StartExplainsZeros}

pub level_longer : (n : ℕ) (history more : List Entry) (p : ℕ) (r : Reply) → IsLevelAt n history p r → IsLevelAt n (history ++ more) p r
level_longer n history more p r is = record {
  inside = omega (arith, is.inside, length-append history more);
  level = ap (λ (x : List ℕ). get_or x r.vertex 0) (points_stay.levels n history more p is.inside) ∙ is.level;
}

pub longer_explains : LongerExplains
longer_explains n history more from [] h = tt
longer_explains n history more from (r ∷ rs) h = (h.0, (h.1.0, (level_longer n history more h.0 r h.1.1.0, longer_explains n history more h.0 rs h.1.1.1)))

pub earlier_explains : EarlierExplains
earlier_explains n history early late [] le h = tt
earlier_explains n history early late (r ∷ rs) le h = (h.0, (omega (arith, le, h.1.0), (h.1.1.0, h.1.1.1)))

pub end_explains_more : EndExplainsMore
end_explains_more n history from [] r le h at = (length history, (le, (at, tt)))
end_explains_more n history from (x ∷ xs) r le h at = (h.0, (h.1.0, (h.1.1.0, end_explains_more n history h.0 xs r h.1.1.0.inside h.1.1.1 at)))

none_above : (n v : ℕ) → get_or {A = ℕ} (replicate {A = ℕ} n 0) v 0 ≡ 0
none_above zero v = refl
none_above (suc n) zero = refl
none_above (suc n) (suc v) = none_above n v

zeros_explained : (n : ℕ) (history : List Entry) (vs : List ℕ) → AreExplained n history 0 (zeros vs)
zeros_explained n history [] = tt
zeros_explained n history (v ∷ vs) = (0, (omega arith, (record { inside = omega arith; level = none_above n v }, zeros_explained n history vs)))

zeros_vertices : (vs : List ℕ) → vertices_of (zeros vs) ≡ vs
zeros_vertices [] = refl
zeros_vertices (v ∷ vs) = ap (λ (ws : List ℕ). v ∷ ws) (zeros_vertices vs)

pub start_explains_zeros : StartExplainsZeros
start_explains_zeros = record { explained = zeros_explained; vertices = zeros_vertices }
