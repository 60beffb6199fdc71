-- The levels that a pass reads if it is split off at the end of the history and taken in there.
use Rattle.std.proofs.Common.{ℕ, suc, zero, ◌≡◌, ◌+◌, ◌<◌, List, [], ◌∷◌, ◌++◌, length, get_or, set, take, replicate, refl, ap, sym, ◌∙◌, arith, subst, append_assoc, append-nil, length-append}
use mathlib.Core.List.{IsPrefix}
use mathlib.Core.Logic.{dite}
use native.Mathlib.Decide.{ℕ_discrete}
use Rattle.std.proofs.lemmas.List.{get_or_append_left, nil_from_length, length-set}
use Rattle.std.proofs.lemmas.Grind.{same_number_lists}
use Rattle.std.proofs.Math.Seq.{get_or-append_seam}
use Rattle.kc_history.specs.declared.entries.Entry.{Entry}
use Rattle.kc_levels.specs.declared.moves.Move.{Move}
use Rattle.kc_history.specs.Points.{levels_at, levels_after, with_moves}
use Rattle.kc_store.specs.Seats.{PassShape}
use Rattle.kc_store.specs.States.{last_level}

-- a level that was read at some point between the end of the history and the end of what the pass has seen
pub record WasRead (n : ℕ) (history seen : List Entry) (v l : ℕ) : Type 0 where
  pub point : List Entry
  pub after : IsPrefix history point
  pub within : IsPrefix point seen
  pub level_is : last_level n point v ≡ l

-- the levels of the vertices below v were read
pub record IsReading (n : ℕ) (history : List Entry) (first : PassShape) (v : ℕ) (pass : PassShape) (levels : List ℕ) : Type 0 where
  pub same : pass ≡ record first { seen = pass.seen }
  pub later : IsPrefix history pass.seen
  pub long : length levels ≡ v
  pub each : (k d : ℕ) → k < v → WasRead n history pass.seen k (get_or levels k d)

prefix_on : (a b c : List Entry) → IsPrefix a b → IsPrefix b c → IsPrefix a c
prefix_on a b c p q = (p.0 ++ q.0, sym (append_assoc a p.0 q.0) ∙ (ap (λ (z : List Entry). z ++ q.0) p.1 ∙ q.1))

pub reading_more : (n : ℕ) (history : List Entry) (first : PassShape) (v l : ℕ) (pass next : PassShape) (levels more : List ℕ) → IsReading n history first v pass levels → next ≡ record pass { seen = next.seen } → IsPrefix pass.seen next.seen
    → last_level n next.seen v ≡ l → more ≡ levels ++ l ∷ [] → IsReading n history first (v + 1) next more
reading_more n history first v l pass next levels more h same p is e = subst (λ (xs : List ℕ). IsReading n history first (v + 1) next xs) (sym e) record {
  same = same ∙ ap (λ (s : PassShape). record s { seen = next.seen }) h.same;
  later = prefix_on history pass.seen next.seen h.later p;
  long = (let x = h.long in let y = length-append levels (l ∷ []) in omega (arith, x, y));
  each = λ k d lt. dite (ℕ_discrete k v)
      (λ s.
      let t : k ≡ length levels = s ∙ sym h.long in
      let here : get_or (levels ++ l ∷ []) k d ≡ l = ap (λ j. get_or (levels ++ l ∷ []) j d) t ∙ get_or-append_seam levels l [] d in
      record { point = next.seen; after = prefix_on history pass.seen next.seen h.later p; within = ([], append-nil next.seen); level_is = ap (λ j. last_level n next.seen j) s ∙ (is ∙ sym here) })
      (λ o.
      let before : k < v = omega (arith, lt, o) in
      let j : k < length levels = (let x = h.long in omega (arith, before, x)) in
      let r = h.each k d before in
      record { point = r.point; after = r.after; within = prefix_on r.point pass.seen next.seen r.within p; level_is = r.level_is ∙ sym (get_or_append_left levels (l ∷ []) d k j) });
}

both_begin : (a b : List Entry) → IsPrefix a b → IsPrefix b a → a ≡ b
both_begin a b p q =
    let x = ap (λ (es : List Entry). length es) p.1 in
    let y = ap (λ (es : List Entry). length es) q.1 in
    let z = length-append a p.0 in
    let w = length-append b q.0 in
    sym (append-nil a) ∙ (ap (λ (es : List Entry). a ++ es) (sym (nil_from_length p.0 (omega (arith, x, y, z, w)))) ∙ p.1)

length-moves : (x : List ℕ) (ms : List Move) → length (with_moves x ms) ≡ length x
length-moves x [] = refl
length-moves x (m ∷ ms) = length-moves (set x m.vertex m.new) ms ∙ length-set x m.vertex m.new

length-after : (x : List ℕ) (es : List Entry) → length (levels_after x es) ≡ length x
length-after x [] = refl
length-after x (e ∷ es) = length-after (with_moves x e.moves) es ∙ length-moves x e.moves

length-zeros : (n : ℕ) → length (replicate {A = ℕ} n 0) ≡ n
length-zeros zero = refl
length-zeros (suc n) = ap suc (length-zeros n)

pub length-levels_at : (n : ℕ) (history : List Entry) (p : ℕ) → length (levels_at n history p) ≡ n
length-levels_at n history p = length-after (replicate n 0) (take p history) ∙ length-zeros n

pub reading_all : (n : ℕ) (history : List Entry) (first : PassShape) (v : ℕ) (pass : PassShape) (levels : List ℕ) → IsReading n history first v pass levels → v ≡ n → IsPrefix pass.seen history → levels ≡ levels_at n history (length history)
reading_all n history first v pass levels h all taken =
    let long = length-levels_at n history (length history) in
    let same : length levels ≡ length (levels_at n history (length history)) = h.long ∙ (all ∙ sym long) in
    same_number_lists levels (levels_at n history (length history)) same
    (λ k lt.
    let r = h.each k 0 (omega (arith, lt, same, all, long)) in
    let there : history ≡ r.point = both_begin history r.point r.after (prefix_on r.point pass.seen history r.within taken) in
    sym (ap (λ (es : List Entry). last_level n es k) there ∙ r.level_is))
