use Rattle.std.proofs.Common.{ℕ, ◌≡◌, ◌+◌, ◌<◌, ◌≤◌, ◌++◌, ◌∷◌, Bool, true, false, List, [], cond, inl, inr, filter, length, get_or, take, set, refl, ap, sym, ◌∙◌, append_assoc, arith}
use Rattle.std.proofs.lemmas.Bool.{cases_Bool}
use Rattle.std.proofs.lemmas.List.{append-nil, length-set, take-set, take_more_set}
use Rattle.std.proofs.lemmas.List.Elements.{filter_more}
use Rattle.kc_graph.proofs.lemmas.Numbers.{has_number_at}
use Rattle.kc_insert.specs.private.Rising.{rises}
use Rattle.kc_insert.proofs.Seen.{length-seen}
use Rattle.kc_insert.proofs.telling.put_rising.Goals as goal

-- an item of a row is put at the end of those that pass, and stays if it passes
put_next : (p : ℕ → Bool) (row items first : List ℕ) (i end k : ℕ) → i < length row → end < length items → (p (get_or row i 0) ≡ true → k ≡ 1) → (p (get_or row i 0) ≡ false → k ≡ 0) → take end items ≡ first ++ filter p (take i row) → (take (end + k) (set items end (get_or row i 0)) ≡ first ++ filter p (take (i + 1) row)) × (k ≤ 1)
put_next p row items first i end k at room one none so_far = elim (cases_Bool (p (get_or row i 0))) [
  | inl yes_ ↦ (
    ap (λ n. take (end + n) (set items end (get_or row i 0))) (one yes_) ∙ take_more_set items end (get_or row i 0) room ∙ ap (λ ys. ys ++ get_or row i 0 ∷ []) so_far ∙ append_assoc first (filter p (take i row)) (get_or row i 0 ∷ []) ∙ ap (λ ys. first ++ ys) (sym (more ∙ ap (λ b. filter p (take i row) ++ cond b (get_or row i 0 ∷ []) []) yes_)),
    omega (arith, one yes_),
  )
  | inr no_ ↦ (
    ap (λ n. take n (set items end (get_or row i 0))) (omega (arith, none no_)) ∙ take-set items end (get_or row i 0) ∙ so_far ∙ ap (λ ys. first ++ ys) (sym (more ∙ ap (λ b. filter p (take i row) ++ cond b (get_or row i 0 ∷ []) []) no_ ∙ append-nil (filter p (take i row)))),
    omega (arith, none no_),
  )
]
  where
    more : filter p (take (i + 1) row) ≡ filter p (take i row) ++ cond (p (get_or row i 0)) (get_or row i 0 ∷ []) []
    more = filter_more p row i 0 at

pub bounds-now-w : goal.bounds-now-w
bounds-now-w c = omega (arith, c.requires.inside _ (has_number_at _ c.args.row.now c.loop-w.w-index (omega arith) refl), length-seen c.args.levels.now, ap length c.as_slice-now.ensures)

pub loop-w-preserved : goal.loop-w-preserved
unfolding rises
loop-w-preserved c =
    let is = rw c.as_slice-now.ensures at c.from-end.ensures in
    let next = put_next (rises c.args.levels.now) c.args.row.now c.loop-w.items (take c.args.start c.args.items.now) c.loop-w.w-index c.loop-w.end c.from-end.result (omega arith) (omega (arith, c.loop-w.invariant.1)) (λ yes_. rw yes_ at is) (λ no_. rw no_ at is) c.loop-w.invariant.0 in
    (next.0, omega (arith, next.1, c.loop-w.invariant.1, length-set c.loop-w.items c.loop-w.end (get_or c.args.row.now c.loop-w.w-index 0)))
