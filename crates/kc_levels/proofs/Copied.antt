-- What copies keep at the places that nothing was copied to.
use Rattle.std.proofs.Common.{ℕ, ◌+◌, ◌≤◌, ◌<◌, ◌≡◌, ◌≢◌, inr, List, length, get_or, set, take, refl, sym, ◌∙◌, arith, subst}
use Rattle.std.specs.List.{All}
use Rattle.std.proofs.lemmas.List.{length-set, get_or-set_same, get_or-set_other, take_more, take_all}
use Rattle.std.proofs.lemmas.List.Elements.{All-push}
use Rattle.std.proofs.lemmas.Bool.Decides.{nat_tests}
use Rattle.kc_levels.specs.private.Following.{IsCopied}

module _ (from old : List ℕ) where
  -- nothing was copied yet
  pub copied_first : (spared : ℕ → Type 0) → ((v : ℕ) → spared v) → IsCopied from old old spared
  copied_first spared all = record { sized = refl; each = λ v. inr (refl, all v) }

  -- one number more was copied
  pub copied_one : (new : List ℕ) (v k : ℕ) (p q : ℕ → Type 0) → v < length old → k ≡ get_or from v 0 → IsCopied from old new p → ((u : ℕ) → u ≢ v → p u → q u) → IsCopied from old (set new v k) q
  copied_one new v k p q inside is s keeps = record {
    sized = length-set new v k ∙ s.sized;
    each = λ u. grind (arith, nat_tests, get_or-set_same, get_or-set_other, s.sized, s.each);
  }

  -- more numbers were copied
  pub copied_then : (mid new : List ℕ) (p q r : ℕ → Type 0) → IsCopied from old mid p → IsCopied from mid new q → ((u : ℕ) → p u → q u → r u) → IsCopied from old new r
  copied_then mid new p q r s t keeps = record {
    sized = t.sized ∙ s.sized;
    each = λ u. grind (arith, nat_tests, t.each, s.each);
  }

-- the step of a loop over items, each of which spares some places
pub copied_next : {A : Type 0} (spares : ℕ → A → Type 0) (items : List A) (i : ℕ) (d item : A) (from old mid new : List ℕ) → i < length items → item ≡ get_or items i d → IsCopied from old mid (λ v. All (spares v) (take i items)) → IsCopied from mid new (λ v. spares v item) → IsCopied from old new (λ v. All (spares v) (take (i + 1) items))
copied_next {A} spares items i d item from old mid new at is s t =
    copied_then from old mid new (λ v. All (spares v) (take i items)) (λ v. spares v item) (λ v. All (spares v) (take (i + 1) items)) s t
    (λ u p q. subst (All (spares u)) (sym (take_more items i d at)) (All-push (spares u) (take i items) (get_or items i d) p (subst (spares u) is q)))

pub copied_all : {A : Type 0} (spares : ℕ → A → Type 0) (items : List A) (i : ℕ) (from old new : List ℕ) → length items ≤ i → IsCopied from old new (λ v. All (spares v) (take i items)) → IsCopied from old new (λ v. All (spares v) items)
copied_all {A} spares items i from old new end s = subst (λ (xs : List A). IsCopied from old new (λ v. All (spares v) xs)) (take_all i items end) s
