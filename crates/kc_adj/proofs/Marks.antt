-- What a write changes in lists by level and their marks.
use Rattle.std.proofs.Common.{ℕ, zero, suc, ◌^◌, refl, ◌+◌, ◌/◌, ◌<◌, ◌≡◌, Bool, false, List, [], length, get_or, replicate, ap, sym, ◌∙◌, arith}
use Rattle.std.proofs.lemmas.List.{length-replicate, get_or_default, same_lists}
use Rattle.kc_adj.specs.LevelLists.{AreMarked}

pub empty_list : {A : Type 0} (k j : ℕ) → get_or (replicate {A = List A} k []) j [] ≡ []
empty_list zero j = refl
empty_list (suc k) zero = refl
empty_list (suc k) (suc j) = empty_list k j

pub marked_none : {T : Type 0} (count : ℕ) (marks : List Bool) → count < 2 ^ 16 → marks ≡ replicate (count / 64 + 1) false → AreMarked (replicate {A = List T} count []) marks 0
marked_none {T} count marks few is = record {
  small = omega (arith, length-replicate {A = List T} count [], few);
  wide = omega (arith, length-replicate {A = List T} count [], ap (λ (m : List Bool). length m) is, length-replicate (count / 64 + 1) false);
  bare = λ k h. empty_list count k;
  inside = omega arith;
  done = λ k h. empty_list count k;
}

pub all_bare : {T : Type 0} (lists : List (List T)) → ((k : ℕ) → k < length lists → get_or lists k [] ≡ []) → lists ≡ replicate (length lists) []
all_bare {T} lists bare = same_lists lists (replicate (length lists) []) (sym (length-replicate {A = List T} (length lists) [])) (λ k d h. get_or_default lists k d [] h ∙ bare k h ∙ sym (empty_list {A = T} (length lists) k) ∙ get_or_default (replicate (length lists) []) k [] d (omega (arith, h, length-replicate {A = List T} (length lists) [])))
