-- The keys that decide on their pairs: the same ones where the keys are dealt by their pairs.
use Rattle.std.proofs.Common.{ℕ, zero, suc, ◌<◌, ◌≡◌, ◌==◌, Bool, true, false, cond, List, [], ◌∷◌, ◌++◌, refl, ap, ◌∙◌, arith}
use Rattle.std.proofs.lemmas.Bool.Decides.{nat_tests}
use Rattle.std.proofs.lemmas.List.Elements.{All-head, All-tail}
use Rattle.std.specs.List.{list_any}
use Rattle.std.specs.Prelude.{All}
use Rattle.kc_graph.specs.declared.keys.Key.{Key}
use Rattle.kc_graph.specs.private.Buckets.{bucket, dealt}
use Rattle.kc_graph.specs.private.Keys.{same_pair}
use Rattle.kc_graph.proofs.DealtLemmas.{bucket_at, dealt_below}

-- tests that agree at each element of a list
pub list_any_agree : {X : Type 0} (p q : X → Bool) (xs : List X) → All (λ x. p x ≡ q x) xs → list_any p xs ≡ list_any q xs
list_any_agree p q [] same = refl
list_any_agree {X} p q (x ∷ xs) same =
    let P : X → Type 0 = λ x. p x ≡ q x in
    let here : p x ≡ q x = All-head P x xs same in
    rw (here, list_any_agree p q xs (All-tail P x xs same)) refl

-- the keys that no later key of the same pair follows
abbrev pub deciding_keys : List Key → List Key
deciding_keys [] = []
deciding_keys (k ∷ ks) = cond (list_any (same_pair k) ks) (deciding_keys ks) (k ∷ deciding_keys ks)

-- a number that keys of one pair have in common
abbrev pub IsOfPair : (Key → ℕ) → Type 0
IsOfPair d = (k l : Key) → same_pair k l ≡ true → d k ≡ d l

any_in_bucket : (d : Key → ℕ) (n : ℕ) (k : Key) → IsOfPair d → (d k == n) ≡ true → (ks : List Key) → list_any (same_pair k) (bucket d n ks) ≡ list_any (same_pair k) ks
unfolding bucket
any_in_bucket d n k of here [] = refl
any_in_bucket d n k of here (l ∷ ks) = grind (arith, nat_tests, any_in_bucket d n k of here ks)

-- of the keys of a bucket the same decide
deciding_in_bucket : (d : Key → ℕ) (n : ℕ) → IsOfPair d → (ks : List Key) → deciding_keys (bucket d n ks) ≡ bucket d n (deciding_keys ks)
unfolding bucket
deciding_in_bucket d n of [] = refl
deciding_in_bucket d n of (k ∷ ks) = grind (arith, nat_tests, deciding_in_bucket d n of ks, any_in_bucket)

none_of_others : (d : Key → ℕ) (n : ℕ) (k : Key) → IsOfPair d → d k < n → (ls : List Key) → All (λ l. d l ≡ n) ls → list_any (same_pair k) ls ≡ false
none_of_others d n k of less [] at = refl
none_of_others d n k of less (l ∷ ls) at =
    let P : Key → Type 0 = λ l. d l ≡ n in
    let here : d l ≡ n = All-head P l ls at in
    rw (other here, none_of_others d n k of less ls (All-tail P l ls at)) refl
  where
    other : d l ≡ n → same_pair k l ≡ false
    other here = grind (arith, nat_tests)

any_append : (p : Key → Bool) (ks ls : List Key) → list_any p ls ≡ false → list_any p (ks ++ ls) ≡ list_any p ks
any_append p [] ls none = none
any_append p (k ∷ ks) ls none = rw (any_append p ks ls none) refl

-- of two lists without a common pair the same decide as of each
deciding_apart : (d : Key → ℕ) (n : ℕ) → IsOfPair d → (ks ls : List Key) → All (λ k. d k < n) ks → All (λ l. d l ≡ n) ls → deciding_keys (ks ++ ls) ≡ deciding_keys ks ++ deciding_keys ls
deciding_apart d n of [] ls below at = refl
deciding_apart d n of (k ∷ ks) ls below at =
    let P : Key → Type 0 = λ k. d k < n in
    let less : d k < n = All-head P k ks below in
    let none = none_of_others d n k of less ls at in
    rw (any_append (same_pair k) ks ls none) (go (list_any (same_pair k) ks) (deciding_apart d n of ks ls (All-tail P k ks below) at))
  where
    go : (b : Bool) → deciding_keys (ks ++ ls) ≡ deciding_keys ks ++ deciding_keys ls → cond b (deciding_keys (ks ++ ls)) (k ∷ deciding_keys (ks ++ ls)) ≡ cond b (deciding_keys ks) (k ∷ deciding_keys ks) ++ deciding_keys ls
    go true rest = rest
    go false rest = ap (λ l. k ∷ l) rest

-- of keys that are dealt by their pairs the same decide
pub deciding_dealt : (d : Key → ℕ) (n : ℕ) → IsOfPair d → (ks : List Key) → deciding_keys (dealt d n ks) ≡ dealt d n (deciding_keys ks)
unfolding dealt
deciding_dealt d zero of ks = refl
deciding_dealt d (suc n) of ks =
    deciding_apart d n of (dealt d n ks) (bucket d n ks) (dealt_below d n ks) (bucket_at d n ks)
    ∙ ap (λ l. l ++ deciding_keys (bucket d n ks)) (deciding_dealt d n of ks)
    ∙ ap (λ l. dealt d n (deciding_keys ks) ++ l) (deciding_in_bucket d n of ks)
