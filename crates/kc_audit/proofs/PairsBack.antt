-- Pairs that are printed are read back.
use Rattle.std.proofs.Common.{ℕ, zero, suc, ◌^◌, ◌≤◌, ◌<◌, ◌≡◌, Bool, true, false, List, [], ◌∷◌, ◌++◌, length, get_or, refl, arith, length-append}
use Rattle.std.specs.Prelude.{Some, None, nat_le, nat_lt, ◌==◌, if◌then◌else◌}
use Rattle.std.specs.List.{list_all, position_or_len}
use Rattle.std.proofs.lemmas.Bool.Decides.{nat_tests}
use Rattle.std.proofs.lemmas.List.{get_or_append_left}
use Rattle.std.proofs.lemmas.List.Sums.{position_or_len_is}
use Rattle.std.proofs.Math.Seq.{get_or-append_seam, drop-append-add, take-append_seam}
use Rattle.std.proofs.lemmas.Bool.{and_parts}
use Rattle.kc_text.specs.Numbers.{is_digit, number_of}
use Rattle.kc_text.proofs.lemmas.Printing.{numbers_are_read_back}
use Rattle.kc_history.specs.declared.replies.Reply.{Reply}
use Rattle.kc_audit.specs.Runs.{are_below}
use Rattle.kc_audit.specs.Words.{pair_of, pairs_of}
use Rattle.kc_audit.specs.ReadBack.{pair_word, pair_words, have_levels}

is_some_number : (b : Bool) (v n : ℕ) → (if b then Some v else None) ≡ Some n → b ≡ true
is_some_number b v n e = grind (arith, nat_tests)

-- what says a number has digits alone
number_digits : (bs : List ℕ) (n : ℕ) → number_of bs ≡ Some n → list_all is_digit bs ≡ true
number_digits bs n e = grind (arith, nat_tests, and_parts, is_some_number)

digit_at : (bs : List ℕ) (k : ℕ) → list_all is_digit bs ≡ true → k < length bs → is_digit (get_or bs k 0) ≡ true
digit_at [] k e h = absurd (omega (arith, h))
digit_at (b ∷ bs) zero e h = (and_parts (is_digit b) (list_all is_digit bs) e).0
digit_at (b ∷ bs) (suc k) e h = digit_at bs k (and_parts (is_digit b) (list_all is_digit bs) e).1 (omega (arith, h))

no_mark : (mark b : ℕ) → 57 < mark → is_digit b ≡ true → (b == mark) ≡ false
no_mark mark b h e = grind (arith, nat_tests, h, e)

itself : (b : ℕ) → (b == b) ≡ true
itself b = grind (arith, nat_tests)

mark_place : (mark : ℕ) (bs cs : List ℕ) → 57 < mark → list_all is_digit bs ≡ true → position_or_len (λ b. b == mark) (bs ++ mark ∷ cs) ≡ length bs
mark_place mark bs cs h e =
    position_or_len_is (λ b. b == mark) (bs ++ mark ∷ cs) (length bs) 0 (omega (arith, length-append bs (mark ∷ cs)))
    (λ k lt. let here : get_or (bs ++ mark ∷ cs) k 0 ≡ get_or bs k 0 = get_or_append_left bs (mark ∷ cs) 0 k lt in rw here (no_mark mark (get_or bs k 0) h (digit_at bs k e lt)))
    (λ lt. let here : get_or (bs ++ mark ∷ cs) (length bs) 0 ≡ mark = get_or-append_seam bs mark cs 0 in rw here (itself mark))

pair_back : (mark : ℕ) (r : Reply) → 57 < mark → r.vertex < 2 ^ 32 → r.level ≤ 65535 → pair_of mark (pair_word mark r) ≡ Some r
pair_back mark r h v l = grind (arith, nat_tests, numbers_are_read_back, mark_place, number_digits, take-append_seam, drop-append-add)

below_small : (n : ℕ) (v : ℕ) → nat_lt v n ≡ true → n ≤ 2 ^ 32 → v < 2 ^ 32
below_small n v e h = let lt : v < n = grind (arith, nat_tests, e) in omega (arith, lt, h)

level_small : (l : ℕ) → nat_le l 65535 ≡ true → l ≤ 65535
level_small l e = grind (arith, nat_tests, e)

pub pairs_back : (mark n : ℕ) (rs : List Reply) → 57 < mark → n ≤ 2 ^ 32 → are_below n rs ≡ true → have_levels rs ≡ true → pairs_of mark (pair_words mark rs) ≡ Some rs
unfolding pairs_of
pairs_back mark n [] h s b l = refl
pairs_back mark n (r ∷ rs) h s b l =
    let below = and_parts (nat_lt r.vertex n) (are_below n rs) b in
    let levels = and_parts (nat_le r.level 65535) (have_levels rs) l in
    rw (pair_back mark r h (below_small n r.vertex below.0 s) (level_small r.level levels.0), pairs_back mark n rs h s below.1 levels.1) refl
