-- Words, and what is said by those after them.
use Rattle.std.proofs.Common.{ℕ, ◌≡◌, ◌<◌, ◌+◌, Bool, true, false, ◌&&◌, cond, arith, length, take, List, [], ◌∷◌, ◌++◌, drop, refl, sym, append_assoc}
use Rattle.std.specs.Prelude.{Option, Some, None, ◌==◌}
use Rattle.std.specs.List.{position, position_or_len}
use Rattle.std.proofs.lemmas.List.{append-nil, drop_all}
use Rattle.std.proofs.lemmas.Bool.Decides.{nat_tests}
use Rattle.std.specs.Str.{bytes_eq}
use Rattle.std.proofs.lemmas.Option.{same_Some, cond_some}
use Rattle.kc_text.specs.Words.{words}
use Rattle.kc_text.specs.Numbers.{number_of, NumberAt, IsNoNumber}
use Rattle.kc_history.specs.declared.replies.Reply.{Reply}
use Rattle.kc_audit.specs.Words.{is_nothing, before_words, first_number, has_fields, level_in, reply_with, pair_of, pair_before, pairs_of}

pub number_there : (text : List ℕ) (from value end : ℕ) → NumberAt text from value end → first_number (words (drop from text)) ≡ Some (value, words (drop end text))
unfolding first_number
number_there text from value end n = rw (n.words_are, n.number) refl

pub number_missing : (ws : List (List ℕ)) → IsNoNumber ws → first_number ws ≡ None
unfolding first_number
number_missing ws h = grind (arith, nat_tests)

pub ruleset number_steps = (number_there, number_missing)

-- pairs in front of others
abbrev pub pairs_behind : List Reply → Option (List Reply) → Option (List Reply)
pairs_behind front (Some rs) = Some (front ++ rs)
pairs_behind front None = None

pub pair_next : (front : List Reply) (r : Reply) (rest : Option (List Reply)) → pairs_behind front (pair_before (Some r) rest) ≡ pairs_behind (front ++ r ∷ []) rest
pair_next front r rest = grind (arith, nat_tests, append_assoc)

pub field_missing : (names : List (List ℕ)) (name : List ℕ) (rest ws : List (List ℕ)) → names ≡ name ∷ rest → ws ≡ [] → has_fields names ws ≡ false
unfolding has_fields
field_missing names name rest ws e f = rw (e, f) refl

pub field_other : (names : List (List ℕ)) (name : List ℕ) (rest ws : List (List ℕ)) (w : List ℕ) (more : List (List ℕ)) → names ≡ name ∷ rest → ws ≡ w ∷ more → bytes_eq w name ≡ false → has_fields names ws ≡ false
unfolding has_fields
field_other names name rest ws w more e f h = grind (arith, nat_tests)

no_fields : (b : Bool) (names ws : List (List ℕ)) → (b && (false && has_fields names ws)) ≡ false
no_fields b names ws = grind (arith, nat_tests)

-- a word that says no number, before others
no_number : (o : Option ℕ) (ws : List (List ℕ)) → before_words o ws ≡ None → o ≡ None
no_number o ws e = grind (arith, nat_tests)

pub field_no_number : (names : List (List ℕ)) (name : List ℕ) (rest ws : List (List ℕ)) (w : List ℕ) (more : List (List ℕ)) → names ≡ name ∷ rest → ws ≡ w ∷ more → first_number more ≡ None → has_fields names ws ≡ false
unfolding has_fields first_number
field_no_number names name rest ws w more e f h = grind (arith, nat_tests, no_number, no_fields)

found_number : (o : Option ℕ) (ws : List (List ℕ)) (n : ℕ) (after : List (List ℕ)) → before_words o ws ≡ Some (n, after) → (o ≡ Some n) × (ws ≡ after)
found_number o ws n after e = grind (arith, nat_tests, same_Some)

pub field_there : (names : List (List ℕ)) (name : List ℕ) (rest ws : List (List ℕ)) (w : List ℕ) (more : List (List ℕ)) (n : ℕ) (after : List (List ℕ)) → names ≡ name ∷ rest → ws ≡ w ∷ more
    → bytes_eq w name ≡ true → first_number more ≡ Some (n, after) → has_fields names ws ≡ has_fields rest after
unfolding has_fields first_number
field_there names name rest ws w more n after e f h g = grind (arith, nat_tests, found_number)

pub fields_end : (names ws : List (List ℕ)) → names ≡ [] → has_fields names ws ≡ is_nothing ws
unfolding has_fields
fields_end names ws e = rw e refl

-- the first place that passes
pub record IsPlace (p : ℕ → Bool) (xs : List ℕ) (i : ℕ) : Type 0 where
  pub place : position_or_len p xs ≡ i
  pub within : i < length xs

pub place_found : (p : ℕ → Bool) (xs : List ℕ) (i : ℕ) → Some i ≡ position p xs → IsPlace p xs i
place_found p xs i e = grind (arith, nat_tests, cond_some)

not_chosen : (b : Bool) (i : ℕ) → cond b (Some i) None ≡ None → b ≡ false
not_chosen b i e = grind (arith, nat_tests)

no_level : (o : Option ℕ) → reply_with o None ≡ None
no_level o = grind (arith, nat_tests)

-- a word without the mark says no pair
pub pair_missing : (mark : ℕ) (w : List ℕ) → None ≡ position (λ b. b == mark) w → pair_of mark w ≡ None
pair_missing mark w e = grind (arith, nat_tests, not_chosen, drop_all, no_level)

pub pair_there : (mark : ℕ) (w : List ℕ) (at : ℕ) → IsPlace (λ b. b == mark) w at → pair_of mark w ≡ reply_with (number_of (take at w)) (level_in (number_of (drop (at + 1) w)))
pair_there mark w at h = rw h.place refl

-- the pairs that words say
pub pairs_end : (mark : ℕ) (front : List Reply) (ws : List (List ℕ)) → ws ≡ [] → pairs_behind front (pairs_of mark ws) ≡ Some front
unfolding pairs_of
pairs_end mark front ws e = rw (e, append-nil front) refl

pub pairs_stop : (mark : ℕ) (front : List Reply) (w : List ℕ) (more ws : List (List ℕ)) → ws ≡ w ∷ more → None ≡ pair_of mark w → pairs_behind front (pairs_of mark ws) ≡ None
unfolding pairs_of
pairs_stop mark front w more ws e f = rw (e, sym f) refl

pub pairs_next : (mark : ℕ) (front : List Reply) (w : List ℕ) (r : Reply) (more ws : List (List ℕ)) → ws ≡ w ∷ more → Some r ≡ pair_of mark w
    → pairs_behind front (pairs_of mark ws) ≡ pairs_behind (front ++ r ∷ []) (pairs_of mark more)
unfolding pairs_of
pairs_next mark front w r more ws e f = rw (e, sym f) (pair_next front r (pairs_of mark more))
