-- The meanings of lines, if the source tells its bytes or not.
use Rattle.std.proofs.Common.{ℕ, ◌≡◌, ◌≤◌, Bool, true, false, List, [], ◌∷◌, refl, sym, ap, subst, arith}
use Rattle.std.specs.Prelude.{Option, Some, None, if◌then◌else◌, codes}
use Rattle.std.specs.Str.{bytes_eq}
use Rattle.std.specs.Option.{option_map}
use Rattle.std.proofs.lemmas.Option.{same_Some}
use Rattle.kc_text.specs.declared.line.Line.{Line}
use Rattle.kc_text.specs.declared.line.Body.{Body}
use Rattle.kc_text.specs.declared.line.Body.TheVariants as body
use Rattle.kc_text.specs.Reading.{onto, behind}
use Rattle.kc_text.specs.Words.{words, is_skip}
use Rattle.kc_text.specs.Numbers.{number_of}
use Rattle.kc_text.specs.Kept.{is_skipped, kept}
use Rattle.kc_batch.specs.declared.token.Token.{Token}
use Rattle.kc_batch.specs.declared.token.Kind.{Kind}
use Rattle.kc_batch.specs.declared.token.Kind.TheVariants.{BatchStart, Item, BatchEnd, Other, TooLong, Limit, InputEnd}
use Rattle.kc_batch.specs.Tokens.{insertion, deletion, isolation, unsigned, kind_of_words, kind_of, tokens}
use Rattle.kc_batch.specs.private.Tokens.{kind_of_text, onto_token, behind_kind, TakesToken, IsLastKind}
use Rattle.kc_text.proofs.lemmas.Kept.{told_skips, told_goes}

-- a line of this kind is neither the end of the input nor its limit
pub record GoesOn (k : Kind) : Type 0 where
  pub behind : (rest : List Token) → behind_kind k rest ≡ rest
  pub more : IsLastKind k → ⊥

if_goes_on : (b : Bool) (j k : Kind) → GoesOn j → GoesOn k → GoesOn (if b then j else k)
if_goes_on true j k p q = p
if_goes_on false j k p q = q

start_goes_on : GoesOn BatchStart
start_goes_on = record { behind = λ rest. refl; more = λ h. h }

end_goes_on : GoesOn BatchEnd
end_goes_on = record { behind = λ rest. refl; more = λ h. h }

other_goes_on : GoesOn Other
other_goes_on = record { behind = λ rest. refl; more = λ h. h }

insertion_goes_on : (u v : Option ℕ) → GoesOn (insertion u v)
insertion_goes_on None v = other_goes_on
insertion_goes_on (Some u) None = other_goes_on
insertion_goes_on (Some u) (Some v) = record { behind = λ rest. refl; more = λ h. h }

deletion_goes_on : (u v : Option ℕ) → GoesOn (deletion u v)
deletion_goes_on None v = other_goes_on
deletion_goes_on (Some u) None = other_goes_on
deletion_goes_on (Some u) (Some v) = record { behind = λ rest. refl; more = λ h. h }

isolation_goes_on : (v : Option ℕ) → GoesOn (isolation v)
isolation_goes_on None = other_goes_on
isolation_goes_on (Some v) = record { behind = λ rest. refl; more = λ h. h }

unsigned_goes_on : (first : List ℕ) (u v : Option ℕ) → GoesOn (unsigned first u v)
unsigned_goes_on first None v = if_goes_on (bytes_eq first (codes "x")) (isolation v) Other (isolation_goes_on v) other_goes_on
unsigned_goes_on first (Some u) v = insertion_goes_on (Some u) v

words_go_on : (ws : List (List ℕ)) → GoesOn (kind_of_words ws)
unfolding kind_of_words
words_go_on [] = other_goes_on
words_go_on (word ∷ []) =
    if_goes_on (bytes_eq word (codes "batch")) BatchStart (if bytes_eq word (codes "end") then BatchEnd else Other) start_goes_on
    (if_goes_on (bytes_eq word (codes "end")) BatchEnd Other end_goes_on other_goes_on)
words_go_on (first ∷ second ∷ []) = unsigned_goes_on first (number_of first) (number_of second)
words_go_on (sign ∷ u ∷ v ∷ []) =
    if_goes_on (bytes_eq sign (codes "+")) (insertion (number_of u) (number_of v)) (if bytes_eq sign (codes "-") then deletion (number_of u) (number_of v) else Other)
    (insertion_goes_on (number_of u) (number_of v))
    (if_goes_on (bytes_eq sign (codes "-")) (deletion (number_of u) (number_of v)) Other (deletion_goes_on (number_of u) (number_of v)) other_goes_on)
words_go_on (a ∷ b ∷ c ∷ d ∷ more) = other_goes_on

-- the facts about a text that isn't skipped
pub record Says (text : List ℕ) (k : Kind) : Type 0 where
  pub kept : is_skip (words text) ≡ false
  pub kind : kind_of_words (words text) ≡ k
  pub goes_on : GoesOn k

says_chosen : (skips : Bool) (j k : Kind) → (if skips then None else Some j) ≡ Some k → (skips ≡ false) × (j ≡ k)
says_chosen true j k e = absurd cc
says_chosen false j k e = (refl, same_Some _ _ e)

pub says : (text : List ℕ) (k : Kind) → kind_of_text text ≡ Some k → Says text k
unfolding kind_of_text
says text k e =
    let s = says_chosen (is_skip (words text)) (kind_of_words (words text)) k e in
    record { kept = s.0; kind = s.1; goes_on = subst GoesOn s.1 (words_go_on (words text)) }

silent : (skips : Bool) (j : Kind) → (if skips then None else Some j) ≡ None → skips ≡ true
silent true j e = refl
silent false j e = absurd cc

pub says_nothing : (text : List ℕ) → kind_of_text text ≡ None → is_skip (words text) ≡ true
unfolding kind_of_text
says_nothing text e = silent (is_skip (words text)) (kind_of_words (words text)) e

body_goes_on : (b : Body) (rest : List Line) → tokens (behind b rest) ≡ behind_kind (kind_of b) (tokens rest)
body_goes_on (body.Text text) rest = sym ((words_go_on (words text)).behind (tokens rest))
body_goes_on body.TooLong rest = refl
body_goes_on body.Limit rest = refl
body_goes_on body.End rest = refl

onto_says : (line : Line) (k : Kind) (rest : List Line) → kind_of line.body ≡ k → tokens (onto line rest) ≡ onto_token (record { number = line.number; kind = k }) (tokens rest)
onto_says line k rest e = rw (body_goes_on line.body rest, e) refl

told_says : (line : Line) (k : Kind) (old new : Option (List Line)) → kind_of line.body ≡ k → old ≡ option_map (onto line) new
    → option_map tokens old ≡ option_map (onto_token (record { number = line.number; kind = k })) (option_map tokens new)
told_says line k old None e h = rw h refl
told_says line k old (Some rest) e h = rw h (ap Some (onto_says line k rest e))

-- a line that isn't skipped is the next token
pub told_token : (line : Line) (k : Kind) (old new : Option (List Line)) → is_skipped line.body ≡ false → kind_of line.body ≡ k → old ≡ option_map (onto line) new
    → option_map tokens (option_map kept old) ≡ option_map (onto_token (record { number = line.number; kind = k })) (option_map tokens (option_map kept new))
told_token line k old new s e h = told_says line k _ _ e (told_goes line old new s h)

-- a line that is skipped is no token
pub told_no_token : (line : Line) (old new : Option (List Line)) → is_skipped line.body ≡ true → old ≡ option_map (onto line) new → option_map tokens (option_map kept old) ≡ option_map tokens (option_map kept new)
told_no_token line old new s h = ap (option_map tokens) (told_skips line old new s h)

-- no token gives budget back
pub takes_le : (k : Kind) (old new : ℕ) → TakesToken k old new → new ≤ old
takes_le BatchStart old new h = omega arith
takes_le (Item i) old new h = omega arith
takes_le BatchEnd old new h = omega arith
takes_le Other old new h = omega arith
takes_le TooLong old new h = omega arith
takes_le Limit old new h = h
takes_le InputEnd old new h = h
