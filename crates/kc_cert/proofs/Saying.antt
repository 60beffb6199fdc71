-- What lines say, where the lines are told or not.
use Rattle.std.proofs.Common.{ℕ, ◌≡◌, Bool, true, List, [], ◌∷◌, refl, subst, arith}
use Rattle.std.specs.Prelude.{Option, Some, None, ◌&&◌, if◌then◌else◌, codes}
use Rattle.std.specs.Str.{bytes_eq}
use Rattle.std.specs.Option.{option_map}
use Rattle.std.proofs.lemmas.Option.{same_Some}
use Rattle.std.proofs.lemmas.Bool.Decides.{nat_tests}
use Rattle.kc_text.specs.declared.line.Line.{Line}
use Rattle.kc_text.specs.declared.line.Body.{Body}
use Rattle.kc_text.specs.Reading.{onto, behind}
use Rattle.kc_text.specs.Words.{words, is_skip}
use Rattle.kc_text.specs.Kept.{is_skipped, kept}
use Rattle.kc_cert.specs.declared.token.Token.{Token}
use Rattle.kc_cert.specs.declared.token.Kind.{Kind}
use Rattle.kc_cert.specs.declared.token.Kind.TheVariants as kind
use Rattle.kc_cert.specs.Tokens.{one_number, two_numbers, profile_in, is_version, is_nothing, kind_by, kind_of_words, kind_of_text, kind_of, tokens}
use Rattle.kc_cert.specs.private.Tokens.{behind_kind, onto_token}

-- lines may follow one of this kind
abbrev pub GoesOn : Kind → Type 0
GoesOn k = (rest : List Token) → behind_kind k rest ≡ rest

if_goes_on : (b : Bool) (j k : Kind) → GoesOn j → GoesOn k → GoesOn (if b then j else k)
if_goes_on b j k p q = grind (arith, nat_tests)

by_goes_on : {T : Type 0} (f : T → Kind) (o : Option T) → ((x : T) → GoesOn (f x)) → GoesOn (kind_by f o)
by_goes_on f o h rest = grind (arith, nat_tests)

words_go_on : (ws : List (List ℕ)) → GoesOn (kind_of_words ws)
unfolding kind_of_words
words_go_on [] = λ rest. refl
words_go_on (name ∷ ws) =
    let edge = by_goes_on (λ (p : ℕ × ℕ). kind.Edge p.0 p.1) (two_numbers ws) (λ p rest. refl) in
    let level = by_goes_on (λ (p : ℕ × ℕ). kind.Level p.0 p.1) (two_numbers ws) (λ p rest. refl) in
    let vertices = by_goes_on (λ n. kind.Vertices n) (one_number ws) (λ n rest. refl) in
    let count = by_goes_on (λ m. kind.EdgeCount m) (one_number ws) (λ m rest. refl) in
    let profile = by_goes_on (λ p. kind.Profile p) (profile_in ws) (λ p rest. refl) in
    if_goes_on (bytes_eq name (codes "edge")) _ _ edge
    (if_goes_on (bytes_eq name (codes "level")) _ _ level
    (if_goes_on (bytes_eq name (codes "vertices")) _ _ vertices
    (if_goes_on (bytes_eq name (codes "edges")) _ _ count
    (if_goes_on (bytes_eq name (codes "profile")) _ _ profile
    (if_goes_on (bytes_eq name (codes "kcore-cert") && is_version ws) kind.Magic _ (λ rest. refl)
    (if_goes_on (bytes_eq name (codes "end") && is_nothing ws) kind.Close kind.Other (λ rest. refl) (λ rest. refl)))))))

chosen : (skips : Bool) (j k : Kind) → (if skips then None else Some j) ≡ Some k → j ≡ k
chosen skips j k e = grind (arith, nat_tests, same_Some)

text_goes_on : (text : List ℕ) (k : Kind) → kind_of_text text ≡ Some k → GoesOn k
unfolding kind_of_text
text_goes_on text k e = subst GoesOn (chosen (is_skip (words text)) (kind_of_words (words text)) k e) (words_go_on (words text))

-- what follows a line that says something
tokens_behind : (b : Body) (k : Kind) (rest : List Line) → kind_of b ≡ Some k → tokens (behind b rest) ≡ behind_kind k (tokens rest)
unfolding tokens
tokens_behind b k rest e = grind (arith, nat_tests, text_goes_on, same_Some)

says : (line : Line) (k : Kind) (rest : List Line) → kind_of line.body ≡ Some k → tokens (onto line rest) ≡ onto_token (record { number = line.number; kind = k }) (tokens rest)
unfolding tokens
says line k rest e = rw (e, tokens_behind line.body k rest e) refl

skipped_says : (b : Body) → is_skipped b ≡ true → kind_of b ≡ None
unfolding kind_of_text
skipped_says b e = grind (arith, nat_tests)

tokens_kept_on : (skips : Bool) (line : Line) (rest ks : List Line) → is_skipped line.body ≡ skips → tokens ks ≡ tokens rest → tokens (if skips then ks else line ∷ ks) ≡ tokens (line ∷ rest)
unfolding tokens
tokens_kept_on skips line rest ks e h = grind (arith, nat_tests, skipped_says)

-- the lines that are skipped say nothing
tokens_kept : (ls : List Line) → tokens (kept ls) ≡ tokens ls
tokens_kept [] = refl
tokens_kept (line ∷ rest) = tokens_kept_on (is_skipped line.body) line rest (kept rest) refl (tokens_kept rest)

told_tokens_kept : (ls : Option (List Line)) → option_map tokens (option_map kept ls) ≡ option_map tokens ls
told_tokens_kept ls = grind (arith, nat_tests, tokens_kept)

-- a line that says something is the next token
pub told_token : (line : Line) (k : Kind) (old new : Option (List Line)) → kind_of line.body ≡ Some k → old ≡ option_map (onto line) new
    → option_map tokens old ≡ option_map (onto_token (record { number = line.number; kind = k })) (option_map tokens new)
told_token line k old new e h = grind (arith, nat_tests, says)

-- the same for the next of the lines that aren't skipped
pub told_kept_token : (line : Line) (k : Kind) (old new : Option (List Line)) → kind_of line.body ≡ Some k → option_map kept old ≡ option_map (onto line) (option_map kept new)
    → option_map tokens old ≡ option_map (onto_token (record { number = line.number; kind = k })) (option_map tokens new)
told_kept_token line k old new e h = grind (arith, nat_tests, told_tokens_kept, told_token)
