-- The lines of a header, one after another.
use Rattle.std.proofs.Common.{ℕ, ◌≡◌, ◌≤◌, ◌<◌, Bool, true, false, List, [], ◌∷◌, ◌++◌, refl, sym, ap, ◌∙◌, arith}
use Rattle.std.specs.Prelude.{Option, Some, None, All, nat_lt}
use Rattle.std.specs.List.{list_all}
use Rattle.std.specs.Option.{option_map}
use Rattle.std.proofs.lemmas.List.Elements.{All-nil, All-cons}
use Rattle.std.proofs.lemmas.Bool.Decides.{nat_tests}
use Rattle.kc_levels.specs.declared.profile.Profile.{Profile}
use Rattle.kc_text.specs.declared.line.Line.{Line}
use Rattle.kc_text.specs.declared.line.Body.{Body}
use Rattle.kc_text.specs.declared.line.Body.TheVariants.{Text, TooLong, Limit, End}
use Rattle.kc_text.specs.Reading.{onto, behind, Takes}
use Rattle.kc_text.specs.Words.{words, words_from}
use Rattle.kc_text.specs.Kept.{text_of}
use Rattle.kc_batch.specs.declared.ask.Ask.{Ask}
use Rattle.kc_batch.specs.Headers.{Accepted, Refused, profile_in, vertices_in, is_ask, numbers_of, fits_ask, next_ask, asks_from, after_profile, header_of, IsAsk}

-- the numbers that were read, followed by those of the words after them
abbrev pub numbers_behind : List ℕ → List (List ℕ) → Option (List ℕ)
numbers_behind front ws = option_map (λ rest. front ++ rest) (numbers_of ws)

below : (n : ℕ) (vs : List ℕ) → list_all (λ v. nat_lt v n) vs ≡ true → All (λ v. v < n) vs
below n [] e = All-nil (λ v. v < n)
below n (v ∷ vs) e = All-cons (λ v. v < n) v vs (grind (arith, nat_tests, e)) (below n vs (grind (arith, nat_tests, e)))

-- the ranges of an ask that fits
pub fits : (n times : ℕ) (vertices : List ℕ) → fits_ask n times vertices ≡ true → IsAsk n (record { times = times; vertices = vertices })
fits n times vertices e = record {
  times = grind (arith, nat_tests, e);
  some = grind (arith, nat_tests, e);
  below = below n vertices (grind (arith, nat_tests, e));
  few = grind (arith, nat_tests, e);
}

-- no end passes a test that no empty line passes
going : (p : List (List ℕ) → Bool) → p [] ≡ false → (b : Body) → p (words (text_of b)) ≡ true → (rest : List Line) → behind b rest ≡ rest
unfolding words_from
going p h (Text text) e rest = refl
going p h TooLong e rest = refl
going p h Limit e rest = let x : true ≡ false = sym e ∙ h in absurd cc
going p h End e rest = let x : true ≡ false = sym e ∙ h in absurd cc

going_some : {X : Type 0} (f : List (List ℕ) → Option X) (x : X) → f [] ≡ None → (b : Body) → f (words (text_of b)) ≡ Some x → (rest : List Line) → behind b rest ≡ rest
unfolding words_from
going_some f x h (Text text) e rest = refl
going_some f x h TooLong e rest = refl
going_some f x h Limit e rest = let y : Some x ≡ None = sym e ∙ h in absurd cc
going_some f x h End e rest = let y : Some x ≡ None = sym e ∙ h in absurd cc

no_profile : profile_in [] ≡ None
unfolding profile_in
no_profile = refl

no_vertices : vertices_in [] ≡ None
unfolding vertices_in
no_vertices = refl

pub profile_missing : (line : Line) → profile_in (words (text_of line.body)) ≡ None → (rest : List Line) → header_of (onto line rest) ≡ Refused line.number
unfolding header_of
profile_missing line e rest = rw e refl

pub profile_there : (line : Line) (p : Profile) → profile_in (words (text_of line.body)) ≡ Some p → (rest : List Line) → header_of (onto line rest) ≡ after_profile p rest
unfolding header_of
profile_there line p e rest = rw (e, going_some profile_in p no_profile line.body e rest) refl

pub vertices_missing : (p : Profile) (line : Line) → vertices_in (words (text_of line.body)) ≡ None → (rest : List Line) → after_profile p (onto line rest) ≡ Refused line.number
unfolding after_profile
vertices_missing p line e rest = rw e refl

pub vertices_there : (p : Profile) (line : Line) (n : ℕ) → vertices_in (words (text_of line.body)) ≡ Some n → (rest : List Line) → after_profile p (onto line rest) ≡ asks_from p n [] rest
unfolding after_profile
vertices_there p line n e rest = rw (e, going_some vertices_in n no_vertices line.body e rest) refl

pub ask_missing : (p : Profile) (n : ℕ) (asks : List Ask) (line : Line) → is_ask (words (text_of line.body)) ≡ false
    → (rest : List Line) → asks_from p n asks (onto line rest) ≡ Accepted (record { profile = p; n = n; asks = asks }) (onto line rest)
unfolding asks_from
ask_missing p n asks line e rest = rw e refl

pub ask_refused : (p : Profile) (n : ℕ) (asks : List Ask) (line : Line) → is_ask (words (text_of line.body)) ≡ true → next_ask n asks (words (text_of line.body)) ≡ None
    → (rest : List Line) → asks_from p n asks (onto line rest) ≡ Refused line.number
unfolding asks_from
ask_refused p n asks line e f rest = rw (e, f) refl

pub ask_there : (p : Profile) (n : ℕ) (asks : List Ask) (line : Line) (ask : Ask) → is_ask (words (text_of line.body)) ≡ true → next_ask n asks (words (text_of line.body)) ≡ Some ask
    → (rest : List Line) → asks_from p n asks (onto line rest) ≡ asks_from p n (asks ++ ask ∷ []) rest
unfolding asks_from
ask_there p n asks line ask e f rest = rw (e, f, going is_ask refl line.body e rest) refl

-- a line that is put back
pub step_back : {X : Type 0} (F G : List Line → X) (line : Line) (old mid new : Option (List Line)) → old ≡ option_map (onto line) mid → new ≡ option_map (onto line) mid
    → ((rest : List Line) → F (onto line rest) ≡ G (onto line rest)) → option_map F old ≡ option_map G new
step_back F G line old None new e f h = rw (e, f) refl
step_back F G line old (Some rest) new e f h = rw (e, f) (ap Some (h rest))

-- no line gives budget back
pub takes_no_less : (body : Body) (old new : ℕ) → Takes body old new → new ≤ old
takes_no_less (Text text) old new h = omega arith
takes_no_less TooLong old new h = omega arith
takes_no_less Limit old new h = h
takes_no_less End old new h = h

-- an ask line takes some budget
pub takes_ask : (body : Body) (old new : ℕ) → is_ask (words (text_of body)) ≡ true → Takes body old new → new < old
unfolding words_from
takes_ask (Text text) old new e h = h
takes_ask TooLong old new e h = h
takes_ask Limit old new e h = absurd cc
takes_ask End old new e h = absurd cc
