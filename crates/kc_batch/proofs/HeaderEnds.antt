-- Ask lines, and the line after them.
use Rattle.std.proofs.Common.{ℕ, ◌+◌, ◌≡◌, ◌≤◌, ◌<◌, Bool, true, false, List, [], ◌∷◌, ◌++◌, refl, ap, ◌∙◌, append_assoc, length, length-append, arith}
use Rattle.std.specs.Prelude.{All, nat_lt, Option, None, if◌then◌else◌}
use Rattle.std.proofs.lemmas.List.{append-nil}
use Rattle.std.proofs.lemmas.List.Elements.{All-head, All-tail}
use Rattle.std.proofs.lemmas.Bool.Decides.{nat_tests}
use Rattle.kc_levels.specs.declared.profile.Profile.{Profile}
use Rattle.kc_text.specs.declared.line.Line.{Line}
use Rattle.kc_batch.specs.declared.ask.Ask.{Ask}
use Rattle.kc_batch.specs.Headers.{Accepted, Refused, is_ask, next_ask, asks_from, after_profile, header_of}
use Rattle.kc_batch.specs.HeaderLaw.{line_words, IsAskLine, lines_of, asks_of, IsBeginning, FirstOtherLineEnds}

-- an ask line adds its ask
adds : (p : Profile) (n : ℕ) (front : List Ask) (l : Line × Ask) (rest : List Line) → IsAskLine n l → length front < 64
    → asks_from p n front (l.0 ∷ rest) ≡ asks_from p n (front ++ l.1 ∷ []) rest
unfolding asks_from
adds p n front l rest h s =
    let few : nat_lt (length front) 64 ≡ true = grind (arith, nat_tests) in
    rw (h.first, few, h.ask) refl

adds_all : (p : Profile) (n : ℕ) (front : List Ask) (ls : List (Line × Ask)) (rest : List Line) → All (IsAskLine n) ls → length front + length ls ≤ 64
    → asks_from p n front (lines_of ls ++ rest) ≡ asks_from p n (front ++ asks_of ls) rest
adds_all p n front [] rest h s = rw append-nil refl
adds_all p n front (l ∷ ls) rest h s =
    adds p n front l (lines_of ls ++ rest) (All-head (IsAskLine n) l ls h) (omega arith)
    ∙ adds_all p n (front ++ l.1 ∷ []) ls rest (All-tail (IsAskLine n) l ls h) (rw (length-append front (l.1 ∷ [])) (omega arith))
    ∙ ap (λ asks. asks_from p n asks rest) (append_assoc front (l.1 ∷ []) (asks_of ls))

length_asks : (ls : List (Line × Ask)) → length (asks_of ls) ≡ length ls
length_asks [] = refl
length_asks (l ∷ ls) = rw (length_asks ls) refl

begins : (p : Profile) (n : ℕ) (first second : Line) (ls : List (Line × Ask)) (rest : List Line) → IsBeginning p n first second → All (IsAskLine n) ls → length ls ≤ 64
    → header_of (first ∷ second ∷ lines_of ls ++ rest) ≡ asks_from p n (asks_of ls) rest
unfolding header_of after_profile
begins p n first second ls rest b h s = rw (b.profile, b.vertices) (adds_all p n [] ls rest h (omega arith))

ends : (p : Profile) (n : ℕ) (asks : List Ask) (line : Line) (rest : List Line) → is_ask (line_words line) ≡ false
    → asks_from p n asks (line ∷ rest) ≡ Accepted (record { profile = p; n = n; asks = asks }) (line ∷ rest)
unfolding asks_from
ends p n asks line rest e = rw e refl

no_ask : (few : Bool) (ask : Option Ask) → ask ≡ None → (if few then ask else None) ≡ None
no_ask true ask e = e
no_ask false ask e = refl

refuses : (p : Profile) (n : ℕ) (asks : List Ask) (line : Line) (rest : List Line) → is_ask (line_words line) ≡ true → next_ask n asks (line_words line) ≡ None
    → asks_from p n asks (line ∷ rest) ≡ Refused line.number
unfolding asks_from
refuses p n asks line rest e f = rw (e, f) refl

full : (n : ℕ) (asks : List Ask) (line : Line) → length asks ≡ 64 → next_ask n asks (line_words line) ≡ None
full n asks line e =
    let many : nat_lt (length asks) 64 ≡ false = grind (arith, nat_tests) in
    rw many refl

pub first_other_line_ends : FirstOtherLineEnds
first_other_line_ends = record {
  accepted = λ p n first second line ls rest b h s e. begins p n first second ls _ b h s ∙ ends p n (asks_of ls) line rest e;
  refused = λ p n first second line ls rest b h s e f. begins p n first second ls _ b h s ∙ refuses p n (asks_of ls) line rest e (no_ask (nat_lt (length (asks_of ls)) 64) _ f);
  too_many = λ p n first second line ls rest b h s e. begins p n first second ls _ b h (omega (arith, s)) ∙ refuses p n (asks_of ls) line rest e (full n (asks_of ls) line (length_asks ls ∙ s));
}
