-- The ranges of a header, and the lines after it.
use Rattle.std.proofs.Common.{ℕ, ◌≡◌, ◌≤◌, ◌<◌, Bool, true, false, List, [], ◌∷◌, ◌++◌, length, refl, arith}
use Rattle.std.specs.Prelude.{Option, Some, None, All, nat_le, nat_lt, ◌&&◌, codes, if◌then◌else◌}
use Rattle.std.specs.Str.{bytes_eq}
use Rattle.std.proofs.lemmas.Bool.{and_parts, leb-true, ltb-true}
use Rattle.std.proofs.lemmas.List.{length_push}
use Rattle.std.proofs.lemmas.List.Elements.{All-nil, All-tail, All-push}
use Rattle.kc_text.specs.declared.line.Line.{Line}
use Rattle.kc_text.specs.Numbers.{number_of}
use Rattle.kc_text.specs.Words.{words}
use Rattle.kc_text.specs.Kept.{text_of}
use Rattle.kc_graph.specs.declared.limits.TheConstants.{MAX_VERTICES}
use Rattle.kc_levels.specs.declared.profile.Profile.{Profile}
use Rattle.kc_batch.specs.declared.ask.Ask.{Ask}
use Rattle.kc_batch.specs.Headers.{HeaderText, Accepted, Refused, IsAsk, IsHeader, fits_ask, ask_with, ask_in, profile_in, vertex_count, vertices_in, is_ask, next_ask, on_ask, asks_from, on_vertices, after_profile, on_profile, header_of}
use Rattle.kc_batch.proofs.lemmas.Inputs.{fits}
use Rattle.kcore.proofs.LineNumbers.{IsNumbered}

-- a header keeps its ranges, and the lines after it have numbers that can be printed
abbrev pub HasRanges : HeaderText → Type 0
HasRanges (Accepted header rest) = IsHeader header × All IsNumbered rest
HasRanges (Refused line) = Unit {0}

-- the next ask keeps its ranges, and isn't the 65th
abbrev IsNextAsk : ℕ → List Ask → Option Ask → Type 0
IsNextAsk n asks None = Unit {0}
IsNextAsk n asks (Some ask) = IsAsk n ask × (length asks < 64)

ask_fits : (n : ℕ) (asks : List Ask) (times : ℕ) (vertices : List ℕ) (b : Bool) → length asks < 64 → fits_ask n times vertices ≡ b → IsNextAsk n asks (if b then Some (record { times = times; vertices = vertices }) else None)
ask_fits n asks times vertices true few e = (fits n times vertices e, few)
ask_fits n asks times vertices false few e = tt

ask_with_fits : (n : ℕ) (asks : List Ask) (times : Option ℕ) (vertices : Option (List ℕ)) → length asks < 64 → IsNextAsk n asks (ask_with n times vertices)
ask_with_fits n asks (Some times) (Some vertices) few = ask_fits n asks times vertices (fits_ask n times vertices) few refl
ask_with_fits n asks (Some times) None few = tt
ask_with_fits n asks None (Some vertices) few = tt
ask_with_fits n asks None None few = tt

ask_in_fits : (n : ℕ) (asks : List Ask) (ws : List (List ℕ)) → length asks < 64 → IsNextAsk n asks (ask_in n ws)
unfolding ask_in
ask_in_fits n asks [] few = tt
ask_in_fits n asks (name ∷ []) few = tt
ask_in_fits n asks (name ∷ times ∷ vertices) few = ask_with_fits n asks (number_of times) _ few

next_fits : (n : ℕ) (asks : List Ask) (ws : List (List ℕ)) (b : Bool) → nat_lt (length asks) 64 ≡ b → IsNextAsk n asks (if b then ask_in n ws else None)
next_fits n asks ws true e = ask_in_fits n asks ws (ltb-true (length asks) 64 e)
next_fits n asks ws false e = tt

next_keeps : (number n : ℕ) (asks : List Ask) (o : Option Ask) (next : Ask → HeaderText) → IsNextAsk n asks o → ((ask : Ask) → IsAsk n ask → length asks < 64 → HasRanges (next ask)) → HasRanges (on_ask number o next)
next_keeps number n asks None next i on = tt
next_keeps number n asks (Some ask) next i on = on ask i.0 i.1

asks_keep : (p : Profile) (n : ℕ) (asks : List Ask) (ls : List Line) → IsHeader (record { profile = p; n = n; asks = asks }) → All IsNumbered ls → HasRanges (asks_from p n asks ls)
unfolding asks_from
asks_keep p n asks [] h numbered = (h, numbered)
asks_keep p n asks (line ∷ rest) h numbered =
    elim (is_ask (words (text_of line.body))) as (λ b. HasRanges (if b then on_ask line.number (next_ask n asks (words (text_of line.body))) (λ ask. asks_from p n (asks ++ ask ∷ []) rest)
    else Accepted (record { profile = p; n = n; asks = asks }) (line ∷ rest))) [
      | true ↦ next_keeps line.number n asks (next_ask n asks (words (text_of line.body))) (λ ask. asks_from p n (asks ++ ask ∷ []) rest) (next_fits n asks (words (text_of line.body)) (nat_lt (length asks) 64) refl)
          (λ ask i few. asks_keep p n (asks ++ ask ∷ []) rest (record { some = h.some; small = h.small; few = omega (arith, few, length_push asks ask); asks = All-push (IsAsk n) asks ask h.asks i }) (All-tail IsNumbered line rest numbered))
      | false ↦ (h, numbered)
    ]

InRange : Option ℕ → Type 0
InRange None = Unit {0}
InRange (Some n) = (1 ≤ n) × (n ≤ MAX_VERTICES)

counted : (o : Option ℕ) → InRange (vertex_count o)
unfolding InRange
counted None = tt
counted (Some n) = go (nat_le 1 n && nat_le n MAX_VERTICES) refl
  where
    go : (b : Bool) → (nat_le 1 n && nat_le n MAX_VERTICES) ≡ b → InRange (if b then Some n else None)
    go true e = let p = and_parts (nat_le 1 n) (nat_le n MAX_VERTICES) e in (leb-true 1 n p.0, leb-true n MAX_VERTICES p.1)
    go false e = tt

in_range : (ws : List (List ℕ)) → InRange (vertices_in ws)
unfolding vertices_in InRange
in_range [] = tt
in_range (a ∷ []) = tt
in_range (name ∷ count ∷ []) = elim (bytes_eq name (codes "vertices")) as (λ b. InRange (if b then vertex_count (number_of count) else None)) [
  | true ↦ counted (number_of count)
  | false ↦ tt
]
in_range (a ∷ b ∷ c ∷ ws) = tt

on_range : (p : Profile) (number : ℕ) (o : Option ℕ) (rest : List Line) → InRange o → All IsNumbered rest → HasRanges (on_vertices number o (λ n. asks_from p n [] rest))
unfolding InRange
on_range p number None rest h numbered = tt
on_range p number (Some n) rest h numbered = asks_keep p n [] rest (record { some = h.0; small = h.1; few = omega arith; asks = All-nil (IsAsk n) }) numbered

after_keeps : (p : Profile) (ls : List Line) → All IsNumbered ls → HasRanges (after_profile p ls)
unfolding after_profile
after_keeps p [] numbered = tt
after_keeps p (line ∷ rest) numbered = on_range p line.number (vertices_in (words (text_of line.body))) rest (in_range (words (text_of line.body))) (All-tail IsNumbered line rest numbered)

pub header_keeps : (ls : List Line) → All IsNumbered ls → HasRanges (header_of ls)
unfolding header_of
header_keeps [] numbered = tt
header_keeps (line ∷ rest) numbered = elim (profile_in (words (text_of line.body))) as (λ o. HasRanges (on_profile line.number o (λ p. after_profile p rest))) [
  | None ↦ tt
  | Some p ↦ after_keeps p rest (All-tail IsNumbered line rest numbered)
]
