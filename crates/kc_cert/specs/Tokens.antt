-- The tokens of a certificate: what each line that isn't skipped says by itself.
use Rattle.std.specs.Prelude.{ℕ, Bool, true, false, ◌&&◌, List, [], ◌∷◌, Option, Some, None, if◌then◌else◌, codes}
use Rattle.std.specs.Str.{bytes_eq}
use Rattle.std.specs.Option.{option_map, option_and_then, option_map_or}
use Rattle.kc_levels.specs.declared.profile.Profile.{Profile}
use Rattle.kc_levels.specs.declared.profile.Profile.TheVariants.{One, Two}
use Rattle.kc_text.specs.declared.line.Line.{Line}
use Rattle.kc_text.specs.declared.line.Body.{Body}
use Rattle.kc_text.specs.declared.line.Body.TheVariants as body
use Rattle.kc_text.specs.Reading.{Reading, lines_left}
use Rattle.kc_text.specs.Words.{words, is_skip}
use Rattle.kc_text.specs.Numbers.{number_of}
use Rattle.kc_cert.specs.declared.token.Token.{Token}
use Rattle.kc_cert.specs.declared.token.Kind.{Kind}
use Rattle.kc_cert.specs.declared.token.Kind.TheVariants as kind

-- the word, if there is exactly one
unfoldable pub only_word : List (List ℕ) → Option (List ℕ)
only_word [] = None
only_word (w ∷ []) = Some w
only_word (v ∷ w ∷ ws) = None

-- the number that one word says
abbrev pub one_number : List (List ℕ) → Option ℕ
one_number ws = option_and_then number_of (only_word ws)

-- two numbers, if both were read
abbrev pub both_numbers : Option ℕ → Option ℕ → Option (ℕ × ℕ)
both_numbers (Some a) (Some b) = Some (a, b)
both_numbers (Some a) None = None
both_numbers None b = None

-- the two numbers that two words say
unfoldable pub two_numbers : List (List ℕ) → Option (ℕ × ℕ)
two_numbers [] = None
two_numbers (w ∷ ws) = both_numbers (number_of w) (one_number ws)

-- the profile that a word names: it is the word `1` or the word `2`
abbrev pub profile_named : List ℕ → Option Profile
profile_named name =
    if bytes_eq name (codes "1") then Some One
    else if bytes_eq name (codes "2") then Some Two
    else None

-- the profile that one word names
abbrev pub profile_in : List (List ℕ) → Option Profile
profile_in ws = option_and_then profile_named (only_word ws)

-- the one word `1`
abbrev pub is_version : List (List ℕ) → Bool
is_version ws = option_map_or (λ w. bytes_eq w (codes "1")) (only_word ws) false

-- no word
abbrev pub is_nothing : List (List ℕ) → Bool
is_nothing [] = true
is_nothing (w ∷ ws) = false

-- the token of a value that was read, if any
abbrev pub kind_by : {T : Type 0} → (T → Kind) → Option T → Kind
kind_by f (Some x) = f x
kind_by f None = kind.Other

-- the token of a line of these words
unfoldable pub kind_of_words : List (List ℕ) → Kind
kind_of_words [] = kind.Other
kind_of_words (name ∷ ws) =
    if bytes_eq name (codes "edge") then kind_by (λ p. kind.Edge p.0 p.1) (two_numbers ws)
    else if bytes_eq name (codes "level") then kind_by (λ p. kind.Level p.0 p.1) (two_numbers ws)
    else if bytes_eq name (codes "vertices") then kind_by (λ n. kind.Vertices n) (one_number ws)
    else if bytes_eq name (codes "edges") then kind_by (λ m. kind.EdgeCount m) (one_number ws)
    else if bytes_eq name (codes "profile") then kind_by (λ p. kind.Profile p) (profile_in ws)
    else if bytes_eq name (codes "kcore-cert") && is_version ws then kind.Magic
    else if bytes_eq name (codes "end") && is_nothing ws then kind.Close
    else kind.Other

-- the token of a text, unless it is skipped
unfoldable pub kind_of_text : List ℕ → Option Kind
kind_of_text text = if is_skip (words text) then None else Some (kind_of_words (words text))

-- the token of a line, unless it is skipped
abbrev pub kind_of : Body → Option Kind
kind_of (body.Text text) = kind_of_text text
kind_of body.TooLong = Some kind.TooLong
kind_of body.Limit = Some kind.Limit
kind_of body.End = Some kind.InputEnd

-- the token of a line before others, unless it is skipped
abbrev pub token_before : ℕ → Option Kind → List Token → List Token
token_before number None rest = rest
token_before number (Some k) rest = record { number = number; kind = k } ∷ rest

-- the tokens of the lines that aren't skipped
unfoldable pub tokens : List Line → List Token
tokens [] = []
tokens (line ∷ rest) = token_before line.number (kind_of line.body) (tokens rest)

-- the tokens of the lines that a reader has still to give, if its source tells what it has left
abbrev pub tokens_left : Reading → Option (List ℕ) → Option (List Token)
tokens_left r left = option_map tokens (lines_left r left)
