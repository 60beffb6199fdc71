-- What the words of a line say, part by part.
use Rattle.std.specs.Prelude.{ℕ, Bool, true, false, ◌==◌, ◌&&◌, nat_le, List, [], ◌∷◌, Option, Some, None, is_some, if◌then◌else◌}
use Rattle.std.specs.List.{before_first, after_first}
use Rattle.std.specs.Str.{bytes_eq}
use Rattle.kc_text.specs.Numbers.{number_of}
use Rattle.kc_history.specs.declared.replies.Reply.{Reply}

-- no word
abbrev pub is_nothing : List (List ℕ) → Bool
is_nothing [] = true
is_nothing (w ∷ ws) = false

-- a number that was read, and the words after it
abbrev pub before_words : Option ℕ → List (List ℕ) → Option (ℕ × List (List ℕ))
before_words (Some n) ws = Some (n, ws)
before_words None ws = None

-- the number of the first word, and the words after it
unfoldable pub first_number : List (List ℕ) → Option (ℕ × List (List ℕ))
first_number [] = None
first_number (w ∷ ws) = before_words (number_of w) ws

-- these names, with a number after each, and nothing more
unfoldable pub has_fields : List (List ℕ) → List (List ℕ) → Bool
has_fields [] ws = is_nothing ws
has_fields (name ∷ names) [] = false
has_fields (name ∷ names) (w ∷ []) = false
has_fields (name ∷ names) (w ∷ number ∷ ws) = bytes_eq w name && (is_some (number_of number) && has_fields names ws)

-- a number that is a level
abbrev pub level_in : Option ℕ → Option ℕ
level_in (Some l) = if nat_le l 65535 then Some l else None
level_in None = None

-- the reply of a vertex and a level, if both were read
abbrev pub reply_with : Option ℕ → Option ℕ → Option Reply
reply_with (Some v) (Some l) = Some (record { vertex = v; level = l })
reply_with (Some v) None = None
reply_with None l = None

-- the vertex and the level before and after the first mark of a word, as in `4:1` and `4=1`
abbrev pub pair_of : ℕ → List ℕ → Option Reply
pair_of mark w = reply_with (number_of (before_first (λ b. b == mark) w)) (level_in (number_of (after_first (λ b. b == mark) w)))

-- a pair before others, if all were read
abbrev pub pair_before : Option Reply → Option (List Reply) → Option (List Reply)
pair_before (Some r) (Some rs) = Some (r ∷ rs)
pair_before (Some r) None = None
pair_before None rest = None

-- the pairs of words, if each word is a pair
unfoldable pub pairs_of : ℕ → List (List ℕ) → Option (List Reply)
pairs_of mark [] = Some []
pairs_of mark (w ∷ ws) = pair_before (pair_of mark w) (pairs_of mark ws)
