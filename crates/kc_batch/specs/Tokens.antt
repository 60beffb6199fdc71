-- The meanings of the lines of batches that aren't skipped.
use Rattle.std.specs.Prelude.{ℕ, List, [], ◌∷◌, Option, Some, None, if◌then◌else◌, codes}
use Rattle.std.specs.Str.{bytes_eq}
use Rattle.std.specs.Option.{option_map}
use Rattle.kc_graph.specs.declared.items.Item.TheVariants.{Insert, Delete, Isolate}
use Rattle.kc_text.specs.declared.line.Line.{Line}
use Rattle.kc_text.specs.declared.line.Body.{Body}
use Rattle.kc_text.specs.declared.line.Body.TheVariants as body
use Rattle.kc_text.specs.Reading.{Reading}
use Rattle.kc_text.specs.Words.{words}
use Rattle.kc_text.specs.Numbers.{number_of}
use Rattle.kc_text.specs.Kept.{kept_left}
use Rattle.kc_batch.specs.declared.token.Token.{Token}
use Rattle.kc_batch.specs.declared.token.Kind.{Kind}
use Rattle.kc_batch.specs.declared.token.Kind.TheVariants.{BatchStart, Item, BatchEnd, Other, TooLong, Limit, InputEnd}

-- the insertion of u and v, if both are numbers
abbrev pub insertion : Option ℕ → Option ℕ → Kind
insertion (Some u) (Some v) = Item (Insert u v)
insertion (Some u) None = Other
insertion None v = Other

-- the deletion of u and v, if both are numbers
abbrev pub deletion : Option ℕ → Option ℕ → Kind
deletion (Some u) (Some v) = Item (Delete u v)
deletion (Some u) None = Other
deletion None v = Other

-- the isolation of v, if it is a number
abbrev pub isolation : Option ℕ → Kind
isolation (Some v) = Item (Isolate v)
isolation None = Other

-- the meaning of two words: an insertion, or `x` and an isolation
--
-- The first word and the numbers of both are given.
abbrev pub unsigned : List ℕ → Option ℕ → Option ℕ → Kind
unsigned first (Some u) v = insertion (Some u) v
unsigned first None v = if bytes_eq first (codes "x") then isolation v else Other

-- the item of a sign, u and v, if u and v are numbers
abbrev pub signed : List ℕ → Option ℕ → Option ℕ → Kind
signed sign u v =
    if bytes_eq sign (codes "+") then insertion u v
    else if bytes_eq sign (codes "-") then deletion u v
    else Other

-- the meaning of a line of these words
unfoldable pub kind_of_words : List (List ℕ) → Kind
kind_of_words [] = Other
kind_of_words (word ∷ []) =
    if bytes_eq word (codes "batch") then BatchStart
    else if bytes_eq word (codes "end") then BatchEnd
    else Other
kind_of_words (first ∷ second ∷ []) = unsigned first (number_of first) (number_of second)
kind_of_words (sign ∷ u ∷ v ∷ []) = signed sign (number_of u) (number_of v)
kind_of_words (a ∷ b ∷ c ∷ d ∷ more) = Other

-- the meaning of a line
abbrev pub kind_of : Body → Kind
kind_of (body.Text text) = kind_of_words (words text)
kind_of body.TooLong = TooLong
kind_of body.Limit = Limit
kind_of body.End = InputEnd

-- the meanings of these lines, none of which is skipped
abbrev pub tokens : List Line → List Token
tokens [] = []
tokens (line ∷ rest) = record { number = line.number; kind = kind_of line.body } ∷ tokens rest

-- the meanings of the lines that a reader has still to give, if its source tells the bytes left
abbrev pub tokens_left : Reading → Option (List ℕ) → Option (List Token)
tokens_left r left = option_map tokens (kept_left r left)
