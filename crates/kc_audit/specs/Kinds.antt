-- What each line of a run text says by itself, of those that aren't skipped.
use Rattle.std.specs.Prelude.{ℕ, Bool, true, false, ◌&&◌, ◌||◌, List, [], ◌∷◌, Option, Some, None, is_some, if◌then◌else◌, codes}
use Rattle.std.specs.Str.{bytes_eq}
use Rattle.kc_text.specs.declared.line.Body.{Body}
use Rattle.kc_text.specs.declared.line.Body.TheVariants as body
use Rattle.kc_text.specs.declared.reason.Reason.TheVariants.{LineLong, BadLine, BadVertex, TooMany, Truncated, InputLimit, EdgeLimit, PhaseLimit}
use Rattle.kc_text.specs.Reasons.{reason_word}
use Rattle.kc_text.specs.Words.{words}
use Rattle.kc_text.specs.Numbers.{number_of}
use Rattle.kc_audit.specs.Words.{is_nothing, first_number, has_fields}

-- what a line says; a group line and a reader line keep the words after their numbers
pub data Kind : Type 0 where
  -- `kcore-run 1`
  Head : Kind
  -- `vertices N`
  Vertices : (n : ℕ) → Kind
  -- the line of an accepted batch, by its number
  Accepted : (batch : ℕ) → Kind
  -- the line of a refused batch, by its number
  Refused : (batch : ℕ) → Kind
  -- a phase, by its number and whether it inserts
  Phase : (phase : ℕ) (add : Bool) → Kind
  Group : (phase label : ℕ) (members : List (List ℕ)) → Kind
  Reader : (reader : ℕ) (replies : List (List ℕ)) → Kind
  Vertex : (v : ℕ) → Kind
  -- `end`
  Close : Kind
  -- a line of another form
  Other : Kind
  TooLong : Kind
  -- the input goes on past its limit
  Limit : Kind
  -- the input has ended
  InputEnd : Kind

-- the one word `1`
unfoldable pub is_version : List (List ℕ) → Bool
is_version [] = false
is_version (w ∷ []) = bytes_eq w (codes "1")
is_version (v ∷ w ∷ ws) = false

-- a word that is the reason of a refused batch
abbrev pub names_reason : List ℕ → Bool
names_reason w =
    bytes_eq w (reason_word LineLong) || (bytes_eq w (reason_word BadLine) || (bytes_eq w (reason_word BadVertex) || (bytes_eq w (reason_word TooMany)
    || (bytes_eq w (reason_word Truncated) || (bytes_eq w (reason_word InputLimit) || (bytes_eq w (reason_word EdgeLimit) || bytes_eq w (reason_word PhaseLimit)))))))

-- `refused line N REASON`
unfoldable pub is_refusal : List (List ℕ) → Bool
is_refusal [] = false
is_refusal (r ∷ []) = false
is_refusal (r ∷ l ∷ []) = false
is_refusal (r ∷ l ∷ n ∷ []) = false
is_refusal (r ∷ l ∷ n ∷ reason ∷ []) = bytes_eq r (codes "refused") && (bytes_eq l (codes "line") && (is_some (number_of n) && names_reason reason))
is_refusal (r ∷ l ∷ n ∷ reason ∷ w ∷ ws) = false

-- the kind of a line by what follows `batch T`
abbrev pub batch_kind : ℕ → List (List ℕ) → Kind
batch_kind t ws =
    if has_fields (words (codes "loops repeats idle removed added")) ws then Accepted t
    else if is_refusal ws then Refused t
    else Other

-- whether a phase inserts, by the word of its direction
abbrev pub direction_of : List ℕ → Option Bool
direction_of w =
    if bytes_eq w (codes "insert") then Some true
    else if bytes_eq w (codes "delete") then Some false
    else None

-- the kind of a line `phase P` by its direction, and by whether the rest is `quiet E`
abbrev pub phase_with : ℕ → Option Bool → Bool → Kind
phase_with p (Some add) true = Phase p add
phase_with p (Some add) false = Other
phase_with p None fits = Other

-- the kind of a line by what follows `phase P`
unfoldable pub direction_kind : ℕ → List (List ℕ) → Kind
direction_kind p [] = Other
direction_kind p (w ∷ ws) = phase_with p (direction_of w) (has_fields (words (codes "quiet")) ws)

-- the kind of a line by what follows `group P`
abbrev pub label_kind : ℕ → Option (ℕ × List (List ℕ)) → Kind
label_kind p (Some l) = Group p l.0 l.1
label_kind p None = Other

-- the kind of a line by its first word, the number after it, and the words after both
abbrev pub numbered_kind : List ℕ → ℕ → List (List ℕ) → Kind
numbered_kind name n ws =
    if bytes_eq name (codes "group") then label_kind n (first_number ws)
    else if bytes_eq name (codes "reader") then Reader n ws
    else if bytes_eq name (codes "vertex") && has_fields (words (codes "level est low high up down")) ws then Vertex n
    else if bytes_eq name (codes "phase") then direction_kind n ws
    else if bytes_eq name (codes "batch") then batch_kind n ws
    else if bytes_eq name (codes "vertices") && is_nothing ws then Vertices n
    else Other

-- the kind of a line by its first word and what follows, if that begins with a number
abbrev pub kind_with : List ℕ → Option (ℕ × List (List ℕ)) → Kind
kind_with name (Some p) = numbered_kind name p.0 p.1
kind_with name None = Other

-- the kind of a line by its first word and the words after it
abbrev pub named_kind : List ℕ → List (List ℕ) → Kind
named_kind name ws =
    if bytes_eq name (codes "kcore-run") && is_version ws then Head
    else if bytes_eq name (codes "end") && is_nothing ws then Close
    else kind_with name (first_number ws)

-- the kind of a line by its words
unfoldable pub kind_of_words : List (List ℕ) → Kind
kind_of_words [] = Other
kind_of_words (name ∷ ws) = named_kind name ws

-- the kind of a line
abbrev pub kind_of : Body → Kind
kind_of (body.Text text) = kind_of_words (words text)
kind_of body.TooLong = TooLong
kind_of body.Limit = Limit
kind_of body.End = InputEnd
