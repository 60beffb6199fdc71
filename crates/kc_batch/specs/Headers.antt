-- The header of a batch input: `kcore 1` or `kcore 2`, then `vertices N`, then up to 64 ask lines.
--
-- All lines are lines that aren't skipped. `Limit` or `End` is the last of them, so there is always one.
use Rattle.std.specs.Prelude.{ℕ, ◌≡◌, ◌<◌, ◌≤◌, ◌*◌, nat_le, nat_lt, Bool, false, ◌&&◌, List, [], ◌∷◌, ◌++◌, length, All, Option, Some, None, Result, Ok, Err, if◌then◌else◌, codes}
use Rattle.std.specs.Option.{option_map}
use Rattle.std.specs.List.{list_all}
use Rattle.std.specs.Str.{bytes_eq}
use Rattle.kc_graph.specs.declared.limits.TheConstants.{MAX_VERTICES}
use Rattle.kc_levels.specs.declared.profile.Profile.{Profile}
use Rattle.kc_levels.specs.declared.profile.Profile.TheVariants.{One, Two}
use Rattle.kc_text.specs.declared.line.Line.{Line}
use Rattle.kc_text.specs.Words.{words}
use Rattle.kc_text.specs.Numbers.{number_of}
use Rattle.kc_text.specs.Kept.{text_of}
use Rattle.kc_batch.specs.declared.ask.Ask.{Ask}
use Rattle.kc_batch.specs.HeaderShape.{HeaderShape}
use Rattle.kc_batch.specs.declared.header.HeaderFault.{HeaderFault}
use Rattle.kc_batch.specs.declared.header.HeaderFault.TheVariants as fault

-- the profile of a version, which is the word `1` or the word `2`
abbrev pub profile_of : List ℕ → Option Profile
profile_of version =
    if bytes_eq version (codes "1") then Some One
    else if bytes_eq version (codes "2") then Some Two
    else None

-- the profile of the two words `kcore` and a version
unfoldable pub profile_in : List (List ℕ) → Option Profile
profile_in (name ∷ version ∷ []) = if bytes_eq name (codes "kcore") then profile_of version else None
profile_in _ = None

-- a number of vertices, from 1 to the most vertices of a graph
abbrev pub vertex_count : Option ℕ → Option ℕ
vertex_count (Some n) = if nat_le 1 n && nat_le n MAX_VERTICES then Some n else None
vertex_count None = None

-- the number N of the two words `vertices` and N
unfoldable pub vertices_in : List (List ℕ) → Option ℕ
vertices_in (name ∷ count ∷ []) = if bytes_eq name (codes "vertices") then vertex_count (number_of count) else None
vertices_in _ = None

-- the first word is `ask`
abbrev pub is_ask : List (List ℕ) → Bool
is_ask [] = false
is_ask (name ∷ more) = bytes_eq name (codes "ask")

-- a number in front of others
abbrev pub number_before : Option ℕ → Option (List ℕ) → Option (List ℕ)
number_before (Some x) (Some xs) = Some (x ∷ xs)
number_before (Some x) None = None
number_before None rest = None

-- the numbers of these words, if each word is one
abbrev pub numbers_of : List (List ℕ) → Option (List ℕ)
numbers_of [] = Some []
numbers_of (w ∷ ws) = number_before (number_of w) (numbers_of ws)

-- `times` is at least 1, there is at least one vertex, each is below n, and there are at most 65,536 questions
abbrev pub fits_ask : ℕ → ℕ → List ℕ → Bool
fits_ask n times vertices = (nat_le 1 times && nat_lt 0 (length vertices)) && (list_all (λ v. nat_lt v n) vertices && nat_le (times * length vertices) 65536)

abbrev pub ask_with : ℕ → Option ℕ → Option (List ℕ) → Option Ask
ask_with n (Some times) (Some vertices) = if fits_ask n times vertices then Some (record { times = times; vertices = vertices }) else None
ask_with n (Some times) None = None
ask_with n None vertices = None

-- the ask of the words `ask`, a number and the vertices
unfoldable pub ask_in : ℕ → List (List ℕ) → Option Ask
ask_in n (name ∷ times ∷ vertices) = ask_with n (number_of times) (numbers_of vertices)
ask_in n _ = None

-- the ask that follows these; there is no 65th
abbrev pub next_ask : ℕ → List Ask → List (List ℕ) → Option Ask
next_ask n asks ws = if nat_lt (length asks) 64 then ask_in n ws else None

-- the beginning of some lines: a header and the lines after it, or a header that is refused at a line
pub data HeaderText : Type 0 where
  Accepted : (header : HeaderShape) (rest : List Line) → HeaderText
  Refused : (line : ℕ) → HeaderText

abbrev pub on_ask : ℕ → Option Ask → (Ask → HeaderText) → HeaderText
on_ask line None next = Refused line
on_ask line (Some ask) next = next ask

-- after `vertices N` and these asks: the header ends before the first line that is no ask line
unfoldable pub asks_from : Profile → ℕ → List Ask → List Line → HeaderText
asks_from p n asks [] = Accepted (record { profile = p; n = n; asks = asks }) []
asks_from p n asks (line ∷ rest) =
    if is_ask (words (text_of line.body)) then on_ask line.number (next_ask n asks (words (text_of line.body))) (λ ask. asks_from p n (asks ++ ask ∷ []) rest)
    else Accepted (record { profile = p; n = n; asks = asks }) (line ∷ rest)

abbrev pub on_vertices : ℕ → Option ℕ → (ℕ → HeaderText) → HeaderText
on_vertices line None next = Refused line
on_vertices line (Some n) next = next n

-- the header after its first line: the number of vertices is due
unfoldable pub after_profile : Profile → List Line → HeaderText
after_profile p [] = Refused 0
after_profile p (line ∷ rest) = on_vertices line.number (vertices_in (words (text_of line.body))) (λ n. asks_from p n [] rest)

abbrev pub on_profile : ℕ → Option Profile → (Profile → HeaderText) → HeaderText
on_profile line None next = Refused line
on_profile line (Some p) next = next p

-- the header of lines: `kcore 1` or `kcore 2` is due, which decides the profile
unfoldable pub header_of : List Line → HeaderText
header_of [] = Refused 0
header_of (line ∷ rest) = on_profile line.number (profile_in (words (text_of line.body))) (λ p. after_profile p rest)

-- the ranges of an ask of n vertices
pub record IsAsk (n : ℕ) (ask : Ask) : Type 0 where
  pub times : 1 ≤ ask.times
  pub some : 0 < length ask.vertices
  pub below : All (λ v. v < n) ask.vertices
  pub few : ask.times * length ask.vertices ≤ 65536

-- the ranges of a header
pub record IsHeader (header : HeaderShape) : Type 0 where
  pub some : 1 ≤ header.n
  pub small : header.n ≤ MAX_VERTICES
  pub few : length header.asks ≤ 64
  pub asks : All (IsAsk header.n) header.asks

-- a refusal, for any lines after it
abbrev pub refused_at : ℕ → List Line → HeaderText
refused_at line rest = Refused line

-- the answer fits what a rule says of some lines
--
-- With Ok that is the header, and the lines after it are left. With Refused the lines are refused at this line.
abbrev pub Answers : (List Line → HeaderText) → Option (List Line) → Option (List Line) → Result HeaderShape HeaderFault → Type 0
Answers rule before now (Ok header) = option_map rule before ≡ option_map (Accepted header) now
Answers rule before now (Err (fault.Refused line)) = option_map rule before ≡ option_map (refused_at line) now
Answers rule before now (Err fault.ReadFault) = Unit {0}
Answers rule before now (Err (fault.Memory _)) = Unit {0}
