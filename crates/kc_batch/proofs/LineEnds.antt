-- The end of an input's lines.
use Rattle.std.proofs.Common.{ℕ, zero, suc, ◌+◌, ◌==◌, ◌≡◌, ◌≤◌, Bool, true, false, List, [], ◌∷◌, ◌++◌, refl, ap, arith, subst, nat_le, length}
use Rattle.std.specs.Prelude.{All, Option, Some, None, if◌then◌else◌}
use Rattle.std.proofs.lemmas.List.Elements.{All-nil, All-cons, All-head, All-tail}
use Rattle.kc_levels.specs.declared.profile.Profile.{Profile}
use Rattle.kc_text.specs.declared.line.Line.{Line}
use Rattle.kc_text.specs.declared.line.Body.{Body}
use Rattle.kc_text.specs.declared.line.Body.TheVariants.{Text, TooLong, Limit, End}
use Rattle.kc_text.specs.Lines.{numbered_line, lines_from, lines, without_cr}
use Rattle.kc_text.specs.Words.{words, words_from}
use Rattle.kc_text.specs.Kept.{is_skipped, kept, text_of}
use Rattle.kc_text.specs.Following.{IsLast}
use Rattle.kc_batch.specs.declared.ask.Ask.{Ask}
use Rattle.kc_batch.specs.Headers.{Accepted, Refused, profile_in, vertices_in, on_profile, on_vertices, on_ask, is_ask, next_ask, asks_from, after_profile, header_of}
use Rattle.kc_batch.specs.LineLaw.{EndOnce, LinesEndOnce}

-- the last line ends the input, and no other does
abbrev Ends : List Line → Type 0
Ends [] = ⊥
Ends (l ∷ []) = IsLast l.body
Ends (l ∷ m ∷ rest) = (¬ (IsLast l.body)) × Ends (m ∷ rest)

after_one : (l : Line) (ls : List Line) → ¬ (IsLast l.body) → Ends ls → Ends (l ∷ ls)
after_one l [] h e = absurd e
after_one l (m ∷ rest) h e = (h, e)

ends_either : (c : Bool) (xs ys : List Line) → Ends xs → Ends ys → Ends (if c then xs else ys)
ends_either true xs ys h k = h
ends_either false xs ys h k = k

no_last : (fits : Bool) (text : List ℕ) → ¬ (IsLast (if fits then Text text else TooLong))
no_last true text h = h
no_last false text h = h

from_ends : (limit n room : ℕ) (piece bs : List ℕ) → Ends (lines_from limit n room piece bs)
unfolding lines_from
from_ends limit n room [] [] = tt
from_ends limit n room (x ∷ xs) [] = (no_last (nat_le (length (x ∷ xs)) limit) (without_cr (x ∷ xs)), tt)
from_ends limit n zero piece (b ∷ bs) = tt
from_ends limit n (suc room) piece (b ∷ bs) =
    ends_either (b == 10) (numbered_line limit n piece ∷ lines_from limit (n + 1) room [] bs) (lines_from limit n room (piece ++ b ∷ []) bs)
    (after_one (numbered_line limit n piece) (lines_from limit (n + 1) room [] bs) (no_last (nat_le (length piece) limit) (without_cr piece)) (from_ends limit (n + 1) room [] bs))
    (from_ends limit n room (piece ++ b ∷ []) bs)

last_kept : (body : Body) → IsLast body → is_skipped body ≡ false
last_kept (Text text) h = absurd h
last_kept TooLong h = absurd h
last_kept Limit h = refl
last_kept End h = refl

kept_ends : (ls : List Line) → Ends ls → Ends (kept ls)
kept_ends [] e = absurd e
kept_ends (l ∷ []) e = rw (last_kept l.body e) e
kept_ends (l ∷ m ∷ rest) e =
    let more = kept_ends (m ∷ rest) e.1 in
    ends_either (is_skipped l.body) (kept (m ∷ rest)) (l ∷ kept (m ∷ rest)) more (after_one l (kept (m ∷ rest)) e.0 more)

end_once : (ls : List Line) → Ends ls → EndOnce ls
end_once [] e = absurd e
end_once (l ∷ []) e = record { before = []; last = l; all = refl; is_last = e; others = All-nil (λ line. ¬ (IsLast line.body)) }
end_once (l ∷ m ∷ rest) e =
    let more = end_once (m ∷ rest) e.1 in
    record {
      before = l ∷ more.before;
      last = more.last;
      all = ap (λ (xs : List Line). l ∷ xs) more.all;
      is_last = more.is_last;
      others = All-cons (λ line. ¬ (IsLast line.body)) l more.before e.0 more.others;
    }

abbrev Numbered : List Line → Type 0
Numbered ls = All (λ line. 1 ≤ line.number) ls

numbered_either : (c : Bool) (xs ys : List Line) → Numbered xs → Numbered ys → Numbered (if c then xs else ys)
numbered_either true xs ys h k = h
numbered_either false xs ys h k = k

one_more : (l : Line) (ls : List Line) → 1 ≤ l.number → Numbered ls → Numbered (l ∷ ls)
one_more l ls h k = All-cons (λ line. 1 ≤ line.number) l ls h k

none : Numbered []
none = All-nil (λ line. 1 ≤ line.number)

from_numbered : (limit n room : ℕ) (piece bs : List ℕ) → 1 ≤ n → Numbered (lines_from limit n room piece bs)
unfolding lines_from
from_numbered limit n room [] [] h = one_more (record { number = n; body = End }) [] h none
from_numbered limit n room (x ∷ xs) [] h =
    let k : 1 ≤ n + 1 = omega (arith, h) in
    one_more (numbered_line limit n (x ∷ xs)) (record { number = n + 1; body = End } ∷ []) h (one_more (record { number = n + 1; body = End }) [] k none)
from_numbered limit n zero piece (b ∷ bs) h = one_more (record { number = n; body = Limit }) [] h none
from_numbered limit n (suc room) piece (b ∷ bs) h =
    let k : 1 ≤ n + 1 = omega (arith, h) in
    numbered_either (b == 10) (numbered_line limit n piece ∷ lines_from limit (n + 1) room [] bs) (lines_from limit n room (piece ++ b ∷ []) bs)
    (one_more (numbered_line limit n piece) (lines_from limit (n + 1) room [] bs) h (from_numbered limit (n + 1) room [] bs k))
    (from_numbered limit n room (piece ++ b ∷ []) bs h)

kept_numbered : (ls : List Line) → Numbered ls → Numbered (kept ls)
kept_numbered [] h = none
kept_numbered (l ∷ ls) h =
    let more = kept_numbered ls (All-tail (λ line. 1 ≤ line.number) l ls h) in
    numbered_either (is_skipped l.body) (kept ls) (l ∷ kept ls) more (one_more l (kept ls) (All-head (λ line. 1 ≤ line.number) l ls h) more)

-- a refused header is refused at one of its lines
at_line : (n line : ℕ) → 1 ≤ n → Refused n ≡ Refused line → 1 ≤ line
at_line n line h e = let same : n ≡ line = cc in subst (λ (k : ℕ). 1 ≤ k) same h

asks_or : (p : Profile) (n : ℕ) (asks : List Ask) (is : Bool) (ask : Option Ask) (l : Line) (rest : List Line) (line : ℕ) → 1 ≤ l.number
    → ((found : Ask) → asks_from p n (asks ++ found ∷ []) rest ≡ Refused line → 1 ≤ line)
    → (if is then on_ask l.number ask (λ found. asks_from p n (asks ++ found ∷ []) rest) else Accepted (record { profile = p; n = n; asks = asks }) (l ∷ rest)) ≡ Refused line
    → 1 ≤ line
asks_or p n asks true None l rest line h more e = at_line l.number line h e
asks_or p n asks true (Some found) l rest line h more e = more found e
asks_or p n asks false ask l rest line h more e = absurd cc

asks_at : (p : Profile) (n : ℕ) (asks : List Ask) (ls : List Line) (line : ℕ) → Numbered ls → asks_from p n asks ls ≡ Refused line → 1 ≤ line
unfolding asks_from
asks_at p n asks [] line h e = absurd cc
asks_at p n asks (l ∷ rest) line h e =
    asks_or p n asks (is_ask (words (text_of l.body))) (next_ask n asks (words (text_of l.body))) l rest line (All-head (λ line. 1 ≤ line.number) l rest h)
    (λ found f. asks_at p n (asks ++ found ∷ []) rest line (All-tail (λ line. 1 ≤ line.number) l rest h) f) e

vertices_or : (p : Profile) (count : Option ℕ) (l : Line) (rest : List Line) (line : ℕ) → Numbered (l ∷ rest) → on_vertices l.number count (λ n. asks_from p n [] rest) ≡ Refused line → 1 ≤ line
vertices_or p None l rest line h e = at_line l.number line (All-head (λ line. 1 ≤ line.number) l rest h) e
vertices_or p (Some n) l rest line h e = asks_at p n [] rest line (All-tail (λ line. 1 ≤ line.number) l rest h) e

after_at : (p : Profile) (l : Line) (rest : List Line) (line : ℕ) → Numbered (l ∷ rest) → after_profile p (l ∷ rest) ≡ Refused line → 1 ≤ line
unfolding after_profile
after_at p l rest line h e = vertices_or p (vertices_in (words (text_of l.body))) l rest line h e

-- a line that ends the input has no words
last_says_none : (body : Body) → IsLast body → profile_in (words (text_of body)) ≡ None
unfolding words_from profile_in
last_says_none (Text text) h = absurd h
last_says_none TooLong h = absurd h
last_says_none Limit h = refl
last_says_none End h = refl

profile_or : (found : Option Profile) (l : Line) (rest : List Line) (line : ℕ) → profile_in (words (text_of l.body)) ≡ found → Ends (l ∷ rest) → Numbered (l ∷ rest)
    → on_profile l.number found (λ p. after_profile p rest) ≡ Refused line → 1 ≤ line
profile_or None l rest line f h k e = at_line l.number line (All-head (λ line. 1 ≤ line.number) l rest k) e
profile_or (Some p) l [] line f h k e = let none : profile_in (words (text_of l.body)) ≡ None = last_says_none l.body h in absurd cc
profile_or (Some p) l (m ∷ rest) line f h k e = after_at p m rest line (All-tail (λ line. 1 ≤ line.number) l (m ∷ rest) k) e

header_at : (ls : List Line) (line : ℕ) → Ends ls → Numbered ls → header_of ls ≡ Refused line → 1 ≤ line
unfolding header_of
header_at [] line h k e = absurd h
header_at (l ∷ rest) line h k e = profile_or (profile_in (words (text_of l.body))) l rest line refl h k e

lines_end : (line_limit input_limit : ℕ) (bytes : List ℕ) → Ends (kept (lines line_limit input_limit bytes))
lines_end line_limit input_limit bytes = kept_ends (lines line_limit input_limit bytes) (from_ends line_limit 1 input_limit [] bytes)

lines_numbered : (line_limit input_limit : ℕ) (bytes : List ℕ) → Numbered (kept (lines line_limit input_limit bytes))
lines_numbered line_limit input_limit bytes = kept_numbered (lines line_limit input_limit bytes) (from_numbered line_limit 1 input_limit [] bytes (omega arith))

pub lines_end_once : LinesEndOnce
lines_end_once = record {
  ends = λ line_limit input_limit bytes. end_once (kept (lines line_limit input_limit bytes)) (lines_end line_limit input_limit bytes);
  numbered = lines_numbered;
  refused = λ line_limit input_limit line bytes e. header_at (kept (lines line_limit input_limit bytes)) line (lines_end line_limit input_limit bytes) (lines_numbered line_limit input_limit bytes) e;
}
