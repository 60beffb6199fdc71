-- The lines that a scanner gives, and the bytes that it takes.
use Rattle.std.proofs.Common.{ℕ, suc, ◌+◌, ◌-◌, ◌<◌, ◌≤◌, ◌≡◌, ◌==◌, List, [], ◌∷◌, ◌++◌, length, take, drop, arith, refl, sym, ap, ◌∙◌, subst, append_assoc, get_or, true, false, Bool, nat_le, add-one, drop-cons}
use Rattle.std.specs.Prelude.{Option, if◌then◌else◌, ◌&&◌, ◌||◌, nat_lt, not, ◌*◌}
use Rattle.std.proofs.lemmas.List.{length-append, length-take-le, take-append-drop, length-drop, get_or-take}
use Rattle.std.proofs.lemmas.Bool.Decides.{nat_tests}
use Rattle.std.proofs.lemmas.Bool.{cases_lt}
use Rattle.kc_text.specs.declared.line.Line.{Line}
use Rattle.kc_text.specs.declared.line.Body.{Body}
use Rattle.kc_text.specs.declared.line.Body.TheVariants.{Text, TooLong, Limit, End}
use Rattle.kc_text.specs.Lines.{lines, lines_from, numbered_line, last_of, at_limit, body_of, without_cr}
use Rattle.std.specs.Io.KnownBytes.{prepend_known, IsAtEnd}
use Rattle.std.specs.Option.{option_map}
use Rattle.std.specs.List.{list_any}
use borrow.Author.Tests.{ltb-true}
use Rattle.kc_text.specs.Following.{onto, behind, Takes, IsLast}
use Rattle.kc_text.specs.Scanning.{Scan, scan_lines, is_scan_decided}
use Rattle.kc_text.specs.WholeLines.{IsWhole, whole_line}
use Rattle.kc_text.specs.private.Scanning.{scan_lines_left}
use Rattle.kc_text.specs.private.ScannerSteps.{Gives, Absorbs}
use Rattle.kc_text.proofs.Passing.{HasNoEnd, pass_over, line_closed, limit_met, over_same}
use Rattle.kc_text.proofs.Ends.{FirstEnd}

pub behind_line : (limit : ℕ) (piece : List ℕ) (rest : List Line) → behind (body_of limit piece) rest ≡ rest
behind_line limit piece rest = elim (nat_le (length piece) limit) as (λ b. behind (if b then Text (without_cr piece) else TooLong) rest ≡ rest) [ true ↦ refl | false ↦ refl ]

pub takes_line : (limit : ℕ) (piece : List ℕ) (old new : ℕ) → new < old → Takes (body_of limit piece) old new
takes_line limit piece old new h = elim (nat_le (length piece) limit) as (λ b. Takes (if b then Text (without_cr piece) else TooLong) old new) [ true ↦ h | false ↦ h ]

pub not_last : (limit : ℕ) (piece : List ℕ) → IsLast (body_of limit piece) → ⊥
not_last limit piece = elim (nat_le (length piece) limit) as (λ b. IsLast (if b then Text (without_cr piece) else TooLong) → ⊥) [ true ↦ λ h. h | false ↦ λ h. h ]

-- whether what was read decides the next line
decided_full : (room : ℕ) (ready : List ℕ) (ended : Bool) → room < length ready → (ended || (nat_lt room (length ready) || list_any (λ b. b == 10) ready)) ≡ true
decided_full room ready ended h = grind (arith, nat_tests, ltb-true room (length ready))

no_end_any : (c : List ℕ) → HasNoEnd c → list_any (λ b. b == 10) c ≡ false
no_end_any [] h = refl
no_end_any (x ∷ xs) h =
    let e : (x == 10) ≡ false = h 0 (omega arith) in
    rw (e, no_end_any xs (λ k lt. h (suc k) (omega arith))) refl

undecided : (room : ℕ) (ready : List ℕ) → length ready ≤ room → HasNoEnd ready → (nat_lt room (length ready) || list_any (λ b. b == 10) ready) ≡ false
undecided room ready h f = grind (arith, nat_tests, no_end_any)

cut_at : (ready : List ℕ) (at : ℕ) → at < length ready → get_or ready at 0 ≡ 10 → ready ≡ take at ready ++ 10 ∷ drop (at + 1) ready
cut_at ready at h e = grind (arith, nat_tests, add-one, drop-cons, take-append-drop)

-- the lines of a rest that begins with c and an end
closed : (limit n room room' : ℕ) (piece ready c d more : List ℕ) → ready ≡ c ++ 10 ∷ d → room ≡ length c + suc room' → HasNoEnd c
    → lines_from limit n room piece (ready ++ more) ≡ numbered_line limit n (piece ++ c) ∷ lines_from limit (n + 1) room' [] (d ++ more)
closed limit n room room' piece ready c d more e er h = rw (e, append_assoc) (line_closed limit n room' room piece c (d ++ more) er h)

pub gives_line : (limit n room : ℕ) (piece ready : List ℕ) (ended : Bool) (within at : ℕ) (body : Body) (room' : ℕ) (piece' ready' : List ℕ)
    → within ≤ length ready → within ≤ room → FirstEnd ready within at → body ≡ body_of limit (piece ++ take at ready)
    → room' ≡ room - (at + 1) → piece' ≡ [] → ready' ≡ drop (at + 1) ready
    → Gives (record { number = n; body = body }) (record { limit = limit; number = n; room = room; piece = piece; ready = ready; ended = ended })
    (record { limit = limit; number = n + 1; room = room'; piece = piece'; ready = ready'; ended = ended })
unfolding scan_lines
gives_line limit n room piece ready ended within at body room' piece' ready' w1 w2 f e er ep ed = grind (arith, nat_tests, behind_line, closed, cut_at, length-take-le, takes_line, not_last, f.below, f.here, f.before)

-- the lines of a rest that is longer than the room, with no end within it
limited : (limit n room : ℕ) (piece c d more : List ℕ) → room ≡ length c → HasNoEnd c → 0 < length d → lines_from limit n room piece ((c ++ d) ++ more) ≡ at_limit n
limited limit n room piece c [] more e h p = absurd (omega arith)
limited limit n room piece c (b ∷ d) more e h p = rw append_assoc (limit_met limit n room piece c b (d ++ more) e h)

pub gives_limit : (limit n room : ℕ) (piece ready : List ℕ) (ended : Bool) → room < length ready → HasNoEnd (take room ready)
    → let r : Scan = record { limit = limit; number = n; room = room; piece = piece; ready = ready; ended = ended } in Gives (record { number = n; body = Limit }) r r
unfolding scan_lines
gives_limit limit n room piece ready ended h f = record {
  lines = λ bs.
      let more = if ended then [] else bs in
      let all = limited limit n room piece (take room ready) (drop room ready) more (sym (length-take-le room ready (omega arith))) f (simp length-drop (omega arith)) in
      rw take-append-drop at all;
  takes = omega arith;
  last = λ _. refl;
  settled = λ _. decided_full room ready ended h;
}

-- the lines of a rest whose front has no end
passed : (limit n room room' : ℕ) (piece piece' c more : List ℕ) → room ≡ length c + room' → HasNoEnd c
    → length piece' ≡ length piece + length c → (length piece' ≤ limit → piece' ≡ piece ++ c)
    → lines_from limit n room piece (c ++ more) ≡ lines_from limit n room' piece' more
passed limit n room room' piece piece' c more e h len same =
    let all = pass_over limit n room' room piece c more e h in
    grind (arith, nat_tests, cases_lt limit (length piece'), over_same, length-append)

work_falls : (room room' : ℕ) (ready ready' : List ℕ) → room' ≡ room - length ready → ready' ≡ [] → length ready ≤ room
    → 2 * room' + (if (length ready' == 0) && not false then 1 else 0) ≤ 2 * room + (if (length ready == 0) && not false then 1 else 0)
work_falls room room' ready ready' e er h = grind (arith, nat_tests)

pub absorbs : (limit n room : ℕ) (piece ready piece' : List ℕ) (room' : ℕ) (ready' : List ℕ) → length ready ≤ room → HasNoEnd ready
    → length piece' ≡ length piece + length ready → (length piece' ≤ limit → piece' ≡ piece ++ ready) → room' ≡ room - length ready → ready' ≡ []
    → Absorbs (record { limit = limit; number = n; room = room; piece = piece; ready = ready; ended = false }) (record { limit = limit; number = n; room = room'; piece = piece'; ready = ready'; ended = false })
unfolding scan_lines
absorbs limit n room piece ready piece' room' ready' h f len same er ed = record {
  lines = λ bs. rw ed (passed limit n room room' piece piece' ready bs (omega arith) f len same);
  ready = ed;
  ended = refl;
  budget = omega arith;
  work = work_falls room room' ready ready' er ed h;
  open_before = undecided room ready h f;
}

-- the end, and the line before it
pub gives_end : (limit n room : ℕ) (piece ready : List ℕ) (ended : Bool) → piece ≡ [] → ready ≡ [] → ended ≡ true
    → let r : Scan = record { limit = limit; number = n; room = room; piece = piece; ready = ready; ended = ended } in Gives (record { number = n; body = End }) r r
unfolding scan_lines lines_from
gives_end limit n room piece ready ended ep er ee = record { lines = λ bs. rw (ep, er, ee) refl; takes = omega arith; last = λ _. refl; settled = λ _. rw ee refl }

last_line : (limit n : ℕ) (piece : List ℕ) → 0 < length piece → last_of limit n piece ≡ numbered_line limit n piece ∷ record { number = n + 1; body = End } ∷ []
last_line limit n piece h = grind (arith, nat_tests)

pub gives_last : (limit n room : ℕ) (piece ready : List ℕ) (ended : Bool) (body : Body) (piece' : List ℕ) → 0 < length piece → ready ≡ [] → ended ≡ true → body ≡ body_of limit piece → piece' ≡ []
    → Gives (record { number = n; body = body }) (record { limit = limit; number = n; room = room; piece = piece; ready = ready; ended = ended })
    (record { limit = limit; number = n + 1; room = room; piece = piece'; ready = ready; ended = ended })
unfolding scan_lines lines_from
gives_last limit n room piece ready ended body piece' h er ee e ep = record {
  lines = λ bs. rw (er, ee, ep, e, behind_line) (last_line limit n piece h);
  takes = rw (e, ep) (takes_line limit piece _ _ (omega arith));
  last = λ h. absurd (not_last limit _ (subst IsLast e h));
  settled = λ h. absurd (not_last limit _ (subst IsLast e h));
}

pub short : (limit : ℕ) (piece : List ℕ) → length piece ≤ limit → body_of limit piece ≡ Text (without_cr piece)
short limit piece h = grind (arith, nat_tests)

-- a line that lies whole in the bytes that were read is given
pub gives_whole : (limit n room : ℕ) (piece ready : List ℕ) (ended : Bool) (len room' : ℕ) (piece' ready' : List ℕ)
    → IsWhole len (record { limit = limit; number = n; room = room; piece = piece; ready = ready; ended = ended }) → room' ≡ room - (len + 1) → piece' ≡ [] → ready' ≡ drop (len + 1) ready
    → Gives (whole_line n len (record { limit = limit; number = n; room = room; piece = piece; ready = ready; ended = ended })) (record { limit = limit; number = n; room = room; piece = piece; ready = ready; ended = ended })
    (record { limit = limit; number = n + 1; room = room'; piece = piece'; ready = ready'; ended = ended })
gives_whole limit n room piece ready ended len room' piece' ready' h er ep ed =
    let l = length-take-le len ready (omega (arith, h.within)) in
    let first : FirstEnd ready (len + 1) len = record {
      below = omega arith;
      before = λ k lt. let k' : k < len = omega (arith, l) in rw (get_or-take len ready k 0 k') (h.before k k');
      here = h.end;
    } in
    gives_line limit n room piece ready ended (len + 1) len _ room' piece' ready' (omega (arith, h.within)) (omega (arith, h.room)) first (rw h.fresh (sym (short limit (take len ready) (omega (arith, l, h.few))))) er ep ed

-- a read moves bytes from the source to the reader
pub filled : (limit n room : ℕ) (piece ready new : List ℕ) (ended : Bool) (old left : Option (List ℕ)) → ready ≡ [] → ended ≡ false → old ≡ prepend_known new left
    → scan_lines_left (record { limit = limit; number = n; room = room; piece = piece; ready = new; ended = ended }) left ≡ scan_lines_left (record { limit = limit; number = n; room = room; piece = piece; ready = ready; ended = ended }) old
unfolding scan_lines_left scan_lines
filled limit n room piece ready new ended old left er ee e = grind (arith, nat_tests)

-- a read at the end finds nothing
pub at_end : (limit n room : ℕ) (piece ready new : List ℕ) (ended : Bool) (old left : Option (List ℕ)) → ready ≡ [] → ended ≡ false → new ≡ [] → old ≡ prepend_known new left → IsAtEnd left
    → scan_lines_left (record { limit = limit; number = n; room = room; piece = piece; ready = new; ended = true }) left ≡ scan_lines_left (record { limit = limit; number = n; room = room; piece = piece; ready = ready; ended = ended }) old
unfolding scan_lines_left scan_lines
at_end limit n room piece ready new ended old left er ee en e h = grind (arith, nat_tests)

pub told_line : (line : Line) (old new : Scan) (left : Option (List ℕ)) → Gives line old new → scan_lines_left old left ≡ option_map (onto line) (scan_lines_left new left)
unfolding scan_lines_left
told_line line old new left h = grind (arith, nat_tests)

pub told_same : (old new : Scan) (left : Option (List ℕ)) → Absorbs old new → scan_lines_left old left ≡ scan_lines_left new left
unfolding scan_lines_left
told_same old new left h = grind (arith, nat_tests)

pub told_fresh : (limit room : ℕ) (piece ready : List ℕ) (left : Option (List ℕ)) → piece ≡ [] → ready ≡ []
    → scan_lines_left (record { limit = limit; number = 1; room = room; piece = piece; ready = ready; ended = false }) left ≡ option_map (lines limit room) left
unfolding scan_lines_left scan_lines
told_fresh limit room piece ready left ep er = grind (arith, nat_tests)

-- the bytes that were read can't both decide the next line and leave it open
pub opened : (first now : Scan) → is_scan_decided first ≡ true → is_scan_decided now ≡ false → now ≡ first → ⊥
opened first now d o e = let x : true ≡ false = sym d ∙ ap is_scan_decided (sym e) ∙ o in cc

-- the line is the same, for all bytes that come, as that of the first scanner
pub decided_line : (line : Line) (first now new : Scan) → now ≡ first → Gives line now new → (bs : List ℕ) → scan_lines first bs ≡ onto line (scan_lines new bs)
decided_line line first now new e h bs = ap (λ r. scan_lines r bs) (sym e) ∙ h.lines bs

pub none_behind : (body : Body) (rest : List Line) → IsLast body → behind body rest ≡ []
none_behind body rest h = grind (arith, nat_tests)

-- the last line comes again
pub gives_again : (line : Line) (old new : Scan) → Gives line old new → IsLast line.body → (bs : List ℕ) → scan_lines new bs ≡ line ∷ []
gives_again line old new h l bs = ap (λ r. scan_lines r bs) (h.last l) ∙ h.lines bs ∙ ap (λ rest. line ∷ rest) (none_behind line.body (scan_lines new bs) l)
