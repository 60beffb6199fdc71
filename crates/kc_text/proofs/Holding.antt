-- A line that is held back, and a last line that is repeated.
use Rattle.std.proofs.Common.{ℕ, ◌≡◌, true, List, [], ◌∷◌, refl, arith}
use Rattle.std.specs.Prelude.{Option, None, Some}
use Rattle.std.specs.Option.{option_map}
use Rattle.std.proofs.lemmas.Bool.Decides.{nat_tests}
use Rattle.kc_text.specs.declared.line.Line.{Line}
use Rattle.kc_text.specs.declared.line.LastLine.{LastLine}
use Rattle.kc_text.specs.declared.line.Body.{Body}
use Rattle.kc_text.specs.Scanning.{Scan, scan_lines, is_scan_decided}
use Rattle.kc_text.specs.private.Scanning.{scan_lines_left}
use Rattle.kc_text.specs.Reading.{Reading, line_of_last, lines_of_rest, lines_left, is_decided, onto, IsLast}
use Rattle.kc_text.specs.private.Reading.{last_of, last_after}

abbrev pub reading : Scan → Option LastLine → Option Line → Reading
reading scan last held = record { scan = scan; last = last; held = held }

gives : (scan : Scan) (last : Option LastLine) (n : ℕ) (body : Body) (bs : List ℕ)
    → lines_of_rest (reading scan last (Some (record { number = n; body = body }))) bs ≡ onto (record { number = n; body = body }) (lines_of_rest (reading scan (last_of n body last) None) bs)
unfolding lines_of_rest
gives scan last n body bs = grind (arith, nat_tests)

-- a line that was held back is given
pub gives_held : (scan : Scan) (last last' : Option LastLine) (held held' : Option Line) (line : Line) → held ≡ Some line → last' ≡ last_after line last → held' ≡ None
    → (bs : List ℕ) → lines_of_rest (reading scan last held) bs ≡ onto line (lines_of_rest (reading scan last' held') bs)
gives_held scan last last' held held' line e f h bs = rw (e, f, h) (gives scan last line.number line.body bs)

same : (scan : Scan) (last : Option LastLine) (n : ℕ) (body : Body) → IsLast body → (bs : List ℕ)
    → lines_of_rest (reading scan (last_of n body last) None) bs ≡ lines_of_rest (reading scan last (Some (record { number = n; body = body }))) bs
unfolding lines_of_rest
same scan last n body h bs = grind (arith, nat_tests)

-- after a last line that was held back nothing changes
pub held_same : (scan : Scan) (last last' : Option LastLine) (held held' : Option Line) (line : Line) → held ≡ Some line → last' ≡ last_after line last → held' ≡ None → IsLast line.body
    → (bs : List ℕ) → lines_of_rest (reading scan last' held') bs ≡ lines_of_rest (reading scan last held) bs
held_same scan last last' held held' line e f h l bs = rw (e, f, h) (same scan last line.number line.body l bs)

stays : (scan : Scan) (last : Option LastLine) (n : ℕ) (body : Body) → IsLast body → (bs : List ℕ)
    → lines_of_rest (reading scan (last_of n body last) None) bs ≡ record { number = n; body = body } ∷ []
unfolding lines_of_rest
stays scan last n body h bs = grind (arith, nat_tests)

-- a last line that was held back is given again
pub held_stays : (scan : Scan) (last last' : Option LastLine) (held' : Option Line) (line : Line) → last' ≡ last_after line last → held' ≡ None → IsLast line.body
    → (bs : List ℕ) → lines_of_rest (reading scan last' held') bs ≡ line ∷ []
held_stays scan last last' held' line f h l bs = rw (f, h) (stays scan last line.number line.body l bs)

-- a last line that is repeated is given
pub gives_last : (scan : Scan) (last : Option LastLine) (held : Option Line) (l : LastLine) (line : Line) → last ≡ Some l → held ≡ None → line ≡ line_of_last l
    → (bs : List ℕ) → lines_of_rest (reading scan last held) bs ≡ line ∷ []
unfolding lines_of_rest
gives_last scan last held l line e h f bs = rw (e, h, f) refl

alone : (l : LastLine) (rest : List Line) → onto (line_of_last l) rest ≡ line_of_last l ∷ []
alone l rest = grind (arith, nat_tests)

pub onto_last : (l : LastLine) (line : Line) (rest : List Line) → line ≡ line_of_last l → onto line rest ≡ line ∷ []
onto_last l line rest e = rw e (alone l rest)

-- with nothing held back, the lines are those of the scan
pub scan_comes : (scan : Scan) (last : Option LastLine) (held : Option Line) → last ≡ None → held ≡ None → (bs : List ℕ) → lines_of_rest (reading scan last held) bs ≡ scan_lines scan bs
unfolding lines_of_rest
scan_comes scan last held e h bs = rw (e, h) refl

-- a law for all bytes that the source may have left holds if the source tells its bytes
pub told : (F G : Reading) (line : Line) (left : Option (List ℕ)) → ((bs : List ℕ) → lines_of_rest F bs ≡ onto line (lines_of_rest G bs)) → lines_left F left ≡ option_map (onto line) (lines_left G left)
unfolding lines_left
told it k line left h = grind (arith, nat_tests)

pub told_same : (F G : Reading) (left : Option (List ℕ)) → ((bs : List ℕ) → lines_of_rest F bs ≡ lines_of_rest G bs) → lines_left F left ≡ lines_left G left
unfolding lines_left
told_same it k left h = grind (arith, nat_tests)

pub told_scan : (scan : Scan) (last : Option LastLine) (held : Option Line) (left : Option (List ℕ)) → last ≡ None → held ≡ None → lines_left (reading scan last held) left ≡ scan_lines_left scan left
unfolding lines_left scan_lines_left
told_scan scan last held left e h = grind (arith, nat_tests, scan_comes)

-- a line that is put back comes next
pub comes_back : (scan : Scan) (last : Option LastLine) (held held' : Option Line) (line : Line) → held ≡ None → held' ≡ Some line
    → (bs : List ℕ) → lines_of_rest (reading scan last held') bs ≡ onto line (lines_of_rest (reading scan last held) bs)
unfolding lines_of_rest
comes_back scan last held held' line e f bs = rw (e, f) refl

decided_scan : (scan : Scan) → is_decided (reading scan None None) ≡ true → is_scan_decided scan ≡ true
decided_scan scan d = d

pub decides_scan : (scan : Scan) (last : Option LastLine) (held : Option Line) → last ≡ None → held ≡ None → is_decided (reading scan last held) ≡ true → is_scan_decided scan ≡ true
decides_scan scan last held e h d = decided_scan scan (rw (e, h) at d)
