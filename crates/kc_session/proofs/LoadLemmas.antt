-- The lines of a generated load as they are made.
use Rattle.std.proofs.Common.{ℕ, suc, zero, ◌+◌, ◌-◌, ◌<◌, ◌≤◌, ◌≡◌, ◌≢◌, Bool, true, false, List, [], ◌∷◌, ◌++◌, length, take, drop, refl, ap, sym, ◌∙◌, append_assoc, add-one, length-append, drop-drop, arith}
use Rattle.std.specs.Prelude.{decimal, codes, min}
use Rattle.std.specs.List.{flat_map, join_with_byte}
use Rattle.std.proofs.lemmas.List.{flat_map_more, length-take, length-drop, take-append-le, take-append-drop, drop_all}
use Rattle.std.proofs.Math.Seq.{take-append-add}
use Rattle.std.proofs.lemmas.Bool.Decides.{nat_tests}
use borrow.Rule.Slice.PartMut.{put_mid}
use Rattle.kc_report.proofs.lemmas.Lines.{joined}
use Rattle.kc_text.specs.Printing.{printed_line, printed}
use Rattle.kc_session.specs.declared.generator.Place.TheVariants.{Format, Vertices, FirstAsk, SecondAsk, Batch, Items}
use Rattle.kc_session.specs.declared.generator.Generator.{Generator}
use Rattle.kc_session.specs.Generated.{first_numbers, ask_words, drawn_item, after_item, drawn_items, after_items, drawn_batches}
use Rattle.kc_session.specs.Generating.{words_left}
use Rattle.kc_session.specs.private.Generating.{Makes, MakesIf}

-- one more number was appended
pub number_added : (k : ℕ) (old line more : List ℕ) → line ≡ old ++ flat_map (λ (w : ℕ). 32 ∷ decimal w) (first_numbers k) → more ≡ (line ++ codes " ") ++ decimal k
    → more ≡ old ++ flat_map (λ (w : ℕ). 32 ∷ decimal w) (first_numbers (k + 1))
unfolding first_numbers
number_added k old line more e m =
    m ∙ append_assoc line (codes " ") (decimal k) ∙ rw (e, add-one) (flat_map_more (λ (w : ℕ). 32 ∷ decimal w) old (first_numbers k) k)

-- the line of a reader
pub ask_filled : (n : ℕ) (old start line more : List ℕ) → old ≡ [] → start ≡ old ++ codes "ask 4" → line ≡ start ++ flat_map (λ (w : ℕ). 32 ∷ decimal w) (first_numbers (min n 16)) → more ≡ line ++ codes "\n"
    → more ≡ printed_line (ask_words n)
ask_filled n old start line more z s l e =
    e ∙ ap (λ (t : List ℕ). t ++ codes "\n") (l ∙ ap (λ (t : List ℕ). t ++ flat_map (λ (w : ℕ). 32 ∷ decimal w) (first_numbers (min n 16))) (s ∙ ap (λ (t : List ℕ). t ++ codes "ask 4") z))
    ∙ ap (λ (t : List ℕ). (codes "ask " ++ t) ++ codes "\n") (sym (joined (codes "4") decimal (first_numbers (min n 16))))

-- each line
pub format_made : (g : Generator) (start line : List ℕ) → g.place ≡ Format → start ≡ [] → line ≡ start ++ codes "kcore 1\n" → Makes g (record g { place = Vertices }) line
unfolding words_left
format_made g start line p z e = record { words = codes "kcore" ∷ codes "1" ∷ []; first = rw p refl; line_is = rw (e, z) refl; vertices = refl }

pub vertices_made : (g : Generator) (line : List ℕ) → g.place ≡ Vertices → line ≡ printed_line (codes "vertices" ∷ decimal g.n ∷ []) → Makes g (record g { place = FirstAsk }) line
unfolding words_left
vertices_made g line p e = record { words = codes "vertices" ∷ decimal g.n ∷ []; first = rw p refl; line_is = e; vertices = refl }

pub first_ask_made : (g : Generator) (line : List ℕ) → g.place ≡ FirstAsk → line ≡ printed_line (ask_words g.n) → Makes g (record g { place = SecondAsk }) line
unfolding words_left
first_ask_made g line p e = record { words = ask_words g.n; first = rw p refl; line_is = e; vertices = refl }

pub second_ask_made : (g : Generator) (line : List ℕ) → g.place ≡ SecondAsk → line ≡ printed_line (ask_words g.n) → Makes g (record g { place = Batch }) line
unfolding words_left
second_ask_made g line p e = record { words = ask_words g.n; first = rw p refl; line_is = e; vertices = refl }

pub no_batch_left : (g : Generator) → g.place ≡ Batch → g.batches ≡ 0 → words_left g ≡ []
unfolding words_left drawn_batches
no_batch_left g p z = rw (p, z) refl

batch_begun : (n items s batches : ℕ) → batches ≢ 0
    → drawn_batches n items s batches ≡ (codes "batch" ∷ []) ∷ drawn_items n s items ++ (codes "end" ∷ []) ∷ drawn_batches n items (after_items s items) (batches - 1)
unfolding drawn_batches
batch_begun n items s zero h = absurd (h refl)
batch_begun n items s (suc batches) h = let e : suc batches - 1 ≡ batches = omega arith in rw e refl

pub batch_made : (g : Generator) (start line : List ℕ) → g.place ≡ Batch → g.batches ≢ 0 → start ≡ [] → line ≡ start ++ codes "batch\n" → Makes g (record g { place = Items g.items; batches = g.batches - 1 }) line
unfolding words_left
batch_made g start line p h z e = record { words = codes "batch" ∷ []; first = rw p (batch_begun g.n g.items g.state g.batches h); line_is = rw (e, z) refl; vertices = refl }

pub end_made : (g : Generator) (left : ℕ) (start line : List ℕ) → g.place ≡ Items left → left ≡ 0 → start ≡ [] → line ≡ start ++ codes "end\n" → Makes g (record g { place = Batch }) line
unfolding words_left drawn_items after_items
end_made g left start line p l z e = record { words = codes "end" ∷ []; first = rw (p, l) refl; line_is = rw (e, z) refl; vertices = refl }

item_drawn : (n s left : ℕ) → left ≢ 0 → drawn_items n s left ≡ drawn_item n s ∷ drawn_items n (after_item s) (left - 1)
unfolding drawn_items
item_drawn n s zero h = absurd (h refl)
item_drawn n s (suc left) h = let e : suc left - 1 ≡ left = omega arith in rw e refl

item_passed : (s left : ℕ) → left ≢ 0 → after_items s left ≡ after_items (after_item s) (left - 1)
unfolding after_items
item_passed s zero h = absurd (h refl)
item_passed s (suc left) h = let e : suc left - 1 ≡ left = omega arith in rw e refl

pub item_made : (g : Generator) (left : ℕ) (line : List ℕ) → g.place ≡ Items left → left ≢ 0 → line ≡ printed_line (drawn_item g.n g.state) → Makes g (record g { place = Items (left - 1); state = after_item g.state }) line
unfolding words_left
item_made g left line p h e = record { words = drawn_item g.n g.state; first = rw (p, item_drawn g.n g.state left h, item_passed g.state left h) refl; line_is = e; vertices = refl }

-- a line is printed before those after it
printed_first : (words : List (List ℕ)) (rest : List (List (List ℕ))) → printed (words ∷ rest) ≡ printed_line words ++ printed rest
unfolding printed
printed_first words rest = refl

line_has_bytes : (words : List (List ℕ)) → length (printed_line words) ≡ 0 → ⊥
line_has_bytes words z = omega (arith, length-append (join_with_byte 32 words) (10 ∷ []))

read_up : (line : List ℕ) (at : ℕ) (rest : List ℕ) → length line ≤ at → drop at line ++ rest ≡ rest
read_up line at rest h = ap (λ (t : List ℕ). t ++ rest) (drop_all at line h)

-- the rest, once the next line was made
pub refilled : (old new : Generator) (line next : List ℕ) (at : ℕ) (made : Bool) → length line ≤ at → MakesIf old new next made
    → drop at line ++ printed (words_left old) ≡ drop 0 next ++ printed (words_left new)
refilled old new line next at true h m = read_up line at (printed (words_left old)) h ∙ rw m.first (printed_first m.words (words_left new)) ∙ ap (λ (t : List ℕ). t ++ printed (words_left new)) (sym m.line_is)
refilled old new line next at false h m = read_up line at (printed (words_left old)) h ∙ rw (m.1.1, m.1.0) refl

pub nothing_left : (old new : Generator) (next : List ℕ) (made : Bool) → MakesIf old new next made → 0 ≡ length next → words_left new ≡ []
nothing_left old new next true m z = absurd (line_has_bytes m.words (sym (ap (λ (t : List ℕ). length t) m.line_is) ∙ sym z))
nothing_left old new next false m z = rw m.1.0 m.0

pub same_vertices : (old new : Generator) (next : List ℕ) (made : Bool) → MakesIf old new next made → new.n ≡ old.n
same_vertices old new next true m = m.vertices
same_vertices old new next false m = ap (λ (g : Generator). g.n) m.1.0

-- a part of a line was read
pub part_given : (line more read : List ℕ) (at k : ℕ) → read ≡ take k (drop at line) → drop at line ++ more ≡ read ++ (drop (at + k) line ++ more)
part_given line more read at k e =
    ap (λ (t : List ℕ). t ++ more) (sym (take-append-drop k (drop at line)) ∙ ap (λ (t : List ℕ). take k (drop at line) ++ t) (drop-drop k at line))
    ∙ append_assoc (take k (drop at line)) (drop (at + k) line) more ∙ ap (λ (t : List ℕ). t ++ (drop (at + k) line ++ more)) (sym e)

-- if nothing was read, nothing is left
pub all_given : (g : Generator) (line : List ℕ) (at k room : ℕ) → at ≤ length line → k ≡ min (length line - at) room → 0 < room → (at ≡ length line → words_left g ≡ []) → k ≡ 0
    → drop (at + k) line ++ printed (words_left g) ≡ []
unfolding printed
all_given g line at k room h e r none z =
    let same : at ≡ length line = omega arith in
    rw (z, none same, drop_all (at + 0) line (omega arith)) refl

put_front : (count more k : ℕ) (xs ys : List ℕ) → count ≤ length xs → more ≤ length ys → take (count + more) (put_mid count k xs ys) ≡ take count xs ++ take more ys
put_front count more k xs ys h m = grind (arith, nat_tests, length-take, take-append-add, take-append-le)

pub put_length : (count : ℕ) (xs ys : List ℕ) → count ≤ length xs → length ys ≡ length xs - count → length (put_mid count (length xs - count) xs ys) ≡ length xs
put_length count xs ys h e = simp (length-append, length-take, length-drop) (omega arith)

-- more bytes were read after those read before
pub more_given : (count more k : ℕ) (first left last xs ys : List ℕ) → count ≤ length xs → more ≤ length ys → first ≡ take count xs ++ left → left ≡ take more ys ++ last
    → first ≡ take (count + more) (put_mid count k xs ys) ++ last
more_given count more k first left last xs ys h m e f =
    let cut : take (count + more) (put_mid count k xs ys) ≡ take count xs ++ take more ys = put_front count more k xs ys h m in
    e ∙ ap (λ (t : List ℕ). take count xs ++ t) f ∙ sym (append_assoc (take count xs) (take more ys) last) ∙ ap (λ (t : List ℕ). t ++ last) (sym cut)
