-- A generated load is read as an input.
use Rattle.std.proofs.Common.{ℕ, suc, zero, ◌+◌, ◌*◌, ◌%◌, ◌^◌, ◌<◌, ◌≤◌, ◌≡◌, Bool, true, false, List, [], ◌∷◌, ◌++◌, length, map, refl, ap, ◌∙◌, append_assoc, add-one, add-zero, length-append, arith}
use Rattle.std.specs.Prelude.{decimal, codes, min, nat_le, nat_lt, ◌==◌, if◌then◌else◌, Some}
use Rattle.std.specs.List.{list_all, join_with_byte, flat_map}
use Rattle.std.proofs.lemmas.Bool.{and_parts, and_from, le-leb, lt-ltb, ltb-true}
use Rattle.std.proofs.lemmas.Bool.Decides.{nat_tests}
use Rattle.std.proofs.Math.Nat.{suc-mul}
use Rattle.std.proofs.lemmas.Grind.{flat_map-append}
use Rattle.std.proofs.lemmas.List.{map-append, append-nil}
use Rattle.std.proofs.lemmas.List.Elements.{All-nil, All-cons}
use Rattle.std.proofs.lemmas.List.Folds.{list_all-append}
use Rattle.kc_text.specs.declared.line.Line.{Line}
use Rattle.kc_text.specs.declared.line.Body.TheVariants.{Text, End}
use Rattle.kc_text.specs.Words.{words, is_skip}
use Rattle.kc_text.specs.Printing.{is_word, is_line, printed_line, printed, lines_of_words}
use Rattle.kc_text.proofs.lemmas.Printing.{words_are_read_back, numbers_are_read_back, lines_are_read_back}
use Rattle.kc_batch.specs.declared.token.Token.{Token}
use Rattle.kc_graph.specs.declared.limits.TheConstants.{MAX_ITEMS}
use Rattle.kc_graph.specs.declared.items.Item as graph
use Rattle.kc_graph.specs.declared.items.Item.TheVariants.{Insert, Delete}
use Rattle.kc_batch.specs.declared.rules.Rules.{Rules}
use Rattle.kc_batch.specs.declared.turn.Turn.TheVariants.{Add}
use Rattle.kc_batch.specs.Turns.{turn_of}
use Rattle.kc_batch.specs.Batches.{Between, Within, batches_from, whole}
use Rattle.kc_batch.specs.declared.token.Kind.TheVariants.{BatchStart, Item, BatchEnd, InputEnd}
use Rattle.kc_levels.specs.declared.profile.Profile.TheVariants.{One}
use Rattle.kc_text.specs.Numbers.{number_of, value_from}
use Rattle.kc_text.specs.Kept.{kept}
use Rattle.kc_batch.specs.declared.ask.Ask.{Ask}
use Rattle.kc_report.proofs.lemmas.Lines.{joined}
use Rattle.kc_batch.specs.BatchInputs.{WithBatches, behind_header, input_of}
use Rattle.kc_batch.specs.Headers.{Accepted, profile_in, vertices_in, ask_in, numbers_of, header_of}
use Rattle.kc_batch.specs.HeaderLaw.{IsBeginning, IsAskLine}
use Rattle.kc_batch.proofs.lemmas.Inputs.{first_other_line_ends}
use Rattle.kc_session.specs.LoadInputs.{item_drawn, items_drawn, load_batches, load_ask, load_header, LoadsAreRead}
use Rattle.kc_batch.specs.Tokens.{kind_of_words, tokens}
use Rattle.kc_session.specs.Generated.{next_state, drawn, drawn_item, after_item, drawn_items, after_items, drawn_batches, first_numbers, ask_words, head_words, load_words, generated, IsLoad}

-- the words of a short line that isn't passed over
record IsSaid (ws : List (List ℕ)) : Type 0 where
  words_are : list_all is_word ws ≡ true
  stays : is_skip ws ≡ false
  short : length (join_with_byte 32 ws) ≤ 192

AreSaid : List (List (List ℕ)) → Type 0
AreSaid [] = Unit {0}
AreSaid (ws ∷ ls) = IsSaid ws × AreSaid ls

are_lines : (limit : ℕ) (ls : List (List (List ℕ))) → 192 ≤ limit → AreSaid ls → list_all (is_line limit) ls ≡ true
unfolding AreSaid
are_lines limit [] h k = refl
are_lines limit (ws ∷ ls) h k =
    and_from _ _ (and_from _ _ k.0.words_are (le-leb (length (join_with_byte 32 ws)) limit (omega (arith, k.0.short)))) (are_lines limit ls h k.1)

-- the lines aren't skipped
are_kept : (n : ℕ) (ls : List (List (List ℕ))) (rest : List Line) → AreSaid ls → kept (lines_of_words n ls ++ rest) ≡ lines_of_words n ls ++ kept rest
unfolding AreSaid lines_of_words
are_kept n [] rest k = refl
are_kept n (ws ∷ ls) rest k =
    let w : words (join_with_byte 32 ws) ≡ ws = words_are_read_back ws k.0.words_are in
    rw (w, k.0.stays, are_kept (n + 1) ls rest k.1) refl

-- the meanings of the lines
token_lines : ℕ → List (List (List ℕ)) → List Token
token_lines n [] = []
token_lines n (ws ∷ ls) = record { number = n; kind = kind_of_words ws } ∷ token_lines (n + 1) ls

are_tokens : (n : ℕ) (ls : List (List (List ℕ))) (rest : List Line) → AreSaid ls → tokens (lines_of_words n ls ++ rest) ≡ token_lines n ls ++ tokens rest
unfolding AreSaid lines_of_words token_lines
are_tokens n [] rest k = refl
are_tokens n (ws ∷ ls) rest k =
    let w : words (join_with_byte 32 ws) ≡ ws = words_are_read_back ws k.0.words_are in
    rw (w, are_tokens (n + 1) ls rest k.1) refl

-- an item
small : (w : ℕ) → w < 2 ^ 32 → is_word (decimal w) ≡ true
small w h = numbers_are_read_back.word w h

drawn_small : (s n : ℕ) → 1 ≤ n → n ≤ 16777216 → drawn s % n < 2 ^ 32
drawn_small s n h k = omega arith

two_numbers : (sign : List ℕ) (u v : ℕ) → is_word sign ≡ true → length sign ≡ 1 → is_skip (sign ∷ []) ≡ false → u < 2 ^ 32 → v < 2 ^ 32 → IsSaid (sign ∷ decimal u ∷ decimal v ∷ [])
two_numbers sign u v w e k hu hv = record {
  words_are = and_from _ _ w (and_from _ _ (small u hu) (and_from _ _ (small v hv) refl));
  stays = k;
  short =
      let a = numbers_are_read_back.short u hu in
      let b = numbers_are_read_back.short v hv in
      let c = length-append sign (32 ∷ (decimal u ++ 32 ∷ decimal v)) in
      let d = length-append (decimal u) (32 ∷ decimal v) in
      omega (arith, a, b, c, d);
}

signed_said : (leaves : Bool) (u v : ℕ) → u < 2 ^ 32 → v < 2 ^ 32 → IsSaid ((if leaves then codes "-" else codes "+") ∷ decimal u ∷ decimal v ∷ [])
signed_said true u v hu hv = two_numbers (codes "-") u v refl refl refl hu hv
signed_said false u v hu hv = two_numbers (codes "+") u v refl refl refl hu hv

item_said : (n s : ℕ) → 1 ≤ n → n ≤ 16777216 → IsSaid (drawn_item n s)
item_said n s h k =
    signed_said (drawn (next_state (next_state (next_state s))) % 4 == 0) (drawn (next_state s) % n) (drawn (next_state (next_state s)) % n)
    (drawn_small (next_state s) n h k) (drawn_small (next_state (next_state s)) n h k)

more_said : (xs ys : List (List (List ℕ))) → AreSaid xs → AreSaid ys → AreSaid (xs ++ ys)
unfolding AreSaid
more_said [] ys h k = k
more_said (x ∷ xs) ys h k = (h.0, more_said xs ys h.1 k)

items_said : (n s count : ℕ) → 1 ≤ n → n ≤ 16777216 → AreSaid (drawn_items n s count)
unfolding AreSaid drawn_items
items_said n s zero h k = tt
items_said n s (suc count) h k = (item_said n s h k, items_said n (after_item s) count h k)

batch_said : IsSaid (codes "batch" ∷ [])
batch_said = record { words_are = refl; stays = refl; short = omega arith }

end_said : IsSaid (codes "end" ∷ [])
end_said = record { words_are = refl; stays = refl; short = omega arith }

batches_said : (n items s count : ℕ) → 1 ≤ n → n ≤ 16777216 → AreSaid (drawn_batches n items s count)
unfolding AreSaid drawn_batches
batches_said n items s zero h k = tt
batches_said n items s (suc count) h k =
    (batch_said, more_said (drawn_items n s items) _ (items_said n s items h k) (end_said, batches_said n items (after_items s items) count h k))

-- the asks
first_small : (k : ℕ) → k ≤ 16 → list_all is_word (map decimal (first_numbers k)) ≡ true
unfolding first_numbers
first_small zero h = refl
first_small (suc k) h =
    ap (λ (t : List (List ℕ)). list_all is_word t) (map-append decimal (first_numbers k) (k ∷ [])) ∙ list_all-append is_word (map decimal (first_numbers k)) (decimal k ∷ [])
    ∙ and_from _ _ (first_small k (omega arith)) (and_from _ _ (small k (omega arith)) refl)

first_short : (k : ℕ) → k ≤ 16 → length (flat_map (λ (x : ℕ). 32 ∷ decimal x) (first_numbers k)) ≤ 11 * k
unfolding first_numbers
first_short zero h = omega arith
first_short (suc k) h = grind (arith, nat_tests, first_short k (omega arith), numbers_are_read_back, flat_map-append, length-append)

first_length : (k : ℕ) → length (first_numbers k) ≡ k
unfolding first_numbers
first_length zero = refl
first_length (suc k) = length-append (first_numbers k) (k ∷ []) ∙ ap (λ (m : ℕ). m + 1) (first_length k) ∙ add-one k

ask_said : (n : ℕ) → IsSaid (ask_words n)
ask_said n =
    let few : min n 16 ≤ 16 = omega arith in
    record {
      words_are = first_small (min n 16) few;
      stays = refl;
      short =
          let a = ap (λ (t : List ℕ). length t) (joined (codes "4") decimal (first_numbers (min n 16))) in
          let b = first_short (min n 16) few in
          omega (arith, a, b);
    }

format_said : IsSaid (codes "kcore" ∷ codes "1" ∷ [])
format_said = record { words_are = refl; stays = refl; short = omega arith }

vertices_said : (n : ℕ) → n ≤ 16777216 → IsSaid (codes "vertices" ∷ decimal n ∷ [])
vertices_said n h = record {
  words_are = and_from _ _ (small n (omega arith)) refl;
  stays = refl;
  short = let a = numbers_are_read_back.short n (omega arith) in omega (arith, a);
}

load_said : (seed n batches items : ℕ) → 1 ≤ n → n ≤ 16777216 → AreSaid (load_words seed n batches items)
unfolding AreSaid
load_said seed n batches items h k = (format_said, (vertices_said n k, (ask_said n, (ask_said n, batches_said n items seed batches h k))))

-- the length of the text
printed_more : (xs ys : List (List (List ℕ))) → printed (xs ++ ys) ≡ printed xs ++ printed ys
unfolding printed
printed_more xs ys = flat_map-append printed_line xs ys

printed_one : (ws : List (List ℕ)) (ls : List (List (List ℕ))) → length (printed (ws ∷ ls)) ≡ (length (join_with_byte 32 ws) + 1) + length (printed ls)
unfolding printed
printed_one ws ls = length-append (printed_line ws) (printed ls) ∙ ap (λ (m : ℕ). m + length (printed ls)) (length-append (join_with_byte 32 ws) (10 ∷ []))

numbers_short : (sign : List ℕ) (u v : ℕ) → length sign ≡ 1 → u < 2 ^ 32 → v < 2 ^ 32 → length (join_with_byte 32 (sign ∷ decimal u ∷ decimal v ∷ [])) ≤ 23
numbers_short sign u v e hu hv = grind (arith, nat_tests, numbers_are_read_back, length-append)

signed_short : (leaves : Bool) (u v : ℕ) → u < 2 ^ 32 → v < 2 ^ 32 → length (join_with_byte 32 ((if leaves then codes "-" else codes "+") ∷ decimal u ∷ decimal v ∷ [])) ≤ 23
signed_short true u v hu hv = numbers_short (codes "-") u v refl hu hv
signed_short false u v hu hv = numbers_short (codes "+") u v refl hu hv

item_short : (n s : ℕ) → 1 ≤ n → n ≤ 16777216 → length (join_with_byte 32 (drawn_item n s)) ≤ 23
item_short n s h k =
    signed_short (drawn (next_state (next_state (next_state s))) % 4 == 0) (drawn (next_state s) % n) (drawn (next_state (next_state s)) % n)
    (drawn_small (next_state s) n h k) (drawn_small (next_state (next_state s)) n h k)

items_length : (n s count : ℕ) → 1 ≤ n → n ≤ 16777216 → length (printed (drawn_items n s count)) ≤ 24 * count
unfolding drawn_items printed
items_length n s zero h k = omega arith
items_length n s (suc count) h k =
    let a = item_short n s h k in
    let b = items_length n (after_item s) count h k in
    let c = printed_one (drawn_item n s) (drawn_items n (after_item s) count) in
    omega (arith, a, b, c)

batches_length : (n items s count : ℕ) → 1 ≤ n → n ≤ 16777216 → length (printed (drawn_batches n items s count)) ≤ 24 * (count * items) + 10 * count
unfolding drawn_batches printed
batches_length n items s zero h k = omega arith
batches_length n items s (suc count) h k = grind (arith, nat_tests, batches_length n items (after_items s items) count h k, items_length, printed_one, printed_more, length-append, suc-mul)

load_length : (seed n batches items : ℕ) → 1 ≤ n → n ≤ 16777216 → batches ≤ 1024 → batches * items ≤ 33554432 → length (printed (load_words seed n batches items)) ≤ 2 ^ 30
load_length seed n batches items h k few all =
    let last = drawn_batches n items seed batches in
    let a = printed_one (codes "kcore" ∷ codes "1" ∷ []) ((codes "vertices" ∷ decimal n ∷ []) ∷ ask_words n ∷ ask_words n ∷ last) in
    let b = printed_one (codes "vertices" ∷ decimal n ∷ []) (ask_words n ∷ ask_words n ∷ last) in
    let c = printed_one (ask_words n) (ask_words n ∷ last) in
    let d = printed_one (ask_words n) last in
    let e = batches_length n items seed batches h k in
    omega (arith, a, b, c, d, e, (vertices_said n k).short, (ask_said n).short)

-- the header
four : number_of (codes "4") ≡ Some 4
unfolding value_from
four = refl

numbers_said : (n : ℕ) (xs : List ℕ) → n ≤ 2 ^ 32 → list_all (λ v. nat_lt v n) xs ≡ true → numbers_of (map decimal xs) ≡ Some xs
numbers_said n [] h k = refl
numbers_said n (x ∷ xs) h k =
    let p = and_parts (nat_lt x n) (list_all (λ v. nat_lt v n) xs) k in
    let small_x = ltb-true x n p.0 in
    let here : number_of (decimal x) ≡ Some x = numbers_are_read_back.value x (omega (arith, small_x)) in
    let rest : numbers_of (map decimal xs) ≡ Some xs = numbers_said n xs h p.1 in
    rw (here, rest) refl

first_below : (k n : ℕ) → k ≤ n → list_all (λ v. nat_lt v n) (first_numbers k) ≡ true
unfolding first_numbers
first_below zero n h = refl
first_below (suc k) n h = list_all-append (λ v. nat_lt v n) (first_numbers k) (k ∷ []) ∙ and_from _ _ (first_below k n (omega arith)) (and_from _ _ (lt-ltb k n (omega arith)) refl)

is_beginning : (n : ℕ) → 1 ≤ n → n ≤ 16777216 → IsBeginning One n (record { number = 1; body = Text (join_with_byte 32 (codes "kcore" ∷ codes "1" ∷ [])) }) (record { number = 2; body = Text (join_with_byte 32 (codes "vertices" ∷ decimal n ∷ [])) })
unfolding profile_in vertices_in
is_beginning n h k =
    let w : words (join_with_byte 32 (codes "kcore" ∷ codes "1" ∷ [])) ≡ codes "kcore" ∷ codes "1" ∷ [] = words_are_read_back (codes "kcore" ∷ codes "1" ∷ []) format_said.words_are in
    let v : words (join_with_byte 32 (codes "vertices" ∷ decimal n ∷ [])) ≡ codes "vertices" ∷ decimal n ∷ [] = words_are_read_back (codes "vertices" ∷ decimal n ∷ []) (vertices_said n k).words_are in
    record {
      profile = rw w refl;
      vertices = rw (v, numbers_are_read_back.value n (omega arith), le-leb 1 n h, le-leb n 16777216 k) refl;
    }

is_ask_line : (number n : ℕ) → 1 ≤ n → n ≤ 16777216 → IsAskLine n (record { number = number; body = Text (join_with_byte 32 (ask_words n)) }, load_ask n)
unfolding ask_in
is_ask_line number n h k =
    let vertices = first_numbers (min n 16) in
    let w : words (join_with_byte 32 (ask_words n)) ≡ ask_words n = words_are_read_back (ask_words n) (ask_said n).words_are in
    let inside : list_all (λ v. nat_lt v n) vertices ≡ true = first_below (min n 16) n (omega arith) in
    let said : numbers_of (map decimal vertices) ≡ Some vertices = numbers_said n vertices (omega arith) inside in
    let count : length vertices ≡ min n 16 = first_length (min n 16) in
    let some : nat_lt 0 (min n 16) ≡ true = lt-ltb 0 (min n 16) (omega arith) in
    let few : nat_le (4 * min n 16) 65536 ≡ true = le-leb (4 * min n 16) 65536 (omega arith) in
    record {
      first = rw w refl;
      ask = rw (w, four, said, count, some, inside, few) refl;
    }

-- the batches
batch_kind : kind_of_words (codes "batch" ∷ []) ≡ BatchStart
unfolding kind_of_words
batch_kind = refl

end_kind : kind_of_words (codes "end" ∷ []) ≡ BatchEnd
unfolding kind_of_words
end_kind = refl

signed_kind : (leaves : Bool) (u v : ℕ) → u < 2 ^ 32 → v < 2 ^ 32 → kind_of_words ((if leaves then codes "-" else codes "+") ∷ decimal u ∷ decimal v ∷ []) ≡ Item (if leaves then Delete u v else Insert u v)
unfolding kind_of_words
signed_kind true u v h k = rw (numbers_are_read_back.value u h, numbers_are_read_back.value v k) refl
signed_kind false u v h k = rw (numbers_are_read_back.value u h, numbers_are_read_back.value v k) refl

item_kind : (n s : ℕ) → 1 ≤ n → n ≤ 16777216 → kind_of_words (drawn_item n s) ≡ Item (item_drawn n (next_state s) (next_state (next_state s)) (next_state (next_state (next_state s))))
item_kind n s h k =
    signed_kind (drawn (next_state (next_state (next_state s))) % 4 == 0) (drawn (next_state s) % n) (drawn (next_state (next_state s)) % n)
    (drawn_small (next_state s) n h k) (drawn_small (next_state (next_state s)) n h k)

abbrev load_rules : ℕ → Rules
load_rules n = record { n = n; profile = One; item_limit = MAX_ITEMS }

-- an item is added if the batch isn't full
signed_turn : (n : ℕ) (leaves : Bool) (u v : ℕ) → u < n → v < n → turn_of (load_rules n) false (Item (if leaves then Delete u v else Insert u v)) ≡ Add (if leaves then Delete u v else Insert u v)
signed_turn n true u v h k = rw (lt-ltb u n h, lt-ltb v n k) refl
signed_turn n false u v h k = rw (lt-ltb u n h, lt-ltb v n k) refl

not_full : (k : ℕ) → k < MAX_ITEMS → nat_le MAX_ITEMS k ≡ false
not_full k h = grind (arith, nat_tests, h)

item_taken : (n s : ℕ) → 1 ≤ n → n ≤ 16777216 → turn_of (load_rules n) false (Item (item_drawn n (next_state s) (next_state (next_state s)) (next_state (next_state (next_state s))))) ≡ Add (item_drawn n (next_state s) (next_state (next_state s)) (next_state (next_state (next_state s))))
item_taken n s h k =
    signed_turn n (drawn (next_state (next_state (next_state s))) % 4 == 0) (drawn (next_state s) % n) (drawn (next_state (next_state s)) % n) (omega arith) (omega arith)

-- the items of a batch, and its last line
items_taken : (n s count line : ℕ) (taken : List graph.Item) (rest : List (List (List ℕ))) (tail : List Token) → 1 ≤ n → n ≤ 16777216 → length taken + count ≤ MAX_ITEMS
    → batches_from (load_rules n) (Within taken) (token_lines line (drawn_items n s count ++ (codes "end" ∷ []) ∷ rest) ++ tail)
    ≡ whole (taken ++ items_drawn n s count) (line + count) ∷ batches_from (load_rules n) Between (token_lines (line + count + 1) rest ++ tail)
unfolding batches_from token_lines drawn_items items_drawn
items_taken n s zero line taken rest tail h k few = rw (end_kind, append-nil, add-zero) refl
items_taken n s (suc count) line taken rest tail h k few =
    let item = item_drawn n (next_state s) (next_state (next_state s)) (next_state (next_state (next_state s))) in
    let room : nat_le MAX_ITEMS (length taken) ≡ false = not_full (length taken) (omega arith) in
    let more : length (taken ++ item ∷ []) + count ≤ MAX_ITEMS = omega (arith, length-append taken (item ∷ [])) in
    let there = items_taken n (after_item s) count (line + 1) (taken ++ item ∷ []) rest tail h k more in
    let number : line + 1 + count ≡ line + suc count = omega arith in
    let all : (taken ++ item ∷ []) ++ items_drawn n (after_item s) count ≡ taken ++ item ∷ items_drawn n (after_item s) count = append_assoc taken (item ∷ []) (items_drawn n (after_item s) count) in
    rw (item_kind n s h k, room, item_taken n s h k) (there ∙ rw (all, number) refl)

-- batches up to the end of the input
batches_taken : (n items s count line last : ℕ) → 1 ≤ n → n ≤ 16777216 → items ≤ MAX_ITEMS
    → batches_from (load_rules n) Between (token_lines line (drawn_batches n items s count) ++ record { number = last; kind = InputEnd } ∷ []) ≡ load_batches n items line s count
unfolding batches_from token_lines drawn_batches load_batches
batches_taken n items s zero line last h k few = refl
batches_taken n items s (suc count) line last h k few =
    let rest = drawn_batches n items (after_items s items) count in
    let here = items_taken n s items (line + 1) [] rest (record { number = last; kind = InputEnd } ∷ []) h k (omega arith) in
    let there = batches_taken n items (after_items s items) count (line + items + 2) last h k few in
    let number : line + 1 + items ≡ line + items + 1 = omega arith in
    let next : line + items + 1 + 1 ≡ line + items + 2 = omega arith in
    rw batch_kind (here ∙ rw (number, next, there) refl)

-- the header
header_read : (n items s count : ℕ) (tail : List Line) → 1 ≤ n → n ≤ 16777216
    → header_of (lines_of_words 1 (head_words n ++ drawn_batches n items s (suc count)) ++ tail) ≡ Accepted (load_header n) (lines_of_words 5 (drawn_batches n items s (suc count)) ++ tail)
unfolding lines_of_words drawn_batches
header_read n items s count tail h k =
    let w : words (join_with_byte 32 (codes "batch" ∷ [])) ≡ codes "batch" ∷ [] = words_are_read_back (codes "batch" ∷ []) batch_said.words_are in
    let first : Line × Ask = (record { number = 3; body = Text (join_with_byte 32 (ask_words n)) }, load_ask n) in
    let second : Line × Ask = (record { number = 4; body = Text (join_with_byte 32 (ask_words n)) }, load_ask n) in
    first_other_line_ends.accepted One n _ _ _ (first ∷ second ∷ []) _
    (is_beginning n h k)
    (All-cons (IsAskLine n) first (second ∷ []) (is_ask_line 3 n h k) (All-cons (IsAskLine n) second [] (is_ask_line 4 n h k) (All-nil (IsAskLine n))))
    (omega arith)
    (rw w refl)

-- the whole text
behind_read : (n items s count last : ℕ) → 1 ≤ n → n ≤ 16777216 → items ≤ MAX_ITEMS
    → behind_header MAX_ITEMS (header_of (lines_of_words 1 (head_words n ++ drawn_batches n items s (suc count)) ++ record { number = last; body = End } ∷ [])) ≡ WithBatches (load_header n) (load_batches n items 5 s (suc count))
behind_read n items s count last h k few = grind (arith, nat_tests, are_tokens, batches_said, header_read, batches_taken)

load_is_read : (line_limit input_limit seed n items count : ℕ) → 256 ≤ line_limit → 2 ^ 30 ≤ input_limit → IsLoad n (suc count) items
    → input_of line_limit input_limit MAX_ITEMS (generated seed n (suc count) items) ≡ WithBatches (load_header n) (load_batches n items 5 seed (suc count))
unfolding generated
load_is_read line_limit input_limit seed n items count long large l =
    let ls = load_words seed n (suc count) items in
    let said = load_said seed n (suc count) items l.some_vertices l.few_vertices in
    let cut = lines_are_read_back.whole line_limit input_limit ls (are_lines line_limit ls (omega arith) said) (omega (arith, load_length seed n (suc count) items l.some_vertices l.few_vertices l.few_batches l.few_in_all)) in
    let last = 1 + length ls in
    ap (λ (t : List Line). behind_header MAX_ITEMS (header_of (kept t))) cut
    ∙ ap (λ (t : List Line). behind_header MAX_ITEMS (header_of t)) (are_kept 1 ls (record { number = last; body = End } ∷ []) said)
    ∙ behind_read n items seed count last l.some_vertices l.few_vertices l.few_items

pub loads_are_read : LoadsAreRead
loads_are_read line_limit input_limit seed n zero items long large l = absurd (omega (arith, l.some_batches))
loads_are_read line_limit input_limit seed n (suc count) items long large l = load_is_read line_limit input_limit seed n items count long large l
