-- Lines that say items, and what these items add to a batch.
use Rattle.std.proofs.Common.{ℕ, ◌+◌, ◌-◌, ◌<◌, ◌≤◌, ◌≡◌, ◌∙◌, Bool, true, false, List, [], ◌∷◌, ◌++◌, length, take, drop, nat_le, refl, sym, ap, arith, append_assoc}
use Rattle.std.specs.Prelude.{All, Option, Some, None, if◌then◌else◌, min}
use Rattle.std.specs.Option.{option_map}
use Rattle.std.proofs.lemmas.List.{append-nil, length-append, length-drop, length-take, length-take-le, take_all, take-append-drop, take-append-le}
use Rattle.std.proofs.Math.Seq.{take-append_seam, take-add}
use Rattle.std.proofs.lemmas.List.Elements.{All-nil, All-cons, All-head, All-tail, All-append, All-weaker}
use Rattle.std.proofs.lemmas.Bool.Decides.{nat_tests}
use Rattle.kc_graph.specs.Cleaning.{IsInside}
use Rattle.kc_graph.specs.declared.items.Item.{Item}
use Rattle.kc_text.specs.declared.number_line.Sign.{Sign}
use Rattle.kc_text.specs.declared.reason.Reason.TheVariants.{BadLine, BadVertex, TooMany}
use Rattle.kc_text.specs.Lines.{without_cr}
use Rattle.kc_text.specs.NumberLines.{SayNumbers}
use Rattle.kc_text.specs.Reading.{Reading, lines_left, lines_of_rest}
use Rattle.kc_text.specs.Scanning.{Scan, scan_lines}
use Rattle.kc_text.specs.WholeLines.{EndsAt, Offers, OffersLines, AreReady, scan_after}
use Rattle.kc_text.specs.Words.{words}
use Rattle.kc_text.proofs.lemmas.WholeLines.{first_line}
use Rattle.kc_batch.specs.declared.rules.Rules.{Rules}
use Rattle.kc_batch.specs.declared.token.Token.{Token}
use Rattle.kc_batch.specs.declared.token.Kind.TheVariants as kind
use Rattle.kc_batch.specs.declared.turn.Turn.TheVariants.{Add, Pass}
use Rattle.kc_batch.specs.Batches.{Within, batch_from, batches_from}
use Rattle.kc_batch.specs.Tokens.{tokens_left}
use Rattle.kc_batch.specs.Turns.{IsItemOf, is_allowed, is_inside, turn_of}
use Rattle.kc_batch.specs.private.Adding.{AreItems, Adds}
use Rattle.kc_batch.specs.private.ItemLines.{item_tokens, tokens_in, SayItems, AddLines, WalksLines}
use Rattle.kc_batch.specs.private.Tokens.{item_of, onto_token}
use Rattle.kc_batch.proofs.Aheads.{within_add, is_inside_of}
use Rattle.kc_batch.proofs.NumberLines.{number_item}
use Rattle.kc_batch.proofs.Stepping.{items_add, step_on}

-- 1. Bytes that say items.

pub say_none : (limit : ℕ) → SayItems limit [] []
say_none limit = record {
  few = omega arith;
  tokens = λ n room total rest e. let z : n + 0 ≡ n = omega arith in let t : total ≡ room = omega (arith, e) in rw (t, z) refl;
}

item_tokens-append : (n : ℕ) (xs ys : List Item) → item_tokens n (xs ++ ys) ≡ item_tokens n xs ++ item_tokens (n + length xs) ys
item_tokens-append n [] ys = let z : n + 0 ≡ n = omega arith in rw z refl
item_tokens-append n (x ∷ xs) ys =
    let s : n + length (x ∷ xs) ≡ (n + 1) + length xs = omega arith in
    rw s (ap (λ ts. record { number = n; kind = kind.Item x } ∷ ts) (item_tokens-append (n + 1) xs ys))

-- after bytes that say items come bytes that say more
pub say_more : (limit : ℕ) (bs cs : List ℕ) (xs ys : List Item) → SayItems limit bs xs → SayItems limit cs ys → SayItems limit (bs ++ cs) (xs ++ ys)
say_more limit bs cs xs ys p q = record {
  few = rw (length-append, length-append) (omega (arith, p.few, q.few));
  tokens = λ n room total rest e.
      let l = length-append bs cs in
      let one = p.tokens n (length cs + room) total (cs ++ rest) (omega (arith, l, e)) in
      let two = q.tokens (n + length xs) room (length cs + room) rest refl in
      let sum : n + (length xs + length ys) ≡ (n + length xs) + length ys = omega arith in
      rw (append_assoc, item_tokens-append, append_assoc, length-append xs ys, sum) (one ∙ ap (λ ts. item_tokens n xs ++ ts) two);
}

-- one line
pub say_line : (limit len : ℕ) (bytes : List ℕ) (sign : Option Sign) (u v : ℕ) → EndsAt bytes len → len ≤ limit → SayNumbers (words (without_cr (take len bytes))) sign u v
    → SayItems limit (take (len + 1) bytes) (item_of sign u v ∷ [])
say_line limit len bytes sign u v h few a =
    let s = number_item _ sign u v a in
    let l = length-take-le (len + 1) bytes (omega (arith, h.within)) in
    record {
      few = omega (arith, l);
      tokens = λ n room total rest e. rw (first_line limit n room total len bytes rest h few (omega (arith, l, e)), s.kept, s.kind) refl;
    }

-- 2. The turns of items.

added_same : (allowed inside full : Bool) (i x : Item) → (if allowed then (if inside then (if full then Pass TooMany else Add i) else Pass BadVertex) else Pass BadLine) ≡ Add x → i ≡ x
added_same false inside full i x e = absurd cc
added_same true false full i x e = absurd cc
added_same true true true i x e = absurd cc
added_same true true false i x e = cc

add_turn : (rules : Rules) (items : List Item) (item : Item) → length items < rules.item_limit → IsItemOf rules item → turn_of rules (nat_le rules.item_limit (length items)) (kind.Item item) ≡ Add item
add_turn rules items item few h =
    let f : nat_le rules.item_limit (length items) ≡ false = grind (arith, nat_tests, few) in
    rw (h.allowed, is_inside_of rules.n item h.inside, f) refl

runs : {X : Type 0} (F : List Item → List Token → X) (rules : Rules)
    → ((items : List Item) (t : Token) (item : Item) → turn_of rules (nat_le rules.item_limit (length items)) t.kind ≡ Add item → (rest : List Token) → F items (onto_token t rest) ≡ F (items ++ item ∷ []) rest)
    → (n : ℕ) (old added : List Item) → length (old ++ added) ≤ rules.item_limit → All (IsItemOf rules) added → (rest : List Token) → F old (item_tokens n added ++ rest) ≡ F (old ++ added) rest
runs F rules step n old [] few all rest = rw append-nil refl
runs F rules step n old (x ∷ xs) few all rest =
    let l = length-append old (x ∷ xs) in
    let t : Token = record { number = n; kind = kind.Item x } in
    let one = step old t x (add_turn rules old x (omega (arith, l, few)) (All-head (IsItemOf rules) x xs all)) (item_tokens (n + 1) xs ++ rest) in
    let more = runs F rules step (n + 1) (old ++ x ∷ []) xs (rw append_assoc few) (All-tail (IsItemOf rules) x xs all) rest in
    one ∙ rw append_assoc at more

-- 3. The lines of a reader.

-- the bytes that were read, cut after the first `len` of them
cut_ready : (bytes : List ℕ) (len : ℕ) (scan : Scan) → Offers bytes scan → len ≤ length bytes → scan.ready ≡ take len bytes ++ drop len scan.ready
cut_ready bytes len scan o few =
    let r = scan.ready in
    let all : bytes ++ drop scan.room r ≡ r = rw o.bytes_are (take-append-drop scan.room r) in
    let front : take len r ≡ take len bytes = ap (take len) (sym all) ∙ take-append-le len bytes (drop scan.room r) few in
    sym (take-append-drop len r) ∙ ap (λ x. x ++ drop len r) front

offered : (bytes : List ℕ) (scan : Scan) → Offers bytes scan → length bytes ≡ min scan.room (length scan.ready)
offered bytes scan o = ap length o.bytes_are ∙ length-take scan.room scan.ready

told_items : (before : Reading) (bytes : List ℕ) (len count : ℕ) (added : List Item) (left : Option (List ℕ)) → OffersLines bytes before → len ≤ length bytes → SayItems before.scan.limit (take len bytes) added → count ≡ length added
    → tokens_left before left ≡ option_map (λ rest. item_tokens before.scan.number added ++ rest) (tokens_left (record before { scan = scan_after len count before.scan }) left)
unfolding lines_left lines_of_rest scan_lines
told_items before bytes len count added None o few say e = refl
told_items before bytes len count added (Some bs) o few say e =
    let s = before.scan in
    let to = if s.ended then [] else bs in
    let all : s.room ≡ length (take len bytes) + (s.room - len) = omega (arith, length-take-le len bytes few, offered bytes s o.scan) in
    let told = say.tokens s.number (s.room - len) s.room (drop len s.ready ++ to) all in
    rw (o.held, o.last, o.scan.fresh, e) (ap Some (ap (λ x. tokens_in s.limit s.number s.room (x ++ to)) (cut_ready bytes len s o.scan few) ∙ rw append_assoc told))

counted : (old new added : List Item) (count : ℕ) → new ≡ old ++ added → count ≡ length new - length old → count ≡ length added
counted old new added count e c = let l = ap length e ∙ length-append old added in omega (arith, l, c)

-- a batch goes on after lines that add items
pub adds_items : (rules : Rules) (old new : List Item) (before : Reading) (bytes : List ℕ) (len count : ℕ) → OffersLines bytes before → len ≤ length bytes → length new ≤ rules.item_limit
    → (a : AddLines rules before.scan.limit (take len bytes) old new) → count ≡ length new - length old → Adds rules old before new (record before { scan = scan_after len count before.scan })
adds_items rules old new before bytes len count o few room a e =
    let c = counted old new a.added count a.new_is e in
    let put = λ (rest : List Token). item_tokens before.scan.number a.added ++ rest in
    let fits : length (old ++ a.added) ≤ rules.item_limit = rw a.new_is at room in
    record {
      batch = λ left. step_on (batch_from rules (Within old)) (batch_from rules (Within new)) put _ _ (told_items before bytes len count a.added left o few a.say c)
          (λ rest. rw a.new_is (runs (λ items. batch_from rules (Within items)) rules (λ items t item h rest. items_add rules items t item _ refl h rest) before.scan.number old a.added fits a.sound rest));
      batches = λ left. step_on (batches_from rules (Within old)) (batches_from rules (Within new)) put _ _ (told_items before bytes len count a.added left o few a.say c)
          (λ rest. rw a.new_is (runs (λ items. batches_from rules (Within items)) rules (λ items t item h rest. within_add rules items t item _ refl h rest) before.scan.number old a.added fits a.sound rest));
    }

-- the reader can be moved over these lines
pub can_pass : (rules : Rules) (old new : List Item) (before : Reading) (bytes : List ℕ) (len count : ℕ) → OffersLines bytes before → len ≤ length bytes
    → AddLines rules before.scan.limit (take len bytes) old new → count ≡ length new - length old → AreReady len count before.scan
can_pass rules old new before bytes len count o few a e =
    let c = counted old new a.added count a.new_is e in
    let b = offered bytes before.scan o.scan in
    record {
      fresh = o.scan.fresh;
      room = omega (arith, b, few);
      within = omega (arith, b, few);
      few = omega (arith, c, a.say.few, length-take-le len bytes few);
    }

-- 4. Lists to which lines add items.

pub add_none : (rules : Rules) (limit : ℕ) (items : List Item) → AddLines rules limit [] items items
add_none rules limit items = record { added = []; new_is = sym (append-nil items); say = say_none limit; sound = All-nil (IsItemOf rules) }

pub add_more : (rules : Rules) (limit : ℕ) (bs cs : List ℕ) (old mid new : List Item) → AddLines rules limit bs old mid → AddLines rules limit cs mid new → AddLines rules limit (bs ++ cs) old new
add_more rules limit bs cs old mid new p q = record {
  added = p.added ++ q.added;
  new_is = q.new_is ∙ rw (p.new_is, append_assoc) refl;
  say = say_more limit bs cs p.added q.added p.say q.say;
  sound = All-append (IsItemOf rules) p.added q.added p.sound q.sound;
}

pub add_line : (rules : Rules) (limit len : ℕ) (bytes : List ℕ) (sign : Option Sign) (u v : ℕ) (full : Bool) (items : List Item) (item : Item)
    → EndsAt bytes len → len ≤ limit → SayNumbers (words (without_cr (take len bytes))) sign u v → turn_of rules full (kind.Item (item_of sign u v)) ≡ Add item → IsItemOf rules item
    → AddLines rules limit (take (len + 1) bytes) items (items ++ item ∷ [])
add_line rules limit len bytes sign u v full items item h few a t s =
    let e = added_same (is_allowed rules.profile (item_of sign u v)) (is_inside rules.n (item_of sign u v)) full _ item t in
    record {
      added = item ∷ [];
      new_is = refl;
      say = rw e at (say_line limit len bytes sign u v h few a);
      sound = All-cons (IsItemOf rules) item [] s (All-nil (IsItemOf rules));
    }

-- the items that a list has with those that come to it
pub still_items : (rules : Rules) (limit : ℕ) (bytes : List ℕ) (old new : List Item) → AreItems rules old → length new ≤ rules.item_limit → AddLines rules limit bytes old new → AreItems rules new
still_items rules limit bytes old new o few a = record {
  few = few;
  inside = rw a.new_is (All-append (IsInside rules.n) old a.added o.inside (All-weaker (IsItemOf rules) (IsInside rules.n) (λ item h. h.inside) a.added a.sound));
  allowed = rw a.new_is (All-append (λ item. is_allowed rules.profile item ≡ true) old a.added o.allowed (All-weaker (IsItemOf rules) (λ item. is_allowed rules.profile item ≡ true) (λ item h. h.allowed) a.added a.sound));
}

pub gone_is : (bytes gone rest : List ℕ) → bytes ≡ gone ++ rest → take (length bytes - length rest) bytes ≡ gone
gone_is bytes gone rest e =
    let n : length (gone ++ rest) - length rest ≡ length gone = omega (arith, length-append gone rest) in
    rw (e, n) (take-append_seam gone rest)

-- 5. Two parts of the bytes.

-- the walk goes over the first part and on in the second
pub walk_on : (rules : Rules) (limit place first len : ℕ) (bytes : List ℕ) (old mid new : List Item) → place ≤ length bytes → place ≤ first → WalksLines rules limit (take place bytes) old mid first
    → WalksLines rules limit (drop place bytes) mid new len → WalksLines rules limit bytes old new (place + len)
walk_on rules limit place first len bytes old mid new h k p q =
    let l = length-take-le place bytes h in
    let d = length-drop place bytes in
    let all : take first (take place bytes) ≡ take place bytes = take_all _ _ (omega (arith, l, k)) in
    let more = add_more rules limit (take place bytes) (take len (drop place bytes)) old mid new (rw all at p.adds) q.adds in
    let both : take place bytes ++ take len (drop place bytes) ≡ take (place + len) bytes = sym (take-add place len bytes) in
    record { few = q.few; within = omega (arith, d, h, q.within); adds = rw both at more }

-- what a walk adds to no items, a list may take after its own
pub walk_after : (rules : Rules) (limit : ℕ) (bytes : List ℕ) (mid later : List Item) (len : ℕ) → length (mid ++ later) ≤ rules.item_limit → WalksLines rules limit bytes [] later len → WalksLines rules limit bytes mid (mid ++ later) len
walk_after rules limit bytes mid later len few w =
    record { few = few; within = w.within; adds = record { added = w.adds.added; new_is = ap (λ xs. mid ++ xs) w.adds.new_is; say = w.adds.say; sound = w.adds.sound } }
