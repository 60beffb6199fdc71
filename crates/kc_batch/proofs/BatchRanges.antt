-- Each batch of lines keeps its ranges.
use Rattle.std.proofs.Common.{ℕ, ◌≡◌, Bool, true, false, List, [], ◌∷◌, ◌++◌, nat_le, length, refl, arith}
use Rattle.std.specs.Prelude.{All, Option, None, Some, IfSome, if◌then◌else◌}
use Rattle.std.proofs.lemmas.Bool.Decides.{nat_tests}
use Rattle.std.proofs.lemmas.List.{length_push}
use Rattle.std.proofs.lemmas.List.Elements.{All-nil, All-cons, All-head, All-tail, All-push}
use Rattle.kc_graph.specs.Cleaning.{IsInside}
use Rattle.kc_graph.specs.declared.items.Item.{Item}
use Rattle.kc_graph.specs.declared.items.Item.TheVariants.{Insert, Delete, Isolate}
use Rattle.kc_text.specs.declared.reason.Reason.TheVariants.{BadLine, BadVertex, TooMany}
use Rattle.kc_batch.specs.declared.rules.Rules.{Rules}
use Rattle.kc_batch.specs.declared.token.Token.{Token}
use Rattle.kc_batch.specs.declared.token.Kind.{Kind}
use Rattle.kc_batch.specs.declared.token.Kind.TheVariants as kind
use Rattle.kc_batch.specs.declared.turn.Turn.{Turn}
use Rattle.kc_batch.specs.declared.turn.Turn.TheVariants.{Add, Close, Pass, Stop}
use Rattle.kc_batch.specs.declared.batch.Next.{Next}
use Rattle.kc_batch.specs.Turns.{is_inside, is_allowed, turn_of}
use Rattle.kc_batch.specs.private.Adding.{AreItems}
use Rattle.kc_batch.specs.private.Turns.{IsTurn}
use Rattle.kc_batch.specs.Batches.{Place, Between, Within, Passing, Over, step_between, step_within, step_passing, step, before, batches_from, IsNext}
use Rattle.kc_batch.specs.RangeLaw.{BatchesKeepRanges}

pub inside_is : (n : ℕ) (item : Item) → is_inside n item ≡ true → IsInside n item
inside_is n (Insert u v) e = grind (arith, nat_tests, e)
inside_is n (Delete u v) e = grind (arith, nat_tests, e)
inside_is n (Isolate v) e = grind (arith, nat_tests, e)

item_turn : (rules : Rules) (full inside allowed : Bool) (item : Item) → is_inside rules.n item ≡ inside → is_allowed rules.profile item ≡ allowed
    → IsTurn rules full (if allowed then (if inside then (if full then Pass TooMany else Add item) else Pass BadVertex) else Pass BadLine)
item_turn rules full inside false item e f = tt
item_turn rules full false true item e f = tt
item_turn rules true true true item e f = tt
item_turn rules false true true item e f = (record { allowed = f; inside = inside_is rules.n item e }, refl)

turn_is : (rules : Rules) (full : Bool) (k : Kind) → IsTurn rules full (turn_of rules full k)
turn_is rules full kind.BatchStart = tt
turn_is rules full (kind.Item item) = item_turn rules full (is_inside rules.n item) (is_allowed rules.profile item) item refl refl
turn_is rules full kind.BatchEnd = tt
turn_is rules full kind.Other = tt
turn_is rules full kind.TooLong = tt
turn_is rules full kind.Limit = tt
turn_is rules full kind.InputEnd = tt

pub no_items : (rules : Rules) → AreItems rules []
no_items rules = record { few = omega arith; inside = All-nil (IsInside rules.n); allowed = All-nil (λ item. is_allowed rules.profile item ≡ true) }

pub one_more : (rules : Rules) (items : List Item) (item : Item) (full : Bool) → full ≡ nat_le rules.item_limit (length items) → AreItems rules items → IsTurn rules full (Add item) → AreItems rules (items ++ item ∷ [])
one_more rules items item full f p i = record {
  few = grind (arith, nat_tests, length_push items item, p.few, i.1);
  inside = All-push (IsInside rules.n) items item p.inside i.0.inside;
  allowed = All-push (λ item. is_allowed rules.profile item ≡ true) items item p.allowed i.0.allowed;
}

-- the facts that hold of a place
abbrev IsPlace : Rules → Place → Type 0
IsPlace rules Between = Unit {0}
IsPlace rules (Within items) = AreItems rules items
IsPlace rules Passing = Unit {0}
IsPlace rules Over = Unit {0}

-- the facts that hold after a step: those of its place, and those of the batch that it closes or refuses
abbrev IsStep : Rules → Place × Option Next → Type 0
IsStep rules s = IsPlace rules s.0 × IfSome s.1 (IsNext rules)

between_keeps : (rules : Rules) (line : ℕ) (k : Kind) → IsStep rules (step_between line k)
between_keeps rules line kind.BatchStart = (no_items rules, tt)
between_keeps rules line kind.BatchEnd = (tt, tt)
between_keeps rules line (kind.Item item) = (tt, tt)
between_keeps rules line kind.Other = (tt, tt)
between_keeps rules line kind.TooLong = (tt, tt)
between_keeps rules line kind.Limit = (tt, tt)
between_keeps rules line kind.InputEnd = (tt, tt)

passing_keeps : (rules : Rules) (line : ℕ) (k : Kind) → IsStep rules (step_passing line k)
passing_keeps rules line kind.BatchStart = (tt, tt)
passing_keeps rules line kind.BatchEnd = (tt, tt)
passing_keeps rules line (kind.Item item) = (tt, tt)
passing_keeps rules line kind.Other = (tt, tt)
passing_keeps rules line kind.TooLong = (tt, tt)
passing_keeps rules line kind.Limit = (tt, tt)
passing_keeps rules line kind.InputEnd = (tt, tt)

within_keeps : (rules : Rules) (items : List Item) (line : ℕ) (turn : Turn) → IsPlace rules (Within items) → IsTurn rules (nat_le rules.item_limit (length items)) turn → IsStep rules (step_within items line turn)
within_keeps rules items line (Add item) p i = (one_more rules items item _ refl p i, tt)
within_keeps rules items line Close p i = (tt, record { few = p.few; inside = p.inside; allowed = p.allowed })
within_keeps rules items line (Pass reason) p i = (tt, i)
within_keeps rules items line (Stop reason) p i = (tt, i)

step_keeps : (rules : Rules) (place : Place) (t : Token) → IsPlace rules place → IsStep rules (step rules place t)
step_keeps rules Between t p = between_keeps rules t.number t.kind
step_keeps rules (Within items) t p = within_keeps rules items t.number _ p (turn_is rules (nat_le rules.item_limit (length items)) t.kind)
step_keeps rules Passing t p = passing_keeps rules t.number t.kind
step_keeps rules Over t p = (tt, tt)

all_before : (P : Next → Type 0) (given : Option Next) (rest : List Next) → IfSome given P → All P rest → All P (before given rest)
all_before P None rest h all = all
all_before P (Some next) rest h all = All-cons P next rest h all

-- what each step keeps of its place and gives of its batch holds of all batches
pub steps_give : (rules : Rules) (Token_is : Token → Type 0) (Place_is : Place → Type 0) (Batch_is : Next → Type 0)
    → ((place : Place) (t : Token) → Token_is t → Place_is place → Place_is (step rules place t).0 × IfSome (step rules place t).1 Batch_is)
    → (place : Place) (ts : List Token) → All Token_is ts → Place_is place → All Batch_is (batches_from rules place ts)
unfolding batches_from
steps_give rules Token_is Place_is Batch_is h place [] all p = All-nil Batch_is
steps_give rules Token_is Place_is Batch_is h place (t ∷ rest) all p =
    let s = h place t (All-head Token_is t rest all) p in
    all_before Batch_is (step rules place t).1 _ s.1 (steps_give rules Token_is Place_is Batch_is h (step rules place t).0 rest (All-tail Token_is t rest all) s.0)

pub batches_keep_ranges : BatchesKeepRanges
batches_keep_ranges rules ts = steps_give rules (λ _. Unit {0}) (IsPlace rules) (IsNext rules) (λ place t _ p. step_keeps rules place t p) Between ts (λ i d h. tt) tt
