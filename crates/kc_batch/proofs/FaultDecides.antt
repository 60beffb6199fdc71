-- Allowed items, and the line after them.
use Rattle.std.proofs.Common.{ℕ, ◌+◌, ◌≡◌, ◌≤◌, ◌<◌, true, false, List, [], ◌∷◌, ◌++◌, refl, ap, ◌∙◌, append_assoc, length, length-append, nat_le, arith}
use Rattle.std.specs.Prelude.{All}
use Rattle.std.proofs.lemmas.List.{append-nil}
use Rattle.std.proofs.lemmas.List.Elements.{All-head, All-tail}
use Rattle.std.proofs.lemmas.Bool.Decides.{nat_tests}
use Rattle.kc_graph.specs.declared.items.Item.{Item}
use Rattle.kc_text.specs.declared.reason.Reason.{Reason}
use Rattle.kc_batch.specs.declared.rules.Rules.{Rules}
use Rattle.kc_batch.specs.declared.token.Token.{Token}
use Rattle.kc_batch.specs.declared.token.Kind.{Kind}
use Rattle.kc_batch.specs.declared.token.Kind.TheVariants as kind
use Rattle.kc_batch.specs.declared.turn.Turn.TheVariants.{Pass, Stop}
use Rattle.kc_batch.specs.declared.batch.Next.TheVariants.{Refused}
use Rattle.kc_batch.specs.Turns.{turn_of, IsItemOf}
use Rattle.kc_batch.specs.Batches.{whole, Within, after_end, batch_from, batch_of}
use Rattle.kc_batch.specs.FaultLaw.{line_at, item_lines, items_of, is_passed, FirstFaultDecides}
use Rattle.kc_batch.proofs.Aheads.{is_inside_of}

-- an allowed item is added
adds : (rules : Rules) (m : ℕ) (front : List Item) (i : Item) (rest : List Token) → IsItemOf rules i → length front < rules.item_limit
    → batch_from rules (Within front) (line_at m (kind.Item i) ∷ rest) ≡ batch_from rules (Within (front ++ i ∷ [])) rest
unfolding batch_from
adds rules m front i rest h l =
    let full : nat_le rules.item_limit (length front) ≡ false = grind (arith, nat_tests) in
    rw (h.allowed, is_inside_of rules.n i h.inside, full) refl

-- several allowed items are added
adds_all : (rules : Rules) (front : List Item) (ls : List (ℕ × Item)) (rest : List Token) → All (λ l. IsItemOf rules l.1) ls → length front + length ls ≤ rules.item_limit
    → batch_from rules (Within front) (item_lines ls ++ rest) ≡ batch_from rules (Within (front ++ items_of ls)) rest
adds_all rules front [] rest h l = rw append-nil refl
adds_all rules front (x ∷ ls) rest h l =
    adds rules x.0 front x.1 (item_lines ls ++ rest) (All-head (λ l. IsItemOf rules l.1) x ls h) (omega arith)
    ∙ adds_all rules (front ++ x.1 ∷ []) ls rest (All-tail (λ l. IsItemOf rules l.1) x ls h) (rw (length-append front (x.1 ∷ [])) (omega arith))
    ∙ ap (λ items. batch_from rules (Within items) rest) (append_assoc front (x.1 ∷ []) (items_of ls))

length_items : (ls : List (ℕ × Item)) → length (items_of ls) ≡ length ls
length_items [] = refl
length_items (x ∷ ls) = rw (length_items ls) refl

begins : (rules : Rules) (first : ℕ) (ls : List (ℕ × Item)) (rest : List Token) → All (λ l. IsItemOf rules l.1) ls → length ls ≤ rules.item_limit
    → batch_of rules (line_at first kind.BatchStart ∷ item_lines ls ++ rest) ≡ batch_from rules (Within (items_of ls)) rest
unfolding batch_from
begins rules first ls rest h l = adds_all rules [] ls rest h (omega arith)

closes : (rules : Rules) (last : ℕ) (items : List Item) (rest : List Token) → batch_from rules (Within items) (line_at last kind.BatchEnd ∷ rest) ≡ (whole items last, rest)
unfolding batch_from
closes rules last items rest = refl

passes : (rules : Rules) (last : ℕ) (items : List Item) (k : Kind) (reason : Reason) (rest : List Token) → turn_of rules (nat_le rules.item_limit (length items)) k ≡ Pass reason
    → batch_from rules (Within items) (line_at last k ∷ rest) ≡ (Refused last reason, after_end rest)
unfolding batch_from
passes rules last items k reason rest e = rw e refl

stops : (rules : Rules) (last : ℕ) (items : List Item) (k : Kind) (reason : Reason) (rest : List Token) → turn_of rules (nat_le rules.item_limit (length items)) k ≡ Stop reason
    → batch_from rules (Within items) (line_at last k ∷ rest) ≡ (Refused last reason, line_at last k ∷ [])
unfolding batch_from
stops rules last items k reason rest e = rw e refl

goes_by : (t : Token) (k : Kind) (rest : List Token) → t.kind ≡ k → is_passed k ≡ true → after_end (t ∷ rest) ≡ after_end rest
unfolding after_end
goes_by t kind.BatchStart rest e h = rw e refl
goes_by t (kind.Item i) rest e h = rw e refl
goes_by t kind.BatchEnd rest e h = absurd cc
goes_by t kind.Other rest e h = rw e refl
goes_by t kind.TooLong rest e h = rw e refl
goes_by t kind.Limit rest e h = absurd cc
goes_by t kind.InputEnd rest e h = absurd cc

at_end : (last : ℕ) (rest : List Token) → after_end (line_at last kind.BatchEnd ∷ rest) ≡ rest
unfolding after_end
at_end last rest = refl

all_go_by : (ts rest : List Token) (last : ℕ) → All (λ t. is_passed t.kind ≡ true) ts → after_end (ts ++ line_at last kind.BatchEnd ∷ rest) ≡ rest
all_go_by [] rest last h = at_end last rest
all_go_by (t ∷ ts) rest last h =
    goes_by t t.kind (ts ++ line_at last kind.BatchEnd ∷ rest) refl (All-head (λ t. is_passed t.kind ≡ true) t ts h)
    ∙ all_go_by ts rest last (All-tail (λ t. is_passed t.kind ≡ true) t ts h)

pub first_fault_decides : FirstFaultDecides
first_fault_decides = record {
  accepted = λ rules first last ls rest h l. begins rules first ls _ h l ∙ closes rules last (items_of ls) rest;
  refused = λ rules first last ls k reason rest h l e. begins rules first ls _ h l ∙ passes rules last (items_of ls) k reason rest (rw length_items e);
  stopped = λ rules first last ls k reason rest h l e. begins rules first ls _ h l ∙ stops rules last (items_of ls) k reason rest (rw length_items e);
  passed = λ ts rest last h. all_go_by ts rest last h;
}
