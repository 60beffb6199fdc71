-- The batches of an input, one after another.
use Rattle.std.proofs.Common.{ℕ, ◌≡◌, Bool, true, false, List, [], ◌∷◌, ◌++◌, refl, sym, ap, ◌∙◌, nat_le, length}
use Rattle.std.specs.Prelude.{if◌then◌else◌, Option, None, Some}
use Rattle.std.specs.Option.{option_map}
use Rattle.std.proofs.lemmas.Option.{same_Some}
use Rattle.kc_graph.specs.declared.items.Item.{Item}
use Rattle.kc_text.specs.declared.reason.Reason.{Reason}
use Rattle.kc_text.specs.declared.reason.Reason.TheVariants.{Header, LineLong, BadLine, BadVertex, TooMany, Truncated, InputLimit, EdgeLimit, PhaseLimit}
use Rattle.kc_batch.specs.declared.rules.Rules.{Rules}
use Rattle.kc_batch.specs.declared.token.Token.{Token}
use Rattle.kc_batch.specs.declared.token.Kind.{Kind}
use Rattle.kc_batch.specs.declared.token.Kind.TheVariants as kind
use Rattle.kc_batch.specs.declared.turn.Turn.{Turn}
use Rattle.kc_batch.specs.declared.turn.Turn.TheVariants.{Add, Close, Pass, Stop}
use Rattle.kc_batch.specs.declared.batch.Next.{Next}
use Rattle.kc_batch.specs.declared.batch.Next.TheVariants.{Refused}
use Rattle.kc_batch.specs.Turns.{is_inside, is_allowed, turn_of}
use Rattle.kc_batch.specs.Batches.{Place, Between, Within, Passing, Over, after_end, batch_from, with_next, batches, batches_from, behind_batch}
use Rattle.kc_batch.proofs.Stepping.{item_goes}

-- no batch comes after the end of the input or its limit
over : (rules : Rules) (ts : List Token) → batches_from rules Over ts ≡ []
unfolding batches_from
over rules [] = refl
over rules (t ∷ rest) = over rules rest

passing_at : (rules : Rules) (k : Kind) (t : Token) (rest : List Token) → t.kind ≡ k → batches_from rules Passing rest ≡ batches rules (after_end rest)
    → batches_from rules Passing (t ∷ rest) ≡ batches rules (after_end (t ∷ rest))
unfolding batches_from after_end
passing_at rules kind.BatchStart t rest e h = rw e h
passing_at rules (kind.Item i) t rest e h = rw e h
passing_at rules kind.BatchEnd t rest e h = rw e refl
passing_at rules kind.Other t rest e h = rw e h
passing_at rules kind.TooLong t rest e h = rw e h
passing_at rules kind.Limit t rest e h = rw (e, over rules rest) refl
passing_at rules kind.InputEnd t rest e h = rw (e, over rules rest) refl

-- after a fault, the batches are those after the next `end`
pub passing_is : (rules : Rules) (ts : List Token) → batches_from rules Passing ts ≡ batches rules (after_end ts)
unfolding batches_from after_end
passing_is rules [] = refl
passing_is rules (t ∷ rest) = passing_at rules t.kind t rest refl (passing_is rules rest)

behind_other : (m : ℕ) (r : Reason) (rest : List Next) → (r ≡ InputLimit → ⊥) → behind_batch (Refused m r) rest ≡ Refused m r ∷ rest
behind_other m Header rest h = refl
behind_other m LineLong rest h = refl
behind_other m BadLine rest h = refl
behind_other m BadVertex rest h = refl
behind_other m TooMany rest h = refl
behind_other m Truncated rest h = refl
behind_other m InputLimit rest h = absurd (h refl)
behind_other m EdgeLimit rest h = refl
behind_other m PhaseLimit rest h = refl

item_no_limit : (allowed inside full : Bool) (i : Item) (r : Reason) → (if allowed then (if inside then (if full then Pass TooMany else Add i) else Pass BadVertex) else Pass BadLine) ≡ Pass r → r ≡ InputLimit → ⊥
item_no_limit false inside full i r e l = let x : Pass BadLine ≡ Pass InputLimit = e ∙ ap Pass l in cc
item_no_limit true false full i r e l = let x : Pass BadVertex ≡ Pass InputLimit = e ∙ ap Pass l in cc
item_no_limit true true true i r e l = let x : Pass TooMany ≡ Pass InputLimit = e ∙ ap Pass l in cc
item_no_limit true true false i r e l = cc

-- a fault after which lines are passed over isn't the input limit
no_limit : (rules : Rules) (full : Bool) (k : Kind) (r : Reason) → turn_of rules full k ≡ Pass r → r ≡ InputLimit → ⊥
no_limit rules full kind.BatchStart r e l = let x : Pass BadLine ≡ Pass InputLimit = e ∙ ap Pass l in cc
no_limit rules full (kind.Item i) r e l = item_no_limit (is_allowed rules.profile i) (is_inside rules.n i) full i r e l
no_limit rules full kind.BatchEnd r e l = cc
no_limit rules full kind.Other r e l = let x : Pass BadLine ≡ Pass InputLimit = e ∙ ap Pass l in cc
no_limit rules full kind.TooLong r e l = let x : Pass LineLong ≡ Pass InputLimit = e ∙ ap Pass l in cc
no_limit rules full kind.Limit r e l = cc
no_limit rules full kind.InputEnd r e l = cc

-- no batch follows one that the end of the input or its limit ends
stops : (rules : Rules) (full : Bool) (k : Kind) (t : Token) (r : Reason) → t.kind ≡ k → turn_of rules full k ≡ Stop r
    → behind_batch (Refused t.number r) (batches rules (t ∷ [])) ≡ Refused t.number r ∷ []
unfolding batches_from
stops rules full kind.BatchStart t r e s = absurd cc
stops rules full (kind.Item i) t r e s = absurd (item_goes (is_allowed rules.profile i) (is_inside rules.n i) full i r s)
stops rules full kind.BatchEnd t r e s = absurd cc
stops rules full kind.Other t r e s = absurd cc
stops rules full kind.TooLong t r e s = absurd cc
stops rules full kind.Limit t r e s = let x : InputLimit ≡ r = cc in rw (← x) refl
stops rules full kind.InputEnd t r e s = let x : Truncated ≡ r = cc in rw (← x, e) refl

-- one batch and those after it
abbrev pub Follows : Rules → List Next → Next × List Token → Type 0
Follows rules all found = all ≡ behind_batch found.0 (batches rules found.1)

within_at : (rules : Rules) (items : List Item) (t : Token) (turn : Turn) (rest : List Token) → turn_of rules (nat_le rules.item_limit (length items)) t.kind ≡ turn
    → ((place : Place) → Follows rules (batches_from rules place rest) (batch_from rules place rest)) → Follows rules (batches_from rules (Within items) (t ∷ rest)) (batch_from rules (Within items) (t ∷ rest))
unfolding batches_from batch_from
within_at rules items t (Add i) rest e h = rw e (h (Within (items ++ i ∷ [])))
within_at rules items t Close rest e h = rw e refl
within_at rules items t (Pass r) rest e h = rw (e, passing_is rules rest) (sym (behind_other t.number r _ (no_limit rules (nat_le rules.item_limit (length items)) t.kind r e)))
within_at rules items t (Stop r) rest e h = rw (e, over rules rest) (sym (stops rules (nat_le rules.item_limit (length items)) t.kind t r refl e))

between_at : (rules : Rules) (k : Kind) (t : Token) (rest : List Token) → t.kind ≡ k → ((place : Place) → Follows rules (batches_from rules place rest) (batch_from rules place rest))
    → Follows rules (batches_from rules Between (t ∷ rest)) (batch_from rules Between (t ∷ rest))
unfolding batches_from batch_from
between_at rules kind.BatchStart t rest e h = rw e (h (Within []))
between_at rules (kind.Item i) t rest e h = rw (e, passing_is rules rest) refl
between_at rules kind.BatchEnd t rest e h = rw e refl
between_at rules kind.Other t rest e h = rw (e, passing_is rules rest) refl
between_at rules kind.TooLong t rest e h = rw (e, passing_is rules rest) refl
between_at rules kind.Limit t rest e h = rw (e, over rules rest) refl
between_at rules kind.InputEnd t rest e h = rw (e, over rules rest) refl

after_fault_at : (rules : Rules) (k : Kind) (t : Token) (rest : List Token) → t.kind ≡ k → ((place : Place) → Follows rules (batches_from rules place rest) (batch_from rules place rest))
    → Follows rules (batches_from rules Passing (t ∷ rest)) (batch_from rules Passing (t ∷ rest))
unfolding batches_from batch_from
after_fault_at rules kind.BatchStart t rest e h = rw e (h Passing)
after_fault_at rules (kind.Item i) t rest e h = rw e (h Passing)
after_fault_at rules kind.BatchEnd t rest e h = rw e (h Between)
after_fault_at rules kind.Other t rest e h = rw e (h Passing)
after_fault_at rules kind.TooLong t rest e h = rw e (h Passing)
after_fault_at rules kind.Limit t rest e h = rw (e, over rules rest) refl
after_fault_at rules kind.InputEnd t rest e h = rw (e, over rules rest) refl

-- the batches from a place on are the first one, and those of the tokens that are left after it
pub batches_go_on : (rules : Rules) (place : Place) (ts : List Token) → Follows rules (batches_from rules place ts) (batch_from rules place ts)
unfolding batches_from batch_from
batches_go_on rules place [] = refl
batches_go_on rules Between (t ∷ rest) = between_at rules t.kind t rest refl (λ place. batches_go_on rules place rest)
batches_go_on rules (Within items) (t ∷ rest) = within_at rules items t _ rest refl (λ place. batches_go_on rules place rest)
batches_go_on rules Passing (t ∷ rest) = after_fault_at rules t.kind t rest refl (λ place. batches_go_on rules place rest)
batches_go_on rules Over (t ∷ rest) = over rules rest

pub told_follow : (rules : Rules) (place : Place) (next : Next) (old new : Option (List Token)) → option_map (batch_from rules place) old ≡ option_map (with_next next) new
    → option_map (batches_from rules place) old ≡ option_map (behind_batch next) (option_map (batches rules) new)
told_follow rules place next None None e = refl
told_follow rules place next None (Some rest) e = absurd cc
told_follow rules place next (Some ts) None e = absurd cc
told_follow rules place next (Some ts) (Some rest) e =
    let f : batch_from rules place ts ≡ (next, rest) = same_Some _ _ e in
    ap Some (batches_go_on rules place ts ∙ rw f refl)
