-- One line, and what a definition says of the lines after it.
use Rattle.std.proofs.Common.{ℕ, ◌≡◌, Bool, true, false, List, [], ◌∷◌, ◌++◌, refl, sym, ap, ◌∙◌, nat_le, length, inl, inr}
use Rattle.std.specs.Prelude.{Option, Some, None, if◌then◌else◌, ◌⊎◌}
use Rattle.std.specs.Option.{option_map}
use Rattle.std.proofs.lemmas.Option.{same_Some}
use Rattle.kc_graph.specs.declared.items.Item.{Item}
use Rattle.kc_text.specs.declared.reason.Reason.{Reason}
use Rattle.kc_text.specs.declared.reason.Reason.TheVariants.{LineLong, BadLine, BadVertex, TooMany, Truncated, InputLimit}
use Rattle.kc_batch.specs.declared.rules.Rules.{Rules}
use Rattle.kc_batch.specs.declared.token.Token.{Token}
use Rattle.kc_batch.specs.declared.token.Kind.{Kind}
use Rattle.kc_batch.specs.declared.token.Kind.TheVariants as kind
use Rattle.kc_batch.specs.declared.turn.Turn.{Turn}
use Rattle.kc_batch.specs.declared.turn.Turn.TheVariants.{Add, Close, Pass, Stop}
use Rattle.kc_batch.specs.declared.batch.Next.{Next}
use Rattle.kc_batch.specs.declared.batch.Next.TheVariants.{Refused, End}
use Rattle.kc_batch.specs.private.Tokens.{onto_token, behind_kind, IsLastKind}
use Rattle.kc_batch.specs.Turns.{is_inside, is_allowed, turn_of}
use Rattle.kc_batch.specs.Batches.{whole, Within, Passing, step_passing, after_end, batch_from, batch_of, with_next}

-- the value of F for lines with one put before them is the value of G for the lines after it
pub step_on : {A B X : Type 0} (F : B → X) (G : A → X) (put : A → B) (old : Option B) (new : Option A) → old ≡ option_map put new
    → ((rest : A) → F (put rest) ≡ G rest) → option_map F old ≡ option_map G new
step_on F G put old None e h = rw e refl
step_on F G put old (Some rest) e h = rw e (ap Some (h rest))

-- if the line stays
pub step_last : {X : Type 0} (F G : List Token → X) (t : Token) (old new : Option (List Token)) → old ≡ option_map (onto_token t) new → new ≡ old
    → ((rest : List Token) → behind_kind t.kind rest ≡ []) → F (t ∷ []) ≡ G (t ∷ []) → option_map F old ≡ option_map G new
step_last F G t old None e s b h = rw e refl
step_last F G t old (Some rest) e s b h =
    let r : rest ≡ t ∷ [] = same_Some _ _ (s ∙ e) ∙ ap (λ x. t ∷ x) (b rest) in
    rw (e, b rest) (ap Some h ∙ ap (λ x. Some (G x)) (sym r))

-- a line that is passed over
pub record PassedBy (k : Kind) : Type 0 where
  pub behind : (rest : List Token) → behind_kind k rest ≡ rest
  pub passed : (line : ℕ) → (step_passing line k).0 ≡ Passing

pub passed_by : (k : Kind) → (k ≡ kind.BatchEnd → ⊥) → (k ≡ kind.Limit → ⊥) → (k ≡ kind.InputEnd → ⊥) → PassedBy k
passed_by kind.BatchStart a b d = record { behind = λ _. refl; passed = λ _. refl }
passed_by (kind.Item i) a b d = record { behind = λ _. refl; passed = λ _. refl }
passed_by kind.BatchEnd a b d = absurd (a refl)
passed_by kind.Other a b d = record { behind = λ _. refl; passed = λ _. refl }
passed_by kind.TooLong a b d = record { behind = λ _. refl; passed = λ _. refl }
passed_by kind.Limit a b d = absurd (b refl)
passed_by kind.InputEnd a b d = absurd (d refl)

pub after_on : (t : Token) → PassedBy t.kind → (rest : List Token) → after_end (onto_token t rest) ≡ after_end rest
unfolding after_end
after_on t h rest = rw (h.passed t.number, h.behind rest) refl

pub after_at_end : (t : Token) → t.kind ≡ kind.BatchEnd → (rest : List Token) → after_end (onto_token t rest) ≡ rest
unfolding after_end
after_at_end t e rest = rw e refl

pub after_at_last : (t : Token) → (t.kind ≡ kind.Limit) ⊎ (t.kind ≡ kind.InputEnd) → after_end (t ∷ []) ≡ t ∷ []
unfolding after_end
after_at_last t e = elim e [ inl a ↦ rw a refl | inr a ↦ rw a refl ]

-- a line that doesn't stop a batch
pub going_turn : (rules : Rules) (full : Bool) (k : Kind) → ((r : Reason) → turn_of rules full k ≡ Stop r → ⊥) → (rest : List Token) → behind_kind k rest ≡ rest
going_turn rules full kind.BatchStart h rest = refl
going_turn rules full (kind.Item i) h rest = refl
going_turn rules full kind.BatchEnd h rest = refl
going_turn rules full kind.Other h rest = refl
going_turn rules full kind.TooLong h rest = refl
going_turn rules full kind.Limit h rest = absurd (h InputLimit refl)
going_turn rules full kind.InputEnd h rest = absurd (h Truncated refl)

pub item_goes : (allowed inside full : Bool) (i : Item) (r : Reason) → (if allowed then (if inside then (if full then Pass TooMany else Add i) else Pass BadVertex) else Pass BadLine) ≡ Stop r → ⊥
item_goes false inside full i r e = cc
item_goes true false full i r e = cc
item_goes true true true i r e = cc
item_goes true true false i r e = cc

-- a line that stops it
pub stopping_turn : (rules : Rules) (full : Bool) (k : Kind) (r : Reason) → turn_of rules full k ≡ Stop r → IsLastKind k × ((rest : List Token) → behind_kind k rest ≡ [])
stopping_turn rules full kind.BatchStart r e = absurd cc
stopping_turn rules full (kind.Item i) r e = absurd (item_goes (is_allowed rules.profile i) (is_inside rules.n i) full i r e)
stopping_turn rules full kind.BatchEnd r e = absurd cc
stopping_turn rules full kind.Other r e = absurd cc
stopping_turn rules full kind.TooLong r e = absurd cc
stopping_turn rules full kind.Limit r e = (tt, λ _. refl)
stopping_turn rules full kind.InputEnd r e = (tt, λ _. refl)

-- the turn of a line within a batch that is full or not
pub turn_here : (rules : Rules) (items : List Item) (k : Kind) (turn : Turn) (full : Bool) → full ≡ nat_le rules.item_limit (length items) → turn_of rules full k ≡ turn
    → turn_of rules (nat_le rules.item_limit (length items)) k ≡ turn
turn_here rules items k turn full f e = ap (λ x. turn_of rules x k) (sym f) ∙ e

-- one turn of a batch
pub items_add : (rules : Rules) (items : List Item) (t : Token) (item : Item) (full : Bool) → full ≡ nat_le rules.item_limit (length items) → turn_of rules full t.kind ≡ Add item
    → (rest : List Token) → batch_from rules (Within items) (onto_token t rest) ≡ batch_from rules (Within (items ++ item ∷ [])) rest
unfolding batch_from
items_add rules items t item full f e rest =
    rw (turn_here rules items t.kind (Add item) full f e, going_turn rules full t.kind (λ r s. cc) rest) refl

pub items_close : (rules : Rules) (items : List Item) (t : Token) (full : Bool) → full ≡ nat_le rules.item_limit (length items) → turn_of rules full t.kind ≡ Close
    → (rest : List Token) → batch_from rules (Within items) (onto_token t rest) ≡ (whole items t.number, rest)
unfolding batch_from
items_close rules items t full f e rest =
    rw (turn_here rules items t.kind Close full f e, going_turn rules full t.kind (λ r s. cc) rest) refl

pub items_pass : (rules : Rules) (items : List Item) (t : Token) (full : Bool) (r : Reason) → full ≡ nat_le rules.item_limit (length items) → turn_of rules full t.kind ≡ Pass r
    → (rest : List Token) → batch_from rules (Within items) (onto_token t rest) ≡ (Refused t.number r, after_end rest)
unfolding batch_from
items_pass rules items t full r f e rest =
    rw (turn_here rules items t.kind (Pass r) full f e, going_turn rules full t.kind (λ s p. cc) rest) refl

pub items_stop : (rules : Rules) (items : List Item) (t : Token) (full : Bool) (r : Reason) → full ≡ nat_le rules.item_limit (length items) → turn_of rules full t.kind ≡ Stop r
    → batch_from rules (Within items) (t ∷ []) ≡ (Refused t.number r, t ∷ [])
unfolding batch_from
items_stop rules items t full r f e =
    rw (turn_here rules items t.kind (Stop r) full f e) refl

-- a batch after whose fault lines are passed over
pub passed_over : (F : List Token → Next × List Token) (next : Next) (t : Token) (old mid new : Option (List Token)) → old ≡ option_map (onto_token t) mid
    → ((rest : List Token) → F (onto_token t rest) ≡ (next, after_end rest)) → option_map after_end mid ≡ new → option_map F old ≡ option_map (with_next next) new
passed_over F next t old None new e h p = rw (e, ← p) refl
passed_over F next t old (Some rest) new e h p = rw (e, ← p) (ap Some (h rest))

pub batch_start : (rules : Rules) (t : Token) → t.kind ≡ kind.BatchStart → (rest : List Token) → batch_of rules (onto_token t rest) ≡ batch_from rules (Within []) rest
unfolding batch_from
batch_start rules t e rest = rw e refl

pub batch_end : (rules : Rules) (t : Token) → t.kind ≡ kind.BatchEnd → (rest : List Token) → batch_of rules (onto_token t rest) ≡ (Refused t.number BadLine, rest)
unfolding batch_from
batch_end rules t e rest = rw e refl

pub batch_item : (rules : Rules) (t : Token) (i : Item) → t.kind ≡ kind.Item i → (rest : List Token) → batch_of rules (onto_token t rest) ≡ (Refused t.number BadLine, after_end rest)
unfolding batch_from
batch_item rules t i e rest = rw e refl

pub batch_other : (rules : Rules) (t : Token) → t.kind ≡ kind.Other → (rest : List Token) → batch_of rules (onto_token t rest) ≡ (Refused t.number BadLine, after_end rest)
unfolding batch_from
batch_other rules t e rest = rw e refl

pub batch_long : (rules : Rules) (t : Token) → t.kind ≡ kind.TooLong → (rest : List Token) → batch_of rules (onto_token t rest) ≡ (Refused t.number LineLong, after_end rest)
unfolding batch_from
batch_long rules t e rest = rw e refl

pub batch_limit : (rules : Rules) (t : Token) → t.kind ≡ kind.Limit → batch_of rules (t ∷ []) ≡ (Refused t.number InputLimit, t ∷ [])
unfolding batch_from
batch_limit rules t e = rw e refl

pub batch_none : (rules : Rules) (t : Token) → t.kind ≡ kind.InputEnd → batch_of rules (t ∷ []) ≡ (End, t ∷ [])
unfolding batch_from
batch_none rules t e = rw e refl
