-- Replies while an agent puts its questions.
use Rattle.std.proofs.Common.{ℕ, suc, zero, ◌≡◌, ◌+◌, ◌*◌, ◌<◌, ◌≤◌, List, [], ◌∷◌, ◌++◌, length, get_or, set, take, refl, ap, sym, ◌∙◌, arith, subst, append_assoc, length-append, true, false}
use Rattle.std.specs.Prelude.{All}
use Rattle.std.proofs.lemmas.List.Elements.{All-nil, All-cons, All-head, All-tail}
use Rattle.std.proofs.lemmas.Bool.Decides.{nat_tests}
use Rattle.std.proofs.lemmas.List.{take_more_set, length-set}
use mathlib.Core.List.{IsPrefix}
use Rattle.kc_history.specs.declared.entries.Entry.{Entry}
use Rattle.kc_history.specs.declared.replies.Reply.{Reply}
use Rattle.kc_history.specs.Replies.{AreExplained, vertices_of, zeros}
use Rattle.kc_history.proofs.lemmas.Replies.{longer_explains, end_explains_more, start_explains_zeros}
use Rattle.kc_batch.specs.declared.ask.Ask.{Ask}
use Rattle.kc_store.specs.Seats.{PassShape}
use Rattle.kc_store.specs.States.{last_level}
use Rattle.kc_session.specs.Agents.{AgentShape, IsKept, agent_shape, repeated, questions}
use Rattle.kc_session.proofs.Lists.{take_snoc}

zeros-append : (vs ws : List ℕ) → zeros (vs ++ ws) ≡ zeros vs ++ zeros ws
zeros-append [] ws = refl
zeros-append (v ∷ vs) ws = ap (λ (rs : List Reply). record { vertex = v; level = 0 } ∷ rs) (zeros-append vs ws)

-- replies of level 0, as they are appended
pub zeros_more : (vs : List ℕ) (i : ℕ) (d v : ℕ) (first rs more : List Reply) → i < length vs → v ≡ get_or vs i d → rs ≡ first ++ zeros (take i vs) → more ≡ rs ++ record { vertex = v; level = 0 } ∷ [] → more ≡ first ++ zeros (take (i + 1) vs)
zeros_more vs i d v first rs more lt is h e =
    e ∙ (ap (λ (ts : List Reply). ts ++ record { vertex = v; level = 0 } ∷ []) h ∙ (append_assoc first (zeros (take i vs)) (record { vertex = v; level = 0 } ∷ [])
    ∙ ap (λ (ts : List Reply). first ++ ts) (sym (zeros-append (take i vs) (v ∷ [])) ∙ ap (λ (ws : List ℕ). zeros ws) (sym (take_snoc vs i d v lt is)))))

pub repeated_more : (k : ℕ) (vs : List ℕ) (rs more : List Reply) → rs ≡ zeros (repeated k vs) → more ≡ rs ++ zeros vs → more ≡ zeros (repeated (k + 1) vs)
repeated_more k vs rs more h is = let e : k + 1 ≡ suc k = omega arith in is ∙ (ap (λ (ts : List Reply). ts ++ zeros vs) h ∙ (sym (zeros-append (repeated k vs) vs) ∙ ap (λ j. zeros (repeated j vs)) (sym e)))

-- the vertices of replies
vertices_set : (xs : List Reply) (i : ℕ) (d r : Reply) → i < length xs → r.vertex ≡ (get_or xs i d).vertex → vertices_of (set xs i r) ≡ vertices_of xs
vertices_set [] i d r lt is = absurd (omega (arith, lt))
vertices_set (x ∷ xs) zero d r lt is = ap (λ (v : ℕ). v ∷ vertices_of xs) is
vertices_set (x ∷ xs) (suc i) d r lt is = ap (λ (vs : List ℕ). x.vertex ∷ vs) (vertices_set xs i d r (omega (arith, lt)) is)

length-vertices : (rs : List Reply) → length (vertices_of rs) ≡ length rs
length-vertices [] = refl
length-vertices (r ∷ rs) = ap suc (length-vertices rs)

all_below : (n : ℕ) (rs : List Reply) (vs : List ℕ) → vertices_of rs ≡ vs → All (λ v. v < n) vs → All (λ (r : Reply). r.vertex < n) rs
all_below n [] vs e all = All-nil (λ (r : Reply). r.vertex < n)
all_below n (r ∷ rs) [] e all = cc
all_below n (r ∷ rs) (v ∷ vs) e all =
    let a : r.vertex ≡ v = cc in
    let b : vertices_of rs ≡ vs = cc in
    All-cons (λ (r : Reply). r.vertex < n) r rs (subst (λ u. u < n) (sym a) (All-head (λ u. u < n) v vs all)) (all_below n rs vs b (All-tail (λ u. u < n) v vs all))

pub all_same_below : (n : ℕ) (xs ys : List Reply) → vertices_of xs ≡ vertices_of ys → All (λ (r : Reply). r.vertex < n) ys → All (λ (r : Reply). r.vertex < n) xs
all_same_below n [] ys e all = All-nil (λ (r : Reply). r.vertex < n)
all_same_below n (x ∷ xs) [] e all = cc
all_same_below n (x ∷ xs) (y ∷ ys) e all =
    let a : x.vertex ≡ y.vertex = cc in
    let b : vertices_of xs ≡ vertices_of ys = cc in
    All-cons (λ (r : Reply). r.vertex < n) x xs (subst (λ v. v < n) (sym a) (All-head (λ (r : Reply). r.vertex < n) y ys all)) (all_same_below n xs ys b (All-tail (λ (r : Reply). r.vertex < n) y ys all))

all_append : (n : ℕ) (vs ws : List ℕ) → All (λ v. v < n) vs → All (λ v. v < n) ws → All (λ v. v < n) (vs ++ ws)
all_append n [] ws a b = b
all_append n (v ∷ vs) ws a b = All-cons (λ u. u < n) v (vs ++ ws) (All-head (λ u. u < n) v vs a) (all_append n vs ws (All-tail (λ u. u < n) v vs a) b)

all_repeated : (n k : ℕ) (vs : List ℕ) → All (λ v. v < n) vs → All (λ v. v < n) (repeated k vs)
all_repeated n zero vs all = All-nil (λ v. v < n)
all_repeated n (suc k) vs all = all_append n (repeated k vs) vs (all_repeated n k vs all) all

-- the questions of an agent are below its number of vertices, and few
pub replies_below : (n : ℕ) (ask : Ask) (rs asked : List Reply) → vertices_of rs ≡ vertices_of asked → vertices_of asked ≡ questions ask → All (λ v. v < n) ask.vertices → All (λ (r : Reply). r.vertex < n) rs
replies_below n ask rs asked e f all = all_below n rs (questions ask) (e ∙ f) (all_repeated n ask.times ask.vertices all)

length-repeated : (k : ℕ) (vs : List ℕ) → length (repeated k vs) ≡ k * length vs
length-repeated zero vs = omega arith
length-repeated (suc k) vs = let e = length-append (repeated k vs) vs in let f = length-repeated k vs in let g : suc k * length vs ≡ k * length vs + length vs = omega arith in omega (arith, e, f, g)

pub replies_few : (ask : Ask) (rs : List Reply) → vertices_of rs ≡ questions ask → ask.times * length ask.vertices ≤ 65536 → length rs ≤ 65536
replies_few ask rs e few = grind (arith, nat_tests, length-vertices, length-repeated)

-- the first i questions were put
pub record IsAsking (n : ℕ) (first : PassShape) (asked : List Reply) (i : ℕ) (pass : PassShape) (replies : List Reply) : Type 0 where
  pub same : pass ≡ record first { seen = pass.seen }
  pub made_in : pass.made ≤ length pass.seen
  pub later : IsPrefix first.seen pass.seen
  pub vertices : vertices_of replies ≡ vertices_of asked
  pub sized : length replies ≡ length asked
  pub explained : AreExplained n pass.seen first.made (take i replies)

pub prefix_explains : (n : ℕ) (a b : List Entry) (from : ℕ) (rs : List Reply) → IsPrefix a b → AreExplained n a from rs → AreExplained n b from rs
prefix_explains n a b from rs p h = subst (λ (c : List Entry). AreExplained n c from rs) p.1 (longer_explains n a p.0 from rs h)

pub asking_more : (n : ℕ) (first : PassShape) (asked : List Reply) (i : ℕ) (pass next : PassShape) (replies : List Reply) (d r : Reply) → IsAsking n first asked i pass replies → i < length replies
    → next ≡ record pass { seen = next.seen } → IsPrefix pass.seen next.seen → r.vertex ≡ (get_or replies i d).vertex → last_level n next.seen r.vertex ≡ r.level
    → IsAsking n first asked (i + 1) next (set replies i r)
asking_more n first asked i pass next replies d r h lt same p vertex level = grind (arith, nat_tests, length-append, append_assoc, vertices_set, length-set, take_more_set, end_explains_more, prefix_explains, h.same, p.1, p.0, h.made_in, h.later.0, h.later.1, h.vertices, h.sized, h.explained)

-- an agent that has just been opened
pub fresh_is_kept : (n reader : ℕ) (pass : PassShape) (rs : List Reply) (ask : Ask) → pass.made ≡ length pass.seen → rs ≡ zeros (questions ask) → All (λ v. v < n) ask.vertices → ask.times * length ask.vertices ≤ 65536
    → IsKept (agent_shape pass n reader ask rs false) rs
fresh_is_kept n reader pass rs ask made none below few = record {
  agent = record { first = refl; all = λ h. absurd (no h); explained = tt };
  made_in = omega (arith, made);
  below = below;
  few = few;
  vertices = ap (λ (ts : List Reply). vertices_of ts) none ∙ start_explains_zeros.vertices (questions ask);
}
  where
    no : false ≡ true → ⊥
    no h = cc

-- an agent that is closed
pub record IsClosing (self : AgentShape) (history : List Entry) (rs : List Reply) : Type 0 where
  pub replies : rs ≡ self.replies
  pub first : vertices_of rs ≡ take (length rs) (questions self.ask)
  pub all : self.has_run ≡ true → vertices_of rs ≡ questions self.ask
  pub explained : AreExplained self.store.vertices history self.made rs

pub closing : (inside self : AgentShape) (kept rs : List Reply) (history : List Entry) → inside ≡ self → IsKept inside kept → rs ≡ inside.replies → IsPrefix inside.seen history → IsClosing self history rs
closing inside self kept rs history view is e later = grind (arith, nat_tests, prefix_explains, is.agent)
