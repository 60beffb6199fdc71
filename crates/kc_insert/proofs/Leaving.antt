-- How the counts follow where a riser goes on and leaves a neighbour behind that it was to meet, and what the others are told.
use Rattle.std.proofs.Common.{ℕ, suc, zero, subst, ◌+◌, ◌-◌, ◌≤◌, ◌<◌, ◌≡◌, ◌≢◌, Bool, true, false, cond, eqb, ◌&&◌, List, [], ◌∷◌, ◌++◌, length, get_or, set, map, take, drop, ap, sym, ◌∙◌, arith}
use Rattle.std.specs.Prelude.{filter}
use Rattle.std.proofs.lemmas.Bool.Decides.{nat_tests}
use Rattle.std.proofs.lemmas.List.{append-nil, map-append, take-append-drop}
use Rattle.std.proofs.lemmas.List.Elements.{filter_more, filter-append}
use Rattle.kc_graph.specs.Shape.{Pair, has_edge}
use Rattle.kc_insert.specs.private.Crossing.{Crossing, left_at}
use Rattle.kc_insert.specs.private.Rising.{rises, seen}
use Rattle.kc_insert.specs.private.Telling.{times}
use Rattle.kc_insert.specs.private.Watched.{count_at, StayWatched}
use Rattle.kc_insert.specs.Ranges.{HasVertex, Watch}
use Rattle.kc_insert.proofs.Adding.{times-append, times_another, times_own}
use Rattle.kc_insert.proofs.Watching.{watched_on, count_here, count_other}

pub has_edge_at : (items : List Pair) (i : ℕ) (d e : Pair) → i < length items → e ≡ get_or items i d → has_edge e items ≡ true
has_edge_at [] i d e at item = absurd (omega arith)
has_edge_at (f ∷ fs) zero d e at item = rw item (grind (arith, nat_tests))
has_edge_at (f ∷ fs) (suc i) d e at item = grind (arith, nat_tests, has_edge_at fs i d e (omega arith) item)

-- the ends h of those pairs that pass, up to a place
module _ (h : Pair → ℕ) (p : Pair → Bool) where
  abbrev pub ends : List Pair → List ℕ
  ends es = map h (filter p es)

  ends-append : (xs ys : List Pair) → ends (xs ++ ys) ≡ ends xs ++ ends ys
  ends-append xs ys = ap (map h) (filter-append p xs ys) ∙ map-append h (filter p xs) (filter p ys)

  module _ (es : List Pair) (i : ℕ) (d e : Pair) (at : i < length es) (item : e ≡ get_or es i d) where
    more : ends (take (i + 1) es) ≡ ends (take i es) ++ map h (cond (p (get_or es i d)) (get_or es i d ∷ []) [])
    more = ap (map h) (filter_more p es i d at) ∙ map-append h (filter p (take i es)) (cond (p (get_or es i d)) (get_or es i d ∷ []) [])

    pub ends_yes : p e ≡ true → ends (take (i + 1) es) ≡ ends (take i es) ++ h e ∷ []
    ends_yes yes_ = more ∙ ap (λ (f : Pair). ends (take i es) ++ map h (cond (p f) (f ∷ []) [])) (sym item) ∙ ap (λ b. ends (take i es) ++ map h (cond b (e ∷ []) [])) yes_

    pub ends_no : p e ≡ false → ends (take (i + 1) es) ≡ ends (take i es)
    ends_no no_ = more ∙ ap (λ (f : Pair). ends (take i es) ++ map h (cond (p f) (f ∷ []) [])) (sym item) ∙ ap (λ b. ends (take i es) ++ map h (cond b (e ∷ []) [])) no_ ∙ append-nil (ends (take i es))

  pub ends_part : (v i : ℕ) (es : List Pair) → times v (ends (take i es)) ≤ times v (ends es)
  ends_part v i es = omega (arith, sym (times-append v (ends (take i es)) (ends (drop i es))) ∙ ap (times v) (sym (ends-append (take i es) (drop i es)) ∙ ap ends (take-append-drop i es)))

-- each vertex of the list counts one less for each time that it is there
pub record IsLessBy (xs : List ℕ) (a b : Watch) : Type 0 where
  pub watched : StayWatched a b
  pub less : (v : ℕ) → a.first ≤ v → count_at b v + times v xs ≡ count_at a v

pub less_by_more : (xs : List ℕ) (v : ℕ) (a b c : Watch) → HasVertex a v → 1 ≤ count_at b v → IsLessBy xs a b → c.counts ≡ set b.counts (v - b.first) (count_at b v - 1) → StayWatched b c → IsLessBy (xs ++ v ∷ []) a c
less_by_more xs v a b c was some s is t = record {
  watched = watched_on a b c s.watched t;
  less = λ u from. grind (arith, nat_tests, count_here, times_own, count_other, times_another, t.first, s.less, was.from, s.watched.first);
}

pub less_by_held : (xs : List ℕ) (v : ℕ) (a b : Watch) → HasVertex a v → IsLessBy xs a b → HasVertex b v
less_by_held xs v a b was s = record { from = omega (arith, was.from, s.watched.first); below = omega (arith, was.below, s.watched.first, s.watched.sized) }

pub less_by_some : (xs ys : List ℕ) (v : ℕ) (a b : Watch) → a.first ≤ v → IsLessBy xs a b → times v (xs ++ v ∷ []) ≤ times v ys → times v ys ≤ count_at a v → 1 ≤ count_at b v
less_by_some xs ys v a b from s part enough = grind (arith, nat_tests, times_own, s.less)

-- whether the riser goes on and the other stays
abbrev pub stays_behind : Crossing → Pair → Bool
stays_behind step e = rises step.levels e.0 && eqb (get_or (seen step.levels) e.1 0) step.level

-- the step of a loop at place i of the meetings, where v and w stand
module _ (step : Crossing) (met : List Pair) (i : ℕ) (d : Pair) (v w : ℕ) (at : i < length met) (item : ◌≡◌ {A = Pair} (v, w) (get_or met i d)) (a b : Watch) (held : HasVertex a v) (enough : (u : ℕ) → times u (left_at step met) ≤ count_at a u) (s : IsLessBy (left_at step (take i met)) a b) where
  both : (p : Bool) (x l : ℕ) → p ≡ true → x ≡ l → p && eqb x l ≡ true
  both p x l e f = grind (arith, nat_tests, e, f)

  neither : (p : Bool) (x l : ℕ) → (p ≡ true → x ≢ l) → p && eqb x l ≡ false
  neither p x l off = grind (arith, nat_tests)

  left_next : rises step.levels v ≡ true → get_or (seen step.levels) w 0 ≡ step.level → left_at step (take (i + 1) met) ≡ left_at step (take i met) ++ v ∷ []
  left_next up stays = ends_yes (λ (e : Pair). e.0) (stays_behind step) met i d (v, w) at item (both _ _ _ up stays)

  pub left_some : rises step.levels v ≡ true → get_or (seen step.levels) w 0 ≡ step.level → 1 ≤ count_at b v
  left_some up stays = less_by_some (left_at step (take i met)) (left_at step met) v a b held.from s (omega (arith, ap (times v) (left_next up stays), ends_part (λ (e : Pair). e.0) (stays_behind step) v (i + 1) met)) (enough v)

  pub left_more : rises step.levels v ≡ true → get_or (seen step.levels) w 0 ≡ step.level → (c : Watch) → c.counts ≡ set b.counts (v - b.first) (count_at b v - 1) → StayWatched b c → IsLessBy (left_at step (take (i + 1) met)) a c
  left_more up stays c is t = subst (λ (xs : List ℕ). IsLessBy xs a c) (sym (left_next up stays)) (less_by_more (left_at step (take i met)) v a b c held (left_some up stays) s is t)

  pub left_not : (rises step.levels v ≡ true → get_or (seen step.levels) w 0 ≢ step.level) → IsLessBy (left_at step (take (i + 1) met)) a b
  left_not off = subst (λ (xs : List ℕ). IsLessBy xs a b) (sym (ends_no (λ (e : Pair). e.0) (stays_behind step) met i d (v, w) at item (neither _ _ _ off))) s
