-- How a plan is shown, move by move and group by group.
use Rattle.std.proofs.Common.{◌≡◌, ◌≢◌, ℕ, ◌+◌, ◌<◌, ◌≤◌, List, [], ◌∷◌, ◌++◌, length, get_or, All, Contains, Some, suc, zero, Bool, true, false, refl, sym, ap, ◌∙◌, subst, arith, append-nil, length-append, map}
use Rattle.std.proofs.lemmas.List.Elements.{Contains-push, Contains-append_left}
use Rattle.std.specs.Bool.{OnTrue}
use Rattle.std.specs.List.{slice_get}
use mathlib.Core.List.{IsPrefix}
use mathlib.Core.Logic.{dite}
use native.Mathlib.Decide.{ℕ_discrete}
use Rattle.kc_history.specs.declared.entries.Entry.{Entry}
use Rattle.kc_history.specs.declared.limits.TheConstants.{MAX_PHASE}
use Rattle.kc_groups.specs.declared.plans.PhasePlan.{PhasePlan}
use Rattle.kc_groups.specs.WellFormed.{vertex_at, IsWellFormed}
use Rattle.kc_store.specs.declared.roles.Loan.{Loan}
use Rattle.kc_store.specs.declared.roles.WriterState.{WriterState}
use Rattle.kc_store.specs.Plans.{Move, group_at}
use Rattle.kc_store.specs.States.{AllMovesIn, MayBegin, MayPublish, with_marked, with_cleared, with_entry_if, with_published, with_phase}
use Rattle.kc_store.specs.private.Showing.{HasMarked, HasCleared, HasShownGroup}
use Rattle.kc_store.specs.Showing.{AreCurrent, IsIdle}
use Rattle.store_bench.specs.private.Showing.{IsShowing}

there : {A : Type 0} → (xs : List A) (i : ℕ) (d : A) → i < length xs → slice_get xs i ≡ Some (get_or xs i d)
there [] i d lt = absurd (omega (arith, lt))
there (x ∷ xs) zero d lt = refl
there (x ∷ xs) (suc i) d lt = there xs i d (omega (arith, lt))

got : {A : Type 0} → (xs : List A) (i : ℕ) (x d : A) → slice_get xs i ≡ Some x → get_or xs i d ≡ x
got [] i x d is = cc
got (y ∷ ys) zero x d is = cc
got (y ∷ ys) (suc i) x d is = got ys i x d is

got_map : {A B : Type 0} → (f : A → B) (xs : List A) (i : ℕ) (x : A) → slice_get xs i ≡ Some x → slice_get (map f xs) i ≡ Some (f x)
got_map f [] i x is = cc
got_map f (y ∷ ys) zero x is = let s : y ≡ x = cc in ap (λ z. Some (f z)) s
got_map f (y ∷ ys) (suc i) x is = got_map f ys i x is

pub marked_none : (g : ℕ) (s : WriterState) → HasMarked g 0 s s
marked_none g s = record { same = refl; loans = refl; each = λ i lt. absurd (omega (arith, lt)) }

pub marked_more : (g i : ℕ) (old mid new : WriterState) → HasMarked g i old mid → new ≡ with_marked (vertex_at old.plan g i) mid → HasMarked g (i + 1) old new
marked_more g i old mid new h is = subst (HasMarked g (i + 1) old) (sym is) record {
  same = ap (with_marked (vertex_at old.plan g i)) h.same;
  loans = h.loans;
  each = λ j lt. dite (ℕ_discrete j i)
      (λ s. subst (λ (k : ℕ). Contains (mid.marked ++ vertex_at old.plan g i ∷ []) (vertex_at old.plan g k)) (sym s) (Contains-push mid.marked (vertex_at old.plan g i)))
      (λ o. Contains-append_left mid.marked (vertex_at old.plan g i ∷ []) (vertex_at old.plan g j) (h.each j (omega (arith, lt, o))));
}

pub cleared_none : (g : ℕ) (s : WriterState) → HasCleared g 0 s s
cleared_none g s = record { same = refl; kept = λ v on. on; each = λ i lt. absurd (omega (arith, lt)) }

pub cleared_more : (g i : ℕ) (old mid new : WriterState) → HasCleared g i old mid → new ≡ with_cleared (vertex_at old.plan g i) mid → HasCleared g (i + 1) old new
cleared_more g i old mid new h is = subst (HasCleared g (i + 1) old) (sym is) record {
  same = ap (with_cleared (vertex_at old.plan g i)) h.same;
  kept = λ v on. Contains-append_left mid.cleared (vertex_at old.plan g i ∷ []) v (h.kept v on);
  each = λ j lt. dite (ℕ_discrete j i)
      (λ s. subst (λ (k : ℕ). Contains (mid.cleared ++ vertex_at old.plan g i ∷ []) (vertex_at old.plan g k)) (sym s) (Contains-push mid.cleared (vertex_at old.plan g i)))
      (λ o. Contains-append_left mid.cleared (vertex_at old.plan g i ∷ []) (vertex_at old.plan g j) (h.each j (omega (arith, lt, o))));
}

no_more : (es : List Entry) → length es ≡ 0 → es ≡ []
no_more [] h = refl
no_more (x ∷ xs) h = absurd (omega (arith, h))

-- lists that begin each other are the same
pub begin_each_other : (a b : List Entry) → IsPrefix a b → IsPrefix b a → a ≡ b
begin_each_other a b p q =
    let la = ap (length {A = Entry}) p.1 in
    let lb = ap (length {A = Entry}) q.1 in
    let ka = length-append a p.0 in
    let kb = length-append b q.0 in
    let none : p.0 ≡ [] = no_more p.0 (omega (arith, la, lb, ka, kb)) in
    sym (append-nil a) ∙ (ap (λ (z : List Entry). a ++ z) (sym none) ∙ p.1)

-- what holds of each place of a group's moves holds of each move
all_moves : (vs : List ℕ) (plan : PhasePlan) (g count : ℕ) → count ≡ length (group_at plan g).moves → ((i : ℕ) → i < count → Contains vs (vertex_at plan g i)) → AllMovesIn vs (group_at plan g)
all_moves vs plan g count size each k d lt =
    let e : Entry = group_at plan g in
    let at = there e.moves k d lt in
    let vertex : vertex_at plan g k ≡ (get_or e.moves k d).vertex = (got (map (λ (x : Move). x.vertex) e.moves) k _ 0 (got_map (λ (x : Move). x.vertex) e.moves k _ at)) in
    subst (Contains vs) vertex (each k (subst (λ (z : ℕ). k < z) (sym size) lt))

pub may_publish : (g count : ℕ) (old new : WriterState) → HasMarked g count old new → count ≡ length (group_at old.plan g).moves → g < length old.plan.groups → g ≡ old.published → old.loans ≡ [] → MayPublish new g
may_publish g count old new h size inside next none =
    let plan : new.plan ≡ old.plan = ap (λ (s : WriterState). s.plan) h.same in record {
      inside = subst (λ (p : PhasePlan). g < length p.groups) (sym plan) inside;
      next = next ∙ sym (ap (λ (s : WriterState). s.published) h.same);
      none_out = subst (λ (ls : List Loan). All (λ (l : Loan). l.group ≢ g) ls) (sym (h.loans ∙ none)) (λ k d lt. absurd (omega (arith, lt)));
      all_marked = subst (λ (p : PhasePlan). AllMovesIn new.marked (group_at p g)) (sym plan) (all_moves new.marked old.plan g count size h.each);
    }

pub shown_group : (g count : ℕ) (old mid last new : WriterState) → HasMarked g count old mid → last ≡ with_published mid → HasCleared g count last new → count ≡ length (group_at old.plan g).moves → g < length old.plan.groups → g ≡ old.published → old.loans ≡ [] → HasShownGroup g old new
shown_group g count old mid last new marked is cleared size inside next none =
    let group : slice_get old.plan.groups old.published ≡ Some (group_at old.plan g) = ap (slice_get old.plan.groups) (sym next) ∙ there old.plan.groups g old.plan.quiet inside in
    let after : last ≡ with_published (record old { noted = mid.noted; marked = mid.marked; loans = mid.loans; lent = mid.lent }) = is ∙ ap with_published marked.same in
    let published : last ≡ record old { noted = mid.noted; marked = mid.marked; loans = mid.loans; lent = mid.lent; history = old.history ++ group_at old.plan g ∷ []; published = old.published + 1 } =
    after ∙ (λ i. record old { noted = mid.noted; marked = mid.marked; loans = mid.loans; lent = mid.lent; history = with_entry_if (group i) old.history; published = old.published + 1 }) in
    let whole : new ≡ record old { noted = mid.noted; marked = mid.marked; cleared = new.cleared; loans = mid.loans; lent = mid.lent; history = old.history ++ group_at old.plan g ∷ []; published = old.published + 1 } =
    cleared.same ∙ ap (λ (s : WriterState). record s { cleared = new.cleared }) published in
    let plan : last.plan ≡ old.plan = ap (λ (s : WriterState). s.plan) published in
    record {
      same = whole ∙ (λ i. record old {
        noted = (sym (ap (λ (s : WriterState). s.noted) whole)) i;
        marked = (sym (ap (λ (s : WriterState). s.marked) whole)) i;
        cleared = new.cleared;
        loans = (sym (ap (λ (s : WriterState). s.loans) whole)) i;
        lent = (sym (ap (λ (s : WriterState). s.lent) whole)) i;
        history = old.history ++ group_at old.plan g ∷ [];
        published = old.published + 1;
      });
      loans = ap (λ (s : WriterState). s.loans) whole ∙ (marked.loans ∙ none);
      kept = λ v on. cleared.kept v (subst (λ (vs : List ℕ). Contains vs v) (sym (ap (λ (s : WriterState). s.cleared) published)) on);
      each = all_moves new.cleared old.plan g count size (λ i lt. subst (λ (p : PhasePlan). Contains new.cleared (vertex_at p g i)) plan (cleared.each i lt));
    }

pub shown_none : (plan : PhasePlan) (old new : WriterState) → old.loans ≡ [] → new ≡ with_phase plan old → IsShowing plan 0 old new
shown_none plan old new none is = subst (IsShowing plan 0 old) (sym is) record {
  vertices = refl;
  phase = refl;
  plan_is = refl;
  published = refl;
  loans = none;
  cleared = λ k lt. absurd (omega (arith, lt));
}

pub shown_more : (plan : PhasePlan) (g : ℕ) (old mid new : WriterState) → IsShowing plan g old mid → g < length plan.groups → HasShownGroup g mid new → IsShowing plan (g + 1) old new
shown_more plan g old mid new h inside k = record {
  vertices = ap (λ (s : WriterState). s.vertices) k.same ∙ h.vertices;
  phase = ap (λ (s : WriterState). s.phase) k.same ∙ h.phase;
  plan_is = ap (λ (s : WriterState). s.plan) k.same ∙ h.plan_is;
  published = ap (λ (s : WriterState). s.published) k.same ∙ ap (λ (z : ℕ). z + 1) h.published;
  loans = k.loans;
  cleared = λ j lt. dite (ℕ_discrete j g)
      (λ s. subst (λ (z : ℕ). AllMovesIn new.cleared (group_at plan z)) (sym s) (subst (λ (p : PhasePlan). AllMovesIn new.cleared (group_at p g)) h.plan_is k.each))
      (λ o i d few. k.kept _ (h.cleared j (omega (arith, lt, o)) i d few));
}

pub get_or_any : {A : Type 0} → (xs : List A) (i : ℕ) (a b : A) → i < length xs → get_or xs i a ≡ get_or xs i b
get_or_any [] i a b lt = absurd (omega (arith, lt))
get_or_any (x ∷ xs) zero a b lt = refl
get_or_any (x ∷ xs) (suc i) a b lt = get_or_any xs i a b (omega (arith, lt))

pub idle_shown : (plan : PhasePlan) (old new : WriterState) → IsShowing plan (length plan.groups) old new → IsIdle new
idle_shown plan old new h = record {
  published = h.published ∙ ap (λ (p : PhasePlan). length p.groups) (sym h.plan_is);
  cleared = subst (λ (p : PhasePlan). All (AllMovesIn new.cleared) p.groups) (sym h.plan_is) (λ k d lt. subst (AllMovesIn new.cleared) (get_or_any plan.groups k plan.quiet d lt) (h.cleared k lt));
  loans = h.loans;
}

pub may_begin_joined : (n : ℕ) (old new : WriterState) (plan : PhasePlan) → new ≡ record old { joined = new.joined } → old.vertices ≡ n → IsIdle old → plan.quiet.phase ≡ old.phase + 1 → old.phase + 1 ≤ MAX_PHASE → IsWellFormed n plan → All (AreCurrent n old.history) plan.groups → MayBegin new plan
may_begin_joined n old new plan same vertices idle next phase_in formed current = subst (λ (s : WriterState). MayBegin s plan) (sym same) record {
  all_published = idle.published;
  all_cleared = idle.cleared;
  none_out = idle.loans;
  next = next;
  phase_in = phase_in;
  well_formed = subst (λ (k : ℕ). IsWellFormed k plan) (sym vertices) formed;
  old_levels = subst (λ (k : ℕ). All (AreCurrent k old.history) plan.groups) (sym vertices) current;
}

pub idle_joined : (old new : WriterState) → new ≡ record old { joined = new.joined } → IsIdle old → IsIdle new
idle_joined old new same idle = subst IsIdle (sym same) record { published = idle.published; cleared = idle.cleared; loans = idle.loans }

pub on_true : (b : Bool) {P Q : Type 0} → (P → Q) → OnTrue b P → OnTrue b Q
on_true true f h = f h
on_true false f h = tt
