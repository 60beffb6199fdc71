-- How a plan is shown, move by move and group by group.
use Rattle.std.proofs.Common.{◌≡◌, ℕ, ◌+◌, ◌-◌, ◌<◌, ◌≤◌, List, [], ◌∷◌, ◌++◌, length, get_or, take, All, Contains, suc, zero, refl, sym, ap, ◌∙◌, subst, arith, append_assoc, append-nil, map}
use Rattle.std.proofs.lemmas.List.Elements.{Contains-get_or, Contains-append_right}
use Rattle.std.proofs.lemmas.Bool.Decides.{nat_tests}
use Rattle.std.proofs.lemmas.List.FromFn.{length-map-range_with_len, get_or-map-range_with_len, map-range_with_len_more}
use Rattle.std.specs.List.{range_with_len}
use Rattle.std.proofs.lemmas.Option.{slice_get-get_or}
use mathlib.Core.Logic.{dite}
use native.Mathlib.Decide.{ℕ_discrete}
use Rattle.kc_history.specs.declared.entries.Entry.{Entry}
use Rattle.kc_groups.specs.declared.plans.PhasePlan.{PhasePlan}
use Rattle.kc_groups.specs.Entries.{entries_of}
use Rattle.kc_groups.specs.WellFormed.{vertex_at}
use Rattle.kc_store.specs.declared.roles.WriterState.{WriterState}
use Rattle.kc_store.specs.declared.roles.MarkerState.{MarkerState}
use Rattle.kc_store.specs.Plans.{Move, group_at}
use Rattle.kc_store.specs.States.{AllMovesIn, with_phase, marker_marked, marker_cleared}
use Rattle.kc_store.specs.private.Showing.{HasShownGroup, HasShown}
use Rattle.kc_store.specs.Showing.{HasMarkedLent, HasClearedLent, lent_vertices, IsIdle}
use Rattle.kc_store.proofs.Forms.{got, got_map}
use Rattle.kc_store.proofs.Growth.{take_more}

-- the vertices of a marker's moves: none at first, then one more, and each of them
lent_no_more : (m : MarkerState) (vs : List ℕ) → vs ≡ vs ++ lent_vertices m.loan.from m
lent_no_more m vs = grind (arith, nat_tests, append-nil)

lent_one_more : (i : ℕ) (m : MarkerState) → m.loan.from ≤ i → (vs : List ℕ) → (vs ++ lent_vertices i m) ++ vertex_at m.plan m.loan.group i ∷ [] ≡ vs ++ lent_vertices (i + 1) m
lent_one_more i m le vs =
    let f = vertex_at m.plan m.loan.group in
    let from : ℕ = m.loan.from in
    let more : i + 1 - from ≡ (i - from) + 1 = omega (arith, le) in
    append_assoc vs (lent_vertices i m) (f i ∷ []) ∙ ap (λ ws. vs ++ ws) (sym (ap (λ k. map f (range_with_len from k)) more ∙ map-range_with_len_more f from (i - from) i (omega (arith, le))))

lent_end_vertices : (i k : ℕ) (m : MarkerState) → i - m.loan.from ≡ k - m.loan.from → lent_vertices i m ≡ lent_vertices k m
lent_end_vertices i k m same = ap (λ z. map (vertex_at m.plan m.loan.group) (range_with_len m.loan.from z)) same

lent_each_vertex : (end i : ℕ) (m : MarkerState) → m.loan.from ≤ i → i < end → Contains (lent_vertices end m) (vertex_at m.plan m.loan.group i)
lent_each_vertex end i m le lt =
    let f = vertex_at m.plan m.loan.group in
    let n : ℕ = end - m.loan.from in
    let inside : i - m.loan.from < n = omega (arith, le, lt) in
    let long = length-map-range_with_len f m.loan.from n in
    subst (Contains (lent_vertices end m)) (get_or-map-range_with_len f m.loan.from n (i - m.loan.from) i 0 inside (omega (arith, le))) (Contains-get_or (lent_vertices end m) (i - m.loan.from) 0 (omega (arith, inside, long)))

pub lent_none : (m : MarkerState) → HasMarkedLent m.loan.from m m
lent_none m = λ j. record m { noted = lent_no_more m m.noted j; marked = lent_no_more m m.marked j }

pub lent_more : (i : ℕ) (old mid new : MarkerState) → old.loan.from ≤ i → HasMarkedLent i old mid → new ≡ marker_marked (vertex_at old.plan old.loan.group i) mid → HasMarkedLent (i + 1) old new
lent_more i old mid new le h is = is ∙ (ap (marker_marked (vertex_at old.plan old.loan.group i)) h ∙ (λ j. record old { noted = lent_one_more i old le old.noted j; marked = lent_one_more i old le old.marked j }))

pub lent_end : (i k : ℕ) (old new : MarkerState) → i - old.loan.from ≡ k - old.loan.from → HasMarkedLent i old new → HasMarkedLent k old new
lent_end i k old new same h = h ∙ ap (λ ws. record old { noted = old.noted ++ ws; marked = old.marked ++ ws }) (lent_end_vertices i k old same)

-- each move of the range is marked
pub lent_marked : (end i : ℕ) (old new : MarkerState) → HasMarkedLent end old new → old.loan.from ≤ i → i < end → Contains new.marked (vertex_at old.plan old.loan.group i)
lent_marked end i old new h le lt = subst (λ (m : MarkerState). Contains m.marked (vertex_at old.plan old.loan.group i)) (sym h) (Contains-append_right old.marked (lent_vertices end old) (vertex_at old.plan old.loan.group i) (lent_each_vertex end i old le lt))

pub lent_none_cleared : (m : MarkerState) → HasClearedLent m.loan.from m m
lent_none_cleared m = λ j. record m { cleared = lent_no_more m m.cleared j }

pub lent_more_cleared : (i : ℕ) (old mid new : MarkerState) → old.loan.from ≤ i → HasClearedLent i old mid → new ≡ marker_cleared (vertex_at old.plan old.loan.group i) mid → HasClearedLent (i + 1) old new
lent_more_cleared i old mid new le h is = is ∙ (ap (marker_cleared (vertex_at old.plan old.loan.group i)) h ∙ (λ j. record old { cleared = lent_one_more i old le old.cleared j }))

pub lent_end_cleared : (i k : ℕ) (old new : MarkerState) → i - old.loan.from ≡ k - old.loan.from → HasClearedLent i old new → HasClearedLent k old new
lent_end_cleared i k old new same h = h ∙ ap (λ ws. record old { cleared = old.cleared ++ ws }) (lent_end_vertices i k old same)

-- each move of the range is cleared
pub lent_cleared : (end i : ℕ) (old new : MarkerState) → HasClearedLent end old new → old.loan.from ≤ i → i < end → Contains new.cleared (vertex_at old.plan old.loan.group i)
lent_cleared end i old new h le lt = subst (λ (m : MarkerState). Contains m.cleared (vertex_at old.plan old.loan.group i)) (sym h) (Contains-append_right old.cleared (lent_vertices end old) (vertex_at old.plan old.loan.group i) (lent_each_vertex end i old le lt))

-- what holds of each place of a group's moves holds of each move
pub all_moves : (vs : List ℕ) (plan : PhasePlan) (g count : ℕ) → count ≡ length (group_at plan g).moves → ((i : ℕ) → i < count → Contains vs (vertex_at plan g i)) → AllMovesIn vs (group_at plan g)
all_moves vs plan g count size each k d lt =
    let e : Entry = group_at plan g in
    let at = slice_get-get_or e.moves k d lt in
    let vertex : vertex_at plan g k ≡ (get_or e.moves k d).vertex = (got (map (λ (x : Move). x.vertex) e.moves) k _ 0 (got_map (λ (x : Move). x.vertex) e.moves k _ at)).1 in
    subst (Contains vs) vertex (each k (subst (λ (z : ℕ). k < z) (sym size) lt))

take_next : (plan : PhasePlan) (g : ℕ) → g < length plan.groups → take (g + 1 + 1) (entries_of plan) ≡ take (g + 1) (entries_of plan) ++ group_at plan g ∷ []
take_next plan g inside = take_more plan g (group_at plan g) (slice_get-get_or plan.groups g plan.quiet inside)

pub shown_none : (plan : PhasePlan) (old new : WriterState) → old.loans ≡ [] → new ≡ with_phase plan old → HasShown plan 0 old new
shown_none plan old new none is = grind (arith, nat_tests)

pub shown_more : (plan : PhasePlan) (g : ℕ) (old mid new : WriterState) → HasShown plan g old mid → g < length plan.groups → HasShownGroup g mid new → HasShown plan (g + 1) old new
shown_more plan g old mid new h inside k = record {
  vertices = ap (λ (s : WriterState). s.vertices) k.same ∙ h.vertices;
  phase = ap (λ (s : WriterState). s.phase) k.same ∙ h.phase;
  plan_is = ap (λ (s : WriterState). s.plan) k.same ∙ h.plan_is;
  published = ap (λ (s : WriterState). s.published) k.same ∙ ap (λ (z : ℕ). z + 1) h.published;
  history = ap (λ (s : WriterState). s.history) k.same ∙ ((λ i. h.history i ++ group_at (h.plan_is i) g ∷ []) ∙ (append_assoc old.history (take (g + 1) (entries_of plan)) (group_at plan g ∷ []) ∙ ap (λ (z : List Entry). old.history ++ z) (sym (take_next plan g inside))));
  loans = k.loans;
  cleared = λ j lt. dite (ℕ_discrete j g)
      (λ s. subst (λ (z : ℕ). AllMovesIn new.cleared (group_at plan z)) (sym s) (subst (λ (p : PhasePlan). AllMovesIn new.cleared (group_at p g)) h.plan_is k.each))
      (λ o i d few. k.kept _ (h.cleared j (omega (arith, lt, o)) i d few));
}

pub idle_shown : (plan : PhasePlan) (old new : WriterState) → HasShown plan (length plan.groups) old new → IsIdle new
idle_shown plan old new h = record {
  published = h.published ∙ ap (λ (p : PhasePlan). length p.groups) (sym h.plan_is);
  cleared = subst (λ (p : PhasePlan). All (AllMovesIn new.cleared) p.groups) (sym h.plan_is) (λ k d lt. subst (AllMovesIn new.cleared) (same_at plan.groups k plan.quiet d lt) (h.cleared k lt));
  loans = h.loans;
}
  where
    same_at : (es : List Entry) (k : ℕ) (a b : Entry) → k < length es → get_or es k a ≡ get_or es k b
    same_at [] k a b lt = absurd (omega (arith, lt))
    same_at (x ∷ xs) Rattle.std.proofs.Common.zero a b lt = refl
    same_at (x ∷ xs) (Rattle.std.proofs.Common.suc k) a b lt = same_at xs k a b (omega (arith, lt))
