-- The phases of a batch continue the history of a writer.
use Rattle.std.proofs.Common.{ℕ, suc, ◌+◌, ◌≡◌, Bool, true, false, List, [], ◌∷◌, ◌++◌, length, get_or, refl, ap, sym, ◌∙◌, arith, append_assoc, append-nil, subst}
use Rattle.kc_graph.specs.declared.cleaning.Cleaned.{Cleaned}
use Rattle.kc_graph.specs.Shape.{Pair, GraphShape}
use Rattle.kc_graph.proofs.lemmas.Changes.{vertices-without_edges}
use Rattle.kc_levels.specs.declared.moves.Move.{Move}
use Rattle.kc_history.specs.declared.entries.Entry.{Entry}
use Rattle.kc_history.specs.Points as points
use Rattle.kc_history.proofs.lemmas.Points.{entries_lead_on}
use Rattle.kc_groups.specs.declared.plans.PhasePlan.{PhasePlan}
use Rattle.kc_groups.specs.Entries.{entries_of, entries_in, AreEntries}
use Rattle.kc_groups.specs.Laws.{IsOwnMove}
use Rattle.kc_groups.specs.WellFormed.{IsWellFormed}
use Rattle.kc_groups.proofs.lemmas.Plans.{plan_is_well_formed, moves_are_in_their_groups}
use Rattle.kc_store.specs.declared.roles.WriterState.{WriterState}
use Rattle.kc_engine.specs.States.{State, IsSound}
use Rattle.kc_engine.specs.Batches.{IsCleaning, phases_for, graph_after_batch, IsOnePhase, ArePhaseOf, IsAfterPhases}
use Rattle.kc_engine.specs.Laws.{IsHistoryOf}
use Rattle.kc_engine.specs.Showing.{IsNext, GoOn, IsAbreast, PhasesContinue, ShownIsAbreast}
use Rattle.kc_engine.proofs.BatchLemmas.{fits, at_state, after_lowered, vertices_after}
use Rattle.kc_engine.proofs.PhaseLaw.{led_out, phase_count_is, phases_are_numbered_on, phases_lead_on}

-- the plan of a phase that begins at the levels at the end of a history
next_plan : (n phase : ℕ) (past : List Entry) (add : Bool) (es : List Pair) (x y : List ℕ) (g : GraphShape) (plan : PhasePlan) → AreEntries (phase + 1) add es x y g plan → g.vertices ≡ n → points.levels_at n past (length past) ≡ x → IsNext n phase past plan
next_plan n phase past add es x y g plan are here levels = record {
  well_formed = subst (λ (k : ℕ). IsWellFormed k plan) here (plan_is_well_formed (phase + 1) add es x y g plan are);
  number = ap (λ (e : Entry). e.phase) are.quiet;
  old_levels = λ k d lt i m inside.
      let e : Entry = get_or plan.groups k d in
      let own : IsOwnMove x y g e (get_or e.moves i m) = moves_are_in_their_groups.only (phase + 1) add es x y g plan are k d lt i m inside in
      ap (λ (z : List ℕ). get_or z (get_or e.moves i m).vertex 0) levels ∙ sym (ap (λ (z : Move). z.old) own.move);
}

phase_goes_on : (n phase : ℕ) (past : List Entry) (add : Bool) (es : List Pair) (x y : List ℕ) (g : GraphShape) (plans : List PhasePlan) → ArePhaseOf (phase + 1) add es x y g plans → g.vertices ≡ n → points.levels_at n past (length past) ≡ x → GoOn n phase past plans
phase_goes_on n phase past add [] x y g plans a here levels = subst (λ (ps : List PhasePlan). GoOn n phase past ps) (sym a) tt
phase_goes_on n phase past add (e ∷ es) x y g plans a here levels =
    let b : IsOnePhase (phase + 1) add (e ∷ es) x y g plans = a in
    subst (λ (ps : List PhasePlan). GoOn n phase past ps) (sym b.alone) (next_plan n phase past add (e ∷ es) x y g b.plan b.entries here levels, tt)

go_on_longer : (n phase : ℕ) (past : List Entry) (ps qs : List PhasePlan) → GoOn n phase past ps → GoOn n (phase + length ps) (past ++ entries_in ps) qs → GoOn n phase past (ps ++ qs)
go_on_longer n phase past [] qs a b = let e : phase + 0 ≡ phase = omega arith in subst (λ (z : ℕ × List Entry). GoOn n z.0 z.1 qs) (λ t. (e t, append-nil past t)) b
go_on_longer n phase past (p ∷ ps) qs a b =
    let e : phase + suc (length ps) ≡ (phase + 1) + length ps = omega arith in
    (a.0, go_on_longer n (phase + 1) (past ++ entries_of p) ps qs a.1 (subst (λ (z : ℕ × List Entry). GoOn n z.0 z.1 qs) (λ t. (e t, sym (append_assoc past (entries_of p) (entries_in ps)) t)) b))

-- the phases go on from the history of a writer that is abreast
go_on : (limit : ℕ) (w : WriterState) (s t : State) (c : Cleaned) (plans : List PhasePlan) → IsSound limit s → IsCleaning s.graph c → IsAfterPhases s c t plans → IsAbreast w s → GoOn s.graph.vertices s.phases w.history plans
go_on limit w s t c plans sound cleaning a abreast =
    let n : ℕ = s.graph.vertices in
    let k = at_state limit s sound in
    let f = fits s.graph c sound.graph cleaning in
    let between = a.after.levels.between in
    let middle = after_lowered s.profile s.graph c.removed s.levels between k a.after.levels.lowered in
    let here = vertices-without_edges s.graph c.removed in
    let led = led_out s.profile (s.phases + 1) c.removed s.levels between s.graph a.phases.leaving sound.graph k.both.sized (middle.both.sized ∙ here) f.removed_ascend f.removed_present a.after.levels.lowered a.phases.deletion in
    let past : points.levels_at n (w.history ++ entries_in a.phases.leaving) (length (w.history ++ entries_in a.phases.leaving)) ≡ between =
    entries_lead_on.levels n w.history (entries_in a.phases.leaving) ∙ (ap (λ (x : List ℕ). points.levels_after x (entries_in a.phases.leaving)) abreast.history.levels ∙ led.levels) in
    let counted = phase_count_is (s.phases + 1) false c.removed s.levels between s.graph a.phases.leaving a.phases.deletion in
    let number : s.phases + phases_for c.removed + 1 ≡ s.phases + length a.phases.leaving + 1 = omega (arith, counted) in
    let first = phase_goes_on n s.phases w.history false c.removed s.levels between s.graph a.phases.leaving a.phases.deletion refl abreast.history.levels in
    let second = phase_goes_on n (s.phases + length a.phases.leaving) (w.history ++ entries_in a.phases.leaving) true c.added between t.levels (graph_after_batch s.graph c) a.phases.coming
    (subst (λ (z : ℕ). ArePhaseOf z true c.added between t.levels (graph_after_batch s.graph c) a.phases.coming) number a.phases.insertion) (vertices_after s.graph c) past in
    subst (λ (ps : List PhasePlan). GoOn n s.phases w.history ps) (sym a.phases.all) (go_on_longer n s.phases w.history a.phases.leaving a.phases.coming first second)

same_vertices : (s t : State) (c : Cleaned) (plans : List PhasePlan) → IsAfterPhases s c t plans → s.graph.vertices ≡ t.graph.vertices
same_vertices s t c plans a = sym (ap (λ (g : GraphShape). g.vertices) a.after.graph ∙ vertices_after s.graph c)

-- a history that leads to the state after the batch
led_on : (limit : ℕ) (w : WriterState) (s t : State) (c : Cleaned) (plans : List PhasePlan) → IsSound limit s → IsCleaning s.graph c → IsAfterPhases s c t plans → IsAbreast w s → IsHistoryOf t.graph.vertices (w.history ++ entries_in plans) t
led_on limit w s t c plans sound cleaning a abreast = subst (λ (k : ℕ). IsHistoryOf k (w.history ++ entries_in plans) t) (same_vertices s t c plans a)
    (phases_lead_on limit s.graph.vertices w.history s t c plans sound cleaning a abreast.history)

pub phases_continue : PhasesContinue
phases_continue limit w s t c plans sound cleaning a abreast = record {
  phases = subst (λ (z : ℕ × ℕ). GoOn z.0 z.1 w.history plans) (λ i. (same_vertices s t c plans a i, sym abreast.phase i)) (go_on limit w s t c plans sound cleaning a abreast);
  count = ap (λ (k : ℕ). k + length plans) abreast.phase ∙ phases_are_numbered_on.count s t c plans a;
  levels = (led_on limit w s t c plans sound cleaning a abreast).levels;
}

pub shown_is_abreast : ShownIsAbreast
shown_is_abreast limit w x s t c plans sound cleaning a abreast shown = record {
  vertices = shown.vertices ∙ (abreast.vertices ∙ same_vertices s t c plans a);
  phase = shown.phase ∙ (ap (λ (k : ℕ). k + length plans) abreast.phase ∙ phases_are_numbered_on.count s t c plans a);
  history = subst (λ (es : List Entry). IsHistoryOf t.graph.vertices es t) (sym shown.history) (led_on limit w s t c plans sound cleaning a abreast);
  idle = shown.idle;
}
