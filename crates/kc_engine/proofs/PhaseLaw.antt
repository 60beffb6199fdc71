-- The phases of a batch: there is one list of them, they are numbered on and well formed, and their entries lead over the batch.
use Rattle.std.proofs.Common.{ℕ, suc, zero, ◌+◌, ◌<◌, ◌≡◌, Bool, true, false, List, [], ◌∷◌, ◌++◌, length, get_or, map, refl, ap, sym, ◌∙◌, arith, append_assoc, length-append}
use Rattle.std.specs.Prelude.{All, ◌≢◌, ◌↔◌, IsTrue, Result, Ok, Err, IfOk}
use Rattle.std.proofs.lemmas.Bool.{iff_false}
use Rattle.std.proofs.lemmas.List.{append-nil}
use Rattle.std.proofs.lemmas.List.Elements.{All-cons, All-nil, All-append}
use Rattle.std.proofs.lemmas.Bool.Decides.{nat_tests}
use Rattle.kc_graph.specs.declared.cleaning.Cleaned.{Cleaned}
use Rattle.kc_graph.specs.Shape.{Pair, GraphShape, EdgesFrom, IsGraph, with_edges, without_edges}
use Rattle.kc_graph.specs.Changes.{AllPresent}
use Rattle.kc_graph.proofs.lemmas.Changes.{vertices-with_edges, vertices-without_edges}
use Rattle.kc_levels.specs.declared.profile.Profile.{Profile}
use Rattle.kc_levels.specs.Moved.{moved_count}
use Rattle.kc_history.specs.declared.entries.Entry.{Entry}
use Rattle.kc_history.specs.Points as points
use Rattle.kc_history.proofs.lemmas.Points.{graph_after-append, levels_after-append, entries_lead_on}
use Rattle.kc_groups.specs.declared.plans.PhasePlan.{PhasePlan}
use Rattle.kc_groups.specs.Entries.{entries_of, entries_in, AreEntries}
use Rattle.kc_groups.specs.WellFormed.{IsWellFormed}
use Rattle.kc_groups.proofs.lemmas.Plans.{plan_is_one, plan_is_well_formed}
use Rattle.kc_groups.proofs.lemmas.Phases.{entries_lead_over}
use Rattle.kc_engine.specs.declared.plans.BatchPlan.{BatchPlan}
use Rattle.kc_engine.specs.States.{State, IsSound}
use Rattle.kc_engine.specs.Batches.{IsCleaning, phases_for, AreLoweredIn, AreRaisedIn, graph_after_batch, AreLevelsAfter, IsAfterBatch, IsOnePhase, ArePhaseOf, ArePhases, IsAfterPhases}
use Rattle.kc_engine.specs.private.Batches.{IsPlanOf}
use Rattle.kc_engine.specs.Laws.{PhasesAreOne, PhasesAreNumberedOn, PhasesAreWellFormed, PhasesLeadOver, PhasesLeadOn}
use Rattle.kc_engine.proofs.BatchLemmas.{fits, IsAt, at_state, after_lowered, at_after, one_lowered, ascend_later, batch_has_one_state, vertices_after}
use Rattle.kc_engine.proofs.RelinkLemmas.{deletion_is_phase, insertion_is_phase}

-- edges that there are have one phase
pub is_one_phase : (phase : ℕ) (add : Bool) (es : List Pair) (x y : List ℕ) (g : GraphShape) (plan : PhasePlan) (plans : List PhasePlan) → es ≢ [] → plans ≡ plan ∷ [] → AreEntries phase add es x y g plan → ArePhaseOf phase add es x y g plans
is_one_phase phase add es x y g plan plans some alone a = grind (arith, nat_tests)

-- the same where the plan was made, if there was memory
pub phase_made : {E : Type 0} → (r : Result BatchPlan E) (phase m : ℕ) (add empty : Bool) (es : List Pair) (x y : List ℕ) (g : GraphShape) (plan : PhasePlan) → (IsTrue empty ↔ (es ≡ [])) → empty ≡ false → AreEntries phase add es x y g plan
    → IfOk r (λ (b : BatchPlan). b ≡ record { phases = plan ∷ []; moves = m }) → IfOk r (λ (b : BatchPlan). ArePhaseOf phase add es x y g b.phases)
phase_made r phase m add empty es x y g plan tells some a is = grind (arith, nat_tests, is_one_phase, iff_false)

pub moves_made : {E : Type 0} → (r : Result BatchPlan E) (m k : ℕ) (plan : PhasePlan) → m ≡ k → IfOk r (λ (b : BatchPlan). b ≡ record { phases = plan ∷ []; moves = m }) → IfOk r (λ (b : BatchPlan). b.moves ≡ k)
moves_made r m k plan e is = grind (arith, nat_tests)

-- the plan of a batch, from those of its two phases
pub plan_of : (p : Profile) (before so_far : ℕ) (g h k : GraphShape) (c : Cleaned) (x y z : List ℕ) (fallen risen plan : BatchPlan) → so_far ≡ before + phases_for c.removed → h ≡ without_edges g c.removed → k ≡ with_edges h c.added
    → AreLoweredIn p g c.removed x y → AreRaisedIn p h c.added y z → ArePhaseOf (before + 1) false c.removed x y g fallen.phases → ArePhaseOf (so_far + 1) true c.added y z k risen.phases
    → fallen.moves ≡ moved_count g.vertices x y → risen.moves ≡ moved_count h.vertices y z → plan ≡ record { phases = fallen.phases ++ risen.phases; moves = fallen.moves + risen.moves } → IsPlanOf p before g c x z plan
plan_of p before so_far g h k c x y z fallen risen plan so left came low high out in_again fell rose is =
    let here : h.vertices ≡ g.vertices = ap (λ (t : GraphShape). t.vertices) left ∙ vertices-without_edges g c.removed in
    record {
      levels = record { between = y; lowered = low; raised = rw left at high };
      phases = record { leaving = fallen.phases; coming = risen.phases; all = ap (λ (t : BatchPlan). t.phases) is; deletion = out; insertion = rw (so, came, left) at in_again };
      count = ap (λ (t : BatchPlan). t.moves) is ∙ ap (λ (m : ℕ). m + risen.moves) fell ∙ ap (λ (m : ℕ). moved_count g.vertices x y + m) (rose ∙ ap (λ (n : ℕ). moved_count n y z) here);
    }

pub plan_made : {E : Type 0} → (r : Result BatchPlan E) (p : Profile) (before so_far : ℕ) (g h k : GraphShape) (c : Cleaned) (x y z : List ℕ) (fallen risen : BatchPlan) → so_far ≡ before + phases_for c.removed → h ≡ without_edges g c.removed → k ≡ with_edges h c.added
    → AreLoweredIn p g c.removed x y → AreRaisedIn p h c.added y z → ArePhaseOf (before + 1) false c.removed x y g fallen.phases → ArePhaseOf (so_far + 1) true c.added y z k risen.phases
    → fallen.moves ≡ moved_count g.vertices x y → risen.moves ≡ moved_count h.vertices y z → IfOk r (λ (b : BatchPlan). b ≡ record { phases = fallen.phases ++ risen.phases; moves = fallen.moves + risen.moves }) → IfOk r (λ (b : BatchPlan). IsPlanOf p before g c x z b)
plan_made r p before so_far g h k c x y z fallen risen so left came low high out in_again fell rose is = grind (arith, nat_tests, plan_of)

-- the phase of these edges, if there is one
one_phase : (phase : ℕ) (add : Bool) (es : List Pair) (x y : List ℕ) (g : GraphShape) → IsGraph g
    → (plans : List PhasePlan) × (ArePhaseOf phase add es x y g plans × ((others : List PhasePlan) → ArePhaseOf phase add es x y g others → others ≡ plans))
one_phase phase add [] x y g graph = ([], (refl, λ others a. a))
one_phase phase add (e ∷ es) x y g graph =
    let one = plan_is_one phase add (e ∷ es) x y g graph in
    let here : IsOnePhase phase add (e ∷ es) x y g (one.0 ∷ []) = record { plan = one.0; alone = refl; entries = one.1.0 } in (
      one.0 ∷ [],
      (
        here,
        λ others a.
            let b : IsOnePhase phase add (e ∷ es) x y g others = a in
            b.alone ∙ ap (λ (p : PhasePlan). p ∷ []) (one.1.1 b.plan b.entries),
      ),
    )

-- the phases of a batch at levels that are known
one_list : (before : ℕ) (g : GraphShape) (c : Cleaned) (x between y : List ℕ) → IsGraph g → IsGraph (graph_after_batch g c)
    → (plans : List PhasePlan) × (ArePhases before g c x between y plans × ((others : List PhasePlan) → ArePhases before g c x between y others → others ≡ plans))
one_list before g c x between y graph later =
    let leaving = one_phase (before + 1) false c.removed x between g graph in
    let coming = one_phase (before + phases_for c.removed + 1) true c.added between y (graph_after_batch g c) later in (
      leaving.0 ++ coming.0,
      (
        record { leaving = leaving.0; coming = coming.0; all = refl; deletion = leaving.1.0; insertion = coming.1.0 },
        λ others a.
            a.all ∙ ap (λ (t : List PhasePlan). t ++ a.coming) (leaving.1.1 a.leaving a.deletion)
            ∙ ap (λ (t : List PhasePlan). leaving.0 ++ t) (coming.1.1 a.coming a.insertion),
      ),
    )

-- the levels between the two phases of a batch are one list
same_between : (p : Profile) (g : GraphShape) (c : Cleaned) (x y z : List ℕ) → IsAt p g x → (a : AreLevelsAfter p g c x y) → (b : AreLevelsAfter p g c x z) → b.between ≡ a.between
same_between p g c x y z k a b = let low = one_lowered p g c.removed x k in low.1.1 b.between b.lowered ∙ sym (low.1.1 a.between a.lowered)

moved_over : (before : ℕ) (g : GraphShape) (c : Cleaned) (x b d y z : List ℕ) (plans : List PhasePlan) → b ≡ d → y ≡ z → ArePhases before g c x b y plans → ArePhases before g c x d z plans
moved_over before g c x b d y z plans e f a = grind (arith, nat_tests)

pub phases_are_one : PhasesAreOne
phases_are_one limit s c sound cleaning =
    let k = at_state limit s sound in
    let f = fits s.graph c sound.graph cleaning in
    let one = batch_has_one_state limit s c sound cleaning in
    let a : IsAfterBatch s c one.0 = one.1.0 in
    let later = (at_after s.profile s.graph c s.levels one.0.levels k f a.levels).graph in
    let plans = one_list s.phases s.graph c s.levels a.levels.between one.0.levels sound.graph later in (
      plans.0,
      (
        (one.0, record { after = a; phases = plans.1.0 }),
        λ u others b.
            plans.1.1 others
            (
            moved_over s.phases s.graph c s.levels b.after.levels.between a.levels.between u.levels one.0.levels others
            (same_between s.profile s.graph c s.levels one.0.levels u.levels k a.levels b.after.levels)
            (ap (λ (r : State). r.levels) (one.1.1 u b.after))
            b.phases
            ),
      ),
    )

-- how many phases these edges have
pub phase_count_is : (phase : ℕ) (add : Bool) (es : List Pair) (x y : List ℕ) (g : GraphShape) (plans : List PhasePlan) → ArePhaseOf phase add es x y g plans → length plans ≡ phases_for es
phase_count_is phase add es x y g plans a = grind (arith, nat_tests)

-- the phase of these edges has its number
one_number : (phase : ℕ) (add : Bool) (es : List Pair) (x y : List ℕ) (g : GraphShape) (plans : List PhasePlan) → ArePhaseOf phase add es x y g plans → (i : ℕ) → i < length plans → get_or (map (λ (p : PhasePlan). p.quiet.phase) plans) i 0 ≡ phase + i
one_number phase add es x y g plans a i inside = grind (arith, nat_tests)

-- numbers that go on from one list to another
numbers_on : (k : ℕ) (ls rs : List PhasePlan) → ((i : ℕ) → i < length ls → get_or (map (λ (p : PhasePlan). p.quiet.phase) ls) i 0 ≡ k + i) → ((i : ℕ) → i < length rs → get_or (map (λ (p : PhasePlan). p.quiet.phase) rs) i 0 ≡ k + length ls + i)
    → (i : ℕ) → i < length (ls ++ rs) → get_or (map (λ (p : PhasePlan). p.quiet.phase) (ls ++ rs)) i 0 ≡ k + i
numbers_on k [] rs first later i inside = later i inside ∙ omega arith
numbers_on k (p ∷ ls) rs first later zero inside = first 0 (omega arith)
numbers_on k (p ∷ ls) rs first later (suc i) inside = grind (arith, nat_tests, numbers_on (k + 1) ls rs (λ j h. first (suc j) (omega (arith, h)) ∙ omega arith) (λ j h. later j h ∙ omega arith) i (omega (arith, inside)))

pub phases_are_numbered_on : PhasesAreNumberedOn
phases_are_numbered_on = record { count = count; number = number }
  where
    count : (s t : State) (c : Cleaned) (plans : List PhasePlan) → IsAfterPhases s c t plans → s.phases + length plans ≡ t.phases
    count s t c plans a = grind (arith, nat_tests, length-append, phase_count_is, a.phases.all, a.phases.leaving, a.phases.coming, a.after.levels.between, a.phases.deletion, a.phases.insertion, a.after.phases)

    number : (s t : State) (c : Cleaned) (plans : List PhasePlan) (i : ℕ) → IsAfterPhases s c t plans → i < length plans → get_or (map (λ (p : PhasePlan). p.quiet.phase) plans) i 0 ≡ s.phases + i + 1
    number s t c plans i a inside = grind (arith, nat_tests, phase_count_is, numbers_on, one_number, a.after.levels.between, a.phases.leaving, a.phases.deletion, a.phases.coming, a.phases.insertion, a.phases.all)

-- the phase of these edges is well formed
phase_well_formed : (phase : ℕ) (add : Bool) (es : List Pair) (x y : List ℕ) (g : GraphShape) (plans : List PhasePlan) → ArePhaseOf phase add es x y g plans → All (IsWellFormed g.vertices) plans
phase_well_formed phase add [] x y g plans a = rw a (All-nil (IsWellFormed g.vertices))
phase_well_formed phase add (e ∷ es) x y g plans a =
    let b : IsOnePhase phase add (e ∷ es) x y g plans = a in
    rw b.alone (All-cons (IsWellFormed g.vertices) b.plan [] (plan_is_well_formed phase add (e ∷ es) x y g b.plan b.entries) (All-nil (IsWellFormed g.vertices)))

-- the phases of a batch are well formed
pub well_formed : (before : ℕ) (g : GraphShape) (c : Cleaned) (x z y : List ℕ) (plans : List PhasePlan) → ArePhases before g c x z y plans → All (IsWellFormed g.vertices) plans
well_formed before g c x z y plans phases =
    let leave = phase_well_formed (before + 1) false c.removed x z g phases.leaving phases.deletion in
    let come = phase_well_formed (before + phases_for c.removed + 1) true c.added z y (graph_after_batch g c) phases.coming phases.insertion in
    rw phases.all (All-append (IsWellFormed g.vertices) phases.leaving phases.coming leave (rw (vertices_after g c) at come))

pub well_formed_made : {E : Type 0} → (r : Result BatchPlan E) (p : Profile) (before : ℕ) (g : GraphShape) (c : Cleaned) (x y : List ℕ) → IfOk r (λ (b : BatchPlan). IsPlanOf p before g c x y b) → IfOk r (λ (b : BatchPlan). All (IsWellFormed g.vertices) b.phases)
well_formed_made (Ok b) p before g c x y a = well_formed before g c x a.levels.between y b.phases a.phases
well_formed_made (Err e) p before g c x y a = tt

pub phases_are_well_formed : PhasesAreWellFormed
phases_are_well_formed s t c plans a = well_formed s.phases s.graph c s.levels a.after.levels.between t.levels plans a.phases

pub entries_in-append : (ps qs : List PhasePlan) → entries_in (ps ++ qs) ≡ entries_in ps ++ entries_in qs
entries_in-append [] qs = refl
entries_in-append (p ∷ ps) qs = ap (λ (es : List Entry). entries_of p ++ es) (entries_in-append ps qs) ∙ sym (append_assoc (entries_of p) (entries_in ps) (entries_in qs))

-- what the entries of a phase lead to
pub record IsLed (g h : GraphShape) (x y : List ℕ) (plans : List PhasePlan) : Type 0 where
  pub graph : points.graph_after g (entries_in plans) ≡ h
  pub levels : points.levels_after x (entries_in plans) ≡ y

led_by_one : (g h : GraphShape) (x y : List ℕ) (plans : List PhasePlan) (p : PhasePlan) → plans ≡ p ∷ [] → points.graph_after g (entries_of p) ≡ h → points.levels_after x (entries_of p) ≡ y → IsLed g h x y plans
led_by_one g h x y plans p alone graph levels = grind (arith, nat_tests, append-nil)

led_by_none : (g : GraphShape) (x y : List ℕ) (plans : List PhasePlan) → plans ≡ [] → y ≡ x → IsLed g g x y plans
led_by_none g x y plans none same = record {
  graph = ap (λ (ps : List PhasePlan). points.graph_after g (entries_in ps)) none;
  levels = ap (λ (ps : List PhasePlan). points.levels_after x (entries_in ps)) none ∙ sym same;
}

-- the phase in which edges leave
pub led_out : (p : Profile) (phase : ℕ) (es : List Pair) (x y : List ℕ) (g : GraphShape) (plans : List PhasePlan) → IsGraph g → length x ≡ g.vertices → length y ≡ g.vertices → EdgesFrom g.vertices 0 0 es → AllPresent g es
    → AreLoweredIn p g es x y → ArePhaseOf phase false es x y g plans → IsLed g (without_edges g es) x y plans
led_out p phase [] x y g plans graph sx sy up present low a = led_by_none g x y plans a low
led_out p phase (e ∷ es) x y g plans graph sx sy up present low a =
    let b : IsOnePhase phase false (e ∷ es) x y g plans = a in
    let is = deletion_is_phase g (e ∷ es) x y graph sx sy up present in
    led_by_one g (without_edges g (e ∷ es)) x y plans b.plan b.alone
    (entries_lead_over.graph phase false (e ∷ es) x y g g b.plan is b.entries graph refl)
    (entries_lead_over.levels phase false (e ∷ es) x y g b.plan is b.entries)

-- the phase in which edges come in
led_in : (p : Profile) (phase : ℕ) (es : List Pair) (x y : List ℕ) (g : GraphShape) (plans : List PhasePlan) → IsGraph g → length x ≡ g.vertices → length y ≡ g.vertices → EdgesFrom g.vertices 0 0 es
    → AreRaisedIn p g es x y → ArePhaseOf phase true es x y (with_edges g es) plans → IsLed g (with_edges g es) x y plans
led_in p phase [] x y g plans graph sx sy up high a = led_by_none g x y plans a high
led_in p phase (e ∷ es) x y g plans graph sx sy up high a =
    let b : IsOnePhase phase true (e ∷ es) x y (with_edges g (e ∷ es)) plans = a in
    let is = insertion_is_phase g (e ∷ es) x y graph sx sy up in
    led_by_one g (with_edges g (e ∷ es)) x y plans b.plan b.alone
    (entries_lead_over.graph phase true (e ∷ es) x y (with_edges g (e ∷ es)) g b.plan is b.entries graph (sym (vertices-with_edges g (e ∷ es))))
    (entries_lead_over.levels phase true (e ∷ es) x y (with_edges g (e ∷ es)) b.plan is b.entries)

led_both : (g h k : GraphShape) (x y z : List ℕ) (ps qs plans : List PhasePlan) → plans ≡ ps ++ qs → IsLed g h x y ps → IsLed h k y z qs → IsLed g k x z plans
led_both g h k x y z ps qs plans all a b = grind (arith, nat_tests, entries_in-append, graph_after-append, levels_after-append, a.graph, b.graph, a.levels, b.levels)

led_over : (limit : ℕ) (s t : State) (c : Cleaned) (plans : List PhasePlan) → IsSound limit s → IsCleaning s.graph c → IsAfterPhases s c t plans → IsLed s.graph t.graph s.levels t.levels plans
led_over limit s t c plans sound cleaning a =
    let k = at_state limit s sound in
    let f = fits s.graph c sound.graph cleaning in
    let middle = after_lowered s.profile s.graph c.removed s.levels a.after.levels.between k a.after.levels.lowered in
    let end = at_after s.profile s.graph c s.levels t.levels k f a.after.levels in
    let here = vertices-without_edges s.graph c.removed in
    let same = vertices-with_edges (without_edges s.graph c.removed) c.added in
    let out = led_out s.profile (s.phases + 1) c.removed s.levels a.after.levels.between s.graph a.phases.leaving sound.graph k.both.sized (middle.both.sized ∙ here) f.removed_ascend f.removed_present a.after.levels.lowered a.phases.deletion in
    let in_again = led_in s.profile (s.phases + phases_for c.removed + 1) c.added a.after.levels.between t.levels (without_edges s.graph c.removed) a.phases.coming middle.graph middle.both.sized (end.both.sized ∙ same) (ascend_later s.graph c f) a.after.levels.raised a.phases.insertion in
    rw a.after.graph (led_both s.graph (without_edges s.graph c.removed) (graph_after_batch s.graph c) s.levels a.after.levels.between t.levels a.phases.leaving a.phases.coming plans a.phases.all out in_again)

pub phases_lead_over : PhasesLeadOver
phases_lead_over = record {
  graph = λ limit s t c plans sound cleaning a. (led_over limit s t c plans sound cleaning a).graph;
  levels = λ limit s t c plans sound cleaning a. (led_over limit s t c plans sound cleaning a).levels;
}

pub phases_lead_on : PhasesLeadOn
phases_lead_on limit n past s t c plans sound cleaning a is =
    let led = led_over limit s t c plans sound cleaning a in
    record {
      graph = entries_lead_on.graph n past (entries_in plans) ∙ ap (λ (h : GraphShape). points.graph_after h (entries_in plans)) is.graph ∙ led.graph;
      levels = entries_lead_on.levels n past (entries_in plans) ∙ ap (λ (x : List ℕ). points.levels_after x (entries_in plans)) is.levels ∙ led.levels;
    }
