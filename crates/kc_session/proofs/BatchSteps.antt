-- A batch without a fault that was applied, and its line.
use Rattle.std.proofs.Common.{ℕ, ◌≡◌, ◌≤◌, ◌<◌, ◌+◌, Bool, true, false, List, [], ◌∷◌, length, refl, ◌∙◌, subst, arith}
use Rattle.std.proofs.lemmas.List.Sums.{length-filter, count_by-le-length}
use Rattle.std.proofs.lemmas.List.Elements.{All-nil, All-append}
use Rattle.std.specs.Prelude.{Option, None, All}
use Rattle.std.specs.Io.KnownBytes.{append_known}
use Rattle.std.proofs.lemmas.Bool.Decides.{nat_tests}
use Rattle.kc_graph.specs.declared.cleaning.Cleaned.{Cleaned}
use Rattle.kc_graph.specs.declared.items.Item.{Item}
use Rattle.kc_graph.specs.declared.limits.TheConstants.{MAX_EDGES, MAX_ITEMS}
use Rattle.kc_graph.specs.Shape.{Pair, GraphShape, IsGraph}
use Rattle.kc_graph.specs.Cleaning.{IsInside, cleaned}
use Rattle.kc_graph.proofs.lemmas.Cleaning.{each_item_counts_once, cleaned_fits_graph}
use Rattle.kc_text.specs.declared.reason.Reason.{Reason}
use Rattle.kc_text.specs.Writing.{IsPrefix}
use Rattle.kc_batch.specs.declared.batch.Batch.{Batch}
use Rattle.kc_batch.specs.declared.batch.Next.{Next}
use Rattle.kc_batch.specs.declared.batch.Next.TheVariants.{Items, Refused}
use Rattle.kc_batch.specs.HeaderShape.{HeaderShape}
use Rattle.kc_batch.specs.BatchInputs.{rules_of}
use Rattle.kc_batch.specs.Batches.{IsNext}
use Rattle.kc_text.proofs.lemmas.Writing.{prefix_none}
use Rattle.kc_history.specs.declared.entries.Entry.{Entry}
use Rattle.kc_groups.specs.declared.plans.PhasePlan.{PhasePlan}
use Rattle.kc_groups.specs.Entries.{entries_in}
use Rattle.kc_groups.specs.WellFormed.{IsWellFormed}
use Rattle.kc_engine.specs.States.{State, IsSound}
use Rattle.kc_engine.specs.Batches.{phases_for, graph_after_batch, ArePhaseOf, IsAfterPhases}
use Rattle.kc_engine.proofs.lemmas.Phases.{phases_are_well_formed}
use Rattle.kc_session.specs.declared.report.Report.{Report}
use Rattle.kc_session.specs.Reports.{accepted_text, refused_text}
use Rattle.kc_session.specs.States.{stay, refusal_of, reason_of}
use Rattle.kc_session.specs.declared.counts.Counts.{Counts}
use Rattle.kc_session.specs.Counts.{capped, groups_of, moves_of}
use Rattle.kc_session.specs.private.Audiences.{longer}
use Rattle.kc_session.specs.private.Running.{RanStep, WroteSome}
use Rattle.kc_session.specs.private.Outcomes.{IsRefusedFor}
use Rattle.kc_session.specs.RunText.{step_text}
use Rattle.kc_session.proofs.Longer.{longer_none}
use Rattle.kc_session.proofs.Steps.{some_step}

-- a batch doesn't remove more edges than there are, nor add more than it has items
pub few_removed : (g : GraphShape) (items : List Item) → IsGraph g → length g.edges ≤ MAX_EDGES → All (IsInside g.vertices) items → length (cleaned g items).removed < 4294967296
few_removed g items graph room inside = let fits = cleaned_fits_graph g items graph inside in omega (arith, fits.removed_fewer, room)

pub few_added : (g : GraphShape) (items : List Item) → IsGraph g → All (IsInside g.vertices) items → length items ≤ MAX_ITEMS → length (cleaned g items).added < 4294967296
few_added g items graph inside few = omega (arith, each_item_counts_once g items graph inside, few)

-- quiet edges are some of the edges of a phase
few_quiet_of : (phase : ℕ) (add : Bool) (edges : List Pair) (x y : List ℕ) (g : GraphShape) (plans : List PhasePlan) → ArePhaseOf phase add edges x y g plans → length edges < 4294967296
    → All (λ (p : PhasePlan). length p.quiet.edges < 4294967296) plans
few_quiet_of phase add [] x y g plans a few = rw a (All-nil (λ (p : PhasePlan). length p.quiet.edges < 4294967296))
few_quiet_of phase add (e ∷ es) x y g plans a few = grind (arith, nat_tests, length-filter, count_by-le-length, a.plan.quiet.edges, a.entries.quiet, a.alone, a.plan)

pub few_quiet : (s t : State) (items : List Item) (plans : List PhasePlan) → IsGraph s.graph → length s.graph.edges ≤ MAX_EDGES → All (IsInside s.graph.vertices) items → length items ≤ MAX_ITEMS
    → IsAfterPhases s (cleaned s.graph items) t plans → All (λ (p : PhasePlan). length p.quiet.edges < 4294967296) plans
few_quiet s t items plans graph room inside few a =
    let c = cleaned s.graph items in
    rw a.phases.all
    (All-append (λ (p : PhasePlan). length p.quiet.edges < 4294967296) a.phases.leaving a.phases.coming
    (few_quiet_of (s.phases + 1) false c.removed s.levels a.after.levels.between s.graph a.phases.leaving a.phases.deletion (few_removed s.graph items graph room inside))
    (few_quiet_of (s.phases + phases_for c.removed + 1) true c.added a.after.levels.between t.levels (graph_after_batch s.graph c) a.phases.coming a.phases.insertion (few_added s.graph items graph inside few)))

with_some : (n : ℕ) (plans : List PhasePlan) → All (IsWellFormed n) plans → All (λ (p : PhasePlan). (m : ℕ) × IsWellFormed m p) plans
with_some n plans all = λ i d h. (n, all i d h)

-- phases are well formed
pub well_formed : (s t : State) (items : List Item) (plans : List PhasePlan) → IsAfterPhases s (cleaned s.graph items) t plans → All (λ (p : PhasePlan). (m : ℕ) × IsWellFormed m p) plans
well_formed s t items plans a = with_some s.graph.vertices plans (phases_are_well_formed s t (cleaned s.graph items) plans a)

-- the counts after one more refused batch
abbrev refused_after : Counts → Counts
refused_after c = record { batches = c.batches + 1; refused = c.refused + 1; groups = capped (c.groups + 0); moves = capped (c.moves + 0) }

pub accepted_step : (report : Report) (s t : State) (b : Batch) (d : Cleaned) (plans : List PhasePlan) (before now : Option (List ℕ)) (old new : Counts) (h i : Option (List Entry)) → refusal_of s (cleaned s.graph b.items) ≡ None
    → d ≡ cleaned s.graph b.items → IsAfterPhases s (cleaned s.graph b.items) t plans → now ≡ append_known before (accepted_text report (old.batches + 1) d plans)
    → new ≡ record { batches = old.batches + 1; refused = old.refused + 0; groups = capped (old.groups + groups_of plans); moves = capped (old.moves + moves_of plans) }
    → i ≡ longer h (entries_in plans) → RanStep report (Items b) s t before now old new h i
accepted_step report s t b d plans before now old new h i e f a w count grown =
    let v : now ≡ append_known before (accepted_text report (old.batches + 1) (cleaned s.graph b.items) plans) = subst (λ (x : Cleaned). now ≡ append_known before (accepted_text report (old.batches + 1) x plans)) f w in
    record { step = record { state = t; phases = plans }; is_step = rw e a; last = refl; taken = rw e v; counts = rw e count; history = grown }

pub accepted_prefix : (report : Report) (number : ℕ) (s t : State) (b : Batch) (d : Cleaned) (plans : List PhasePlan) (before now : Option (List ℕ)) → refusal_of s (cleaned s.graph b.items) ≡ None
    → d ≡ cleaned s.graph b.items → IsAfterPhases s (cleaned s.graph b.items) t plans → IsPrefix before now (accepted_text report number d plans)
    → WroteSome report number (Items b) s before now
accepted_prefix report number s t b d plans before now e f a p =
    let v : IsPrefix before now (accepted_text report number (cleaned s.graph b.items) plans) = subst (λ (x : Cleaned). IsPrefix before now (accepted_text report number x plans)) f p in
    record { step = record { state = t; phases = plans }; is_step = rw e a; prefix = rw e v }

pub refused_step : (report : Report) (s t : State) (b : Batch) (reason : Reason) (before now : Option (List ℕ)) (old new : Counts) (h i : Option (List Entry)) → IsRefusedFor s (cleaned s.graph b.items) reason t
    → now ≡ append_known before (refused_text report (old.batches + 1) b.line reason) → new ≡ refused_after old → i ≡ h
    → RanStep report (Items b) s t before now old new h i
refused_step report s t b reason before now old new h i r w count same =
    let v : now ≡ append_known before (refused_text report (old.batches + 1) b.line (reason_of r.fault)) = subst (λ (x : Reason). now ≡ append_known before (refused_text report (old.batches + 1) b.line x)) r.word w in
    record { step = stay s; is_step = rw r.refused refl; last = r.same; taken = rw r.refused v; counts = rw r.refused count; history = same ∙ longer_none h }

pub refused_prefix : (report : Report) (number : ℕ) (s t : State) (b : Batch) (reason : Reason) (before now : Option (List ℕ)) → IsRefusedFor s (cleaned s.graph b.items) reason t
    → IsPrefix before now (refused_text report number b.line reason) → WroteSome report number (Items b) s before now
refused_prefix report number s t b reason before now r p =
    let v : IsPrefix before now (refused_text report number b.line (reason_of r.fault)) = subst (λ (x : Reason). IsPrefix before now (refused_text report number b.line x)) r.word p in
    record { step = stay s; is_step = rw r.refused refl; prefix = rw r.refused v }

-- a batch of whose text nothing was written
pub nothing_of : (report : Report) (number : ℕ) (header : HeaderShape) (b : Next) (s : State) (before now : Option (List ℕ)) → IsSound MAX_EDGES s → s.graph.vertices ≡ header.n → IsNext (rules_of header MAX_ITEMS) b → now ≡ before
    → WroteSome report number b s before now
nothing_of report number header b s before now k e i same =
    let there = some_step s header b k e i in
    record { step = there.0; is_step = there.1; prefix = prefix_none before now (step_text report number s b there.0.phases) same }

-- a batch that the grammar refuses
pub refused_line_written : (report : Report) (line : ℕ) (reason : Reason) (s : State) (before now : Option (List ℕ)) (old new : Counts) (h : Option (List Entry)) → now ≡ append_known before (refused_text report (old.batches + 1) line reason) → new ≡ refused_after old
    → RanStep report (Refused line reason) s s before now old new h h
refused_line_written report line reason s before now old new h e count = record { step = stay s; is_step = refl; last = refl; taken = e; counts = count; history = longer_none h }

pub refused_line_prefix : (report : Report) (number line : ℕ) (reason : Reason) (s : State) (before now : Option (List ℕ)) → IsPrefix before now (refused_text report number line reason)
    → WroteSome report number (Refused line reason) s before now
refused_line_prefix report number line reason s before now p = record { step = stay s; is_step = refl; prefix = p }
