-- The batches of a run as its text has them: each line has its meaning, and the meanings fit together.
use Rattle.std.proofs.Common.{ℕ, suc, ◌+◌, ◌≤◌, ◌<◌, ◌≡◌, Bool, true, false, List, [], ◌∷◌, ◌++◌, length, get_or, map, refl, sym, ap, ◌∙◌, subst, arith, append_assoc, length-append}
use Rattle.std.specs.Prelude.{◌^◌, Option, Some, None, All, codes, decimal}
use Rattle.std.specs.List.{flat_map}
use Rattle.std.proofs.lemmas.List.{append-nil}
use Rattle.std.proofs.lemmas.List.Elements.{All-nil, All-cons, All-head, All-tail, All-append}
use Rattle.kc_graph.specs.declared.cleaning.Cleaned.{Cleaned}
use Rattle.kc_graph.specs.declared.limits.TheConstants.{MAX_VERTICES, MAX_EDGES, MAX_ITEMS}
use Rattle.kc_graph.specs.Cleaning.{IsInside, cleaned}
use Rattle.kc_graph.specs.Shape.{Pair, GraphShape, without_edges}
use Rattle.kc_graph.proofs.lemmas.Changes.{vertices-without_edges}
use Rattle.kc_graph.proofs.lemmas.Cleaning.{each_item_counts_once}
use Rattle.kc_text.specs.declared.reason.Reason.{Reason}
use Rattle.kc_text.specs.declared.reason.Reason.TheVariants as reason
use Rattle.kc_text.specs.Printing.{printed_line}
use Rattle.kc_levels.specs.declared.moves.Move.{Move}
use Rattle.kc_levels.specs.declared.profile.Profile.{Profile}
use Rattle.kc_levels.specs.LevelList.{IsCapped}
use Rattle.kc_levels.proofs.lemmas.Thresholds.{top_level-small}
use Rattle.kc_history.specs.declared.entries.Entry.{Entry}
use Rattle.kc_history.specs.declared.limits.TheConstants.{MAX_PHASE}
use Rattle.kc_groups.specs.declared.plans.PhasePlan.{PhasePlan}
use Rattle.kc_groups.specs.Entries.{AreEntries, entries_of, entries_in}
use Rattle.kc_batch.specs.declared.batch.Batch.{Batch}
use Rattle.kc_batch.specs.declared.batch.Next.{Next}
use Rattle.kc_batch.specs.declared.batch.Next.TheVariants.{Items, Refused, End}
use Rattle.kc_batch.specs.Batches.{IsBatch, IsNext}
use Rattle.kc_batch.specs.BatchInputs.{rules_of}
use Rattle.kc_batch.specs.HeaderShape.{HeaderShape}
use Rattle.kc_batch.specs.Turns.{IsBatchReason}
use Rattle.kc_engine.specs.declared.faults.EngineFault.{EngineFault}
use Rattle.kc_engine.specs.declared.faults.EngineFault.TheVariants as fault
use Rattle.kc_engine.specs.States.{State, IsSound}
use Rattle.kc_engine.specs.Batches.{phases_for, ArePhaseOf, IsAfterPhases, graph_after_batch}
use Rattle.kc_engine.proofs.lemmas.Batches.{at_state, after_lowered, vertices_after}
use Rattle.kc_engine.proofs.lemmas.Phases.{phases_are_numbered_on}
use Rattle.kc_report.specs.Lines.{direction_word, member_word, label_word, group_line, phase_line, phase_text, batch_line, refused_line}
use Rattle.kc_session.specs.declared.report.Report.TheVariants.{Lines}
use Rattle.kc_session.specs.Reports.{cleaned_text}
use Rattle.kc_session.specs.RunText.{step_text, batch_lines}
use Rattle.kc_session.specs.States.{Step, stay, refusal_of, reason_of, IsAfterCleaned, IsStep, AreSteps, history_of}
use Rattle.kc_session.proofs.lemmas.Runs.{few_removed, few_added, few_quiet, sound_step}
use Rattle.kc_audit.specs.declared.groups.GroupLine.{GroupLine}
use Rattle.kc_audit.specs.Kinds.{Kind}
use Rattle.kc_audit.specs.Kinds as kind
use Rattle.kc_audit.specs.Laws.{member_of, line_before, lines_of, IsQuietUnlessLabelled}
use Rattle.kc_audit.specs.Printed as printed
use Rattle.kc_audit.specs.Printed.{IsSmall, IsRefusedReason}
use Rattle.kc_audit.specs.ReadBack.{pair_word, PhaseText, BatchText, Took, Left, group_kinds, phase_kinds, batch_kinds, GroupsFit, PhasesFit, BatchesFit, last_phase, phase_groups, batch_groups}
use Rattle.kc_audit.proofs.lemmas.Runs.{lines_say_kinds, Prints, prints_nothing, prints_line, prints_both, prints_as, group_words, group_says}
use Rattle.kcore.proofs.LineNumbers.{HasSmallLine}
use Rattle.kcore.proofs.PhaseGroups.{HasLabel, plan_fits, plan_labelled}

-- a phase, and a batch
abbrev phase_text_of : PhasePlan → PhaseText
phase_text_of plan = record { add = plan.quiet.add; groups = lines_of plan.groups }

abbrev phase_texts : List PhasePlan → List PhaseText
phase_texts plans = map phase_text_of plans

abbrev taken_text : Option EngineFault → List PhasePlan → BatchText
taken_text None plans = Took (phase_texts plans)
taken_text (Some f) plans = Left

abbrev step_batch : State → Next → Step → BatchText
step_batch s (Items batch) t = taken_text (refusal_of s (cleaned s.graph batch.items)) t.phases
step_batch s (Refused line reason) t = Left
step_batch s End t = Left

abbrev pub run_batches : State → List Next → List Step → List BatchText
run_batches s [] ts = []
run_batches s (b ∷ bs) [] = []
run_batches s (b ∷ bs) (t ∷ ts) = step_batch s b t ∷ run_batches t.state bs ts

-- a phase of n vertices with this number
record PhaseFits (n p : ℕ) (add : Bool) (plan : PhasePlan) : Type 0 where
  number : plan.quiet.phase ≡ p
  direction : plan.quiet.add ≡ add
  label : plan.quiet.label ≡ None
  moves : plan.quiet.moves ≡ []
  labelled : All HasLabel plan.groups
  groups : GroupsFit n p 0 (lines_of plan.groups)

-- no level is above 65,535
abbrev AreLow : ℕ → List ℕ → Type 0
AreLow n x = (v : ℕ) → v < n → get_or x v 0 ≤ 65535

phase_fits : (n p phase : ℕ) (add : Bool) (edges : List Pair) (x y : List ℕ) (g : GraphShape) (plan : PhasePlan) → g.vertices ≡ n → phase ≡ p → AreLow n y → AreEntries phase add edges x y g plan → PhaseFits n p add plan
phase_fits n p phase add edges x y g plan same number low a =
    let inside : AreLow g.vertices y = rw same low in
    record {
      number = ap (λ (e : Entry). e.phase) a.quiet ∙ number;
      direction = ap (λ (e : Entry). e.add) a.quiet;
      label = ap (λ (e : Entry). e.label) a.quiet;
      moves = ap (λ (e : Entry). e.moves) a.quiet;
      labelled = plan_labelled phase add edges x y g plan a;
      groups = subst (λ m. GroupsFit m p 0 (lines_of plan.groups)) same (subst (λ q. GroupsFit g.vertices q 0 (lines_of plan.groups)) number (plan_fits phase add edges x y g plan inside a));
    }

-- phases after the one numbered p
abbrev AreNumbered : ℕ → ℕ → List PhasePlan → Type 0
AreNumbered n p [] = Unit {0}
AreNumbered n p (plan ∷ plans) = PhaseFits n (suc p) plan.quiet.add plan × AreNumbered n (suc p) plans

-- the phases of an accepted batch
record PlansFit (n p : ℕ) (plans : List PhasePlan) : Type 0 where
  numbered : AreNumbered n p plans
  fit : PhasesFit n p (phase_texts plans)

no_plans : (n p : ℕ) → PlansFit n p []
no_plans n p = record { numbered = tt; fit = tt }

one_plan : (n p : ℕ) (add : Bool) (plan : PhasePlan) → PhaseFits n (suc p) add plan → PlansFit n p (plan ∷ [])
one_plan n p add plan f = record { numbered = (subst (λ b. PhaseFits n (suc p) b plan) (sym f.direction) f, tt); fit = f.groups }

two_plans : (n p : ℕ) (plan next : PhasePlan) → PhaseFits n (suc p) false plan → PhaseFits n (suc (suc p)) true next → PlansFit n p (plan ∷ next ∷ [])
two_plans n p plan next f h = record {
  numbered = (subst (λ b. PhaseFits n (suc p) b plan) (sym f.direction) f, (subst (λ b. PhaseFits n (suc (suc p)) b next) (sym h.direction) h, tt));
  fit = (f.direction, (h.direction, (f.groups, h.groups)));
}

plans_fit : (n p : ℕ) (removed added : List Pair) (x z y : List ℕ) (g h : GraphShape) (leaving coming : List PhasePlan) → g.vertices ≡ n → h.vertices ≡ n → AreLow n z → AreLow n y
    → ArePhaseOf (p + 1) false removed x z g leaving → ArePhaseOf (p + phases_for removed + 1) true added z y h coming → PlansFit n p (leaving ++ coming)
plans_fit n p [] [] x z y g h leaving coming sg sh lz ly a b = rw (a, b) (no_plans n p)
plans_fit n p [] (f ∷ fs) x z y g h leaving coming sg sh lz ly a b =
    rw (a, b.alone) (one_plan n p true b.plan (phase_fits n (suc p) (p + 0 + 1) true (f ∷ fs) z y h b.plan sh (omega arith) ly b.entries))
plans_fit n p (e ∷ es) [] x z y g h leaving coming sg sh lz ly a b =
    rw (a.alone, b) (one_plan n p false a.plan (phase_fits n (suc p) (p + 1) false (e ∷ es) x z g a.plan sg (omega arith) lz a.entries))
plans_fit n p (e ∷ es) (f ∷ fs) x z y g h leaving coming sg sh lz ly a b =
    rw (a.alone, b.alone) (two_plans n p a.plan b.plan (phase_fits n (suc p) (p + 1) false (e ∷ es) x z g a.plan sg (omega arith) lz a.entries)
    (phase_fits n (suc (suc p)) (p + 1 + 1) true (f ∷ fs) z y h b.plan sh (omega arith) ly b.entries))

-- levels within the top
low_levels : (p : Profile) (n : ℕ) (x : List ℕ) → n ≤ MAX_VERTICES → IsCapped p n x → AreLow n x
low_levels p n x most capped = λ v h. omega (arith, capped v h, top_level-small p n most)

after_fits : (n : ℕ) (s t : State) (c : Cleaned) (plans : List PhasePlan) → n ≤ MAX_VERTICES → s.graph.vertices ≡ n → t.graph.vertices ≡ n → IsSound MAX_EDGES s → IsSound MAX_EDGES t → IsAfterPhases s c t plans → PlansFit n s.phases plans
after_fits n s t c plans most same after ks kt a =
    let between = after_lowered s.profile s.graph c.removed s.levels a.after.levels.between (at_state MAX_EDGES s ks) a.after.levels.lowered in
    let vertices : (without_edges s.graph c.removed).vertices ≡ n = vertices-without_edges s.graph c.removed ∙ same in
    let lz : AreLow n a.after.levels.between = low_levels s.profile n a.after.levels.between most (subst (λ m. IsCapped s.profile m a.after.levels.between) vertices between.capped) in
    let ly : AreLow n t.levels = low_levels t.profile n t.levels most (subst (λ m. IsCapped t.profile m t.levels) after kt.capped) in
    rw a.phases.all (plans_fit n s.phases c.removed c.added s.levels a.after.levels.between t.levels s.graph (graph_after_batch s.graph c) a.phases.leaving a.phases.coming same (vertices_after s.graph c ∙ same) lz ly a.phases.deletion a.phases.insertion)

-- the lines of groups
words_same : (ms : List Move) → map member_word ms ≡ map (pair_word 58) (map member_of ms)
words_same [] = refl
words_same (m ∷ ms) = ap (λ (ws : List (List ℕ)). member_word m ∷ ws) (words_same ms)

group_prints : (n p low : ℕ) (e : Entry) (o : Option ℕ) (gs : List GroupLine) (text : List ℕ) → n ≤ MAX_VERTICES → IsSmall p → e.label ≡ o → (label : ℕ) × (e.label ≡ Some label) → GroupsFit n p low (line_before e o gs)
    → ((from : ℕ) → GroupsFit n p from gs → Prints text (λ rest. group_kinds gs rest)) → Prints (group_line e ++ text) (λ rest. group_kinds (line_before e o gs) rest)
group_prints n p low e None gs text most small is label fits next = let no_label : None ≡ Some label.0 = sym is ∙ label.1 in absurd cc
group_prints n p low e (Some l) gs text most small is label fits next =
    let g : GroupLine = record { phase = e.phase; label = l; members = map member_of e.moves } in
    let line : group_line e ≡ printed_line (group_words g) =
    ap (λ (o : Option ℕ). printed_line (codes "group" ∷ decimal e.phase ∷ label_word o ∷ map member_word e.moves)) is
    ∙ ap (λ (ws : List (List ℕ)). printed_line (codes "group" ∷ decimal e.phase ∷ decimal l ∷ ws)) (words_same e.moves) in
    let k : Kind = kind.Group g.phase g.label (map (pair_word 58) g.members) in
    subst (λ t. Prints (t ++ text) (λ rest. k ∷ group_kinds gs rest)) (sym line)
    (prints_both (printed_line (group_words g)) text (λ rest. k ∷ rest) (λ rest. group_kinds gs rest) (prints_line (group_words g) k (group_says n p low g most small fits.0)) (next (suc l) fits.1))

groups_print : (n p low : ℕ) (es : List Entry) → n ≤ MAX_VERTICES → IsSmall p → All HasLabel es → GroupsFit n p low (lines_of es) → Prints (flat_map group_line es) (λ rest. group_kinds (lines_of es) rest)
groups_print n p low [] most small labelled fits = prints_nothing
groups_print n p low (e ∷ es) most small labelled fits =
    group_prints n p low e e.label (lines_of es) (flat_map group_line es) most small refl (All-head HasLabel e es labelled) fits (λ from more. groups_print n p from es most small (All-tail HasLabel e es labelled) more)

-- the lines of phases
same_word : (add : Bool) → direction_word add ≡ printed.direction_word add
same_word true = refl
same_word false = refl

abbrev IsFew : PhasePlan → Type 0
IsFew plan = length plan.quiet.edges < 4294967296

phase_prints : (p : ℕ) (plan : PhasePlan) → plan.quiet.phase ≡ p → IsSmall p → IsFew plan → Prints (phase_line plan) (λ rest. kind.Phase p plan.quiet.add ∷ rest)
phase_prints p plan number small few =
    rw (number, same_word plan.quiet.add) (prints_line _ (kind.Phase p plan.quiet.add) (lines_say_kinds.batches.phase p (length plan.quiet.edges) plan.quiet.add small (omega (arith, few))))

phases_print : (n p : ℕ) (plans : List PhasePlan) → n ≤ MAX_VERTICES → p + length plans ≤ MAX_PHASE → AreNumbered n p plans → All IsFew plans → Prints (flat_map phase_text plans) (λ rest. phase_kinds p (phase_texts plans) (λ q. rest))
phases_print n p [] most last numbered few = prints_nothing
phases_print n p (plan ∷ plans) most last numbered few =
    let small : IsSmall (suc p) = omega (arith, last) in
    let here = numbered.0 in
    prints_both (phase_text plan) (flat_map phase_text plans) (λ rest. kind.Phase (suc p) plan.quiet.add ∷ group_kinds (lines_of plan.groups) rest) (λ rest. phase_kinds (suc p) (phase_texts plans) (λ q. rest))
    (prints_both (phase_line plan) (flat_map group_line plan.groups) (λ rest. kind.Phase (suc p) plan.quiet.add ∷ rest) (λ rest. group_kinds (lines_of plan.groups) rest)
    (phase_prints (suc p) plan here.number small (All-head IsFew plan plans few)) (groups_print n (suc p) 0 plan.groups most small here.labelled here.groups))
    (phases_print n (suc p) plans most (omega (arith, last)) numbered.1 (All-tail IsFew plan plans few))

-- the line of an accepted batch
accepted_prints : (number : ℕ) (s : State) (batch : Batch) (header : HeaderShape) → IsSound MAX_EDGES s → s.graph.vertices ≡ header.n → IsBatch (rules_of header MAX_ITEMS) batch → IsSmall number
    → Prints (batch_line number (cleaned s.graph batch.items)) (λ rest. kind.Accepted number ∷ rest)
accepted_prints number s batch header k same i small =
    let c = cleaned s.graph batch.items in
    let inside : All (IsInside s.graph.vertices) batch.items = rw same i.inside in
    let all = each_item_counts_once s.graph batch.items k.graph inside in
    prints_line _ (kind.Accepted number) (lines_say_kinds.batches.accepted number c.loops c.repeats c.idle (length c.removed) (length c.added) small (omega (arith, all, i.few)) (omega (arith, all, i.few)) (omega (arith, all, i.few))
    (few_removed s.graph batch.items k.graph k.few_edges inside) (few_added s.graph batch.items k.graph inside i.few))

-- the line of a refused batch
refused_prints : (number line : ℕ) (r : Reason) → IsSmall number → IsSmall line → IsRefusedReason r → Prints (refused_line number line r) (λ rest. kind.Refused number ∷ rest)
refused_prints number line r x y h = prints_line _ (kind.Refused number) (lines_say_kinds.batches.refused number line r x y h)

batch_reason : (r : Reason) → IsBatchReason r → IsRefusedReason r
batch_reason reason.Header h = h
batch_reason reason.LineLong h = tt
batch_reason reason.BadLine h = tt
batch_reason reason.BadVertex h = tt
batch_reason reason.TooMany h = tt
batch_reason reason.Truncated h = tt
batch_reason reason.InputLimit h = tt
batch_reason reason.EdgeLimit h = tt
batch_reason reason.PhaseLimit h = tt

fault_reason : (f : EngineFault) → IsRefusedReason (reason_of f)
fault_reason fault.Halted = tt
fault_reason (fault.EdgeLimit edges) = tt
fault_reason (fault.PhaseLimit phase) = tt
fault_reason (fault.Memory e) = tt

-- the group lines of phases
line_on : (e : Entry) (o : Option ℕ) (all first later : List GroupLine) → all ≡ first ++ later → line_before e o all ≡ line_before e o first ++ later
line_on e None all first later h = h
line_on e (Some label) all first later h = ap (λ (gs : List GroupLine). record { phase = e.phase; label = label; members = map member_of e.moves } ∷ gs) h

lines_of-append : (xs ys : List Entry) → lines_of (xs ++ ys) ≡ lines_of xs ++ lines_of ys
lines_of-append [] ys = refl
lines_of-append (x ∷ xs) ys = line_on x x.label (lines_of (xs ++ ys)) (lines_of xs) (lines_of ys) (lines_of-append xs ys)

groups_are : (n p : ℕ) (plans : List PhasePlan) → AreNumbered n p plans → phase_groups (phase_texts plans) ≡ lines_of (entries_in plans)
groups_are n p [] f = refl
groups_are n p (plan ∷ plans) f =
    ap (λ (gs : List GroupLine). lines_of plan.groups ++ gs) (groups_are n (suc p) plans f.1)
    ∙ sym (lines_of-append plan.groups (entries_in plans))
    ∙ quiet plan.quiet.label f.0.label
  where
    quiet : (o : Option ℕ) → o ≡ None → lines_of (plan.groups ++ entries_in plans) ≡ line_before plan.quiet o (lines_of (plan.groups ++ entries_in plans))
    quiet o e = rw e refl

labelled_is_quiet : (es : List Entry) → All HasLabel es → All IsQuietUnlessLabelled es
labelled_is_quiet [] h = All-nil IsQuietUnlessLabelled
labelled_is_quiet (e ∷ es) h =
    let label = All-head HasLabel e es h in
    All-cons IsQuietUnlessLabelled e es (λ is. let no_label : None ≡ Some label.0 = sym is ∙ label.1 in absurd cc) (labelled_is_quiet es (All-tail HasLabel e es h))

entries_quiet : (n p : ℕ) (plans : List PhasePlan) → AreNumbered n p plans → All IsQuietUnlessLabelled (entries_in plans)
entries_quiet n p [] f = All-nil IsQuietUnlessLabelled
entries_quiet n p (plan ∷ plans) f =
    All-append IsQuietUnlessLabelled (entries_of plan) (entries_in plans)
    (All-cons IsQuietUnlessLabelled plan.quiet plan.groups (λ is. f.0.moves) (labelled_is_quiet plan.groups f.0.labelled)) (entries_quiet n (suc p) plans f.1)

-- the number of the last phase
abbrev phases_behind : ℕ → BatchText → ℕ
phases_behind p (Took xs) = last_phase p xs
phases_behind p Left = p

last_is : (p : ℕ) (plans : List PhasePlan) → last_phase p (phase_texts plans) ≡ p + length plans
last_is p [] = omega arith
last_is p (plan ∷ plans) = last_is (suc p) plans ∙ omega arith

-- a batch in a state, and its step, as a run text has them
record IsTakenAs (n : ℕ) (s : State) (b : Next) (t : Step) (x : BatchText) : Type 0 where
  phases : phases_behind s.phases x ≡ t.state.phases
  fits : BatchesFit n s.phases (x ∷ [])
  groups : batch_groups (x ∷ []) ≡ lines_of (entries_in t.phases)
  quiet : All IsQuietUnlessLabelled (entries_in t.phases)
  prints : (k : ℕ) → IsSmall (suc k) → Prints (step_text Lines (suc k) s b t.phases) (λ rest. batch_kinds k s.phases (x ∷ []) rest)

stayed : (n : ℕ) (s : State) (b : Next) (t : Step) → t ≡ stay s → ((k : ℕ) → IsSmall (suc k) → Prints (step_text Lines (suc k) s b []) (λ rest. kind.Refused (suc k) ∷ rest)) → IsTakenAs n s b t Left
stayed n s b t e prints = rw e (record { phases = refl; fits = tt; groups = refl; quiet = All-nil IsQuietUnlessLabelled; prints = prints })

cleaned_taken : (n : ℕ) (header : HeaderShape) (s : State) (batch : Batch) (t : Step) (o : Option EngineFault) → n ≤ MAX_VERTICES → n ≡ header.n → IsSound MAX_EDGES s → IsSound MAX_EDGES t.state → s.graph.vertices ≡ header.n → t.state.graph.vertices ≡ header.n
    → IsBatch (rules_of header MAX_ITEMS) batch → IsSmall batch.line → refusal_of s (cleaned s.graph batch.items) ≡ o → IsAfterCleaned s (cleaned s.graph batch.items) o t → IsTakenAs n s (Items batch) t (taken_text o t.phases)
cleaned_taken n header s batch t (Some f) most size ks kt same after i small is a =
    stayed n s (Items batch) t a (λ k number. rw is (refused_prints (suc k) batch.line (reason_of f) number small (fault_reason f)))
cleaned_taken n header s batch t None most size ks kt same after i small is a =
    let c = cleaned s.graph batch.items in
    let fit = after_fits n s t.state c t.phases most (same ∙ sym size) (after ∙ sym size) ks kt a in
    let count = phases_are_numbered_on.count s t.state c t.phases a in
    let inside : All (IsInside s.graph.vertices) batch.items = rw same i.inside in
    let few = few_quiet s t.state batch.items t.phases ks.graph ks.few_edges inside i.few a in
    record {
      phases = last_is s.phases t.phases ∙ count;
      fits = (fit.fit, tt);
      groups = append-nil (phase_groups (phase_texts t.phases)) ∙ groups_are n s.phases t.phases fit.numbered;
      quiet = entries_quiet n s.phases t.phases fit.numbered;
      prints = λ k number. rw is (prints_both (batch_line (suc k) c) (flat_map phase_text t.phases) (λ rest. kind.Accepted (suc k) ∷ rest) (λ rest. phase_kinds s.phases (phase_texts t.phases) (λ q. rest))
          (accepted_prints (suc k) s batch header ks same i number) (phases_print n s.phases t.phases most (omega (arith, count, kt.few_phases)) fit.numbered few));
    }

step_taken : (n : ℕ) (header : HeaderShape) (s : State) (b : Next) (t : Step) → n ≤ MAX_VERTICES → n ≡ header.n → IsSound MAX_EDGES s → IsSound MAX_EDGES t.state → s.graph.vertices ≡ header.n → t.state.graph.vertices ≡ header.n
    → IsNext (rules_of header MAX_ITEMS) b → HasSmallLine b → IsStep s b t → IsTakenAs n s b t (step_batch s b t)
step_taken n header s (Items batch) t most size ks kt same after i small a =
    cleaned_taken n header s batch t (refusal_of s (cleaned s.graph batch.items)) most size ks kt same after i small refl a
step_taken n header s (Refused line r) t most size ks kt same after i small a = stayed n s (Refused line r) t a (λ k number. refused_prints (suc k) line r number small (batch_reason r i))
step_taken n header s End t most size ks kt same after i small a = absurd small

-- the kinds of the lines of a batch and those of the batches after it
last_reached : (p : ℕ) (xs : List PhaseText) (f : ℕ → List Kind) → phase_kinds p xs (λ q. f (last_phase p xs)) ≡ phase_kinds p xs f
last_reached p [] f = refl
last_reached p (x ∷ xs) f = ap (λ (ks : List Kind). kind.Phase (suc p) x.add ∷ group_kinds x.groups ks) (last_reached (suc p) xs f)

kinds_on : (k p q : ℕ) (x : BatchText) (xs : List BatchText) (rest : List Kind) → phases_behind p x ≡ q → batch_kinds k p (x ∷ []) (batch_kinds (suc k) q xs rest) ≡ batch_kinds k p (x ∷ xs) rest
kinds_on k p q (Took ys) xs rest e = rw (← e) (ap (λ (ks : List Kind). kind.Accepted (suc k) ∷ ks) (last_reached p ys (λ u. batch_kinds (suc k) u xs rest)))
kinds_on k p q Left xs rest e = rw e refl

fits_on : (n p q : ℕ) (x : BatchText) (xs : List BatchText) → phases_behind p x ≡ q → BatchesFit n p (x ∷ []) → BatchesFit n q xs → BatchesFit n p (x ∷ xs)
fits_on n p q (Took ys) xs e f g = (f.0, rw e g)
fits_on n p q Left xs e f g = rw e g

groups_on : (x : BatchText) (xs : List BatchText) → batch_groups (x ∷ []) ++ batch_groups xs ≡ batch_groups (x ∷ xs)
groups_on (Took ys) xs = append_assoc (phase_groups ys) [] (batch_groups xs)
groups_on Left xs = refl

-- the batches after the one numbered k, and their steps, as a run text has them
pub record AreTakenAs (n : ℕ) (s : State) (bs : List Next) (ts : List Step) (xs : List BatchText) : Type 0 where
  pub fits : BatchesFit n s.phases xs
  pub groups : batch_groups xs ≡ lines_of (history_of ts)
  pub quiet : All IsQuietUnlessLabelled (history_of ts)
  pub prints : (k : ℕ) → k + length bs < 2 ^ 32 → Prints (batch_lines Lines (suc k) s bs ts) (λ rest. batch_kinds k s.phases xs rest)

one_more : (n : ℕ) (s : State) (b : Next) (bs : List Next) (t : Step) (ts : List Step) (x : BatchText) (xs : List BatchText) → IsTakenAs n s b t x → AreTakenAs n t.state bs ts xs → AreTakenAs n s (b ∷ bs) (t ∷ ts) (x ∷ xs)
one_more n s b bs t ts x xs h r = record {
  fits = fits_on n s.phases t.state.phases x xs h.phases h.fits r.fits;
  groups = sym (groups_on x xs) ∙ ap (λ (gs : List GroupLine). gs ++ batch_groups xs) h.groups ∙ ap (λ (gs : List GroupLine). lines_of (entries_in t.phases) ++ gs) r.groups ∙ sym (lines_of-append (entries_in t.phases) (history_of ts));
  quiet = All-append IsQuietUnlessLabelled (entries_in t.phases) (history_of ts) h.quiet r.quiet;
  prints = λ k few.
      let next : suc k + 1 ≡ suc (suc k) = omega arith in
      let small : IsSmall (suc k) = omega (arith, few) in
      prints_as (step_text Lines (suc k) s b t.phases ++ batch_lines Lines (suc k + 1) t.state bs ts) (λ rest. batch_kinds k s.phases (x ∷ []) (batch_kinds (suc k) t.state.phases xs rest)) (λ rest. batch_kinds k s.phases (x ∷ xs) rest)
      (λ rest. kinds_on k s.phases t.state.phases x xs rest h.phases)
      (prints_both (step_text Lines (suc k) s b t.phases) (batch_lines Lines (suc k + 1) t.state bs ts) (λ rest. batch_kinds k s.phases (x ∷ []) rest) (λ rest. batch_kinds (suc k) t.state.phases xs rest) (h.prints k small)
      (subst (λ m. Prints (batch_lines Lines m t.state bs ts) (λ rest. batch_kinds (suc k) t.state.phases xs rest)) (sym next) (r.prints (suc k) (omega (arith, few)))));
}

pub batches_taken : (n : ℕ) (header : HeaderShape) (s : State) (bs : List Next) (ts : List Step) → n ≤ MAX_VERTICES → n ≡ header.n → IsSound MAX_EDGES s → s.graph.vertices ≡ header.n → All (IsNext (rules_of header MAX_ITEMS)) bs → All HasSmallLine bs → AreSteps s bs ts
    → AreTakenAs n s bs ts (run_batches s bs ts)
batches_taken n header s [] [] most size k same all small a = record { fits = tt; groups = refl; quiet = All-nil IsQuietUnlessLabelled; prints = λ j few. prints_nothing }
batches_taken n header s [] (t ∷ ts) most size k same all small a = absurd a
batches_taken n header s (b ∷ bs) [] most size k same all small a = absurd a
batches_taken n header s (b ∷ bs) (t ∷ ts) most size k same all small a =
    let i = All-head (IsNext (rules_of header MAX_ITEMS)) b bs all in
    let z = sound_step s header b t k same i a.0 in
    one_more n s b bs t ts (step_batch s b t) (run_batches t.state bs ts)
    (step_taken n header s b t most size k z.0 same z.1 i (All-head HasSmallLine b bs small) a.0)
    (batches_taken n header t.state bs ts most size z.0 z.1 (All-tail (IsNext (rules_of header MAX_ITEMS)) b bs all) (All-tail HasSmallLine b bs small) a.1)

-- each batch has at least one line
pub few_batches : (number : ℕ) (s : State) (bs : List Next) (ts : List Step) → All HasSmallLine bs → AreSteps s bs ts → length bs ≤ length (batch_lines Lines number s bs ts)
few_batches number s [] ts small a = omega arith
few_batches number s (b ∷ bs) [] small a = absurd a
few_batches number s (b ∷ bs) (t ∷ ts) small a =
    let rest = few_batches (number + 1) t.state bs ts (All-tail HasSmallLine b bs small) a.1 in
    let sum = length-append (step_text Lines number s b t.phases) (batch_lines Lines (number + 1) t.state bs ts) in
    omega (arith, rest, sum, some number s b t.phases (All-head HasSmallLine b bs small))
  where
    cleaned_some : (number line : ℕ) (c : Cleaned) (o : Option EngineFault) (plans : List PhasePlan) → 1 ≤ length (cleaned_text Lines number line c o plans)
    cleaned_some number line c None plans = omega (arith, length-append (batch_line number c) (flat_map phase_text plans))
    cleaned_some number line c (Some f) plans = omega arith

    some : (number : ℕ) (s : State) (b : Next) (plans : List PhasePlan) → HasSmallLine b → 1 ≤ length (step_text Lines number s b plans)
    some number s (Items batch) plans h = cleaned_some number batch.line (cleaned s.graph batch.items) (refusal_of s (cleaned s.graph batch.items)) plans
    some number s (Refused line r) plans h = omega arith
    some number s End plans h = absurd h
