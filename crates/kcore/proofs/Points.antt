-- The states of an input are points of its history, and at each point the levels are near the coreness.
use Rattle.std.proofs.Common.{ℕ, ◌≡◌, List, [], ◌∷◌, ◌++◌, take, suc, zero, refl, sym, ap, ◌∙◌, subst, append_assoc}
use Rattle.std.specs.Prelude.{Option, Some, None, All}
use Rattle.std.proofs.lemmas.List.Elements.{All-head, All-tail, All-take}
use Rattle.std.proofs.Math.Seq.{take-length}
use Rattle.kc_text.specs.Lines.{lines}
use Rattle.kc_text.specs.Kept.{kept}
use Rattle.kc_graph.specs.declared.cleaning.Cleaned.{Cleaned}
use Rattle.kc_graph.specs.declared.limits.TheConstants.{MAX_EDGES, MAX_ITEMS}
use Rattle.kc_graph.specs.Cleaning.{cleaned}
use Rattle.kc_levels.specs.declared.profile.Profile.{Profile}
use Rattle.kc_history.specs.declared.entries.Entry.{Entry}
use Rattle.kc_groups.specs.declared.plans.PhasePlan.{PhasePlan}
use Rattle.kc_groups.specs.Entries.{entries_of, entries_in}
use Rattle.kc_groups.specs.Phases.{LeadOn}
use Rattle.kc_groups.proofs.lemmas.Phases.{phases_lead}
use Rattle.kc_bound.proofs.lemmas.Coreness.{each_point_is_near as phases_are_near}
use Rattle.kc_batch.specs.declared.batch.Next.{Next}
use Rattle.kc_batch.specs.declared.batch.Next.TheVariants.{Items, Refused, End}
use Rattle.kc_batch.specs.HeaderShape.{HeaderShape}
use Rattle.kc_batch.specs.Headers.{HeaderText, Accepted, header_of}
use Rattle.kc_batch.specs.Headers as headers
use Rattle.kc_batch.specs.Tokens.{tokens}
use Rattle.kc_batch.specs.Batches.{batches, IsNext}
use Rattle.kc_batch.specs.BatchInputs.{rules_of, behind_header}
use Rattle.kc_batch.proofs.lemmas.Inputs.{batches_keep_ranges}
use Rattle.kc_engine.specs.declared.faults.EngineFault.{EngineFault}
use Rattle.kc_engine.specs.States.{State, IsSound}
use Rattle.kc_engine.specs.Batches.{IsCleaning}
use Rattle.kc_engine.specs.Laws.{IsHistoryOf}
use Rattle.kc_engine.proofs.lemmas.Phases.{phases_lead_one_by_one}
use Rattle.kcore.specs.declared.limits.TheConstants.{LINE_LIMIT, INPUT_LIMIT}
use Rattle.kc_session.specs.States.{Step, start, stay, refusal_of, IsAfterCleaned, IsStep, AreSteps, last_state, history_of}
use Rattle.kcore.specs.Points.{phases_in, AreNearAtEachPoint, ArePoints}
use Rattle.kcore.specs.Laws.{HasPoints, StatesArePoints, IsNearThroughout, EachPointIsNear}
use Rattle.kc_session.proofs.lemmas.Runs.{sound_start, sound_step, profile_step}

entries_in-append : (ps qs : List PhasePlan) → entries_in (ps ++ qs) ≡ entries_in ps ++ entries_in qs
entries_in-append [] qs = refl
entries_in-append (p ∷ ps) qs = ap (λ (es : List Entry). entries_of p ++ es) (entries_in-append ps qs) ∙ sym (append_assoc (entries_of p) (entries_in ps) (entries_in qs))

-- the history is that of the phases
pub history_of_phases : (ts : List Step) → history_of ts ≡ entries_in (phases_in ts)
history_of_phases [] = refl
history_of_phases (t ∷ ts) = ap (λ (es : List Entry). entries_in t.phases ++ es) (history_of_phases ts) ∙ sym (entries_in-append t.phases (phases_in ts))

-- the phases of one batch lead on
stayed : (s : State) (t : Step) → t ≡ stay s → LeadOn s.profile s.graph s.levels t.phases t.state.graph t.state.levels
stayed s t e = rw e (refl, refl)

cleaned_leads : (s : State) (c : Cleaned) (r : Option EngineFault) (t : Step) → IsSound MAX_EDGES s → IsCleaning s.graph c → IsAfterCleaned s c r t → LeadOn s.profile s.graph s.levels t.phases t.state.graph t.state.levels
cleaned_leads s c (Some fault) t k f a = stayed s t a
cleaned_leads s c None t k f a = phases_lead_one_by_one MAX_EDGES s t.state c t.phases k f a

step_leads : (s : State) (header : HeaderShape) (b : Next) (t : Step) → IsSound MAX_EDGES s → s.graph.vertices ≡ header.n → IsNext (rules_of header MAX_ITEMS) b → IsStep s b t → LeadOn s.profile s.graph s.levels t.phases t.state.graph t.state.levels
step_leads s header (Items batch) t k e i a =
    let c = cleaned s.graph batch.items in
    cleaned_leads s c (refusal_of s c) t k (record { items = batch.items; inside = rw e i.inside; few = i.few; comes_to = refl }) a
step_leads s header (Refused line reason) t k e i a = stayed s t a
step_leads s header End t k e i a = stayed s t a

-- the phases of all batches lead on
pub steps_lead : (header : HeaderShape) (s : State) (bs : List Next) (ts : List Step) → IsSound MAX_EDGES s → s.graph.vertices ≡ header.n → All (IsNext (rules_of header MAX_ITEMS)) bs → AreSteps s bs ts
    → LeadOn s.profile s.graph s.levels (phases_in ts) (last_state s ts).graph (last_state s ts).levels
steps_lead header s bs [] k e all a = (refl, refl)
steps_lead header s [] (t ∷ ts) k e all a = absurd a
steps_lead header s (b ∷ bs) (t ∷ ts) k e all a =
    let i = All-head (IsNext (rules_of header MAX_ITEMS)) b bs all in
    let z = sound_step s header b t k e i a.0 in
    let rest = steps_lead header t.state bs ts z.0 z.1 (All-tail (IsNext (rules_of header MAX_ITEMS)) b bs all) a.1 in
    let end = last_state t.state ts in
    phases_lead.on s.profile s.graph t.state.graph end.graph s.levels t.state.levels end.levels t.phases (phases_in ts) (step_leads s header b t k e i a.0)
    (subst (λ (p : Profile). LeadOn p t.state.graph t.state.levels (phases_in ts) end.graph end.levels) (profile_step s b t a.0) rest)

-- the history of batches ends at the last state
ends_at : (header : HeaderShape) (bs : List Next) (ts : List Step) → All (IsNext (rules_of header MAX_ITEMS)) bs → AreSteps (start header.profile header.n) bs ts → IsHistoryOf header.n (history_of ts) (last_state (start header.profile header.n) ts)
ends_at header bs ts all a =
    let s = start header.profile header.n in
    let k = sound_start header.profile header.n in
    let on = steps_lead header s bs ts k refl all a in
    let end = last_state s ts in
    record {
      graph = rw (take-length (history_of ts), history_of_phases ts) (phases_lead.graph s.profile s.graph end.graph s.levels end.levels (phases_in ts) k.graph k.both.sized on);
      levels = rw (take-length (history_of ts), history_of_phases ts) (phases_lead.levels s.profile s.graph end.graph s.levels end.levels (phases_in ts) k.graph k.both.sized on);
    }

taken_steps : (s : State) (bs : List Next) (ts : List Step) (k : ℕ) → AreSteps s bs ts → AreSteps s (take k bs) (take k ts)
taken_steps s bs ts zero a = tt
taken_steps s [] [] (suc k) a = tt
taken_steps s [] (t ∷ ts) (suc k) a = absurd a
taken_steps s (b ∷ bs) [] (suc k) a = absurd a
taken_steps s (b ∷ bs) (t ∷ ts) (suc k) a = (a.0, taken_steps t.state bs ts k a.1)

pub are_points : (header : HeaderShape) (bs : List Next) (ts : List Step) → All (IsNext (rules_of header MAX_ITEMS)) bs → AreSteps (start header.profile header.n) bs ts → ArePoints header.profile header.n ts
are_points header bs ts all a = record {
  each = λ k. ends_at header (take k bs) (take k ts) (All-take (IsNext (rules_of header MAX_ITEMS)) k bs all) (taken_steps (start header.profile header.n) bs ts k a);
  last = ends_at header bs ts all a;
  phases = steps_lead header (start header.profile header.n) bs ts (sound_start header.profile header.n) refl all a;
}

pub are_near : (header : HeaderShape) (bs : List Next) (ts : List Step) → All (IsNext (rules_of header MAX_ITEMS)) bs → AreSteps (start header.profile header.n) bs ts → AreNearAtEachPoint header.profile header.n ts
are_near header bs ts all a = λ k.
    let end = last_state (start header.profile header.n) ts in
    rw (history_of_phases ts) (phases_are_near.history header.profile header.n end.graph end.levels (phases_in ts) k (are_points header bs ts all a).phases)

points_behind : (text : HeaderText) → HasPoints (behind_header MAX_ITEMS text)
points_behind (headers.Refused line) = tt
points_behind (Accepted header rest) = λ ts a. are_points header (batches (rules_of header MAX_ITEMS) (tokens rest)) ts (batches_keep_ranges (rules_of header MAX_ITEMS) (tokens rest)) a

near_behind : (text : HeaderText) → IsNearThroughout (behind_header MAX_ITEMS text)
near_behind (headers.Refused line) = tt
near_behind (Accepted header rest) = λ ts a. are_near header (batches (rules_of header MAX_ITEMS) (tokens rest)) ts (batches_keep_ranges (rules_of header MAX_ITEMS) (tokens rest)) a

pub states_are_points : StatesArePoints
states_are_points bytes = points_behind (header_of (kept (lines LINE_LIMIT INPUT_LIMIT bytes)))

pub each_point_is_near : EachPointIsNear
each_point_is_near bytes = near_behind (header_of (kept (lines LINE_LIMIT INPUT_LIMIT bytes)))
