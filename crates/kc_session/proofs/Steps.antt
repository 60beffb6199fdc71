-- One batch: it has exactly one step, and keeps the facts of each state.
use Rattle.std.proofs.Common.{ℕ, ◌≡◌, List, refl, sym, ap, ◌∙◌, arith}
use Rattle.std.specs.Prelude.{Option, Some, None}
use Rattle.kc_graph.specs.declared.cleaning.Cleaned.{Cleaned}
use Rattle.kc_graph.specs.declared.items.Item.{Item}
use Rattle.kc_graph.specs.declared.limits.TheConstants.{MAX_EDGES, MAX_ITEMS}
use Rattle.kc_graph.specs.Shape.{GraphShape}
use Rattle.kc_graph.specs.Cleaning.{cleaned}
use Rattle.kc_levels.specs.declared.profile.Profile.{Profile}
use Rattle.kc_batch.specs.declared.batch.Next.{Next}
use Rattle.kc_batch.specs.declared.batch.Next.TheVariants.{Items, Refused, End}
use Rattle.kc_batch.specs.HeaderShape.{HeaderShape}
use Rattle.kc_batch.specs.BatchInputs.{rules_of}
use Rattle.kc_batch.specs.Batches.{IsNext, IsBatch}
use Rattle.kc_engine.specs.declared.faults.EngineFault.{EngineFault}
use Rattle.kc_engine.specs.States.{State, IsSound}
use Rattle.kc_engine.specs.Batches.{IsCleaning}
use Rattle.kc_engine.proofs.lemmas.Batches.{start_is_sound, batch_has_one_state, batch_keeps_sound, vertices_after}
use Rattle.kc_engine.proofs.lemmas.Phases.{phases_are_one}
use Rattle.std.proofs.lemmas.Bool.Decides.{nat_tests}
use Rattle.kc_store.specs.declared.roles.WriterState.{WriterState}
use Rattle.kc_store.specs.States.{opened}
use Rattle.kc_engine.specs.Showing.{IsAbreast}
use Rattle.kc_session.specs.States.{Step, stay, start, refusal_of, IsAfterCleaned, IsStep}

pub sound_start : (p : Profile) (n : ℕ) → IsSound MAX_EDGES (start p n)
sound_start p n = start_is_sound p n 0 MAX_EDGES (omega arith)

-- the cleaning of a batch without a fault
pub cleaning : (s : State) (header : HeaderShape) (items : List Item) (line : ℕ) → s.graph.vertices ≡ header.n → IsBatch (rules_of header MAX_ITEMS) (record { items = items; line = line }) → IsCleaning s.graph (cleaned s.graph items)
cleaning s header items line e i = record { items = items; inside = rw e i.inside; few = i.few; comes_to = refl }

some_cleaned : (s : State) (c : Cleaned) (r : Option EngineFault) → IsSound MAX_EDGES s → IsCleaning s.graph c → (t : Step) × IsAfterCleaned s c r t
some_cleaned s c (Some fault) k f = (stay s, refl)
some_cleaned s c None k f = let one = phases_are_one MAX_EDGES s c k f in (record { state = one.1.0.0; phases = one.0 }, one.1.0.1)

sound_cleaned : (s : State) (c : Cleaned) (r : Option EngineFault) (t : Step) → IsSound MAX_EDGES s → IsCleaning s.graph c → refusal_of s c ≡ r → IsAfterCleaned s c r t
    → IsSound MAX_EDGES t.state × (t.state.graph.vertices ≡ s.graph.vertices)
sound_cleaned s c (Some fault) t k f e a = rw a (k, refl)
sound_cleaned s c None t k f e a = (batch_keeps_sound MAX_EDGES s t.state c (omega arith) k f e a.after, ap (λ (g : GraphShape). g.vertices) a.after.graph ∙ vertices_after s.graph c)

step_same : (t u : Step) → t.state ≡ u.state → t.phases ≡ u.phases → t ≡ u
step_same t u a b = rw (a, b) refl

one_cleaned : (s : State) (c : Cleaned) (r : Option EngineFault) (t u : Step) → IsSound MAX_EDGES s → IsCleaning s.graph c → IsAfterCleaned s c r t → IsAfterCleaned s c r u → t ≡ u
one_cleaned s c (Some fault) t u k f a b = a ∙ sym b
one_cleaned s c None t u k f a b =
    let one = batch_has_one_state MAX_EDGES s c k f in
    let plans = phases_are_one MAX_EDGES s c k f in
    step_same t u (one.1.1 t.state a.after ∙ sym (one.1.1 u.state b.after)) (plans.1.1 t.state t.phases a ∙ sym (plans.1.1 u.state u.phases b))

-- each batch has a step
pub some_step : (s : State) (header : HeaderShape) (b : Next) → IsSound MAX_EDGES s → s.graph.vertices ≡ header.n → IsNext (rules_of header MAX_ITEMS) b → (t : Step) × IsStep s b t
some_step s header (Items batch) k e i = let c = cleaned s.graph batch.items in some_cleaned s c (refusal_of s c) k (cleaning s header batch.items batch.line e i)
some_step s header (Refused line reason) k e i = (stay s, refl)
some_step s header End k e i = (stay s, refl)

-- a batch keeps the facts of each state
pub sound_step : (s : State) (header : HeaderShape) (b : Next) (t : Step) → IsSound MAX_EDGES s → s.graph.vertices ≡ header.n → IsNext (rules_of header MAX_ITEMS) b → IsStep s b t → IsSound MAX_EDGES t.state × (t.state.graph.vertices ≡ header.n)
sound_step s header (Items batch) t k e i a = grind (arith, nat_tests, sound_cleaned, cleaning, batch.items, batch.line)
sound_step s header (Refused line reason) t k e i a = rw a (k, e)
sound_step s header End t k e i a = rw a (k, e)

-- a batch keeps the profile
profile_cleaned : (s : State) (c : Cleaned) (r : Option EngineFault) (t : Step) → IsAfterCleaned s c r t → t.state.profile ≡ s.profile
profile_cleaned s c (Some fault) t a = ap (λ (u : Step). u.state.profile) a
profile_cleaned s c None t a = a.after.profile

pub profile_step : (s : State) (b : Next) (t : Step) → IsStep s b t → t.state.profile ≡ s.profile
profile_step s (Items batch) t a = let c = cleaned s.graph batch.items in profile_cleaned s c (refusal_of s c) t a
profile_step s (Refused line reason) t a = ap (λ (u : Step). u.state.profile) a
profile_step s End t a = ap (λ (u : Step). u.state.profile) a

-- each batch has only one step
pub one_step : (s : State) (header : HeaderShape) (b : Next) (t u : Step) → IsSound MAX_EDGES s → s.graph.vertices ≡ header.n → IsNext (rules_of header MAX_ITEMS) b → IsStep s b t → IsStep s b u → t ≡ u
one_step s header (Items batch) t u k e i a b = let c = cleaned s.graph batch.items in one_cleaned s c (refusal_of s c) t u k (cleaning s header batch.items batch.line e i) a b
one_step s header (Refused line reason) t u k e i a b = a ∙ sym b
one_step s header End t u k e i a b = a ∙ sym b

-- a store and an engine that were just opened
pub opened_is_abreast : (p : Profile) (n : ℕ) (w : WriterState) (s : State) → w ≡ opened n 0 → s ≡ start p n → IsAbreast w s
opened_is_abreast p n w s e f = grind (arith, nat_tests)
