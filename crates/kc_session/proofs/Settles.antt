-- The result of batches without readers.
use Rattle.std.proofs.Common.{ℕ, ◌≡◌, List, refl, ap, ◌∙◌, subst}
use Rattle.std.specs.Prelude.{Option, Some, None, Ok, Err}
use Rattle.std.specs.Option.{option_map}
use Rattle.kc_graph.specs.declared.limits.TheConstants.{MAX_ITEMS}
use Rattle.kc_text.proofs.lemmas.Writing.{prefix_none}
use Rattle.kc_batch.specs.declared.token.Token.{Token}
use Rattle.kc_batch.specs.declared.batch.Next.{Next}
use Rattle.kc_batch.specs.HeaderShape.{HeaderShape}
use Rattle.kc_batch.specs.Batches.{batches}
use Rattle.kc_batch.specs.BatchInputs.{rules_of}
use Rattle.kc_batch.proofs.lemmas.Inputs.{batches_keep_ranges}
use Rattle.kc_history.specs.declared.entries.Entry.{Entry}
use Rattle.kc_engine.specs.States.{State}
use Rattle.kc_session.specs.declared.counts.Counts.{Counts}
use Rattle.kc_session.specs.declared.fault.SessionFault.{SessionFault}
use Rattle.kc_session.specs.declared.report.Report.TheVariants.{Notes}
use Rattle.kc_session.specs.declared.settling.Settled.{Settled}
use Rattle.kc_session.specs.private.Running.{RunsBatches}
use Rattle.kc_session.specs.Running.{WroteSomeBatches}
use Rattle.kc_session.specs.Settling.{Settles}
use Rattle.kc_session.specs.States.{Step, start, AreSteps}
use Rattle.kc_session.proofs.Steps.{sound_start}
use Rattle.kc_session.proofs.Runs.{some_states}

-- the batches of each input have a list of steps
pub start_states : (header : HeaderShape) (ls : List Token) → (ts : List Step) × AreSteps (start header.profile header.n) (batches (rules_of header MAX_ITEMS) ls) ts
start_states header ls =
    some_states header (start header.profile header.n) (batches (rules_of header MAX_ITEMS) ls) (sound_start header.profile header.n) refl (batches_keep_ranges (rules_of header MAX_ITEMS) ls)

-- nothing was written
pub settles_nothing : (header : HeaderShape) (toks : Option (List Token)) (before now : Option (List ℕ)) (fault : SessionFault) → now ≡ before → Settles header (option_map (batches (rules_of header MAX_ITEMS)) toks) before now (Err fault)
settles_nothing header None before now fault e = tt
settles_nothing header (Some ls) before now fault e =
    let there = start_states header ls in
    record { steps = there.0; are_steps = there.1; prefix = prefix_none before now _ e }

-- a prefix of the notes was written
pub settles_some : (header : HeaderShape) (told : Option (List Next)) (s t : State) (before now : Option (List ℕ)) (h i : Option (List Entry)) (fault other : SessionFault) → s ≡ start header.profile header.n → RunsBatches Notes s t told before now h i (Err other) → Settles header told before now (Err fault)
settles_some header None s t before now h i fault other e w = tt
settles_some header (Some bs) s t before now h i fault other e w = subst (λ (z : State). WroteSomeBatches Notes z bs before now) e w

-- all notes were written
pub settles_whole : (header : HeaderShape) (told : Option (List Next)) (s : State) (before now : Option (List ℕ)) (h i : Option (List Entry)) (counts : Counts) (settled : Settled) → s ≡ start header.profile header.n → settled.refused ≡ counts.refused
    → RunsBatches Notes s settled.engine.state told before now h i (Ok counts) → Settles header told before now (Ok settled)
settles_whole header None s before now h i counts settled e r w = tt
settles_whole header (Some bs) s before now h i counts settled e r w =
    let v = subst (λ (z : State). RunsBatches Notes z settled.engine.state (Some bs) before now h i (Ok counts)) e w in
    record { steps = v.steps; are_steps = v.are_steps; last = v.last; taken = v.taken; count = r ∙ ap (λ (c : Counts). c.refused) v.counts_are }
