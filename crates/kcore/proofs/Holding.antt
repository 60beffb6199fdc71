-- In each state both invariants hold, and the printed numbers bound the coreness.
use Rattle.std.proofs.Common.{◌≡◌, List, [], ◌∷◌, refl, ◌∙◌}
use Rattle.std.specs.Prelude.{All}
use Rattle.std.proofs.lemmas.List.Elements.{All-nil, All-cons, All-head, All-tail}
use Rattle.kc_text.specs.Lines.{lines}
use Rattle.kc_text.specs.Kept.{kept}
use Rattle.kc_graph.specs.declared.limits.TheConstants.{MAX_EDGES, MAX_ITEMS}
use Rattle.kc_levels.specs.declared.profile.Profile.{Profile}
use Rattle.kc_bound.proofs.lemmas.Coreness.{both_are_near}
use Rattle.kc_batch.specs.declared.batch.Next.{Next}
use Rattle.kc_batch.specs.HeaderShape.{HeaderShape}
use Rattle.kc_batch.specs.Headers.{HeaderText, Accepted, Refused, header_of}
use Rattle.kc_batch.specs.Tokens.{tokens}
use Rattle.kc_batch.specs.Batches.{batches, IsNext}
use Rattle.kc_batch.specs.BatchInputs.{rules_of, behind_header}
use Rattle.kc_batch.proofs.lemmas.Inputs.{batches_keep_ranges}
use Rattle.kc_engine.specs.States.{State, IsSound}
use Rattle.kc_session.specs.States.{Step, start, AreSteps}
use Rattle.kc_session.proofs.lemmas.Runs.{sound_start, sound_step, profile_step}
use Rattle.kcore.specs.declared.limits.TheConstants.{LINE_LIMIT, INPUT_LIMIT}
use Rattle.kcore.specs.Laws.{HoldsIn, HoldsThroughout, EachStateHolds}

pub holds_in : (p : Profile) (s : State) → s.profile ≡ p → IsSound MAX_EDGES s → HoldsIn p s
holds_in p s same k =
    let near = both_are_near s.profile s.graph s.levels k.graph k.both in
    record {
      profile = same;
      both = k.both;
      low = λ v c i. near.low v c i;
      high = λ v c i. near.high v c i;
      estimate = λ v c i. near.estimate v c i;
      near = λ v c i. near.coreness v c i;
      nearer = λ two v c i. near.nearer (same ∙ two) v c i;
    }

all_hold : (p : Profile) (header : HeaderShape) (s : State) (bs : List Next) (ts : List Step) → s.profile ≡ p → IsSound MAX_EDGES s → s.graph.vertices ≡ header.n → All (IsNext (rules_of header MAX_ITEMS)) bs → AreSteps s bs ts
    → All (λ (t : Step). HoldsIn p t.state) ts
all_hold p header s bs [] same k e all a = All-nil (λ (t : Step). HoldsIn p t.state)
all_hold p header s [] (t ∷ ts) same k e all a = absurd a
all_hold p header s (b ∷ bs) (t ∷ ts) same k e all a =
    let kept = profile_step s b t a.0 ∙ same in
    let z = sound_step s header b t k e (All-head (IsNext (rules_of header MAX_ITEMS)) b bs all) a.0 in
    All-cons (λ (u : Step). HoldsIn p u.state) t ts (holds_in p t.state kept z.0) (all_hold p header t.state bs ts kept z.0 z.1 (All-tail (IsNext (rules_of header MAX_ITEMS)) b bs all) a.1)

holds_behind : (text : HeaderText) → HoldsThroughout (behind_header MAX_ITEMS text)
holds_behind (Refused line) = tt
holds_behind (Accepted header rest) = λ ts a.
    (holds_in header.profile (start header.profile header.n) refl (sound_start header.profile header.n), all_hold header.profile header (start header.profile header.n) (batches (rules_of header MAX_ITEMS) (tokens rest)) ts refl (sound_start header.profile header.n) refl (batches_keep_ranges (rules_of header MAX_ITEMS) (tokens rest)) a)

pub each_state_holds : EachStateHolds
each_state_holds bytes = holds_behind (header_of (kept (lines LINE_LIMIT INPUT_LIMIT bytes)))
