-- One batch: there is a state after it, there is only one, and it keeps what is true of each state.
use Rattle.std.proofs.Common.{ℕ, ◌≡◌, ◌≤◌, ◌+◌, ◌-◌, Bool, false, List, [], ◌∷◌, nat_lt, length, replicate, refl, sym, ap, ◌∙◌, suc, zero, arith}
use Rattle.std.specs.Prelude.{Some, None, if◌then◌else◌, ◌&&◌, Result, Ok}
use Rattle.std.specs.Result.{MatchResult, is_ok}
use Rattle.std.proofs.lemmas.Bool.{false≢true, and_cases}
use Rattle.std.proofs.lemmas.Bool.Decides.{nat_tests}
use Rattle.std.proofs.lemmas.List.{length-replicate, get_or-replicate}
use Rattle.kc_graph.specs.declared.cleaning.Cleaned.{Cleaned}
use Rattle.kc_graph.specs.declared.limits.TheConstants.{MAX_EDGES, MAX_ITEMS}
use Rattle.kc_graph.specs.Shape.{Pair, GraphShape, EdgesFrom, IsGraph, with_edges, without_edges}
use Rattle.kc_graph.specs.CleaningLaws.{FitsGraph}
use Rattle.kc_graph.proofs.lemmas.Changes.{vertices-with_edges, vertices-without_edges, length-with_edges, inside_from_ascending, insertions_keep_graph, removals_keep_graph}
use Rattle.kc_graph.proofs.lemmas.Cleaning.{each_item_counts_once, cleaned_fits_graph}
use Rattle.kc_levels.specs.declared.profile.Profile.{Profile}
use Rattle.kc_levels.specs.LevelList.{at_least, MeetsBoth, IsBelow, IsCapped, IsRaised, IsLowered}
use Rattle.kc_levels.specs.Moved.{moved_count}
use Rattle.kc_levels.proofs.lemmas.Raising.{raised_is_one_list}
use Rattle.kc_levels.proofs.lemmas.Lowering.{lowered_is_one_list}
use Rattle.kc_levels.proofs.lemmas.Both.{insertion_keeps_both, deletion_keeps_both}
use Rattle.kc_history.specs.declared.limits.TheConstants.{MAX_PHASE}
use Rattle.kc_engine.specs.declared.faults.EngineFault.{EngineFault}
use Rattle.kc_engine.specs.States.{State, IsSound}
use Rattle.kc_engine.specs.Batches.{IsCleaning, phases_of, edges_after, phases_after, refusal_of, AreLoweredIn, AreRaisedIn, graph_after_batch, AreLevelsAfter, IsAfterBatch}
use Rattle.kc_engine.specs.Laws.{StartIsSound, BatchHasOneState, BatchKeepsSound, BatchKeepsBoth}

zeros_capped : (p : Profile) (n : ℕ) → IsCapped p n (replicate n 0)
zeros_capped p n v h = rw (get_or-replicate {A = ℕ} n v 0 0 h) (omega arith)

pub start_is_sound : StartIsSound
unfolding at_least
start_is_sound p n before limit few = record {
  graph = tt;
  both = record {
    sized = length-replicate {A = ℕ} n 0;
    upper = λ v h. omega arith;
    lower = λ v h. rw (get_or-replicate {A = ℕ} n v 0 0 h) tt;
  };
  capped = zeros_capped p n;
  few_edges = omega arith;
  few_phases = few;
}

-- no vertex moves between a list and itself
pub moved_same : (n : ℕ) (x : List ℕ) → moved_count n x x ≡ 0
moved_same zero x = refl
moved_same (suc n) x = grind (arith, nat_tests, moved_same n x)

-- what a batch comes to fits the graph
pub fits : (g : GraphShape) (c : Cleaned) → IsGraph g → IsCleaning g c → FitsGraph g c
fits g c graph k = rw k.comes_to (cleaned_fits_graph g k.items graph k.inside)

-- it adds at most an edge for each item
pub few_added : (g : GraphShape) (c : Cleaned) → IsGraph g → IsCleaning g c → length c.added ≤ MAX_ITEMS
few_added g c graph k = rw k.comes_to (omega (arith, each_item_counts_once g k.items graph k.inside, k.few))

-- what is so of a batch that isn't refused
pub record IsAccepted (limit : ℕ) (s : State) (c : Cleaned) : Type 0 where
  pub room : edges_after s c ≤ limit
  pub number : phases_after s c ≤ MAX_PHASE

none_chosen : (a b : Bool) (x y : EngineFault) → (if a then Some x else if b then Some y else None) ≡ None → (a ≡ false) × (b ≡ false)
none_chosen a b x y e = grind (arith, nat_tests)

number_from : (k s most : ℕ) → s ≤ most → (nat_lt 0 k && nat_lt most (s + k)) ≡ false → s + k ≤ most
number_from k s most few e = grind (arith, nat_tests, and_cases)

pub accepted : (limit : ℕ) (s : State) (c : Cleaned) → s.phases ≤ MAX_PHASE → refusal_of limit s c ≡ None → IsAccepted limit s c
accepted limit s c few e = grind (arith, nat_tests, none_chosen, nat_lt, number_from)

-- what is true of a graph and its levels before and after each phase
pub record IsAt (p : Profile) (g : GraphShape) (x : List ℕ) : Type 0 where
  pub graph : IsGraph g
  pub both : MeetsBoth p g x
  pub capped : IsCapped p g.vertices x

pub at_state : (limit : ℕ) (s : State) → IsSound limit s → IsAt s.profile s.graph s.levels
at_state limit s k = record { graph = k.graph; both = k.both; capped = k.capped }

capped_under : (p : Profile) (n m : ℕ) (x y : List ℕ) → m ≡ n → IsCapped p n x → IsBelow m y x → IsCapped p m y
capped_under p n m x y e capped under = rw e (λ v h. omega (arith, (rw e at under) v h, capped v h))

-- edges that leave keep it
pub after_lowered : (p : Profile) (g : GraphShape) (es : List Pair) (x y : List ℕ) → IsAt p g x → AreLoweredIn p g es x y → IsAt p (without_edges g es) y
after_lowered p g [] x y k a = rw a k
after_lowered p g (e ∷ es) x y k a =
    let lowered : IsLowered p (without_edges g (e ∷ es)) x y = a in
    record {
      graph = removals_keep_graph g (e ∷ es) k.graph;
      both = deletion_keeps_both p g (e ∷ es) x y k.graph k.both lowered;
      capped = capped_under p g.vertices (without_edges g (e ∷ es)).vertices x y (vertices-without_edges g (e ∷ es)) k.capped lowered.lowerable.under;
    }

-- edges that come in keep it
pub after_raised : (p : Profile) (g : GraphShape) (es : List Pair) (x y : List ℕ) → IsAt p g x → EdgesFrom g.vertices 0 0 es → AreRaisedIn p g es x y → IsAt p (with_edges g es) y
after_raised p g [] x y k up a = rw a k
after_raised p g (e ∷ es) x y k up a =
    let inside = inside_from_ascending g.vertices 0 0 (e ∷ es) up in
    let raised : IsRaised p (with_edges g (e ∷ es)) x y = a in
    record {
      graph = insertions_keep_graph g (e ∷ es) k.graph inside;
      both = insertion_keeps_both p g (e ∷ es) x y k.graph inside k.both raised;
      capped = raised.raisable.capped;
    }

-- the one list of levels after edges left
pub one_lowered : (p : Profile) (g : GraphShape) (es : List Pair) (x : List ℕ) → IsAt p g x
    → (y : List ℕ) × (AreLoweredIn p g es x y × ((z : List ℕ) → AreLoweredIn p g es x z → z ≡ y))
one_lowered p g [] x k = (x, (refl, λ z a. a))
one_lowered p g (e ∷ es) x k = lowered_is_one_list p (without_edges g (e ∷ es)) x (k.both.sized ∙ sym (vertices-without_edges g (e ∷ es)))

-- the one list of levels after edges came in
pub one_raised : (p : Profile) (g : GraphShape) (es : List Pair) (x : List ℕ) → IsAt p g x → EdgesFrom g.vertices 0 0 es
    → (y : List ℕ) × (AreRaisedIn p g es x y × ((z : List ℕ) → AreRaisedIn p g es x z → z ≡ y))
one_raised p g [] x k up = (x, (refl, λ z a. a))
one_raised p g (e ∷ es) x k up =
    let same = vertices-with_edges g (e ∷ es) in
    raised_is_one_list p (with_edges g (e ∷ es)) x (insertions_keep_graph g (e ∷ es) k.graph (inside_from_ascending g.vertices 0 0 (e ∷ es) up))
    (k.both.sized ∙ sym same) (rw same k.capped)

pub ascend_later : (g : GraphShape) (c : Cleaned) → FitsGraph g c → EdgesFrom (without_edges g c.removed).vertices 0 0 c.added
ascend_later g c f = rw (vertices-without_edges g c.removed) f.added_ascend

-- what a batch leaves
pub at_after : (p : Profile) (g : GraphShape) (c : Cleaned) (x y : List ℕ) → IsAt p g x → FitsGraph g c → AreLevelsAfter p g c x y → IsAt p (graph_after_batch g c) y
at_after p g c x y k f a = grind (arith, nat_tests, after_raised, after_lowered, ascend_later, a.between, a.lowered, a.raised)

-- the one list of levels after a batch
pub one_after : (p : Profile) (g : GraphShape) (c : Cleaned) (x : List ℕ) → IsAt p g x → FitsGraph g c
    → (y : List ℕ) × (AreLevelsAfter p g c x y × ((z : List ℕ) → AreLevelsAfter p g c x z → z ≡ y))
one_after p g c x k f =
    let low = one_lowered p g c.removed x k in
    let high = one_raised p (without_edges g c.removed) c.added low.0 (after_lowered p g c.removed x low.0 k low.1.0) (ascend_later g c f) in (
      high.0,
      (
        record { between = low.0; lowered = low.1.0; raised = high.1.0 },
        λ z a. high.1.1 z (rw (low.1.1 a.between a.lowered) at a.raised),
      ),
    )

state_same : (t u : State) → t.profile ≡ u.profile → t.graph ≡ u.graph → t.levels ≡ u.levels → t.phases ≡ u.phases → t ≡ u
state_same t u a b c d = rw (a, b, c, d) refl

pub batch_has_one_state : BatchHasOneState
batch_has_one_state limit s c k cleaning =
    let one = one_after s.profile s.graph c s.levels (at_state limit s k) (fits s.graph c k.graph cleaning) in
    let t : State = record { profile = s.profile; graph = graph_after_batch s.graph c; levels = one.0; phases = phases_after s c } in (
      t,
      (
        record { profile = refl; graph = refl; levels = one.1.0; phases = refl },
        λ u a. state_same u t a.profile a.graph (one.1.1 u.levels a.levels) a.phases,
      ),
    )

-- how many edges there are after a batch
pub edges_behind : (g : GraphShape) (c : Cleaned) (limit : ℕ) → limit ≤ MAX_EDGES → FitsGraph g c → length g.edges - length c.removed + length c.added ≤ limit → length (graph_after_batch g c).edges ≤ limit
edges_behind g c limit small f room = grind (arith, nat_tests, length-with_edges, f.can_add, f.fewer_later)

pub batch_keeps_sound : BatchKeepsSound
batch_keeps_sound limit s t c small k cleaning none a =
    let f = fits s.graph c k.graph cleaning in
    let x = accepted limit s c k.few_phases none in
    let there = at_after s.profile s.graph c s.levels t.levels (at_state limit s k) f a.levels in
    record {
      graph = rw a.graph there.graph;
      both = rw (a.profile, a.graph) there.both;
      capped = rw (a.profile, a.graph) there.capped;
      few_edges = rw a.graph (edges_behind s.graph c limit small f x.room);
      few_phases = rw a.phases x.number;
    }

pub batch_keeps_both : BatchKeepsBoth
batch_keeps_both limit s t c k cleaning a =
    let there = at_after s.profile s.graph c s.levels t.levels (at_state limit s k) (fits s.graph c k.graph cleaning) a.levels in
    rw (a.profile, a.graph) there.both

-- the state after the phases of a batch
pub behind_phases : (s : State) (c : Cleaned) (g : GraphShape) (y : List ℕ) (count : ℕ) → g ≡ graph_after_batch s.graph c → AreLevelsAfter s.profile s.graph c s.levels y → count ≡ phases_of c
    → IsAfterBatch s c (record { profile = s.profile; graph = g; levels = y; phases = s.phases + count })
behind_phases s c g y count graph moved counted = record { profile = refl; graph = graph; levels = moved; phases = ap (λ k. s.phases + k) counted }

pub vertices_after : (g : GraphShape) (c : Cleaned) → (graph_after_batch g c).vertices ≡ g.vertices
vertices_after g c = vertices-with_edges (without_edges g c.removed) c.added ∙ vertices-without_edges g c.removed

-- the sound state after the phases of a batch that isn't refused
pub sound_behind : (limit : ℕ) (s : State) (c : Cleaned) (g : GraphShape) (y : List ℕ) (count : ℕ) → limit ≤ MAX_EDGES → IsSound limit s → IsCleaning s.graph c → refusal_of limit s c ≡ None
    → g ≡ graph_after_batch s.graph c → AreLevelsAfter s.profile s.graph c s.levels y → count ≡ phases_of c
    → IsSound limit (record { profile = s.profile; graph = g; levels = y; phases = s.phases + count })
sound_behind limit s c g y count small k cleaning none graph moved counted =
    batch_keeps_sound limit s (record { profile = s.profile; graph = g; levels = y; phases = s.phases + count }) c small k cleaning none (behind_phases s c g y count graph moved counted)

-- what was answered where a mapped error didn't come
pub ok_before : {T E D : Type 0} (r : Result T E) (m : Result T D) (x : T) (Q : E → Type 0) → m ≡ Ok x → MatchResult r (λ y. m ≡ Ok y) Q → is_ok m ≡ is_ok r → r ≡ Ok x
ok_before r m x it was cases same = grind (arith, nat_tests, false≢true)
