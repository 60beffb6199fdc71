-- When what phases work with is ready for a graph.
use Rattle.std.proofs.Common.{ℕ, ◌+◌, ◌<◌, ◌≡◌, ◌≢◌, Bool, true, false, List, [], length, get_or, refl, ap, sym, subst, ◌∙◌, arith}
use Rattle.std.specs.List.{All, flat_map}
use Rattle.std.proofs.lemmas.Bool.{true≢false}
use Rattle.std.proofs.lemmas.Grind.{same_number_lists}
use Rattle.std.proofs.lemmas.Bool.Decides.{nat_tests}
use Rattle.kc_graph.specs.Numbers.{has_number}
use Rattle.kc_graph.specs.Shape.{GraphShape, Pair, neighbours_of, without_edges}
use Rattle.kc_graph.proofs.lemmas.Changes.{vertices-without_edges}
use Rattle.kc_levels.specs.declared.profile.Profile.{Profile}
use Rattle.kc_levels.specs.declared.moves.Move.{Move}
use Rattle.kc_levels.specs.LevelList.{at_least}
use Rattle.kc_levels.specs.Thresholds.{top_level}
use Rattle.kc_levels.specs.Moved.{moves_between}
use Rattle.kc_adj.specs.LeveledGraph.{LeveledGraph, IsCounted}
use Rattle.kc_adj.proofs.lemmas.Lists.{empty_list}
use Rattle.kc_insert.specs.declared.rising.RisingLevels.{RisingLevels}
use Rattle.kc_insert.specs.private.Filed.{AreCopied}
use Rattle.kc_insert.specs.private.LevelStep.{AreInOrder}
use Rattle.kc_insert.specs.Ranges.{AreQuiet, counts_of, Cut, IsCut, no_part, Part, waits}
use Rattle.kc_insert.specs.private.Ranges.{AreNew, count_of, Forgot, IsSameCut}
use Rattle.kc_insert.specs.private.Sweeping.{AreCounted}
use Rattle.kc_insert.specs.Working.{Working, IsReady}
use Rattle.kc_insert.proofs.Filled.{cut_same}
use Rattle.kc_insert.proofs.Flat.{count_is, length_counts}
use Rattle.kc_insert.proofs.Followed.{counted_followed}
use Rattle.kc_insert.proofs.Joined.{joined_same}
use Rattle.kc_insert.proofs.Nearest.{flat_none}
use Rattle.kc_insert.proofs.Phases.{forgot_count, forgot_quiet, forgot_waits}

-- the counts of the ranges, vertex by vertex and in one list
pub listed_counts : (p : Profile) (g : GraphShape) (y : List ℕ) (r : Cut) → IsCut g.vertices (top_level p g.vertices + 1) r → AreCounted g y (count_of r) → IsCounted g y 0 (counts_of r)
listed_counts p g y r cut counted = record {
  sized = length_counts g.vertices (top_level p g.vertices + 1) r cut;
  values = λ v h. count_is g.vertices (top_level p g.vertices + 1) r cut v h ∙ counted v h ∙ ap (λ k. at_least g y v k) (omega arith);
}

pub each_count : (p : Profile) (g : GraphShape) (y : List ℕ) (r : Cut) → IsCut g.vertices (top_level p g.vertices + 1) r → IsCounted g y 0 (counts_of r) → AreCounted g y (count_of r)
each_count p g y r cut counted v h = sym (count_is g.vertices (top_level p g.vertices + 1) r cut v h) ∙ counted.values v h ∙ ap (λ k. at_least g y v k) (omega arith)

-- new ranges
pub ready_made : (p : Profile) (a : LeveledGraph) (w : Working) (width levels : ℕ) (fresh : List ℕ) → w.levels ≡ a.levels → IsCounted a.graph a.levels 0 fresh → levels ≡ top_level p a.graph.vertices + 1 → AreNew width fresh levels w.ranges → IsReady p a w
ready_made p a w width levels fresh same counted tops s = record {
  levels = same;
  counted = subst (IsCounted a.graph a.levels 0) (sym counts) counted;
  quiet = record {
    shape = cut;
    none = (flat_none (λ (q : Part). q.began) w.ranges.parts (λ j d h. ap (λ (q : Part). q.began) (s.each j d h)), flat_none (λ (q : Part). q.risen) w.ranges.parts (λ j d h. ap (λ (q : Part). q.risen) (s.each j d h)), λ k. flat_none (λ (q : Part). get_or q.meetings k []) w.ranges.parts (λ j d h. ap (λ (q : Part). get_or q.meetings k []) (s.each j d h) ∙ empty_list levels k));
    begun = λ j h. ap (λ (q : Part). q.begun) (s.each j no_part h);
    steps = λ j h. ap (λ (q : Part). q.steps) (s.each j no_part h);
    inside = λ j v h there. absurd (nothing (ap (λ (q : Part). has_number v q.watch.doubtful) (s.each j no_part h)) there);
  };
  none_waiting = λ k. flat_none (λ (q : Part). get_or q.queue k []) w.ranges.parts (λ j d h. ap (λ (q : Part). get_or q.queue k []) (s.each j d h) ∙ empty_list levels k);
}
  where
    cut : IsCut a.graph.vertices (top_level p a.graph.vertices + 1) w.ranges
    cut = subst (λ n. IsCut n (top_level p a.graph.vertices + 1) w.ranges) counted.sized (subst (λ l. IsCut (length fresh) l w.ranges) tops s.cut)

    counts : counts_of w.ranges ≡ fresh
    counts = same_number_lists (counts_of w.ranges) fresh (length_counts a.graph.vertices (top_level p a.graph.vertices + 1) w.ranges cut ∙ sym counted.sized) (λ v h.
        let low : v < length fresh = omega (arith, h, length_counts a.graph.vertices (top_level p a.graph.vertices + 1) w.ranges cut, counted.sized) in
        count_is a.graph.vertices (top_level p a.graph.vertices + 1) w.ranges cut v (omega (arith, low, counted.sized)) ∙ s.counted v low)

    nothing : {b : Bool} → b ≡ false → b ≡ true → ⊥
    nothing {b} off on = true≢false (sym on ∙ off)

-- the counts alone are others
pub quiet_same : (p : Profile) (g h : GraphShape) (r t : Cut) → h.vertices ≡ g.vertices → IsSameCut r t → AreQuiet p g r → AreQuiet p h t
quiet_same p g h r t same s q = record {
  shape = subst (λ n. IsCut n (top_level p n + 1) t) (sym same) (cut_same g.vertices (top_level p g.vertices + 1) r t q.shape s);
  none = (of (λ (x : Part). x.began) (λ j at. ap (λ (x : Part). x.began) (s.each j no_part at)) ∙ q.none.0, of (λ (x : Part). x.risen) (λ j at. ap (λ (x : Part). x.risen) (s.each j no_part at)) ∙ q.none.1, λ k. of (λ (x : Part). get_or x.meetings k []) (λ j at. ap (λ (x : Part). get_or x.meetings k []) (s.each j no_part at)) ∙ q.none.2 k);
  begun = λ j at. ap (λ (x : Part). x.begun) (s.each j no_part (was j at)) ∙ q.begun j (was j at);
  steps = λ j at. ap (λ (x : Part). x.steps) (s.each j no_part (was j at)) ∙ q.steps j (was j at);
  inside = λ j v at there. grind (arith, nat_tests, q.inside, s.each, s.counts);
}
  where
    was : (j : ℕ) → j < length t.parts → j < length r.parts
    was j at = omega (arith, at, s.sized)

    of : {A : Type 0} (f : Part → List A) → ((j : ℕ) → j < length r.parts → f (get_or t.parts j no_part) ≡ f (get_or r.parts j no_part)) → flat_map f t.parts ≡ flat_map f r.parts
    of f each = joined_same f f t.parts r.parts s.sized (λ j at. each j at)

-- the same vertices wait
pub waits_copied : (fresh : List ℕ) (spared : ℕ → Type 0) (r t : Cut) → AreCopied fresh spared r t → (k : ℕ) → waits t k ≡ waits r k
waits_copied fresh spared r t s k = joined_same (λ (x : Part). get_or x.queue k []) (λ (x : Part). get_or x.queue k []) t.parts r.parts s.same.sized (λ j at. ap (λ (q : List (List ℕ)). get_or q k []) (s.queues j no_part at))

-- after a deletion phase from a to b
pub ready_followed : (p : Profile) (a b : LeveledGraph) (old new : Working) (es : List Pair) (moves : List Move) (fresh : List ℕ) (mid : Cut) → IsReady p a old → length a.levels ≡ a.graph.vertices → length b.levels ≡ b.graph.vertices → b.graph ≡ without_edges a.graph es → moves ≡ moves_between a.graph.vertices a.levels b.levels → IsCounted b.graph b.levels 0 fresh → ((y : List ℕ) → length y ≡ length old.levels → moves ≡ moves_between (length old.levels) old.levels y → new.levels ≡ y) → AreCopied fresh (λ v. All (λ (e : Pair). (v ≢ e.0) × (v ≢ e.1)) es) old.ranges mid → AreCopied fresh (λ v. All (λ (m : Move). (v ≢ m.vertex) × (has_number v (neighbours_of m.vertex b.graph.edges) ≡ false)) moves) mid new.ranges → IsReady p b new
ready_followed p a b old new es moves fresh mid r long wide is moved counted levels ends rows = record {
  levels = levels b.levels (wide ∙ same ∙ sym (length_is old.levels r.levels)) (moves_from old.levels r.levels);
  counted = counted_followed a.graph.vertices a.graph b.graph a.levels b.levels (counts_of old.ranges) (counts_of mid) fresh (counts_of new.ranges) es moves refl long (wide ∙ same) is moved r.counted counted (ends.copied (top_level p a.graph.vertices + 1) cut) (rows.copied (top_level p a.graph.vertices + 1) (cut_same (length fresh) (top_level p a.graph.vertices + 1) old.ranges mid cut ends.same));
  quiet = quiet_same p b.graph b.graph mid new.ranges refl rows.same (quiet_same p a.graph b.graph old.ranges mid same ends.same r.quiet);
  none_waiting = λ k. waits_copied fresh (λ v. All (λ (m : Move). (v ≢ m.vertex) × (has_number v (neighbours_of m.vertex b.graph.edges) ≡ false)) moves) mid new.ranges rows k ∙ waits_copied fresh (λ v. All (λ (e : Pair). (v ≢ e.0) × (v ≢ e.1)) es) old.ranges mid ends k ∙ r.none_waiting k;
}
  where
    same : b.graph.vertices ≡ a.graph.vertices
    same = ap (λ (k : GraphShape). k.vertices) is ∙ vertices-without_edges a.graph es

    cut : IsCut (length fresh) (top_level p a.graph.vertices + 1) old.ranges
    cut = subst (λ n. IsCut n (top_level p a.graph.vertices + 1) old.ranges) (sym (counted.sized ∙ same)) r.quiet.shape

    length_is : (x : List ℕ) → x ≡ a.levels → length x ≡ a.graph.vertices
    length_is x e = ap (λ (t : List ℕ). length t) e ∙ long

    moves_from : (x : List ℕ) → x ≡ a.levels → moves ≡ moves_between (length x) x b.levels
    moves_from x e = moved ∙ ap (λ n. moves_between n a.levels b.levels) (sym (length_is x e)) ∙ ap (λ t. moves_between (length x) t b.levels) (sym e)

-- after a phase, whose moves were taken
pub ready_taken : (p : Profile) (b : LeveledGraph) (s : RisingLevels) (r : Cut) (new : Working) → AreInOrder p b.graph s r → AreCounted b.graph b.levels (count_of r) → new.levels ≡ b.levels → Forgot r new.ranges → IsReady p b new
ready_taken p b s r new order counted same forgot = record {
  levels = same;
  counted = listed_counts p b.graph b.levels new.ranges quiet.shape (λ v h. forgot_count p b.graph s r new.ranges order forgot.sized forgot.each forgot.width forgot.told v ∙ counted v h);
  quiet = quiet;
  none_waiting = forgot_waits p b.graph s r new.ranges order forgot.sized forgot.each forgot.width forgot.told;
}
  where
    quiet : AreQuiet p b.graph new.ranges
    quiet = forgot_quiet p b.graph s r new.ranges order forgot.sized forgot.each forgot.width forgot.told
