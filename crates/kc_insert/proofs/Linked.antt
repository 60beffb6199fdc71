-- Edges came in, and their ends are filed: what the sweep begins with.
use Rattle.std.proofs.Common.{ℕ, ◌<◌, ◌≡◌, inr, List, [], refl, ap, sym, ◌∙◌, arith, subst, ◌≢◌, length}
use Rattle.std.proofs.lemmas.Bool.{true≢false}
use Rattle.std.specs.List.{All}
use Rattle.std.proofs.lemmas.Bool.Decides.{nat_tests}
use Rattle.kc_graph.specs.Numbers.{has_number}
use Rattle.kc_graph.specs.Shape.{GraphShape, Pair, with_edges}
use Rattle.kc_levels.specs.declared.profile.Profile.{Profile}
use Rattle.kc_levels.specs.LevelList.{MeetsUpper, IsCapped}
use Rattle.kc_adj.specs.LeveledGraph.{IsCounted, LeveledGraph}
use Rattle.kc_graph.proofs.lemmas.Changes.{vertices-with_edges}
use Rattle.kc_insert.specs.private.Filed.{IsFiling, HaveCounted}
use Rattle.kc_insert.specs.private.Sweeping.{IsQueued, AreCounted, CanSweep}
use Rattle.kc_insert.specs.declared.rising.RisingLevels.{RisingLevels}
use Rattle.kc_insert.specs.Ranges.{AreQuiet, counts_of, Cut, waits}
use Rattle.kc_insert.specs.private.Ranges.{count_of}
use Rattle.kc_insert.specs.Working.{IsReady}
use Rattle.kc_insert.proofs.Followed.{counted_added}
use Rattle.kc_insert.proofs.Ready.{each_count, quiet_same}

-- no vertex is looked at yet
pub filing_first : (p : Profile) (n : ℕ) (y fresh before : List ℕ) (queue : ℕ → List ℕ) → ((k : ℕ) → queue k ≡ []) → IsFiling p n y fresh before before queue
filing_first p n y fresh before queue empty = record {
  waiting = λ k v there. absurd (true≢false (sym there ∙ ap (has_number v) (empty k)));
  found = λ v h. inr (inr refl);
}

-- all vertices that break the upper invariant are filed: a vertex that counts as before meets it as before
pub filing_last : (p : Profile) (g h : GraphShape) (y z fresh before counts : List ℕ) (queue : ℕ → List ℕ) → h.vertices ≡ g.vertices → z ≡ y → IsCounted g y 0 before → IsCounted h z 0 fresh → IsCounted h z 0 counts → ((v : ℕ) → v < g.vertices → MeetsUpper p g y v) → IsFiling p h.vertices z fresh before counts queue → IsQueued p h z queue
filing_last p g h y z fresh before counts queue same levels b f c upper s = record {
  waiting = s.waiting;
  found = λ u hu. grind (arith, nat_tests, s.found, f.values, b.values, c.values);
}

module _ (p : Profile) (n : ℕ) (a b : LeveledGraph) (s : RisingLevels) (r t : Cut) (es : List Pair) (y fresh : List ℕ) (ready : IsReady p a (record { levels = s.stored; ranges = r })) (is : b ≡ record a { graph = with_edges a.graph es }) (scale : n ≡ a.graph.vertices) (levels : y ≡ b.levels) (counted : IsCounted b.graph b.levels 0 fresh) (filed : HaveCounted p n y fresh (λ v. All (λ (e : Pair). (v ≢ e.0) × (v ≢ e.1)) es) r t) where
  graph : b.graph ≡ with_edges a.graph es
  graph = ap (λ (k : LeveledGraph). k.graph) is

  kept : b.levels ≡ a.levels
  kept = ap (λ (k : LeveledGraph). k.levels) is

  pub same : b.graph.vertices ≡ a.graph.vertices
  same = ap (λ (k : GraphShape). k.vertices) graph ∙ vertices-with_edges a.graph es

  pub linked_levels : s.stored ≡ b.levels
  linked_levels = ready.levels ∙ sym kept

  linked_quiet : AreQuiet p b.graph t
  linked_quiet = quiet_same p a.graph b.graph r t same filed.same ready.quiet

  listed : IsCounted b.graph s.stored 0 (counts_of t)
  listed = subst (λ (z : List ℕ). IsCounted b.graph z 0 (counts_of t)) (sym linked_levels) (counted_added a.graph b.graph a.levels b.levels (counts_of r) fresh (counts_of t) es graph same kept ready.counted counted filed.copied)

  linked_counted : AreCounted b.graph s.stored (count_of t)
  linked_counted = each_count p b.graph s.stored t linked_quiet.shape listed

  linked_queued : ((v : ℕ) → v < a.graph.vertices → MeetsUpper p a.graph a.levels v) → IsQueued p b.graph s.stored (waits t)
  linked_queued upper = filing_last p a.graph b.graph a.levels s.stored fresh (counts_of r) (counts_of t) (waits t) same ready.levels ready.counted (subst (λ (z : List ℕ). IsCounted b.graph z 0 fresh) (sym linked_levels) counted) listed upper
      (subst (λ (z : List ℕ). IsFiling p b.graph.vertices z fresh (counts_of r) (counts_of t) (waits t)) (levels ∙ sym linked_levels)
      (subst (λ (m : ℕ). IsFiling p m y fresh (counts_of r) (counts_of t) (waits t)) (scale ∙ sym same) (filed.filing (counts_of r) (filing_first p n y fresh (counts_of r) (waits r) ready.none_waiting))))

  pub linked_can : length b.levels ≡ b.graph.vertices → IsCapped p a.graph.vertices a.levels → ((v : ℕ) → v < a.graph.vertices → MeetsUpper p a.graph a.levels v) → CanSweep p b.graph s.stored t
  linked_can long capped upper = record {
    quiet = linked_quiet;
    sized = ap (λ (z : List ℕ). length z) linked_levels ∙ long;
    capped = subst (λ (m : ℕ). IsCapped p m s.stored) (sym same) (subst (λ (z : List ℕ). IsCapped p a.graph.vertices z) (sym ready.levels) capped);
    counted = linked_counted;
    queued = linked_queued upper;
  }
