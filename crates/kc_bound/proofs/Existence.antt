-- Each vertex has a coreness: the depth at which the deepest of what is left no longer holds it.
use Rattle.std.proofs.Common.{ℕ, suc, zero, ◌+◌, ◌≤◌, ◌<◌, ◌≡◌, inl, inr, Bool, true, ltb, arith}
use Rattle.std.proofs.lemmas.Bool.{cases_lt, cases_Bool, both_ways, ltb-true, lt-ltb}
use Rattle.std.proofs.lemmas.List.Sums.{count_by-le-length}
use Rattle.std.proofs.lemmas.Bool.Decides.{nat_tests}
use Rattle.kc_graph.specs.Shape.{GraphShape, IsGraph, neighbours_of}
use Rattle.kc_graph.proofs.lemmas.Neighbours.{fewer_neighbours}
use Rattle.kc_bound.specs.Cores.{degree_within, IsCore, IsCoreness}
use Rattle.kc_bound.specs.Laws.{EachHasCoreness}
use Rattle.kc_bound.proofs.Removals.{rest}

-- a vertex has fewer neighbours than there are vertices, and so a lesser coreness
pub coreness-below : (g : GraphShape) (v c : ℕ) → IsGraph g → IsCoreness g v c → c < g.vertices
unfolding degree_within
coreness-below g v c graph is = grind (arith, nat_tests, count_by-le-length, fewer_neighbours, is.core.enough, is.holds, is.set, is.core.vertices)

core_shallower : (g : GraphShape) (k m : ℕ) (s : ℕ → Bool) → k ≤ m → IsCore g m s → IsCore g k s
core_shallower g k m s le core = record { vertices = core.vertices; enough = λ u e. omega (arith, core.enough u e) }

-- from a core that holds v to a deeper one, while there is one
climb : (room k : ℕ) (g : GraphShape) (v : ℕ) (s : ℕ → Bool) → IsGraph g → g.vertices ≤ k + room → IsCore g k s → s v ≡ true → (c : ℕ) × IsCoreness g v c
unfolding degree_within
climb zero k g v s graph deep core holds =
    absurd (omega (arith, core.enough v holds, count_by-le-length s (neighbours_of v g.edges), fewer_neighbours g.vertices v g.edges graph (core.vertices v holds)))
climb (suc room) k g v s graph deep core holds =
    let r = rest g k graph in
    elim (cases_Bool (r.set v)) [
      | inl there ↦ climb room (suc k) g v r.set graph (omega arith) r.core there
      | inr out ↦ (
        k,
        record {
          set = s;
          core = core;
          holds = holds;
          most = λ t m core' holds'. elim (cases_lt k m) [
            | inr le ↦ le
            | inl more ↦ absurd (both_ways (r.set v) out (r.thinned.keeps t (core_shallower g (suc k) m t more core') v holds'))
          ];
        },
      )
    ]

pub each_has_coreness : EachHasCoreness
each_has_coreness g v graph h =
    climb g.vertices 0 g v (λ u. ltb u g.vertices) graph (omega arith)
    (record { vertices = λ u e. ltb-true u g.vertices e; enough = λ u e. omega arith }) (lt-ltb v g.vertices h)
