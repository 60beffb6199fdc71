use Rattle.std.proofs.Common.{ℕ, ◌≡◌, ◌+◌, ◌<◌, ◌++◌, ◌∷◌, [], List, get_or, length, take, refl, ap, sym, subst, ◌∙◌, arith}
use Rattle.std.specs.Prelude.{count_by}
use Rattle.std.proofs.lemmas.List.{take_more}
use Rattle.kc_graph.specs.Shape.{GraphShape, neighbours_of}
use Rattle.kc_graph.proofs.lemmas.Numbers.{has_number_at}
use Rattle.kc_graph.proofs.lemmas.Neighbours.{neighbour_below}
use Rattle.kc_insert.specs.private.Crossing.{Crossing, count_above, HaveBegun, HaveMeetings, next_near}
use Rattle.kc_insert.specs.Ranges.{HasVertex}
use Rattle.kc_insert.proofs.Beginning.{begun_more, begun_none, have_both, have_none, held_still, listed_before}
use Rattle.kc_insert.proofs.Rows.{degrees_more, told_first, told_next}
use Rattle.kc_insert.proofs.range.Range.begin_each.Goals as goal

pub loop-i-init : goal.loop-i-init
loop-i-init c = (
  (refl, refl, refl, refl, refl, refl, refl),
  record {
    told = told_first (next_near c.args.step.now) c.self.inside.begun.items c.self.inside.told;
    meetings = have_none c.args.step.now c.self.inside.meetings;
    counts = begun_none c.args.step.now c.self.inside.watched;
  },
  record { total = refl; few = omega arith },
)

pub neighbours-near-requires : goal.neighbours-near-requires
neighbours-near-requires c =
    let v_is : c.vertex_with_prefetch-v.result ≡ get_or c.self.inside.begun.items c.loop-i.i 0 = c.vertex_with_prefetch-v.ensures ∙ ap (λ (vs : List ℕ). get_or vs c.loop-i.i 0) (c.deref.ensures.value ∙ c.loop-i.invariant.0.4) in
    let asked = (rw (← c.self.view_is) at c.requires.vertices) (get_or c.self.inside.begun.items c.loop-i.i 0) (has_number_at _ c.self.inside.begun.items c.loop-i.i (omega arith) refl) in
    subst (λ k. k < c.step.inside.graph.now.vertices) (sym v_is) (rw (← c.step.view_is) at asked.0)

pub above_of-requires-clause-inside : goal.above_of-requires-clause-inside
above_of-requires-clause-inside c = λ w near. rw (← c.step.view_is) (neighbour_below c.step.inside.graph.now.vertices c.vertex_with_prefetch-v.result w c.step.inside.graph.now.edges c.step.invariant.graph (rw c.neighbours-near.ensures.value at near))

pub file_above-requires-clause-vertex : goal.file_above-requires-clause-vertex
file_above-requires-clause-vertex c =
    let v_is : c.vertex_with_prefetch-v.result ≡ get_or c.self.inside.begun.items c.loop-i.i 0 = c.vertex_with_prefetch-v.ensures ∙ ap (λ (vs : List ℕ). get_or vs c.loop-i.i 0) (c.deref.ensures.value ∙ c.loop-i.invariant.0.4) in
    let asked = (rw (← c.self.view_is) at c.requires.vertices) (get_or c.self.inside.begun.items c.loop-i.i 0) (has_number_at _ c.self.inside.begun.items c.loop-i.i (omega arith) refl) in
    subst (λ k. k < c.args.step.now.graph.vertices) (sym v_is) asked.0

pub file_above-requires-clause-places : goal.file_above-requires-clause-places
file_above-requires-clause-places c = λ w above. omega (arith, (rw (← c.self.view_is) at c.requires.places) w above, c.loop-i.invariant.1.meetings.sized)

pub put-requires : goal.put-requires
put-requires c =
    let v_is : c.vertex_with_prefetch-v.result ≡ get_or c.self.inside.begun.items c.loop-i.i 0 = c.vertex_with_prefetch-v.ensures ∙ ap (λ (vs : List ℕ). get_or vs c.loop-i.i 0) (c.deref.ensures.value ∙ c.loop-i.invariant.0.4) in
    let asked = (rw (← c.self.view_is) at c.requires.vertices) (get_or c.self.inside.begun.items c.loop-i.i 0) (has_number_at _ c.self.inside.begun.items c.loop-i.i (omega arith) refl) in
    subst (HasVertex c.loop-i.self-inside.watched) (sym v_is) (held_still c.self.inside.watched c.loop-i.self-inside.watched _ asked.1 c.loop-i.invariant.1.counts.watched)

pub loop-i-preserved : goal.loop-i-preserved
loop-i-preserved c =
    let v_is : c.vertex_with_prefetch-v.result ≡ get_or c.self.inside.begun.items c.loop-i.i 0 = c.vertex_with_prefetch-v.ensures ∙ ap (λ (vs : List ℕ). get_or vs c.loop-i.i 0) (c.deref.ensures.value ∙ c.loop-i.invariant.0.4) in
    let asked = (rw (← c.self.view_is) at c.requires.vertices) (get_or c.self.inside.begun.items c.loop-i.i 0) (has_number_at _ c.self.inside.begun.items c.loop-i.i (omega arith) refl) in
    let all = c.self.inside.begun.items in
    let graph : c.step.inside.graph.now ≡ c.args.step.now.graph = ap (λ (s : Crossing). s.graph) c.step.view_is in
    let near : c.neighbours-near.result.now ≡ neighbours_of (get_or c.self.inside.begun.items c.loop-i.i 0) c.args.step.now.graph.edges = c.neighbours-near.ensures.value ∙ ap (λ v. neighbours_of v c.step.inside.graph.now.edges) v_is ∙ ap (λ (g : GraphShape). neighbours_of (get_or c.self.inside.begun.items c.loop-i.i 0) g.edges) graph in
    let parts : take (c.loop-i.i + 1) c.self.inside.begun.items ≡ take c.loop-i.i c.self.inside.begun.items ++ get_or c.self.inside.begun.items c.loop-i.i 0 ∷ [] = take_more c.self.inside.begun.items c.loop-i.i 0 (omega arith) in (
      c.loop-i.invariant.0,
      record {
        told = told_next (next_near c.args.step.now) all c.loop-i.i c.self.inside.told c.loop-i.self-inside.told c.file_above.new.told (omega arith) c.loop-i.invariant.1.told (rw v_is at c.in_ok-file_above.ensures.told);
        meetings = subst (λ (xs : List ℕ). HaveMeetings c.args.step.now xs c.self.inside.meetings c.file_above.new.meetings) (sym parts) (have_both c.args.step.now (take c.loop-i.i all) (get_or all c.loop-i.i 0 ∷ []) c.self.inside.meetings c.loop-i.self-inside.meetings c.file_above.new.meetings c.loop-i.invariant.1.meetings (rw v_is at c.in_ok-file_above.ensures.meetings));
        counts = subst (λ (xs : List ℕ). HaveBegun c.args.step.now xs c.self.inside.watched c.put.new.self) (sym parts) (begun_more c.args.step.now (take c.loop-i.i all) (get_or all c.loop-i.i 0) c.in_ok-end.above c.self.inside.watched c.loop-i.self-inside.watched c.put.new.self
            (λ u there. ((rw (← c.self.view_is) at c.requires.vertices) u (listed_before u c.loop-i.i all there)).1.from) asked.1 c.loop-i.invariant.1.counts
            (c.in_ok-end.ensures.above ∙ ap (count_by (count_above c.args.step.now)) near)
            (rw v_is at c.in_ok-put.ensures.counts) c.in_ok-put.ensures.watched);
      },
      record {
        total = omega (arith, c.loop-i.invariant.2.total, ap length near, degrees_more c.args.step.now.graph all c.loop-i.i (omega arith));
        few = omega (arith, c.loop-i.invariant.2.few, c.neighbours-near.ensures.fewer, c.neighbours-near.ensures.small);
      },
    )
