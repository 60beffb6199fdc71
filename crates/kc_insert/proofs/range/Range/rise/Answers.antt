use Rattle.std.proofs.Common.{◌≡◌, ◌≢◌, ◌<◌, ◌+◌, ◌++◌, [], List, get_or, length, ap, sym, ◌∙◌, arith}
use Rattle.std.specs.List.{flat_map}
use Rattle.std.proofs.lemmas.List.{get_or-set_other}
use Rattle.kc_graph.specs.Shape.{Pair, has_edge}
use Rattle.kc_insert.specs.private.Crossing.{met_by, next_near}
use Rattle.kc_insert.specs.Ranges.{Part, Tell}
use Rattle.kc_insert.specs.private.Rising.{rises}
use Rattle.kc_insert.proofs.Inside.{dealt_all, inside_both, inside_ends, inside_rows, near_inside}
use Rattle.kc_insert.proofs.range.Range.rise.Goals.{then-step+in_ok-deal, else-step}
use Rattle.kc_insert.proofs.range.Range.rise.Goals as goal

pub overflow_add-self : goal.overflow_add-self
overflow_add-self c =
    let few = rw (← c.self.view_is) at c.requires.few in
    let steps = rw (← c.self.view_is) at c.requires.steps in
    omega (arith, few, steps, c.in_ok-self-inside.ensures.steps.1, ap (λ (p : Part). p.steps) (c.self-2.view_is ∙ c.in_ok-self-inside.ensures.part))

pub deal-requires : goal.deal-requires
deal-requires c =
    let other : c.step.inside.level + 1 ≢ c.step.inside.level = λ e. absurd (omega (arith, e)) in
    let on : c.on.result.now ≡ get_or c.self.inside.meetings (c.step.inside.level + 1) [] = c.on.ensures ∙ ap (λ (ms : List (List Pair)). get_or ms (c.step.inside.level + 1) []) c.take_all-met.ensures.left ∙ get_or-set_other c.self.inside.meetings c.step.inside.level (c.step.inside.level + 1) [] [] other in
    dealt_all c.step.inside.sharing.layout.width c.step.inside.graph.now.vertices c.self.inside.told.lists c.self-2.inside.told (met_by c.args.step.now c.on.result.now ++ flat_map (next_near c.args.step.now) c.self.inside.begun.items)
    ((ap (λ (p : Part). p.tell) c.self-2.view_is ∙ c.in_ok-self-inside.ensures.told) ∙ ap (λ (t : Tell). record t { all = t.all ++ flat_map (next_near c.args.step.now) c.self.inside.begun.items }) (c.in_ok-come_up.ensures ∙ ap (λ (t : Tell). record t { all = t.all ++ met_by c.args.step.now c.on.result.now }) c.clear.ensures))
    (inside_both (λ v. v < c.step.inside.graph.now.vertices) (met_by c.args.step.now c.on.result.now) (flat_map (next_near c.args.step.now) c.self.inside.begun.items)
    (inside_ends (λ v. v < c.step.inside.graph.now.vertices) (λ (e : Pair). e.1) (λ (e : Pair). rises c.args.step.now.levels e.0) c.on.result.now (λ v w at. ((rw (← c.step.view_is) at (rw (← c.self.view_is) at c.requires.coming)) v w (ap (has_edge (v, w)) (sym on) ∙ at)).1))
    (inside_rows (λ v. v < c.step.inside.graph.now.vertices) (next_near c.args.step.now) c.self.inside.begun.items (λ x v at near. near_inside c.step.inside.graph.now x v _ c.step.invariant.graph (rw (← c.step.view_is) at near))))
    (λ v h. (rw (← c.self.view_is) at (rw (← c.step.view_is) at c.requires.ranges)) v h)

pub returns-clause-lists : goal.returns-clause-lists
returns-clause-lists c =
    let long : length c.self-2.inside.told.lists ≡ length c.args.self.now.tell.lists = ap (λ (t : Tell). length t.lists) (ap (λ (p : Part). p.tell) c.self-2.view_is ∙ c.in_ok-self-inside.ensures.told) ∙ ap (λ (t : Tell). length t.lists) c.in_ok-come_up.ensures ∙ ap (λ (t : Tell). length t.lists) c.clear.ensures ∙ ap (λ (p : Part). length p.tell.lists) c.self.view_is in
    elim c.if-step.branch [
      | then-step+in_ok-deal w ↦ rw w.self-is (w.in_ok-deal.ensures.dealt.sized ∙ long)
      | else-step w ↦ rw w.self-is long
    ]
