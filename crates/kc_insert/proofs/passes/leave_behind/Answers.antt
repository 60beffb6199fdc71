use Rattle.std.proofs.Common.{◌≡◌, get_or, ap, sym, ◌∙◌, arith}
use Rattle.std.proofs.lemmas.Bool.{true≢false}
use Rattle.kc_insert.specs.declared.rising.RisingLevels.{RisingLevels}
use Rattle.kc_insert.specs.private.Crossing.{Crossing}
use Rattle.kc_insert.specs.private.Rising.{rises, seen}
use Rattle.kc_insert.proofs.Leaving.{has_edge_at, left_some, left_more, left_not, less_by_held}
use Rattle.kc_insert.proofs.passes.leave_behind.Goals.{then-rises+then-get-level+in_ok-lessen, else-rises, else-rises-via-then-rises+else-get-level, else-rises-via-else-rises}
use Rattle.kc_insert.proofs.passes.leave_behind.Goals as goal

pub rises-requires : goal.rises-requires
rises-requires c =
    let inside = (rw (← c.step.view_is) at c.requires.held) c.m.inside.riser c.m.inside.other (has_edge_at c.args.met.now c.loop-m.m-index _ (c.m.inside.riser, c.m.inside.other) (omega arith) (c.m.view_is ∙ c.m-item.is)) in
    omega (arith, inside.0, c.step.invariant.sized)

pub get-requires : goal.get-requires
get-requires c =
    let inside = (rw (← c.step.view_is) at c.requires.held) c.m.inside.riser c.m.inside.other (has_edge_at c.args.met.now c.loop-m.m-index _ (c.m.inside.riser, c.m.inside.other) (omega arith) (c.m.view_is ∙ c.m-item.is)) in
    omega (arith, inside.1, c.step.invariant.sized)

pub lessen-requires-clause-vertex : goal.lessen-requires-clause-vertex
lessen-requires-clause-vertex c =
    let inside = c.requires.held c.m.inside.riser c.m.inside.other (has_edge_at c.args.met.now c.loop-m.m-index _ (c.m.inside.riser, c.m.inside.other) (omega arith) (c.m.view_is ∙ c.m-item.is)) in
    less_by_held _ c.m.inside.riser c.args.watched.now c.loop-m.watched inside.2 c.loop-m.invariant

pub lessen-requires-clause-some : goal.lessen-requires-clause-some
lessen-requires-clause-some c =
    let inside = c.requires.held c.m.inside.riser c.m.inside.other (has_edge_at c.args.met.now c.loop-m.m-index _ (c.m.inside.riser, c.m.inside.other) (omega arith) (c.m.view_is ∙ c.m-item.is)) in
    let levels : c.step.inside.levels.now ≡ c.args.step.now.levels = ap (λ (s : Crossing). s.levels) c.step.view_is in
    let level : c.step.inside.level ≡ c.args.step.now.level = ap (λ (s : Crossing). s.level) c.step.view_is in
    left_some c.args.step.now c.args.met.now c.loop-m.m-index _ c.m.inside.riser c.m.inside.other (omega arith) (c.m.view_is ∙ c.m-item.is) c.args.watched.now c.loop-m.watched inside.2 c.requires.enough c.loop-m.invariant
    (ap (λ (k : RisingLevels). rises k c.m.inside.riser) (sym levels) ∙ sym c.rises.ensures ∙ c.if-rises.true)
    (ap (λ (k : RisingLevels). get_or (seen k) c.m.inside.other 0) (sym levels) ∙ sym c.get.ensures ∙ c.if-get-level.true ∙ level)

pub loop-m-preserved : goal.loop-m-preserved
loop-m-preserved c =
    let inside = c.requires.held c.m.inside.riser c.m.inside.other (has_edge_at c.args.met.now c.loop-m.m-index _ (c.m.inside.riser, c.m.inside.other) (omega arith) (c.m.view_is ∙ c.m-item.is)) in
    let levels : c.step.inside.levels.now ≡ c.args.step.now.levels = ap (λ (s : Crossing). s.levels) c.step.view_is in
    let level : c.step.inside.level ≡ c.args.step.now.level = ap (λ (s : Crossing). s.level) c.step.view_is in
    elim c.if-rises.branch [
      | then-rises+then-get-level+in_ok-lessen w ↦ rw w.watched-is (
          left_more c.args.step.now c.args.met.now c.loop-m.m-index _ c.m.inside.riser c.m.inside.other (omega arith) (c.m.view_is ∙ c.m-item.is) c.args.watched.now c.loop-m.watched inside.2 c.requires.enough c.loop-m.invariant
          (ap (λ (k : RisingLevels). rises k c.m.inside.riser) (sym levels) ∙ sym c.rises.ensures ∙ w.if-rises.true)
          (ap (λ (k : RisingLevels). get_or (seen k) c.m.inside.other 0) (sym levels) ∙ sym w.get.ensures ∙ w.if-get-level.true ∙ level)
          _ w.in_ok-lessen.ensures.counts w.in_ok-lessen.ensures.watched)
      | else-rises w ↦ rw w.watched-is (
          left_not c.args.step.now c.args.met.now c.loop-m.m-index _ c.m.inside.riser c.m.inside.other (omega arith) (c.m.view_is ∙ c.m-item.is) c.args.watched.now c.loop-m.watched inside.2 c.requires.enough c.loop-m.invariant
          (elim w.else-rises.branch [
            | else-rises-via-then-rises+else-get-level b ↦ λ up stays. b.if-get-level.false (b.get.ensures ∙ ap (λ (k : RisingLevels). get_or (seen k) c.m.inside.other 0) levels ∙ stays ∙ sym level)
            | else-rises-via-else-rises b ↦ λ up stays. true≢false (sym (c.rises.ensures ∙ ap (λ (k : RisingLevels). rises k c.m.inside.riser) levels ∙ up) ∙ b.if-rises.false)
          ]))
    ]
