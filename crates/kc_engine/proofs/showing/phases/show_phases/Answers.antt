use Rattle.std.proofs.Common.{◌+◌, List, drop, refl, sym, ap, subst, ◌∙◌, arith}
use Rattle.std.proofs.lemmas.List.{drop_all}
use Rattle.kc_groups.specs.declared.plans.PhasePlan.{PhasePlan}
use Rattle.kc_engine.specs.private.Shows.{ShowShape}
use Rattle.kc_engine.proofs.PhaseSteps.{IsOnTheWay, way_begins, way_more, way_ends, may_begin, drop_none, way_at}
use Rattle.kc_engine.proofs.showing.phases.show_phases.Goals as goal

pub loop-i-init : goal.loop-i-init
loop-i-init g c =
    let same = ap (λ (s : ShowShape). s.phases) c.show.view_is in
    let begins = way_begins c.args.show.now.n c.args.show.now.phases c.args.writer.now.state c.requires.idle c.requires.phases in (
      refl,
      refl,
      subst (λ (ps : List PhasePlan). IsOnTheWay c.args.show.now.n ps (drop 0 ps) c.args.writer.now.state c.args.writer.now.state) (sym same)
          (subst (λ (zs : List PhasePlan). IsOnTheWay c.args.show.now.n c.args.show.now.phases zs c.args.writer.now.state c.args.writer.now.state) (sym (drop_none c.args.show.now.phases)) begins),
    )

pub show_phase-requires-clause-vertices : goal.show_phase-requires-clause-vertices
show_phase-requires-clause-vertices g c κs within = c.requires.vertices ∙ sym c.loop-i.invariant.2.vertices

pub show_phase-requires-clause-begins : goal.show_phase-requires-clause-begins
show_phase-requires-clause-begins g c κs within =
    may_begin c.args.show.now.n c.show.inside.phases.now (drop (c.loop-i.i + 1) c.show.inside.phases.now) c.index-phases-i.result c.args.writer.now.state c.loop-i.writer.state (sym c.requires.vertices) (rw (← c.show.view_is) at c.requires.few)
    (way_at c.args.show.now.n c.show.inside.phases.now c.loop-i.i c.index-phases-i.result c.args.writer.now.state c.loop-i.writer.state c.loop-i-test.true c.index-phases-i.is c.loop-i.invariant.2)

pub loop-i-preserved : goal.loop-i-preserved
loop-i-preserved g c = (
  c.show_phase.ensures.same ∙ c.loop-i.invariant.0,
  c.show_phase.ensures.table ∙ c.loop-i.invariant.1,
  way_more c.args.show.now.n c.show.inside.phases.now (drop (c.loop-i.i + 1) c.show.inside.phases.now) c.index-phases-i.result c.args.writer.now.state c.loop-i.writer.state c.show_phase.new.writer.state
      (way_at c.args.show.now.n c.show.inside.phases.now c.loop-i.i c.index-phases-i.result c.args.writer.now.state c.loop-i.writer.state c.loop-i-test.true c.index-phases-i.is c.loop-i.invariant.2) c.show_phase.ensures.shown,
)

pub returns-clause-shown : goal.returns-clause-shown
returns-clause-shown g c =
    rw (← c.show.view_is) (way_ends c.args.show.now.n c.show.inside.phases.now (drop c.loop-i.i c.show.inside.phases.now) c.args.writer.now.state c.loop-i.writer.state (drop_all c.loop-i.i c.show.inside.phases.now (omega (arith, c.loop-i-test.false))) c.loop-i.invariant.2)
