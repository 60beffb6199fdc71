use Rattle.std.proofs.Common.{◌≡◌, ◌+◌, ap, ◌∙◌}
use Rattle.kc_levels.specs.Thresholds.{top_level}
use Rattle.kc_insert.specs.Working.{Working}
use Rattle.kc_insert.proofs.Ready.{ready_made}
use Rattle.kc_insert.proofs.work.InsertionWork.adapt.Goals as goal
use Rattle.kc_insert.proofs.work.InsertionWork.adapt.Goals.{then-edges-ge-LONG_PHASE, else-edges-ge-LONG_PHASE+else-self-n}

pub returns-clause-ready : goal.returns-clause-ready
returns-clause-ready g c =
    let stored : c.if-edges-ge-LONG_PHASE.self-inside.sweep.levels.stored ≡ c.args.self.now.levels = elim c.if-edges-ge-LONG_PHASE.branch [
      | then-edges-ge-LONG_PHASE w ↦ ap (λ x. x.sweep.levels.stored) w.self-inside-is ∙ ap (λ x. x.sweep.levels.stored) w.self-inside.view_is ∙ ap (λ (x : Working). x.levels) c.self.view_is
      | else-edges-ge-LONG_PHASE+else-self-n w ↦ ap (λ x. x.sweep.levels.stored) w.self-inside-is ∙ ap (λ (x : Working). x.levels) c.self.view_is
    ] in
    ready_made c.args.th.now.profile c.args.adj.now _ c.if-edges-ge-LONG_PHASE.layout.width (c.top-levels.result + 1) c.own_counts.result.now (stored ∙ c.requires.ready.levels) c.own_counts.ensures (ap (λ k. k + 1) (c.top-levels.ensures.value ∙ ap (top_level c.args.th.now.profile) c.requires.within.scale)) c.in_ok-self-inside.ensures
