use Rattle.std.proofs.Common.{◌+◌, ap, ◌∙◌}
use Rattle.kc_levels.specs.Thresholds.{top_level}
use Rattle.kc_insert.proofs.Ready.{ready_made}
use Rattle.kc_insert.proofs.work.InsertionWork.with_layout.Goals as goal

pub returns : goal.returns
returns c = ready_made c.args.th.now.profile c.args.adj.now _ c.args.layout.width (c.top.result + 1) c.own_counts.result.now (c.in_ok-copy.ensures ∙ c.levels.ensures.value) c.own_counts.ensures (ap (λ k. k + 1) (c.top.ensures.value ∙ ap (top_level c.args.th.now.profile) c.requires.scale)) c.in_ok-new.ensures
