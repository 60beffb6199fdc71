use Rattle.std.proofs.Common.{◌≢◌, refl}
use Rattle.std.specs.List.{All}
use Rattle.kc_graph.specs.Shape.{Pair}
use Rattle.kc_insert.proofs.Filled.{counted_wider}
use Rattle.kc_insert.proofs.filing.file_ends.Goals as goal

pub returns : goal.returns
returns g c = counted_wider c.args.fresh.now.profile c.args.fresh.now.vertices c.args.fresh.now.levels c.args.fresh.now.counts (λ v. v ≢ v) (λ v. All (λ (e : Pair). (v ≢ e.0) × (v ≢ e.1)) c.args.edges.now) c.args.ranges.now c.file_all.new.ranges (λ v off. absurd (off refl)) c.in_ok-file_all.ensures
