use Rattle.std.proofs.Common.{refl}
use Rattle.kc_engine.proofs.BatchLemmas.{start_is_sound}
use Rattle.kc_engine.proofs.engine.Engine.open.Goals as goal

pub invariant_of-result : goal.invariant_of-result
invariant_of-result c =
    let shape = c.args.shape in
    record {
      some_workers = c.requires.some_workers;
      few_workers = c.requires.few_workers;
      one_each = c.in_ok-places.ensures;
      limit = c.requires.few_edges;
      running = λ h. refl;
      scale = λ h. rw (c.in_ok-thresholds.ensures, c.in_ok-adj.ensures) refl;
      sound = λ h. rw (c.in_ok-thresholds.ensures, c.in_ok-adj.ensures) (start_is_sound shape.profile shape.n shape.phases_before shape.edge_limit c.requires.few_phases);
      ready = λ h. c.in_ok-work.ensures;
    }
