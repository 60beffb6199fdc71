-- The step of a sweep, from what its calls leave.
use Rattle.std.proofs.Common.{ℕ, ◌+◌, ◌<◌, ◌≤◌, ◌≡◌, List}
use Rattle.std.specs.List.{sum_by}
use Rattle.kc_graph.specs.Shape.{GraphShape, IsGraph}
use Rattle.kc_levels.specs.declared.profile.Profile.{Profile}
use Rattle.kc_levels.specs.Thresholds.{high, group_of, top_level}
use Rattle.kc_insert.specs.private.LevelStep.{HasStepped}
use Rattle.kc_insert.specs.Ranges.{Part}
use Rattle.kc_insert.specs.private.Sweeping.{IsPaid, IsSweeping}
use Rattle.kc_insert.proofs.RoundCounts.{level_step}
use Rattle.kc_insert.proofs.RoundKept.{steps_are}
use Rattle.kc_insert.proofs.RoundLifted.{after_step, before_step, lifted, passed}
use Rattle.kc_insert.proofs.RoundMeets.{meeting}
use Rattle.kc_insert.proofs.RoundParts.{begun_in, HasPassed, Passage, stay_in}
use Rattle.kc_insert.proofs.RoundRising.{AreKeeping, level_lifted}
use Rattle.kc_insert.proofs.RoundWaits.{waiting}
use Rattle.kc_insert.proofs.Stepping.{paid_on, stepped}

module _ (p : Profile) (g : GraphShape) (x : List ℕ) (r : Passage) (k : AreKeeping p g x r.width r.most r.level_count r.levels.old r.parts.old r.old_told) (h : HasPassed g r) (graph : IsGraph g) (small : r.levels.old.level < 65534) (few : r.level_count ≤ 65535) (tops : top_level p g.vertices < 65535) where
  pub has_stepped : HasStepped g x (before_step r) (after_step r) r.most r.above
  has_stepped = record {
    level = level_lifted p g x r k h.before;
    step = level_step p g x r k h graph small;
    lifted = lifted p g x r k h;
    waiting = waiting p g x r k h graph small;
    meeting = meeting p g x r k h graph small few tops;
  }

  -- what is stated of the sweep
  pub sweeping_next : r.levels.old.level < top_level p g.vertices → r.above ≡ high p (group_of p g.vertices (r.levels.old.level + 1)) → IsSweeping p g x (after_step r)
  sweeping_next room above_is = stepped p g x (before_step r) (after_step r) r.most r.above k.sweeping has_stepped graph room k.most_is above_is

  -- what is stated of the steps
  pub paid_next : (first now : ℕ) → IsPaid g x (before_step r) first now → IsPaid g x (after_step r) first (now + sum_by (λ (q : Part). q.steps) r.parts.risen)
  paid_next first now paid = rw (steps_are p g x r k h graph small few tops) (paid_on p g x (before_step r) (after_step r) r.most r.above k.sweeping has_stepped (stay_in r.parts.stopped) (begun_in r.parts.lifted) first now (passed p g x r k h) paid)
