-- How ranges keep the vertices that rise, while the sweep goes to another level or looks anew.
use Rattle.std.proofs.Common.{ℕ, ◌≤◌, ◌<◌, ◌≡◌, true, List, [], length, filter, refl, ap, sym, ◌∙◌, arith}
use Rattle.std.specs.Prelude.{All}
use Rattle.std.proofs.lemmas.Bool.{and_right, cases_lt, true≢false}
use Rattle.std.proofs.lemmas.List.{get_or_past}
use Rattle.std.proofs.lemmas.Bool.Decides.{nat_tests}
use Rattle.kc_graph.specs.Numbers.{has_number}
use Rattle.kc_graph.specs.Shape.{GraphShape, IsGraph}
use Rattle.kc_levels.specs.declared.profile.Profile.{Profile}
use Rattle.kc_levels.specs.Thresholds.{high, group_of}
use Rattle.kc_insert.specs.declared.rising.RisingLevels.{RisingLevels}
use Rattle.kc_insert.specs.private.LevelStep.{AreInOrder, HasLimit}
use Rattle.kc_insert.specs.Ranges.{all_began, Cut, meets, Part, range_of, waits}
use Rattle.kc_insert.specs.private.Ranges.{AreKept, count_of}
use Rattle.kc_insert.specs.private.Rising.{all_at, rises, seen}
use Rattle.kc_insert.specs.private.Sweeping.{IsFree, IsPaid, IsSame, IsSweeping, sweeping_of, together}
use Rattle.kc_insert.proofs.Buckets.{has_number-filter}
use Rattle.kc_insert.proofs.Joined.{joined_of}
use Rattle.kc_insert.proofs.Members.{filter_agree}
use Rattle.kc_insert.proofs.SweepSame.{same_paid, same_sweeping}
use Rattle.kc_insert.proofs.Sweeps.{sweeping_on}
use Rattle.kc_insert.proofs.Tests.{and_on}
use Rattle.kc_insert.proofs.Together.{paid_together, sweeping_together}

-- a range that keeps a vertex is there
pub kept_at : (s : RisingLevels) (r : Cut) → AreKept s r → (v : ℕ) → rises s v ≡ true → (range_of r.width v < length r.parts) × (has_number v (all_began r) ≡ true)
kept_at s r kept v up =
    let there = kept.began v up in
    let at : range_of r.width v < length r.parts = grind (arith, nat_tests, cases_lt (range_of r.width v) (length r.parts), true≢false, get_or_past) in
    (at, joined_of (λ (q : Part). q.began) r.parts v (range_of r.width v) at there)

-- the vertices that rise are those in the list
pub kept_listed : (s : RisingLevels) (r : Cut) → AreKept s r → (v : ℕ) → has_number v (filter (rises s) (all_began r)) ≡ rises s v
kept_listed s r kept v = grind (arith, nat_tests, has_number-filter, and_on, kept_at, and_right)

-- the sweep goes to another level
module _ (s t : RisingLevels) (r : Cut) (kept : AreKept s r) (same : (v : ℕ) → rises t v ≡ rises s v) where
  pub gone_kept : AreKept t r
  gone_kept = record {
    began = λ v up. kept.began v (sym (same v) ∙ up);
    own = kept.own;
    risen = kept.risen;
    few = λ v up low. kept.few v (sym (same v) ∙ up) low;
    inside = kept.inside;
  }

  -- all that rise go with it
  pub gone_together : ((risers : List ℕ) → ((v : ℕ) → rises s v ≡ has_number v risers) → seen t ≡ all_at (seen s) risers t.level) → IsSame (together (sweeping_of s r) t.level) (sweeping_of t r)
  gone_together goes = record {
    level = refl;
    levels = goes (filter (rises s) (all_began r)) (λ v. sym (kept_listed s r kept v));
    count = λ v. refl;
    lists = (filter_agree (rises t) (rises s) (all_began r) (λ v there. same v), refl);
    waits = λ k. refl;
    meets = λ k. refl;
  }

  -- or none rises
  pub gone_alone : ((risers : List ℕ) → ((v : ℕ) → rises s v ≡ has_number v risers) → seen t ≡ all_at (seen s) risers t.level) → all_began r ≡ [] → IsSame (record (sweeping_of s r) { level = t.level }) (sweeping_of t r)
  gone_alone goes none = record {
    level = refl;
    levels = goes [] (λ v. sym (kept_listed s r kept v) ∙ ap (λ vs. has_number v (filter (rises s) vs)) none);
    count = λ v. refl;
    lists = (filter_agree (rises t) (rises s) (all_began r) (λ v there. same v), refl);
    waits = λ k. refl;
    meets = λ k. refl;
  }

pub gone_order : (p : Profile) (g : GraphShape) (s t : RisingLevels) (r : Cut) → ((v : ℕ) → rises t v ≡ rises s v) → AreInOrder p g s r → AreInOrder p g t r
gone_order p g s t r same order = record { shape = order.shape; kept = gone_kept s t r order.kept same; rest = order.rest }

-- none rises, and none waits on the way to the level
pub went_on : (p : Profile) (g : GraphShape) (x : List ℕ) (s t : RisingLevels) (r : Cut) → AreInOrder p g s r → ((v : ℕ) → rises t v ≡ rises s v) → ((risers : List ℕ) → ((v : ℕ) → rises s v ≡ has_number v risers) → seen t ≡ all_at (seen s) risers t.level) → all_began r ≡ [] → s.level ≤ t.level → ((k : ℕ) → s.level ≤ k → k < t.level → waits r k ≡ []) → IsSweeping p g x (sweeping_of s r) → IsSweeping p g x (sweeping_of t r)
went_on p g x s t r order same goes none le bare i = same_sweeping p g x (record (sweeping_of s r) { level = t.level }) (sweeping_of t r) (gone_alone s t r order.kept same goes none) (sweeping_on p g x (sweeping_of s r) t.level (ap (filter (rises s)) none) le bare i)

pub went_on_paid : (p : Profile) (g : GraphShape) (x : List ℕ) (s t : RisingLevels) (r : Cut) (first now : ℕ) → AreInOrder p g s r → ((v : ℕ) → rises t v ≡ rises s v) → ((risers : List ℕ) → ((v : ℕ) → rises s v ≡ has_number v risers) → seen t ≡ all_at (seen s) risers t.level) → all_began r ≡ [] → IsPaid g x (sweeping_of s r) first now → IsPaid g x (sweeping_of t r) first now
went_on_paid p g x s t r first now order same goes none paid = same_paid g x (record (sweeping_of s r) { level = t.level }) (sweeping_of t r) first now (gone_alone s t r order.kept same goes none) paid

-- no watch list has a vertex: all that rise count many
pub all_over : (s : RisingLevels) (r : Cut) (most : ℕ) → AreKept s r → HasLimit most r → All (λ (q : Part). q.watch.doubtful ≡ []) r.parts → (v : ℕ) → has_number v (filter (rises s) (all_began r)) ≡ true → most < count_of r v
all_over s r most kept limit clear v there = grind (arith, nat_tests, kept_listed, kept_at, true≢false, kept.few)

-- all that rise go to a level together
pub went_together : (p : Profile) (g : GraphShape) (x : List ℕ) (s t : RisingLevels) (r : Cut) → IsGraph g → AreInOrder p g s r → HasLimit (high p (group_of p g.vertices s.level)) r → All (λ (q : Part). q.watch.doubtful ≡ []) r.parts → ((v : ℕ) → rises t v ≡ rises s v) → ((risers : List ℕ) → ((v : ℕ) → rises s v ≡ has_number v risers) → seen t ≡ all_at (seen s) risers t.level) → s.level ≤ t.level → IsFree s.level t.level (waits r) (meets r) → ((k : ℕ) → s.level ≤ k → k < t.level → group_of p g.vertices k ≡ group_of p g.vertices s.level) → IsSweeping p g x (sweeping_of s r) → IsSweeping p g x (sweeping_of t r)
went_together p g x s t r graph order limit clear same goes le free group i = same_sweeping p g x (together (sweeping_of s r) t.level) (sweeping_of t r) (gone_together s t r order.kept same goes) (sweeping_together p g x (sweeping_of s r) i graph (all_over s r (high p (group_of p g.vertices s.level)) order.kept limit clear) t.level le free group)

pub went_together_paid : (p : Profile) (g : GraphShape) (x : List ℕ) (s t : RisingLevels) (r : Cut) (first now : ℕ) → IsGraph g → AreInOrder p g s r → HasLimit (high p (group_of p g.vertices s.level)) r → All (λ (q : Part). q.watch.doubtful ≡ []) r.parts → ((v : ℕ) → rises t v ≡ rises s v) → ((risers : List ℕ) → ((v : ℕ) → rises s v ≡ has_number v risers) → seen t ≡ all_at (seen s) risers t.level) → s.level ≤ t.level → IsFree s.level t.level (waits r) (meets r) → IsSweeping p g x (sweeping_of s r) → IsPaid g x (sweeping_of s r) first now → IsPaid g x (sweeping_of t r) first now
went_together_paid p g x s t r first now graph order limit clear same goes le free i paid = same_paid g x (together (sweeping_of s r) t.level) (sweeping_of t r) first now (gone_together s t r order.kept same goes) (paid_together p g x (sweeping_of s r) i graph (all_over s r (high p (group_of p g.vertices s.level)) order.kept limit clear) t.level first now le free paid)
