-- A step of a sweep: which vertices wait afterwards.
use Rattle.std.proofs.Common.{ℕ, ◌+◌, ◌<◌, ◌≡◌, ◌≢◌, inl, inr, List, [], length, get_or, ap, sym, ◌∙◌, arith}
use Rattle.std.proofs.lemmas.List.{get_or-set_other}
use Rattle.kc_graph.specs.Numbers.{has_number}
use Rattle.kc_graph.specs.Shape.{GraphShape, IsGraph}
use Rattle.kc_levels.specs.declared.profile.Profile.{Profile}
use Rattle.kc_insert.specs.private.LevelStep.{WaitOn}
use Rattle.kc_insert.specs.Ranges.{Part, range_of}
use Rattle.kc_insert.specs.private.Sharing.{rise_told}
use Rattle.kc_insert.proofs.Joined.{joined_in, joined_of}
use Rattle.kc_insert.proofs.RoundBefore.{inside, held}
use Rattle.kc_insert.proofs.RoundCounts.{mid_same}
use Rattle.kc_insert.proofs.RoundLifted.{after_step, before_step}
use Rattle.kc_insert.proofs.RoundParts.{at_place, HasPassed, held_mid, long_risen, met_at, mid, Passage, queue_mid}
use Rattle.kc_insert.proofs.RoundRising.{AreKeeping, begun_here, left_here, move_of, goes, begins, stays}
use Rattle.kc_insert.proofs.RoundTold.{second_step, told_next}
use Rattle.kc_insert.proofs.Shared.{in_range_has}

module _ (p : Profile) (g : GraphShape) (x : List ℕ) (r : Passage) (k : AreKeeping p g x r.width r.most r.level_count r.levels.old r.parts.old r.old_told) (h : HasPassed g r) (graph : IsGraph g) (small : r.levels.old.level < 65534) where
  queue_same : (j i : ℕ) (at : j < length r.parts.old) → i ≢ r.levels.old.level → get_or (mid g r h j at).queue i [] ≡ get_or (at_place r.parts.old j).queue i []
  queue_same j i at ne = ap (λ (q : List (List ℕ)). get_or q i []) (queue_mid g r h j at) ∙ get_or-set_other (at_place r.parts.old j).queue r.levels.old.level i [] [] ne

  pub waiting : WaitOn g x (before_step r) (after_step r) r.above
  waiting = record {
    still = λ i v ne there.
        let in_ = joined_in (λ (q : Part). get_or q.queue i []) r.parts.old v there in
        let was = ap (has_number v) (queue_same in_.0 i in_.1 ne) ∙ in_.2 in
        joined_of (λ (q : Part). get_or q.queue i []) r.parts.risen v in_.0 (omega (arith, in_.1, long_risen g r h)) ((met_at g r h in_.0 in_.1).still i v was);
    only = λ i v above there.
        let in_ = joined_in (λ (q : Part). get_or q.queue i []) r.parts.risen v there in
        let at : in_.0 < length r.parts.old = omega (arith, in_.1, long_risen g r h) in
        elim ((met_at g r h in_.0 at).only i v in_.2) [
          | inl was ↦ inl (joined_of (λ (q : Part). get_or q.queue i []) r.parts.old v in_.0 at (ap (has_number v) (sym (queue_same in_.0 i at (λ e. absurd (omega (arith, e, above))))) ∙ was))
          | inr new ↦ let it = told_next p g x r k h.before graph small v (in_range_has r.width in_.0 v (rise_told (second_step p g x r k h.before graph small) r.parts.lifted) new.1).0 in inr (it.0, it.1 ∙ sym new.0)
        ];
    noted = λ v at on many.
        let ins = inside p g x r k h.before graph small v at in
        elim ((met_at g r h (range_of r.width v) ins).noted v (held_mid g r h (range_of r.width v) ins v (held p g x r k h.before graph small v at)) many) [
          | inr there ↦ inr (joined_of (λ (q : Part). get_or q.queue (r.levels.old.level + 1) []) r.parts.risen v (range_of r.width v) (omega (arith, ins, long_risen g r h)) there)
          | inl was ↦ elim (move_of p g x r k h.before v) [
            | goes up none ↦ absurd (omega (arith, on, (left_here p g x r k h.before v up).2))
            | begins off new ↦ absurd (omega (arith, on, (begun_here p g x r k h.before v new).1))
            | stays off none ↦ inl (omega (arith, was, mid_same p g x r k h graph small v at off none))
          ]
        ];
  }
