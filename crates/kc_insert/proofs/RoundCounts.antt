-- A step of a sweep: each vertex counts its neighbours on its level or above afterwards.
use Rattle.std.proofs.Common.{ℕ, ◌+◌, ◌<◌, ◌≡◌, inl, inr, true, false, cond, leb, ltb, List, get_or, refl, ap, sym, ◌∙◌, arith}
use Rattle.std.specs.Prelude.{count_by}
use Rattle.std.proofs.lemmas.Bool.{cases_eq, eq-eqb, or_from, or_left}
use Rattle.kc_graph.specs.Numbers.{has_number}
use Rattle.kc_graph.specs.Shape.{GraphShape, IsGraph, neighbours_of}
use Rattle.kc_graph.proofs.lemmas.Neighbours.{neighbour_below}
use Rattle.kc_levels.specs.declared.profile.Profile.{Profile}
use Rattle.kc_levels.specs.LevelList.{at_least}
use Rattle.kc_insert.specs.private.LevelStep.{IsLevelStep}
use Rattle.kc_insert.specs.private.Rising.{rises, seen}
use Rattle.kc_insert.specs.private.Sharing.{rise_told}
use Rattle.kc_insert.specs.private.Sweeping.{AreCounted}
use Rattle.kc_insert.specs.Ranges.{range_of}
use Rattle.kc_insert.specs.private.Watched.{count_at}
use Rattle.kc_insert.proofs.Tests.{count_agree}
use Rattle.kc_insert.proofs.RoundBefore.{begun_home, count_lifted, held, inside, left, next_parts, old_count, same_parts, told, went_parts}
use Rattle.kc_insert.proofs.RoundLifted.{step_goes, step_others, step_stays}
use Rattle.kc_insert.proofs.RoundParts.{begun_in, count_in, first_lifted, HasPassed, held_mid, met_at, mid, Passage, rose_at, stay_in}
use Rattle.kc_insert.proofs.RoundRising.{AreKeeping, begun_here, left_here, move_of, goes, begins, stays, rises_lifted, seen_begun, seen_on, seen_same, sized_parted}
use Rattle.kc_insert.proofs.RoundTold.{above_is, left_none, left_told, more_told, second_step, stored_still, told_none}
use Rattle.kc_insert.proofs.Adding.{in_range_times}

module _ (p : Profile) (g : GraphShape) (x : List ℕ) (r : Passage) (k : AreKeeping p g x r.width r.most r.level_count r.levels.old r.parts.old r.old_told) (h : HasPassed g r) (graph : IsGraph g) (small : r.levels.old.level < 65534) where
  module _ (v : ℕ) (at : v < g.vertices) where
    abbrev pub count_mid : ℕ
    count_mid = count_at (mid g r h (range_of r.width v) (inside p g x r k h.before graph small v at)).watch v

    pub count_risen : count_in r.width r.parts.risen v ≡ count_mid + told p g x r k h.before graph small v
    count_risen =
        (met_at g r h (range_of r.width v) (inside p g x r k h.before graph small v at)).more v (held_mid g r h (range_of r.width v) (inside p g x r k h.before graph small v at) v (held p g x r k h.before graph small v at)).from
        ∙ ap (λ n. count_mid + n) (in_range_times r.width v (rise_told (second_step p g x r k h.before graph small) r.parts.lifted))

    -- a vertex that begins counts afresh
    pub fresh_count : has_number v (begun_in r.parts.lifted) ≡ true → count_in r.width r.parts.risen v ≡ count_by (λ u. ltb r.levels.old.level (get_or r.levels.lifted.stored u 0)) (neighbours_of v g.edges) + told p g x r k h.before graph small v
    fresh_count new = count_risen ∙ ap (λ n. n + told p g x r k h.before graph small v) ((rose_at g r h (range_of r.width v) (inside p g x r k h.before graph small v at)).risen.own v ((begun_home p g x r k h.before graph small v at) ∙ new))

    mid_count : has_number v (begun_in r.parts.lifted) ≡ false → count_mid + left p g x r k h.before graph small v ≡ count_in r.width r.parts.lifted v
    mid_count none = (rose_at g r h (range_of r.width v) (inside p g x r k h.before graph small v at)).risen.others v (omega (arith, (held p g x r k h.before graph small v at).from, first_lifted g r h.before (range_of r.width v) (inside p g x r k h.before graph small v at))) ((begun_home p g x r k h.before graph small v at) ∙ none)

    -- a vertex that neither goes on nor begins counts as before until it is told of others
    pub mid_same : rises r.levels.stopped v ≡ false → has_number v (begun_in r.parts.lifted) ≡ false → count_mid ≡ count_in r.width r.parts.old v
    mid_same off none =
        let rests : rises r.levels.lifted v ≡ false = rises_lifted p g x r k h.before v ∙ or_from (rises r.levels.stopped v) (has_number v (begun_in r.parts.lifted)) off none in
        let less = ap {B = ℕ} (λ b. cond b (count_by (λ u. has_number u (stay_in r.parts.stopped)) (neighbours_of v g.edges)) 0) off in
        omega (arith, mid_count none, (count_lifted p g x r k h.before graph small v at), less, left_none p g x r k h.before graph small v rests)

    pub other_count : has_number v (begun_in r.parts.lifted) ≡ false → count_in r.width r.parts.risen v + left p g x r k h.before graph small v ≡ count_in r.width r.parts.lifted v + told p g x r k h.before graph small v
    other_count none = omega (arith, count_risen, mid_count none)

  -- each vertex counts its neighbours on its level or above
  new_count : (v : ℕ) → v < g.vertices → count_in r.width r.parts.risen v ≡ count_by (λ u. leb (get_or (seen r.levels.lifted) v 0) (get_or (seen r.levels.lifted) u 0)) (neighbours_of v g.edges)
  new_count v at = elim (move_of p g x r k h.before v) [
    | goes on none ↦
        let it = left_here p g x r k h.before v on in
        let to = seen_on p g x r k h.before v on in
        let less = ap {B = ℕ} (λ b. cond b (count_by (λ u. has_number u (stay_in r.parts.stopped)) (neighbours_of v g.edges)) 0) on in
        let behind = left_told p g x r k h.before graph small v at (rises_lifted p g x r k h.before v ∙ or_left (rises r.levels.stopped v) (has_number v (begun_in r.parts.lifted)) on) in
        let hears = told_none p g x r k h.before graph small v at (λ e. absurd (omega (arith, e, it.1))) in
        let now : count_in r.width r.parts.risen v ≡ count_by (λ u. leb (r.levels.old.level + 1) (get_or (seen r.levels.lifted) u 0)) (neighbours_of v g.edges) = omega (arith, other_count v at none, count_lifted p g x r k h.before graph small v at, less, behind, hears, old_count p g x r k h.before graph small v r.levels.old.level at it.1, went_parts p g x r k h.before graph small v on) in
        now ∙ ap (λ j. count_by (λ u. leb j (get_or (seen r.levels.lifted) u 0)) (neighbours_of v g.edges)) (sym to)
    | begins off new ↦
        let it = begun_here p g x r k h.before v new in
        let to = seen_begun p g x r k h.before v new in
        let hears = told_none p g x r k h.before graph small v at (λ e. absurd (omega (arith, e, it.2))) in
        let fresh : count_by (λ u. ltb r.levels.old.level (get_or r.levels.lifted.stored u 0)) (neighbours_of v g.edges) ≡ count_by (λ u. leb (r.levels.old.level + 1) (get_or (seen r.levels.lifted) u 0)) (neighbours_of v g.edges) = count_agree (λ u. ltb r.levels.old.level (get_or r.levels.lifted.stored u 0)) (λ u. leb (r.levels.old.level + 1) (get_or (seen r.levels.lifted) u 0)) (neighbours_of v g.edges) (λ u there. above_is p g x r k h.before graph small u (neighbour_below g.vertices v u g.edges graph there)) in
        let now : count_in r.width r.parts.risen v ≡ count_by (λ u. leb (r.levels.old.level + 1) (get_or (seen r.levels.lifted) u 0)) (neighbours_of v g.edges) = omega (arith, fresh_count v at new, fresh, hears) in
        now ∙ ap (λ j. count_by (λ u. leb j (get_or (seen r.levels.lifted) u 0)) (neighbours_of v g.edges)) (sym to)
    | stays off none ↦
        let same = seen_same p g x r k h.before v off none in
        let rests : rises r.levels.lifted v ≡ false = rises_lifted p g x r k h.before v ∙ or_from (rises r.levels.stopped v) (has_number v (begun_in r.parts.lifted)) off none in
        let less = ap {B = ℕ} (λ b. cond b (count_by (λ u. has_number u (stay_in r.parts.stopped)) (neighbours_of v g.edges)) 0) off in
        let behind = left_none p g x r k h.before graph small v rests in
        elim (cases_eq (get_or (seen r.levels.old) v 0) (r.levels.old.level + 1)) [
          | inl next ↦
              let heard = more_told p g x r k h.before graph small v in
              let there = ap {B = ℕ} (λ b. cond b (count_by (λ u. has_number u (begun_in r.parts.lifted)) (neighbours_of v g.edges)) 0) (eq-eqb (get_or r.levels.lifted.stored v 0) (r.levels.old.level + 1) (stored_still p g x r k h.before graph small v at rests ∙ same ∙ next)) in
              let now : count_in r.width r.parts.risen v ≡ count_by (λ u. leb (r.levels.old.level + 1) (get_or (seen r.levels.lifted) u 0)) (neighbours_of v g.edges) = omega (arith, other_count v at none, count_lifted p g x r k h.before graph small v at, less, behind, heard, there, old_count p g x r k h.before graph small v (r.levels.old.level + 1) at next, next_parts p g x r k h.before graph small v at next) in
              now ∙ ap (λ j. count_by (λ u. leb j (get_or (seen r.levels.lifted) u 0)) (neighbours_of v g.edges)) (sym (same ∙ next))
          | inr far ↦
              let hears = told_none p g x r k h.before graph small v at far in
              let now : count_in r.width r.parts.risen v ≡ count_in r.width r.parts.old v = omega (arith, other_count v at none, count_lifted p g x r k h.before graph small v at, less, behind, hears) in
              now ∙ old_count p g x r k h.before graph small v (get_or (seen r.levels.old) v 0) at refl ∙ same_parts p g x r k h.before graph small v (get_or (seen r.levels.old) v 0) far ∙ ap (λ j. count_by (λ u. leb j (get_or (seen r.levels.lifted) u 0)) (neighbours_of v g.edges)) (sym same)
        ]
  ]

  pub counted : AreCounted g (seen r.levels.lifted) (count_in r.width r.parts.risen)
  unfolding at_least
  counted v at = new_count v at

  -- the step from level to level
  pub level_step : IsLevelStep g (seen r.levels.old) (seen r.levels.lifted) (count_in r.width r.parts.old) (count_in r.width r.parts.risen) r.levels.old.level r.most
  level_step = record {
    sized = sized_parted p g x r k h.before;
    goes = step_goes p g x r k h;
    stays = step_stays p g x r k h;
    others = step_others p g x r k h;
    counted = counted;
  }
