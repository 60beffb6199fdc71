-- The levels during a sweep: what a write does to them and to the rising vertices.
use Rattle.std.proofs.Common.{ℕ, ◌<◌, ◌≡◌, ◌≢◌, true, false, eqb, not, ◌&&◌, ◌||◌, List, length, get_or, set, ap, ◌∙◌, arith}
use Rattle.std.proofs.lemmas.Bool.{true≢false}
use Rattle.std.proofs.lemmas.Bool.Decides.{nat_tests}
use Rattle.std.proofs.lemmas.List.{length-map, map-set, get_or-map, get_or-set_same, get_or-set_other, get_or_past}
use Rattle.std.proofs.lemmas.Grind.{same_number_lists}
use Rattle.std.proofs.Math.Seq.{map-set_same}
use Rattle.kc_graph.specs.Numbers.{has_number}
use Rattle.kc_insert.specs.declared.rising.RisingLevels.{RisingLevels}
use Rattle.kc_insert.specs.private.Rising.{rises, seen, level_of, all_at}
use Rattle.kc_insert.proofs.Lifting.{length-all_at, all_at_here, all_at_other}

pub length-seen : (s : RisingLevels) → length (seen s) ≡ length s.stored
unfolding seen
length-seen s = length-map s.stored (level_of s.level)

pub seen_at : (s : RisingLevels) (v : ℕ) → v < length (seen s) → get_or (seen s) v 0 ≡ level_of s.level (get_or s.stored v 0)
unfolding seen
seen_at s v h = get_or-map (level_of s.level) s.stored v 0 0 (rw (length-seen s) at h)

pub seen_high : (s : RisingLevels) (v : ℕ) → v < length (seen s) → get_or s.stored v 0 ≡ 65535 → get_or (seen s) v 0 ≡ s.level
seen_high s v h high_ = seen_at s v h ∙ grind (arith, nat_tests, high_)

pub seen_low : (s : RisingLevels) (v : ℕ) → v < length (seen s) → get_or s.stored v 0 ≢ 65535 → get_or (seen s) v 0 ≡ get_or s.stored v 0
seen_low s v h low = seen_at s v h ∙ grind (arith, nat_tests, low)

-- a rising vertex is on the level of the sweep
pub rises_inside : (s : RisingLevels) (v : ℕ) → rises s v ≡ true → v < length (seen s)
unfolding rises
rises_inside s v up = grind (arith, nat_tests, length-seen, true≢false, get_or_past)

pub rises_at : (s : RisingLevels) (v : ℕ) → rises s v ≡ true → get_or (seen s) v 0 ≡ s.level
unfolding rises
rises_at s v up = seen_at s v (rises_inside s v up) ∙ grind (arith, nat_tests, up)

pub stored_at : (s : RisingLevels) (v : ℕ) → v < length (seen s) → rises s v ≡ false → get_or (seen s) v 0 ≡ get_or s.stored v 0
unfolding rises
stored_at s v h none = seen_at s v h ∙ grind (arith, nat_tests, none)

pub begun_seen : (s t : RisingLevels) (v : ℕ) → t.level ≡ s.level → t.stored ≡ set s.stored v 65535 → seen t ≡ set (seen s) v s.level
unfolding seen
begun_seen s t v same is = rw (same, is) (map-set (level_of s.level) s.stored v 65535)

pub begun_rises : (s t : RisingLevels) (v : ℕ) → v < length (seen s) → t.stored ≡ set s.stored v 65535 → (u : ℕ) → rises t u ≡ rises s u || eqb u v
unfolding rises
begun_rises s t v inside is u = grind (arith, nat_tests, get_or-set_same, length-seen, get_or-set_other)

pub stopped_seen : (s t : RisingLevels) (v : ℕ) → rises s v ≡ true → t.level ≡ s.level → t.stored ≡ set s.stored v s.level → seen t ≡ seen s
unfolding seen rises
stopped_seen s t v up same is = rw (same, is) (map-set_same (level_of s.level) s.stored v s.level 0 (grind (arith, nat_tests, up)))

stopped_rises_at : (s t : RisingLevels) (v : ℕ) → s.level < 65535 → v < length s.stored → t.stored ≡ set s.stored v s.level → (u : ℕ) → rises t u ≡ rises s u && not (eqb u v)
unfolding rises
stopped_rises_at s t v small long is u = grind (arith, nat_tests, get_or-set_same, get_or-set_other)

pub stopped_rises : (s t : RisingLevels) (v : ℕ) → s.level < 65535 → rises s v ≡ true → t.stored ≡ set s.stored v s.level → (u : ℕ) → rises t u ≡ rises s u && not (eqb u v)
stopped_rises s t v small up is u = stopped_rises_at s t v small (rw (length-seen s) at (rises_inside s v up)) is u

-- which vertices rise depends on the list alone
pub same_rises : (s t : RisingLevels) → t.stored ≡ s.stored → (v : ℕ) → rises t v ≡ rises s v
unfolding rises
same_rises s t is v = ap (λ (k : List ℕ). eqb (get_or k v 0) 65535) is

pub gone_seen : (s t : RisingLevels) (risers : List ℕ) → t.stored ≡ s.stored → ((v : ℕ) → rises s v ≡ has_number v risers) → seen t ≡ all_at (seen s) risers t.level
gone_seen s t risers is who = grind (arith, nat_tests, same_number_lists, rises_at, all_at_here, stored_at, all_at_other, same_rises, length-seen, length-all_at)
