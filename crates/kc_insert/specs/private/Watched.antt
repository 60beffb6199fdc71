-- Counts of a range, with a watch list of the vertices whose count came to the limit.
use Rattle.std.specs.Prelude.{ℕ, ◌-◌, ◌≤◌, ◌≡◌, ◌⊎◌, nat_le, Bool, true, length, get_or}
use Rattle.kc_graph.specs.Numbers.{has_number}
use Rattle.kc_insert.specs.Ranges.{HasVertex, Watch}

-- how many neighbours v counts
abbrev pub count_at : Watch → ℕ → ℕ
count_at w v = get_or w.counts (v - w.first) 0

-- v counts at most `most`
abbrev pub is_few : Watch → ℕ → ℕ → Bool
is_few w most v = nat_le (count_at w v) most

-- the vertices and the limit are as before. The watch list has all that it had, and each vertex whose count became the
-- limit.
pub record StayWatched (old new : Watch) : Type 0 where
  pub first : new.first ≡ old.first
  pub sized : length new.counts ≡ length old.counts
  pub most : new.most ≡ old.most
  pub still : (v : ℕ) → has_number v old.doubtful ≡ true → has_number v new.doubtful ≡ true
  pub inside : (v : ℕ) → has_number v new.doubtful ≡ true → (has_number v old.doubtful ≡ true) ⊎ HasVertex old v
  pub fell : (v : ℕ) → old.first ≤ v → count_at new v ≤ old.most → (count_at old v ≤ old.most) ⊎ (has_number v new.doubtful ≡ true)
