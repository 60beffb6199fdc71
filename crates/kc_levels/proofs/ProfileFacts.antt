-- What is asked of a profile: a few facts of arithmetic on its steps, and its numbers at the greatest number of vertices.
-- All other files cite these facts alone, so a further profile adds a line to each and changes nothing else.
use Rattle.std.proofs.Common.{ℕ, ◌+◌, ◌-◌, ◌*◌, ◌^◌, ◌≤◌, ◌<◌, ◌≡◌, refl, arith}
use Rattle.kc_graph.specs.declared.limits.TheConstants.{MAX_VERTICES}
use Rattle.kc_levels.specs.declared.profile.Profile.{Profile}
use Rattle.kc_levels.specs.declared.profile.Profile.TheVariants.{One, Two}
use Rattle.kc_levels.specs.Thresholds.{low, high, grow, next_low, high_over, next_grow, lo_after}

pub next_low-above : (p : Profile) (l : ℕ) → l < next_low p l
next_low-above One l = omega arith
next_low-above Two l = omega arith

pub next_low-near : (p : Profile) (l : ℕ) → next_low p l ≤ 2 * l + 1
next_low-near One l = omega arith
next_low-near Two l = omega arith

pub high_over-ge : (p : Profile) (l : ℕ) → l ≤ high_over p l
high_over-ge One l = omega arith
high_over-ge Two l = omega arith

pub high_over-near : (p : Profile) (l : ℕ) → high_over p l ≤ 2 * l
high_over-near One l = omega arith
high_over-near Two l = omega arith

pub high_over-mono : (p : Profile) (l m : ℕ) → l ≤ m → high_over p l ≤ high_over p m
high_over-mono One l m le = omega arith
high_over-mono Two l m le = omega arith

pub next_grow-above : (p : Profile) (g : ℕ) → 1 ≤ g → g < next_grow p g
next_grow-above One g some = omega arith
next_grow-above Two g some = omega arith

pub lo_after-pos : (p : Profile) (l : ℕ) → 1 ≤ lo_after p l
lo_after-pos One l = omega arith
lo_after-pos Two l = omega arith

pub lo_after-mono : (p : Profile) (l m : ℕ) → l ≤ m → lo_after p l ≤ lo_after p m
lo_after-mono One l m le = omega arith
lo_after-mono Two l m le = omega arith

-- the high of a group and the lo of that group, where l is the low of the group before
pub high-lo : (p : Profile) (l : ℕ) → 1 ≤ l → high_over p (next_low p l) ≤ 3 * (2 * lo_after p l)
high-lo One l some = omega arith
high-lo Two l some = omega arith

-- the same of the second profile, which is closer
pub high-lo-two : (l : ℕ) → 1 ≤ l → high_over Two (next_low Two l) ≤ 2 * (2 * lo_after Two l)
high-lo-two l some = omega arith

-- the height of a group and the last group, where a graph has as many vertices as there may be
abbrev pub most_height : Profile → ℕ
most_height One = 71
most_height Two = 128

abbrev pub most_group : Profile → ℕ
most_group One = 72
most_group Two = 132

grow-one : grow One (most_height One) ≡ 20413423
unfolding grow
grow-one = refl

grow-two : grow Two (most_height Two) ≡ 18329300
unfolding grow
grow-two = refl

high-one : high One (most_group One) ≡ 20903350
unfolding high low
high-one = refl

high-two : high Two (most_group Two) ≡ 17164345
unfolding high low
high-two = refl

low-one : low One (most_group One) ≡ 10451675
unfolding low
low-one = refl

low-two : low Two (most_group Two) ≡ 11442897
unfolding low
low-two = refl

pub grow-most : (p : Profile) → MAX_VERTICES < grow p (most_height p)
grow-most One = omega (arith, grow-one)
grow-most Two = omega (arith, grow-two)

pub high-most : (p : Profile) → MAX_VERTICES ≤ high p (most_group p)
high-most One = omega (arith, high-one)
high-most Two = omega (arith, high-two)

pub low-most : (p : Profile) → low p (most_group p) < 2 ^ 24
low-most One = omega (arith, low-one)
low-most Two = omega (arith, low-two)

pub most_height-small : (p : Profile) → most_height p < 20000
most_height-small One = omega arith
most_height-small Two = omega arith

pub most_group-pos : (p : Profile) → 1 ≤ most_group p
most_group-pos One = omega arith
most_group-pos Two = omega arith

pub most_group-small : (p : Profile) → most_group p < 20000
most_group-small One = omega arith
most_group-small Two = omega arith

-- the levels above the first
pub top-most : (p : Profile) → (most_group p - 1) * most_height p < 19999
top-most One = omega arith
top-most Two = omega arith
