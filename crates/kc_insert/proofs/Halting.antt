-- In one range after another rising vertices stop that count few.
use Rattle.std.proofs.Common.{ℕ, ◌+◌, ◌≤◌, ◌<◌, ◌≡◌, true, false, not, ◌&&◌, List, [], ◌++◌, length, get_or, set, take, refl, ap, sym, subst, ◌∙◌, arith}
use Rattle.std.specs.List.{flat_map}
use Rattle.std.proofs.lemmas.Bool.{cases_Bool, cases_eq, true≢false}
use Rattle.std.proofs.lemmas.Bool.Decides.{nat_tests}
use Rattle.std.proofs.lemmas.List.{get_or-set_other, get_or-set_same, get_or_default, length-append, length-set, take_all}
use Rattle.kc_graph.specs.Numbers.{has_number}
use Rattle.kc_graph.proofs.lemmas.Numbers.{has_number-append}
use Rattle.kc_levels.specs.Following.{AreDistinct}
use Rattle.kc_insert.specs.declared.rising.RisingLevels.{RisingLevels}
use Rattle.kc_insert.specs.private.Parts.{LetStay}
use Rattle.kc_insert.specs.Ranges.{HasVertex, Part}
use Rattle.kc_insert.specs.private.Ranges.{AllLetStay, CanLetStay}
use Rattle.kc_insert.specs.private.Rising.{rises, seen}
use Rattle.kc_insert.specs.private.Watched.{count_at}
use Rattle.kc_insert.proofs.Joined.{flat_next}
use Rattle.kc_insert.proofs.Members.{distinct_append, few_distinct}
use Rattle.kc_insert.proofs.Stopping.{AreStopped, stopped_on}
use Rattle.kc_insert.proofs.Tests.{and_first, or_either}

-- the vertices that stay in the first i ranges
abbrev pub stays_in : ℕ → List Part → List ℕ
stays_in i parts = flat_map (λ (p : Part). p.stay) (take i parts)

-- the first i ranges stopped vertices, and the others are as before
pub record HaveHalted (i : ℕ) (old new : List Part) : Type 0 where
  pub sized : length new ≡ length old
  pub each : (j : ℕ) (d : Part) → j < i → j < length old → get_or new j d ≡ record (get_or old j d) { watch = record (get_or old j d).watch { doubtful = [] }; stay = (get_or new j d).stay }
  pub later : (j : ℕ) (d : Part) → i ≤ j → get_or new j d ≡ get_or old j d

-- in the first i ranges each vertex that stays rose and counted few, and each other of the watch list that rises counts more
pub record AreFew (before now : RisingLevels) (i : ℕ) (old new : List Part) : Type 0 where
  pub stays : (j v : ℕ) (d : Part) → j < i → j < length old → has_number v (get_or new j d).stay ≡ true → (rises before v ≡ true) × (count_at (get_or old j d).watch v ≤ (get_or old j d).watch.most) × HasVertex (get_or old j d).watch v
  pub over : (j v : ℕ) (d : Part) → j < i → j < length old → has_number v (get_or old j d).watch.doubtful ≡ true → rises now v ≡ true → (get_or old j d).watch.most < count_at (get_or old j d).watch v

-- there are `count` vertices in the list, each once
pub record AreListed (count : ℕ) (stay : List ℕ) : Type 0 where
  pub below : (v : ℕ) → has_number v stay ≡ true → v < 16777216
  pub distinct : AreDistinct stay
  pub counted : count ≡ length stay

-- in the first i ranges vertices stopped, of which there are `count`
pub record IsHalting (before now : RisingLevels) (i count : ℕ) (old new : List Part) : Type 0 where
  pub ranges : HaveHalted i old new
  pub levels : AreStopped before now (stays_in i new)
  pub few : AreFew before now i old new
  pub stay : AreListed count (stays_in i new)

pub halting_first : (levels : RisingLevels) (parts : List Part) → IsHalting levels levels 0 0 parts parts
halting_first levels parts = record {
  ranges = record { sized = refl; each = λ j d h at. absurd (omega (arith, h)); later = λ j d h. refl };
  levels = record { level = refl; levels = refl; rest = λ v. grind (arith, nat_tests) };
  few = record { stays = λ j v d h. absurd (omega (arith, h)); over = λ j v d h. absurd (omega (arith, h)) };
  stay = record { below = λ v there. absurd (true≢false (sym there)); distinct = record {}; counted = refl };
}

-- the step of a loop at place i
module _ (before now next : RisingLevels) (i count : ℕ) (old new : List Part) (p : Part) (d0 : Part) (at : i < length old) (s : IsHalting before now i count old new) (can : CanLetStay before old) (level : next.level ≡ now.level) (levels : seen next ≡ seen now) (is : p ≡ record (get_or new i d0) { watch = record (get_or new i d0).watch { doubtful = [] }; stay = p.stay }) (t : LetStay now (get_or new i d0).watch next p.stay) where
  was : (d : Part) → get_or new i d0 ≡ get_or old i d
  was d = s.ranges.later i d0 (omega arith) ∙ get_or_default old i d0 d at

  long : i < length new
  long = omega (arith, at, s.ranges.sized)

  more : stays_in (i + 1) (set new i p) ≡ stays_in i new ++ p.stay
  more = flat_next (λ (q : Part). q.stay) new i p long

  own : (d : Part) (v : ℕ) → has_number v p.stay ≡ true → (v < length (seen before)) × HasVertex (get_or old i d).watch v
  own d v there = can.inside i v d at (ap (λ (q : Part). has_number v q.watch.doubtful) (sym (was d)) ∙ t.watched v there)

  own_small : (v : ℕ) → has_number v p.stay ≡ true → v < 16777216
  own_small v there = omega (arith, (own d0 v there).0, can.few)

  apart : (v : ℕ) → has_number v (stays_in i new) ≡ true → has_number v p.stay ≡ false
  apart v there = grind (arith, nat_tests, true≢false, s.levels.rest)

  -- few enough to be counted
  pub halting_few : count + length p.stay ≤ 33554432
  halting_few = omega (arith, s.stay.counted, few_distinct 16777216 (stays_in i new) s.stay.distinct s.stay.below, few_distinct 16777216 p.stay t.distinct own_small)

  pub halting_next : IsHalting before next (i + 1) (count + length p.stay) old (set new i p)
  halting_next = record {
    ranges = record {
      sized = length-set new i p ∙ s.ranges.sized;
      each = λ j d h in_it. grind (arith, nat_tests, cases_eq j i, get_or-set_same, long, was, get_or-set_other, s.ranges.each);
      later = λ j d h. get_or-set_other new i j p d (λ e. absurd (omega (arith, e, h))) ∙ s.ranges.later j d (omega (arith, h));
    };
    levels = subst (AreStopped before next) (sym more) (stopped_on before now next (stays_in i new) p.stay s.levels (record { level = level; levels = levels; rest = t.rises_on }));
    few = record {
      stays = λ j v d h in_it. grind (arith, nat_tests, cases_eq j i, get_or-set_same, long, and_first, was, own, get_or-set_other, s.levels.rest, s.few.stays);
      over = λ j v d h in_it there up. grind (arith, nat_tests, cases_eq j i, was, and_first, s.few.over);
    };
    stay = record {
      below = λ v there. grind (arith, nat_tests, cases_Bool (has_number v (stays_in i new)), own_small, or_either, more, has_number-append, s.stay.below);
      distinct = subst AreDistinct (sym more) (distinct_append (stays_in i new) p.stay s.stay.distinct t.distinct apart);
      counted = omega (arith, s.stay.counted, ap length more, length-append (stays_in i new) p.stay);
    };
  }

-- at the end
module _ (before now : RisingLevels) (i count : ℕ) (old new : List Part) (end : length old ≤ i) (s : IsHalting before now i count old new) where
  all : stays_in i new ≡ flat_map (λ (p : Part). p.stay) new
  all = ap (flat_map (λ (p : Part). p.stay)) (take_all i new (omega (arith, end, s.ranges.sized)))

  pub halting_last : AllLetStay before now old new
  halting_last = record {
    on = s.levels.level;
    levels = s.levels.levels;
    sized = s.ranges.sized;
    each = λ j d h. s.ranges.each j d (omega (arith, h, end)) h;
    rises_on = λ v. s.levels.rest v ∙ ap (λ (xs : List ℕ). rises before v && not (has_number v xs)) all;
    stays = λ j v d h. s.few.stays j v d (omega (arith, h, end)) h;
    over = λ j v d h. s.few.over j v d (omega (arith, h, end)) h;
    distinct = subst AreDistinct all s.stay.distinct;
  }

  pub halting_count : count ≡ length (flat_map (λ (p : Part). p.stay) new)
  halting_count = s.stay.counted ∙ ap length all
