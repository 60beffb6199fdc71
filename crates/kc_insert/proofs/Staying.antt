-- Rising vertices of a range that count few stay on the level, one after another.
use Rattle.std.proofs.Common.{ℕ, ◌+◌, ◌≤◌, ◌<◌, ◌≡◌, true, false, eqb, not, ◌&&◌, List, [], ◌∷◌, ◌++◌, length, get_or, ◌∙◌, arith}
use Rattle.std.proofs.lemmas.Bool.{true≢false}
use Rattle.std.proofs.lemmas.Bool.Decides.{nat_tests}
use Rattle.std.proofs.lemmas.Grind.{same_number_lists}
use Rattle.kc_graph.specs.Numbers.{has_number}
use Rattle.kc_graph.proofs.lemmas.Numbers.{has_number-push, has_number_index}
use Rattle.kc_levels.specs.Following.{AreDistinct}
use Rattle.kc_levels.proofs.lemmas.Moves.{distinct_push}
use Rattle.kc_insert.specs.declared.rising.RisingLevels.{RisingLevels}
use Rattle.kc_insert.specs.private.Rising.{rises, seen}
use Rattle.kc_insert.specs.private.Parts.{LetStay}
use Rattle.kc_insert.specs.private.Watched.{count_at}
use Rattle.kc_insert.specs.Ranges.{Watch}
use Rattle.kc_insert.proofs.Buckets.{pushed_is}
use Rattle.kc_insert.proofs.Seen.{length-seen, stored_at}

-- of those written down, in `listed`, those before the place i were looked at
pub record IsLettingStay (old : RisingLevels) (watch : Watch) (listed : List ℕ) (i : ℕ) (new : RisingLevels) (stay : List ℕ) : Type 0 where
  pub level : new.level ≡ old.level
  pub seen_on : seen new ≡ seen old
  pub rises_on : (v : ℕ) → rises new v ≡ rises old v && not (has_number v stay)
  pub stays : (v : ℕ) → has_number v stay ≡ true → (rises old v ≡ true) × (count_at watch v ≤ watch.most)
  pub from : (v : ℕ) → has_number v stay ≡ true → has_number v listed ≡ true
  pub over : (j : ℕ) → j < i → rises new (get_or listed j 0) ≡ true → watch.most < count_at watch (get_or listed j 0)
  pub distinct : AreDistinct stay

pub letting_first : (old : RisingLevels) (watch : Watch) (listed : List ℕ) (stay : List ℕ) → stay ≡ [] → IsLettingStay old watch listed 0 old stay
letting_first old watch listed stay none = grind (arith, nat_tests, true≢false)

module _ (old : RisingLevels) (watch : Watch) (listed : List ℕ) (i : ℕ) (new : RisingLevels) (stay : List ℕ) (s : IsLettingStay old watch listed i new stay) where
  abbrev item : ℕ
  item = get_or listed i 0

  pub letting_stays : (next : RisingLevels) → has_number item listed ≡ true → next.level ≡ new.level → seen next ≡ seen new → ((u : ℕ) → rises next u ≡ rises new u && not (eqb u item)) → rises new item ≡ true → count_at watch item ≤ watch.most → IsLettingStay old watch listed (i + 1) next (stay ++ item ∷ [])
  letting_stays next there level same left on few = record {
    level = level ∙ s.level;
    seen_on = same ∙ s.seen_on;
    rises_on = λ u. left u ∙ grind (arith, nat_tests, s.rises_on u, has_number-push u item stay);
    stays = λ u in_it. grind (arith, nat_tests, pushed_is, s.stays);
    from = λ u in_it. grind (arith, nat_tests, pushed_is, s.from);
    over = λ j h up. grind (arith, nat_tests, true≢false, s.over);
    distinct = distinct_push stay item s.distinct fresh;
  }
    where
      fresh : has_number item stay ≡ false
      fresh = grind (arith, nat_tests, on, s.rises_on item)

  pub letting_passes : (rises new item ≡ true → watch.most < count_at watch item) → IsLettingStay old watch listed (i + 1) new stay
  letting_passes over = record {
    level = s.level;
    seen_on = s.seen_on;
    rises_on = s.rises_on;
    stays = s.stays;
    from = s.from;
    over = λ j h up. grind (arith, nat_tests, s.over);
    distinct = s.distinct;
  }

pub letting_last : (old : RisingLevels) (w : Watch) (i : ℕ) (new : RisingLevels) (stay : List ℕ) → length w.doubtful ≤ i → IsLettingStay old w w.doubtful i new stay → LetStay old w new stay
letting_last old w i new stay end s = record {
  rises_on = s.rises_on;
  stays = s.stays;
  watched = s.from;
  over = λ v there up. grind (arith, nat_tests, has_number_index, s.over);
  distinct = s.distinct;
}

-- where nobody rises the levels are those in the list
pub nobody_rises : (s : RisingLevels) → ((v : ℕ) → rises s v ≡ false) → s.stored ≡ seen s
nobody_rises s none = grind (arith, nat_tests, same_number_lists, length-seen, stored_at)
