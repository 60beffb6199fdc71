-- New ranges, one after another.
use Rattle.std.proofs.Common.{ℕ, ◌+◌, ◌-◌, ◌≤◌, ◌<◌, ◌≡◌, List, [], ◌∷◌, ◌++◌, length, get_or, take, drop, replicate, refl, ap, sym, ◌∙◌, arith}
use Rattle.std.proofs.lemmas.Bool.{cases_eq}
use Rattle.std.proofs.lemmas.List.{length-append, length-replicate, length-take-le, length-drop, get_or-take, get_or-drop}
use Rattle.std.proofs.Math.ListN.{get_or-append}
use Rattle.std.proofs.Math.Seq.{get_or-append_seam}
use Rattle.std.proofs.lemmas.Bool.Decides.{nat_tests}
use Rattle.kc_insert.specs.Ranges.{HasVertex, no_part, Part, range_of, Tell}
use Rattle.kc_insert.specs.private.Ranges.{AreNew, new_part}
use Rattle.kc_insert.specs.private.Watched.{count_at}

-- the range at a place, of the vertices with these counts
pub record IsMade (width : ℕ) (counts : List ℕ) (levels ranges j : ℕ) (p : Part) : Type 0 where
  pub value : p ≡ new_part levels ranges p.watch.first p.watch.counts
  pub own : (v : ℕ) → HasVertex p.watch v → (v < length counts) × (range_of width v ≡ j)
  pub held : (v : ℕ) → v < length counts → range_of width v ≡ j → HasVertex p.watch v
  pub same : (v : ℕ) → HasVertex p.watch v → count_at p.watch v ≡ get_or counts v 0

-- the first i ranges are made
pub record IsMaking (width : ℕ) (counts : List ℕ) (levels ranges i : ℕ) (items : List Part) (told : List Tell) : Type 0 where
  pub long : length items ≡ i
  pub tells : length told ≡ i
  pub each : (j : ℕ) (d : Part) → j < i → IsMade width counts levels ranges j (get_or items j d)
  pub lists : (j : ℕ) (d : Tell) → j < i → get_or told j d ≡ record { all = []; lists = replicate ranges [] }

-- the range of the vertices from `first` to `end`
pub made : (width : ℕ) (counts : List ℕ) (levels ranges j first end : ℕ) (part : List ℕ) (p : Part) → p ≡ new_part levels ranges first part → part ≡ take (end - first) (drop first counts) → first ≤ end → end ≤ length counts → ((v : ℕ) → v < length counts → range_of width v ≡ j → (first ≤ v) × (v < end)) → ((v : ℕ) → first ≤ v → v < end → range_of width v ≡ j) → IsMade width counts levels ranges j p
made width counts levels ranges j first end part p is of order within inside own = grind (arith, nat_tests, get_or-take, get_or-drop, length-take-le, length-drop)

module _ (width : ℕ) (counts : List ℕ) (levels ranges i : ℕ) (items : List Part) (told : List Tell) (s : IsMaking width counts levels ranges i items told) where
  pub making_next : (p : Part) (t : Tell) → IsMade width counts levels ranges i p → t ≡ record { all = []; lists = replicate ranges [] } → IsMaking width counts levels ranges (i + 1) (items ++ p ∷ []) (told ++ t ∷ [])
  making_next p t one is = record {
    long = omega (arith, length-append items (p ∷ []), s.long);
    tells = omega (arith, length-append told (t ∷ []), s.tells);
    each = λ j d h. grind (arith, nat_tests, cases_eq j i, last, get_or-append, s.long, s.each);
    lists = λ j d h. grind (arith, nat_tests, cases_eq j i, last, get_or-append, s.tells, s.lists);
  }
    where
      last : {A : Type 0} (xs : List A) (x : A) (k : ℕ) (d : A) → length xs ≡ k → get_or (xs ++ x ∷ []) k d ≡ x
      last {A} xs x k d e = ap (λ m. get_or (xs ++ x ∷ []) m d) (sym e) ∙ get_or-append_seam xs x [] d

pub making_last : (width : ℕ) (counts : List ℕ) (levels ranges i : ℕ) (items : List Part) (told : List Tell) → 0 < width → ranges ≤ i → i ≤ ranges → ((v : ℕ) → v < length counts → range_of width v < ranges) → IsMaking width counts levels ranges i items told → AreNew width counts levels (record { width = width; parts = items; told = told })
making_last width counts levels ranges i items told wide end within all s = record {
  shape = refl;
  cut = record {
    wide = wide;
    vertex = λ v h. record { place = there v h; held = (s.each (range_of width v) no_part (inside v h)).held v h refl };
    own = λ j v h held. (s.each j no_part (omega (arith, h, s.long))).own v held;
    queues = λ j h. ap (λ (p : Part). length p.queue) (of j no_part h) ∙ length-replicate levels [];
    meetings = λ j h. ap (λ (p : Part). length p.meetings) (of j no_part h) ∙ length-replicate levels [];
    tells = λ j h. ap (λ (p : Part). length p.tell.lists) (of j no_part h) ∙ length-replicate ranges [] ∙ count;
    told = (s.tells ∙ sym s.long, λ j d h. ap (λ (t : Tell). length t.lists) (s.lists j d (omega (arith, h, s.long))) ∙ length-replicate ranges [] ∙ count);
  };
  counted = λ v h. (s.each (range_of width v) no_part (inside v h)).same v ((s.each (range_of width v) no_part (inside v h)).held v h refl);
  each = λ j d h. (s.each j d (omega (arith, h, s.long))).value ∙ ap (λ k. new_part levels k (get_or items j d).watch.first (get_or items j d).watch.counts) count;
}
  where
    count : ranges ≡ length items
    count = omega (arith, end, within, s.long)

    inside : (v : ℕ) → v < length counts → range_of width v < i
    inside v h = omega (arith, all v h, end)

    there : (v : ℕ) → v < length counts → range_of width v < length items
    there v h = omega (arith, inside v h, s.long)

    of : (j : ℕ) (d : Part) → j < length items → get_or items j d ≡ new_part levels ranges (get_or items j d).watch.first (get_or items j d).watch.counts
    of j d h = (s.each j d (omega (arith, h, s.long))).value
