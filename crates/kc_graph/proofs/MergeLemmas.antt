-- Lemmas on the one pass by which ascending numbers come into an ascending list, or leave it.
use Rattle.std.proofs.Common.{ℕ, suc, zero, ◌+◌, ◌-◌, ◌≤◌, ◌<◌, ◌≡◌, ◌≢◌, inl, inr, Bool, true, false, ◌||◌, cond, eqb, List, [], ◌∷◌, ◌++◌, length, get_or, set, take, drop, refl, ap, sym, ◌∙◌, arith, subst}
use Rattle.std.proofs.lemmas.Bool.{cases_eq, cases_lt}
use Rattle.std.proofs.lemmas.Bool.Decides.{nat_tests}
use Rattle.std.proofs.lemmas.List.{length-set, get_or-set_other, drop-set, take_more, take_more_set, ext_get_or, length-take-le, length-drop, get_or-take, get_or-drop, take_all, drop_all, append-nil, append_assoc}
use Rattle.std.proofs.Math.Seq.{paste}
use Rattle.std.proofs.lemmas.List.Edits.{length-paste, take-paste}
use Rattle.std.proofs.lemmas.List.Elements.{filter_more}
use Rattle.std.specs.Prelude.{filter, not}
use Rattle.kc_graph.specs.Numbers.{RisesFrom, has_number}
use Rattle.kc_graph.specs.Shape.{Pair}
use Rattle.kc_graph.specs.private.Halves.{has_second, SecondsRise}
use Rattle.kc_graph.proofs.NumberLemmas.{rises_weaker, rises_at_least, has_number-append, has_number-push}

pub rises_strictly : (low : ℕ) (xs : List ℕ) (i j : ℕ) → RisesFrom low xs → i < j → j < length xs → get_or xs i 0 < get_or xs j 0
rises_strictly low [] i j up lt h = absurd (omega arith)
rises_strictly low (x ∷ xs) i zero up lt h = absurd (omega arith)
rises_strictly low (x ∷ xs) zero (suc j) up lt h =
    let later : suc x ≤ get_or xs j 0 = rises_at_least (suc x) xs j up.1 (omega arith) in omega arith
rises_strictly low (x ∷ xs) (suc i) (suc j) up lt h = rises_strictly (suc x) xs i j up.1 (omega arith) (omega arith)

pub rises_take : (low n : ℕ) (xs : List ℕ) → RisesFrom low xs → RisesFrom low (take n xs)
rises_take low zero xs up = tt
rises_take low (suc n) [] up = tt
rises_take low (suc n) (x ∷ xs) up = (up.0, rises_take (suc x) n xs up.1)

pub rises_filter : (low : ℕ) (p : ℕ → Bool) (xs : List ℕ) → RisesFrom low xs → RisesFrom low (filter p xs)
rises_filter low p [] up = tt
rises_filter low p (x ∷ xs) up = grind (arith, nat_tests, rises_filter (suc x) p xs up.1, rises_weaker, up.1, up.0)

-- a list that rises below `low`, and then one that rises from there
rises_join : (k low : ℕ) (xs ys : List ℕ) → RisesFrom k xs → RisesFrom low ys → k ≤ low → ((m : ℕ) → m < length xs → get_or xs m 0 < low) → RisesFrom k (xs ++ ys)
rises_join k low [] ys up vp le below = rises_weaker low k ys le vp
rises_join k low (x ∷ xs) ys up vp le below =
    let here : x < low = below 0 (omega arith) in
    (up.0, rises_join (suc x) low xs ys up.1 vp (omega arith) (λ m h. below (suc m) (omega arith)))

pub has_second-push : (x : ℕ) (hs : List Pair) (h : Pair) → has_second x (hs ++ h ∷ []) ≡ has_second x hs || eqb h.1 x
has_second-push x [] h = grind (arith, nat_tests)
has_second-push x (g ∷ gs) h = grind (arith, nat_tests, has_second-push x gs h)

-- the merged numbers stand from `at` on; they rise, and all are above the first i of the row and above second number j - 1
pub record RisesAbove (row : List ℕ) (hs : List Pair) (items : List ℕ) (i j at : ℕ) : Type 0 where
  pub low : ℕ
  pub suffix : RisesFrom low (drop at items)
  pub above_old : (m : ℕ) → m < i → get_or row m 0 < low
  pub above_new : (m : ℕ) → m + 1 ≡ j → (get_or hs m (0, 0)).1 < low

-- a merge of a row with the second numbers of pairs, from the greatest down: i and j are left of the two, and what is merged
-- stands from `at` on
pub record IsMerging (row : List ℕ) (hs : List Pair) (items : List ℕ) (i j at : ℕ) : Type 0 where
  pub fits : i + j ≤ at
  pub within : at ≤ length items
  pub old_left : i ≤ length row
  pub new_left : j ≤ length hs
  pub same : (m : ℕ) → m < i → get_or items m 0 ≡ get_or row m 0
  pub rises : RisesAbove row hs items i j at
  pub has : (x : ℕ) → (has_number x (take i row) || has_second x (take j hs)) || has_number x (drop at items) ≡ has_number x row || has_second x hs

or_false : (a : Bool) → a ≡ a || false
or_false true = refl
or_false false = refl

pub merging_first : (row : List ℕ) (hs : List Pair) (items : List ℕ) (i j at : ℕ) → RisesFrom 0 (take i items) → row ≡ take i items → j ≡ length hs → at ≡ length items → length items ≡ i + j → IsMerging row hs items i j at
merging_first row hs items i j at up row_is j_is at_is long =
    let size : length row ≡ i = ap (λ (xs : List ℕ). length xs) row_is ∙ length-take-le i items (omega arith) in
    let last : ℕ = get_or row (i - 1) 0 in
    let none : drop at items ≡ [] = drop_all at items (omega arith) in
    record {
      fits = omega arith;
      within = omega arith;
      old_left = omega arith;
      new_left = omega arith;
      same = λ m h. sym (ap (λ (xs : List ℕ). get_or xs m 0) row_is ∙ get_or-take i items m 0 h);
      rises = record {
        low = suc (get_or row (i - 1) 0 + (get_or hs (j - 1) (0, 0)).1);
        suffix = rw none tt;
        above_old = λ m h. elim (cases_lt m (i - 1)) [
          | inl lt ↦ let far : get_or row m 0 < get_or row (i - 1) 0 = rises_strictly 0 row m (i - 1) (rw row_is up) lt (omega arith) in omega arith
          | inr ge ↦ let e : m ≡ i - 1 = omega arith in rw e (omega arith)
        ];
        above_new = λ m e. let f : m ≡ j - 1 = omega arith in rw f (omega arith);
      };
      has = λ x. rw (none, take_all i row (omega arith), take_all j hs (omega arith)) (sym (or_false (has_number x row || has_second x hs)));
    }

-- one number more is merged
pub merging_next : (row : List ℕ) (hs : List Pair) (items : List ℕ) (i j at : ℕ) → IsMerging row hs items i j at → (i' j' at' y : ℕ) → at ≡ at' + 1 → i' ≤ i → j' ≤ j → i' + j' ≤ at' → ((low : ℕ) → ((m : ℕ) → m < i → get_or row m 0 < low) → ((m : ℕ) → m + 1 ≡ j → (get_or hs m (0, 0)).1 < low) → y < low) → ((m : ℕ) → m < i' → get_or row m 0 < y) → ((m : ℕ) → m + 1 ≡ j' → (get_or hs m (0, 0)).1 < y) → ((x : ℕ) → (has_number x (take i' row) || has_second x (take j' hs)) || eqb y x ≡ has_number x (take i row) || has_second x (take j hs)) → IsMerging row hs (set items at' y) i' j' at'
merging_next row hs items i j at s i' j' at' y is le lf fits under above_old above_new has =
    let r = s.rises in
    let next : drop at' (set items at' y) ≡ y ∷ drop at items = drop-set items at' y (omega (arith, s.within)) ∙ ap (λ n. y ∷ drop n items) (sym is) in
    record {
      fits = fits;
      within = rw length-set (omega (arith, s.within));
      old_left = omega (arith, s.old_left);
      new_left = omega (arith, s.new_left);
      same = λ m h. get_or-set_other items at' m y 0 (omega arith) ∙ s.same m (omega arith);
      rises = record {
        low = y;
        suffix = rw next (omega arith, rises_weaker r.low (suc y) (drop at items) (omega (arith, under r.low r.above_old r.above_new)) r.suffix);
        above_old = above_old;
        above_new = above_new;
      };
      has = λ x. rw next (shift _ _ _ _ (has x) ∙ s.has x);
    }
  where
    shift : (a b c d : Bool) → (a || c) ≡ b → (a || (c || d)) ≡ (b || d)
    shift true b c d e = ap (λ f. f || d) e
    shift false b c d e = ap (λ f. f || d) e

module _ (row : List ℕ) (hs : List Pair) (items : List ℕ) (i j at : ℕ) (up : RisesFrom 0 row) (vp : SecondsRise hs) (s : IsMerging row hs items i j at) (at' j' : ℕ) (at_is : at ≡ at' + 1) (j_is : j ≡ j' + 1) where
  last_two : (x : ℕ) → has_second x (take j hs) ≡ has_second x (take j' hs) || eqb (get_or hs j' (0, 0)).1 x
  last_two x = rw (j_is, take_more hs j' (0, 0) (omega (arith, s.new_left))) (has_second-push x (take j' hs) (get_or hs j' (0, 0)))

  rises_up_to : (m : ℕ) → m + 1 ≡ j' → (get_or hs m (0, 0)).1 < (get_or hs j' (0, 0)).1
  rises_up_to m e = subst (λ n. (get_or hs m (0, 0)).1 < (get_or hs n (0, 0)).1) e (vp m (omega (arith, s.new_left)))

  -- a number that comes in, and is above all that are left of the row
  pub merging_new : ((m : ℕ) → m + 1 ≡ i → get_or row m 0 < (get_or hs j' (0, 0)).1) → IsMerging row hs (set items at' (get_or hs j' (0, 0)).1) i j' at'
  merging_new above = merging_next row hs items i j at s i j' at' (get_or hs j' (0, 0)).1 at_is (omega arith) (omega arith) (omega (arith, s.fits))
      (λ low old new. new j' (sym j_is))
      (λ m h. elim (cases_eq (m + 1) i) [
        | inl e ↦ above m e
        | inr ne ↦
            let last : get_or row (i - 1) 0 < (get_or hs j' (0, 0)).1 = above (i - 1) (omega arith) in
            let far : get_or row m 0 < get_or row (i - 1) 0 = rises_strictly 0 row m (i - 1) up (omega arith) (omega (arith, s.old_left)) in omega arith
      ])
      rises_up_to
      (λ x. rw last_two (regroup (has_number x (take i row)) (has_second x (take j' hs)) (eqb (get_or hs j' (0, 0)).1 x)))
    where
      regroup : (a b c : Bool) → ((a || b) || c) ≡ (a || (b || c))
      regroup true b c = refl
      regroup false b c = refl

  module _ (i' : ℕ) (i_is : i ≡ i' + 1) where
    last_old : (x : ℕ) → has_number x (take i row) ≡ has_number x (take i' row) || eqb (get_or row i' 0) x
    last_old x = rw (i_is, take_more row i' 0 (omega (arith, s.old_left))) (has_number-push x (get_or row i' 0) (take i' row))

    below : (m : ℕ) → m < i' → get_or row m 0 < get_or row i' 0
    below m h = rises_strictly 0 row m i' up h (omega (arith, s.old_left))

    -- a number of the row that is above all that are left of those that come in
    pub merging_old : (get_or hs j' (0, 0)).1 < get_or row i' 0 → IsMerging row hs (set items at' (get_or row i' 0)) i' j at'
    merging_old above = merging_next row hs items i j at s i' j at' (get_or row i' 0) at_is (omega arith) (omega arith) (omega (arith, s.fits))
        (λ low old new. old i' (omega arith))
        below
        (λ m e. let f : m ≡ j' = omega arith in rw f above)
        (λ x. rw last_old (regroup (has_number x (take i' row)) (has_second x (take j hs)) (eqb (get_or row i' 0) x)))
      where
        regroup : (a b c : Bool) → ((a || b) || c) ≡ ((a || c) || b)
        regroup true b c = refl
        regroup false true true = refl
        regroup false true false = refl
        regroup false false true = refl
        regroup false false false = refl

    -- a number of the row that comes in too
    pub merging_both : (get_or hs j' (0, 0)).1 ≡ get_or row i' 0 → IsMerging row hs (set items at' (get_or row i' 0)) i' j' at'
    merging_both both = merging_next row hs items i j at s i' j' at' (get_or row i' 0) at_is (omega arith) (omega arith) (omega (arith, s.fits))
        (λ low old new. old i' (omega arith))
        below
        (λ m e. rw (← both) (rises_up_to m e))
        (λ x. rw (last_old, last_two, both) (regroup (has_number x (take i' row)) (has_second x (take j' hs)) (eqb (get_or row i' 0) x)))
      where
        regroup : (a b c : Bool) → ((a || b) || c) ≡ ((a || c) || (b || c))
        regroup true b c = refl
        regroup false true true = refl
        regroup false true false = refl
        regroup false false true = refl
        regroup false false false = refl

module _ (row : List ℕ) (hs : List Pair) (items : List ℕ) (i at : ℕ) (up : RisesFrom 0 row) (s : IsMerging row hs items i 0 at) where
  left : take i items ≡ take i row
  left = ext_get_or 0 (take i items) (take i row) (length-take-le i items (omega (arith, s.fits, s.within)) ∙ sym (length-take-le i row s.old_left)) same_at
    where
      same_at : (m : ℕ) → m < length (take i items) → get_or (take i items) m 0 ≡ get_or (take i row) m 0
      same_at m h =
          let h' : m < i = omega (arith, h, length-take-le i items (omega (arith, s.fits, s.within))) in
          get_or-take i items m 0 h' ∙ s.same m h' ∙ sym (get_or-take i row m 0 h')

  pub merged_rises : RisesFrom 0 (take i items ++ drop at items)
  merged_rises = rw left (rises_join 0 s.rises.low (take i row) (drop at items) (rises_take 0 i row up) s.rises.suffix (omega arith)
      (λ m h. let h' : m < i = omega (arith, h, length-take-le i row s.old_left) in rw (get_or-take i row m 0 h') (s.rises.above_old m h')))

  pub merged_has : (x : ℕ) → has_number x (take i items ++ drop at items) ≡ has_number x row || has_second x hs
  merged_has x = rw left (has_number-append x (take i row) (drop at items) ∙ ap (λ b. b || has_number x (drop at items)) (or_false (has_number x (take i row))) ∙ s.has x)

-- those of a row that stay are moved to the front: the first i are looked at, and the second numbers before place j are below the rest
pub record IsKeeping (row : List ℕ) (hs : List Pair) (items : List ℕ) (i j kept : ℕ) : Type 0 where
  pub sized : length items ≡ length row
  pub front : kept ≤ i
  pub looked : i ≤ length row
  pub passed : j ≤ length hs
  pub filtered : take kept items ≡ filter (λ x. not (has_second x hs)) (take i row)
  pub same : (m : ℕ) → i ≤ m → m < length row → get_or items m 0 ≡ get_or row m 0
  pub under : (m k : ℕ) → m < j → i ≤ k → k < length row → (get_or hs m (0, 0)).1 < get_or row k 0

seconds_rise : (hs : List Pair) → SecondsRise hs → (a b : ℕ) → a < b → b < length hs → (get_or hs a (0, 0)).1 < (get_or hs b (0, 0)).1
seconds_rise hs up a zero lt h = absurd (omega arith)
seconds_rise hs up a (suc b) lt h =
    let step : (get_or hs b (0, 0)).1 < (get_or hs (b + 1) (0, 0)).1 = up b (omega arith) in
    let next : b + 1 ≡ suc b = omega arith in
    let step' : (get_or hs b (0, 0)).1 < (get_or hs (suc b) (0, 0)).1 = subst (λ n. (get_or hs b (0, 0)).1 < (get_or hs n (0, 0)).1) next step in
    elim (cases_eq a b) [
      | inl e ↦ rw e step'
      | inr ne ↦ let far : (get_or hs a (0, 0)).1 < (get_or hs b (0, 0)).1 = seconds_rise hs up a b (omega arith) (omega arith) in omega arith
    ]

second_none : (x : ℕ) (hs : List Pair) → ((m : ℕ) → m < length hs → (get_or hs m (0, 0)).1 ≢ x) → has_second x hs ≡ false
second_none x [] none = refl
second_none x (h ∷ hs) none =
    let here : h.1 ≢ x = none 0 (omega arith) in
    let later : has_second x hs ≡ false = second_none x hs (λ m k. none (suc m) (omega arith)) in
    grind (arith, nat_tests)

second_some : (x : ℕ) (hs : List Pair) (m : ℕ) → m < length hs → (get_or hs m (0, 0)).1 ≡ x → has_second x hs ≡ true
second_some x [] m h e = absurd (omega arith)
second_some x (h ∷ hs) zero lt e = grind (arith, nat_tests)
second_some x (h ∷ hs) (suc m) lt e =
    let later : has_second x hs ≡ true = second_some x hs m (omega arith) e in grind (arith, nat_tests)

module _ (row : List ℕ) (hs : List Pair) (items : List ℕ) (i j kept : ℕ) (up : RisesFrom 0 row) (vp : SecondsRise hs) (s : IsKeeping row hs items i j kept) (j' : ℕ) (at : i < length row) (j_is : j' ≤ length hs) (passed : (m : ℕ) → j ≤ m → m < j' → (get_or hs m (0, 0)).1 < get_or row i 0) where
  before : (m : ℕ) → m < j' → (get_or hs m (0, 0)).1 < get_or row i 0
  before m h = grind (arith, nat_tests, s.under)

  under_next : (m k : ℕ) → m < j' → i + 1 ≤ k → k < length row → (get_or hs m (0, 0)).1 < get_or row k 0
  under_next m k h le lt =
      let here : (get_or hs m (0, 0)).1 < get_or row i 0 = before m h in
      let far : get_or row i 0 < get_or row k 0 = rises_strictly 0 row i k up (omega arith) lt in omega arith

  more : filter (λ x. not (has_second x hs)) (take (i + 1) row) ≡ filter (λ x. not (has_second x hs)) (take i row) ++ cond (not (has_second (get_or row i 0) hs)) (get_or row i 0 ∷ []) []
  more = filter_more (λ x. not (has_second x hs)) row i 0 at

  -- a number that stays
  pub keeping_it : (j' < length hs → get_or row i 0 < (get_or hs j' (0, 0)).1) → IsKeeping row hs (set items kept (get_or row i 0)) (i + 1) j' (kept + 1)
  keeping_it above =
      let none : has_second (get_or row i 0) hs ≡ false = second_none (get_or row i 0) hs (λ m h. elim (cases_lt m j') [
        | inl lt ↦ let b : (get_or hs m (0, 0)).1 < get_or row i 0 = before m lt in omega arith
        | inr ge ↦ elim (cases_eq m j') [
          | inl e ↦ let a : get_or row i 0 < (get_or hs j' (0, 0)).1 = above (omega arith) in rw e (omega arith)
          | inr ne ↦
              let a : get_or row i 0 < (get_or hs j' (0, 0)).1 = above (omega arith) in
              let b : (get_or hs j' (0, 0)).1 < (get_or hs m (0, 0)).1 = seconds_rise hs vp j' m (omega arith) h in omega arith
        ]
      ]) in
      record {
        sized = length-set items kept (get_or row i 0) ∙ s.sized;
        front = omega (arith, s.front);
        looked = omega arith;
        passed = j_is;
        filtered =
            take_more_set items kept (get_or row i 0) (omega (arith, s.sized, s.front))
            ∙ ap (λ (xs : List ℕ). xs ++ get_or row i 0 ∷ []) s.filtered
            ∙ sym (more ∙ ap (λ b. filter (λ x. not (has_second x hs)) (take i row) ++ cond (not b) (get_or row i 0 ∷ []) []) none);
        same = λ m le lt. get_or-set_other items kept m (get_or row i 0) 0 (omega (arith, s.front)) ∙ s.same m (omega arith) lt;
        under = under_next;
      }

  -- a number that is taken out
  pub taking_it : j' < length hs → (get_or hs j' (0, 0)).1 ≡ get_or row i 0 → IsKeeping row hs items (i + 1) j' kept
  taking_it lt is = grind (arith, nat_tests, second_some, more, append-nil, under_next, s.sized, s.front, s.filtered, s.same)

-- several numbers that stay, one after another
module _ (row : List ℕ) (hs : List Pair) (items : List ℕ) (i j kept : ℕ) (up : RisesFrom 0 row) (vp : SecondsRise hs) (s : IsKeeping row hs items i j kept) where
  -- what is left rises
  pub keeping_rises : (a b : ℕ) → i ≤ a → a < b → b < length items → get_or items a 0 < get_or items b 0
  keeping_rises a b le lt h =
      let fits : b < length row = omega (arith, h, s.sized) in
      let order : get_or row a 0 < get_or row b 0 = rises_strictly 0 row a b up lt fits in
      omega (arith, order, s.same a le (omega arith), s.same b (omega arith) fits)

  absent : (k : ℕ) → i ≤ k → k < length row → (j < length hs → get_or row k 0 < (get_or hs j (0, 0)).1) → has_second (get_or row k 0) hs ≡ false
  absent k le lt below = grind (arith, nat_tests, second_none, below, seconds_rise, s.under)

  run_stays : (n : ℕ) → i + n ≤ length row → ((k : ℕ) → i ≤ k → k < i + n → has_second (get_or row k 0) hs ≡ false) → filter (λ x. not (has_second x hs)) (take (i + n) row) ≡ filter (λ x. not (has_second x hs)) (take i row) ++ take n (drop i items)
  run_stays zero fits none =
      let e : i + 0 ≡ i = omega arith in
      ap (λ k. filter (λ x. not (has_second x hs)) (take k row)) e ∙ sym (append-nil (filter (λ x. not (has_second x hs)) (take i row)))
  run_stays (suc n) fits none =
      let next : i + suc n ≡ (i + n) + 1 = omega arith in
      let one : suc n ≡ n + 1 = omega arith in
      let here : get_or (drop i items) n 0 ≡ get_or row (i + n) 0 = get_or-drop i items n 0 ∙ s.same (i + n) (omega arith) (omega arith) in
      let long : n < length (drop i items) = rw length-drop (omega (arith, s.sized)) in
      ap (λ k. filter (λ x. not (has_second x hs)) (take k row)) next
      ∙ filter_more (λ x. not (has_second x hs)) row (i + n) 0 (omega arith)
      ∙ ap (λ b. filter (λ x. not (has_second x hs)) (take (i + n) row) ++ cond (not b) (get_or row (i + n) 0 ∷ []) []) (none (i + n) (omega arith) (omega arith))
      ∙ ap (λ (xs : List ℕ). xs ++ get_or row (i + n) 0 ∷ []) (run_stays n (omega arith) (λ k le lt. none k le (omega arith)))
      ∙ append_assoc (filter (λ x. not (has_second x hs)) (take i row)) (take n (drop i items)) (get_or row (i + n) 0 ∷ [])
      ∙ ap (λ (xs : List ℕ). filter (λ x. not (has_second x hs)) (take i row) ++ xs) (ap (λ y. take n (drop i items) ++ y ∷ []) (sym here) ∙ sym (take_more (drop i items) n 0 long) ∙ ap (λ k. take k (drop i items)) (sym one))

  pub keeping_run : (place : ℕ) (after : List ℕ) → i ≤ place → place ≤ length row → ((k : ℕ) → i ≤ k → k < place → j < length hs → get_or row k 0 < (get_or hs j (0, 0)).1) → after ≡ paste items kept (drop i items) (place - i) → ((m : ℕ) → kept + (place - i) ≤ m → get_or after m 0 ≡ get_or items m 0) → IsKeeping row hs after place j (kept + (place - i))
  keeping_run place after le fits below is same = record {
    sized = ap (λ (xs : List ℕ). length xs) is ∙ length-paste items kept (drop i items) (place - i) (omega (arith, s.front, s.sized)) (rw length-drop (omega (arith, s.sized))) ∙ s.sized;
    front = omega (arith, s.front);
    looked = fits;
    passed = s.passed;
    filtered =
        ap (take (kept + (place - i))) is
        ∙ take-paste items kept (drop i items) (place - i) (omega (arith, s.front, s.sized)) (rw length-drop (omega (arith, s.sized)))
        ∙ ap (λ (xs : List ℕ). xs ++ take (place - i) (drop i items)) s.filtered
        ∙ sym (run_stays (place - i) (omega arith) (λ k ge lt. absent k ge (omega arith) (below k ge (omega arith))))
        ∙ ap (λ k. filter (λ x. not (has_second x hs)) (take k row)) whole;
    same = λ m ge lt. same m (omega (arith, s.front)) ∙ s.same m (omega arith) lt;
    under = λ m k h ge lt. s.under m k h (omega arith) lt;
  }
    where
      whole : i + (place - i) ≡ place
      whole = omega arith

  -- the second number at place j is below what is left
  pub keeping_past : j < length hs → (i < length row → (get_or hs j (0, 0)).1 < get_or row i 0) → IsKeeping row hs items i (j + 1) kept
  keeping_past lt above = record {
    sized = s.sized;
    front = s.front;
    looked = s.looked;
    passed = omega arith;
    filtered = s.filtered;
    same = s.same;
    under = λ m k h le fits. elim (cases_lt m j) [
      | inl early ↦ s.under m k early le fits
      | inr late ↦
          let e : m ≡ j = omega arith in
          let a : (get_or hs j (0, 0)).1 < get_or row i 0 = above (omega arith) in
          rw e (elim (cases_eq i k) [
            | inl same_k ↦ rw (sym same_k) a
            | inr ne ↦ let b : get_or row i 0 < get_or row k 0 = rises_strictly 0 row i k up (omega arith) fits in omega arith
          ])
    ];
  }
