-- Colouring one vertex after another, from the greatest level down and on one level from the greatest vertex down.
use Rattle.std.proofs.Common.{ℕ, suc, ◌+◌, ◌≤◌, ◌<◌, ◌≡◌, ◌≢◌, inl, inr, true, List, [], length, get_or, set, replicate, refl, ap, sym, ◌∙◌, arith}
use Rattle.std.proofs.lemmas.Bool.{cases_eq, cases_lt, true≢false}
use Rattle.std.proofs.lemmas.List.{get_or-set_same, get_or-set_other, get_or-replicate, get_or_past}
use Rattle.std.proofs.Math.ListN.{length-set, length-replicate}
use Rattle.std.proofs.lemmas.Bool.Decides.{nat_tests}
use Rattle.kc_graph.specs.Numbers.{has_number}
use Rattle.kc_orient.specs.Shape.{above, OrientationShape, IsOriented}
use Rattle.kc_orient.specs.Colouring.{IsLeastFree, IsColouring}
use Rattle.kc_orient.specs.private.Marks.{IsMarked}
use Rattle.kc_orient.specs.private.Descent.{IsNext, AreLinked, IsPassed, IsColouredTo}
use Rattle.kc_orient.proofs.Upward.{above_is, above_itself}
use Rattle.kc_orient.proofs.Colourings.{least_free_same}

-- before the first level nothing is coloured
pub coloured_none : (o : OrientationShape) (firsts nexts colours marks : List ℕ) (most : ℕ) → AreLinked o.levels firsts nexts → ((v : ℕ) → v < length o.levels → length (get_or o.outs v []) ≤ most) →
    colours ≡ replicate (length o.levels) 0 → marks ≡ replicate (most + 1) 0 → IsColouredTo o (length firsts) 0 colours marks
coloured_none o firsts nexts colours marks most linked few blank clean = record {
  sized = ap length blank ∙ length-replicate (length o.levels) 0;
  room = λ v h. omega (arith, few v h, long);
  fits = λ v h. let at : get_or colours v 0 ≡ 0 = ap (λ (xs : List ℕ). get_or xs v 0) blank ∙ get_or-replicate (length o.levels) v 0 0 h in omega (arith, at, long);
  least = λ v h passed. elim passed [ inl over ↦ absurd (omega (arith, over, linked.high v h)) | inr at ↦ absurd (omega (arith, at.0, linked.high v h)) ];
  marked = λ k v e. absurd (omega (arith, e, none k));
}
  where
    long : length marks ≡ most + 1
    long = ap length clean ∙ length-replicate (most + 1) 0

    none : (k : ℕ) → get_or marks k 0 ≡ 0
    none k = grind (arith, nat_tests, get_or-replicate, get_or_past, long)

-- on to the level below
pub coloured_down : (o : OrientationShape) (l n : ℕ) (colours marks : List ℕ) → n ≡ length o.levels → IsColouredTo o (suc l) 0 colours marks → IsColouredTo o l n colours marks
coloured_down o l n colours marks all is = record {
  sized = is.sized;
  room = is.room;
  fits = is.fits;
  least = λ v h passed. is.least v h (elim passed [ inl over ↦ higher v over | inr at ↦ absurd (omega (arith, at.1, h, all)) ]);
  marked = λ k v e. elim (is.marked k v e) [ inl over ↦ inl (omega (arith, over)) | inr at ↦ inl (omega (arith, at.0)) ];
}
  where
    higher : (v : ℕ) → l < get_or o.levels v 0 → IsPassed o.levels (suc l) 0 v
    higher v over = elim (cases_lt (suc l) (get_or o.levels v 0)) [ inl lt ↦ inl lt | inr ge ↦ inr (omega (arith, over, ge), omega arith) ]

-- on to the next vertex of the level
pub coloured_skip : (o : OrientationShape) (l m r : ℕ) (colours marks : List ℕ) → IsNext o.levels l m r → IsColouredTo o l m colours marks → IsColouredTo o l r colours marks
coloured_skip o l m r colours marks next is = record {
  sized = is.sized;
  room = is.room;
  fits = is.fits;
  least = λ v h passed. grind (arith, nat_tests, is.least, next.none);
  marked = λ k v e. elim (is.marked k v e) [ inl over ↦ inl over | inr at ↦ inr (at.0, omega (arith, at.1, next.within)) ];
}

-- no mark is the stamp of a vertex that is not coloured yet
pub stamp_is_fresh : (o : OrientationShape) (l v : ℕ) (colours marks : List ℕ) → IsColouredTo o l (suc v) colours marks → get_or o.levels v 0 ≡ l → (k : ℕ) → get_or marks k 0 ≢ suc v
stamp_is_fresh o l v colours marks is at k e = elim (is.marked k v e) [ inl over ↦ absurd (omega (arith, over, at)) | inr past ↦ absurd (omega (arith, past.1)) ]

-- the vertex v gets its colour
pub coloured_here : (o : OrientationShape) (l v r : ℕ) (colours old new : List ℕ) → IsOriented o → v < length o.levels → get_or o.levels v 0 ≡ l → IsColouredTo o l (suc v) colours old →
    IsLeastFree (get_or o.outs v []) colours r → r ≤ length (get_or o.outs v []) → IsMarked (suc v) old new → IsColouredTo o l v (set colours v r) new
coloured_here o l v r colours old new oriented h at is free few stamped = record {
  sized = length-set colours v r ∙ is.sized;
  room = λ u below. omega (arith, is.room u below, stamped.sized);
  fits = λ u below. grind (arith, nat_tests, cases_eq u v, now, get_or-set_other, is.room, stamped.sized, is.fits);
  least = λ u below passed. elim (cases_eq u v) [
    | inl same ↦ rw (same, now) (least_free_same (get_or o.outs v []) colours (set colours v r) r (λ w near. get_or-set_other colours v w r 0 (λ e. itself w near e)) free)
    | inr ne ↦ rw (get_or-set_other colours v u r 0 ne) (least_free_same (get_or o.outs u []) colours (set colours v r) (get_or colours u 0) (λ w near. get_or-set_other colours v w r 0 (λ e. earlier u w ne passed near e)) (is.least u below (before u ne passed)))
  ];
  marked = λ k u e. grind (arith, nat_tests, stamped.each, is.marked);
}
  where
    now : get_or (set colours v r) v 0 ≡ r
    now = get_or-set_same colours v r 0 (omega (arith, is.sized, h))

    itself : (w : ℕ) → has_number w (get_or o.outs v []) ≡ true → w ≢ v
    itself w near e = true≢false (sym (oriented.upward v w near) ∙ ap (above o.levels v) e ∙ above_itself o.levels v)

    before : (u : ℕ) → u ≢ v → IsPassed o.levels l v u → IsPassed o.levels l (suc v) u
    before u ne passed = elim passed [ inl over ↦ inl over | inr past ↦ inr (past.0, omega (arith, past.1, ne)) ]

    earlier : (u w : ℕ) → u ≢ v → IsPassed o.levels l v u → has_number w (get_or o.outs u []) ≡ true → w ≢ v
    earlier u w ne passed near e = grind (arith, nat_tests, above_is, oriented.upward)

pub coloured_all : (o : OrientationShape) (colours marks : List ℕ) → IsOriented o → IsColouredTo o 0 0 colours marks → IsColouring o.outs colours
coloured_all o colours marks oriented is = record {
  sized = is.sized ∙ sym oriented.sized;
  least = λ v h. is.least v (omega (arith, h, oriented.sized)) (elim (cases_lt 0 (get_or o.levels v 0)) [ inl lt ↦ inl lt | inr ge ↦ inr (omega (arith, ge), omega arith) ]);
}

-- what colouring a level keeps, when `next` is one more than the next vertex, or 0
pub record IsColouringLevel (o : OrientationShape) (l next : ℕ) (colours marks : List ℕ) : Type 0 where
  pub within : next ≤ length o.levels
  pub here : (v : ℕ) → next ≡ suc v → get_or o.levels v 0 ≡ l
  pub coloured : IsColouredTo o l next colours marks

pub level_more : (o : OrientationShape) (l v next r : ℕ) (firsts nexts colours old new : List ℕ) → IsOriented o → AreLinked o.levels firsts nexts → next ≡ get_or nexts v 0 → IsColouringLevel o l (suc v) colours old →
    IsLeastFree (get_or o.outs v []) colours r → r ≤ length (get_or o.outs v []) → IsMarked (suc v) old new → IsColouringLevel o l next (set colours v r) new
level_more o l v next r firsts nexts colours old new oriented linked at is free few stamped =
    let h : v < length o.levels = is.within in
    let here = is.here v refl in
    let following = rw (← at, here) at (linked.next v h) in
    record {
      within = omega (arith, following.within, h);
      here = following.here;
      coloured = coloured_skip o l v next (set colours v r) new following (coloured_here o l v r colours old new oriented h here is.coloured free few stamped);
    }
