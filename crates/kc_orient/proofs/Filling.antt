-- Filling the lists of out-neighbours, one vertex after another.
use Rattle.std.proofs.Common.{ℕ, suc, ◌+◌, ◌≤◌, ◌<◌, ◌≡◌, List, [], ◌∷◌, ◌++◌, length, get_or, map, refl, ap, sym, ◌∙◌, arith, subst, drop, length-append}
use Rattle.std.specs.List.{range_with_len, slice_range}
use Rattle.std.proofs.lemmas.Bool.{cases_eq}
use Rattle.std.proofs.lemmas.List.{length_push, get_or_push, take-append-le, take_all, drop_at, ext_get_or}
use Rattle.std.proofs.lemmas.List.FromFn.{get_or-map-range_with_len, length-map-range_with_len}
use Rattle.std.proofs.lemmas.Slice.{between_is}
use Rattle.std.proofs.Math.ListN.{get_or-append}
use Rattle.std.proofs.lemmas.Bool.Decides.{nat_tests}
use Rattle.kc_graph.specs.declared.limits.TheConstants.{MAX_VERTICES}
use Rattle.kc_graph.specs.Shape.{GraphShape, IsGraph}
use Rattle.kc_orient.specs.Shape.{out_neighbours, orientation, IsOriented}
use Rattle.kc_orient.specs.Layout.{list_at, shape_of, IsKept}
use Rattle.kc_orient.proofs.Upward.{is_oriented}
use Rattle.kc_orient.proofs.Arcs.{arcs}

-- the lists of the vertices below k are filled
pub record IsFilling (g : GraphShape) (x : List ℕ) (k : ℕ) (starts heads : List ℕ) : Type 0 where
  pub sized : length starts ≡ k + 1
  pub last : get_or starts k 0 ≡ length heads
  pub count : length heads ≡ arcs g.edges x k
  pub rising : (v : ℕ) → v < k → get_or starts v 0 ≤ get_or starts (v + 1) 0
  pub within : (v : ℕ) → v < k → get_or starts (v + 1) 0 ≤ length heads
  pub lists : (v : ℕ) → v < k → list_at starts heads v ≡ out_neighbours g x v

pub filling_first : (g : GraphShape) (x : List ℕ) → IsFilling g x 0 (0 ∷ []) []
unfolding arcs
filling_first g x = record {
  sized = refl;
  last = refl;
  count = refl;
  rising = λ v lt. absurd (omega arith);
  within = λ v lt. absurd (omega arith);
  lists = λ v lt. absurd (omega arith);
}

-- a list stays as it is where more is put at the end
kept : (starts heads more : List ℕ) (s e : ℕ) → e ≤ length heads → slice_range (heads ++ more) s e ≡ slice_range heads s e
kept starts heads more s e le = between_is (heads ++ more) s e ∙ ap (drop s) (take-append-le e heads more le) ∙ sym (between_is heads s e)

added : (heads more : List ℕ) → slice_range (heads ++ more) (length heads) (length (heads ++ more)) ≡ more
added heads more = between_is (heads ++ more) (length heads) (length (heads ++ more)) ∙ ap (drop (length heads)) (take_all (length (heads ++ more)) (heads ++ more) (omega arith)) ∙ drop_at heads more (length heads) refl

pub filling_more : (g : GraphShape) (x : List ℕ) (k : ℕ) (starts heads heads' : List ℕ) → IsFilling g x k starts heads → heads' ≡ heads ++ out_neighbours g x k → IsFilling g x (suc k) (starts ++ length heads' ∷ []) heads'
unfolding arcs
filling_more g x k starts heads heads' is e = record {
  sized = length_push starts _ ∙ omega (arith, is.sized);
  last = next;
  count = long ∙ omega (arith, is.count);
  rising = λ v lt. grind (arith, nat_tests, cases_eq v k, old, add_k, next, long, is.last, is.rising);
  within = λ v lt. grind (arith, nat_tests, cases_eq v k, add_k, next, old, long, is.within);
  lists = λ v lt. grind (arith, nat_tests, cases_eq v k, old, add_k, next, added, kept, is.last, is.within, is.lists);
}
  where
    long : length heads' ≡ length heads + length (out_neighbours g x k)
    long = ap length e ∙ length-append heads (out_neighbours g x k)

    add_k : k + 1 ≡ suc k
    add_k = omega arith

    old : (v : ℕ) → v < k + 1 → get_or (starts ++ length heads' ∷ []) v 0 ≡ get_or starts v 0
    old v lt = get_or-append starts (length heads' ∷ []) 0 v (omega (arith, lt, is.sized))

    next : get_or (starts ++ length heads' ∷ []) (suc k) 0 ≡ length heads'
    next = get_or_push starts (length heads') 0 (suc k) (omega (arith, is.sized))

-- what is filled is seen as the orientation, and kept
pub filled_shape : (g : GraphShape) (x starts heads : List ℕ) → length x ≡ g.vertices → IsFilling g x g.vertices starts heads → shape_of x starts heads ≡ orientation g x
filled_shape g x starts heads sized is = ap (λ (outs : List (List ℕ)). record { levels = x; outs = outs }) same
  where
    same : map (list_at starts heads) (range_with_len 0 (length x)) ≡ map (out_neighbours g x) (range_with_len 0 g.vertices)
    same = rw sized (ext_get_or [] (map (list_at starts heads) (range_with_len 0 g.vertices)) (map (out_neighbours g x) (range_with_len 0 g.vertices))
        (length-map-range_with_len (list_at starts heads) 0 g.vertices ∙ sym (length-map-range_with_len (out_neighbours g x) 0 g.vertices))
        (λ v h. let below : v < g.vertices = omega (arith, h, length-map-range_with_len (list_at starts heads) 0 g.vertices) in
        get_or-map-range_with_len (list_at starts heads) 0 g.vertices v v [] below (omega arith) ∙ is.lists v below ∙ sym (get_or-map-range_with_len (out_neighbours g x) 0 g.vertices v v [] below (omega arith))))

pub filled_kept : (g : GraphShape) (x starts heads : List ℕ) → IsGraph g → length x ≡ g.vertices → g.vertices ≤ MAX_VERTICES → IsFilling g x g.vertices starts heads → IsKept x starts heads
filled_kept g x starts heads graph sized small is = record {
  sized = is.sized ∙ omega (arith, sized);
  rising = λ v h. is.rising v (omega (arith, h, sized));
  within = λ v h. is.within v (omega (arith, h, sized));
  oriented = subst IsOriented (sym (filled_shape g x starts heads sized is)) (is_oriented g x graph sized small);
}
