-- Some vertices of one level come to the next.
use Rattle.std.proofs.Common.{ℕ, ◌+◌, ◌≤◌, ◌<◌, ◌≡◌, ◌≢◌, inl, inr, true, false, List, [], ◌∷◌, ◌++◌, length, get_or, set, refl, ap, sym, ◌∙◌, arith}
use Rattle.std.proofs.lemmas.Bool.{cases_Bool, true≢false}
use Rattle.std.proofs.lemmas.Bool.Decides.{nat_tests}
use Rattle.std.proofs.lemmas.List.{length-set, get_or-set_same, get_or-set_other}
use Rattle.kc_graph.specs.Numbers.{has_number}
use Rattle.kc_graph.proofs.lemmas.Numbers.{has_number_at, has_number_index, has_number-push}
use Rattle.kc_levels.specs.Following.{AreDistinct}
use Rattle.kc_levels.proofs.lemmas.Moves.{distinct_push}
use Rattle.kc_insert.specs.private.Rising.{all_at}
use Rattle.kc_insert.proofs.Buckets.{pushed_is, has_last}

pub length-all_at : (y vs : List ℕ) (k : ℕ) → length (all_at y vs k) ≡ length y
length-all_at y [] k = refl
length-all_at y (v ∷ vs) k = length-all_at (set y v k) vs k ∙ length-set y v k

pub all_at_other : (y vs : List ℕ) (k u : ℕ) → has_number u vs ≡ false → get_or (all_at y vs k) u 0 ≡ get_or y u 0
all_at_other y [] k u none = refl
all_at_other y (v ∷ vs) k u none = grind (arith, nat_tests, all_at_other (set y v k) vs k u (grind (arith, nat_tests, none)), true≢false, get_or-set_other)

pub all_at_here : (y vs : List ℕ) (k u : ℕ) → u < length y → has_number u vs ≡ true → get_or (all_at y vs k) u 0 ≡ k
all_at_here y [] k u inside there = absurd (true≢false (sym there))
all_at_here y (v ∷ vs) k u inside there = elim (cases_Bool (has_number u vs)) [
  | inl later ↦ all_at_here (set y v k) vs k u (rw (length-set y v k) inside) later
  | inr gone ↦ grind (arith, nat_tests, all_at_other, get_or-set_same, gone)
]

pub all_at-push : (y vs : List ℕ) (k v : ℕ) → all_at y (vs ++ v ∷ []) k ≡ set (all_at y vs k) v k
all_at-push y [] k v = refl
all_at-push y (w ∷ vs) k v = all_at-push (set y w k) vs k v

-- of the vertices in the list, all of which are on the level l by y, those before the place i came to the next, each once
pub record IsLiftingOff (y vertices : List ℕ) (l i : ℕ) (z lifted : List ℕ) : Type 0 where
  pub levels : z ≡ all_at y lifted (l + 1)
  pub distinct : AreDistinct lifted
  pub from : (u : ℕ) → has_number u lifted ≡ true → has_number u vertices ≡ true
  pub done : (j : ℕ) → j < i → has_number (get_or vertices j 0) lifted ≡ true

pub lifting_first : (y vertices : List ℕ) (l : ℕ) → IsLiftingOff y vertices l 0 y []
lifting_first y vertices l = record {
  levels = refl;
  distinct = record {};
  from = λ u there. absurd (true≢false (sym there));
  done = λ j h. absurd (omega (arith, h));
}

module _ (y vertices : List ℕ) (l i : ℕ) (z lifted : List ℕ) (at : i < length vertices) (inside : (v : ℕ) → has_number v vertices ≡ true → v < length y) (here : (v : ℕ) → has_number v vertices ≡ true → get_or y v 0 ≡ l) (s : IsLiftingOff y vertices l i z lifted) where
  abbrev pub item : ℕ
  item = get_or vertices i 0

  listed : has_number item vertices ≡ true
  listed = has_number_at item vertices i at refl

  pub lifting_inside : item < length z
  lifting_inside = rw (s.levels, length-all_at y lifted (l + 1)) (inside item listed)

  up_to : (more : List ℕ) → ((u : ℕ) → has_number u lifted ≡ true → has_number u more ≡ true) → has_number item more ≡ true → (j : ℕ) → j < i + 1 → has_number (get_or vertices j 0) more ≡ true
  up_to more keeps last j h = grind (arith, nat_tests, s.done)

  -- it is on the level still
  pub lifting_comes : get_or z item 0 ≡ l → IsLiftingOff y vertices l (i + 1) (set z item (l + 1)) (lifted ++ item ∷ [])
  lifting_comes on = record {
    levels = ap (λ t. set t item (l + 1)) s.levels ∙ sym (all_at-push y lifted (l + 1) item);
    distinct = distinct_push lifted item s.distinct fresh;
    from = λ u there. elim (pushed_is u item lifted there) [ inl e ↦ ap (λ t. has_number t vertices) e ∙ listed | inr old ↦ s.from u old ];
    done = up_to (lifted ++ item ∷ []) (λ u there. has_number-push u item lifted ∙ grind (arith, nat_tests, there)) (has_last item lifted);
  }
    where
      fresh : has_number item lifted ≡ false
      fresh = grind (arith, nat_tests, all_at_here, listed, s.levels)

  -- it came to the next before
  pub lifting_stays : get_or z item 0 ≢ l → IsLiftingOff y vertices l (i + 1) z lifted
  lifting_stays off = record {
    levels = s.levels;
    distinct = s.distinct;
    from = s.from;
    done = grind (arith, nat_tests, up_to, all_at_other, listed, s.levels);
  }

pub lifting_same : (y vertices : List ℕ) (l i : ℕ) (z lifted : List ℕ) → length vertices ≤ i → IsLiftingOff y vertices l i z lifted → (v : ℕ) → has_number v lifted ≡ has_number v vertices
lifting_same y vertices l i z lifted end s v = grind (arith, nat_tests, listed, has_number_index, true≢false, s.done, s.from)
