-- Marking the colours of a list of vertices, and the least colour that is not marked.
use Rattle.std.proofs.Common.{ℕ, suc, ◌≤◌, ◌<◌, ◌≡◌, ◌≢◌, inl, inr, true, List, [], ◌∷◌, ◌++◌, length, get_or, take, set, ap, sym, ◌∙◌, arith, add-one}
use Rattle.std.proofs.lemmas.Bool.{cases_eq}
use Rattle.std.proofs.lemmas.Bool.Decides.{nat_tests}
use Rattle.std.proofs.lemmas.List.{get_or-set_same, get_or-set_other, take_more, take_all}
use Rattle.std.proofs.Math.ListN.{length-set}
use Rattle.kc_graph.specs.Numbers.{has_number}
use Rattle.kc_graph.proofs.lemmas.Numbers.{has_number-push, has_number_at}
use Rattle.kc_orient.specs.private.Marks.{IsMarked}
use Rattle.kc_orient.proofs.Pigeons.{pigeons}

-- the colours of the first i vertices are marked by the stamp, and the others as before
pub record IsMarking (vertices colours : List ℕ) (stamp i : ℕ) (old new : List ℕ) : Type 0 where
  pub marked : IsMarked stamp old new
  pub all : (w : ℕ) → has_number w (take i vertices) ≡ true → get_or new (get_or colours w 0) 0 ≡ stamp
  pub only : (k : ℕ) → k < length old → get_or new k 0 ≡ stamp → (w : ℕ) × (has_number w vertices ≡ true) × (get_or colours w 0 ≡ k)

pub marking_more : (vertices colours : List ℕ) (stamp i w k : ℕ) (old new : List ℕ) → IsMarking vertices colours stamp i old new → i < length vertices → w ≡ get_or vertices i 0 → k ≡ get_or colours w 0 → k < length new → IsMarking vertices colours stamp (suc i) old (set new k stamp)
marking_more vertices colours stamp i w k old new is h w_is k_is room = record {
  marked = record {
    sized = length-set new k stamp ∙ is.marked.sized;
    each = λ j. grind (arith, nat_tests, cases_eq j k, now, get_or-set_other, is.marked.each);
  };
  all = λ u at. grind (arith, nat_tests, cases_eq (get_or colours u 0) k, now, get_or-set_other, before, is.all);
  only = λ j below e. grind (arith, nat_tests, cases_eq j k, has_number_at, get_or-set_other, is.only);
}
  where
    now : get_or (set new k stamp) k 0 ≡ stamp
    now = get_or-set_same new k stamp 0 room

    before : (u : ℕ) → w ≢ u → has_number u (take (suc i) vertices) ≡ true → has_number u (take i vertices) ≡ true
    before u ne at =
        let step : take (suc i) vertices ≡ take i vertices ++ w ∷ [] = rw (← add-one, w_is) (take_more vertices i 0 h) in
        grind (arith, nat_tests, ne, has_number-push u w (take i vertices), ap (has_number u) (sym step) ∙ at)

pub record IsMarkedAll (vertices colours marks : List ℕ) (stamp : ℕ) : Type 0 where
  pub all : (w : ℕ) → has_number w vertices ≡ true → get_or marks (get_or colours w 0) 0 ≡ stamp
  pub only : (k : ℕ) → k < length marks → get_or marks k 0 ≡ stamp → (w : ℕ) × (has_number w vertices ≡ true) × (get_or colours w 0 ≡ k)

pub marking_all : (vertices colours : List ℕ) (stamp i : ℕ) (old new : List ℕ) → IsMarking vertices colours stamp i old new → length vertices ≤ i → IsMarkedAll vertices colours new stamp
marking_all vertices colours stamp i old new is le = record {
  all = λ w at. is.all w (rw (take_all i vertices le) at);
  only = λ k h. is.only k (rw (← is.marked.sized) h);
}

-- if the first k + 1 marks are the stamp, there are at least k + 1 vertices
pub marks_few : (vertices colours marks : List ℕ) (stamp k : ℕ) → IsMarkedAll vertices colours marks stamp → k ≤ length vertices → length vertices < length marks → ((j : ℕ) → j < k → get_or marks j 0 ≡ stamp) → get_or marks k 0 ≡ stamp → suc k ≤ length vertices
marks_few vertices colours marks stamp k is le room below here = pigeons (λ w. get_or colours w 0) (suc k) vertices (λ j lt. is.only j (omega arith) (each j lt))
  where
    each : (j : ℕ) → j < suc k → get_or marks j 0 ≡ stamp
    each j lt = elim (cases_eq j k) [ inl same ↦ rw same here | inr ne ↦ below j (omega (arith, ne)) ]
