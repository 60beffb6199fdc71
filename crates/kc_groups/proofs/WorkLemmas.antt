-- Tables with a number for each vertex, in which the numbers of the movers are written one after another.
use Rattle.std.proofs.Common.{ℕ, ◌+◌, ◌<◌, ◌≡◌, inl, inr, List, length, get_or, set, replicate, ap, sym, ◌∙◌, arith}
use Rattle.std.proofs.lemmas.Bool.{cases_Bool, true≢false}
use Rattle.std.proofs.lemmas.List.{length-map, length-replicate, get_or-map, get_or-set_same, get_or-set_other, get_or-replicate}
use Rattle.std.proofs.lemmas.Grind.{same_number_lists, common_steps}
use Rattle.std.proofs.lemmas.Bool.Decides.{nat_tests}
use Rattle.kc_graph.specs.Numbers.{RisesFrom, AllBelow, has_number}
use Rattle.kc_graph.proofs.lemmas.Numbers.{all_from_below, has_number_at, has_number_index}
use Rattle.kc_levels.specs.declared.moves.Move.{Move}
use Rattle.kc_groups.specs.Gathering.{vertices, clean}
use Rattle.kc_groups.specs.private.Gathering.{HaveNone}
use Rattle.kc_groups.proofs.ListLemmas.{rises_apart}

-- what a read past the end of a list of moves gives
abbrev pub no_move : Move
no_move = record { vertex = 0; old = 0; new = 0 }

pub vertex_at : (ms : List Move) (i : ℕ) → i < length ms → (get_or ms i no_move).vertex ≡ get_or (vertices ms) i 0
vertex_at ms i h = sym (get_or-map (λ (m : Move). m.vertex) ms i no_move 0 h)

pub many : (ms : List Move) → length (vertices ms) ≡ length ms
many ms = length-map ms (λ (m : Move). m.vertex)

pub vertex_inside : (n : ℕ) (ms : List Move) (i : ℕ) → AllBelow n (vertices ms) → i < length ms → (get_or ms i no_move).vertex < n
vertex_inside n ms i below h = omega (arith, vertex_at ms i h, all_from_below n (vertices ms) below i 0 (omega (arith, many ms, h)))

module _ (n : ℕ) (vs ps : List ℕ) (k v u : ℕ) (rises : RisesFrom 0 vs) (h : k < length vs) (is : v ≡ get_or vs k 0) (low : v < length ps) where
  -- a number of a mover is written
  pub keeps_none : HaveNone n vs ps → HaveNone n vs (set ps v u)
  keeps_none none w hw out = get_or-set_other ps v w u 0 (λ e. true≢false (sym (has_number_at w vs k h (sym is ∙ sym e)) ∙ out)) ∙ none w hw out

  pub keeps_at : (f : ℕ → ℕ) → ((i : ℕ) → i < k → get_or ps (get_or vs i 0) 0 ≡ f i) → u ≡ f k → (i : ℕ) → i < k + 1 → get_or (set ps v u) (get_or vs i 0) 0 ≡ f i
  keeps_at f before now i lt = grind (arith, nat_tests, common_steps, get_or-set_same, get_or-set_other, rises_apart)

-- where no mover has a number either the table is clean
pub cleaned : (n : ℕ) (vs ps : List ℕ) → length ps ≡ n → HaveNone n vs ps → ((i : ℕ) → i < length vs → get_or ps (get_or vs i 0) 0 ≡ n) → ps ≡ clean n
cleaned n vs ps sized none at =
    same_number_lists ps (replicate n n) (sized ∙ sym (length-replicate n n))
    (λ v h. all v (omega (arith, h, sized)) ∙ sym (get_or-replicate n v n 0 (omega (arith, h, sized))))
  where
    all : (v : ℕ) → v < n → get_or ps v 0 ≡ n
    all v h = elim (cases_Bool (has_number v vs)) [
      | inl there ↦
          let place = has_number_index v vs there in
          ap (λ w. get_or ps w 0) (sym place.2) ∙ at place.0 place.1
      | inr out ↦ none v h out
    ]

pub clean_none : (n : ℕ) (vs ps : List ℕ) → ps ≡ clean n → HaveNone n vs ps
clean_none n vs ps is v h out = ap (λ qs. get_or qs v 0) is ∙ get_or-replicate n v n 0 h
