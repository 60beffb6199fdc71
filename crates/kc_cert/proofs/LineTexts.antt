-- Lines as they are put together, and as their definitions have them.
use Rattle.std.proofs.Common.{ℕ, suc, ◌+◌, ◌<◌, ◌≤◌, ◌≡◌, true, List, [], ◌∷◌, ◌++◌, length, drop, get_or, map, refl, sym, ap, ◌∙◌, arith, append_assoc, add-one, drop-cons}
use Rattle.std.specs.Prelude.{decimal, codes, nat_lt}
use Rattle.std.proofs.lemmas.List.{append-nil}
use Rattle.std.proofs.lemmas.List.Concat.{flat_map-append}
use Rattle.std.proofs.lemmas.Bool.Decides.{nat_tests}
use Rattle.std.proofs.Math.ListN.{drop_of_length-le}
use Rattle.kc_graph.specs.Shape.{GraphShape}
use Rattle.kc_levels.specs.declared.profile.Profile.{Profile}
use Rattle.kc_text.specs.Printing.{printed_line, printed}
use Rattle.kc_cert.specs.Texts.{profile_word, head_lines, edge_line, level_lines, end_lines, certificate_text}
use Rattle.kc_cert.specs.private.Texts.{row_lines}

pub printed_append : (xs ys : List (List (List ℕ))) → printed (xs ++ ys) ≡ printed xs ++ printed ys
unfolding printed
printed_append xs ys = flat_map-append printed_line xs ys

pub printed_none : printed [] ≡ []
unfolding printed
printed_none = refl

-- the four lines ahead of the edges, as they are put together
pub head_is : (p : Profile) (g : GraphShape) (profile : List ℕ) (n count : ℕ) → profile ≡ codes "profile " ++ profile_word p → n ≡ g.vertices → count ≡ length g.edges
    → printed (head_lines p g) ≡ (codes "kcore-cert 1" ++ 10 ∷ []) ++ ((profile ++ 10 ∷ []) ++ (((codes "vertices " ++ decimal n) ++ 10 ∷ []) ++ ((codes "edges " ++ decimal count) ++ 10 ∷ [])))
unfolding printed
head_is p g profile n count p_is n_is count_is = rw (p_is, n_is, count_is) (simp (append_assoc, append-nil) refl)

-- a line of a name and two numbers, and what follows it
regrouped : (name blank a b feed rest : List ℕ) → ((name ++ (blank ++ (a ++ (blank ++ b)))) ++ feed) ++ rest ≡ (((((name ++ blank) ++ a) ++ blank) ++ b) ++ feed) ++ rest
regrouped name blank a b feed rest = simp append_assoc

-- an edge of v and the rest of its row
pub row_rest : (v i : ℕ) (row : List ℕ) → i < length row → v < get_or row i 0
    → printed (row_lines v (drop i row)) ≡ ((((codes "edge " ++ decimal v) ++ codes " ") ++ decimal (get_or row i 0)) ++ 10 ∷ []) ++ printed (row_lines v (drop (i + 1) row))
unfolding printed
row_rest v i row h lt =
    let greater : nat_lt v (get_or row i 0) ≡ true = grind (arith, nat_tests, lt) in
    rw (add-one, drop-cons row i 0 h, greater) (regrouped (codes "edge") (32 ∷ []) (decimal v) (decimal (get_or row i 0)) (10 ∷ []) (printed (row_lines v (drop (suc i) row))))

pub row_end : (v i : ℕ) (row : List ℕ) → length row ≤ i → printed (row_lines v (drop i row)) ≡ []
unfolding printed
row_end v i row h = rw drop_of_length-le refl

-- the level of v and the levels after it
pub level_rest : (v second : ℕ) (levels : List ℕ) → v < length levels → second ≡ get_or levels v 0
    → printed (level_lines v (drop v levels)) ≡ ((((codes "level " ++ decimal v) ++ codes " ") ++ decimal second) ++ 10 ∷ []) ++ printed (level_lines (v + 1) (drop (v + 1) levels))
unfolding printed level_lines
level_rest v second levels h e =
    let here : printed (level_lines v (drop v levels)) ≡ printed_line (codes "level" ∷ decimal v ∷ decimal (get_or levels v 0) ∷ []) ++ printed (level_lines (v + 1) (drop (v + 1) levels)) =
    ap (λ (ls : List ℕ). printed (level_lines v ls)) (drop-cons levels v 0 h) ∙ ap (λ (k : ℕ). printed_line (codes "level" ∷ decimal v ∷ decimal (get_or levels v 0) ∷ []) ++ printed (level_lines (v + 1) (drop k levels))) (sym (add-one v)) in
    here ∙ rw e (regrouped (codes "level") (32 ∷ []) (decimal v) (decimal (get_or levels v 0)) (10 ∷ []) (printed (level_lines (v + 1) (drop (v + 1) levels))))

pub level_end : (v : ℕ) (levels : List ℕ) → length levels ≤ v → printed (level_lines v (drop v levels)) ≡ []
unfolding printed level_lines
level_end v levels h = rw drop_of_length-le refl

printed_end : printed end_lines ≡ codes "end" ++ 10 ∷ []
unfolding printed
printed_end = refl

-- the parts of a certificate
pub certificate_is : (p : Profile) (g : GraphShape) (x : List ℕ)
    → certificate_text (record { profile = p; graph = g; levels = x }) ≡ printed (head_lines p g) ++ (printed (map edge_line g.edges) ++ (printed (level_lines 0 x) ++ (codes "end" ++ 10 ∷ [])))
certificate_is p g x =
    printed_append (head_lines p g) (map edge_line g.edges ++ (level_lines 0 x ++ end_lines))
    ∙ ap (λ (t : List ℕ). printed (head_lines p g) ++ t) (printed_append (map edge_line g.edges) (level_lines 0 x ++ end_lines)
    ∙ ap (λ (t : List ℕ). printed (map edge_line g.edges) ++ t) (printed_append (level_lines 0 x) end_lines ∙ ap (λ (t : List ℕ). printed (level_lines 0 x) ++ t) printed_end))
