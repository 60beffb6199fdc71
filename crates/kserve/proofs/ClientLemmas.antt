-- Clients that were opened, submit, and are taken in.
use Rattle.std.proofs.Common.{ℕ, ◌≡◌, ◌<◌, ◌+◌, List, [], ◌∷◌, ◌++◌, length, get_or, map, take, drop, refl, sym, ap, ◌∙◌, subst, arith, append_assoc}
use Rattle.std.specs.Prelude.{All}
use Rattle.std.specs.List.{range_with_len}
use Rattle.std.proofs.lemmas.List.{take-append-le, take_all, length-append, append-nil, nil_from_length}
use Rattle.std.proofs.lemmas.List.FromFn.{length-map-range_with_len, get_or-map-range_with_len}
use Rattle.kc_graph.specs.declared.items.Item.{Item}
use Rattle.kc_intake.specs.Views.{IntakeShape, ClientShape, new_client}
use Rattle.kserve.specs.private.Clients.{AreNew, HaveEnded}

-- clients as they are opened
pub opened : (intake : IntakeShape) (count : ℕ) (clients : List ClientShape) → clients ≡ map (new_client intake) (range_with_len 0 count) → AreNew intake count clients
opened intake count clients e = record {
  count_is = ap (λ (xs : List ClientShape). length xs) e ∙ length-map-range_with_len (new_client intake) 0 count;
  each = λ c d lt. ap (λ (xs : List ClientShape). get_or xs c d) e ∙ get_or-map-range_with_len (new_client intake) 0 count c c d lt (omega arith);
}

-- a list that was written through a slice of the whole
written : {A : Type 0} → (n : ℕ) (xs ys : List A) → n ≡ length xs → length ys ≡ length xs → take n (ys ++ drop (length ys) xs) ≡ ys
written n xs ys here same =
    let e : n ≡ length ys = here ∙ sym same in
    take-append-le n ys (drop (length ys) xs) (omega (arith, e)) ∙ take_all n ys (omega (arith, e))

pub all_ended : (intake : IntakeShape) (scripts : List (List Item)) (k : ℕ) (first slice new : List ClientShape) → slice ≡ first → length new ≡ length slice → length slice ≡ k → HaveEnded intake scripts new → HaveEnded intake scripts (take k (new ++ drop (length new) first))
all_ended intake scripts k first slice new same long size h =
    let both : length new ≡ length first = long ∙ ap (λ (xs : List ClientShape). length xs) same in
    let all : k ≡ length first = sym size ∙ ap (λ (xs : List ClientShape). length xs) same in
    subst (λ (xs : List ClientShape). HaveEnded intake scripts xs) (sym (written k first new all both)) h

at_end : {A : Type 0} → (xs : List A) (x : A) (ys : List A) (d : A) → get_or (xs ++ x ∷ ys) (length xs) d ≡ x
at_end [] x ys d = refl
at_end (z ∷ zs) x ys d = at_end zs x ys d

-- one item was taken of those that are left
pub moved_over : {A : Type 0} → (all past rest later : List A) (x : A) → past ++ rest ≡ all → rest ≡ x ∷ later → (past ++ x ∷ []) ++ later ≡ all
moved_over all past rest later x e f = append_assoc past (x ∷ []) later ∙ (ap (λ zs. past ++ zs) (sym f) ∙ e)

-- all items were taken
pub all_over : {A : Type 0} → (all past rest : List A) → past ++ rest ≡ all → length rest ≡ 0 → past ≡ all
all_over all past rest e none = sym (append-nil past) ∙ (ap (λ zs. past ++ zs) (sym (nil_from_length rest none)) ∙ e)

-- what is true of all items is true of the next
pub next_of_all : {A : Type 0} → (P : A → Type 0) (all past rest later : List A) (x : A) → All P all → past ++ rest ≡ all → rest ≡ x ∷ later → P x
next_of_all P all past rest later x every e f =
    let whole : past ++ x ∷ later ≡ all = ap (λ zs. past ++ zs) (sym f) ∙ e in
    let size : length past < length all = (let z = ap (λ zs. length zs) whole in let y = length-append past (x ∷ later) in omega (arith, z, y)) in
    let here : get_or all (length past) x ≡ x = ap (λ zs. get_or zs (length past) x) (sym whole) ∙ at_end past x later x in
    subst P here (every (length past) x size)
