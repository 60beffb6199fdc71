-- Texts that are written one after another, and the lines of phases and groups as they are put together.
use Rattle.std.proofs.Common.{ℕ, suc, zero, ◌+◌, ◌<◌, ◌≡◌, List, [], ◌∷◌, ◌++◌, length, get_or, take, drop, map, refl, ap, sym, ◌∙◌, arith, append_assoc, add-one, rules, subst, take-append-drop}
use Rattle.std.specs.Prelude.{Option, Some, decimal, codes, All, IsSome}
use Rattle.std.specs.List.{join_with_byte, flat_map}
use Rattle.std.specs.Io.KnownBytes.{append_known}
use Rattle.std.proofs.lemmas.Grind.{flat_map-append}
use Rattle.std.proofs.lemmas.List.{append-nil}
use Rattle.std.proofs.lemmas.List.Elements.{All-cons, All-nil}
use Rattle.std.proofs.lemmas.Bool.Decides.{nat_tests}
use Rattle.kc_text.specs.Printing.{printed_line}
use Rattle.kc_text.specs.Writing.{IsPrefix}
use Rattle.kc_text.proofs.lemmas.Writing.{append_twice, prefix_longer, prefix_then}
use Rattle.kc_history.specs.declared.entries.Entry.{Entry}
use Rattle.kc_levels.specs.declared.moves.Move.{Move}
use Rattle.kc_groups.specs.declared.plans.PhasePlan.{PhasePlan}
use Rattle.kc_groups.specs.WellFormed.{IsWellFormed}
use Rattle.kc_report.specs.private.HeldBack.{IsHeldBack}
use Rattle.kc_report.proofs.VertexLemmas.{held_then}
use Rattle.kc_report.specs.Lines.{direction_word, phase_line, member_word, label_word, group_line}

-- the texts of a list, split after the one at place i
record IsSplit {A : Type 0} (f : A → List ℕ) (xs : List A) (i : ℕ) (d : A) : Type 0 where
  behind : List ℕ
  here : flat_map f (take (suc i) xs) ≡ flat_map f (take i xs) ++ f (get_or xs i d)
  all : flat_map f xs ≡ flat_map f (take (suc i) xs) ++ behind

split_at : {A : Type 0} (f : A → List ℕ) (xs : List A) (i : ℕ) (d : A) → i < length xs → IsSplit f xs i d
split_at f [] i d h = absurd (omega arith)
split_at f (x ∷ xs) zero d h = record { behind = flat_map f xs; here = append-nil (f x); all = ap (λ (t : List ℕ). t ++ flat_map f xs) (sym (append-nil (f x))) }
split_at f (x ∷ xs) (suc i) d h = grind (arith, nat_tests, split_at f xs i d (omega arith), append_assoc)

-- a text was written, and none of those after it
pub none_after : (before now : Option (List ℕ)) (lead : List ℕ) → now ≡ append_known before lead → now ≡ append_known before (lead ++ [])
none_after before now lead e = rw append-nil e

-- after a first text one more was written
pub more_after : {A : Type 0} (lead : List ℕ) (f : A → List ℕ) (xs : List A) (i : ℕ) (d x : A) (before now later : Option (List ℕ)) → i < length xs → x ≡ get_or xs i d → now ≡ append_known before (lead ++ flat_map f (take i xs)) → later ≡ append_known now (f x) → later ≡ append_known before (lead ++ flat_map f (take (i + 1) xs))
more_after lead f xs i d x before now later h is e t =
    let s = split_at f xs i d h in
    let here = append_assoc lead (flat_map f (take i xs)) (f (get_or xs i d)) in
    rw (add-one, s.here, sym here) (append_twice before now later (lead ++ flat_map f (take i xs)) (f (get_or xs i d)) e (t ∙ ap (λ y. append_known now (f y)) is))

-- after a first text some were written, and a prefix of the next
pub prefix_after : {A : Type 0} (lead : List ℕ) (f : A → List ℕ) (xs : List A) (i : ℕ) (d x : A) (before now later : Option (List ℕ)) → i < length xs → x ≡ get_or xs i d → now ≡ append_known before (lead ++ flat_map f (take i xs)) → IsPrefix now later (f x) → IsPrefix before later (lead ++ flat_map f xs)
prefix_after lead f xs i d x before now later h is e t =
    let s = split_at f xs i d h in
    let next = subst (λ y. IsPrefix now later (f y)) is t in
    let here = append_assoc lead (flat_map f (take i xs)) (f (get_or xs i d)) in
    let all = append_assoc lead (flat_map f (take (suc i) xs)) s.behind in
    rw (s.all, sym all) (prefix_longer before later (lead ++ flat_map f (take (suc i) xs)) s.behind (rw (s.here, sym here) (prefix_then before now later (lead ++ flat_map f (take i xs)) (f (get_or xs i d)) e next)))

-- one more member was put together
pub members_more : {A : Type 0} (f : A → List ℕ) (xs : List A) (i : ℕ) (d : A) (old buffer more : List ℕ) → i < length xs → buffer ≡ old ++ flat_map f (take i xs) → more ≡ buffer ++ f (get_or xs i d) → more ≡ old ++ flat_map f (take (i + 1) xs)
members_more f xs i d old buffer more h e t =
    let s = split_at f xs i d h in
    rw (add-one, s.here) (t ∙ ap (λ (b : List ℕ). b ++ f (get_or xs i d)) e ∙ append_assoc old (flat_map f (take i xs)) (f (get_or xs i d)))

-- after a first text some were written or held back, and one more is held back
pub held_after : {A : Type 0} (lead : List ℕ) (f : A → List ℕ) (xs : List A) (i : ℕ) (d x : A) (before now : Option (List ℕ)) (old new : List ℕ) → i < length xs → x ≡ get_or xs i d
    → IsHeldBack before now (lead ++ flat_map f (take i xs)) old → new ≡ old ++ f x → IsHeldBack before now (lead ++ flat_map f (take (i + 1) xs)) new
held_after lead f xs i d x before now old new h is a e =
    let same : a.said ++ new ≡ (lead ++ flat_map f (take i xs)) ++ f (get_or xs i d) = rw (e, a.all) (sym (append_assoc a.said old (f x)) ∙ ap (λ y. (a.said ++ old) ++ f y) is) in
    record { said = a.said; all = sym (members_more f xs i d lead _ _ h refl same); taken = a.taken }

-- after a first text some were written or held back, and a prefix of what was held back was written
pub held_within : {A : Type 0} (lead : List ℕ) (f : A → List ℕ) (xs : List A) (i : ℕ) (before now later : Option (List ℕ)) (held : List ℕ)
    → IsHeldBack before now (lead ++ flat_map f (take i xs)) held → IsPrefix now later held → IsPrefix before later (lead ++ flat_map f xs)
held_within lead f xs i before now later held a b =
    let first = lead ++ flat_map f (take i xs) in
    let all : first ++ flat_map f (drop i xs) ≡ lead ++ flat_map f xs =
    append_assoc lead (flat_map f (take i xs)) (flat_map f (drop i xs)) ∙ ap (λ (t : List ℕ). lead ++ t) (sym (flat_map-append f (take i xs) (drop i xs))) ∙ ap (λ ys. lead ++ flat_map f ys) (take-append-drop i xs) in
    subst (λ text. IsPrefix before later text) all (prefix_longer before later first (flat_map f (drop i xs)) (held_then before now later first held a b))

-- words that are joined, each but the first with its blank
pub joined : {A : Type 0} (word : List ℕ) (f : A → List ℕ) (xs : List A) → join_with_byte 32 (word ∷ map f xs) ≡ word ++ flat_map (λ x. 32 ∷ f x) xs
joined word f [] = sym (append-nil word)
joined word f (x ∷ xs) = ap (λ (t : List ℕ). word ++ 32 ∷ t) (joined (f x) f xs)

phase_regrouped : (p b r q n s e : List ℕ) → ((((p ++ s) ++ b) ++ ((s ++ r) ++ (s ++ (q ++ s)))) ++ n) ++ e ≡ (p ++ (s ++ (b ++ (s ++ (r ++ (s ++ (q ++ (s ++ n)))))))) ++ e
phase_regrouped p b r q n s e = simp append_assoc

group_regrouped : (o p b l m s e : List ℕ) → (((o ++ p) ++ (s ++ (b ++ (s ++ l)))) ++ m) ++ e ≡ o ++ ((p ++ (s ++ (b ++ (s ++ (l ++ m))))) ++ e)
group_regrouped o p b l m s e = simp append_assoc

phase_parts : (phase quiet : ℕ) (direction old a word b : List ℕ) → old ≡ [] → a ≡ (old ++ codes "phase ") ++ decimal phase → word ≡ (codes " " ++ direction) ++ codes " quiet " → b ≡ (a ++ word) ++ decimal quiet
    → b ++ 10 ∷ [] ≡ printed_line (codes "phase" ∷ decimal phase ∷ direction ∷ codes "quiet" ∷ decimal quiet ∷ [])
phase_parts phase quiet direction old a word b z ea ew eb = rw (eb, ew, ea, z) (phase_regrouped (codes "phase") (decimal phase) direction (codes "quiet") (decimal quiet) (32 ∷ []) (10 ∷ []))

pub phase_filled : (plan : PhasePlan) (quiet : ℕ) (old a word b : List ℕ) → old ≡ [] → quiet ≡ length plan.quiet.edges → a ≡ (old ++ codes "phase ") ++ decimal plan.quiet.phase
    → word ≡ (codes " " ++ direction_word plan.quiet.add) ++ codes " quiet " → b ≡ (a ++ word) ++ decimal quiet → b ++ 10 ∷ [] ≡ phase_line plan
phase_filled plan quiet old a word b z eq ea ew eb = grind (arith, nat_tests, phase_parts)

group_parts : (phase label : ℕ) (members words old a b d f : List ℕ) → a ≡ old ++ codes "group" → b ≡ a ++ 32 ∷ (decimal phase ++ 32 ∷ decimal label) → d ≡ b ++ members → f ≡ d ++ 10 ∷ [] → words ≡ decimal label ++ members
    → f ≡ old ++ ((codes "group" ++ 32 ∷ (decimal phase ++ 32 ∷ words)) ++ 10 ∷ [])
group_parts phase label members words old a b d f ea eb ed ef ew = rw (ef, ed, eb, ea, ew) (group_regrouped old (codes "group") (decimal phase) (decimal label) members (32 ∷ []) (10 ∷ []))

pub group_filled : (group : Entry) (label : ℕ) (old a b d f : List ℕ) → group.label ≡ Some label → a ≡ old ++ codes "group" → b ≡ a ++ 32 ∷ (decimal group.phase ++ 32 ∷ decimal label)
    → d ≡ b ++ flat_map (λ (m : Move). 32 ∷ member_word m) group.moves → f ≡ d ++ 10 ∷ [] → f ≡ old ++ group_line group
group_filled group label old a b d f el ea eb ed ef =
    let words : join_with_byte 32 (label_word group.label ∷ map member_word group.moves) ≡ decimal label ++ flat_map (λ (m : Move). 32 ∷ member_word m) group.moves =
    ap (λ (o : Option ℕ). join_with_byte 32 (label_word o ∷ map member_word group.moves)) el ∙ joined (decimal label) member_word group.moves in
    group_parts group.phase label (flat_map (λ (m : Move). 32 ∷ member_word m) group.moves) (join_with_byte 32 (label_word group.label ∷ map member_word group.moves)) old a b d f ea eb ed ef words

-- each group of a well formed plan has a label
labels_there : (groups : List Entry) (labels : List ℕ) → map (λ (e : Entry). e.label) groups ≡ map Some labels → All (λ (e : Entry). IsSome e.label) groups
labels_there [] labels e = All-nil (λ (e : Entry). IsSome e.label)
labels_there (g ∷ gs) [] e = absurd cc
labels_there (g ∷ gs) (l ∷ ls) e =
    let first : g.label ≡ Some l = cc in
    let later : map (λ (e : Entry). e.label) gs ≡ map Some ls = cc in
    All-cons (λ (e : Entry). IsSome e.label) g gs (rw first (search rules)) (labels_there gs ls later)

pub has_labels : (n : ℕ) (plan : PhasePlan) → IsWellFormed n plan → All (λ (e : Entry). IsSome e.label) plan.groups
has_labels n plan w = labels_there plan.groups w.labels w.labels_are
