-- Drained batches that are what the clients submitted.
use Rattle.std.proofs.Common.{ℕ, zero, suc, ◌≡◌, ◌≢◌, ◌≤◌, ◌<◌, ◌+◌, ◌==◌, Bool, true, false, cond, List, [], ◌∷◌, ◌++◌, length, get_or, map, refl, sym, ap, ◌∙◌, subst, arith}
use Rattle.std.specs.Prelude.{All, ◌&&◌}
use Rattle.std.specs.List.{list_all}
use Rattle.std.proofs.lemmas.Bool.Decides.{nat_tests}
use Rattle.std.proofs.lemmas.List.{append-nil, length-append, length-map, nil_from_length}
use Rattle.std.proofs.lemmas.List.Folds.{list_all-map}
use Rattle.std.proofs.lemmas.List.Elements.{filter-append, All-nil, All-cons, All-head, All-tail, All-append}
use Rattle.std.proofs.lemmas.Bool.{and_parts}
use mathlib.Core.List.{IsPrefix}
use Rattle.kc_graph.specs.declared.items.Item.{Item}
use Rattle.kc_graph.specs.declared.limits.TheConstants.{MAX_ITEMS}
use Rattle.kc_intake.specs.declared.updates.Update.{Update}
use Rattle.kc_intake.specs.Updates.{updates_of, updates_in, numbered, all_updates}
use Rattle.kc_intake.specs.Views.{IntakeShape, ClientShape, DrainerShape, submitted}
use Rattle.kserve.specs.declared.limits.TheConstants.{CAPACITY}
use Rattle.kserve.specs.private.Fitting.{is_due, are_due}
use Rattle.kserve.specs.Fitting.{items_of, Fit}
use Rattle.kserve.specs.private.Clients.{ended_client, HaveEnded, AreTakenIn, AreDrained}
use Rattle.kserve.specs.Inputs.{items_in}
use Rattle.kserve.specs.private.Scripts.{AreScripts}
use Rattle.kserve.proofs.Counting.{total_same, all_clients, all_lists, each_as_many}

of_append : (c : ℕ) (us vs : List Update) → updates_of c (us ++ vs) ≡ updates_of c us ++ updates_of c vs
of_append c us vs = filter-append (λ u. u.client == c) us vs

of_own : (c : ℕ) (u : Update) (us : List Update) → u.client ≡ c → updates_of c (u ∷ us) ≡ u ∷ updates_of c us
of_own c u us e = let t : (u.client == c) ≡ true = grind (arith, nat_tests, e) in ap (λ b. cond b (u ∷ updates_of c us) (updates_of c us)) t

of_other : (c : ℕ) (u : Update) (us : List Update) → u.client ≢ c → updates_of c (u ∷ us) ≡ updates_of c us
of_other c u us n = let t : (u.client == c) ≡ false = grind (arith, nat_tests, n) in ap (λ b. cond b (u ∷ updates_of c us) (updates_of c us)) t

pub length-numbered : (c n : ℕ) (items : List Item) → length (numbered c n items) ≡ length items
length-numbered c n [] = refl
length-numbered c n (x ∷ xs) = ap suc (length-numbered c (n + 1) xs)

pub items-numbered : (c n : ℕ) (items : List Item) → items_of (numbered c n items) ≡ items
items-numbered c n [] = refl
items-numbered c n (x ∷ xs) = ap (λ (rest : List Item). x ∷ rest) (items-numbered c (n + 1) xs)

-- a prefix that is as long is the whole
pub whole_prefix : {X : Type 0} (xs ys : List X) → IsPrefix xs ys → length xs ≡ length ys → xs ≡ ys
whole_prefix {X = X} xs ys p e =
    let long = length-append xs p.0 in
    let all = ap (λ (zs : List X). length zs) p.1 in
    let none : p.0 ≡ [] = nil_from_length p.0 (omega (arith, long, all, e)) in
    sym (append-nil xs) ∙ (ap (λ rest. xs ++ rest) (sym none) ∙ p.1)

pub shorter_prefix : {X : Type 0} (xs ys : List X) → IsPrefix xs ys → length xs ≤ length ys
shorter_prefix {X = X} xs ys p =
    let long = length-append xs p.0 in
    let all = ap (λ (zs : List X). length zs) p.1 in
    omega (arith, long, all)

-- what is true of the items of each client is true of all
pub all_due : (n k : ℕ) (us : List Update) → All (λ u. u.client < k) us → ((c : ℕ) → c < k → are_due n (updates_of c us) ≡ true) → are_due n us ≡ true
all_due n k [] all h = refl
all_due n k (u ∷ us) all h =
    let own : are_due n (u ∷ updates_of u.client us) ≡ true = subst (λ (vs : List Update). are_due n vs ≡ true) (of_own u.client u us refl) (h u.client (All-head (λ u. u.client < k) u us all)) in
    let first = (and_parts (is_due n u.item) (are_due n (updates_of u.client us)) own).0 in
    let rest = all_due n k us (All-tail (λ u. u.client < k) u us all) (λ c lt. later c (u.client == c) (h c lt)) in
    ap (λ b. b && are_due n us) first ∙ rest
  where
    later : (c : ℕ) (b : Bool) → are_due n (cond b (u ∷ updates_of c us) (updates_of c us)) ≡ true → are_due n (updates_of c us) ≡ true
    later c true e = (and_parts (is_due n u.item) (are_due n (updates_of c us)) e).1
    later c false e = e

list_from_all : (n : ℕ) (items : List Item) → All (λ item. is_due n item ≡ true) items → list_all (is_due n) items ≡ true
list_from_all n [] all = refl
list_from_all n (x ∷ xs) all =
    ap (λ b. b && list_all (is_due n) xs) (All-head (λ item. is_due n item ≡ true) x xs all) ∙ list_from_all n xs (All-tail (λ item. is_due n item ≡ true) x xs all)

-- scripts that can be served
pub record CanServe (n : ℕ) (scripts : List (List Item)) : Type 0 where
  pub due : All (All (λ item. is_due n item ≡ true)) scripts
  pub few_items : items_in scripts ≤ MAX_ITEMS

pub can_serve : (n : ℕ) (scripts : List (List Item)) → AreScripts n scripts → CanServe n scripts
can_serve n scripts a = record { due = a.due; few_items = a.few_items }

-- the items of batches that fit are due
pub fit_due : (n : ℕ) (scripts : List (List Item)) (bs : List (List Update)) → CanServe n scripts → Fit scripts bs → are_due n (all_updates bs) ≡ true
fit_due n scripts bs a f = all_due n (length scripts) (all_updates bs) f.clients (λ c lt.
    sym (list_all-map (is_due n) (λ (u : Update). u.item) (updates_of c (all_updates bs)))
    ∙ (ap (λ items. list_all (is_due n) items) (f.items c lt) ∙ list_from_all n (get_or scripts c []) (a.due c [] lt)))

-- and they are as many as the items of the scripts
pub fit_count : (scripts : List (List Item)) (bs : List (List Update)) → Fit scripts bs → length (all_updates bs) ≡ items_in scripts
fit_count scripts bs f =
    let all = all_clients (length scripts) (all_updates bs) f.clients in
    let lists = all_lists scripts in
    let same = total_same (length scripts) (λ c. length (updates_of c (all_updates bs))) (λ c. length (get_or scripts c [])) (λ c lt.
    sym (length-map (updates_of c (all_updates bs)) (λ (u : Update). u.item)) ∙ ap (λ (xs : List Item). length xs) (f.items c lt)) in
    all ∙ (same ∙ sym lists)

-- the updates that were drained are those of the clients, where these have ended and were taken in, and there are as many
pub drained_fit : (scripts : List (List Item)) (intake : IntakeShape) (old new : DrainerShape) (clients : List ClientShape) → intake.capacity ≡ CAPACITY → old.clients ≡ length scripts
    → AreDrained intake old new → HaveEnded intake scripts clients → AreTakenIn new.taken clients → items_in scripts ≤ length (all_updates new.taken) → Fit scripts new.taken
drained_fit scripts intake old new clients capacity many d e t enough =
    let k = length scripts in
    let us = all_updates new.taken in
    let within : All (λ u. u.client < k) us = subst (λ (m : ℕ). All (λ u. u.client < m) us) many d.clients in
    let prefix : (c : ℕ) → c < k → IsPrefix (updates_of c us) (numbered c 0 (get_or scripts c [])) =
    (λ c lt. subst (λ (z : ClientShape). IsPrefix (updates_of z.number us) (updates_in (submitted z))) (e.each c (ended_client intake c []) lt) (t c (ended_client intake c []) (omega (arith, e.count_is, lt)))) in
    let few : (c : ℕ) → c < k → length (updates_of c us) ≤ length (get_or scripts c []) =
    (λ c lt. let x = shorter_prefix (updates_of c us) (numbered c 0 (get_or scripts c [])) (prefix c lt) in let y = length-numbered c 0 (get_or scripts c []) in omega (arith, x, y)) in
    let all = all_clients k us within in
    let lists = all_lists scripts in
    let same = each_as_many k (λ c. length (updates_of c us)) (λ c. length (get_or scripts c [])) few (omega (arith, all, lists, enough)) in
    record {
      sizes = subst (λ (m : ℕ). All (λ batch. (1 ≤ length batch) × (length batch ≤ m)) new.taken) capacity d.sizes;
      clients = within;
      items = λ c lt.
          ap items_of (whole_prefix (updates_of c us) (numbered c 0 (get_or scripts c [])) (prefix c lt) (same c lt ∙ sym (length-numbered c 0 (get_or scripts c []))))
          ∙ items-numbered c 0 (get_or scripts c []);
    }

-- batches of one update each
abbrev singles : List Update → List (List Update)
singles us = map (λ u. u ∷ []) us

-- the updates of scripts, one client after another, of which the first has this number
abbrev in_turn : ℕ → List (List Item) → List Update
in_turn c [] = []
in_turn c (script ∷ scripts) = numbered c 0 script ++ in_turn (c + 1) scripts

updates-singles : (us : List Update) → all_updates (singles us) ≡ us
updates-singles [] = refl
updates-singles (u ∷ us) = ap (λ (rest : List Update). u ∷ rest) (updates-singles us)

sizes-singles : (us : List Update) → All (λ batch. (1 ≤ length batch) × (length batch ≤ CAPACITY)) (singles us)
sizes-singles [] = All-nil (λ batch. (1 ≤ length batch) × (length batch ≤ CAPACITY))
sizes-singles (u ∷ us) = All-cons (λ batch. (1 ≤ length batch) × (length batch ≤ CAPACITY)) (u ∷ []) (singles us) (omega arith, omega arith) (sizes-singles us)

of_numbered : (c n : ℕ) (items : List Item) → updates_of c (numbered c n items) ≡ numbered c n items
of_numbered c n [] = refl
of_numbered c n (x ∷ xs) = let u : Update = record { client = c; serial = n; item = x } in of_own c u (numbered c (n + 1) xs) refl ∙ ap (λ us. u ∷ us) (of_numbered c (n + 1) xs)

of_others : (d c n : ℕ) (items : List Item) → c ≢ d → updates_of d (numbered c n items) ≡ []
of_others d c n [] other = refl
of_others d c n (x ∷ xs) other = of_other d (record { client = c; serial = n; item = x }) (numbered c (n + 1) xs) other ∙ of_others d c (n + 1) xs other

of_earlier : (d c : ℕ) (scripts : List (List Item)) → d < c → updates_of d (in_turn c scripts) ≡ []
of_earlier d c [] lt = refl
of_earlier d c (script ∷ scripts) lt =
    of_append d (numbered c 0 script) (in_turn (c + 1) scripts)
    ∙ (ap (λ us. us ++ updates_of d (in_turn (c + 1) scripts)) (of_others d c 0 script (λ e. omega (arith, e, lt))) ∙ of_earlier d (c + 1) scripts (omega (arith, lt)))

items-in_turn : (c j : ℕ) (scripts : List (List Item)) → j < length scripts → items_of (updates_of (c + j) (in_turn c scripts)) ≡ get_or scripts j []
items-in_turn c j [] lt = absurd (omega (arith, lt))
items-in_turn c zero (script ∷ scripts) lt =
    let e : c + 0 ≡ c = omega arith in
    ap (λ d. items_of (updates_of d (in_turn c (script ∷ scripts)))) e
    ∙ (ap items_of (of_append c (numbered c 0 script) (in_turn (c + 1) scripts) ∙ (ap (λ us. updates_of c (numbered c 0 script) ++ us) (of_earlier c (c + 1) scripts (omega arith)) ∙ (append-nil (updates_of c (numbered c 0 script)) ∙ of_numbered c 0 script)))
    ∙ items-numbered c 0 script)
items-in_turn c (suc j) (script ∷ scripts) lt =
    let e : c + suc j ≡ (c + 1) + j = omega arith in
    ap items_of (of_append (c + suc j) (numbered c 0 script) (in_turn (c + 1) scripts) ∙ ap (λ us. us ++ updates_of (c + suc j) (in_turn (c + 1) scripts)) (of_others (c + suc j) c 0 script (λ same. omega (arith, same))))
    ∙ (ap (λ d. items_of (updates_of d (in_turn (c + 1) scripts))) e ∙ items-in_turn (c + 1) j scripts (omega (arith, lt)))

numbered_below : (k c n : ℕ) (items : List Item) → c < k → All (λ u. u.client < k) (numbered c n items)
numbered_below k c n [] lt = All-nil (λ u. u.client < k)
numbered_below k c n (x ∷ xs) lt = All-cons (λ u. u.client < k) (record { client = c; serial = n; item = x }) (numbered c (n + 1) xs) lt (numbered_below k c (n + 1) xs lt)

in_turn_below : (k c : ℕ) (scripts : List (List Item)) → c + length scripts ≤ k → All (λ u. u.client < k) (in_turn c scripts)
in_turn_below k c [] few = All-nil (λ u. u.client < k)
in_turn_below k c (script ∷ scripts) few =
    All-append (λ u. u.client < k) (numbered c 0 script) (in_turn (c + 1) scripts) (numbered_below k c 0 script (omega (arith, few))) (in_turn_below k (c + 1) scripts (omega (arith, few)))

-- there are always batches that fit
pub some_fit : (scripts : List (List Item)) → (bs : List (List Update)) × Fit scripts bs
some_fit scripts =
    let us = in_turn 0 scripts in
    let all = updates-singles us in (
      singles us,
      record {
        sizes = sizes-singles us;
        clients = subst (λ (vs : List Update). All (λ u. u.client < length scripts) vs) (sym all) (in_turn_below (length scripts) 0 scripts (omega arith));
        items = λ c lt. ap (λ vs. items_of (updates_of c vs)) all ∙ (ap (λ d. items_of (updates_of d us)) (let e : c ≡ 0 + c = omega arith in e) ∙ items-in_turn 0 c scripts lt);
      },
    )
