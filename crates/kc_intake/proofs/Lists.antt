-- Lists of updates, and functions of a client's number.
use Rattle.std.proofs.Common.{◌≡◌, ◌≢◌, ℕ, ◌+◌, ◌==◌, true, false, cond, List, [], ◌∷◌, ◌++◌, length, map, sym, refl, ap, ◌∙◌, append_assoc, arith}
use Rattle.std.proofs.lemmas.Bool.Decides.{nat_tests}
use Rattle.std.proofs.lemmas.List.{append-nil}
use Rattle.std.proofs.lemmas.List.Elements.{filter-append}
use Rattle.std.proofs.lemmas.List.Concat.{flat_map-append}
use Rattle.kc_graph.specs.declared.items.Item.{Item}
use Rattle.kc_intake.specs.declared.updates.Update.{Update}
use Rattle.kc_intake.specs.Updates.{updates_of, numbered, all_updates}
use Rattle.kc_intake.specs.private.Steps.{with_last}

-- f, with x at k
abbrev pub changed : {A : Type 0} → (ℕ → A) → ℕ → A → ℕ → A
changed f k x c = cond (c == k) x (f c)

pub changed_here : {A : Type 0} (f : ℕ → A) (k : ℕ) (x : A) (c : ℕ) → c ≡ k → changed f k x c ≡ x
changed_here f k x c e = let t : (c == k) ≡ true = grind (arith, nat_tests, e) in ap (λ b. cond b x (f c)) t

pub changed_else : {A : Type 0} (f : ℕ → A) (k : ℕ) (x : A) (c : ℕ) → c ≢ k → changed f k x c ≡ f c
changed_else f k x c n = let t : (c == k) ≡ false = grind (arith, nat_tests, n) in ap (λ b. cond b x (f c)) t

pub of_append : (c : ℕ) (us vs : List Update) → updates_of c (us ++ vs) ≡ updates_of c us ++ updates_of c vs
of_append c us vs = filter-append (λ u. u.client == c) us vs

pub of_own : (c : ℕ) (u : Update) (us : List Update) → u.client ≡ c → updates_of c (u ∷ us) ≡ u ∷ updates_of c us
of_own c u us e = let t : (u.client == c) ≡ true = grind (arith, nat_tests, e) in ap (λ b. cond b (u ∷ updates_of c us) (updates_of c us)) t

pub of_other : (c : ℕ) (u : Update) (us : List Update) → u.client ≢ c → updates_of c (u ∷ us) ≡ updates_of c us
of_other c u us n = let t : (u.client == c) ≡ false = grind (arith, nat_tests, n) in ap (λ b. cond b (u ∷ updates_of c us) (updates_of c us)) t

pub numbered_more : (c n : ℕ) (items : List Item) (item : Item) → numbered c n (items ++ item ∷ []) ≡ numbered c n items ++ record { client = c; serial = n + length items; item = item } ∷ []
numbered_more c n [] item = let e : n ≡ n + 0 = omega arith in λ i. record { client = c; serial = e i; item = item } ∷ []
numbered_more c n (x ∷ xs) item = grind (arith, nat_tests, numbered_more c (n + 1) xs item)

-- the first of numbered updates are numbered
pub first_numbered : (c n : ℕ) (us vs : List Update) (items : List Item) → us ++ vs ≡ numbered c n items → us ≡ numbered c n (map (λ u. u.item) us)
first_numbered c n [] vs items e = refl
first_numbered c n (u ∷ us) vs [] e = cc
first_numbered c n (u ∷ us) vs (x ∷ xs) e =
    let head : u ≡ record { client = c; serial = n; item = x } = cc in
    let rest : us ++ vs ≡ numbered c (n + 1) xs = cc in
    let same : u ≡ record { client = c; serial = n; item = u.item } = head ∙ ap (λ (z : Item). record { client = c; serial = n; item = z }) (sym (ap (λ (z : Update). z.item) head)) in
    let more = first_numbered c (n + 1) us vs xs rest in
    λ i. same i ∷ more i

pub drained_begun : (batches : List (List Update)) (u : Update) → all_updates (batches ++ (u ∷ []) ∷ []) ≡ all_updates batches ++ u ∷ []
drained_begun batches u = flat_map-append (λ batch. batch) batches ((u ∷ []) ∷ [])

pub drained_added : (batches : List (List Update)) (u : Update) → all_updates (with_last u batches) ≡ all_updates batches ++ u ∷ []
drained_added [] u = refl
drained_added (batch ∷ []) u = append-nil (batch ++ u ∷ []) ∙ ap (λ us. us ++ u ∷ []) (sym (append-nil batch))
drained_added (batch ∷ next ∷ batches) u = ap (λ us. batch ++ us) (drained_added (next ∷ batches) u) ∙ sym (append_assoc batch (all_updates (next ∷ batches)) (u ∷ []))

-- the last batch with one more update
pub last_added : (batches : List (List Update)) (batch : List Update) (u : Update) → with_last u (batches ++ batch ∷ []) ≡ batches ++ (batch ++ u ∷ []) ∷ []
last_added [] batch u = refl
last_added (first ∷ []) batch u = refl
last_added (first ∷ next ∷ batches) batch u = ap (λ bs. first ∷ bs) (last_added (next ∷ batches) batch u)

-- one more update of client c, and its effect on the numbers
pub of_more : (c : ℕ) (us : List Update) (u : Update) (items : List Item) → u.client ≡ c → u.serial ≡ length items → updates_of c us ≡ numbered c 0 items → updates_of c (us ++ u ∷ []) ≡ numbered c 0 (items ++ u.item ∷ [])
of_more c us u items own next whole = grind (arith, nat_tests, of_append, of_own, numbered_more)

-- one more update of another client
pub of_same : (c : ℕ) (us : List Update) (u : Update) → u.client ≢ c → updates_of c (us ++ u ∷ []) ≡ updates_of c us
of_same c us u other = of_append c us (u ∷ []) ∙ ap (λ vs. updates_of c us ++ vs) (of_other c u [] other) ∙ append-nil (updates_of c us)
