-- Opening of the queue, and the steps in which a client comes and is taken in.
use Rattle.std.proofs.Common.{◌≡◌, ◌≢◌, ◌⊎◌, ℕ, zero, suc, ◌+◌, ◌<◌, ◌≤◌, List, [], ◌∷◌, ◌++◌, Option, Some, None, Contains, length, set, sym, refl, ap, ◌∙◌, subst, inl, inr, ⊎_elim, arith, le_refl}
use Rattle.std.proofs.lemmas.List.Elements.{Contains-push_cases}
use Rattle.std.proofs.lemmas.Bool.Decides.{nat_tests}
use mathlib.Core.Option.{some, some-injective, some-ne-none}
use mathlib.Core.Logic.{dite}
use native.Mathlib.Decide.{dec_le, ℕ_discrete}
use lib.ListN.{get_elem?}
use Rattle.crossbeam_queue.specs.Fifo.{Forks, Merges}
use Rattle.crossbeam_queue.proofs.Lists.{at_set}
use Rattle.kc_graph.specs.declared.items.Item.{Item}
use Rattle.kc_intake.specs.declared.roles.Submitted.{Submitted}
use Rattle.kc_intake.specs.declared.roles.Drained.{Drained}
use Rattle.kc_intake.specs.declared.roles.Role.{Role}
use Rattle.kc_intake.specs.declared.roles.Role.TheVariants.{Spent, Submits, Drains}
use Rattle.kc_intake.specs.Updates.{updates_of, all_updates}
use Rattle.kc_intake.specs.Views.{submitted_of, drained_of}
use Rattle.kc_intake.specs.Causes.{Holds}
use Rattle.kc_intake.specs.Rule.{PassHolds, IsKept}
use Rattle.kc_intake.specs.private.Steps.{first_role, with_client, client_of, took_in}
use Rattle.kc_intake.proofs.Lists.{changed, changed_here, changed_else}
use Rattle.kc_intake.proofs.Passes.{views_set, same_pass}

none_in : {A : Type 0} (x : A) → Contains [] x → ⊥
none_in x on = omega (arith, on.1)

pub opens : (holds : Holds) → holds [] [] → IsKept holds [] (first_role ∷ [])
opens holds begun = record {
  drainer = 0;
  state = record { clients = 0; taken = []; joined = [] };
  pass = λ c. None;
  sent = λ c. [];
  whole = λ c. refl;
  later = λ c le. (refl, refl);
  joined = λ s on. absurd (none_in s on);
  invariant = begun;
  passes = first;
}
  where
    first : (j : ℕ) (v : Role) → get_elem? (first_role ∷ []) j ≡ some v → PassHolds 0 (record { clients = 0; taken = []; joined = [] }) (λ c. None) (λ c. []) j v
    first j v e = grind (arith, nat_tests)

at_end : (views : List Role) (w v : Role) (k : ℕ) → get_elem? (views ++ w ∷ []) k ≡ some v → (get_elem? views k ≡ some v) ⊎ ((k ≡ length views) × (w ≡ v))
at_end [] w v zero e = inr (refl, some-injective w v e)
at_end [] w v (suc k) e = absurd (some-ne-none v (sym e))
at_end (x ∷ xs) w v zero e = inl e
at_end (x ∷ xs) w v (suc k) e = ⊎_elim (λ (t : get_elem? xs k ≡ some v). inl t) (λ (t : (k ≡ length xs) × (w ≡ v)). inr (ap suc t.0, t.1)) (at_end xs w v k e)

-- client c comes, with a pass of its own
coming_stays : (drainer : ℕ) (d new : Drained) (pass : ℕ → Option ℕ) (sent : ℕ → List Item) (c j n : ℕ) → pass c ≡ None → j ≡ drainer → (k : ℕ) (v : Role) → k ≢ j → PassHolds drainer d pass sent k v → PassHolds drainer new (changed pass c (Some n)) sent k v
coming_stays drainer d new pass sent c j n none mine k it other so = grind (arith, nat_tests, changed_else)

forks_one : (holds : Holds) (j : ℕ) (d : Drained) → Forks (IsKept holds) j (Drains d) (with_client (Drains d)) (client_of (Drains d))
forks_one holds j d items views r at =
    let mine = r.passes j (Drains d) at in
    let clients : d.clients ≡ r.state.clients = ap (λ (z : Drained). z.clients) mine.1 in
    let next = r.later d.clients (subst (λ (n : ℕ). n ≤ d.clients) clients (le_refl d.clients)) in
    let new : Drained = record d { clients = d.clients + 1 } in
    let vs : List Role = set views j (Drains new) in
    let comes : Role = Submits (record { client = d.clients; items = [] }) in
    let pass : ℕ → Option ℕ = changed r.pass d.clients (Some (length vs)) in record {
      drainer = r.drainer;
      state = new;
      pass = pass;
      sent = r.sent;
      whole = λ c. ap (λ (z : Drained). updates_of c (all_updates z.taken ++ items)) mine.1 ∙ r.whole c;
      later = λ c le. let was = r.later c (omega (arith, clients, le)) in (changed_else r.pass d.clients (Some (length vs)) c (λ e. omega (arith, e, le)) ∙ was.0, was.1);
      joined = λ s on. let was = r.joined s (subst (λ (z : Drained). Contains z.joined s) mine.1 on) in let lt = was.0 in
          (omega (arith, clients, lt), changed_else r.pass d.clients (Some (length vs)) s.client (λ e. omega (arith, e, clients, lt)) ∙ was.1, was.2);
      invariant = subst (λ (z : Drained). holds (all_updates z.taken) items) (sym mine.1) r.invariant;
      passes = λ k v e. ⊎_elim
          (λ (t : get_elem? vs k ≡ some v). views_set (PassHolds r.drainer r.state r.pass r.sent) (PassHolds r.drainer new pass r.sent) views j (Drains new) (mine.0, refl) (coming_stays r.drainer r.state new r.pass r.sent d.clients j (length vs) next.0 mine.0) r.passes k v t)
          (λ (t : (k ≡ length vs) × (comes ≡ v)). subst (λ (x : ℕ × Role). PassHolds r.drainer new pass r.sent x.0 x.1) (λ i. (sym t.0 i, t.1 i)) (changed_here r.pass d.clients (Some (length vs)) d.clients refl, sym next.1))
          (at_end vs comes v k e);
    }

pub forks_from : (holds : Holds) (j : ℕ) (v : Role) → v ≡ Drains (drained_of v) → Forks (IsKept holds) j v (with_client v) (client_of v)
forks_from holds j v is = subst (λ (z : Role). Forks (IsKept holds) j z (with_client z) (client_of z)) (sym is) (forks_one holds j (drained_of v))

-- a client without a pass has none after client k is taken in
none_stays : (pass : ℕ → Option ℕ) (k c : ℕ) → pass c ≡ None → changed pass k None c ≡ None
none_stays pass k c none = dite (ℕ_discrete c k) (λ e. changed_here pass k None c e) (λ n. changed_else pass k None c n ∙ none)

leaving_stays : (drainer : ℕ) (d new : Drained) (pass : ℕ → Option ℕ) (sent : ℕ → List Item) (c j gone : ℕ) → pass c ≡ Some gone → j ≡ drainer → (k : ℕ) (v : Role) → k ≢ j → PassHolds drainer d pass sent k v → k ≢ gone → PassHolds drainer new (changed pass c None) sent k v
leaving_stays drainer d new pass sent c j gone theirs mine k it other so apart = grind (arith, nat_tests, changed_else, same_pass)

merges_one : (holds : Holds) (j : ℕ) (d : Drained) (gone : ℕ) (s : Submitted) → Merges (IsKept holds) j (Drains d) gone (Submits s) (took_in (Drains d) (Submits s)) Spent
merges_one holds j d gone s items views r at two at' =
    let mine = r.passes j (Drains d) at in
    let new : Drained = record d { joined = d.joined ++ s ∷ [] } in
    let was : get_elem? views gone ≡ some (Submits s) = ⊎_elim (λ x. absurd (two x.0)) (λ x. x.1) (at_set views j gone (Drains new) (Submits s) at') in
    let theirs = r.passes gone (Submits s) was in
    let vs : List Role = set views j (Drains new) in
    let clients : d.clients ≡ r.state.clients = ap (λ (z : Drained). z.clients) mine.1 in
    let pass : ℕ → Option ℕ = changed r.pass s.client None in
    let known : s.client < d.clients = dite (dec_le d.clients s.client) (λ le. let t : None ≡ Some gone = sym (r.later s.client (omega (arith, clients, le))).0 ∙ theirs.0 in absurd cc) (λ n. omega (arith, n)) in
    let Now : ℕ → Role → Type 0 = (λ k v. k ≢ gone → PassHolds r.drainer new pass r.sent k v) in record {
      drainer = r.drainer;
      state = new;
      pass = pass;
      sent = r.sent;
      whole = λ c. ap (λ (z : Drained). updates_of c (all_updates z.taken ++ items)) mine.1 ∙ r.whole c;
      later = λ c le. let was = r.later c (omega (arith, clients, le)) in (none_stays r.pass s.client c was.0, was.1);
      joined = λ t on. ⊎_elim
          (λ (before : Contains d.joined t). let was = r.joined t (subst (λ (z : Drained). Contains z.joined t) mine.1 before) in let lt = was.0 in (omega (arith, clients, lt), none_stays r.pass s.client t.client was.1, was.2))
          (λ (e : s ≡ t). subst (λ (z : Submitted). (z.client < d.clients) × (pass z.client ≡ None) × (z.items ≡ r.sent z.client)) e (known, changed_here r.pass s.client None s.client refl, theirs.1))
          (Contains-push_cases d.joined s t on);
      invariant = subst (λ (z : Drained). holds (all_updates z.taken) items) (sym mine.1) r.invariant;
      passes = views_set Now (PassHolds r.drainer new pass r.sent) vs gone Spent tt (λ k v other now. now other)
          (views_set (PassHolds r.drainer r.state r.pass r.sent) Now views j (Drains new) (λ apart. (mine.0, refl)) (leaving_stays r.drainer r.state new r.pass r.sent s.client j gone theirs.0 mine.0) r.passes);
    }

pub merges_from : (holds : Holds) (j : ℕ) (v : Role) (gone : ℕ) (w : Role) → v ≡ Drains (drained_of v) → w ≡ Submits (submitted_of w) → Merges (IsKept holds) j v gone w (took_in v w) Spent
merges_from holds j v gone w is theirs = subst (λ (z : Role × Role). Merges (IsKept holds) j z.0 gone z.1 (took_in z.0 z.1) Spent) (λ i. (sym is i, sym theirs i)) (merges_one holds j (drained_of v) gone (submitted_of w))
