-- The drainer's pops keep the rule, and the facts that the drainer learns from it.
use Rattle.std.proofs.Common.{◌≡◌, ◌≢◌, ℕ, ◌<◌, ◌≤◌, List, [], ◌∷◌, ◌++◌, Contains, set, sym, refl, ap, ◌∙◌, subst, append_assoc, arith}
use mathlib.Core.Option.{some}
use mathlib.Core.Logic.{dite}
use native.Mathlib.Decide.{dec_le}
use lib.ListN.{get_elem?}
use Rattle.crossbeam_queue.specs.Fifo.{Pops, Learns}
use Rattle.kc_intake.specs.declared.updates.Update.{Update}
use Rattle.kc_intake.specs.declared.roles.Submitted.{Submitted}
use Rattle.kc_intake.specs.declared.roles.Drained.{Drained}
use Rattle.kc_intake.specs.declared.roles.Role.{Role}
use Rattle.kc_intake.specs.declared.roles.Role.TheVariants.{Spent, Submits, Drains}
use Rattle.kc_intake.specs.Updates.{updates_of, numbered, all_updates, AreNumbered}
use Rattle.kc_intake.specs.Views.{drained_of}
use Rattle.kc_intake.specs.Causes.{Holds, StaysAtDrain}
use Rattle.kc_intake.specs.Rule.{PassHolds, IsKept}
use Rattle.kc_intake.specs.private.Steps.{with_begun, with_added, begins, adds, drain_learns}
use Rattle.kc_intake.proofs.Lists.{of_append, of_own, first_numbered, drained_begun, drained_added}
use Rattle.kc_intake.proofs.Passes.{views_set}
use Rattle.kc_intake.proofs.Sending.{seen}

not_empty : (us vs : List Update) (u : Update) → us ++ u ∷ vs ≡ [] → ⊥
not_empty [] vs u e = cc
not_empty (x ∷ us) vs u e = cc

-- the drainer has the state d, and now has a state in which one more update is drained
record Popped (holds : Holds) (j : ℕ) (d new : Drained) (u : Update) (items : List Update) (views : List Role) : Type 0 where
  kept : IsKept holds (u ∷ items) views
  stays : StaysAtDrain holds
  at : get_elem? views j ≡ some (Drains d)
  clients : new.clients ≡ d.clients
  joined : new.joined ≡ d.joined
  more : all_updates new.taken ≡ all_updates d.taken ++ u ∷ []

module _ {holds : Holds} {j : ℕ} {d new : Drained} {u : Update} {items : List Update} {views : List Role} where
  is_so : (p : Popped holds j d new u items views) → (j ≡ p.kept.drainer) × (d ≡ p.kept.state)
  is_so p = p.kept.passes j (Drains d) p.at

  whole : (p : Popped holds j d new u items views) (c : ℕ) → updates_of c (all_updates new.taken ++ items) ≡ numbered c 0 (p.kept.sent c)
  whole p c = ap (λ us. updates_of c us) (ap (λ us. us ++ items) p.more ∙ append_assoc (all_updates d.taken) (u ∷ []) items ∙ ap (λ (z : Drained). all_updates z.taken ++ u ∷ items) (is_so p).1) ∙ p.kept.whole c

  others_stay : (p : Popped holds j d new u items views) (k : ℕ) (v : Role) → k ≢ j → PassHolds p.kept.drainer p.kept.state p.kept.pass p.kept.sent k v → PassHolds p.kept.drainer new p.kept.pass p.kept.sent k v
  others_stay p k Spent other so = so
  others_stay p k (Submits s) other so = so
  others_stay p k (Drains e) other so = absurd (other (so.0 ∙ sym (is_so p).0))

  invariant_stays : (p : Popped holds j d new u items views) → holds (all_updates new.taken) items
  invariant_stays p = subst (λ us. holds us items) (ap (λ (z : Drained). all_updates z.taken ++ u ∷ []) (sym (is_so p).1) ∙ sym p.more) (p.stays (all_updates p.kept.state.taken) items u p.kept.invariant)

  keeps : (p : Popped holds j d new u items views) → IsKept holds items (set views j (Drains new))
  keeps p = record {
    drainer = p.kept.drainer;
    state = new;
    pass = p.kept.pass;
    sent = p.kept.sent;
    whole = whole p;
    later = λ c le. p.kept.later c (subst (λ (n : ℕ). n ≤ c) (p.clients ∙ ap (λ (z : Drained). z.clients) (is_so p).1) le);
    joined = λ s on. let was = p.kept.joined s (subst (λ (l : List Submitted). Contains l s) (p.joined ∙ ap (λ (z : Drained). z.joined) (is_so p).1) on) in
        (subst (λ (n : ℕ). s.client < n) (sym (p.clients ∙ ap (λ (z : Drained). z.clients) (is_so p).1)) was.0, was.1, was.2);
    invariant = invariant_stays p;
    passes = views_set (PassHolds p.kept.drainer p.kept.state p.kept.pass p.kept.sent) (PassHolds p.kept.drainer new p.kept.pass p.kept.sent) views j (Drains new) ((is_so p).0, refl) (others_stay p) p.kept.passes;
  }

  in_range : (p : Popped holds j d new u items views) → u.client < d.clients
  in_range p = dite (dec_le d.clients u.client)
      (λ le.
      let none = (p.kept.later u.client (subst (λ (z : Drained). z.clients ≤ u.client) (is_so p).1 le)).1 in
      absurd (not_empty (updates_of u.client (all_updates p.kept.state.taken)) (updates_of u.client items) u
      (sym (of_append u.client (all_updates p.kept.state.taken) (u ∷ items) ∙ ap (λ us. updates_of u.client (all_updates p.kept.state.taken) ++ us) (of_own u.client u items refl)) ∙ p.kept.whole u.client ∙ ap (numbered u.client 0) none)))
      (λ n. omega (arith, n))

  numbers : Popped holds j d new u items views → AreNumbered new.taken
  numbers p c = first_numbered c 0 (updates_of c (all_updates new.taken)) (updates_of c items) (p.kept.sent c) (sym (of_append c (all_updates new.taken) items) ∙ whole p c)

begins_one : (holds : Holds) (j : ℕ) (d : Drained) → StaysAtDrain holds → Pops (IsKept holds) j (Drains d) (begins holds (Drains d))
begins_one holds j d stays u items views r at =
    let p : Popped holds j d (with_begun u d) u items views = record { kept = r; stays = stays; at = at; clients = refl; joined = refl; more = drained_begun d.taken u } in
    (Drains (with_begun u d), keeps p, (refl, record { client_in = in_range p; numbers = numbers p; invariant = record { waiting = items; invariant = invariant_stays p } }))

adds_one : (holds : Holds) (j : ℕ) (d : Drained) → StaysAtDrain holds → Pops (IsKept holds) j (Drains d) (adds holds (Drains d))
adds_one holds j d stays u items views r at =
    let p : Popped holds j d (with_added u d) u items views = record { kept = r; stays = stays; at = at; clients = refl; joined = refl; more = drained_added d.taken u } in
    (Drains (with_added u d), keeps p, (refl, record { client_in = in_range p; numbers = numbers p; invariant = record { waiting = items; invariant = invariant_stays p } }))

learns_one : (holds : Holds) (j : ℕ) (d : Drained) → Learns (IsKept holds) j (Drains d) (drain_learns holds (Drains d))
learns_one holds j d items views r at =
    let mine = r.passes j (Drains d) at in (
      seen holds j (Drains d) items views r at,
      λ s on. ap (λ (z : Drained). updates_of s.client (all_updates z.taken ++ items)) mine.1 ∙ r.whole s.client ∙ ap (numbered s.client 0) (sym (r.joined s (subst (λ (z : Drained). Contains z.joined s) mine.1 on)).2),
      subst (λ (z : Drained). holds (all_updates z.taken) items) (sym mine.1) r.invariant,
    )

pub begins_from : (holds : Holds) (j : ℕ) (v : Role) → v ≡ Drains (drained_of v) → StaysAtDrain holds → Pops (IsKept holds) j v (begins holds v)
begins_from holds j v is stays = subst (λ (z : Role). Pops (IsKept holds) j z (begins holds z)) (sym is) (begins_one holds j (drained_of v) stays)

pub adds_from : (holds : Holds) (j : ℕ) (v : Role) → v ≡ Drains (drained_of v) → StaysAtDrain holds → Pops (IsKept holds) j v (adds holds v)
adds_from holds j v is stays = subst (λ (z : Role). Pops (IsKept holds) j z (adds holds z)) (sym is) (adds_one holds j (drained_of v) stays)

pub learns_from : (holds : Holds) (j : ℕ) (v : Role) → v ≡ Drains (drained_of v) → Learns (IsKept holds) j v (drain_learns holds v)
learns_from holds j v is = subst (λ (z : Role). Learns (IsKept holds) j z (drain_learns holds z)) (sym is) (learns_one holds j (drained_of v))
