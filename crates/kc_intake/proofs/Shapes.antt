-- What callers see of a client and of the drainer after a step of the queue.
use Rattle.std.proofs.Common.{◌≡◌, ℕ, ◌+◌, ◌<◌, List, [], ◌∷◌, ◌++◌, map, All, Contains, get_or, sym, ap, ◌∙◌, subst, arith}
use Rattle.std.proofs.lemmas.List.{append-nil, nil_from_length}
use Rattle.std.proofs.lemmas.List.Elements.{All-push, Contains-get_or, Contains-push}
use Rattle.std.proofs.lemmas.List.FromFn.{map-range_with_len_more}
use Rattle.std.specs.List.{range_with_len}
use Rattle.std.proofs.lemmas.Bool.Decides.{nat_tests}
use mathlib.Core.List.{IsPrefix}
use Rattle.crossbeam_queue.specs.Fifo.{Held}
use Rattle.crossbeam_queue.specs.Passes.{Pass, view, IsSamePass}
use Rattle.kc_graph.specs.declared.items.Item.{Item}
use Rattle.kc_intake.specs.declared.updates.Update.{Update}
use Rattle.kc_intake.specs.declared.roles.Submitted.{Submitted}
use Rattle.kc_intake.specs.declared.roles.Drained.{Drained}
use Rattle.kc_intake.specs.declared.roles.Role.{Role}
use Rattle.kc_intake.specs.Causes.{Holds, HoldsOf, HeldAtStep, StaysAtSubmit}
use Rattle.kc_intake.specs.private.Steps.{with_client, client_of, with_last, with_added, adds, at_drainer, took_in, drain_learns}
use Rattle.kc_intake.specs.Updates.{updates_of, updates_in, all_updates, AreNumbered}
use Rattle.kc_intake.specs.Views.{IntakeShape, ClientShape, DrainerShape, intake_of, submitted_of, drained_of, client_shape, drainer_shape, IsDrainer, AreAllDrained, submitted, new_client}
use Rattle.kc_intake.proofs.Lists.{of_append, last_added}

-- a cause that a pass has learned, in the words of what callers see
pub held_as : (holds : Holds) (n m : ℕ) (v w : Role) → n ≡ m → v ≡ w → HeldAtStep holds n v → HeldAtStep holds m w
held_as holds n m v w e f h = subst (λ (z : ℕ × Role). HeldAtStep holds z.0 z.1) (λ i. (e i, f i)) h

pub held_told : (holds : Holds) (n : ℕ) (v : Role) → Held n (drain_learns holds v) → HeldAtStep holds n v
held_told holds n v h = (h.0, h.1, h.2.0)

pub held_whole : (holds : Holds) (p : Pass Update Role) (batch : List Update) (v : Role) → view p ≡ v → Held 0 (drain_learns holds v) → AreAllDrained (drainer_shape p batch)
held_whole holds p batch v same h = subst (λ (z : Role). All (λ s. updates_of s.client (all_updates (drained_of z).taken) ≡ updates_in s) (drained_of z).joined) (sym same)
    (λ k d lt.
    let s : Submitted = get_or (drained_of v).joined k d in
    let none : h.0 ≡ [] = nil_from_length h.0 h.1 in
    ap (λ us. updates_of s.client us) (sym (append-nil (all_updates (drained_of v).taken)) ∙ ap (λ us. all_updates (drained_of v).taken ++ us) (sym none)) ∙ h.2.1 s (Contains-get_or (drained_of v).joined k d lt))

pub held_empty : (holds : Holds) (p : Pass Update Role) (v : Role) → view p ≡ v → Held 0 (drain_learns holds v) → holds (all_updates (drained_of (view p)).taken) []
held_empty holds p v same h = subst (λ (z : Role). holds (all_updates (drained_of z).taken) []) (sym same) (subst (λ (us : List Update). holds (all_updates (drained_of v).taken) us) (nil_from_length h.0 h.1) h.2.2)

-- the invariant stays, in the words of the pass
pub stays_as : (holds : Holds) (n m : ℕ) (s t : Submitted) (item : Item) → n ≡ m → s ≡ t → StaysAtSubmit holds m t item → StaysAtSubmit holds n s item
stays_as holds n m s t item e f stays = subst (λ (z : ℕ × Submitted). StaysAtSubmit holds z.0 z.1 item) (λ i. (sym e i, sym f i)) stays

pub client_stays : (old new : Pass Update Role) (c : ClientShape) → client_shape old ≡ c → new.table_id ≡ old.table_id → view new ≡ view old → client_shape new ≡ c
client_stays old new c is table same = (λ i. record { intake = intake_of (table i); number = (submitted_of (same i)).client; sent = (submitted_of (same i)).items }) ∙ is

-- the drainer after a step in which its state became f of its old state
pub drainer_went : (f : Drained → Drained) (old new : Pass Update Role) → IsDrainer old → IsSamePass old new → view new ≡ at_drainer f (view old) → IsDrainer new × (drained_of (view new) ≡ f (drained_of (view old)))
drainer_went f old new is same went = grind (arith, nat_tests, is.role_is, same.2, is.free)

pub drainer_stays : (old new : Pass Update Role) (before batch : List Update) (d : DrainerShape) → drainer_shape old before ≡ d → new.table_id ≡ old.table_id → view new ≡ view old → batch ≡ [] → drainer_shape new batch ≡ record d { batch = [] }
drainer_stays old new before batch d is table same none = grind (arith, nat_tests)

-- an update was added to the batch that was begun last
pub added : (holds : Holds) (old new : Pass Update Role) (batch more : List Update) (u : Update) (d : DrainerShape) → IsDrainer old → drainer_shape old batch ≡ record d { batch = batch; taken = d.taken ++ batch ∷ [] } → IsSamePass old new → adds holds (view old) u (view new) → more ≡ batch ++ u ∷ [] → All (λ v. v.client < d.clients) batch
    → (drainer_shape new more ≡ record d { batch = more; taken = d.taken ++ more ∷ [] }) × IsDrainer new × All (λ v. v.client < d.clients) more × AreNumbered (d.taken ++ more ∷ []) × HoldsOf holds (all_updates (d.taken ++ more ∷ []))
added holds old new batch more u d is look same went all_are all =
    let now = drainer_went (with_added u) old new is same went.0 in
    let clients : (drained_of (view old)).clients ≡ d.clients = ap (λ (z : DrainerShape). z.clients) look in
    let taken : (drained_of (view new)).taken ≡ d.taken ++ more ∷ [] = ap (λ (z : Drained). z.taken) now.1 ∙ ap (λ (z : DrainerShape). with_last u z.taken) look ∙ last_added d.taken batch u ∙ ap (λ us. d.taken ++ us ∷ []) (sym all_are) in (
      (λ i. record { intake = (ap intake_of same.0 ∙ ap (λ (z : DrainerShape). z.intake) look) i; batch = more; clients = (ap (λ (z : Drained). z.clients) now.1 ∙ clients) i; taken = taken i; joined = (ap (λ (z : Drained). z.joined) now.1 ∙ ap (λ (z : DrainerShape). z.joined) look) i }),
      now.0,
      subst (λ (us : List Update). All (λ v. v.client < d.clients) us) (sym all_are) (All-push (λ v. v.client < d.clients) batch u all (subst (λ (n : ℕ). u.client < n) clients went.1.client_in)),
      subst AreNumbered taken went.1.numbers,
      subst (λ (batches : List (List Update)). HoldsOf holds (all_updates batches)) taken went.1.invariant,
    )

-- client n was split off, and is put at the end of the clients that were split off before
pub client_came : (old new client : Pass Update Role) (intake : IntakeShape) (n : ℕ) (before after : List ClientShape)
    → IsDrainer old → IsSamePass old new → view new ≡ with_client (view old) → drained_of (view old) ≡ record { clients = n; taken = []; joined = [] } → view client ≡ client_of (view old) → intake_of client.table_id ≡ intake
    → before ≡ map (new_client intake) (range_with_len 0 n) → after ≡ before ++ client_shape client ∷ []
    → IsDrainer new × (drained_of (view new) ≡ record { clients = n + 1; taken = []; joined = [] }) × (after ≡ map (new_client intake) (range_with_len 0 (n + 1)))
client_came old new client intake n before after is same went state came table listed more =
    let now = drainer_went (λ d. record d { clients = d.clients + 1 }) old new is same went in
    let its : client_shape client ≡ new_client intake n = (λ i. record { intake = table i; number = (submitted_of (came i)).client; sent = (submitted_of (came i)).items }) ∙ ap (λ (z : Drained). new_client intake z.clients) state in (
      now.0,
      now.1 ∙ ap (λ (z : Drained). record z { clients = z.clients + 1 }) state,
      more ∙ (λ i. listed i ++ its i ∷ []) ∙ sym (map-range_with_len_more (new_client intake) 0 n n (omega arith)),
    )

-- a client was taken in
pub joined_now : (old new client : Pass Update Role) → IsDrainer old → IsSamePass old new → view new ≡ took_in (view old) (view client) → IsDrainer new × (drained_of (view new) ≡ record (drained_of (view old)) { joined = (drained_of (view old)).joined ++ submitted_of (view client) ∷ [] })
joined_now old new client is same went = drainer_went (λ d. record d { joined = d.joined ++ submitted_of (view client) ∷ [] }) old new is same went

-- the updates drained of the client that was taken in
pub joined_prefix : (holds : Holds) (old now new client : Pass Update Role) (c : ClientShape) → drained_of (view now) ≡ record (drained_of (view old)) { joined = (drained_of (view old)).joined ++ submitted_of (view client) ∷ [] } → client_shape client ≡ c → view new ≡ view now → (items : List Update) → drain_learns holds (view now) items
    → IsPrefix (updates_of c.number (all_updates (drained_of (view new)).taken)) (updates_in (submitted c))
joined_prefix holds old now new client c state is same items learned =
    let s : Submitted = submitted_of (view client) in
    let on : Contains (drained_of (view now)).joined s = subst (λ (z : Drained). Contains z.joined s) (sym state) (Contains-push (drained_of (view old)).joined s) in
    let taken : List (List Update) = (drained_of (view new)).taken in
    let whole : updates_of s.client (all_updates taken) ++ updates_of s.client items ≡ updates_in s = sym (of_append s.client (all_updates taken) items) ∙ ap (λ v. updates_of s.client (all_updates (drained_of v).taken ++ items)) same ∙ learned.1 s on in
    subst (λ (z : ClientShape). IsPrefix (updates_of z.number (all_updates taken)) (updates_in (submitted z))) is (updates_of s.client items, whole)
