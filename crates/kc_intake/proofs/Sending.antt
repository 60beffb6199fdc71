-- A client's push keeps the rule, and the facts that the client learns if the queue is full.
use Rattle.std.proofs.Common.{◌≡◌, ◌≢◌, ℕ, List, [], ◌∷◌, ◌++◌, Option, Some, None, length, sym, refl, ap, ◌∙◌, subst, append_assoc, arith}
use Rattle.std.proofs.lemmas.Bool.Decides.{nat_tests}
use mathlib.Core.Logic.{dite}
use native.Mathlib.Decide.{ℕ_discrete}
use Rattle.crossbeam_queue.specs.Fifo.{Pushes, Learns}
use Rattle.kc_graph.specs.declared.items.Item.{Item}
use Rattle.kc_intake.specs.declared.updates.Update.{Update}
use Rattle.kc_intake.specs.declared.roles.Submitted.{Submitted}
use Rattle.kc_intake.specs.declared.roles.Drained.{Drained}
use Rattle.kc_intake.specs.declared.roles.Role.{Role}
use Rattle.kc_intake.specs.declared.roles.Role.TheVariants.{Submits}
use Rattle.kc_intake.specs.Updates.{updates_of, numbered, all_updates}
use Rattle.kc_intake.specs.Views.{submitted_of}
use Rattle.kc_intake.specs.Rule.{PassHolds, IsKept}
use Rattle.kc_intake.specs.Causes.{Holds, MayWait, StaysAtSubmit}
use Rattle.kc_intake.specs.private.Steps.{with_sent, sends}
use Rattle.kc_intake.proofs.Lists.{changed, changed_here, changed_else, of_more, of_same}
use Rattle.kc_intake.proofs.Passes.{views_set, same_pass}

pub seen : (holds : Holds) (pass : ℕ) (v : Role) → Learns (IsKept holds) pass v (MayWait holds v)
seen holds pass v items views r at = record { views = views; pass = pass; kept = r; at = at }

-- the knowledge of another pass stays true
others_stay : (drainer : ℕ) (state : Drained) (pass : ℕ → Option ℕ) (sent : ℕ → List Item) (c j : ℕ) (new : List Item) → pass c ≡ Some j → (k : ℕ) (v : Role) → k ≢ j → PassHolds drainer state pass sent k v → PassHolds drainer state pass (changed sent c new) k v
others_stay drainer state pass sent c j new mine k it other so = grind (arith, nat_tests, changed_else, same_pass)

sends_one : (holds : Holds) (n j : ℕ) (s : Submitted) (u : Update) → u.client ≡ s.client → u.serial ≡ length s.items → StaysAtSubmit holds n s u.item → Pushes (IsKept holds) n j (Submits s) u (sends (Submits s) u)
sends_one holds n j s u own next stays items views few r at =
    let mine = r.passes j (Submits s) at in
    let new : List Item = s.items ++ u.item ∷ [] in
    let sent : ℕ → List Item = changed r.sent s.client new in
    let absent : (c : ℕ) → r.pass c ≡ None → c ≢ s.client = (λ c none e. let t : None ≡ Some j = sym none ∙ ap r.pass e ∙ mine.0 in cc) in (
      Submits (with_sent u s),
      record {
        drainer = r.drainer;
        state = r.state;
        pass = r.pass;
        sent = sent;
        whole = λ c. ap (λ us. updates_of c us) (sym (append_assoc (all_updates r.state.taken) items (u ∷ [])))
            ∙ dite (ℕ_discrete c s.client)
            (λ e. of_more c (all_updates r.state.taken ++ items) u s.items (own ∙ sym e) next (r.whole c ∙ ap (numbered c 0) (ap r.sent e ∙ sym mine.1)) ∙ ap (numbered c 0) (sym (changed_here r.sent s.client new c e)))
            (λ n. of_same c (all_updates r.state.taken ++ items) u (λ e. n (sym e ∙ own)) ∙ r.whole c ∙ ap (numbered c 0) (sym (changed_else r.sent s.client new c n)));
        later = λ c le. let was = r.later c le in (was.0, changed_else r.sent s.client new c (absent c was.0) ∙ was.1);
        joined = λ t on. let was = r.joined t on in (was.0, was.1, was.2 ∙ sym (changed_else r.sent s.client new t.client (absent t.client was.1)));
        invariant = subst (λ (z : Update). holds (all_updates r.state.taken) (items ++ z ∷ [])) (λ i. record { client = sym own i; serial = sym next i; item = u.item })
            (stays (all_updates r.state.taken) items few (r.whole s.client ∙ ap (numbered s.client 0) (sym mine.1)) r.invariant);
        passes = views_set (PassHolds r.drainer r.state r.pass r.sent) (PassHolds r.drainer r.state r.pass sent) views j (Submits (with_sent u s)) (mine.0, sym (changed_here r.sent s.client new s.client refl))
            (others_stay r.drainer r.state r.pass r.sent s.client j new mine.0) r.passes;
      },
      refl,
    )

pub sends_from : (holds : Holds) (n j : ℕ) (v : Role) (u : Update) → v ≡ Submits (submitted_of v) → u.client ≡ (submitted_of v).client → u.serial ≡ length (submitted_of v).items → StaysAtSubmit holds n (submitted_of v) u.item → Pushes (IsKept holds) n j v u (sends v u)
sends_from holds n j v u is own next stays = subst (λ (z : Role). Pushes (IsKept holds) n j z u (sends z u)) (sym is) (sends_one holds n j (submitted_of v) u own next stays)
