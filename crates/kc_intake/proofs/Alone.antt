-- An intake whose updates are all of one client.
use Rattle.std.proofs.Common.{◌≡◌, ℕ, ◌+◌, ◌≤◌, List, [], ◌∷◌, ◌++◌, suc, length, sym, refl, ap, ◌∙◌, append_assoc, arith}
use Rattle.std.proofs.lemmas.List.{length-append}
use Rattle.std.proofs.lemmas.Bool.Decides.{nat_tests}
use Rattle.kc_graph.specs.declared.items.Item.{Item}
use Rattle.kc_intake.specs.declared.updates.Update.{Update}
use Rattle.kc_intake.specs.declared.roles.Submitted.{Submitted}
use Rattle.kc_intake.specs.declared.roles.Role.TheVariants.{Submits}
use Rattle.kc_intake.specs.Updates.{updates_of, numbered, all_updates}
use Rattle.kc_intake.specs.Causes.{StaysAtSubmit, StaysAtDrain, HeldAtStep}
use Rattle.kc_intake.specs.OneClient.{AreOf, FillsAlone}
use Rattle.kc_intake.proofs.Lists.{of_append, of_own}

numbered_length : (c n : ℕ) (items : List Item) → length (numbered c n items) ≡ length items
numbered_length c n [] = refl
numbered_length c n (x ∷ xs) = ap suc (numbered_length c (n + 1) xs)

submits_stays : (n : ℕ) (s : Submitted) (item : Item) → StaysAtSubmit (AreOf s.client) n s item
submits_stays n s item drained waiting few whole own = grind (arith, nat_tests, append_assoc, of_append, of_own)

drains_stays : (c : ℕ) → StaysAtDrain (AreOf c)
drains_stays c drained waiting u own = let e = append_assoc drained (u ∷ []) waiting in ap (λ us. updates_of c us) e ∙ own ∙ sym e

full_once_sent : (n : ℕ) (s : Submitted) → HeldAtStep (AreOf s.client) n (Submits s) → n ≤ length s.items
full_once_sent n s h =
    let drained : List Update = all_updates h.2.kept.state.taken in
    let mine = h.2.kept.passes h.2.pass (Submits s) h.2.at in
    let all : drained ++ h.0 ≡ numbered s.client 0 s.items = sym h.2.kept.invariant ∙ h.2.kept.whole s.client ∙ ap (numbered s.client 0) (sym mine.1) in
    omega (arith, sym (length-append drained h.0) ∙ ap length all ∙ numbered_length s.client 0 s.items, h.1)

pub fills_alone : FillsAlone
fills_alone = record { begins = λ c. refl; submits = submits_stays; drains = drains_stays; full = full_once_sent }
