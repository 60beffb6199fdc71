-- The items of updates, one after another.
use Rattle.std.proofs.Common.{ℕ, ◌≡◌, ◌<◌, ◌+◌, true, List, [], ◌∷◌, ◌++◌, length, get_or, take, sym, ap, ◌∙◌}
use Rattle.std.specs.Prelude.{◌&&◌}
use Rattle.std.proofs.lemmas.List.{take_more, map-append}
use Rattle.std.proofs.lemmas.List.Folds.{list_all_more}
use Rattle.kc_graph.specs.declared.items.Item.{Item}
use Rattle.kc_intake.specs.declared.updates.Update.{Update}
use Rattle.kserve.specs.private.Fitting.{is_due, are_due}
use Rattle.kserve.specs.Fitting.{items_of}

pub items_more : (us : List Update) (i : ℕ) (d : Update) (old new : List Item) → i < length us → old ≡ items_of (take i us) → new ≡ old ++ (get_or us i d).item ∷ [] → new ≡ items_of (take (i + 1) us)
items_more us i d old new lt e f =
    f ∙ (ap (λ xs. xs ++ (get_or us i d).item ∷ []) e ∙ (sym (map-append (λ (u : Update). u.item) (take i us) (get_or us i d ∷ [])) ∙ ap (λ vs. items_of vs) (sym (take_more us i d lt))))

pub due_more : (n : ℕ) (us : List Update) (i : ℕ) (d : Update) → i < length us → are_due n (take i us) ≡ true → is_due n (get_or us i d).item ≡ true → are_due n (take (i + 1) us) ≡ true
due_more n us i d lt e f = list_all_more (λ (u : Update). is_due n u.item) us i d lt ∙ (ap (λ b. b && is_due n (get_or us i d).item) e ∙ f)
