use Rattle.std.proofs.Common.{ℕ, ◌≡◌, ◌∙◌, List, length, take, ap}
use Rattle.std.specs.Prelude.{filter, not}
use Rattle.smallvec.proofs.SmallVecLemmas.{items-with_items}
use Rattle.kc_graph.specs.private.HalfLists.{halves_of}
use Rattle.kc_graph.specs.private.Halves.{has_second}
use Rattle.kc_graph.proofs.MergeLemmas.{rises_filter}
use Rattle.kc_graph.proofs.rows.Row.keep_others.Goals as goal

kept : (c : goal.After-truncate) → c.truncate.new.self.items ≡ filter (λ x. not (has_second x (halves_of c.args.outgoing))) c.self.inside.items.items
kept c =
    c.truncate.ensures.items
    ∙ ap (take c.keep_others-kept.result) (items-with_items c.self.inside.items c.keep_others-kept.new.items (c.keep_others-kept.auto.items ∙ ap (λ (xs : List ℕ). length xs) c.as_mut_slice.ensures.value))
    ∙ c.keep_others-kept.ensures.kept
    ∙ ap (filter (λ x. not (has_second x (halves_of c.args.outgoing)))) c.as_mut_slice.ensures.value

pub invariant_of-self : goal.invariant_of-self
invariant_of-self c = rw (kept c) (rises_filter 0 _ _ c.self.invariant)

pub returns-clause-value : goal.returns-clause-value
returns-clause-value c = kept c ∙ ap (filter (λ x. not (has_second x (halves_of c.args.outgoing)))) c.self.view_is

pub returns-clause-rises : goal.returns-clause-rises
returns-clause-rises c = rw (kept c) (rises_filter 0 _ _ c.self.invariant)
