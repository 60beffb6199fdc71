use Rattle.std.proofs.Common.{◌≡◌, ◌∙◌, ℕ, List, ltb, sym, subst}
use Rattle.std.proofs.lemmas.Result.{IfOk-weaker}
use Rattle.kc_dense.specs.private.Remaining.{is_left, AreRemaining}
use Rattle.kc_dense.proofs.RemainingLemmas.{remaining_first}
use Rattle.kc_dense.proofs.remaining.all_remaining.Goals as goal

first : (c : goal.After-drop-branch) (t : List ℕ) → t ≡ c.deref.result.now → ((u : ℕ) → is_left t u ≡ ltb u c.args.graph.now.vertices) × AreRemaining c.args.graph.now t
first c t is =
    let of = c.in_ok-degrees.ensures in
    subst (λ (xs : List ℕ). ((u : ℕ) → is_left xs u ≡ ltb u c.args.graph.now.vertices) × AreRemaining c.args.graph.now xs) (sym (is ∙ c.deref.ensures.value))
    (remaining_first c.args.graph.now c.in_ok-degrees.field-0.items c.vertices.ensures.graph c.vertices.ensures.small of.sized of.values of.small)

pub returns-clause-remaining : goal.returns-clause-remaining
returns-clause-remaining c = IfOk-weaker c.new.result _ _ (λ t is. (first c t is).1) c.new.ensures

pub returns-clause-all : goal.returns-clause-all
returns-clause-all c = IfOk-weaker c.new.result _ _ (λ t is. (first c t is).0) c.new.ensures
