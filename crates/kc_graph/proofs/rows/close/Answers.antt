use Rattle.std.proofs.Common.{ℕ, ◌++◌, ◌-◌, ◌≡◌, ◌∙◌, List, take, drop, ap, arith}
use Rattle.std.proofs.lemmas.List.{drop-drop, length-take-le}
use Rattle.std.proofs.lemmas.List.Edits.{remove-append_right}
use Rattle.std.specs.List.{remove}
use Rattle.kc_graph.proofs.rows.close.Goals as goal

pub loop-preserved : goal.loop-preserved
loop-preserved c =
    let xs = c.args.items.now.items in
    let from = c.args.from in
    let none : c.args.from - c.args.from ≡ 0 = omega arith in
    c.remove.ensures.items
    ∙ ap (λ (ys : List ℕ). remove ys from) c.loop.invariant
    ∙ remove-append_right (take from xs) (drop c.loop.counter xs) from from (length-take-le from xs (omega arith)) (omega arith)
    ∙ ap (λ n. take from xs ++ remove (drop c.loop.counter xs) n) none
    ∙ ap (λ (ys : List ℕ). take from xs ++ ys) (drop-drop 1 c.loop.counter xs)
