use Rattle.std.proofs.Common.{◌≡◌, get_or, max, min, ap, sym, ◌∙◌, arith}
use Rattle.kc_groups.proofs.ForestLemmas.{forest_merged, forest_same, joined_root}
use Rattle.kc_groups.proofs.forest.join.Goals as goal

pub find-second-requires-clause-forest : goal.find-second-requires-clause-forest
find-second-requires-clause-forest c = (c.requires.forest.0, c.find-first.ensures.forest c.requires.forest.0 c.requires.forest.1)

pub bounds-parents-max : goal.bounds-parents-max
bounds-parents-max c =
    let roots = c.requires.forest.0 in
    let f = c.requires.forest.1 in
    let first : c.find-first.result ≡ get_or c.requires.forest.0 c.args.first 0 = c.find-first.ensures.root roots f in
    let second : c.find-second.result ≡ get_or c.requires.forest.0 c.args.second 0 = c.find-second.ensures.root roots (c.find-first.ensures.forest roots f) in
    omega (arith, first, second, f.low c.args.first c.requires.first, f.low c.args.second c.requires.second, c.max.ensures, c.find-first.ensures.sized, c.find-second.ensures.sized, c.requires.first, c.requires.second)

pub returns-clause-forest : goal.returns-clause-forest
returns-clause-forest c roots f =
    let first : c.find-first.result ≡ get_or roots c.args.first 0 = c.find-first.ensures.root roots f in
    let middle = c.find-first.ensures.forest roots f in
    let second : c.find-second.result ≡ get_or roots c.args.second 0 = c.find-second.ensures.root roots middle in
    let last = c.find-second.ensures.forest roots middle in
    let high : c.max.result ≡ max (get_or roots c.args.first 0) (get_or roots c.args.second 0) = c.max.ensures ∙ ap (λ u. max u c.find-second.result) first ∙ ap (λ u. max (get_or roots c.args.first 0) u) second in
    let low : c.min-root.result ≡ min (get_or roots c.args.first 0) (get_or roots c.args.second 0) = c.min-root.ensures ∙ ap (λ u. min u c.find-second.result) first ∙ ap (λ u. min (get_or roots c.args.first 0) u) second in
    rw (high, low)
    (forest_merged c.find-second.new.parents roots c.args.first c.args.second last (omega (arith, c.find-first.ensures.sized, c.find-second.ensures.sized, c.requires.first)) (omega (arith, c.find-first.ensures.sized, c.find-second.ensures.sized, c.requires.second)))

pub returns-clause-same : goal.returns-clause-same
returns-clause-same c roots f =
    let old = c.requires.forest.0 in
    let first : c.find-first.result ≡ get_or c.requires.forest.0 c.args.first 0 = c.find-first.ensures.root old c.requires.forest.1 in
    let second : c.find-second.result ≡ get_or c.requires.forest.0 c.args.second 0 = c.find-second.ensures.root old (c.find-first.ensures.forest old c.requires.forest.1) in
    let low : c.min-root.result ≡ min (get_or c.requires.forest.0 c.args.first 0) (get_or c.requires.forest.0 c.args.second 0) = c.min-root.ensures ∙ ap (λ u. min u c.find-second.result) first ∙ ap (λ u. min (get_or old c.args.first 0) u) second in
    joined_root old _ roots c.args.first c.args.second (returns-clause-forest c old c.requires.forest.1) f (omega (arith, c.requires.forest.1.sized, c.requires.first)) c.min-root.result low

pub returns-then-parents-first-clause-forest : goal.returns-then-parents-first-clause-forest
returns-then-parents-first-clause-forest c roots f =
    let same : get_or roots c.args.first 0 ≡ get_or roots c.args.second 0 = sym (f.same c.args.first c.requires.first) ∙ ap (λ u. get_or roots u 0) c.if-parents-first.true ∙ f.same c.args.second c.requires.second in
    forest_same c.args.parents.now roots c.args.first c.args.second f same
