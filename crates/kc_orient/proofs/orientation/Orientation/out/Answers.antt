use Rattle.std.proofs.Common.{ℕ, ◌≡◌, ◌<◌, ◌+◌, List, [], length, get_or, sym, ap, ◌∙◌, arith, subst}
use Rattle.std.specs.Prelude.{All}
use Rattle.std.specs.List.{slice_range}
use Rattle.std.proofs.lemmas.List.{get_or_read}
use Rattle.kc_graph.specs.Numbers.{RisesFrom}
use Rattle.kc_graph.proofs.lemmas.Numbers.{all_from_below}
use Rattle.kc_orient.specs.Shape.{OrientationShape, IsOriented}
use Rattle.kc_orient.proofs.Kept.{shape-at, fewer_out}
use Rattle.kc_orient.proofs.orientation.Orientation.out.Goals as goal
use Rattle.kc_orient.proofs.orientation.Orientation.out.Goals.{After-result-1}

oriented : (c : After-result-1) → IsOriented c.args.self.now
oriented c = subst IsOriented c.self.view_is c.self.invariant.oriented

-- the part of the heads is the list of v
read : (c : After-result-1) → slice_range c.deref.result.now c.index.result.now c.index-2.result.now ≡ get_or c.args.self.now.outs c.args.v []
read c =
    let s = c.self.inside in
    let same = ap (λ (o : OrientationShape). length o.levels) c.self.view_is in
    let h : c.args.v < length c.self.inside.levels = omega (arith, c.requires, same) in
    let start : c.index.result.now ≡ get_or c.self.inside.starts.items c.args.v 0 = get_or_read c.self.inside.starts.items c.args.v c.index.result.now (omega (arith, c.self.invariant.sized, h)) c.index.ensures 0 in
    let end : c.index-2.result.now ≡ get_or c.self.inside.starts.items (c.args.v + 1) 0 = get_or_read c.self.inside.starts.items (c.args.v + 1) c.index-2.result.now (omega (arith, c.self.invariant.sized, h)) c.index-2.ensures 0 in
    rw (c.deref.ensures.value, start, end) (sym (shape-at c.self.inside.levels c.self.inside.starts.items c.self.inside.heads.items c.args.v h) ∙ ap (λ (o : OrientationShape). get_or o.outs c.args.v []) c.self.view_is)

pub returns-clause-value : goal.returns-clause-value
returns-clause-value c = read c

pub returns-clause-ascending : goal.returns-clause-ascending
returns-clause-ascending c = subst (RisesFrom 0) (sym (read c)) ((oriented c).ascending c.args.v)

pub returns-clause-below : goal.returns-clause-below
returns-clause-below c =
    let n = length c.args.self.now.levels in
    subst (All (λ (w : ℕ). w < n)) (sym (read c)) (all_from_below n (get_or c.args.self.now.outs c.args.v []) ((oriented c).below c.args.v))

pub returns-clause-fewer : goal.returns-clause-fewer
returns-clause-fewer c =
    let n = length c.args.self.now.levels in
    subst (λ (ws : List ℕ). length ws < n) (sym (read c)) (fewer_out c.args.self.now c.args.v (oriented c) c.requires)

pub returns-clause-small : goal.returns-clause-small
returns-clause-small c = (oriented c).small
