use Rattle.std.proofs.Common.{ℕ, List, ◌≡◌, ◌<◌, ◌≤◌, ◌+◌, ◌*◌, get_or, length, take, drop, ap, ◌∙◌, sym, arith, rules, refl}
use Rattle.std.specs.Prelude.{Ok}
use Rattle.std.proofs.lemmas.List.{length-map}
use Rattle.std.proofs.lemmas.List.Elements.{All-drop, All-take}
use Rattle.std.proofs.lemmas.Result.{IfOk-at_ok}
use Rattle.kc_adj.specs.declared.passes.Visit.{Visit}
use Rattle.kc_adj.specs.private.Lifting.{IsLift, lift_cost}
use Rattle.kc_adj.specs.private.Passing.{visit_of}
use Rattle.kc_adj.proofs.LiftLemmas.{lifting_first, lifting_last, cost_last}
use Rattle.kc_adj.proofs.PassLemmas.{pieces_cover, rest_is, rest_next}
use Rattle.kc_adj.proofs.passes.par_lift_counts.Goals as goal

pub map_chunks-requires-clause-accepts : goal.map_chunks-requires-clause-accepts
map_chunks-requires-clause-accepts g c κs within = λ start p chunk. rw chunk.value (All-take (λ (v : ℕ). v < c.args.lift.now.graph.vertices) c.piece_len-size.result _ (All-drop (λ (v : ℕ). v < c.args.lift.now.graph.vertices) start c.args.vertices.now c.requires.vertices.inside))

pub loop-piece-init : goal.loop-piece-init
loop-piece-init g c =
    let is : IsLift c.args.lift.now = rw (← c.lift.view_is) c.lift.invariant in
    let none : 0 * c.piece_len-size.result ≡ 0 = omega arith in
    rw none (
      refl,
      lifting_first _ 0 _ _ is c.requires.vertices c.requires.adjacency.own_counts,
      lifting_first _ 1 _ _ is c.requires.vertices c.requires.adjacency.below_counts,
      refl,
    )

pub write_down-requires-clause-vertices : goal.write_down-requires-clause-vertices
write_down-requires-clause-vertices g c = rw c.loop-piece.invariant.0 (All-drop (λ (v : ℕ). v < c.args.lift.now.graph.vertices) (c.loop-piece.piece-index * c.piece_len-size.result) c.args.vertices.now c.requires.vertices.inside)

pub loop-piece-preserved : goal.loop-piece-preserved
loop-piece-preserved g c =
    let i = c.loop-piece.piece-index in
    let size = c.piece_len-size.result in
    let vertices = c.args.vertices.now in
    let rest = c.loop-piece.rest.now in
    let within : c.loop-piece.piece-index < length c.in_ok-found.found.items = search rules in
    let given = (c.in_ok-found.ensures.each i c.piece-item.result within).1 in
    let is : get_or c.in_ok-found.found.items c.loop-piece.piece-index c.piece-item.result ≡ Ok c.in-Ok.passed = search rules in
    let all = IfOk-at_ok _ is given.call in
    let here : given.argument.now ≡ take c.piece_len-size.result c.loop-piece.rest.now = given.argument_is.value ∙ ap (λ (ys : List ℕ). take size ys) (sym c.loop-piece.invariant.0) in
    let long : length c.in-Ok.passed.visits.items ≡ length (take c.piece_len-size.result c.loop-piece.rest.now) = ap (λ (ts : List Visit). length ts) all.visits ∙ length-map given.argument.now (visit_of c.args.lift.now) ∙ ap (λ (ys : List ℕ). length ys) here in
    let next : drop (length c.in-Ok.passed.visits.items) c.loop-piece.rest.now ≡ drop ((c.loop-piece.piece-index + 1) * c.piece_len-size.result) c.args.vertices.now = rest_next size i (length c.in-Ok.passed.visits.items) vertices rest c.loop-piece.invariant.0 long in
    let count : c.len.result ≡ length c.in-Ok.passed.visits.items = search rules in (
      rest_is c.len.result (length c.in-Ok.passed.visits.items) rest count ∙ next,
      rw next at c.write_down.ensures.own,
      rw next at c.write_down.ensures.below,
      omega (arith, ap (lift_cost c.args.lift.now) c.loop-piece.invariant.0, ap (lift_cost c.args.lift.now) next, c.write_down.ensures.cost, c.loop-piece.invariant.3),
    )

pub returns-clause-adjacency : goal.returns-clause-adjacency
returns-clause-adjacency g c =
    let is : IsLift c.args.lift.now = rw (← c.lift.view_is) c.lift.invariant in
    let end : length c.args.vertices.now ≤ c.loop-piece.piece-index * c.piece_len-size.result = pieces_cover (length c.args.vertices.now) c.loop-piece.piece-index c.piece_len-size.result (search rules) (search rules) in
    record {
      graph = is.graph;
      small = is.small;
      sized = is.after;
      own_counts = lifting_last _ 0 (c.loop-piece.piece-index * c.piece_len-size.result) c.args.vertices.now _ end is c.loop-piece.invariant.1;
      below_counts = lifting_last _ 1 (c.loop-piece.piece-index * c.piece_len-size.result) c.args.vertices.now _ end is c.loop-piece.invariant.2;
    }

pub returns-clause-cost : goal.returns-clause-cost
returns-clause-cost g c =
    let end : length c.args.vertices.now ≤ c.loop-piece.piece-index * c.piece_len-size.result = pieces_cover (length c.args.vertices.now) c.loop-piece.piece-index c.piece_len-size.result (search rules) (search rules) in
    omega (arith, cost_last c.args.lift.now c.args.vertices.now (c.loop-piece.piece-index * c.piece_len-size.result) end, c.loop-piece.invariant.3)
