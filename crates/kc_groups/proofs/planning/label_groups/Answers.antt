use Rattle.std.proofs.Common.{◌≡◌, ◌||◌, length, arith}
use Rattle.kc_graph.proofs.lemmas.Numbers.{length-rising}
use Rattle.kc_groups.specs.Gathering.{vertices}
use Rattle.kc_groups.specs.private.Forest.{AreGathered}
use Rattle.kc_groups.specs.private.Gathering.{in_rows, in_edges}
use Rattle.kc_groups.proofs.WorkLemmas.{many}
use Rattle.kc_groups.proofs.PlanLemmas.{labels_here}
use Rattle.kc_groups.proofs.planning.label_groups.Goals as goal

pub join_ends-requires-clause-small : goal.join_ends-requires-clause-small
join_ends-requires-clause-small c =
    let few = length-rising c.args.graph.now.vertices 0 (vertices c.args.moves.now) c.requires.order.rises c.requires.order.below (omega arith) in
    omega (arith, few, many c.args.moves.now, c.vertices-n.ensures.small)

pub join_ends-requires-clause-forest : goal.join_ends-requires-clause-forest
join_ends-requires-clause-forest c = (c.requires.gathered.roots, c.requires.gathered.forest)

pub label-requires-clause-forest : goal.label-requires-clause-forest
label-requires-clause-forest c =
    let g = c.args.graph.now in
    let ms = c.args.moves.now in
    let gathered : AreGathered (length c.args.moves.now) (λ i j. in_rows c.args.graph.now (vertices c.args.moves.now) 0 (length c.args.moves.now) i j || in_edges c.args.gone.now (vertices c.args.moves.now) i j) c.join_ends.new.parents =
    c.join_ends.ensures (in_rows g (vertices ms) 0 (length ms)) c.requires.gathered in
    (gathered.roots, gathered.forest)

pub label-requires-clause-same : goal.label-requires-clause-same
label-requires-clause-same c =
    let g = c.args.graph.now in
    let ms = c.args.moves.now in
    let gathered : AreGathered (length c.args.moves.now) (λ i j. in_rows c.args.graph.now (vertices c.args.moves.now) 0 (length c.args.moves.now) i j || in_edges c.args.gone.now (vertices c.args.moves.now) i j) c.join_ends.new.parents =
    c.join_ends.ensures (in_rows g (vertices ms) 0 (length ms)) c.requires.gathered in
    gathered.sized

pub returns : goal.returns
returns c =
    let g = c.args.graph.now in
    let ms = c.args.moves.now in
    let gathered : AreGathered (length c.args.moves.now) (λ i j. in_rows c.args.graph.now (vertices c.args.moves.now) 0 (length c.args.moves.now) i j || in_edges c.args.gone.now (vertices c.args.moves.now) i j) c.join_ends.new.parents =
    c.join_ends.ensures (in_rows g (vertices ms) 0 (length ms)) c.requires.gathered in
    let long : length c.args.places.now ≡ c.args.graph.now.vertices = c.requires.numbered.sized in
    labels_here g c.args.gone.now ms c.vertices-n.ensures.graph c.requires.order c.requires.ascending c.join_ends.new.parents c.label.new.places gathered
    (λ roots f. rw long at (c.label.ensures roots f))
