use Rattle.std.proofs.Common.{[], ap, sym, ◌∙◌, arith}
use Rattle.kc_groups.specs.Gathering.{clean, AreInOrder}
use Rattle.kc_groups.specs.private.Gathering.{is_mover}
use Rattle.kc_groups.specs.Links.{AreLabels}
use Rattle.kc_groups.proofs.PlanLemmas.{rooted_here, placed_moves, no_moves, none_else, no_edges, placed_edges, entries_are}
use Rattle.kc_groups.proofs.planning.plan_labelled.Goals as goal

pub open_groups-requires-clause-rooted : goal.open_groups-requires-clause-rooted
open_groups-requires-clause-rooted c =
    let g = c.requires.labelled.0 in
    let is = c.requires.labelled.1 in
    let ms = c.as_slice-moves.result.now in
    let labels = c.args.places.now in
    let are : AreLabels c.requires.labelled.0 (is_mover c.as_slice-moves.result.now) c.args.places.now = rw c.as_slice-moves.ensures is.are in
    let order : AreInOrder c.requires.labelled.0.vertices c.as_slice-moves.result.now = rw (c.as_slice-moves.ensures, sym is.are.sized) c.requires.order in
    rw (sym c.as_slice-moves.ensures) (rooted_here g [] ms is.graph order tt labels labels are)

pub deal_moves-requires-clause-placed : goal.deal_moves-requires-clause-placed
deal_moves-requires-clause-placed c =
    let g = c.requires.labelled.0 in
    let is = c.requires.labelled.1 in
    let ms = c.as_slice-moves.result.now in
    let labels = c.args.places.now in
    let are : AreLabels c.requires.labelled.0 (is_mover c.as_slice-moves.result.now) c.args.places.now = rw c.as_slice-moves.ensures is.are in
    let order : AreInOrder c.requires.labelled.0.vertices c.as_slice-moves.result.now = rw (c.as_slice-moves.ensures, sym is.are.sized) c.requires.order in
    placed_moves g [] ms is.graph order tt labels labels are c.args.phase.now.number c.args.phase.now.add c.open_groups.new.places c.open_groups.new.entries.items c.in_ok-open_groups.ensures.entries c.in_ok-open_groups.ensures.places

pub deal_moves-requires-clause-empty : goal.deal_moves-requires-clause-empty
deal_moves-requires-clause-empty c =
    let g = c.requires.labelled.0 in
    let is = c.requires.labelled.1 in
    let ms = c.as_slice-moves.result.now in
    let labels = c.args.places.now in
    let are : AreLabels c.requires.labelled.0 (is_mover c.as_slice-moves.result.now) c.args.places.now = rw c.as_slice-moves.ensures is.are in
    let order : AreInOrder c.requires.labelled.0.vertices c.as_slice-moves.result.now = rw (c.as_slice-moves.ensures, sym is.are.sized) c.requires.order in
    no_moves g [] ms is.graph order tt labels labels are c.args.phase.now.number c.args.phase.now.add c.open_groups.new.places c.open_groups.new.entries.items c.in_ok-open_groups.ensures.entries c.in_ok-open_groups.ensures.places

pub deal_edges-requires-clause-small : goal.deal_edges-requires-clause-small
deal_edges-requires-clause-small c = omega (arith, c.in_ok-open_groups.ensures.places.sized, c.requires.small)

pub deal_edges-requires-clause-placed : goal.deal_edges-requires-clause-placed
deal_edges-requires-clause-placed c =
    let g = c.requires.labelled.0 in
    let is = c.requires.labelled.1 in
    let ms = c.as_slice-moves.result.now in
    let labels = c.args.places.now in
    let are : AreLabels c.requires.labelled.0 (is_mover c.as_slice-moves.result.now) c.args.places.now = rw c.as_slice-moves.ensures is.are in
    let order : AreInOrder c.requires.labelled.0.vertices c.as_slice-moves.result.now = rw (c.as_slice-moves.ensures, sym is.are.sized) c.requires.order in
    placed_edges g [] ms is.graph order tt labels labels are c.args.phase.now.number c.args.phase.now.add c.open_groups.new.places c.open_groups.new.entries.items c.in_ok-open_groups.ensures.entries c.in_ok-open_groups.ensures.places c.deal_moves.new.entries.items c.in_ok-deal_moves.ensures c.args.phase.now.edges.now is.present

pub deal_edges-requires-clause-empty : goal.deal_edges-requires-clause-empty
deal_edges-requires-clause-empty c =
    let g = c.requires.labelled.0 in
    let is = c.requires.labelled.1 in
    let ms = c.as_slice-moves.result.now in
    let labels = c.args.places.now in
    let are : AreLabels c.requires.labelled.0 (is_mover c.as_slice-moves.result.now) c.args.places.now = rw c.as_slice-moves.ensures is.are in
    let order : AreInOrder c.requires.labelled.0.vertices c.as_slice-moves.result.now = rw (c.as_slice-moves.ensures, sym is.are.sized) c.requires.order in
    no_edges g [] ms is.graph order tt labels labels are c.args.phase.now.number c.args.phase.now.add c.open_groups.new.places c.open_groups.new.entries.items c.in_ok-open_groups.ensures.entries c.in_ok-open_groups.ensures.places c.deal_moves.new.entries.items c.in_ok-deal_moves.ensures

pub reset-requires-clause-few : goal.reset-requires-clause-few
reset-requires-clause-few c = omega (arith, c.in_ok-open_groups.ensures.places.sized, c.requires.small)

pub reset-requires-clause-order : goal.reset-requires-clause-order
reset-requires-clause-order c = rw (c.in_ok-open_groups.ensures.places.sized, c.as_slice-moves.ensures) c.requires.order

pub reset-requires-clause-none : goal.reset-requires-clause-none
reset-requires-clause-none c =
    let g = c.requires.labelled.0 in
    let is = c.requires.labelled.1 in
    let ms = c.as_slice-moves.result.now in
    let labels = c.args.places.now in
    let are : AreLabels c.requires.labelled.0 (is_mover c.as_slice-moves.result.now) c.args.places.now = rw c.as_slice-moves.ensures is.are in
    let order : AreInOrder c.requires.labelled.0.vertices c.as_slice-moves.result.now = rw (c.as_slice-moves.ensures, sym is.are.sized) c.requires.order in
    none_else g [] ms is.graph order tt labels labels are c.args.phase.now.number c.args.phase.now.add c.open_groups.new.places c.open_groups.new.entries.items c.in_ok-open_groups.ensures.entries c.in_ok-open_groups.ensures.places

pub returns-clause-clean : goal.returns-clause-clean
returns-clause-clean c = c.reset.ensures ∙ ap clean c.in_ok-open_groups.ensures.places.sized

pub returns-clause-entries : goal.returns-clause-entries
returns-clause-entries c g is =
    let ms = c.as_slice-moves.result.now in
    let labels = c.args.places.now in
    let are : AreLabels g (is_mover c.as_slice-moves.result.now) c.args.places.now = rw c.as_slice-moves.ensures is.are in
    let order : AreInOrder g.vertices c.as_slice-moves.result.now = rw (c.as_slice-moves.ensures, sym is.are.sized) c.requires.order in
    rw (c.new-quiet.ensures, c.from_vec.ensures, sym c.as_slice-moves.ensures)
    (entries_are g [] ms is.graph order tt labels labels are c.args.phase.now.number c.args.phase.now.add c.open_groups.new.places c.open_groups.new.entries.items c.in_ok-open_groups.ensures.entries c.in_ok-open_groups.ensures.places c.deal_moves.new.entries.items c.in_ok-deal_moves.ensures c.args.phase.now.edges.now is.present c.deal_edges.new.entries.items c.deal_edges.new.quiet
    c.in_ok-deal_edges.ensures.entries c.in_ok-deal_edges.ensures.quiet)
