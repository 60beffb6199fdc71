use Rattle.kc_graph.proofs.SearchLemmas.{is_ok-found}
use Rattle.kc_graph.proofs.rows.Row.has.Goals as goal

pub returns : goal.returns
returns c =
    let told = is_ok-found c.as_slice.result.now c.args.x c.place_of.result c.place_of.ensures in
    cc (told, c.is_ok.ensures.value)
