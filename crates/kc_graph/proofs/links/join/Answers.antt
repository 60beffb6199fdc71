use Rattle.std.proofs.Common.{◌∙◌, [], set, arith, ap}
use Rattle.std.proofs.lemmas.List.{get_or_read, length-set}
use Rattle.kc_graph.specs.private.Numbers.{put, without}
use Rattle.kc_graph.proofs.KeptLemmas.{undone}
use Rattle.kc_graph.proofs.links.join.Goals as goal

pub returns-in-Err-clause-err : goal.returns-in-Err-clause-err
returns-in-Err-clause-err c =
    let a = c.args.a in
    let b = c.args.b in
    let rows = c.args.rows.now.items in
    let r1 = c.insert.new.self in
    let r2 = c.insert-2.new.self in
    let is1 = c.in_ok-insert.ensures.ok ∙ ap (put b) (get_or_read rows a _ (omega arith) c.index_mut.ensures.value []) in
    let is2 = c.in-Err.ensures.err ∙ get_or_read (set rows a r1) b _ (rw length-set (omega arith)) c.index_mut-2.ensures.value [] in
    let is3 = c.remove.ensures.value ∙ ap (without b) (get_or_read (set (set rows a r1) b r2) a _ (rw (length-set, length-set) (omega arith)) c.index_mut-in-Err.ensures.value []) in
    undone a b rows r1 r2 _ c.requires.order c.requires.below c.requires.apart is1 is2 is3
