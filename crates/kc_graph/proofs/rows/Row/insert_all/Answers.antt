use Rattle.std.proofs.Common.{get_or, refl, arith}
use Rattle.kc_graph.specs.private.HalfLists.{halves_of}
use Rattle.kc_graph.proofs.HalfLemmas.{on_ok, given_one}
use Rattle.kc_graph.proofs.rows.Row.insert_all.Goals as goal

pub returns-then-len-eq1-clause-ok : goal.returns-then-len-eq1-clause-ok
returns-then-len-eq1-clause-ok c =
    let hs = halves_of c.args.incoming in
    on_ok c.insert.result _ _ (λ is. given_one c.args.self.now c.insert.new.self hs (get_or hs 0 (0, 0)) (0, 0) c.other_at.result (omega (arith, c.if-len-eq1.true, c.len.ensures)) (omega (arith, c.if-len-eq1.true, c.len.ensures)) refl c.other_at.ensures is) c.insert.ensures.ok
