use Rattle.kc_adj.proofs.moves.shift.Goals as goal

pub returns-clause-adjacency : goal.returns-clause-adjacency
returns-clause-adjacency g c = rw c.set.ensures (rw c.as_slice.ensures at c.pass-own.ensures.adjacency)
