use Rattle.std.proofs.Common.{arith}
use Rattle.kc_engine.proofs.BatchLemmas.{fits, few_added}
use Rattle.kc_engine.proofs.engine.Engine.refusal_of.Goals as goal

pub overflow_cast-left : goal.overflow_cast-left
overflow_cast-left c =
    let sorted = rw c.graph.ensures at c.vertices-n.ensures.graph in
    let f = fits c.self.inside.phased.adj.graph c.args.cleaned.now sorted (rw (← c.self.view_is) at c.requires.cleaning) in
    let few = rw c.graph-2.ensures at c.edge_count.ensures.few in
    omega (arith, c.len.ensures, f.removed_fewer, few)

pub overflow_sub-left : goal.overflow_sub-left
overflow_sub-left c =
    let sorted = rw c.graph.ensures at c.vertices-n.ensures.graph in
    let f = fits c.self.inside.phased.adj.graph c.args.cleaned.now sorted (rw (← c.self.view_is) at c.requires.cleaning) in
    let count = rw c.graph-2.ensures at c.edge_count.ensures.count in
    omega (arith, c.len.ensures, f.removed_fewer, count)

pub overflow_cast-edges : goal.overflow_cast-edges
overflow_cast-edges c =
    let sorted = rw c.graph.ensures at c.vertices-n.ensures.graph in
    let few = few_added c.self.inside.phased.adj.graph c.args.cleaned.now sorted (rw (← c.self.view_is) at c.requires.cleaning) in
    omega (arith, c.len-2.ensures, few)

pub overflow_add-edges : goal.overflow_add-edges
overflow_add-edges c =
    let sorted = rw c.graph.ensures at c.vertices-n.ensures.graph in
    let few = few_added c.self.inside.phased.adj.graph c.args.cleaned.now sorted (rw (← c.self.view_is) at c.requires.cleaning) in
    let count = rw c.graph-2.ensures at c.edge_count.ensures.few in
    omega (arith, c.len-2.ensures, few, c.edge_count.ensures.count, c.edge_count.ensures.few)
