use Rattle.std.proofs.Common.{◌<◌, length, rules, arith}
use Rattle.std.proofs.lemmas.List.{get_or_read}
use Rattle.std.proofs.lemmas.Bool.Decides.{nat_tests}
use Rattle.kc_delete.proofs.WaitingLemmas.{popped_there, popped_fewer, popped_waits, popped_free}
use Rattle.kc_delete.proofs.waiting.take_from.Goals as goal

pub index-requires : goal.index-requires
index-requires c =
    let vertex : c.in-Some.v < length c.loop-v.marks.items = rw c.loop-v.invariant.marks (c.requires.inside c.in-Some.v (c.loop-v.invariant.fewer c.in-Some.v (popped_there _ _ _ c.in-Some.ensures.items))) in
    search rules

pub index_mut-requires : goal.index_mut-requires
index_mut-requires c = grind (arith, nat_tests, popped_there, c.loop-v.invariant.marks, c.requires.inside, c.loop-v.invariant.fewer, c.in-Some.ensures.items)

pub returns-then-index-clause-inside : goal.returns-then-index-clause-inside
returns-then-index-clause-inside c = c.requires.inside c.in-Some.v (c.loop-v.invariant.fewer c.in-Some.v (popped_there _ _ _ c.in-Some.ensures.items))

pub returns-then-index-clause-waited : goal.returns-then-index-clause-waited
returns-then-index-clause-waited c = grind (arith, nat_tests, popped_there, get_or_read, c.loop-v.invariant.marks, c.requires.inside, c.loop-v.invariant.fewer, c.in-Some.ensures.items, c.index.ensures, c.if-index.true)

pub returns-then-index-clause-fewer : goal.returns-then-index-clause-fewer
returns-then-index-clause-fewer c = λ u there. c.loop-v.invariant.fewer u (popped_fewer _ _ _ c.in-Some.ensures.items u there)

pub returns-then-index-clause-still : goal.returns-then-index-clause-still
returns-then-index-clause-still c = grind (arith, nat_tests, popped_there, popped_waits, c.loop-v.invariant.marks, c.requires.inside, c.loop-v.invariant.fewer, c.in-Some.ensures.items, c.loop-v.invariant.still)

pub loop-v-preserved : goal.loop-v-preserved
loop-v-preserved c = grind (arith, nat_tests, popped_there, get_or_read, popped_fewer, popped_free, c.loop-v.invariant.marks, c.requires.inside, c.loop-v.invariant.fewer, c.in-Some.ensures.items, c.index.ensures, c.if-index.false, c.loop-v.invariant.still)
