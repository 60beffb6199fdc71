use Rattle.std.proofs.Common.{◌<◌, length, arith, ◌∙◌}
use Rattle.std.proofs.lemmas.Bool.Decides.{nat_tests}
use Rattle.kc_delete.specs.private.Waiting.{IsTaken}
use Rattle.kc_delete.proofs.SettlingLemmas.{settling_sifted, after_fall, work_taken}
use Rattle.kc_delete.proofs.settling.lower_levels.Goals as goal

pub loop-v-preserved-in-Continue-branch-4 : goal.loop-v-preserved-in-Continue-branch-4
loop-v-preserved-in-Continue-branch-4 g c =
    let t : IsTaken c.args.th.now.profile c.loop-v.adj.graph c.loop-v.adj.levels c.loop-v.waiting c.next.new.self c.in-Some.v = rw c.in-Some.is at c.in_ok-v.ensures.some in
    let s = settling_sifted _ _ _ _ _ _ _ c.loop-v.invariant.0 c.loop-v.invariant.1 t.sifted in
    let fell = after_fall _ _ _ c.loop-v.adj c.fall.new.self t.between c.next.new.self c.add_short_neighbours.new.waiting c.in-Some.v c.level-from.result c.desired_near-to.result
    c.requires.graph c.loop-v.invariant.0 s t.inside t.taken c.level-from.ensures c.desired_near-to.ensures c.fall.ensures.value
    c.in_ok-add_short_neighbours.ensures.sized c.in_ok-add_short_neighbours.ensures.still c.in_ok-add_short_neighbours.ensures.looked in
    let inside : c.in-Some.v < length c.loop-v.adj.levels = omega (arith, t.inside, s.sized, s.lowering.sized) in
    let under = s.lowering.under c.in-Some.v (omega (arith, t.inside, s.sized)) in
    let noted = rw c.loop-v.invariant.2 at c.in_ok-note.ensures.noted in (
      fell.0,
      fell.1,
      c.note.ensures.before ∙ c.loop-v.invariant.2,
      rw c.fall.ensures.value (noted c.loop-v.adj.levels c.desired_near-to.result c.loop-v.invariant.3 inside c.level-from.ensures (omega (arith, under, c.level-from.ensures)) (omega arith)),
    )

pub loop-v-smaller : goal.loop-v-smaller
loop-v-smaller g c = grind (arith, nat_tests, work_taken, c.in-Some.is, c.in_ok-v.ensures.some)
