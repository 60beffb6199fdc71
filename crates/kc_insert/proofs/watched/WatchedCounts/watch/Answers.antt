use Rattle.std.proofs.Common.{◌-◌, ◌<◌, ◌≤◌, get_or, length, refl, ap, ◌∙◌, arith, rules}
use Rattle.std.proofs.lemmas.List.{get_or_read}
use Rattle.kc_graph.proofs.lemmas.Numbers.{has_number_at}
use Rattle.kc_insert.specs.private.Watched.{count_at}
use Rattle.kc_insert.proofs.Watching.{few_yes, few_no}
use Rattle.kc_insert.proofs.watched.WatchedCounts.watch.Goals.{then-index-most+in_ok-push, else-index-most}
use Rattle.kc_insert.proofs.watched.WatchedCounts.watch.Goals as goal

pub overflow_sub-v : goal.overflow_sub-v
overflow_sub-v c =
    let held = rw (← c.self.view_is) at c.requires (get_or c.args.vertices.now c.loop-v.v-index 0) (has_number_at _ c.args.vertices.now c.loop-v.v-index (omega arith) refl) in
    omega (arith, held.from, c.loop-v.invariant.0)

pub index-requires : goal.index-requires
index-requires c =
    let held = rw (← c.self.view_is) at c.requires (get_or c.args.vertices.now c.loop-v.v-index 0) (has_number_at _ c.args.vertices.now c.loop-v.v-index (omega arith) refl) in
    let inside : get_or c.args.vertices.now c.loop-v.v-index 0 - c.loop-v.self-inside.first < length c.loop-v.self-inside.counts.items = omega (arith, held.from, held.below, c.loop-v.invariant.0, ap length c.loop-v.invariant.1) in
    search rules

pub loop-v-preserved : goal.loop-v-preserved
loop-v-preserved c =
    let held = rw (← c.self.view_is) at c.requires (get_or c.args.vertices.now c.loop-v.v-index 0) (has_number_at _ c.args.vertices.now c.loop-v.v-index (omega arith) refl) in
    let place : get_or c.args.vertices.now c.loop-v.v-index 0 - c.self.inside.first < length c.self.inside.counts.items = omega (arith, held.from, held.below) in
    let read = get_or_read c.self.inside.counts.items (get_or c.args.vertices.now c.loop-v.v-index 0 - c.self.inside.first) c.index.result.now place (rw (c.loop-v.invariant.0, c.loop-v.invariant.1) at c.index.ensures) 0 in
    elim c.if-index-most.branch [
      | then-index-most+in_ok-push w ↦
          let few : count_at c.args.self.now (get_or c.args.vertices.now c.loop-v.v-index 0) ≤ c.args.most = rw (← c.self.view_is) (omega (arith, read, w.if-index-most.true)) in
          rw w.self-inside-is (c.loop-v.invariant.0, c.loop-v.invariant.1, c.loop-v.invariant.2, w.in_ok-push.ensures.items ∙ few_yes c.args.self.now c.loop-v.self-inside.doubtful.items c.args.vertices.now c.args.most c.loop-v.v-index (omega arith) few c.loop-v.invariant.3)
      | else-index-most w ↦
          let many : c.args.most < count_at c.args.self.now (get_or c.args.vertices.now c.loop-v.v-index 0) = rw (← c.self.view_is) (omega (arith, read, w.if-index-most.false)) in
          rw w.self-inside-is (c.loop-v.invariant.0, c.loop-v.invariant.1, c.loop-v.invariant.2, few_no c.args.self.now c.loop-v.self-inside.doubtful.items c.args.vertices.now c.args.most c.loop-v.v-index (omega arith) many c.loop-v.invariant.3)
    ]
