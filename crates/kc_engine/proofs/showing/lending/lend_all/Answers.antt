use Rattle.std.proofs.Common.{rules, ◌≡◌, ◌+◌, ◌*◌, ◌≤◌, ℕ, List, [], ◌∷◌, ◌++◌, sym, ap, ◌∙◌, subst, arith, ⊎_elim, inl, inr}
use Rattle.std.specs.Prelude.{vec_len, vec_capacity}
use Rattle.kc_store.specs.declared.roles.WriterState.{WriterState}
use Rattle.kc_store.specs.Seats.{MarkerShape, WriterShape}
use Rattle.kc_store.specs.States.{marker_for}
use Rattle.kc_engine.specs.private.Lending.{AreLent}
use Rattle.kc_engine.proofs.Loans.{lent_more, next_place}
use Rattle.kc_engine.proofs.showing.lending.lend_all.Goals as goal
use Rattle.kc_engine.proofs.showing.lending.lend_all.Goals.{then-from-moves, else-from-moves}

pub loop-worker-preserved : goal.loop-worker-preserved
loop-worker-preserved c =
    let inv = c.loop-worker.invariant in
    let old = c.args.writer.now in
    let mid = c.loop-worker.writer in
    let later = c.if-from-moves in
    let k : ℕ = c.loop-worker._worker in
    let size : ℕ = c.range_size-size.result in
    let more = next_place k size in
    elim c.if-from-moves.branch [
      | then-from-moves w ↦
          let to : ℕ = w.range_end-to.result in
          let made : w.lend-marker.result ≡ record { table = old.table; state = marker_for c.args.group.now.g c.loop-worker.from to mid.state } =
          w.lend-marker.ensures.marker ∙ ap (λ t. record { table = t; state = marker_for c.args.group.now.g c.loop-worker.from to mid.state }) inv.0 in
          let pushed : later.markers.items ≡ c.loop-worker.markers.items ++ w.lend-marker.result ∷ [] = search rules in
          let longer : vec_len later.markers ≡ vec_len c.loop-worker.markers + 1 = search rules in
          let wider : vec_capacity c.loop-worker.markers ≤ vec_capacity later.markers = search rules in
          let went = w.writer-is ∙ w.lend-marker.ensures.lent in
          let before = w.if-from-moves.true in (
            ap (λ (z : WriterShape). z.table) went ∙ inv.0,
            subst (λ (z : ℕ). AreLent old.table c.args.group.now.g z old.state later.writer.state later.markers.items) (sym w.from-is)
                (lent_more old.table c.args.group.now.g c.loop-worker.from to old.state mid.state later.writer.state c.loop-worker.markers.items later.markers.items w.lend-marker.result inv.1 w.range_end-to.ensures.later (ap (λ (z : WriterShape). z.state) went) made pushed),
            omega (arith, w.range_end-to.ensures.inside, w.from-is),
            ⊎_elim (λ (e : to ≡ c.args.group.now.moves). inl (w.from-is ∙ e))
                (λ (e : to ≡ c.loop-worker.from + size).
                ⊎_elim (λ (f : c.loop-worker.from ≡ c.args.group.now.moves). absurd (omega (arith, f, before)))
                (λ (f : c.loop-worker.from ≡ k * size). inr (w.from-is ∙ (e ∙ (ap (λ (z : ℕ). z + size) f ∙ sym more))))
                inv.3)
                w.range_end-to.ensures.long,
            omega (arith, longer, inv.4),
            omega (arith, wider, inv.5),
          )
      | else-from-moves w ↦
          let length = ap (λ v. vec_len v) w.markers-is in
          let capacity = ap (λ v. vec_capacity v) w.markers-is in (
            ap (λ (z : WriterShape). z.table) w.writer-is ∙ inv.0,
            subst (λ (z : ℕ × WriterState × List MarkerShape). AreLent old.table c.args.group.now.g z.0 old.state z.1 z.2)
                (λ i. (sym w.from-is i, (sym w.writer-is i).state, (sym w.markers-is i).items)) inv.1,
            omega (arith, w.from-is, inv.2),
            inl (let e : later.from ≡ c.args.group.now.moves = omega (arith, w.from-is, inv.2, w.if-from-moves.false) in e),
            omega (arith, length, inv.4),
            omega (arith, capacity, inv.5),
          )
    ]
