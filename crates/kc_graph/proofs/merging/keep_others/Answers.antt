use Rattle.std.proofs.Common.{◌≡◌, ◌≤◌, ◌<◌, ◌+◌, ◌∙◌, length, get_or, ap, arith}
use Rattle.std.proofs.lemmas.List.{take_all}
use Rattle.std.specs.Prelude.{filter, not}
use Rattle.kc_graph.specs.private.HalfLists.{halves_of}
use Rattle.kc_graph.specs.private.Halves.{has_second}
use Rattle.kc_graph.proofs.MergeLemmas.{IsKeeping, rises_strictly, keeping_it, taking_it, keeping_rises, keeping_run, keeping_past}
use Rattle.kc_graph.proofs.merging.keep_others.Goals.{then-searches, else-searches+then-loop-from-test+else-items-from, else-searches+else-loop-from-test, then-from-items+then-items-from-2, else-from-items, else-from-items-via-then-from-items+else-items-from-2, else-from-items-via-else-from-items}
use Rattle.kc_graph.proofs.merging.keep_others.Goals as goal

pub place_from-place-requires-clause-rises : goal.place_from-place-requires-clause-rises
place_from-place-requires-clause-rises c = (keeping_rises c.args.items.now (halves_of c.args.outgoing) c.loop-j.items c.loop-j.from c.loop-j.j c.loop-j.kept c.requires.rises c.requires.outgoing c.loop-j.invariant)

pub loop-from-preserved : goal.loop-from-preserved
loop-from-preserved c =
    let s = c.loop-from.invariant in
    let row = c.args.items.now in
    let hs = halves_of c.args.outgoing in
    let from = c.loop-from.from in
    let at : c.loop-from.from < length c.args.items.now = omega (arith, c.loop-from-test.true, s.sized) in
    let read : get_or c.loop-from.items c.loop-from.from 0 ≡ get_or c.args.items.now c.loop-from.from 0 = s.same from (omega arith) at in
    rw read (keeping_it row hs c.loop-from.items from c.loop-j.j c.loop-from.kept c.requires.rises c.requires.outgoing s c.loop-j.j at s.passed (λ m le lt. absurd (omega (arith, le, lt))) (λ lt. omega (arith, read, c.other_at-x.ensures, c.if-items-from.true)))

-- the numbers below x were moved, and the next one, if there is one, isn't below x
moved_below : (c : goal.Joined-from-items) →
    IsKeeping c.args.items.now (halves_of c.args.outgoing) c.if-searches.items c.if-searches.from c.loop-j.j c.if-searches.kept
    × (c.if-searches.from < length c.args.items.now → (get_or (halves_of c.args.outgoing) c.loop-j.j (0, 0)).1 ≤ get_or c.args.items.now c.if-searches.from 0)
moved_below c =
    let row = c.args.items.now in
    let hs = halves_of c.args.outgoing in
    let j = c.loop-j.j in
    let x_is : c.other_at-x.result ≡ (get_or (halves_of c.args.outgoing) c.loop-j.j (0, 0)).1 = c.other_at-x.ensures in
    elim c.if-searches.branch [
      | then-searches w ↦
          let s = c.loop-j.invariant in
          let place = w.place_from-place.result in
          let within : w.place_from-place.result ≤ length c.loop-j.items = w.place_from-place.ensures.within in
          rw (w.items-is, w.kept-is, w.from-is) (
            keeping_run row hs c.loop-j.items c.loop-j.from j c.loop-j.kept c.requires.rises c.requires.outgoing s place w.copy_within.new.self w.place_from-place.ensures.from (omega (arith, within, s.sized))
                (λ k ge lt h.
                let low : get_or c.loop-j.items k 0 < (get_or (halves_of c.args.outgoing) c.loop-j.j (0, 0)).1 = rw x_is at (w.place_from-place.ensures.below k ge lt) in
                omega (arith, low, s.same k ge (omega (arith, within, s.sized, lt))))
                w.copy_within.ensures.after (λ m le. w.copy_within.ensures.by_index.2 m 0 le),
            λ h.
                let here : (get_or (halves_of c.args.outgoing) c.loop-j.j (0, 0)).1 ≤ get_or c.loop-j.items w.place_from-place.result 0 = rw x_is at (w.place_from-place.ensures.here (omega (arith, h, s.sized))) in
                omega (arith, here, s.same place w.place_from-place.ensures.from h),
          )
      | else-searches+then-loop-from-test+else-items-from w ↦
          let s = w.loop-from.invariant in
          rw (w.items-is, w.kept-is, w.from-is) (
            s,
            λ h.
                omega (arith, s.same w.loop-from.from (omega arith) h, x_is, w.if-items-from.false),
          )
      | else-searches+else-loop-from-test w ↦
          let s = w.loop-from.invariant in
          rw (w.items-is, w.kept-is, w.from-is) (s, λ h. absurd (omega (arith, h, w.loop-from-test.false, s.sized)))
    ]

pub loop-j-preserved : goal.loop-j-preserved
loop-j-preserved c =
    let row = c.args.items.now in
    let hs = halves_of c.args.outgoing in
    let items = c.if-searches.items in
    let from = c.if-searches.from in
    let kept = c.if-searches.kept in
    let j = c.loop-j.j in
    let s = (moved_below c).0 in
    let at : c.loop-j.j < length (halves_of c.args.outgoing) = omega arith in
    let x_is : c.other_at-x.result ≡ (get_or (halves_of c.args.outgoing) c.loop-j.j (0, 0)).1 = c.other_at-x.ensures in
    elim c.if-from-items.branch [
      | then-from-items+then-items-from-2 w ↦
          let long : c.if-searches.from < length c.args.items.now = omega (arith, w.if-from-items.true, s.sized) in
          let read : get_or c.if-searches.items c.if-searches.from 0 ≡ get_or c.args.items.now c.if-searches.from 0 = s.same from (omega arith) long in
          let is : (get_or (halves_of c.args.outgoing) c.loop-j.j (0, 0)).1 ≡ get_or c.args.items.now c.if-searches.from 0 = omega (arith, x_is, read, w.if-items-from-2.true) in
          rw w.from-is
          (keeping_past row hs items (from + 1) j kept c.requires.rises c.requires.outgoing
          (taking_it row hs items from j kept c.requires.rises c.requires.outgoing s j long s.passed (λ m le lt. absurd (omega (arith, le, lt))) at is)
          at
          (λ h. let order : get_or c.args.items.now c.if-searches.from 0 < get_or c.args.items.now (c.if-searches.from + 1) 0 = rises_strictly 0 row from (from + 1) c.requires.rises (omega arith) h in omega (arith, order, is)))
      | else-from-items w ↦
          rw w.from-is
          (keeping_past row hs items from j kept c.requires.rises c.requires.outgoing s at
          (λ h. elim w.else-from-items.branch [
            | else-from-items-via-then-from-items+else-items-from-2 w' ↦
                let read : get_or c.if-searches.items c.if-searches.from 0 ≡ get_or c.args.items.now c.if-searches.from 0 = s.same from (omega arith) h in
                omega (arith, (moved_below c).1 h, read, x_is, w'.if-items-from-2.false)
            | else-from-items-via-else-from-items w' ↦ absurd (omega (arith, h, w'.if-from-items.false, s.sized))
          ]))
    ]

pub returns-clause-kept : goal.returns-clause-kept
returns-clause-kept c =
    let s = c.loop-j.invariant in
    let row = c.args.items.now in
    let hs = halves_of c.args.outgoing in
    let all : length (halves_of c.args.outgoing) ≤ c.loop-j.j = omega arith in
    let end : length c.loop-j.items ≡ length c.args.items.now = omega (arith, s.sized) in
    let moved = keeping_run row hs c.loop-j.items c.loop-j.from c.loop-j.j c.loop-j.kept c.requires.rises c.requires.outgoing s (length c.loop-j.items) c.copy_within-2.new.self (omega (arith, end, s.looked)) (omega (arith, end)) (λ k ge lt h. absurd (omega (arith, h, all))) c.copy_within-2.ensures.after (λ m le. c.copy_within-2.ensures.by_index.2 m 0 le) in
    moved.filtered ∙ ap (filter (λ x. not (has_second x hs))) (take_all (length c.loop-j.items) row (omega (arith, end)))
