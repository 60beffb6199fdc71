use Rattle.std.proofs.Common.{ℕ, ◌≡◌, ◌-◌, ◌+◌, ◌<◌, ◌∙◌, take, get_or, refl, ap, arith, rules}
use Rattle.kc_graph.specs.private.HalfLists.{halves_of}
use Rattle.kc_graph.proofs.MergeLemmas.{merging_first, merging_new, merging_old, merging_both, merged_rises, merged_has}
use Rattle.kc_graph.proofs.merging.merge_back.Goals.{then-loop-i-test+else-items-i, else-loop-i-test, then-i-gt0+then-items-i-2, else-i-gt0, else-i-gt0-via-then-i-gt0+else-items-i-2, else-i-gt0-via-else-i-gt0}
use Rattle.kc_graph.proofs.merging.merge_back.Goals as goal

pub loop-j-init : goal.loop-j-init
loop-j-init c = merging_first _ (halves_of c.args.incoming) _ _ _ _ c.requires.rises refl (search rules) (search rules) (omega (arith, c.requires.room, c.len-j.ensures))

pub loop-i-preserved : goal.loop-i-preserved
loop-i-preserved c =
    let s = c.loop-i.invariant in
    let row = take c.args.old c.args.items.now in
    let hs = halves_of c.args.incoming in
    let inside : c.loop-i.i - 1 < c.loop-i.i = omega (arith, c.loop-i-test.true) in
    let y_is : get_or c.loop-i.items (c.loop-i.i - 1) 0 ≡ get_or row (c.loop-i.i - 1) 0 = s.same (c.loop-i.i - 1) inside in
    rw y_is (merging_old row hs c.loop-i.items c.loop-i.i ((c.loop-j.j - 1) + 1) c.loop-i.at c.requires.rises c.requires.incoming s (c.loop-i.at - 1) (c.loop-j.j - 1) (omega (arith, s.fits)) refl (c.loop-i.i - 1) (omega (arith, inside)) (omega (arith, c.other_at-w.ensures, y_is, c.if-items-i.true)))

pub loop-j-preserved : goal.loop-j-preserved
loop-j-preserved c =
    let s = c.loop-i.invariant in
    let row = take c.args.old c.args.items.now in
    let hs = halves_of c.args.incoming in
    elim c.if-i-gt0.branch [
      | then-i-gt0+then-items-i-2 w ↦
          let inside : c.loop-i.i - 1 < c.loop-i.i = omega (arith, w.if-i-gt0.true) in
          let w_is : c.other_at-w.result ≡ get_or row (c.loop-i.i - 1) 0 = omega (arith, s.same (c.loop-i.i - 1) inside, w.if-items-i-2.true) in
          rw (w.i-is, w_is) (merging_both row hs c.loop-i.items c.loop-i.i ((c.loop-j.j - 1) + 1) c.loop-i.at c.requires.rises c.requires.incoming s (c.loop-i.at - 1) (c.loop-j.j - 1) (omega (arith, s.fits)) refl (c.loop-i.i - 1) (omega (arith, inside)) (omega (arith, c.other_at-w.ensures, w_is)))
      | else-i-gt0 w ↦
          let above : (m : ℕ) → m + 1 ≡ c.loop-i.i → get_or row m 0 < (get_or hs (c.loop-j.j - 1) (0, 0)).1 = λ m e.
          let f : c.loop-i.i - 1 ≡ m = omega arith in
          elim w.else-i-gt0.branch [
            | else-i-gt0-via-then-i-gt0+else-items-i-2 w' ↦
                let y_is : get_or c.loop-i.items (c.loop-i.i - 1) 0 ≡ get_or row m 0 = ap (λ n. get_or c.loop-i.items n 0) f ∙ s.same m (omega arith) in
                elim c.loop-i-test.branch [
                  | then-loop-i-test+else-items-i w'' ↦ omega (arith, y_is, c.other_at-w.ensures, w'.if-items-i-2.false, w''.if-items-i.false)
                  | else-loop-i-test w'' ↦ absurd (omega (arith, w''.loop-i-test.false, e))
                ]
            | else-i-gt0-via-else-i-gt0 w' ↦ absurd (omega (arith, w'.if-i-gt0.false, e))
          ]
          in
          rw (w.i-is, c.other_at-w.ensures) (merging_new row hs c.loop-i.items c.loop-i.i ((c.loop-j.j - 1) + 1) c.loop-i.at c.requires.rises c.requires.incoming s (c.loop-i.at - 1) (c.loop-j.j - 1) (omega (arith, s.fits)) refl above)
    ]

pub returns-clause-rises : goal.returns-clause-rises
returns-clause-rises c =
    let none : c.loop-j.j ≡ 0 = omega (arith, c.loop-j-test.false) in
    merged_rises (take c.args.old c.args.items.now) (halves_of c.args.incoming) c.loop-j.items c.loop-j.i c.loop-j.at c.requires.rises (rw none at c.loop-j.invariant)

pub returns-clause-has : goal.returns-clause-has
returns-clause-has c =
    let none : c.loop-j.j ≡ 0 = omega (arith, c.loop-j-test.false) in
    merged_has (take c.args.old c.args.items.now) (halves_of c.args.incoming) c.loop-j.items c.loop-j.i c.loop-j.at c.requires.rises (rw none at c.loop-j.invariant)
