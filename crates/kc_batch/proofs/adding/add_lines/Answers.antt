use Rattle.std.proofs.Common.{◌≡◌, ◌∙◌, ◌++◌, [], ◌∷◌, ◌-◌, ◌+◌, length, take, drop, refl, sym, arith, append_assoc}
use Rattle.std.proofs.lemmas.Bool.Decides.{nat_tests}
use Rattle.std.proofs.lemmas.List.{length-append, length-drop, take_all, take-append-drop}
use Rattle.kc_batch.proofs.ItemLines.{add_none, add_more, add_line, gone_is}
use Rattle.kc_batch.proofs.adding.add_lines.Goals as goal

pub loop-line-init : goal.loop-line-init
loop-line-init c = record { gone = []; bytes_are = refl; few = c.requires.few; adds = add_none _ _ _ }

pub loop-line-preserved : goal.loop-line-preserved
loop-line-preserved c =
    let i = c.loop-line.invariant in
    let rest = c.loop-line.rest.now in
    let k = c.in-Some.line.len + 1 in
    let now = c.in_ok-push.ensures.ok in
    let t = rw c.in-Add.is at c.turn_at.ensures.sound in
    let behind : take (length rest - k) (drop k rest) ≡ drop k rest = take_all _ _ (omega (arith, length-drop k rest)) in
    record {
      gone = i.gone ++ take k rest;
      bytes_are = i.bytes_are ∙ rw (behind, append_assoc, take-append-drop k rest) refl;
      few = rw (now, length-append c.loop-line.items (c.in-Add.item ∷ [])) (let f = rw c.len.ensures at t.1 in grind (arith, nat_tests, f));
      adds = add_more _ _ i.gone (take k rest) _ _ _ i.adds
          (rw now (add_line _ _ c.in-Some.line.len rest _ _ _ _ _ _ c.in-Some.ensures.ends (omega (arith, c.if-line-limit.false)) c.in-Some.ensures.says (rw c.item_of.ensures at (sym c.turn_at.ensures.turn ∙ c.in-Add.is)) t.0));
    }

pub returns : goal.returns
returns c =
    let i = c.loop-line.invariant in
    record { few = i.few; within = omega arith; adds = rw (gone_is _ i.gone _ i.bytes_are) i.adds }
