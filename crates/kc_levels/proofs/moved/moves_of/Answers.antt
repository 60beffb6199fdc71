use Rattle.std.proofs.Common.{◌≡◌, List, IfOk, length, map, refl, ap, sym, ◌∙◌, subst}
use Rattle.kc_levels.specs.declared.moves.Move.{Move}
use Rattle.kc_levels.specs.Moved.{move_of}
use Rattle.kc_levels.proofs.Ascending.{moves_are, moved_inside}
use Rattle.kc_levels.proofs.moved.moves_of.Goals as goal

pub returns-clause-moves : goal.returns-clause-moves
returns-clause-moves c =
    let are = moves_are (length c.args.before.now) c.args.before.now c.args.after.now c.sort.new.vertices.items c.sort.ensures.rises (λ v. c.sort.ensures.same v ∙ c.requires.moved v) (λ v there. moved_inside _ c.args.before.now c.args.after.now v refl c.requires.sized (sym (c.sort.ensures.same v ∙ c.requires.moved v) ∙ there)) in
    subst (λ (ms : List Move). IfOk c.moves_in_order.result (λ moves. moves ≡ ms)) (ap (map (move_of c.args.before.now c.args.after.now)) c.deref.ensures.value ∙ are) c.moves_in_order.ensures
