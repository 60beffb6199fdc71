use Rattle.std.proofs.Common.{◌<◌, List, length, sym, subst}
use Rattle.std.specs.List.{All}
use Rattle.kc_levels.specs.declared.moves.Move.{Move}
use Rattle.kc_levels.proofs.lemmas.Moves.{moves_own}
use Rattle.kc_delete.proofs.fallen.Fallen.take_moves.Goals as goal

pub follow-requires : goal.follow-requires
follow-requires c = subst (λ (ms : List Move). All (λ (m : Move). m.vertex < length c.args.self.now.before) ms) (sym c.in_ok-moves.ensures.moves) (λ k d h. (moves_own (length c.args.self.now.before) c.args.self.now.before c.args.after.now k d h).0)
