use Rattle.std.proofs.Common.{ℕ, ◌≡◌, ◌≢◌, List, length, take}
use Rattle.std.specs.List.{All}
use Rattle.kc_levels.specs.declared.moves.Move.{Move}
use Rattle.kc_levels.specs.Moved.{moves_between}
use Rattle.kc_levels.specs.private.Following.{IsCopied}
use Rattle.kc_levels.proofs.levels.Levels.follow.Given as goal

abbrev pub invariant-loop-m : goal.invariant-loop-m
invariant-loop-m l =
    (length l.self ≡ length l.initial.self)
    × ((y : List ℕ) → l.moves ≡ moves_between (length l.initial.self) l.initial.self y → IsCopied y l.initial.self l.self (λ v. All (λ (m : Move). v ≢ m.vertex) (take l.m-index l.moves)))
