use Rattle.std.proofs.Common.{ℕ, ◌≡◌, ◌++◌, ◌∷◌, take}
use Rattle.std.specs.Prelude.{decimal}
use Rattle.std.specs.List.{flat_map}
use Rattle.kcore.proofs.documents.orient.fill_vertices.Given as goal

abbrev pub invariant-loop-w : goal.invariant-loop-w
invariant-loop-w l = l.buf ≡ l.initial.buf ++ flat_map (λ (w : ℕ). 32 ∷ decimal w) (take l.w-index l.vertices)
