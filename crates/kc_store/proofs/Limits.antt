-- What the store needs of the limits on vertices and phases: they fit the 24 bits that a packed word has for each.
use Rattle.std.proofs.Common.{ℕ, ◌^◌, ◌<◌, ◌≤◌, arith}
use Rattle.kc_graph.specs.declared.limits.TheConstants.{MAX_VERTICES}
use Rattle.kc_history.specs.declared.limits.TheConstants.{MAX_PHASE}

pub vertex_fits : (n v : ℕ) → n ≤ MAX_VERTICES → v < n → v < 2 ^ 24
vertex_fits n v small inside = omega arith

pub phase_fits : (p : ℕ) → p ≤ MAX_PHASE → p < 2 ^ 24
phase_fits p small = omega arith
