-- The lines of the vertices by a last pass.
use Rattle.std.proofs.Common.{ℕ, ◌≡◌, List, length, sym, ◌∙◌, subst}
use Rattle.kc_history.specs.Points.{levels_at}
use Rattle.kc_store.specs.declared.roles.WriterState.{WriterState}
use Rattle.kc_engine.specs.States.{State}
use Rattle.kc_engine.specs.Showing.{IsAbreast}

-- the levels that the pass reads are those of a state with which the writer is up to date
pub last_levels : (w : WriterState) (s : State) (n k : ℕ) (levels : List ℕ) → IsAbreast w s → s.graph.vertices ≡ n → k ≡ n → levels ≡ levels_at k w.history (length w.history) → levels ≡ s.levels
last_levels w s n k levels a e size f = subst (λ (j : ℕ). levels ≡ levels_at j w.history (length w.history)) (size ∙ sym e) f ∙ a.history.levels

-- a writer that takes in a pass stays up to date
pub joined_abreast : (w x : WriterState) (s : State) → IsAbreast w s → x ≡ record w { joined = x.joined } → IsAbreast x s
joined_abreast w x s a e = subst (λ (z : WriterState). IsAbreast z s) (sym e) record {
  vertices = a.vertices;
  phase = a.phase;
  history = a.history;
  idle = record { published = a.idle.published; cleared = a.idle.cleared; loans = a.idle.loans };
}
