use Rattle.std.proofs.Common.{ℕ, List, ◌+◌, ◌*◌, subst, sym}
use Rattle.kc_dense.specs.private.Tournaments.{IsFirstLeastWithin}
use Rattle.kc_dense.proofs.TournamentLemmas.{descent_first, descent_more, descent_last}
use Rattle.kc_dense.proofs.tournament.Tournament.first_least.Goals as goal

pub loop-node-init : goal.loop-node-init
loop-node-init c = descent_first _ _ c.self.invariant.power

pub loop-node-preserved : goal.loop-node-preserved
loop-node-preserved c =
    descent_more _ _ _ c.loop-node.node _ c.self.invariant c.loop-node.invariant c.loop-node-test.true
    (subst (λ (nodes : List ℕ). IsFirstLeastWithin (2 * c.loop-node.node) (2 * c.loop-node.node + 2) nodes c.first_lesser_child-node.result) c.deref.ensures.value c.first_lesser_child-node.ensures)

pub returns : goal.returns
returns c = rw (sym c.self.view_is) (descent_last _ _ _ c.loop-node.node c.self.invariant c.loop-node.invariant c.loop-node-test.false (rw (sym c.self.view_is) at c.requires))
