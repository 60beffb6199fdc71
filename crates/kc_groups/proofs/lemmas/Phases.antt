-- What other crates may cite of phases: their edges, and what their entries lead to.

-- an edge of a list all of whose edges are there is there
pub use Rattle.kc_groups.proofs.EdgesLaw.{present_in}
-- edges that came in are there
pub use Rattle.kc_groups.proofs.PhaseLaw.{present_after}
-- what leads from one state to another is a phase on the graph that has all its edges
pub use Rattle.kc_groups.proofs.PhaseLaw.{is_phase}
-- a phase keeps that the graph is one, with as many vertices and as many levels
pub use Rattle.kc_groups.proofs.PhaseLaw.{kept}
-- the entries of a phase lead to its graph
pub use Rattle.kc_groups.proofs.PhaseLaw.{phase_graph}
-- the entries of a phase lead to its levels
pub use Rattle.kc_groups.proofs.PhaseLaw.{phase_levels}
-- the entries of phases lead over them, one after another
pub use Rattle.kc_groups.proofs.PhaseLaw.{phases_lead}
-- the entries of a plan lead over its phase
pub use Rattle.kc_groups.proofs.LeadLaw.{entries_lead_over}
-- the points of a phase lie between its ends
pub use Rattle.kc_groups.proofs.BetweenLaw.{points_lie_between}
