-- What other crates may cite of orientations and out-neighbours.

-- there is a list of out-neighbours for each vertex
pub use Rattle.kc_orient.proofs.Upward.{outs_sized}
-- the list of v in an orientation is that of its out-neighbours
pub use Rattle.kc_orient.proofs.Upward.{outs_at}
-- a vertex that meets Upper has at most as many out-neighbours as `high` of its group
pub use Rattle.kc_orient.proofs.Upward.{out_neighbours_are_few}
