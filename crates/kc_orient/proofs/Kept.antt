-- What an orientation keeps, read from its lists.
use Rattle.std.proofs.Common.{ℕ, ◌<◌, ◌≡◌, List, [], length, get_or, arith, false}
use Rattle.std.proofs.lemmas.Bool.{true≢false}
use Rattle.std.proofs.lemmas.List.FromFn.{get_or-map-range_with_len}
use Rattle.std.proofs.lemmas.Bool.Decides.{nat_tests}
use Rattle.kc_graph.specs.Numbers.{has_number}
use Rattle.kc_graph.specs.private.Numbers.{put}
use Rattle.kc_graph.proofs.lemmas.Numbers.{length-rising, rises_from_put, below_from_put, length-put}
use Rattle.kc_orient.specs.Shape.{OrientationShape, IsOriented}
use Rattle.kc_orient.specs.Layout.{list_at, shape_of}
use Rattle.kc_orient.proofs.Upward.{above_itself}

pub shape-at : (levels starts heads : List ℕ) (v : ℕ) → v < length levels → get_or (shape_of levels starts heads).outs v [] ≡ list_at starts heads v
shape-at levels starts heads v h = get_or-map-range_with_len (list_at starts heads) 0 (length levels) v v [] h (omega arith)

-- a vertex is none of its out-neighbours, so they are fewer than the vertices
pub fewer_out : (o : OrientationShape) (v : ℕ) → IsOriented o → v < length o.levels → length (get_or o.outs v []) < length o.levels
fewer_out o v is h =
    omega (arith, length-put v (get_or o.outs v []) absent, length-rising (length o.levels) 0 (put v (get_or o.outs v [])) (rises_from_put 0 v (get_or o.outs v []) (is.ascending v) (omega arith)) (below_from_put (length o.levels) v (get_or o.outs v []) (is.below v) h) (omega arith))
  where
    absent : has_number v (get_or o.outs v []) ≡ false
    absent = grind (arith, nat_tests, true≢false, above_itself, is.upward)
