-- What a walk from the last item of a batch to the first knows of the later items.
use Rattle.std.specs.Prelude.{ℕ, ◌≡◌, ◌+◌, ◌≤◌, Bool, not, ◌&&◌, ◌||◌, cond, List, [], ◌∷◌, ◌++◌, filter, count_by}
use Rattle.std.specs.Ordering.{nat_cmp}
use Rattle.std.specs.BTreeSet.{contains}
use Rattle.std.specs.List.{list_any}
use Rattle.kc_graph.specs.declared.items.Item.{Item}
use Rattle.kc_graph.specs.declared.cleaning.Cleaned.{Cleaned}
use Rattle.kc_graph.specs.declared.touched.Touched.{Touched}
use Rattle.kc_graph.specs.declared.later.Later.{Later}
use Rattle.kc_graph.specs.Shape.{Pair, same_edge, has_edge}
use Rattle.kc_graph.specs.private.EdgeLists.{pair_cmp}
use Rattle.kc_graph.specs.Cleaning.{holds, pair_of, is_loop, proper_items, is_touched, deciding_item, takes_out, is_insertion, is_repeat, is_idle, count_with_later}

-- whether the pair e is noted as touched, itself or by one of its vertices
abbrev pub is_noted : Touched → Pair → Bool
is_noted t e = contains pair_cmp t.pairs e || (contains nat_cmp t.isolated e.0 || contains nat_cmp t.isolated e.1)

-- whether the edge e is at v and not noted
abbrev pub is_free_at : Touched → ℕ → Pair → Bool
is_free_at t v e = holds v e && not (is_noted t e)

-- the net effect after one more item, an isolation of v
abbrev pub isolated : List Pair → Touched → ℕ → Cleaned → Cleaned
isolated edges t v c =
    record c {
      removed = c.removed ++ filter (is_free_at t v) edges;
      idle = c.idle + cond (list_any (is_free_at t v) edges) 0 1;
    }

-- the edges from v to these vertices that are not noted
abbrev pub untouched_at : Touched → ℕ → List ℕ → List Pair
untouched_at t v [] = []
untouched_at t v (w ∷ ws) = cond (is_noted t (pair_of v w)) (untouched_at t v ws) (pair_of v w ∷ untouched_at t v ws)

-- no edge is in the list twice
abbrev pub IsOnce : List Pair → Type 0
IsOnce es = (e : Pair) → count_by (same_edge e) es ≤ 1

-- what is known is the net effect of items that are no loops, with both lists in any order
pub record IsProperEffect (edges : List Pair) (items : List Item) (l : Later) : Type 0 where
  pub noted : (e : Pair) → is_noted l.touched e ≡ is_touched e items
  pub removed : (e : Pair) → has_edge e l.cleaned.removed ≡ (takes_out (deciding_item e items) && has_edge e edges)
  pub removed_once : IsOnce l.cleaned.removed
  pub added : (e : Pair) → has_edge e l.cleaned.added ≡ (is_insertion (deciding_item e items) && not (has_edge e edges))
  pub added_once : IsOnce l.cleaned.added
  pub repeats : l.cleaned.repeats ≡ count_with_later is_repeat items
  pub idle : l.cleaned.idle ≡ count_with_later (is_idle edges) items

-- the same for any items, with a count of their loops
pub record IsNetEffect (edges : List Pair) (items : List Item) (l : Later) : Type 0 where
  pub loops : l.cleaned.loops ≡ count_by is_loop items
  pub others : IsProperEffect edges (proper_items items) l
