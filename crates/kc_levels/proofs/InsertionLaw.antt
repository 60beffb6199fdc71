-- Insertions in two steps raise the same list as in one.
use Rattle.std.proofs.Common.{ℕ, List, sym, ◌∙◌, arith}
use Rattle.std.proofs.lemmas.Bool.Decides.{nat_tests}
use Rattle.kc_graph.specs.Shape.{GraphShape}
use Rattle.kc_levels.specs.declared.profile.Profile.{Profile}
use Rattle.kc_levels.specs.LevelList.{IsRaisable}
use Rattle.kc_levels.specs.Laws.{InsertionsAloneGiveOneList}
use Rattle.kc_levels.proofs.BothKept.{IsSubgraph, at_least-subgraph}

-- what is raisable in a graph is raisable in one with fewer edges
raisable_in_fewer : (p : Profile) (g h : GraphShape) (x z : List ℕ) → IsSubgraph g h → IsRaisable p h x z → IsRaisable p g x z
raisable_in_fewer p g h x z s r = record {
  sized = r.sized ∙ sym s.same;
  from = λ v at. r.from v (omega (arith, s.same));
  capped = λ v at. rw s.same (r.capped v (omega (arith, s.same)));
  upper = λ v at. grind (arith, nat_tests, at_least-subgraph, r.sized, s.same, r.upper);
}

pub insertions_alone_give_one_list : InsertionsAloneGiveOneList
insertions_alone_give_one_list p g h x y z small large same edges first then = record {
  raisable = record {
    sized = then.raisable.sized;
    from = λ v at. omega (arith, first.raisable.from v (omega (arith, same)), then.raisable.from v at);
    capped = then.raisable.capped;
    upper = then.raisable.upper;
  };
  least = λ w r. then.least w (record {
    sized = r.sized;
    from = λ v at. first.least w (raisable_in_fewer p g h x w subgraph r) v (omega (arith, same));
    capped = r.capped;
    upper = r.upper;
  });
}
  where
    subgraph : IsSubgraph g h
    subgraph = record { small = small; large = large; same = same; edges = edges }
