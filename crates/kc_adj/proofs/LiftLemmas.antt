-- The counts while the vertices of a list go up to their levels, one after another.
use Rattle.std.proofs.Common.{ℕ, suc, ◌+◌, ◌-◌, ◌≤◌, ◌<◌, ◌≡◌, ◌≢◌, inl, inr, true, false, cond, eqb, List, [], ◌∷◌, length, get_or, set, drop, add-one, refl, ap, sym, ◌∙◌, arith}
use Rattle.std.proofs.lemmas.Bool.{cases_lt, cases_eq, cases_Bool, true≢false}
use Rattle.std.proofs.lemmas.Bool.Decides.{nat_tests}
use Rattle.std.specs.Prelude.{All}
use Rattle.std.proofs.lemmas.Grind.{same_number_lists, get_or_default_zero}
use Rattle.std.proofs.Math.Seq.{drop-cons}
use Rattle.std.proofs.lemmas.List.{drop_all, length-drop, length-set, get_or-set_same, get_or-set_other, get_or_past}
use Rattle.kc_graph.specs.Numbers.{has_number, RisesFrom}
use Rattle.kc_graph.specs.Shape.{GraphShape, neighbours_of}
use Rattle.kc_graph.proofs.lemmas.Numbers.{has_number_below, has_number_at}
use Rattle.kc_graph.proofs.lemmas.Neighbours.{neighbours_both}
use Rattle.kc_levels.specs.Following.{AreDistinct}
use Rattle.kc_levels.specs.LevelList.{at_least, IsBelow}
use Rattle.kc_levels.proofs.lemmas.Writes.{changed}
use Rattle.kc_levels.proofs.lemmas.AtLeast.{at_least-few, at_least-set, at_least-change}
use Rattle.kc_adj.specs.Degrees.{degrees}
use Rattle.kc_adj.specs.LeveledGraph.{IsCounted}
use Rattle.kc_adj.specs.private.Lifting.{LiftShape, IsLift, AreLifted, lift_cost, is_unmoved, CanGain, HaveGained, AreGaining, AreGained, IsLifting, AreTakenUp}
use Rattle.kc_adj.specs.private.Moving.{is_passed}
use Rattle.kc_adj.proofs.Moving.{pass_up}

-- the neighbours of one vertex

pub gaining_first : (more : ℕ → ℕ) (near counts : List ℕ) → RisesFrom 0 near → AreGaining more near near counts counts
gaining_first more near counts up = record {
  sized = refl;
  first = 0;
  rises = up;
  waits = λ u there. (there, refl);
  done = λ u far. rw far (omega arith);
}

-- the step at place i of those who may gain
module _ (more : ℕ → ℕ) (near items before counts : List ℕ) (i : ℕ) (at : i < length items) (s : AreGaining more near (drop i items) before counts) where
  abbrev w : ℕ
  w = get_or items i 0

  now : AreGaining more near (w ∷ drop (suc i) items) before counts
  now = rw (drop-cons items i 0 at) at s

  here : has_number w (w ∷ drop (suc i) items) ≡ true
  here = grind (arith, nat_tests)

  gone : has_number w (drop (suc i) items) ≡ false
  gone = has_number_below (suc w) w (drop (suc i) items) now.rises.1 (omega arith)

  pub gaining_is : get_or counts (get_or items i 0) 0 ≡ get_or before (get_or items i 0) 0
  gaining_is = (now.waits w here).1

  near_is : (c : ℕ) → c ≡ get_or counts w 0 + more w → c ≡ get_or before w 0 + cond (has_number w near) (more w) 0
  near_is c is = rw ((now.waits w here).0) (omega (arith, is, gaining_is))

  pub gaining_next : (c : ℕ) → get_or items i 0 < length counts → c ≡ get_or counts (get_or items i 0) 0 + more (get_or items i 0) → AreGaining more near (drop (i + 1) items) before (set counts (get_or items i 0) c)
  gaining_next c inside is = rw add-one (record {
    sized = length-set counts w c ∙ now.sized;
    first = suc w;
    rises = now.rises.1;
    waits = λ u there. (
      (now.waits u (grind (arith, nat_tests, there))).0,
      changed counts w c inside (λ t l. has_number t (drop (suc i) items) ≡ true → l ≡ get_or before t 0) u (λ at. absurd (true≢false (sym at ∙ gone))) (λ ne at. (now.waits u (grind (arith, nat_tests, at))).1) there,
    );
    done = λ u far. changed counts w c inside (λ t l. has_number t (drop (suc i) items) ≡ false → l ≡ get_or before t 0 + cond (has_number t near) (more t) 0) u (λ at. near_is c is) (λ ne at. now.done u (grind (arith, nat_tests, at, ne))) far;
  })

pub gaining_last : (more : ℕ → ℕ) (near items before counts : List ℕ) (i : ℕ) → length items ≤ i → AreGaining more near (drop i items) before counts → AreGained more near before counts
gaining_last more near items before counts i end s =
    let none : AreGaining more near [] before counts = rw (drop_all i items end) at s in
    record { sized = none.sized; values = λ u. none.done u refl }

-- the vertices of the list

pub taking_first : (n : ℕ) (x z vertices : List ℕ) → length x ≡ n → length z ≡ n → IsBelow n x z → ((v : ℕ) → get_or x v 0 < get_or z v 0 → has_number v vertices ≡ true) → AreTakenUp z vertices x
taking_first n x z vertices long sized over all = record {
  sized = long ∙ sym sized;
  done = λ u far. elim (cases_lt (get_or x u 0) (get_or z u 0)) [
    | inl lt ↦ absurd (true≢false (sym (all u lt) ∙ far))
    | inr ge ↦ elim (cases_lt u n) [
      | inl h ↦ omega (arith, ge, over u h)
      | inr past ↦ get_or_past x u 0 (omega (arith, past, long)) ∙ sym (get_or_past z u 0 (omega (arith, past, sized)))
    ]
  ];
}

pub lifted : (lift : LiftShape) (vertices : List ℕ) → ((v : ℕ) → has_number v vertices ≡ true → v < lift.graph.vertices) → ((v : ℕ) → get_or lift.old v 0 < get_or lift.new v 0 → has_number v vertices ≡ true) → AreDistinct vertices → AreLifted lift vertices
lifted lift vertices below all once = record {
  inside = λ k d at. rw (get_or_default_zero vertices k d at) (below (get_or vertices k 0) (has_number_at (get_or vertices k 0) vertices k at refl));
  all = all;
  once = once;
}

pub lifting_first : (lift : LiftShape) (d : ℕ) (vertices counts : List ℕ) → IsLift lift → AreLifted lift vertices → IsCounted lift.graph lift.old d counts → IsLifting lift d vertices counts
lifting_first lift d vertices counts is movers c = record {
  sized = c.sized;
  distinct = movers.once;
  between = lift.old;
  long = is.before;
  waits = λ u there. refl;
  passed = (taking_first lift.graph.vertices lift.old lift.new vertices is.before is.after is.over movers.all).done;
  stays = λ u h e. c.values u h ∙ ap (λ l. at_least lift.graph lift.old u (l - d)) e;
  moved = λ u h lt far. absurd (true≢false (sym (movers.all u lt) ∙ far));
}

-- a count of one who stays is below the number of vertices
pub lifting_few : (lift : LiftShape) (d : ℕ) (rest counts : List ℕ) → IsLift lift → IsLifting lift d rest counts → CanGain lift counts
lifting_few lift d rest counts is s = record {
  sized = s.sized;
  few = λ u h on.
      let same : get_or lift.old u 0 ≡ get_or lift.new u 0 = grind (arith, nat_tests, on) in
      omega (arith, s.stays u h same, at_least-few lift.graph s.between u (get_or lift.new u 0 - d) is.graph h);
}

-- v moves
module _ (lift : LiftShape) (d v : ℕ) (rest before counts : List ℕ) (is : IsLift lift) (inside : v < lift.graph.vertices) (s : IsLifting lift d (v ∷ rest) before) (t : HaveGained lift v d before counts) where
  abbrev after : List ℕ
  after = set s.between v (get_or lift.new v 0)

  over : get_or lift.old v 0 ≤ get_or lift.new v 0
  over = is.over v inside

  reaches : v < length s.between
  reaches = omega (arith, inside, s.long)

  was : get_or s.between v 0 ≡ get_or lift.old v 0
  was = s.waits v (grind (arith, nat_tests))

  -- who stays gains v if it is a neighbour of v
  gained : (u : ℕ) → u < lift.graph.vertices → get_or lift.old u 0 ≡ get_or lift.new u 0 → get_or counts u 0 ≡ at_least lift.graph after u (get_or lift.new u 0 - d)
  gained u h e = elim (cases_Bool (has_number u (neighbours_of v lift.graph.edges))) [
    | inl near ↦
        let gain : get_or counts u 0 ≡ get_or before u 0 + cond (is_passed (get_or lift.old v 0) (get_or lift.new v 0) (get_or lift.new u 0 - d)) 1 0 = t.values u ∙ rw (near, e) (grind (arith, nat_tests)) in
        let change = rw was at (at_least-change lift.graph s.between u v (get_or lift.new v 0) (get_or lift.new u 0 - d) is.graph reaches near) in
        let up = pass_up (get_or before u 0) (get_or lift.new u 0 - d) (get_or lift.old v 0) (get_or lift.new v 0) over in
        omega (arith, gain, change, up, s.stays u h e)
    | inr far ↦ t.values u ∙ rw far (omega (arith, s.stays u h e, at_least-set lift.graph s.between u v (get_or lift.new v 0) (get_or lift.new u 0 - d) (neighbours_both u v lift.graph.edges ∙ far)))
  ]

  -- who moves gains nothing
  kept : (u : ℕ) → get_or lift.old u 0 < get_or lift.new u 0 → get_or counts u 0 ≡ get_or before u 0
  kept u lt =
      let off : eqb (get_or lift.old u 0) (get_or lift.new u 0) ≡ false = grind (arith, nat_tests) in
      t.values u ∙ rw off (grind (arith, nat_tests))

  put : (u : ℕ) → has_number u rest ≡ true → get_or after u 0 ≡ get_or lift.old u 0
  put u there =
      let other : u ≢ v = λ e. true≢false (sym there ∙ ap (λ k. has_number k rest) e ∙ s.distinct.0) in
      get_or-set_other s.between v u (get_or lift.new v 0) 0 other ∙ s.waits u (grind (arith, nat_tests, there))

  there : (u : ℕ) → has_number u rest ≡ false → get_or after u 0 ≡ get_or lift.new u 0
  there u far = changed s.between v (get_or lift.new v 0) reaches (λ k l. has_number k rest ≡ false → l ≡ get_or lift.new k 0) u (λ e. refl) (λ ne e. s.passed u (grind (arith, nat_tests, e, ne))) far

  -- v stays, or counts afresh
  stays_next : get_or lift.old v 0 ≡ get_or lift.new v 0 → IsLifting lift d rest counts
  stays_next e = record {
    sized = t.sized ∙ s.sized;
    distinct = s.distinct.1;
    between = after;
    long = length-set s.between v (get_or lift.new v 0) ∙ s.long;
    waits = put;
    passed = there;
    stays = gained;
    moved = λ u h lt far. elim (cases_eq u v) [
      | inl same ↦ absurd (omega (arith, rw same at lt, e))
      | inr ne ↦ kept u lt ∙ s.moved u h lt (grind (arith, nat_tests, far, ne))
    ];
  }

  moved_next : (c : ℕ) → get_or lift.old v 0 < get_or lift.new v 0 → c ≡ at_least lift.graph lift.new v (get_or lift.new v 0 - d) → IsLifting lift d rest (set counts v c)
  moved_next c up is = record {
    sized = length-set counts v c ∙ t.sized ∙ s.sized;
    distinct = s.distinct.1;
    between = after;
    long = length-set s.between v (get_or lift.new v 0) ∙ s.long;
    waits = put;
    passed = there;
    stays = λ u h e. elim (cases_eq u v) [
      | inl same ↦ absurd (omega (arith, rw same at e, up))
      | inr ne ↦ get_or-set_other counts v u c 0 ne ∙ gained u h e
    ];
    moved = λ u h lt far. elim (cases_eq u v) [
      | inl same ↦ rw same (get_or-set_same counts v c 0 (omega (arith, inside, t.sized, s.sized)) ∙ is)
      | inr ne ↦ get_or-set_other counts v u c 0 ne ∙ kept u lt ∙ s.moved u h lt (grind (arith, nat_tests, far, ne))
    ];
  }

  next : (c : ℕ) (new : List ℕ) → c ≡ at_least lift.graph lift.new v (get_or lift.new v 0 - d) → new ≡ cond (eqb (get_or lift.old v 0) (get_or lift.new v 0)) counts (set counts v c) → IsLifting lift d rest new
  next c new is e = elim (cases_eq (get_or lift.old v 0) (get_or lift.new v 0)) [
    | inl same ↦
        let on : eqb (get_or lift.old v 0) (get_or lift.new v 0) ≡ true = grind (arith, nat_tests, same) in
        rw (e, on) (stays_next same)
    | inr ne ↦
        let off : eqb (get_or lift.old v 0) (get_or lift.new v 0) ≡ false = grind (arith, nat_tests, ne) in
        rw (e, off) (moved_next c (omega (arith, ne, over)) is)
  ]

pub lifting_next : (lift : LiftShape) (d i : ℕ) (vertices before counts : List ℕ) (c reach : ℕ) (new : List ℕ) → IsLift lift → i < length vertices → All (λ v. v < lift.graph.vertices) vertices → IsLifting lift d (drop i vertices) before → HaveGained lift (get_or vertices i 0) d before counts → reach ≡ get_or lift.new (get_or vertices i 0) 0 - d → c ≡ at_least lift.graph lift.new (get_or vertices i 0) reach → new ≡ cond (is_unmoved lift (get_or vertices i 0)) counts (set counts (get_or vertices i 0) c) → IsLifting lift d (drop (i + 1) vertices) new
lifting_next lift d i vertices before counts c reach new is at below s t reach_is c_is e =
    let inside : get_or vertices i 0 < lift.graph.vertices = below i 0 at in
    let now : IsLifting lift d (get_or vertices i 0 ∷ drop (suc i) vertices) before = rw (drop-cons vertices i 0 at) at s in
    rw add-one (next lift d (get_or vertices i 0) (drop (suc i) vertices) before counts is inside now t c new (c_is ∙ ap (at_least lift.graph lift.new (get_or vertices i 0)) reach_is) e)

pub lifting_last : (lift : LiftShape) (d i : ℕ) (vertices counts : List ℕ) → length vertices ≤ i → IsLift lift → IsLifting lift d (drop i vertices) counts → IsCounted lift.graph lift.new d counts
lifting_last lift d i vertices counts end is s =
    let none : IsLifting lift d [] counts = rw (drop_all i vertices end) at s in
    let whole : none.between ≡ lift.new = same_number_lists none.between lift.new (none.long ∙ sym is.after) (λ u h. none.passed u refl) in
    record {
      sized = none.sized;
      values = λ u h. elim (cases_lt (get_or lift.old u 0) (get_or lift.new u 0)) [
        | inl lt ↦ none.moved u h lt refl
        | inr ge ↦ none.stays u h (omega (arith, ge, is.over u h)) ∙ ap (λ y. at_least lift.graph y u (get_or lift.new u 0 - d)) whole
      ];
    }

degrees_next : (g : GraphShape) (vertices : List ℕ) (i : ℕ) → i < length vertices → degrees g (drop i vertices) ≡ length (neighbours_of (get_or vertices i 0) g.edges) + degrees g (drop (i + 1) vertices)
degrees_next g vertices i at = ap (λ vs. degrees g vs) (drop-cons vertices i 0 at) ∙ rw (add-one i) refl

-- what the vertices from the place i on cost
pub cost_next : (lift : LiftShape) (vertices : List ℕ) (i : ℕ) → i < length vertices → lift_cost lift (drop i vertices) ≡ length (neighbours_of (get_or vertices i 0) lift.graph.edges) + 1 + lift_cost lift (drop (i + 1) vertices)
cost_next lift vertices i at = omega (arith, degrees_next lift.graph vertices i at, length-drop i vertices, length-drop (i + 1) vertices)

pub cost_last : (lift : LiftShape) (vertices : List ℕ) (i : ℕ) → length vertices ≤ i → lift_cost lift (drop i vertices) ≡ 0
cost_last lift vertices i end = ap (lift_cost lift) (drop_all i vertices end)

-- the levels

pub taking_last : (z vertices y : List ℕ) (i : ℕ) → length vertices ≤ i → AreTakenUp z (drop i vertices) y → y ≡ z
taking_last z vertices y i end s =
    let none : AreTakenUp z [] y = rw (drop_all i vertices end) at s in
    same_number_lists y z none.sized (λ u h. none.done u refl)
