-- A plan that is well formed, by its places; and what the calls ask, said so.
use Rattle.std.proofs.Common.{ℕ, suc, zero, ◌+◌, ◌≡◌, ◌≢◌, ◌<◌, ◌≤◌, List, [], ◌∷◌, length, get_or, map, Option, Some, None, All, Contains, refl, ap, sym, ◌∙◌, arith, subst, ⊎_elim, lt_of_not-le}
use Rattle.std.specs.List.{slice_get}
use Rattle.std.proofs.lemmas.Option.{slice_get-get_or}
use Rattle.std.proofs.lemmas.List.Elements.{All-contains}
use Rattle.std.proofs.lemmas.List.{get_or_past}
use Rattle.std.proofs.lemmas.Bool.Decides.{nat_tests}
use Rattle.kc_graph.specs.Numbers.{RisesFrom, AllBelow}
use Rattle.kc_history.specs.declared.limits.TheConstants.{MAX_PHASE}
use Rattle.kc_history.specs.declared.entries.Entry.{Entry}
use Rattle.kc_history.specs.Ends.{last_move}
use Rattle.kc_history.specs.private.Ends.{level_of}
use Rattle.kc_groups.specs.declared.plans.PhasePlan.{PhasePlan}
use Rattle.kc_groups.specs.WellFormed.{IsMove, IsGroupEntry, vertices_of, vertex_at, IsWellFormed}
use Rattle.kc_store.specs.declared.roles.WriterState.{WriterState}
use Rattle.kc_store.specs.declared.roles.Loan.{Loan}
use Rattle.kc_store.specs.Plans.{Move, AreDistinct, IsGroupOf, IsBefore, IsFormed, group_at}
use Rattle.kc_store.specs.private.Plans.{IsMoveAt}
use Rattle.kc_store.specs.Seats.{HasRange}
use Rattle.kc_store.specs.States.{last_level, MayBegin, MayPublish}
use Rattle.kc_store.proofs.Places.{move_found}
use Rattle.kc_store.proofs.Publishing.{maybe_cases}
use Rattle.kc_store.proofs.LastLevels.{at_end}

-- an item by its number
pub got : {A : Type 0} → (xs : List A) (i : ℕ) (x d : A) → slice_get xs i ≡ Some x → (i < length xs) × (get_or xs i d ≡ x)
got [] i x d is = cc
got (y ∷ ys) zero x d is = let s : y ≡ x = cc in (omega arith, s)
got (y ∷ ys) (suc i) x d is = let r = got ys i x d is in (omega (arith, r.0), r.1)

pub got_map : {A B : Type 0} → (f : A → B) (xs : List A) (i : ℕ) (x : A) → slice_get xs i ≡ Some x → slice_get (map f xs) i ≡ Some (f x)
got_map f [] i x is = cc
got_map f (y ∷ ys) zero x is = let s : y ≡ x = cc in ap (λ z. Some (f z)) s
got_map f (y ∷ ys) (suc i) x is = got_map f ys i x is

got_back : {A B : Type 0} → (f : A → B) (xs : List A) (i : ℕ) (b : B) → slice_get (map f xs) i ≡ Some b → (x : A) × (slice_get xs i ≡ Some x) × (f x ≡ b)
got_back f [] i b is = cc
got_back f (y ∷ ys) zero b is = let s : f y ≡ b = cc in (y, refl, s)
got_back f (y ∷ ys) (suc i) b is = got_back f ys i b is

below_at : (n : ℕ) (xs : List ℕ) (i x : ℕ) → AllBelow n xs → slice_get xs i ≡ Some x → x < n
below_at n [] i x all is = cc
below_at n (y ∷ ys) zero x all is = let s : y ≡ x = cc in subst (λ z. z < n) s all.0
below_at n (y ∷ ys) (suc i) x all is = below_at n ys i x all.1 is

above_at : (low : ℕ) (xs : List ℕ) (i x : ℕ) → RisesFrom low xs → slice_get xs i ≡ Some x → low ≤ x
above_at low [] i x all is = cc
above_at low (y ∷ ys) zero x all is = let s : y ≡ x = cc in subst (λ z. low ≤ z) s all.0
above_at low (y ∷ ys) (suc i) x all is = let h = above_at (suc y) ys i x all.1 is in omega (arith, h, all.0)

rises_at : (low : ℕ) (xs : List ℕ) (i j x y : ℕ) → RisesFrom low xs → i < j → slice_get xs i ≡ Some x → slice_get xs j ≡ Some y → x < y
rises_at low [] i j x y all lt a b = cc
rises_at low (z ∷ zs) zero zero x y all lt a b = absurd (omega (arith, lt))
rises_at low (z ∷ zs) zero (suc j) x y all lt a b = let s : z ≡ x = cc in let h = above_at (suc z) zs j y all.1 b in omega (arith, s, h)
rises_at low (z ∷ zs) (suc i) zero x y all lt a b = absurd (omega (arith, lt))
rises_at low (z ∷ zs) (suc i) (suc j) x y all lt a b = rises_at (suc z) zs i j x y all.1 (omega (arith, lt)) a b

label_at : (n : ℕ) (plan : PhasePlan) (w : IsWellFormed n plan) (k : ℕ) (e : Entry) → slice_get plan.groups k ≡ Some e → (l : ℕ) × (slice_get w.labels k ≡ Some l) × (e.label ≡ Some l)
label_at n plan w k e is =
    let h : slice_get (map Some w.labels) k ≡ Some e.label = ap (λ (ls : List (Option ℕ)). slice_get ls k) (sym w.labels_are) ∙ got_map (λ (x : Entry). x.label) plan.groups k e is in
    let r = got_back Some w.labels k e.label h in (r.0, r.1, sym r.2)

-- the vertex of a move, by its place
vertex_is : (n : ℕ) (plan : PhasePlan) (k a : ℕ) (e : Entry) (m : Move) → slice_get plan.groups k ≡ Some e → slice_get e.moves a ≡ Some m
    → (k < length plan.groups) × (a < length (vertices_of (get_or plan.groups k plan.quiet))) × (vertex_at plan k a ≡ m.vertex)
vertex_is n plan k a e m is at =
    let g = got plan.groups k e plan.quiet is in
    let v = got (map (λ (x : Move). x.vertex) e.moves) a m.vertex 0 (got_map (λ (x : Move). x.vertex) e.moves a m at) in (
      g.0,
      subst (λ (z : Entry). a < length (vertices_of z)) (sym g.1) v.0,
      ap (λ (z : Entry). get_or (vertices_of z) a 0) g.1 ∙ v.1,
    )

distinct_from : (ms : List Move) → ((a b : ℕ) (x y : Move) → slice_get ms a ≡ Some x → slice_get ms b ≡ Some y → x.vertex ≡ y.vertex → a ≡ b) → AreDistinct ms
distinct_from [] h = tt
distinct_from (m ∷ ms) h = (
  ⊎_elim (λ (none : last_move m.vertex ms ≡ None). none)
      (λ (s : (b : Move) × (last_move m.vertex ms ≡ Some b)).
      let r = move_found m.vertex ms s.0 s.1 in
      let same : 0 ≡ suc r.0 = h 0 (suc r.0) m s.0 refl r.1 (sym r.2) in absurd (omega (arith, same)))
      (maybe_cases (last_move m.vertex ms)),
  distinct_from ms (λ a b x y p q s. let t : suc a ≡ suc b = h (suc a) (suc b) x y p q s in omega (arith, t)),
)

pub formed_of : (n : ℕ) (plan : PhasePlan) → IsWellFormed n plan → IsFormed n plan.quiet.phase plan
formed_of n plan w = record { phase_is = refl; no_label = w.quiet_label; no_moves = w.quiet_moves; groups = groups; ascend = ascend }
  where
    groups : (k : ℕ) (e : Entry) → slice_get plan.groups k ≡ Some e → IsGroupOf n plan.quiet.phase plan.quiet.add e
    groups k e is =
        let g = got plan.groups k e e is in
        let whole : IsGroupEntry n plan.quiet.phase plan.quiet.add e = subst (λ (z : Entry). IsGroupEntry n plan.quiet.phase plan.quiet.add z) g.1 (w.groups k e g.0) in
        let l = label_at n plan w k e is in
        record {
          phase_is = whole.phase_is;
          add_is = whole.add_is;
          label = l.0;
          label_is = l.2;
          label_in = below_at n w.labels k l.0 w.labels_below l.1;
          some = whole.some;
          moves = λ i m at.
              let r = got e.moves i m m at in
              let good : IsMove n m = subst (λ (z : Move). IsMove n z) r.1 (whole.moves i m r.0) in
              record { inside = good.vertex; differ = good.differ };
          distinct = distinct_from e.moves (λ a b x y p q s.
              let u = vertex_is n plan k a e x is p in
              let v = vertex_is n plan k b e y is q in
              (w.once k k a b u.0 v.0 u.1 v.1 (u.2 ∙ (s ∙ sym v.2))).1);
        }

    ascend : (k l : ℕ) (e f : Entry) → k < l → slice_get plan.groups k ≡ Some e → slice_get plan.groups l ≡ Some f → IsBefore e f
    ascend k l e f lt p q = record {
      labels = λ a b x y.
          let i = label_at n plan w k e p in
          let j = label_at n plan w l f q in
          let r = rises_at 0 w.labels k l i.0 j.0 w.labels_rise lt i.1 j.1 in
          let one : Some i.0 ≡ Some a = sym i.2 ∙ x in
          let two : Some j.0 ≡ Some b = sym j.2 ∙ y in
          let s : i.0 ≡ a = cc in
          let t : j.0 ≡ b = cc in omega (arith, r, s, t);
      vertices = λ v m found.
          let r = move_found v f.moves m found in
          let y = vertex_is n plan l r.0 f m q r.1 in
          ⊎_elim (λ (none : last_move v e.moves ≡ None). none)
          (λ (s : (b : Move) × (last_move v e.moves ≡ Some b)).
          let z = move_found v e.moves s.0 s.1 in
          let x = vertex_is n plan k z.0 e s.0 p z.1 in
          absurd (omega (arith, lt, (w.once k l z.0 r.0 x.0 y.0 x.1 y.1 (x.2 ∙ (z.2 ∙ (sym r.2 ∙ sym y.2)))).0)))
          (maybe_cases (last_move v e.moves));
    }

-- what begins a phase, said by places
pub record CanBegin (s : WriterState) (plan : PhasePlan) : Type 0 where
  pub all_published : s.published ≡ length s.plan.groups
  pub none_out : s.loans ≡ []
  pub phase_in : s.phase + 1 ≤ MAX_PHASE
  pub formed : IsFormed s.vertices (s.phase + 1) plan
  pub old : (k : ℕ) (e : Entry) (i : ℕ) (m : Move) → slice_get plan.groups k ≡ Some e → slice_get e.moves i ≡ Some m → level_of 0 s.history m.vertex ≡ m.old

pub can_begin : (s : WriterState) (plan : PhasePlan) → MayBegin s plan → CanBegin s plan
can_begin s plan may =
    let formed = formed_of s.vertices plan may.well_formed in record {
      all_published = may.all_published;
      none_out = may.none_out;
      phase_in = may.phase_in;
      formed = subst (λ (p : ℕ). IsFormed s.vertices p plan) may.next formed;
      old = λ k e i m is at.
          let g = got plan.groups k e e is in
          let r = got e.moves i m m at in
          let olds = subst (λ (z : Entry). All (λ (m : Move). last_level s.vertices s.history m.vertex ≡ m.old) z.moves) g.1 (may.old_levels k e g.0) in
          let old = subst (λ (z : Move). last_level s.vertices s.history z.vertex ≡ z.old) r.1 (olds i m r.0) in
          let good = (formed.groups k e is).moves i m at in
          sym (at_end s.vertices s.history m.vertex good.inside) ∙ old;
    }

-- what publishes a group, said by places
pub record CanPublish (s : WriterState) (g : ℕ) : Type 0 where
  pub group : Entry
  pub group_is : slice_get s.plan.groups s.published ≡ Some group
  pub at : slice_get s.plan.groups g ≡ Some group
  pub none_out : (l : Loan) → Contains s.loans l → l.group ≢ s.published
  pub all_marked : (i : ℕ) (m : Move) → slice_get group.moves i ≡ Some m → Contains s.marked m.vertex

pub can_publish : (s : WriterState) (g : ℕ) → MayPublish s g → CanPublish s g
can_publish s g may =
    let at = slice_get-get_or s.plan.groups g s.plan.quiet may.inside in record {
      group = group_at s.plan g;
      group_is = ap (slice_get s.plan.groups) (sym may.next) ∙ at;
      at = at;
      none_out = λ l on same. All-contains (λ (x : Loan). x.group ≢ g) s.loans l may.none_out on (same ∙ sym may.next);
      all_marked = λ i m is. let r = got (group_at s.plan g).moves i m m is in subst (λ (z : Move). Contains s.marked z.vertex) r.1 (may.all_marked i m r.0);
    }

-- a move of a plan for n vertices at its place, with its group and label
pub record IsPlaced (n : ℕ) (plan : PhasePlan) (g i : ℕ) : Type 0 where
  pub group : Entry
  pub move : Move
  pub label : ℕ
  pub at : IsMoveAt plan g i group move
  pub vertex_is : vertex_at plan g i ≡ move.vertex
  pub inside : move.vertex < n
  pub label_is : group.label ≡ Some label
  pub label_in : label < n

-- where the group at place g has a move i, there is such a group: the quiet entry has no moves
group_in : (n p : ℕ) (plan : PhasePlan) (g i : ℕ) → IsFormed n p plan → i < length (group_at plan g).moves → g < length plan.groups
group_in n p plan g i formed few = grind (arith, nat_tests, get_or_past, lt_of_not-le, formed.no_moves)

pub placed : (n p : ℕ) (plan : PhasePlan) (g i : ℕ) → IsFormed n p plan → i < length (group_at plan g).moves → IsPlaced n plan g i
placed n p plan g i formed few =
    let e : Entry = group_at plan g in
    let m : Move = get_or e.moves i record { vertex = 0; old = 0; new = 0 } in
    let group = slice_get-get_or plan.groups g plan.quiet (group_in n p plan g i formed few) in
    let at = slice_get-get_or e.moves i record { vertex = 0; old = 0; new = 0 } few in
    let gr = formed.groups g e group in record {
      group = e;
      move = m;
      label = gr.label;
      at = record { group_is = group; move_is = at };
      vertex_is = (got (map (λ (x : Move). x.vertex) e.moves) i m.vertex 0 (got_map (λ (x : Move). x.vertex) e.moves i m at)).1;
      inside = (gr.moves i m at).inside;
      label_is = gr.label_is;
      label_in = gr.label_in;
    }

-- the same for a move of a lent range
pub placed_lent : (n p : ℕ) (plan : PhasePlan) (g i to : ℕ) → IsFormed n p plan → HasRange plan g to → i < to → IsPlaced n plan g i
placed_lent n p plan g i to formed range lt = grind (arith, nat_tests, got, placed, range.group, range.group_is, range.to_in)

pub label_same : (a b : ℕ) → Some a ≡ Some b → a ≡ b
label_same a b is = cc
