-- A step of a sweep: which vertices go on, begin and stay, and where they are.
use Rattle.std.proofs.Common.{ℕ, ◌+◌, ◌≤◌, ◌<◌, ◌≡◌, inl, inr, true, false, ltb, not, ◌&&◌, ◌||◌, List, [], length, get_or, filter, refl, ap, sym, subst, ◌∙◌, arith}
use Rattle.std.specs.List.{flat_map}
use Rattle.std.proofs.lemmas.Bool.{and_from, and_right, cases_Bool, cases_lt, le-ltb, lt-ltb, ltb-true, true≢false}
use Rattle.std.proofs.lemmas.List.{get_or_past}
use Rattle.std.proofs.lemmas.Bool.Decides.{nat_tests}
use Rattle.kc_graph.specs.Numbers.{has_number}
use Rattle.kc_graph.specs.Shape.{GraphShape}
use Rattle.kc_levels.specs.declared.profile.Profile.{Profile}
use Rattle.kc_levels.specs.Thresholds.{high, group_of}
use Rattle.kc_insert.specs.declared.rising.RisingLevels.{RisingLevels}
use Rattle.kc_insert.specs.private.LevelStep.{AreAtRest, HasLimit}
use Rattle.kc_insert.specs.Ranges.{Cut, IsCut, HasVertex, no_part, Part, range_of, Tell, Watch}
use Rattle.kc_insert.specs.private.Ranges.{AreKept, is_over}
use Rattle.kc_insert.specs.private.Rising.{all_at, rises, seen}
use Rattle.kc_insert.specs.private.Sweeping.{IsSweeping, sweeping_of}
use Rattle.kc_insert.specs.private.Watched.{count_at}
use Rattle.kc_insert.proofs.Buckets.{has_number-filter}
use Rattle.kc_insert.proofs.Joined.{joined_in, joined_of}
use Rattle.kc_insert.proofs.Lifting.{length-all_at, all_at_here, all_at_other}
use Rattle.kc_insert.proofs.RoundParts.{at_place, begun_in, count_in, HasLifted, Passage, stay_in, waits_in, watch_taken}
use Rattle.kc_insert.proofs.Tests.{and_first, and_on, and_second, not_second}
use Rattle.kc_insert.proofs.Stepping.{rose_below, waits_here}

abbrev pub cut_of : ℕ → List Part → List Tell → Cut
cut_of width ps ts = record { width = width; parts = ps; told = ts }

abbrev pub began_in : List Part → List ℕ
began_in ps = flat_map (λ (q : Part). q.began) ps

abbrev pub risen_in : List Part → List ℕ
risen_in ps = flat_map (λ (q : Part). q.risen) ps

-- levels and ranges between steps, where the limit is that of the level
pub record AreKeeping (p : Profile) (g : GraphShape) (x : List ℕ) (width most levels : ℕ) (s0 : RisingLevels) (p0 : List Part) (t0 : List Tell) : Type 0 where
  pub shape : IsCut g.vertices levels (cut_of width p0 t0)
  pub kept : AreKept s0 (cut_of width p0 t0)
  pub rest : AreAtRest (cut_of width p0 t0)
  pub limit : HasLimit most (cut_of width p0 t0)
  pub sweeping : IsSweeping p g x (sweeping_of s0 (cut_of width p0 t0))
  pub most_is : most ≡ high p (group_of p g.vertices s0.level)

module _ (p : Profile) (g : GraphShape) (x : List ℕ) (width most levels : ℕ) (s0 : RisingLevels) (p0 : List Part) (t0 : List Tell) (k : AreKeeping p g x width most levels s0 p0 t0) where
  -- a list of no range is empty
  pub range_inside : (f : Part → List ℕ) (v j : ℕ) → f no_part ≡ [] → has_number v (f (at_place p0 j)) ≡ true → j < length p0
  range_inside f v j none there = grind (arith, nat_tests, true≢false, get_or_past)

  pub began_at : (v : ℕ) → rises s0 v ≡ true → (range_of width v < length p0) × (has_number v (began_in p0) ≡ true)
  began_at v up =
      let there = k.kept.began v up in
      let at : range_of width v < length p0 = range_inside (λ (q : Part). q.began) v (range_of width v) refl there in
      (at, joined_of (λ (q : Part). q.began) p0 v (range_of width v) at there)

  -- the vertices that rise are those in the list
  pub listed : (v : ℕ) → has_number v (filter (rises s0) (began_in p0)) ≡ rises s0 v
  listed v = has_number-filter v (rises s0) (began_in p0) ∙ elim (cases_Bool (rises s0 v)) [
    | inl up ↦ and_on (has_number v (began_in p0)) (rises s0 v) (began_at v up).1
    | inr none ↦ and_right (has_number v (began_in p0)) (rises s0 v) none ∙ sym none
  ]

  -- a vertex that a range has is of the graph, and the range is its own
  pub own_count : (j v : ℕ) → j < length p0 → HasVertex (at_place p0 j).watch v → (v < g.vertices) × (range_of width v ≡ j) × (count_in width p0 v ≡ count_at (at_place p0 j).watch v)
  own_count j v at held =
      let it = k.shape.own j v at held in
      (it.0, it.1, ap (λ i. count_at (at_place p0 i).watch v) it.1)

  pub vertex_in : (v : ℕ) → v < g.vertices → (range_of width v < length p0) × HasVertex (at_place p0 (range_of width v)).watch v
  vertex_in v h = let it = k.shape.vertex v h in (it.place, it.held)

module _ (p : Profile) (g : GraphShape) (x : List ℕ) (r : Passage) (k : AreKeeping p g x r.width r.most r.level_count r.levels.old r.parts.old r.old_told) (h : HasLifted g r) where
  count_taken : (v : ℕ) → count_in r.width r.parts.taken v ≡ count_in r.width r.parts.old v
  count_taken v = elim (cases_lt (range_of r.width v) (length r.parts.old)) [
    | inl at ↦ ap (λ (w : Watch). count_at w v) (watch_taken g r h (range_of r.width v) at)
    | inr past ↦ ap (λ (q : Part). count_at q.watch v) (get_or_past r.parts.taken (range_of r.width v) no_part (omega (arith, past, h.took.sized)) ∙ sym (get_or_past r.parts.old (range_of r.width v) no_part past))
  ]

  -- a vertex that rises on counts many
  over_left : (v : ℕ) → rises r.levels.stopped v ≡ true → (rises r.levels.old v ≡ true) × (r.most < count_in r.width r.parts.old v)
  over_left v on =
      let was : rises r.levels.old v ≡ true = and_first (rises r.levels.old v) (not (has_number v (stay_in r.parts.stopped))) (sym (h.stopped.rises_on v) ∙ on) in
      let at : range_of r.width v < length r.parts.old = (began_at p g x r.width r.most r.level_count r.levels.old r.parts.old r.old_told k v was).0 in (
        was,
        elim (cases_lt r.most (count_in r.width r.parts.old v)) [
          | inl over ↦ over
          | inr few ↦
              let same = watch_taken g r h (range_of r.width v) at in
              let listed_ = k.kept.few v was (omega (arith, few, k.limit (range_of r.width v) at)) in
              let over = h.stopped.over (range_of r.width v) v no_part (omega (arith, at, h.took.sized)) (ap (λ (w : Watch). has_number v w.doubtful) same ∙ listed_) on in
              omega (arith, over, ap (λ (w : Watch). w.most) same, ap (λ (w : Watch). count_at w v) same, k.limit (range_of r.width v) at)
        ],
      )

  -- a vertex that stays counts few
  pub stay_few : (v : ℕ) → has_number v (stay_in r.parts.stopped) ≡ true → (rises r.levels.old v ≡ true) × (count_in r.width r.parts.old v ≤ r.most) × (v < g.vertices)
  stay_few v there =
      let in_ = joined_in (λ (q : Part). q.stay) r.parts.stopped v there in
      let at : in_.0 < length r.parts.old = omega (arith, in_.1, h.stopped.sized, h.took.sized) in
      let it = h.stopped.stays in_.0 v no_part (omega (arith, at, h.took.sized)) in_.2 in
      let same = watch_taken g r h in_.0 at in
      let held : HasVertex (at_place r.parts.old in_.0).watch v = subst (λ w. HasVertex w v) same it.2 in
      let own = own_count p g x r.width r.most r.level_count r.levels.old r.parts.old r.old_told k in_.0 v at held in
      (it.0, omega (arith, it.1, own.2, ap (λ (w : Watch). w.most) same, ap (λ (w : Watch). count_at w v) same, k.limit in_.0 at), own.0)

  -- the vertices that rise on are those that rise and count many
  pub left_is : (v : ℕ) → rises r.levels.stopped v ≡ rises r.levels.old v && is_over (count_in r.width r.parts.old) r.most v
  left_is v = elim (cases_Bool (rises r.levels.stopped v)) [
    | inl on ↦ let it = over_left v on in on ∙ sym (and_from (rises r.levels.old v) (is_over (count_in r.width r.parts.old) r.most v) it.0 (lt-ltb r.most (count_in r.width r.parts.old v) it.1))
    | inr off ↦ off ∙ sym (elim (cases_Bool (rises r.levels.old v)) [
      | inr none ↦ ap (λ b. b && is_over (count_in r.width r.parts.old) r.most v) none
      | inl was ↦ and_right (rises r.levels.old v) (is_over (count_in r.width r.parts.old) r.most v) (le-ltb r.most (count_in r.width r.parts.old v) (stay_few v (not_second (rises r.levels.old v) (has_number v (stay_in r.parts.stopped)) was (sym (h.stopped.rises_on v) ∙ off))).1)
    ])
  ]

  -- the vertices that begin are those that wait and count many
  pub begun_is : (v : ℕ) → has_number v (begun_in r.parts.lifted) ≡ has_number v (waits_in r.levels.old.level r.parts.old) && is_over (count_in r.width r.parts.old) r.most v
  begun_is v =
      h.lifted.begun v ∙ ap (has_number v) h.movers ∙ has_number-filter v (is_over (count_in r.width r.parts.taken) r.most) (waits_in r.levels.old.level r.parts.old)
      ∙ ap (λ c. has_number v (waits_in r.levels.old.level r.parts.old) && ltb r.most c) (count_taken v)

  pub begun_here : (v : ℕ) → has_number v (begun_in r.parts.lifted) ≡ true → (v < g.vertices) × (get_or x v 0 ≡ r.levels.old.level) × (get_or (seen r.levels.old) v 0 ≡ r.levels.old.level) × (rises r.levels.old v ≡ false) × (r.most < count_in r.width r.parts.old v)
  begun_here v there =
      let both : has_number v (waits_in r.levels.old.level r.parts.old) && is_over (count_in r.width r.parts.old) r.most v ≡ true = sym (begun_is v) ∙ there in
      let it = waits_here p g x (sweeping_of r.levels.old (cut_of r.width r.parts.old r.old_told)) k.sweeping r.levels.old.level v (omega arith) (and_first (has_number v (waits_in r.levels.old.level r.parts.old)) (is_over (count_in r.width r.parts.old) r.most v) both) in
      (it.0, it.1, it.2, sym (listed p g x r.width r.most r.level_count r.levels.old r.parts.old r.old_told k v) ∙ it.3, ltb-true r.most (count_in r.width r.parts.old v) (and_second (has_number v (waits_in r.levels.old.level r.parts.old)) (is_over (count_in r.width r.parts.old) r.most v) both))

  pub left_here : (v : ℕ) → rises r.levels.stopped v ≡ true → (v < g.vertices) × (get_or (seen r.levels.old) v 0 ≡ r.levels.old.level) × (get_or x v 0 < r.levels.old.level) × (rises r.levels.old v ≡ true) × (r.most < count_in r.width r.parts.old v)
  left_here v on =
      let it = over_left v on in
      let came = k.sweeping.rise.came v (listed p g x r.width r.most r.level_count r.levels.old r.parts.old r.old_told k v ∙ it.0) in
      (came.0, came.1, came.2, it.0, it.1)

  pub rises_lifted : (v : ℕ) → rises r.levels.lifted v ≡ rises r.levels.stopped v || has_number v (begun_in r.parts.lifted)
  rises_lifted v = h.lifted.rising v ∙ ap (λ b. b || has_number v (begun_in r.parts.lifted)) (h.next.1 v)

  pub level_lifted : r.levels.lifted.level ≡ r.levels.old.level + 1
  level_lifted = h.lifted.on ∙ h.next.0

  -- the levels afterwards
  abbrev on_list : List ℕ
  on_list = filter (rises r.levels.stopped) (began_in r.parts.old)

  on_listed : (v : ℕ) → rises r.levels.stopped v ≡ has_number v on_list
  on_listed v = sym (has_number-filter v (rises r.levels.stopped) (began_in r.parts.old) ∙ elim (cases_Bool (rises r.levels.stopped v)) [
    | inl on ↦ and_on (has_number v (began_in r.parts.old)) (rises r.levels.stopped v) (began_at p g x r.width r.most r.level_count r.levels.old r.parts.old r.old_told k v (over_left v on).0).1
    | inr off ↦ and_right (has_number v (began_in r.parts.old)) (rises r.levels.stopped v) off ∙ sym off
  ])

  seen_next : seen r.levels.next ≡ all_at (seen r.levels.old) on_list (r.levels.old.level + 1)
  seen_next = h.gone on_list on_listed ∙ ap (λ y. all_at y on_list (r.levels.old.level + 1)) h.stopped.levels

  seen_lifted : seen r.levels.lifted ≡ all_at (all_at (seen r.levels.old) on_list (r.levels.old.level + 1)) (begun_in r.parts.lifted) (r.levels.old.level + 1)
  seen_lifted = h.lifted.levels ∙ ap (λ y. all_at y (begun_in r.parts.lifted) (r.levels.old.level + 1)) seen_next

  pub sized_parted : length (seen r.levels.lifted) ≡ length (seen r.levels.old)
  sized_parted = ap length seen_lifted ∙ length-all_at (all_at (seen r.levels.old) on_list (r.levels.old.level + 1)) (begun_in r.parts.lifted) (r.levels.old.level + 1) ∙ length-all_at (seen r.levels.old) on_list (r.levels.old.level + 1)

  vertices : length (seen r.levels.old) ≡ g.vertices
  vertices = k.sweeping.placed.raising.sized

  pub seen_begun : (v : ℕ) → has_number v (begun_in r.parts.lifted) ≡ true → get_or (seen r.levels.lifted) v 0 ≡ r.levels.old.level + 1
  seen_begun v there = ap (λ y. get_or y v 0) seen_lifted ∙ all_at_here (all_at (seen r.levels.old) on_list (r.levels.old.level + 1)) (begun_in r.parts.lifted) (r.levels.old.level + 1) v (omega (arith, (begun_here v there).0, vertices, length-all_at (seen r.levels.old) on_list (r.levels.old.level + 1))) there

  pub seen_on : (v : ℕ) → rises r.levels.stopped v ≡ true → get_or (seen r.levels.lifted) v 0 ≡ r.levels.old.level + 1
  seen_on v on = elim (cases_Bool (has_number v (begun_in r.parts.lifted))) [
    | inl there ↦ seen_begun v there
    | inr none ↦ ap (λ y. get_or y v 0) seen_lifted ∙ all_at_other (all_at (seen r.levels.old) on_list (r.levels.old.level + 1)) (begun_in r.parts.lifted) (r.levels.old.level + 1) v none ∙ all_at_here (seen r.levels.old) on_list (r.levels.old.level + 1) v (omega (arith, (left_here v on).0, vertices)) (sym (on_listed v) ∙ on)
  ]

  pub seen_same : (v : ℕ) → rises r.levels.stopped v ≡ false → has_number v (begun_in r.parts.lifted) ≡ false → get_or (seen r.levels.lifted) v 0 ≡ get_or (seen r.levels.old) v 0
  seen_same v off none = ap (λ y. get_or y v 0) seen_lifted ∙ all_at_other (all_at (seen r.levels.old) on_list (r.levels.old.level + 1)) (begun_in r.parts.lifted) (r.levels.old.level + 1) v none ∙ all_at_other (seen r.levels.old) on_list (r.levels.old.level + 1) v (sym (on_listed v) ∙ off)

  -- what becomes of a vertex
  pub data IsMove (v : ℕ) : Type 0 where
    goes : rises r.levels.stopped v ≡ true → has_number v (begun_in r.parts.lifted) ≡ false → IsMove v
    begins : rises r.levels.stopped v ≡ false → has_number v (begun_in r.parts.lifted) ≡ true → IsMove v
    stays : rises r.levels.stopped v ≡ false → has_number v (begun_in r.parts.lifted) ≡ false → IsMove v

  pub move_of : (v : ℕ) → IsMove v
  move_of v = elim (cases_Bool (has_number v (begun_in r.parts.lifted))) [
    | inl there ↦ grind (arith, nat_tests, cases_Bool (rises r.levels.stopped v), true≢false, left_here, begun_here)
    | inr none ↦ elim (cases_Bool (rises r.levels.stopped v)) [ inl on ↦ goes on none | inr off ↦ stays off none ]
  ]

  -- a vertex that rose doesn't begin again
  pub begun_fresh : (v : ℕ) → has_number v (begun_in r.parts.lifted) ≡ true → has_number v (risen_in r.parts.old) ≡ false
  begun_fresh v there = grind (arith, nat_tests, rose_below, begun_here)
