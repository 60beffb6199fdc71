-- Two laws of stores to the words of a vertex, whoever makes them: one of packed words, one of old levels.
use Rattle.std.proofs.Common.{◌≡◌, ◌≢◌, ℕ, ◌+◌, ◌*◌, ◌^◌, ◌<◌, Bool, true, false, List, [], ◌∷◌, ◌++◌, length, Some, None, if◌then◌else◌, set, get_or, Contains, sym, refl, ap, ◌∙◌, subst, ⊎_elim, arith, length-set, get_or-set_same, get_or-set_other}
use Rattle.std.proofs.lemmas.List.Elements.{Contains-push_cases, Contains-append_left}
use Rattle.std.proofs.lemmas.Bool.Decides.{nat_tests}
use mathlib.Core.Logic.{dite}
use native.Mathlib.Decide.{ℕ_discrete}
use Rattle.kc_words.specs.declared.marks.Mark.{Mark}
use Rattle.kc_words.specs.Packed.{packed, unpacked}
use Rattle.kc_history.specs.declared.entries.Entry.{Entry}
use Rattle.kc_history.specs.Ends.{last_move}
use Rattle.kc_history.specs.private.Ends.{level_of, is_label, stamp_of}
use Rattle.kc_store.specs.declared.roles.Pending.{Pending}
use Rattle.kc_store.specs.Plans.{Move}
use Rattle.kc_store.specs.private.Plans.{group_of}
use Rattle.kc_store.specs.private.Rule.{AllApart, IsUnpublished, Fits, Facts, IsSoundMark, IsSoundOld, IsMarked, IsNoted, IsUnmoved, AllMarked, AllNoted, AllCleared, AreMarkedNoted, MarksHold, Reaches, LookHolds, BelowHolds}
use Rattle.kc_store.proofs.Limits.{vertex_fits, phase_fits}
use Rattle.kc_store.proofs.Points.{group_label, label_found, waits_found, apart_found, before_itself}
use Rattle.kc_store.proofs.Publishing.{mark, unpacks}

-- a vertex moves in one group alone
pub same_group : (v g h : ℕ) (es : List Entry) (e f : Entry) (m k : Move) → AllApart es → group_of g es ≡ Some e → group_of h es ≡ Some f → last_move v e.moves ≡ Some m → last_move v f.moves ≡ Some k → e ≡ f
same_group v g h [] e f m k apart ge hf me kf = cc
same_group v g h (x ∷ xs) e f m k apart ge hf me kf = go (is_label g x.label) (is_label h x.label) refl refl (λ a b. same_group v g h xs e f m k apart.1 a b me kf)
  where
    here : (i : ℕ) (y : Entry) → is_label i x.label ≡ true → group_of i (x ∷ xs) ≡ Some y → x ≡ y
    here i y t is = let s : Some x ≡ Some y = sym (ap (λ b. if b then Some x else group_of i xs) t) ∙ is in cc

    past : (i : ℕ) (y : Entry) → is_label i x.label ≡ false → group_of i (x ∷ xs) ≡ Some y → group_of i xs ≡ Some y
    past i y t is = sym (ap (λ b. if b then Some x else group_of i xs) t) ∙ is

    clash : (i : ℕ) (y : Entry) (a b : Move) → group_of i xs ≡ Some y → last_move v y.moves ≡ Some b → last_move v x.moves ≡ Some a → e ≡ f
    clash i y a b is by ax = let none : last_move v x.moves ≡ None = (apart_found x i xs y apart.0 is).vertices v b by in let s : None ≡ Some a = sym none ∙ ax in cc

    go : (b c : Bool) → is_label g x.label ≡ b → is_label h x.label ≡ c → (group_of g xs ≡ Some e → group_of h xs ≡ Some f → e ≡ f) → e ≡ f
    go b c t u on = grind (arith, nat_tests, here, clash, past)

-- the mark of a move of a group that is not published yet may be stored where its old level is
pub sound_mark : (n : ℕ) (log rest : List Entry) (p : ℕ) (ws : List ℕ) (v g o : ℕ) (e : Entry) (m : Move) → Facts n log rest p ws → group_of g rest ≡ Some e → last_move v e.moves ≡ Some m → o ≡ m.old → IsSoundMark n log rest p v (packed m.new g p) o
sound_mark n log rest p ws v g o e m f group moves old =
    let w = waits_found n p log g rest e f.groups.waiting group in
    let named : e.label ≡ Some g = label_found g e.label (group_label g rest e group) in
    let same : Some g ≡ Some w.label = sym named ∙ w.label_is in
    let is : g ≡ w.label = cc in
    let h = w.moves v m moves in
    let late : stamp_of 0 log g < p = subst (λ (k : ℕ). stamp_of 0 log k < p) (sym is) w.older in
    let inside : g < n = subst (λ (k : ℕ). k < n) (sym is) w.label_in in
    let u : unpacked (packed m.new g p) ≡ mark m.new g p = unpacks m.new g p (vertex_fits n g f.small inside) (phase_fits p f.phase_in) in record {
      fits = subst (λ (z : Mark). Fits n log rest p v z o) (sym u) record {
        label_in = inside;
        shown = λ le. absurd (omega (arith, le, late));
        unpublished = λ b. record { phase_is = refl; group = e; group_is = group; move = m; move_is = moves; new_is = refl; level_is = h.1; old_is = old };
      };
      marked = λ j y b group' there.
          let one : e ≡ y = same_group v g j rest e y m b f.groups.apart group group' moves there in
          let named' : y.label ≡ Some j = label_found j y.label (group_label j rest y group') in
          let labels : Some g ≡ Some j = sym named ∙ (ap (λ (z : Entry). z.label) one ∙ named') in
          let label_same : g ≡ j = cc in
          let both : Some m ≡ Some b = sym moves ∙ (ap (λ (z : Entry). last_move v z.moves) one ∙ there) in
          let move_same : m ≡ b = cc in
          u ∙ (λ i. mark (move_same i).new (label_same i) p);
      cleared = λ free. let n : None ≡ Some m = sym (free g e group) ∙ moves in cc;
    }

-- a mark of phase 0 with the level of a vertex may be stored where no group that waits moves it
pub sound_clear : (n : ℕ) (log rest : List Entry) (p v l o : ℕ) → v < n → level_of 0 log v ≡ l → IsUnmoved rest v → IsSoundMark n log rest p v (packed l 0 0) o
sound_clear n log rest p v l o inside is free = grind (arith, nat_tests, mark, unpacks)

-- one noted vertex more
noted_still : (marked noted : List ℕ) (v : ℕ) → AreMarkedNoted marked noted → AreMarkedNoted marked (noted ++ v ∷ [])
noted_still marked noted v all x on = Contains-append_left noted (v ∷ []) x (all x on)

-- one marked vertex more, which is noted
marked_still : (marked noted : List ℕ) (v : ℕ) → Contains noted v → AreMarkedNoted marked noted → AreMarkedNoted (marked ++ v ∷ []) noted
marked_still marked noted v there all x on = ⊎_elim (λ (t : Contains marked x). all x t) (λ (s : v ≡ x). subst (Contains noted) s there) (Contains-push_cases marked v x on)

module _ (n : ℕ) (log rest : List Entry) (p : ℕ) (ws : List ℕ) (v k : ℕ) (inside : v < n) (sized : length ws ≡ 3 * n + 1) (sound : IsSoundMark n log rest p v k (get_or ws (2 * n + 1 + v) 0)) where
  abbrev marked : List ℕ
  marked = set ws (v + 1) k

  here : get_or marked (v + 1) 0 ≡ k
  here = let lt : v + 1 < length ws = omega arith in get_or-set_same ws (v + 1) k 0 lt

  else_where : (x : ℕ) → x ≢ v → get_or marked (x + 1) 0 ≡ get_or ws (x + 1) 0
  else_where x o = get_or-set_other ws (v + 1) (x + 1) k 0 (λ y. o (omega arith))

  old_stays : (x : ℕ) → get_or marked (2 * n + 1 + x) 0 ≡ get_or ws (2 * n + 1 + x) 0
  old_stays x = get_or-set_other ws (v + 1) (2 * n + 1 + x) k 0 (λ y. omega (arith, y, inside))

  pub mark_facts : Facts n log rest p ws → Facts n log rest p marked
  mark_facts f = record {
    sized = length-set ws (v + 1) k ∙ f.sized;
    small = f.small;
    phase_is = get_or-set_other ws (v + 1) 0 k 0 (λ x. omega arith) ∙ f.phase_is;
    phase_in = f.phase_in;
    stamps = record { words = λ j lt. get_or-set_other ws (v + 1) (n + 1 + j) k 0 (λ x. omega arith) ∙ f.stamps.words j lt; below = f.stamps.below };
    groups = f.groups;
    vertices = λ x lt. grind (arith, nat_tests, old_stays, here, else_where, sound.fits, f.vertices);
    olds = λ x lt. subst (λ (z : ℕ). z < 2 ^ 16) (sym (old_stays x)) (f.olds x lt);
  }

  mark_notes : (vs : List ℕ) → AllNoted n rest ws vs → AllNoted n rest marked vs
  mark_notes vs all x on = let a = all x on in (a.0, subst (IsNoted rest x) (sym (old_stays x)) a.1)

  marked_here : IsMarked rest p v (get_or marked (v + 1) 0)
  marked_here = subst (IsMarked rest p v) (sym here) sound.marked

  mark_marks : (vs : List ℕ) → AllMarked rest p ws vs → AllMarked rest p marked vs
  mark_marks vs all x on = grind (arith, nat_tests, marked_here, else_where)

  mark_more : (vs : List ℕ) → AllMarked rest p ws vs → AllMarked rest p marked (vs ++ v ∷ [])
  mark_more vs all x on = ⊎_elim (λ (t : Contains vs x). mark_marks vs all x t) (λ (s : v ≡ x). subst (λ (y : ℕ). IsMarked rest p y (get_or marked (y + 1) 0)) s marked_here) (Contains-push_cases vs v x on)

  abbrev IsClear : ℕ → Type 0
  IsClear z = (unpacked z).phase ≡ 0

  clear_here : IsUnmoved rest v → IsClear (get_or marked (v + 1) 0)
  clear_here free = subst IsClear (sym here) (sound.cleared free)

  mark_clears : (vs : List ℕ) → AllCleared n rest ws vs → AllCleared n rest marked vs
  mark_clears vs all x on = let c = all x on in (
    c.0,
    c.1,
    dite (ℕ_discrete x v)
        (λ s. subst (λ (y : ℕ). IsClear (get_or marked (y + 1) 0)) (sym s) (clear_here (subst (IsUnmoved rest) s c.1)))
        (λ o. subst IsClear (sym (else_where x o)) c.2),
  )

  clear_more : (vs : List ℕ) → IsUnmoved rest v → AllCleared n rest ws vs → AllCleared n rest marked (vs ++ v ∷ [])
  clear_more vs free all x on = ⊎_elim (λ (t : Contains vs x). mark_clears vs all x t) (λ (s : v ≡ x). subst (λ (y : ℕ). (y < n) × IsUnmoved rest y × IsClear (get_or marked (y + 1) 0)) s (inside, free, clear_here free)) (Contains-push_cases vs v x on)

  pub mark_holds : (ns ms cs : List ℕ) → MarksHold n rest p ws ns ms cs → MarksHold n rest p marked ns ms cs
  mark_holds ns ms cs h = record { notes = mark_notes ns h.notes; marks = mark_marks ms h.marks; marks_noted = h.marks_noted; clears = mark_clears cs h.clears }

  -- the move of v is marked
  pub mark_adds : (ns ms cs : List ℕ) → Contains ns v → MarksHold n rest p ws ns ms cs → MarksHold n rest p marked ns (ms ++ v ∷ []) cs
  mark_adds ns ms cs noted h = record { notes = mark_notes ns h.notes; marks = mark_more ms h.marks; marks_noted = marked_still ms ns v noted h.marks_noted; clears = mark_clears cs h.clears }

  -- the move of v is cleared
  pub clear_adds : (ns ms cs : List ℕ) → IsUnmoved rest v → MarksHold n rest p ws ns ms cs → MarksHold n rest p marked ns ms (cs ++ v ∷ [])
  clear_adds ns ms cs free h = record { notes = mark_notes ns h.notes; marks = mark_marks ms h.marks; marks_noted = h.marks_noted; clears = clear_more cs free h.clears }

  pub mark_look : (q : Pending) → LookHolds n log rest p ws q → LookHolds n log rest p marked q
  mark_look q h = record {
    reading = h.reading;
    label_in = h.label_in;
    shown = h.shown;
    unpublished = λ lt. subst (IsUnpublished log rest p q.vertex (unpacked q.word)) (sym (old_stays q.vertex)) (h.unpublished lt);
  }

  pub mark_below : (q : Pending) → BelowHolds n log ws q → BelowHolds n log marked q
  mark_below q h = record {
    reading = h.reading;
    old = subst (Reaches q.from log q.vertex) (sym (old_stays q.vertex)) h.old;
  }

module _ (n : ℕ) (log rest : List Entry) (p : ℕ) (ws : List ℕ) (v o : ℕ) (inside : v < n) (f : Facts n log rest p ws) (sound : IsSoundOld log v o) where
  abbrev noted : List ℕ
  noted = set ws (2 * n + 1 + v) o

  old_here : get_or noted (2 * n + 1 + v) 0 ≡ o
  old_here = let sized = f.sized in let lt : 2 * n + 1 + v < length ws = omega (arith, sized, inside) in get_or-set_same ws (2 * n + 1 + v) o 0 lt

  old_else : (x : ℕ) → x ≢ v → get_or noted (2 * n + 1 + x) 0 ≡ get_or ws (2 * n + 1 + x) 0
  old_else x other = get_or-set_other ws (2 * n + 1 + v) (2 * n + 1 + x) o 0 (λ y. other (omega (arith, y)))

  mark_stays : (x : ℕ) → x < n → get_or noted (x + 1) 0 ≡ get_or ws (x + 1) 0
  mark_stays x lt = get_or-set_other ws (2 * n + 1 + v) (x + 1) o 0 (λ y. omega (arith, y, lt))

  -- the old level of a move that is marked is the level of its vertex, so it is the one that is stored
  unpublished_at : (x : ℕ) (u : Mark) → IsUnpublished log rest p x u (get_or ws (2 * n + 1 + x) 0) → IsUnpublished log rest p x u (get_or noted (2 * n + 1 + x) 0)
  unpublished_at x u y = record {
    phase_is = y.phase_is;
    group = y.group;
    group_is = y.group_is;
    move = y.move;
    move_is = y.move_is;
    new_is = y.new_is;
    level_is = y.level_is;
    old_is = grind (arith, nat_tests, old_here, old_else, sound.level_is, y.level_is, y.old_is);
  }

  pub note_facts : Facts n log rest p noted
  note_facts = record {
    sized = length-set ws (2 * n + 1 + v) o ∙ f.sized;
    small = f.small;
    phase_is = get_or-set_other ws (2 * n + 1 + v) 0 o 0 (λ x. omega arith) ∙ f.phase_is;
    phase_in = f.phase_in;
    stamps = record { words = λ j lt. get_or-set_other ws (2 * n + 1 + v) (n + 1 + j) o 0 (λ x. omega (arith, x, lt)) ∙ f.stamps.words j lt; below = f.stamps.below };
    groups = f.groups;
    vertices = λ x lt. grind (arith, nat_tests, mark_stays, unpublished_at);
    olds = λ x lt. grind (arith, nat_tests, old_here, old_else, sound.short);
  }

  noted_here : IsNoted rest v (get_or noted (2 * n + 1 + v) 0)
  noted_here g e m group moves = old_here ∙ (sym sound.level_is ∙ ((waits_found n p log g rest e f.groups.waiting group).moves v m moves).1)

  note_notes : (vs : List ℕ) → AllNoted n rest ws vs → AllNoted n rest noted vs
  note_notes vs all x on = let a = all x on in (
    a.0,
    dite (ℕ_discrete x v)
        (λ s. subst (λ (y : ℕ). IsNoted rest y (get_or noted (2 * n + 1 + y) 0)) (sym s) noted_here)
        (λ other. subst (IsNoted rest x) (sym (old_else x other)) a.1),
  )

  note_more : (vs : List ℕ) → AllNoted n rest ws vs → AllNoted n rest noted (vs ++ v ∷ [])
  note_more vs all x on = ⊎_elim (λ (t : Contains vs x). note_notes vs all x t) (λ (s : v ≡ x). subst (λ (y : ℕ). (y < n) × IsNoted rest y (get_or noted (2 * n + 1 + y) 0)) s (inside, noted_here)) (Contains-push_cases vs v x on)

  note_marks : (vs : List ℕ) → ((x : ℕ) → Contains vs x → x < n) → AllMarked rest p ws vs → AllMarked rest p noted vs
  note_marks vs within all x on = subst (IsMarked rest p x) (sym (mark_stays x (within x on))) (all x on)

  note_clears : (vs : List ℕ) → AllCleared n rest ws vs → AllCleared n rest noted vs
  note_clears vs all x on = let c = all x on in (c.0, c.1, subst (λ (z : ℕ). (unpacked z).phase ≡ 0) (sym (mark_stays x c.0)) c.2)

  marks_stay : (ns ms cs : List ℕ) → MarksHold n rest p ws ns ms cs → AllMarked rest p noted ms
  marks_stay ns ms cs h = note_marks ms (λ x on. (h.notes x (h.marks_noted x on)).0) h.marks

  pub note_holds : (ns ms cs : List ℕ) → MarksHold n rest p ws ns ms cs → MarksHold n rest p noted ns ms cs
  note_holds ns ms cs h = record { notes = note_notes ns h.notes; marks = marks_stay ns ms cs h; marks_noted = h.marks_noted; clears = note_clears cs h.clears }

  -- the move of v is noted
  pub note_adds : (ns ms cs : List ℕ) → MarksHold n rest p ws ns ms cs → MarksHold n rest p noted (ns ++ v ∷ []) ms cs
  note_adds ns ms cs h = record { notes = note_more ns h.notes; marks = marks_stay ns ms cs h; marks_noted = noted_still ms ns v h.marks_noted; clears = note_clears cs h.clears }

  pub note_look : (q : Pending) → LookHolds n log rest p ws q → LookHolds n log rest p noted q
  note_look q h = record {
    reading = h.reading;
    label_in = h.label_in;
    shown = h.shown;
    unpublished = λ lt. unpublished_at q.vertex (unpacked q.word) (h.unpublished lt);
  }

  -- a pass may find the level of now, which is one since its first load
  pub note_below : (q : Pending) → BelowHolds n log ws q → BelowHolds n log noted q
  note_below q h = record {
    reading = h.reading;
    old = grind (arith, nat_tests, before_itself, old_here, old_else, h.reading.from_in, sound.level_is, h.old);
  }
