-- A published group keeps what the rule says of the words, and of each pass between its loads.
use Rattle.std.proofs.Common.{◌≡◌, ◌≢◌, ◌⊎◌, ℕ, ◌+◌, ◌*◌, ◌^◌, ◌<◌, ◌≤◌, List, [], ◌∷◌, ◌++◌, length, Option, Some, None, set, get_or, sym, refl, ap, ◌∙◌, subst, inl, inr, ⊎_elim, arith, length-set, get_or-set_same, get_or-set_other, lt_of_not-le}
use Rattle.std.proofs.lemmas.Bool.Decides.{nat_tests}
use mathlib.Core.Logic.{dite}
use native.Mathlib.Decide.{ℕ_discrete, dec_le}
use Rattle.kc_words.specs.declared.marks.Mark.{Mark}
use Rattle.kc_words.specs.Packed.{packed, unpacked}
use Rattle.kc_history.specs.declared.entries.Entry.{Entry}
use Rattle.kc_history.specs.Ends.{last_move}
use Rattle.kc_history.specs.private.Ends.{stamp_of}
use Rattle.kc_store.specs.declared.roles.Pending.{Pending}
use Rattle.kc_store.specs.Plans.{Move}
use Rattle.kc_store.specs.private.Rule.{Waits, ApartFrom, IsUnpublished, Fits, Facts, Reaches, LookHolds, BelowHolds}
use Rattle.kc_store.proofs.Points.{stamp_same, stamp_other, level_moved, level_stays, group_here, group_past, before_more, before_itself, reading_more, reaches_more, apart_found, wait_on}

abbrev pub mark : ℕ → ℕ → ℕ → Mark
mark l g p = record { new = l; label = g; phase = p }

pub unpacks : (l g p : ℕ) → g < 2 ^ 24 → p < 2 ^ 24 → unpacked (packed l g p) ≡ mark l g p
unpacks l g p a b = grind arith

pub maybe_cases : {A : Type 0} (o : Option A) → (o ≡ None) ⊎ ((a : A) × (o ≡ Some a))
maybe_cases None = inl refl
maybe_cases (Some a) = inr (a, refl)

module _ (n : ℕ) (log : List Entry) (e : Entry) (es : List Entry) (p : ℕ) (w : Waits n p log e) where
  -- a vertex that the group doesn't move has no mark of the group
  no_move : (v : ℕ) (u : Mark) (o : ℕ) → last_move v e.moves ≡ None → u.label ≡ w.label → IsUnpublished log (e ∷ es) p v u o → ⊥
  no_move v u o none same y = grind (arith, nat_tests, group_here, y.group_is, y.move_is)

  unpublished_on : (v : ℕ) (u : Mark) (o : ℕ) → last_move v e.moves ≡ None → u.label ≢ w.label → IsUnpublished log (e ∷ es) p v u o → IsUnpublished (log ++ e ∷ []) es p v u o
  unpublished_on v u o none other y = record {
    phase_is = y.phase_is;
    group = y.group;
    group_is = sym (group_past e es u.label w.label w.label_is other) ∙ y.group_is;
    move = y.move;
    move_is = y.move_is;
    new_is = y.new_is;
    level_is = level_stays log e v none ∙ y.level_is;
    old_is = y.old_is;
  }

  fits_stay : (v : ℕ) (u : Mark) (o : ℕ) → ((g : ℕ) → stamp_of 0 log g ≤ p) → last_move v e.moves ≡ None → Fits n log (e ∷ es) p v u o → Fits n (log ++ e ∷ []) es p v u o
  fits_stay v u o below none f = record {
    label_in = f.label_in;
    shown = λ le. grind (arith, nat_tests, level_stays, no_move, lt_of_not-le, stamp_other, f.shown, f.unpublished);
    unpublished = λ lt. grind (arith, nat_tests, stamp_same, unpublished_on, stamp_other, f.unpublished);
  }

  fits_moved : (v : ℕ) (m : Move) (o : ℕ) → last_move v e.moves ≡ Some m → Fits n (log ++ e ∷ []) es p v (mark m.new w.label p) o
  fits_moved v m o is = record {
    label_in = w.label_in;
    shown = λ le. level_moved log e v m is;
    unpublished = λ lt. let s = stamp_same log e w.label w.label_is in let k = w.phase_is in absurd (omega arith);
  }

  abbrev stored : List ℕ → List ℕ
  stored ws = set ws (n + 1 + w.label) p

  mark_stays : (ws : List ℕ) (v : ℕ) → v < n → get_or (stored ws) (v + 1) 0 ≡ get_or ws (v + 1) 0
  mark_stays ws v inside = get_or-set_other ws (n + 1 + w.label) (v + 1) p 0 (λ x. omega arith)

  old_stays : (ws : List ℕ) (v : ℕ) → v < n → get_or (stored ws) (2 * n + 1 + v) 0 ≡ get_or ws (2 * n + 1 + v) 0
  old_stays ws v inside = let l = w.label_in in get_or-set_other ws (n + 1 + w.label) (2 * n + 1 + v) p 0 (λ x. omega (arith, x, l, inside))

  pub publish : (ws : List ℕ) → Facts n log (e ∷ es) p ws → ((v : ℕ) (m : Move) → last_move v e.moves ≡ Some m → unpacked (get_or ws (v + 1) 0) ≡ mark m.new w.label p) → Facts n (log ++ e ∷ []) es p (stored ws)
  publish ws f all = record {
    sized = length-set ws (n + 1 + w.label) p ∙ f.sized;
    small = f.small;
    phase_is = get_or-set_other ws (n + 1 + w.label) 0 p 0 (λ x. omega arith) ∙ f.phase_is;
    phase_in = f.phase_in;
    stamps = record {
      words = λ g inside. dite (ℕ_discrete g w.label)
          (λ same. subst (λ (k : ℕ). get_or (stored ws) (n + 1 + k) 0 ≡ stamp_of 0 (log ++ e ∷ []) k) (sym same)
          (let l = w.label_in in let sized = f.sized in
          let here : n + 1 + w.label < length ws = omega arith in
          get_or-set_same ws (n + 1 + w.label) p 0 here ∙ sym (stamp_same log e w.label w.label_is ∙ w.phase_is)))
          (λ other. get_or-set_other ws (n + 1 + w.label) (n + 1 + g) p 0 (λ x. other (omega arith)) ∙ (f.stamps.words g inside ∙ sym (stamp_other log e g w.label w.label_is other)));
      below = λ g. dite (ℕ_discrete g w.label)
          (λ same. let s = stamp_same log e g (w.label_is ∙ ap Some (sym same)) in let k = w.phase_is in omega arith)
          (λ other. let s = stamp_other log e g w.label w.label_is other in let b = f.stamps.below g in omega arith);
    };
    groups = record { waiting = wait_on n p log e es w f.groups.apart.0 f.groups.waiting.1; apart = f.groups.apart.1 };
    vertices = λ v inside.
        let o : ℕ = get_or ws (2 * n + 1 + v) 0 in
        subst (λ (z : ℕ × ℕ). Fits n (log ++ e ∷ []) es p v (unpacked z.0) z.1) (λ i. (sym (mark_stays ws v inside) i, sym (old_stays ws v inside) i)) (⊎_elim
        (λ none. fits_stay v (unpacked (get_or ws (v + 1) 0)) o f.stamps.below none (f.vertices v inside))
        (λ (s : (m : Move) × (last_move v e.moves ≡ Some m)).
        subst (λ (u : Mark). Fits n (log ++ e ∷ []) es p v u o) (sym (all v s.0 s.1)) (fits_moved v s.0 o s.1))
        (maybe_cases (last_move v e.moves)));
    olds = λ v inside. subst (λ (k : ℕ). k < 2 ^ 16) (sym (old_stays ws v inside)) (f.olds v inside);
  }

  abbrev Unpublished : List ℕ → Pending → Type 0
  Unpublished ws q = IsUnpublished log (e ∷ es) p q.vertex (unpacked q.word) (get_or ws (2 * n + 1 + q.vertex) 0)

  -- what a pass between its first and second load knows stays true
  pub publish_look : (ws : List ℕ) (q : Pending) → ((g : ℕ) → stamp_of 0 log g ≤ p) → ApartFrom e es → LookHolds n log (e ∷ es) p ws q → LookHolds n (log ++ e ∷ []) es p (stored ws) q
  publish_look ws q below apart h = let u = unpacked q.word in record {
    reading = reading_more n log e q h.reading;
    label_in = h.label_in;
    shown = λ le. dite (dec_le u.phase (stamp_of 0 log u.label))
        (λ old. reaches_more q.from log e q.vertex u.new (h.shown old))
        (λ late. now (h.unpublished (lt_of_not-le late)) (lt_of_not-le late) le);
    unpublished = λ lt. let y : Unpublished ws q = h.unpublished (older lt) in dite (ℕ_discrete u.label w.label)
        (λ same. let s = stamp_same log e u.label (w.label_is ∙ ap Some (sym same)) in let k = w.phase_is in let t = y.phase_is in absurd (omega arith))
        (λ other. subst (λ (k : ℕ). IsUnpublished (log ++ e ∷ []) es p q.vertex u k) (sym (old_stays ws q.vertex h.reading.inside)) (unpublished_on q.vertex u _ (kept_apart other y) other y));
  }
    where
      older : stamp_of 0 (log ++ e ∷ []) (unpacked q.word).label < (unpacked q.word).phase → stamp_of 0 log (unpacked q.word).label < (unpacked q.word).phase
      older lt = grind (arith, nat_tests, stamp_same, stamp_other)

      kept_apart : (unpacked q.word).label ≢ w.label → Unpublished ws q → last_move q.vertex e.moves ≡ None
      kept_apart other y = (apart_found e (unpacked q.word).label es y.group apart (sym (group_past e es (unpacked q.word).label w.label w.label_is other) ∙ y.group_is)).vertices q.vertex y.move y.move_is

      now : Unpublished ws q → stamp_of 0 log (unpacked q.word).label < (unpacked q.word).phase → (unpacked q.word).phase ≤ stamp_of 0 (log ++ e ∷ []) (unpacked q.word).label
          → Reaches q.from (log ++ e ∷ []) q.vertex (unpacked q.word).new
      now y late le = dite (ℕ_discrete (unpacked q.word).label w.label)
          (λ same.
          let here : Some e ≡ Some y.group = sym (group_here e es (unpacked q.word).label (w.label_is ∙ ap Some (sym same))) ∙ y.group_is in
          let is : e ≡ y.group = cc in
          let moves : last_move q.vertex e.moves ≡ Some y.move = subst (λ (x : Entry). last_move q.vertex x.moves ≡ Some y.move) (sym is) y.move_is in
          record {
            point = log ++ e ∷ [];
            after = before_more q.from log e h.reading.from_in;
            within = before_itself (log ++ e ∷ []);
            level_is = level_moved log e q.vertex y.move moves ∙ y.new_is;
          })
          (λ other. let s = stamp_other log e (unpacked q.word).label w.label w.label_is other in absurd (omega arith))

  pub publish_below : (ws : List ℕ) (q : Pending) → BelowHolds n log ws q → BelowHolds n (log ++ e ∷ []) (stored ws) q
  publish_below ws q h = record {
    reading = reading_more n log e q h.reading;
    old = subst (Reaches q.from (log ++ e ∷ []) q.vertex) (sym (old_stays ws q.vertex h.reading.inside)) (reaches_more q.from log e q.vertex (get_or ws (2 * n + 1 + q.vertex) 0) h.old);
  }
