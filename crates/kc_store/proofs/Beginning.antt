-- A phase begins: the groups of the last one are all published.
use Rattle.std.proofs.Common.{◌≡◌, ℕ, ◌+◌, ◌*◌, ◌^◌, ◌<◌, ◌≤◌, List, [], ◌∷◌, ◌++◌, length, Some, None, if◌then◌else◌, set, get_or, sym, ap, ◌∙◌, subst, arith, length-set, get_or-set_same, get_or-set_other}
use Rattle.std.proofs.lemmas.Bool.Decides.{nat_tests}
use Rattle.kc_words.specs.declared.marks.Mark.{Mark}
use Rattle.kc_words.specs.Packed.{unpacked}
use Rattle.kc_history.specs.declared.limits.TheConstants.{MAX_PHASE}
use Rattle.kc_history.specs.declared.entries.Entry.{Entry}
use Rattle.kc_history.specs.Ends.{last_move}
use Rattle.kc_history.specs.private.Ends.{level_of, is_label, stamp_of}
use Rattle.kc_store.specs.declared.roles.Pending.{Pending}
use Rattle.kc_store.specs.private.Rule.{AllWait, AllApart, IsUnpublished, Fits, Facts, Reaches, LookHolds, BelowHolds}
use Rattle.kc_store.proofs.Points.{stamp_snoc, level_stays, reading_more, reaches_more}

module _ (n : ℕ) (log : List Entry) (quiet : Entry) (groups : List Entry) (p : ℕ) (no_label : quiet.label ≡ None) (no_moves : quiet.moves ≡ []) where
  same_stamp : (g : ℕ) → stamp_of 0 (log ++ quiet ∷ []) g ≡ stamp_of 0 log g
  same_stamp g = stamp_snoc 0 log quiet g ∙ ap (λ l. if is_label g l then quiet.phase else stamp_of 0 log g) no_label

  same_level : (v : ℕ) → level_of 0 (log ++ quiet ∷ []) v ≡ level_of 0 log v
  same_level v = level_stays log quiet v (ap (last_move v) no_moves)

  all_published : (v : ℕ) (u : Mark) (o : ℕ) → IsUnpublished log [] p v u o → ⊥
  all_published v u o y = let h : None ≡ Some y.group = y.group_is in cc

  fits_on : (v : ℕ) (u : Mark) (o : ℕ) → Fits n log [] p v u o → Fits n (log ++ quiet ∷ []) groups (p + 1) v u o
  fits_on v u o f = record {
    label_in = f.label_in;
    shown = λ le. same_level v ∙ f.shown (subst (λ (k : ℕ). u.phase ≤ k) (same_stamp u.label) le);
    unpublished = λ lt. absurd (all_published v u o (f.unpublished (subst (λ (k : ℕ). k < u.phase) (same_stamp u.label) lt)));
  }

  all_on : (es : List Entry) → AllWait n (p + 1) log es → AllWait n (p + 1) (log ++ quiet ∷ []) es
  all_on [] all = tt
  all_on (e ∷ es) all = grind (arith, nat_tests, all_on es all.1, same_stamp, same_level, all.0.phase_is, all.0.label, all.0.label_is, all.0.label_in, all.0.older, all.0.moves, all.1)

  old_stays : (ws : List ℕ) (v : ℕ) → get_or (set ws 0 (p + 1)) (2 * n + 1 + v) 0 ≡ get_or ws (2 * n + 1 + v) 0
  old_stays ws v = get_or-set_other ws 0 (2 * n + 1 + v) (p + 1) 0 (λ x. omega arith)

  pub begin : (ws : List ℕ) → Facts n log [] p ws → p + 1 ≤ MAX_PHASE → AllWait n (p + 1) log groups → AllApart groups → Facts n (log ++ quiet ∷ []) groups (p + 1) (set ws 0 (p + 1))
  begin ws f small all apart = record {
    sized = length-set ws 0 (p + 1) ∙ f.sized;
    small = f.small;
    phase_is = let sized = f.sized in let here : 0 < length ws = omega (arith, sized) in get_or-set_same ws 0 (p + 1) 0 here;
    phase_in = small;
    stamps = record {
      words = λ g inside. get_or-set_other ws 0 (n + 1 + g) (p + 1) 0 (λ x. omega arith) ∙ (f.stamps.words g inside ∙ sym (same_stamp g));
      below = λ g. let s = same_stamp g in let b = f.stamps.below g in omega (arith, s, b);
    };
    groups = record { waiting = all_on groups all; apart = apart };
    vertices = λ v inside. subst (λ (z : ℕ × ℕ). Fits n (log ++ quiet ∷ []) groups (p + 1) v (unpacked z.0) z.1)
        (λ i. (sym (get_or-set_other ws 0 (v + 1) (p + 1) 0 (λ x. omega arith)) i, sym (old_stays ws v) i))
        (fits_on v (unpacked (get_or ws (v + 1) 0)) (get_or ws (2 * n + 1 + v) 0) (f.vertices v inside));
    olds = λ v inside. subst (λ (k : ℕ). k < 2 ^ 16) (sym (old_stays ws v)) (f.olds v inside);
  }

  pub begin_look : (ws : List ℕ) (q : Pending) → LookHolds n log [] p ws q → LookHolds n (log ++ quiet ∷ []) groups (p + 1) (set ws 0 (p + 1)) q
  begin_look ws q h = let u = unpacked q.word in record {
    reading = reading_more n log quiet q h.reading;
    label_in = h.label_in;
    shown = λ le. reaches_more q.from log quiet q.vertex u.new (h.shown (subst (λ (k : ℕ). u.phase ≤ k) (same_stamp u.label) le));
    unpublished = λ lt. absurd (all_published q.vertex u _ (h.unpublished (subst (λ (k : ℕ). k < u.phase) (same_stamp u.label) lt)));
  }

  pub begin_below : (ws : List ℕ) (q : Pending) → BelowHolds n log ws q → BelowHolds n (log ++ quiet ∷ []) (set ws 0 (p + 1)) q
  begin_below ws q h = record {
    reading = reading_more n log quiet q h.reading;
    old = subst (Reaches q.from (log ++ quiet ∷ []) q.vertex) (sym (old_stays ws q.vertex)) (reaches_more q.from log quiet q.vertex (get_or ws (2 * n + 1 + q.vertex) 0) h.old);
  }
