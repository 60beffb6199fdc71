-- Levels, stamps and groups when a history or a list of groups has one entry more.
use Rattle.std.proofs.Common.{◌≡◌, ◌≢◌, ℕ, ◌<◌, true, false, List, [], ◌∷◌, ◌++◌, Option, Some, None, if◌then◌else◌, sym, refl, ap, ◌∙◌, subst, arith, append_assoc, append-nil, eq-eqb, ne_eqb}
use Rattle.std.proofs.lemmas.Bool.Decides.{nat_tests}
use mathlib.Core.List.{IsPrefix}
use Rattle.kc_history.specs.declared.entries.Entry.{Entry}
use Rattle.kc_history.specs.Ends.{last_move}
use Rattle.kc_history.specs.private.Ends.{level_after, level_of, is_label, stamp_of}
use Rattle.kc_store.specs.declared.roles.Pending.{Pending}
use Rattle.kc_store.specs.Plans.{Move}
use Rattle.kc_store.specs.private.Plans.{group_of}
use Rattle.kc_store.specs.private.Rule.{Waits, AllWait, AreApart, ApartFrom, Reaches, IsReading}

pub level_snoc : (d : ℕ) (log : List Entry) (e : Entry) (v : ℕ) → level_of d (log ++ e ∷ []) v ≡ level_after (level_of d log v) (last_move v e.moves)
level_snoc d [] e v = refl
level_snoc d (x ∷ xs) e v = level_snoc (level_after d (last_move v x.moves)) xs e v

pub stamp_snoc : (d : ℕ) (log : List Entry) (e : Entry) (g : ℕ) → stamp_of d (log ++ e ∷ []) g ≡ (if is_label g e.label then e.phase else stamp_of d log g)
stamp_snoc d [] e g = refl
stamp_snoc d (x ∷ xs) e g = stamp_snoc (if is_label g x.label then x.phase else d) xs e g

pub label_same : (g : ℕ) (l : Option ℕ) → l ≡ Some g → is_label g l ≡ true
label_same g l e = ap (is_label g) e ∙ eq-eqb g g refl

pub label_other : (g h : ℕ) (l : Option ℕ) → l ≡ Some h → g ≢ h → is_label g l ≡ false
label_other g h l e n = ap (is_label g) e ∙ ne_eqb g h n

pub stamp_same : (log : List Entry) (e : Entry) (g : ℕ) → e.label ≡ Some g → stamp_of 0 (log ++ e ∷ []) g ≡ e.phase
stamp_same log e g is = stamp_snoc 0 log e g ∙ ap (λ b. if b then e.phase else stamp_of 0 log g) (label_same g e.label is)

pub stamp_other : (log : List Entry) (e : Entry) (g h : ℕ) → e.label ≡ Some h → g ≢ h → stamp_of 0 (log ++ e ∷ []) g ≡ stamp_of 0 log g
stamp_other log e g h is n = stamp_snoc 0 log e g ∙ ap (λ b. if b then e.phase else stamp_of 0 log g) (label_other g h e.label is n)

pub level_moved : (log : List Entry) (e : Entry) (v : ℕ) (m : Move) → last_move v e.moves ≡ Some m → level_of 0 (log ++ e ∷ []) v ≡ m.new
level_moved log e v m is = level_snoc 0 log e v ∙ ap (level_after (level_of 0 log v)) is

pub level_stays : (log : List Entry) (e : Entry) (v : ℕ) → last_move v e.moves ≡ None → level_of 0 (log ++ e ∷ []) v ≡ level_of 0 log v
level_stays log e v is = level_snoc 0 log e v ∙ ap (level_after (level_of 0 log v)) is

pub group_here : (e : Entry) (es : List Entry) (g : ℕ) → e.label ≡ Some g → group_of g (e ∷ es) ≡ Some e
group_here e es g is = ap (λ b. if b then Some e else group_of g es) (label_same g e.label is)

pub group_past : (e : Entry) (es : List Entry) (g h : ℕ) → e.label ≡ Some h → g ≢ h → group_of g (e ∷ es) ≡ group_of g es
group_past e es g h is n = ap (λ b. if b then Some e else group_of g es) (label_other g h e.label is n)

pub before_more : (k log : List Entry) (e : Entry) → IsPrefix k log → IsPrefix k (log ++ e ∷ [])
before_more k log e p = (p.0 ++ e ∷ [], sym (append_assoc k p.0 (e ∷ [])) ∙ ap (λ (z : List Entry). z ++ e ∷ []) p.1)

pub before_itself : (log : List Entry) → IsPrefix log log
before_itself log = ([], append-nil log)

pub before_both : (a b c : List Entry) → IsPrefix a b → IsPrefix b c → IsPrefix a c
before_both a b c p q = (p.0 ++ q.0, sym (append_assoc a p.0 q.0) ∙ (ap (λ (z : List Entry). z ++ q.0) p.1 ∙ q.1))

pub reaches_more : (from log : List Entry) (e : Entry) (v l : ℕ) → Reaches from log v l → Reaches from (log ++ e ∷ []) v l
reaches_more from log e v l r = record { point = r.point; after = r.after; within = before_more r.point log e r.within; level_is = r.level_is }

pub reading_more : (n : ℕ) (log : List Entry) (e : Entry) (q : Pending) → IsReading n log q → IsReading n (log ++ e ∷ []) q
reading_more n log e q h = record { seen_in = h.seen_in; from_in = before_more q.from log e h.from_in; made_in = h.made_in; vertices_is = h.vertices_is; inside = h.inside }

-- what stands in the rest under a label has that label, and is apart from an entry that all are apart from
pub group_label : (g : ℕ) (es : List Entry) (f : Entry) → group_of g es ≡ Some f → is_label g f.label ≡ true
group_label g [] f is = cc
group_label g (e ∷ es) f is = grind (arith, nat_tests, group_label g es f)

pub label_found : (g : ℕ) (l : Option ℕ) → is_label g l ≡ true → l ≡ Some g
label_found g l t = grind (arith, nat_tests)

-- whatever holds of each group of the rest holds of the one under a label
pub waits_found : (n p : ℕ) (log : List Entry) (g : ℕ) (es : List Entry) (f : Entry) → AllWait n p log es → group_of g es ≡ Some f → Waits n p log f
waits_found n p log g [] f all is = cc
waits_found n p log g (e ∷ es) f all is = grind (arith, nat_tests, waits_found n p log g es f all.1, all.1, all.0)

pub apart_found : (e : Entry) (g : ℕ) (es : List Entry) (f : Entry) → ApartFrom e es → group_of g es ≡ Some f → AreApart e f
apart_found e g [] f all is = cc
apart_found e g (x ∷ xs) f all is = grind (arith, nat_tests, apart_found e g xs f all.1, all.1, all.0)

-- the groups that stay behind wait as before when one is published from which they are apart
pub wait_on : (n p : ℕ) (log : List Entry) (e : Entry) (es : List Entry) → Waits n p log e → ApartFrom e es → AllWait n p log es → AllWait n p (log ++ e ∷ []) es
wait_on n p log e [] w apart all = tt
wait_on n p log e (f ∷ fs) w apart all = (one, wait_on n p log e fs w apart.1 all.1)
  where
    one : Waits n p (log ++ e ∷ []) f
    one = record {
      phase_is = all.0.phase_is;
      label = all.0.label;
      label_is = all.0.label_is;
      label_in = all.0.label_in;
      older = let o : all.0.label ≢ w.label = (λ s. apart.0.labels (w.label_is ∙ (ap Some (sym s) ∙ sym all.0.label_is))) in
          subst (λ (k : ℕ). k < p) (sym (stamp_other log e all.0.label w.label w.label_is o)) all.0.older;
      moves = λ v m is. let h = all.0.moves v m is in (h.0, level_stays log e v (apart.0.vertices v m is) ∙ h.1, h.2);
    }
