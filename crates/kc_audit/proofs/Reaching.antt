-- What a walk through a history has reached.
use Rattle.std.proofs.Common.{ℕ, zero, suc, ◌+◌, ◌-◌, ◌≤◌, ◌<◌, ◌≡◌, List, [], ◌∷◌, ◌++◌, length, take, drop, get_or, ap, sym, arith, inl, inr, append_assoc}
use Rattle.std.proofs.lemmas.Bool.{cases_lt}
use Rattle.std.proofs.lemmas.List.{take_more, drop_more, take_all, append-nil}
use Rattle.std.proofs.lemmas.Bool.Decides.{nat_tests}
use Rattle.kc_history.specs.declared.entries.Entry.{Entry}
use Rattle.kc_history.specs.declared.replies.Reply.{Reply}
use Rattle.kc_history.specs.Points.{levels_at}
use Rattle.kc_history.specs.Replies.{IsLevelAt, AreExplained}
use Rattle.kc_history.proofs.lemmas.Replies.{earlier_explains}
use Rattle.kc_audit.specs.private.Walks.{GoesOn, reply_at, no_reply}

-- the replies so far lead to the point p: whatever follows them is explained from p on or not at all
pub record IsReached (n : ℕ) (history : List Entry) (before rest : List Reply) (p : ℕ) : Type 0 where
  pub from : (tail : List Reply) → AreExplained n history p tail → AreExplained n history 0 (before ++ tail)
  pub to : (tail more : List Reply) → tail ++ more ≡ rest → AreExplained n history 0 (before ++ tail) → AreExplained n history p tail

pub reached_first : (n : ℕ) (history : List Entry) (rs : List Reply) → IsReached n history [] rs 0
reached_first n history rs = record { from = λ tail h. h; to = λ tail more e h. h }

-- a reply that fits here
reached_take : (n : ℕ) (history : List Entry) (before rest : List Reply) (r : Reply) (p : ℕ) → IsReached n history before (r ∷ rest) p → IsLevelAt n history p r
    → IsReached n history (before ++ r ∷ []) rest p
reached_take n history before rest r p h fits = record {
  from = λ tail e. rw (append_assoc before (r ∷ []) tail) (h.from (r ∷ tail) (p, (omega arith, (fits, e))));
  to = λ tail more eq e.
      let s : AreExplained n history p (r ∷ tail) = h.to (r ∷ tail) more (ap (λ (zs : List Reply). r ∷ zs) eq) (rw (append_assoc before (r ∷ []) tail) at e) in
      earlier_explains n history p s.0 tail s.1.0 s.1.1.1;
}

later : (n : ℕ) (history : List Entry) (p : ℕ) (r : Reply) (rs : List Reply) → (IsLevelAt n history p r → ⊥) → AreExplained n history p (r ∷ rs) → AreExplained n history (p + 1) (r ∷ rs)
later n history p r rs unfit e = grind (arith, nat_tests, e.0, e.1.1, e.1.0, e.1.1.0)

-- a reply that doesn't fit here
reached_pass : (n : ℕ) (history : List Entry) (before rest : List Reply) (r : Reply) (p : ℕ) → IsReached n history before (r ∷ rest) p → (IsLevelAt n history p r → ⊥)
    → IsReached n history before (r ∷ rest) (p + 1)
reached_pass n history before rest r p h unfit = record {
  from = λ tail e. h.from tail (earlier_explains n history p (p + 1) tail (omega arith) e);
  to = goes;
}
  where
    goes : (tail more : List Reply) → tail ++ more ≡ r ∷ rest → AreExplained n history 0 (before ++ tail) → AreExplained n history (p + 1) tail
    goes [] more eq e = tt
    goes (x ∷ tail) more eq e =
        let first : x ≡ r = ap (λ (zs : List Reply). get_or zs 0 r) eq in
        let s : AreExplained n history p (x ∷ tail) = h.to (x ∷ tail) more eq e in
        rw first (later n history p r tail unfit (rw first at s))

-- where no reply is left
reached_done : (n : ℕ) (history : List Entry) (before : List Reply) (p : ℕ) → IsReached n history before [] p → IsReached n history before [] (p + 1)
reached_done n history before p h = record {
  from = λ tail e. h.from tail (earlier_explains n history p (p + 1) tail (omega arith) e);
  to = goes;
}
  where
    goes : (tail more : List Reply) → tail ++ more ≡ [] → AreExplained n history 0 (before ++ tail) → AreExplained n history (p + 1) tail
    goes [] more eq e = tt
    goes (x ∷ tail) more eq e = absurd cc

-- a reader has told its first k replies, by the earliest points, and is at the point p
pub record IsAt (n : ℕ) (history : List Entry) (rs : List Reply) (k p : ℕ) : Type 0 where
  pub within : k ≤ length rs
  pub reached : IsReached n history (take k rs) (drop k rs) p

-- its next reply, if there is one, doesn't fit there
pub record IsStuck (n : ℕ) (history : List Entry) (rs : List Reply) (k p : ℕ) : Type 0 where
  pub at : IsAt n history rs k p
  pub unfit : k < length rs → IsLevelAt n history p (reply_at rs k) → ⊥

pub at_start : (n : ℕ) (history : List Entry) (rs : List Reply) → IsAt n history rs 0 0
at_start n history rs = record { within = omega arith; reached = reached_first n history rs }

one_more : (n : ℕ) (history : List Entry) (rs : List Reply) (k p : ℕ) → IsAt n history rs k p → k < length rs → IsLevelAt n history p (reply_at rs k) → IsAt n history rs (k + 1) p
one_more n history rs k p h lt fits = record {
  within = omega (arith, lt);
  reached = rw (take_more rs k no_reply lt) (reached_take n history (take k rs) (drop (k + 1) rs) (reply_at rs k) p (rw (drop_more rs k no_reply lt) at h.reached) fits);
}

some_more : (n : ℕ) (history : List Entry) (rs : List Reply) (k more p : ℕ) → IsAt n history rs k p → k + more ≤ length rs
    → ((i : ℕ) → k ≤ i → i < k + more → IsLevelAt n history p (reply_at rs i)) → IsAt n history rs (k + more) p
some_more n history rs k zero p h le fits = let e : k + 0 ≡ k = omega arith in rw e h
some_more n history rs k (suc more) p h le fits =
    let e : k + suc more ≡ (k + more) + 1 = omega arith in
    rw e (one_more n history rs (k + more) p (some_more n history rs k more p h (omega (arith, le)) (λ i a b. fits i a (omega (arith, b)))) (omega (arith, le)) (fits (k + more) (omega arith) (omega arith)))

-- a reader goes on at its point
pub goes_on : (n : ℕ) (history : List Entry) (rs : List Reply) (j k p : ℕ) → IsAt n history rs j p → p ≤ length history → GoesOn (levels_at n history p) rs j k → IsStuck n history rs k p
goes_on n history rs j k p h inside on =
    let forward : j + (k - j) ≡ k = omega (arith, on.forward) in
    record {
      at = rw forward at (some_more n history rs j (k - j) p h (omega (arith, on.within, on.forward)) (λ i a b. record { inside = inside; level = on.fit i a (omega (arith, b, forward)) }));
      unfit = λ lt at. on.unfit lt at.level;
    }

-- a reader that is stuck at a point comes to the next
pub passes : (n : ℕ) (history : List Entry) (rs : List Reply) (k p : ℕ) → IsStuck n history rs k p → IsAt n history rs k (p + 1)
passes n history rs k p h = elim (cases_lt k (length rs)) [
  | inl lt ↦ grind (arith, nat_tests, drop_more, reached_pass, h.at.within, h.at.reached, h.unfit, lt)
  | inr ge ↦
      let none : drop k rs ≡ [] = Rattle.std.proofs.lemmas.List.drop_all k rs ge in
      record { within = h.at.within; reached = rw none (reached_done n history (take k rs) p (rw none at h.at.reached)) }
]

-- the replies that a reader has told are explained
pub explained_so_far : (n : ℕ) (history : List Entry) (rs : List Reply) (k p : ℕ) → IsAt n history rs k p → AreExplained n history 0 (take k rs)
explained_so_far n history rs k p h = rw (append-nil (take k rs)) at (h.reached.from [] tt)

pub explained_all : (n : ℕ) (history : List Entry) (rs : List Reply) (k p : ℕ) → IsAt n history rs k p → k ≡ length rs → AreExplained n history 0 rs
explained_all n history rs k p h e = rw (take_all k rs (omega (arith, e))) at (explained_so_far n history rs k p h)

-- where the history has ended, the next reply has no point
pub unexplained_next : (n : ℕ) (history : List Entry) (rs : List Reply) (k p : ℕ) → IsStuck n history rs k p → k < length rs → length history ≤ p → AreExplained n history 0 (take (k + 1) rs) → ⊥
unexplained_next n history rs k p h lt last e =
    let s : AreExplained n history p (reply_at rs k ∷ []) = h.at.reached.to (reply_at rs k ∷ []) (drop (k + 1) rs) (sym (drop_more rs k no_reply lt)) (rw (take_more rs k no_reply lt) at e) in
    let same : s.0 ≡ p = omega (arith, last, s.1.0, s.1.1.0.inside) in
    h.unfit lt (rw same at s.1.1.0)
