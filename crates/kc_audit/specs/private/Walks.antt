-- What the parts of the walk through a history do.
use Rattle.std.specs.Prelude.{ℕ, ◌≡◌, ◌<◌, ◌≤◌, ◌+◌, Bool, true, false, List, [], length, get_or, slice_index}
use Rattle.kc_history.specs.declared.replies.Reply.{Reply}
use Rattle.kc_audit.specs.declared.verdict.AuditVerdict.{AuditVerdict}
use Rattle.kc_audit.specs.declared.verdict.AuditVerdict.TheVariants.{Explained, Unexplained}

-- no reply, for places where there is none
abbrev pub no_reply : Reply
no_reply = record { vertex = 0; level = 0 }

-- reply i, counted from 0
abbrev pub reply_at : List Reply → ℕ → Reply
reply_at rs i = get_or rs i no_reply

-- the replies from `from` up to `to` have these levels, and the one after them doesn't
pub record GoesOn (levels : List ℕ) (rs : List Reply) (from to : ℕ) : Type 0 where
  pub forward : from ≤ to
  pub within : to ≤ length rs
  pub fit : (k : ℕ) → from ≤ k → k < to → slice_index levels (reply_at rs k).vertex ≡ (reply_at rs k).level
  pub unfit : to < length rs → slice_index levels (reply_at rs to).vertex ≡ (reply_at rs to).level → ⊥

-- the same for each reader; `before` and `now` are the numbers of replies that each reader has passed
abbrev pub EachGoesOn : List ℕ → List (List Reply) → List ℕ → List ℕ → Type 0
EachGoesOn levels readers before now = (r : ℕ) → r < length readers → GoesOn levels (get_or readers r []) (slice_index before r) (slice_index now r)

-- no reader has passed more replies than it has
pub record AreWithin (readers : List (List Reply)) (told : List ℕ) : Type 0 where
  pub sized : length told ≡ length readers
  pub each : (r : ℕ) → r < length readers → slice_index told r ≤ length (get_or readers r [])

-- each reader has passed all its replies
abbrev pub HaveTold : List (List Reply) → List ℕ → Type 0
HaveTold readers told = (r : ℕ) → r < length readers → length (get_or readers r []) ≤ slice_index told r

-- the vertex of the next reply of each reader is awaited
abbrev pub IsAwaited : List Bool → List (List Reply) → List ℕ → Type 0
IsAwaited awaited readers told =
    (r : ℕ) → r < length readers → slice_index told r < length (get_or readers r []) → get_or awaited (reply_at (get_or readers r []) (slice_index told r)).vertex false ≡ true

-- the verdict names the first reader with a reply left, and the number of that reply
pub record IsFirstLeft (readers : List (List Reply)) (told : List ℕ) (reader ask : ℕ) : Type 0 where
  pub within : reader < length readers
  pub before : (r : ℕ) → r < reader → slice_index told r ≡ length (get_or readers r [])
  pub here : slice_index told reader < length (get_or readers reader [])
  pub ask_is : ask ≡ slice_index told reader + 1

abbrev pub Tells : List (List Reply) → List ℕ → AuditVerdict → Type 0
Tells readers told Explained = (r : ℕ) → r < length readers → slice_index told r ≡ length (get_or readers r [])
Tells readers told (Unexplained reader ask) = IsFirstLeft readers told reader ask
