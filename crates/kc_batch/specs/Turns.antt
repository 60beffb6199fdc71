-- The effect of a line within a batch, with the order of the faults that one line can have.
use Rattle.std.specs.Prelude.{ℕ, ◌≡◌, nat_lt, Bool, true, false, ◌&&◌, if◌then◌else◌}
use Rattle.kc_graph.specs.declared.items.Item.{Item}
use Rattle.kc_graph.specs.declared.items.Item.TheVariants.{Insert, Delete, Isolate}
use Rattle.kc_graph.specs.Cleaning.{IsInside}
use Rattle.kc_levels.specs.declared.profile.Profile.{Profile}
use Rattle.kc_levels.specs.declared.profile.Profile.TheVariants.{One, Two}
use Rattle.kc_text.specs.declared.reason.Reason.{Reason}
use Rattle.kc_text.specs.declared.reason.Reason.TheVariants.{LineLong, BadLine, BadVertex, TooMany, Truncated, InputLimit, Header, EdgeLimit, PhaseLimit}
use Rattle.kc_batch.specs.declared.rules.Rules.{Rules}
use Rattle.kc_batch.specs.declared.token.Kind.{Kind}
use Rattle.kc_batch.specs.declared.token.Kind.TheVariants as kind
use Rattle.kc_batch.specs.declared.turn.Turn.{Turn}
use Rattle.kc_batch.specs.declared.turn.Turn.TheVariants.{Add, Close, Pass, Stop}

-- the vertices of an item are below n
abbrev pub is_inside : ℕ → Item → Bool
is_inside n (Insert u v) = nat_lt u n && nat_lt v n
is_inside n (Delete u v) = nat_lt u n && nat_lt v n
is_inside n (Isolate v) = nat_lt v n

-- an item of this form may stand in a batch under the profile: isolations under the second alone
abbrev pub is_allowed : Profile → Item → Bool
is_allowed One (Isolate v) = false
is_allowed One (Insert u v) = true
is_allowed One (Delete u v) = true
is_allowed Two item = true

-- an item that may stand in a batch
pub record IsItemOf (rules : Rules) (item : Item) : Type 0 where
  pub allowed : is_allowed rules.profile item ≡ true
  pub inside : IsInside rules.n item

-- the effect of an item: bad-line goes before bad-vertex, and bad-vertex before too-many
abbrev pub turn_of_item : Rules → Bool → Item → Turn
turn_of_item rules full item =
    if is_allowed rules.profile item then (if is_inside rules.n item then (if full then Pass TooMany else Add item) else Pass BadVertex)
    else Pass BadLine

-- the effect of a line; `full` says that the batch has as many items as are allowed
abbrev pub turn_of : Rules → Bool → Kind → Turn
turn_of rules full (kind.Item item) = turn_of_item rules full item
turn_of rules full kind.BatchEnd = Close
turn_of rules full kind.BatchStart = Pass BadLine
turn_of rules full kind.Other = Pass BadLine
turn_of rules full kind.TooLong = Pass LineLong
turn_of rules full kind.Limit = Stop InputLimit
turn_of rules full kind.InputEnd = Stop Truncated

-- a reason for which the grammar refuses a batch
abbrev pub IsBatchReason : Reason → Type 0
IsBatchReason Header = ⊥
IsBatchReason LineLong = Unit {0}
IsBatchReason BadLine = Unit {0}
IsBatchReason BadVertex = Unit {0}
IsBatchReason TooMany = Unit {0}
IsBatchReason Truncated = Unit {0}
IsBatchReason InputLimit = Unit {0}
IsBatchReason EdgeLimit = ⊥
IsBatchReason PhaseLimit = ⊥
