-- An audience of readers, by their writer.
use Rattle.std.proofs.Common.{◌≡◌, ap, arith}
use Rattle.std.specs.Prelude.{Some, None}
use Rattle.std.proofs.lemmas.Option.{same_Some}
use Rattle.std.proofs.lemmas.Bool.Decides.{nat_tests}
use Rattle.kc_store.specs.Seats.{StoreShape, WriterShape}
use Rattle.kc_engine.specs.States.{State}
use Rattle.kc_engine.specs.Showing as showing
use Rattle.kc_session.specs.declared.audience.Audience.{Audience}
use Rattle.kc_session.specs.declared.audience.Audience.TheVariants.{Readers, Nobody}
use Rattle.kc_session.specs.private.Audiences.{store_of, writer_of, shown_to, IsAbreast}

-- if there is a store, there is its writer
pub store_has_writer : (a : Audience) (store : StoreShape) → store_of a ≡ Some store → writer_of a ≡ None → ⊥
store_has_writer (Readers place writer) store e f = absurd cc
store_has_writer Nobody store e f = absurd cc

-- the history that was shown is the writer's
pub shown_by_writer : (a : Audience) (writer : WriterShape) → writer_of a ≡ Some writer → shown_to a ≡ Some writer.state.history
shown_by_writer (Readers place w) writer e = ap (λ (x : WriterShape). Some x.state.history) (same_Some _ _ e)
shown_by_writer Nobody writer e = absurd cc

-- so the writer is up to date
pub writer_is_abreast : (a : Audience) (store : StoreShape) (writer : WriterShape) (s : State) → store_of a ≡ Some store → writer_of a ≡ Some writer → IsAbreast a s → (writer.table ≡ store.table) × showing.IsAbreast writer.state s
writer_is_abreast (Readers place w) store writer s e f h = grind (arith, nat_tests, same_Some, place.now, h.0, h.1)
writer_is_abreast Nobody store writer s e f h = absurd cc
