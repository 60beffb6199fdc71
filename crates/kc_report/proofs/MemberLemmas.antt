-- The texts of a list that are put together piece by piece.
use Rattle.std.proofs.Common.{ℕ, ◌≡◌, ◌+◌, ◌*◌, ◌/◌, ◌%◌, ◌<◌, List, ◌++◌, min, length, take, drop, arith, append_assoc, take_all, flat_map}
use Rattle.std.proofs.Math.Seq.{take-add}
use Rattle.std.proofs.lemmas.Grind.{flat_map-append}
use Rattle.std.proofs.lemmas.Bool.Decides.{nat_tests}

module _ {A : Type 0} (f : A → List ℕ) where
  pub piece_more : (xs : List A) (old text more : List ℕ) (i size : ℕ) → text ≡ old ++ flat_map f (take (i * size) xs) → more ≡ flat_map f (take size (drop (i * size) xs))
      → text ++ more ≡ old ++ flat_map f (take ((i + 1) * size) xs)
  piece_more xs old text more i size was now = grind (arith, nat_tests, take-add, flat_map-append, append_assoc)

  pub pieces_are_all : (xs : List A) (i size : ℕ) → 0 < size → i ≡ length xs / size + min 1 (length xs % size) → flat_map f (take (i * size) xs) ≡ flat_map f xs
  pieces_are_all xs i size some count = grind (arith, nat_tests, take_all)
