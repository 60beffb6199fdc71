-- Bytes that a source or sink tells stay told.
use Rattle.std.proofs.Common.{◌≡◌, ℕ, Bool, true, List, arith}
use Rattle.std.specs.Prelude.{Option}
use Rattle.std.specs.Io.KnownBytes.{prepend_known, append_known, Consumes, Keeps, Appends, IsAtEnd}
use Rattle.std.proofs.lemmas.Bool.Decides.{nat_tests}
use Rattle.kc_text.specs.Telling.{IsTold, told_of}

pub read_left : (told : Bool) (old new : Option (List ℕ)) (bs : List ℕ) → (told ≡ true → IsTold old) → Consumes old new bs → told_of told old ≡ prepend_known bs (told_of told new)
read_left told old new bs h c = grind (arith, nat_tests)

pub read_tells : (told : Bool) (old new : Option (List ℕ)) (bs : List ℕ) → (told ≡ true → IsTold old) → Consumes old new bs → told ≡ true → IsTold new
read_tells told old new bs h c e = grind (arith, nat_tests)

pub kept : (told : Bool) (old new : Option (List ℕ)) → (told ≡ true → IsTold old) → Keeps old new → told_of told new ≡ told_of told old
kept told old new h k = grind (arith, nat_tests)

pub kept_tells : (told : Bool) (old new : Option (List ℕ)) → (told ≡ true → IsTold old) → Keeps old new → told ≡ true → IsTold new
kept_tells told old new h k e = grind (arith, nat_tests)

pub at_end : (told : Bool) (known : Option (List ℕ)) → IsAtEnd known → IsAtEnd (told_of told known)
at_end told known h = grind (arith, nat_tests)

pub written : (told : Bool) (old new : Option (List ℕ)) (bs : List ℕ) → (told ≡ true → IsTold old) → Appends old new bs → told_of told new ≡ append_known (told_of told old) bs
written told old new bs h a = grind (arith, nat_tests)

pub written_tells : (told : Bool) (old new : Option (List ℕ)) (bs : List ℕ) → (told ≡ true → IsTold old) → Appends old new bs → told ≡ true → IsTold new
written_tells told old new bs h a e = grind (arith, nat_tests)
