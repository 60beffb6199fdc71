-- How the bytes taken by a sink grow, if the sink tells them or not.
use Rattle.std.proofs.Common.{ℕ, ◌+◌, ◌≡◌, List, [], ◌++◌, take, drop, length, ◌-◌, arith, refl, ap, ◌∙◌, append_assoc, sym}
use Rattle.std.specs.Prelude.{Option, Result}
use Rattle.std.specs.Io.KnownBytes.{append_known}
use Rattle.std.proofs.Math.Seq.{take-add}
use Rattle.std.proofs.lemmas.List.{take_all, length-drop, append-nil}
use Rattle.std.proofs.lemmas.Bool.Decides.{nat_tests}
use Rattle.kc_text.specs.declared.buf.SendFault.{SendFault}
use Rattle.kc_text.specs.Writing.{IsPrefix, IsProperPrefix, Sends, Appends}

-- taking nothing changes nothing
pub append_none : (now : Option (List ℕ)) → now ≡ append_known now []
append_none now = grind (arith, nat_tests, append-nil)

-- taking a and then b is taking both
pub append_twice : (before now later : Option (List ℕ)) (a b : List ℕ) → now ≡ append_known before a → later ≡ append_known now b → later ≡ append_known before (a ++ b)
append_twice before now later a b e f = grind (arith, nat_tests, append_assoc)

-- a prefix of some bytes that were taken, and then more of them
pub append_take : (before now later : Option (List ℕ)) (at k : ℕ) (bytes : List ℕ) → now ≡ append_known before (take at bytes) → later ≡ append_known now (take k (take (length bytes - at) (drop at bytes))) → later ≡ append_known before (take (at + k) bytes)
append_take before now later at k bytes e f = grind (arith, nat_tests, take_all, length-drop, take-add, append_twice)

-- nothing is a prefix of each text
pub prefix_none : (before now : Option (List ℕ)) (text : List ℕ) → now ≡ before → IsPrefix before now text
prefix_none before now text e = record { said = []; rest = text; all = refl; taken = e ∙ append_none before }

-- the whole is a prefix of itself
pub prefix_all : (before now : Option (List ℕ)) (text : List ℕ) → now ≡ append_known before text → IsPrefix before now text
prefix_all before now text e = record { said = text; rest = []; all = sym (append-nil text); taken = e }

-- a proper prefix is a prefix
pub prefix_of_proper : (before now : Option (List ℕ)) (text : List ℕ) → IsProperPrefix before now text → IsPrefix before now text
prefix_of_proper before now text p = record { said = p.said; rest = p.rest; all = p.all; taken = p.taken }

-- a prefix of a is a prefix of a and b
pub prefix_longer : (before now : Option (List ℕ)) (a b : List ℕ) → IsPrefix before now a → IsPrefix before now (a ++ b)
prefix_longer before now a b f = record {
  said = f.said;
  rest = f.rest ++ b;
  all = ap (λ xs. xs ++ b) f.all ∙ append_assoc f.said f.rest b;
  taken = f.taken;
}

-- all of a, and then a prefix of b
pub prefix_then : (before now later : Option (List ℕ)) (a b : List ℕ) → now ≡ append_known before a → IsPrefix now later b → IsPrefix before later (a ++ b)
prefix_then before now later a b e f = record {
  said = a ++ f.said;
  rest = f.rest;
  all = ap (λ xs. a ++ xs) f.all ∙ sym (append_assoc a f.said f.rest);
  taken = append_twice before now later a f.said e f.taken;
}

-- all of a, and then as much of b as the result says
pub appends_then : {T : Type 0} → (before now later : Option (List ℕ)) (a b : List ℕ) (result : Result T SendFault) → now ≡ append_known before a → Appends now later b result → Appends before later (a ++ b) result
appends_then before now later a b result e f = grind (arith, nat_tests, append_twice, prefix_then)

-- one line is a text of its own
pub appends_send : {T : Type 0} → (before now : Option (List ℕ)) (text : List ℕ) (result : Result T SendFault) → Sends before now text result → Appends before now text result
appends_send before now text result s = grind (arith, nat_tests, prefix_of_proper, prefix_none)
