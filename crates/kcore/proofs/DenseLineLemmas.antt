-- The lines of the text of `dense` as they are composed.
use Rattle.std.proofs.Common.{ℕ, ◌≡◌, List, [], ◌∷◌, ◌++◌, append_assoc, subst}
use Rattle.std.specs.Prelude.{Option, Result, decimal, codes}
use Rattle.std.specs.Io.KnownBytes.{append_known}
use Rattle.kc_text.specs.declared.buf.SendFault.{SendFault}
use Rattle.kc_text.specs.Writing.{IsPrefix, Appends}
use Rattle.kc_text.proofs.lemmas.Writing.{prefix_longer, appends_then}
use Rattle.kcore.specs.DenseLines.{size_line, member_line}

pub member_filled : (v : ℕ) (buffer old : List ℕ) → old ≡ [] → buffer ≡ (old ++ codes "member ") ++ decimal v → buffer ++ 10 ∷ [] ≡ member_line v
member_filled v buffer old e f = rw (f, e) (simp append_assoc)

pub size_filled : (size edges : ℕ) (old a b : List ℕ) → old ≡ [] → a ≡ (old ++ codes "size ") ++ decimal size → b ≡ (a ++ codes " edges ") ++ decimal edges → b ++ 10 ∷ [] ≡ size_line size edges
size_filled size edges old a b e f h = rw (h, f, e) (simp append_assoc)

-- a prefix of two texts is one of three
pub ahead_of_end : (before now : Option (List ℕ)) (a b end : List ℕ) → IsPrefix before now (a ++ b) → IsPrefix before now (a ++ (b ++ end))
ahead_of_end before now a b end p = subst (λ (text : List ℕ). IsPrefix before now text) (append_assoc a b end) (prefix_longer before now (a ++ b) end p)

-- two texts were written, and then a third
pub end_after : {T : Type 0} → (before now later : Option (List ℕ)) (a b end : List ℕ) (result : Result T SendFault) → now ≡ append_known before (a ++ b) → Appends now later end result → Appends before later (a ++ (b ++ end)) result
end_after before now later a b end result e f = subst (λ (text : List ℕ). Appends before later text result) (append_assoc a b end) (appends_then before now later (a ++ b) end result e f)
