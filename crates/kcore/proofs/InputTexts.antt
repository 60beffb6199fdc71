-- The written part of an input's text, from the beginning of its reading and the text after its header.
use Rattle.std.proofs.Common.{ℕ, ◌≡◌, Bool, true, List, refl, inl, inr}
use Rattle.std.specs.Prelude.{Option, Some, None, Result, Ok, Err, ◌⊎◌}
use Rattle.std.specs.Option.{option_map}
use Rattle.kc_text.specs.Lines.{lines}
use Rattle.kc_text.specs.Kept.{kept}
use Rattle.kc_text.proofs.lemmas.Writing.{prefix_none}
use Rattle.kc_graph.specs.declared.limits.TheConstants.{MAX_ITEMS}
use Rattle.kc_batch.specs.declared.batch.Next.{Next}
use Rattle.kc_batch.specs.HeaderShape.{HeaderShape}
use Rattle.kc_batch.specs.Headers.{HeaderText, Accepted, Refused, header_of}
use Rattle.kc_batch.specs.Tokens.{tokens}
use Rattle.kc_batch.specs.BatchInputs.{BatchInput, WithBatches, behind_header}
use Rattle.kc_report.specs.Lines.{header_refused_line}
use Rattle.kc_session.specs.declared.fault.SessionFault.{SessionFault}
use Rattle.kcore.specs.declared.limits.TheConstants.{LINE_LIMIT, INPUT_LIMIT}
use Rattle.kcore.specs.Inputs.{input_said}
use Rattle.kcore.specs.InputTexts.{IsTextOf}
use Rattle.kcore.specs.private.InputTexts.{HasTexts}
use Rattle.kcore.specs.private.Opening.{BeginsToRefuse}
use Rattle.kcore.specs.private.Writing.{Writes, WritesAfter}

-- each input has a text
pub some_text : (IsText : HeaderShape → List Next → List ℕ → Bool → Type 0) → HasTexts IsText → (text : HeaderText) → (said : List ℕ) × ((refused : Bool) × IsTextOf IsText (behind_header MAX_ITEMS text) said refused)
some_text IsText has (Accepted header rest) = has header (tokens rest)
some_text IsText has (Refused line) = (header_refused_line line, (true, (refl, refl)))

-- nothing was written
nothing_written : (IsText : HeaderShape → List Next → List ℕ → Bool → Type 0) → HasTexts IsText → (left before now : Option (List ℕ)) (fault : SessionFault) → now ≡ before → Writes (IsTextOf IsText) (option_map input_said left) before now (Err fault)
nothing_written IsText has None before now fault e = tt
nothing_written IsText has (Some bytes) before now fault e =
    let there = some_text IsText has (header_of (kept (lines LINE_LIMIT INPUT_LIMIT bytes))) in
    record { text = there.0; refused = there.1.0; is_text = there.1.1; prefix = prefix_none before now there.0 e }

-- a header is refused
refusal_begun : (IsText : HeaderShape → List Next → List ℕ → Bool → Type 0) (said : Option BatchInput) (before now : Option (List ℕ)) (fault : SessionFault) → BeginsToRefuse said before now → Writes (IsTextOf IsText) said before now (Err fault)
refusal_begun IsText None before now fault r = tt
refusal_begun IsText (Some input) before now fault r = record { text = header_refused_line r.line; refused = true; is_text = rw r.is_said (refl, refl); prefix = r.prefix }

-- no header was read
pub not_opened : (IsText : HeaderShape → List Next → List ℕ → Bool → Type 0) → HasTexts IsText → (left before now : Option (List ℕ)) (fault : SessionFault) → (now ≡ before) ⊎ BeginsToRefuse (option_map input_said left) before now
    → Writes (IsTextOf IsText) (option_map input_said left) before now (Err fault)
not_opened IsText has left before now fault (inl e) = nothing_written IsText has left before now fault e
not_opened IsText has left before now fault (inr r) = refusal_begun IsText (option_map input_said left) before now fault r

-- an input with a header
pub after_header : (IsText : HeaderShape → List Next → List ℕ → Bool → Type 0) (header : HeaderShape) (said : Option BatchInput) (told : Option (List Next)) (before mid now : Option (List ℕ)) (result : Result Bool SessionFault)
    → said ≡ option_map (WithBatches header) told → mid ≡ before → WritesAfter (IsText header) told mid now result → Writes (IsTextOf IsText) said before now result
after_header IsText header said None before mid now result e m w = rw e tt
after_header IsText header said (Some bs) before mid now (Ok refused) e m w = rw (e, ← m) w
after_header IsText header said (Some bs) before mid now (Err fault) e m w = rw (e, ← m) w
