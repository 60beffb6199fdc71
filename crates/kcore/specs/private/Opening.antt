-- The beginning of the reading of a batch input.
use Rattle.std.specs.Prelude.{ℕ, ◌≡◌, List, Option, Some, None, Result, Ok, Err, ◌⊎◌}
use Rattle.std.specs.Option.{option_map}
use Rattle.std.specs.Io.KnownBytes.{append_known}
use Rattle.kc_text.specs.Reading.{Reading}
use Rattle.kc_text.specs.Writing.{IsPrefix}
use Rattle.kc_graph.specs.declared.limits.TheConstants.{MAX_ITEMS}
use Rattle.kc_batch.specs.HeaderShape.{HeaderShape}
use Rattle.kc_batch.specs.Batches.{batches_left}
use Rattle.kc_batch.specs.BatchInputs.{BatchInput, WithBatches, HeaderRefused, rules_of}
use Rattle.kc_report.specs.Lines.{header_refused_line}
use Rattle.kc_session.specs.declared.fault.SessionFault.{SessionFault}

-- the input is this one, if the source tells it
abbrev pub IsSaid : Option BatchInput → BatchInput → Type 0
IsSaid None input = Unit {0}
IsSaid (Some said) input = said ≡ input

-- the header is refused, and the line that says so was written
pub record RefusesHeader (said : Option BatchInput) (before now : Option (List ℕ)) : Type 0 where
  pub line : ℕ
  pub is_said : IsSaid said (HeaderRefused line)
  pub taken : now ≡ append_known before (header_refused_line line)

-- the header is refused, and a prefix of the line that says so was written
pub record BeginsToRefuse (said : Option BatchInput) (before now : Option (List ℕ)) : Type 0 where
  pub line : ℕ
  pub is_said : IsSaid said (HeaderRefused line)
  pub prefix : IsPrefix before now (header_refused_line line)

-- the reading of an input has begun
--
-- A header was read, and the lines and the source have the batches after it to give. Or the header is refused. Or a
-- fault came before that.
abbrev pub OpensInput : Option BatchInput → Option (List ℕ) → Option (List ℕ) → Option (List ℕ) → Result (Option (HeaderShape × Reading)) SessionFault → Type 0
OpensInput said left before now (Ok (Some (header, lines))) = (said ≡ option_map (WithBatches header) (batches_left (rules_of header MAX_ITEMS) lines left)) × (now ≡ before)
OpensInput said left before now (Ok None) = RefusesHeader said before now
OpensInput said left before now (Err _) = (now ≡ before) ⊎ BeginsToRefuse said before now
