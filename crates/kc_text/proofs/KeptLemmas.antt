-- Lines that aren't skipped, if the source tells its bytes or not.
use Rattle.std.proofs.Common.{◌≡◌, true, false, List, refl, arith}
use Rattle.std.specs.Prelude.{Option}
use Rattle.std.specs.Option.{option_map}
use Rattle.std.proofs.lemmas.Bool.Decides.{nat_tests}
use Rattle.kc_text.specs.declared.line.Line.{Line}
use Rattle.kc_text.specs.declared.line.Body.{Body}
use Rattle.kc_text.specs.Reading.{onto, behind}
use Rattle.kc_text.specs.Kept.{is_skipped, kept}

skipped_behind : (body : Body) (rest : List Line) → is_skipped body ≡ true → behind body rest ≡ rest
skipped_behind body rest e = grind (arith, nat_tests)

kept_behind : (body : Body) (rest : List Line) → kept (behind body rest) ≡ behind body (kept rest)
kept_behind body rest = grind (arith, nat_tests)

-- a line that is skipped is dropped
pub kept_skips : (line : Line) (rest : List Line) → is_skipped line.body ≡ true → kept (onto line rest) ≡ kept rest
kept_skips line rest e = rw (e, skipped_behind line.body rest e) refl

-- another line stays
pub kept_goes : (line : Line) (rest : List Line) → is_skipped line.body ≡ false → kept (onto line rest) ≡ onto line (kept rest)
kept_goes line rest e = rw (e, kept_behind line.body rest) refl

pub told_skips : (line : Line) (old new : Option (List Line)) → is_skipped line.body ≡ true → old ≡ option_map (onto line) new → option_map kept old ≡ option_map kept new
told_skips line old new e h = grind (arith, nat_tests, kept_skips)

pub told_goes : (line : Line) (old new : Option (List Line)) → is_skipped line.body ≡ false → old ≡ option_map (onto line) new → option_map kept old ≡ option_map (onto line) (option_map kept new)
told_goes line old new e h = grind (arith, nat_tests, kept_goes)
