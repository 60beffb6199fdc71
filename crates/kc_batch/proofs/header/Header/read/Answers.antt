use Rattle.std.proofs.Common.{◌∙◌, sym, []}
use Rattle.kc_text.specs.Reading.{onto}
use Rattle.kc_batch.specs.Headers.{header_of, after_profile, asks_from, refused_at}
use Rattle.kc_batch.proofs.Stepping.{step_on}
use Rattle.kc_batch.proofs.Asking.{profile_missing, profile_there, vertices_missing, vertices_there}
use Rattle.kc_batch.proofs.InputLemmas.{answer_before}
use Rattle.kc_batch.proofs.header.Header.read.Goals as goal

pub returns-in_default-clause-header : goal.returns-in_default-clause-header
returns-in_default-clause-header g c =
    let first = c.in_ok-first.first in
    step_on header_of (refused_at first.number) (onto first) _ _ c.in_ok-first.ensures.line (profile_missing first (rw c.text_of.ensures at (sym c.profile_in.ensures ∙ c.in_default.is)))

pub returns-in_default-vertices_in-clause-header : goal.returns-in_default-vertices_in-clause-header
returns-in_default-vertices_in-clause-header g c =
    let first = c.in_ok-first.first in
    let second = c.in_ok-second.second in
    let p = c.in-Some.profile in
    step_on header_of (after_profile p) (onto first) _ _ c.in_ok-first.ensures.line (profile_there first p (rw c.text_of.ensures at (sym c.profile_in.ensures ∙ c.in-Some.is)))
    ∙ step_on (after_profile p) (refused_at second.number) (onto second) _ _ c.in_ok-second.ensures.line (vertices_missing p second (rw c.text_of-2.ensures at (sym c.vertices_in.ensures.value ∙ c.in_default-vertices_in.is)))

pub returns-clause-header : goal.returns-clause-header
returns-clause-header g c =
    let first = c.in_ok-first.first in
    let second = c.in_ok-second.second in
    let p = c.in-Some.profile in
    let n = c.in-Some-vertices_in.n in
    let told = step_on header_of (after_profile p) (onto first) _ _ c.in_ok-first.ensures.line (profile_there first p (rw c.text_of.ensures at (sym c.profile_in.ensures ∙ c.in-Some.is)))
    ∙ step_on (after_profile p) (asks_from p n []) (onto second) _ _ c.in_ok-second.ensures.line (vertices_there p second n (rw c.text_of-2.ensures at (sym c.vertices_in.ensures.value ∙ c.in-Some-vertices_in.is))) in
    answer_before header_of (asks_from p n []) _ _ _ _ told c.read_asks.ensures.header
