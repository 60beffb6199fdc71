use Rattle.std.proofs.Common.{◌∙◌, sym, ap}
use Rattle.std.specs.Prelude.{Err}
use Rattle.std.proofs.lemmas.Result.{err_from_is_err_and}
use Rattle.kc_cert.specs.Documents.{AtMagic, AtProfile, AtVertices, AtEdgeCount, AtBody, empty_certificate, onward}
use Rattle.kc_cert.proofs.Stepping.{reaches_on, answers_before, answers_misfit}
use Rattle.kc_cert.proofs.read.read_head.Goals as goal

pub returns-in_err-fit_at-clause-head : goal.returns-in_err-fit_at-clause-head
returns-in_err-fit_at-clause-head g c =
    let p = err_from_is_err_and c.from_residual-in_err-fit_at.result c.from_residual-in_err-fit_at.ensures.1 in
    rw (p.1, p.2) (answers_misfit AtMagic (λ u. AtProfile) c.in_ok-first.first _ _ _ _ (ap (onward (λ u. AtProfile)) (sym c.magic_of.ensures)) c.in_ok-first.ensures.token c.in_err-fit_at.ensures.fits)

pub returns-in_err-profile-clause-head : goal.returns-in_err-profile-clause-head
returns-in_err-profile-clause-head g c =
    let p = err_from_is_err_and c.from_residual-in_err-profile.result c.from_residual-in_err-profile.ensures.1 in
    let told = reaches_on AtMagic AtProfile c.in_ok-first.first _ _ (ap (onward (λ u. AtProfile)) (sym c.magic_of.ensures ∙ c.in_ok-fit_at.ensures.fits)) tt c.in_ok-first.ensures.token in
    rw (p.1, p.2) (answers_before _ _ _ _ (Err c.in_err-profile.field-0.0) told (answers_misfit AtProfile (λ q. AtVertices q) c.in_ok-second.second _ _ _ _ (ap (onward (λ q. AtVertices q)) (sym c.profile_of.ensures)) c.in_ok-second.ensures.token c.in_err-profile.ensures.fits))

pub returns-in_err-n-clause-head : goal.returns-in_err-n-clause-head
returns-in_err-n-clause-head g c =
    let p = err_from_is_err_and c.from_residual-in_err-n.result c.from_residual-in_err-n.ensures.1 in
    let told = reaches_on AtMagic AtProfile c.in_ok-first.first _ _ (ap (onward (λ u. AtProfile)) (sym c.magic_of.ensures ∙ c.in_ok-fit_at.ensures.fits)) tt c.in_ok-first.ensures.token
    ∙ reaches_on AtProfile (AtVertices c.in_ok-profile.profile) c.in_ok-second.second _ _ (ap (onward (λ q. AtVertices q)) (sym c.profile_of.ensures ∙ c.in_ok-profile.ensures.fits)) tt c.in_ok-second.ensures.token in
    rw (p.1, p.2) (answers_before _ _ _ _ (Err c.in_err-n.field-0.0) told (answers_misfit (AtVertices c.in_ok-profile.profile) (λ k. AtEdgeCount c.in_ok-profile.profile k) c.in_ok-third.third _ _ _ _ (ap (onward (λ k. AtEdgeCount c.in_ok-profile.profile k)) (sym c.vertices_of.ensures.number)) c.in_ok-third.ensures.token c.in_err-n.ensures.fits))

pub returns-in_err-edges-clause-head : goal.returns-in_err-edges-clause-head
returns-in_err-edges-clause-head g c =
    let p = err_from_is_err_and c.from_residual-in_err-edges.result c.from_residual-in_err-edges.ensures.1 in
    let told = reaches_on AtMagic AtProfile c.in_ok-first.first _ _ (ap (onward (λ u. AtProfile)) (sym c.magic_of.ensures ∙ c.in_ok-fit_at.ensures.fits)) tt c.in_ok-first.ensures.token
    ∙ reaches_on AtProfile (AtVertices c.in_ok-profile.profile) c.in_ok-second.second _ _ (ap (onward (λ q. AtVertices q)) (sym c.profile_of.ensures ∙ c.in_ok-profile.ensures.fits)) tt c.in_ok-second.ensures.token
    ∙ reaches_on (AtVertices c.in_ok-profile.profile) (AtEdgeCount c.in_ok-profile.profile c.in_ok-n.n) c.in_ok-third.third _ _ (ap (onward (λ k. AtEdgeCount c.in_ok-profile.profile k)) (sym c.vertices_of.ensures.number ∙ c.in_ok-n.ensures.fits)) tt c.in_ok-third.ensures.token in
    rw (p.1, p.2) (answers_before _ _ _ _ (Err c.in_err-edges.field-0.0) told (answers_misfit (AtEdgeCount c.in_ok-profile.profile c.in_ok-n.n) (λ k. AtBody (empty_certificate c.in_ok-profile.profile c.in_ok-n.n) k 0 0 c.in_ok-n.n) c.in_ok-fourth.fourth _ _ _ _ (ap (onward (λ k. AtBody (empty_certificate c.in_ok-profile.profile c.in_ok-n.n) k 0 0 c.in_ok-n.n)) (sym c.edge_count_of.ensures.number)) c.in_ok-fourth.ensures.token c.in_err-edges.ensures.fits))

pub returns-clause-head : goal.returns-clause-head
returns-clause-head g c =
    let p = c.in_ok-profile.profile in
    let n = c.in_ok-n.n in
    reaches_on AtMagic AtProfile c.in_ok-first.first _ _ (ap (onward (λ u. AtProfile)) (sym c.magic_of.ensures ∙ c.in_ok-fit_at.ensures.fits)) tt c.in_ok-first.ensures.token
    ∙ reaches_on AtProfile (AtVertices p) c.in_ok-second.second _ _ (ap (onward (λ q. AtVertices q)) (sym c.profile_of.ensures ∙ c.in_ok-profile.ensures.fits)) tt c.in_ok-second.ensures.token
    ∙ reaches_on (AtVertices p) (AtEdgeCount p n) c.in_ok-third.third _ _ (ap (onward (λ k. AtEdgeCount p k)) (sym c.vertices_of.ensures.number ∙ c.in_ok-n.ensures.fits)) tt c.in_ok-third.ensures.token
    ∙ reaches_on (AtEdgeCount p n) (AtBody (empty_certificate p n) c.in_ok-edges.edges 0 0 n) c.in_ok-fourth.fourth _ _ (ap (onward (λ k. AtBody (empty_certificate p n) k 0 0 n)) (sym c.edge_count_of.ensures.number ∙ c.in_ok-edges.ensures.fits)) tt c.in_ok-fourth.ensures.token
