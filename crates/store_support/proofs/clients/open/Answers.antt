use Rattle.std.proofs.Common.{◌≡◌, All, [], refl, sym, subst}
use Rattle.std.specs.List.{range_with_len}
use Rattle.std.proofs.lemmas.Result.{IfOk-weaker}
use Rattle.std.proofs.lemmas.List.Elements.{All-map}
use Rattle.kc_intake.specs.Views.{new_client}
use Rattle.store_support.proofs.clients.open.Goals as goal

pub returns-clause-clients : goal.returns-clause-clients
returns-clause-clients c = IfOk-weaker c.open.result _ _ (λ r listed. subst (λ l. All (λ z. (z.intake ≡ r.0) × (z.sent ≡ [])) l) (sym listed) (All-map (λ z. (z.intake ≡ r.0) × (z.sent ≡ [])) (new_client r.0) (range_with_len 0 c.args.clients) (λ k d lt. (refl, refl)))) c.open.ensures.clients
