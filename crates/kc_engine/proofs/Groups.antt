-- A group is marked, published and cleared.
use Rattle.std.proofs.Common.{◌≡◌, ◌≢◌, ℕ, ◌+◌, ◌<◌, List, [], ◌∷◌, ◌++◌, length, All, Contains, Some, sym, ap, ◌∙◌, subst, arith}
use Rattle.std.specs.List.{slice_get}
use Rattle.kc_groups.specs.declared.plans.PhasePlan.{PhasePlan}
use Rattle.kc_groups.specs.WellFormed.{vertex_at}
use Rattle.kc_store.specs.declared.roles.Loan.{Loan}
use Rattle.kc_store.specs.declared.roles.WriterState.{WriterState}
use Rattle.kc_store.specs.Plans.{group_at}
use Rattle.kc_store.specs.States.{AllMovesIn, MayPublish, with_entry_if, with_published}
use Rattle.kc_store.specs.private.Showing.{HasShownGroup}
use Rattle.std.proofs.lemmas.Option.{slice_get-get_or}
use Rattle.kc_store.proofs.lemmas.Shows.{all_moves}
use Rattle.kc_engine.specs.private.Lending.{HasDoneGroup}
use Rattle.kc_engine.specs.declared.showing.side_by_side.Task.TheVariants.{Mark, Clear}

pub may_publish : (g count : ℕ) (old new : WriterState) → HasDoneGroup Mark g count old new → count ≡ length (group_at old.plan g).moves → g < length old.plan.groups → g ≡ old.published → MayPublish new g
may_publish g count old new h size inside next =
    let plan : new.plan ≡ old.plan = ap (λ (s : WriterState). s.plan) h.same in record {
      inside = subst (λ (p : PhasePlan). g < length p.groups) (sym plan) inside;
      next = next ∙ sym (ap (λ (s : WriterState). s.published) h.same);
      none_out = subst (λ (ls : List Loan). All (λ (l : Loan). l.group ≢ g) ls) (sym h.loans) (λ k d lt. absurd (omega (arith, lt)));
      all_marked = subst (λ (p : PhasePlan). AllMovesIn new.marked (group_at p g)) (sym plan) (all_moves new.marked old.plan g count size h.each);
    }

pub group_shown : (g count : ℕ) (old mid last new : WriterState) → HasDoneGroup Mark g count old mid → last ≡ with_published mid → HasDoneGroup Clear g count last new → count ≡ length (group_at old.plan g).moves → g < length old.plan.groups → g ≡ old.published → HasShownGroup g old new
group_shown g count old mid last new marked is cleared size inside next =
    let group : slice_get old.plan.groups old.published ≡ Some (group_at old.plan g) = ap (slice_get old.plan.groups) (sym next) ∙ slice_get-get_or old.plan.groups g old.plan.quiet inside in
    let after : last ≡ with_published (record old { noted = mid.noted; marked = mid.marked; cleared = mid.cleared; loans = mid.loans; lent = mid.lent }) = is ∙ ap with_published marked.same in
    let published : last ≡ record old { noted = mid.noted; marked = mid.marked; cleared = mid.cleared; loans = mid.loans; lent = mid.lent; history = old.history ++ group_at old.plan g ∷ []; published = old.published + 1 } =
    after ∙ (λ i. record old { noted = mid.noted; marked = mid.marked; cleared = mid.cleared; loans = mid.loans; lent = mid.lent; history = with_entry_if (group i) old.history; published = old.published + 1 }) in
    let plan : last.plan ≡ old.plan = ap (λ (s : WriterState). s.plan) published in
    let kept : mid.cleared ≡ last.cleared = sym (ap (λ (s : WriterState). s.cleared) published) in
    record {
      same = cleared.same ∙ ap (λ (s : WriterState). record s { noted = new.noted; marked = new.marked; cleared = new.cleared; loans = new.loans; lent = new.lent }) published;
      loans = cleared.loans;
      kept = λ v on. cleared.kept v (subst (λ (vs : List ℕ). Contains vs v) kept (marked.kept v on));
      each = all_moves new.cleared old.plan g count size (λ i lt. subst (λ (p : PhasePlan). Contains new.cleared (vertex_at p g i)) plan (cleared.each i lt));
    }
