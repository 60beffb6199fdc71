-- The vertices that still rise stay where they are, range by range.
use Rattle.std.proofs.Common.{ℕ, ◌+◌, ◌<◌, ◌≡◌, Bool, true, false, eqb, not, ◌&&◌, ◌||◌, List, [], ◌∷◌, ◌++◌, length, get_or, take, refl, ap, sym, ◌∙◌, arith}
use Rattle.std.specs.List.{flat_map}
use Rattle.std.proofs.lemmas.Bool.Decides.{nat_tests}
use Rattle.std.proofs.lemmas.List.{append-nil, take_more}
use Rattle.std.proofs.lemmas.Grind.{flat_map-append}
use Rattle.kc_graph.specs.Numbers.{has_number}
use Rattle.kc_graph.proofs.lemmas.Numbers.{has_number-append}
use Rattle.kc_insert.specs.declared.rising.RisingLevels.{RisingLevels}
use Rattle.kc_insert.specs.Ranges.{Part}
use Rattle.kc_insert.specs.private.Rising.{rises, seen}
use Rattle.kc_insert.proofs.Tests.{and_first}

-- the vertices of the list rise no more
pub record AreStopped (old new : RisingLevels) (vs : List ℕ) : Type 0 where
  pub level : new.level ≡ old.level
  pub levels : seen new ≡ seen old
  pub rest : (v : ℕ) → rises new v ≡ (rises old v && not (has_number v vs))

pub stopped_on : (a b c : RisingLevels) (us vs : List ℕ) → AreStopped a b us → AreStopped b c vs → AreStopped a c (us ++ vs)
stopped_on a b c us vs s t = record {
  level = t.level ∙ s.level;
  levels = t.levels ∙ s.levels;
  rest = λ v. joined (rises a v) (rises b v) (rises c v) (has_number v us) (has_number v vs) (has_number v (us ++ vs)) (s.rest v) (t.rest v) (has_number-append v us vs);
}
  where
    joined : (p q r x y z : Bool) → q ≡ p && not x → r ≡ q && not y → z ≡ x || y → r ≡ p && not z
    joined p q r x y z e f g = grind (arith, nat_tests, e, f, g)

-- one vertex
module _ (a b : RisingLevels) (vs : List ℕ) (i : ℕ) (at : i < length vs) (s : AreStopped a b (take i vs)) where
  more : take (i + 1) vs ≡ take i vs ++ get_or vs i 0 ∷ []
  more = take_more vs i 0 at

  pub stopped_one : (c : RisingLevels) → c.level ≡ b.level → seen c ≡ seen b → ((u : ℕ) → rises c u ≡ (rises b u && not (eqb u (get_or vs i 0)))) → AreStopped a c (take (i + 1) vs)
  stopped_one c level levels left = rw more (stopped_on a b c (take i vs) (get_or vs i 0 ∷ []) s (record { level = level; levels = levels; rest = λ u. one (rises b u) (rises c u) u (get_or vs i 0) (left u) }))
    where
      one : (p q : Bool) (u v : ℕ) → q ≡ p && not (eqb u v) → q ≡ p && not (has_number u (v ∷ []))
      one p q u v e = grind (arith, nat_tests, e)

  pub stopped_none : rises b (get_or vs i 0) ≡ false → AreStopped a b (take (i + 1) vs)
  stopped_none off = rw more (stopped_on a b b (take i vs) (get_or vs i 0 ∷ []) s (record {
    level = refl;
    levels = refl;
    rest = λ u. grind (arith, nat_tests);
  }))

-- one range after another
module _ (a b c : RisingLevels) (ps : List Part) (i : ℕ) (d : Part) (at : i < length ps) (s : AreStopped a b (flat_map (λ (p : Part). p.began) (take i ps))) (t : AreStopped b c (get_or ps i d).began) where
  pub stopped_range : AreStopped a c (flat_map (λ (p : Part). p.began) (take (i + 1) ps))
  stopped_range = rw (ap (flat_map (λ (p : Part). p.began)) (take_more ps i d at) ∙ flat_map-append (λ (p : Part). p.began) (take i ps) (get_or ps i d ∷ []) ∙ ap (λ (xs : List ℕ). flat_map (λ (p : Part). p.began) (take i ps) ++ xs) (append-nil (get_or ps i d).began)) (stopped_on a b c (flat_map (λ (p : Part). p.began) (take i ps)) (get_or ps i d).began s t)

-- a vertex that still rises rose before
pub stopped_was : (a b : RisingLevels) (vs : List ℕ) → AreStopped a b vs → (v : ℕ) → rises b v ≡ true → rises a v ≡ true
stopped_was a b vs s v up = and_first (rises a v) (not (has_number v vs)) (sym (s.rest v) ∙ up)
