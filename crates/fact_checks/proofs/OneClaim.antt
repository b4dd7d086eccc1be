-- The differences of one claim.
use Rattle.std.proofs.Common.{◌≡◌, ℕ, ◌+◌, ◌<◌, ◌≤◌, true, false, List, [], ◌∷◌, Some, Ok, Result, refl, sym, ap, subst, ◌∙◌, inl, inr, ◌⊎◌, arith}
use Rattle.std.specs.Prelude.{IsTrue}
use Rattle.std.specs.List.{AllPairs, Contains}
use Rattle.unwind_definitions.specs.declared.error.Error.{Error as Fault}
use Rattle.unwind_definitions.specs.Pointers.{Bases}
use Rattle.unwind_definitions.specs.Entries.{Fde}
use Rattle.unwind_definitions.specs.Row.{CfaRule, RowInstructions, cfa_rule, covers_pc, row_at, rule_of}
use Rattle.unwind_definitions.specs.Function.{in_range}
use Rattle.unwind_definitions.specs.Module.{DescriptionsApart}
use Rattle.unwind_laws.proofs.Found.{covered, covers_is}
use Rattle.eh_frame.specs.Walked.{due_row}
use Rattle.frame_facts.specs.Facts.{Facts}
use Rattle.frame_facts.specs.FactRows.{return_rule, SaysFacts, FindsKnown, IsKnownCfa}
use Rattle.frame_facts.specs.Claims.{Claim, IsClaimSaid}
use Rattle.fact_checks.specs.declared.rows.Mismatch.{Mismatch}
use Rattle.fact_checks.specs.declared.rows.Mismatch.TheVariants as mismatch
use Rattle.fact_checks.specs.declared.stretches.Difference.{Difference}
use Rattle.fact_checks.specs.Audits.{AreDifferencesOf, ContainsRange, IsDifferenceOf, IsListedAt, SaysNot}
use Rattle.fact_checks.specs.Looking.{MayAsk, RefusesRange}
use Rattle.fact_checks.specs.RowFacts.{Differs, IsOtherRule, SaysDue}
use Rattle.fact_checks.specs.Stretches.{AreDifferences, IsDifference, IsSaidOrListed}
use Rattle.fact_checks.proofs.Spans.{all_as, none_said}
use Rattle.fact_checks.proofs.Unique.{in_range_is, one_description, range_holds, row_is_due}

-- ---- a row that differs says no facts

other_says : (facts : Facts) (run : RowInstructions) (c : ℕ) → IsOtherRule facts c (rule_of run c) → SaysFacts facts run → ⊥
other_says facts run c (inl (same, fails)) says = fails (subst (λ x. rule_of run x ≡ Some (return_rule facts.outermost)) (sym same) says.ret)
other_says facts run c (inr (inl (r, same, fails))) says = fails (subst (λ x. FindsKnown facts r (rule_of run x)) (sym same) (says.registers r))
other_says facts run c (inr (inr (may, fails))) says = fails (says.others c may)

cfa_says : (facts : Facts) (run : RowInstructions) (rule : CfaRule) → cfa_rule run ≡ Some rule → (IsKnownCfa facts rule → ⊥) → SaysFacts facts run → ⊥
cfa_says facts run rule is fails says = let e : Some says.rule ≡ Some rule = sym says.cfa ∙ is in let same : says.rule ≡ rule = cc in fails (subst (IsKnownCfa facts) same says.known)

run_same : (due : Result RowInstructions Fault) (x y : RowInstructions) → due ≡ Ok x → due ≡ Ok y → x ≡ y
run_same due x y a b = let e : ◌≡◌ {A = Result RowInstructions Fault} (Ok x) (Ok y) = sym a ∙ b in cc

pub differs_says : (facts : Facts) (due : Result RowInstructions Fault) (m : Mismatch) → Differs facts due m → SaysDue facts due → ⊥
differs_says facts due (mismatch.Cfa by) (run, is, (rule, cfa, fails, same)) (said, due_is, says) = cfa_says facts run rule cfa fails (subst (SaysFacts facts) (run_same due said run due_is is) says)
differs_says facts due (mismatch.Rule register by) (run, is, other, same) (said, due_is, says) = other_says facts run register.0 other (subst (SaysFacts facts) (run_same due said run due_is is) says)
differs_says facts due (mismatch.Fault e) is (said, due_is, says) = let h = sym is ∙ due_is in absurd cc
differs_says facts due mismatch.NoDescription h says = absurd h
differs_says facts due mismatch.SignalFrame h says = absurd h

-- ---- a claim

module _ (bases : Bases) (fdes : List Fde) (apart : AllPairs DescriptionsApart fdes) (c : Claim) (some : c.range.from < c.range.to) where
  covers_from : (fde : Fde) → fde.start ≤ c.range.from → c.range.to ≤ fde.start + fde.size → covers_pc fde c.range.from ≡ true
  covers_from fde from to = covers_is fde c.range.from from (omega (arith, some, to))

  same_fde : (f g : Fde) → ContainsRange bases fdes c f → ContainsRange bases fdes c g → f ≡ g
  same_fde f g x y = one_description fdes f g c.range.from apart x.listed y.listed (covers_from f x.from x.to) (covers_from g y.from y.to)

  range_of_said : (said : IsClaimSaid bases fdes c) → ContainsRange bases fdes c said.fde
  range_of_said said = record { listed = said.listed; from = said.says.from; to = said.says.to }

  by_row : (m : Mismatch) (a : ℕ) (fde : Fde) → ContainsRange bases fdes c fde → IsTrue (in_range a c.range) → Differs c.facts (row_at bases fde a) m → IsClaimSaid bases fdes c → ⊥
  by_row m a fde contains inside differs said =
      let same = same_fde fde said.fde contains (range_of_said said) in
      let row = said.says.each a inside in
      differs_says c.facts (row_at bases said.fde a) m (subst (λ (x : Fde). Differs c.facts (row_at bases x a) m) same differs) row

  -- what is said isn't in a difference
  pub not_said : (a : ℕ) (m : Mismatch) → SaysNot bases fdes c a m → IsClaimSaid bases fdes c → ⊥
  not_said a mismatch.NoDescription (at, none) said = none said.fde (range_of_said said)
  not_said a mismatch.SignalFrame (at, fde, contains, signal) said =
      let same = same_fde fde said.fde contains (range_of_said said) in
      let h : true ≡ false = sym signal ∙ ap (λ (x : Fde). x.cie.letters.signal) same ∙ said.says.unmarked in absurd cc
  not_said a (mismatch.Cfa by) d said = by_row (mismatch.Cfa by) a d.fde d.contains d.inside d.differs said
  not_said a (mismatch.Rule r by) d said = by_row (mismatch.Rule r by) a d.fde d.contains d.inside d.differs said
  not_said a (mismatch.Fault e) d said = by_row (mismatch.Fault e) a d.fde d.contains d.inside d.differs said

  module _ (i : ℕ) where
    abbrev whole : Mismatch → Difference
    whole m = record { claim = i; address = c.range.from; mismatch = m }

    -- no description contains the range's first address
    module _ (none : (fde : Fde) → Contains fdes fde → covers_pc fde c.range.from ≡ false) where
      none_contains : (fde : Fde) → ContainsRange bases fdes c fde → ⊥
      none_contains fde x = let h : true ≡ false = sym (covers_from fde x.from x.to) ∙ none fde x.listed in absurd cc

      pub none_there : AreDifferencesOf bases fdes i c (whole mismatch.NoDescription ∷ [])
      none_there = record {
        each = ((refl, (refl, none_contains)), tt);
        every = λ fde x unmarked a inside. absurd (none_contains fde x);
        said = λ e. absurd cc;
      }

    module _ (fde : Fde) (listed : Contains fdes fde) (covers : covers_pc fde c.range.from ≡ true) where
      -- the description that contains it isn't asked
      pub refused_there : (m : Mismatch) → RefusesRange fde c m → AreDifferencesOf bases fdes i c (whole m ∷ [])
      refused_there mismatch.NoDescription short = record {
        each = (
          (
            refl,
            (
              refl,
              λ g x. let same = one_description fdes g fde c.range.from apart x.listed listed (covers_from g x.from x.to) covers in
                  short (subst (λ (y : Fde). c.range.to ≤ y.start + y.size) same x.to),
            ),
          ),
          tt,
        );
        every = λ g x unmarked a inside. absurd
            (let same = one_description fdes g fde c.range.from apart x.listed listed (covers_from g x.from x.to) covers in
            short (subst (λ (y : Fde). c.range.to ≤ y.start + y.size) same x.to));
        said = λ e. absurd cc;
      }
      refused_there mismatch.SignalFrame (to, signal) = record {
        each = ((refl, (refl, fde, record { listed = listed; from = (covered fde c.range.from covers).0; to = to }, signal)), tt);
        every = λ g x unmarked a inside. absurd
            (let same = one_description fdes g fde c.range.from apart x.listed listed (covers_from g x.from x.to) covers in
            let h : true ≡ false = sym signal ∙ ap (λ (y : Fde). y.cie.letters.signal) (sym same) ∙ unmarked in cc);
        said = λ e. absurd cc;
      }
      refused_there (mismatch.Cfa by) h = absurd h
      refused_there (mismatch.Rule r by) h = absurd h
      refused_there (mismatch.Fault e) h = absurd h

      module _ (may : MayAsk fde c) where
        contains : ContainsRange bases fdes c fde
        contains = record { listed = listed; from = (covered fde c.range.from covers).0; to = may.0 }

        due_there : (a : ℕ) → c.range.from ≤ a → a < c.range.to → row_at bases fde a ≡ due_row bases fde a
        due_there a from below = let start = contains.from in let end = may.0 in row_is_due bases fde a (covers_is fde a (omega arith) (omega arith))

        says_not : (a : ℕ) (m : Mismatch) → c.range.from ≤ a → a < c.range.to → Differs c.facts (due_row bases fde a) m → SaysNot bases fdes c a m
        says_not a m from below differs = go m (subst (λ due. Differs c.facts due m) (sym (due_there a from below)) differs)
          where
            inside : IsTrue (in_range a c.range)
            inside = in_range_is c.range a from below

            go : (m : Mismatch) → Differs c.facts (row_at bases fde a) m → SaysNot bases fdes c a m
            go (mismatch.Cfa by) h = record { fde = fde; contains = contains; inside = inside; differs = h }
            go (mismatch.Rule r by) h = record { fde = fde; contains = contains; inside = inside; differs = h }
            go (mismatch.Fault e) h = record { fde = fde; contains = contains; inside = inside; differs = h }
            go mismatch.NoDescription h = absurd h
            go mismatch.SignalFrame h = absurd h

        said_or_listed : (ds : List Difference) (a : ℕ) → c.range.from ≤ a → a < c.range.to → IsSaidOrListed bases fde i c ds a → SaysDue c.facts (row_at bases fde a) ⊎ IsListedAt c (row_at bases fde) ds a
        said_or_listed ds a from below (inl says) = inl (subst (SaysDue c.facts) (sym (due_there a from below)) says)
        said_or_listed ds a from below (inr is) = inr record {
          difference = is.difference;
          listed = is.listed;
          inside = is.inside;
          reached = is.reached;
          differs = λ x after le. let inside = is.inside in subst (λ due. Differs c.facts due is.difference.mismatch) (sym (due_there x (omega (arith, inside, after)) (omega (arith, le, below)))) (is.differs x after le);
        }

        -- its rows are asked
        pub rows_there : (low : ℕ) (ds : List Difference) → low ≤ c.range.from → AreDifferences bases fde i c low c.range.to ds → AreDifferencesOf bases fdes i c ds
        rows_there low ds le are = record {
          each = all_as (IsDifference bases fde i c c.range.to) (IsDifferenceOf bases fdes i c) ds (λ d is. (is.claim, says_not d.address d.mismatch is.from is.below is.differs)) are.each;
          every = λ g x unmarked a inside.
              let lies = range_holds c.range a inside in
              let from = lies.0 in
              subst (λ (f : Fde). SaysDue c.facts (row_at bases f a) ⊎ IsListedAt c (row_at bases f) ds a) (same_fde fde g contains x) (said_or_listed ds a lies.0 lies.1 (are.every a (omega (arith, from, le)) lies.0 lies.1));
          said = λ none. record {
            fde = fde;
            listed = listed;
            says = record {
              from = contains.from;
              to = may.0;
              unmarked = may.1;
              each = λ a inside. let lies = range_holds c.range a inside in let from = lies.0 in
                  subst (SaysDue c.facts) (sym (due_there a lies.0 lies.1)) (none_said bases fde i c low c.range.to a ds are none (omega (arith, from, le)) lies.0 lies.1);
            };
          };
        }
