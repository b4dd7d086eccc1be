-- What is asked at an address, by the parts of a body that are passed one after another.
use Rattle.std.proofs.Common.{◌≡◌, ℕ, ◌<◌, ◌≤◌, Bool, true, false, List, [], ◌∷◌, refl, sym, ap, subst, ◌∙◌, inl, inr, arith}
use Rattle.std.specs.Prelude.{◌||◌, ◌&&◌, nat_lt}
use Rattle.std.specs.List.{list_any}
use Rattle.std.proofs.lemmas.Bool.{le-leb, lt-leb, lt-ltb, le-ltb}
use Rattle.unwind_definitions.specs.Function.{AreWithin, Range, first_from, in_range}
use Rattle.table_check.specs.Programs.{AreEdgesQuiet, IsFrontOf}
use Rattle.table_check.proofs.Quiet.{in_within}

-- some parts of a body are passed, and these are left
pub record IsPassed (end pc : ℕ) (all left : List Range) (is_first : Bool) : Type 0 where
  pub low : ℕ
  pub within : AreWithin low end left
  pub any : list_any (in_range pc) left ≡ list_any (in_range pc) all
  pub quiet : (next : ℕ) → AreEdgesQuiet pc next left → AreEdgesQuiet pc next all
  pub first : is_first ≡ true → left ≡ all
  pub later : is_first ≡ false → first_from end all ≤ pc

pub none_passed : (end pc low : ℕ) (all : List Range) → AreWithin low end all → IsPassed end pc all all true
none_passed end pc low all within = record {
  low = low;
  within = within;
  any = refl;
  quiet = λ next quiet. quiet;
  first = λ is. refl;
  later = λ is. absurd cc;
}

-- parts that begin later don't change what is asked before
quiet_after : (pc next low high : ℕ) (rs : List Range) → AreWithin low high rs → next ≤ low → AreEdgesQuiet pc next rs
quiet_after pc next low high [] within le = tt
quiet_after pc next low high (r ∷ rs) within le =
    let a = within.0 in let b = within.1 in
    ((inr (omega (arith, a, le)), inr (omega (arith, a, b, le))), quiet_after pc next r.to high rs within.3 (omega (arith, a, b, le)))

none_in : (pc low high : ℕ) (rs : List Range) → AreWithin low high rs → pc < low → list_any (in_range pc) rs ≡ false
none_in pc low high rs within below = go (list_any (in_range pc) rs) refl
  where
    go : (b : Bool) → list_any (in_range pc) rs ≡ b → list_any (in_range pc) rs ≡ false
    go false is = is
    go true is = absurd (let w = (in_within pc low high rs within is).0 in omega (arith, w, below))

module _ (end pc : ℕ) (all left : List Range) (is_first : Bool) (was : IsPassed end pc all left is_first) where
  front : (b : Bool) → is_first ≡ b → (left ≡ all → pc < first_from end all) → IsFrontOf b pc (first_from end all)
  front true is here = here (was.first is)
  front false is here = was.later is

  module _ (r : Range) (rest : List Range) (at : left ≡ r ∷ rest) where
    inside : AreWithin was.low end (r ∷ rest)
    inside = subst (AreWithin was.low end) at was.within

    -- ---- before the next part
    module _ (below : pc < r.from) where
      pub out_before : list_any (in_range pc) all ≡ false
      out_before =
          let a = inside.1 in
          sym was.any ∙ ap (list_any (in_range pc)) at ∙ ap (λ b. (b && nat_lt pc r.to) || list_any (in_range pc) rest) (lt-leb r.from pc below) ∙ none_in pc r.to end rest inside.3 (omega (arith, a, below))

      pub front_before : IsFrontOf is_first pc (first_from end all)
      front_before = front is_first refl (λ same. subst (λ l. pc < first_from end l) (sym at ∙ same) below)

      pub quiet_before : AreEdgesQuiet pc r.from all
      quiet_before = let a = inside.1 in was.quiet r.from (subst (AreEdgesQuiet pc r.from) (sym at) ((inr (omega arith), inr (omega (arith, a))), quiet_after pc r.from r.to end rest inside.3 (omega (arith, a))))

      pub end_before : r.from ≤ end
      end_before = let a = inside.1 in let b = inside.2 in omega (arith, a, b)

    -- ---- in the next part
    module _ (from : r.from ≤ pc) where
      module _ (below : pc < r.to) where
        pub in_part : list_any (in_range pc) all ≡ true
        in_part = sym was.any ∙ ap (list_any (in_range pc)) at ∙ ap (λ b. (b && nat_lt pc r.to) || list_any (in_range pc) rest) (le-leb r.from pc from) ∙ ap (λ b. b || list_any (in_range pc) rest) (lt-ltb pc r.to below)

        pub quiet_in : AreEdgesQuiet pc r.to all
        quiet_in = was.quiet r.to (subst (AreEdgesQuiet pc r.to) (sym at) ((inl from, inr (omega arith)), quiet_after pc r.to r.to end rest inside.3 (omega arith)))

        pub end_in : r.to ≤ end
        end_in = inside.2

      -- ---- after it
      pub one_passed : r.to ≤ pc → IsPassed end pc all rest false
      one_passed past = record {
        low = r.to;
        within = inside.3;
        any = sym (ap (λ b. (b && nat_lt pc r.to) || list_any (in_range pc) rest) (le-leb r.from pc from) ∙ ap (λ b. b || list_any (in_range pc) rest) (le-ltb pc r.to past)) ∙ sym (ap (list_any (in_range pc)) at) ∙ was.any;
        quiet = λ next quiet. was.quiet next (subst (AreEdgesQuiet pc next) (sym at) ((inl from, inl past), quiet));
        first = λ is. absurd cc;
        later = λ is. reached is_first refl;
      }
        where
          reached : (b : Bool) → is_first ≡ b → first_from end all ≤ pc
          reached true is = subst (λ l. first_from end l ≤ pc) (sym at ∙ was.first is) from
          reached false is = was.later is

  -- ---- after the last part
  module _ (over : left ≡ []) where
    pub out_after : list_any (in_range pc) all ≡ false
    out_after = sym was.any ∙ ap (list_any (in_range pc)) over

    pub front_after : pc < end → IsFrontOf is_first pc (first_from end all)
    front_after below = front is_first refl (λ same. subst (λ l. pc < first_from end l) (sym over ∙ same) below)

    pub quiet_over : AreEdgesQuiet pc end all
    quiet_over = was.quiet end (subst (AreEdgesQuiet pc end) (sym over) tt)
