-- Modules that share no address, and what an address finds in them: one thing at most.
use Rattle.std.proofs.Common.{◌≡◌, ℕ, ◌<◌, ◌≤◌, leb, ltb, List, [], ◌∷◌, Option, Some, Result, Ok, Err, sym, ap, subst, ◌∙◌, arith, inl, inr}
use Rattle.std.specs.Prelude.{◌⊎◌, IsTrue}
use Rattle.std.specs.List.{Contains, AllPairs}
use Rattle.std.proofs.lemmas.Bool.{leb-true, ltb-true}
use Rattle.unwind_definitions.specs.declared.error.Error.{Error as Fault}
use Rattle.unwind_definitions.specs.declared.error.Error.TheVariants.{NoUnwindInfoForAddress}
use Rattle.unwind_definitions.specs.Entries.{Fde}
use Rattle.unwind_definitions.specs.Row.{row_at}
use Rattle.unwind_definitions.specs.Scan.{scan}
use Rattle.unwind_definitions.specs.Function.{Function}
use Rattle.unwind_definitions.specs.LanguageTable.{input_at}
use Rattle.unwind_definitions.specs.Module.{Module, Process, in_module, AreApart, frame_address, bases_of, CoversNot, IsUncovered}
use Rattle.unwind_laws.specs.Walked.{Finds}
use Rattle.unwind_laws.proofs.Booleans.{both_true, here_or_later, none_in_nil, tail_pairs, head_pairs}
use Rattle.unwind_laws.proofs.Found.{not_found}

pub inside_is : (a : ℕ) (m : Module) → IsTrue (in_module a m) → (m.start ≤ a) × (a < m.end)
inside_is a m h = let both = both_true (leb m.start a) (ltb a m.end) h in (leb-true m.start a both.0, ltb-true a m.end both.1)

not_both : (a : ℕ) (m n : Module) → AreApart m n → IsTrue (in_module a m) → IsTrue (in_module a n) → ⊥
not_both a m n (inl le) p q = let x = inside_is a m p in let y = inside_is a n q in omega (arith, x.1, y.0)
not_both a m n (inr le) p q = let x = inside_is a m p in let y = inside_is a n q in omega (arith, x.0, y.1)

-- an address lies in one module at most
pub one_module : (ms : List Module) → AllPairs AreApart ms → (a : ℕ) (m n : Module) → Contains ms m → Contains ms n → IsTrue (in_module a m) → IsTrue (in_module a n) → m ≡ n
one_module [] apart a m n p q i j = absurd (none_in_nil m p)
one_module (x ∷ xs) apart a m n p q i j = go (here_or_later x xs m p) (here_or_later x xs n q) (λ p' q'. one_module xs (tail_pairs AreApart x xs apart) a m n p' q' i j)
  where
    go : (x ≡ m) ⊎ Contains xs m → (x ≡ n) ⊎ Contains xs n → (Contains xs m → Contains xs n → m ≡ n) → m ≡ n
    go (inl e) (inl f) ih = sym e ∙ f
    go (inl e) (inr q') ih = absurd (not_both a m n (subst (λ y. AreApart y n) e (head_pairs AreApart x xs n apart q')) i j)
    go (inr p') (inl f) ih = absurd (not_both a n m (subst (λ y. AreApart y m) f (head_pairs AreApart x xs m apart p')) j i)
    go (inr p') (inr q') ih = ih p' q'

some_same : {A : Type 0} (a b : A) → ◌≡◌ {A = Option A} (Some a) (Some b) → a ≡ b
some_same a b e = cc

pub ok_is : {A E : Type 0} (a b : A) → ◌≡◌ {A = Result A E} (Ok a) (Ok b) → a ≡ b
ok_is a b e = cc

module _ (p : Process) (apart : AllPairs AreApart p.modules) where
  -- what is found for an address is one description, with one row
  pub record Same (f g : Function) (a : ℕ) (x : Finds p f a) (y : Finds p g a) : Type 0 where
    pub home : x.home ≡ y.home
    pub frame : x.frame ≡ y.frame
    pub fde : x.fde ≡ y.fde
    pub run : x.run ≡ y.run

  pub one_found : (f g : Function) (a : ℕ) (x : Finds p f a) (y : Finds p g a) → Same f g a x y
  one_found f g a x y =
      let home : x.home ≡ y.home = one_module p.modules apart a x.home y.home x.known y.known x.inside y.inside in
      let frame : x.frame ≡ y.frame = some_same x.frame y.frame (sym x.address ∙ ap (λ (m : Module). frame_address p.image m.tables) home ∙ y.address) in
      let fde : x.fde ≡ y.fde = ok_is {E = Fault} x.fde y.fde (sym x.found
      ∙ ap (λ (m : Module). scan (bases_of m x.frame) (input_at p.image x.frame) a) home
      ∙ ap (λ (o : ℕ). scan (bases_of y.home o) (input_at p.image o) a) frame ∙ y.found) in
      let run : x.run ≡ y.run = ok_is {E = Fault} x.run y.run (sym x.has_row
      ∙ ap (λ (m : Module). row_at (bases_of m x.frame) x.fde a) home
      ∙ ap (λ (o : ℕ). row_at (bases_of y.home o) x.fde a) frame
      ∙ ap (λ (d : Fde). row_at (bases_of y.home y.frame) d a) fde ∙ y.has_row) in
      record { home = home; frame = frame; fde = fde; run = run }

  not_err : (x : Fde) → ◌≡◌ {A = Result Fde Fault} (Ok x) (Err NoUnwindInfoForAddress) → ⊥
  not_err x e = absurd cc

  -- an address for which a description is found isn't uncovered
  pub found_is_covered : (f : Function) (a : ℕ) → Finds p f a → IsUncovered p a → ⊥
  found_is_covered f a x uncovered =
      let u : CoversNot p.image x.home a = uncovered x.home x.known x.inside in
      let frame : x.frame ≡ u.frame = some_same x.frame u.frame (sym x.address ∙ u.address) in
      not_err x.fde (sym x.found ∙ ap (λ (o : ℕ). scan (bases_of x.home o) (input_at p.image o) a) frame ∙ not_found p.image x.home a u)
