-- When the parts of a core's memory that are read suffice.
use Rattle.std.proofs.Common.{◌≡◌, ◌∙◌, ◌≤◌, ◌<◌, ◌^◌, inl, inr, ℕ, Bool, true, false, ltb, List, length, take, Option, Some, None, Result, Ok, Err, refl, sym, ap, subst, arith}
use Rattle.std.specs.Prelude.{◌≢◌, ◌⊎◌, ◌↔◌, IfOk, IsOk, IsSome, IsTrue}
use Rattle.std.proofs.lemmas.Bool.{ltb-false, ltb-true}
use Rattle.unwind_arch.specs.declared.x86_64.Context.{Context}
use Rattle.core_file.specs.declared.errors.CoreError.{CoreError}
use Rattle.core_file.specs.declared.errors.CoreError.TheVariants.{Segments}
use Rattle.core_file.specs.CoreValue.{CoreValue, core_of}
use Rattle.core_file.specs.Fronts.{FrontValue, IsFrontOf}
use Rattle.core_file.specs.MappedParts.{PartValue}
use Rattle.stack_steps.specs.Modules.{SpaceValue}
use Rattle.mapped_modules.specs.Loading.{LoadedValue}
use Rattle.core_parts.specs.Parts.{CanBeWalkedByParts}
use Rattle.core_stacks.specs.Due.{modules_in, most_bytes}
use Rattle.core_stacks.specs.PartLines.{AreWalked, AreWalkedBy, HasShortFront, Suffice, SufficeBy}

-- ---- windows

-- over the same space
pub walked_over : {E : Type 0} (names : Bool) (space other : SpaceValue) (threads : List Context) (r : Result (Option (List ℕ)) E) → space ≡ other
    → IfOk r (λ walked. IsSome walked ↔ AreWalked names space threads) → IfOk r (λ walked. IsSome walked ↔ AreWalked names other threads)
walked_over names space other threads r is walked = subst (λ (s : SpaceValue). IfOk r (λ lines. IsSome lines ↔ AreWalked names s threads)) is walked

-- a core that may not be walked by parts
pub never_suffice : (names : Bool) (bytes : List ℕ) (front : FrontValue) (loaded : List LoadedValue) (can : Bool) → (IsTrue can ↔ CanBeWalkedByParts front loaded) → can ≡ false
    → IsSome {T = List ℕ} None ↔ Suffice names bytes front loaded
never_suffice names bytes front loaded can is not = (λ some. absurd cc, λ s. never (is.1 s.can))
  where
    never : IsTrue can → IsSome {T = List ℕ} None
    never may = (let both : true ≡ false = sym may ∙ not in absurd cc)

-- one whose small windows suffice
pub small_suffice : (names : Bool) (bytes : List ℕ) (front : FrontValue) (loaded : List LoadedValue) (text : List ℕ) → CanBeWalkedByParts front loaded → AreWalkedBy names bytes front loaded (2 ^ 15)
    → IsSome (Some text) ↔ Suffice names bytes front loaded
small_suffice names bytes front loaded text can walked = (λ some. record { can = can; walked = inl walked }, λ s. refl)

-- and one whose small windows don't
pub large_suffice : {E : Type 0} (names : Bool) (bytes : List ℕ) (front : FrontValue) (loaded : List LoadedValue) (r : Result (Option (List ℕ)) E) → CanBeWalkedByParts front loaded
    → (IsSome {T = List ℕ} None ↔ AreWalkedBy names bytes front loaded (2 ^ 15)) → IfOk r (λ walked. IsSome walked ↔ AreWalkedBy names bytes front loaded (2 ^ 20)) → IfOk r (λ walked. IsSome walked ↔ Suffice names bytes front loaded)
large_suffice names bytes front loaded (Err e) can small large = tt
large_suffice names bytes front loaded (Ok lines) can small large = (λ some. record { can = can; walked = inr (large.0 some) }, λ s. large.1 (other s.walked))
  where
    other : AreWalkedBy names bytes front loaded (2 ^ 15) ⊎ AreWalkedBy names bytes front loaded (2 ^ 20) → AreWalkedBy names bytes front loaded (2 ^ 20)
    other (inl walked) = (let some : IsSome {T = List ℕ} None = small.1 walked in absurd cc)
    other (inr walked) = walked

-- ---- by what a front says

-- with the modules that it names
pub suffice_by : {E : Type 0} (names : Bool) (files : List ℕ → List ℕ) (bytes : List ℕ) (front : FrontValue) (loaded : List LoadedValue) (named : Option (List PartValue)) (r : Result (Option (List ℕ)) E)
    → loaded ≡ modules_in files named → named ≡ front.parts → IfOk r (λ walked. IsSome walked ↔ Suffice names bytes front loaded) → IfOk r (λ walked. IsSome walked ↔ Suffice names bytes front (modules_in files front.parts))
suffice_by names files bytes front loaded named r are same walked =
    subst (λ (l : List LoadedValue). IfOk r (λ lines. IsSome lines ↔ Suffice names bytes front l)) (are ∙ ap (modules_in files) same) walked

-- a core isn't shorter than its front says
pub as_long : (front bytes : List ℕ) (value : FrontValue) → IsFrontOf front value → take (length front) bytes ≡ front → IsOk (core_of bytes) → value.end ≤ length bytes
as_long front bytes value is begins core = go (ltb (length bytes) value.end) refl
  where
    go : (short : Bool) → ltb (length bytes) value.end ≡ short → value.end ≤ length bytes
    go true less =
        let refused : core_of bytes ≡ Err Segments = is.short bytes begins (ltb-true (length bytes) value.end less) in
        let never : IsOk {T = CoreValue} {E = CoreError} (Err Segments) = subst (λ (r : Result CoreValue CoreError). IsOk r) refused core in
        absurd cc
    go false more = ltb-false (length bytes) value.end more

-- lines that are there where this holds
pub some_walked : {E P : Type 0} (r : Result (Option (List ℕ)) E) → IfOk r (λ walked. IsSome walked ↔ P) → P → IfOk r (λ walked. IsSome walked)
some_walked (Err e) is holds = tt
some_walked (Ok lines) is holds = is.1 holds
