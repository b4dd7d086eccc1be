-- The list of an exception specification: what it says with one turn more, by the index that stands first.
use Rattle.std.proofs.Common.{◌≡◌, ◌≢◌, ℕ, suc, Bool, ◌<◌, Ok, Err, List, length, refl, subst, eqb, true, false}
use Rattle.std.proofs.lemmas.Bool.{eqb-true}
use Rattle.memory_image.specs.Image.{Span}
use Rattle.unwind_definitions.specs.declared.error.Error.{Error as Fault}
use Rattle.unwind_definitions.specs.Input.{Input, uleb}
use Rattle.unwind_definitions.specs.Pointers.{Bases}
use Rattle.unwinding_frames.specs.declared.cxx.error.CxxError.{CxxError}
use Rattle.unwinding_frames.specs.declared.cxx.error.CxxError.TheVariants.{Table}
use Rattle.unwinding_frames.specs.CxxTables.{Exception, Types, contains, type_at, allows_from}
use Rattle.unwinding_frames.proofs.Taken.{IsBelow, uleb_below}

pub index_takes : (c d : Input) (n : ℕ) → uleb c ≡ Ok (n, d) → length d.bytes < length c.bytes
index_takes c d n reads = subst (λ r. IsBelow r (length c.bytes)) reads (uleb_below c)

pub is_zero : (n : ℕ) → n ≡ 0 → eqb n 0 ≡ true
is_zero n is = rw is refl

pub is_some : (n : ℕ) → n ≢ 0 → eqb n 0 ≡ false
is_some n isnt = go (eqb n 0) refl
  where
    go : (b : Bool) → eqb n 0 ≡ b → eqb n 0 ≡ false
    go true is = absurd (isnt (eqb-true n 0 is))
    go false is = is

module _ (image : List Span) (bases : Bases) (x : Exception) (t : Types) (turns left : ℕ) (c : Input) (more : left ≡ suc turns) where
  pub index_fault : (e : Fault) → uleb c ≡ Err e → allows_from left image bases x t c ≡ Err (Table e)
  index_fault e fails = rw (more, fails) refl

  module _ (n : ℕ) (d : Input) (reads : uleb c ≡ Ok (n, d)) where
    pub ends : eqb n 0 ≡ true → allows_from left image bases x t c ≡ Ok false
    ends is = rw (more, reads, is) refl

    module _ (some : eqb n 0 ≡ false) where
      pub type_fault : (e : CxxError) → type_at image bases t n ≡ Err e → allows_from left image bases x t c ≡ Err e
      type_fault e fails = rw (more, reads, some, fails) refl

      module _ (type : ℕ) (named : type_at image bases t n ≡ Ok type) where
        pub allowed : contains x.types type ≡ true → allows_from left image bases x t c ≡ Ok true
        allowed is = rw (more, reads, some, named, is) refl

        pub passed : contains x.types type ≡ false → allows_from left image bases x t c ≡ allows_from turns image bases x t d
        passed isnt = rw (more, reads, some, named, isnt) refl
