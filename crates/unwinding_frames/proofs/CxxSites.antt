-- The search for the call site that decides, for an exception of C++: what it gives with one turn more, by the site that stands first.
use Rattle.std.proofs.Common.{◌≡◌, ℕ, zero, suc, Option, Some, None, Ok, Err, List, length, refl, eqb, true, false}
use Rattle.memory_image.specs.Image.{Span}
use Rattle.unwind_definitions.specs.Input.{Input}
use Rattle.unwind_definitions.specs.Pointers.{Bases}
use Rattle.unwind_definitions.specs.Caller.{StepFault}
use Rattle.unwind_definitions.specs.LanguageSearch.{CallSite, call_site}
use Rattle.unwinding_frames.specs.CxxTables.{site_decision, site_from}

module _ (image : List Span) (bases : Bases) (start a e : ℕ) where
  pub site_end : (turns : ℕ) (c : Input) → eqb (length c.bytes) 0 ≡ true → site_from turns image bases start a e c ≡ Ok None
  site_end zero c none = refl
  site_end (suc turns) c none = rw none refl

  module _ (turns left : ℕ) (c : Input) (more : left ≡ suc turns) (some : eqb (length c.bytes) 0 ≡ false) where
    pub site_fault : (f : StepFault) → call_site image bases e c ≡ Err f → site_from left image bases start a e c ≡ Err f
    site_fault f fails = rw (more, some, fails) refl

    module _ (s : CallSite) (d : Input) (reads : call_site image bases e c ≡ Ok (s, d)) where
      pub decision_fault : (f : StepFault) → site_decision start a s ≡ Err f → site_from left image bases start a e c ≡ Err f
      decision_fault f fails = rw (more, some, reads, fails) refl

      pub decided : (x : Option CallSite) → site_decision start a s ≡ Ok (Some x) → site_from left image bases start a e c ≡ Ok x
      decided x decides = rw (more, some, reads, decides) refl

      pub passed : site_decision start a s ≡ Ok None → site_from left image bases start a e c ≡ site_from turns image bases start a e d
      passed passes = rw (more, some, reads, passes) refl
