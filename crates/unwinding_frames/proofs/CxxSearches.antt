-- What a language table asks, by its head and the call site that decides; and that errors are the same in both words.
use Rattle.std.proofs.Common.{◌≡◌, ℕ, Option, Ok, Err, List, length, refl}
use Rattle.memory_image.specs.Image.{Span}
use Rattle.unwind_definitions.specs.Input.{Input}
use Rattle.unwind_definitions.specs.Pointers.{Bases}
use Rattle.unwind_definitions.specs.Caller.{StepFault}
use Rattle.unwind_definitions.specs.LanguageSearch.{CallSite}
use Rattle.unwinding_frames.specs.declared.frame.StepError.{StepError}
use Rattle.unwinding_frames.specs.declared.frame.StepError.TheVariants as code
use Rattle.unwinding_frames.specs.Calling.{fault_of}
use Rattle.unwinding_frames.specs.CxxTables.{Exception, CxxTable, cxx_fault, cxx_table, site_from, cxx_site_action, cxx_search}
use Rattle.unwinding_frames.specs.CxxViews.{cxx_error}

pub same_error : (e : StepError) → cxx_error e ≡ cxx_fault (fault_of e)
same_error (code.Table e) = refl
same_error (code.Unmapped a) = refl

module _ (image : List Span) (bases : Bases) (x : Exception) (start a : ℕ) (c d : Input) (same : c ≡ d) where
  pub table_fault : (e : StepFault) → cxx_table image bases start c ≡ Err e → cxx_search image bases x start a d ≡ Err (cxx_fault e)
  unfolding cxx_search
  table_fault e fails = rw (← same, fails) refl

  pub site_fault : (t : CxxTable) → cxx_table image bases start c ≡ Ok t → (e : StepFault) → site_from (length t.head.sites.bytes) image bases start a t.head.site_encoding t.head.sites ≡ Err e → cxx_search image bases x start a d ≡ Err (cxx_fault e)
  unfolding cxx_search
  site_fault t reads e fails = rw (← same, reads, fails) refl

  pub decided : (t : CxxTable) → cxx_table image bases start c ≡ Ok t → (s : Option CallSite) → site_from (length t.head.sites.bytes) image bases start a t.head.site_encoding t.head.sites ≡ Ok s →
      cxx_search image bases x start a d ≡ cxx_site_action image bases x t s
  unfolding cxx_search
  decided t reads s found = rw (← same, reads, found) refl
