-- What is asked where no routine is C++'s.
use Rattle.std.proofs.Common.{◌≡◌, ℕ, Bool, false, List, [], Option, Some, None, Result, Ok, Err, refl, ap, ◌∙◌}
use Rattle.memory_image.specs.Image.{Span}
use Rattle.memory_image.specs.Results.{result_map}
use Rattle.unwind_definitions.specs.Caller.{StepFault}
use Rattle.unwind_definitions.specs.Function.{Action, NoAction}
use Rattle.unwind_definitions.specs.LanguageSearch.{LanguagePlace, address_of_call, language_action, personality_address}
use Rattle.unwind_arch.specs.declared.x86_64.Context.{Context}
use Rattle.fde_finders.specs.Finding.{FoundFde}
use Rattle.stack_steps.specs.declared.error.DeliverError.{DeliverError}
use Rattle.stack_steps.specs.declared.asking.FrameAction.{FrameAction}
use Rattle.stack_steps.specs.Asking.{action_asked, action_if_named, named_table}
use Rattle.stack_steps.specs.Elf.{table_if_named}
use Rattle.stack_steps.specs.Languages.{Languages, asked_by_rust, asks_if_named, described_asks, frame_asks, is_cxx, known_routine, routine_of, rust_alone}
use Rattle.stack_steps.specs.Frames.{FrameAt}

none_is_cxx : (l : Languages) → l.cxx_routines ≡ [] → (routine : Option ℕ) → is_cxx l routine ≡ false
none_is_cxx l none None = refl
none_is_cxx l none (Some r) = rw none refl

-- each frame asks what its table says by the rule of Rust
pub asks_without_cxx : (l : Languages) (image : List Span) (c : Context) (interrupted : Bool) (f : FrameAt) → l.cxx_routines ≡ [] → frame_asks l image c interrupted f ≡ result_map asked_by_rust (action_asked image c interrupted f)
asks_without_cxx l image c interrupted f none = go (routine_of image f) (named_table image f)
  where
    go : (routine : Option ℕ) (r : Result (Option (Result LanguagePlace StepFault)) DeliverError) →
        result_map (asks_if_named l image (address_of_call c.ra interrupted) routine) r ≡ result_map asked_by_rust (result_map (action_if_named image (address_of_call c.ra interrupted)) r)
    go routine (Ok None) = refl
    go routine (Ok (Some place)) = rw (none_is_cxx l none routine) refl
    go routine (Err e) = refl

-- so does a description of which it is known what its table asks
pub described_by_rust : (image : List Span) (a : ℕ) (found : FoundFde) (routine : Option ℕ) (x : Action) → personality_address image found.fde ≡ Ok routine → (routine ≡ None → x ≡ NoAction) →
    language_action image found.bases found.fde a ≡ Ok x → described_asks rust_alone image a found ≡ Ok (asked_by_rust x)
described_by_rust image a found routine x named silent asks = ap asked named ∙ go routine silent
  where
    asked : Result (Option ℕ) StepFault → Result FrameAction DeliverError
    asked r = result_map (asks_if_named rust_alone image a (known_routine r)) (table_if_named image found r)

    go : (o : Option ℕ) → (o ≡ None → x ≡ NoAction) → asked (Ok o) ≡ Ok (asked_by_rust x)
    go None silent = rw (silent refl) refl
    go (Some r) silent = rw asks refl
