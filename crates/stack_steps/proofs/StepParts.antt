-- A step as the frame and its caller.
use Rattle.std.proofs.Common.{inl, inr, ◌≡◌, ℕ, Bool, Option, Some, None, Result, Ok, Err, List, refl}
use Rattle.std.specs.Prelude.{◌⊎◌}
use Rattle.std.specs.Result.{result_map_both}
use Rattle.memory_image.specs.Image.{Span}
use Rattle.unwind_definitions.specs.declared.error.Error.{Error as Fault}
use Rattle.unwind_definitions.specs.Row.{RowInstructions, row_at}
use Rattle.unwind_definitions.specs.Caller.{x86_64, caller_of}
use Rattle.unwind_arch.specs.declared.x86_64.Context.{Context}
use Rattle.unwind_arch.specs.ContextViews.{columns_of, context_of}
use Rattle.unwind_definitions.specs.Expressions.{evaluation}
use Rattle.fde_finders.specs.Finding.{FoundFde}
use Rattle.format_frames.specs.declared.machine.Stepped.{Stepped}
use Rattle.stack_steps.specs.declared.error.DeliverError.{DeliverError}
use Rattle.stack_steps.specs.declared.error.DeliverError.TheVariants.{Table}
use Rattle.stack_steps.specs.Modules.{SpaceValue}
use Rattle.memory_image.specs.Results.{◌>>=◌, result_map}
use Rattle.stack_steps.specs.Frames.{FrameAt, DescribedFrame, Described}
use Rattle.stack_steps.specs.Elf.{frame_with, frame_by, caller as described_caller}
use Rattle.stack_steps.specs.Stepping.{frame_of, caller_by, caller_at, step_of}
use Rattle.stack_steps.proofs.ContextLemmas.{IsWhole, context_of-columns}

abbrev pub some_next : Result Stepped DeliverError → Result (Option Stepped) DeliverError
some_next = result_map Some

abbrev pub stepped_by : List Span → Context → Result (Option FrameAt) DeliverError → Result (Option Stepped) DeliverError
stepped_by image c frame = frame >>= caller_at image c

pub step_is : (space : SpaceValue) (c : Context) (interrupted : Bool) → step_of space c interrupted ≡ stepped_by space.image c (frame_of space c interrupted)
unfolding step_of
step_is space c interrupted = refl

-- only at no frame there is no caller
pub none_framed : (image : List Span) (c : Context) (r : Result (Option FrameAt) DeliverError) → stepped_by image c r ≡ Ok None → r ≡ Ok None
none_framed image c (Ok None) e = refl
none_framed image c (Ok (Some f)) e = absurd (never (callers f) e)
  where
    callers : FrameAt → Result Stepped DeliverError
    callers g = caller_by image c g

    never : (r : Result Stepped DeliverError) → some_next r ≡ Ok None → ⊥
    never (Ok n) e = absurd cc
    never (Err x) e = absurd cc
none_framed image c (Err x) e = absurd cc

-- what is found, with its row, is the frame
pub frame_found : (a : ℕ) (o : Option FoundFde) (found : FoundFde) (run : RowInstructions) → Some found ≡ o → row_at found.bases found.fde a ≡ Ok run → frame_by a o ≡ Ok (frame_with found run)
frame_found a o found run is row = rw (← is, row) refl

-- and the other way round
pub found_framed : (a : ℕ) (o : Option FoundFde) (f : DescribedFrame) → frame_by a o ≡ Ok (Some (Described f)) → o ≡ Some f.found
found_framed a None f is = absurd cc
found_framed a (Some found) f is = go (row_at found.bases found.fde a) is
  where
    go : (r : Result RowInstructions Fault) → result_map_both (frame_with found) Table r ≡ Ok (Some (Described f)) → Some found ≡ Some f.found
    go (Ok run) e = cc
    go (Err x) e = absurd cc

-- a caller's columns are those of the context that holds them
pub caller_left : (image : List Span) (c next : Context) (signal : Bool) (f : DescribedFrame) → signal ≡ f.found.fde.cie.letters.signal → IsWhole next → Ok (columns_of next) ≡ caller_of x86_64 (evaluation image) image (columns_of c) f.run →
    Ok (record { context = next; signal = signal }) ≡ described_caller image c f
caller_left image c next signal f same whole is =
    let kept : context_of (columns_of next) ≡ next = context_of-columns next (columns_of next) whole (λ k. refl) in
    rw (← is, kept, same) refl

-- a step is refused for what is found, or for the caller
pub fails_parts : (image : List Span) (c : Context) (r : Result (Option FrameAt) DeliverError) (e : DeliverError) → stepped_by image c r ≡ Err e → (r ≡ Err e) ⊎ ((f : FrameAt) × (r ≡ Ok (Some f)) × (caller_by image c f ≡ Err e))
fails_parts image c (Ok None) e is = absurd cc
fails_parts image c (Ok (Some f)) e is = inr (f, refl, go (caller_by image c f) is)
  where
    go : (r : Result Stepped DeliverError) → some_next r ≡ Err e → r ≡ Err e
    go (Ok n) h = absurd cc
    go (Err x) h = cc
fails_parts image c (Err x) e is = inl cc

-- a step goes on to the caller of a frame
pub goes_parts : (image : List Span) (c : Context) (r : Result (Option FrameAt) DeliverError) (next : Stepped) → stepped_by image c r ≡ Ok (Some next) → (f : FrameAt) × (r ≡ Ok (Some f)) × (caller_by image c f ≡ Ok next)
goes_parts image c (Ok None) next is = absurd cc
goes_parts image c (Ok (Some f)) next is = (f, refl, go (caller_by image c f) is)
  where
    go : (r : Result Stepped DeliverError) → some_next r ≡ Ok (Some next) → r ≡ Ok next
    go (Ok n) h = cc
    go (Err x) h = absurd cc
goes_parts image c (Err x) next is = absurd cc
