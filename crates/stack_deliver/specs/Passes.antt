-- The passes of a delivery over a stack: the search for a frame whose language takes the exception, and then the cleanups on the
-- way to it. Itanium C++ ABI, exception handling, level I, section 1.3.
use Rattle.std.specs.Prelude.{ℕ, zero, suc, ◌==◌, false, List, [], ◌∷◌, Option, Some, None, Result, Ok, Err, slice_index, if◌then◌else◌}
use Rattle.memory_image.specs.Results.{◌>>=◌, result_map}
use Rattle.unwind_arch.specs.declared.x86_64.Context.{Context}
use Rattle.unwind_definitions.specs.Columns.{rsp}
use Rattle.stack_walks.specs.declared.room.Trail.{Trail}
use Rattle.stack_deliver.specs.declared.outcome.Ending.{Ending}
use Rattle.stack_deliver.specs.declared.outcome.Outcome.TheVariants.{Installed, FatalPhase2}
use Rattle.stack_steps.specs.declared.error.DeliverError.{DeliverError}
use Rattle.stack_steps.specs.declared.error.DeliverError.TheVariants.{PassLimit, NoResume}
use Rattle.stack_steps.specs.Modules.{SpaceValue}
use Rattle.stack_deliver.specs.Resumes.{return_of}
use Rattle.stack_steps.specs.Languages.{Languages, pad_of, selector_of}
use Rattle.stack_walks.specs.FrameVisits.{Stop, Line, cleaning, pass_of, mark_at, enters}

-- ---- the passes of a delivery

-- the outcome where the program ends in a cleanup pass, or the stack does
abbrev pub fatal : Ending
fatal = record { outcome = FatalPhase2; landing = None }

abbrev pub ending_at : Context → Ending
ending_at c = record { outcome = Installed; landing = Some c }

-- how a cleanup pass ends: the delivery ends with it, or a landing pad is entered elsewhere than at the kept frame
pub data PassEnd : Type 0 where
  Finishes : Ending → PassEnd
  Cleanup : ℕ → Context → PassEnd

abbrev pub end_at : ℕ → ℕ → Stop → Option ℕ → PassEnd
end_at exception kept stop None = Finishes fatal
end_at exception kept stop (Some pad) =
    if mark_at stop.context stop.interrupted == kept then Finishes (ending_at (enters stop.past exception (selector_of stop.action) pad))
    else Cleanup pad (enters stop.past exception (selector_of stop.action) pad)

abbrev pub end_by : ℕ → ℕ → Option Stop → PassEnd
end_by exception kept None = Finishes fatal
end_by exception kept (Some stop) = end_at exception kept stop (pad_of stop.action)

abbrev pub end_of : ℕ → ℕ → Result Line DeliverError → Result PassEnd DeliverError
end_of exception kept = result_map (λ (line : Line). end_by exception kept line.stop)

-- A cleanup pass from a context toward the kept frame, of at most so many contexts.
abbrev pub cleanup_of : Languages → SpaceValue → ℕ → ℕ → ℕ → Context → Result PassEnd DeliverError
cleanup_of languages space exception kept limit c = end_of exception kept (pass_of (cleaning languages) space limit c false)

-- the cleanup at a pad that is entered
abbrev pub cleanup_at : ℕ → Context → Trail
cleanup_at pad c = record { pad = pad; sp = slice_index c.registers rsp }

-- the context at which the next pass starts: it returns from the cleanup to the address that the resume table has for its pad
abbrev pub resume_at : ℕ → Context → Option ℕ → Result Context DeliverError
resume_at pad c None = Err (NoResume pad)
resume_at pad c (Some ret) = Ok (record c { ra = ret })

-- the cleanups that ran, and how the passes ended
pub record CleanupsRun : Type 0 where
  pub trail : List Trail
  pub ending : Ending

abbrev pub with_cleanup : Trail → Result CleanupsRun DeliverError → Result CleanupsRun DeliverError
with_cleanup t = result_map (λ (passed : CleanupsRun). record passed { trail = t ∷ passed.trail })

abbrev pub cleanup_and_rest : Trail → Result Context DeliverError → (Context → Result CleanupsRun DeliverError) → Result CleanupsRun DeliverError
cleanup_and_rest t context later = context >>= (λ c. with_cleanup t (later c))

abbrev pub after_pass : Result PassEnd DeliverError → (ℕ → Context → Result CleanupsRun DeliverError) → Result CleanupsRun DeliverError
after_pass (Ok (Finishes ending)) later = Ok (record { trail = []; ending = ending })
after_pass (Ok (Cleanup pad c)) later = later pad c
after_pass (Err e) later = Err e

module _ (languages : Languages) (space : SpaceValue) (exception kept : ℕ) (resumes : List (ℕ × ℕ)) (limit : ℕ) where
  -- The passes from a context on toward the kept frame, where the trail has places for so many cleanups.
  abbrev pub passes_of : ℕ → Context → Result CleanupsRun DeliverError
  passes_of zero c = after_pass (cleanup_of languages space exception kept limit c) (λ pad entered. Err PassLimit)
  passes_of (suc places) c = after_pass (cleanup_of languages space exception kept limit c) (λ pad entered. cleanup_and_rest (cleanup_at pad entered) (resume_at pad entered (return_of resumes pad)) (passes_of places))
