-- What is answered over a space doesn't depend on which of its modules are prepared.
use Rattle.std.proofs.Common.{◌≡◌, ℕ, zero, suc, Bool, false, List, Option, Some, None, Result, Ok, Err, refl, ap, ◌∙◌}
use Rattle.unwind_arch.specs.declared.x86_64.Context.{Context}
use Rattle.stack_steps.specs.declared.error.DeliverError.{DeliverError}
use Rattle.stack_steps.specs.declared.error.DeliverError.TheVariants.{PassLimit}
use Rattle.format_frames.specs.declared.machine.Stepped.{Stepped}
use Rattle.stack_walks.specs.declared.room.Trail.{Trail}
use Rattle.stack_steps.specs.Languages.{Languages, is_taken}
use Rattle.stack_walks.specs.Lines.{line_after, line_of, with_first}
use Rattle.stack_deliver.specs.StackDelivery.{delivery_at, delivery_by, delivery_to, delivery_through}
use Rattle.stack_steps.specs.Modules.{Added, SpaceValue}
use Rattle.stack_walks.specs.FrameVisits.{Ends, Stops, Goes, Line, Pass, Stop, cleaning, searching, FrameVisit, mark_at, line_for, line_visit, pass_of, visit_for, with_context}
use Rattle.stack_deliver.specs.Passes.{Cleanup, Finishes, CleanupsRun, PassEnd, cleanup_at, cleanup_of, end_of, after_pass, passes_of, resume_at, cleanup_and_rest, with_cleanup}
use Rattle.stack_deliver.specs.Resumes.{return_of}
use Rattle.stack_steps.specs.Stepping.{frame_of, step_of}

module _ (s : SpaceValue) (added : List Added) where
  abbrev other : SpaceValue
  other = record s { added = added }

  pub step_same : (c : Context) (interrupted : Bool) → step_of other c interrupted ≡ step_of s c interrupted
  unfolding step_of frame_of
  step_same c interrupted = refl

  pub line_same : (limit : ℕ) (c : Context) (interrupted : Bool) → line_of other limit c interrupted ≡ line_of s limit c interrupted
  line_same zero c interrupted = refl
  line_same (suc room) c interrupted = ap (λ (r : Result (Option Stepped) DeliverError). line_after c r (line_of other room)) (step_same c interrupted) ∙ go (step_of s c interrupted) (line_same room)
    where
      go : (r : Result (Option Stepped) DeliverError) → ((d : Context) (marked : Bool) → line_of other room d marked ≡ line_of s room d marked) → line_after c r (line_of other room) ≡ line_after c r (line_of s room)
      go (Err e) outer = refl
      go (Ok None) outer = refl
      go (Ok (Some n)) outer = ap (with_first c) (outer n.context n.signal)

  visit_same : (p : Option Pass) (c : Context) (interrupted : Bool) → visit_for p other c interrupted ≡ visit_for p s c interrupted
  unfolding visit_for frame_of
  visit_same p c interrupted = refl

  pass_same : (p : Option Pass) (limit : ℕ) (c : Context) (interrupted : Bool) → line_for p other limit c interrupted ≡ line_for p s limit c interrupted
  pass_same p zero c interrupted = refl
  pass_same p (suc room) c interrupted = ap (λ (r : Result FrameVisit DeliverError). line_visit c interrupted r (line_for p other room)) (visit_same p c interrupted) ∙ go (visit_for p s c interrupted) (pass_same p room)
    where
      go : (r : Result FrameVisit DeliverError) → ((d : Context) (marked : Bool) → line_for p other room d marked ≡ line_for p s room d marked) → line_visit c interrupted r (line_for p other room) ≡ line_visit c interrupted r (line_for p s room)
      go (Err e) outer = refl
      go (Ok Ends) outer = refl
      go (Ok (Stops action past)) outer = refl
      go (Ok (Goes next)) outer = ap (with_context c) (outer next.context next.signal)

  module _ (languages : Languages) (exception kept : ℕ) (resumes : List (ℕ × ℕ)) (limit : ℕ) where
    cleanup_same : (c : Context) → cleanup_of languages other exception kept limit c ≡ cleanup_of languages s exception kept limit c
    cleanup_same c = ap (end_of exception kept) (pass_same (Some (cleaning languages)) limit c false)

    passes_same : (places : ℕ) (c : Context) → passes_of languages other exception kept resumes limit places c ≡ passes_of languages s exception kept resumes limit places c
    passes_same zero c = ap (λ (r : Result PassEnd DeliverError). after_pass r (λ pad entered. Err PassLimit)) (cleanup_same c)
    passes_same (suc places) c = ap (λ (r : Result PassEnd DeliverError). after_pass r (λ pad entered. cleanup_and_rest (cleanup_at pad entered) (resume_at pad entered (return_of resumes pad)) (passes_of languages other exception kept resumes limit places))) (cleanup_same c) ∙ go (cleanup_of languages s exception kept limit c) (passes_same places)
      where
        again : (t : Trail) (r : Result Context DeliverError) → ((d : Context) → passes_of languages other exception kept resumes limit places d ≡ passes_of languages s exception kept resumes limit places d) → cleanup_and_rest t r (passes_of languages other exception kept resumes limit places) ≡ cleanup_and_rest t r (passes_of languages s exception kept resumes limit places)
        again t (Ok c) later = ap (with_cleanup t) (later c)
        again t (Err e) later = refl

        go : (r : Result PassEnd DeliverError) → ((d : Context) → passes_of languages other exception kept resumes limit places d ≡ passes_of languages s exception kept resumes limit places d) → after_pass r (λ pad entered. cleanup_and_rest (cleanup_at pad entered) (resume_at pad entered (return_of resumes pad)) (passes_of languages other exception kept resumes limit places)) ≡ after_pass r (λ pad entered. cleanup_and_rest (cleanup_at pad entered) (resume_at pad entered (return_of resumes pad)) (passes_of languages s exception kept resumes limit places))
        go (Ok (Finishes ending)) later = refl
        go (Ok (Cleanup pad entered)) later = again (cleanup_at pad entered) (resume_at pad entered (return_of resumes pad)) later
        go (Err e) later = refl

  pub delivery_same : (languages : Languages) (c : Context) (exception : ℕ) (resumes : List (ℕ × ℕ)) (limit : ℕ) → delivery_through languages other c exception resumes limit ≡ delivery_through languages s c exception resumes limit
  unfolding delivery_through
  delivery_same languages c exception resumes limit =
      ap (λ (r : Result Line DeliverError). delivery_by r (λ kept. passes_of languages other exception kept resumes limit limit c)) (pass_same (Some (searching languages)) limit c false) ∙ go (pass_of (searching languages) s limit c false)
    where
      stopped : (line : Line) (o : Option Stop) → delivery_to line.contexts o (λ kept. passes_of languages other exception kept resumes limit limit c) ≡ delivery_to line.contexts o (λ kept. passes_of languages s exception kept resumes limit limit c)
      stopped line None = refl
      stopped line (Some stop) = ap (λ (p : Result CleanupsRun DeliverError). delivery_at line.contexts (is_taken stop.action) p) (passes_same languages exception (mark_at stop.context stop.interrupted) resumes limit limit c)

      go : (r : Result Line DeliverError) → delivery_by r (λ kept. passes_of languages other exception kept resumes limit limit c) ≡ delivery_by r (λ kept. passes_of languages s exception kept resumes limit limit c)
      go (Ok line) = stopped line line.stop
      go (Err e) = refl
