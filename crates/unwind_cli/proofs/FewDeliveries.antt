-- A delivery that no limit on states and cleanups ends is the same under each larger limit.
use Rattle.std.proofs.Common.{◌≡◌, ◌≢◌, ◌≤◌, inl, inr, ◌∙◌, ℕ, zero, suc, Bool, true, false, List, Option, Some, None, Result, Ok, Err, refl, ap, arith}
use Rattle.unwind_arch.specs.declared.x86_64.Context.{Context}
use Rattle.format_frames.specs.declared.machine.Stepped.{Stepped}
use Rattle.stack_walks.specs.declared.room.Trail.{Trail}
use Rattle.stack_steps.specs.declared.error.DeliverError.{DeliverError}
use Rattle.stack_steps.specs.declared.error.DeliverError.TheVariants.{FrameLimit, PassLimit}
use Rattle.stack_steps.specs.Languages.{Languages, is_taken}
use Rattle.stack_steps.specs.Modules.{SpaceValue}
use Rattle.stack_walks.specs.FrameVisits.{Ends, Stops, Goes, FrameVisit, Line, Pass, Stop, cleaning, line_for, line_visit, mark_at, pass_of, searching, visit_for, with_context}
use Rattle.stack_walks.specs.Lines.{GivesUnlessNoMemory}
use Rattle.stack_deliver.specs.Passes.{Cleanup, Finishes, CleanupsRun, PassEnd, after_pass, cleanup_and_rest, cleanup_at, cleanup_of, end_of, passes_of, resume_at, with_cleanup}
use Rattle.stack_deliver.specs.Resumes.{return_of}
use Rattle.stack_deliver.specs.StackDelivery.{DeliveryValue, delivery_after, delivery_at, delivery_by, delivery_through, delivery_to}

-- ---- a pass

stays_in_line : (c : Context) (r : Result Line DeliverError) (e : DeliverError) → r ≡ Err e → with_context c r ≡ Err e
stays_in_line c r e is = rw is refl

few_are_met : (p : Option Pass) (space : SpaceValue) (few limit : ℕ) → few ≤ limit → (c : Context) (interrupted : Bool) → (line_for p space few c interrupted ≡ Err FrameLimit → ⊥) → line_for p space few c interrupted ≡ line_for p space limit c interrupted
few_are_met p space zero limit le c interrupted ends = absurd (ends refl)
few_are_met p space (suc few) zero le c interrupted ends = absurd (omega (arith, le))
few_are_met p space (suc few) (suc limit) le c interrupted ends = go (visit_for p space c interrupted) ends (λ next. few_are_met p space few limit (omega (arith, le)) next.context next.signal)
  where
    go : (r : Result FrameVisit DeliverError) → (line_visit c interrupted r (line_for p space few) ≡ Err FrameLimit → ⊥) → ((next : Stepped) → (line_for p space few next.context next.signal ≡ Err FrameLimit → ⊥) → line_for p space few next.context next.signal ≡ line_for p space limit next.context next.signal) →
        line_visit c interrupted r (line_for p space few) ≡ line_visit c interrupted r (line_for p space limit)
    go (Err e) ends later = refl
    go (Ok Ends) ends later = refl
    go (Ok (Stops action past)) ends later = refl
    go (Ok (Goes next)) ends later = ap (with_context c) (later next (λ e. ends (stays_in_line c (line_for p space few next.context next.signal) FrameLimit e)))

-- ---- the passes toward a frame

stays_after_cleanup : (t : Trail) (r : Result CleanupsRun DeliverError) (e : DeliverError) → r ≡ Err e → with_cleanup t r ≡ Err e
stays_after_cleanup t r e is = rw is refl

stays_after_search : (visited : List Context) (r : Result CleanupsRun DeliverError) (e : DeliverError) → r ≡ Err e → delivery_after visited r ≡ Err e
stays_after_search visited r e is = rw is refl

module _ (languages : Languages) (space : SpaceValue) (exception kept : ℕ) (resumes : List (ℕ × ℕ)) (few limit : ℕ) (le : few ≤ limit) where
  abbrev passes : ℕ → ℕ → Context → Result CleanupsRun DeliverError
  passes = passes_of languages space exception kept resumes

  abbrev pass : ℕ → Context → Result PassEnd DeliverError
  pass = cleanup_of languages space exception kept

  abbrev none : ℕ → Context → Result CleanupsRun DeliverError
  none pad entered = Err PassLimit

  abbrev later : ℕ → ℕ → ℕ → Context → Result CleanupsRun DeliverError
  later states places pad entered = cleanup_and_rest (cleanup_at pad entered) (resume_at pad entered (return_of resumes pad)) (passes states places)

  few_in_pass : (c : Context) (rest : ℕ → Context → Result CleanupsRun DeliverError) → (after_pass (pass few c) rest ≡ Err FrameLimit → ⊥) → pass few c ≡ pass limit c
  few_in_pass c rest ends = ap (end_of exception kept) (few_are_met (Some (cleaning languages)) space few limit le c false (λ e. ends (ap (λ r. after_pass (end_of exception kept r) rest) e)))

  -- by what follows a pass
  by_rest : (c : Context) (rest : ℕ → Context → Result CleanupsRun DeliverError) (more : ℕ → Context → Result CleanupsRun DeliverError) → (after_pass (pass few c) rest ≡ Err FrameLimit → ⊥) → after_pass (pass few c) rest ≡ after_pass (pass few c) more → after_pass (pass few c) rest ≡ after_pass (pass limit c) more
  by_rest c rest more ends same = same ∙ ap (λ r. after_pass r more) (few_in_pass c rest ends)

  few_are_run : (places room : ℕ) → places ≤ room → (c : Context) → (passes few places c ≡ Err FrameLimit → ⊥) → (passes few places c ≡ Err PassLimit → ⊥) → passes few places c ≡ passes limit room c
  few_are_run zero zero fits c frames cleanups = by_rest c none none frames refl
  few_are_run zero (suc room) fits c frames cleanups = by_rest c none (later limit room) frames (go (pass few c) cleanups)
    where
      go : (r : Result PassEnd DeliverError) → (after_pass r none ≡ Err PassLimit → ⊥) → after_pass r none ≡ after_pass r (later limit room)
      go (Ok (Finishes ending)) cleanups = refl
      go (Ok (Cleanup pad entered)) cleanups = absurd (cleanups refl)
      go (Err e) cleanups = refl
  few_are_run (suc places) zero fits c frames cleanups = absurd (omega (arith, fits))
  few_are_run (suc places) (suc room) fits c frames cleanups = by_rest c (later few places) (later limit room) frames (go (pass few c) frames cleanups (few_are_run places room (omega (arith, fits))))
    where
      again : (t : Trail) (r : Result Context DeliverError) → (cleanup_and_rest t r (passes few places) ≡ Err FrameLimit → ⊥) → (cleanup_and_rest t r (passes few places) ≡ Err PassLimit → ⊥) → ((d : Context) → (passes few places d ≡ Err FrameLimit → ⊥) → (passes few places d ≡ Err PassLimit → ⊥) → passes few places d ≡ passes limit room d) →
          cleanup_and_rest t r (passes few places) ≡ cleanup_and_rest t r (passes limit room)
      again t (Ok d) frames cleanups same = ap (with_cleanup t) (same d (λ e. frames (stays_after_cleanup t (passes few places d) FrameLimit e)) (λ e. cleanups (stays_after_cleanup t (passes few places d) PassLimit e)))
      again t (Err e) frames cleanups same = refl

      go : (r : Result PassEnd DeliverError) → (after_pass r (later few places) ≡ Err FrameLimit → ⊥) → (after_pass r (later few places) ≡ Err PassLimit → ⊥) → ((d : Context) → (passes few places d ≡ Err FrameLimit → ⊥) → (passes few places d ≡ Err PassLimit → ⊥) → passes few places d ≡ passes limit room d) →
          after_pass r (later few places) ≡ after_pass r (later limit room)
      go (Ok (Finishes ending)) frames cleanups same = refl
      go (Ok (Cleanup pad entered)) frames cleanups same = again (cleanup_at pad entered) (resume_at pad entered (return_of resumes pad)) frames cleanups same
      go (Err e) frames cleanups same = refl

-- ---- a delivery

module _ (languages : Languages) (space : SpaceValue) (c : Context) (exception : ℕ) (resumes : List (ℕ × ℕ)) (few limit : ℕ) where
  abbrev delivery : ℕ → Result DeliveryValue DeliverError
  delivery = delivery_through languages space c exception resumes

  abbrev toward : ℕ → ℕ → Result CleanupsRun DeliverError
  toward states kept = passes_of languages space exception kept resumes states states c

  pub few_are_enough : few ≤ limit → (delivery few ≡ Err FrameLimit → ⊥) → (delivery few ≡ Err PassLimit → ⊥) → delivery few ≡ delivery limit
  unfolding delivery_through
  few_are_enough le frames cleanups =
      searched (pass_of (searching languages) space few c false) frames cleanups ∙ ap (λ (r : Result Line DeliverError). delivery_by r (toward limit)) (few_are_met (Some (searching languages)) space few limit le c false (λ e. frames (ap (λ (r : Result Line DeliverError). delivery_by r (toward few)) e)))
    where
      taken : (visited : List Context) (b : Bool) (kept : ℕ) → (delivery_at visited b (toward few kept) ≡ Err FrameLimit → ⊥) → (delivery_at visited b (toward few kept) ≡ Err PassLimit → ⊥) → delivery_at visited b (toward few kept) ≡ delivery_at visited b (toward limit kept)
      taken visited false kept frames cleanups = refl
      taken visited true kept frames cleanups = ap (delivery_after visited) (few_are_run languages space exception kept resumes few limit le few limit le c (λ e. frames (stays_after_search visited (toward few kept) FrameLimit e)) (λ e. cleanups (stays_after_search visited (toward few kept) PassLimit e)))

      stopped : (visited : List Context) (o : Option Stop) → (delivery_to visited o (toward few) ≡ Err FrameLimit → ⊥) → (delivery_to visited o (toward few) ≡ Err PassLimit → ⊥) → delivery_to visited o (toward few) ≡ delivery_to visited o (toward limit)
      stopped visited None frames cleanups = refl
      stopped visited (Some stop) frames cleanups = taken visited (is_taken stop.action) (mark_at stop.context stop.interrupted) frames cleanups

      searched : (r : Result Line DeliverError) → (delivery_by r (toward few) ≡ Err FrameLimit → ⊥) → (delivery_by r (toward few) ≡ Err PassLimit → ⊥) → delivery_by r (toward few) ≡ delivery_by r (toward limit)
      searched (Ok line) frames cleanups = stopped line.contexts line.stop frames cleanups
      searched (Err e) frames cleanups = refl

  -- and so does what gives it
  pub few_are_given : (result : Result DeliveryValue DeliverError) → few ≤ limit → result ≢ Err FrameLimit → result ≢ Err PassLimit → GivesUnlessNoMemory result (delivery few) → GivesUnlessNoMemory result (delivery limit)
  few_are_given result le frames cleanups (inl memory) = inl memory
  few_are_given result le frames cleanups (inr is) = inr (is ∙ few_are_enough le (λ e. frames (is ∙ e)) (λ e. cleanups (is ∙ e)))
