-- One pass of several: what it leaves.
use Rattle.std.proofs.Common.{◌≡◌, ℕ, zero, suc, ◌<◌, List, [], ◌∷◌, ◌++◌, Result, Ok, Err, refl, sym, ap, ◌∙◌, append_assoc, append-nil, arith}
use Rattle.unwind_arch.specs.declared.x86_64.Context.{Context}
use Rattle.stack_walks.specs.declared.room.Trail.{Trail}
use Rattle.stack_deliver.specs.declared.outcome.Ending.{Ending}
use Rattle.stack_steps.specs.declared.error.DeliverError.{DeliverError}
use Rattle.stack_steps.specs.declared.error.DeliverError.TheVariants.{PassLimit}
use Rattle.stack_steps.specs.Languages.{Languages}
use Rattle.stack_steps.specs.Modules.{SpaceValue}
use Rattle.stack_deliver.specs.Resumes.{return_of}
use Rattle.stack_deliver.specs.Passes.{Finishes, Cleanup, cleanup_of, cleanup_at, resume_at, CleanupsRun, with_cleanup, cleanup_and_rest, after_pass, passes_of}
use Rattle.stack_deliver.specs.PassViews.{with_cleanups}

-- ---- one pass of several

cleanup_first : (front : List Trail) (t : Trail) (r : Result CleanupsRun DeliverError) → with_cleanups front (with_cleanup t r) ≡ with_cleanups (front ++ t ∷ []) r
cleanup_first front t (Ok passed) = ap (λ (trail : List Trail). ok (record passed { trail = trail })) (sym (append_assoc front (t ∷ []) passed.trail))
  where
    ok : CleanupsRun → Result CleanupsRun DeliverError
    ok x = Ok x
cleanup_first front t (Err e) = refl

-- no cleanups in front
pub no_front : (r : Result CleanupsRun DeliverError) → with_cleanups [] r ≡ r
no_front (Ok passed) = refl
no_front (Err e) = refl

module _ (languages : Languages) (space : SpaceValue) (exception kept : ℕ) (resumes : List (ℕ × ℕ)) (limit : ℕ) (front : List Trail) (c : Context) (whole : Result CleanupsRun DeliverError) where
  abbrev pub passes : ℕ → Context → Result CleanupsRun DeliverError
  passes = passes_of languages space exception kept resumes limit

  abbrev ok : CleanupsRun → Result CleanupsRun DeliverError
  ok x = Ok x

  abbrev later : ℕ → ℕ → Context → Result CleanupsRun DeliverError
  later n pad entered = cleanup_and_rest (cleanup_at pad entered) (resume_at pad entered (return_of resumes pad)) (passes n)

  abbrev none : ℕ → Context → Result CleanupsRun DeliverError
  none pad entered = Err PassLimit

  pub passes_fault : (places : ℕ) (e : DeliverError) → with_cleanups front (passes places c) ≡ whole → cleanup_of languages space exception kept limit c ≡ Err e → whole ≡ Err e
  passes_fault zero e is fails = sym is ∙ ap (λ r. with_cleanups front (after_pass r none)) fails
  passes_fault (suc n) e is fails = sym is ∙ ap (λ r. with_cleanups front (after_pass r (later n))) fails

  pub passes_finish : (places : ℕ) (ending : Ending) → with_cleanups front (passes places c) ≡ whole → cleanup_of languages space exception kept limit c ≡ Ok (Finishes ending) → whole ≡ Ok (record { trail = front; ending = ending })
  passes_finish zero ending is ends = sym is ∙ ap (λ r. with_cleanups front (after_pass r none)) ends ∙ ap (λ trail. ok (record { trail = trail; ending = ending })) (append-nil front)
  passes_finish (suc n) ending is ends = sym is ∙ ap (λ r. with_cleanups front (after_pass r (later n))) ends ∙ ap (λ trail. ok (record { trail = trail; ending = ending })) (append-nil front)

  -- what the next pass starts from, where there is a place on the trail
  abbrev pub Resumes : ℕ → ℕ → Context → Result Context DeliverError → Type 0
  Resumes places pad entered r = (places ≡ 0 → r ≡ Err PassLimit) × (0 < places → r ≡ resume_at pad entered (return_of resumes pad))

  pub passes_refused : (places pad : ℕ) (entered : Context) (r : Result Context DeliverError) (e : DeliverError) → with_cleanups front (passes places c) ≡ whole → cleanup_of languages space exception kept limit c ≡ Ok (Cleanup pad entered) →
      Resumes places pad entered r → r ≡ Err e → whole ≡ Err e
  passes_refused zero pad entered r e is goes resumed_by fails =
      sym is ∙ ap (λ x. with_cleanups front (after_pass x none)) goes ∙ ap failed (sym (resumed_by.0 refl) ∙ fails)
    where
      failed : Result Context DeliverError → Result CleanupsRun DeliverError
      failed (Err x) = Err x
      failed (Ok d) = Err e
  passes_refused (suc n) pad entered r e is goes resumed_by fails =
      sym is ∙ ap (λ x. with_cleanups front (after_pass x (later n))) goes ∙ ap (λ x. with_cleanups front (cleanup_and_rest (cleanup_at pad entered) x (passes n))) (sym (resumed_by.1 (omega arith)) ∙ fails)

  pub passes_go : (places pad : ℕ) (entered : Context) (r : Result Context DeliverError) (d : Context) → with_cleanups front (passes places c) ≡ whole → cleanup_of languages space exception kept limit c ≡ Ok (Cleanup pad entered) →
      Resumes places pad entered r → r ≡ Ok d → (n : ℕ) × (places ≡ suc n) × (with_cleanups (front ++ cleanup_at pad entered ∷ []) (passes n d) ≡ whole)
  passes_go zero pad entered r d is goes resumed_by fine = let bad : Err PassLimit ≡ Ok d = sym (resumed_by.0 refl) ∙ fine in absurd cc
  passes_go (suc n) pad entered r d is goes resumed_by fine = (
    n,
    refl,
    sym (cleanup_first front (cleanup_at pad entered) (passes n d)) ∙ sym (ap (λ x. with_cleanups front (after_pass x (later n))) goes ∙ ap (λ x. with_cleanups front (cleanup_and_rest (cleanup_at pad entered) x (passes n))) (sym (resumed_by.1 (omega arith)) ∙ fine)) ∙ is,
  )
