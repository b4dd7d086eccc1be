-- What follows a pass toward a kept frame: the end of the delivery, or a cleanup and the passes after it.
use Rattle.std.proofs.Common.{◌≡◌, ℕ, zero, suc, ◌+◌, arith, true, false, Bool, List, [], ◌∷◌, Option, Some, Result, Ok, Err, refl, ap, ◌∙◌}
use Rattle.std.specs.Prelude.{◌==◌}
use Rattle.unwind_definitions.specs.Delivery.{resume_of}
use Rattle.unwind_arch.specs.declared.x86_64.Context.{Context}
use Rattle.stack_steps.specs.declared.error.DeliverError.{DeliverError}
use Rattle.stack_steps.specs.declared.error.DeliverError.TheVariants.{PassLimit}
use Rattle.stack_steps.specs.Languages.{Languages}
use Rattle.stack_steps.specs.Modules.{SpaceValue}
use Rattle.stack_walks.specs.ContextsMet.{contexts_met}
use Rattle.stack_walks.specs.FrameVisits.{Line, cleaning, with_context, pass_of}
use Rattle.stack_deliver.specs.declared.outcome.Ending.{Ending}
use Rattle.stack_deliver.specs.Passes.{Finishes, Cleanup, end_of, cleanup_at, resume_at, CleanupsRun, with_cleanup, cleanup_and_rest, after_pass, passes_of}
use Rattle.stack_deliver.specs.Resumes.{return_of}
use Rattle.stack_deliver.specs.Searches.{met_after, met_after_resume, met_in_passes}

-- the first return address of a pad
pub resume_same : (es : List (ℕ × ℕ)) (pad : ℕ) → resume_of es pad ≡ return_of es pad
resume_same [] pad = refl
resume_same (e ∷ es) pad = go (e.0 == pad) refl (resume_same es pad)
  where
    go : (b : Bool) → (e.0 == pad) ≡ b → resume_of es pad ≡ return_of es pad → resume_of (e ∷ es) pad ≡ return_of (e ∷ es) pad
    go true is later = rw is refl
    go false is later = rw is later

module _ (languages : Languages) (space : SpaceValue) (exception kept : ℕ) (resumes : List (ℕ × ℕ)) (limit : ℕ) where
  abbrev pub passes : ℕ → Context → Result CleanupsRun DeliverError
  passes = passes_of languages space exception kept resumes limit

  -- what follows a pass
  abbrev pub from_pass : ℕ → Result Line DeliverError → Result CleanupsRun DeliverError
  from_pass zero r = after_pass (end_of exception kept r) (λ pad entered. Err PassLimit)
  from_pass (suc n) r = after_pass (end_of exception kept r) (λ pad entered. cleanup_and_rest (cleanup_at pad entered) (resume_at pad entered (return_of resumes pad)) (passes n))

  pub by_pass : (places : ℕ) (c : Context) → passes places c ≡ from_pass places (pass_of (cleaning languages) space limit c false)
  by_pass zero c = refl
  by_pass (suc n) c = refl

  -- a context that a pass goes on from doesn't count
  pub goes_on : (places : ℕ) (c : Context) (r : Result Line DeliverError) → from_pass places (with_context c r) ≡ from_pass places r
  goes_on zero c (Ok line) = refl
  goes_on zero c (Err e) = refl
  goes_on (suc n) c (Ok line) = refl
  goes_on (suc n) c (Err e) = refl

  pub finishes : (places : ℕ) (r : Result Line DeliverError) (ending : Ending) → end_of exception kept r ≡ Ok (Finishes ending) → from_pass places r ≡ Ok (record { trail = []; ending = ending })
  finishes zero r ending e = ap (λ x. after_pass x (λ pad entered. Err PassLimit)) e
  finishes (suc n) r ending e = ap (λ x. after_pass x (λ pad entered. cleanup_and_rest (cleanup_at pad entered) (resume_at pad entered (return_of resumes pad)) (passes n))) e

  pub cleans : (n pad ret : ℕ) (entered : Context) (r : Result Line DeliverError) → end_of exception kept r ≡ Ok (Cleanup pad entered) → return_of resumes pad ≡ Some ret →
      from_pass (suc n) r ≡ with_cleanup (cleanup_at pad entered) (passes n (record entered { ra = ret }))
  cleans n pad ret entered r e found =
      ap (λ x. after_pass x (λ pad entered. cleanup_and_rest (cleanup_at pad entered) (resume_at pad entered (return_of resumes pad)) (passes n))) e
      ∙ ap (λ (o : Option ℕ). cleanup_and_rest (cleanup_at pad entered) (resume_at pad entered o) (passes n)) found

  -- ---- how many contexts are met

  -- by a pass that meets so many, and by those that follow it
  abbrev pub met_from : ℕ → ℕ → Result Line DeliverError → ℕ
  met_from zero met r = met
  met_from (suc n) met r = met + met_after (end_of exception kept r) (λ pad entered. met_after_resume (resume_at pad entered (return_of resumes pad)) (met_in_passes languages space exception kept resumes limit n))

  -- by passes the first of which may have another limit
  abbrev pub met_by : ℕ → ℕ → Context → ℕ
  met_by places room c = met_from places (contexts_met (Some (cleaning languages)) space room c false) (pass_of (cleaning languages) space room c false)

  pub by_count : (places : ℕ) (c : Context) → met_in_passes languages space exception kept resumes limit places c ≡ met_by places limit c
  by_count zero c = refl
  by_count (suc n) c = refl

  -- a context that a pass goes on from is one more
  pub one_more : (places met : ℕ) (c : Context) (r : Result Line DeliverError) → met_from places (suc met) (with_context c r) ≡ suc (met_from places met r)
  one_more zero met c (Ok line) = refl
  one_more zero met c (Err e) = refl
  one_more (suc n) met c (Ok line) = omega arith
  one_more (suc n) met c (Err e) = omega arith

  pub finishes_met : (places met : ℕ) (r : Result Line DeliverError) (ending : Ending) → end_of exception kept r ≡ Ok (Finishes ending) → met_from places met r ≡ met
  finishes_met zero met r ending e = refl
  finishes_met (suc n) met r ending e = rw e (omega arith)

  pub cleans_met : (n met pad ret : ℕ) (entered : Context) (r : Result Line DeliverError) → end_of exception kept r ≡ Ok (Cleanup pad entered) → return_of resumes pad ≡ Some ret →
      met_from (suc n) met r ≡ met + met_in_passes languages space exception kept resumes limit n (record entered { ra = ret })
  cleans_met n met pad ret entered r e found = rw (e, found) refl
