use Rattle.std.proofs.Common.{◌≡◌, ◌+◌, ◌-◌, ◌++◌, ◌∷◌, [], ℕ, suc, length, false, Some, Ok, refl, sym, ap, subst, ◌∙◌, arith, length-append}
use Rattle.std.proofs.lemmas.Result.{err_from_is_err_and}
use Rattle.stack_steps.specs.Languages.{languages_of}
use Rattle.stack_walks.specs.FrameVisits.{cleaning}
use Rattle.memory_image.specs.Results.{result_map}
use Rattle.stack_deliver.specs.Passes.{passes_of, cleanup_at, ending_at, fatal}
use Rattle.stack_walks.specs.ContextsMet.{contexts_met}
use Rattle.stack_deliver.specs.Searches.{met_in_passes}
use Rattle.stack_deliver.specs.PassViews.{with_cleanups}
use Rattle.stack_deliver.proofs.PassLines.{no_front, passes_fault, passes_finish, passes_refused, passes_go}
use Rattle.stack_steps.proofs.Counted.{rises_none, rises_then}
use Rattle.stack_deliver.proofs.SearchCounts.{last_met, next_met}
use Rattle.stack_deliver.proofs.passes.passes.Goals as goal

pub returns-in_err-end-clause-exact : goal.returns-in_err-end-clause-exact
returns-in_err-end-clause-exact g c =
    let p = err_from_is_err_and c.from_residual.result c.from_residual.ensures.1 in
    rw (p.1, p.2) (passes_fault (languages_of c.args.languages.now) c.args.stepper.now c.args.exception c.args.kept c.args.resumes.now c.args.limit c.loop-end.room.trail c.loop-end.state.context _ _ c.in_err-end.field-0.0 c.loop-end.invariant.passes (sym (rw c.loop-end.invariant.same at c.in_err-end.ensures.exact)))

pub returns-in-Fatal-clause-exact : goal.returns-in-Fatal-clause-exact
returns-in-Fatal-clause-exact g c =
    rw c.in_ok-end.ensures.stays (passes_finish (languages_of c.args.languages.now) c.args.stepper.now c.args.exception c.args.kept c.args.resumes.now c.args.limit c.loop-end.room.trail c.loop-end.state.context _ _ fatal c.loop-end.invariant.passes (sym (rw (c.loop-end.invariant.same, c.in-Fatal.is) at c.in_ok-end.ensures.exact)))

pub returns-in-Installed-clause-exact : goal.returns-in-Installed-clause-exact
returns-in-Installed-clause-exact g c =
    rw (c.in_ok-end.ensures.stays, c.installed.ensures) (passes_finish (languages_of c.args.languages.now) c.args.stepper.now c.args.exception c.args.kept c.args.resumes.now c.args.limit c.loop-end.room.trail c.loop-end.state.context _ _ (ending_at c.cleanup.new.state.context) c.loop-end.invariant.passes (sym (rw (c.loop-end.invariant.same, c.in-Installed.is) at c.in_ok-end.ensures.exact)))

pub returns-in_err-resume-in-Cleanup-clause-exact : goal.returns-in_err-resume-in-Cleanup-clause-exact
returns-in_err-resume-in-Cleanup-clause-exact g c =
    let p = err_from_is_err_and c.from_residual-in_err-resume-in-Cleanup.result c.from_residual-in_err-resume-in-Cleanup.ensures.1 in
    let front = c.loop-end.room.trail in
    rw (p.1, p.2) (passes_refused (languages_of c.args.languages.now) c.args.stepper.now c.args.exception c.args.kept c.args.resumes.now c.args.limit front c.loop-end.state.context _ _ c.in-Cleanup.pad c.cleanup.new.state.context (result_map (λ _. c.resume.new.context) c.resume.result) c.in_err-resume-in-Cleanup.field-0.0 c.loop-end.invariant.passes
    (sym (rw (c.loop-end.invariant.same, c.in-Cleanup.is) at c.in_ok-end.ensures.exact)) (λ none. ap (result_map (λ _. c.resume.new.context)) (c.resume.ensures.full (rw c.in_ok-end.ensures.stays (omega (arith, none)))), λ some. c.resume.ensures.resumed (rw c.in_ok-end.ensures.stays (omega (arith, some)))) (ap (result_map (λ _. c.resume.new.context)) c.in_err-resume-in-Cleanup.was))

pub loop-end-init : goal.loop-end-init
loop-end-init g c =
    let all : c.args.limit - 0 ≡ c.args.limit = omega arith in
    rw (c.requires.empty, all) record {
      passes = no_front (passes_of (languages_of c.args.languages.now) c.args.stepper.now c.args.exception c.args.kept c.args.resumes.now c.args.limit c.args.limit c.args.start.now);
      full = omega arith;
      visited = refl;
      places = refl;
      same = refl;
      ticks = (0, rises_none c.args.stepper.now c.args.steps.now.number, omega arith);
    }

pub loop-end-preserved : goal.loop-end-preserved
loop-end-preserved g c =
    let front = c.loop-end.room.trail in
    let ran = cleanup_at c.in-Cleanup.pad c.cleanup.new.state.context in
    let after = (result_map (λ _. c.resume.new.context) c.resume.result) in
    let fine : after ≡ Ok c.resume.new.context = ap (result_map (λ _. c.resume.new.context)) c.in_ok-resume-in-Cleanup.was in
    let goes = (sym (rw (c.loop-end.invariant.same, c.in-Cleanup.is) at c.in_ok-end.ensures.exact)) in
    let r = passes_go (languages_of c.args.languages.now) c.args.stepper.now c.args.exception c.args.kept c.args.resumes.now c.args.limit front c.loop-end.state.context _ _ c.in-Cleanup.pad c.cleanup.new.state.context after c.resume.new.context c.loop-end.invariant.passes
    goes (λ none. ap (result_map (λ _. c.resume.new.context)) (c.resume.ensures.full (rw c.in_ok-end.ensures.stays (omega (arith, none)))), λ some. c.resume.ensures.resumed (rw c.in_ok-end.ensures.stays (omega (arith, some)))) fine in
    let places : c.args.limit - length front ≡ suc r.0 = r.1 in
    let longer : length (front ++ ran ∷ []) ≡ length front + 1 = length-append front (ran ∷ []) in
    let met = c.loop-end.invariant.ticks in
    let one_pass : ℕ = contexts_met (Some (cleaning (languages_of c.args.languages.now))) c.args.stepper.now c.args.limit c.loop-end.state.context false in
    let left : r.0 ≡ c.args.limit - length (front ++ ran ∷ []) = omega arith in
    rw (c.in_ok-resume-in-Cleanup.ensures.trail, c.in_ok-end.ensures.stays) record {
      passes = subst (λ (n : ℕ). with_cleanups (front ++ ran ∷ []) (passes_of (languages_of c.args.languages.now) c.args.stepper.now c.args.exception c.args.kept c.args.resumes.now c.args.limit n c.resume.new.context) ≡ passes_of (languages_of c.args.languages.now) c.args.stepper.now c.args.exception c.args.kept c.args.resumes.now c.args.limit c.args.limit c.args.start.now) left r.2;
      full = omega arith;
      visited = c.loop-end.invariant.visited;
      places = c.loop-end.invariant.places;
      same = c.in_ok-end.ensures.same ∙ c.loop-end.invariant.same;
      ticks = (
        met.0 + one_pass,
        rises_then c.args.stepper.now met.0 one_pass _ _ _ met.1 (rw c.loop-end.invariant.same at c.in_ok-end.ensures.ticks),
        ap (λ (n : ℕ). (met.0 + one_pass) + met_in_passes (languages_of c.args.languages.now) c.args.stepper.now c.args.exception c.args.kept c.args.resumes.now c.args.limit n c.resume.new.context) (sym left)
            ∙ next_met (languages_of c.args.languages.now) c.args.stepper.now c.args.exception c.args.kept c.args.resumes.now c.args.limit _ r.0 c.in-Cleanup.pad met.0 _ c.loop-end.state.context c.cleanup.new.state.context c.resume.new.context after
            goes places (λ some. c.resume.ensures.resumed (rw c.in_ok-end.ensures.stays (omega (arith, some)))) fine met.2,
      );
    }

pub returns-in_err-end-clause-ticks : goal.returns-in_err-end-clause-ticks
returns-in_err-end-clause-ticks g c =
    let met = c.loop-end.invariant.ticks in
    last_met (languages_of c.args.languages.now) c.args.stepper.now c.args.exception c.args.kept c.args.resumes.now c.args.limit _ met.0 _ _ _ _ c.loop-end.state.context met.2 met.1 (rw c.loop-end.invariant.same at c.in_err-end.ensures.ticks)

pub returns-in-Fatal-clause-ticks : goal.returns-in-Fatal-clause-ticks
returns-in-Fatal-clause-ticks g c =
    let met = c.loop-end.invariant.ticks in
    last_met (languages_of c.args.languages.now) c.args.stepper.now c.args.exception c.args.kept c.args.resumes.now c.args.limit _ met.0 _ _ _ _ c.loop-end.state.context met.2 met.1 (rw c.loop-end.invariant.same at c.in_ok-end.ensures.ticks)

pub returns-in-Installed-clause-ticks : goal.returns-in-Installed-clause-ticks
returns-in-Installed-clause-ticks g c =
    let met = c.loop-end.invariant.ticks in
    last_met (languages_of c.args.languages.now) c.args.stepper.now c.args.exception c.args.kept c.args.resumes.now c.args.limit _ met.0 _ _ _ _ c.loop-end.state.context met.2 met.1 (rw c.loop-end.invariant.same at c.in_ok-end.ensures.ticks)

pub returns-in_err-resume-in-Cleanup-clause-ticks : goal.returns-in_err-resume-in-Cleanup-clause-ticks
returns-in_err-resume-in-Cleanup-clause-ticks g c =
    let met = c.loop-end.invariant.ticks in
    last_met (languages_of c.args.languages.now) c.args.stepper.now c.args.exception c.args.kept c.args.resumes.now c.args.limit _ met.0 _ _ _ _ c.loop-end.state.context met.2 met.1 (rw c.loop-end.invariant.same at c.in_ok-end.ensures.ticks)
