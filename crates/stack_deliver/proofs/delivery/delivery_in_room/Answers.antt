use Rattle.std.proofs.Common.{◌≡◌, true, Some, refl, sym, ap, ◌∙◌}
use Rattle.stack_steps.specs.Languages.{is_taken, languages_of}
use Rattle.stack_walks.specs.VisitViews.{line_shown, stop_shown}
use Rattle.stack_deliver.proofs.SearchCounts.{search_met, passes_met}
use Rattle.stack_deliver.proofs.delivery.delivery_in_room.Goals as goal

pub returns-in_err-searched-clause-ticks : goal.returns-in_err-searched-clause-ticks
returns-in_err-searched-clause-ticks g c = search_met (languages_of c.args.languages.now) c.args.space.now c.args.start c.args.exception c.args.resumes.now c.args.limit _ _ (rw c.over-stepper.ensures at c.unwind_frames_over.ensures.ticks)

pub returns-in_default-clause-ticks : goal.returns-in_default-clause-ticks
returns-in_default-clause-ticks g c = search_met (languages_of c.args.languages.now) c.args.space.now c.args.start c.args.exception c.args.resumes.now c.args.limit _ _ (rw c.over-stepper.ensures at c.unwind_frames_over.ensures.ticks)

pub returns-then-not-is_taken-clause-ticks : goal.returns-then-not-is_taken-clause-ticks
returns-then-not-is_taken-clause-ticks g c = search_met (languages_of c.args.languages.now) c.args.space.now c.args.start c.args.exception c.args.resumes.now c.args.limit _ _ (rw c.over-stepper.ensures at c.unwind_frames_over.ensures.ticks)

pub returns-clause-ticks : goal.returns-clause-ticks
returns-clause-ticks g c =
    let out = rw (c.over-stepper.ensures, c.in-Some.is) at c.in_ok-searched.ensures.exact in
    let taken : is_taken c.in-Some.stop.action ≡ true = ap is_taken (sym c.action.ensures) ∙ sym c.is_taken.ensures ∙ c.if-not-is_taken.false in
    passes_met (languages_of c.args.languages.now) c.args.space.now c.args.start c.args.exception c.args.resumes.now c.args.limit (line_shown out.0 c.unwind_frames_over.new.state (Some c.in-Some.stop)) (stop_shown c.unwind_frames_over.new.state c.in-Some.stop) _ _ _ out.1 refl taken
    (rw c.over-stepper.ensures at c.unwind_frames_over.ensures.ticks) (rw (c.mark_of.ensures, c.in_ok-searched.ensures.same, c.over-stepper.ensures) at c.passes.ensures.ticks)
