use Rattle.std.proofs.Common.{◌≡◌, ℕ, ◌^◌, ◌<◌, true, false, sym, subst, ◌∙◌, Result, Option, Some}
use Rattle.stack_steps.specs.declared.error.DeliverError.{DeliverError}
use Rattle.format_frames.specs.declared.machine.Stepped.{Stepped}
use Rattle.unwind_arch.specs.ContextViews.{columns_of}
use Rattle.stack_steps.specs.Undoing.{Undone, UndoneIn}
use Rattle.stack_steps.specs.Stepping.{step_of}
use Rattle.stack_steps.specs.Interrupting.{Interrupted}
use Rattle.stack_steps.proofs.Counted.{index_is_searched, scan_is_free, ticks_rise}
use Rattle.stack_steps.proofs.FactSteps.{asked_at, facts_undone, signal_left}
use Rattle.stack_steps.proofs.MetCalls.{format_undone, format_stopped}
use Rattle.stack_steps.proofs.StepAnswers.{step_ends, ends_step, step_unmapped, step_read, read_step, step_table, table_step, step_caller, caller_step}
use Rattle.stack_steps.proofs.StepAnswers.{step_section, section_step, step_form, form_step, step_info, info_step, step_limit, limit_step}
use Rattle.stack_steps.proofs.stepping.step.Goals as goal

pub returns-clause-undone : goal.returns-clause-undone
returns-clause-undone g c functions s call calls shows called =
    let at : step_of c.args.space.now c.args.context.now false ≡ c.exact_step.result = sym (rw called at c.exact_step.ensures.exact) in
    let ra : columns_of c.args.context.now 16 ≡ Some s.ra = shows.ra in
    let same : c.args.context.now.ra ≡ s.ra = cc in
    let low : s.ra < 2 ^ 64 = subst (λ (ra : ℕ). ra < 2 ^ 64) same c.exact_step.ensures.word in
    subst (λ (r : Result (Option Stepped) DeliverError). UndoneIn calls.lies.home r (columns_of c.args.context.now) call.caller) at
    (format_undone c.args.space.now c.args.context.now functions s call c.exact_step.ensures.apart c.exact_step.ensures.laid_out calls shows low)

pub returns-clause-stopped : goal.returns-clause-stopped
returns-clause-stopped g c functions s call stop shows marked =
    let at : step_of c.args.space.now c.args.context.now true ≡ c.exact_step.result = sym (rw marked at c.exact_step.ensures.exact) in
    subst (λ (r : Result (Option Stepped) DeliverError). UndoneIn stop.lies.home r (columns_of c.args.context.now) call.caller) at
    (format_stopped c.args.space.now c.args.context.now functions s call c.exact_step.ensures.apart c.exact_step.ensures.laid_out stop shows)

pub returns-clause-known : goal.returns-clause-known
returns-clause-known g c s frame link fits shows =
    let at : step_of c.args.space.now c.args.context.now c.args.interrupted ≡ c.exact_step.result = sym c.exact_step.ensures.exact in
    subst (λ (r : Result (Option Stepped) DeliverError). Undone r (columns_of c.args.context.now) frame.caller) at
    (facts_undone c.args.space.now c.args.context.now c.args.interrupted s frame.caller c.exact_step.ensures.apart c.exact_step.ensures.laid_out link.returns
    (asked_at c.args.interrupted s link.returns link.state.ra) shows frame.facts fits link.said link.stands)

pub returns-clause-signal : goal.returns-clause-signal
returns-clause-signal g c s t frame link shows =
    let at : step_of c.args.space.now c.args.context.now c.args.interrupted ≡ c.exact_step.result = sym c.exact_step.ensures.exact in
    subst (λ (r : Result (Option Stepped) DeliverError). Interrupted r t) at
    (signal_left c.args.space.now c.args.context.now c.args.interrupted s t c.exact_step.ensures.apart c.exact_step.ensures.laid_out link.returns
    (asked_at c.args.interrupted s link.returns link.state.ra) shows frame link.said link.stands)

pub returns-clause-ends : goal.returns-clause-ends
returns-clause-ends g c = (λ e. step_ends c.args.space.now c.args.context.now c.args.interrupted (sym c.exact_step.ensures.exact ∙ e), λ ends. c.exact_step.ensures.exact ∙ ends_step c.args.space.now c.args.context.now c.args.interrupted ends)

pub returns-clause-unmapped : goal.returns-clause-unmapped
returns-clause-unmapped g c a e = step_unmapped c.args.space.now c.args.context.now c.args.interrupted a (sym c.exact_step.ensures.exact ∙ e)

pub returns-clause-table : goal.returns-clause-table
returns-clause-table g c e = (λ is. step_table c.args.space.now c.args.context.now c.args.interrupted e (sym c.exact_step.ensures.exact ∙ is), λ faults. c.exact_step.ensures.exact ∙ table_step c.args.space.now c.args.context.now c.args.interrupted e faults)

pub returns-clause-reads : goal.returns-clause-reads
returns-clause-reads g c a = (λ is. step_read c.args.space.now c.args.context.now c.args.interrupted a (sym c.exact_step.ensures.exact ∙ is), λ at. c.exact_step.ensures.exact ∙ read_step c.args.space.now c.args.context.now c.args.interrupted a at)

pub returns-clause-caller : goal.returns-clause-caller
returns-clause-caller g c next = (λ is. step_caller c.args.space.now c.args.context.now c.args.interrupted next (sym c.exact_step.ensures.exact ∙ is), λ at. c.exact_step.ensures.exact ∙ caller_step c.args.space.now c.args.context.now c.args.interrupted next at)

pub returns-clause-ticks : goal.returns-clause-ticks
returns-clause-ticks g c = ticks_rise c.args.space.now c.args.context.now c.args.interrupted c.args.steps.now.number c.exact_step.new.steps.number c.exact_step.ensures.ticks

pub returns-clause-prepared : goal.returns-clause-prepared
returns-clause-prepared g c some long = index_is_searched c.args.space.now c.args.context.now c.args.interrupted c.args.steps.now.number c.exact_step.new.steps.number c.exact_step.ensures.ticks some long

pub returns-clause-scanned : goal.returns-clause-scanned
returns-clause-scanned g c at = scan_is_free c.args.space.now c.args.context.now c.args.interrupted c.args.steps.now.number c.exact_step.new.steps.number c.exact_step.ensures.ticks at

pub returns-clause-macho : goal.returns-clause-macho
returns-clause-macho g c e = (λ is. step_section c.args.space.now c.args.context.now c.args.interrupted e (sym c.exact_step.ensures.exact ∙ is), λ faults. c.exact_step.ensures.exact ∙ section_step c.args.space.now c.args.context.now c.args.interrupted e faults)

pub returns-clause-compact_form : goal.returns-clause-compact_form
returns-clause-compact_form g c = (λ is. step_form c.args.space.now c.args.context.now c.args.interrupted (sym c.exact_step.ensures.exact ∙ is), λ none. c.exact_step.ensures.exact ∙ form_step c.args.space.now c.args.context.now c.args.interrupted none)

pub returns-clause-pe_info : goal.returns-clause-pe_info
returns-clause-pe_info g c = (λ is. step_info c.args.space.now c.args.context.now c.args.interrupted (sym c.exact_step.ensures.exact ∙ is), λ unread. c.exact_step.ensures.exact ∙ info_step c.args.space.now c.args.context.now c.args.interrupted unread)

pub returns-clause-chain_limit : goal.returns-clause-chain_limit
returns-clause-chain_limit g c = (λ is. step_limit c.args.space.now c.args.context.now c.args.interrupted (sym c.exact_step.ensures.exact ∙ is), λ many. c.exact_step.ensures.exact ∙ limit_step c.args.space.now c.args.context.now c.args.interrupted many)
