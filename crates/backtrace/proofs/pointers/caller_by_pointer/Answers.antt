use Rattle.std.proofs.Common.{◌≡◌, ◌∙◌, List, length, Some, None, sym, ap, subst, arith}
use Rattle.memory_image.specs.Image.{Span}
use Rattle.unwind_arch.specs.declared.x86_64.Context.{Context}
use Rattle.backtrace.specs.FramePointers.{pointed_caller}
use Rattle.backtrace.proofs.FramePointers.{entered_caller}
use Rattle.backtrace.proofs.pointers.caller_by_pointer.Goals as goal

pub returns-in_err-caller-clause-entered : goal.returns-in_err-caller-clause-entered
returns-in_err-caller-clause-entered c = λ t s entered state words called shows.
    let found : c.pointed_caller.result ≡ pointed_caller c.args.space.now.image c.args.callee.now = c.pointed_caller.ensures ∙ ap (λ (image : List Span). pointed_caller image c.args.callee.now) c.image.ensures.image in
    let was : c.pointed_caller.result ≡ None = c.in_err-caller.was in
    entered_caller c.args.space.now.image c.args.callee.now t s entered state words shows c.args.space.now c.args.code.now None c.from_residual.result (λ d some. absurd cc) (sym was ∙ found) c.from_residual.ensures called

pub returns-clause-entered : goal.returns-clause-entered
returns-clause-entered c = λ t s entered state words called shows.
    let found : c.pointed_caller.result ≡ pointed_caller c.args.space.now.image c.args.callee.now = c.pointed_caller.ensures ∙ ap (λ (image : List Span). pointed_caller image c.args.callee.now) c.image.ensures.image in
    let was : c.pointed_caller.result ≡ Some c.in_ok-caller.caller = c.in_ok-caller.was in
    let held = rw was at c.pointed_caller.type_inv in
    let sixteen : length c.in_ok-caller.caller.registers ≡ 16 = omega arith in
    let each : (d : Context) → Some c.in_ok-caller.caller ≡ Some d → length d.registers ≡ 16 = λ d some. (let same : c.in_ok-caller.caller ≡ d = cc in subst (λ (e : Context). length e.registers ≡ 16) same sixteen) in
    entered_caller c.args.space.now.image c.args.callee.now t s entered state words shows c.args.space.now c.args.code.now (Some c.in_ok-caller.caller) c.if_called.result each (sym was ∙ found) c.if_called.ensures called
