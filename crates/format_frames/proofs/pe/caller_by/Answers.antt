use Rattle.std.proofs.Common.{sym, ap, ◌∙◌}
use Rattle.std.proofs.lemmas.Result.{err_from_is_err_and}
use Rattle.memory_image.specs.Image.{word_at}
use Rattle.format_definitions.specs.PeImage.{memory_of}
use Rattle.format_frames.specs.Xmm.{xmm_after}
use Rattle.format_frames.proofs.PeCaller.{caller_is, fault_is}
use Rattle.format_frames.proofs.pe.caller_by.Goals as goal

pub returns-in_err-ra : goal.returns-in_err-ra
returns-in_err-ra c =
    let p = err_from_is_err_and c.from_residual.result c.from_residual.ensures.1 in
    let memory = memory_of c.args.stack.now c.args.base in
    let found = c.args.function in
    rw (p.1, p.2) (fault_is memory (word_at c.args.stack.now) c.args.rva found c.args.context.now _ (ap xmm_after c.new.ensures) _ c.in_err-ra.field-0.0 (rw c.copied.ensures at (c.in_err-ra.ensures.by_memory memory (λ rva given g. sym g.3 ∙ g.2))))

pub returns : goal.returns
returns c =
    let memory = memory_of c.args.stack.now c.args.base in
    let found = c.args.function in
    caller_is memory (word_at c.args.stack.now) c.args.rva found c.args.context.now _ (ap xmm_after c.new.ensures) c.try_unwind_function.new.state.context _ c.in_ok-ra.ra (rw c.copied.ensures at (c.in_ok-ra.ensures.by_memory memory (λ rva given g. sym g.3 ∙ g.2)))
