use Rattle.std.proofs.Common.{◌≡◌, ◌∙◌, ◌+◌, ◌∷◌, ◌++◌, List, ℕ, length, sym, ap, subst, arith, length-append}
use Rattle.unwind_arch.specs.declared.x86_64.Context.{Context}
use Rattle.core_file.specs.Left.{threads_left}
use Rattle.core_walks.specs.Lines.{thread_text, threads_text}
use Rattle.core_walks.specs.MappedWalks.{AreMapped}
use Rattle.core_walks.proofs.ThreadText.{text_next, thread_text-some}
use Rattle.core_walks.proofs.mapped.mapped_walks_of_threads.Goals as goal

pub loop-thread-preserved : goal.loop-thread-preserved
loop-thread-preserved c =
    let before = c.loop-thread.invariant in
    let put = c.in_ok-put_thread.ensures in
    let space = c.args.space.now in
    let limit = c.args.limit in
    let old = c.loop-thread.report in
    let index = c.loop-thread.index in
    let thread = c.in-Some.thread in
    let text : List ℕ = thread_text space limit index thread in
    let steps : threads_left c.loop-thread.threads ≡ thread ∷ threads_left c.next.new.self = c.in-Some.ensures.steps in
    let long : length c.put_thread.new.report ≡ length old + length text = ap length put.text ∙ length-append old text in
    let some = thread_text-some space limit index thread in
    let fits = before.fits in
    record {
      text = rw put.text (text_next old space limit index thread (threads_left c.next.new.self) ∙ ap (λ (cs : List Context). old ++ threads_text space limit index cs) (sym steps) ∙ before.text);
      mapped = (
        λ later. before.mapped.0 (subst (λ (cs : List Context). AreMapped space limit cs) (sym steps) (sym put.mapped ∙ c.if-not-branch.false, later)),
        λ all. (subst (λ (cs : List Context). AreMapped space limit cs) steps (before.mapped.1 all)).1,
      );
      room = put.places ∙ before.room;
      fits = omega arith;
    }
