use Rattle.std.proofs.Common.{◌≡◌, ◌∙◌, ◌<◌, ◌^◌, ◌++◌, List, length, sym, ap, subst, arith}
use Rattle.unwind_arch.specs.declared.x86_64.Context.{Context}
use Rattle.core_file.specs.Left.{threads_left}
use Rattle.mapped_names.specs.Places.{NamingValue}
use Rattle.named_walks.specs.Marking.{AreMarkedMapped}
use Rattle.named_walks.specs.Named.{named_thread_text}
use Rattle.named_walks.proofs.Texts.{count_fits, threads_more}
use Rattle.named_walks.proofs.walking.mapped_named_walks_of_threads.Goals as goal

pub loop-thread-preserved : goal.loop-thread-preserved
loop-thread-preserved g c =
    let before = c.loop-thread.invariant in
    let put = c.in_ok-put_thread.ensures in
    let space = c.args.space.now in
    let limit = c.args.limit in
    let parts = c.args.names.now.parts in
    let index = c.loop-thread.index in
    let thread = c.in-Some.thread in
    let old = c.loop-thread.report in
    let new = c.put_thread.new.report in
    let same_files = ap (λ (v : NamingValue _). v.files) before.names in
    let same_parts = ap (λ (v : NamingValue _). v.parts) before.names in
    let long : length new < 2 ^ 64 = omega (arith, ap length c.bytes.ensures) in
    record {
      told = λ all tells.
          let text : new ≡ old ++ named_thread_text all parts space limit index thread = rw same_parts at (put.told all (rw same_files tells)) in
          let next = count_fits all parts space limit index thread old new text (before.fits all tells) long in
          rw (c.saturating_add-index.ensures, next.0) (threads_more all parts space limit index thread (threads_left c.next.new.self) (threads_left c.loop-thread.threads) old new c.in-Some.ensures.steps text ∙ before.told all tells);
      mapped = (
        λ later. before.mapped.0 (subst (λ (cs : List Context). AreMarkedMapped space limit cs) (sym c.in-Some.ensures.steps) (sym put.mapped ∙ c.if-not-branch.false, later)),
        λ all. (subst (λ (cs : List Context). AreMarkedMapped space limit cs) c.in-Some.ensures.steps (before.mapped.1 all)).1,
      );
      names = put.same ∙ before.names;
      room = rw put.places before.room;
      fits = λ all tells.
          let text : new ≡ old ++ named_thread_text all parts space limit index thread = rw same_parts at (put.told all (rw same_files tells)) in
          let next = count_fits all parts space limit index thread old new text (before.fits all tells) long in
          rw (c.saturating_add-index.ensures, next.0) next.1;
    }
