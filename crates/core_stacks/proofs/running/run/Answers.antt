use Rattle.std.proofs.Common.{ℕ, List, sym, subst, ◌∙◌}
use Rattle.command_ends.specs.Verdicts.{IsReadyOrFailed, Tells, Verdict}
use Rattle.core_stacks.specs.Due.{due_of}
use Rattle.core_stacks.proofs.Threads.{known_due, names_due, stopped_due}
use Rattle.core_stacks.proofs.running.run.Goals as goal

pub returns-clause-told : goal.returns-clause-told
returns-clause-told g c = λ all tells.
    let a = c.decide-answer.result in
    let due = due_of all c.args.words.now in
    c.write_answer.ensures.told due (subst (λ (text : List ℕ). IsReadyOrFailed due a.status text) (sym c.bytes.ensures) (c.decide-answer.ensures.told all tells)) (λ quiet. c.bytes.ensures ∙ c.decide-answer.ensures.silent quiet) c.decide-answer.ensures.kind

pub returns-clause-stopped : goal.returns-clause-stopped
returns-clause-stopped g c = λ all tells bytes core index thread functions s call calls asks at starts.
    subst (λ (due : Verdict). Tells due c.write_answer.result (g.O.Sink.holds c.args.output.now) (g.O.Sink.holds c.write_answer.new.output)) (stopped_due all c.args.words.now bytes core index thread functions s call calls asks at starts) (returns-clause-told g c all tells)

pub returns-clause-known : goal.returns-clause-known
returns-clause-known g c = λ all tells bytes core index thread s callers asks at starts.
    subst (λ (due : Verdict). Tells due c.write_answer.result (g.O.Sink.holds c.args.output.now) (g.O.Sink.holds c.write_answer.new.output)) (known_due all c.args.words.now bytes core index thread s callers asks at starts) (returns-clause-told g c all tells)

pub returns-clause-named : goal.returns-clause-named
returns-clause-named g c = λ all tells bytes core asks.
    subst (λ (due : Verdict). Tells due c.write_answer.result (g.O.Sink.holds c.args.output.now) (g.O.Sink.holds c.write_answer.new.output)) (names_due all c.args.words.now bytes core asks) (returns-clause-told g c all tells)
