use Rattle.perf_data.specs.Views.{record_value}
use Rattle.perf_data.specs.Streams.{due_left}
use Rattle.perf_data.proofs.StreamLemmas.{step_ended, step_failed, step_taken}
use Rattle.sampled_profile.proofs.StreamedLemmas.{failed_by, takes_of}
use Rattle.sampled_profile.proofs.streamed.put_next.Goals as goal

pub returns-then-not-branch-clause-ended : goal.returns-then-not-branch-clause-ended
returns-then-not-branch-clause-ended g c = λ none.
    step_ended c.args.reader.now c.advance.new.self (g.I.Source.left c.args.input.now) (g.I.Source.left c.advance.new.input) c.advance.ensures.place c.in_ok-advance.ensures.kept (c.in_ok-advance.ensures.none c.if-not-branch.true)

pub returns-in_err-entry-clause-failed : goal.returns-in_err-entry-clause-failed
returns-in_err-entry-clause-failed g c =
    let filled = c.in_ok-advance.ensures.more c.if-not-branch.false in
    let left = g.I.Source.left c.args.input.now in
    let later = g.I.Source.left c.advance.new.input in
    failed_by c.from_residual-in_err-entry.result c.in_err-entry.field-0.0 (due_left c.args.reader.now left) (due_left c.advance.new.self later) c.from_residual-in_err-entry.ensures.1
    (step_failed c.args.reader.now c.advance.new.self left later c.in_err-entry.field-0.0 c.advance.ensures.place c.in_ok-advance.ensures.kept c.in_err-entry.ensures.value filled.some)

pub returns-clause-taken : goal.returns-clause-taken
returns-clause-taken g c = λ more.
    let r = record_value c.in_ok-entry.entry in
    let left = g.I.Source.left c.args.input.now in
    let later = g.I.Source.left c.advance.new.input in (
      r,
      takes_of r (due_left c.args.reader.now left) (due_left c.pass.new.self later)
          (step_taken c.args.reader.now c.advance.new.self c.pass.new.self left later r c.in_ok-entry.size c.advance.ensures.place c.in_ok-advance.ensures.kept c.in_ok-entry.ensures.value c.in_ok-entry.ensures.within c.pass.ensures.layout c.pass.ensures.offset c.pass.ensures.size c.pass.ensures.held),
      λ earlier. c.in_ok-note_record.ensures.noted earlier,
    )
