use Rattle.std.proofs.Common.{◌≡◌, ◌+◌, ◌≤◌, length}
use Rattle.backtrace.specs.Lines.{contexts_of}
use Rattle.backtrace.proofs.Guesses.{LeadsOn, left_of}
use Rattle.backtrace.proofs.stacks.put_guesses.Given as goal

abbrev pub invariant-walks : goal.invariant-walks
invariant-walks l = record {
  places : l.trace.places ≡ l.shared.limit;
  few : l.count ≤ l.shared.limit + 1;
  leads : LeadsOn l.shared.options.frame_pointers l.shared.space.now l.shared.places.now.code l.shared.limit l.form
      (length (contexts_of l.initial.trace.trace)) l.initial.trace.trace l.initial.report l.count l.trace.trace l.report;
}

abbrev pub decreases-walks : goal.decreases-walks
decreases-walks l = left_of l.shared.options.frame_pointers l.shared.space.now l.shared.places.now.code l.shared.limit l.count l.trace.trace
