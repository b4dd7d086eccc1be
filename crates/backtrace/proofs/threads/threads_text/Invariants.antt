use Rattle.std.proofs.Common.{List, ℕ, ◌++◌, drop}
use Rattle.backtrace.specs.Threads.{AreThreads}
use Rattle.backtrace.proofs.threads.threads_text.Given as goal

-- what is so far, and any text of the threads that are left, are a text of all
abbrev pub invariant-loop-index : goal.invariant-loop-index
invariant-loop-index l =
    (rest : List ℕ) → AreThreads l.shared.options l.shared.space.now l.shared.limit l.shared.places.now l.index (drop l.index l.fn.snapshot.samples) rest
    → AreThreads l.shared.options l.shared.space.now l.shared.limit l.shared.places.now 0 l.fn.snapshot.samples (l.report ++ rest)
