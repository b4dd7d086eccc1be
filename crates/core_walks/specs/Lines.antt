-- What is written of a core file: the walk of each thread, or why there is none.
use Rattle.std.specs.Prelude.{ℕ, ◌+◌, true, List, [], ◌∷◌, ◌++◌, Result, Ok, Err, codes, take, drop}
use Rattle.std.specs.Fmt.{decimal}
use Rattle.unwind_definitions.specs.State.{State}
use Rattle.unwind_definitions.specs.Chain.{Call, states_of}
use Rattle.unwind_arch.specs.declared.x86_64.Context.{Context}
use Rattle.core_file.specs.declared.errors.CoreError.{CoreError}
use Rattle.core_file.specs.declared.errors.CoreError.TheVariants.{Header, ManySegments, Segments, Notes}
use Rattle.stack_steps.specs.Modules.{SpaceValue}
use Rattle.stack_steps.specs.declared.error.DeliverError.{DeliverError}
use Rattle.stack_walks.specs.Lines.{line_of}
use Rattle.stack_snapshot.specs.Cores.{CoreContent, core_space_of, threads_of}
use Rattle.stack_report.specs.Report.{line, walk_report_of, walk_text}
use Rattle.stack_report.specs.Refusals.{refused_line}

-- the states of a walk, or why it was refused
abbrev pub walked_text : Result (List Context) DeliverError → List ℕ
walked_text (Ok visited) = walk_report_of visited
walked_text (Err error) = refused_line error

-- a thread's number, and its walk from the instruction at which it was stopped
unfoldable pub thread_text : SpaceValue → ℕ → ℕ → Context → List ℕ
thread_text space limit index thread = line (codes "thread " ++ decimal index) ++ walked_text (line_of space limit thread true)

-- the same of each thread, from a number on
abbrev pub threads_text : SpaceValue → ℕ → ℕ → List Context → List ℕ
threads_text space limit index [] = []
threads_text space limit index (c ∷ cs) = thread_text space limit index c ++ threads_text space limit (index + 1) cs

-- the lines of a thread that was stopped, of its state and those of its callers
abbrev pub stopped_text : ℕ → State → List Call → List ℕ
stopped_text index s calls = line (codes "thread " ++ decimal index) ++ walk_text (states_of s calls)

-- what is written of a core file
unfoldable pub core_report_of : CoreContent → List ℕ
core_report_of c = threads_text (core_space_of c) c.limit 0 (threads_of c.file)

-- what is written of the threads before one, and of those after it
abbrev pub lines_before : SpaceValue → ℕ → List Context → ℕ → List ℕ
lines_before space limit cs index = threads_text space limit 0 (take index cs)

abbrev pub lines_after : SpaceValue → ℕ → List Context → ℕ → List ℕ
lines_after space limit cs index = threads_text space limit (index + 1) (drop (index + 1) cs)

-- the same of those of a core file
abbrev pub text_before : CoreContent → ℕ → List ℕ
text_before c index = lines_before (core_space_of c) c.limit (threads_of c.file) index

abbrev pub text_after : CoreContent → ℕ → List ℕ
text_after c index = lines_after (core_space_of c) c.limit (threads_of c.file) index

-- ---- refusals

abbrev pub cause_name : CoreError → List ℕ
cause_name Header = codes "header"
cause_name ManySegments = codes "many segments"
cause_name Segments = codes "segments"
cause_name Notes = codes "notes"

abbrev pub core_refused_line : CoreError → List ℕ
core_refused_line error = line (codes "refused: core " ++ cause_name error)

abbrev pub region_refused_line : ℕ → List ℕ
region_refused_line index = line (codes "refused: core region " ++ decimal index)
