-- What is asked for is there, since each walk goes no further for some reason.
use Rattle.std.proofs.Common.{ℕ, ◌+◌, ◌++◌, Bool, true, false, List, [], ◌∷◌, Result, Ok, Err, refl}
use Rattle.stack_steps.specs.Modules.{SpaceValue}
use Rattle.stack_snapshot.specs.Content.{Content, space_of}
use Rattle.folded_stacks.specs.declared.samples.Sample.{Sample}
use Rattle.stack_snapshot.specs.declared.errors.SnapshotError.{SnapshotError}
use Rattle.stack_snapshot.specs.Answers.{content_of, value_of}
use Rattle.stack_snapshot.specs.Sampled.{SampledContent, sampled_in, sampled_space}
use Rattle.backtrace.specs.Code.{PlacesValue, places_by}
use Rattle.backtrace.specs.declared.options.Options.{Options}
use Rattle.backtrace.specs.Lines.{thread_line}
use Rattle.backtrace.specs.Threads.{AreThreads}
use Rattle.backtrace.specs.Due.{IsBacktraceIn, IsBacktraceOf, IsOfSamples, IsOfSnapshot}
use Rattle.backtrace.proofs.StackTexts.{stack_text_there}

backtrace_there : (o : Options) (s : Content) (places : PlacesValue) → (text : List ℕ) × IsBacktraceOf o s places text
backtrace_there o s places = stack_text_there o (space_of s) s.limit places s.start s.interrupted

threads_there : (o : Options) (space : SpaceValue) (limit : ℕ) (places : PlacesValue) (index : ℕ) (xs : List Sample) → (text : List ℕ) × AreThreads o space limit places index xs text
threads_there o space limit places index [] = ([], refl)
threads_there o space limit places index (x ∷ xs) =
    let stack = stack_text_there o space limit places x.start x.interrupted in
    let own = thread_line index ++ stack.0 in
    let rest = threads_there o space limit places (index + 1) xs in
    (own ++ rest.0, (own, rest.0, (stack.0, stack.1, refl), rest.1, refl))

of_snapshot : (o : Options) (r : Result Content SnapshotError) (places : PlacesValue) → (text : List ℕ) × IsOfSnapshot o r places text
of_snapshot o (Err e) places = ([], tt)
of_snapshot o (Ok s) places = backtrace_there o s places

of_samples : (o : Options) (r : Result SampledContent SnapshotError) (places : PlacesValue) → (text : List ℕ) × IsOfSamples o r places text
of_samples o (Err e) places = ([], tt)
of_samples o (Ok s) places = threads_there o (sampled_space s) s.limit places 0 s.samples

pub read_there : (several : Bool) (o : Options) (bytes : List ℕ) → (text : List ℕ) × IsBacktraceIn several o bytes text
read_there false o bytes = of_snapshot o (content_of bytes) (places_by (value_of bytes))
read_there true o bytes = of_samples o (sampled_in bytes) (places_by (value_of bytes))
