-- The backtraces of samples: of each thread its number, and its backtrace.
use Rattle.std.specs.Prelude.{◌≡◌, ℕ, ◌+◌, List, [], ◌∷◌, ◌++◌, take, drop}
use Rattle.stack_steps.specs.Modules.{SpaceValue}
use Rattle.folded_stacks.specs.declared.samples.Sample.{Sample}
use Rattle.stack_snapshot.specs.Content.{Content}
use Rattle.stack_snapshot.specs.Sampled.{SampledContent, sampled_space}
use Rattle.backtrace.specs.Code.{PlacesValue}
use Rattle.backtrace.specs.declared.options.Options.{Options}
use Rattle.backtrace.specs.Stacks.{IsStackText}
use Rattle.backtrace.specs.Lines.{thread_line}

module _ (o : Options) (space : SpaceValue) (limit : ℕ) (places : PlacesValue) where
  -- a text is the number and the backtrace of a thread
  abbrev pub IsThread : ℕ → Sample → List ℕ → Type 0
  IsThread index x text =
      (own : List ℕ) × IsStackText o space limit places x.start x.interrupted own × (text ≡ thread_line index ++ own)

  -- a text is those of threads, numbered from an index on, one after another
  abbrev pub AreThreads : ℕ → List Sample → List ℕ → Type 0
  AreThreads index [] text = text ≡ []
  AreThreads index (x ∷ xs) text = (own : List ℕ) × (rest : List ℕ) × IsThread index x own × AreThreads (index + 1) xs rest × (text ≡ own ++ rest)

-- ---- of all samples

-- the snapshot of one of the threads alone, with nothing to be delivered
abbrev pub alone : SampledContent → Sample → Content
alone s x = record { regions = s.regions; modules = s.modules; start = x.start; exception = 0; class = 0; resumes = []; limit = s.limit; interrupted = x.interrupted }

-- a text is the backtraces of samples
abbrev pub IsThreadsOf : Options → SampledContent → PlacesValue → List ℕ → Type 0
IsThreadsOf o s places text = AreThreads o (sampled_space s) s.limit places 0 s.samples text

-- a text has, in the place of a thread, its number and these lines
abbrev pub HasThread : Options → SampledContent → PlacesValue → ℕ → List ℕ → List ℕ → Type 0
HasThread o s places index lines text =
    (before : List ℕ) × (after : List ℕ) × AreThreads o (sampled_space s) s.limit places 0 (take index s.samples) before
    × AreThreads o (sampled_space s) s.limit places (index + 1) (drop (index + 1) s.samples) after × (text ≡ before ++ ((thread_line index ++ lines) ++ after))
