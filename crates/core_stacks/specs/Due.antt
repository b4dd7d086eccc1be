-- What a run is to answer, and what it is to write.
use Rattle.std.specs.Prelude.{◌≡◌, ℕ, ◌^◌, ◌≤◌, Bool, true, false, List, [], ◌∷◌, ◌++◌, length, Option, Some, None, Result, Ok, Err, bytes_eq, codes, nat_lt, if◌then◌else◌}
use Rattle.core_file.specs.declared.errors.CoreError.{CoreError}
use Rattle.core_file.specs.CoreValue.{CoreValue, core_of}
use Rattle.core_file.specs.MappedParts.{PartValue, mapped_parts}
use Rattle.stack_steps.specs.Modules.{SpaceValue}
use Rattle.stack_report.specs.Report.{line}
use Rattle.core_walks.specs.Lines.{core_refused_line, lines_after, lines_before, threads_text}
use Rattle.command_ends.specs.declared.status.Status.TheVariants.{Done, Usage, TooLong, Refused}
use Rattle.command_ends.specs.Verdicts.{Verdict, verdict}
use Rattle.mapped_modules.specs.Loading.{LoadedValue, loaded_from}
use Rattle.mapped_modules.specs.Spaces.{space_of_core}
use Rattle.mapped_names.specs.Places.{parts_of}
use Rattle.named_walks.specs.Named.{named_threads_text}
use Rattle.core_stacks.specs.Lines.{usage_line}

-- what words ask for: the core of a path, and whether the functions of its frames are named
pub record CoreAsked : Type 0 where
  pub path : List ℕ
  pub names : Bool

abbrev pub asked_alone : List ℕ → Option CoreAsked
asked_alone word = if bytes_eq word (codes "--names") then None else Some (record { path = word; names = false })

abbrev pub asked_with : List ℕ → List ℕ → Option CoreAsked
asked_with option path = if bytes_eq option (codes "--names") then Some (record { path = path; names = true }) else None

-- the core, whose path is the last word, and before it at most `--names`
abbrev pub core_asked : List (List ℕ) → Option CoreAsked
core_asked [] = None
core_asked (word ∷ []) = asked_alone word
core_asked (option ∷ word ∷ []) = asked_with option word
core_asked (option ∷ word ∷ other ∷ more) = None

-- the most states of a walk, and the most bytes of a core
abbrev pub most_states : ℕ
most_states = 1048576

abbrev pub most_bytes : ℕ
most_bytes = 2 ^ 32

-- the modules of the files that a core says were mapped, none where it doesn't say
abbrev pub modules_in : (List ℕ → List ℕ) → Option (List PartValue) → List LoadedValue
modules_in files None = []
modules_in files (Some parts) = loaded_from files parts

-- what the threads of a core are walked over: its memory, and the tables of its files
abbrev pub space_in : (List ℕ → List ℕ) → List ℕ → CoreValue → SpaceValue
space_in files bytes core = space_of_core (modules_in files (mapped_parts bytes)) core.segments

-- the lines of each thread, with the functions of its frames where they are asked for
abbrev pub lines_due : Bool → (List ℕ → List ℕ) → List ℕ → CoreValue → List ℕ
lines_due true files bytes core = named_threads_text files (parts_of (mapped_parts bytes)) (space_in files bytes core) most_states 0 core.threads
lines_due false files bytes core = threads_text (space_in files bytes core) most_states 0 core.threads

-- the walk of each thread, or why the bytes are no core
abbrev pub core_due : Bool → (List ℕ → List ℕ) → List ℕ → Result CoreValue CoreError → Verdict
core_due names files bytes (Ok core) = verdict Done (lines_due names files bytes core)
core_due names files bytes (Err error) = verdict Refused (core_refused_line error)

-- at most 4,294,967,296 bytes are read as a core
abbrev pub bytes_due : Bool → (List ℕ → List ℕ) → List ℕ → Verdict
bytes_due names files bytes = if nat_lt most_bytes (length bytes) then verdict TooLong (line (codes "too long")) else core_due names files bytes (core_of bytes)

abbrev pub asked_due : (List ℕ → List ℕ) → Option CoreAsked → Verdict
asked_due files None = verdict Usage usage_line
asked_due files (Some a) = bytes_due a.names files (files a.path)

-- what is due for the words and for what the files have
abbrev pub due_of : (List ℕ → List ℕ) → List (List ℕ) → Verdict
due_of files words = asked_due files (core_asked words)

-- ---- what is asked for

-- The words name a file, whose bytes, at most 4,294,967,296, are a core that holds this, and ask for names or not.
pub record AsksFor (names : Bool) (files : List ℕ → List ℕ) (words : List (List ℕ)) (bytes : List ℕ) (core : CoreValue) : Type 0 where
  pub path : List ℕ
  pub named : core_asked words ≡ Some (record { path = path; names = names })
  pub has : files path ≡ bytes
  pub short : length bytes ≤ most_bytes
  pub reads : core_of bytes ≡ Ok core

-- they don't ask for names
abbrev pub Asks : (List ℕ → List ℕ) → List (List ℕ) → List ℕ → CoreValue → Type 0
Asks files words bytes core = AsksFor false files words bytes core

-- they do
abbrev pub AsksNames : (List ℕ → List ℕ) → List (List ℕ) → List ℕ → CoreValue → Type 0
AsksNames files words bytes core = AsksFor true files words bytes core

-- the lines of a core's threads, with those of one of them given
abbrev pub lines_with : SpaceValue → CoreValue → ℕ → List ℕ → List ℕ
lines_with space core index lines = lines_before space most_states core.threads index ++ lines ++ lines_after space most_states core.threads index
