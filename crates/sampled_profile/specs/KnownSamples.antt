-- What is written of a sample whose thread's stack is known: of each of its frames it is known how the caller's state follows, in an ELF
-- module by facts that its tables say, at any address, and through a signal's frame to the state that was interrupted.
use Rattle.std.specs.Prelude.{◌≡◌, ℕ, ◌<◌, Bool, true, false, List, [], ◌∷◌, ◌++◌, length, map, Ok, IsTrue}
use Rattle.unwind_definitions.specs.State.{IsState, Shows, State}
use Rattle.unwind_arch.specs.ContextViews.{columns_of}
use Rattle.unwind_arch.specs.declared.x86_64.Context.{Context}
use Rattle.perf_data.specs.Records.{RecordValue, Sampled}
use Rattle.perf_data.specs.Samples.{SampleValue}
use Rattle.stack_steps.specs.KnownStacks.{IsStackLink, is_by_signal}
use Rattle.stack_steps.specs.Modules.{SpaceValue}
use Rattle.stack_walks.specs.KnownWalks.{StartsKnownStack, end_reason_of_stack}
use Rattle.popped_registers.specs.PoppedRegisters.{is_popped, kept_space}
use Rattle.sampled_profile.specs.declared.stack_end.StackEnd.{StackEnd}
use Rattle.sampled_profile.specs.Ends.{StackWalk}
use Rattle.sampled_profile.specs.Frames.{frames_of}
use Rattle.sampled_profile.specs.Names.{name_of, process_name_of}
use Rattle.sampled_profile.specs.Profiles.{Tables}
use Rattle.sampled_profile.specs.Scripts.{sample_lines}
use Rattle.sampled_profile.specs.Texts.{stack_text}
use Rattle.sampled_profile.specs.Walks.{end_told, sample_space, start_of}

-- Where the thread was interrupted such a stack begins, over the tables and the copy of the thread's own stack.
pub record BeginsKnownStack (space : SpaceValue) (limit : ℕ) (sample : SampleValue) (s : State) (callers : List State) : Type 0 where
  pub start : Context
  pub told : start_of sample.registers ≡ Ok start
  pub known : StartsKnownStack (sample_space space start sample.stack) start limit true s callers

-- its states' return addresses, the innermost first, and the end that its outermost state has; no popped register is kept for them
abbrev pub known_walk : (space : SpaceValue) (limit : ℕ) (sample : SampleValue) (s : State) (callers : List State) → BeginsKnownStack space limit sample s callers → StackWalk
known_walk space limit sample s callers is = record {
  returns = map (λ (state : State). state.ra) (s ∷ callers);
  end = end_told (end_reason_of_stack (sample_space space is.start sample.stack) true s callers is.known.stack);
  popped = false;
}

-- Registers were popped where the thread was interrupted, and over the memory that keeps them such a stack begins there.
pub record BeginsPoppedStack (space : SpaceValue) (limit : ℕ) (sample : SampleValue) (s : State) (callers : List State) : Type 0 where
  pub start : Context
  pub told : start_of sample.registers ≡ Ok start
  pub pops : IsTrue (is_popped (sample_space space start sample.stack) limit start)
  pub known : StartsKnownStack (kept_space (sample_space space start sample.stack) limit start) start limit true s callers

-- the same of that stack, with the mark
abbrev pub popped_walk : (space : SpaceValue) (limit : ℕ) (sample : SampleValue) (s : State) (callers : List State) → BeginsPoppedStack space limit sample s callers → StackWalk
popped_walk space limit sample s callers is = record {
  returns = map (λ (state : State). state.ra) (s ∷ callers);
  end = end_told (end_reason_of_stack (kept_space (sample_space space is.start sample.stack) limit is.start) true s callers is.known.stack);
  popped = true;
}

-- ---- as far as it is known

-- The innermost state of a stack and those of its callers outwards, as far as it is known how each state's caller follows. More may
-- come after the last.
abbrev pub IsKnownFront : SpaceValue → Bool → State → List State → Type 0
IsKnownFront space interrupted s [] = Unit {0}
IsKnownFront space interrupted s (t ∷ callers) = (link : IsStackLink space interrupted s t) × IsState t × IsKnownFront space (is_by_signal space interrupted s t link) t callers

-- Where the thread was interrupted such states begin, over the memory that a sample is walked over.
pub record BeginsKnownFront (space : SpaceValue) (limit : ℕ) (sample : SampleValue) (s : State) (callers : List State) : Type 0 where
  pub start : Context
  pub told : start_of sample.registers ≡ Ok start
  pub shows : Shows (columns_of start) s
  pub front : IsKnownFront (kept_space (sample_space space start sample.stack) limit start) true s callers
  pub shorter : length callers < limit

-- their return addresses, the innermost first, with those that the walk finds after them, and the end that it has
abbrev pub front_walk : (space : SpaceValue) (limit : ℕ) (sample : SampleValue) (s : State) (callers : List State) → BeginsKnownFront space limit sample s callers → List ℕ → StackEnd → StackWalk
front_walk space limit sample s callers is more end = record {
  returns = map (λ (state : State). state.ra) (s ∷ callers) ++ more;
  end = end;
  popped = is_popped (sample_space space is.start sample.stack) limit is.start;
}

-- ---- among the samples of a file

-- one of these records, the latest first, is a sample, and these come before it
abbrev pub HasSample : List RecordValue → SampleValue → List RecordValue → Type 0
HasSample records sample earlier = (later : List RecordValue) × (records ≡ later ++ Sampled sample ∷ earlier)

module _ (t : Tables) (earlier : List RecordValue) (sample : SampleValue) where
  -- the text of a sample's stack by its walk, and the lines of it
  abbrev pub text_by : StackWalk → List ℕ
  text_by w = stack_text t.origins (process_name_of earlier sample.thread) (frames_of t.space w)

  abbrev pub lines_by : StackWalk → List ℕ
  lines_by w = sample_lines t.space t.origins (name_of earlier sample.thread) sample w

  module _ (s : State) (callers : List State) where
    abbrev pub known_text : BeginsKnownStack t.space t.limit sample s callers → List ℕ
    known_text is = text_by (known_walk t.space t.limit sample s callers is)

    abbrev pub known_lines : BeginsKnownStack t.space t.limit sample s callers → List ℕ
    known_lines is = lines_by (known_walk t.space t.limit sample s callers is)

    abbrev pub popped_text : BeginsPoppedStack t.space t.limit sample s callers → List ℕ
    popped_text is = text_by (popped_walk t.space t.limit sample s callers is)

    abbrev pub popped_lines : BeginsPoppedStack t.space t.limit sample s callers → List ℕ
    popped_lines is = lines_by (popped_walk t.space t.limit sample s callers is)

    abbrev pub front_text : BeginsKnownFront t.space t.limit sample s callers → List ℕ → StackEnd → List ℕ
    front_text is more end = text_by (front_walk t.space t.limit sample s callers is more end)

    abbrev pub front_lines : BeginsKnownFront t.space t.limit sample s callers → List ℕ → StackEnd → List ℕ
    front_lines is more end = lines_by (front_walk t.space t.limit sample s callers is more end)
