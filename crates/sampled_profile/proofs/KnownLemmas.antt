-- What is told of a sample whose stack is known.
use Rattle.std.proofs.Common.{◌≡◌, ◌≤◌, ℕ, true, false, List, [], ◌∷◌, ◌++◌, Result, Ok, refl, sym, ap, subst, ◌∙◌, append_assoc, append-nil, arith}
use Rattle.std.specs.Prelude.{map, slice_index}
use Rattle.std.specs.List.{count_by}
use Rattle.memory_image.specs.Image.{IsLaidOut}
use Rattle.unwind_definitions.specs.Columns as column
use Rattle.unwind_definitions.specs.State.{State}
use Rattle.unwind_arch.specs.declared.x86_64.Context.{Context}
use Rattle.perf_data.specs.declared.errors.PerfError.{PerfError}
use Rattle.perf_data.specs.Records.{RecordValue, Sampled, Mapped, Named, Forked, Exited, OtherKind}
use Rattle.perf_data.specs.Samples.{SampleValue}
use Rattle.stack_steps.specs.Growing.{over_image}
use Rattle.stack_steps.specs.Modules.{SpaceValue, AreApart}
use Rattle.stack_walks.specs.KnownWalks.{end_reason_of_stack}
use Rattle.stack_walks.specs.WalkEnds.{start_state, contexts_to_end}
use Rattle.stack_walks.specs.Walking.{EachShows}
use Rattle.stack_walks.proofs.EndAnswers.{line_whole}
use Rattle.stack_walks.proofs.KnownLines.{known_comes, known_walked}
use Rattle.popped_registers.specs.PoppedRegisters.{are_some, is_popped, kept_over, kept_space}
use Rattle.popped_registers.proofs.KeptLemmas.{kept_laid_out, whole_popped, with_laid_out}
use Rattle.folded_stacks.specs.Counts.{StackCount, HasStack, IsFolded}
use Rattle.folded_stacks.specs.Stacks.{is_same}
use Rattle.folded_stacks.proofs.Counting.{counts_cons, one_if}
use Rattle.folded_stacks.proofs.Orders.{is_same_by}
use Rattle.sampled_profile.specs.Ends.{StackWalk, returns_of}
use Rattle.sampled_profile.specs.KnownSamples.{BeginsKnownStack, BeginsPoppedStack, HasSample, known_text, known_walk, lines_by, popped_text, popped_walk, text_by}
use Rattle.sampled_profile.specs.Frames.{frames_of}
use Rattle.sampled_profile.specs.Names.{name_of, process_name_of}
use Rattle.sampled_profile.specs.Profiles.{Tables, read_all, stacks_of}
use Rattle.sampled_profile.specs.Scripts.{sample_lines, script_text}
use Rattle.sampled_profile.specs.Texts.{stack_text}
use Rattle.sampled_profile.specs.Walks.{end_of, end_told, sample_space, walk_by, walk_from, walk_of, walk_over}
use Rattle.sampled_profile.proofs.EndLemmas.{comes_told}

-- ---- its walk

pub returns_shown : (cs : List Context) (ss : List State) → EachShows cs ss → returns_of cs ≡ map (λ (s : State). s.ra) ss
returns_shown [] [] each = refl
returns_shown (c ∷ cs) (s ∷ ss) each =
    let ra : c.ra ≡ s.ra = let e = each.0.ra in cc in
    let later = returns_shown cs ss each.1 in
    λ i. ra i ∷ later i
returns_shown [] (s ∷ ss) each = absurd each
returns_shown (c ∷ cs) [] each = absurd each

module _ (space : SpaceValue) (limit : ℕ) (apart : AreApart 0 space.modules) (laid : IsLaidOut 0 space.image) (sample : SampleValue) (s : State) (callers : List State) where
  pub walk_known : (is : BeginsKnownStack space limit sample s callers) → walk_of space limit sample ≡ known_walk space limit sample s callers is
  walk_known is =
      let over_copy : SpaceValue = sample_space space is.start sample.stack in
      let laid_there : IsLaidOut 0 over_copy.image = with_laid_out space.image (slice_index is.start.registers column.rsp) sample.stack laid in
      let w = known_walked over_copy apart laid_there is.start limit true s callers is.known in
      let all : contexts_to_end over_copy limit is.start true ≡ w.0 = line_whole over_copy limit (start_state is.start true) w.0 w.1 in
      let kept : walk_from over_copy limit is.start ≡ walk_over over_copy limit is.start false =
      ap (λ ps. walk_over (over_image over_copy (kept_over over_copy.image ps)) limit is.start (are_some ps)) (whole_popped over_copy limit is.start w.0 w.1) in
      let returns : returns_of (contexts_to_end over_copy limit is.start true) ≡ map (λ (state : State). state.ra) (s ∷ callers) = ap returns_of all ∙ returns_shown w.0 (s ∷ callers) w.2.each in
      let why = end_reason_of_stack over_copy true s callers is.known.stack in
      let end : end_of over_copy limit is.start true ≡ end_told why = comes_told over_copy why limit is.start true (known_comes over_copy apart laid_there is.start limit true s callers is.known) in
      ap (walk_by space limit sample.stack) is.told ∙ (kept ∙ (λ i. record { returns = returns i; end = end i; popped = false }))

  -- over the memory that keeps the registers that were popped
  pub walk_popped : (is : BeginsPoppedStack space limit sample s callers) → walk_of space limit sample ≡ popped_walk space limit sample s callers is
  walk_popped is =
      let over_copy : SpaceValue = sample_space space is.start sample.stack in
      let kept : SpaceValue = kept_space over_copy limit is.start in
      let laid_there : IsLaidOut 0 over_copy.image = with_laid_out space.image (slice_index is.start.registers column.rsp) sample.stack laid in
      let laid_kept : IsLaidOut 0 kept.image = kept_laid_out over_copy limit is.start laid_there in
      let w = known_walked kept apart laid_kept is.start limit true s callers is.known in
      let all : contexts_to_end kept limit is.start true ≡ w.0 = line_whole kept limit (start_state is.start true) w.0 w.1 in
      let returns : returns_of (contexts_to_end kept limit is.start true) ≡ map (λ (state : State). state.ra) (s ∷ callers) = ap returns_of all ∙ returns_shown w.0 (s ∷ callers) w.2.each in
      let why = end_reason_of_stack kept true s callers is.known.stack in
      let end : end_of kept limit is.start true ≡ end_told why = comes_told kept why limit is.start true (known_comes kept apart laid_kept is.start limit true s callers is.known) in
      let marked : is_popped over_copy limit is.start ≡ true = is.pops in
      ap (walk_by space limit sample.stack) is.told ∙ (λ i. record { returns = returns i; end = end i; popped = marked i })

-- ---- its place among the samples of a file

-- of a sample whose walk is known
module _ (t : Tables) (earlier : List RecordValue) (sample : SampleValue) (w : StackWalk) (walked : walk_of t.space t.limit sample ≡ w) where
  text_known : text_by t earlier sample (walk_of t.space t.limit sample) ≡ text_by t earlier sample w
  text_known = ap (text_by t earlier sample) walked

  counted : (later : List RecordValue) → 1 ≤ count_by (is_same (text_by t earlier sample w)) (stacks_of t (later ++ Sampled sample ∷ earlier))
  counted [] =
      let q = text_by t earlier sample w in
      let text = text_by t earlier sample (walk_of t.space t.limit sample) in
      let both = counts_cons q text (stacks_of t earlier) in
      let one : one_if (is_same q text) ≡ 1 = rw (is_same_by q text (sym text_known)) refl in
      omega arith
  counted (Sampled k ∷ later) =
      let q = text_by t earlier sample w in
      let rest = later ++ Sampled sample ∷ earlier in
      let both = counts_cons q (stack_text t.origins (process_name_of rest k.thread) (frames_of t.space (walk_of t.space t.limit k))) (stacks_of t rest) in
      let there = counted later in
      omega arith
  counted (Mapped m ∷ later) = counted later
  counted (Named n ∷ later) = counted later
  counted (Forked k ∷ later) = counted later
  counted (Exited k ∷ later) = counted later
  counted (OtherKind k ∷ later) = counted later

  -- its stack has a line
  pub has_line : (records : List RecordValue) (lines : List StackCount) → HasSample records sample earlier → IsFolded (stacks_of t records) lines → HasStack lines (text_by t earlier sample w)
  has_line records lines has folded =
      let q = text_by t earlier sample w in
      let some : 1 ≤ count_by (is_same q) (stacks_of t records) = subst (λ rs. 1 ≤ count_by (is_same q) (stacks_of t rs)) (sym has.1) (counted has.0) in
      (count_by (is_same q) (stacks_of t records), (folded.exact q (count_by (is_same q) (stacks_of t records))).1 (some, refl))

  lines_known : lines_by t earlier sample (walk_of t.space t.limit sample) ≡ lines_by t earlier sample w
  lines_known = ap (lines_by t earlier sample) walked

  abbrev pub placed_in : List RecordValue → Type 0
  placed_in records = (after : List ℕ) × (script_text t records ≡ script_text t earlier ++ lines_by t earlier sample w ++ after)

  placed : (later : List RecordValue) → placed_in (later ++ Sampled sample ∷ earlier)
  placed [] =
      let front = script_text t earlier in
      ([], ap (λ lines. front ++ lines) lines_known ∙ sym (append-nil (front ++ lines_by t earlier sample w)))
  placed (Sampled k ∷ later) =
      let rest = later ++ Sampled sample ∷ earlier in
      let more = sample_lines t.space t.origins (name_of rest k.thread) k (walk_of t.space t.limit k) in
      let there = placed later in
      (there.0 ++ more, ap (λ text. text ++ more) there.1 ∙ append_assoc (script_text t earlier ++ lines_by t earlier sample w) there.0 more)
  placed (Mapped m ∷ later) = placed later
  placed (Named n ∷ later) = placed later
  placed (Forked k ∷ later) = placed later
  placed (Exited k ∷ later) = placed later
  placed (OtherKind k ∷ later) = placed later

  -- its lines follow those of the samples before it
  pub has_place : (records : List RecordValue) → HasSample records sample earlier → placed_in records
  has_place records has = subst placed_in (sym has.1) (placed has.0)

-- ---- in a whole profile

abbrev pub made_read : List RecordValue → Result (List RecordValue) PerfError
made_read x = Ok x

read_same : (x y : List RecordValue) → made_read x ≡ made_read y → x ≡ y
read_same x y e = cc

module _ (t : Tables) (records : List (Result RecordValue PerfError)) (lines : List StackCount) (folded : (read : List RecordValue) × (read_all records ≡ Ok read) × IsFolded (stacks_of t read) lines)
    (read earlier : List RecordValue) (sample : SampleValue) (reads : read_all records ≡ Ok read) (has : HasSample read sample earlier) where
  pub in_profile : (w : StackWalk) → walk_of t.space t.limit sample ≡ w → HasStack lines (text_by t earlier sample w)
  in_profile w walked =
      let same : folded.0 ≡ read = read_same folded.0 read (sym folded.1 ∙ reads) in
      has_line t earlier sample w walked read lines has (subst (λ rs. IsFolded (stacks_of t rs) lines) same folded.2)

  pub profile_known : AreApart 0 t.space.modules → IsLaidOut 0 t.space.image → (s : State) (callers : List State) (is : BeginsKnownStack t.space t.limit sample s callers) → HasStack lines (known_text t earlier sample s callers is)
  profile_known apart laid s callers is = in_profile (known_walk t.space t.limit sample s callers is) (walk_known t.space t.limit apart laid sample s callers is)

  pub profile_popped : AreApart 0 t.space.modules → IsLaidOut 0 t.space.image → (s : State) (callers : List State) (is : BeginsPoppedStack t.space t.limit sample s callers) → HasStack lines (popped_text t earlier sample s callers is)
  profile_popped apart laid s callers is = in_profile (popped_walk t.space t.limit sample s callers is) (walk_popped t.space t.limit apart laid sample s callers is)
