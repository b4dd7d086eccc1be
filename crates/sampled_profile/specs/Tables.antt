-- Stacks by their functions with their counts, as a map keeps them. No public clause cites this.
use Rattle.std.specs.Prelude.{◌≡◌, ℕ, ◌+◌, ◌≤◌, cond, List, [], ◌∷◌, length, slice_range, Option, Some, None, if◌then◌else◌}
use Rattle.std.specs.List.{count_by, sum_by}
use Rattle.folded_stacks.specs.Counts.{StackCount}
use Rattle.folded_stacks.specs.Stacks.{is_same}
use Rattle.stack_snapshot.specs.Origins.{OriginValue}
use Rattle.sampled_profile.specs.declared.frame_texts.KeptText.{KeptText}
use Rattle.sampled_profile.specs.declared.stack_table.SampledStack.{SampledStack}
use Rattle.sampled_profile.specs.CountViews.{counted_times}
use Rattle.sampled_profile.specs.Ends.{StackFrames}
use Rattle.sampled_profile.specs.Texts.{frame_text, stack_text}

-- what is said of a stack
abbrev pub shown_name : SampledStack → Option (List ℕ)
shown_name stack = if stack.named then Some stack.name.items else None

abbrev pub shown_frames : SampledStack → StackFrames
shown_frames stack = record { places = stack.places.items; end = stack.end; popped = stack.popped }

-- its text
abbrev pub shown_text : List OriginValue → SampledStack → List ℕ
shown_text origins stack = stack_text origins (shown_name stack) (shown_frames stack)

-- how many samples there are, and how many that show a text
abbrev pub total_of : List (SampledStack × ℕ) → ℕ
total_of entries = sum_by (λ e. e.1) entries

abbrev pub weight_in : List OriginValue → List ℕ → SampledStack × ℕ → ℕ
weight_in origins text e = cond (is_same text (shown_text origins e.0)) e.1 0

abbrev pub shown_by : List OriginValue → List ℕ → List (SampledStack × ℕ) → ℕ
shown_by origins text entries = sum_by (weight_in origins text) entries

-- a sample more that shows a stack, by whatever files its frames are named
pub record CountsOneMore (stack : SampledStack) (old new : List (SampledStack × ℕ)) : Type 0 where
  pub total : total_of new ≡ total_of old + 1
  pub shown : (origins : List OriginValue) (text : List ℕ) → shown_by origins text new ≡ shown_by origins text old + weight_in origins text (stack, 1)

-- as many samples show each text as in a list of the samples' texts
abbrev pub ShowsStacks : List OriginValue → List (SampledStack × ℕ) → List (List ℕ) → Type 0
ShowsStacks origins entries stacks = (text : List ℕ) → shown_by origins text entries ≡ count_by (is_same text) stacks

-- the lines after the samples of these stacks
abbrev pub all_counted : List OriginValue → List (SampledStack × ℕ) → List StackCount → List StackCount
all_counted origins [] lines = lines
all_counted origins (e ∷ entries) lines = all_counted origins entries (counted_times e.1 (shown_text origins e.0) lines)

-- ---- texts that are kept

-- the text of a frame at this place stands there among the bytes of all of them
pub record IsKept (origins : List OriginValue) (texts : List ℕ) (kept : KeptText) : Type 0 where
  pub ordered : kept.start ≤ kept.end
  pub within : kept.end ≤ length texts
  pub text : slice_range texts kept.start kept.end ≡ frame_text origins kept.address
