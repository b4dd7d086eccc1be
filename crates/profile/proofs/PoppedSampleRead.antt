-- The worked sample with a popped register is read as what it holds, and what its walk is.
use Rattle.std.proofs.Common.{◌≡◌, ℕ, true, List, [], ◌∷◌, ◌++◌, Some, Result, Ok, refl, ap, ◌∙◌, lit<}
use Rattle.std.specs.Int.Count.{ones}
use Rattle.memory_image.specs.Words.{u16_at, u32_at, u64_at}
use Rattle.perf_data.specs.declared.errors.PerfError.{PerfError}
use Rattle.perf_data.specs.FileHeader.{section, records_place}
use Rattle.perf_data.specs.FileValue.{shared_layout, with_records, records_after, perf_of}
use Rattle.perf_data.specs.Layouts.{share_layout}
use Rattle.perf_data.specs.Mappings.{name_of}
use Rattle.perf_data.specs.Records.{RecordValue, Sampled, Named, first_framed, record_of, first_record, records_of}
use Rattle.perf_data.specs.Sample.{name, name_value}
use Rattle.perf_data.specs.Samples.{after_read, after_callchain, after_raw, after_branch_stack, user_registers, user_stack, after_passed, sample_of}
use Rattle.perf_data.proofs.RecordLemmas.{records_end, records_next}
use Rattle.popped_registers.specs.PoppedRegisters.{are_some, is_popped, kept_space}
use Rattle.popped_registers.specs.PoppedSample as popped
use Rattle.popped_registers.proofs.SampleStack.{in_body_state, sample_known}
use Rattle.popped_registers.proofs.SampleWalks.{sample_ends, sample_popped, sample_states}
use Rattle.stack_walks.specs.declared.walk_end.EndReason.TheVariants as reason
use Rattle.sampled_profile.specs.declared.stack_end.StackEnd.TheVariants.{Outermost}
use Rattle.sampled_profile.specs.Ends.{StackWalk, returns_of}
use Rattle.sampled_profile.specs.KnownSamples.{BeginsKnownFront, BeginsPoppedStack}
use Rattle.sampled_profile.specs.Walks.{end_of, start_of, walk_by, walk_from, walk_of}
use Rattle.sampled_profile.proofs.EndLemmas.{comes_told}
use Rattle.profile.specs.KnownSample.{layout}
use Rattle.profile.specs.PoppedSample.{bytes, sample, sample_value, registers, value, walked}

-- ---- the header and the attribute

header_is_read : perf_of bytes ≡ with_records bytes (shared_layout bytes)
unfolding u64_at perf_of
header_is_read = refl

layout_is_read : shared_layout bytes ≡ Ok layout
unfolding u32_at u64_at share_layout shared_layout
layout_is_read = refl

all_records : List ℕ
all_records = name ++ sample

section_is_read : section bytes records_place ≡ Some (216, all_records)
unfolding u64_at all_records
section_is_read = refl

-- ---- the records

sample_is_read : first_record layout 240 sample ≡ Ok (Sampled sample_value, 104)
unfolding u16_at u32_at u64_at ones after_read after_callchain after_raw after_branch_stack user_registers user_stack after_passed sample_of first_framed record_of first_record
sample_is_read = refl

name_is_read : first_record layout 216 (name ++ sample) ≡ Ok (Named name_value, 24)
unfolding u16_at u32_at name_of first_framed record_of first_record
name_is_read = refl

last_is_read : records_of layout 240 sample ≡ Ok (Sampled sample_value) ∷ []
last_is_read = records_next layout 240 sample (Sampled sample_value) 104 (lit< tt) sample_is_read ∙ ap (λ (later : List (Result RecordValue PerfError)). Ok (Sampled sample_value) ∷ later) (records_end layout 344 [] refl)

all_are_read : records_of layout 216 all_records ≡ Ok (Named name_value) ∷ Ok (Sampled sample_value) ∷ []
unfolding all_records
all_are_read = records_next layout 216 (name ++ sample) (Named name_value) 24 (lit< tt) name_is_read ∙ ap (λ (later : List (Result RecordValue PerfError)). Ok (Named name_value) ∷ later) last_is_read

-- ---- all of it

pub popped_sample_is_read : perf_of bytes ≡ Ok value
popped_sample_is_read =
    header_is_read ∙ ap (with_records bytes) layout_is_read ∙ ap (records_after layout) section_is_read
    ∙ ap (λ (records : List (Result RecordValue PerfError)). Ok (record { layout = layout; records = records })) all_are_read

-- ---- its walk

start_is_read : start_of (Some registers) ≡ Ok popped.start
unfolding u64_at ones
start_is_read = refl

abbrev pub walk : StackWalk
walk = record { returns = 0x40100f ∷ 0x401006 ∷ 0 ∷ []; end = Outermost; popped = true }

walked_so : walk_from popped.space 3 popped.start ≡ walk
walked_so =
    let returns = ap returns_of sample_states in
    let end : end_of (kept_space popped.space 3 popped.start) 3 popped.start true ≡ Outermost = comes_told (kept_space popped.space 3 popped.start) reason.Outermost 3 popped.start true sample_ends in
    let marked : is_popped popped.space 3 popped.start ≡ true = ap are_some sample_popped in
    λ i. record { returns = returns i; end = end i; popped = marked i }

pub sample_is_walked : walk_of walked.space walked.limit sample_value ≡ walk
sample_is_walked = ap (walk_by walked.space walked.limit popped.stack) start_is_read ∙ walked_so

-- ---- its stack

pub popped_sample_begins : BeginsPoppedStack walked.space walked.limit sample_value popped.at_return popped.callers
popped_sample_begins = record { start = popped.start; told = start_is_read; pops = ap are_some sample_popped; known = sample_known }

pub popped_front_begins : BeginsKnownFront walked.space walked.limit sample_value popped.at_return (popped.in_body ∷ [])
popped_front_begins = record {
  start = popped.start;
  told = start_is_read;
  shows = sample_known.shows;
  front = (sample_known.stack.0, in_body_state, tt);
  shorter = lit< tt;
}
