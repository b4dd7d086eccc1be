-- The worked sample with a known stack is read as what it holds, and its stack is known.
use Rattle.std.proofs.Common.{◌≡◌, ℕ, List, [], ◌∷◌, ◌++◌, Some, Result, Ok, refl, ap, ◌∙◌, lit<}
use Rattle.std.specs.Int.Count.{ones}
use Rattle.memory_image.specs.Words.{u16_at, u32_at, u64_at}
use Rattle.unwind_laws.specs.Pushing as pushing
use Rattle.unwind_laws.proofs.PushingValid.{one_valid}
use Rattle.perf_data.specs.declared.errors.PerfError.{PerfError}
use Rattle.perf_data.specs.FileHeader.{section, records_place}
use Rattle.perf_data.specs.FileValue.{shared_layout, with_records, records_after, perf_of}
use Rattle.perf_data.specs.Layouts.{share_layout}
use Rattle.perf_data.specs.Mappings.{name_of}
use Rattle.perf_data.specs.Records.{RecordValue, Sampled, Named, first_framed, record_of, first_record, records_of}
use Rattle.perf_data.specs.Sample.{name, name_value}
use Rattle.perf_data.specs.Samples.{after_read, after_callchain, after_raw, after_branch_stack, user_registers, user_stack, after_passed, sample_of}
use Rattle.perf_data.proofs.RecordLemmas.{records_end, records_next}
use Rattle.stack_steps.specs.StopSample.{stopped_at, after_the_push}
use Rattle.stack_steps.proofs.StopSamples.{walks_in_body}
use Rattle.fact_walks.proofs.Described.{stop_starts}
use Rattle.sampled_profile.specs.KnownSamples.{BeginsKnownStack}
use Rattle.sampled_profile.specs.Walks.{sample_space, start_of}
use Rattle.profile.specs.KnownSample.{bytes, layout, sample, sample_value, registers, value}
use Rattle.profile.specs.Sample.{walked}

-- ---- the header and the attribute

header_is_read : perf_of bytes ≡ with_records bytes (shared_layout bytes)
unfolding u64_at perf_of
header_is_read = refl

layout_is_read : shared_layout bytes ≡ Ok layout
unfolding u32_at u64_at share_layout shared_layout
layout_is_read = refl

all_records : List ℕ
all_records = name ++ sample

section_is_read : section bytes records_place ≡ Some (216, all_records)
unfolding u64_at all_records
section_is_read = refl

-- ---- the records

sample_is_read : first_record layout 240 sample ≡ Ok (Sampled sample_value, 96)
unfolding u16_at u32_at u64_at ones after_read after_callchain after_raw after_branch_stack user_registers user_stack after_passed sample_of first_framed record_of first_record
sample_is_read = refl

name_is_read : first_record layout 216 (name ++ sample) ≡ Ok (Named name_value, 24)
unfolding u16_at u32_at name_of first_framed record_of first_record
name_is_read = refl

last_is_read : records_of layout 240 sample ≡ Ok (Sampled sample_value) ∷ []
last_is_read = records_next layout 240 sample (Sampled sample_value) 96 (lit< tt) sample_is_read ∙ ap (λ (later : List (Result RecordValue PerfError)). Ok (Sampled sample_value) ∷ later) (records_end layout 336 [] refl)

all_are_read : records_of layout 216 all_records ≡ Ok (Named name_value) ∷ Ok (Sampled sample_value) ∷ []
unfolding all_records
all_are_read = records_next layout 216 (name ++ sample) (Named name_value) 24 (lit< tt) name_is_read ∙ ap (λ (later : List (Result RecordValue PerfError)). Ok (Named name_value) ∷ later) last_is_read

-- ---- all of it

pub known_sample_is_read : perf_of bytes ≡ Ok value
known_sample_is_read =
    header_is_read ∙ ap (with_records bytes) layout_is_read ∙ ap (records_after layout) section_is_read
    ∙ ap (λ (records : List (Result RecordValue PerfError)). Ok (record { layout = layout; records = records })) all_are_read

-- ---- its stack

start_is_read : start_of (Some registers) ≡ Ok (stopped_at 0x401006)
unfolding u64_at ones
start_is_read = refl

pub known_sample_begins : BeginsKnownStack walked.space walked.limit sample_value pushing.start (pushing.caller ∷ [])
known_sample_begins = record {
  start = stopped_at 0x401006;
  told = start_is_read;
  known = stop_starts (sample_space walked.space (stopped_at 0x401006) pushing.stack) (stopped_at 0x401006) 2 (pushing.function ∷ []) pushing.start after_the_push [] one_valid.chain.0.state walks_in_body;
}
