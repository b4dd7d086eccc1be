-- The worked example is read as what it holds.
use Rattle.std.proofs.Common.{◌≡◌, ℕ, List, [], ◌∷◌, ◌++◌, Some, Result, Ok, refl, ap, ◌∙◌, lit<}
use Rattle.std.specs.Int.Count.{ones}
use Rattle.memory_image.specs.Words.{u16_at, u32_at, u64_at}
use Rattle.perf_data.specs.declared.errors.PerfError.{PerfError}
use Rattle.perf_data.specs.FileHeader.{section, records_place}
use Rattle.perf_data.specs.Layouts.{share_layout}
use Rattle.perf_data.specs.Samples.{after_read, after_callchain, after_raw, after_branch_stack, user_registers, user_stack, after_passed, sample_of}
use Rattle.perf_data.specs.Registers.{context_of}
use Rattle.perf_data.specs.Mappings.{mapping_of, name_of}
use Rattle.perf_data.specs.Records.{RecordValue, Sampled, Mapped, Named, OtherKind, first_framed, record_of, first_record, records_of}
use Rattle.perf_data.specs.FileValue.{shared_layout, with_records, records_after, perf_of}
use Rattle.perf_data.specs.Sample.{mapping, name, round_end, sample, one_sample, layout, mapping_value, name_value, sample_value, one_sample_value, registers, context}
use Rattle.perf_data.proofs.RecordLemmas.{records_end, records_next}

-- ---- the header and the attribute

header_is_read : perf_of one_sample ≡ with_records one_sample (shared_layout one_sample)
unfolding u64_at perf_of
header_is_read = refl

layout_is_read : shared_layout one_sample ≡ Ok layout
unfolding u32_at u64_at share_layout shared_layout
layout_is_read = refl

all_records : List ℕ
all_records = mapping ++ name ++ round_end ++ sample

section_is_read : section one_sample records_place ≡ Some (216, all_records)
unfolding u64_at all_records
section_is_read = refl

-- ---- the records

sample_is_read : first_record layout 344 sample ≡ Ok (Sampled sample_value, 96)
unfolding u16_at u32_at u64_at ones after_read after_callchain after_raw after_branch_stack user_registers user_stack after_passed sample_of first_framed record_of first_record
sample_is_read = refl

round_end_is_read : first_record layout 320 (round_end ++ sample) ≡ Ok (OtherKind 68, 24)
unfolding u16_at u32_at first_framed record_of first_record
round_end_is_read = refl

name_is_read : first_record layout 296 (name ++ round_end ++ sample) ≡ Ok (Named name_value, 24)
unfolding u16_at u32_at name_of first_framed record_of first_record
name_is_read = refl

mapping_is_read : first_record layout 216 (mapping ++ name ++ round_end ++ sample) ≡ Ok (Mapped mapping_value, 80)
unfolding u16_at u32_at u64_at mapping_of first_framed record_of first_record
mapping_is_read = refl

last_is_read : records_of layout 344 sample ≡ Ok (Sampled sample_value) ∷ []
last_is_read = records_next layout 344 sample (Sampled sample_value) 96 (lit< tt) sample_is_read ∙ ap (λ (later : List (Result RecordValue PerfError)). Ok (Sampled sample_value) ∷ later) (records_end layout 440 [] refl)

third_is_read : records_of layout 320 (round_end ++ sample) ≡ Ok (OtherKind 68) ∷ Ok (Sampled sample_value) ∷ []
third_is_read = records_next layout 320 (round_end ++ sample) (OtherKind 68) 24 (lit< tt) round_end_is_read ∙ ap (λ (later : List (Result RecordValue PerfError)). Ok (OtherKind 68) ∷ later) last_is_read

second_is_read : records_of layout 296 (name ++ round_end ++ sample) ≡ Ok (Named name_value) ∷ Ok (OtherKind 68) ∷ Ok (Sampled sample_value) ∷ []
second_is_read = records_next layout 296 (name ++ round_end ++ sample) (Named name_value) 24 (lit< tt) name_is_read ∙ ap (λ (later : List (Result RecordValue PerfError)). Ok (Named name_value) ∷ later) third_is_read

all_are_read : records_of layout 216 all_records ≡ Ok (Mapped mapping_value) ∷ Ok (Named name_value) ∷ Ok (OtherKind 68) ∷ Ok (Sampled sample_value) ∷ []
unfolding all_records
all_are_read = records_next layout 216 (mapping ++ name ++ round_end ++ sample) (Mapped mapping_value) 80 (lit< tt) mapping_is_read ∙ ap (λ (later : List (Result RecordValue PerfError)). Ok (Mapped mapping_value) ∷ later) second_is_read

-- ---- all of it

pub one_sample_is_read : perf_of one_sample ≡ Ok one_sample_value
one_sample_is_read =
    header_is_read ∙ ap (with_records one_sample) layout_is_read ∙ ap (records_after layout) section_is_read
    ∙ ap (λ (records : List (Result RecordValue PerfError)). Ok (record { layout = layout; records = records })) all_are_read

pub columns_are_read : context_of registers ≡ context
unfolding u64_at ones
columns_are_read = refl
