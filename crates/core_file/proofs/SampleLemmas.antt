-- The worked example is read as what it holds.
use Rattle.std.proofs.Common.{◌≡◌, Some, Ok, length, refl}
use Rattle.memory_image.specs.Words.{u16_at, u32_at, u64_at}
use Rattle.core_file.specs.Notes.{first_note, notes_of, are_whole_notes}
use Rattle.core_file.specs.ThreadStatus.{thread_of}
use Rattle.core_file.specs.CoreValue.{threads_in_notes, core_of}
use Rattle.core_file.specs.Fronts.{front_of, front_end}
use Rattle.core_file.specs.Sample.{one_thread, one_thread_value, one_thread_front, one_thread_front_value}

pub one_thread_is_read : core_of one_thread ≡ Ok one_thread_value
unfolding u16_at u32_at u64_at first_note notes_of are_whole_notes thread_of threads_in_notes core_of
one_thread_is_read = refl

pub one_thread_front_is_read : front_of one_thread_front ≡ Some one_thread_front_value
unfolding u16_at u32_at u64_at first_note notes_of are_whole_notes thread_of threads_in_notes front_of
one_thread_front_is_read = refl

pub one_thread_front_is_whole : front_end one_thread ≡ length one_thread_front
unfolding u16_at u32_at u64_at front_end
one_thread_front_is_whole = refl
