-- A mapping that is made of its fields as they are read.
use Rattle.std.proofs.Common.{◌≡◌, ℕ, ◌≤◌, false, ltb, List, length, drop, Some, refl}
use Rattle.std.proofs.lemmas.Bool.{le-ltb}
use Rattle.memory_image.specs.Words.{u32_at, u64_at}
use Rattle.perf_data.specs.declared.sample.Thread.{Thread}
use Rattle.perf_data.specs.Mappings.{FileValue, text_of, thread_at_start, file_of, mapping_of}

pub mapping_made : (misc : ℕ) (body : List ℕ) (thread : Thread) (address size page_offset : ℕ) (file : FileValue) (protection flags : ℕ) (name : List ℕ) → 64 ≤ length body
    → thread ≡ thread_at_start body → address ≡ u64_at body 8 → size ≡ u64_at body 16 → page_offset ≡ u64_at body 24 → file ≡ file_of misc body
    → protection ≡ u32_at body 56 → flags ≡ u32_at body 60 → name ≡ text_of (drop 64 body)
    → Some (record { thread = thread; address = address; size = size; page_offset = page_offset; file = file; protection = protection; flags = flags; name = name }) ≡ mapping_of misc body
unfolding mapping_of
mapping_made misc body thread address size page_offset file protection flags name fits a b c d e f g h =
    let long : ltb (length body) 64 ≡ false = le-ltb (length body) 64 fits in
    rw (long, a, b, c, d, e, f, g, h) refl
