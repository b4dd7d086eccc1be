-- What a mapping and a name say: Linux's include/uapi/linux/perf_event.h, PERF_RECORD_MMAP2 and PERF_RECORD_COMM.
use Rattle.std.specs.Prelude.{ℕ, ◌==◌, Bool, List, length, take, drop, position, Option, Some, None, nat_lt, min, slice_index, if◌then◌else◌}
use Rattle.memory_image.specs.Words.{u32_at, u64_at}
use Rattle.perf_data.specs.declared.sample.Thread.{Thread}
use Rattle.perf_data.specs.Layouts.{has_bits}

-- the bit of a mapping's misc that says that the file's build id stands in it, and that of a name's that it came by an exec
abbrev pub MMAP_BUILD_ID : ℕ
MMAP_BUILD_ID = 0x4000

abbrev pub COMM_EXEC : ℕ
COMM_EXEC = 0x2000

-- which file is mapped: by its build id, of up to 20 bytes, or by its device and its inode
pub data FileValue : Type 0 where
  BuildId : List ℕ → FileValue
  Inode : (major minor inode generation : ℕ) → FileValue

-- a text up to a zero byte, all of it where there is none
abbrev pub text_before : Option ℕ → List ℕ → List ℕ
text_before None bytes = bytes
text_before (Some n) bytes = take n bytes

abbrev pub text_of : List ℕ → List ℕ
text_of bytes = text_before (position (λ b. b == 0) bytes) bytes

abbrev pub thread_at_start : List ℕ → Thread
thread_at_start body = record { pid = u32_at body 0; tid = u32_at body 4 }

-- a part of a file at addresses of a process
pub record MappingValue : Type 0 where
  pub thread : Thread
  pub address : ℕ
  pub size : ℕ
  pub page_offset : ℕ
  pub file : FileValue
  pub protection : ℕ
  pub flags : ℕ
  pub name : List ℕ

abbrev pub build_id_of : List ℕ → List ℕ
build_id_of body = take (min (slice_index body 32) 20) (drop 36 body)

abbrev pub inode_of : List ℕ → FileValue
inode_of body = Inode (u32_at body 32) (u32_at body 36) (u64_at body 40) (u64_at body 48)

abbrev pub file_of : ℕ → List ℕ → FileValue
file_of misc body = if has_bits misc MMAP_BUILD_ID then BuildId (build_id_of body) else inode_of body

unfoldable pub mapping_of : ℕ → List ℕ → Option MappingValue
mapping_of misc body = if nat_lt (length body) 64 then None else Some (record {
  thread = thread_at_start body;
  address = u64_at body 8;
  size = u64_at body 16;
  page_offset = u64_at body 24;
  file = file_of misc body;
  protection = u32_at body 56;
  flags = u32_at body 60;
  name = text_of (drop 64 body);
})

-- the name of a thread, and whether it came by an exec
pub record NameValue : Type 0 where
  pub thread : Thread
  pub by_exec : Bool
  pub name : List ℕ

unfoldable pub name_of : ℕ → List ℕ → Option NameValue
name_of misc body = if nat_lt (length body) 8 then None else Some (record {
  thread = thread_at_start body;
  by_exec = has_bits misc COMM_EXEC;
  name = text_of (drop 8 body);
})
