-- What the start and the end of a thread say: Linux's include/uapi/linux/perf_event.h, PERF_RECORD_FORK and PERF_RECORD_EXIT.
-- Both have the processes of the thread and of its parent, then their threads, and the time.
use Rattle.std.specs.Prelude.{ℕ, List, length, Option, Some, None, nat_lt, if◌then◌else◌}
use Rattle.memory_image.specs.Words.{u32_at, u64_at}
use Rattle.perf_data.specs.declared.sample.Thread.{Thread}
use Rattle.perf_data.specs.declared.task.Task.{Task}

-- a thread by where its process and its number stand
abbrev pub thread_from : List ℕ → ℕ → ℕ → Thread
thread_from body process number = record { pid = u32_at body process; tid = u32_at body number }

abbrev pub task_of : List ℕ → Option Task
task_of body = if nat_lt (length body) 24 then None else Some (record {
  thread = thread_from body 0 8;
  parent = thread_from body 4 12;
  time = u64_at body 16;
})
