-- What a sample says: Linux's include/uapi/linux/perf_event.h, PERF_RECORD_SAMPLE. Which fields stand in it is said by its
-- attribute's sample_type; they stand in the order IDENTIFIER, IP, TID, TIME, ADDR, ID, STREAM_ID, CPU, PERIOD, READ,
-- CALLCHAIN, RAW, BRANCH_STACK, REGS_USER, STACK_USER; what follows these isn't read.
use Rattle.std.specs.Prelude.{ℕ, ◌+◌, ◌*◌, ◌==◌, Bool, List, [], length, take, drop, Option, Some, None, count_ones, nat_lt, if◌then◌else◌}
use Rattle.memory_image.specs.Words.{u32_at, u64_at}
use Rattle.perf_data.specs.declared.layout.Layout.{Layout}
use Rattle.perf_data.specs.declared.sample.Thread.{Thread}
use Rattle.perf_data.specs.Layouts.{has_bits}
use Rattle.perf_data.specs.Parts.{skip, split, first_word, skip_items, ◌>>=◌}
use Rattle.perf_data.specs.Registers.{RegisterWords}

-- the bits of sample_type
abbrev pub IP : ℕ
IP = 0x1

abbrev pub TID : ℕ
TID = 0x2

abbrev pub TIME : ℕ
TIME = 0x4

abbrev pub ADDR : ℕ
ADDR = 0x8

abbrev pub READ : ℕ
READ = 0x10

abbrev pub CALLCHAIN : ℕ
CALLCHAIN = 0x20

abbrev pub ID : ℕ
ID = 0x40

abbrev pub CPU : ℕ
CPU = 0x80

abbrev pub PERIOD : ℕ
PERIOD = 0x100

abbrev pub STREAM_ID : ℕ
STREAM_ID = 0x200

abbrev pub RAW : ℕ
RAW = 0x400

abbrev pub BRANCH_STACK : ℕ
BRANCH_STACK = 0x800

abbrev pub REGS_USER : ℕ
REGS_USER = 0x1000

abbrev pub STACK_USER : ℕ
STACK_USER = 0x2000

abbrev pub IDENTIFIER : ℕ
IDENTIFIER = 0x10000

-- the bits of read_format: the time that the event was enabled, that it ran, its identifier, a group of counters, and the
-- number of samples that were lost
abbrev pub TOTAL_TIME_ENABLED : ℕ
TOTAL_TIME_ENABLED = 0x1

abbrev pub TOTAL_TIME_RUNNING : ℕ
TOTAL_TIME_RUNNING = 0x2

abbrev pub FORMAT_ID : ℕ
FORMAT_ID = 0x4

abbrev pub GROUP : ℕ
GROUP = 0x8

abbrev pub LOST : ℕ
LOST = 0x10

-- the bits of branch_sample_type that add a word to the branches, and one to each of them
abbrev pub HW_INDEX : ℕ
HW_INDEX = 0x20000

abbrev pub COUNTERS : ℕ
COUNTERS = 0x80000

-- the bytes of a word that stands where a bit is set
abbrev pub word_if : ℕ → ℕ → ℕ
word_if n mask = if has_bits n mask then 8 else 0

-- ---- the fields of a word each that come first

abbrev pub ip_place : Layout → ℕ
ip_place l = word_if l.sample_type IDENTIFIER

abbrev pub tid_place : Layout → ℕ
tid_place l = ip_place l + word_if l.sample_type IP

abbrev pub time_place : Layout → ℕ
time_place l = tid_place l + word_if l.sample_type TID

abbrev pub addr_place : Layout → ℕ
addr_place l = time_place l + word_if l.sample_type TIME

abbrev pub stream_id_place : Layout → ℕ
stream_id_place l = addr_place l + word_if l.sample_type ADDR + word_if l.sample_type ID

abbrev pub words_size : Layout → ℕ
words_size l = stream_id_place l + word_if l.sample_type STREAM_ID + word_if l.sample_type CPU + word_if l.sample_type PERIOD

abbrev pub word_in : Bool → List ℕ → ℕ → Option ℕ
word_in there body place = if there then Some (u64_at body place) else None

abbrev pub thread_in : Bool → List ℕ → ℕ → Option Thread
thread_in there body place = if there then Some (record { pid = u32_at body place; tid = u32_at body (place + 4) }) else None

-- ---- the fields after them that are passed

-- a group begins with the number of its counters, and its times follow; each counter has a value, its identifier and its losses
abbrev pub times_size : Layout → ℕ
times_size l = word_if l.read_format TOTAL_TIME_ENABLED + word_if l.read_format TOTAL_TIME_RUNNING

abbrev pub counter_size : Layout → ℕ
counter_size l = 8 + word_if l.read_format FORMAT_ID + word_if l.read_format LOST

abbrev pub after_group : Layout → List ℕ → Option (List ℕ)
after_group l bytes = do
  count ← first_word bytes
  counters ← skip (times_size l) count.1
  skip_items count.0 (counter_size l) counters

abbrev pub after_counters : Layout → List ℕ → Option (List ℕ)
after_counters l bytes = if has_bits l.read_format GROUP then after_group l bytes else skip (times_size l + counter_size l) bytes

unfoldable pub after_read : Layout → List ℕ → Option (List ℕ)
after_read l bytes = if has_bits l.sample_type READ then after_counters l bytes else Some bytes

-- a number of addresses, and these
abbrev pub after_addresses : List ℕ → Option (List ℕ)
after_addresses bytes = do
  count ← first_word bytes
  skip_items count.0 8 count.1

unfoldable pub after_callchain : Layout → List ℕ → Option (List ℕ)
after_callchain l bytes = if has_bits l.sample_type CALLCHAIN then after_addresses bytes else Some bytes

-- a number of four bytes, and so many bytes
abbrev pub after_raw_bytes : List ℕ → Option (List ℕ)
after_raw_bytes bytes = if nat_lt (length bytes) 4 then None else skip (u32_at bytes 0) (drop 4 bytes)

unfoldable pub after_raw : Layout → List ℕ → Option (List ℕ)
after_raw l bytes = if has_bits l.sample_type RAW then after_raw_bytes bytes else Some bytes

-- a number of branches, of three words each
abbrev pub branch_size : Layout → ℕ
branch_size l = 24 + word_if l.branch_sample_type COUNTERS

abbrev pub after_branches : Layout → List ℕ → Option (List ℕ)
after_branches l bytes = do
  count ← first_word bytes
  branches ← skip (word_if l.branch_sample_type HW_INDEX) count.1
  skip_items count.0 (branch_size l) branches

unfoldable pub after_branch_stack : Layout → List ℕ → Option (List ℕ)
after_branch_stack l bytes = if has_bits l.sample_type BRANCH_STACK then after_branches l bytes else Some bytes

-- ---- the registers and the stack

-- the form of the program, and a word for each register; a thread of the kernel has form 0 and no registers
abbrev pub some_registers : Layout → ℕ → List ℕ × List ℕ → Option RegisterWords × List ℕ
some_registers l abi p = (Some (record { abi = abi; mask = l.sample_regs_user; words = p.0 }), p.1)

abbrev pub registers_by : Layout → ℕ → List ℕ → Option (Option RegisterWords × List ℕ)
registers_by l abi bytes = if abi == 0 then Some (None, bytes) else (split (8 * count_ones l.sample_regs_user) bytes >>= λ p. Some (some_registers l abi p))

abbrev pub first_registers : Layout → List ℕ → Option (Option RegisterWords × List ℕ)
first_registers l bytes = do
  abi ← first_word bytes
  registers_by l abi.0 abi.1

unfoldable pub user_registers : Layout → List ℕ → Option (Option RegisterWords × List ℕ)
user_registers l bytes = if has_bits l.sample_type REGS_USER then first_registers l bytes else Some (None, bytes)

-- so many bytes, and then how many of them were copied from the stack
abbrev pub stack_of : ℕ → List ℕ → Option (List ℕ)
stack_of size bytes = do
  copy ← split size bytes
  dynamic ← first_word copy.1
  Some (take dynamic.0 copy.0)

abbrev pub first_stack : List ℕ → Option (List ℕ)
first_stack bytes = do
  size ← first_word bytes
  if size.0 == 0 then Some [] else stack_of size.0 size.1

unfoldable pub user_stack : Layout → List ℕ → Option (List ℕ)
user_stack l bytes = if has_bits l.sample_type STACK_USER then first_stack bytes else Some []

-- ---- a sample

-- the instruction and the thread that it stood in, the time, the user's registers, and the bytes of the user's stack from its
-- stack pointer on
pub record SampleValue : Type 0 where
  pub ip : Option ℕ
  pub thread : Option Thread
  pub time : Option ℕ
  pub registers : Option RegisterWords
  pub stack : List ℕ

-- where the registers begin
unfoldable pub after_passed : Layout → List ℕ → Option (List ℕ)
after_passed l bytes = do
  callchain ← after_read l bytes
  raw ← after_callchain l callchain
  branches ← after_raw l raw
  after_branch_stack l branches

abbrev pub sample_with : Layout → List ℕ → Option RegisterWords → List ℕ → SampleValue
sample_with l body registers stack = record {
  ip = word_in (has_bits l.sample_type IP) body (ip_place l);
  thread = thread_in (has_bits l.sample_type TID) body (tid_place l);
  time = word_in (has_bits l.sample_type TIME) body (time_place l);
  registers = registers;
  stack = stack;
}

unfoldable pub sample_of : Layout → List ℕ → Option SampleValue
sample_of l body = do
  words ← skip (words_size l) body
  rest ← after_passed l words
  registers ← user_registers l rest
  stack ← user_stack l registers.1
  Some (sample_with l body registers.0 stack)
