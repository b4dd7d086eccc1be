-- What a note tells of a thread: Linux's `struct elf_prstatus` on x86-64, whose registers stand in the order of its
-- `struct user_regs_struct` from byte 112 on, eight bytes each.
use Rattle.std.specs.Prelude.{ℕ, ◌+◌, ◌*◌, ◌==◌, ◌&&◌, Bool, List, [], ◌∷◌, length, take, map, position, Option, Some, None, codes, nat_le, if◌then◌else◌}
use Rattle.std.specs.Str.{bytes_eq}
use Rattle.memory_image.specs.Words.{u64_at}
use Rattle.unwind_arch.specs.declared.x86_64.Context.{Context}
use Rattle.core_file.specs.Notes.{Note}

-- the type of a note on a thread
abbrev pub NT_PRSTATUS : ℕ
NT_PRSTATUS = 1

-- where the registers begin, and how many bytes there are up to the last one that is read, SS
abbrev pub registers_offset : ℕ
registers_offset = 112

abbrev pub status_size : ℕ
status_size = 280

-- a register by its place among them
abbrev pub register_at : List ℕ → ℕ → ℕ
register_at status place = u64_at status (registers_offset + 8 * place)

-- the places of RAX, RDX, RCX, RBX, RSI, RDI, RBP, RSP and R8 to R15, the order of their columns: user_regs_struct begins with
-- r15 r14 r13 r12 rbp rbx r11 r10 r9 r8 rax rcx rdx rsi rdi orig_rax rip cs eflags rsp ss
abbrev pub places : List ℕ
places = 10 ∷ 12 ∷ 11 ∷ 5 ∷ 13 ∷ 14 ∷ 4 ∷ 19 ∷ 9 ∷ 8 ∷ 7 ∷ 6 ∷ 3 ∷ 2 ∷ 1 ∷ 0 ∷ []

abbrev pub rip_place : ℕ
rip_place = 16

-- the registers of a thread; the control registers are 0
abbrev pub context_in : List ℕ → Context
context_in status = record {
  registers = map (register_at status) places;
  ra = register_at status rip_place;
  mcxsr = 0;
  fcw = 0;
}

-- a text up to a zero byte, all of it where there is none
abbrev pub text_before : Option ℕ → List ℕ → List ℕ
text_before None bytes = bytes
text_before (Some n) bytes = take n bytes

abbrev pub name_of : Note → List ℕ
name_of note = text_before (position (λ b. b == 0) note.name) note.name

-- a note on a thread, with all of the registers
abbrev pub is_thread : Note → Bool
is_thread note = (note.kind == NT_PRSTATUS) && bytes_eq (name_of note) (codes "CORE") && nat_le status_size (length note.description)

-- the registers of the thread of which a note tells
unfoldable pub thread_of : Note → Option Context
thread_of note = if is_thread note then Some (context_in note.description) else None
