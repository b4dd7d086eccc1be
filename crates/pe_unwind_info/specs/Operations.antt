-- The unwind operations that the slots of a record spell.
use Rattle.std.specs.Prelude.{ℕ, zero, suc, ◌+◌, ◌*◌, ◌/◌, ◌%◌, ◌<◌, ◌≤◌, ◌⊎◌, Bool, List, [], ◌∷◌, Option, Some, None, length, drop, nat_lt, ◌==◌, if◌then◌else◌}
use Rattle.pe_unwind_info.specs.declared.x86_64.operations.EpilogInformation.{EpilogInformation as Epilog}
use Rattle.pe_unwind_info.specs.declared.x86_64.operations.EpilogHeader.{EpilogHeader}
use Rattle.pe_unwind_info.specs.declared.x86_64.operations.StackFrameOffset.{StackFrameOffset}
use Rattle.pe_unwind_info.specs.declared.x86_64.operations.UnwindCode.{UnwindCode}
use Rattle.pe_unwind_info.specs.declared.x86_64.operations.UnwindOperation.{UnwindOperation}
use Rattle.pe_unwind_info.specs.declared.x86_64.operations.UnwindOperation.TheVariants.{EpilogInformation, PopNonVolatile, UnStackAlloc, RestoreSPFromFP, ReadNonVolatile, ReadXMM, PopMachineFrame}
use Rattle.pe_unwind_info.specs.declared.x86_64.operations.UnwindOperationCode.{UnwindOperationCode}
use Rattle.pe_unwind_info.specs.declared.x86_64.operations.UnwindOperationCode.TheVariants.{PushNonvol, AllocLarge, AllocSmall, SetFPReg, SaveNonvol, SaveNonvolFar, Epilog as EpilogCode, Spare, SaveXmm128, SaveXmm128Far, PushMachframe}
use Rattle.pe_unwind_info.specs.declared.x86_64.operations.UnwindOperations.{UnwindOperations}
use Rattle.pe_unwind_info.specs.Numbers.{first_u16, first_u32, number_in_units}
use Rattle.pe_unwind_info.specs.Registers.{register_of, xmm_register_of}

-- a slot: the number of its operation in the low four bits of its second byte, the information above it
abbrev pub code_number : UnwindCode → ℕ
code_number code = code.opcode_and_opinfo % 16

abbrev pub code_information : UnwindCode → ℕ
code_information code = code.opcode_and_opinfo / 16

-- the operation of a number in a version of unwind records
abbrev pub code_of : ℕ → ℕ → Option UnwindOperationCode
code_of version n =
    if n == 0 then Some PushNonvol
    else (if n == 1 then Some AllocLarge
    else (if n == 2 then Some AllocSmall
    else (if n == 3 then Some SetFPReg
    else (if n == 4 then Some SaveNonvol
    else (if n == 5 then Some SaveNonvolFar
    else (if n == 6 then (if nat_lt version 2 then None else Some EpilogCode)
    else (if n == 7 then (if nat_lt version 2 then None else Some Spare)
    else (if n == 8 then Some SaveXmm128
    else (if n == 9 then Some SaveXmm128Far
    else (if n == 10 then Some PushMachframe
    else None))))))))))

-- an offset into the frame
abbrev pub frame_offset : ℕ → StackFrameOffset
frame_offset n = record { 0 = n }

abbrev pub offset_value : StackFrameOffset → ℕ
offset_value offset = offset.0

-- What slots begin with: an operation, or none where they are spare, with the bytes after it; or nothing that can be read.
abbrev pub Head : Type 0
Head = Option (Option UnwindOperation × List ℕ)

abbrev pub gives : UnwindOperation → List ℕ → Head
gives operation rest = Some (Some operation, rest)

-- an operation with a number from the slots after its own
abbrev pub counts : (ℕ → UnwindOperation) → Option (ℕ × List ℕ) → Head
counts operation None = None
counts operation (Some (n, rest)) = gives (operation n) rest

-- how many bytes a large allocation has, with the bytes after their number: in units of eight in one slot, or one by one in two
abbrev pub large_size : ℕ → List ℕ → Option (ℕ × List ℕ)
large_size information rest =
    if information == 0 then number_in_units 8 (first_u16 rest)
    else (if information == 1 then first_u32 rest else None)

-- the operation of a slot, by its code, from the bytes after it
abbrev pub head_by : Option UnwindOperationCode → UnwindCode → List ℕ → Head
head_by None slot rest = None
head_by (Some PushNonvol) slot rest = gives (PopNonVolatile (register_of (code_information slot))) rest
head_by (Some AllocLarge) slot rest = counts UnStackAlloc (large_size (code_information slot) rest)
head_by (Some AllocSmall) slot rest = gives (UnStackAlloc (8 * code_information slot + 8)) rest
head_by (Some SetFPReg) slot rest = gives RestoreSPFromFP rest
head_by (Some SaveNonvol) slot rest = counts (λ n. ReadNonVolatile (register_of (code_information slot)) (frame_offset n)) (number_in_units 8 (first_u16 rest))
head_by (Some SaveNonvolFar) slot rest = counts (λ n. ReadNonVolatile (register_of (code_information slot)) (frame_offset n)) (first_u32 rest)
head_by (Some EpilogCode) slot rest = gives (EpilogInformation (record { size_or_offset_low = slot.prolog_offset; single_or_offset_high = code_information slot })) rest
head_by (Some Spare) slot rest = if nat_lt (length rest) 4 then None else Some (None, drop 4 rest)
head_by (Some SaveXmm128) slot rest = counts (λ n. ReadXMM (xmm_register_of (code_information slot)) (frame_offset n)) (number_in_units 16 (first_u16 rest))
head_by (Some SaveXmm128Far) slot rest = counts (λ n. ReadXMM (xmm_register_of (code_information slot)) (frame_offset n)) (first_u32 rest)
head_by (Some PushMachframe) slot rest = gives (PopMachineFrame (code_information slot == 1)) rest

abbrev pub head_of : ℕ → UnwindCode → List ℕ → Head
head_of version slot rest = head_by (code_of version (code_number slot)) slot rest

-- an operation with the offset in the code after what it undoes
abbrev pub Placed : Type 0
Placed = ℕ × UnwindOperation

-- the same from the first slot on, with that slot's first byte
abbrev pub First : Type 0
First = Option (ℕ × Option UnwindOperation × List ℕ)

abbrev pub placed_at : ℕ → Head → First
placed_at offset None = None
placed_at offset (Some (operation, rest)) = Some (offset, operation, rest)

abbrev pub first_of : ℕ → List ℕ → First
first_of version (offset ∷ byte ∷ rest) = placed_at offset (head_of version (record { prolog_offset = offset; opcode_and_opinfo = byte }) rest)
first_of version _ = None

-- the first operation, where it is one, and the later ones
abbrev pub then_later : First → (List ℕ → List Placed) → List Placed
then_later None later = []
then_later (Some (offset, None, rest)) later = later rest
then_later (Some (offset, Some operation, rest)) later = (offset, operation) ∷ later rest

-- the operations of at most n slots, up to one that can't be read
abbrev pub operations_from : ℕ → ℕ → List ℕ → List Placed
operations_from zero version bytes = []
operations_from (suc n) version bytes = then_later (first_of version bytes) (operations_from n version)

-- the operations that bytes spell; they have no more slots than bytes
unfoldable pub operations_of : ℕ → List ℕ → List Placed
operations_of version bytes = operations_from (length bytes) version bytes

-- the bytes of the slots that a view has not read yet, and the operations that they spell
abbrev pub slots_left : UnwindOperations → List ℕ
slots_left operations = operations.slots.now

abbrev pub operations_left : UnwindOperations → List Placed
operations_left operations = operations_of operations.version operations.slots.now

-- the slot that bytes begin with
abbrev pub first_code : List ℕ → Option UnwindCode
first_code (offset ∷ byte ∷ rest) = Some (record { prolog_offset = offset; opcode_and_opinfo = byte })
first_code _ = None

-- what an epilog operation tells: as the first one the size of the epilogs, and whether one ends with the function; as a later one how far before the function's end an epilog begins
abbrev pub size_of_epilogs : Epilog → ℕ
size_of_epilogs epilog = epilog.size_or_offset_low

abbrev pub ends_with_one : Epilog → Bool
ends_with_one epilog = epilog.single_or_offset_high % 2 == 1

abbrev pub offset_of_epilog : Epilog → ℕ
offset_of_epilog epilog = epilog.size_or_offset_low + 256 * epilog.single_or_offset_high

abbrev pub header_information : EpilogHeader → Epilog
header_information header = header.0

-- a slot of two bytes was used at least, or none was left
abbrev pub UsesSlot : List ℕ → List ℕ → Type 0
UsesSlot before after = (length after + 2 ≤ length before) ⊎ (length before < 2)
