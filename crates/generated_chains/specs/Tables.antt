-- The bytes that describe the functions of a generated chain. LSB, sections on the .eh_frame and .eh_frame_hdr sections;
-- DWARF 5 section 6.4; Itanium C++ ABI, exception handling tables.
use Rattle.std.specs.Prelude.{ℕ, ◌+◌, ◌-◌, ◌*◌, ◌%◌, ◌^◌, List, [], ◌∷◌, ◌++◌, length}
use Rattle.std.specs.List.{flat_map}
use Rattle.generated_chains.specs.declared.outline.Kind.{Kind}
use Rattle.generated_chains.specs.declared.outline.Kind.TheVariants.{Pushes, PushesAndAllocates, SetsFrame, SetsFrameAndPushes}
use Rattle.generated_chains.specs.declared.outline.Handling.{Handling}
use Rattle.generated_chains.specs.declared.outline.Handling.TheVariants.{PassesOn, CleansUp, Catches}
use Rattle.generated_chains.specs.declared.outline.Outline.{Outline}
use Rattle.generated_chains.specs.Spelled.{half}
use Rattle.generated_chains.specs.Code.{start_of}

-- where the header table, the frame table and the language tables stand
abbrev pub header_place : ℕ
header_place = 0x10000000

abbrev pub frames_place : ℕ
frames_place = 0x20000000

abbrev pub languages_place : ℕ
languages_place = 0x30000000

-- what leads from one address to another, in four signed bytes
abbrev pub distance_from : ℕ → ℕ → ℕ
distance_from at to = (2 ^ 32 + to - at) % 2 ^ 32

abbrev pub relative : ℕ → ℕ → List ℕ
relative at to = half (distance_from at to)

-- ---- the frame table

-- The length 20, 0 for a common entry, version 1, zR, the alignments 1 and -8, the column 16, and one byte of augmentation:
-- addresses are four signed bytes relative to their place. Then the rules at a function's start, where the CFA is RSP plus 8
-- and the return address just below it, and two nops.
abbrev pub plain_entry : List ℕ
plain_entry =
    20 ∷ 0 ∷ 0 ∷ 0 ∷ 0 ∷ 0 ∷ 0 ∷ 0 ∷ 1 ∷ 0x7a ∷ 0x52 ∷ 0 ∷ 1 ∷ 0x78 ∷ 16 ∷ 1 ∷ 0x1b ∷
    0x0c ∷ 7 ∷ 8 ∷ 0x90 ∷ 1 ∷ 0 ∷ 0 ∷ []

-- The length 28, and the same with zPLR and seven bytes of augmentation: the personality, at 0x3f000000, by four signed bytes
-- relative to their place, and that language tables and addresses are pointed at so too.
abbrev pub language_entry : List ℕ
language_entry =
    28 ∷ 0 ∷ 0 ∷ 0 ∷ 0 ∷ 0 ∷ 0 ∷ 0 ∷ 1 ∷ 0x7a ∷ 0x50 ∷ 0x4c ∷ 0x52 ∷ 0 ∷ 1 ∷ 0x78 ∷ 16 ∷
    7 ∷ 0x1b ∷ 0xd5 ∷ 0xff ∷ 0xff ∷ 0x1e ∷ 0x1b ∷ 0x1b ∷
    0x0c ∷ 7 ∷ 8 ∷ 0x90 ∷ 1 ∷ 0 ∷ 0 ∷ []

-- at which offset a function's common information entry stands
abbrev pub common_offset : Handling → ℕ
common_offset PassesOn = 0
common_offset CleansUp = 24
common_offset Catches = 24

-- where a function's language table stands; for one that has none the place of another one, which isn't read
abbrev pub language_place : Handling → ℕ
language_place PassesOn = languages_place
language_place CleansUp = languages_place
language_place Catches = languages_place + 12

-- A frame program of eleven bytes: after each step of the prologue the CFA and what was saved, and then nops. 0x41 advances
-- by 1, 0x0e sets the CFA's offset and 0x0d its register, 0x83 saves RBX and 0x86 RBP so many words below the CFA.
abbrev pub program_of : Kind → List ℕ
program_of Pushes = 0x41 ∷ 0x0e ∷ 16 ∷ 0x83 ∷ 2 ∷ 0 ∷ 0 ∷ 0 ∷ 0 ∷ 0 ∷ 0 ∷ []
program_of PushesAndAllocates = 0x41 ∷ 0x0e ∷ 16 ∷ 0x83 ∷ 2 ∷ 0x44 ∷ 0x0e ∷ 32 ∷ 0 ∷ 0 ∷ 0 ∷ []
program_of SetsFrame = 0x41 ∷ 0x0e ∷ 16 ∷ 0x86 ∷ 2 ∷ 0x43 ∷ 0x0d ∷ 6 ∷ 0 ∷ 0 ∷ 0 ∷ []
program_of SetsFrameAndPushes = 0x41 ∷ 0x0e ∷ 16 ∷ 0x86 ∷ 2 ∷ 0x43 ∷ 0x0d ∷ 6 ∷ 0x41 ∷ 0x83 ∷ 3 ∷ []

-- at which offset a function's description stands: after the two common entries, 32 bytes for each
abbrev pub offset_of : ℕ → ℕ
offset_of index = 56 + 32 * index

-- A description after its length: the distance back to its common entry, the function's start and size, and four bytes
-- for its language table, which are there also where it has none.
abbrev pub description_body : Outline → List ℕ
description_body o =
    half ((offset_of o.index + 4) - common_offset o.handling)
    ++ (relative (frames_place + (offset_of o.index + 8)) (start_of o.index)
    ++ (half 64
    ++ (4 ∷ (relative (frames_place + (offset_of o.index + 17)) (language_place o.handling)
    ++ program_of o.kind))))

abbrev pub description_bytes : Outline → List ℕ
description_bytes o = 28 ∷ 0 ∷ 0 ∷ 0 ∷ description_body o

abbrev pub frame_table : List Outline → List ℕ
frame_table os = plain_entry ++ (language_entry ++ flat_map description_bytes os)

-- ---- language tables

-- Two tables: for the call a cleanup 48 bytes after the function's start, and from there on nothing; and for the call a catch
-- there.
abbrev pub language_tables : List ℕ
language_tables =
    0xff ∷ 0xff ∷ 1 ∷ 8 ∷ 16 ∷ 24 ∷ 48 ∷ 0 ∷ 48 ∷ 16 ∷ 0 ∷ 0 ∷
    0xff ∷ 0xff ∷ 1 ∷ 4 ∷ 16 ∷ 24 ∷ 48 ∷ 1 ∷ 1 ∷ 0 ∷ []

-- ---- the header table

-- a function's start and its description's address, relative to the header
abbrev pub pair_bytes : Outline → List ℕ
pair_bytes o =
    relative header_place (start_of o.index) ++ relative header_place (frames_place + offset_of o.index)

abbrev pub header_table : List Outline → List ℕ
header_table os =
    1 ∷ 0x1b ∷ 3 ∷ 0x3b ∷ (relative (header_place + 4) frames_place ++ (half (length os) ++ flat_map pair_bytes os))
