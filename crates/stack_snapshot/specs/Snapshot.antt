-- What a JSON value says as a snapshot, or which of its fields is the first faulty one.
use Rattle.std.specs.Prelude.{ℕ, ◌+◌, ◌^◌, ◌&&◌, Bool, List, [], ◌∷◌, Option, Some, None, Result, Ok, Err, codes, nat_le, nat_lt, if◌then◌else◌, option_map, option_and_then}
use Rattle.serde_json.specs.Data.{Data, Items, no_items, item}
use Rattle.serde_json.specs.Find.{get, as_array, as_object, as_str}
use Rattle.serde_json.specs.Written.{has_float}
use Rattle.memory_image.specs.Image.{Span}
use Rattle.memory_image.specs.Results.{◌>>=◌}
use Rattle.unwind_arch.specs.declared.x86_64.Context.{Context}
use Rattle.stack_steps.specs.declared.space.Module.{Module}
use Rattle.stack_steps.specs.declared.space.ModuleTables.{ModuleTables}
use Rattle.stack_steps.specs.declared.space.ModuleTables.TheVariants.{Elf, Macho, Pe}
use Rattle.fde_finders.specs.declared.custom.FrameInfo.{FrameInfo}
use Rattle.fde_finders.specs.declared.custom.FrameInfoKind.{FrameInfoKind}
use Rattle.fde_finders.specs.declared.custom.FrameInfoKind.TheVariants.{EhFrame, EhFrameHdr}
use Rattle.stack_deliver.specs.Resumes.{resume_table}
use Rattle.stack_snapshot.specs.declared.errors.Field.{Field}
use Rattle.stack_snapshot.specs.declared.errors.Field.TheVariants as fields
use Rattle.std.specs.Str.{bytes_eq}
use Rattle.stack_snapshot.specs.Fields.{as_word, word_at, word_or_zero_at, bytes_at, number_at, flag_or_false}
use Rattle.stack_snapshot.specs.Content.{Content, takes_regions, takes_modules}

-- a value, or the fault of a field
abbrev pub needs : {A : Type 0} → Field → Option A → Result A Field
needs field None = Err field
needs field (Some x) = Ok x

-- what each item says, where each of them says something
abbrev pub each_of : {A : Type 0} → (Data → Option A) → Items → Option (List A)
each_of f no_items = Some []
each_of f (item d ds) = option_and_then (λ x. option_map (λ xs. x ∷ xs) (each_of f ds)) (f d)

-- ---- regions

-- an address and bytes
abbrev pub region_with : List ℕ → ℕ → Span
region_with bytes address = record { start = address; bytes = bytes }

-- the region that an object says
abbrev pub region_of : Data → Option Span
region_of d = option_and_then (λ bytes. option_map (region_with bytes) (word_at (codes "address") d)) (bytes_at (codes "bytes") d)

-- each item a region
abbrev pub region_list : Items → Option (List Span)
region_list = each_of region_of

-- the regions where an image takes them
abbrev pub if_taken : List Span → Option (List Span)
if_taken rs = if takes_regions [] rs then Some rs else None

-- the regions that are listed
abbrev pub listed_regions : Data → Option (List Span)
listed_regions d = option_and_then region_list (option_and_then as_array (get (codes "regions") d))

-- regions that an image takes, one after another
unfoldable pub regions_of : Data → Option (List Span)
regions_of d = option_and_then if_taken (listed_regions d)

-- ---- modules

-- a word, where it is given
abbrev pub word_if_given : Option Data → Option (Option ℕ)
word_if_given None = Some None
word_if_given (Some d) = option_map Some (as_word d)

-- the base of pointers that are relative to the text, where it is given
abbrev pub text_base_of : Data → Option (Option ℕ)
text_base_of d = word_if_given (get (codes "text_base") d)

-- the address of a header or of a frame table, of which exactly one is named
abbrev pub frame_kind_in : Option Data → Option Data → Option FrameInfoKind
frame_kind_in (Some header) None = option_map EhFrameHdr (as_word header)
frame_kind_in None (Some frame) = option_map EhFrame (as_word frame)
frame_kind_in (Some header) (Some frame) = None
frame_kind_in None None = None

abbrev pub frame_kind_of : Data → Option FrameInfoKind
frame_kind_of d = frame_kind_in (get (codes "eh_frame_hdr") d) (get (codes "eh_frame") d)

-- the frame tables of a module
abbrev pub frame_info_of : Data → Option FrameInfo
frame_info_of d = option_and_then (λ text. option_map (λ kind. record { text_base = text; kind = kind }) (frame_kind_of d)) (text_base_of d)

-- the addresses from start to before end, and the frame tables
abbrev pub elf_with : ℕ → ℕ → FrameInfo → Module
elf_with start end frame = record { start = start; end = end; tables = Elf frame }

abbrev pub elf_of : Data → Option Module
elf_of d = option_and_then (λ start. option_and_then (λ end. option_map (elf_with start end) (frame_info_of d)) (word_at (codes "end") d)) (word_at (codes "start") d)

-- a word below 2 ^ 32
abbrev pub if_u32 : ℕ → Option ℕ
if_u32 n = if nat_lt n (2 ^ 32) then Some n else None

abbrev pub u32_at : List ℕ → Data → Option ℕ
u32_at key d = option_and_then if_u32 (word_at key d)

-- the address after the last of a module that is given by its base and its size
abbrev pub if_word : ℕ → Option ℕ
if_word n = if nat_lt n (2 ^ 64) then Some n else None

abbrev pub end_from : ℕ → Data → Option ℕ
end_from base d = option_and_then (λ size. if_word (base + size)) (u32_at (codes "size") d)

-- the section of compact unwinding, and the frame data where it is given
abbrev pub macho_tables_of : Data → Option ModuleTables
macho_tables_of d = option_and_then (λ unwind_info. option_map (λ frames. Macho (record { unwind_info = unwind_info; frames = frames })) (word_if_given (get (codes "eh_frame") d))) (word_at (codes "unwind_info") d)

-- the function table
abbrev pub pe_tables_of : Data → Option ModuleTables
pe_tables_of d = option_and_then (λ rva. option_map (λ size. Pe (record { table_rva = rva; table_size = size })) (u32_at (codes "pdata_size") d)) (u32_at (codes "pdata_rva") d)

abbrev pub module_with : ℕ → ℕ → ModuleTables → Module
module_with start end tables = record { start = start; end = end; tables = tables }

-- a base, a size and tables
abbrev pub module_with_size : (Data → Option ModuleTables) → Data → Option Module
module_with_size tables_of d = option_and_then (λ base. option_and_then (λ end. option_map (module_with base end) (tables_of d)) (end_from base d)) (word_at (codes "base") d)

-- a module of the kind that is named
abbrev pub module_of_kind : Data → List ℕ → Option Module
module_of_kind d kind =
    if bytes_eq kind (codes "elf") then elf_of d
    else (if bytes_eq kind (codes "macho") then module_with_size macho_tables_of d
    else (if bytes_eq kind (codes "pe") then module_with_size pe_tables_of d else None))

-- the module that an object says
abbrev pub module_of : Data → Option Module
module_of d = option_and_then (module_of_kind d) (option_and_then as_str (get (codes "kind") d))

-- each item a module
abbrev pub module_list : Items → Option (List Module)
module_list = each_of module_of

-- the modules where a space takes them
abbrev pub if_space_takes : List Module → Option (List Module)
if_space_takes ms = if takes_modules [] ms then Some ms else None

-- the modules that are listed
abbrev pub listed_modules : Data → Option (List Module)
listed_modules d = option_and_then module_list (option_and_then as_array (get (codes "modules") d))

-- modules that a space takes, one after another
unfoldable pub modules_of : Data → Option (List Module)
modules_of d = option_and_then if_space_takes (listed_modules d)

-- ---- the start

-- the words at sixteen keys, 0 where a key is missing
abbrev pub registers_in : List (List ℕ) → Data → Option (List ℕ)
registers_in [] d = Some []
registers_in (key ∷ keys) d = option_and_then (λ w. option_map (λ ws. w ∷ ws) (registers_in keys d)) (word_or_zero_at key d)

-- the general registers by their columns
abbrev pub register_names : List (List ℕ)
register_names = codes "rax" ∷ codes "rdx" ∷ codes "rcx" ∷ codes "rbx" ∷ codes "rsi" ∷ codes "rdi" ∷ codes "rbp" ∷ codes "rsp" ∷ codes "r8" ∷ codes "r9" ∷ codes "r10" ∷ codes "r11" ∷ codes "r12" ∷ codes "r13" ∷ codes "r14" ∷ codes "r15" ∷ []

-- an instruction pointer and the general registers; the control registers are 0
abbrev pub context_with : ℕ → List ℕ → Context
context_with rip registers = record { registers = registers; ra = rip; mcxsr = 0; fcw = 0 }

-- the instruction pointer and the stack pointer have to be there
abbrev pub start_in : Data → Option Context
start_in d = option_and_then (λ rip. option_and_then (λ rsp. option_map (context_with rip) (registers_in register_names d)) (word_at (codes "rsp") d)) (word_at (codes "rip") d)

-- the registers at the start
unfoldable pub start_of : Data → Option Context
start_of d = option_and_then start_in (get (codes "start") d)

-- ---- the other fields

-- exactly two words
abbrev pub resume_in : Items → Option (ℕ × ℕ)
resume_in no_items = None
resume_in (item pad no_items) = None
resume_in (item pad (item ret no_items)) = option_and_then (λ p. option_map (λ r. (p, r)) (as_word ret)) (as_word pad)
resume_in (item pad (item ret (item d ds))) = None

-- an array of exactly two words
abbrev pub resume_of : Data → Option (ℕ × ℕ)
resume_of d = option_and_then resume_in (as_array d)

-- each item a landing pad and its return address
abbrev pub resume_list : Items → Option (List (ℕ × ℕ))
resume_list = each_of resume_of

-- the return addresses by pad: of several entries of one pad the first counts
abbrev pub resumes_by : Option Data → Option (List (ℕ × ℕ))
resumes_by None = Some []
resumes_by (Some d) = option_map resume_table (option_and_then resume_list (as_array d))

-- the return addresses by pad, none where the field is missing
unfoldable pub resumes_of : Data → Option (List (ℕ × ℕ))
resumes_of d = resumes_by (get (codes "resumes") d)

-- 1 to 1,048,576
abbrev pub if_in_range : ℕ → Option ℕ
if_in_range n = if nat_le 1 n && nat_le n 1048576 then Some n else None

-- the most states of a pass
unfoldable pub limit_of : Data → Option ℕ
limit_of d = option_and_then if_in_range (number_at (codes "limit") d)

-- whether the start stands before its instruction, false where the field is missing
unfoldable pub interrupted_of : Data → Option Bool
interrupted_of d = flag_or_false (get (codes "interrupted") d)

-- an object without a float at any place
unfoldable pub whole_numbers : Data → Option Data
whole_numbers d = if has_float d then None else option_map (λ members. d) (as_object d)

-- the snapshot that a value says, or the first faulty field
unfoldable pub snapshot_of : Data → Result Content Field
snapshot_of d = do
  whole ← needs fields.Object (whole_numbers d)
  regions ← needs fields.Regions (regions_of d)
  modules ← needs fields.Modules (modules_of d)
  start ← needs fields.Start (start_of d)
  exception ← needs fields.Exception (word_or_zero_at (codes "exception") d)
  class ← needs fields.Class (word_or_zero_at (codes "class") d)
  resumes ← needs fields.Resumes (resumes_of d)
  limit ← needs fields.Limit (limit_of d)
  interrupted ← needs fields.Interrupted (interrupted_of d)
  Ok (record { regions = regions; modules = modules; start = start; exception = exception; class = class; resumes = resumes; limit = limit; interrupted = interrupted })
