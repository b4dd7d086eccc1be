-- What is written of a core's threads where the functions of their frames are named.
use Rattle.std.specs.Prelude.{ℕ, ◌+◌, ◌-◌, ◌%◌, ◌^◌, ◌&&◌, Bool, true, false, List, [], ◌∷◌, ◌++◌, map, Option, Some, None, Result, Ok, Err, codes, nat_lt, if◌then◌else◌}
use Rattle.std.specs.Fmt.{decimal}
use Rattle.unwind_definitions.specs.LanguageSearch.{address_of_call}
use Rattle.unwind_arch.specs.declared.x86_64.Context.{Context}
use Rattle.core_file.specs.MappedParts.{PartValue}
use Rattle.elf_symbols.specs.Functions.{FunctionValue}
use Rattle.mapped_names.specs.Places.{PlaceValue, place_of}
use Rattle.format_frames.specs.declared.machine.Stepped.{Stepped}
use Rattle.stack_steps.specs.declared.error.DeliverError.{DeliverError}
use Rattle.stack_steps.specs.Modules.{SpaceValue}
use Rattle.stack_report.specs.Digits.{hexadecimal}
use Rattle.stack_report.specs.Report.{end_line, fields_text, line}
use Rattle.stack_report.specs.Refusals.{refused_line}
use Rattle.named_walks.specs.Marking.{marked_line_of, stopped_at}

-- ---- names

-- what is no printable ASCII is written as `?`, a space too
abbrev pub written : ℕ → ℕ
written b = if nat_lt 32 b && nat_lt b 127 then b else 63

abbrev pub written_text : List ℕ → List ℕ
written_text bytes = map written bytes

-- how far an address is past a start
abbrev pub offset_from : ℕ → ℕ → ℕ
offset_from start a = (a + (2 ^ 64 - start)) % 2 ^ 64

-- a function with the offset of an address in it, and its file
abbrev pub function_text : List ℕ → ℕ → FunctionValue → List ℕ
function_text path a f = codes " " ++ written_text f.name ++ codes "+" ++ hexadecimal (offset_from f.start a) ++ codes " in " ++ written_text path

-- a file, and an address as it counts
abbrev pub file_text : List ℕ → ℕ → List ℕ
file_text path a = codes " in " ++ written_text path ++ codes "+" ++ hexadecimal a

abbrev pub named_text : List ℕ → ℕ → Option FunctionValue → List ℕ
named_text path a None = file_text path a
named_text path a (Some f) = function_text path a f

-- how far an address stands past the one that is asked for it
abbrev pub past_call : Bool → ℕ
past_call true = 0
past_call false = 1

-- the place that was found for the address asked, with the address itself
abbrev pub place_text : Bool → Option PlaceValue → List ℕ
place_text interrupted None = []
place_text interrupted (Some p) = named_text p.path ((p.address + past_call interrupted) % 2 ^ 64) p.function

-- what is said of an address, at which a state was interrupted or to which it returns
unfoldable pub name_text : (List ℕ → List ℕ) → List PartValue → Bool → ℕ → List ℕ
name_text files parts interrupted a = place_text interrupted (place_of files parts (address_of_call a interrupted))

-- ---- lines

-- the line of a state up to its end
abbrev pub frame_head : ℕ → Context → List ℕ
frame_head i c = codes "frame " ++ decimal i ++ fields_text c

abbrev pub named_line : (List ℕ → List ℕ) → List PartValue → ℕ → Stepped → List ℕ
named_line files parts i s = line (frame_head i s.context ++ name_text files parts s.signal s.context.ra)

-- a line for each state, with its number from i on
abbrev pub named_lines : (List ℕ → List ℕ) → List PartValue → ℕ → List Stepped → List ℕ
named_lines files parts i [] = []
named_lines files parts i (s ∷ ss) = named_line files parts i s ++ named_lines files parts (i + 1) ss

-- the states of a walk, or why it was refused
abbrev pub named_walk_text : (List ℕ → List ℕ) → List PartValue → Result (List Stepped) DeliverError → List ℕ
named_walk_text files parts (Ok visited) = named_lines files parts 0 visited ++ end_line
named_walk_text files parts (Err error) = refused_line error

-- a thread's number, and its walk from the instruction at which it was stopped
unfoldable pub named_thread_text : (List ℕ → List ℕ) → List PartValue → SpaceValue → ℕ → ℕ → Context → List ℕ
named_thread_text files parts space limit index c = line (codes "thread " ++ decimal index) ++ named_walk_text files parts (marked_line_of space limit (stopped_at c))

-- the same of each thread, from a number on
abbrev pub named_threads_text : (List ℕ → List ℕ) → List PartValue → SpaceValue → ℕ → ℕ → List Context → List ℕ
named_threads_text files parts space limit index [] = []
named_threads_text files parts space limit index (c ∷ cs) = named_thread_text files parts space limit index c ++ named_threads_text files parts space limit (index + 1) cs
