-- The text of a stack as collapsers of profiles write it: the name of the process, why the stack goes no further, its
-- frames, the outermost first, and whether popped registers were kept, with a semicolon before each part but the first.
use Rattle.std.specs.Prelude.{ℕ, ◌+◌, ◌-◌, ◌%◌, ◌^◌, ◌==◌, ◌||◌, List, [], ◌∷◌, ◌++◌, map, Option, Some, None, codes, nat_le, if◌then◌else◌}
use Rattle.stack_snapshot.specs.Origins.{OriginValue, origin_at, file_name}
use Rattle.stack_report.specs.Digits.{hexadecimal}
use Rattle.sampled_profile.specs.Ends.{StackFrames, end_word, popped_word}

-- ---- names

-- what parts a line, a space or a semicolon, is written as `_`
abbrev pub written : ℕ → ℕ
written b = if nat_le b 32 || (b == 59) then 95 else b

abbrev pub written_name : List ℕ → List ℕ
written_name name = map written name

abbrev pub root_text : Option (List ℕ) → List ℕ
root_text None = codes "[unknown]"
root_text (Some name) = written_name name

-- ---- frames

-- the address in a file: what was added to the file's addresses is taken off
abbrev pub offset_in : OriginValue → ℕ → ℕ
offset_in o a = (a + (2 ^ 64 - o.bias)) % 2 ^ 64

abbrev pub place_text : Option OriginValue → ℕ → List ℕ
place_text None a = hexadecimal a
place_text (Some o) a = written_name (file_name o.path) ++ codes "+" ++ hexadecimal (offset_in o a)

-- A frame: where it is, by the file that holds the place.
unfoldable pub frame_text : List OriginValue → ℕ → List ℕ
frame_text origins a = codes ";" ++ place_text (origin_at origins a) a

-- of places from the innermost outwards
abbrev pub frames_text : List OriginValue → List ℕ → List ℕ
frames_text origins [] = []
frames_text origins (a ∷ places) = frames_text origins places ++ frame_text origins a

-- ---- all of it

abbrev pub word_text : Option (List ℕ) → List ℕ
word_text None = []
word_text (Some word) = codes ";" ++ word

-- the stack of a thread of the process of this name
unfoldable pub stack_text : List OriginValue → Option (List ℕ) → StackFrames → List ℕ
stack_text origins name w =
    root_text name ++ (word_text (end_word w.end) ++ (frames_text origins w.places ++ word_text (popped_word w.popped)))
