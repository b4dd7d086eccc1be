use Rattle.std.proofs.Common.{◌≡◌, take, drop}
use Rattle.unwind_definitions.specs.Entries.{letters_from, no_letters}
use Rattle.encoded_pointers.specs.PointerViews.{bases_of}
use Rattle.encoded_pointers.specs.CursorViews.{at}
use Rattle.eh_frame.specs.Letters.{Tells, letters_of}
use Rattle.eh_frame.proofs.augmentation.read_letters.Given as goal

-- the letters that are left, by what those before them say
abbrev pub invariant-loop-byte : goal.invariant-loop-byte
invariant-loop-byte l =
    (letters_from (bases_of l.bases) l.letters no_letters (at l.block) ≡ letters_from (bases_of l.bases) (drop l.byte-index l.letters) (letters_of l.found) (at l.input)) × Tells (take l.byte-index l.letters) (letters_of l.found)
