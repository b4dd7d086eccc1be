-- What errors print.
use Rattle.std.specs.Prelude.{ℕ, List, ◌++◌, codes, false}
use Rattle.std.specs.Fmt.{digits}
use Rattle.memory_image.specs.declared.errors.ImageError.{ImageError}
use Rattle.memory_image.specs.declared.errors.ImageError.TheVariants.{Empty, Wraps, Overlap, NoMemory}

-- the text of an error, with an address as lower-case hexadecimal digits
abbrev pub text_of : ImageError → List ℕ
text_of Empty = codes "empty region"
text_of Wraps = codes "region past the last address"
text_of (Overlap start) = codes "region overlaps the one at 0x" ++ digits 16 false start
text_of NoMemory = codes "no memory"

-- the text of a read or a write that failed
abbrev pub failed_text : List ℕ
failed_text = codes "a read or a write failed"
