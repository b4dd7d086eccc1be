-- The code's bases and pointers as those of the definitions.
use Rattle.unwind_definitions.specs.Pointers.{Bases, Pointer, Direct, Indirect}
use Rattle.encoded_pointers.specs.declared.bases.Bases.{Bases as CodeBases}
use Rattle.encoded_pointers.specs.declared.pointer.Pointer.{Pointer as CodePointer}
use Rattle.encoded_pointers.specs.declared.pointer.Pointer.TheVariants as pointers

abbrev pub bases_of : CodeBases → Bases
bases_of b = record { text = b.text; data_base = b.data_base; func = b.func; hdr = b.hdr; frame = b.frame }

abbrev pub pointer_of : CodePointer → Pointer
pointer_of (pointers.Direct address) = Direct address
pointer_of (pointers.Indirect address) = Indirect address
