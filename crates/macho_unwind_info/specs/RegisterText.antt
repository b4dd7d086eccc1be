-- How saved registers of x86 and x86-64 are printed.
use Rattle.std.specs.Prelude.{ℕ, zero, suc, ◌+◌, ◌-◌, ◌*◌, List, [], ◌∷◌, ◌++◌, Option, Some, None, codes, decimal}

-- a register's slot so far below the CFA
abbrev pub slot_text : List ℕ → ℕ → List ℕ
slot_text name below = codes ", " ++ (name ++ (codes "=[CFA-" ++ (decimal below ++ codes "]")))

abbrev pub slot_text_of : {R : Type 0} → (R → List ℕ) → Option R → ℕ → List ℕ
slot_text_of name None below = []
slot_text_of name (Some register) below = slot_text (name register) below

-- fields, each of which has a slot, a word less far below the CFA than that of the field before
abbrev pub fields_text : {R : Type 0} → (R → List ℕ) → ℕ → ℕ → List (Option R) → List ℕ
fields_text name word below [] = []
fields_text name word below (field ∷ fields) = slot_text_of name field below ++ fields_text name word (below - word) fields

-- registers, each a word farther below the CFA than the one before
abbrev pub registers_text : {R : Type 0} → (R → List ℕ) → ℕ → ℕ → List (Option R) → List ℕ
registers_text name word below [] = []
registers_text name word below (None ∷ registers) = registers_text name word below registers
registers_text name word below (Some register ∷ registers) = slot_text (name register) below ++ registers_text name word (below + word) registers

-- the frame pointer, what was saved before it, and the return address
abbrev pub frame_text : ℕ → List ℕ
frame_text word = codes "CFA=reg6+" ++ (decimal (2 * word) ++ (codes ": reg6=[CFA-" ++ (decimal (2 * word) ++ (codes "], reg16=[CFA-" ++ (decimal word ++ codes "]")))))

-- the return address alone
abbrev pub return_text : ℕ → List ℕ
return_text word = codes " reg16=[CFA-" ++ (decimal word ++ codes "]")

-- the stack pointer so far below the CFA
abbrev pub size_text : ℕ → List ℕ
size_text zero = codes "CFA=reg7:"
size_text (suc n) = codes "CFA=reg7+" ++ (decimal (suc n) ++ codes ":")

-- the size lies in the code, so far after the function's start, and has so much added
abbrev pub indirect_text : ℕ → ℕ → List ℕ
indirect_text after added = codes "CFA=[function_start+" ++ (decimal after ++ (codes "]+" ++ decimal added))
