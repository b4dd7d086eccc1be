-- The law of section headers: equal headers have equal bytes.
use Rattle.std.specs.Prelude.{◌≡◌, ℕ, List, length}
use Rattle.std.proofs.Common.{ap}
use Rattle.memory_image.specs.Words.{AreBytes}
use Rattle.pe_unwind_info.specs.declared.x86_64.sections.Section.{Section}
use Rattle.pe_unwind_info.specs.Sections.{section_of}

pub section_keeps_all : (xs ys : List ℕ) → length xs ≡ 40 → length ys ≡ 40 → AreBytes xs → AreBytes ys → section_of xs ≡ section_of ys → xs ≡ ys
section_keeps_all xs ys m n b c e = ap (λ (s : Section). s.header) e
