-- The parts of the form in which compilers emit a common information entry. No public clause cites this.
use Rattle.std.specs.Prelude.{◌≡◌, ◌⊎◌, List, None, Some, MatchOption}
use Rattle.memory_image.specs.Image.{Span}
use Rattle.unwind_definitions.specs.Columns as column
use Rattle.unwind_definitions.specs.PointerEncodings.{pcrel_sdata4}
use Rattle.unwind_definitions.specs.Entries.{Cie}
use Rattle.unwind_definitions.specs.DescribedRows.{negative}
use Rattle.unwind_definitions.specs.FrameTable.{IsEmittedAugmentation, IsEmittedPersonality}

pub record HasEmittedFactors (cie : Cie) : Type 0 where
  pub version : cie.version ≡ 1
  pub code_factor : cie.code_factor ≡ 1
  pub data_factor : cie.data_factor ≡ negative 8
  pub return_column : cie.return_column ≡ column.ra

pub record HasEmittedLetters (image : List Span) (cie : Cie) : Type 0 where
  pub augmentation : IsEmittedAugmentation cie.augmentation
  pub address : cie.letters.address ≡ Some pcrel_sdata4
  pub language : (cie.letters.language ≡ None) ⊎ (cie.letters.language ≡ Some pcrel_sdata4)
  pub personality : MatchOption cie.letters.personality (Unit {0}) (IsEmittedPersonality image)
