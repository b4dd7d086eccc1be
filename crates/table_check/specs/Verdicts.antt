-- Why the descriptions of a frame table don't describe functions beside which they stand, and what a check answers.
use Rattle.std.specs.Prelude.{◌⊎◌, ℕ, List}
use Rattle.std.specs.List.{AllByRecursion}
use Rattle.memory_image.specs.Image.{Span}
use Rattle.unwind_definitions.specs.Pointers.{Bases}
use Rattle.unwind_definitions.specs.Entries.{Fde}
use Rattle.unwind_definitions.specs.Scan.{fdes_of}
use Rattle.unwind_definitions.specs.Function.{Function}
use Rattle.unwind_definitions.specs.Module.{HeaderLists, Tables}
use Rattle.fde_finders.specs.declared.custom.FrameInfo.{FrameInfo}
use Rattle.table_check.specs.declared.reason.Reason.{Reason}
use Rattle.table_check.specs.declared.reason.Reason.TheVariants as reason
use Rattle.table_check.specs.declared.verdict.Verdict.{Verdict}
use Rattle.table_check.specs.declared.verdict.Verdict.TheVariants as verdict
use Rattle.table_check.specs.Descriptions.{HasCode, HasLanguage}
use Rattle.table_check.specs.First.{FailsFirst}
use Rattle.table_check.specs.Modules.{AreDescribed, tables_of}
use Rattle.table_check.specs.Reasons.{Refuses, StandsSoFar}
use Rattle.table_check.specs.Scanned.{IsDescribedAmong}

module _ (image : List Span) (bases : Bases) (fdes : List Fde) (tables : Tables) (frame : ℕ) (functions : List Function) where
  -- The first function that has no description; or where all have one, the first whose description isn't one of its
  -- code; or where all are, the first whose description doesn't lead to its language table; or where all do, the
  -- header's table doesn't list the descriptions.
  abbrev pub RefusesDescriptions : Reason → Type 0
  RefusesDescriptions (reason.Missing i) = FailsFirst (IsDescribedAmong fdes) functions i
  RefusesDescriptions (reason.Program i) = AllByRecursion (IsDescribedAmong fdes) functions × FailsFirst (HasCode image bases fdes) functions i
  RefusesDescriptions (reason.Sites i) = AllByRecursion (HasCode image bases fdes) functions × FailsFirst (HasLanguage image bases fdes) functions i
  RefusesDescriptions reason.HeaderTable = AllByRecursion (HasCode image bases fdes) functions × AllByRecursion (HasLanguage image bases fdes) functions × (HeaderLists image tables frame fdes → ⊥)
  RefusesDescriptions _ = ⊥

-- entries and descriptions stand beside the functions, and the descriptions don't describe them
pub record RefusesStanding (image : List Span) (start end : ℕ) (frame : FrameInfo) (functions : List Function) (r : Reason) : Type 0 where
  pub stand : StandsSoFar image start end frame functions
  pub refuses : RefusesDescriptions image stand.table.bases (fdes_of stand.beside.descriptions.entries) (tables_of frame.kind) stand.table.entries.base functions r

-- that the module describes the functions, which ascend; or the part that fails first
abbrev pub IsVerdict : List Span → ℕ → ℕ → FrameInfo → List Function → Verdict → Type 0
IsVerdict image start end frame functions verdict.Yes = AreDescribed image start end frame functions
IsVerdict image start end frame functions (verdict.No r) = Refuses image start end frame functions r ⊎ RefusesStanding image start end frame functions r
