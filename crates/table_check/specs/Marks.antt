-- What is noted of each claim's description. No public clause cites this.
use Rattle.std.specs.Prelude.{◌≡◌, List, Option, Some, None, IsTrue}
use Rattle.std.specs.Bool.{Decides}
use Rattle.std.specs.List.{AllByRecursion, Contains}
use Rattle.memory_image.specs.Image.{Span}
use Rattle.unwind_definitions.specs.Pointers.{Bases}
use Rattle.unwind_definitions.specs.Entries.{Fde}
use Rattle.unwind_definitions.specs.Function.{Function}
use Rattle.unwind_definitions.specs.FrameTable.{DescribesCode, has_range_of}
use Rattle.unwind_definitions.specs.LanguageTable.{LeadsToLanguage}
use Rattle.table_check.specs.declared.claims.Claim.{Claim}
use Rattle.table_check.specs.declared.claims.Described.{Described}
use Rattle.table_check.specs.ClaimViews.{function_of}
use Rattle.table_check.specs.Scanned.{IsDescribedAmong}

module _ (image : List Span) (bases : Bases) (fdes : List Fde) where
  -- one of these descriptions has a function's range, and what is noted of it is so
  pub record IsNoted (f : Function) (d : Described) : Type 0 where
    pub fde : Fde
    pub among : Contains fdes fde
    pub range : IsTrue (has_range_of f fde)
    pub code : Decides d.has_code (DescribesCode image bases f fde)
    pub language : Decides d.has_language (LeadsToLanguage image f fde.language)

  -- so it is noted of one, or there is none
  abbrev pub NotesRightly : Function → Option Described → Type 0
  NotesRightly f None = IsDescribedAmong fdes f → ⊥
  NotesRightly f (Some d) = IsNoted f d

  abbrev pub IsMarked : Claim → Type 0
  IsMarked c = NotesRightly (function_of c) c.description

  abbrev pub AreMarked : List Claim → Type 0
  AreMarked claims = AllByRecursion IsMarked claims

-- nothing is noted
abbrev pub IsUnmarked : Claim → Type 0
IsUnmarked c = c.description ≡ None
