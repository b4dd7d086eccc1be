-- Which descriptions of a frame table describe functions.
use Rattle.std.specs.Prelude.{◌≡◌, ℕ, List, [], ◌∷◌}
use Rattle.std.specs.List.{AllByRecursion, filter}
use Rattle.memory_image.specs.Image.{Span}
use Rattle.unwind_definitions.specs.Pointers.{Bases}
use Rattle.unwind_definitions.specs.Entries.{Fde}
use Rattle.unwind_definitions.specs.Function.{Function}
use Rattle.unwind_definitions.specs.FrameTable.{DescribesCode, has_range_of}
use Rattle.unwind_definitions.specs.LanguageTable.{LeadsToLanguage}
use Rattle.unwind_definitions.specs.Module.{HeaderLists, Tables}

-- one description in a list has a function's range, and something holds of it
pub record HasOne (fdes : List Fde) (f : Function) (P : Fde → Type 0) : Type 0 where
  pub fde : Fde
  pub one : filter (has_range_of f) fdes ≡ fde ∷ []
  pub holds : P fde

module _ (image : List Span) (bases : Bases) (fdes : List Fde) where
  -- it describes the function's code
  abbrev pub HasCode : Function → Type 0
  HasCode f = HasOne fdes f (DescribesCode image bases f)

  -- it leads to the function's language table, or to none where the function has none
  abbrev pub HasLanguage : Function → Type 0
  HasLanguage f = HasOne fdes f (λ fde. LeadsToLanguage image f fde.language)

  -- each function has one that describes its code, and one that leads to its language table; and a header's table, if
  -- there is one, lists all descriptions
  pub record AllDescribed (tables : Tables) (frame : ℕ) (functions : List Function) : Type 0 where
    pub code : AllByRecursion HasCode functions
    pub sites : AllByRecursion HasLanguage functions
    pub listed : HeaderLists image tables frame fdes
