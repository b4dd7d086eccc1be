-- What a scan of a frame table is to find.
use Rattle.std.specs.Prelude.{◌≡◌, ℕ, List, Option, None, Result, Ok, Err, true, false}
use Rattle.std.specs.Option.{option_map_or}
use Rattle.memory_image.specs.Image.{Span}
use Rattle.unwind_definitions.specs.declared.error.Error.{Error as Fault}
use Rattle.unwind_definitions.specs.declared.error.Error.TheVariants.{NoUnwindInfoForAddress}
use Rattle.unwind_definitions.specs.Input.{Input}
use Rattle.unwind_definitions.specs.Pointers.{Bases}
use Rattle.unwind_definitions.specs.Entries.{Cie, Fde, cie_body, fde_body}
use Rattle.unwind_definitions.specs.Row.{covers_pc}
use Rattle.unwind_definitions.specs.Scan.{first_covering, scan}
use Rattle.unwind_definitions.specs.Function.{Function, action_at}
use Rattle.unwind_definitions.specs.LanguageSearch.{personality_address, language_action}
use Rattle.unwind_definitions.specs.LanguageTable.{input_at}
use Rattle.unwind_definitions.specs.FrameTable.{DescribesFunction}
use Rattle.unwind_definitions.specs.Module.{Module, bases_of}

-- the first description of a list that contains an address, or that there is none
abbrev pub found_among : List Fde → ℕ → Result Fde Fault
found_among fdes pc = option_map_or (λ (fde : Fde). Ok fde) (first_covering fdes pc) (Err NoUnwindInfoForAddress)

-- nothing is found
abbrev pub nothing_found : Result Fde Fault
nothing_found = Err NoUnwindInfoForAddress

module _ (bases : Bases) where
  -- bytes read as a common description
  pub record CieRead (cie : Cie) : Type 0 where
    pub offset : ℕ
    pub from : Input
    pub is : cie_body bases offset from ≡ Ok cie

  -- bytes read as a description, and others as its common one
  pub record FdeRead (fde : Fde) : Type 0 where
    pub common : CieRead fde.cie
    pub offset : ℕ
    pub from : Input
    pub is : fde_body bases fde.cie offset from ≡ Ok fde

-- a scan of a module's frame table finds a function's description for an address
pub record FindsFunction (image : List Span) (m : Module) (frame : ℕ) (f : Function) (a : ℕ) : Type 0 where
  pub fde : Fde
  pub found : scan (bases_of m frame) (input_at image frame) a ≡ Ok fde
  pub covers : covers_pc fde a ≡ true
  pub no_signal : fde.cie.letters.signal ≡ false
  pub read : FdeRead (bases_of m frame) fde
  pub describes : DescribesFunction image (bases_of m frame) f fde

-- A function's description asks what the function does: it names a personality where the function has a language table, and
-- that table gives the function's action at each address.
pub record AsksAs (image : List Span) (bases : Bases) (f : Function) (fde : Fde) : Type 0 where
  pub routine : Option ℕ
  pub personality : personality_address image fde ≡ Ok routine
  pub silent : routine ≡ None → f.sites ≡ None
  pub action : (a : ℕ) → language_action image bases fde a ≡ Ok (action_at f a)
