-- Which action record decides what a C++ function asks of an exception: the first of the chain that takes it. Where none does, the
-- chain asks for a cleanup if one of its records is one.
-- Itanium C++ ABI, exception handling, level II, section 2.5.
use Rattle.std.specs.Prelude.{◌≡◌, ◌≢◌, ◌⊎◌, ℕ, ◌-◌, ◌<◌, Bool, true, false, List, [], ◌∷◌, ◌++◌, length, Option, Some, None, Ok, IsTrue, IsFalse, ◌==◌}
use Rattle.std.specs.List.{AllByRecursion, list_any}
use Rattle.memory_image.specs.Image.{Span}
use Rattle.unwind_definitions.specs.Input.{Input}
use Rattle.unwind_definitions.specs.Pointers.{Bases}
use Rattle.unwind_definitions.specs.LanguageTable.{input_at}
use Rattle.unwind_definitions.specs.LanguageSearch.{CallSite, LanguagePlace, sum_below}
use Rattle.unwinding_frames.specs.CxxTables.{Exception, CxxTable, ActionRecord, cxx_table, site_from, action_record, next_record, record_takes, ends_instead}

-- Action records from a place of an action table on, one after another, before a last one: each is read where it begins, and each
-- but the last says where the next one does.
abbrev pub LeadTo : Input → ℕ → List ActionRecord → ActionRecord → Type 0
LeadTo actions place [] last = action_record actions place ≡ Ok last
LeadTo actions place (r ∷ rs) last = (action_record actions place ≡ Ok r) × (r.distance ≢ 0) × (next : ℕ) × (next_record (length actions.bytes) r ≡ Ok next) × LeadTo actions next rs last

abbrev pub is_cleanup : ActionRecord → Bool
is_cleanup r = r.filter == 0

module _ (image : List Span) (bases : Bases) (x : Exception) (t : CxxTable) where
  abbrev pub Takes : ActionRecord → Type 0
  Takes r = record_takes image bases x t.types r.filter ≡ Ok true

  abbrev pub Passes : ActionRecord → Type 0
  Passes r = record_takes image bases x t.types r.filter ≡ Ok false

  -- The record is met from the first one on: those before it pass the exception on, and are fewer than the action table has bytes.
  pub record IsMet (first : ℕ) (before : List ActionRecord) (r : ActionRecord) : Type 0 where
    pub leads : LeadTo t.head.actions first before r
    pub few : length before < length t.head.actions.bytes
    pub pass : AllByRecursion Passes before

  -- the first record of a chain that takes the exception has this number
  pub record TakesFirst (first filter : ℕ) : Type 0 where
    pub before : List ActionRecord
    pub taker : ActionRecord
    pub met : IsMet first before taker
    pub takes : Takes taker
    pub number : taker.filter ≡ filter

  -- no record of a chain takes the exception, and whether one of them is a cleanup
  pub record NoneTakes (first : ℕ) (cleans : Bool) : Type 0 where
    pub before : List ActionRecord
    pub last : ActionRecord
    pub met : IsMet first before last
    pub passes : Passes last
    pub ends : last.distance ≡ 0
    pub cleanup : list_any is_cleanup (before ++ (last ∷ [])) ≡ cleans

-- ---- what a function asks, by the call site and the record that decide

-- what pointers of a function's language table may be relative to: the function's start beside the rest
abbrev pub bases_at : LanguagePlace → Bases
bases_at p = record p.bases { func = Some p.start }

-- There is a language table, it reads, and this call site of it decides at an address, or none does.
pub record DecidesAt (image : List Span) (p : LanguagePlace) (a : ℕ) (t : CxxTable) (site : Option CallSite) : Type 0 where
  pub there : p.lsda ≢ 0
  pub reads : cxx_table image (bases_at p) p.start (input_at image p.lsda) ≡ Ok t
  pub decides : site_from (length t.head.sites.bytes) image (bases_at p) p.start a t.head.site_encoding t.head.sites ≡ Ok site

-- A call site decides that has a landing pad, at this address.
pub record LandsAt (image : List Span) (p : LanguagePlace) (a : ℕ) (t : CxxTable) (s : CallSite) (pad : ℕ) : Type 0 where
  pub site : DecidesAt image p a t (Some s)
  pub some : s.pad ≢ 0
  pub address : sum_below t.head.pad_base s.pad ≡ Ok pad

-- its index, which counts from 1, leads into the action table
pub record IsIndexed (t : CxxTable) (s : CallSite) : Type 0 where
  pub some : s.index ≢ 0
  pub inside : s.index - 1 < length t.head.actions.bytes

module _ (image : List Span) (x : Exception) (p : LanguagePlace) (a : ℕ) where
  -- the first record of the chain that takes the exception is a handler's or a violated specification's, of this number
  abbrev pub FindsHandler : ℕ → ℕ → Type 0
  FindsHandler pad filter = (t : CxxTable) × (s : CallSite) × LandsAt image p a t s pad × IsIndexed t s × TakesFirst image (bases_at p) x t (s.index - 1) filter

  -- and its landing pad is entered
  abbrev pub AsksHandler : ℕ → ℕ → Type 0
  AsksHandler pad filter = FindsHandler pad filter × IsFalse (ends_instead x filter)

  -- there is no chain, or one that has a cleanup and no record that takes the exception
  abbrev pub AsksCleanup : ℕ → Type 0
  AsksCleanup pad = (t : CxxTable) × (s : CallSite) × LandsAt image p a t s pad × ((s.index ≡ 0) ⊎ (IsIndexed t s × NoneTakes image (bases_at p) x t (s.index - 1) true))

  -- there is no language table, or no landing pad, or a chain without a cleanup and without a record that takes the exception
  abbrev pub AsksNothing : Type 0
  AsksNothing = (p.lsda ≡ 0) ⊎ ((t : CxxTable) × (s : CallSite) × ((DecidesAt image p a t (Some s) × (s.pad ≡ 0)) ⊎ ((pad : ℕ) × LandsAt image p a t s pad × IsIndexed t s × NoneTakes image (bases_at p) x t (s.index - 1) false)))

  -- no call site decides, so that no exception may leave the call
  abbrev pub LeavesNone : Type 0
  LeavesNone = (t : CxxTable) × DecidesAt image p a t None

  -- or a specification takes an exception that isn't native, by libstdc++
  abbrev pub AsksEnd : Type 0
  AsksEnd = LeavesNone ⊎ ((pad filter : ℕ) × FindsHandler pad filter × IsTrue (ends_instead x filter))
