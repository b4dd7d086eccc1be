-- What a language table (LSDA) asks of a frame that is stopped at an address, on any bytes whatever.
-- Itanium C++ ABI, exception handling tables: the table's head, its call sites in order, and the action table.
use Rattle.std.specs.Prelude.{◌≡◌, ◌≢◌, ◌⊎◌, ℕ, zero, suc, ◌+◌, ◌-◌, ◌%◌, ◌^◌, ◌<◌, ◌≤◌, Bool, List, [], ◌∷◌, length, Option, Some, None, Result, Ok, Err, nat_lt, ◌==◌, if◌then◌else◌}
use Rattle.std.specs.Option.{option_map, option_map_or}
use Rattle.std.specs.Result.{result_map_both}
use Rattle.memory_image.specs.Image.{Span}
use Rattle.unwind_definitions.specs.Faults.{Fault, AddressOverflow, ◌>>=◌}
use Rattle.unwind_definitions.specs.Input.{Input, skip, split, uleb, sleb}
use Rattle.unwind_definitions.specs.PointerEncodings.{DW_EH_PE_omit}
use Rattle.unwind_definitions.specs.Pointers.{Bases, Pointer, Direct, Indirect, encoding, pointer}
use Rattle.unwind_definitions.specs.Entries.{Fde}
use Rattle.unwind_definitions.specs.Function.{Action, NoAction, Cleanup, Terminate}
use Rattle.unwind_definitions.specs.LanguageTable.{input_at, numbered_action, types}
use Rattle.unwind_definitions.specs.Caller.{StepFault, Table, word_or_fault}

-- ---- readings that also follow pointers into the memory

-- a reading of the table's own bytes
abbrev pub table_reading : {A : Type 0} → Result A Fault → Result A StepFault
table_reading = result_map_both (λ x. x) Table

-- where a pointer leads: to its address, or to the address that the cell there holds
abbrev pub target : List Span → Pointer → Result ℕ StepFault
target image (Direct a) = Ok a
target image (Indirect a) = word_or_fault image a

-- an address by an encoding, and what is left
abbrev pub address : List Span → ℕ → Bases → Input → Result (ℕ × Input) StepFault
address image e bases c = do
  p ← table_reading (pointer e bases c)
  a ← target image p.0
  Ok (a, p.1)

-- a sum of addresses, which must be an address
abbrev pub sum_below : ℕ → ℕ → Result ℕ StepFault
sum_below a b = if nat_lt (a + b) (2 ^ 64) then Ok (a + b) else Err (Table AddressOverflow)

-- ---- a table's head

-- what landing pads count from, how the numbers of a call site are encoded, the call sites, and the action table after them
pub record Head : Type 0 where
  pub pad_base : ℕ
  pub site_encoding : ℕ
  pub sites : Input
  pub actions : Input

-- the encoding of the landing pads' base, and the base unless there is none: it is the function's start then
abbrev pub pad_base : List Span → Bases → ℕ → Input → Result (ℕ × Input) StepFault
pad_base image bases start c = do
  e ← table_reading (encoding c)
  if e.0 == DW_EH_PE_omit then Ok (start, e.1) else address image e.0 bases e.1

-- the landing pads' base, the types, how call sites are encoded, how many bytes they take, and these
abbrev pub head : List Span → Bases → ℕ → Input → Result Head StepFault
head image bases start c = do
  base ← pad_base image bases start c
  after ← table_reading (types base.1)
  site ← table_reading (encoding after.1)
  size ← table_reading (uleb site.1)
  parts ← table_reading (split size.0 size.1)
  Ok (record { pad_base = base.0; site_encoding = site.0; sites = parts.0; actions = parts.1 })

-- ---- call sites

-- a call site: how far from the function's start it begins, how long it is, how far from the landing pads' base its pad is,
-- and its index into the action table, which counts from 1
pub record CallSite : Type 0 where
  pub from : ℕ
  pub size : ℕ
  pub pad : ℕ
  pub index : ℕ

abbrev pub call_site : List Span → Bases → ℕ → Input → Result (CallSite × Input) StepFault
call_site image bases e c = do
  from ← address image e bases c
  size ← address image e bases from.1
  pad ← address image e bases size.1
  index ← table_reading (uleb pad.1)
  Ok (record { from = from.0; size = size.0; pad = pad.0; index = index.0 }, index.1)

-- what a landing pad is entered for: a cleanup, or what its number in the action table says
abbrev pub pad_action : Input → ℕ → ℕ → Result Action StepFault
pad_action actions pad index =
    if index == 0 then Ok (Cleanup pad)
    else (table_reading (sleb (skip (index - 1) actions)) >>= λ n. Ok (numbered_action pad n.0))

-- what a call site asks of a call in it: nothing where it has no landing pad
abbrev pub site_action : Head → CallSite → Result Action StepFault
site_action h s =
    if s.pad == 0 then Ok NoAction
    else (sum_below h.pad_base s.pad >>= λ pad. pad_action h.actions pad s.index)

-- what a call site of a function that starts here decides for an address: the program ends where the site begins past it;
-- what the site asks where it holds it; nothing where it ends before it
abbrev pub decision : ℕ → ℕ → Head → CallSite → Result (Option Action) StepFault
decision start a h s = do
  from ← sum_below start s.from
  if nat_lt a from then Ok (Some Terminate) else (do
    to ← sum_below from s.size
    if nat_lt a to then (site_action h s >>= λ x. Ok (Some x)) else Ok None)

-- ---- the search

-- a decision, or what a search after it gives
abbrev pub decided_or : Option Action → Result Action StepFault → Result Action StepFault
decided_or (Some x) later = Ok x
decided_or None later = later

-- the first decision among the call sites that these bytes hold, at most so many; the program ends where none decides
abbrev pub search_from : ℕ → List Span → Bases → ℕ → ℕ → Head → Input → Result Action StepFault
search_from zero image bases start a h c = Ok Terminate
search_from (suc turns) image bases start a h c =
    if length c.bytes == 0 then Ok Terminate
    else (call_site image bases h.site_encoding c >>= λ s. decision start a h s.0 >>= λ d. decided_or d (search_from turns image bases start a h s.1))

-- What a language table asks at an address of a function that starts here. A call site takes a byte at least, so there are
-- no more of them than bytes.
unfoldable pub search : List Span → Bases → ℕ → ℕ → Input → Result Action StepFault
search image bases start a table = head image bases start table >>= λ h. search_from (length h.sites.bytes) image bases start a h h.sites

-- ---- a frame's language table and personality

-- the address of a description's language table, 0 where it has none
abbrev pub language_address : List Span → Fde → Result ℕ StepFault
language_address image fde = option_map_or (target image) fde.language (Ok 0)

abbrev pub some_address : Result ℕ StepFault → Result (Option ℕ) StepFault
some_address r = r >>= λ a. Ok (Some a)

-- the routine that reads a description's language table, if it names one
abbrev pub personality_address : List Span → Fde → Result (Option ℕ) StepFault
personality_address image fde = option_map_or (λ p. some_address (target image p)) (option_map (λ p. p.1) fde.cie.letters.personality) (Ok None)

-- A frame's return address stands after a call, or at an instruction that a signal stopped.
abbrev pub address_of_call : ℕ → Bool → ℕ
address_of_call ra signal = if signal then ra else (ra + (2 ^ 64 - 1)) % 2 ^ 64

-- what the table at an address asks; nothing at the address 0
abbrev pub asked_by : List Span → Bases → ℕ → ℕ → ℕ → Result Action StepFault
asked_by image bases start a table = if table == 0 then Ok NoAction else search image bases start a (input_at image table)

-- Where the language table of a function stands: the function's start, the table's address, 0 where it has none, and what the
-- table's pointers may be relative to.
pub record LanguagePlace : Type 0 where
  pub start : ℕ
  pub lsda : ℕ
  pub bases : Bases

-- What the language table at a place asks at an address. Its pointers may be relative to the function's start.
abbrev pub place_action : List Span → LanguagePlace → ℕ → Result Action StepFault
place_action image p a = asked_by image (record p.bases { func = Some p.start }) p.start a p.lsda

-- the place of a description's language table
abbrev pub language_place : List Span → Bases → Fde → Result LanguagePlace StepFault
language_place image bases fde = do
  table ← language_address image fde
  Ok (record { start = fde.start; lsda = table; bases = bases })

-- what is asked at an address by a language table whose place is read, or can't be
abbrev pub table_action : List Span → ℕ → Result LanguagePlace StepFault → Result Action StepFault
table_action image a place = place >>= λ p. place_action image p a

-- What the language of a description's function asks at an address: nothing without a language table.
abbrev pub language_action : List Span → Bases → Fde → ℕ → Result Action StepFault
language_action image bases fde a = table_action image a (language_place image bases fde)

-- ---- which call site decides, in words

module _ (image : List Span) (bases : Bases) (start a : ℕ) (h : Head) where
  -- call sites, each after the one before, that all end at the address or before it
  abbrev pub Precede : Input → List CallSite → Input → Type 0
  Precede c [] d = c ≡ d
  Precede c (s ∷ ss) d = (next : Input) × (call_site image bases h.site_encoding c ≡ Ok (s, next)) × (start + s.from + s.size ≤ a) × Precede next ss d

  -- a call site begins past the address, and the program ends; or it holds the address, and says what is asked
  abbrev pub Says : CallSite → Action → Type 0
  Says s x = ((a < start + s.from) × (x ≡ Terminate)) ⊎ ((start + s.from ≤ a) × (a < start + s.from + s.size) × (site_action h s ≡ Ok x))

  -- the first call site that doesn't end before the address decides
  pub record FirstSays (c : Input) (x : Action) : Type 0 where
    pub before : List CallSite
    pub place : Input
    pub precede : Precede c before place
    pub site : CallSite
    pub after : Input
    pub stands : call_site image bases h.site_encoding place ≡ Ok (site, after)
    pub says : Says site x

  -- all call sites end before the address
  pub record NoneSays (c : Input) : Type 0 where
    pub sites : List CallSite
    pub end : Input
    pub precede : Precede c sites end
    pub ends : end.bytes ≡ []

  -- the first call site that decides says what is asked; where none does the program ends
  abbrev pub SitesAsk : Input → Action → Type 0
  SitesAsk c x = FirstSays c x ⊎ (NoneSays c × (x ≡ Terminate))

-- What the language of a description's function asks: nothing without a language table, else what the table's call sites do.
abbrev pub LanguageAsks : List Span → Bases → Fde → ℕ → Action → Type 0
LanguageAsks image bases fde a x =
    ((language_address image fde ≡ Ok 0) × (x ≡ NoAction))
    ⊎ ((table : ℕ) × (table ≢ 0) × (language_address image fde ≡ Ok table)
    × (h : Head) × (head image (record bases { func = Some fde.start }) fde.start (input_at image table) ≡ Ok h)
    × SitesAsk image (record bases { func = Some fde.start }) fde.start a h h.sites x)
