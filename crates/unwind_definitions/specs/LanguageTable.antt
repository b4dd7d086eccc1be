-- Language tables (LSDA) as compilers emit them: call sites of a function, and what each asks.
-- Itanium C++ ABI, exception handling tables; LSB, section on exception frames.
use Rattle.std.specs.Prelude.{◌≡◌, ◌≢◌, ℕ, ◌+◌, ◌-◌, ◌^◌, List, [], ◌∷◌, Option, Some, None, Result, Ok, nat_lt, ◌==◌, if◌then◌else◌}
use Rattle.std.specs.Int.{w8}
use Rattle.memory_image.specs.Image.{Span, table_at}
use Rattle.unwind_definitions.specs.Faults.{Fault, UnsupportedPointerEncoding, ◌>>=◌, unless}
use Rattle.unwind_definitions.specs.Input.{Input, Reads, skip, split, number, uleb, sleb}
use Rattle.unwind_definitions.specs.PointerEncodings.{DW_EH_PE_uleb128, DW_EH_PE_omit}
use Rattle.unwind_definitions.specs.Pointers.{Pointer, Direct, Indirect, encoding}
use Rattle.unwind_definitions.specs.Function.{Function, Site, Action, NoAction, Cleanup, Catch, Filter}

-- the bytes from an address to the end of its region
abbrev pub input_at : List Span → ℕ → Input
input_at image a = record { base = a; offset = 0; bytes = table_at image a }

-- what a number of the action table asks, above 0 a catch and below 0 a filter
abbrev pub numbered_action : ℕ → ℕ → Action
numbered_action pad n = if n == 0 then Cleanup pad else (if nat_lt n (2 ^ 63) then Catch pad else Filter pad)

-- What a site asks, by its pad's distance from the function's start, and its index into the action table, which counts from 1.
abbrev pub action_of : ℕ → Input → ℕ → ℕ → Result Action Fault
action_of start actions pad index =
    if pad == 0 then Ok NoAction
    else (if index == 0 then Ok (Cleanup (start + pad))
    else (sleb (skip (index - 1) actions) >>= λ n. Ok (numbered_action (start + pad) n.0)))

-- four numbers: a site's distance from the function's start, its length, its pad, and its index
abbrev pub site_at : ℕ → Input → Reads Site
site_at start actions c = do
  from ← uleb c
  len ← uleb from.1
  pad ← uleb len.1
  index ← uleb pad.1
  action ← action_of start actions pad.0 index.0
  Ok (record { range = record { from = start + from.0; to = start + from.0 + len.0 }; action = action }, index.1)

-- all of the bytes are these sites
abbrev pub AreSites : ℕ → Input → Input → List Site → Type 0
AreSites start actions c [] = c.bytes ≡ []
AreSites start actions c (s ∷ ss) = (next : Input) × (site_at start actions c ≡ Ok (s, next)) × AreSites start actions next ss

-- an encoding of types, and a number unless there are none
abbrev pub types : Reads ℕ
types c = do
  type ← encoding c
  if type.0 == DW_EH_PE_omit then Ok type else uleb type.1

-- what stands before the sites: no pad base, the types, sites in uleb128 numbers, and how many bytes they take
abbrev pub site_bytes : Reads ℕ
site_bytes c = do
  base ← number w8 c
  _ ← unless (base.0 == DW_EH_PE_omit) UnsupportedPointerEncoding
  after ← types base.1
  site ← number w8 after.1
  _ ← unless (site.0 == DW_EH_PE_uleb128) UnsupportedPointerEncoding
  uleb site.1

-- At an address, which isn't 0, stands a language table of a function that starts here, with these sites, and the action
-- table after them. It lies in one region.
pub record IsLanguageTable (image : List Span) (a start : ℕ) (sites : List Site) : Type 0 where
  pub nonzero : a ≢ 0
  pub size : ℕ
  pub after : Input
  pub header : site_bytes (input_at image a) ≡ Ok (size, after)
  pub listed : Input
  pub actions : Input
  pub parts : split size after ≡ Ok (listed, actions)
  pub each : AreSites start actions listed sites

-- a pointer leads to a function's language table; without one the function has none
abbrev pub LeadsToLanguage : List Span → Function → Option Pointer → Type 0
LeadsToLanguage image f None = f.sites ≡ None
LeadsToLanguage image f (Some (Direct a)) = (sites : List Site) × (f.sites ≡ Some sites) × IsLanguageTable image a f.start sites
LeadsToLanguage image f (Some (Indirect a)) = ⊥
