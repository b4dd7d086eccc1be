-- Which description is looked up for a claim, and how far its rows were gone through. No public clause cites this.
use Rattle.std.specs.Prelude.{◌≡◌, ℕ, ◌+◌, ◌≤◌, true, false, List, Option, Some, None}
use Rattle.std.specs.List.{Contains}
use Rattle.std.specs.Result.{result_ok}
use Rattle.unwind_definitions.specs.Pointers.{Bases}
use Rattle.unwind_definitions.specs.Entries.{Fde}
use Rattle.unwind_definitions.specs.Header.{PairTable}
use Rattle.unwind_definitions.specs.HeaderSearch.{table_answer}
use Rattle.unwind_definitions.specs.Row.{covers_pc}
use Rattle.unwind_definitions.specs.Scan.{first_covering, scan}
use Rattle.frame_facts.specs.Claims.{Claim}
use Rattle.eh_frame.specs.EntryViews.{fde_of}
use Rattle.eh_frame.specs.Index.{Index, IsPreparedFrom}
use Rattle.fde_finders.specs.FrameTables.{FrameTable}
use Rattle.frame_rows.specs.declared.row_walk.RowWalk.{RowWalk}
use Rattle.fact_checks.specs.declared.auditing.Begun.{Begun}
use Rattle.fact_checks.specs.declared.rows.Mismatch.{Mismatch}
use Rattle.fact_checks.specs.declared.rows.Mismatch.TheVariants as mismatch
use Rattle.fact_checks.specs.Stretches.{HasRowAt}

-- ---- look-ups

-- what a header's table finds for an address, or a scan where there is none
abbrev pub found_by : FrameTable → ℕ → Option PairTable → Option Fde
found_by t pc None = result_ok (scan t.bases t.entries pc)
found_by t pc (Some pairs) = result_ok (table_answer t.bases t.entries pairs pc)

abbrev pub description_at : FrameTable → ℕ → Option Fde
description_at t pc = found_by t pc t.pairs

-- an index was prepared from the table, if there is one
abbrev pub IsIndexOf : FrameTable → Option Index → Type 0
IsIndexOf t None = Unit {0}
IsIndexOf t (Some index) = IsPreparedFrom t.bases t.entries index

-- the first of these descriptions that contains the address
abbrev pub FindsAmong : FrameTable → List Fde → Type 0
FindsAmong t fdes = (pc : ℕ) → description_at t pc ≡ first_covering fdes pc

-- ---- what is begun

-- a walk has a row of a description, at or before an address
abbrev pub IsBegun : Bases → RowWalk → ℕ → Option Begun → Type 0
IsBegun bases walk pc None = Unit {0}
IsBegun bases walk pc (Some b) = HasRowAt bases (fde_of b.fde) walk b.at × (b.at ≤ pc)

-- the description is one of these
abbrev pub IsListed : List Fde → Option Begun → Type 0
IsListed fdes None = Unit {0}
IsListed fdes (Some b) = Contains fdes (fde_of b.fde)

-- it is one of these and contains an address, or none does
abbrev pub IsListedAt : List Fde → ℕ → Option Begun → Type 0
IsListedAt fdes pc None = (fde : Fde) → Contains fdes fde → covers_pc fde pc ≡ false
IsListedAt fdes pc (Some b) = Contains fdes (fde_of b.fde) × (covers_pc (fde_of b.fde) pc ≡ true)

-- ---- what is asked

-- a description's range ends no earlier than a claim's, and it isn't one of a signal's frame
abbrev pub MayAsk : Fde → Claim → Type 0
MayAsk fde c = (c.range.to ≤ fde.start + fde.size) × (fde.cie.letters.signal ≡ false)

abbrev pub RefusesRange : Fde → Claim → Mismatch → Type 0
RefusesRange fde c mismatch.NoDescription = c.range.to ≤ fde.start + fde.size → ⊥
RefusesRange fde c mismatch.SignalFrame = (c.range.to ≤ fde.start + fde.size) × (fde.cie.letters.signal ≡ true)
RefusesRange fde c _ = ⊥
