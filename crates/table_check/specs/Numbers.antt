-- Call sites by their numbers, and whether one is a claimed one. No public clause cites this.
use Rattle.std.specs.Prelude.{◌≡◌, ℕ, ◌+◌, ◌-◌, ◌^◌, Bool, true, false, Ok, Result, nat_lt, ◌==◌, if◌then◌else◌}
use Rattle.unwind_definitions.specs.declared.error.Error.{Error as Fault}
use Rattle.unwind_definitions.specs.Faults.{◌>>=◌}
use Rattle.unwind_definitions.specs.Input.{Input, Reads, skip, sleb, split, uleb}
use Rattle.unwind_definitions.specs.Function.{Action, Catch, Cleanup, Filter, Site}
use Rattle.unwind_definitions.specs.LanguageTable.{action_of, site_bytes}
use Rattle.table_check.specs.declared.language.PadKind.{PadKind}
use Rattle.table_check.specs.declared.language.PadKind.TheVariants as kind
use Rattle.table_check.specs.declared.language.SiteNumbers.{SiteNumbers}

-- the bytes of the call sites, after what stands before them, and the action table
abbrev pub sites_read : Reads Input
sites_read c = site_bytes c >>= λ size. split size.0 size.1

-- four numbers, one after another
abbrev pub site_numbers : Reads SiteNumbers
site_numbers c = do
  from ← uleb c
  len ← uleb from.1
  pad ← uleb len.1
  index ← uleb pad.1
  Ok (record { from = from.0; len = len.0; pad = pad.0; index = index.0 }, index.1)

-- what a landing pad is entered for, by a number of the action table, and by an index into it
abbrev pub kind_by : ℕ → PadKind
kind_by n = if n == 0 then kind.Cleanup else (if nat_lt n (2 ^ 63) then kind.Catch else kind.Filter)

abbrev pub kind_at : Input → ℕ → Result PadKind Fault
kind_at actions index = if index == 0 then Ok kind.Cleanup else (sleb (skip (index - 1) actions) >>= λ n. Ok (kind_by n.0))

abbrev pub asks_at : PadKind → ℕ → Action
asks_at kind.Cleanup pad = Cleanup pad
asks_at kind.Catch pad = Catch pad
asks_at kind.Filter pad = Filter pad

-- a site is what numbers spell
pub record IsSpelled (start : ℕ) (actions : Input) (n : SiteNumbers) (site : Site) : Type 0 where
  pub from : site.range.from ≡ start + n.from
  pub to : site.range.to ≡ site.range.from + n.len
  pub asks : action_of start actions n.pad n.index ≡ Ok site.action

-- what was read is the site, or no reading gives it
abbrev pub IsNextSite : Bool → Result (Site × Input) Fault → Site → Input → Type 0
IsNextSite true read site next = read ≡ Ok (site, next)
IsNextSite false read site next = (other : Input) → read ≡ Ok (site, other) → ⊥
