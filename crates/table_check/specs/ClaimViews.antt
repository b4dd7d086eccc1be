-- Claims as the functions that they state.
use Rattle.std.specs.Prelude.{ℕ, Bool, List, map, Option, Some, None, ◌==◌, if◌then◌else◌}
use Rattle.unwind_definitions.specs.Columns as column
use Rattle.unwind_definitions.specs.State.{RBX, RBP, R12, R13, R14, R15}
use Rattle.unwind_definitions.specs.Prologue.{Register, Followed, RDI, RSI, XMM, Step, Push, Allocate, SetFrame, Store, PrologueStep}
use Rattle.unwind_definitions.specs.Function.{Function, Range, Site}
use Rattle.unwinding_frames.specs.LanguageViews.{action_of}
use Rattle.table_check.specs.declared.claims.ClaimStep.{ClaimStep}
use Rattle.table_check.specs.declared.claims.ClaimStep.TheVariants as claimed
use Rattle.table_check.specs.declared.claims.ClaimedStep.{ClaimedStep}
use Rattle.table_check.specs.declared.claims.AddressRange.{AddressRange}
use Rattle.table_check.specs.declared.claims.ClaimedSite.{ClaimedSite}
use Rattle.table_check.specs.declared.claims.Claim.{Claim}

-- The register of a column. A column of which no prologue speaks stands as a vector register, which code in ELF modules
-- doesn't save either.
abbrev pub register_of : ℕ → Register
register_of c =
    if c == column.rbx then Followed RBX
    else (if c == column.rbp then Followed RBP
    else (if c == column.r12 then Followed R12
    else (if c == column.r13 then Followed R13
    else (if c == column.r14 then Followed R14
    else (if c == column.r15 then Followed R15
    else (if c == column.rdi then RDI
    else (if c == column.rsi then RSI
    else XMM c)))))))

abbrev pub step_of : ClaimStep → Step
step_of (claimed.Push r) = Push (register_of r.0)
step_of (claimed.Allocate n) = Allocate n
step_of (claimed.Set m) = SetFrame m
step_of (claimed.Store r k) = Store (register_of r.0) k

abbrev pub prologue_step_of : ClaimedStep → PrologueStep
prologue_step_of s = record { step = step_of s.step; end = s.end }

abbrev pub range_of : AddressRange → Range
range_of r = record { from = r.from; to = r.to }

abbrev pub site_of : ClaimedSite → Site
site_of s = record { range = range_of s.range; action = action_of s.action }

-- the call sites of a language table, if there is one
abbrev pub sites_of : Bool → List ClaimedSite → Option (List Site)
sites_of has_table sites = if has_table then Some (map site_of sites) else None

abbrev pub function_of : Claim → Function
function_of c = record {
  start = c.start;
  end = c.end;
  prologue = map prologue_step_of c.steps.items;
  bodies = map range_of c.bodies.items;
  sites = sites_of c.has_table c.sites.items;
  outermost = c.is_outermost;
}
