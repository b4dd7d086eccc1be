-- Which programs of common information entries a builder of rows has begun, while descriptions are kept. No public clause cites this.
use Rattle.std.specs.Prelude.{◌≡◌, ℕ, Some, IfSome}
use Rattle.unwind_definitions.specs.Instructions.{Program}
use Rattle.frame_rows.specs.Begun.{HasBegun, HasBegunBefore}
use Rattle.frame_rows.specs.declared.row_table_builder.RowTableBuilder.{RowTableBuilder}
use Rattle.eh_frame.specs.declared.cie_cache.CieCache.{CieCache}
use Rattle.eh_frame.specs.declared.cie_cache.CachedCie.{CachedCie}
use Rattle.eh_frame.specs.declared.cie_cache.CachedCie.TheVariants.{Last, BeforeLast, Other}

-- the entry at an index is the last from now on
abbrev pub Turns : CieCache → ℕ → CachedCie → CieCache → Type 0
Turns old cie Last new = (old.last ≡ Some cie) × (new ≡ old)
Turns old cie BeforeLast new = (old.before ≡ Some cie) × (new.last ≡ Some cie) × (new.before ≡ old.last)
Turns old cie Other new = (new.last ≡ Some cie) × (new.before ≡ old.last)

-- a program that was run is begun
abbrev pub WasBegun : CachedCie → RowTableBuilder → Program → Type 0
WasBegun Last builder common = HasBegun builder common
WasBegun BeforeLast builder common = HasBegunBefore builder common
WasBegun Other builder common = Unit {0}

-- a program is the last before the one that is turned to
abbrev pub ComesBefore : CachedCie → RowTableBuilder → Program → Type 0
ComesBefore Last builder before = HasBegunBefore builder before
ComesBefore BeforeLast builder before = HasBegun builder before
ComesBefore Other builder before = HasBegun builder before

-- the programs of these entries are begun
abbrev pub AreBegun : (ℕ → Program) → CieCache → RowTableBuilder → Type 0
AreBegun program_of cies builder = IfSome cies.last (λ i. HasBegun builder (program_of i)) × IfSome cies.before (λ i. HasBegunBefore builder (program_of i))
