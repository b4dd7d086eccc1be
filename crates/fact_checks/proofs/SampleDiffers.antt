-- A row after a claimed stretch has another CFA.
use Rattle.std.proofs.Common.{◌≡◌, ℕ, ◌^◌, ◌-◌, Option, Some, None, ◌∷◌, [], refl, sym, ◌∙◌, inl, inr, arith, lit<, lit≤}
use Rattle.unwind_definitions.specs.Columns as column
use Rattle.unwind_definitions.specs.Instructions.{Advance, CfaOffset, Write, Offset, instruction_of}
use Rattle.unwind_definitions.specs.Row.{ColumnAndOffset, RowInstructions, row_at}
use Rattle.frame_facts.specs.Facts.{Facts}
use Rattle.frame_facts.specs.FactRows.{IsKnownCfa}
use Rattle.frame_facts_laws.specs.SampleProgram as program
use Rattle.fact_checks.specs.Audits.{DiffersAt}
use Rattle.fact_checks.specs.ClaimViews.{claim_of, facts_of}
use Rattle.fact_checks.specs.SampleClaims as sample

abbrev row_after : RowInstructions
row_after = record { common = program.cie_program; own = Advance 1 ∷ CfaOffset 16 ∷ Write column.rbp (Offset (2 ^ 64 - 16)) ∷ Advance 4 ∷ CfaOffset 24 ∷ Write column.rbx (Offset (2 ^ 64 - 24)) ∷ Advance 7 ∷ CfaOffset 32 ∷ Advance 18 ∷ CfaOffset 24 ∷ [] }

-- where the CFA is known by RSP alone, RSP plus another number isn't known
not_known : (facts : Facts) → facts.rsp ≡ Some 32 → facts.rbp ≡ None → IsKnownCfa facts (ColumnAndOffset column.rsp 24) → ⊥
not_known facts rsp rbp (n, inl (is, e)) = let a : ◌≡◌ {A = Option ℕ} (Some 32) (Some n) = sym rsp ∙ is in let x : 32 ≡ n = cc in let y : 24 ≡ n = cc in omega (arith, x, y)
not_known facts rsp rbp (n, inr (is, e)) = let a : ◌≡◌ {A = Option ℕ} None (Some n) = sym rbp ∙ is in absurd cc

pub longer_differs : DiffersAt program.bases program.fdes (claim_of sample.longer) 0x40109e sample.mismatch
unfolding row_at instruction_of
longer_differs = record {
  fde = program.sums;
  contains = record { listed = (3, lit< tt, refl); from = lit≤ tt; to = lit≤ tt };
  inside = refl;
  differs = (row_after, refl, (ColumnAndOffset column.rsp 24, refl, not_known (facts_of sample.longer) refl refl, refl));
}
