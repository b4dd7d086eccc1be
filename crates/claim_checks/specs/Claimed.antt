-- What a JSON value says as functions that a module is claimed to have, and what a check of them answers.
use Rattle.std.specs.Prelude.{◌≡◌, ℕ, List, [], ◌∷◌, Option, Some, None, Result, Ok, Err}
use Rattle.serde_json.specs.Data.{Data}
use Rattle.memory_image.specs.Results.{◌>>=◌}
use Rattle.stack_steps.specs.declared.space.Module.{Module}
use Rattle.stack_steps.specs.declared.space.ModuleTables.{ModuleTables}
use Rattle.stack_steps.specs.declared.space.ModuleTables.TheVariants.{Elf}
use Rattle.table_check.specs.declared.verdict.Verdict.{Verdict}
use Rattle.table_check.specs.Modules.{AreDescribed}
use Rattle.table_check.specs.Verdicts.{IsVerdict}
use Rattle.stack_snapshot.specs.declared.errors.Field.{Field}
use Rattle.stack_snapshot.specs.declared.errors.Field.TheVariants as fields
use Rattle.stack_snapshot.specs.declared.errors.SnapshotError.{SnapshotError}
use Rattle.stack_snapshot.specs.declared.errors.SnapshotError.TheVariants.{NotJson, Bad}
use Rattle.stack_snapshot.specs.Answers.{value_of}
use Rattle.stack_snapshot.specs.Content.{image_of}
use Rattle.stack_snapshot.specs.Memory.{memory_of}
use Rattle.stack_snapshot.specs.Snapshot.{needs}
use Rattle.claim_checks.specs.declared.claimed.ClaimedModule.{ClaimedModule}
use Rattle.claim_checks.specs.declared.claimed.ElfModule.{ElfModule}
use Rattle.claim_checks.specs.Functions.{functions_of}

-- ---- the module

abbrev pub elf_by : Module → ModuleTables → Option ElfModule
elf_by m (Elf frame) = Some (record { start = m.start; end = m.end; frame = frame })
elf_by m tables = None

-- an ELF module
abbrev pub elf_of : Module → Option ElfModule
elf_of m = elf_by m m.tables

-- one module, which is an ELF module
abbrev pub one_elf : List Module → Option ElfModule
one_elf [] = None
one_elf (m ∷ []) = elf_of m
one_elf (m ∷ n ∷ modules) = None

-- ---- reading

-- the module and the functions that a value says, or the first faulty field
unfoldable pub claimed_of : Data → Result ClaimedModule Field
claimed_of d = do
  memory ← memory_of d
  elf ← needs fields.Modules (one_elf memory.modules)
  claims ← needs fields.Functions (functions_of d)
  Ok (record { memory = memory; elf = elf; claims = claims })

abbrev pub claimed_with : Result ClaimedModule Field → Result ClaimedModule SnapshotError
claimed_with (Ok c) = Ok c
claimed_with (Err field) = Err (Bad field)

abbrev pub claimed_by : Option Data → Result ClaimedModule SnapshotError
claimed_by None = Err NotJson
claimed_by (Some value) = claimed_with (claimed_of value)

-- the module and the functions that bytes say, or why they say none
abbrev pub claimed_in : List ℕ → Result ClaimedModule SnapshotError
claimed_in bytes = claimed_by (value_of bytes)

-- ---- checking

-- the verdict on what is claimed
abbrev pub IsVerdictOn : ClaimedModule → Verdict → Type 0
IsVerdictOn c verdict = IsVerdict (image_of [] c.memory.regions) c.elf.start c.elf.end c.elf.frame c.claims verdict

-- so there is no other verdict
pub record IsTheVerdictOn (c : ClaimedModule) (verdict : Verdict) : Type 0 where
  pub is : IsVerdictOn c verdict
  pub only : (other : Verdict) → IsVerdictOn c other → verdict ≡ other

-- the functions ascend, and the module describes them
abbrev pub Describes : ClaimedModule → Type 0
Describes c = AreDescribed (image_of [] c.memory.regions) c.elf.start c.elf.end c.elf.frame c.claims
