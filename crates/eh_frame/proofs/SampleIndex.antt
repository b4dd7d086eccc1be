-- The index of the sample is prepared from its table, whatever pointers may be relative to: those of the sample are relative to their
-- places.
use Rattle.std.proofs.Common.{◌≡◌, ℕ, ◌+◌, ◌-◌, ◌^◌, ◌<◌, ◌≤◌, Bool, true, false, cond, List, [], ◌∷◌, Some, None, Ok, refl, sym, ap, ◌∙◌, subst, inl, inr, arith}
use Rattle.std.specs.Prelude.{◌==◌}
use Rattle.std.specs.Option.{option_or, unwrap_or}
use Rattle.std.specs.List.{sum_by}
use Rattle.std.proofs.lemmas.Bool.{le-ltb}
use Rattle.std.proofs.lemmas.List.Sorted.{IsPermutation-refl}
use Rattle.std.proofs.lemmas.List.Sums.{sum_by-cons}
use Rattle.unwind_definitions.specs.Instructions.{Offset, Instruction, Nop, Advance, Write, Cfa, CfaOffset, Program, instruction_of}
use Rattle.unwind_definitions.specs.Entries.{AreEntries, entry_at}
use Rattle.unwind_definitions.specs.Pointers.{Bases}
use Rattle.unwind_definitions.specs.Row.{RowInstructions, row, row_of, up_to}
use Rattle.frame_rows.specs.KeptRows.{AreKeptOf}
use Rattle.frame_rows.specs.Rows.{GivesRow, IsRowOf}
use Rattle.eh_frame.specs.Index.{CannotBePrepared, IsPreparedFrom, common_program, own_program, rows_due, rules_due}
use Rattle.eh_frame.specs.Listed.{nonempty}
use Rattle.eh_frame.specs.PreparedSample.{table, fde, entries, row_at_start, row_in_body, kept, index}

entries_read : (bases : Bases) → AreEntries bases table 0 entries
unfolding entry_at
entries_read bases = (24, refl, (48, refl, refl))

-- ---- rows

abbrev common : List Instruction
common = Cfa 7 8 ∷ Write 16 (Offset (2 ^ 64 - 8)) ∷ Nop ∷ Nop ∷ []

abbrev own : List Instruction
own = Advance 1 ∷ CfaOffset 16 ∷ Write 3 (Offset (2 ^ 64 - 16)) ∷ Nop ∷ Nop ∷ []

abbrev program_of : List Instruction → Program
program_of is = record { instructions = is; fault = None }

common_is : (bases : Bases) → common_program bases fde ≡ program_of common
unfolding instruction_of
common_is bases = refl

own_is : (bases : Bases) → own_program bases fde ≡ program_of own
unfolding instruction_of
own_is bases = refl

abbrev at_start : RowInstructions
at_start = record { common = common; own = [] }

abbrev in_body : RowInstructions
in_body = record { common = common; own = own }

is_row_at_start : IsRowOf row_at_start at_start
is_row_at_start = record { cfa = refl; rules = λ c. go (16 == c); arguments = refl }
  where
    go : (b : Bool) → cond b (Some (Offset (2 ^ 64 - 8))) None ≡ unwrap_or (option_or (cond b (Some (Some (Offset (2 ^ 64 - 8)))) None) None) None
    go true = refl
    go false = refl

is_row_in_body : IsRowOf row_in_body in_body
is_row_in_body = record { cfa = refl; rules = λ c. go (3 == c) (16 == c); arguments = refl }
  where
    go : (a b : Bool) → cond a (Some (Offset (2 ^ 64 - 16))) (cond b (Some (Offset (2 ^ 64 - 8))) None)
        ≡ unwrap_or (option_or (option_or (cond a (Some (Some (Offset (2 ^ 64 - 16)))) None) None) None) (unwrap_or (option_or (cond b (Some (Some (Offset (2 ^ 64 - 8)))) None) None) None)
    go true b = refl
    go false true = refl
    go false false = refl

first_row : (pc : ℕ) → 0x401000 ≤ pc → pc < 0x401001 → GivesRow (Ok row_at_start) (row 0x401000 pc (program_of common) (program_of own))
first_row pc from to =
    let same : 0x401000 ≡ pc = omega arith in
    subst (λ pc. GivesRow (Ok row_at_start) (row 0x401000 pc (program_of common) (program_of own))) same (at_start, refl, is_row_at_start)

reached : (pc : ℕ) → 0x401001 ≤ pc → up_to 0x401000 pc own ≡ own
reached pc from = rw (le-ltb pc 0x401001 from) refl

second_row : (pc : ℕ) → 0x401001 ≤ pc → pc < 0x401010 → GivesRow (Ok row_in_body) (row 0x401000 pc (program_of common) (program_of own))
second_row pc from to =
    subst (λ is. GivesRow (Ok row_in_body) (row_of 0x401000 (program_of common) (program_of own) is)) (sym (reached pc from)) (in_body, refl, is_row_in_body)

are_kept : (bases : Bases) → AreKeptOf 0x401000 0x401010 (common_program bases fde) (own_program bases fde) kept
are_kept bases = rw (common_is bases, own_is bases) plain
  where
    plain : AreKeptOf 0x401000 0x401010 (program_of common) (program_of own) kept
    plain = record { locations = refl; rows = (first_row, (second_row, tt)) }

-- ---- counts

rows_of_one : (bases : Bases) → rows_due bases fde ≡ 2
unfolding rows_due instruction_of
rows_of_one bases = refl

rules_of_one : (bases : Bases) → rules_due bases fde ≡ 3
unfolding rules_due instruction_of
rules_of_one bases = refl

all_rows : (bases : Bases) → sum_by (rows_due bases) (nonempty entries) ≡ 2
all_rows bases = sum_by-cons (rows_due bases) fde [] ∙ ap (λ n. n + 0) (rows_of_one bases)

all_rules : (bases : Bases) → sum_by (rules_due bases) (nonempty entries) ≡ 3
all_rules bases = sum_by-cons (rules_due bases) fde [] ∙ ap (λ n. n + 0) (rules_of_one bases)

pub is_prepared : (bases : Bases) → IsPreparedFrom bases table index
is_prepared bases = record {
  from_start = refl;
  entries = entries;
  are = entries_read bases;
  each = IsPermutation-refl (fde ∷ []);
  some = omega arith;
  apart = (omega arith, omega arith, tt);
  rowed = (are_kept bases, tt);
  row_count = sym (all_rows bases);
  rule_count = sym (all_rules bases);
}

-- of two rows one is too many
pub is_limited : (bases : Bases) → CannotBePrepared bases table 1 3
is_limited bases = inr (record { entries = entries; are = entries_read bases; unfit = inr (inr (inl (let n = all_rows bases in omega arith))) })
