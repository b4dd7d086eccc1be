-- Three functions: their rows.
use Rattle.std.proofs.Common.{◌≡◌, ℕ, ◌-◌, ◌^◌, ◌<◌, ◌≤◌, leb, ltb, List, [], ◌∷◌, refl, ◌∙◌, arith, inl, inr, lit≤}
use Rattle.std.specs.Prelude.{IsTrue}
use Rattle.std.proofs.lemmas.Bool.{leb-true, ltb-true, cases_lt}
use Rattle.unwind_definitions.specs.Pointers.{Bases}
use Rattle.unwind_definitions.specs.Instructions.{Offset, Instruction, Nop, Advance, Write, Cfa, CfaColumn, CfaOffset, instruction_of}
use Rattle.unwind_definitions.specs.Row.{RowInstructions, row_at, rule_of}
use Rattle.unwind_definitions.specs.State.{column_of}
use Rattle.unwind_definitions.specs.Prologue.{steps_of, distance}
use Rattle.unwind_definitions.specs.Function.{in_body}
use Rattle.unwind_definitions.specs.DescribedRows.{HasRow, IsBodyRow, IsPrologueRow, MayFindLate, FindsRegister, ended_by, DescribesRows}
use Rattle.unwind_laws.specs.Three.{fde_a, fde_b, fde_c, fa, fb, fc}
use Rattle.unwind_laws.proofs.Booleans.{both_true, either_false}
use Rattle.unwind_laws.proofs.RowFacts.{by_register, unnamed, same_ended}
use Rattle.unwind_laws.proofs.Steady.{same_row_at}

abbrev common : List Instruction
common = Cfa 7 8 ∷ Write 16 (Offset (2 ^ 64 - 8)) ∷ Nop ∷ Nop ∷ []

abbrev own_a0 : RowInstructions
own_a0 = record { common = common; own = [] }

row_a0 : (bases : Bases) → HasRow bases fde_a 0x401000 (IsPrologueRow (ended_by 0 fa.prologue))
unfolding row_at instruction_of
row_a0 bases = (
  own_a0,
  refl,
  record {
    cfa = refl;
    ret = refl;
    saved = λ r. by_register (λ r. MayFindLate r (ended_by 0 fa.prologue) (rule_of own_a0 (column_of r))) (inl (inl refl)) (inl (inl refl)) (inl (inl refl)) (inl (inl refl)) (inl (inl refl)) (inl (inl refl)) r;
    others = λ c e. unnamed own_a0 refl refl c e;
    arguments = refl;
  },
)

abbrev own_a1 : RowInstructions
own_a1 = record { common = common; own = Advance 1 ∷ CfaOffset 16 ∷ Write 6 (Offset (2 ^ 64 - 16)) ∷ [] }

row_a1 : (bases : Bases) → HasRow bases fde_a 0x401001 (IsPrologueRow (ended_by 1 fa.prologue))
unfolding row_at instruction_of
row_a1 bases = (
  own_a1,
  refl,
  record {
    cfa = refl;
    ret = refl;
    saved = λ r. by_register (λ r. MayFindLate r (ended_by 1 fa.prologue) (rule_of own_a1 (column_of r))) (inl (inl refl)) (inl refl) (inl (inl refl)) (inl (inl refl)) (inl (inl refl)) (inl (inl refl)) r;
    others = λ c e. unnamed own_a1 refl refl c e;
    arguments = refl;
  },
)

abbrev own_a4 : RowInstructions
own_a4 = record { common = common; own = Advance 1 ∷ CfaOffset 16 ∷ Write 6 (Offset (2 ^ 64 - 16)) ∷ Advance 3 ∷ CfaColumn 6 ∷ [] }

row_a4 : (bases : Bases) → HasRow bases fde_a 0x401004 (IsPrologueRow (ended_by 4 fa.prologue))
unfolding row_at instruction_of
row_a4 bases = (
  own_a4,
  refl,
  record {
    cfa = refl;
    ret = refl;
    saved = λ r. by_register (λ r. MayFindLate r (ended_by 4 fa.prologue) (rule_of own_a4 (column_of r))) (inl (inl refl)) (inl refl) (inl (inl refl)) (inl (inl refl)) (inl (inl refl)) (inl (inl refl)) r;
    others = λ c e. unnamed own_a4 refl refl c e;
    arguments = refl;
  },
)

abbrev own_a5 : RowInstructions
own_a5 = record { common = common; own = Advance 1 ∷ CfaOffset 16 ∷ Write 6 (Offset (2 ^ 64 - 16)) ∷ Advance 3 ∷ CfaColumn 6 ∷ [] }

row_a5 : (bases : Bases) → HasRow bases fde_a 0x401005 (IsPrologueRow (ended_by 5 fa.prologue))
unfolding row_at instruction_of
row_a5 bases = (
  own_a5,
  refl,
  record {
    cfa = refl;
    ret = refl;
    saved = λ r. by_register (λ r. MayFindLate r (ended_by 5 fa.prologue) (rule_of own_a5 (column_of r))) (inr (refl, λ e. absurd cc)) (inl refl) (inl (inl refl)) (inl (inl refl)) (inl (inl refl)) (inl (inl refl)) r;
    others = λ c e. unnamed own_a5 refl refl c e;
    arguments = refl;
  },
)

abbrev own_a9 : RowInstructions
own_a9 = record { common = common; own = Advance 1 ∷ CfaOffset 16 ∷ Write 6 (Offset (2 ^ 64 - 16)) ∷ Advance 3 ∷ CfaColumn 6 ∷ Advance 5 ∷ Write 3 (Offset (2 ^ 64 - 24)) ∷ [] }

row_a9 : (bases : Bases) → HasRow bases fde_a 0x401009 (IsBodyRow (steps_of fa.prologue))
unfolding row_at instruction_of
row_a9 bases = (
  own_a9,
  refl,
  record {
    cfa = refl;
    ret = refl;
    saved = λ r. by_register (λ r. FindsRegister (distance r (steps_of fa.prologue)) (rule_of own_a9 (column_of r))) refl refl (inl refl) (inl refl) (inl refl) (inl refl) r;
    others = λ c e. unnamed own_a9 refl refl c e;
    arguments = refl;
  },
)

in_body_a : (pc : ℕ) → IsTrue (in_body fa pc) → (0x401009 ≤ pc) × (pc < 0x401020)
in_body_a pc h =
    let both = both_true (leb 0x401009 pc) (ltb pc 0x401020) (either_false _ h) in
    (leb-true 0x401009 pc both.0, ltb-true pc 0x401020 both.1)

prologue_a0 : (bases : Bases) → (pc : ℕ) → 0x401000 ≤ pc → pc < 0x401001 → HasRow bases fde_a pc (IsPrologueRow (ended_by (pc - 0x401000) fa.prologue))
unfolding instruction_of
prologue_a0 bases pc from below =
    let same = same_row_at bases fde_a 0x401000 0x401001 pc from below (lit≤ tt) (lit≤ tt) refl in
    let steps : ended_by (pc - 0x401000) fa.prologue ≡ ended_by 0 fa.prologue = same_ended fa.prologue 0 1 (pc - 0x401000) (omega arith) (omega arith) refl in
    let r = row_a0 bases in (r.0, same ∙ r.1, rw steps r.2)

prologue_a1 : (bases : Bases) → (pc : ℕ) → 0x401001 ≤ pc → pc < 0x401004 → HasRow bases fde_a pc (IsPrologueRow (ended_by (pc - 0x401000) fa.prologue))
unfolding instruction_of
prologue_a1 bases pc from below =
    let same = same_row_at bases fde_a 0x401001 0x401004 pc from below (lit≤ tt) (lit≤ tt) refl in
    let steps : ended_by (pc - 0x401000) fa.prologue ≡ ended_by 1 fa.prologue = same_ended fa.prologue 1 4 (pc - 0x401000) (omega arith) (omega arith) refl in
    let r = row_a1 bases in (r.0, same ∙ r.1, rw steps r.2)

prologue_a4 : (bases : Bases) → (pc : ℕ) → 0x401004 ≤ pc → pc < 0x401005 → HasRow bases fde_a pc (IsPrologueRow (ended_by (pc - 0x401000) fa.prologue))
unfolding instruction_of
prologue_a4 bases pc from below =
    let same = same_row_at bases fde_a 0x401004 0x401005 pc from below (lit≤ tt) (lit≤ tt) refl in
    let steps : ended_by (pc - 0x401000) fa.prologue ≡ ended_by 4 fa.prologue = same_ended fa.prologue 4 5 (pc - 0x401000) (omega arith) (omega arith) refl in
    let r = row_a4 bases in (r.0, same ∙ r.1, rw steps r.2)

prologue_a5 : (bases : Bases) → (pc : ℕ) → 0x401005 ≤ pc → pc < 0x401009 → HasRow bases fde_a pc (IsPrologueRow (ended_by (pc - 0x401000) fa.prologue))
unfolding instruction_of
prologue_a5 bases pc from below =
    let same = same_row_at bases fde_a 0x401005 0x401009 pc from below (lit≤ tt) (lit≤ tt) refl in
    let steps : ended_by (pc - 0x401000) fa.prologue ≡ ended_by 5 fa.prologue = same_ended fa.prologue 5 9 (pc - 0x401000) (omega arith) (omega arith) refl in
    let r = row_a5 bases in (r.0, same ∙ r.1, rw steps r.2)

pub rows_a : (bases : Bases) → DescribesRows bases fa fde_a
unfolding instruction_of
rows_a bases = record {
  bodies = λ inner pc h. let lies = in_body_a pc h in
      let same = same_row_at bases fde_a 0x401009 0x401020 pc lies.0 lies.1 (lit≤ tt) (lit≤ tt) refl in
      let r = row_a9 bases in (r.0, same ∙ r.1, r.2);
  prologue = λ inner pc from below. (elim (cases_lt pc 0x401001) [ inl lt ↦ prologue_a0 bases pc from lt | inr ge ↦ (elim (cases_lt pc 0x401004) [ inl lt ↦ prologue_a1 bases pc ge lt | inr ge ↦ (elim (cases_lt pc 0x401005) [ inl lt ↦ prologue_a4 bases pc ge lt | inr ge ↦ prologue_a5 bases pc ge below ]) ]) ]);
  outermost = λ outer pc h. absurd cc;
}

abbrev own_b0 : RowInstructions
own_b0 = record { common = common; own = [] }

row_b0 : (bases : Bases) → HasRow bases fde_b 0x401020 (IsPrologueRow (ended_by 0 fb.prologue))
unfolding row_at instruction_of
row_b0 bases = (
  own_b0,
  refl,
  record {
    cfa = refl;
    ret = refl;
    saved = λ r. by_register (λ r. MayFindLate r (ended_by 0 fb.prologue) (rule_of own_b0 (column_of r))) (inl (inl refl)) (inl (inl refl)) (inl (inl refl)) (inl (inl refl)) (inl (inl refl)) (inl (inl refl)) r;
    others = λ c e. unnamed own_b0 refl refl c e;
    arguments = refl;
  },
)

abbrev own_b1 : RowInstructions
own_b1 = record { common = common; own = Advance 1 ∷ CfaOffset 16 ∷ Write 3 (Offset (2 ^ 64 - 16)) ∷ Nop ∷ Nop ∷ [] }

row_b1 : (bases : Bases) → HasRow bases fde_b 0x401021 (IsBodyRow (steps_of fb.prologue))
unfolding row_at instruction_of
row_b1 bases = (
  own_b1,
  refl,
  record {
    cfa = refl;
    ret = refl;
    saved = λ r. by_register (λ r. FindsRegister (distance r (steps_of fb.prologue)) (rule_of own_b1 (column_of r))) refl (inl refl) (inl refl) (inl refl) (inl refl) (inl refl) r;
    others = λ c e. unnamed own_b1 refl refl c e;
    arguments = refl;
  },
)

in_body_b : (pc : ℕ) → IsTrue (in_body fb pc) → (0x401021 ≤ pc) × (pc < 0x401050)
in_body_b pc h =
    let both = both_true (leb 0x401021 pc) (ltb pc 0x401050) (either_false _ h) in
    (leb-true 0x401021 pc both.0, ltb-true pc 0x401050 both.1)

prologue_b0 : (bases : Bases) → (pc : ℕ) → 0x401020 ≤ pc → pc < 0x401021 → HasRow bases fde_b pc (IsPrologueRow (ended_by (pc - 0x401020) fb.prologue))
unfolding instruction_of
prologue_b0 bases pc from below =
    let same = same_row_at bases fde_b 0x401020 0x401021 pc from below (lit≤ tt) (lit≤ tt) refl in
    let steps : ended_by (pc - 0x401020) fb.prologue ≡ ended_by 0 fb.prologue = same_ended fb.prologue 0 1 (pc - 0x401020) (omega arith) (omega arith) refl in
    let r = row_b0 bases in (r.0, same ∙ r.1, rw steps r.2)

pub rows_b : (bases : Bases) → DescribesRows bases fb fde_b
unfolding instruction_of
rows_b bases = record {
  bodies = λ inner pc h. let lies = in_body_b pc h in
      let same = same_row_at bases fde_b 0x401021 0x401050 pc lies.0 lies.1 (lit≤ tt) (lit≤ tt) refl in
      let r = row_b1 bases in (r.0, same ∙ r.1, r.2);
  prologue = λ inner pc from below. prologue_b0 bases pc from below;
  outermost = λ outer pc h. absurd cc;
}

abbrev own_c0 : RowInstructions
own_c0 = record { common = common; own = [] }

row_c0 : (bases : Bases) → HasRow bases fde_c 0x401050 (IsPrologueRow (ended_by 0 fc.prologue))
unfolding row_at instruction_of
row_c0 bases = (
  own_c0,
  refl,
  record {
    cfa = refl;
    ret = refl;
    saved = λ r. by_register (λ r. MayFindLate r (ended_by 0 fc.prologue) (rule_of own_c0 (column_of r))) (inl (inl refl)) (inl (inl refl)) (inl (inl refl)) (inl (inl refl)) (inl (inl refl)) (inl (inl refl)) r;
    others = λ c e. unnamed own_c0 refl refl c e;
    arguments = refl;
  },
)

abbrev own_c2 : RowInstructions
own_c2 = record { common = common; own = Advance 2 ∷ CfaOffset 16 ∷ [] }

row_c2 : (bases : Bases) → HasRow bases fde_c 0x401052 (IsPrologueRow (ended_by 2 fc.prologue))
unfolding row_at instruction_of
row_c2 bases = (
  own_c2,
  refl,
  record {
    cfa = refl;
    ret = refl;
    saved = λ r. by_register (λ r. MayFindLate r (ended_by 2 fc.prologue) (rule_of own_c2 (column_of r))) (inl (inl refl)) (inl (inl refl)) (inl (inl refl)) (inl (inl refl)) (inr (refl, λ e. absurd cc)) (inl (inl refl)) r;
    others = λ c e. unnamed own_c2 refl refl c e;
    arguments = refl;
  },
)

abbrev own_c3 : RowInstructions
own_c3 = record { common = common; own = Advance 2 ∷ CfaOffset 16 ∷ Advance 1 ∷ CfaOffset 24 ∷ [] }

row_c3 : (bases : Bases) → HasRow bases fde_c 0x401053 (IsPrologueRow (ended_by 3 fc.prologue))
unfolding row_at instruction_of
row_c3 bases = (
  own_c3,
  refl,
  record {
    cfa = refl;
    ret = refl;
    saved = λ r. by_register (λ r. MayFindLate r (ended_by 3 fc.prologue) (rule_of own_c3 (column_of r))) (inr (refl, λ e. absurd cc)) (inl (inl refl)) (inl (inl refl)) (inl (inl refl)) (inr (refl, λ e. absurd cc)) (inl (inl refl)) r;
    others = λ c e. unnamed own_c3 refl refl c e;
    arguments = refl;
  },
)

abbrev own_c7 : RowInstructions
own_c7 = record { common = common; own = Advance 2 ∷ CfaOffset 16 ∷ Advance 1 ∷ CfaOffset 24 ∷ Advance 4 ∷ CfaOffset 32 ∷ Write 3 (Offset (2 ^ 64 - 24)) ∷ Write 14 (Offset (2 ^ 64 - 16)) ∷ Nop ∷ Nop ∷ [] }

row_c7 : (bases : Bases) → HasRow bases fde_c 0x401057 (IsBodyRow (steps_of fc.prologue))
unfolding row_at instruction_of
row_c7 bases = (
  own_c7,
  refl,
  record {
    cfa = refl;
    ret = refl;
    saved = λ r. by_register (λ r. FindsRegister (distance r (steps_of fc.prologue)) (rule_of own_c7 (column_of r))) refl (inl refl) (inl refl) (inl refl) refl (inl refl) r;
    others = λ c e. unnamed own_c7 refl refl c e;
    arguments = refl;
  },
)

in_body_c : (pc : ℕ) → IsTrue (in_body fc pc) → (0x401057 ≤ pc) × (pc < 0x401080)
in_body_c pc h =
    let both = both_true (leb 0x401057 pc) (ltb pc 0x401080) (either_false _ h) in
    (leb-true 0x401057 pc both.0, ltb-true pc 0x401080 both.1)

prologue_c0 : (bases : Bases) → (pc : ℕ) → 0x401050 ≤ pc → pc < 0x401052 → HasRow bases fde_c pc (IsPrologueRow (ended_by (pc - 0x401050) fc.prologue))
unfolding instruction_of
prologue_c0 bases pc from below =
    let same = same_row_at bases fde_c 0x401050 0x401052 pc from below (lit≤ tt) (lit≤ tt) refl in
    let steps : ended_by (pc - 0x401050) fc.prologue ≡ ended_by 0 fc.prologue = same_ended fc.prologue 0 2 (pc - 0x401050) (omega arith) (omega arith) refl in
    let r = row_c0 bases in (r.0, same ∙ r.1, rw steps r.2)

prologue_c2 : (bases : Bases) → (pc : ℕ) → 0x401052 ≤ pc → pc < 0x401053 → HasRow bases fde_c pc (IsPrologueRow (ended_by (pc - 0x401050) fc.prologue))
unfolding instruction_of
prologue_c2 bases pc from below =
    let same = same_row_at bases fde_c 0x401052 0x401053 pc from below (lit≤ tt) (lit≤ tt) refl in
    let steps : ended_by (pc - 0x401050) fc.prologue ≡ ended_by 2 fc.prologue = same_ended fc.prologue 2 3 (pc - 0x401050) (omega arith) (omega arith) refl in
    let r = row_c2 bases in (r.0, same ∙ r.1, rw steps r.2)

prologue_c3 : (bases : Bases) → (pc : ℕ) → 0x401053 ≤ pc → pc < 0x401057 → HasRow bases fde_c pc (IsPrologueRow (ended_by (pc - 0x401050) fc.prologue))
unfolding instruction_of
prologue_c3 bases pc from below =
    let same = same_row_at bases fde_c 0x401053 0x401057 pc from below (lit≤ tt) (lit≤ tt) refl in
    let steps : ended_by (pc - 0x401050) fc.prologue ≡ ended_by 3 fc.prologue = same_ended fc.prologue 3 7 (pc - 0x401050) (omega arith) (omega arith) refl in
    let r = row_c3 bases in (r.0, same ∙ r.1, rw steps r.2)

pub rows_c : (bases : Bases) → DescribesRows bases fc fde_c
unfolding instruction_of
rows_c bases = record {
  bodies = λ inner pc h. let lies = in_body_c pc h in
      let same = same_row_at bases fde_c 0x401057 0x401080 pc lies.0 lies.1 (lit≤ tt) (lit≤ tt) refl in
      let r = row_c7 bases in (r.0, same ∙ r.1, r.2);
  prologue = λ inner pc from below. (elim (cases_lt pc 0x401052) [ inl lt ↦ prologue_c0 bases pc from lt | inr ge ↦ (elim (cases_lt pc 0x401053) [ inl lt ↦ prologue_c2 bases pc ge lt | inr ge ↦ prologue_c3 bases pc ge below ]) ]);
  outermost = λ outer pc h. absurd cc;
}
