-- A function that allocates its frame and stores a register, alone in its frame table: a call of it is described.
use Rattle.std.proofs.Common.{◌≡◌, ℕ, ◌-◌, ◌<◌, ◌≤◌, true, false, leb, ltb, [], ◌∷◌, Some, None, Ok, refl, ◌∙◌, arith, inl, inr, lit<, lit≤}
use Rattle.std.specs.Prelude.{IsTrue}
use Rattle.std.proofs.lemmas.Bool.{leb-true, ltb-true, cases_lt}
use Rattle.memory_image.specs.Image.{word_at}
use Rattle.unwind_definitions.specs.Instructions.{program, instruction_of}
use Rattle.unwind_definitions.specs.Entries.{coding_of, AreEntries, entry_at}
use Rattle.unwind_definitions.specs.Row.{row_at, rule_of}
use Rattle.unwind_definitions.specs.State.{Shows, value_of, column_of}
use Rattle.unwind_definitions.specs.Prologue.{steps_of, distance}
use Rattle.unwind_definitions.specs.Entered.{IsEntered}
use Rattle.unwind_definitions.specs.Function.{in_body}
use Rattle.unwind_definitions.specs.DescribedRows.{HasRow, IsBodyRow, IsPrologueRow, MayFindLate, FindsRegister, ended_by, DescribesRows}
use Rattle.unwind_definitions.specs.LanguageTable.{input_at}
use Rattle.unwind_definitions.specs.FrameTable.{DescribesFunction, DescribesFrames}
use Rattle.unwind_definitions.specs.Module.{Module, Process, Frames, DescriptionsApart, DescribesModule}
use Rattle.unwind_laws.specs.Storing.{bases, cie, storing_fde, run_of, allocated, in_storing, storing}
use Rattle.unwind_laws.proofs.Booleans.{both_true, either_false, here_or_later, none_in_nil, pairs_one}
use Rattle.unwind_laws.proofs.RowFacts.{by_register, state_fits, unnamed, same_ended}
use Rattle.unwind_laws.proofs.Steady.{is_steady, same_row_at}
use Rattle.unwind_laws.proofs.StoringValid.{pointed_valid}
use Rattle.unwind_arch.specs.ContextViews.{columns_of}
use Rattle.stack_steps.specs.SpaceViews.{process_of}
use Rattle.format_definitions.specs.Calls.{IsDescribedCall}
use Rattle.format_definitions.specs.Modules as formats
use Rattle.stack_steps.specs.SpaceViews.{formats_of}
use Rattle.stack_snapshot.specs.Content.{space_of}
use Rattle.unwind_cli.specs.Allocated.{snapshot, entries, start, caller, call}

abbrev process : Process
process = process_of (space_of snapshot)

abbrev home : Module
home = record { start = 0x401000; end = 0x401020; text = None; tables = Frames 0x500000 }

-- between two addresses the description's row stays
abbrev Stays : ℕ → ℕ → Type 0
Stays low high = is_steady storing_fde.start low high (program (coding_of bases cie) storing_fde.program).instructions ≡ true

-- what the readers give for this sample
record Reads : Type 0 where
  pub listed : AreEntries bases (input_at process.image 0x500000) 0 entries
  pub at_start : row_at bases storing_fde 0x401000 ≡ Ok (run_of [])
  pub at_allocated : row_at bases storing_fde 0x401004 ≡ Ok (run_of allocated)
  pub at_body : row_at bases storing_fde 0x401009 ≡ Ok (run_of in_storing)
  pub stay_start : Stays 0x401000 0x401004
  pub stay_allocated : Stays 0x401004 0x401009
  pub stay_body : Stays 0x401009 0x401020

reads : Reads
unfolding entry_at row_at instruction_of
reads = record { listed = (24, refl, (48, refl, refl)); at_start = refl; at_allocated = refl; at_body = refl; stay_start = refl; stay_allocated = refl; stay_body = refl }

start_row : IsPrologueRow (ended_by 0 storing.prologue) (run_of [])
start_row = record {
  cfa = refl;
  ret = refl;
  saved = λ r. by_register (λ r. MayFindLate r (ended_by 0 storing.prologue) (rule_of (run_of []) (column_of r))) (inl (inl refl)) (inl (inl refl)) (inl (inl refl)) (inl (inl refl)) (inl (inl refl)) (inl (inl refl)) r;
  others = λ c e. unnamed (run_of []) refl refl c e;
  arguments = refl;
}

allocated_row : IsPrologueRow (ended_by 4 storing.prologue) (run_of allocated)
allocated_row = record {
  cfa = refl;
  ret = refl;
  saved = λ r. by_register (λ r. MayFindLate r (ended_by 4 storing.prologue) (rule_of (run_of allocated) (column_of r))) (inl (inl refl)) (inl (inl refl)) (inl (inl refl)) (inl (inl refl)) (inl (inl refl)) (inl (inl refl)) r;
  others = λ c e. unnamed (run_of allocated) refl refl c e;
  arguments = refl;
}

body_row : IsBodyRow (steps_of storing.prologue) (run_of in_storing)
body_row = record {
  cfa = refl;
  ret = refl;
  saved = λ r. by_register (λ r. FindsRegister (distance r (steps_of storing.prologue)) (rule_of (run_of in_storing) (column_of r))) (inl refl) (inl refl) refl (inl refl) (inl refl) (inl refl) r;
  others = λ c e. unnamed (run_of in_storing) refl refl c e;
  arguments = refl;
}

lies_in_body : (pc : ℕ) → IsTrue (in_body storing pc) → (0x401009 ≤ pc) × (pc < 0x401020)
lies_in_body pc h =
    let both = both_true (leb 0x401009 pc) (ltb pc 0x401020) (either_false _ h) in
    (leb-true 0x401009 pc both.0, ltb-true pc 0x401020 both.1)

at_start : (pc : ℕ) → 0x401000 ≤ pc → pc < 0x401004 → HasRow bases storing_fde pc (IsPrologueRow (ended_by (pc - 0x401000) storing.prologue))
at_start pc from below =
    let same = same_row_at bases storing_fde 0x401000 0x401004 pc from below (lit≤ tt) (lit≤ tt) reads.stay_start in
    let steps : ended_by (pc - 0x401000) storing.prologue ≡ ended_by 0 storing.prologue = same_ended storing.prologue 0 4 (pc - 0x401000) (omega arith) (omega arith) refl in
    (run_of [], same ∙ reads.at_start, rw steps start_row)

at_allocated : (pc : ℕ) → 0x401004 ≤ pc → pc < 0x401009 → HasRow bases storing_fde pc (IsPrologueRow (ended_by (pc - 0x401000) storing.prologue))
at_allocated pc from below =
    let same = same_row_at bases storing_fde 0x401004 0x401009 pc from below (lit≤ tt) (lit≤ tt) reads.stay_allocated in
    let steps : ended_by (pc - 0x401000) storing.prologue ≡ ended_by 4 storing.prologue = same_ended storing.prologue 4 9 (pc - 0x401000) (omega arith) (omega arith) refl in
    (run_of allocated, same ∙ reads.at_allocated, rw steps allocated_row)

rows : DescribesRows bases storing storing_fde
rows = record {
  bodies = λ inner pc h. let lies = lies_in_body pc h in
      let same = same_row_at bases storing_fde 0x401009 0x401020 pc lies.0 lies.1 (lit≤ tt) (lit≤ tt) reads.stay_body in
      (run_of in_storing, same ∙ reads.at_body, body_row);
  prologue = λ inner pc from below. elim (cases_lt pc 0x401004) [ inl lt ↦ at_start pc from lt | inr ge ↦ at_allocated pc ge below ];
  outermost = λ outer pc h. absurd cc;
}

describes : DescribesFunction process.image bases storing storing_fde
describes = record {
  code = record {
    cie = record { version = refl; code_factor = refl; data_factor = refl; return_column = refl; augmentation = inl refl; address = refl; language = inl refl; personality = tt; program = (2, refl) };
    earlier = lit< tt;
    start = refl;
    end = refl;
    rows = rows;
  };
  language = refl;
}

frames_described : DescribesFrames process.image bases (input_at process.image 0x500000) entries (storing ∷ [])
frames_described = record {
  reads = reads.listed;
  lengths = ((20, _, refl, lit< tt), ((20, _, refl, lit< tt), tt));
  each = (record { fde = storing_fde; one = refl; describes = describes }, tt);
  foreign = λ other has none. elim (here_or_later storing_fde [] other has) [
    | inl same ↦ let h = rw (← same) at none in absurd cc
    | inr later ↦ absurd (none_in_nil other later)
  ];
}

module_described : DescribesModule process.image home (storing ∷ [])
module_described = record {
  frame = 0x500000;
  address = refl;
  entries = entries;
  frames = frames_described;
  nonempty = (lit< tt, tt);
  apart = pairs_one DescriptionsApart storing_fde;
  inside = ((lit≤ tt, lit≤ tt), tt);
  header = tt;
}

entered : IsEntered process.image false (steps_of storing.prologue) caller start
unfolding word_at
entered = record {
  room = lit≤ tt;
  returns = λ _. refl;
  leaves = (lit≤ tt, (lit≤ tt, refl, tt));
  stack = refl;
  keeps = by_register (λ r. distance r (steps_of storing.prologue) ≡ None → value_of r start ≡ value_of r caller) (λ e. refl) (λ e. refl) (λ e. absurd cc) (λ e. refl) (λ e. refl) (λ e. refl);
}

pub call_described : IsDescribedCall process.image (formats_of (space_of snapshot)) (storing ∷ []) start call
call_described = record {
  listed = (0, lit< tt, refl);
  lies = record { home = formats.Elf home; known = (0, lit< tt, refl); inside = refl; is_function = pointed_valid.are_functions.0; describes = module_described };
  called = record { returns = λ e. absurd cc; inside = refl; entered = entered };
  caller = state_fits caller (lit< tt) (lit< tt) (lit< tt) (lit< tt) (lit< tt) (lit< tt) (lit< tt) (lit< tt);
  ends = λ outer. absurd cc;
}

pub shows_allocated : Shows (columns_of snapshot.start) start
shows_allocated = record { ra = refl; sp = refl; saved = λ r. by_register (λ r. columns_of snapshot.start (column_of r) ≡ Some (value_of r start)) refl refl refl refl refl refl r }
