-- A function that stores a register, called by one that sets a frame pointer: the call is valid.
use Rattle.std.proofs.Common.{◌≡◌, ℕ, ◌-◌, ◌^◌, ◌<◌, ◌≤◌, true, false, leb, ltb, [], ◌∷◌, None, Ok, refl, subst, ◌∙◌, arith, inl, inr, lit<, lit≤}
use Rattle.std.specs.Prelude.{IsTrue, IsFalse, ◌≢◌}
use Rattle.std.specs.List.{Contains, AllByRecursion, list_any}
use Rattle.std.proofs.lemmas.Bool.{leb-true, ltb-true, cases_lt}
use Rattle.memory_image.specs.Image.{word_at}
use Rattle.unwind_definitions.specs.Instructions.{program, instruction_of}
use Rattle.unwind_definitions.specs.Entries.{Fde, coding_of, AreEntries, entry_at}
use Rattle.unwind_definitions.specs.Row.{row_at, rule_of}
use Rattle.unwind_definitions.specs.State.{value_of, column_of, IsState}
use Rattle.unwind_definitions.specs.Prologue.{SystemV, Save, steps_of, distance}
use Rattle.unwind_definitions.specs.Entered.{IsEntered}
use Rattle.unwind_definitions.specs.Function.{in_body, IsFunction}
use Rattle.unwind_definitions.specs.DescribedRows.{HasRow, IsBodyRow, IsPrologueRow, MayFindLate, FindsRegister, ended_by, DescribesRows}
use Rattle.unwind_definitions.specs.FrameTable.{IsEmittedCie, DescribesFrames, MeetsNot, has_range_of}
use Rattle.unwind_definitions.specs.Module.{IsElfProcess, AreApart, DescriptionsApart, DescribesModule}
use Rattle.unwind_definitions.specs.Valid.{IsElfValid}
use Rattle.unwind_laws.specs.Columns.{columns_of}
use Rattle.unwind_laws.specs.Storing.{image, table, module_of_them, bases, cie, storing_fde, framed_fde, entries, run_of, allocated, in_storing, pushed, set, in_framed, storing, framed, functions, process, state, start, caller, last, calls}
use Rattle.unwind_laws.proofs.Booleans.{both_true, either_false, here_or_later, none_in_nil, pairs_one, pairs_two}
use Rattle.unwind_laws.proofs.RowFacts.{by_register, state_fits, unnamed, same_ended}
use Rattle.unwind_laws.proofs.Steady.{is_steady, same_row_at}
use Rattle.unwind_laws.proofs.PushingValid.{columns_show}

-- between two addresses a description's row stays
abbrev Stays : Fde → ℕ → ℕ → Type 0
Stays fde low high = is_steady fde.start low high (program (coding_of bases fde.cie) fde.program).instructions ≡ true

-- what the readers give for this sample
record Reads : Type 0 where
  pub listed : AreEntries bases table 0 entries
  pub at_storing : row_at bases storing_fde 0x401000 ≡ Ok (run_of [])
  pub at_allocated : row_at bases storing_fde 0x401004 ≡ Ok (run_of allocated)
  pub at_stored : row_at bases storing_fde 0x401009 ≡ Ok (run_of in_storing)
  pub at_framed : row_at bases framed_fde 0x401020 ≡ Ok (run_of [])
  pub at_pushed : row_at bases framed_fde 0x401021 ≡ Ok (run_of pushed)
  pub at_set : row_at bases framed_fde 0x401024 ≡ Ok (run_of set)
  pub at_body : row_at bases framed_fde 0x401029 ≡ Ok (run_of in_framed)
  pub stay_storing : Stays storing_fde 0x401000 0x401004
  pub stay_allocated : Stays storing_fde 0x401004 0x401009
  pub stay_stored : Stays storing_fde 0x401009 0x401020
  pub stay_framed : Stays framed_fde 0x401020 0x401021
  pub stay_pushed : Stays framed_fde 0x401021 0x401024
  pub stay_set : Stays framed_fde 0x401024 0x401029
  pub stay_body : Stays framed_fde 0x401029 0x401040

reads : Reads
unfolding entry_at row_at instruction_of
reads = record {
  listed = (24, refl, (48, refl, (80, refl, refl)));
  at_storing = refl;
  at_allocated = refl;
  at_stored = refl;
  at_framed = refl;
  at_pushed = refl;
  at_set = refl;
  at_body = refl;
  stay_storing = refl;
  stay_allocated = refl;
  stay_stored = refl;
  stay_framed = refl;
  stay_pushed = refl;
  stay_set = refl;
  stay_body = refl;
}

-- ---- the rows of the function that stores
storing_row : IsPrologueRow (ended_by 0 storing.prologue) (run_of [])
storing_row = record {
  cfa = refl;
  ret = refl;
  saved = λ r. by_register (λ r. MayFindLate r (ended_by 0 storing.prologue) (rule_of (run_of []) (column_of r))) (inl (inl refl)) (inl (inl refl)) (inl (inl refl)) (inl (inl refl)) (inl (inl refl)) (inl (inl refl)) r;
  others = λ c e. unnamed (run_of []) refl refl c e;
  arguments = refl;
}

allocated_row : IsPrologueRow (ended_by 4 storing.prologue) (run_of allocated)
allocated_row = record {
  cfa = refl;
  ret = refl;
  saved = λ r. by_register (λ r. MayFindLate r (ended_by 4 storing.prologue) (rule_of (run_of allocated) (column_of r))) (inl (inl refl)) (inl (inl refl)) (inl (inl refl)) (inl (inl refl)) (inl (inl refl)) (inl (inl refl)) r;
  others = λ c e. unnamed (run_of allocated) refl refl c e;
  arguments = refl;
}

stored_row : IsBodyRow (steps_of storing.prologue) (run_of in_storing)
stored_row = record {
  cfa = refl;
  ret = refl;
  saved = λ r. by_register (λ r. FindsRegister (distance r (steps_of storing.prologue)) (rule_of (run_of in_storing) (column_of r))) (inl refl) (inl refl) refl (inl refl) (inl refl) (inl refl) r;
  others = λ c e. unnamed (run_of in_storing) refl refl c e;
  arguments = refl;
}

-- ---- the rows of the function that sets RBP
framed_row : IsPrologueRow (ended_by 0 framed.prologue) (run_of [])
framed_row = record {
  cfa = refl;
  ret = refl;
  saved = λ r. by_register (λ r. MayFindLate r (ended_by 0 framed.prologue) (rule_of (run_of []) (column_of r))) (inl (inl refl)) (inl (inl refl)) (inl (inl refl)) (inl (inl refl)) (inl (inl refl)) (inl (inl refl)) r;
  others = λ c e. unnamed (run_of []) refl refl c e;
  arguments = refl;
}

pushed_row : IsPrologueRow (ended_by 1 framed.prologue) (run_of pushed)
pushed_row = record {
  cfa = refl;
  ret = refl;
  saved = λ r. by_register (λ r. MayFindLate r (ended_by 1 framed.prologue) (rule_of (run_of pushed) (column_of r))) (inl (inl refl)) (inl refl) (inl (inl refl)) (inl (inl refl)) (inl (inl refl)) (inl (inl refl)) r;
  others = λ c e. unnamed (run_of pushed) refl refl c e;
  arguments = refl;
}

set_row : IsPrologueRow (ended_by 4 framed.prologue) (run_of set)
set_row = record {
  cfa = refl;
  ret = refl;
  saved = λ r. by_register (λ r. MayFindLate r (ended_by 4 framed.prologue) (rule_of (run_of set) (column_of r))) (inl (inl refl)) (inl refl) (inl (inl refl)) (inl (inl refl)) (inl (inl refl)) (inl (inl refl)) r;
  others = λ c e. unnamed (run_of set) refl refl c e;
  arguments = refl;
}

-- RBX is pushed, and the table doesn't yet tell of it
late_row : IsPrologueRow (ended_by 5 framed.prologue) (run_of set)
late_row = record {
  cfa = refl;
  ret = refl;
  saved = λ r. by_register (λ r. MayFindLate r (ended_by 5 framed.prologue) (rule_of (run_of set) (column_of r))) (inr (refl, λ e. absurd cc)) (inl refl) (inl (inl refl)) (inl (inl refl)) (inl (inl refl)) (inl (inl refl)) r;
  others = λ c e. unnamed (run_of set) refl refl c e;
  arguments = refl;
}

body_row : IsBodyRow (steps_of framed.prologue) (run_of in_framed)
body_row = record {
  cfa = refl;
  ret = refl;
  saved = λ r. by_register (λ r. FindsRegister (distance r (steps_of framed.prologue)) (rule_of (run_of in_framed) (column_of r))) refl refl (inl refl) (inl refl) (inl refl) (inl refl) r;
  others = λ c e. unnamed (run_of in_framed) refl refl c e;
  arguments = refl;
}

in_storing_body : (pc : ℕ) → IsTrue (in_body storing pc) → (0x401009 ≤ pc) × (pc < 0x401020)
in_storing_body pc h =
    let both = both_true (leb 0x401009 pc) (ltb pc 0x401020) (either_false _ h) in
    (leb-true 0x401009 pc both.0, ltb-true pc 0x401020 both.1)

in_framed_body : (pc : ℕ) → IsTrue (in_body framed pc) → (0x401029 ≤ pc) × (pc < 0x401040)
in_framed_body pc h =
    let both = both_true (leb 0x401029 pc) (ltb pc 0x401040) (either_false _ h) in
    (leb-true 0x401029 pc both.0, ltb-true pc 0x401040 both.1)

at_storing : (pc : ℕ) → 0x401000 ≤ pc → pc < 0x401004 → HasRow bases storing_fde pc (IsPrologueRow (ended_by (pc - 0x401000) storing.prologue))
at_storing pc from below =
    let same = same_row_at bases storing_fde 0x401000 0x401004 pc from below (lit≤ tt) (lit≤ tt) reads.stay_storing in
    let steps : ended_by (pc - 0x401000) storing.prologue ≡ ended_by 0 storing.prologue = same_ended storing.prologue 0 4 (pc - 0x401000) (omega arith) (omega arith) refl in
    (run_of [], same ∙ reads.at_storing, rw steps storing_row)

at_allocated : (pc : ℕ) → 0x401004 ≤ pc → pc < 0x401009 → HasRow bases storing_fde pc (IsPrologueRow (ended_by (pc - 0x401000) storing.prologue))
at_allocated pc from below =
    let same = same_row_at bases storing_fde 0x401004 0x401009 pc from below (lit≤ tt) (lit≤ tt) reads.stay_allocated in
    let steps : ended_by (pc - 0x401000) storing.prologue ≡ ended_by 4 storing.prologue = same_ended storing.prologue 4 9 (pc - 0x401000) (omega arith) (omega arith) refl in
    (run_of allocated, same ∙ reads.at_allocated, rw steps allocated_row)

storing_rows : DescribesRows bases storing storing_fde
storing_rows = record {
  bodies = λ inner pc h. let lies = in_storing_body pc h in
      let same = same_row_at bases storing_fde 0x401009 0x401020 pc lies.0 lies.1 (lit≤ tt) (lit≤ tt) reads.stay_stored in
      (run_of in_storing, same ∙ reads.at_stored, stored_row);
  prologue = λ inner pc from below. elim (cases_lt pc 0x401004) [ inl lt ↦ at_storing pc from lt | inr ge ↦ at_allocated pc ge below ];
  outermost = λ outer pc h. absurd cc;
}

at_framed : (pc : ℕ) → 0x401020 ≤ pc → pc < 0x401021 → HasRow bases framed_fde pc (IsPrologueRow (ended_by (pc - 0x401020) framed.prologue))
at_framed pc from below =
    let same = same_row_at bases framed_fde 0x401020 0x401021 pc from below (lit≤ tt) (lit≤ tt) reads.stay_framed in
    let steps : ended_by (pc - 0x401020) framed.prologue ≡ ended_by 0 framed.prologue = same_ended framed.prologue 0 1 (pc - 0x401020) (omega arith) (omega arith) refl in
    (run_of [], same ∙ reads.at_framed, rw steps framed_row)

at_pushed : (pc : ℕ) → 0x401021 ≤ pc → pc < 0x401024 → HasRow bases framed_fde pc (IsPrologueRow (ended_by (pc - 0x401020) framed.prologue))
at_pushed pc from below =
    let same = same_row_at bases framed_fde 0x401021 0x401024 pc from below (lit≤ tt) (lit≤ tt) reads.stay_pushed in
    let steps : ended_by (pc - 0x401020) framed.prologue ≡ ended_by 1 framed.prologue = same_ended framed.prologue 1 4 (pc - 0x401020) (omega arith) (omega arith) refl in
    (run_of pushed, same ∙ reads.at_pushed, rw steps pushed_row)

at_set : (pc : ℕ) → 0x401024 ≤ pc → pc < 0x401025 → HasRow bases framed_fde pc (IsPrologueRow (ended_by (pc - 0x401020) framed.prologue))
at_set pc from below =
    let same = same_row_at bases framed_fde 0x401024 0x401029 pc from (omega arith) (lit≤ tt) (lit≤ tt) reads.stay_set in
    let steps : ended_by (pc - 0x401020) framed.prologue ≡ ended_by 4 framed.prologue = same_ended framed.prologue 4 5 (pc - 0x401020) (omega arith) (omega arith) refl in
    (run_of set, same ∙ reads.at_set, rw steps set_row)

at_late : (pc : ℕ) → 0x401025 ≤ pc → pc < 0x401029 → HasRow bases framed_fde pc (IsPrologueRow (ended_by (pc - 0x401020) framed.prologue))
at_late pc from below =
    let same = same_row_at bases framed_fde 0x401024 0x401029 pc (omega arith) below (lit≤ tt) (lit≤ tt) reads.stay_set in
    let steps : ended_by (pc - 0x401020) framed.prologue ≡ ended_by 5 framed.prologue = same_ended framed.prologue 5 9 (pc - 0x401020) (omega arith) (omega arith) refl in
    (run_of set, same ∙ reads.at_set, rw steps late_row)

framed_rows : DescribesRows bases framed framed_fde
framed_rows = record {
  bodies = λ inner pc h. let lies = in_framed_body pc h in
      let same = same_row_at bases framed_fde 0x401029 0x401040 pc lies.0 lies.1 (lit≤ tt) (lit≤ tt) reads.stay_body in
      (run_of in_framed, same ∙ reads.at_body, body_row);
  prologue = λ inner pc from below. elim (cases_lt pc 0x401021) [
    | inl lt ↦ at_framed pc from lt
    | inr ge ↦ elim (cases_lt pc 0x401024) [ inl lt ↦ at_pushed pc ge lt | inr ge ↦ elim (cases_lt pc 0x401025) [ inl lt ↦ at_set pc ge lt | inr ge ↦ at_late pc ge below ] ]
  ];
  outermost = λ outer pc h. absurd cc;
}

emitted_cie : IsEmittedCie image cie
emitted_cie = record { version = refl; code_factor = refl; data_factor = refl; return_column = refl; augmentation = inl refl; address = refl; language = inl refl; personality = tt; program = (2, refl) }

each_fde : (P : Fde → Type 0) → P storing_fde → P framed_fde → (f : Fde) → Contains (storing_fde ∷ framed_fde ∷ []) f → P f
each_fde P a b f h = elim (here_or_later storing_fde (framed_fde ∷ []) f h) [
  | inl e ↦ subst P e a
  | inr h2 ↦ elim (here_or_later framed_fde [] f h2) [ inl e ↦ subst P e b | inr none ↦ absurd (none_in_nil f none) ]
]

frames_described : DescribesFrames image bases table entries functions
frames_described = record {
  reads = reads.listed;
  lengths = ((20, _, refl, lit< tt), ((20, _, refl, lit< tt), ((28, _, refl, lit< tt), tt)));
  each = (
    record { fde = storing_fde; one = refl; describes = record { code = record { cie = emitted_cie; earlier = lit< tt; start = refl; end = refl; rows = storing_rows }; language = refl } },
    (record { fde = framed_fde; one = refl; describes = record { code = record { cie = emitted_cie; earlier = lit< tt; start = refl; end = refl; rows = framed_rows }; language = refl } }, tt),
  );
  foreign = each_fde (λ fde. IsFalse (list_any (λ f. has_range_of f fde) functions) → AllByRecursion (MeetsNot fde) functions) (λ none. absurd cc) (λ none. absurd cc);
}

module_described : DescribesModule image module_of_them functions
module_described = record {
  frame = 0x500000;
  address = refl;
  entries = entries;
  frames = frames_described;
  nonempty = (lit< tt, (lit< tt, tt));
  apart = pairs_two DescriptionsApart storing_fde framed_fde (inl (lit≤ tt));
  inside = ((lit≤ tt, lit≤ tt), ((lit≤ tt, lit≤ tt), tt));
  header = tt;
}

-- ---- the functions and the calls
storing_function : IsFunction SystemV storing
storing_function = record {
  prologue = record { ends = (lit< tt, (lit< tt, tt)); each = ((lit< tt, refl), ((refl, refl, lit≤ tt), tt)); once = pairs_one (λ (a b : Save). a.register ≢ b.register) _ };
  has_body = λ e. absurd cc;
  bodies = (lit≤ tt, lit< tt, lit≤ tt, tt);
  sites = tt;
  outermost = λ e. absurd cc;
}

framed_function : IsFunction SystemV framed
framed_function = record {
  prologue = record { ends = (lit< tt, (lit< tt, (lit< tt, tt))); each = (refl, ((refl, refl, refl), (refl, tt))); once = pairs_two (λ (a b : Save). a.register ≢ b.register) _ _ (λ e. absurd cc) };
  has_body = λ e. absurd cc;
  bodies = (lit≤ tt, lit< tt, lit≤ tt, tt);
  sites = tt;
  outermost = λ e. absurd cc;
}

storing_entered : IsEntered image false (steps_of storing.prologue) caller start
unfolding word_at
storing_entered = record {
  room = lit≤ tt;
  returns = λ _. refl;
  leaves = (lit≤ tt, (lit≤ tt, refl, tt));
  stack = refl;
  keeps = by_register (λ r. distance r (steps_of storing.prologue) ≡ None → value_of r start ≡ value_of r caller) (λ e. refl) (λ e. refl) (λ e. absurd cc) (λ e. refl) (λ e. refl) (λ e. refl);
}

framed_entered : IsEntered image false (steps_of framed.prologue) last caller
unfolding word_at
framed_entered = record {
  room = lit≤ tt;
  returns = λ _. refl;
  leaves = (lit≤ tt, refl, (lit< tt, (lit≤ tt, refl, tt)));
  stack = (lit≤ tt, refl);
  keeps = by_register (λ r. distance r (steps_of framed.prologue) ≡ None → value_of r caller ≡ value_of r last) (λ e. absurd cc) (λ e. absurd cc) (λ e. refl) (λ e. refl) (λ e. refl) (λ e. refl);
}

words : (ra sp rbx rbp r12 : ℕ) → ra < 2 ^ 64 → sp < 2 ^ 64 → rbx < 2 ^ 64 → rbp < 2 ^ 64 → r12 < 2 ^ 64 → IsState (state ra sp rbx rbp r12)
words ra sp rbx rbp r12 a b c d e = state_fits (state ra sp rbx rbp r12) a b c d e (lit< tt) (lit< tt) (lit< tt)

pub pointed_valid : IsElfValid process (columns_of start) [] functions start calls
pointed_valid = record {
  are_functions = (storing_function, (framed_function, tt));
  modules = (module_described, tt);
  no_others = (refl, (refl, tt));
  shows = columns_show start;
  chain = (
    record { state = words 0x401010 0x7000 9 0x7030 0x2c (lit< tt) (lit< tt) (lit< tt) (lit< tt) (lit< tt); listed = (0, lit< tt, refl); called = record { returns = λ e. absurd cc; inside = refl; entered = storing_entered }; last = λ outer. absurd cc },
    (
      record { state = words 0x401030 0x7020 9 0x7030 12 (lit< tt) (lit< tt) (lit< tt) (lit< tt) (lit< tt); listed = (1, lit< tt, refl); called = record { returns = λ e. absurd cc; inside = refl; entered = framed_entered }; last = λ outer. absurd cc },
      record { state = words 0 0x7040 3 6 12 (lit< tt) (lit< tt) (lit< tt) (lit< tt) (lit< tt); ends = inl refl },
    ),
  );
  resumed = λ f found accepted. absurd cc;
}

pub pointed_process : IsElfProcess process
pointed_process = record { regions = (lit≤ tt, lit< tt, lit≤ tt, (lit≤ tt, lit< tt, lit≤ tt, tt)); ranges = ((lit< tt, lit< tt), tt); apart = pairs_one AreApart module_of_them }
