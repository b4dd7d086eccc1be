-- The frame table with late save records describes its function, and a state stands after two of its pushes.
use Rattle.std.proofs.Common.{◌≡◌, ◌≢◌, ℕ, zero, suc, ◌-◌, ◌<◌, ◌≤◌, true, leb, ltb, [], ◌∷◌, None, Ok, refl, ◌∙◌, arith, inl, inr, lit<, lit≤}
use Rattle.std.specs.List.{AllPairs}
use Rattle.std.proofs.lemmas.Bool.{leb-true, ltb-true, cases_lt}
use Rattle.memory_image.specs.Image.{word_at}
use Rattle.unwind_definitions.specs.Instructions.{program, instruction_of}
use Rattle.unwind_definitions.specs.Entries.{coding_of, AreEntries, entry_at}
use Rattle.unwind_definitions.specs.Row.{row_at, rule_of}
use Rattle.unwind_definitions.specs.State.{value_of, column_of}
use Rattle.unwind_definitions.specs.Prologue.{SystemV, Save, saves, steps_of, distance}
use Rattle.unwind_definitions.specs.Function.{IsFunction}
use Rattle.unwind_definitions.specs.DescribedRows.{HasRow, IsBodyRow, IsPrologueRow, MayFindLate, FindsRegister, ended_by, DescribesRows}
use Rattle.unwind_definitions.specs.FrameTable.{DescribesFrames}
use Rattle.unwind_definitions.specs.Module.{DescriptionsApart, DescribesModule}
use Rattle.unwind_definitions.specs.Stopped.{StandsAfter}
use Rattle.unwind_laws.proofs.Booleans.{both_true, either_false, here_or_later, none_in_nil, pairs_one}
use Rattle.unwind_laws.proofs.RowFacts.{by_register, unnamed, same_ended}
use Rattle.unwind_laws.proofs.Steady.{is_steady, same_row_at}
use Rattle.format_laws.specs.PeSamples.{pushes_done, pushes_later}
use Rattle.format_laws.specs.ElfSample.{image, table, module_of_it, bases, fde, entries, run_of, pushed_one, pushed_two, pushed_all, function, state, caller}

listed : AreEntries bases table 0 entries
unfolding entry_at
listed = (24, refl, (56, refl, refl))

at_start : row_at bases fde 0x402000 ≡ Ok (run_of [])
unfolding row_at instruction_of
at_start = refl

at_one : row_at bases fde 0x402002 ≡ Ok (run_of pushed_one)
unfolding row_at instruction_of
at_one = refl

at_two : row_at bases fde 0x402004 ≡ Ok (run_of pushed_two)
unfolding row_at instruction_of
at_two = refl

at_body : row_at bases fde 0x402005 ≡ Ok (run_of pushed_all)
unfolding row_at instruction_of
at_body = refl

-- between two addresses the row stays
abbrev Stays : ℕ → ℕ → Type 0
Stays low high = is_steady 0x402000 low high (program (coding_of bases fde.cie) fde.program).instructions ≡ true

stay_start : Stays 0x402000 0x402002
unfolding instruction_of
stay_start = refl

stay_one : Stays 0x402002 0x402004
unfolding instruction_of
stay_one = refl

stay_two : Stays 0x402004 0x402005
unfolding instruction_of
stay_two = refl

stay_body : Stays 0x402005 0x402020
unfolding instruction_of
stay_body = refl

body_row : IsBodyRow (steps_of function.prologue) (run_of pushed_all)
body_row = record {
  cfa = refl;
  ret = refl;
  saved = λ r. by_register (λ r. FindsRegister (distance r (steps_of function.prologue)) (rule_of (run_of pushed_all) (column_of r))) refl (inl refl) (inl refl) (inl refl) refl refl r;
  others = λ c e. unnamed (run_of pushed_all) refl refl c e;
  arguments = refl;
}

start_row : IsPrologueRow (ended_by 0 function.prologue) (run_of [])
start_row = record {
  cfa = refl;
  ret = refl;
  saved = λ r. by_register (λ r. MayFindLate r (ended_by 0 function.prologue) (rule_of (run_of []) (column_of r))) (inl (inl refl)) (inl (inl refl)) (inl (inl refl)) (inl (inl refl)) (inl (inl refl)) (inl (inl refl)) r;
  others = λ c e. unnamed (run_of []) refl refl c e;
  arguments = refl;
}

one_row : IsPrologueRow (ended_by 2 function.prologue) (run_of pushed_one)
one_row = record {
  cfa = refl;
  ret = refl;
  saved = λ r. by_register (λ r. MayFindLate r (ended_by 2 function.prologue) (rule_of (run_of pushed_one) (column_of r))) (inl (inl refl)) (inl (inl refl)) (inl (inl refl)) (inl (inl refl)) (inl (inl refl)) (inr (refl, λ e. absurd cc)) r;
  others = λ c e. unnamed (run_of pushed_one) refl refl c e;
  arguments = refl;
}

two_row : IsPrologueRow (ended_by 4 function.prologue) (run_of pushed_two)
two_row = record {
  cfa = refl;
  ret = refl;
  saved = λ r. by_register (λ r. MayFindLate r (ended_by 4 function.prologue) (rule_of (run_of pushed_two) (column_of r))) (inl (inl refl)) (inl (inl refl)) (inl (inl refl)) (inl (inl refl)) (inr (refl, λ e. absurd cc)) (inr (refl, λ e. absurd cc)) r;
  others = λ c e. unnamed (run_of pushed_two) refl refl c e;
  arguments = refl;
}

in_start : (pc : ℕ) → 0x402000 ≤ pc → pc < 0x402002 → HasRow bases fde pc (IsPrologueRow (ended_by (pc - 0x402000) function.prologue))
in_start pc from below =
    let same = same_row_at bases fde 0x402000 0x402002 pc from below (lit≤ tt) (lit≤ tt) stay_start in
    let steps : ended_by (pc - 0x402000) function.prologue ≡ ended_by 0 function.prologue = same_ended function.prologue 0 2 (pc - 0x402000) (omega arith) (omega arith) refl in
    (run_of [], same ∙ at_start, rw steps start_row)

in_one : (pc : ℕ) → 0x402002 ≤ pc → pc < 0x402004 → HasRow bases fde pc (IsPrologueRow (ended_by (pc - 0x402000) function.prologue))
in_one pc from below =
    let same = same_row_at bases fde 0x402002 0x402004 pc from below (lit≤ tt) (lit≤ tt) stay_one in
    let steps : ended_by (pc - 0x402000) function.prologue ≡ ended_by 2 function.prologue = same_ended function.prologue 2 4 (pc - 0x402000) (omega arith) (omega arith) refl in
    (run_of pushed_one, same ∙ at_one, rw steps one_row)

in_two : (pc : ℕ) → 0x402004 ≤ pc → pc < 0x402005 → HasRow bases fde pc (IsPrologueRow (ended_by (pc - 0x402000) function.prologue))
in_two pc from below =
    let same = same_row_at bases fde 0x402004 0x402005 pc from below (lit≤ tt) (lit≤ tt) stay_two in
    let steps : ended_by (pc - 0x402000) function.prologue ≡ ended_by 4 function.prologue = same_ended function.prologue 4 5 (pc - 0x402000) (omega arith) (omega arith) refl in
    (run_of pushed_two, same ∙ at_two, rw steps two_row)

rows : DescribesRows bases function fde
rows = record {
  bodies = λ inner pc h. let both = both_true (leb 0x402005 pc) (ltb pc 0x402020) (either_false _ h) in
      let same = same_row_at bases fde 0x402005 0x402020 pc (leb-true 0x402005 pc both.0) (ltb-true pc 0x402020 both.1) (lit≤ tt) (lit≤ tt) stay_body in
      (run_of pushed_all, same ∙ at_body, body_row);
  prologue = λ inner pc from below. elim (cases_lt pc 0x402002) [ inl lt ↦ in_start pc from lt | inr ge ↦ elim (cases_lt pc 0x402004) [ inl lt ↦ in_one pc ge lt | inr ge ↦ in_two pc ge below ] ];
  outermost = λ outer pc h. absurd cc;
}

frames_described : DescribesFrames image bases table entries (function ∷ [])
frames_described = record {
  reads = listed;
  lengths = ((20, _, refl, lit< tt), ((28, _, refl, lit< tt), tt));
  each = (
    record {
      fde = fde;
      one = refl;
      describes = record {
        code = record {
          cie = record { version = refl; code_factor = refl; data_factor = refl; return_column = refl; augmentation = inl refl; address = refl; language = inl refl; personality = tt; program = (2, refl) };
          earlier = lit< tt;
          start = refl;
          end = refl;
          rows = rows;
        };
        language = refl;
      };
    },
    tt,
  );
  foreign = λ other has none. elim (here_or_later fde [] other has) [
    | inl same ↦ let h = rw (← same) at none in absurd cc
    | inr later ↦ absurd (none_in_nil other later)
  ];
}

pub described : DescribesModule image module_of_it (function ∷ [])
described = record {
  frame = 0x500000;
  address = refl;
  entries = entries;
  frames = frames_described;
  nonempty = (lit< tt, tt);
  apart = pairs_one DescriptionsApart fde;
  inside = ((lit≤ tt, lit≤ tt), tt);
  header = tt;
}

apart : AllPairs (λ (a b : Save). a.register ≢ b.register) (saves (steps_of function.prologue))
apart i zero d lt below = absurd (omega arith)
apart zero (suc zero) d lt below = λ e. absurd cc
apart zero (suc (suc zero)) d lt below = λ e. absurd cc
apart (suc zero) (suc (suc zero)) d lt below = λ e. absurd cc
apart (suc i) (suc zero) d lt below = absurd (omega arith)
apart (suc (suc i)) (suc (suc zero)) d lt below = absurd (omega arith)
apart i (suc (suc (suc j))) d lt below = absurd (omega arith)

pub is_function : IsFunction SystemV function
is_function = record {
  prologue = record { ends = (lit< tt, (lit< tt, (lit< tt, tt))); each = (refl, (refl, (refl, tt))); once = apart };
  has_body = λ e. absurd cc;
  bodies = (lit≤ tt, lit< tt, lit≤ tt, tt);
  sites = tt;
  outermost = λ e. absurd cc;
}

pub stands : StandsAfter image function pushes_done pushes_later caller state
unfolding word_at
stands = record {
  steps = refl;
  entered = record {
    room = lit≤ tt;
    returns = λ _. refl;
    leaves = (lit≤ tt, refl, (lit≤ tt, refl, tt));
    stack = refl;
    keeps = by_register (λ r. distance r (steps_of pushes_done) ≡ None → value_of r state ≡ value_of r caller) (λ e. refl) (λ e. refl) (λ e. refl) (λ e. refl) (λ e. refl) (λ e. refl);
  };
  intact = by_register (λ r. _ → value_of r state ≡ value_of r caller) (λ e. refl) (λ e. refl) (λ e. refl) (λ e. refl) (λ e. refl) (λ e. refl);
  after = lit≤ tt;
  below = lit< tt;
}
