-- Stops after each step of a function's prologue and in its body are described, and so are walks from two stops.
use Rattle.std.proofs.Common.{◌≡◌, ◌≢◌, ℕ, zero, suc, ◌-◌, ◌<◌, ◌≤◌, true, false, leb, ltb, List, [], ◌∷◌, Some, None, Ok, refl, ◌∙◌, arith, inl, inr, lit<, lit≤}
use Rattle.std.specs.Prelude.{IsTrue}
use Rattle.std.specs.List.{AllPairs, Contains}
use Rattle.std.proofs.lemmas.Bool.{leb-true, ltb-true, cases_lt}
use Rattle.memory_image.specs.Image.{word_at}
use Rattle.unwind_definitions.specs.Instructions.{program, instruction_of}
use Rattle.unwind_definitions.specs.Entries.{coding_of, AreEntries, entry_at}
use Rattle.unwind_definitions.specs.Row.{row_at, rule_of}
use Rattle.unwind_definitions.specs.State.{RBX, RBP, R12, State, Shows, IsState, value_of, column_of}
use Rattle.unwind_definitions.specs.Prologue.{SystemV, PrologueStep, Save, saves, steps_of, distance, frame_depth, Push, Followed, SetFrame, Allocate, Store}
use Rattle.unwind_definitions.specs.Entered.{IsEntered}
use Rattle.unwind_definitions.specs.Function.{in_body, IsFunction}
use Rattle.unwind_definitions.specs.DescribedRows.{HasRow, IsBodyRow, IsPrologueRow, MayFindLate, FindsRegister, ended_by, DescribesRows}
use Rattle.unwind_definitions.specs.LanguageTable.{input_at}
use Rattle.unwind_definitions.specs.FrameTable.{DescribesFunction, DescribesFrames}
use Rattle.unwind_definitions.specs.Module.{DescriptionsApart, DescribesModule}
use Rattle.unwind_definitions.specs.Stopped.{StandsAfter}
use Rattle.unwind_laws.specs.Pushing as pushing
use Rattle.unwind_laws.specs.Storing.{bases, cie, run_of, pushed, set}
use Rattle.unwind_laws.proofs.Booleans.{both_true, either_false, here_or_later, none_in_nil, pairs_one}
use Rattle.unwind_laws.proofs.RowFacts.{by_register, state_fits, unnamed, same_ended}
use Rattle.unwind_laws.proofs.Steady.{is_steady, same_row_at}
use Rattle.unwind_laws.proofs.PushingValid.{one_valid}
use Rattle.unwind_arch.specs.ContextViews.{columns_of}
use Rattle.format_definitions.specs.Modules.{FormatModule, in_format, LiesDescribed}
use Rattle.format_definitions.specs.Modules as formats
use Rattle.format_definitions.specs.Stops.{IsDescribedStop}
use Rattle.stack_steps.specs.StopSample.{image, home, modules, fde, entries, in_body_run, function, call, before_steps, after_push, after_set, after_late_push, after_allocation, after_store, in_body_of_it, pushing_space, stopped_at, before_push, after_the_push}
use Rattle.stack_steps.specs.SpaceViews.{formats_of}
use Rattle.stack_steps.specs.Stopped.{StartsStopped}

-- between two addresses the description's row stays
abbrev Stays : ℕ → ℕ → Type 0
Stays low high = is_steady fde.start low high (program (coding_of bases cie) fde.program).instructions ≡ true

-- what the readers give for this sample
record Reads : Type 0 where
  pub listed : AreEntries bases (input_at image 0x500000) 0 entries
  pub at_start : row_at bases fde 0x401000 ≡ Ok (run_of [])
  pub at_pushed : row_at bases fde 0x401001 ≡ Ok (run_of pushed)
  pub at_set : row_at bases fde 0x401004 ≡ Ok (run_of set)
  pub at_body : row_at bases fde 0x401012 ≡ Ok (run_of in_body_run)
  pub stay_start : Stays 0x401000 0x401001
  pub stay_pushed : Stays 0x401001 0x401004
  pub stay_set : Stays 0x401004 0x401012
  pub stay_body : Stays 0x401012 0x401020

reads : Reads
unfolding entry_at row_at instruction_of
reads = record { listed = (24, refl, (56, refl, refl)); at_start = refl; at_pushed = refl; at_set = refl; at_body = refl; stay_start = refl; stay_pushed = refl; stay_set = refl; stay_body = refl }

-- ---- the rows
start_row : IsPrologueRow (ended_by 0 function.prologue) (run_of [])
start_row = record {
  cfa = refl;
  ret = refl;
  saved = λ r. by_register (λ r. MayFindLate r (ended_by 0 function.prologue) (rule_of (run_of []) (column_of r))) (inl (inl refl)) (inl (inl refl)) (inl (inl refl)) (inl (inl refl)) (inl (inl refl)) (inl (inl refl)) r;
  others = λ c e. unnamed (run_of []) refl refl c e;
  arguments = refl;
}

pushed_row : IsPrologueRow (ended_by 1 function.prologue) (run_of pushed)
pushed_row = record {
  cfa = refl;
  ret = refl;
  saved = λ r. by_register (λ r. MayFindLate r (ended_by 1 function.prologue) (rule_of (run_of pushed) (column_of r))) (inl (inl refl)) (inl refl) (inl (inl refl)) (inl (inl refl)) (inl (inl refl)) (inl (inl refl)) r;
  others = λ c e. unnamed (run_of pushed) refl refl c e;
  arguments = refl;
}

set_row : IsPrologueRow (ended_by 4 function.prologue) (run_of set)
set_row = record {
  cfa = refl;
  ret = refl;
  saved = λ r. by_register (λ r. MayFindLate r (ended_by 4 function.prologue) (rule_of (run_of set) (column_of r))) (inl (inl refl)) (inl refl) (inl (inl refl)) (inl (inl refl)) (inl (inl refl)) (inl (inl refl)) r;
  others = λ c e. unnamed (run_of set) refl refl c e;
  arguments = refl;
}

-- RBX is pushed, and later R12 stored, and the table doesn't yet tell of it
late_row : IsPrologueRow (ended_by 5 function.prologue) (run_of set)
late_row = record {
  cfa = refl;
  ret = refl;
  saved = λ r. by_register (λ r. MayFindLate r (ended_by 5 function.prologue) (rule_of (run_of set) (column_of r))) (inr (refl, λ e. absurd cc)) (inl refl) (inl (inl refl)) (inl (inl refl)) (inl (inl refl)) (inl (inl refl)) r;
  others = λ c e. unnamed (run_of set) refl refl c e;
  arguments = refl;
}

allocated_row : IsPrologueRow (ended_by 9 function.prologue) (run_of set)
allocated_row = record {
  cfa = refl;
  ret = refl;
  saved = λ r. by_register (λ r. MayFindLate r (ended_by 9 function.prologue) (rule_of (run_of set) (column_of r))) (inr (refl, λ e. absurd cc)) (inl refl) (inl (inl refl)) (inl (inl refl)) (inl (inl refl)) (inl (inl refl)) r;
  others = λ c e. unnamed (run_of set) refl refl c e;
  arguments = refl;
}

stored_row : IsPrologueRow (ended_by 14 function.prologue) (run_of set)
stored_row = record {
  cfa = refl;
  ret = refl;
  saved = λ r. by_register (λ r. MayFindLate r (ended_by 14 function.prologue) (rule_of (run_of set) (column_of r))) (inr (refl, λ e. absurd cc)) (inl refl) (inr (refl, λ e. absurd cc)) (inl (inl refl)) (inl (inl refl)) (inl (inl refl)) r;
  others = λ c e. unnamed (run_of set) refl refl c e;
  arguments = refl;
}

body_row : IsBodyRow (steps_of function.prologue) (run_of in_body_run)
body_row = record {
  cfa = refl;
  ret = refl;
  saved = λ r. by_register (λ r. FindsRegister (distance r (steps_of function.prologue)) (rule_of (run_of in_body_run) (column_of r))) refl refl refl (inl refl) (inl refl) (inl refl) r;
  others = λ c e. unnamed (run_of in_body_run) refl refl c e;
  arguments = refl;
}

lies_in_body : (pc : ℕ) → IsTrue (in_body function pc) → (0x401012 ≤ pc) × (pc < 0x401020)
lies_in_body pc h =
    let both = both_true (leb 0x401012 pc) (ltb pc 0x401020) (either_false _ h) in
    (leb-true 0x401012 pc both.0, ltb-true pc 0x401020 both.1)

-- the steps that have ended between two ends
same_steps : (low high pc : ℕ) → low ≤ pc - 0x401000 → pc - 0x401000 < high → IsPrologueRow (ended_by low function.prologue) (run_of set) → ended_by (pc - 0x401000) function.prologue ≡ ended_by low function.prologue →
    0x401004 ≤ pc → pc < 0x401012 → HasRow bases fde pc (IsPrologueRow (ended_by (pc - 0x401000) function.prologue))
same_steps low high pc above under row steps from below =
    let same = same_row_at bases fde 0x401004 0x401012 pc from below (lit≤ tt) (lit≤ tt) reads.stay_set in
    (run_of set, same ∙ reads.at_set, rw steps row)

at_start : (pc : ℕ) → 0x401000 ≤ pc → pc < 0x401001 → HasRow bases fde pc (IsPrologueRow (ended_by (pc - 0x401000) function.prologue))
at_start pc from below =
    let same = same_row_at bases fde 0x401000 0x401001 pc from below (lit≤ tt) (lit≤ tt) reads.stay_start in
    let steps : ended_by (pc - 0x401000) function.prologue ≡ ended_by 0 function.prologue = same_ended function.prologue 0 1 (pc - 0x401000) (omega arith) (omega arith) refl in
    (run_of [], same ∙ reads.at_start, rw steps start_row)

at_pushed : (pc : ℕ) → 0x401001 ≤ pc → pc < 0x401004 → HasRow bases fde pc (IsPrologueRow (ended_by (pc - 0x401000) function.prologue))
at_pushed pc from below =
    let same = same_row_at bases fde 0x401001 0x401004 pc from below (lit≤ tt) (lit≤ tt) reads.stay_pushed in
    let steps : ended_by (pc - 0x401000) function.prologue ≡ ended_by 1 function.prologue = same_ended function.prologue 1 4 (pc - 0x401000) (omega arith) (omega arith) refl in
    (run_of pushed, same ∙ reads.at_pushed, rw steps pushed_row)

at_set : (pc : ℕ) → 0x401004 ≤ pc → pc < 0x401005 → HasRow bases fde pc (IsPrologueRow (ended_by (pc - 0x401000) function.prologue))
at_set pc from below = same_steps 4 5 pc (omega arith) (omega arith) set_row (same_ended function.prologue 4 5 (pc - 0x401000) (omega arith) (omega arith) refl) from (omega arith)

at_late : (pc : ℕ) → 0x401005 ≤ pc → pc < 0x401009 → HasRow bases fde pc (IsPrologueRow (ended_by (pc - 0x401000) function.prologue))
at_late pc from below = same_steps 5 9 pc (omega arith) (omega arith) late_row (same_ended function.prologue 5 9 (pc - 0x401000) (omega arith) (omega arith) refl) (omega arith) (omega arith)

at_allocated : (pc : ℕ) → 0x401009 ≤ pc → pc < 0x40100e → HasRow bases fde pc (IsPrologueRow (ended_by (pc - 0x401000) function.prologue))
at_allocated pc from below = same_steps 9 14 pc (omega arith) (omega arith) allocated_row (same_ended function.prologue 9 14 (pc - 0x401000) (omega arith) (omega arith) refl) (omega arith) (omega arith)

at_stored : (pc : ℕ) → 0x40100e ≤ pc → pc < 0x401012 → HasRow bases fde pc (IsPrologueRow (ended_by (pc - 0x401000) function.prologue))
at_stored pc from below = same_steps 14 18 pc (omega arith) (omega arith) stored_row (same_ended function.prologue 14 18 (pc - 0x401000) (omega arith) (omega arith) refl) (omega arith) below

-- from where RBP is set to the body
once_set : (pc : ℕ) → 0x401004 ≤ pc → pc < 0x401012 → HasRow bases fde pc (IsPrologueRow (ended_by (pc - 0x401000) function.prologue))
once_set pc from below = elim (cases_lt pc 0x401005) [
  | inl lt ↦ at_set pc from lt
  | inr ge ↦ elim (cases_lt pc 0x401009) [ inl lt ↦ at_late pc ge lt | inr ge ↦ elim (cases_lt pc 0x40100e) [ inl lt ↦ at_allocated pc ge lt | inr ge ↦ at_stored pc ge below ] ]
]

rows : DescribesRows bases function fde
rows = record {
  bodies = λ inner pc h. let lies = lies_in_body pc h in
      let same = same_row_at bases fde 0x401012 0x401020 pc lies.0 lies.1 (lit≤ tt) (lit≤ tt) reads.stay_body in
      (run_of in_body_run, same ∙ reads.at_body, body_row);
  prologue = λ inner pc from below. elim (cases_lt pc 0x401001) [
    | inl lt ↦ at_start pc from lt
    | inr ge ↦ elim (cases_lt pc 0x401004) [ inl lt ↦ at_pushed pc ge lt | inr ge ↦ once_set pc ge below ]
  ];
  outermost = λ outer pc h. absurd cc;
}

-- ---- the module
describes : DescribesFunction image bases function fde
describes = record {
  code = record {
    cie = record { version = refl; code_factor = refl; data_factor = refl; return_column = refl; augmentation = inl refl; address = refl; language = inl refl; personality = tt; program = (2, refl) };
    earlier = lit< tt;
    start = refl;
    end = refl;
    rows = rows;
  };
  language = refl;
}

frames_described : DescribesFrames image bases (input_at image 0x500000) entries (function ∷ [])
frames_described = record {
  reads = reads.listed;
  lengths = ((20, _, refl, lit< tt), ((28, _, refl, lit< tt), tt));
  each = (record { fde = fde; one = refl; describes = describes }, tt);
  foreign = λ other has none. elim (here_or_later fde [] other has) [
    | inl same ↦ let h = rw (← same) at none in absurd cc
    | inr later ↦ absurd (none_in_nil other later)
  ];
}

module_described : DescribesModule image home (function ∷ [])
module_described = record {
  frame = 0x500000;
  address = refl;
  entries = entries;
  frames = frames_described;
  nonempty = (lit< tt, tt);
  apart = pairs_one DescriptionsApart fde;
  inside = ((lit≤ tt, lit≤ tt), tt);
  header = tt;
}

-- RBP, RBX and R12 are three registers
saved_once : AllPairs (λ (a b : Save). a.register ≢ b.register) (saves (steps_of function.prologue))
saved_once i zero d lt below = absurd (omega arith)
saved_once zero (suc zero) d lt below = λ e. absurd cc
saved_once (suc i) (suc zero) d lt below = absurd (omega arith)
saved_once zero (suc (suc zero)) d lt below = λ e. absurd cc
saved_once (suc zero) (suc (suc zero)) d lt below = λ e. absurd cc
saved_once (suc (suc i)) (suc (suc zero)) d lt below = absurd (omega arith)
saved_once i (suc (suc (suc j))) d lt below = absurd (omega arith)

is_function : IsFunction SystemV function
is_function = record {
  prologue = record {
    ends = (lit< tt, (lit< tt, (lit< tt, (lit< tt, (lit< tt, tt)))));
    each = (refl, ((refl, refl, refl), (refl, ((lit< tt, refl), ((refl, refl, lit≤ tt), tt)))));
    once = saved_once;
  };
  has_body = λ e. absurd cc;
  bodies = (lit≤ tt, lit< tt, lit≤ tt, tt);
  sites = tt;
  outermost = λ e. absurd cc;
}

-- ---- the stops

caller_fits : IsState call.caller
caller_fits = state_fits call.caller (lit< tt) (lit< tt) (lit< tt) (lit< tt) (lit< tt) (lit< tt) (lit< tt) (lit< tt)

-- a stop in the prologue of the function
stop_in_prologue : (done later : List PrologueStep) (s : State) → s.ra ≢ 0 → StandsAfter image function done later call.caller s → IsDescribedStop image modules (function ∷ []) s call
stop_in_prologue done later s returns stands = record {
  inner = refl;
  listed = (0, lit< tt, refl);
  lies = record { home = formats.Elf home; known = (0, lit< tt, refl); inside = refl; is_function = is_function; describes = module_described };
  returns = returns;
  stands = inl (record { done = done; later = later; stands = stands });
  caller = caller_fits;
}

abbrev done_before_steps : List PrologueStep
done_before_steps = []

stands_before_steps : StandsAfter image function done_before_steps (record { step = Push (Followed RBP); end = 1 } ∷ record { step = SetFrame 0; end = 4 } ∷ record { step = Push (Followed RBX); end = 5 } ∷ record { step = Allocate 24; end = 9 } ∷ record { step = Store (Followed R12) 8; end = 14 } ∷ []) call.caller before_steps
unfolding word_at
stands_before_steps = record {
  steps = refl;
  entered = record {
    room = lit≤ tt;
    returns = λ _. refl;
    leaves = tt;
    stack = refl;
    keeps = by_register (λ r. distance r (steps_of done_before_steps) ≡ None → value_of r before_steps ≡ value_of r call.caller) (λ e. refl) (λ e. refl) (λ e. refl) (λ e. refl) (λ e. refl) (λ e. refl);
  };
  intact = by_register (λ r. (r ≡ RBP → frame_depth (steps_of done_before_steps) ≡ None) → value_of r before_steps ≡ value_of r call.caller) (λ e. refl) (λ e. refl) (λ e. refl) (λ e. refl) (λ e. refl) (λ e. refl);
  after = lit≤ tt;
  below = lit< tt;
}

pub stopped_before_steps : IsDescribedStop image modules (function ∷ []) before_steps call
stopped_before_steps = stop_in_prologue done_before_steps (record { step = Push (Followed RBP); end = 1 } ∷ record { step = SetFrame 0; end = 4 } ∷ record { step = Push (Followed RBX); end = 5 } ∷ record { step = Allocate 24; end = 9 } ∷ record { step = Store (Followed R12) 8; end = 14 } ∷ []) before_steps (λ e. absurd cc) stands_before_steps

abbrev done_after_push : List PrologueStep
done_after_push = record { step = Push (Followed RBP); end = 1 } ∷ []

stands_after_push : StandsAfter image function done_after_push (record { step = SetFrame 0; end = 4 } ∷ record { step = Push (Followed RBX); end = 5 } ∷ record { step = Allocate 24; end = 9 } ∷ record { step = Store (Followed R12) 8; end = 14 } ∷ []) call.caller after_push
unfolding word_at
stands_after_push = record {
  steps = refl;
  entered = record {
    room = lit≤ tt;
    returns = λ _. refl;
    leaves = (lit≤ tt, refl, tt);
    stack = refl;
    keeps = by_register (λ r. distance r (steps_of done_after_push) ≡ None → value_of r after_push ≡ value_of r call.caller) (λ e. refl) (λ e. absurd cc) (λ e. refl) (λ e. refl) (λ e. refl) (λ e. refl);
  };
  intact = by_register (λ r. (r ≡ RBP → frame_depth (steps_of done_after_push) ≡ None) → value_of r after_push ≡ value_of r call.caller) (λ e. refl) (λ e. refl) (λ e. refl) (λ e. refl) (λ e. refl) (λ e. refl);
  after = lit≤ tt;
  below = lit< tt;
}

pub stopped_after_push : IsDescribedStop image modules (function ∷ []) after_push call
stopped_after_push = stop_in_prologue done_after_push (record { step = SetFrame 0; end = 4 } ∷ record { step = Push (Followed RBX); end = 5 } ∷ record { step = Allocate 24; end = 9 } ∷ record { step = Store (Followed R12) 8; end = 14 } ∷ []) after_push (λ e. absurd cc) stands_after_push

abbrev done_after_set : List PrologueStep
done_after_set = record { step = Push (Followed RBP); end = 1 } ∷ record { step = SetFrame 0; end = 4 } ∷ []

stands_after_set : StandsAfter image function done_after_set (record { step = Push (Followed RBX); end = 5 } ∷ record { step = Allocate 24; end = 9 } ∷ record { step = Store (Followed R12) 8; end = 14 } ∷ []) call.caller after_set
unfolding word_at
stands_after_set = record {
  steps = refl;
  entered = record {
    room = lit≤ tt;
    returns = λ _. refl;
    leaves = (lit≤ tt, refl, (lit< tt, tt));
    stack = (lit≤ tt, refl);
    keeps = by_register (λ r. distance r (steps_of done_after_set) ≡ None → value_of r after_set ≡ value_of r call.caller) (λ e. refl) (λ e. absurd cc) (λ e. refl) (λ e. refl) (λ e. refl) (λ e. refl);
  };
  intact = by_register (λ r. (r ≡ RBP → frame_depth (steps_of done_after_set) ≡ None) → value_of r after_set ≡ value_of r call.caller) (λ e. refl) (λ e. let none = e refl in absurd cc) (λ e. refl) (λ e. refl) (λ e. refl) (λ e. refl);
  after = lit≤ tt;
  below = lit< tt;
}

pub stopped_after_set : IsDescribedStop image modules (function ∷ []) after_set call
stopped_after_set = stop_in_prologue done_after_set (record { step = Push (Followed RBX); end = 5 } ∷ record { step = Allocate 24; end = 9 } ∷ record { step = Store (Followed R12) 8; end = 14 } ∷ []) after_set (λ e. absurd cc) stands_after_set

abbrev done_after_late_push : List PrologueStep
done_after_late_push = record { step = Push (Followed RBP); end = 1 } ∷ record { step = SetFrame 0; end = 4 } ∷ record { step = Push (Followed RBX); end = 5 } ∷ []

stands_after_late_push : StandsAfter image function done_after_late_push (record { step = Allocate 24; end = 9 } ∷ record { step = Store (Followed R12) 8; end = 14 } ∷ []) call.caller after_late_push
unfolding word_at
stands_after_late_push = record {
  steps = refl;
  entered = record {
    room = lit≤ tt;
    returns = λ _. refl;
    leaves = (lit≤ tt, refl, (lit< tt, (lit≤ tt, refl, tt)));
    stack = (lit≤ tt, refl);
    keeps = by_register (λ r. distance r (steps_of done_after_late_push) ≡ None → value_of r after_late_push ≡ value_of r call.caller) (λ e. absurd cc) (λ e. absurd cc) (λ e. refl) (λ e. refl) (λ e. refl) (λ e. refl);
  };
  intact = by_register (λ r. (r ≡ RBP → frame_depth (steps_of done_after_late_push) ≡ None) → value_of r after_late_push ≡ value_of r call.caller) (λ e. refl) (λ e. let none = e refl in absurd cc) (λ e. refl) (λ e. refl) (λ e. refl) (λ e. refl);
  after = lit≤ tt;
  below = lit< tt;
}

pub stopped_after_late_push : IsDescribedStop image modules (function ∷ []) after_late_push call
stopped_after_late_push = stop_in_prologue done_after_late_push (record { step = Allocate 24; end = 9 } ∷ record { step = Store (Followed R12) 8; end = 14 } ∷ []) after_late_push (λ e. absurd cc) stands_after_late_push

abbrev done_after_allocation : List PrologueStep
done_after_allocation = record { step = Push (Followed RBP); end = 1 } ∷ record { step = SetFrame 0; end = 4 } ∷ record { step = Push (Followed RBX); end = 5 } ∷ record { step = Allocate 24; end = 9 } ∷ []

stands_after_allocation : StandsAfter image function done_after_allocation (record { step = Store (Followed R12) 8; end = 14 } ∷ []) call.caller after_allocation
unfolding word_at
stands_after_allocation = record {
  steps = refl;
  entered = record {
    room = lit≤ tt;
    returns = λ _. refl;
    leaves = (lit≤ tt, refl, (lit< tt, (lit≤ tt, refl, (lit≤ tt, tt))));
    stack = (lit≤ tt, refl);
    keeps = by_register (λ r. distance r (steps_of done_after_allocation) ≡ None → value_of r after_allocation ≡ value_of r call.caller) (λ e. absurd cc) (λ e. absurd cc) (λ e. refl) (λ e. refl) (λ e. refl) (λ e. refl);
  };
  intact = by_register (λ r. (r ≡ RBP → frame_depth (steps_of done_after_allocation) ≡ None) → value_of r after_allocation ≡ value_of r call.caller) (λ e. refl) (λ e. let none = e refl in absurd cc) (λ e. refl) (λ e. refl) (λ e. refl) (λ e. refl);
  after = lit≤ tt;
  below = lit< tt;
}

pub stopped_after_allocation : IsDescribedStop image modules (function ∷ []) after_allocation call
stopped_after_allocation = stop_in_prologue done_after_allocation (record { step = Store (Followed R12) 8; end = 14 } ∷ []) after_allocation (λ e. absurd cc) stands_after_allocation

abbrev done_after_store : List PrologueStep
done_after_store = record { step = Push (Followed RBP); end = 1 } ∷ record { step = SetFrame 0; end = 4 } ∷ record { step = Push (Followed RBX); end = 5 } ∷ record { step = Allocate 24; end = 9 } ∷ record { step = Store (Followed R12) 8; end = 14 } ∷ []

stands_after_store : StandsAfter image function done_after_store ([]) call.caller after_store
unfolding word_at
stands_after_store = record {
  steps = refl;
  entered = record {
    room = lit≤ tt;
    returns = λ _. refl;
    leaves = (lit≤ tt, refl, (lit< tt, (lit≤ tt, refl, (lit≤ tt, (lit≤ tt, refl, tt)))));
    stack = (lit≤ tt, refl);
    keeps = by_register (λ r. distance r (steps_of done_after_store) ≡ None → value_of r after_store ≡ value_of r call.caller) (λ e. absurd cc) (λ e. absurd cc) (λ e. absurd cc) (λ e. refl) (λ e. refl) (λ e. refl);
  };
  intact = by_register (λ r. (r ≡ RBP → frame_depth (steps_of done_after_store) ≡ None) → value_of r after_store ≡ value_of r call.caller) (λ e. refl) (λ e. let none = e refl in absurd cc) (λ e. refl) (λ e. refl) (λ e. refl) (λ e. refl);
  after = lit≤ tt;
  below = lit< tt;
}

pub stopped_after_store : IsDescribedStop image modules (function ∷ []) after_store call
stopped_after_store = stop_in_prologue done_after_store ([]) after_store (λ e. absurd cc) stands_after_store

entered : IsEntered image false (steps_of function.prologue) call.caller in_body_of_it
unfolding word_at
entered = record {
  room = lit≤ tt;
  returns = λ _. refl;
  leaves = (lit≤ tt, refl, (lit< tt, (lit≤ tt, refl, (lit≤ tt, (lit≤ tt, refl, tt)))));
  stack = (lit≤ tt, refl);
  keeps = by_register (λ r. distance r (steps_of function.prologue) ≡ None → value_of r in_body_of_it ≡ value_of r call.caller) (λ e. absurd cc) (λ e. absurd cc) (λ e. absurd cc) (λ e. refl) (λ e. refl) (λ e. refl);
}

pub stopped_in_body : IsDescribedStop image modules (function ∷ []) in_body_of_it call
stopped_in_body = record {
  inner = refl;
  listed = (0, lit< tt, refl);
  lies = record { home = formats.Elf home; known = (0, lit< tt, refl); inside = refl; is_function = is_function; describes = module_described };
  returns = λ e. absurd cc;
  stands = inr (record { inside = refl; entered = entered });
  caller = caller_fits;
}

-- ---- walks from a function that pushes RBX
pushing_lies : LiesDescribed pushing.image (formats_of pushing_space) (pushing.function ∷ []) pushing.function
pushing_lies = record { home = formats.Elf pushing.module_of_it; known = (0, lit< tt, refl); inside = refl; is_function = one_valid.are_functions.0; describes = one_valid.modules.0 }

pushing_shows : (ra : ℕ) → Shows (columns_of (stopped_at ra)) (pushing.state ra 0x7000 9)
pushing_shows ra = record { ra = refl; sp = refl; saved = λ r. by_register (λ r. columns_of (stopped_at ra) (column_of r) ≡ Some (value_of r (pushing.state ra 0x7000 9))) refl refl refl refl refl refl r }

stands_before_push : StandsAfter pushing.image pushing.function [] pushing.function.prologue before_push.caller (pushing.state 0x401000 0x7000 9)
unfolding word_at
stands_before_push = record {
  steps = refl;
  entered = record { room = lit≤ tt; returns = λ _. refl; leaves = tt; stack = refl; keeps = by_register (λ r. distance r [] ≡ None → value_of r (pushing.state 0x401000 0x7000 9) ≡ value_of r before_push.caller) (λ e. refl) (λ e. refl) (λ e. refl) (λ e. refl) (λ e. refl) (λ e. refl) };
  intact = by_register (λ r. (r ≡ RBP → frame_depth [] ≡ None) → value_of r (pushing.state 0x401000 0x7000 9) ≡ value_of r before_push.caller) (λ e. refl) (λ e. refl) (λ e. refl) (λ e. refl) (λ e. refl) (λ e. refl);
  after = lit≤ tt;
  below = lit< tt;
}

-- no module holds an address below the one module
outside : (m : FormatModule) → Contains (formats_of pushing_space) m → IsTrue (in_format 4 m) → ⊥
outside m has inside = elim (here_or_later (formats.Elf pushing.module_of_it) [] m has) [
  | inl same ↦ let h = rw (← same) at inside in absurd cc
  | inr later ↦ absurd (none_in_nil m later)
]

pub walks_before_push : StartsStopped pushing_space (stopped_at 0x401000) 2 (pushing.function ∷ []) (pushing.state 0x401000 0x7000 9) before_push []
unfolding pushing_lies
walks_before_push = record {
  stopped = record {
    inner = refl;
    listed = (0, lit< tt, refl);
    lies = pushing_lies;
    returns = λ e. absurd cc;
    stands = inl (record { done = []; later = pushing.function.prologue; stands = stands_before_push });
    caller = state_fits before_push.caller (lit< tt) (lit< tt) (lit< tt) (lit< tt) (lit< tt) (lit< tt) (lit< tt) (lit< tt);
  };
  described = record {
    chain = record { state = state_fits before_push.caller (lit< tt) (lit< tt) (lit< tt) (lit< tt) (lit< tt) (lit< tt) (lit< tt) (lit< tt); ends = inr ((λ e. absurd cc), (λ m has inside. absurd (outside m has inside))) };
    described = tt;
    ends = inr (λ m has inside. absurd (outside m has inside));
  };
  shows = pushing_shows 0x401000;
  shorter = lit< tt;
}

pub walks_in_body : StartsStopped pushing_space (stopped_at 0x401006) 2 (pushing.function ∷ []) pushing.start after_the_push []
unfolding pushing_lies
walks_in_body = record {
  stopped = record {
    inner = refl;
    listed = (0, lit< tt, refl);
    lies = pushing_lies;
    returns = λ e. absurd cc;
    stands = inr (record { inside = refl; entered = one_valid.chain.0.called.entered });
    caller = one_valid.chain.1.state;
  };
  described = record { chain = record { state = one_valid.chain.1.state; ends = inl refl }; described = tt; ends = inl refl };
  shows = pushing_shows 0x401006;
  shorter = lit< tt;
}
