-- One function that pushes RBX: a call of it, and three, are valid.
use Rattle.std.proofs.Common.{◌≡◌, ℕ, ◌-◌, ◌^◌, ◌<◌, ◌≤◌, Bool, true, false, eqb, leb, ltb, List, [], ◌∷◌, Some, None, Ok, refl, subst, ◌∙◌, arith, inl, inr, lit<, lit≤}
use Rattle.std.specs.Prelude.{IsTrue, ◌≢◌}
use Rattle.std.proofs.lemmas.Bool.{leb-true, ltb-true}
use Rattle.memory_image.specs.Image.{Span, word_at}
use Rattle.unwind_definitions.specs.Instructions.{program, instruction_of}
use Rattle.unwind_definitions.specs.Entries.{coding_of, AreEntries, entry_at}
use Rattle.unwind_definitions.specs.Row.{row_at, rule_of}
use Rattle.unwind_definitions.specs.State.{CalleeSaved, RBX, RBP, R12, R13, R14, R15, State, value_of, column_of, IsState, Shows}
use Rattle.unwind_definitions.specs.Prologue.{SystemV, Save, steps_of, distance}
use Rattle.unwind_definitions.specs.Entered.{IsEntered}
use Rattle.unwind_definitions.specs.Function.{in_body, IsFunction}
use Rattle.unwind_definitions.specs.DescribedRows.{HasRow, IsBodyRow, IsPrologueRow, MayFindLate, FindsRegister, ended_by, DescribesRows}
use Rattle.unwind_definitions.specs.FrameTable.{DescribesFunction, DescribesFrames}
use Rattle.unwind_definitions.specs.Module.{IsElfProcess, AreApart, DescriptionsApart, DescribesModule}
use Rattle.unwind_definitions.specs.Chain.{Call, IsCalled, IsLink}
use Rattle.unwind_definitions.specs.Valid.{IsElfValid}
use Rattle.unwind_laws.specs.Columns.{columns_of}
use Rattle.unwind_laws.specs.Running.{HasNoFault}
use Rattle.unwind_laws.specs.Undoes.{AreRules, rule_in}
use Rattle.unwind_laws.specs.Walked.{CanStep}
use Rattle.unwind_laws.specs.Pushing.{image, image_of_three, module_of_it, table, bases, fde, entries, common, start_run, body_run, body_rules, function, state, process, process_of_three, start, caller, calls, calls_of_three}
use Rattle.unwind_laws.proofs.Booleans.{both_true, either_false, here_or_later, none_in_nil, pairs_one}
use Rattle.unwind_laws.proofs.RowFacts.{by_register, state_fits, unnamed}
use Rattle.unwind_laws.proofs.Steady.{is_steady, same_row_at}

pub columns_show : (s : State) → Shows (columns_of s) s
columns_show s = record { ra = refl; sp = refl; saved = λ r. by_register (λ r. columns_of s (column_of r) ≡ Some (value_of r s)) refl refl refl refl refl refl r }

-- what the readers give for this sample
record Reads : Type 0 where
  pub listed : AreEntries bases table 0 entries
  pub at_start : row_at bases fde 0x401000 ≡ Ok start_run
  pub at_body : row_at bases fde 0x401001 ≡ Ok body_run
  pub steady : is_steady 0x401000 0x401001 0x401010 (program (coding_of bases fde.cie) fde.program).instructions ≡ true

reads : Reads
unfolding entry_at row_at instruction_of
reads = record { listed = (24, refl, (48, refl, refl)); at_start = refl; at_body = refl; steady = refl }

body_row : IsBodyRow (steps_of function.prologue) body_run
body_row = record {
  cfa = refl;
  ret = refl;
  saved = λ r. by_register (λ r. FindsRegister (distance r (steps_of function.prologue)) (rule_of body_run (column_of r))) refl (inl refl) (inl refl) (inl refl) (inl refl) (inl refl) r;
  others = λ c e. unnamed body_run refl refl c e;
  arguments = refl;
}

start_row : IsPrologueRow [] start_run
start_row = record {
  cfa = refl;
  ret = refl;
  saved = λ r. by_register (λ r. MayFindLate r [] (rule_of start_run (column_of r))) (inl (inl refl)) (inl (inl refl)) (inl (inl refl)) (inl (inl refl)) (inl (inl refl)) (inl (inl refl)) r;
  others = λ c e. unnamed start_run refl refl c e;
  arguments = refl;
}

in_body_is : (pc : ℕ) → IsTrue (in_body function pc) → (0x401001 ≤ pc) × (pc < 0x401010)
in_body_is pc h =
    let both = both_true (leb 0x401001 pc) (ltb pc 0x401010) (either_false _ h) in
    (leb-true 0x401001 pc both.0, ltb-true pc 0x401010 both.1)

pub is_function : IsFunction SystemV function
is_function = record {
  prologue = record { ends = (lit< tt, tt); each = (refl, tt); once = pairs_one (λ (a b : Save). a.register ≢ b.register) _ };
  has_body = λ e. absurd cc;
  bodies = (lit≤ tt, lit< tt, lit≤ tt, tt);
  sites = tt;
  outermost = λ e. absurd cc;
}

rows : DescribesRows bases function fde
rows = record {
  bodies = λ inner pc h. let lies = in_body_is pc h in
      let same = same_row_at bases fde 0x401001 0x401010 pc lies.0 lies.1 (lit≤ tt) (lit≤ tt) reads.steady in
      (body_run, same ∙ reads.at_body, body_row);
  prologue = λ inner pc from below. let is : 0x401000 ≡ pc = omega arith in
      subst (λ (a : ℕ). HasRow bases fde a (IsPrologueRow (ended_by (a - 0x401000) function.prologue))) is (start_run, reads.at_start, start_row);
  outermost = λ outer pc h. absurd cc;
}

pub describes : (memory : List Span) → DescribesFunction memory bases function fde
describes memory = record {
  code = record {
    cie = record { version = refl; code_factor = refl; data_factor = refl; return_column = refl; augmentation = inl refl; address = refl; language = inl refl; personality = tt; program = (2, refl) };
    earlier = lit< tt;
    start = refl;
    end = refl;
    rows = rows;
  };
  language = refl;
}

frames_described : (memory : List Span) → DescribesFrames memory bases table entries (function ∷ [])
frames_described memory = record {
  reads = reads.listed;
  lengths = ((20, _, refl, lit< tt), ((20, _, refl, lit< tt), tt));
  each = (record { fde = fde; one = refl; describes = describes memory }, tt);
  foreign = λ other has none. elim (here_or_later fde [] other has) [
    | inl same ↦ let h = rw (← same) at none in absurd cc
    | inr later ↦ absurd (none_in_nil other later)
  ];
}

module_described : DescribesModule image module_of_it (function ∷ [])
module_described = record {
  frame = 0x500000;
  address = refl;
  entries = entries;
  frames = frames_described image;
  nonempty = (lit< tt, tt);
  apart = pairs_one DescriptionsApart fde;
  inside = ((lit≤ tt, lit≤ tt), tt);
  header = tt;
}

module_of_three_described : DescribesModule image_of_three module_of_it (function ∷ [])
module_of_three_described = record {
  frame = 0x500000;
  address = refl;
  entries = entries;
  frames = frames_described image_of_three;
  nonempty = (lit< tt, tt);
  apart = pairs_one DescriptionsApart fde;
  inside = ((lit≤ tt, lit≤ tt), tt);
  header = tt;
}

words : (ra sp rbx : ℕ) → ra < 2 ^ 64 → sp < 2 ^ 64 → rbx < 2 ^ 64 → IsState (state ra sp rbx)
words ra sp rbx a b c = state_fits (state ra sp rbx) a b c (lit< tt) (lit< tt) (lit< tt) (lit< tt) (lit< tt)

entered_one : IsEntered image false (steps_of function.prologue) caller start
unfolding word_at
entered_one = record { room = lit≤ tt; returns = λ _. refl; leaves = (lit≤ tt, refl, tt); stack = refl; keeps = keeps }
  where
    keeps : (r : CalleeSaved) → distance r (steps_of function.prologue) ≡ None → value_of r start ≡ value_of r caller
    keeps RBX e = absurd cc
    keeps RBP e = refl
    keeps R12 e = refl
    keeps R13 e = refl
    keeps R14 e = refl
    keeps R15 e = refl

keeps_all : (ra sp rbx ra' sp' rbx' : ℕ) (r : CalleeSaved) → distance r (steps_of function.prologue) ≡ None → value_of r (state ra sp rbx) ≡ value_of r (state ra' sp' rbx')
keeps_all ra sp rbx ra' sp' rbx' RBX e = absurd cc
keeps_all ra sp rbx ra' sp' rbx' RBP e = refl
keeps_all ra sp rbx ra' sp' rbx' R12 e = refl
keeps_all ra sp rbx ra' sp' rbx' R13 e = refl
keeps_all ra sp rbx ra' sp' rbx' R14 e = refl
keeps_all ra sp rbx ra' sp' rbx' R15 e = refl

entered_three_0 : IsEntered image_of_three false (steps_of function.prologue) (state 0x401006 0x7010 1) start
unfolding word_at
entered_three_0 = record { room = lit≤ tt; returns = λ _. refl; leaves = (lit≤ tt, refl, tt); stack = refl; keeps = keeps_all 0x401006 0x7000 9 0x401006 0x7010 1 }

entered_three_1 : IsEntered image_of_three false (steps_of function.prologue) (state 0x401006 0x7020 2) (state 0x401006 0x7010 1)
unfolding word_at
entered_three_1 = record { room = lit≤ tt; returns = λ _. refl; leaves = (lit≤ tt, refl, tt); stack = refl; keeps = keeps_all 0x401006 0x7010 1 0x401006 0x7020 2 }

entered_three_2 : IsEntered image_of_three false (steps_of function.prologue) (state 0 0x7030 3) (state 0x401006 0x7020 2)
unfolding word_at
entered_three_2 = record { room = lit≤ tt; returns = λ _. refl; leaves = (lit≤ tt, refl, tt); stack = refl; keeps = keeps_all 0x401006 0x7020 2 0 0x7030 3 }

called : (memory : List Span) (sp rbx : ℕ) (t : State) → IsEntered memory false (steps_of function.prologue) t (state 0x401006 sp rbx) → IsCalled memory (state 0x401006 sp rbx) (record { callee = function; caller = t })
called memory sp rbx t entered = record { returns = λ e. absurd cc; inside = refl; entered = entered }

link : (memory : List Span) (sp rbx : ℕ) (t : State) (outer : List Call) → sp < 2 ^ 64 → rbx < 2 ^ 64 → IsEntered memory false (steps_of function.prologue) t (state 0x401006 sp rbx) →
    IsLink memory (function ∷ []) (state 0x401006 sp rbx) (record { callee = function; caller = t }) outer
link memory sp rbx t outer a b entered = record { state = words 0x401006 sp rbx (lit< tt) a b; listed = (0, lit< tt, refl); called = called memory sp rbx t entered; last = λ outer. absurd cc }

-- one call
pub one_valid : IsElfValid process (columns_of start) [] (function ∷ []) start calls
one_valid = record {
  are_functions = (is_function, tt);
  modules = (module_described, tt);
  no_others = (refl, tt);
  shows = columns_show start;
  chain = (link image 0x7000 9 caller [] (lit< tt) (lit< tt) entered_one, record { state = words 0 0x7010 5 (lit< tt) (lit< tt) (lit< tt); ends = inl refl });
  resumed = λ f found accepted. absurd cc;
}

-- the step of that call may be taken
pub one_step : CanStep process (function ∷ []) 0x401005 start (record { callee = function; caller = caller })
one_step = record {
  is_function = is_function;
  listed = (0, lit< tt, refl);
  lies = record { home = module_of_it; known = (0, lit< tt, refl); inside = refl; describes = module_described };
  inside = refl;
  entered = entered_one;
  caller = words 0 0x7010 5 (lit< tt) (lit< tt) (lit< tt);
  ends = λ outer. absurd cc;
}

-- ---- the programs of its frame

pub no_fault : HasNoFault 0x401000 common body_run.own
no_fault = record { common_runs = refl; own_runs = refl }

pub are_rules : AreRules body_run body_rules
are_rules = record { ascend = (lit≤ tt, lit< tt, (lit≤ tt, lit< tt, tt)); each = each }
  where
    each : (c : ℕ) → rule_in body_rules c ≡ rule_of body_run c
    each c = go (eqb 3 c) refl (eqb 16 c) refl
      where
        go : (a : Bool) → eqb 3 c ≡ a → (b : Bool) → eqb 16 c ≡ b → rule_in body_rules c ≡ rule_of body_run c
        go true e b f = rw e refl
        go false e true f = rw (e, f) refl
        go false e false f = rw (e, f) refl

-- three calls
pub three_valid : IsElfValid process_of_three (columns_of start) [] (function ∷ []) start calls_of_three
three_valid = record {
  are_functions = (is_function, tt);
  modules = (module_of_three_described, tt);
  no_others = (refl, tt);
  shows = columns_show start;
  chain = (
    link image_of_three 0x7000 9 (state 0x401006 0x7010 1) _ (lit< tt) (lit< tt) entered_three_0,
    (
      link image_of_three 0x7010 1 (state 0x401006 0x7020 2) _ (lit< tt) (lit< tt) entered_three_1,
      (link image_of_three 0x7020 2 (state 0 0x7030 3) [] (lit< tt) (lit< tt) entered_three_2, record { state = words 0 0x7030 3 (lit< tt) (lit< tt) (lit< tt); ends = inl refl }),
    ),
  );
  resumed = λ f found accepted. absurd cc;
}

-- regions and modules share no address
pub one_process : IsElfProcess process
one_process = record { regions = (lit≤ tt, lit< tt, lit≤ tt, (lit≤ tt, lit< tt, lit≤ tt, tt)); ranges = ((lit< tt, lit< tt), tt); apart = pairs_one AreApart module_of_it }

pub three_process : IsElfProcess process_of_three
three_process = record { regions = (lit≤ tt, lit< tt, lit≤ tt, (lit≤ tt, lit< tt, lit≤ tt, tt)); ranges = ((lit< tt, lit< tt), tt); apart = pairs_one AreApart module_of_it }
