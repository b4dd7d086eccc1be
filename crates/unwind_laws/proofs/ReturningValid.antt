-- A function with late save records and an epilogue in its midst, called by an outermost one: the call is valid.
use Rattle.std.proofs.Common.{◌≡◌, ℕ, zero, suc, ◌-◌, ◌^◌, ◌<◌, ◌≤◌, true, false, leb, ltb, ◌&&◌, [], ◌∷◌, None, Ok, refl, subst, ◌∙◌, arith, inl, inr, lit<, lit≤}
use Rattle.std.specs.Prelude.{IsTrue, IsFalse, ◌≢◌}
use Rattle.std.specs.List.{Contains, AllPairs, AllByRecursion, list_any}
use Rattle.std.proofs.lemmas.Bool.{leb-true, ltb-true, cases_lt}
use Rattle.memory_image.specs.Image.{word_at}
use Rattle.unwind_definitions.specs.Instructions.{program, instruction_of}
use Rattle.unwind_definitions.specs.Entries.{Fde, coding_of, AreEntries, entry_at}
use Rattle.unwind_definitions.specs.Row.{row_at, rule_of}
use Rattle.unwind_definitions.specs.State.{value_of, column_of, IsState}
use Rattle.unwind_definitions.specs.Prologue.{SystemV, Save, steps_of, distance}
use Rattle.unwind_definitions.specs.Entered.{IsEntered}
use Rattle.unwind_definitions.specs.Function.{in_body, IsFunction}
use Rattle.unwind_definitions.specs.DescribedRows.{HasRow, IsBodyRow, IsPrologueRow, IsOutermostRow, MayFindLate, FindsRegister, IsUnchanged, ended_by, DescribesRows}
use Rattle.unwind_definitions.specs.FrameTable.{IsEmittedCie, DescribesFrames, MeetsNot, has_range_of}
use Rattle.unwind_definitions.specs.Module.{IsElfProcess, AreApart, DescriptionsApart, DescribesModule}
use Rattle.unwind_definitions.specs.Valid.{IsElfValid}
use Rattle.unwind_definitions.specs.Stopped.{StandsAfter}
use Rattle.unwind_laws.specs.Columns.{columns_of}
use Rattle.unwind_laws.specs.Walked.{CanStepInside}
use Rattle.unwind_laws.specs.Returning.{image, table, module_of_them, bases, cie, callee_fde, outermost_fde, foreign_fde, entries, run_of, pushed_one, pushed_two, in_first_body, in_second_body, in_outermost, callee, outermost, functions, process, state, start, caller, last, calls, interrupted, done, later}
use Rattle.unwind_laws.proofs.Booleans.{both_true, either_true, either_false, here_or_later, none_in_nil, pairs_one, pairs_two}
use Rattle.unwind_laws.proofs.RowFacts.{by_register, state_fits, unnamed, same_ended}
use Rattle.unwind_laws.proofs.Steady.{is_steady, same_row_at}
use Rattle.unwind_laws.proofs.PushingValid.{columns_show}

-- between two addresses the callee's row stays
abbrev Stays : Fde → ℕ → ℕ → Type 0
Stays fde low high = is_steady fde.start low high (program (coding_of bases fde.cie) fde.program).instructions ≡ true

-- what the readers give for this sample
record Reads : Type 0 where
  pub listed : AreEntries bases table 0 entries
  pub at_start : row_at bases callee_fde 0x402000 ≡ Ok (run_of [])
  pub at_one : row_at bases callee_fde 0x402002 ≡ Ok (run_of pushed_one)
  pub at_two : row_at bases callee_fde 0x402003 ≡ Ok (run_of pushed_two)
  pub at_first : row_at bases callee_fde 0x402007 ≡ Ok (run_of in_first_body)
  pub at_second : row_at bases callee_fde 0x402028 ≡ Ok (run_of in_second_body)
  pub at_outermost : row_at bases outermost_fde 0x402040 ≡ Ok (run_of in_outermost)
  pub stay_start : Stays callee_fde 0x402000 0x402002
  pub stay_one : Stays callee_fde 0x402002 0x402003
  pub stay_two : Stays callee_fde 0x402003 0x402007
  pub stay_first : Stays callee_fde 0x402007 0x402020
  pub stay_second : Stays callee_fde 0x402028 0x402040
  pub stay_outermost : Stays outermost_fde 0x402040 0x402050

reads : Reads
unfolding entry_at row_at instruction_of
reads = record {
  listed = (24, refl, (68, refl, (88, refl, (108, refl, refl))));
  at_start = refl;
  at_one = refl;
  at_two = refl;
  at_first = refl;
  at_second = refl;
  at_outermost = refl;
  stay_start = refl;
  stay_one = refl;
  stay_two = refl;
  stay_first = refl;
  stay_second = refl;
  stay_outermost = refl;
}

-- ---- the rows
first_row : IsBodyRow (steps_of callee.prologue) (run_of in_first_body)
first_row = record {
  cfa = refl;
  ret = refl;
  saved = λ r. by_register (λ r. FindsRegister (distance r (steps_of callee.prologue)) (rule_of (run_of in_first_body) (column_of r))) refl (inl refl) (inl refl) (inl refl) refl (inl refl) r;
  others = λ c e. unnamed (run_of in_first_body) refl refl c e;
  arguments = refl;
}

second_row : IsBodyRow (steps_of callee.prologue) (run_of in_second_body)
second_row = record {
  cfa = refl;
  ret = refl;
  saved = λ r. by_register (λ r. FindsRegister (distance r (steps_of callee.prologue)) (rule_of (run_of in_second_body) (column_of r))) refl (inl refl) (inl refl) (inl refl) refl (inl refl) r;
  others = λ c e. unnamed (run_of in_second_body) refl refl c e;
  arguments = refl;
}

start_row : IsPrologueRow (ended_by 0 callee.prologue) (run_of [])
start_row = record {
  cfa = refl;
  ret = refl;
  saved = λ r. by_register (λ r. MayFindLate r (ended_by 0 callee.prologue) (rule_of (run_of []) (column_of r))) (inl (inl refl)) (inl (inl refl)) (inl (inl refl)) (inl (inl refl)) (inl (inl refl)) (inl (inl refl)) r;
  others = λ c e. unnamed (run_of []) refl refl c e;
  arguments = refl;
}

one_row : IsPrologueRow (ended_by 2 callee.prologue) (run_of pushed_one)
one_row = record {
  cfa = refl;
  ret = refl;
  saved = λ r. by_register (λ r. MayFindLate r (ended_by 2 callee.prologue) (rule_of (run_of pushed_one) (column_of r))) (inl (inl refl)) (inl (inl refl)) (inl (inl refl)) (inl (inl refl)) (inr (refl, λ e. absurd cc)) (inl (inl refl)) r;
  others = λ c e. unnamed (run_of pushed_one) refl refl c e;
  arguments = refl;
}

two_row : IsPrologueRow (ended_by 3 callee.prologue) (run_of pushed_two)
two_row = record {
  cfa = refl;
  ret = refl;
  saved = λ r. by_register (λ r. MayFindLate r (ended_by 3 callee.prologue) (rule_of (run_of pushed_two) (column_of r))) (inr (refl, λ e. absurd cc)) (inl (inl refl)) (inl (inl refl)) (inl (inl refl)) (inr (refl, λ e. absurd cc)) (inl (inl refl)) r;
  others = λ c e. unnamed (run_of pushed_two) refl refl c e;
  arguments = refl;
}

outermost_row : IsOutermostRow (run_of in_outermost)
outermost_row = record {
  cfa = refl;
  ret = refl;
  saved = λ r. by_register (λ r. IsUnchanged (rule_of (run_of in_outermost) (column_of r))) (inl refl) (inl refl) (inl refl) (inl refl) (inl refl) (inl refl) r;
  others = λ c e. unnamed (run_of in_outermost) refl refl c e;
  arguments = refl;
}

in_first : (low high pc : ℕ) → (leb low pc && ltb pc high) ≡ true → (low ≤ pc) × (pc < high)
in_first low high pc h = let both = both_true (leb low pc) (ltb pc high) h in (leb-true low pc both.0, ltb-true pc high both.1)

callee_bodies : (pc : ℕ) → IsTrue (in_body callee pc) → HasRow bases callee_fde pc (IsBodyRow (steps_of callee.prologue))
callee_bodies pc h = elim (either_true (leb 0x402007 pc && ltb pc 0x402020) _ h) [
  | inl first ↦ let lies = in_first 0x402007 0x402020 pc first in
      let same = same_row_at bases callee_fde 0x402007 0x402020 pc lies.0 lies.1 (lit≤ tt) (lit≤ tt) reads.stay_first in
      (run_of in_first_body, same ∙ reads.at_first, first_row)
  | inr rest ↦ let lies = in_first 0x402028 0x402040 pc (either_false _ rest) in
      let same = same_row_at bases callee_fde 0x402028 0x402040 pc lies.0 lies.1 (lit≤ tt) (lit≤ tt) reads.stay_second in
      (run_of in_second_body, same ∙ reads.at_second, second_row)
]

at_start : (pc : ℕ) → 0x402000 ≤ pc → pc < 0x402002 → HasRow bases callee_fde pc (IsPrologueRow (ended_by (pc - 0x402000) callee.prologue))
at_start pc from below =
    let same = same_row_at bases callee_fde 0x402000 0x402002 pc from below (lit≤ tt) (lit≤ tt) reads.stay_start in
    let steps : ended_by (pc - 0x402000) callee.prologue ≡ ended_by 0 callee.prologue = same_ended callee.prologue 0 2 (pc - 0x402000) (omega arith) (omega arith) refl in
    (run_of [], same ∙ reads.at_start, rw steps start_row)

at_one : (pc : ℕ) → 0x402002 ≤ pc → pc < 0x402003 → HasRow bases callee_fde pc (IsPrologueRow (ended_by (pc - 0x402000) callee.prologue))
at_one pc from below =
    let same = same_row_at bases callee_fde 0x402002 0x402003 pc from below (lit≤ tt) (lit≤ tt) reads.stay_one in
    let steps : ended_by (pc - 0x402000) callee.prologue ≡ ended_by 2 callee.prologue = same_ended callee.prologue 2 3 (pc - 0x402000) (omega arith) (omega arith) refl in
    (run_of pushed_one, same ∙ reads.at_one, rw steps one_row)

at_two : (pc : ℕ) → 0x402003 ≤ pc → pc < 0x402007 → HasRow bases callee_fde pc (IsPrologueRow (ended_by (pc - 0x402000) callee.prologue))
at_two pc from below =
    let same = same_row_at bases callee_fde 0x402003 0x402007 pc from below (lit≤ tt) (lit≤ tt) reads.stay_two in
    let steps : ended_by (pc - 0x402000) callee.prologue ≡ ended_by 3 callee.prologue = same_ended callee.prologue 3 7 (pc - 0x402000) (omega arith) (omega arith) refl in
    (run_of pushed_two, same ∙ reads.at_two, rw steps two_row)

pub callee_rows : DescribesRows bases callee callee_fde
callee_rows = record {
  bodies = λ inner pc h. callee_bodies pc h;
  prologue = λ inner pc from below. elim (cases_lt pc 0x402002) [ inl lt ↦ at_start pc from lt | inr ge ↦ elim (cases_lt pc 0x402003) [ inl lt ↦ at_one pc ge lt | inr ge ↦ at_two pc ge below ] ];
  outermost = λ outer pc h. absurd cc;
}

outermost_rows : DescribesRows bases outermost outermost_fde
outermost_rows = record {
  bodies = λ inner pc h. absurd cc;
  prologue = λ inner pc from below. absurd cc;
  outermost = λ outer pc h. let lies = in_first 0x402040 0x402050 pc (either_false _ h) in
      let same = same_row_at bases outermost_fde 0x402040 0x402050 pc lies.0 lies.1 (lit≤ tt) (lit≤ tt) reads.stay_outermost in
      (run_of in_outermost, same ∙ reads.at_outermost, outermost_row);
}

emitted : IsEmittedCie image cie
emitted = record { version = refl; code_factor = refl; data_factor = refl; return_column = refl; augmentation = inl refl; address = refl; language = inl refl; personality = tt; program = (2, refl) }

each_fde : (P : Fde → Type 0) → P callee_fde → P outermost_fde → P foreign_fde → (f : Fde) → Contains (callee_fde ∷ outermost_fde ∷ foreign_fde ∷ []) f → P f
each_fde P a b c f h = elim (here_or_later callee_fde (outermost_fde ∷ foreign_fde ∷ []) f h) [
  | inl e ↦ subst P e a
  | inr h2 ↦ elim (here_or_later outermost_fde (foreign_fde ∷ []) f h2) [
    | inl e ↦ subst P e b
    | inr h3 ↦ elim (here_or_later foreign_fde [] f h3) [ inl e ↦ subst P e c | inr none ↦ absurd (none_in_nil f none) ]
  ]
]

frames_described : DescribesFrames image bases table entries functions
frames_described = record {
  reads = reads.listed;
  lengths = ((20, _, refl, lit< tt), ((40, _, refl, lit< tt), ((16, _, refl, lit< tt), ((16, _, refl, lit< tt), tt))));
  each = (
    record { fde = callee_fde; one = refl; describes = record { code = record { cie = emitted; earlier = lit< tt; start = refl; end = refl; rows = callee_rows }; language = refl } },
    (record { fde = outermost_fde; one = refl; describes = record { code = record { cie = emitted; earlier = lit< tt; start = refl; end = refl; rows = outermost_rows }; language = refl } }, tt),
  );
  foreign = each_fde (λ fde. IsFalse (list_any (λ f. has_range_of f fde) functions) → AllByRecursion (MeetsNot fde) functions) (λ none. absurd cc) (λ none. absurd cc) (λ none. (inr (lit≤ tt), (inr (lit≤ tt), tt)));
}

pairs_three : AllPairs DescriptionsApart (callee_fde ∷ outermost_fde ∷ foreign_fde ∷ [])
pairs_three i zero d lt below = absurd (omega arith)
pairs_three zero (suc zero) d lt below = inl (lit≤ tt)
pairs_three zero (suc (suc zero)) d lt below = inl (lit≤ tt)
pairs_three (suc zero) (suc zero) d lt below = absurd (omega arith)
pairs_three (suc zero) (suc (suc zero)) d lt below = inl (lit≤ tt)
pairs_three (suc (suc i)) (suc zero) d lt below = absurd (omega arith)
pairs_three (suc (suc i)) (suc (suc zero)) d lt below = absurd (omega arith)
pairs_three i (suc (suc (suc j))) d lt below = absurd (omega arith)

module_described : DescribesModule image module_of_them functions
module_described = record {
  frame = 0x500000;
  address = refl;
  entries = entries;
  frames = frames_described;
  nonempty = (lit< tt, (lit< tt, (lit< tt, tt)));
  apart = pairs_three;
  inside = ((lit≤ tt, lit≤ tt), ((lit≤ tt, lit≤ tt), tt));
  header = tt;
}

-- ---- the functions and the calls
none_pairs : {A : Type 0} (R : A → A → Type 0) → AllPairs R []
none_pairs R i j d lt below = absurd (omega arith)

pub callee_function : IsFunction SystemV callee
callee_function = record {
  prologue = record { ends = (lit< tt, (lit< tt, (lit< tt, tt))); each = (refl, (refl, ((lit< tt, refl), tt))); once = pairs_two (λ (a b : Save). a.register ≢ b.register) _ _ (λ e. absurd cc) };
  has_body = λ e. absurd cc;
  bodies = (lit≤ tt, lit< tt, lit≤ tt, (lit≤ tt, lit< tt, lit≤ tt, tt));
  sites = tt;
  outermost = λ e. absurd cc;
}

outermost_function : IsFunction SystemV outermost
outermost_function = record {
  prologue = record { ends = tt; each = tt; once = none_pairs (λ (a b : Save). a.register ≢ b.register) };
  has_body = λ e. absurd cc;
  bodies = (lit≤ tt, lit< tt, lit≤ tt, tt);
  sites = tt;
  outermost = λ e. (refl, refl);
}

callee_entered : IsEntered image false (steps_of callee.prologue) caller start
unfolding word_at
callee_entered = record {
  room = lit≤ tt;
  returns = λ _. refl;
  leaves = (lit≤ tt, refl, (lit≤ tt, refl, (lit≤ tt, tt)));
  stack = refl;
  keeps = by_register (λ r. distance r (steps_of callee.prologue) ≡ None → value_of r start ≡ value_of r caller) (λ e. absurd cc) (λ e. refl) (λ e. refl) (λ e. refl) (λ e. absurd cc) (λ e. refl);
}

outermost_entered : IsEntered image true [] last caller
outermost_entered = record { room = lit≤ tt; returns = λ h. absurd cc; leaves = tt; stack = refl; keeps = by_register (λ r. distance r [] ≡ None → value_of r caller ≡ value_of r last) (λ e. refl) (λ e. refl) (λ e. refl) (λ e. refl) (λ e. refl) (λ e. refl) }

words : (ra sp rbx r14 : ℕ) → ra < 2 ^ 64 → sp < 2 ^ 64 → rbx < 2 ^ 64 → r14 < 2 ^ 64 → IsState (state ra sp rbx r14)
words ra sp rbx r14 a b c d = state_fits (state ra sp rbx r14) a b c (lit< tt) (lit< tt) (lit< tt) d (lit< tt)

pub late_valid : IsElfValid process (columns_of start) [] functions start calls
late_valid = record {
  are_functions = (callee_function, (outermost_function, tt));
  modules = (module_described, tt);
  no_others = (refl, (refl, tt));
  shows = columns_show start;
  chain = (
    record { state = words 0x402030 0x7000 1 2 (lit< tt) (lit< tt) (lit< tt) (lit< tt); listed = (0, lit< tt, refl); called = record { returns = λ e. absurd cc; inside = refl; entered = callee_entered }; last = λ outer. absurd cc },
    (
      record { state = words 0x402045 0x7020 0x11 0x22 (lit< tt) (lit< tt) (lit< tt) (lit< tt); listed = (1, lit< tt, refl); called = record { returns = λ e. absurd cc; inside = refl; entered = outermost_entered }; last = λ outer. (refl, refl) },
      record { state = words 0 0x7028 0x11 0x22 (lit< tt) (lit< tt) (lit< tt) (lit< tt); ends = inl refl },
    ),
  );
  resumed = λ f found accepted. absurd cc;
}

-- a state after the two pushes
pub interrupted_stands : StandsAfter image callee done later caller interrupted
unfolding word_at
interrupted_stands = record {
  steps = refl;
  entered = record {
    room = lit≤ tt;
    returns = λ _. refl;
    leaves = (lit≤ tt, refl, (lit≤ tt, refl, tt));
    stack = refl;
    keeps = by_register (λ r. distance r (steps_of done) ≡ None → value_of r interrupted ≡ value_of r caller) (λ e. absurd cc) (λ e. refl) (λ e. refl) (λ e. refl) (λ e. absurd cc) (λ e. refl);
  };
  intact = by_register (λ r. _ → value_of r interrupted ≡ value_of r caller) (λ e. refl) (λ e. refl) (λ e. refl) (λ e. refl) (λ e. refl) (λ e. refl);
  after = lit≤ tt;
  below = lit< tt;
}

-- the step from there may be taken
pub interrupted_step : CanStepInside process functions done later interrupted (record { callee = callee; caller = caller })
interrupted_step = record {
  is_function = callee_function;
  inner = refl;
  listed = (0, lit< tt, refl);
  lies = record { home = module_of_them; known = (0, lit< tt, refl); inside = refl; describes = module_described };
  stands = interrupted_stands;
  caller = words 0x402045 0x7020 0x11 0x22 (lit< tt) (lit< tt) (lit< tt) (lit< tt);
}

pub late_process : IsElfProcess process
late_process = record { regions = (lit≤ tt, lit< tt, lit≤ tt, (lit≤ tt, lit< tt, lit≤ tt, tt)); ranges = ((lit< tt, lit< tt), tt); apart = pairs_one AreApart module_of_them }
