-- A Mach-O module with frame data: it describes its functions, and a call of one by the outermost one is a chain.
use Rattle.std.proofs.Common.{◌≡◌, ℕ, zero, suc, ◌^◌, ◌<◌, ◌≤◌, true, false, leb, ltb, None, Some, Ok, [], ◌∷◌, refl, ◌∙◌, arith, inl, lit<, lit≤}
use Rattle.std.specs.Prelude.{IsTrue}
use Rattle.std.specs.List.{AllPairs, list_any}
use Rattle.std.proofs.lemmas.Bool.{leb-true, ltb-true, le-leb, lt-ltb}
use Rattle.memory_image.specs.Image.{half_at, word_at}
use Rattle.unwind_definitions.specs.Instructions.{program, instruction_of}
use Rattle.unwind_definitions.specs.Entries.{AFde, coding_of, entry_at}
use Rattle.unwind_definitions.specs.LanguageTable.{input_at}
use Rattle.unwind_definitions.specs.Row.{row_at, rule_of}
use Rattle.unwind_definitions.specs.State.{RBX, RBP, R12, R13, R14, R15, is_same, value_of, column_of, IsState}
use Rattle.unwind_definitions.specs.Prologue.{SystemV, steps_of, distance}
use Rattle.unwind_definitions.specs.Entered.{IsEntered}
use Rattle.unwind_definitions.specs.Function.{Function, IsFunction}
use Rattle.unwind_definitions.specs.DescribedRows.{IsOutermostRow, IsUnchanged, DescribesRows}
use Rattle.unwind_definitions.specs.FrameTable.{IsEmittedCie}
use Rattle.unwind_definitions.specs.Chain.{IsChain}
use Rattle.unwind_laws.specs.Apart.{FunctionsApart}
use Rattle.unwind_laws.specs.Returning.{state, bases, cie, callee_fde, outermost_fde, run_of, in_outermost, callee, outermost, start, caller, last, calls}
use Rattle.unwind_laws.proofs.Booleans.{both_true, either_false, pairs_one}
use Rattle.unwind_laws.proofs.ReturningValid.{callee_rows, late_valid}
use Rattle.unwind_laws.proofs.RowFacts.{by_register, state_fits, unnamed}
use Rattle.unwind_laws.proofs.Steady.{is_steady, same_row_at}
use Rattle.macho_unwind_info.specs.X86_64.{opcode_of}
use Rattle.format_definitions.specs.CompactStep.{frame_bases}
use Rattle.format_definitions.specs.Modules.{Macho, IsUncoveredBy, LiesDescribed, IsDescribedChain}
use Rattle.format_definitions.specs.Process.{FormatsApart, IsProcess}
use Rattle.format_definitions.specs.MachoModules.{IsOpcodeOf, DescribesMacho}
use Rattle.format_samples.specs.MachoWhole.{module_of_them, image, indirect, functions, modules}

pub is_process : IsProcess image modules
is_process = record { regions = (lit≤ tt, lit< tt, lit≤ tt, (lit≤ tt, lit< tt, lit≤ tt, (lit≤ tt, lit< tt, lit≤ tt, (lit≤ tt, lit< tt, lit≤ tt, tt)))); ranges = ((lit< tt, lit< tt), tt); apart = pairs_one FormatsApart (Macho module_of_them) }

-- ---- functions that frame data describes

emitted : IsEmittedCie image cie
emitted = record { version = refl; code_factor = refl; data_factor = refl; return_column = refl; augmentation = inl refl; address = refl; language = inl refl; personality = tt; program = (2, refl) }

-- the readers' answers
record Reads : Type 0 where
  pub callee_at : entry_at (frame_bases 0x500000) (input_at image 0x500000) 24 ≡ Ok (Some (record { entry = AFde callee_fde; next = 68 }))
  pub outermost_at : entry_at (frame_bases 0x500000) (input_at image 0x500000) 68 ≡ Ok (Some (record { entry = AFde outermost_fde; next = 88 }))
  pub row : row_at bases outermost_fde 0x402040 ≡ Ok (run_of in_outermost)
  pub stays : is_steady outermost_fde.start 0x402040 0x402050 (program (coding_of bases outermost_fde.cie) outermost_fde.program).instructions ≡ true

reads : Reads
unfolding entry_at row_at instruction_of
reads = record { callee_at = refl; outermost_at = refl; row = refl; stays = refl }

callee_opcode : IsOpcodeOf image (Some 0x500000) callee (opcode_of 0x04000018)
callee_opcode = record { fde = callee_fde; next = 68; reads = reads.callee_at; describes = record { code = record { cie = emitted; earlier = lit< tt; start = refl; end = refl; rows = callee_rows }; language = refl } }

outermost_row : IsOutermostRow (run_of in_outermost)
outermost_row = record {
  cfa = refl;
  ret = refl;
  saved = λ r. by_register (λ r. IsUnchanged (rule_of (run_of in_outermost) (column_of r))) (inl refl) (inl refl) (inl refl) (inl refl) (inl refl) (inl refl) r;
  others = λ c e. unnamed (run_of in_outermost) refl refl c e;
  arguments = refl;
}

outermost_rows : DescribesRows bases outermost outermost_fde
outermost_rows = record {
  bodies = λ inner pc h. absurd cc;
  prologue = λ inner pc from below. absurd cc;
  outermost = λ outer pc h. let both = both_true (leb 0x402040 pc) (ltb pc 0x402050) (either_false _ h) in
      let same = same_row_at bases outermost_fde 0x402040 0x402050 pc (leb-true 0x402040 pc both.0) (ltb-true pc 0x402050 both.1) (lit≤ tt) (lit≤ tt) reads.stays in
      (run_of in_outermost, same ∙ reads.row, outermost_row);
}

outermost_opcode : IsOpcodeOf image (Some 0x500000) outermost (opcode_of 0x04000044)
outermost_opcode = record { fde = outermost_fde; next = 88; reads = reads.outermost_at; describes = record { code = record { cie = emitted; earlier = lit< tt; start = refl; end = refl; rows = outermost_rows }; language = refl } }

-- ---- a function whose size stands in its code

indirect_opcode : IsOpcodeOf image (Some 0x500000) indirect (opcode_of 0x030df800)
unfolding half_at
indirect_opcode = (
  refl,
  record {
    size = 0x1000;
    mapped = refl;
    frameless = record {
      no_set = refl;
      is_depth = refl;
      saved = (refl, (refl, (refl, (refl, (refl, (refl, tt))))));
      all = λ r h. by_register (λ q. IsTrue (list_any (is_same q) (RBP ∷ R15 ∷ R14 ∷ R13 ∷ R12 ∷ RBX ∷ []))) refl refl refl refl refl refl r;
    };
  },
)

-- ---- the module

pub described : DescribesMacho image module_of_them functions
described = record {
  info = _;
  parses = refl;
  personalities = [];
  named = refl;
  pages = (
    lit< tt,
    record {
      opened = _;
      reads = refl;
      begin = refl;
      ascend = (
        record { at = 0x2000; is = refl; from_low = lit≤ tt; below_high = lit< tt; opcode = 0x04000018; reads = refl },
        (
          record { at = 0x2040; is = refl; from_low = lit≤ tt; below_high = lit< tt; opcode = 0x04000044; reads = refl },
          (
            record { at = 0x2050; is = refl; from_low = lit≤ tt; below_high = lit< tt; opcode = 0; reads = refl },
            (
              record { at = 0x3000; is = refl; from_low = lit≤ tt; below_high = lit< tt; opcode = 0x030df800; reads = refl },
              (record { at = 0x3020; is = refl; from_low = lit≤ tt; below_high = lit< tt; opcode = 0; reads = refl }, tt),
            ),
          ),
        ),
      );
    },
    tt,
  );
  tables = (lit< tt, record { entries = []; reads = refl; ascend = tt }, tt);
  each = (
    record {
      listed = record { start_address = 0x2000; end_address = 0x2040; opcode = 0x04000018 };
      among = (0, lit< tt, refl);
      describes = record { start = refl; end = refl; inside = lit≤ tt; opcode = callee_opcode; language = tt };
    },
    (
      record {
        listed = record { start_address = 0x2040; end_address = 0x2050; opcode = 0x04000044 };
        among = (1, lit< tt, refl);
        describes = record { start = refl; end = refl; inside = lit≤ tt; opcode = outermost_opcode; language = tt };
      },
      (
        record {
          listed = record { start_address = 0x3000; end_address = 0x3020; opcode = 0x030df800 };
          among = (3, lit< tt, refl);
          describes = record { start = refl; end = refl; inside = lit≤ tt; opcode = indirect_opcode; language = record { index = lit≤ tt; leads = refl } };
        },
        tt,
      ),
    ),
  );
}

-- ---- the chain

pub apart : AllPairs FunctionsApart functions
apart i zero d lt below = absurd (omega arith)
apart zero (suc zero) d lt below = inl (lit≤ tt)
apart zero (suc (suc zero)) d lt below = inl (lit≤ tt)
apart (suc zero) (suc zero) d lt below = absurd (omega arith)
apart (suc zero) (suc (suc zero)) d lt below = inl (lit≤ tt)
apart (suc (suc i)) (suc zero) d lt below = absurd (omega arith)
apart (suc (suc i)) (suc (suc zero)) d lt below = absurd (omega arith)
apart i (suc (suc (suc j))) d lt below = absurd (omega arith)

lies : (f : Function) → 0x400000 ≤ f.start → f.start < 0x404000 → IsFunction SystemV f → LiesDescribed image modules functions f
lies f low high is = record { home = Macho module_of_them; known = (0, lit< tt, refl); inside = rw (le-leb 0x400000 f.start low, lt-ltb f.start 0x404000 high) refl; is_function = is; describes = described }

callee_entered : IsEntered image false (steps_of callee.prologue) caller start
unfolding word_at
callee_entered = record {
  room = lit≤ tt;
  returns = λ _. refl;
  leaves = (lit≤ tt, refl, (lit≤ tt, refl, (lit≤ tt, tt)));
  stack = refl;
  keeps = by_register (λ r. distance r (steps_of callee.prologue) ≡ None → value_of r start ≡ value_of r caller) (λ e. absurd cc) (λ e. refl) (λ e. refl) (λ e. refl) (λ e. absurd cc) (λ e. refl);
}

outermost_entered : IsEntered image true [] last caller
outermost_entered = record { room = lit≤ tt; returns = λ h. absurd cc; leaves = tt; stack = refl; keeps = λ r e. by_register (λ q. value_of q caller ≡ value_of q last) refl refl refl refl refl refl r }

words : (ra sp rbx r14 : ℕ) → ra < 2 ^ 64 → sp < 2 ^ 64 → rbx < 2 ^ 64 → r14 < 2 ^ 64 → IsState (state ra sp rbx r14)
words ra sp rbx r14 a b c d = state_fits (state ra sp rbx r14) a b c (lit< tt) (lit< tt) (lit< tt) d (lit< tt)

whole : IsChain image (IsUncoveredBy image modules) functions start calls
whole = (
  record { state = words 0x402030 0x7000 1 2 (lit< tt) (lit< tt) (lit< tt) (lit< tt); listed = (0, lit< tt, refl); called = record { returns = λ e. absurd cc; inside = refl; entered = callee_entered }; last = λ outer. absurd cc },
  (
    record { state = words 0x402045 0x7020 0x11 0x22 (lit< tt) (lit< tt) (lit< tt) (lit< tt); listed = (1, lit< tt, refl); called = record { returns = λ e. absurd cc; inside = refl; entered = outermost_entered }; last = λ outer. (refl, refl) },
    record { state = words 0 0x7028 0x11 0x22 (lit< tt) (lit< tt) (lit< tt) (lit< tt); ends = inl refl },
  ),
)

pub chain : IsDescribedChain image modules functions start calls
chain = record { chain = whole; described = (lies callee (lit≤ tt) (lit< tt) late_valid.are_functions.0, (lies outermost (lit≤ tt) (lit< tt) late_valid.are_functions.1.0, tt)); ends = inl refl }
