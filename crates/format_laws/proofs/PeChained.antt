-- The function that a chained record and its own describe: its module is described, and a state is entered.
use Rattle.std.proofs.Common.{◌≡◌, ℕ, zero, suc, ◌+◌, ◌-◌, Bool, true, false, leb, ltb, ◌&&◌, List, [], ◌∷◌, ◌++◌, Option, Some, None, refl, arith, inl, lit<, lit≤}
use Rattle.std.specs.Prelude.{◌≢◌, IsTrue, is_some}
use Rattle.std.proofs.lemmas.Bool.{leb-true, ltb-true}
use Rattle.memory_image.specs.Halving.{place_by_halving, boundary_of}
use Rattle.memory_image.specs.Image.{Span, byte_at, word_at}
use Rattle.unwind_definitions.specs.State.{RBX, value_of, IsState}
use Rattle.unwind_definitions.specs.Prologue.{Windows, Followed, RSI, XMM, Allocate, Store, steps_of, distance}
use Rattle.unwind_definitions.specs.Entered.{IsMapped, IsEntered}
use Rattle.unwind_definitions.specs.Function.{IsFunction, in_body}
use Rattle.unwind_laws.specs.Columns.{columns_of}
use Rattle.unwind_laws.specs.Windows as windows
use Rattle.unwind_laws.proofs.WindowsEntered.{windows_function}
use Rattle.unwind_laws.proofs.Booleans.{both_true, either_false}
use Rattle.unwind_laws.proofs.RowFacts.{by_register, state_fits}
use Rattle.pe_unwind_info.specs.Chain.{chain_of}
use Rattle.pe_unwind_info.specs.Epilog.{parsed_instruction, sequence_from}
use Rattle.pe_unwind_info.specs.EpilogList.{leading_epilogs, after_epilogs, any_lists, is_due}
use Rattle.pe_unwind_info.specs.Frame.{from_place}
use Rattle.pe_unwind_info.specs.FrameOf.{epilog_if_tested, end_of_chain}
use Rattle.pe_unwind_info.specs.FunctionTable.{lookup_of}
use Rattle.pe_unwind_info.specs.Header.{frame_register_of}
use Rattle.pe_unwind_info.specs.InfoOperations.{operations_in}
use Rattle.pe_unwind_info.specs.Operations.{operations_of}
use Rattle.pe_unwind_info.specs.Steps.{run, epilog_run}
use Rattle.format_definitions.specs.PeImage.{memory_of}
use Rattle.format_definitions.specs.PeStep.{pe_step}
use Rattle.format_definitions.specs.PeModules.{IsInNoEpilog, DescribesRecord, DescribesPe}
use Rattle.format_laws.specs.PeSamples.{module_of_one, chained_image, chained_info, inherited_info, inherited_steps, own_steps, loop_record, table_bytes}
use Rattle.format_laws.specs.PeUndone.{GivesState}
use Rattle.format_laws.proofs.Tables.{all_from, each_from}
use Rattle.format_laws.proofs.PeQuiet.{finds_none, quiet_at}

-- whether n bytes are mapped
all_mapped : List Span → ℕ → ℕ → Bool
all_mapped memory a zero = true
all_mapped memory a (suc n) = is_some (byte_at memory a) && all_mapped memory (a + 1) n

is_mapped : (memory : List Span) (a n : ℕ) → all_mapped memory a n ≡ true → IsMapped memory a n
unfolding all_mapped
is_mapped memory a zero e k lt = absurd (omega arith)
is_mapped memory a (suc n) e zero lt = let both = both_true (is_some (byte_at memory a)) (all_mapped memory (a + 1) n) e in let same : a + zero ≡ a = omega arith in rw same (there (byte_at memory a) both.0)
  where
    there : (o : Option ℕ) → is_some o ≡ true → o ≢ None
    there None e = absurd cc
    there (Some b) e = λ h. absurd cc
is_mapped memory a (suc n) e (suc k) lt =
    let both = both_true (is_some (byte_at memory a)) (all_mapped memory (a + 1) n) e in
    let same : a + suc k ≡ (a + 1) + k = omega arith in
    rw same (is_mapped memory (a + 1) n both.1 k (omega arith))

rdi_mapped : IsMapped chained_image 0x7ff0 8
unfolding all_mapped
rdi_mapped = is_mapped chained_image 0x7ff0 8 refl

rsi_mapped : IsMapped chained_image 0x7fc0 8
unfolding all_mapped
rsi_mapped = is_mapped chained_image 0x7fc0 8 refl

xmm_mapped : IsMapped chained_image 0x7fd0 16
unfolding all_mapped
xmm_mapped = is_mapped chained_image 0x7fd0 16 refl

abbrev test : ℕ → Bool
test a = finds_none (epilog_if_tested (is_due 0x1100 a (leading_epilogs (operations_in chained_info))) (memory_of chained_image 0x140000000) (frame_register_of chained_info.header) 0x1100 a)

tests : all_from 0x1018 232 test ≡ true
unfolding parsed_instruction sequence_from leading_epilogs operations_of
tests = refl

pub quiet : (pc : ℕ) → IsTrue (in_body windows.function pc) → IsInNoEpilog (memory_of chained_image 0x140000000) loop_record chained_info (pc - 0x140000000)
quiet pc h =
    let both = both_true (leb 0x140001018 pc) (ltb pc 0x140001100) (either_false _ h) in
    let low = leb-true 0x140001018 pc both.0 in
    let high = ltb-true pc 0x140001100 both.1 in
    quiet_at (memory_of chained_image 0x140000000) loop_record chained_info (pc - 0x140000000) (each_from 232 0x1018 test tests (pc - 0x140000000) (omega arith) (omega arith))

unfoldable pub described : DescribesRecord chained_image module_of_one loop_record windows.function
unfolding chain_of operations_of after_epilogs
described = record {
  start = refl;
  end = refl;
  not_outermost = refl;
  first = chained_info;
  chained = inherited_info ∷ [];
  reads = refl;
  chain = refl;
  language = record { trailer = λ e. absurd cc; alone = λ e. absurd cc; quiet = (refl, tt); leads = refl };
  whole = (tt, (tt, tt));
  inherited = inherited_steps;
  own = own_steps;
  prologue = refl;
  inherited_ends = (refl, (refl, tt));
  own_ends = (lit< tt, (lit< tt, (lit< tt, (lit< tt, (lit< tt, tt)))));
  undoes_own = refl;
  undoes_inherited = refl;
  grouped = record {
    frame = steps_of inherited_steps ++ Allocate 64 ∷ [];
    set = Some 32;
    stores = Store (Followed RBX) 16 ∷ Store RSI 24 ∷ Store (XMM 6) 40 ∷ [];
    is = refl;
    frames = (tt, (tt, (tt, tt)));
    are_stores = ((λ e. absurd cc), (tt, (tt, tt)));
  };
  frame_offset = (refl, lit≤ tt);
  names = ((refl, refl), ((refl, refl), tt));
  bodies = quiet;
}

pub module_described : DescribesPe chained_image module_of_one (windows.function ∷ [])
module_described = record { bytes = table_bytes 0x00 0x11; mapped = refl; table = loop_record ∷ []; reads = refl; ordered = (lit≤ tt, lit< tt, lit≤ tt, tt); each = (inl (record { function = loop_record; listed = (0, lit< tt, refl); describes = described }), tt) }

pub is_function : IsFunction Windows windows.function
is_function = windows_function

pub entered : IsEntered chained_image false (steps_of windows.function.prologue) windows.caller windows.start
unfolding word_at
entered = record {
  room = lit≤ tt;
  returns = λ _. refl;
  leaves = (lit≤ tt, rdi_mapped, (lit≤ tt, refl, (lit≤ tt, (lit< tt, (lit≤ tt, refl, (lit≤ tt, rsi_mapped, (lit≤ tt, xmm_mapped, tt)))))));
  stack = (lit≤ tt, refl);
  keeps = by_register (λ r. distance r (steps_of windows.function.prologue) ≡ None → value_of r windows.start ≡ value_of r windows.caller) (λ e. absurd cc) (λ e. absurd cc) (λ e. refl) (λ e. refl) (λ e. refl) (λ e. refl);
}

pub caller_fits : IsState windows.caller
caller_fits = state_fits windows.caller (lit< tt) (lit< tt) (lit< tt) (lit< tt) (lit< tt) (lit< tt) (lit< tt) (lit< tt)

pub computed : GivesState (pe_step chained_image module_of_one 0x101f (columns_of windows.start)) windows.caller
unfolding word_at chain_of operations_of after_epilogs leading_epilogs any_lists parsed_instruction sequence_from from_place end_of_chain run epilog_run lookup_of place_by_halving boundary_of
computed = record { caller = _; answered = refl; shows = record { ra = refl; sp = refl; saved = by_register (λ q. _ ≡ Some (value_of q windows.caller)) refl refl refl refl refl refl } }
