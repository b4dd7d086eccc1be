-- The function that pushes three registers: its module is described, and a state stands after two pushes.
use Rattle.std.proofs.Common.{◌≡◌, ◌≢◌, ℕ, zero, suc, ◌-◌, Bool, true, false, leb, ltb, [], ◌∷◌, Some, None, refl, arith, inl, lit<, lit≤}
use Rattle.std.specs.Prelude.{IsTrue}
use Rattle.std.specs.List.{AllPairs}
use Rattle.std.proofs.lemmas.Bool.{leb-true, ltb-true}
use Rattle.memory_image.specs.Image.{word_at}
use Rattle.unwind_definitions.specs.State.{CalleeSaved, RBX, RBP, R12, R13, R14, R15, value_of, IsState}
use Rattle.unwind_definitions.specs.Prologue.{Windows, Save, saves, steps_of, distance}
use Rattle.unwind_definitions.specs.Entered.{IsEntered}
use Rattle.unwind_definitions.specs.Function.{IsFunction, in_body}
use Rattle.unwind_definitions.specs.Stopped.{StandsAfter}
use Rattle.unwind_laws.specs.Columns.{columns_of}
use Rattle.unwind_laws.proofs.Booleans.{both_true, either_false}
use Rattle.unwind_laws.proofs.RowFacts.{by_register, state_fits}
use Rattle.pe_unwind_info.specs.Chain.{chain_of}
use Rattle.pe_unwind_info.specs.Epilog.{parsed_instruction, sequence_from}
use Rattle.pe_unwind_info.specs.EpilogList.{leading_epilogs, after_epilogs, any_lists, is_due}
use Rattle.pe_unwind_info.specs.Frame.{from_place}
use Rattle.pe_unwind_info.specs.FrameOf.{epilog_if_tested, end_of_chain}
use Rattle.pe_unwind_info.specs.FunctionTable.{lookup_of}
use Rattle.pe_unwind_info.specs.Header.{frame_register_of}
use Rattle.pe_unwind_info.specs.InfoOperations.{operations_in}
use Rattle.pe_unwind_info.specs.Operations.{operations_of}
use Rattle.pe_unwind_info.specs.Steps.{run, epilog_run}
use Rattle.memory_image.specs.Halving.{place_by_halving, boundary_of}
use Rattle.format_definitions.specs.PeImage.{memory_of}
use Rattle.format_definitions.specs.PeStep.{pe_step}
use Rattle.format_definitions.specs.PeModules.{IsInNoEpilog, DescribesRecord, HasRecord, DescribesPe}
use Rattle.format_laws.specs.PeSamples.{module_of_one, pushes_image, pushes_record, pushes_info, pushes_done, pushes_later, pushes_function, pushes_state, pushes_caller, table_bytes}
use Rattle.format_laws.specs.PeUndone.{GivesState}
use Rattle.format_laws.proofs.Tables.{all_from, each_from}
use Rattle.format_laws.proofs.PeQuiet.{finds_none, quiet_at}

apart : AllPairs (λ (a b : Save). a.register ≢ b.register) (saves (steps_of pushes_function.prologue))
apart i zero d lt below = absurd (omega arith)
apart zero (suc zero) d lt below = λ e. absurd cc
apart zero (suc (suc zero)) d lt below = λ e. absurd cc
apart (suc zero) (suc (suc zero)) d lt below = λ e. absurd cc
apart (suc i) (suc zero) d lt below = absurd (omega arith)
apart (suc (suc i)) (suc (suc zero)) d lt below = absurd (omega arith)
apart i (suc (suc (suc j))) d lt below = absurd (omega arith)

pub is_function : IsFunction Windows pushes_function
is_function = record {
  prologue = record { ends = (0, 2 ∷ 4 ∷ 5 ∷ [], refl, (lit< tt, (lit< tt, (lit< tt, tt)))); each = (refl, (refl, (refl, tt))); once = apart };
  has_body = λ e. absurd cc;
  bodies = (lit≤ tt, lit< tt, lit≤ tt, tt);
  sites = tt;
  outermost = λ e. absurd cc;
}

abbrev test : ℕ → Bool
test a = finds_none (epilog_if_tested (is_due 0x1020 a (leading_epilogs (operations_in pushes_info))) (memory_of pushes_image 0x140000000) (frame_register_of pushes_info.header) 0x1020 a)

tests : all_from 0x1005 27 test ≡ true
unfolding parsed_instruction sequence_from leading_epilogs operations_of
tests = refl

pub quiet : (pc : ℕ) → IsTrue (in_body pushes_function pc) → IsInNoEpilog (memory_of pushes_image 0x140000000) pushes_record pushes_info (pc - 0x140000000)
quiet pc h =
    let both = both_true (leb 0x140001005 pc) (ltb pc 0x140001020) (either_false _ h) in
    let low = leb-true 0x140001005 pc both.0 in
    let high = ltb-true pc 0x140001020 both.1 in
    quiet_at (memory_of pushes_image 0x140000000) pushes_record pushes_info (pc - 0x140000000) (each_from 27 0x1005 test tests (pc - 0x140000000) (omega arith) (omega arith))

unfoldable pub described : DescribesRecord pushes_image module_of_one pushes_record pushes_function
unfolding chain_of operations_of after_epilogs
described = record {
  start = refl;
  end = refl;
  not_outermost = refl;
  first = pushes_info;
  chained = [];
  reads = refl;
  chain = refl;
  language = record { trailer = λ e. absurd cc; alone = λ e. refl; quiet = tt; leads = refl };
  whole = (tt, tt);
  inherited = [];
  own = pushes_function.prologue;
  prologue = refl;
  inherited_ends = tt;
  own_ends = (lit< tt, (lit< tt, (lit< tt, tt)));
  undoes_own = refl;
  undoes_inherited = refl;
  grouped = record { frame = steps_of pushes_function.prologue; set = None; stores = []; is = refl; frames = (tt, (tt, (tt, tt))); are_stores = tt };
  frame_offset = tt;
  names = (refl, tt);
  bodies = quiet;
}

pub has_record : HasRecord pushes_image module_of_one (pushes_record ∷ []) pushes_function
has_record = record { function = pushes_record; listed = (0, lit< tt, refl); describes = described }

unfoldable pub module_described : DescribesPe pushes_image module_of_one (pushes_function ∷ [])
module_described = record { bytes = table_bytes 0x20 0x10; mapped = refl; table = pushes_record ∷ []; reads = refl; ordered = (lit≤ tt, lit< tt, lit≤ tt, tt); each = (inl has_record, tt) }

entered : IsEntered pushes_image false (steps_of pushes_done) pushes_caller pushes_state
unfolding word_at
entered = record { room = lit≤ tt; returns = λ _. refl; leaves = (lit≤ tt, refl, (lit≤ tt, refl, tt)); stack = refl; keeps = keeps }
  where
    keeps : (r : CalleeSaved) → distance r (steps_of pushes_done) ≡ None → value_of r pushes_state ≡ value_of r pushes_caller
    keeps RBX e = refl
    keeps RBP e = refl
    keeps R12 e = refl
    keeps R13 e = refl
    keeps R14 e = refl
    keeps R15 e = refl

stands : StandsAfter pushes_image pushes_function pushes_done pushes_later pushes_caller pushes_state
stands = record {
  steps = refl;
  entered = entered;
  intact = λ r h. by_register (λ q. value_of q pushes_state ≡ value_of q pushes_caller) refl refl refl refl refl refl r;
  after = lit≤ tt;
  below = lit< tt;
}

quiet_here : IsInNoEpilog (memory_of pushes_image 0x140000000) pushes_record pushes_info 0x1004
unfolding parsed_instruction sequence_from leading_epilogs operations_of
quiet_here = quiet_at (memory_of pushes_image 0x140000000) pushes_record pushes_info 0x1004 refl

-- what the law of prologues asks
pub stands_in_described : (d : DescribesPe pushes_image module_of_one (pushes_function ∷ [])) × (r : HasRecord pushes_image module_of_one d.table pushes_function) × StandsAfter pushes_image pushes_function pushes_done pushes_later pushes_caller pushes_state ×
    IsInNoEpilog (memory_of pushes_image 0x140000000) r.function r.describes.first (pushes_state.ra - 0x140000000)
unfolding module_described has_record described
stands_in_described = (module_described, has_record, stands, quiet_here)

pub caller_fits : IsState pushes_caller
caller_fits = state_fits pushes_caller (lit< tt) (lit< tt) (lit< tt) (lit< tt) (lit< tt) (lit< tt) (lit< tt) (lit< tt)

-- the step, computed
pub computed : GivesState (pe_step pushes_image module_of_one 0x1004 (columns_of pushes_state)) pushes_caller
unfolding word_at chain_of operations_of after_epilogs leading_epilogs any_lists parsed_instruction sequence_from from_place end_of_chain run epilog_run lookup_of place_by_halving boundary_of
computed = record {
  caller = _;
  answered = refl;
  shows = record { ra = refl; sp = refl; saved = by_register (λ q. _ ≡ Some (value_of q pushes_caller)) refl refl refl refl refl refl };
}
