-- The function whose record of version 2 says that an epilog ends with the function: its module is described, and states were
-- stopped in that epilog.
use Rattle.std.proofs.Common.{◌≡◌, ◌≢◌, ℕ, ◌-◌, ◌≤◌, Bool, true, leb, ltb, List, [], ◌∷◌, ◌+◌, ◌++◌, length, replicate, Some, None, refl, arith, inl, inr, lit<, lit≤}
use Rattle.std.specs.Prelude.{IsTrue, IsFalse}
use Rattle.std.specs.List.{list_any}
use Rattle.std.proofs.lemmas.Bool.{leb-true, ltb-true}
use Rattle.memory_image.specs.Halving.{place_by_halving, boundary_of}
use Rattle.memory_image.specs.Image.{word_at}
use Rattle.unwind_definitions.specs.State.{CalleeSaved, RBX, State, value_of, IsState}
use Rattle.unwind_definitions.specs.Prologue.{Windows, Register as Saved, Followed, is_register, Save, steps_of}
use Rattle.unwind_definitions.specs.Function.{IsFunction, in_body}
use Rattle.unwind_laws.specs.Columns.{columns_of}
use Rattle.unwind_laws.proofs.Booleans.{both_true, either_false, pairs_one}
use Rattle.unwind_laws.proofs.RowFacts.{by_register, state_fits}
use Rattle.pe_unwind_info.specs.declared.x86_64.registers.Register.TheVariants as pe
use Rattle.pe_unwind_info.specs.declared.x86_64.epilog.FunctionEpilogInstruction.{FunctionEpilogInstruction}
use Rattle.pe_unwind_info.specs.declared.x86_64.epilog.FunctionEpilogInstruction.TheVariants.{Pop}
use Rattle.pe_unwind_info.specs.Chain.{chain_of}
use Rattle.pe_unwind_info.specs.Epilog.{parsed_instruction, sequence_from}
use Rattle.pe_unwind_info.specs.EpilogGrammar.{no_rex, pop, ret}
use Rattle.pe_unwind_info.specs.EpilogList.{leading_epilogs, after_epilogs, any_lists, is_due}
use Rattle.pe_unwind_info.specs.Frame.{from_place}
use Rattle.pe_unwind_info.specs.FrameOf.{epilog_if_tested, end_of_chain}
use Rattle.pe_unwind_info.specs.FunctionTable.{lookup_of}
use Rattle.pe_unwind_info.specs.Header.{frame_register_of}
use Rattle.pe_unwind_info.specs.InfoOperations.{operations_in}
use Rattle.pe_unwind_info.specs.Operations.{operations_of}
use Rattle.pe_unwind_info.specs.Steps.{run, epilog_run}
use Rattle.format_definitions.specs.PeImage.{memory_of}
use Rattle.format_definitions.specs.PeStep.{pe_step}
use Rattle.format_definitions.specs.PeModules.{IsInNoEpilog, DescribesRecord, HasRecord, DescribesPe}
use Rattle.format_definitions.specs.PeEpilogs.{AreSpelled, concatenation, StandsAt, before_pops, last, StandsInEpilog}
use Rattle.format_definitions.specs.Modules.{Pe, LiesDescribed, IsDescribedChain}
use Rattle.format_definitions.specs.Process.{FormatsApart, IsProcess}
use Rattle.format_definitions.specs.Stops.{at_epilog, IsDescribedStop}
use Rattle.format_laws.specs.Sample.{pe_modules}
use Rattle.format_laws.specs.PeSamples.{module_of_one, table_bytes}
use Rattle.format_laws.specs.PeUndone.{GivesState}
use Rattle.format_laws.proofs.Tables.{all_from, each_from}
use Rattle.format_laws.proofs.PeQuiet.{finds_none, quiet_at}
use Rattle.format_samples.proofs.Outside.{ends_outside}
use Rattle.format_samples.specs.StopSamples.{returning_record, returning_caller, at_pop, at_return}
use Rattle.format_samples.specs.EpilogSamples.{listed_image, listed_info, listed_function, listed_call}

pub is_process : IsProcess listed_image pe_modules
is_process = record { regions = (lit≤ tt, lit< tt, lit≤ tt, (lit≤ tt, lit< tt, lit≤ tt, (lit≤ tt, lit< tt, lit≤ tt, (lit≤ tt, lit< tt, lit≤ tt, tt)))); ranges = ((lit< tt, lit< tt), tt); apart = pairs_one FormatsApart (Pe module_of_one) }

is_function : IsFunction Windows listed_function
is_function = record {
  prologue = record { ends = (0, 1 ∷ [], refl, (lit< tt, tt)); each = (refl, tt); once = pairs_one (λ (a b : Save). a.register ≢ b.register) _ };
  has_body = λ e. absurd cc;
  bodies = (lit≤ tt, lit< tt, lit≤ tt, tt);
  sites = tt;
  outermost = λ e. absurd cc;
}

-- ---- before the epilog no epilog is listed
abbrev test : ℕ → Bool
test a = finds_none (epilog_if_tested (is_due 0x1040 a (leading_epilogs (operations_in listed_info))) (memory_of listed_image 0x140000000) (frame_register_of listed_info.header) 0x1040 a)

tests : all_from 0x1001 61 test ≡ true
unfolding parsed_instruction sequence_from leading_epilogs any_lists operations_of
tests = refl

quiet : (pc : ℕ) → IsTrue (in_body listed_function pc) → IsInNoEpilog (memory_of listed_image 0x140000000) returning_record listed_info (pc - 0x140000000)
quiet pc h =
    let both = both_true (leb 0x140001001 pc) (ltb pc 0x14000103e) (either_false _ h) in
    let low = leb-true 0x140001001 pc both.0 in
    let high = ltb-true pc 0x14000103e both.1 in
    quiet_at (memory_of listed_image 0x140000000) returning_record listed_info (pc - 0x140000000) (each_from 61 0x1001 test tests (pc - 0x140000000) (omega arith) (omega arith))

unfoldable described : DescribesRecord listed_image module_of_one returning_record listed_function
unfolding chain_of operations_of after_epilogs
described = record {
  start = refl;
  end = refl;
  not_outermost = refl;
  first = listed_info;
  chained = [];
  reads = refl;
  chain = refl;
  language = record { trailer = λ e. absurd cc; alone = λ e. refl; quiet = tt; leads = refl };
  whole = (tt, tt);
  inherited = [];
  own = listed_function.prologue;
  prologue = refl;
  inherited_ends = tt;
  own_ends = (lit< tt, tt);
  undoes_own = refl;
  undoes_inherited = refl;
  grouped = record { frame = steps_of listed_function.prologue; set = None; stores = []; is = refl; frames = (tt, tt); are_stores = tt };
  frame_offset = tt;
  names = (refl, tt);
  bodies = quiet;
}

unfoldable has_record : HasRecord listed_image module_of_one (returning_record ∷ []) listed_function
has_record = record { function = returning_record; listed = (0, lit< tt, refl); describes = described }

unfoldable module_described : DescribesPe listed_image module_of_one (listed_function ∷ [])
module_described = record { bytes = table_bytes 0x40 0x10; mapped = refl; table = returning_record ∷ []; reads = refl; ordered = (lit≤ tt, lit< tt, lit≤ tt, tt); each = (inl has_record, tt) }

lies : LiesDescribed listed_image pe_modules (listed_function ∷ []) listed_function
lies = record { home = Pe module_of_one; known = (0, lit< tt, refl); inside = refl; is_function = is_function; describes = module_described }

caller_fits : IsState returning_caller
caller_fits = state_fits returning_caller (lit< tt) (lit< tt) (lit< tt) (lit< tt) (lit< tt) (lit< tt) (lit< tt) (lit< tt)

pub nobody_above : IsDescribedChain listed_image pe_modules (listed_function ∷ []) returning_caller []
nobody_above = ends_outside listed_image (listed_function ∷ []) returning_caller caller_fits (λ e. absurd cc) refl

-- ---- in the epilog, with so much of it left
stands_with : (s : State) (todo : List FunctionEpilogInstruction) (left : List Saved) (codes : List (List ℕ)) →
    StandsAt returning_caller s (Followed RBX ∷ []) [] None todo left → ((r : CalleeSaved) → IsFalse (list_any (is_register r) left) → value_of r s ≡ value_of r returning_caller) →
    memory_of listed_image 0x140000000 (s.ra - 0x140000000) ≡ Some ((concatenation codes ++ (0xc3 ∷ [] ++ [])) ++ replicate 16 0xcc) → length (concatenation codes ++ (0xc3 ∷ [] ++ [])) ≡ 0x140001040 - s.ra →
    AreSpelled None true codes todo → 0x14000103e ≤ s.ra → 2 ≡ (s.ra - 0x14000103e) + length (concatenation codes ++ 0xc3 ∷ []) →
    StandsInEpilog listed_image module_of_one returning_record listed_function described returning_caller s
unfolding described word_at leading_epilogs operations_of
stands_with s todo left codes stands values mapped up_to_end spelled begun whole = record {
  room = lit≤ tt;
  returns = refl;
  leaves = (lit≤ tt, refl, tt);
  pushed = Followed RBX ∷ [];
  rooms = [];
  frame = refl;
  todo = todo;
  left = left;
  stands = stands;
  values = values;
  codes = codes;
  terminator = 0xc3 ∷ [];
  rest = [];
  beyond = replicate 16 0xcc;
  mapped = mapped;
  up_to_end = up_to_end;
  spelled = spelled;
  ends = ret no_rex;
  from = 0x14000103e;
  begins = lit≤ tt;
  begun = begun;
  listed = inr (last whole refl whole);
}

-- ---- before the pop
stands_at_pop : StandsInEpilog listed_image module_of_one returning_record listed_function described returning_caller at_pop
stands_at_pop = stands_with at_pop (Pop pe.RBX ∷ []) (Followed RBX ∷ []) ((0x5b ∷ []) ∷ []) (before_pops [] refl refl)
    (by_register (λ q. _ → value_of q at_pop ≡ value_of q returning_caller) (λ e. absurd cc) (λ e. refl) (λ e. refl) (λ e. refl) (λ e. refl) (λ e. refl))
    refl refl (pop no_rex 0x5b refl, tt, tt) (lit≤ tt) refl

pub pop_stop : IsDescribedStop listed_image pe_modules (listed_function ∷ []) at_pop listed_call
unfolding lies module_described has_record described
pop_stop = record { inner = refl; listed = (0, lit< tt, refl); lies = lies; returns = λ e. absurd cc; stands = at_epilog has_record stands_at_pop; caller = caller_fits }

pub pop_computed : GivesState (pe_step listed_image module_of_one 0x103e (columns_of at_pop)) returning_caller
unfolding word_at chain_of operations_of after_epilogs leading_epilogs any_lists parsed_instruction sequence_from from_place end_of_chain run epilog_run lookup_of place_by_halving boundary_of
pop_computed = record { caller = _; answered = refl; shows = record { ra = refl; sp = refl; saved = by_register (λ q. _ ≡ Some (value_of q returning_caller)) refl refl refl refl refl refl } }

-- ---- before the return
stands_at_return : StandsInEpilog listed_image module_of_one returning_record listed_function described returning_caller at_return
stands_at_return = stands_with at_return [] [] [] (before_pops (Followed RBX ∷ []) refl refl)
    (by_register (λ q. _ → value_of q at_return ≡ value_of q returning_caller) (λ e. refl) (λ e. refl) (λ e. refl) (λ e. refl) (λ e. refl) (λ e. refl))
    refl refl tt (lit≤ tt) refl

pub return_stop : IsDescribedStop listed_image pe_modules (listed_function ∷ []) at_return listed_call
unfolding lies module_described has_record described
return_stop = record { inner = refl; listed = (0, lit< tt, refl); lies = lies; returns = λ e. absurd cc; stands = at_epilog has_record stands_at_return; caller = caller_fits }

pub return_computed : GivesState (pe_step listed_image module_of_one 0x103f (columns_of at_return)) returning_caller
unfolding word_at chain_of operations_of after_epilogs leading_epilogs any_lists parsed_instruction sequence_from from_place end_of_chain run epilog_run lookup_of place_by_halving boundary_of
return_computed = record { caller = _; answered = refl; shows = record { ra = refl; sp = refl; saved = by_register (λ q. _ ≡ Some (value_of q returning_caller)) refl refl refl refl refl refl } }
