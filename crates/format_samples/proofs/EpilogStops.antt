-- The function with an epilog at its end: its module is described, and states were stopped at each instruction of the epilog.
use Rattle.std.proofs.Common.{◌≡◌, ◌≢◌, ℕ, ◌-◌, ◌≤◌, Bool, true, leb, ltb, List, [], ◌∷◌, ◌++◌, length, replicate, Some, None, refl, arith, inl, lit<, lit≤}
use Rattle.std.specs.Prelude.{IsTrue, IsFalse}
use Rattle.std.specs.List.{list_any}
use Rattle.std.proofs.lemmas.Bool.{leb-true, ltb-true}
use Rattle.memory_image.specs.Halving.{place_by_halving, boundary_of}
use Rattle.memory_image.specs.Image.{word_at}
use Rattle.unwind_definitions.specs.State.{CalleeSaved, RBX, State, value_of, IsState}
use Rattle.unwind_definitions.specs.Prologue.{Windows, Register as Saved, Followed, is_register, Save, steps_of}
use Rattle.unwind_definitions.specs.Function.{IsFunction, in_body}
use Rattle.unwind_laws.specs.Columns.{columns_of}
use Rattle.unwind_laws.proofs.Booleans.{both_true, either_false, pairs_one}
use Rattle.unwind_laws.proofs.RowFacts.{by_register, state_fits}
use Rattle.pe_unwind_info.specs.declared.x86_64.registers.Register.TheVariants as pe
use Rattle.pe_unwind_info.specs.declared.x86_64.epilog.FunctionEpilogInstruction.{FunctionEpilogInstruction}
use Rattle.pe_unwind_info.specs.declared.x86_64.epilog.FunctionEpilogInstruction.TheVariants.{AddSP, Pop}
use Rattle.pe_unwind_info.specs.Chain.{chain_of}
use Rattle.pe_unwind_info.specs.Epilog.{parsed_instruction, sequence_from}
use Rattle.pe_unwind_info.specs.EpilogGrammar.{no_rex, add_byte, pop, ret}
use Rattle.pe_unwind_info.specs.EpilogList.{leading_epilogs, after_epilogs, any_lists, is_due}
use Rattle.pe_unwind_info.specs.Frame.{from_place}
use Rattle.pe_unwind_info.specs.FrameOf.{epilog_if_tested, end_of_chain}
use Rattle.pe_unwind_info.specs.FunctionTable.{lookup_of}
use Rattle.pe_unwind_info.specs.Header.{frame_register_of}
use Rattle.pe_unwind_info.specs.InfoOperations.{operations_in}
use Rattle.pe_unwind_info.specs.Operations.{operations_of}
use Rattle.pe_unwind_info.specs.Steps.{run, epilog_run}
use Rattle.format_definitions.specs.PeImage.{memory_of}
use Rattle.format_definitions.specs.PeStep.{pe_step}
use Rattle.format_definitions.specs.PeModules.{IsInNoEpilog, DescribesRecord, HasRecord, DescribesPe}
use Rattle.format_definitions.specs.PeEpilogs.{AreSpelled, concatenation, StandsAt, before_add, before_pops, StandsInEpilog}
use Rattle.format_definitions.specs.Modules.{Pe, LiesDescribed, IsDescribedChain}
use Rattle.format_definitions.specs.Process.{FormatsApart, IsProcess}
use Rattle.format_definitions.specs.Stops.{at_epilog, IsDescribedStop}
use Rattle.format_laws.specs.Sample.{pe_modules}
use Rattle.format_laws.specs.PeSamples.{module_of_one, room_info, table_bytes}
use Rattle.format_laws.specs.PeUndone.{GivesState}
use Rattle.format_laws.proofs.Tables.{all_from, each_from}
use Rattle.format_laws.proofs.PeQuiet.{finds_none, quiet_at}
use Rattle.format_samples.proofs.Outside.{ends_outside}
use Rattle.format_samples.specs.StopSamples.{returning_image, returning_record, returning_function, returning_caller, returning_call, at_add, at_pop, at_return}

pub is_process : IsProcess returning_image pe_modules
is_process = record { regions = (lit≤ tt, lit< tt, lit≤ tt, (lit≤ tt, lit< tt, lit≤ tt, (lit≤ tt, lit< tt, lit≤ tt, (lit≤ tt, lit< tt, lit≤ tt, tt)))); ranges = ((lit< tt, lit< tt), tt); apart = pairs_one FormatsApart (Pe module_of_one) }

is_function : IsFunction Windows returning_function
is_function = record {
  prologue = record { ends = (0, 1 ∷ 5 ∷ [], refl, (lit< tt, (lit< tt, tt))); each = (refl, ((lit< tt, refl), tt)); once = pairs_one (λ (a b : Save). a.register ≢ b.register) _ };
  has_body = λ e. absurd cc;
  bodies = (lit≤ tt, lit< tt, lit≤ tt, tt);
  sites = tt;
  outermost = λ e. absurd cc;
}

-- ---- the code before the epilog begins with none
abbrev test : ℕ → Bool
test a = finds_none (epilog_if_tested (is_due 0x1040 a (leading_epilogs (operations_in room_info))) (memory_of returning_image 0x140000000) (frame_register_of room_info.header) 0x1040 a)

tests : all_from 0x1005 53 test ≡ true
unfolding parsed_instruction sequence_from leading_epilogs operations_of
tests = refl

quiet : (pc : ℕ) → IsTrue (in_body returning_function pc) → IsInNoEpilog (memory_of returning_image 0x140000000) returning_record room_info (pc - 0x140000000)
quiet pc h =
    let both = both_true (leb 0x140001005 pc) (ltb pc 0x14000103a) (either_false _ h) in
    let low = leb-true 0x140001005 pc both.0 in
    let high = ltb-true pc 0x14000103a both.1 in
    quiet_at (memory_of returning_image 0x140000000) returning_record room_info (pc - 0x140000000) (each_from 53 0x1005 test tests (pc - 0x140000000) (omega arith) (omega arith))

unfoldable described : DescribesRecord returning_image module_of_one returning_record returning_function
unfolding chain_of operations_of after_epilogs
described = record {
  start = refl;
  end = refl;
  not_outermost = refl;
  first = room_info;
  chained = [];
  reads = refl;
  chain = refl;
  language = record { trailer = λ e. absurd cc; alone = λ e. refl; quiet = tt; leads = refl };
  whole = (tt, tt);
  inherited = [];
  own = returning_function.prologue;
  prologue = refl;
  inherited_ends = tt;
  own_ends = (lit< tt, (lit< tt, tt));
  undoes_own = refl;
  undoes_inherited = refl;
  grouped = record { frame = steps_of returning_function.prologue; set = None; stores = []; is = refl; frames = (tt, (tt, tt)); are_stores = tt };
  frame_offset = tt;
  names = (refl, tt);
  bodies = quiet;
}

unfoldable has_record : HasRecord returning_image module_of_one (returning_record ∷ []) returning_function
has_record = record { function = returning_record; listed = (0, lit< tt, refl); describes = described }

unfoldable module_described : DescribesPe returning_image module_of_one (returning_function ∷ [])
module_described = record { bytes = table_bytes 0x40 0x10; mapped = refl; table = returning_record ∷ []; reads = refl; ordered = (lit≤ tt, lit< tt, lit≤ tt, tt); each = (inl has_record, tt) }

lies : LiesDescribed returning_image pe_modules (returning_function ∷ []) returning_function
lies = record { home = Pe module_of_one; known = (0, lit< tt, refl); inside = refl; is_function = is_function; describes = module_described }

caller_fits : IsState returning_caller
caller_fits = state_fits returning_caller (lit< tt) (lit< tt) (lit< tt) (lit< tt) (lit< tt) (lit< tt) (lit< tt) (lit< tt)

pub nobody_above : IsDescribedChain returning_image pe_modules (returning_function ∷ []) returning_caller []
nobody_above = ends_outside returning_image (returning_function ∷ []) returning_caller caller_fits (λ e. absurd cc) refl

-- ---- in the epilog, with so much of it left
stands_with : (s : State) (todo : List FunctionEpilogInstruction) (left : List Saved) (codes : List (List ℕ)) →
    StandsAt returning_caller s (Followed RBX ∷ []) (40 ∷ []) None todo left → ((r : CalleeSaved) → IsFalse (list_any (is_register r) left) → value_of r s ≡ value_of r returning_caller) →
    memory_of returning_image 0x140000000 (s.ra - 0x140000000) ≡ Some ((concatenation codes ++ (0xc3 ∷ [] ++ [])) ++ replicate 16 0xcc) → length (concatenation codes ++ (0xc3 ∷ [] ++ [])) ≡ 0x140001040 - s.ra →
    AreSpelled None true codes todo → 0x14000103a ≤ s.ra → StandsInEpilog returning_image module_of_one returning_record returning_function described returning_caller s
unfolding described word_at leading_epilogs operations_of
stands_with s todo left codes stands values mapped up_to_end spelled begun = record {
  room = lit≤ tt;
  returns = refl;
  leaves = (lit≤ tt, refl, (lit≤ tt, tt));
  pushed = Followed RBX ∷ [];
  rooms = 40 ∷ [];
  frame = refl;
  todo = todo;
  left = left;
  stands = stands;
  values = values;
  codes = codes;
  terminator = 0xc3 ∷ [];
  rest = [];
  beyond = replicate 16 0xcc;
  mapped = mapped;
  up_to_end = up_to_end;
  spelled = spelled;
  ends = ret no_rex;
  from = 0x14000103a;
  begins = lit≤ tt;
  begun = begun;
  listed = inl refl;
}

-- ---- before the add
stands_at_add : StandsInEpilog returning_image module_of_one returning_record returning_function described returning_caller at_add
stands_at_add = stands_with at_add (AddSP 40 ∷ Pop pe.RBX ∷ []) (Followed RBX ∷ []) ((0x48 ∷ 0x83 ∷ 0xc4 ∷ 0x28 ∷ []) ∷ (0x5b ∷ []) ∷ []) (before_add refl refl)
    (by_register (λ q. _ → value_of q at_add ≡ value_of q returning_caller) (λ e. absurd cc) (λ e. refl) (λ e. refl) (λ e. refl) (λ e. refl) (λ e. refl))
    refl refl (add_byte (record { high = refl }), lit< tt, (pop no_rex 0x5b refl, tt, tt)) (lit≤ tt)

pub add_stop : IsDescribedStop returning_image pe_modules (returning_function ∷ []) at_add returning_call
unfolding lies module_described has_record described
add_stop = record { inner = refl; listed = (0, lit< tt, refl); lies = lies; returns = λ e. absurd cc; stands = at_epilog has_record stands_at_add; caller = caller_fits }

pub add_computed : GivesState (pe_step returning_image module_of_one 0x103a (columns_of at_add)) returning_caller
unfolding word_at chain_of operations_of after_epilogs leading_epilogs any_lists parsed_instruction sequence_from from_place end_of_chain run epilog_run lookup_of place_by_halving boundary_of
add_computed = record { caller = _; answered = refl; shows = record { ra = refl; sp = refl; saved = by_register (λ q. _ ≡ Some (value_of q returning_caller)) refl refl refl refl refl refl } }

-- ---- before the pop
stands_at_pop : StandsInEpilog returning_image module_of_one returning_record returning_function described returning_caller at_pop
stands_at_pop = stands_with at_pop (Pop pe.RBX ∷ []) (Followed RBX ∷ []) ((0x5b ∷ []) ∷ []) (before_pops [] refl refl)
    (by_register (λ q. _ → value_of q at_pop ≡ value_of q returning_caller) (λ e. absurd cc) (λ e. refl) (λ e. refl) (λ e. refl) (λ e. refl) (λ e. refl))
    refl refl (pop no_rex 0x5b refl, tt, tt) (lit≤ tt)

pub pop_stop : IsDescribedStop returning_image pe_modules (returning_function ∷ []) at_pop returning_call
unfolding lies module_described has_record described
pop_stop = record { inner = refl; listed = (0, lit< tt, refl); lies = lies; returns = λ e. absurd cc; stands = at_epilog has_record stands_at_pop; caller = caller_fits }

pub pop_computed : GivesState (pe_step returning_image module_of_one 0x103e (columns_of at_pop)) returning_caller
unfolding word_at chain_of operations_of after_epilogs leading_epilogs any_lists parsed_instruction sequence_from from_place end_of_chain run epilog_run lookup_of place_by_halving boundary_of
pop_computed = record { caller = _; answered = refl; shows = record { ra = refl; sp = refl; saved = by_register (λ q. _ ≡ Some (value_of q returning_caller)) refl refl refl refl refl refl } }

-- ---- before the return
stands_at_return : StandsInEpilog returning_image module_of_one returning_record returning_function described returning_caller at_return
stands_at_return = stands_with at_return [] [] [] (before_pops (Followed RBX ∷ []) refl refl)
    (by_register (λ q. _ → value_of q at_return ≡ value_of q returning_caller) (λ e. refl) (λ e. refl) (λ e. refl) (λ e. refl) (λ e. refl) (λ e. refl))
    refl refl tt (lit≤ tt)

pub return_stop : IsDescribedStop returning_image pe_modules (returning_function ∷ []) at_return returning_call
unfolding lies module_described has_record described
return_stop = record { inner = refl; listed = (0, lit< tt, refl); lies = lies; returns = λ e. absurd cc; stands = at_epilog has_record stands_at_return; caller = caller_fits }

pub return_computed : GivesState (pe_step returning_image module_of_one 0x103f (columns_of at_return)) returning_caller
unfolding word_at chain_of operations_of after_epilogs leading_epilogs any_lists parsed_instruction sequence_from from_place end_of_chain run epilog_run lookup_of place_by_halving boundary_of
return_computed = record { caller = _; answered = refl; shows = record { ra = refl; sp = refl; saved = by_register (λ q. _ ≡ Some (value_of q returning_caller)) refl refl refl refl refl refl } }
