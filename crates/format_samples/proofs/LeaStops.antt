-- The function whose epilog gives the stack back by `lea`: its module is described, and a state was stopped before that.
use Rattle.std.proofs.Common.{◌≡◌, ◌≢◌, ℕ, ◌-◌, Bool, true, leb, ltb, [], ◌∷◌, replicate, Some, refl, arith, inl, lit<, lit≤}
use Rattle.std.specs.Prelude.{IsTrue}
use Rattle.std.proofs.lemmas.Bool.{leb-true, ltb-true}
use Rattle.memory_image.specs.Halving.{place_by_halving, boundary_of}
use Rattle.memory_image.specs.Image.{word_at}
use Rattle.unwind_definitions.specs.State.{RBP, value_of, IsState}
use Rattle.unwind_definitions.specs.Prologue.{Windows, Followed, Push, Allocate, Save}
use Rattle.unwind_definitions.specs.Function.{IsFunction, in_body}
use Rattle.unwind_laws.specs.Columns.{columns_of}
use Rattle.unwind_laws.proofs.Booleans.{both_true, either_false, pairs_one}
use Rattle.unwind_laws.proofs.RowFacts.{by_register, state_fits}
use Rattle.pe_unwind_info.specs.declared.x86_64.registers.Register.TheVariants as pe
use Rattle.pe_unwind_info.specs.declared.x86_64.epilog.FunctionEpilogInstruction.TheVariants.{AddSPFromFP, Pop}
use Rattle.pe_unwind_info.specs.Chain.{chain_of}
use Rattle.pe_unwind_info.specs.Epilog.{parsed_instruction, sequence_from}
use Rattle.pe_unwind_info.specs.EpilogGrammar.{no_rex, lea_byte, pop, ret}
use Rattle.pe_unwind_info.specs.EpilogList.{leading_epilogs, after_epilogs, any_lists, is_due}
use Rattle.pe_unwind_info.specs.Frame.{from_place}
use Rattle.pe_unwind_info.specs.FrameOf.{epilog_if_tested, end_of_chain}
use Rattle.pe_unwind_info.specs.FunctionTable.{lookup_of}
use Rattle.pe_unwind_info.specs.Header.{frame_register_of}
use Rattle.pe_unwind_info.specs.InfoOperations.{operations_in}
use Rattle.pe_unwind_info.specs.Operations.{operations_of}
use Rattle.pe_unwind_info.specs.Steps.{run, epilog_run}
use Rattle.format_definitions.specs.PeImage.{memory_of}
use Rattle.format_definitions.specs.PeStep.{pe_step}
use Rattle.format_definitions.specs.PeModules.{IsInNoEpilog, DescribesRecord, HasRecord, DescribesPe}
use Rattle.format_definitions.specs.PeEpilogs.{before_lea, StandsInEpilog}
use Rattle.format_definitions.specs.Modules.{Pe, LiesDescribed, IsDescribedChain}
use Rattle.format_definitions.specs.Process.{FormatsApart, IsProcess}
use Rattle.format_definitions.specs.Stops.{at_epilog, IsDescribedStop}
use Rattle.format_laws.specs.Sample.{pe_modules}
use Rattle.format_laws.specs.PeSamples.{module_of_one, table_bytes}
use Rattle.format_laws.specs.PeUndone.{GivesState}
use Rattle.format_laws.proofs.Tables.{all_from, each_from}
use Rattle.format_laws.proofs.PeQuiet.{finds_none, quiet_at}
use Rattle.format_samples.proofs.Outside.{ends_outside}
use Rattle.format_samples.specs.StopSamples.{returning_record, returning_caller}
use Rattle.format_samples.specs.EpilogSamples.{framed_image, framed_info, framed_function, framed_call, at_lea}

pub is_process : IsProcess framed_image pe_modules
is_process = record { regions = (lit≤ tt, lit< tt, lit≤ tt, (lit≤ tt, lit< tt, lit≤ tt, (lit≤ tt, lit< tt, lit≤ tt, (lit≤ tt, lit< tt, lit≤ tt, tt)))); ranges = ((lit< tt, lit< tt), tt); apart = pairs_one FormatsApart (Pe module_of_one) }

is_function : IsFunction Windows framed_function
is_function = record {
  prologue = record { ends = (0, 1 ∷ 5 ∷ 10 ∷ [], refl, (lit< tt, (lit< tt, (lit< tt, tt)))); each = (refl, ((lit< tt, refl), ((refl, refl, tt), tt))); once = pairs_one (λ (a b : Save). a.register ≢ b.register) _ };
  has_body = λ e. absurd cc;
  bodies = (lit≤ tt, lit< tt, lit≤ tt, tt);
  sites = tt;
  outermost = λ e. absurd cc;
}

-- ---- the code before the epilog begins with none
abbrev test : ℕ → Bool
test a = finds_none (epilog_if_tested (is_due 0x1040 a (leading_epilogs (operations_in framed_info))) (memory_of framed_image 0x140000000) (frame_register_of framed_info.header) 0x1040 a)

tests : all_from 0x100a 48 test ≡ true
unfolding parsed_instruction sequence_from leading_epilogs operations_of
tests = refl

quiet : (pc : ℕ) → IsTrue (in_body framed_function pc) → IsInNoEpilog (memory_of framed_image 0x140000000) returning_record framed_info (pc - 0x140000000)
quiet pc h =
    let both = both_true (leb 0x14000100a pc) (ltb pc 0x14000103a) (either_false _ h) in
    let low = leb-true 0x14000100a pc both.0 in
    let high = ltb-true pc 0x14000103a both.1 in
    quiet_at (memory_of framed_image 0x140000000) returning_record framed_info (pc - 0x140000000) (each_from 48 0x100a test tests (pc - 0x140000000) (omega arith) (omega arith))

unfoldable described : DescribesRecord framed_image module_of_one returning_record framed_function
unfolding chain_of operations_of after_epilogs
described = record {
  start = refl;
  end = refl;
  not_outermost = refl;
  first = framed_info;
  chained = [];
  reads = refl;
  chain = refl;
  language = record { trailer = λ e. absurd cc; alone = λ e. refl; quiet = tt; leads = refl };
  whole = (tt, tt);
  inherited = [];
  own = framed_function.prologue;
  prologue = refl;
  inherited_ends = tt;
  own_ends = (lit< tt, (lit< tt, (lit< tt, tt)));
  undoes_own = refl;
  undoes_inherited = refl;
  grouped = record { frame = Push (Followed RBP) ∷ Allocate 64 ∷ []; set = Some 32; stores = []; is = refl; frames = (tt, (tt, tt)); are_stores = tt };
  frame_offset = (refl, lit≤ tt);
  names = ((refl, refl), tt);
  bodies = quiet;
}

unfoldable has_record : HasRecord framed_image module_of_one (returning_record ∷ []) framed_function
has_record = record { function = returning_record; listed = (0, lit< tt, refl); describes = described }

unfoldable module_described : DescribesPe framed_image module_of_one (framed_function ∷ [])
module_described = record { bytes = table_bytes 0x40 0x10; mapped = refl; table = returning_record ∷ []; reads = refl; ordered = (lit≤ tt, lit< tt, lit≤ tt, tt); each = (inl has_record, tt) }

lies : LiesDescribed framed_image pe_modules (framed_function ∷ []) framed_function
lies = record { home = Pe module_of_one; known = (0, lit< tt, refl); inside = refl; is_function = is_function; describes = module_described }

caller_fits : IsState returning_caller
caller_fits = state_fits returning_caller (lit< tt) (lit< tt) (lit< tt) (lit< tt) (lit< tt) (lit< tt) (lit< tt) (lit< tt)

pub nobody_above : IsDescribedChain framed_image pe_modules (framed_function ∷ []) returning_caller []
nobody_above = ends_outside framed_image (framed_function ∷ []) returning_caller caller_fits (λ e. absurd cc) refl

-- ---- before the lea
stands : StandsInEpilog framed_image module_of_one returning_record framed_function described returning_caller at_lea
unfolding described word_at leading_epilogs operations_of
stands = record {
  room = lit≤ tt;
  returns = refl;
  leaves = (lit≤ tt, refl, (lit≤ tt, (lit< tt, tt)));
  pushed = Followed RBP ∷ [];
  rooms = 64 ∷ [];
  frame = refl;
  todo = AddSPFromFP 32 ∷ Pop pe.RBP ∷ [];
  left = Followed RBP ∷ [];
  stands = before_lea {m = 32} refl refl (lit≤ tt) refl;
  values = by_register (λ q. _ → value_of q at_lea ≡ value_of q returning_caller) (λ e. refl) (λ e. absurd cc) (λ e. refl) (λ e. refl) (λ e. refl) (λ e. refl);
  codes = (0x48 ∷ 0x8d ∷ 0x65 ∷ 0x20 ∷ []) ∷ (0x5d ∷ []) ∷ [];
  terminator = 0xc3 ∷ [];
  rest = [];
  beyond = replicate 16 0xcc;
  mapped = refl;
  up_to_end = refl;
  spelled = (lea_byte {rex = 0x48} {n = 32} {base = pe.RBP} (record { is_frame = refl; wide = record { high = refl }; bit = refl }), lit< tt, (pop no_rex 0x5d refl, tt, tt));
  ends = ret no_rex;
  from = 0x14000103a;
  begins = lit≤ tt;
  begun = lit≤ tt;
  listed = inl refl;
}

pub stop : IsDescribedStop framed_image pe_modules (framed_function ∷ []) at_lea framed_call
unfolding lies module_described has_record described
stop = record { inner = refl; listed = (0, lit< tt, refl); lies = lies; returns = λ e. absurd cc; stands = at_epilog has_record stands; caller = caller_fits }

pub computed : GivesState (pe_step framed_image module_of_one 0x103a (columns_of at_lea)) returning_caller
unfolding word_at chain_of operations_of after_epilogs leading_epilogs any_lists parsed_instruction sequence_from from_place end_of_chain run epilog_run lookup_of place_by_halving boundary_of
computed = record { caller = _; answered = refl; shows = record { ra = refl; sp = refl; saved = by_register (λ q. _ ≡ Some (value_of q returning_caller)) refl refl refl refl refl refl } }
