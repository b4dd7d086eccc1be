-- The function with a listed epilog: its module is described, and states stand in the epilog.
use Rattle.std.proofs.Common.{◌≡◌, ◌≢◌, ℕ, ◌-◌, ◌<◌, ◌≤◌, false, leb, ltb, ◌&&◌, ◌||◌, List, [], ◌∷◌, replicate, Some, None, refl, ap, ◌∙◌, arith, inl, inr, lit<, lit≤}
use Rattle.std.specs.Prelude.{◌⊎◌, IsTrue}
use Rattle.std.proofs.lemmas.Bool.{leb-true, ltb-true}
use Rattle.std.proofs.lemmas.Bool.Decides.{nat_tests}
use Rattle.memory_image.specs.Halving.{place_by_halving, boundary_of}
use Rattle.memory_image.specs.Image.{word_at}
use Rattle.unwind_definitions.specs.State.{RBX, value_of, IsState}
use Rattle.unwind_definitions.specs.Prologue.{Windows, Followed, Save, steps_of}
use Rattle.unwind_definitions.specs.Function.{IsFunction, in_body}
use Rattle.unwind_laws.specs.Columns.{columns_of}
use Rattle.unwind_laws.proofs.Booleans.{both_true, either_true, either_false, pairs_one}
use Rattle.unwind_laws.proofs.RowFacts.{by_register, state_fits}
use Rattle.pe_unwind_info.specs.declared.x86_64.operations.EpilogInformation.{EpilogInformation as Epilog}
use Rattle.pe_unwind_info.specs.declared.x86_64.registers.Register.TheVariants as pe
use Rattle.pe_unwind_info.specs.declared.x86_64.epilog.FunctionEpilogInstruction.TheVariants.{Pop}
use Rattle.pe_unwind_info.specs.Chain.{chain_of}
use Rattle.pe_unwind_info.specs.Epilog.{parsed_instruction, sequence_from}
use Rattle.pe_unwind_info.specs.EpilogGrammar.{no_rex, pop, ret}
use Rattle.pe_unwind_info.specs.EpilogList.{leading_epilogs, after_epilogs, any_lists, is_due}
use Rattle.pe_unwind_info.specs.Frame.{from_place}
use Rattle.pe_unwind_info.specs.FrameOf.{end_of_chain}
use Rattle.pe_unwind_info.specs.FunctionTable.{lookup_of}
use Rattle.pe_unwind_info.specs.InfoOperations.{operations_in}
use Rattle.pe_unwind_info.specs.Operations.{operations_of}
use Rattle.pe_unwind_info.specs.Steps.{run, epilog_run}
use Rattle.format_definitions.specs.PeImage.{memory_of}
use Rattle.format_definitions.specs.PeStep.{pe_step}
use Rattle.format_definitions.specs.PeModules.{IsInNoEpilog, DescribesRecord, HasRecord, DescribesPe}
use Rattle.format_definitions.specs.PeEpilogs.{before_pops, other, StandsInEpilog}
use Rattle.format_laws.specs.PeSamples.{module_of_one, epilog_image, short_epilog_image, epilog_record, epilog_info, epilog_function, epilog_start, epilog_state, epilog_caller, table_bytes}
use Rattle.format_laws.specs.PeUndone.{GivesState}

pub is_function : IsFunction Windows epilog_function
is_function = record {
  prologue = record { ends = (0, 1 ∷ [], refl, (lit< tt, tt)); each = (refl, tt); once = pairs_one (λ (a b : Save). a.register ≢ b.register) _ };
  has_body = λ e. absurd cc;
  bodies = (lit≤ tt, lit< tt, lit≤ tt, (lit≤ tt, lit< tt, lit≤ tt, tt));
  sites = tt;
  outermost = λ e. absurd cc;
}

-- the size of epilogs is 2, and one begins 0x120 before the end
abbrev listed : List Epilog
listed = record { size_or_offset_low = 2; single_or_offset_high = 0 } ∷ record { size_or_offset_low = 0x20; single_or_offset_high = 1 } ∷ []

listed_is : leading_epilogs (operations_in epilog_info) ≡ listed
unfolding leading_epilogs operations_of
listed_is = refl

not_due : (a : ℕ) → (a < 0x12e0) ⊎ (0x12e2 ≤ a) → is_due 0x1400 a listed ≡ false
unfolding any_lists
not_due a (inl low) = grind (arith, nat_tests)
not_due a (inr high) = grind (arith, nat_tests)

outside : (pc : ℕ) → IsTrue (in_body epilog_function pc) → (pc - 0x140000000 < 0x12e0) ⊎ (0x12e2 ≤ pc - 0x140000000)
outside pc h = elim (either_true (leb 0x140001001 pc && ltb pc 0x1400012e0) ((leb 0x1400012e2 pc && ltb pc 0x140001400) || false) h) [
  | inl first ↦ let both = both_true (leb 0x140001001 pc) (ltb pc 0x1400012e0) first in let lt = ltb-true pc 0x1400012e0 both.1 in inl (omega arith)
  | inr second ↦ let both = both_true (leb 0x1400012e2 pc) (ltb pc 0x140001400) (either_false _ second) in let le = leb-true 0x1400012e2 pc both.0 in inr (omega arith)
]

pub quiet : (pc : ℕ) → IsTrue (in_body epilog_function pc) → IsInNoEpilog (memory_of epilog_image 0x140000000) epilog_record epilog_info (pc - 0x140000000)
quiet pc h = inl (ap (is_due 0x1400 (pc - 0x140000000)) listed_is ∙ not_due (pc - 0x140000000) (outside pc h))

unfoldable pub described : DescribesRecord epilog_image module_of_one epilog_record epilog_function
unfolding chain_of operations_of after_epilogs
described = record {
  start = refl;
  end = refl;
  not_outermost = refl;
  first = epilog_info;
  chained = [];
  reads = refl;
  chain = refl;
  language = record { trailer = λ e. absurd cc; alone = λ e. refl; quiet = tt; leads = refl };
  whole = (tt, tt);
  inherited = [];
  own = epilog_function.prologue;
  prologue = refl;
  inherited_ends = tt;
  own_ends = (lit< tt, tt);
  undoes_own = refl;
  undoes_inherited = refl;
  grouped = record { frame = steps_of epilog_function.prologue; set = None; stores = []; is = refl; frames = (tt, tt); are_stores = tt };
  frame_offset = tt;
  names = (refl, tt);
  bodies = quiet;
}

unfoldable pub has_record : HasRecord epilog_image module_of_one (epilog_record ∷ []) epilog_function
has_record = record { function = epilog_record; listed = (0, lit< tt, refl); describes = described }

unfoldable pub module_described : DescribesPe epilog_image module_of_one (epilog_function ∷ [])
module_described = record { bytes = table_bytes 0x00 0x14; mapped = refl; table = epilog_record ∷ []; reads = refl; ordered = (lit≤ tt, lit< tt, lit≤ tt, tt); each = (inl has_record, tt) }

pub caller_fits : IsState epilog_caller
caller_fits = state_fits epilog_caller (lit< tt) (lit< tt) (lit< tt) (lit< tt) (lit< tt) (lit< tt) (lit< tt) (lit< tt)

-- before the pop
pub stands_before : StandsInEpilog epilog_image module_of_one epilog_record epilog_function described epilog_caller epilog_start
unfolding described word_at leading_epilogs operations_of
stands_before = record {
  room = lit≤ tt;
  returns = refl;
  leaves = (lit≤ tt, refl, tt);
  pushed = Followed RBX ∷ [];
  rooms = [];
  frame = refl;
  todo = Pop pe.RBX ∷ [];
  left = Followed RBX ∷ [];
  stands = before_pops [] refl refl;
  values = by_register (λ q. _ → value_of q epilog_start ≡ value_of q epilog_caller) (λ e. absurd cc) (λ e. refl) (λ e. refl) (λ e. refl) (λ e. refl) (λ e. refl);
  codes = (0x5b ∷ []) ∷ [];
  terminator = 0xc3 ∷ [];
  rest = replicate 286 0x90;
  beyond = [];
  mapped = refl;
  up_to_end = refl;
  spelled = (pop no_rex 0x5b refl, tt, tt);
  ends = ret no_rex;
  from = 0x1400012e0;
  begins = lit≤ tt;
  begun = lit≤ tt;
  listed = inr (other {epilog = record { size_or_offset_low = 0x20; single_or_offset_high = 1 }} refl (0, lit< tt, refl) refl (λ e. absurd cc));
}

-- after it, at the return
pub stands_after : StandsInEpilog epilog_image module_of_one epilog_record epilog_function described epilog_caller epilog_state
unfolding described word_at leading_epilogs operations_of
stands_after = record {
  room = lit≤ tt;
  returns = refl;
  leaves = (lit≤ tt, refl, tt);
  pushed = Followed RBX ∷ [];
  rooms = [];
  frame = refl;
  todo = [];
  left = [];
  stands = before_pops (Followed RBX ∷ []) refl refl;
  values = by_register (λ q. _ → value_of q epilog_state ≡ value_of q epilog_caller) (λ e. refl) (λ e. refl) (λ e. refl) (λ e. refl) (λ e. refl) (λ e. refl);
  codes = [];
  terminator = 0xc3 ∷ [];
  rest = replicate 286 0x90;
  beyond = [];
  mapped = refl;
  up_to_end = refl;
  spelled = tt;
  ends = ret no_rex;
  from = 0x1400012e0;
  begins = lit≤ tt;
  begun = lit≤ tt;
  listed = inr (other {epilog = record { size_or_offset_low = 0x20; single_or_offset_high = 1 }} refl (0, lit< tt, refl) refl (λ e. absurd cc));
}

-- what the law of epilogs asks
pub stand_in_described : (d : DescribesPe epilog_image module_of_one (epilog_function ∷ [])) × (r : HasRecord epilog_image module_of_one d.table epilog_function)
    × StandsInEpilog epilog_image module_of_one r.function epilog_function r.describes epilog_caller epilog_start
    × StandsInEpilog epilog_image module_of_one r.function epilog_function r.describes epilog_caller epilog_state
unfolding module_described has_record described
stand_in_described = (module_described, has_record, stands_before, stands_after)

-- the steps, computed; after the pop the pushed word may even be unmapped
pub computed_before : GivesState (pe_step epilog_image module_of_one 0x12e0 (columns_of epilog_start)) epilog_caller
unfolding word_at chain_of operations_of after_epilogs leading_epilogs any_lists parsed_instruction sequence_from from_place end_of_chain run epilog_run lookup_of place_by_halving boundary_of
computed_before = record { caller = _; answered = refl; shows = record { ra = refl; sp = refl; saved = by_register (λ q. _ ≡ Some (value_of q epilog_caller)) refl refl refl refl refl refl } }

pub computed_after : GivesState (pe_step short_epilog_image module_of_one 0x12e1 (columns_of epilog_state)) epilog_caller
unfolding word_at chain_of operations_of after_epilogs leading_epilogs any_lists parsed_instruction sequence_from from_place end_of_chain run epilog_run lookup_of place_by_halving boundary_of
computed_after = record { caller = _; answered = refl; shows = record { ra = refl; sp = refl; saved = by_register (λ q. _ ≡ Some (value_of q epilog_caller)) refl refl refl refl refl refl } }
