-- The function that allocates above a push: its module is described, and a state is entered. And the record that goes on with
-- itself, which describes nothing.
use Rattle.std.proofs.Common.{◌≡◌, ◌≢◌, ℕ, ◌-◌, Bool, true, false, leb, ltb, List, [], ◌∷◌, Some, None, Result, Ok, Err, refl, sym, subst, ◌∙◌, arith, inl, inr, lit<, lit≤}
use Rattle.std.specs.Prelude.{IsTrue}
use Rattle.std.proofs.lemmas.Bool.{leb-true, ltb-true}
use Rattle.memory_image.specs.Halving.{place_by_halving, boundary_of}
use Rattle.memory_image.specs.Image.{word_at}
use Rattle.unwind_definitions.specs.State.{CalleeSaved, RBX, RBP, R12, R13, R14, R15, value_of, IsState}
use Rattle.unwind_definitions.specs.Prologue.{Windows, Save, steps_of, distance}
use Rattle.unwind_definitions.specs.Entered.{IsEntered}
use Rattle.unwind_definitions.specs.Function.{Function, IsFunction, in_body}
use Rattle.unwind_laws.specs.Columns.{columns_of}
use Rattle.unwind_laws.proofs.Booleans.{both_true, either_false, pairs_one}
use Rattle.unwind_laws.proofs.RowFacts.{by_register, state_fits}
use Rattle.pe_unwind_info.specs.declared.x86_64.fault.FrameFault.{FrameFault}
use Rattle.pe_unwind_info.specs.declared.x86_64.fault.FrameFault.TheVariants.{ChainLimit}
use Rattle.pe_unwind_info.specs.Chain.{chain_of}
use Rattle.pe_unwind_info.specs.Frame.{info_in, chained_of}
use Rattle.pe_unwind_info.specs.Info.{Info}
use Rattle.pe_unwind_info.specs.Epilog.{parsed_instruction, sequence_from}
use Rattle.pe_unwind_info.specs.EpilogList.{leading_epilogs, after_epilogs, any_lists, is_due}
use Rattle.pe_unwind_info.specs.Frame.{from_place}
use Rattle.pe_unwind_info.specs.FrameOf.{epilog_if_tested, end_of_chain}
use Rattle.pe_unwind_info.specs.FunctionTable.{lookup_of}
use Rattle.pe_unwind_info.specs.Header.{frame_register_of}
use Rattle.pe_unwind_info.specs.InfoOperations.{operations_in}
use Rattle.pe_unwind_info.specs.Operations.{operations_of}
use Rattle.pe_unwind_info.specs.Steps.{run, epilog_run}
use Rattle.format_definitions.specs.PeImage.{memory_of}
use Rattle.format_definitions.specs.PeStep.{InFrame, pe_step}
use Rattle.format_definitions.specs.PeModules.{IsInNoEpilog, DescribesRecord, DescribesLeaf, DescribesPe}
use Rattle.format_laws.specs.PeSamples.{module_of_one, room_image, room_info, room_function, room_state, room_caller, leaf_function, leaf_state, loop_image, loop_record, loop_info, loop_state, table_bytes}
use Rattle.format_laws.specs.PeUndone.{GivesState}
use Rattle.format_laws.proofs.Tables.{all_from, each_from}
use Rattle.format_laws.proofs.PeQuiet.{finds_none, quiet_at}

pub is_function : IsFunction Windows room_function
is_function = record {
  prologue = record { ends = (0, 1 ∷ 5 ∷ [], refl, (lit< tt, (lit< tt, tt))); each = (refl, ((lit< tt, refl), tt)); once = pairs_one (λ (a b : Save). a.register ≢ b.register) _ };
  has_body = λ e. absurd cc;
  bodies = (lit≤ tt, lit< tt, lit≤ tt, tt);
  sites = tt;
  outermost = λ e. absurd cc;
}

abbrev test : ℕ → Bool
test a = finds_none (epilog_if_tested (is_due 0x1100 a (leading_epilogs (operations_in room_info))) (memory_of room_image 0x140000000) (frame_register_of room_info.header) 0x1100 a)

tests : all_from 0x1005 251 test ≡ true
unfolding parsed_instruction sequence_from leading_epilogs operations_of
tests = refl

pub quiet : (pc : ℕ) → IsTrue (in_body room_function pc) → IsInNoEpilog (memory_of room_image 0x140000000) loop_record room_info (pc - 0x140000000)
quiet pc h =
    let both = both_true (leb 0x140001005 pc) (ltb pc 0x140001100) (either_false _ h) in
    let low = leb-true 0x140001005 pc both.0 in
    let high = ltb-true pc 0x140001100 both.1 in
    quiet_at (memory_of room_image 0x140000000) loop_record room_info (pc - 0x140000000) (each_from 251 0x1005 test tests (pc - 0x140000000) (omega arith) (omega arith))

unfoldable pub described : DescribesRecord room_image module_of_one loop_record room_function
unfolding chain_of operations_of after_epilogs
described = record {
  start = refl;
  end = refl;
  not_outermost = refl;
  first = room_info;
  chained = [];
  reads = refl;
  chain = refl;
  language = record { trailer = λ e. absurd cc; alone = λ e. refl; quiet = tt; leads = refl };
  whole = (tt, tt);
  inherited = [];
  own = room_function.prologue;
  prologue = refl;
  inherited_ends = tt;
  own_ends = (lit< tt, (lit< tt, tt));
  undoes_own = refl;
  undoes_inherited = refl;
  grouped = record { frame = steps_of room_function.prologue; set = None; stores = []; is = refl; frames = (tt, (tt, tt)); are_stores = tt };
  frame_offset = tt;
  names = (refl, tt);
  bodies = quiet;
}

pub leaf_described : DescribesLeaf module_of_one (loop_record ∷ []) leaf_function
leaf_described = record { inside = (lit≤ tt, lit≤ tt); apart = (inl (lit≤ tt), tt); no_steps = refl; plain = record { not_outermost = refl; no_sites = refl } }

pub leaf_is_function : IsFunction Windows leaf_function
leaf_is_function = record {
  prologue = record { ends = (0, [], refl, tt); each = tt; once = λ i j d lt below. absurd (omega arith) };
  has_body = λ e. absurd cc;
  bodies = (lit≤ tt, lit< tt, lit≤ tt, tt);
  sites = tt;
  outermost = λ e. absurd cc;
}

pub leaf_entered : IsEntered room_image false [] room_caller leaf_state
unfolding word_at
leaf_entered = record { room = lit≤ tt; returns = λ _. refl; leaves = tt; stack = refl; keeps = λ r e. by_register (λ q. value_of q leaf_state ≡ value_of q room_caller) refl refl refl refl refl refl r }

pub computed_leaf : GivesState (pe_step room_image module_of_one 0x1103 (columns_of leaf_state)) room_caller
unfolding word_at lookup_of place_by_halving boundary_of
computed_leaf = record { caller = _; answered = refl; shows = record { ra = refl; sp = refl; saved = by_register (λ q. _ ≡ Some (value_of q room_caller)) refl refl refl refl refl refl } }

unfoldable pub module_described : DescribesPe room_image module_of_one (room_function ∷ leaf_function ∷ [])
module_described = record { bytes = table_bytes 0x00 0x11; mapped = refl; table = loop_record ∷ []; reads = refl; ordered = (lit≤ tt, lit< tt, lit≤ tt, tt); each = (inl (record { function = loop_record; listed = (0, lit< tt, refl); describes = described }), (inr leaf_described, tt)) }

pub entered : IsEntered room_image false (steps_of room_function.prologue) room_caller room_state
unfolding word_at
entered = record { room = lit≤ tt; returns = λ _. refl; leaves = (lit≤ tt, refl, (lit≤ tt, tt)); stack = refl; keeps = keeps }
  where
    keeps : (r : CalleeSaved) → distance r (steps_of room_function.prologue) ≡ None → value_of r room_state ≡ value_of r room_caller
    keeps RBX e = absurd cc
    keeps RBP e = refl
    keeps R12 e = refl
    keeps R13 e = refl
    keeps R14 e = refl
    keeps R15 e = refl

pub caller_fits : IsState room_caller
caller_fits = state_fits room_caller (lit< tt) (lit< tt) (lit< tt) (lit< tt) (lit< tt) (lit< tt) (lit< tt) (lit< tt)

pub computed : GivesState (pe_step room_image module_of_one 0x104f (columns_of room_state)) room_caller
unfolding word_at chain_of operations_of after_epilogs leading_epilogs any_lists parsed_instruction sequence_from from_place end_of_chain run epilog_run lookup_of place_by_halving boundary_of
computed = record { caller = _; answered = refl; shows = record { ra = refl; sp = refl; saved = by_register (λ q. _ ≡ Some (value_of q room_caller)) refl refl refl refl refl refl } }

-- ---- the record that goes on with itself

pub loops : pe_step loop_image module_of_one 0x104f (columns_of loop_state) ≡ Err (InFrame ChainLimit)
unfolding word_at chain_of operations_of after_epilogs leading_epilogs any_lists parsed_instruction sequence_from from_place end_of_chain run epilog_run lookup_of place_by_halving boundary_of
loops = refl

endless : chain_of (memory_of loop_image 0x140000000) 32 (chained_of loop_info) ≡ Err ChainLimit
unfolding chain_of
endless = refl

first_is : (first : Info) → info_in 0x2010 (memory_of loop_image 0x140000000 0x2010) ≡ Ok first → first ≡ loop_info
first_is first e = let h : ◌≡◌ {A = Result Info FrameFault} (Ok loop_info) (Ok first) = e in let same : loop_info ≡ first = cc in sym same

pub describes_nothing : (f : Function) → DescribesRecord loop_image module_of_one loop_record f → ⊥
describes_nothing f d =
    let chained : chain_of (memory_of loop_image 0x140000000) 32 (chained_of loop_info) ≡ Ok d.chained = subst (λ (first : Info). chain_of (memory_of loop_image 0x140000000) 32 (chained_of first) ≡ Ok d.chained) (first_is d.first d.reads) d.chain in
    let bad : ◌≡◌ {A = Result (List Info) FrameFault} (Err ChainLimit) (Ok d.chained) = sym endless ∙ chained in
    absurd cc
