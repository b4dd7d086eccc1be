-- A leaf whose body begins after its first instructions: its module is described, and a state was stopped before its body.
use Rattle.std.proofs.Common.{◌≡◌, [], ◌∷◌, Some, refl, arith, inl, inr, lit<, lit≤}
use Rattle.memory_image.specs.Halving.{place_by_halving, boundary_of}
use Rattle.memory_image.specs.Image.{word_at}
use Rattle.unwind_definitions.specs.State.{value_of}
use Rattle.unwind_definitions.specs.Prologue.{Windows}
use Rattle.unwind_definitions.specs.Function.{IsFunction}
use Rattle.unwind_definitions.specs.Stopped.{StandsAfter}
use Rattle.unwind_laws.specs.Columns.{columns_of}
use Rattle.unwind_laws.proofs.Booleans.{pairs_one}
use Rattle.unwind_laws.proofs.RowFacts.{by_register}
use Rattle.pe_unwind_info.specs.FunctionTable.{lookup_of}
use Rattle.format_definitions.specs.PeStep.{pe_step}
use Rattle.format_definitions.specs.PeModules.{DescribesLeaf, DescribesPe}
use Rattle.format_definitions.specs.Modules.{Pe, LiesDescribed, IsDescribedChain}
use Rattle.format_definitions.specs.Process.{FormatsApart, IsProcess}
use Rattle.format_definitions.specs.Stops.{at_leaf, IsDescribedStop}
use Rattle.format_laws.specs.Sample.{pe_modules}
use Rattle.format_laws.specs.PeSamples.{module_of_one, room_image, loop_record, leaf_state, room_caller, table_bytes}
use Rattle.format_laws.specs.PeUndone.{GivesState}
use Rattle.format_laws.proofs.Valid.{laid_out}
use Rattle.format_laws.proofs.PeRoom.{leaf_entered, caller_fits}
use Rattle.format_samples.proofs.Outside.{ends_outside}
use Rattle.format_samples.specs.StopSamples.{waiting_leaf, leaf_call}

pub is_process : IsProcess room_image pe_modules
is_process = record { regions = laid_out; ranges = ((lit< tt, lit< tt), tt); apart = pairs_one FormatsApart (Pe module_of_one) }

is_function : IsFunction Windows waiting_leaf
is_function = record {
  prologue = record { ends = (0, [], refl, tt); each = tt; once = λ i j d lt below. absurd (omega arith) };
  has_body = λ e. absurd cc;
  bodies = (lit≤ tt, lit< tt, lit≤ tt, tt);
  sites = tt;
  outermost = λ e. absurd cc;
}

leaf_described : DescribesLeaf module_of_one (loop_record ∷ []) waiting_leaf
leaf_described = record { inside = (lit≤ tt, lit≤ tt); apart = (inl (lit≤ tt), tt); no_steps = refl; plain = record { not_outermost = refl; no_sites = refl } }

unfoldable module_described : DescribesPe room_image module_of_one (waiting_leaf ∷ [])
module_described = record { bytes = table_bytes 0x00 0x11; mapped = refl; table = loop_record ∷ []; reads = refl; ordered = (lit≤ tt, lit< tt, lit≤ tt, tt); each = (inr leaf_described, tt) }

pub leaf : (d : DescribesPe room_image module_of_one (waiting_leaf ∷ [])) × DescribesLeaf module_of_one d.table waiting_leaf
unfolding module_described
leaf = (module_described, leaf_described)

lies : LiesDescribed room_image pe_modules (waiting_leaf ∷ []) waiting_leaf
lies = record { home = Pe module_of_one; known = (0, lit< tt, refl); inside = refl; is_function = is_function; describes = module_described }

stands : StandsAfter room_image waiting_leaf [] [] room_caller leaf_state
stands = record { steps = refl; entered = leaf_entered; intact = λ r h. by_register (λ q. value_of q leaf_state ≡ value_of q room_caller) refl refl refl refl refl refl r; after = lit≤ tt; below = lit< tt }

pub stop : IsDescribedStop room_image pe_modules (waiting_leaf ∷ []) leaf_state leaf_call
unfolding lies module_described
stop = record {
  inner = refl;
  listed = (0, lit< tt, refl);
  lies = lies;
  returns = λ e. absurd cc;
  stands = at_leaf leaf_described (record { done = []; later = []; stands = stands });
  caller = caller_fits;
}

pub nobody_above : IsDescribedChain room_image pe_modules (waiting_leaf ∷ []) room_caller []
nobody_above = ends_outside room_image (waiting_leaf ∷ []) room_caller caller_fits (λ e. absurd cc) refl

pub computed : GivesState (pe_step room_image module_of_one 0x1104 (columns_of leaf_state)) room_caller
unfolding word_at lookup_of place_by_halving boundary_of
computed = record { caller = _; answered = refl; shows = record { ra = refl; sp = refl; saved = by_register (λ q. _ ≡ Some (value_of q room_caller)) refl refl refl refl refl refl } }
