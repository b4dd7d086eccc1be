use Rattle.std.proofs.Common.{refl, lit<, lit≤}
use Rattle.std.specs.Char.{encode_utf8}
use Rattle.std.specs.Str.{is_utf8, chars}
use Rattle.hex.specs.Hex.{decode_pairs}
use Rattle.serde_json.proofs.OnLiterals.{serde_json_on_literals}
use Rattle.unwind_laws.proofs.PushingValid.{one_valid}
use Rattle.stack_snapshot.specs.Answers.{value_of}
use Rattle.stack_snapshot.specs.Memory.{memory_of}
use Rattle.stack_snapshot.specs.Snapshot.{modules_of, regions_of, whole_numbers}
use Rattle.claim_checks.specs.Claimed.{claimed_of}
use Rattle.claim_checks.specs.Functions.{bodies_of, function_in, functions_of, outermost_of, sites_of, steps_of}
use Rattle.unwind_cli.specs.Checked.{claimed_json}
use Rattle.unwind_cli.proofs.sample.claimed_push_is_described.Goals as goal

pub returns-clause-read : goal.returns-clause-read
unfolding is_utf8 chars encode_utf8 decode_pairs serde_json_on_literals value_of regions_of modules_of whole_numbers memory_of claimed_of functions_of function_in steps_of bodies_of sites_of outermost_of
returns-clause-read c = record { bytes = claimed_json; named = refl; source_is = refl; short = lit≤ tt; reads = refl }

pub returns-clause-described : goal.returns-clause-described
returns-clause-described c = record {
  functions_in = record { each = one_valid.are_functions; ranges = (lit≤ tt, lit< tt, lit≤ tt, tt) };
  described = one_valid.modules.0;
}
