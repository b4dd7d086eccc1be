use Rattle.std.proofs.Common.{refl, lit≤}
use Rattle.std.specs.Char.{encode_utf8}
use Rattle.std.specs.Fmt.{digits}
use Rattle.std.specs.Str.{is_utf8, chars}
use Rattle.hex.specs.Hex.{decode_pairs}
use Rattle.serde_json.proofs.OnLiterals.{serde_json_on_literals}
use Rattle.frame_facts_laws.proofs.SampleChains.{claims_said}
use Rattle.stack_snapshot.specs.Answers.{value_of}
use Rattle.stack_snapshot.specs.Memory.{memory_of}
use Rattle.stack_snapshot.specs.Snapshot.{modules_of, regions_of, whole_numbers}
use Rattle.fact_claims.specs.Claims.{claim_in, claims_in, outermost_in, register_at, registers_in}
use Rattle.fact_claims.specs.Code.{code_of}
use Rattle.unwind_cli.specs.AuditedSample.{json}
use Rattle.unwind_cli.proofs.sample.claimed_code_is_said.Goals as goal

pub returns-clause-read : goal.returns-clause-read
unfolding is_utf8 chars encode_utf8 decode_pairs serde_json_on_literals value_of regions_of modules_of whole_numbers memory_of code_of claims_in claim_in registers_in register_at outermost_in
returns-clause-read c = record { bytes = json; named = refl; source_is = refl; short = lit≤ tt; reads = refl }

pub returns-clause-taken : goal.returns-clause-taken
returns-clause-taken c = refl

pub returns-clause-said : goal.returns-clause-said
returns-clause-said c = claims_said

pub returns-clause-written : goal.returns-clause-written
unfolding digits
returns-clause-written c = refl
