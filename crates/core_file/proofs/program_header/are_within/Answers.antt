use Rattle.std.proofs.Common.{◌∙◌, length, sym}
use Rattle.core_file.specs.ProgramHeaders.{is_within}
use Rattle.core_file.proofs.ListLemmas.{all_pass, all_fail}
use Rattle.core_file.proofs.program_header.are_within.Goals as goal

pub returns-then-not-is_within : goal.returns-then-not-is_within
returns-then-not-is_within c =
    sym (all_fail (is_within (length c.args.bytes.now)) c.args.headers.now c.loop-i.i c.at.result c.at.ensures (sym c.if-not-is_within.ensures)) ∙ c.loop-i.invariant

pub loop-i-preserved : goal.loop-i-preserved
loop-i-preserved c =
    sym (all_pass (is_within (length c.args.bytes.now)) c.args.headers.now c.loop-i.i c.at.result c.at.ensures (sym c.if-not-is_within.ensures)) ∙ c.loop-i.invariant
