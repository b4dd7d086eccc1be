use Rattle.std.proofs.Common.{◌∙◌, ◌<◌, length, sym, arith}
use Rattle.core_stacks.proofs.PartLines.{size_told}
use Rattle.core_stacks.proofs.parts.has_size.Goals as goal

pub returns-clause-told : goal.returns-clause-told
returns-clause-told g c = λ all tells.
    let some : 0 < c.args.end = omega arith in
    size_told c.has_byte-2.result c.args.end (length (all c.args.path.now)) (sym (c.in_ok-has_byte.ensures.told all tells) ∙ c.if-branch.false) some (c.has_byte-2.ensures.told all tells)
