use Rattle.std.proofs.Common.{map}
use Rattle.mapped_modules.specs.Loading.{loaded_value}
use Rattle.core_stacks.proofs.Sufficing.{large_suffice}
use Rattle.core_stacks.proofs.parts.lines_by_modules.Goals as goal

pub returns-in-None-clause-walked : goal.returns-in-None-clause-walked
returns-in-None-clause-walked g c = λ all tells.
    let can = c.in_ok-has_walkable_parts.ensures.0 c.if-not-branch.false in
    let small = rw c.in-None.is at (c.in_ok-lines.ensures.walked all tells) in
    large_suffice c.args.names (all c.args.path.now) c.args.front.now (map loaded_value c.args.loaded.now) c.lines_by_windows-in-None.result can small (c.lines_by_windows-in-None.ensures.walked all tells)
