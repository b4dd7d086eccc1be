use Rattle.std.proofs.Common.{◌≡◌, length, map}
use Rattle.frame_rows.specs.Rules.{entry_of}
use Rattle.frame_rows.specs.Left.{registers_left}
use Rattle.unwind_definitions.specs.Caller.{Columns}
use Rattle.unwind_definitions.specs.Expressions.{evaluation}
use Rattle.unwinding_frames.specs.Calling.{rules_applied}
use Rattle.unwinding_frames.proofs.frame.apply_saved.Given as goal

abbrev pub decreases-loop-register : goal.decreases-loop-register
decreases-loop-register g l = length (registers_left l.rules)

-- what is applied by the rules that are left is what was to be applied
abbrev pub invariant-loop-register : goal.invariant-loop-register
invariant-loop-register g l = (old : Columns) → rules_applied (evaluation l.stack) l.stack old l.cfa (map entry_of (registers_left l.rules)) (g.M.Context.RegisterMap.columns l.caller) ≡ rules_applied (evaluation l.stack) l.stack old l.cfa (map entry_of (registers_left l.initial.rules)) (g.M.Context.RegisterMap.columns l.initial.caller)
