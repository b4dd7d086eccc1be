use Rattle.std.proofs.Common.{◌≡◌, map}
use Rattle.frame_rows.specs.Rules.{entry_of}
use Rattle.frame_rows.specs.Left.{registers_left}
use Rattle.unwind_definitions.specs.Expressions.{evaluation}
use Rattle.unwinding_frames.specs.Calling.{rules_applied}
use Rattle.unwinding_frames.proofs.frame.apply_rest.Given as goal

abbrev pub invariant-loop-register : goal.invariant-loop-register
invariant-loop-register g l = rules_applied (evaluation l.image) l.image (g.M.Context.RegisterMap.columns l.context) l.cfa (map entry_of (registers_left l.register-iterator)) (g.M.Context.RegisterMap.columns l.caller) ≡ rules_applied (evaluation l.image) l.image (g.M.Context.RegisterMap.columns l.context) l.cfa (map entry_of (registers_left l.fn.rules)) (g.M.Context.RegisterMap.columns l.fn.caller)
