use Rattle.std.proofs.Common.{◌≡◌, Ok, sym, ap, ◌∙◌}
use Rattle.unwind_definitions.specs.Row.{CfaRule}
use Rattle.unwind_definitions.specs.Caller.{cfa_value}
use Rattle.unwind_definitions.specs.Expressions.{evaluation}
use Rattle.unwinding_frames.specs.Calling.{machine_of}
use Rattle.unwinding_frames.proofs.Callers.{row_caller}
use Rattle.unwinding_frames.proofs.frame.write_caller.Goals as goal

pub returns : goal.returns
returns g c = record {
  caller = λ run is.
      let columns = g.M.Context.RegisterMap.columns in
      let old = c.args.context.now in
      let row = c.args.row.now in
      let gives : cfa_value (evaluation c.args.stack.now) (columns old) row.cfa ≡ Ok c.in_ok-cfa.cfa =
      rw (sym c.image.ensures) (ap (λ (r : CfaRule). cfa_value (evaluation c.image.result.now) (columns old) r) (sym c.cfa.ensures) ∙ sym c.in_ok-cfa.ensures) in
      c.apply.ensures ∙ rw (c.registers.ensures.rules, c.begin.ensures, c.requires)
      (row_caller (machine_of g.M.Machine.SP.0 g.M.Machine.RA.0) (evaluation c.args.stack.now) c.args.stack.now (columns old) c.in_ok-cfa.cfa run row.cfa row.rules
      (g.met.M.Machine.has_sp old) (g.met.M.Machine.has_ra old) is.cfa gives c.registers.ensures.ascending is.rules);
}
