use Rattle.std.proofs.Common.{◌≡◌, ◌≤◌, length, map, sym, ap, arith}
use Rattle.frame_rows.specs.Rules.{entry_of}
use Rattle.frame_rows.specs.declared.rule.RegisterRule.TheVariants as rules
use Rattle.frame_rows.proofs.RuleLists.{found_by, placed_by}
use Rattle.frame_rows.proofs.rules.RegisterRules.get.Goals as goal

pub offset_bounds-deref-i : goal.offset_bounds-deref-i
offset_bounds-deref-i c =
    let f = found_by c.args.register c.self.inside.entries.items c.in-Ok.i c.self.invariant c.args.self.now c.find.result c.self.view_is c.find.ensures c.in-Ok.is in
    let fits : length c.deref.result.now ≤ 32 = c.deref.ensures.1 in
    omega (arith, f.within, ap length c.deref.ensures.0)

pub bounds-deref-i : goal.bounds-deref-i
bounds-deref-i c =
    let f = found_by c.args.register c.self.inside.entries.items c.in-Ok.i c.self.invariant c.args.self.now c.find.result c.self.view_is c.find.ensures c.in-Ok.is in
    omega (arith, f.within, ap length c.deref.ensures.0)

pub returns-in-Ok : goal.returns-in-Ok
returns-in-Ok c =
    let f = found_by c.args.register c.self.inside.entries.items c.in-Ok.i c.self.invariant c.args.self.now c.find.result c.self.view_is c.find.ensures c.in-Ok.is in
    let same : c.args.self.now ≡ map entry_of c.self.inside.entries.items = sym c.self.view_is in
    rw (c.deref.ensures.0, same) (sym (f.at (record { 0 = 0 }, rules.Undefined)))

pub returns-in-Err : goal.returns-in-Err
returns-in-Err c =
    let p = placed_by c.args.register c.self.inside.entries.items c.in-Err.field-0 c.self.invariant c.args.self.now c.find.result c.self.view_is c.find.ensures c.in-Err.is in
    let same : c.args.self.now ≡ map entry_of c.self.inside.entries.items = sym c.self.view_is in
    rw same (sym p.none)
