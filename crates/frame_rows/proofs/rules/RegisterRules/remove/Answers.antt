use Rattle.std.proofs.Common.{◌≡◌, None, map, sym, subst, arith}
use Rattle.frame_rows.specs.Rules.{entry_of, rule_in, with_rule, AscendsFrom}
use Rattle.frame_rows.proofs.RuleLists.{found_by, placed_by, already_none}
use Rattle.frame_rows.proofs.rules.RegisterRules.remove.Goals as goal

pub remove-requires : goal.remove-requires
remove-requires c =
    let f = found_by c.args.register c.self.inside.entries.items c.in-Ok.i c.self.invariant c.args.self.now c.find.result c.self.view_is c.find.ensures c.in-Ok.is in
    (omega arith, f.within)

pub invariant_of-self : goal.invariant_of-self
invariant_of-self c =
    let f = found_by c.args.register c.self.inside.entries.items c.in-Ok.i c.self.invariant c.args.self.now c.find.result c.self.view_is c.find.ensures c.in-Ok.is in
    subst (λ l. AscendsFrom 0 (map entry_of l)) (sym c.remove.ensures.items) f.removed_ascends

pub returns-in-Ok : goal.returns-in-Ok
returns-in-Ok c q =
    let f = found_by c.args.register c.self.inside.entries.items c.in-Ok.i c.self.invariant c.args.self.now c.find.result c.self.view_is c.find.ensures c.in-Ok.is in
    let same : c.args.self.now ≡ map entry_of c.self.inside.entries.items = sym c.self.view_is in
    subst (λ l. rule_in (map entry_of l) q ≡ with_rule c.args.register.0 None c.args.self.now q) (sym c.remove.ensures.items) (rw same (f.removed_says q))

pub returns-in-Err : goal.returns-in-Err
returns-in-Err c q =
    let p = placed_by c.args.register c.self.inside.entries.items c.in-Err.field-0 c.self.invariant c.args.self.now c.find.result c.self.view_is c.find.ensures c.in-Err.is in
    let same : c.args.self.now ≡ map entry_of c.self.inside.entries.items = sym c.self.view_is in
    rw same (already_none c.args.register.0 q (map entry_of c.self.inside.entries.items) p.none)
