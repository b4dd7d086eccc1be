use Rattle.std.proofs.Common.{◌≡◌, ◌≤◌, Some, length, map, sym, ap, subst, ◌∙◌, arith}
use Rattle.std.proofs.lemmas.Bool.{eqb-true}
use Rattle.std.proofs.lemmas.List.{length-map}
use Rattle.frame_rows.specs.Rules.{entry_of, rule_in, rule_meaning, with_rule, AscendsFrom}
use Rattle.frame_rows.proofs.RuleLists.{found_by, placed_by, has_room, no_room, more_fit, written}
use Rattle.frame_rows.proofs.Shifted.{shifted, written_back}
use Rattle.frame_rows.proofs.rules.RegisterRules.set.Goals as goal

pub offset_bounds-deref_mut-i : goal.offset_bounds-deref_mut-i
offset_bounds-deref_mut-i c =
    let f = found_by c.args.register c.self.inside.entries.items c.in-Ok.i c.self.invariant c.args.self.now c.find.result c.self.view_is c.find.ensures c.in-Ok.is in
    let fits : length c.deref_mut.result.now ≤ 32 = c.deref_mut.ensures.fits in
    omega (arith, f.within, ap length c.deref_mut.ensures.value)

pub bounds-deref_mut-i : goal.bounds-deref_mut-i
bounds-deref_mut-i c =
    let f = found_by c.args.register c.self.inside.entries.items c.in-Ok.i c.self.invariant c.args.self.now c.find.result c.self.view_is c.find.ensures c.in-Ok.is in
    omega (arith, f.within, ap length c.deref_mut.ensures.value)

pub invariant_of-self : goal.invariant_of-self
invariant_of-self c =
    let f = found_by c.args.register c.self.inside.entries.items c.in-Ok.i c.self.invariant c.args.self.now c.find.result c.self.view_is c.find.ensures c.in-Ok.is in
    let after = written c.self.inside.entries.items c.deref_mut.result.now c.in-Ok.i (c.args.register, c.args.rule) c.deref_mut.ensures.value in
    subst (λ l. AscendsFrom 0 (map entry_of l)) (sym after) (f.set_ascends c.args.rule)

pub returns-in-Ok-clause-ok : goal.returns-in-Ok-clause-ok
returns-in-Ok-clause-ok c q =
    let f = found_by c.args.register c.self.inside.entries.items c.in-Ok.i c.self.invariant c.args.self.now c.find.result c.self.view_is c.find.ensures c.in-Ok.is in
    let same : c.args.self.now ≡ map entry_of c.self.inside.entries.items = sym c.self.view_is in
    let after = written c.self.inside.entries.items c.deref_mut.result.now c.in-Ok.i (c.args.register, c.args.rule) c.deref_mut.ensures.value in
    subst (λ l. rule_in (map entry_of l) q ≡ with_rule c.args.register.0 (Some (rule_meaning c.args.rule)) c.args.self.now q) (sym after) (rw same (f.set_says c.args.rule q))

pub returns-in-Ok-clause-room : goal.returns-in-Ok-clause-room
returns-in-Ok-clause-room c =
    let f = found_by c.args.register c.self.inside.entries.items c.in-Ok.i c.self.invariant c.args.self.now c.find.result c.self.view_is c.find.ensures c.in-Ok.is in
    let same : c.args.self.now ≡ map entry_of c.self.inside.entries.items = sym c.self.view_is in
    rw same (has_room c.args.register.0 (map entry_of c.self.inside.entries.items) f.has)

pub returns-then-is_full-clause-full : goal.returns-then-is_full-clause-full
returns-then-is_full-clause-full c =
    let p = placed_by c.args.register c.self.inside.entries.items c.in-Err.i c.self.invariant c.args.self.now c.find.result c.self.view_is c.find.ensures c.in-Err.is in
    let same : c.args.self.now ≡ map entry_of c.self.inside.entries.items = sym c.self.view_is in
    let full : length c.self.inside.entries.items ≡ 32 = eqb-true (length c.self.inside.entries.items) 32 (sym c.is_full.ensures.value ∙ c.if-is_full.true) in
    rw same (no_room c.args.register.0 (map entry_of c.self.inside.entries.items) p.none (length-map c.self.inside.entries.items entry_of ∙ full))

pub shift_in-last-requires : goal.shift_in-last-requires
shift_in-last-requires c =
    let p = placed_by c.args.register c.self.inside.entries.items c.in-Err.i c.self.invariant c.args.self.now c.find.result c.self.view_is c.find.ensures c.in-Err.is in
    omega (arith, p.within, ap length c.as_mut_slice.ensures.value)

pub push-requires : goal.push-requires
push-requires c =
    let fits : length c.self.inside.entries.items ≤ 32 = c.is_full.ensures.fits in
    let fewer = more_fit (length c.self.inside.entries.items) (sym c.is_full.ensures.value ∙ c.if-is_full.false) fits in
    let long = ap length (written_back c.self.inside.entries.items c.as_mut_slice.result.now c.shift_in-last.new.entries c.as_mut_slice.ensures.value c.shift_in-last.auto.entries) in
    let same = ap length c.as_mut_slice.ensures.value in
    let kept = c.shift_in-last.auto.entries in
    (omega arith, omega (arith, fewer))

pub invariant_of-self-in-Err : goal.invariant_of-self-in-Err
invariant_of-self-in-Err c =
    let p = placed_by c.args.register c.self.inside.entries.items c.in-Err.i c.self.invariant c.args.self.now c.find.result c.self.view_is c.find.ensures c.in-Err.is in
    let after = c.push.ensures.items ∙ shifted c.self.inside.entries.items c.as_mut_slice.result.now c.shift_in-last.new.entries c.as_mut_slice.ensures.value c.shift_in-last.auto.entries c.in-Err.i (c.args.register, c.args.rule) c.shift_in-last.result c.shift_in-last.ensures in
    subst (λ l. AscendsFrom 0 (map entry_of l)) (sym after) (p.ascends c.args.rule (omega arith))

pub returns-else-is_full-clause-ok : goal.returns-else-is_full-clause-ok
returns-else-is_full-clause-ok c q =
    let p = placed_by c.args.register c.self.inside.entries.items c.in-Err.i c.self.invariant c.args.self.now c.find.result c.self.view_is c.find.ensures c.in-Err.is in
    let same : c.args.self.now ≡ map entry_of c.self.inside.entries.items = sym c.self.view_is in
    let after = c.push.ensures.items ∙ shifted c.self.inside.entries.items c.as_mut_slice.result.now c.shift_in-last.new.entries c.as_mut_slice.ensures.value c.shift_in-last.auto.entries c.in-Err.i (c.args.register, c.args.rule) c.shift_in-last.result c.shift_in-last.ensures in
    subst (λ l. rule_in (map entry_of l) q ≡ with_rule c.args.register.0 (Some (rule_meaning c.args.rule)) c.args.self.now q) (sym after) (rw same (p.says c.args.rule q))
