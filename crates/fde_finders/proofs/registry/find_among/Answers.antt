use Rattle.std.proofs.Common.{◌≡◌, ℕ, ◌<◌, length, arith, refl, subst, Some}
use Rattle.fde_finders.specs.FoundViews.{found_fde_of}
use Rattle.fde_finders.specs.InTurn.{FindsAmong}
use Rattle.fde_finders.specs.Registered.{FindsRegistered}
use Rattle.fde_finders.proofs.InTurn.{found}
use Rattle.fde_finders.proofs.registry.find_among.Goals as goal

pub returns-in-Some : goal.returns-in-Some
returns-in-Some c =
    let lt : c.loop-i.i < length c.args.objects.now.items = omega arith in
    let r = found (FindsRegistered c.args.image.now c.args.pc) c.args.objects.now.items c.loop-i.i 0 0 0 0 c.index.result.now (found_fde_of c.in-Some.found) c.loop-i.invariant lt c.index.ensures (c.in-Some.ensures, refl) refl in
    let none : r.0 ≡ 0 = (let sum = r.1 in omega arith) in
    subst (λ (n : ℕ). FindsAmong (FindsRegistered c.args.image.now c.args.pc) c.args.objects.now.items (Some (found_fde_of c.in-Some.found)) n) none r.2
