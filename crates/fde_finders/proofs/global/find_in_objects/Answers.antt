use Rattle.std.proofs.Common.{Some}
use Rattle.std.specs.Option.{option_map}
use Rattle.fde_finders.specs.FoundViews.{found_fde_of}
use Rattle.fde_finders.specs.InTurn.{OrElse}
use Rattle.fde_finders.specs.Globally.{FindsByGnuHeader, FindsByPhdrs, FindsFixed}
use Rattle.fde_finders.proofs.InTurn.{first_answers, later_answers}
use Rattle.fde_finders.proofs.global.find_in_objects.Goals as goal

pub returns-in-Some : goal.returns-in-Some
returns-in-Some g c =
    let a = c.in-Some.ensures in
    first_answers (FindsByGnuHeader c.args.gnu.now c.args.image.now c.args.pc) (OrElse (FindsByPhdrs c.args.phdr.now c.args.image.now c.args.pc) (FindsFixed c.args.fixed.now c.args.image.now c.args.pc)) c.args.steps.now.number c.ask.new.steps.number a.0 (found_fde_of c.in-Some.found) a.1 a.2

pub returns-in-Some-ask : goal.returns-in-Some-ask
returns-in-Some-ask g c =
    let a = c.in_default.ensures in
    let b = c.in-Some-ask.ensures in
    let l = first_answers (FindsByPhdrs c.args.phdr.now c.args.image.now c.args.pc) (FindsFixed c.args.fixed.now c.args.image.now c.args.pc) c.ask.new.steps.number c.ask-2.new.steps.number b.0 (found_fde_of c.in-Some-ask.found) b.1 b.2 in
    later_answers (FindsByGnuHeader c.args.gnu.now c.args.image.now c.args.pc) (OrElse (FindsByPhdrs c.args.phdr.now c.args.image.now c.args.pc) (FindsFixed c.args.fixed.now c.args.image.now c.args.pc)) c.args.steps.now.number c.ask.new.steps.number c.ask-2.new.steps.number a.0 l.0 (Some (found_fde_of c.in-Some-ask.found)) a.1 l.1 a.2 l.2

pub returns : goal.returns
returns g c =
    let a = c.in_default.ensures in
    let b = c.in_default-ask.ensures in
    let d = c.ask-3.ensures in
    let l = later_answers (FindsByPhdrs c.args.phdr.now c.args.image.now c.args.pc) (FindsFixed c.args.fixed.now c.args.image.now c.args.pc) c.ask.new.steps.number c.ask-2.new.steps.number c.ask-3.new.steps.number b.0 d.0 (option_map found_fde_of c.ask-3.result) b.1 d.1 b.2 d.2 in
    later_answers (FindsByGnuHeader c.args.gnu.now c.args.image.now c.args.pc) (OrElse (FindsByPhdrs c.args.phdr.now c.args.image.now c.args.pc) (FindsFixed c.args.fixed.now c.args.image.now c.args.pc)) c.args.steps.now.number c.ask.new.steps.number c.ask-3.new.steps.number a.0 l.0 (option_map found_fde_of c.ask-3.result) a.1 l.1 a.2 l.2
