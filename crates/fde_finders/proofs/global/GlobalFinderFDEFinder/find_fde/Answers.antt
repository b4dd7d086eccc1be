use Rattle.std.proofs.Common.{Some}
use Rattle.std.specs.Option.{option_map}
use Rattle.fde_finders.specs.FoundViews.{found_fde_of}
use Rattle.fde_finders.specs.InTurn.{OrElse}
use Rattle.fde_finders.specs.Globally.{FindsCustom, FindsInRegistry, FindsInObjects}
use Rattle.fde_finders.proofs.InTurn.{first_answers, later_answers}
use Rattle.fde_finders.proofs.global.GlobalFinderFDEFinder.find_fde.Goals as goal

pub returns-in-Some : goal.returns-in-Some
returns-in-Some g c =
    let a = c.in-Some.ensures in
    record { found = first_answers (FindsCustom g.E.EhFrameFinder.names c.args.self.now.custom c.args.image.now c.args.pc) (OrElse (FindsInRegistry c.args.self.now.registry c.args.image.now c.args.pc) (FindsInObjects c.args.self.now.gnu c.args.self.now.phdr c.args.self.now.fixed c.args.image.now c.args.pc)) c.args.steps.now.number c.ask.new.steps.number a.0 (found_fde_of c.in-Some.found) a.1 a.2 }

pub returns-in-Some-ask : goal.returns-in-Some-ask
returns-in-Some-ask g c =
    let a = c.in_default.ensures in
    let b = c.in-Some-ask.ensures in
    let l = first_answers (FindsInRegistry c.args.self.now.registry c.args.image.now c.args.pc) (FindsInObjects c.args.self.now.gnu c.args.self.now.phdr c.args.self.now.fixed c.args.image.now c.args.pc) c.ask.new.steps.number c.ask-2.new.steps.number b.0 (found_fde_of c.in-Some-ask.found) b.1 b.2 in
    record { found = later_answers (FindsCustom g.E.EhFrameFinder.names c.args.self.now.custom c.args.image.now c.args.pc) (OrElse (FindsInRegistry c.args.self.now.registry c.args.image.now c.args.pc) (FindsInObjects c.args.self.now.gnu c.args.self.now.phdr c.args.self.now.fixed c.args.image.now c.args.pc)) c.args.steps.now.number c.ask.new.steps.number c.ask-2.new.steps.number a.0 l.0 (Some (found_fde_of c.in-Some-ask.found)) a.1 l.1 a.2 l.2 }

pub returns : goal.returns
returns g c =
    let a = c.in_default.ensures in
    let b = c.in_default-ask.ensures in
    let d = c.find_in_objects.ensures in
    let l = later_answers (FindsInRegistry c.args.self.now.registry c.args.image.now c.args.pc) (FindsInObjects c.args.self.now.gnu c.args.self.now.phdr c.args.self.now.fixed c.args.image.now c.args.pc) c.ask.new.steps.number c.ask-2.new.steps.number c.find_in_objects.new.steps.number b.0 d.0 (option_map found_fde_of c.find_in_objects.result) b.1 d.1 b.2 d.2 in
    record { found = later_answers (FindsCustom g.E.EhFrameFinder.names c.args.self.now.custom c.args.image.now c.args.pc) (OrElse (FindsInRegistry c.args.self.now.registry c.args.image.now c.args.pc) (FindsInObjects c.args.self.now.gnu c.args.self.now.phdr c.args.self.now.fixed c.args.image.now c.args.pc)) c.args.steps.now.number c.ask.new.steps.number c.find_in_objects.new.steps.number a.0 l.0 (option_map found_fde_of c.find_in_objects.result) a.1 l.1 a.2 l.2 }
