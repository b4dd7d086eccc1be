use Rattle.std.proofs.Common.{◌≡◌, ℕ, true, sym, subst}
use Rattle.stack_steps.specs.declared.space.ModuleEntry.{ModuleEntry}
use Rattle.stack_steps.specs.Modules.{SpaceValue, contains, module_of, modules_in}
use Rattle.stack_steps.specs.Preparing.{HoldsAt}
use Rattle.stack_steps.proofs.Apart.{contains_in, found_module, last_is, passed_module, no_module}
use Rattle.stack_steps.proofs.PreparingAt.{held_at}
use Rattle.stack_steps.proofs.space.Space.place_at.Goals as goal

pub returns-then-address-module_entry-clause-holds : goal.returns-then-address-module_entry-clause-holds
returns-then-address-module_entry-clause-holds c =
    let e : ℕ × ModuleEntry = (c.in-Some.field-0-0, c.in-Some.module_entry) in
    let es = c.self.inside.modules.entries in
    let last = last_is (modules_in es) 0 c.args.address (module_of e) c.self.invariant.apart (sym c.in-Some.ensures.last) in
    let inside : contains (module_of e) c.args.address ≡ true = contains_in (module_of e) c.args.address last.below c.if-address-module_entry.true in
    let found = sym (found_module (modules_in es) c.args.address (module_of e) c.self.invariant.apart c.in-Some.ensures.last c.if-address-module_entry.true) in
    subst (λ (v : SpaceValue). HoldsAt v c.args.address e.1.place) c.self.view_is
    (held_at c.self.inside.image es c.self.inside.added.items c.self.inside.left c.args.address e c.self.invariant c.in-Some.ensures.stands inside found)

pub returns-else-address-module_entry-clause-none : goal.returns-else-address-module_entry-clause-none
returns-else-address-module_entry-clause-none c e =
    let entry : ℕ × ModuleEntry = (c.in-Some.field-0-0, c.in-Some.module_entry) in
    rw (← c.self.view_is) (sym (passed_module (modules_in c.self.inside.modules.entries) c.args.address (module_of entry) c.self.invariant.apart c.in-Some.ensures.last c.if-address-module_entry.false))

pub returns-in-None-clause-none : goal.returns-in-None-clause-none
returns-in-None-clause-none c e = rw (← c.self.view_is) (sym (no_module (modules_in c.self.inside.modules.entries) c.args.address c.self.invariant.apart c.in-None.ensures.last))
