use Rattle.std.proofs.Common.{◌≡◌, ℕ, true, Option, Some, sym, ap, ◌∙◌, arith}
use Rattle.unwind_laws.proofs.Booleans.{all_contains}
use Rattle.stack_steps.specs.declared.space.ModuleEntry.{ModuleEntry}
use Rattle.stack_steps.specs.declared.space.Module.{Module}
use Rattle.stack_steps.specs.AddedModule.{IsAddedModule, StandsAt}
use Rattle.stack_steps.specs.Modules.{contains, module_of, modules_in}
use Rattle.stack_steps.proofs.Apart.{contains_in, found_module, last_is, passed_module, no_module}
use Rattle.stack_steps.proofs.Holding.{all_there, found_index, holder_there, no_index, place_within}
use Rattle.stack_steps.proofs.space.Space.added_far.Goals as goal

abbrev some_module : Module → Option Module
some_module m = Some m

pub index-requires : goal.index-requires
index-requires c =
    let e : ℕ × ModuleEntry = (c.in-Some.field-0-0, c.in-Some.module_entry) in
    let hs = c.self.inside.added.items in
    let stands = all_contains (StandsAt hs) c.self.inside.modules.entries e c.self.invariant.stand c.in-Some.ensures.stands in
    let within = place_within hs e.1.place (module_of e) stands in
    let len = c.self.inside.added.ok.0 in
    omega arith

pub returns-then-address-module_entry-clause-module : goal.returns-then-address-module_entry-clause-module
returns-then-address-module_entry-clause-module c =
    let e : ℕ × ModuleEntry = (c.in-Some.field-0-0, c.in-Some.module_entry) in
    let es = c.self.inside.modules.entries in
    let hs = c.self.inside.added.items in
    let stands = all_contains (StandsAt hs) es e c.self.invariant.stand c.in-Some.ensures.stands in
    rw (← c.self.view_is) (ap some_module (holder_there hs e.1.place (module_of e) c.index.result.now stands c.index.ensures) ∙ found_module (modules_in es) c.args.address (module_of e) c.self.invariant.apart c.in-Some.ensures.last c.if-address-module_entry.true)

pub returns-then-address-module_entry-clause-index : goal.returns-then-address-module_entry-clause-index
returns-then-address-module_entry-clause-index c =
    let e : ℕ × ModuleEntry = (c.in-Some.field-0-0, c.in-Some.module_entry) in
    let es = c.self.inside.modules.entries in
    let hs = c.self.inside.added.items in
    let stands = all_contains (StandsAt hs) es e c.self.invariant.stand c.in-Some.ensures.stands in
    let last = last_is (modules_in es) 0 c.args.address (module_of e) c.self.invariant.apart (sym c.in-Some.ensures.last) in
    let in_e : contains (module_of e) c.args.address ≡ true = contains_in (module_of e) c.args.address last.below c.if-address-module_entry.true in
    rw (← c.self.view_is) (found_index es hs c.args.address e c.index.result.now c.self.invariant.apart c.self.invariant.back c.in-Some.ensures.stands in_e stands c.index.ensures)

pub returns-then-address-module_entry-clause-table : goal.returns-then-address-module_entry-clause-table
returns-then-address-module_entry-clause-table c =
    let e : ℕ × ModuleEntry = (c.in-Some.field-0-0, c.in-Some.module_entry) in
    let es = c.self.inside.modules.entries in
    let hs = c.self.inside.added.items in
    let stands = all_contains (StandsAt hs) es e c.self.invariant.stand c.in-Some.ensures.stands in
    rw (← c.self.view_is) (all_there (IsAddedModule c.self.inside.image) hs e.1.place c.index.result.now c.self.invariant.are_held (place_within hs e.1.place (module_of e) stands) c.index.ensures)

pub returns-then-address-module_entry-clause-within : goal.returns-then-address-module_entry-clause-within
returns-then-address-module_entry-clause-within c =
    let e : ℕ × ModuleEntry = (c.in-Some.field-0-0, c.in-Some.module_entry) in
    let es = c.self.inside.modules.entries in
    let hs = c.self.inside.added.items in
    let stands = all_contains (StandsAt hs) es e c.self.invariant.stand c.in-Some.ensures.stands in
    let last = last_is (modules_in es) 0 c.args.address (module_of e) c.self.invariant.apart (sym c.in-Some.ensures.last) in
    rw (holder_there hs e.1.place (module_of e) c.index.result.now stands c.index.ensures) (last.below, c.if-address-module_entry.true)

pub returns-else-address-module_entry-clause-module : goal.returns-else-address-module_entry-clause-module
returns-else-address-module_entry-clause-module c =
    let e : ℕ × ModuleEntry = (c.in-Some.field-0-0, c.in-Some.module_entry) in
    rw (← c.self.view_is) (passed_module (modules_in c.self.inside.modules.entries) c.args.address (module_of e) c.self.invariant.apart c.in-Some.ensures.last c.if-address-module_entry.false)

pub returns-else-address-module_entry-clause-index : goal.returns-else-address-module_entry-clause-index
returns-else-address-module_entry-clause-index c =
    let e : ℕ × ModuleEntry = (c.in-Some.field-0-0, c.in-Some.module_entry) in
    let es = c.self.inside.modules.entries in
    rw (← c.self.view_is) (no_index es c.self.inside.added.items c.args.address c.self.invariant.back (sym (passed_module (modules_in es) c.args.address (module_of e) c.self.invariant.apart c.in-Some.ensures.last c.if-address-module_entry.false)))

pub returns-in-None-clause-module : goal.returns-in-None-clause-module
returns-in-None-clause-module c = rw (← c.self.view_is) (no_module (modules_in c.self.inside.modules.entries) c.args.address c.self.invariant.apart c.in-None.ensures.last)

pub returns-in-None-clause-index : goal.returns-in-None-clause-index
returns-in-None-clause-index c =
    let es = c.self.inside.modules.entries in
    rw (← c.self.view_is) (no_index es c.self.inside.added.items c.args.address c.self.invariant.back (sym (no_module (modules_in es) c.args.address c.self.invariant.apart c.in-None.ensures.last)))
