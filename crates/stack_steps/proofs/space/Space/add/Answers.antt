use Rattle.std.proofs.Common.{◌≡◌, ◌++◌, ◌∷◌, [], List, None, map, refl, sym, ap, subst, ◌∙◌, arith}
use Rattle.std.proofs.lemmas.List.{map-append}
use Rattle.memory_image.specs.Image.{Span}
use Rattle.stack_steps.specs.declared.space.ModuleEntry.{ModuleEntry}
use Rattle.stack_steps.specs.declared.space.AddedModule.{AddedModule}
use Rattle.stack_steps.specs.declared.space.Module.{Module}
use Rattle.stack_steps.specs.AddedModule.{IsSpace, added_of}
use Rattle.stack_steps.specs.Modules.{Added, SpaceValue, modules_in, with_module}
use Rattle.stack_steps.proofs.Apart.{module_inserted}
use Rattle.stack_steps.proofs.Making.{space_pushed}
use Rattle.stack_steps.proofs.space.Space.add.Goals as goal

abbrev beside : List Span → List Module → List Added → SpaceValue
beside image modules added = record { image = image; modules = modules; added = added }

pub invariant_of-self-in-Ok : goal.invariant_of-self-in-Ok
invariant_of-self-in-Ok c =
    let es = c.self.inside.modules.entries in
    let hs = c.self.inside.added.items in
    let m : Module = record { start = c.args.start; end = c.args.end; tables = c.args.tables } in
    let x : ModuleEntry = record { end = c.args.end; tables = c.args.tables; place = c.len-place.result } in
    let h : AddedModule = record { holder = m; table = None } in
    let inserted = module_inserted es c.insert.new.self.entries c.args.start x c.lowest_shared.result c.self.invariant.apart c.if-end-start.false (omega arith) c.lowest_shared.ensures c.in_default.is c.in-Ok.ensures.entries in
    let place = c.len-place.ensures in
    let kept = c.reserve.ensures.len in
    let len = c.self.inside.added.ok.0 in
    let items : c.push_reserved.new.self.items ≡ hs ++ h ∷ [] = c.push_reserved.ensures.items ∙ ap (λ (l : List AddedModule). l ++ h ∷ []) c.reserve.ensures.items in
    subst (λ (l : List AddedModule). IsSpace c.self.inside.image c.insert.new.self.entries l c.self.inside.left) (sym items)
    (space_pushed c.self.inside.image es c.insert.new.self.entries hs c.args.start x h c.self.inside.left c.self.invariant inserted.apart c.if-end-start.false (sym c.lowest_shared.ensures ∙ c.in_default.is) c.in-Ok.ensures.entries (omega arith) refl refl c.requires.placed)

pub returns-in-Ok-clause-added : goal.returns-in-Ok-clause-added
returns-in-Ok-clause-added c =
    let es = c.self.inside.modules.entries in
    let hs = c.self.inside.added.items in
    let m : Module = record { start = c.args.start; end = c.args.end; tables = c.args.tables } in
    let x : ModuleEntry = record { end = c.args.end; tables = c.args.tables; place = c.len-place.result } in
    let h : AddedModule = record { holder = m; table = None } in
    let inserted = module_inserted es c.insert.new.self.entries c.args.start x c.lowest_shared.result c.self.invariant.apart c.if-end-start.false (omega arith) c.lowest_shared.ensures c.in_default.is c.in-Ok.ensures.entries in
    let items : c.push_reserved.new.self.items ≡ hs ++ h ∷ [] = c.push_reserved.ensures.items ∙ ap (λ (l : List AddedModule). l ++ h ∷ []) c.reserve.ensures.items in
    rw (← c.self.view_is)
    (ap (λ (ms : List Module). beside c.self.inside.image ms (map added_of c.push_reserved.new.self.items)) inserted.added
    ∙ ap (beside c.self.inside.image (with_module m (modules_in es))) (ap (map added_of) items ∙ map-append added_of hs (h ∷ [])))
