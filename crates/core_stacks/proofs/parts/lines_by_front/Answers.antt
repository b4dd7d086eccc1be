use Rattle.std.proofs.Common.{◌∙◌, List, ap, map}
use Rattle.mapped_modules.specs.declared.loading.LoadedModule.{LoadedModule}
use Rattle.mapped_modules.specs.Loading.{loaded_value}
use Rattle.core_stacks.proofs.PartLines.{due_told}
use Rattle.core_stacks.proofs.Sufficing.{suffice_by}
use Rattle.core_stacks.proofs.parts.lines_by_front.Goals as goal

pub returns-clause-told : goal.returns-clause-told
returns-clause-told g c = λ all tells is.
    let modules = ap (λ (ms : List LoadedModule). map loaded_value ms) c.deref.ensures.value ∙ c.in_ok-loaded.ensures.told all tells in
    due_told c.args.names all (all c.args.path.now) c.args.front.now (map loaded_value c.deref.result.now) _ c.lines_by_modules.result is modules c.mapped_parts.ensures (c.lines_by_modules.ensures.told all tells is.long)

pub returns-clause-walked : goal.returns-clause-walked
returns-clause-walked g c = λ all tells.
    let modules = ap (λ (ms : List LoadedModule). map loaded_value ms) c.deref.ensures.value ∙ c.in_ok-loaded.ensures.told all tells in
    suffice_by c.args.names all (all c.args.path.now) c.args.front.now (map loaded_value c.deref.result.now) _ c.lines_by_modules.result modules c.mapped_parts.ensures (c.lines_by_modules.ensures.walked all tells)
