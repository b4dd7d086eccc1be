use Rattle.std.proofs.Common.{sym, ap, ◌∙◌}
use Rattle.std.specs.Option.{option_map}
use Rattle.stack_steps.specs.Modules.{module_of}
use Rattle.stack_steps.proofs.Apart.{shared_last, shared_first, shared_alone}
use Rattle.stack_steps.proofs.space.lowest_shared.Goals as goal
use Rattle.stack_steps.proofs.space.lowest_shared.Goals.{in-Some+else-start-module_entry, in_default}

pub returns-then-start-module_entry : goal.returns-then-start-module_entry
returns-then-start-module_entry c = shared_last _ _ _ _ c.requires.apart c.requires.some c.in-Some.ensures.last c.if-start-module_entry.true

pub returns : goal.returns
returns c = elim c.match-last_below.branch [
  | in-Some+else-start-module_entry w ↦ shared_first _ _ _ _ _ c.requires.apart c.requires.some w.in-Some.ensures.last w.if-start-module_entry.false c.first_between.ensures
  | in_default w ↦ shared_alone _ _ _ _ c.requires.apart c.requires.some (ap (option_map module_of) (sym w.in_default.is) ∙ c.last_below.ensures.last) c.first_between.ensures
]
