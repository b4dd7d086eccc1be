use Rattle.std.proofs.Common.{◌≡◌, List, subst}
use Rattle.std.specs.Option.{option_map}
use Rattle.memory_image.specs.Image.{IsLaidOut, Span}
use Rattle.fde_finders.specs.declared.custom.FrameInfo.{FrameInfo}
use Rattle.fde_finders.specs.Named.{found_by}
use Rattle.stack_steps.specs.declared.prepared.PreparedTable.{PreparedTable}
use Rattle.stack_steps.specs.AddedModule.{IsTableOf}
use Rattle.stack_steps.specs.Functions.{function_of}
use Rattle.stack_steps.proofs.Cached.{held_function}
use Rattle.stack_steps.proofs.functions.function_in.Goals as goal

pub returns-in-Some : goal.returns-in-Some
returns-in-Some c =
    let finds = subst (λ (u : PreparedTable). (image : List Span) (tables : FrameInfo) → IsLaidOut 0 image → IsTableOf image tables u → c.indexed_function.result ≡ option_map function_of (found_by tables image c.args.address)) c.table.ensures c.indexed_function.ensures in
    held_function c.args.image.now c.args.added_module.now c.in-Some.shared c.args.address c.indexed_function.result c.requires.laid_out c.requires.added c.in-Some.is finds
