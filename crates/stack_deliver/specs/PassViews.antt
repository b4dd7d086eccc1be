-- What the code of a pass answers, in the words of the definitions. No public clause cites this.
use Rattle.std.specs.Prelude.{◌≡◌, ◌++◌, List, Result, Ok, Err}
use Rattle.memory_image.specs.Results.{result_map}
use Rattle.unwind_arch.specs.declared.x86_64.Context.{Context}
use Rattle.stack_steps.specs.declared.error.DeliverError.{DeliverError}
use Rattle.stack_deliver.specs.declared.outcome.Ending.{Ending}
use Rattle.stack_walks.specs.declared.room.Trail.{Trail}
use Rattle.stack_deliver.specs.declared.passes.PassEnd.{PassEnd as CodeEnd}
use Rattle.stack_deliver.specs.declared.passes.PassEnd.TheVariants as pass
use Rattle.stack_deliver.specs.Passes.{CleanupsRun, PassEnd, Finishes, Cleanup, ending_at, fatal}
use Rattle.stack_walks.specs.Walking.{RoomValue}

-- how a pass ends, which leaves a context
abbrev pub end_shown : Context → CodeEnd → PassEnd
end_shown c pass.Fatal = Finishes fatal
end_shown c pass.Installed = Finishes (ending_at c)
end_shown c (pass.Cleanup pad) = Cleanup pad c

-- cleanups that ran before these
abbrev pub with_cleanups : List Trail → Result CleanupsRun DeliverError → Result CleanupsRun DeliverError
with_cleanups front = result_map (λ (passed : CleanupsRun). record passed { trail = front ++ passed.trail })

-- the answer of passes, and the room after it
abbrev pub GivesCleanupsRun : Result Ending DeliverError → RoomValue → Result CleanupsRun DeliverError → Type 0
GivesCleanupsRun (Ok ending) room due = due ≡ Ok (record { trail = room.trail; ending = ending })
GivesCleanupsRun (Err e) room due = due ≡ Err e
