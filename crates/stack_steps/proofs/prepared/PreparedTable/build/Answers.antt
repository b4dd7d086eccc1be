use Rattle.std.proofs.Common.{inr, sym}
use Rattle.fde_finders.specs.NamedTables.{named_of}
use Rattle.stack_steps.proofs.prepared.PreparedTable.build.Goals as goal

pub returns-then-not-lists : goal.returns-then-not-lists
returns-then-not-lists c =
    let prepares = rw c.in-Some-built.is at c.in_ok-built.ensures.prepares in
    inr (inr (record { table = named_of c.in-Some.named; names = sym c.in-Some.ensures; index = c.in-Some-built.index; prepared = prepares.0; unlisted = c.lists.ensures.unlisted c.if-not-lists.true }))
