use Rattle.std.proofs.Common.{◌≡◌, ◌+◌, ◌*◌, ◌^◌, ◌≤◌, length}
use Rattle.eh_frame.specs.Directory.{AreBefore, IsDirectory}
use Rattle.eh_frame.proofs.starts.directory.Given as goal

abbrev pub invariant-loop : goal.invariant-loop
invariant-loop l = IsDirectory l.starts l.first l.digits l.directory.items
    × (l.from ≡ l.first + length l.directory.items * 2 ^ l.digits)
    × (l.before ≤ length l.starts)
    × AreBefore l.starts l.before l.from
