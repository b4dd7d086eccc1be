use Rattle.std.proofs.Common.{◌≡◌}
use Rattle.std.specs.List.{insert}
use Rattle.frame_rows.proofs.rules.shift_in.Given as goal

-- what is carried, put at the place, makes what the entry makes at the index
abbrev pub invariant-loop-i : goal.invariant-loop-i
invariant-loop-i l = insert l.entries l.i l.carried ≡ insert l.fn.entries l.index l.entry
