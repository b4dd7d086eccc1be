use Rattle.std.proofs.Common.{◌≡◌, map, take}
use Rattle.frame_rows.specs.Rules.{entry_of}
use Rattle.frame_rows.proofs.row_bodies.are_same_rules.Given as goal

-- the rules so far are the same
abbrev pub invariant-loop-i : goal.invariant-loop-i
invariant-loop-i l = map entry_of (take l.i l.a) ≡ map entry_of (take l.i l.b)
