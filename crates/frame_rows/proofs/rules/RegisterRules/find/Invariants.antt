use Rattle.std.proofs.Common.{◌≡◌, drop, map}
use Rattle.frame_rows.specs.Rules.{entry_of, find_in}
use Rattle.frame_rows.proofs.rules.RegisterRules.find.Given as goal

-- the entries so far are of lower columns
abbrev pub invariant-loop-i : goal.invariant-loop-i
invariant-loop-i l = find_in l.register.0 0 l.self ≡ find_in l.register.0 l.i (map entry_of (drop l.i l.entries))
