use Rattle.std.proofs.Common.{◌≡◌, ◌-◌, ◌+◌, ◌<◌, ◌≤◌, ℕ, length}
use Rattle.encoded_pointers.specs.PointerViews.{bases_of}
use Rattle.unwind_definitions.specs.Scan.{scan, scan_from}
use Rattle.eh_frame.specs.Standing.{AreStanding}
use Rattle.eh_frame.specs.EntryViews.{table_of}
use Rattle.eh_frame.proofs.entries.EhFrame.scan.Given as goal

-- with turns enough, what is left gives what the whole table gives
abbrev pub invariant-loop-body : goal.invariant-loop-body
invariant-loop-body l = (l.offset ≤ length l.self.bytes.now) × (turns : ℕ) × (length l.self.bytes.now < turns + l.offset) ×
    (scan (bases_of l.bases) (table_of l.self) l.pc ≡ scan_from turns (bases_of l.bases) (table_of l.self) l.pc l.offset) ×
    AreStanding (bases_of l.bases) (table_of l.self) l.known

abbrev pub decreases-loop-body : goal.decreases-loop-body
decreases-loop-body l = length l.initial.self.bytes.now - l.offset
