-- What the steps of a prologue so far leave, as the code keeps it. No public clause cites this.
use Rattle.std.specs.Prelude.{◌≡◌, ◌≢◌, ◌⊎◌, ℕ, ◌+◌, ◌%◌, ◌^◌, ◌<◌, ◌≤◌, List, [], ◌∷◌, ◌++◌, Option, Some, None, IsTrue}
use Rattle.std.specs.List.{AllByRecursion, list_any}
use Rattle.std.specs.Option.{option_map}
use Rattle.unwind_definitions.specs.State.{CalleeSaved, RBX, RBP, R12, R13, R14, R15}
use Rattle.unwind_definitions.specs.Prologue.{Register, Step, Push, Allocate, SetFrame, Store, Save, SystemV, PrologueStep, depth, frame_depth, distance, saves, pushes, may_push, MayFollow}
use Rattle.unwind_definitions.specs.DescribedRows.{negative}
use Rattle.table_check.specs.declared.prologue.CalleeSaved.{CalleeSaved as CodeCalleeSaved}
use Rattle.table_check.specs.declared.prologue.CalleeSaved.TheVariants as code
use Rattle.table_check.specs.declared.prologue.FrameSoFar.{FrameSoFar}

abbrev pub callee_saved_of : CodeCalleeSaved → CalleeSaved
callee_saved_of code.Rbx = RBX
callee_saved_of code.Rbp = RBP
callee_saved_of code.R12 = R12
callee_saved_of code.R13 = R13
callee_saved_of code.R14 = R14
callee_saved_of code.R15 = R15

-- a number that is kept, unless it is so high that no number of 64 bits comes near
abbrev pub IsAbout : ℕ → ℕ → ℕ → Type 0
IsAbout high kept n = (kept ≡ n) ⊎ ((high ≤ kept) × (high ≤ n))

abbrev pub IsAboutOption : ℕ → Option ℕ → Option ℕ → Type 0
IsAboutOption high None None = Unit {0}
IsAboutOption high None (Some n) = ⊥
IsAboutOption high (Some kept) None = ⊥
IsAboutOption high (Some kept) (Some n) = IsAbout high kept n

-- the offset from the caller's stack pointer at which a register is kept to be saved, as a word
abbrev pub slot_of : CalleeSaved → FrameSoFar → Option ℕ
slot_of RBX f = f.rbx
slot_of RBP f = f.rbp
slot_of R12 f = f.r12
slot_of R13 f = f.r13
slot_of R14 f = f.r14
slot_of R15 f = f.r15

abbrev pub with_slot : CalleeSaved → ℕ → FrameSoFar → FrameSoFar
with_slot RBX offset f = record f { rbx = Some offset }
with_slot RBP offset f = record f { rbp = Some offset }
with_slot R12 offset f = record f { r12 = Some offset }
with_slot R13 offset f = record f { r13 = Some offset }
with_slot R14 offset f = record f { r14 = Some offset }
with_slot R15 offset f = record f { r15 = Some offset }

-- the steps so far leave such a frame
pub record IsFrameAfter (frame : FrameSoFar) (steps : List Step) : Type 0 where
  pub lowered : IsAbout (2 ^ 100) frame.depth (depth steps)
  pub set : IsAboutOption (2 ^ 100) frame.frame_depth (frame_depth steps)
  pub pushed : frame.is_rbp_pushed ≡ list_any (pushes RBP) steps
  pub saved : (r : CalleeSaved) → slot_of r frame ≡ option_map negative (distance r steps)

-- a register that a prologue saves, and that no step before saves
abbrev pub MayBeSaved : List Step → Register → Type 0
MayBeSaved before r = IsTrue (may_push SystemV r) × AllByRecursion (λ (s : Save). s.register ≢ r) (saves before)

-- a step saves no register that one of those before saves
abbrev pub SavesAnother : List Step → Step → Type 0
SavesAnother before (Push r) = AllByRecursion (λ (s : Save). s.register ≢ r) (saves before)
SavesAnother before (Allocate n) = Unit {0}
SavesAnother before (SetFrame m) = Unit {0}
SavesAnother before (Store r k) = AllByRecursion (λ (s : Save). s.register ≢ r) (saves before)

abbrev pub MayBeNext : List Step → Step → Type 0
MayBeNext before step = MayFollow SystemV before step × SavesAnother before step

-- a slot of 8 bytes lies whole words above the stack pointer, and below the return address
abbrev pub MayHold : List Step → ℕ → Type 0
MayHold before offset = (offset % 8 ≡ 0) × (offset + 8 + 8 ≤ depth before)

-- the steps that are left of a prologue follow those before, the last of which has ended at an offset
abbrev pub MayGoOn : ℕ → List Step → List PrologueStep → Type 0
MayGoOn last before [] = Unit {0}
MayGoOn last before (p ∷ prologue) = (last < p.end) × MayBeNext before p.step × MayGoOn p.end (before ++ p.step ∷ []) prologue
