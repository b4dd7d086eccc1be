-- What a walk leaves that keeps popped registers, and which rows are lent for it. No public clause cites this.
use Rattle.std.specs.Prelude.{◌≡◌, ℕ, ◌==◌, Bool, true, false, ◌&&◌, List, [], Option, Some, None}
use Rattle.memory_image.specs.Image.{Span}
use Rattle.unwind_arch.specs.declared.x86_64.Context.{Context}
use Rattle.frame_rows.specs.Rules.{rule_in}
use Rattle.frame_rows.specs.RowValue.{RowValue}
use Rattle.stack_steps.specs.declared.error.DeliverError.{DeliverError}
use Rattle.stack_steps.specs.declared.error.DeliverError.TheVariants.{Unmapped}
use Rattle.stack_steps.specs.Growing.{over_image}
use Rattle.stack_steps.specs.Modules.{SpaceValue}
use Rattle.stack_walks.specs.declared.walk_end.EndReason.{EndReason}
use Rattle.stack_walks.specs.declared.walk_end.EndReason.TheVariants.{Refused}
use Rattle.stack_walks.specs.WalkEnds.{ComesTo, contexts_to_end}
use Rattle.popped_registers.specs.declared.popped.PoppedRegister.{PoppedRegister}
use Rattle.popped_registers.specs.declared.walks.KeptWalk.{KeptWalk}
use Rattle.popped_registers.specs.PoppedRegisters.{are_some, kept_over, popped_by_rules}

-- the registers that were popped, by the row of a frame, where it has one
abbrev pub popped_by_row : List Span → Context → Option RowValue → List PoppedRegister
popped_by_row image c None = []
popped_by_row image c (Some row) = popped_by_rules image c (Some row.cfa) (rule_in row.rules)

-- over an image that keeps these registers the states of a walk from where a thread was interrupted, why it ends, and whether there
-- are such registers
pub record IsKeptWalk (space : SpaceValue) (popped : List PoppedRegister) (limit : ℕ) (c : Context) (visited : List Context) (walk : KeptWalk) : Type 0 where
  pub states : visited ≡ contexts_to_end (over_image space (kept_over space.image popped)) limit c true
  pub why : ComesTo walk.why (over_image space (kept_over space.image popped)) limit c true
  pub marked : walk.popped ≡ are_some popped

-- a fault that says that something isn't mapped, and a walk of so many states that ends at its first one for such a fault
abbrev pub is_unmapped : DeliverError → Bool
is_unmapped (Unmapped a) = true
is_unmapped _ = false

abbrev pub ends_unmapped : EndReason → Bool
ends_unmapped (Refused a e) = is_unmapped e
ends_unmapped _ = false

abbrev pub is_cut_at_start : EndReason → ℕ → Bool
is_cut_at_start why states = ends_unmapped why && (states == 1)
