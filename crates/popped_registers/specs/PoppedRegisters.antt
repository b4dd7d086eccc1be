-- Registers that were popped where a thread was interrupted, and the memory that keeps them.
--
-- A function gives its caller's values back to the callee-saved registers before it returns (System V x86-64 psABI, section 3.2.1). After a
-- register was popped a compiler's rows mostly go on to say that it lies in its slot, which is then below the stack pointer: nothing
-- keeps what is there, but for 128 bytes (section 3.2.2), and a copy of the stack from its pointer on leaves it out. The register itself
-- holds again what was in the slot.
use Rattle.std.specs.Prelude.{ℕ, zero, suc, ◌+◌, Bool, true, false, ◌&&◌, not, List, [], ◌∷◌, Option, Some, None, Result, Ok, Err, is_some, nat_le, option_map, slice_index}
use Rattle.std.specs.Int.{w64, to_le_bytes}
use Rattle.std.specs.List.{cons_option}
use Rattle.memory_image.specs.declared.errors.ImageError.{ImageError}
use Rattle.memory_image.specs.Image.{Span, refusal, with_span, word_at}
use Rattle.unwind_definitions.specs.Caller.{StepFault, ◌+w◌, cfa_value}
use Rattle.unwind_definitions.specs.Columns as column
use Rattle.unwind_definitions.specs.Expressions.{evaluation}
use Rattle.unwind_definitions.specs.Instructions.{Rule, Offset, Expression}
use Rattle.unwind_definitions.specs.Row.{CfaRule, cfa_rule, rule_of}
use Rattle.unwind_arch.specs.declared.x86_64.Context.{Context}
use Rattle.unwind_arch.specs.ContextViews.{columns_of}
use Rattle.format_frames.specs.declared.machine.Stepped.{Stepped}
use Rattle.stack_steps.specs.declared.error.DeliverError.{DeliverError}
use Rattle.stack_steps.specs.declared.error.DeliverError.TheVariants.{Unmapped}
use Rattle.stack_steps.specs.Frames.{FrameAt, Described}
use Rattle.stack_steps.specs.Growing.{over_image}
use Rattle.stack_steps.specs.Modules.{SpaceValue}
use Rattle.stack_steps.specs.Stepping.{frame_of, step_of}
use Rattle.popped_registers.specs.declared.popped.PoppedRegister.{PoppedRegister}

-- ---- which registers were popped

-- The registers that count: the callee-saved ones but for the stack pointer, which are RBX, RBP and R12 to R15; and RAX and RDX,
-- which functions save that set the registers of a landing pad (gcc's __builtin_eh_return), and pop where they enter it.
abbrev pub restored : List ℕ
restored = column.rbx ∷ column.rbp ∷ column.r12 ∷ column.r13 ∷ column.r14 ∷ column.r15 ∷ column.rax ∷ column.rdx ∷ []

-- all eight bytes of a slot lie below the stack pointer, and not all of them are mapped
abbrev pub is_given_up : List Span → ℕ → ℕ → Bool
is_given_up image stack_pointer slot = nat_le (slot + 8) stack_pointer && not (is_some (word_at image slot))

-- a slot, and the word that its register holds
abbrev pub popped_from : ℕ → ℕ → PoppedRegister
popped_from slot word = record { slot = slot; word = word }

abbrev pub popped_if : Bool → ℕ → Option ℕ → Option PoppedRegister
popped_if false slot word = None
popped_if true slot word = option_map (popped_from slot) word

-- the slot that a rule tells, so far from the CFA or by an expression, where this has a value
abbrev pub slot_at : Result ℕ StepFault → Option ℕ
slot_at (Ok slot) = Some slot
slot_at (Err e) = None

abbrev pub slot_by : List Span → Context → ℕ → Option Rule → Option ℕ
slot_by image c cfa (Some (Offset n)) = Some (cfa +w n)
slot_by image c cfa (Some (Expression bytes)) = slot_at (evaluation image bytes (cfa ∷ []) (columns_of c))
slot_by image c cfa _ = None

-- a register by its slot: it was popped where that was given up
abbrev pub popped_by_slot : List Span → Context → ℕ → Option ℕ → Option PoppedRegister
popped_by_slot image c k None = None
popped_by_slot image c k (Some slot) = popped_if (is_given_up image (slice_index c.registers column.rsp) slot) slot (columns_of c k)

abbrev pub popped_by : List Span → Context → ℕ → ℕ → Option Rule → Option PoppedRegister
popped_by image c cfa k rule = popped_by_slot image c k (slot_by image c cfa rule)

-- those of some columns, by their rules and the CFA
abbrev pub popped_among : List Span → Context → (ℕ → Option Rule) → ℕ → List ℕ → List PoppedRegister
popped_among image c rules cfa [] = []
popped_among image c rules cfa (k ∷ ks) = cons_option (popped_by image c cfa k (rules k)) (popped_among image c rules cfa ks)

-- where the CFA has a value
abbrev pub popped_from_cfa : List Span → Context → (ℕ → Option Rule) → Result ℕ StepFault → List PoppedRegister
popped_from_cfa image c rules (Ok cfa) = popped_among image c rules cfa restored
popped_from_cfa image c rules (Err e) = []

-- by the rules of a row, of which the first is that of the CFA
abbrev pub popped_by_rules : List Span → Context → Option CfaRule → (ℕ → Option Rule) → List PoppedRegister
popped_by_rules image c None rules = []
popped_by_rules image c (Some rule) rules = popped_from_cfa image c rules (cfa_value (evaluation image) (columns_of c) rule)

-- at a frame that is found by call frame information
abbrev pub popped_at : List Span → Context → Result (Option FrameAt) DeliverError → List PoppedRegister
popped_at image c (Ok (Some (Described f))) = popped_by_rules image c (cfa_rule f.run) (rule_of f.run)
popped_at image c _ = []

-- where the step to its caller meets what isn't mapped
abbrev pub popped_where : Result (Option Stepped) DeliverError → List PoppedRegister → List PoppedRegister
popped_where (Err (Unmapped a)) popped = popped
popped_where _ popped = []

-- The registers that were popped where a thread was interrupted, of whose stack so many states are told.
unfoldable pub popped_in : SpaceValue → ℕ → Context → List PoppedRegister
popped_in space zero c = []
popped_in space (suc limit) c = popped_where (step_of space c true) (popped_at space.image c (frame_of space c true))

-- whether there are any
abbrev pub are_some : List PoppedRegister → Bool
are_some [] = false
are_some (p ∷ ps) = true

abbrev pub is_popped : SpaceValue → ℕ → Context → Bool
is_popped space limit c = are_some (popped_in space limit c)

-- ---- the memory that keeps them

-- an image with one region more, where it is taken
abbrev pub image_unless : Option ImageError → List Span → List Span → List Span
image_unless None grown image = grown
image_unless (Some e) grown image = image

abbrev pub image_with : List Span → ℕ → List ℕ → List Span
image_with image a bytes = image_unless (refusal image a bytes) (with_span (record { start = a; bytes = bytes }) image) image

-- each of them in its slot
abbrev pub kept_over : List Span → List PoppedRegister → List Span
kept_over image [] = image
kept_over image (p ∷ ps) = kept_over (image_with image p.slot (to_le_bytes w64 p.word)) ps

-- the modules over the memory in which the slots hold what the registers hold
abbrev pub kept_space : SpaceValue → ℕ → Context → SpaceValue
kept_space space limit c = over_image space (kept_over space.image (popped_in space limit c))
