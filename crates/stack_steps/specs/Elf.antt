-- Frames by call frame information: those of an ELF module, and of a function of a Mach-O module whose opcode points to frame data.
-- What is found, its caller, the language table that it names, and why there is none. `Macho` and `Pe` have the same of their formats.
use Rattle.std.specs.Prelude.{◌≡◌, ◌⊎◌, ℕ, ◌+◌, ◌%◌, ◌^◌, ◌<◌, Option, Some, None, Result, Ok, Err, List, [], ◌∷◌}
use Rattle.std.specs.Result.{result_map_both}
use Rattle.memory_image.specs.Image.{Span, word_at}
use Rattle.unwind_definitions.specs.declared.error.Error.{Error as Fault}
use Rattle.unwind_definitions.specs.LanguageTable.{input_at}
use Rattle.unwind_definitions.specs.LanguageSearch.{LanguagePlace, personality_address, language_place}
use Rattle.unwind_definitions.specs.Row.{RowInstructions, CfaRule, ColumnAndOffset, ByExpression, argument_size, cfa_rule, rule_of, row_at}
use Rattle.unwind_definitions.specs.Instructions.{Rule, Offset, Expression, ValExpression}
use Rattle.unwind_definitions.specs.Scan.{scan}
use Rattle.unwind_definitions.specs.Caller.{Columns, StepFault, x86_64, cfa_value, column_limit, column_value, caller_of}
use Rattle.unwind_definitions.specs.Caller as calls
use Rattle.unwind_definitions.specs.Expressions.{HasValue, HasFault, initial_configuration, operation_limit, evaluation}
use Rattle.unwind_arch.specs.declared.x86_64.Context.{Context}
use Rattle.unwind_arch.specs.ContextViews.{columns_of}
use Rattle.fde_finders.specs.declared.custom.FrameInfo.{FrameInfo}
use Rattle.fde_finders.specs.declared.custom.FrameInfoKind.{FrameInfoKind}
use Rattle.fde_finders.specs.declared.custom.FrameInfoKind.TheVariants.{EhFrame, EhFrameHdr}
use Rattle.fde_finders.specs.Finding.{FoundFde, relative_to, table_bases}
use Rattle.fde_finders.specs.HeaderFinding.{found_by_header}
use Rattle.fde_finders.specs.Named.{found_by}
use Rattle.format_frames.specs.declared.machine.Stepped.{Stepped}
use Rattle.stack_steps.specs.declared.error.DeliverError.{DeliverError}
use Rattle.stack_steps.specs.declared.error.DeliverError.TheVariants.{Table}
use Rattle.stack_steps.specs.Frames.{FrameAt, DescribedFrame, Described, next_with, refusal_of}

-- ---- what is found

abbrev pub frame_with : FoundFde → RowInstructions → Option FrameAt
frame_with found run = Some (Described (record { found = found; run = run }))

-- by the row at an address of the description that is found for it, if one is
abbrev pub frame_by : ℕ → Option FoundFde → Result (Option FrameAt) DeliverError
frame_by a None = Ok None
frame_by a (Some found) = result_map_both (frame_with found) Table (row_at found.bases found.fde a)

abbrev pub frame : List Span → ℕ → FrameInfo → Result (Option FrameAt) DeliverError
frame image a tables = frame_by a (found_by tables image a)

-- ---- its caller

-- and whether the frame is a signal's
abbrev pub caller : List Span → Context → DescribedFrame → Result Stepped DeliverError
caller image c f = result_map_both (next_with f.found.fde.cie.letters.signal) refusal_of (caller_of x86_64 (evaluation image) image (columns_of c) f.run)

-- how many bytes of the stack hold arguments that the callee removes
abbrev pub arguments : DescribedFrame → ℕ
arguments f = argument_size f.run

-- ---- its language table: none, or its place, or why that can't be read

abbrev pub table_if_named : List Span → FoundFde → Result (Option ℕ) StepFault → Result (Option (Result LanguagePlace StepFault)) DeliverError
table_if_named image found (Ok None) = Ok None
table_if_named image found (Ok (Some routine)) = Ok (Some (language_place image found.bases found.fde))
table_if_named image found (Err e) = Err (refusal_of e)

-- of a description that names a personality, whichever
abbrev pub table : List Span → FoundFde → Result (Option (Result LanguagePlace StepFault)) DeliverError
table image found = table_if_named image found (personality_address image found.fde)

-- ---- why there is none, and why it has no caller

-- A scan of a module's frame table finds no description for an address: none contains it, or an entry before can't be read.
-- By a module's header none is found.
abbrev pub FindsNone : List Span → Option ℕ → FrameInfoKind → ℕ → Type 0
FindsNone image text (EhFrame frame) a = (e : Fault) × (scan (table_bases text frame) (input_at image frame) a ≡ Err e)
FindsNone image text (EhFrameHdr header) a = found_by_header (relative_to text None) image header a ≡ None

-- no description is found for an address
abbrev pub Ends : List Span → FrameInfo → ℕ → Type 0
Ends image tables a = FindsNone image tables.text_base tables.kind a

-- a row can't be read or run, or its CFA or a rule of it, the first with a fault, has no value: it asks for a column that the machine
-- doesn't have, or is by an expression without a value
abbrev pub RowFaults : List Span → Context → Result RowInstructions Fault → Fault → Type 0
RowFaults image c (Ok run) e = caller_of x86_64 (evaluation image) image (columns_of c) run ≡ Err (calls.Table e)
RowFaults image c (Err f) e = f ≡ e

-- a description is found for an address, whose row there faults
pub record Faults (image : List Span) (c : Context) (tables : FrameInfo) (a : ℕ) (e : Fault) : Type 0 where
  pub found : FoundFde
  pub finds : found_by tables image a ≡ Some found
  pub fault : RowFaults image c (row_at found.bases found.fde a) e

-- An expression reads a number at an address that isn't wholly mapped, and nothing before it has a fault.
abbrev pub ExpressionReadsUnmapped : List Span → Columns → List ℕ → List ℕ → ℕ → Type 0
ExpressionReadsUnmapped image columns expression stack a =
    HasFault image columns expression (operation_limit expression) (initial_configuration stack) (calls.Unmapped a)

-- the CFA is that of an expression, which begins with an empty stack
abbrev pub CfaReadsUnmapped : List Span → Columns → CfaRule → ℕ → Type 0
CfaReadsUnmapped image columns (ColumnAndOffset k n) a = ⊥
CfaReadsUnmapped image columns (ByExpression expression) a =
    ExpressionReadsUnmapped image columns expression [] a

-- A rule reads a word that isn't wholly mapped: that of its slot, or that at the address which an expression gives; or the
-- expression itself, which begins with the CFA, reads such a number.
abbrev pub RuleReadsUnmapped : List Span → Columns → ℕ → Rule → ℕ → Type 0
RuleReadsUnmapped image columns cfa (Offset n) a =
    (a ≡ (cfa + n) % 2 ^ 64) × (word_at image a ≡ None)
RuleReadsUnmapped image columns cfa (Expression expression) a =
    ExpressionReadsUnmapped image columns expression (cfa ∷ []) a
    ⊎ (HasValue image columns expression (operation_limit expression) (initial_configuration (cfa ∷ [])) a × (word_at image a ≡ None))
RuleReadsUnmapped image columns cfa (ValExpression expression) a =
    ExpressionReadsUnmapped image columns expression (cfa ∷ []) a
RuleReadsUnmapped image columns cfa _ a = ⊥

-- the CFA has a value, and the rule of the lowest column that has none reads such a word
pub record ColumnReadsUnmapped (image : List Span) (columns : Columns) (run : RowInstructions) (frame_address : CfaRule) (a : ℕ) : Type 0 where
  pub cfa : ℕ
  pub finds_cfa : cfa_value (evaluation image) columns frame_address ≡ Ok cfa
  pub column : ℕ
  pub small : column < column_limit
  pub before : (k : ℕ) → k < column → (v : Option ℕ) × (column_value x86_64 (evaluation image) image columns cfa run k ≡ Ok v)
  pub rule : Rule
  pub ruled : rule_of run column ≡ Some rule
  pub reads : RuleReadsUnmapped image columns cfa rule a

-- A row reads at an address for its CFA or, where that has a value, for the lowest column that has none, and what it reads there
-- isn't wholly mapped.
pub record ReadsUnmapped (image : List Span) (columns : Columns) (run : RowInstructions) (a : ℕ) : Type 0 where
  pub rule : CfaRule
  pub ruled : cfa_rule run ≡ Some rule
  pub reads : CfaReadsUnmapped image columns rule a ⊎ ColumnReadsUnmapped image columns run rule a

-- a description is found for an address, and its row there reads what isn't wholly mapped
pub record Reads (image : List Span) (c : Context) (tables : FrameInfo) (address a : ℕ) : Type 0 where
  pub found : FoundFde
  pub finds : found_by tables image address ≡ Some found
  pub run : RowInstructions
  pub row : row_at found.bases found.fde address ≡ Ok run
  pub reads : ReadsUnmapped image (columns_of c) run a

-- A description is found for an address, and its row there gives the caller, which was interrupted where it stands exactly where
-- the description is of a signal's frame.
pub record Gives (image : List Span) (c : Context) (tables : FrameInfo) (a : ℕ) (next : Stepped) : Type 0 where
  pub found : FoundFde
  pub finds : found_by tables image a ≡ Some found
  pub run : RowInstructions
  pub row : row_at found.bases found.fde a ≡ Ok run
  pub columns : Columns
  pub caller : caller_of x86_64 (evaluation image) image (columns_of c) run ≡ Ok columns
  pub is : next ≡ next_with found.fde.cie.letters.signal columns
