-- The step in a described Mach-O module undoes a call.
use Rattle.std.proofs.Common.{◌≡◌, ℕ, ◌+◌, ◌-◌, ◌*◌, ◌^◌, ◌<◌, ◌≤◌, Bool, true, false, cond, eqb, ltb, List, [], length, drop, map, Option, Some, None, Result, Ok, refl, sym, ap, subst, ◌∙◌, arith}
use Rattle.std.specs.Prelude.{IsTrue}
use Rattle.std.specs.List.{Contains}
use Rattle.std.proofs.lemmas.Bool.{ltb-true}
use Rattle.std.proofs.lemmas.List.{drop_all}
use Rattle.memory_image.specs.Image.{Span, table_at}
use Rattle.unwind_definitions.specs.declared.error.Error.{Error as Fault}
use Rattle.unwind_definitions.specs.Faults.{◌>>=◌}
use Rattle.unwind_definitions.specs.Pointers.{Bases}
use Rattle.unwind_definitions.specs.Entries.{Fde, entry_at}
use Rattle.unwind_definitions.specs.HeaderSearch.{fde_in, fde_at}
use Rattle.unwind_definitions.specs.Row.{RowInstructions, row_at}
use Rattle.unwind_definitions.specs.Expressions.{evaluation}
use Rattle.unwind_definitions.specs.Caller.{◌+w◌, Columns, StepFault, column_or_fault}
use Rattle.unwind_definitions.specs.State.{State, IsState, Shows}
use Rattle.unwind_definitions.specs.Prologue.{SystemV, steps_of}
use Rattle.unwind_definitions.specs.Entered.{IsEntered}
use Rattle.unwind_definitions.specs.Function.{Function, IsFunction, in_body}
use Rattle.unwind_definitions.specs.LanguageTable.{input_at}
use Rattle.unwind_laws.specs.Undoes.{Undoes}
use Rattle.unwind_laws.proofs.Booleans.{all_contains}
use Rattle.unwind_laws.proofs.Found.{body_inside}
use Rattle.unwind_laws.proofs.Signal.{no_signal_at}
use Rattle.unwind_laws.proofs.Undo.{body_undone, outermost_undone}
use Rattle.macho_unwind_info.specs.declared.opcodes.x86_64.RegisterNameX86_64.{RegisterNameX86_64}
use Rattle.macho_unwind_info.specs.declared.opcodes.x86_64.OpcodeX86_64.{OpcodeX86_64}
use Rattle.macho_unwind_info.specs.declared.opcodes.x86_64.OpcodeX86_64.TheVariants.{Null, FrameBased, FramelessImmediate, FramelessIndirect, Dwarf, InvalidFrameless, UnrecognizedKind}
use Rattle.macho_unwind_info.specs.Bits.{bits}
use Rattle.macho_unwind_info.specs.Described.{Covers}
use Rattle.macho_unwind_info.specs.Lookup.{lookup_of}
use Rattle.macho_unwind_info.specs.Permutation.{permutation}
use Rattle.macho_unwind_info.specs.X86_64.{register_of, fields_of, with_registers, opcode_of_kind, opcode_of}
use Rattle.macho_unwind_info.proofs.Covering.{each}
use Rattle.macho_unwind_info.proofs.LookupLemmas.{lookup_of-is}
use Rattle.format_definitions.specs.CompactStep.{fields_up, registers_back, half_or_fault, by_cfa, frame_bases, MachoModule, stepped_with, by_row, by_description, compact_step, answered_by, stepped_by, found_in as answered_in, macho_step}
use Rattle.format_definitions.specs.MachoModules.{IsIndirect, IsDwarf, IsOpcodeOf, HasListed, DescribesMacho}
use Rattle.format_laws.specs.CompactUndone.{OpcodeUndoes, MachoUndone}
use Rattle.format_laws.proofs.CompactUndo.{Called, frameless_undone, frame_based_undone}

-- ---- what an opcode can spell

-- offsets below the frame register are small
abbrev IsSmall : OpcodeX86_64 → Type 0
IsSmall (FrameBased offset fields) = offset ≤ 2 ^ 64
IsSmall Null = Unit {0}
IsSmall (FramelessImmediate size rs) = Unit {0}
IsSmall (FramelessIndirect at adjust rs) = Unit {0}
IsSmall (Dwarf n) = Unit {0}
IsSmall InvalidFrameless = Unit {0}
IsSmall (UnrecognizedKind k) = Unit {0}

small_registers : (make : List (Option RegisterNameX86_64) → OpcodeX86_64) → ((rs : List (Option RegisterNameX86_64)) → IsSmall (make rs)) → (o : Option (List ℕ)) → IsSmall (with_registers make o)
small_registers make h None = tt
small_registers make h (Some ns) = h (map register_of ns)

small_kind : (word kind : ℕ) → IsSmall (opcode_of_kind word kind)
small_kind word kind = go (eqb kind 0) (eqb kind 1) (eqb kind 2) (eqb kind 3) (eqb kind 4)
  where
    offset : bits word 16 8 * 8 ≤ 2 ^ 64
    offset = omega arith

    go : (a b c d e : Bool) → IsSmall (cond a Null (cond b (FrameBased (bits word 16 8 * 8) (fields_of word)) (cond c (with_registers (FramelessImmediate (bits word 16 8 * 8)) (permutation (bits word 10 3) (bits word 0 10)))
        (cond d (with_registers (FramelessIndirect (bits word 16 8) (bits word 13 3 * 8)) (permutation (bits word 10 3) (bits word 0 10))) (cond e (Dwarf (bits word 0 24)) (UnrecognizedKind kind))))))
    go true b c d e = tt
    go false true c d e = offset
    go false false true d e = small_registers (FramelessImmediate (bits word 16 8 * 8)) (λ rs. tt) (permutation (bits word 10 3) (bits word 0 10))
    go false false false true e = small_registers (FramelessIndirect (bits word 16 8) (bits word 13 3 * 8)) (λ rs. tt) (permutation (bits word 10 3) (bits word 0 10))
    go false false false false true = tt
    go false false false false false = tt

-- ---- descriptions in frame data

-- nothing stands after a table's end
past_end : (bases : Bases) (image : List Span) (table offset : ℕ) → length (table_at image table) < offset → entry_at bases (input_at image table) offset ≡ Ok None
unfolding entry_at
past_end bases image table offset lt =
    let none : drop offset (table_at image table) ≡ [] = drop_all offset (table_at image table) (omega arith) in
    rw none refl

pub found_at : (image : List Span) (f : Function) (table offset : ℕ) (d : IsDwarf image f table offset) → fde_at (frame_bases table) (input_at image table) offset ≡ Ok d.fde
found_at image f table offset d = go (ltb (length (table_at image table)) offset) refl
  where
    go : (b : Bool) → ltb (length (table_at image table)) offset ≡ b → fde_at (frame_bases table) (input_at image table) offset ≡ Ok d.fde
    go false e = rw e (ap (λ r. r >>= fde_in) d.reads)
    go true e = let none = past_end (frame_bases table) image table offset (ltb-true (length (table_at image table)) offset e) in let bad = sym none ∙ d.reads in absurd cc

-- ---- what a listing finds

-- the function of a listing that describes a function is found for each address of that
pub listed_found : (image : List Span) (m : MachoModule) (functions : List Function) (d : DescribesMacho image m functions) (f : Function) (h : HasListed image d.info d.personalities m f) (a : ℕ) → f.start ≤ a → a < f.end →
    lookup_of d.info (a - m.base) ≡ Ok (Some h.listed)
listed_found image m functions d f h a low high =
    let start = h.describes.start in
    let end = h.describes.end in
    let covers : Covers h.listed (a - m.base) = (omega arith, omega arith) in
    each d.info (a - m.base) (lookup_of d.info (a - m.base)) d.pages (lookup_of-is d.info (a - m.base)) h.listed (record { listed = h.among; covers = covers })

-- ---- each opcode

called : (result : Result Columns StepFault) (columns : Columns) (t : State) → Called result columns t → OpcodeUndoes (Some (stepped_with false result)) columns t
called result columns t c = record { caller = c.caller; answered = ap (λ (r : Result Columns StepFault). Some (stepped_with false r)) c.is; shows = c.shows; others = c.others }

module _ (image : List Span) (f : Function) (is : IsFunction SystemV f) (s t : State) (columns : Columns) (entered : IsEntered image f.outermost (steps_of f.prologue) t s) (words : IsState t) (shows : Shows columns s)
    (ends : IsTrue f.outermost → t.ra ≡ 0) (a : ℕ) (inside : IsTrue (in_body f a)) where
  by_frame_data : (table offset : ℕ) → IsDwarf image f table offset → OpcodeUndoes (compact_step image (Some table) f.start a columns (Dwarf offset)) columns t
  by_frame_data table offset d = go f.outermost refl
    where
      answer : (run : RowInstructions) → row_at (frame_bases table) d.fde a ≡ Ok run → Undoes (evaluation image) image run t columns → OpcodeUndoes (compact_step image (Some table) f.start a columns (Dwarf offset)) columns t
      answer run has u = record {
        caller = u.caller;
        answered = ap (λ (r : Result Fde Fault). Some (by_description image table a columns r)) (found_at image f table offset d)
            ∙ ap (λ (r : Result RowInstructions Fault). Some (by_row image d.fde.cie.letters.signal columns r)) has
            ∙ ap (λ (r : Result Columns StepFault). Some (stepped_with d.fde.cie.letters.signal r)) u.is_caller
            ∙ ap (λ (b : Bool). Some (Ok (record { columns = u.caller; signal = b }))) (no_signal_at (frame_bases table) (input_at image table) offset d.next d.fde image d.reads d.describes.code.cie);
        shows = u.shows;
        others = u.others;
      }

      go : (b : Bool) → f.outermost ≡ b → OpcodeUndoes (compact_step image (Some table) f.start a columns (Dwarf offset)) columns t
      go false e =
          let row = d.describes.code.rows.bodies e a inside in
          answer row.0 row.1 (body_undone (evaluation image) image (steps_of f.prologue) s t columns is.prologue.each (subst (λ b. IsEntered image b (steps_of f.prologue) t s) e entered) words shows row.0 row.2)
      go true e =
          let row = d.describes.code.rows.outermost e a inside in
          let none = is.outermost e in
          let bare : IsEntered image true [] t s = subst (λ p. IsEntered image true (steps_of p) t s) none.0 (subst (λ b. IsEntered image b (steps_of f.prologue) t s) e entered) in
          answer row.0 row.1 (outermost_undone (evaluation image) image row.0 s t columns row.2 bare words shows (ends e))

  by_opcode : (frames : Option ℕ) (o : OpcodeX86_64) → IsSmall o → IsOpcodeOf image frames f o → OpcodeUndoes (compact_step image frames f.start a columns o) columns t
  by_opcode frames Null small d = absurd d
  by_opcode frames (FrameBased offset fields) small d =
      called _ columns t (frame_based_undone image (steps_of f.prologue) s t columns is.prologue.each (subst (λ b. IsEntered image b (steps_of f.prologue) t s) d.0 entered) words shows offset (fields_up fields) d.1 small)
  by_opcode frames (FramelessImmediate size registers) small d =
      called _ columns t (frameless_undone image (steps_of f.prologue) s t columns is.prologue.each (subst (λ b. IsEntered image b (steps_of f.prologue) t s) d.0 entered) words shows size (registers_back registers) d.1)
  by_opcode frames (FramelessIndirect at adjust registers) small d =
      let i : IsIndirect image f at adjust (registers_back registers) = d.1 in
      let size_is : half_or_fault image (f.start +w at) ≡ Ok i.size = rw i.mapped refl in
      subst (λ (r : Result ℕ StepFault). OpcodeUndoes (Some (stepped_with false (r >>= (λ size. column_or_fault (columns 7) >>= (λ sp. by_cfa image (registers_back registers) columns (sp +w (adjust + size))))))) columns t) (sym size_is)
      (called _ columns t (frameless_undone image (steps_of f.prologue) s t columns is.prologue.each (subst (λ b. IsEntered image b (steps_of f.prologue) t s) d.0 entered) words shows (adjust + i.size) (registers_back registers) i.frameless))
  by_opcode None (Dwarf offset) small d = absurd d
  by_opcode (Some table) (Dwarf offset) small d = by_frame_data table offset d
  by_opcode frames InvalidFrameless small d = absurd d
  by_opcode frames (UnrecognizedKind k) small d = absurd d

  pub opcode_undone : (frames : Option ℕ) (word : ℕ) → IsOpcodeOf image frames f (opcode_of word) → OpcodeUndoes (compact_step image frames f.start a columns (opcode_of word)) columns t
  opcode_undone frames word d = by_opcode frames (opcode_of word) (small_kind word (bits word 24 4)) d

  -- ---- the step in a module

  macho_undone_by : (m : MachoModule) (functions : List Function) (d : DescribesMacho image m functions) → HasListed image d.info d.personalities m f → MachoUndone (macho_step image m (a - m.base) columns) columns t
  macho_undone_by m functions d h =
      let lies = body_inside f a is inside in
      let start = h.describes.start in
      let found : lookup_of d.info (a - m.base) ≡ Ok (Some h.listed) = listed_found image m functions d f h a (omega (arith, lies.0)) lies.1 in
      let u = opcode_undone m.frames h.listed.opcode h.describes.opcode in
      let address : m.base + (a - m.base) ≡ a = omega (arith, lies.0) in
      record {
        caller = u.caller;
        answered = ap (answered_in image m (a - m.base) columns) d.parses
            ∙ ap (stepped_by image m (a - m.base) columns) found
            ∙ ap (λ (from : ℕ). answered_by (compact_step image m.frames from (m.base + (a - m.base)) columns (opcode_of h.listed.opcode))) (sym start)
            ∙ ap (λ (pc : ℕ). answered_by (compact_step image m.frames f.start pc columns (opcode_of h.listed.opcode))) address
            ∙ ap answered_by u.answered;
        shows = u.shows;
        others = u.others;
      }

  pub macho_undone : (m : MachoModule) (functions : List Function) → DescribesMacho image m functions → Contains functions f → MachoUndone (macho_step image m (a - m.base) columns) columns t
  macho_undone m functions d has = macho_undone_by m functions d (all_contains (HasListed image d.info d.personalities m) functions f d.each has)
