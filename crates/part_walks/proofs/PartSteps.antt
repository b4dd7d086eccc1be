-- Steps and walks over a part of the memory, where they meet nothing unmapped, are those over the whole.
use Rattle.std.proofs.Common.{◌≡◌, ℕ, zero, suc, Bool, true, false, cond, eqb, List, [], ◌∷◌, Option, Some, None, Result, Ok, Err, refl, sym, ap, subst, ◌∙◌}
use Rattle.std.specs.Result.{result_map_both}
use Rattle.memory_image.specs.Image.{Span}
use Rattle.memory_image.specs.Results.{◌>>=◌, result_map}
use Rattle.unwind_definitions.specs.declared.error.Error.{Error as Fault}
use Rattle.unwind_definitions.specs.Caller.{Columns, StepFault, x86_64, caller_of}
use Rattle.unwind_definitions.specs.Caller as calls
use Rattle.unwind_definitions.specs.Expressions.{evaluation}
use Rattle.unwind_definitions.specs.LanguageSearch.{address_of_call}
use Rattle.unwind_definitions.specs.Row.{RowInstructions, row_at}
use Rattle.unwind_arch.specs.declared.x86_64.Context.{Context}
use Rattle.unwind_arch.specs.ContextViews.{columns_of}
use Rattle.fde_finders.specs.Finding.{FoundFde}
use Rattle.fde_finders.specs.Named.{found_by}
use Rattle.format_frames.specs.declared.machine.Stepped.{Stepped}
use Rattle.stack_steps.specs.declared.error.DeliverError.{DeliverError}
use Rattle.stack_steps.specs.declared.error.DeliverError.TheVariants.{Table}
use Rattle.stack_steps.specs.declared.space.Module.{Module}
use Rattle.stack_steps.specs.declared.space.ModuleTables.{ModuleTables}
use Rattle.stack_steps.specs.declared.space.ModuleTables.TheVariants.{Elf, Macho, Pe}
use Rattle.stack_steps.specs.Elf.{frame_by, frame_with}
use Rattle.stack_steps.specs.Frames.{FrameAt, DescribedFrame, Described, Compact, Recorded, next_with, refusal_of}
use Rattle.stack_steps.specs.Growing.{Grows, over_image}
use Rattle.stack_steps.specs.Modules.{SpaceValue, contains, module_at}
use Rattle.stack_steps.specs.Stepping.{caller_at, frame_by_tables, frame_in, frame_of, step_of}
use Rattle.stack_walks.specs.Lines.{line_after, line_of, with_first}
use Rattle.part_walks.specs.Parts.{HasTables, HaveTables, IsMapped, IsPartOf}
use Rattle.part_walks.proofs.PartReads.{IsRead, below, caller_read}
use Rattle.part_walks.proofs.PartTables.{found_stays}

-- ---- what is found

-- a frame, if one is found, is by call frame information
abbrev IsDescribed : Result (Option FrameAt) DeliverError → Type 0
IsDescribed (Err e) = Unit {0}
IsDescribed (Ok None) = Unit {0}
IsDescribed (Ok (Some (Described f))) = Unit {0}
IsDescribed (Ok (Some (Compact m listed))) = ⊥
IsDescribed (Ok (Some (Recorded m rva function))) = ⊥

described_by : (a : ℕ) (o : Option FoundFde) → IsDescribed (frame_by a o)
described_by a None = tt
described_by a (Some found) = go (row_at found.bases found.fde a)
  where
    go : (r : Result RowInstructions Fault) → IsDescribed (result_map_both (frame_with found) Table r)
    go (Ok run) = tt
    go (Err e) = tt

module _ (tables image : List Span) (grows : Grows tables image) where
  found_in_module : (a : ℕ) (m : Module) (t : ModuleTables) → HasTables tables t → frame_by_tables image a m t ≡ frame_by_tables tables a m t
  found_in_module a m (Elf info) has = ap (frame_by a) (found_stays tables image grows info a has)
  found_in_module a m (Macho t) has = absurd has
  found_in_module a m (Pe t) has = absurd has

  described_in_module : (a : ℕ) (m : Module) (t : ModuleTables) → HasTables tables t → IsDescribed (frame_by_tables image a m t)
  described_in_module a m (Elf info) has = described_by a (found_by info image a)
  described_in_module a m (Macho t) has = absurd has
  described_in_module a m (Pe t) has = absurd has

  frame_in_stays : (a : ℕ) (ms : List Module) → HaveTables tables ms → frame_in image a (module_at ms a) ≡ frame_in tables a (module_at ms a)
  frame_in_stays a [] have = refl
  frame_in_stays a (m ∷ ms) have = go (contains m a) (frame_in_stays a ms have.1)
    where
      go : (b : Bool) → frame_in image a (module_at ms a) ≡ frame_in tables a (module_at ms a) → frame_in image a (cond b (Some m) (module_at ms a)) ≡ frame_in tables a (cond b (Some m) (module_at ms a))
      go true later = found_in_module a m m.tables have.0
      go false later = later

  described_in : (a : ℕ) (ms : List Module) → HaveTables tables ms → IsDescribed (frame_in image a (module_at ms a))
  described_in a [] have = tt
  described_in a (m ∷ ms) have = go (contains m a) (described_in a ms have.1)
    where
      go : (b : Bool) → IsDescribed (frame_in image a (module_at ms a)) → IsDescribed (frame_in image a (cond b (Some m) (module_at ms a)))
      go true later = described_in_module a m m.tables have.0
      go false later = later

  module _ (space : SpaceValue) (have : HaveTables tables space.modules) (c : Context) (interrupted : Bool) where
    -- the frame at a context is that by the tables alone
    pub frame_stays : frame_of (over_image space image) c interrupted ≡ frame_of (over_image space tables) c interrupted
    unfolding frame_of
    frame_stays = ap (cond (eqb c.ra 0) (Ok None)) (frame_in_stays (address_of_call c.ra interrupted) space.modules have)

    described_frame : IsDescribed (frame_of (over_image space image) c interrupted)
    unfolding frame_of
    described_frame = go (eqb c.ra 0)
      where
        go : (b : Bool) → IsDescribed (cond b (Ok None) (frame_in image (address_of_call c.ra interrupted) (module_at space.modules (address_of_call c.ra interrupted))))
        go true = tt
        go false = described_in (address_of_call c.ra interrupted) space.modules have

-- ---- its caller

abbrev caller_seen : Bool → Result Columns StepFault → Result (Option Stepped) DeliverError
caller_seen signal r = result_map Some (result_map_both (next_with signal) refusal_of r)

-- a caller's context holds columns of registers alone
seen_below : (signal : Bool) (r : Result Columns StepFault) → caller_seen signal (result_map below r) ≡ caller_seen signal r
seen_below signal (Ok columns) = refl
seen_below signal (Err e) = refl

read_as_mapped : (signal : Bool) (r : Result Columns StepFault) → IsMapped (caller_seen signal r) → IsRead r
read_as_mapped signal (Ok columns) mapped = tt
read_as_mapped signal (Err (calls.Table e)) mapped = tt
read_as_mapped signal (Err (calls.Unmapped a)) mapped = mapped

module _ (part whole : List Span) (is_part : IsPartOf part whole) (c : Context) where
  caller_whole : (f : DescribedFrame) → IsMapped (caller_at part c (Some (Described f))) → caller_at whole c (Some (Described f)) ≡ caller_at part c (Some (Described f))
  caller_whole f mapped =
      let signal = f.found.fde.cie.letters.signal in
      let over_part : Result Columns StepFault = caller_of x86_64 (evaluation part) part (columns_of c) f.run in
      let over_whole : Result Columns StepFault = caller_of x86_64 (evaluation whole) whole (columns_of c) f.run in
      sym (seen_below signal over_whole)
      ∙ (ap (caller_seen signal) (caller_read part whole is_part x86_64 (columns_of c) f.run (read_as_mapped signal over_part mapped))
      ∙ seen_below signal over_part)

  caller_at_whole : (r : Result (Option FrameAt) DeliverError) → IsDescribed r → IsMapped (r >>= caller_at part c) → (r >>= caller_at whole c) ≡ (r >>= caller_at part c)
  caller_at_whole (Err e) described mapped = refl
  caller_at_whole (Ok None) described mapped = refl
  caller_at_whole (Ok (Some (Described f))) described mapped = caller_whole f mapped
  caller_at_whole (Ok (Some (Compact m listed))) described mapped = absurd described
  caller_at_whole (Ok (Some (Recorded m rva function))) described mapped = absurd described

-- ---- steps and walks

module _ (space : SpaceValue) (tables part whole : List Span) (have : HaveTables tables space.modules) (part_grows : Grows tables part) (whole_grows : Grows tables whole) (is_part : IsPartOf part whole) where
  -- a step that meets nothing unmapped
  pub step_whole : (c : Context) (interrupted : Bool) → IsMapped (step_of (over_image space part) c interrupted) → step_of (over_image space whole) c interrupted ≡ step_of (over_image space part) c interrupted
  unfolding step_of
  step_whole c interrupted mapped =
      ap (λ r. r >>= caller_at whole c) (frame_stays tables whole whole_grows space have c interrupted ∙ sym (frame_stays tables part part_grows space have c interrupted))
      ∙ caller_at_whole part whole is_part c (frame_of (over_image space part) c interrupted) (described_frame tables part part_grows space have c interrupted) mapped

  -- the step over the whole, by what the one over the part answers
  pub step_answer : (c : Context) (interrupted : Bool) (r : Result (Option Stepped) DeliverError) → step_of (over_image space part) c interrupted ≡ r → IsMapped r → step_of (over_image space whole) c interrupted ≡ r
  step_answer c interrupted r is mapped = step_whole c interrupted (subst (λ q. IsMapped q) (sym is) mapped) ∙ is

  -- a walk that meets nothing unmapped
  pub walk_whole : (limit : ℕ) (c : Context) (interrupted : Bool) → IsMapped (line_of (over_image space part) limit c interrupted) → line_of (over_image space whole) limit c interrupted ≡ line_of (over_image space part) limit c interrupted
  walk_whole zero c interrupted mapped = refl
  walk_whole (suc room) c interrupted mapped = go (step_of (over_image space part) c interrupted) refl mapped (walk_whole room)
    where
      in_rest : (r : Result (List Context) DeliverError) → IsMapped (with_first c r) → IsMapped r
      in_rest (Ok cs) mapped = tt
      in_rest (Err e) mapped = mapped

      go : (r : Result (Option Stepped) DeliverError) → step_of (over_image space part) c interrupted ≡ r → IsMapped (line_after c r (line_of (over_image space part) room)) →
          ((d : Context) (marked : Bool) → IsMapped (line_of (over_image space part) room d marked) → line_of (over_image space whole) room d marked ≡ line_of (over_image space part) room d marked) →
          line_after c (step_of (over_image space whole) c interrupted) (line_of (over_image space whole) room) ≡ line_after c r (line_of (over_image space part) room)
      go (Err e) is mapped outer = ap (λ r. line_after c r (line_of (over_image space whole) room)) (step_answer c interrupted (Err e) is mapped)
      go (Ok None) is mapped outer = ap (λ r. line_after c r (line_of (over_image space whole) room)) (step_answer c interrupted (Ok None) is tt)
      go (Ok (Some s)) is mapped outer =
          ap (λ r. line_after c r (line_of (over_image space whole) room)) (step_answer c interrupted (Ok (Some s)) is tt)
          ∙ ap (with_first c) (outer s.context s.signal (in_rest (line_of (over_image space part) room s.context s.signal) mapped))
