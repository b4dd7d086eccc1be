-- Where a walk is cut at its first state, registers that were popped there are kept; and nowhere else.
use Rattle.std.proofs.Common.{◌≡◌, ◌-◌, ◌≤◌, ◌==◌, inl, inr, ℕ, zero, suc, Bool, true, false, cond, ◌&&◌, List, [], ◌∷◌, length, take, drop, take_all, Option, Some, None, Result, Ok, Err, refl, sym, ap, subst, ◌∙◌, arith}
use Rattle.std.proofs.lemmas.Bool.{eqb-true}
use Rattle.std.specs.Prelude.{IsOk, MatchOption, get_or, map}
use Rattle.std.specs.List.{cons_option}
use Rattle.std.specs.Int.{w64, to_le_bytes}
use Rattle.memory_image.specs.declared.errors.ImageError.{ImageError}
use Rattle.memory_image.specs.Image.{Span, AddsRegion, IsLaidOut, holds, refusal, table_at, with_span}
use Rattle.memory_image.proofs.OverLemmas.{is_taken, over}
use Rattle.unwind_definitions.specs.Instructions.{Rule}
use Rattle.unwind_definitions.specs.LanguageSearch.{address_of_call}
use Rattle.unwind_arch.specs.declared.register.Register.{Register}
use Rattle.unwind_arch.specs.declared.x86_64.Context.{Context}
use Rattle.format_frames.specs.declared.machine.Stepped.{Stepped}
use Rattle.stack_steps.specs.declared.error.DeliverError.{DeliverError}
use Rattle.stack_steps.specs.declared.error.DeliverError.TheVariants.{NoMemory, FrameLimit, Unmapped, PassLimit, NoResume, Table, MachO, CompactForm, PeInfo, ChainLimit}
use Rattle.stack_steps.specs.Growing.{Grows, over_image}
use Rattle.stack_steps.specs.Modules.{SpaceValue}
use Rattle.stack_steps.specs.Stepping.{frame_of, step_of}
use Rattle.stack_walks.specs.declared.walk_end.EndReason.{EndReason}
use Rattle.stack_walks.specs.declared.walk_end.EndReason.TheVariants.{Outermost, NoModule, NoDescription, UnreadableTable, Refused, Limit}
use Rattle.stack_walks.specs.Lines.{line_after, line_of}
use Rattle.stack_walks.specs.WalkEnds.{ComesTo, EndsFor, Meets, caller_from, caller_in, contexts_to_end, reached_after, reached_by, start_state}
use Rattle.stack_walks.proofs.EndAnswers.{line_whole, one_front}
use Rattle.popped_registers.specs.declared.popped.PoppedRegister.{PoppedRegister}
use Rattle.popped_registers.specs.declared.walks.KeptWalk.{KeptWalk}
use Rattle.popped_registers.specs.KeptWalks.{IsKeptWalk, is_cut_at_start, is_unmapped}
use Rattle.popped_registers.specs.PoppedRegisters.{are_some, image_unless, image_with, kept_over, kept_space, popped_among, popped_at, popped_by, popped_in, popped_where}

-- ---- images that grow

-- one with a region more has grown, too
pub grows_on : (base image grown : List Span) (a : ℕ) (bytes : List ℕ) → Grows base image → AddsRegion image grown a bytes → Grows base grown
grows_on base image grown a bytes grows adds x some = go (holds (record { start = a; bytes = bytes }) x) refl (adds.tables x)
  where
    go : (b : Bool) → holds (record { start = a; bytes = bytes }) x ≡ b → table_at grown x ≡ cond b (drop (x - a) bytes) (table_at image x) → table_at grown x ≡ table_at base x
    go true at table = absurd (some (sym (grows x some) ∙ adds.fresh x at))
    go false at table = table ∙ grows x some

pub taken_with : (image grown : List Span) (a : ℕ) (bytes : List ℕ) (r : Result (List Span) ImageError) → r ≡ Ok grown → MatchOption (refusal image a bytes) (IsOk r) (λ e. r ≡ Err e) → AddsRegion image grown a bytes →
    grown ≡ image_with image a bytes
taken_with image grown a bytes r ok refused adds = go (refusal image a bytes) refused
  where
    go : (o : Option ImageError) → MatchOption o (IsOk r) (λ e. r ≡ Err e) → grown ≡ image_unless o (with_span (record { start = a; bytes = bytes }) image) image
    go None is = adds.spans
    go (Some e) is = let bad : ◌≡◌ {A = Result (List Span) ImageError} (Ok grown) (Err e) = sym ok ∙ is in absurd cc

abbrev made_err : ImageError → Result (List Span) ImageError
made_err e = Err e

not_ok : (e : ImageError) → IsOk (made_err e) → ⊥
not_ok e is = absurd cc

pub refused_with : (image : List Span) (a : ℕ) (bytes : List ℕ) (r : Result (List Span) ImageError) (e : ImageError) → r ≡ Err e → MatchOption (refusal image a bytes) (IsOk r) (λ e. r ≡ Err e) → image ≡ image_with image a bytes
refused_with image a bytes r e err refused = go (refusal image a bytes) refused
  where
    go : (o : Option ImageError) → MatchOption o (IsOk r) (λ e. r ≡ Err e) → image ≡ image_unless o (with_span (record { start = a; bytes = bytes }) image) image
    go None is = absurd (not_ok e (subst (λ (x : Result (List Span) ImageError). IsOk x) err is))
    go (Some e) is = refl

-- ---- images that stay laid out

-- with one region more, where it is taken
pub with_laid_out : (image : List Span) (a : ℕ) (bytes : List ℕ) → IsLaidOut 0 image → IsLaidOut 0 (image_with image a bytes)
with_laid_out image a bytes laid = go (refusal image a bytes) refl
  where
    go : (o : Option ImageError) → refusal image a bytes ≡ o → IsLaidOut 0 (image_unless o (with_span (record { start = a; bytes = bytes }) image) image)
    go None is = (over image a bytes laid (is_taken image a bytes is)).laid_out
    go (Some e) is = laid

slots_laid_out : (image : List Span) (ps : List PoppedRegister) → IsLaidOut 0 image → IsLaidOut 0 (kept_over image ps)
slots_laid_out image [] laid = laid
slots_laid_out image (p ∷ ps) laid = slots_laid_out (image_with image p.slot (to_le_bytes w64 p.word)) ps (with_laid_out image p.slot (to_le_bytes w64 p.word) laid)

pub kept_laid_out : (space : SpaceValue) (limit : ℕ) (c : Context) → IsLaidOut 0 space.image → IsLaidOut 0 (kept_over space.image (popped_in space limit c))
kept_laid_out space limit c laid = slots_laid_out space.image (popped_in space limit c) laid

-- ---- one register more

-- the first of some columns
pub among_more : (image : List Span) (c : Context) (rules : ℕ → Option Rule) (cfa : ℕ) (rs : List Register) (p : PoppedRegister) (found : Option PoppedRegister) (rule : Option Rule) → 1 ≤ length rs →
    found ≡ popped_by image c cfa (get_or rs 0 (record { 0 = 0 })).0 rule → rule ≡ rules (get_or rs 0 (record { 0 = 0 })).0 → found ≡ Some p →
    popped_among image c rules cfa (map (λ (r : Register). r.0) rs) ≡ p ∷ popped_among image c rules cfa (map (λ (r : Register). r.0) (take (length rs - 1) (drop 1 rs)))
among_more image c rules cfa [] p found rule some by ruled is = absurd (omega arith)
among_more image c rules cfa (r ∷ rs) p found rule some by ruled is =
    let first : popped_by image c cfa r.0 (rules r.0) ≡ Some p = sym (by ∙ ap (popped_by image c cfa r.0) ruled) ∙ is in
    ap (λ (o : Option PoppedRegister). cons_option o (popped_among image c rules cfa (map (λ (q : Register). q.0) rs))) first
    ∙ ap (λ (qs : List Register). p ∷ popped_among image c rules cfa (map (λ (q : Register). q.0) qs)) (sym (take_all (length (r ∷ rs) - 1) rs (omega arith)))

-- a walk over an image that keeps it
pub kept_one : (space : SpaceValue) (image grown : List Span) (p : PoppedRegister) (ps all : List PoppedRegister) (limit : ℕ) (c : Context) (visited : List Context) (walk : KeptWalk) → grown ≡ image_with image p.slot (to_le_bytes w64 p.word) → all ≡ p ∷ ps →
    IsKeptWalk (over_image space grown) ps limit c visited walk → IsKeptWalk (over_image space image) all limit c visited (record { why = walk.why; popped = true })
kept_one space image grown p ps all limit c visited walk grows is w =
    let kept : kept_over grown ps ≡ kept_over image all = ap (λ (g : List Span). kept_over g ps) grows ∙ sym (ap (kept_over image) is) in
    record {
      states = w.states ∙ ap (λ (g : List Span). contexts_to_end (over_image space g) limit c true) kept;
      why = subst (λ (g : List Span). ComesTo walk.why (over_image space g) limit c true) kept w.why;
      marked = sym (ap are_some is);
    }

-- ---- a walk that is cut at its first state

unmapped_is : (e : DeliverError) → is_unmapped e ≡ true → (a : ℕ) × (e ≡ Unmapped a)
unmapped_is (Unmapped a) is = (a, refl)
unmapped_is NoMemory is = absurd cc
unmapped_is FrameLimit is = absurd cc
unmapped_is PassLimit is = absurd cc
unmapped_is (NoResume pad) is = absurd cc
unmapped_is (Table f) is = absurd cc
unmapped_is (MachO f) is = absurd cc
unmapped_is CompactForm is = absurd cc
unmapped_is PeInfo is = absurd cc
unmapped_is ChainLimit is = absurd cc

both_true : (a b : Bool) → (a && b) ≡ true → (a ≡ true) × (b ≡ true)
both_true true true e = (refl, refl)
both_true true false e = absurd cc
both_true false b e = absurd cc

module _ (space : SpaceValue) where
  -- after a state with a caller, and at one without
  contexts_after : (room : ℕ) (c : Context) (s : Stepped) → step_of space c true ≡ Ok (Some s) → contexts_to_end space (suc room) c true ≡ c ∷ (reached_by (caller_from space) room s).contexts
  contexts_after room c s is = ap (λ r. (reached_after (start_state c true) (caller_in r) (reached_by (caller_from space) room)).contexts) is

  contexts_alone : (room : ℕ) (c : Context) (e : DeliverError) → step_of space c true ≡ Err e → contexts_to_end space (suc room) c true ≡ c ∷ []
  contexts_alone room c e is = ap (λ r. (reached_after (start_state c true) (caller_in r) (reached_by (caller_from space) room)).contexts) is

  some_reached : (room : ℕ) (s : Stepped) → (n : ℕ) × (length (reached_by (caller_from space) (suc room) s).contexts ≡ suc n)
  some_reached room s = go (caller_from space s)
    where
      go : (o : Option Stepped) → (n : ℕ) × (length (reached_after s o (reached_by (caller_from space) room)).contexts ≡ suc n)
      go None = (0, refl)
      go (Some next) = (length (reached_by (caller_from space) room next).contexts, refl)

  -- its step meets what isn't mapped
  cut_step : (limit : ℕ) (c : Context) (a : ℕ) (e : DeliverError) → Meets space (EndsFor (Refused a e) space) limit c true → length (contexts_to_end space limit c true) ≡ 1 →
      (room : ℕ) × (limit ≡ suc room) × (step_of space c true ≡ Err e)
  cut_step zero c a e met one = absurd met
  cut_step (suc room) c a e (inl is) one = (room, refl, is.1)
  cut_step (suc zero) c a e (inr met) one = absurd met.2
  cut_step (suc (suc room)) c a e (inr met) one =
      let more = some_reached room met.0 in
      let two : suc (length (reached_by (caller_from space) (suc room) met.0).contexts) ≡ 1 = sym (ap length (contexts_after (suc room) c met.0 met.1)) ∙ one in
      let some : length (reached_by (caller_from space) (suc room) met.0).contexts ≡ suc more.0 = more.1 in
      absurd (omega arith)

  -- so that what was popped is what the row at its frame says
  popped_unmapped : (room : ℕ) (c : Context) (a : ℕ) → step_of space c true ≡ Err (Unmapped a) → popped_in space (suc room) c ≡ popped_at space.image c (frame_of space c true)
  unfolding popped_in
  popped_unmapped room c a is = ap (λ r. popped_where r (popped_at space.image c (frame_of space c true))) is

  pub cut_popped : (limit : ℕ) (c : Context) (why : EndReason) → ComesTo why space limit c true → is_cut_at_start why (length (contexts_to_end space limit c true)) ≡ true →
      popped_in space limit c ≡ popped_at space.image c (frame_of space c true)
  cut_popped limit c (Refused a e) comes cut =
      let parts = both_true (is_unmapped e) (length (contexts_to_end space limit c true) == 1) cut in
      let fault = unmapped_is e parts.0 in
      let is = cut_step limit c a e comes (eqb-true (length (contexts_to_end space limit c true)) 1 parts.1) in
      ap (λ (l : ℕ). popped_in space l c) is.1 ∙ popped_unmapped is.0 c fault.0 (subst (λ (x : DeliverError). step_of space c true ≡ Err x) fault.1 is.2)
  cut_popped limit c Outermost comes cut = absurd cc
  cut_popped limit c (NoModule a) comes cut = absurd cc
  cut_popped limit c (NoDescription a) comes cut = absurd cc
  cut_popped limit c (UnreadableTable a offset e) comes cut = absurd cc
  cut_popped limit c Limit comes cut = absurd cc

  -- ---- any other walk

  none_popped : (r : Result (Option Stepped) DeliverError) (ps : List PoppedRegister) → ((a : ℕ) → r ≡ Err (Unmapped a) → ⊥) → popped_where r ps ≡ []
  none_popped (Ok next) ps other = refl
  none_popped (Err (Unmapped a)) ps other = absurd (other a refl)
  none_popped (Err NoMemory) ps other = refl
  none_popped (Err FrameLimit) ps other = refl
  none_popped (Err PassLimit) ps other = refl
  none_popped (Err (NoResume pad)) ps other = refl
  none_popped (Err (Table f)) ps other = refl
  none_popped (Err (MachO f)) ps other = refl
  none_popped (Err CompactForm) ps other = refl
  none_popped (Err PeInfo) ps other = refl
  none_popped (Err ChainLimit) ps other = refl

  -- nothing was popped
  pub uncut_popped : (limit : ℕ) (c : Context) (why : EndReason) → ComesTo why space limit c true → is_cut_at_start why (length (contexts_to_end space limit c true)) ≡ false → popped_in space limit c ≡ []
  unfolding popped_in
  uncut_popped zero c why comes uncut = refl
  uncut_popped (suc room) c why comes uncut = none_popped (step_of space c true) (popped_at space.image c (frame_of space c true)) other
    where
      other : (a : ℕ) → step_of space c true ≡ Err (Unmapped a) → ⊥
      other a fails =
          let refused : EndReason = Refused (address_of_call c.ra true) (Unmapped a) in
          let same : why ≡ refused = one_front space (suc room) (start_state c true) why refused comes (inl (refl, fails)) in
          let cut : is_cut_at_start why (length (contexts_to_end space (suc room) c true)) ≡ true =
          ap (λ (w : EndReason). is_cut_at_start w (length (contexts_to_end space (suc room) c true))) same
          ∙ ap (λ (cs : List Context). is_cut_at_start refused (length cs)) (contexts_alone room c (Unmapped a) fails) in
          let bad : true ≡ false = sym cut ∙ uncut in
          absurd cc

  pub whole_popped : (limit : ℕ) (c : Context) (states : List Context) → line_of space limit c true ≡ Ok states → popped_in space limit c ≡ []
  unfolding popped_in
  whole_popped zero c states whole = refl
  whole_popped (suc room) c states whole = none_popped (step_of space c true) (popped_at space.image c (frame_of space c true)) other
    where
      other : (a : ℕ) → step_of space c true ≡ Err (Unmapped a) → ⊥
      other a fails = no_line a (sym whole ∙ ap (λ r. line_after c r (line_of space room)) fails)
        where
          no_line : (a : ℕ) → ◌≡◌ {A = Result (List Context) DeliverError} (Ok states) (Err (Unmapped a)) → ⊥
          no_line a bad = absurd cc

  -- where nothing was popped nothing is kept
  pub unkept : (limit : ℕ) (c : Context) → popped_in space limit c ≡ [] → kept_space space limit c ≡ space
  unkept limit c none = ap (λ ps. over_image space (kept_over space.image ps)) none

  -- so a stack that is walked whole is walked so
  pub whole_kept : (limit : ℕ) (c : Context) (states : List Context) → line_of space limit c true ≡ Ok states → contexts_to_end (kept_space space limit c) limit c true ≡ states
  whole_kept limit c states whole =
      ap (λ s. contexts_to_end s limit c true) (unkept limit c (whole_popped limit c states whole)) ∙ line_whole space limit (start_state c true) states whole

  -- ---- the walk that keeps what was popped

  -- where the plain one is cut at its first state
  pub cut_kept : (limit : ℕ) (c : Context) (why : EndReason) (plain : List Context) (cut : Bool) (visited : List Context) (walk : KeptWalk) → plain ≡ contexts_to_end space limit c true → ComesTo why space limit c true →
      cut ≡ is_cut_at_start why (length plain) → cut ≡ true → IsKeptWalk space (popped_at space.image c (frame_of space c true)) limit c visited walk → IsKeptWalk space (popped_in space limit c) limit c visited walk
  cut_kept limit c why plain cut visited walk states comes is cuts kept =
      let at_start = ap (λ (cs : List Context). is_cut_at_start why (length cs)) (sym states) ∙ (sym is ∙ cuts) in
      subst (λ (ps : List PoppedRegister). IsKeptWalk space ps limit c visited walk) (sym (cut_popped limit c why comes at_start)) kept

  -- and where it isn't
  pub uncut_kept : (limit : ℕ) (c : Context) (why : EndReason) (plain : List Context) (cut : Bool) → plain ≡ contexts_to_end space limit c true → ComesTo why space limit c true →
      cut ≡ is_cut_at_start why (length plain) → cut ≡ false → IsKeptWalk space (popped_in space limit c) limit c plain (record { why = why; popped = false })
  uncut_kept limit c why plain cut states comes is goes_on =
      let further = ap (λ (cs : List Context). is_cut_at_start why (length cs)) (sym states) ∙ (sym is ∙ goes_on) in
      let same = sym (unkept limit c (uncut_popped limit c why comes further)) in
      record {
        states = states ∙ ap (λ (s : SpaceValue). contexts_to_end s limit c true) same;
        why = subst (λ (s : SpaceValue). ComesTo why s limit c true) same comes;
        marked = sym (ap are_some (uncut_popped limit c why comes further));
      }

  pub whole_walk : (limit : ℕ) (c : Context) (visited : List Context) (walk : KeptWalk) → IsKeptWalk space (popped_in space limit c) limit c visited walk → (states : List Context) → line_of space limit c true ≡ Ok states →
      (visited ≡ states) × (walk.popped ≡ false)
  whole_walk limit c visited walk kept states whole = (kept.states ∙ whole_kept limit c states whole, kept.marked ∙ ap are_some (whole_popped limit c states whole))
