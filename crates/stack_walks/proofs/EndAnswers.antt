-- How far a walk comes, and why, by its line.
use Rattle.std.proofs.Common.{inl, inr, ◌≡◌, ◌≢◌, ℕ, zero, suc, ◌≤◌, Bool, true, List, [], ◌∷◌, Option, Some, None, Result, Ok, Err, refl, sym, ap, subst, ◌∙◌, arith, take}
use Rattle.std.specs.Prelude.{◌⊎◌}
use Rattle.memory_image.specs.Image.{Span}
use Rattle.unwind_definitions.specs.declared.error.Error.{Error as Fault}
use Rattle.unwind_definitions.specs.Input.{Input}
use Rattle.unwind_definitions.specs.Pointers.{Bases}
use Rattle.unwind_definitions.specs.LanguageTable.{input_at}
use Rattle.unwind_definitions.specs.LanguageSearch.{address_of_call}
use Rattle.unwind_arch.specs.declared.x86_64.Context.{Context}
use Rattle.eh_frame.specs.Search.{NoneContains}
use Rattle.fde_finders.specs.declared.custom.FrameInfoKind.{FrameInfoKind}
use Rattle.fde_finders.specs.declared.custom.FrameInfoKind.TheVariants.{EhFrame, EhFrameHdr}
use Rattle.fde_finders.specs.Finding.{table_bases, relative_to}
use Rattle.format_frames.specs.declared.machine.Stepped.{Stepped}
use Rattle.stack_steps.specs.declared.error.DeliverError.{DeliverError}
use Rattle.stack_steps.specs.declared.error.DeliverError.TheVariants.{NoMemory, Unmapped, FrameLimit, PassLimit, NoResume, Table, MachO, CompactForm, PeInfo, ChainLimit}
use Rattle.stack_walks.specs.declared.walk_end.EndReason.{EndReason}
use Rattle.stack_walks.specs.declared.walk_end.EndReason.TheVariants.{Outermost, NoModule, NoDescription, UnreadableTable, Refused, Limit}
use Rattle.stack_steps.specs.declared.space.Module.{Module}
use Rattle.stack_steps.specs.Modules.{SpaceValue, module_at}
use Rattle.stack_steps.specs.Macho.{module_of as macho_of}
use Rattle.stack_steps.specs.Stepping.{step_of, FindsNoneIn, EndsAt}
use Rattle.stack_steps.specs.declared.space.ModuleTables.{ModuleTables}
use Rattle.stack_steps.specs.declared.space.ModuleTables.TheVariants.{Elf, Macho, Pe}
use Rattle.format_definitions.specs.CompactStep.{MachoModule}
use Rattle.stack_walks.specs.Lines.{with_first, line_after, line_of, NeedsMore}
use Rattle.stack_walks.specs.WalkEnds.{reached_after, reached_by, caller_in, caller_from, turned_from, IsReached, start_state, contexts_to_end, IsUnreadableAt, IsUndescribedIn, IsUnlisted, IsUndescribed, IsUnheld, IsUnlistedIn, IsUnknownIn, IsUnknown, EndsFor, stopped_by, Meets, ComesTo}
use Rattle.stack_walks.specs.declared.unwind.Stop.{Stop as CodeStop}
use Rattle.stack_walks.specs.Walking.{RoomValue, IsWalked}
use Rattle.stack_walks.specs.FrameVisits.{line_for}
use Rattle.stack_walks.specs.VisitViews.{IsUnwinding}
use Rattle.stack_walks.proofs.LineAnswers.{line_limit}
use Rattle.stack_walks.proofs.VisitLines.{walk_line, walked_by}
use Rattle.stack_walks.proofs.Reaching.{same_reached, turned_called}
use Rattle.stack_steps.proofs.StepAnswers.{step_ends, ends_step}
use Rattle.stack_walks.proofs.Unread.{one_unread, none_unread}

-- ---- the last context

module _ (space : SpaceValue) where
  -- where so many contexts lead
  abbrev pub last : ℕ → Context → Bool → Stepped
  last room c interrupted = (reached_by (caller_from space) room (start_state c interrupted)).state

  abbrev line_from : ℕ → Stepped → Result (List Context) DeliverError
  line_from room s = line_of space room s.context s.signal

  abbrev after : ℕ → Stepped → Option Stepped → Stepped
  after room s o = (reached_after s o (reached_by (caller_from space) room)).state

  first_limit : (c : Context) (r : Result (List Context) DeliverError) → r ≡ Err FrameLimit → with_first c r ≡ Err FrameLimit
  first_limit c r e = rw e refl

  first_fails : (c : Context) (r : Result (List Context) DeliverError) (e : DeliverError) → with_first c r ≡ Err e → r ≡ Err e
  first_fails c (Ok cs) e is = absurd cc
  first_fails c (Err x) e is = cc

  first_rest : (c : Context) (r : Result (List Context) DeliverError) (cs : List Context) → with_first c r ≡ Ok cs → (rest : List Context) × (r ≡ Ok rest) × (cs ≡ c ∷ rest)
  first_rest c (Ok rest) cs is = (rest, refl, cc)
  first_rest c (Err x) cs is = absurd cc

  -- what is so there is met, unless the limit is
  pub last_meets : (P : Context → Bool → Type 0) (room : ℕ) (s : Stepped) → line_from room s ≢ Err FrameLimit →
      P (reached_by (caller_from space) room s).state.context (reached_by (caller_from space) room s).state.signal → Meets space P room s.context s.signal
  last_meets P zero s more is = absurd (more refl)
  last_meets P (suc room) s more is = go (λ t. last_meets P room t) (step_of space s.context s.signal) refl more is
    where
      go : ((t : Stepped) → line_from room t ≢ Err FrameLimit → P (reached_by (caller_from space) room t).state.context (reached_by (caller_from space) room t).state.signal → Meets space P room t.context t.signal) →
          (r : Result (Option Stepped) DeliverError) → step_of space s.context s.signal ≡ r → line_after s.context r (line_of space room) ≢ Err FrameLimit →
          P (after room s (caller_in r)).context (after room s (caller_in r)).signal → Meets space P (suc room) s.context s.signal
      go later (Ok None) steps more is = inl is
      go later (Ok (Some t)) steps more is = inr (t, steps, later t (λ h. more (first_limit s.context (line_from room t) h)) is)
      go later (Err e) steps more is = inl is

  -- what is met, and has no caller, is so there
  pub meets_last : (P : Context → Bool → Type 0) → ((t : Stepped) → P t.context t.signal → caller_from space t ≡ None) → (room : ℕ) (s : Stepped) → Meets space P room s.context s.signal →
      P (reached_by (caller_from space) room s).state.context (reached_by (caller_from space) room s).state.signal
  meets_last P ends zero s met = absurd met
  meets_last P ends (suc room) s (inl is) = rw (ends s is) is
  meets_last P ends (suc room) s (inr met) = rw met.1 (meets_last P ends room met.0 met.2)

  -- a line has an end, or a fault
  pub line_ended : (room : ℕ) (s : Stepped) (cs : List Context) → line_from room s ≡ Ok cs →
      step_of space (reached_by (caller_from space) room s).state.context (reached_by (caller_from space) room s).state.signal ≡ Ok None
  line_ended zero s cs is = absurd cc
  line_ended (suc room) s cs is = go (λ t rest of_rest. line_ended room t rest of_rest) (step_of space s.context s.signal) refl is
    where
      go : ((t : Stepped) (rest : List Context) → line_from room t ≡ Ok rest → step_of space (reached_by (caller_from space) room t).state.context (reached_by (caller_from space) room t).state.signal ≡ Ok None) →
          (r : Result (Option Stepped) DeliverError) → step_of space s.context s.signal ≡ r → line_after s.context r (line_of space room) ≡ Ok cs →
          step_of space (after room s (caller_in r)).context (after room s (caller_in r)).signal ≡ Ok None
      go later (Ok None) steps is = steps
      go later (Ok (Some t)) steps is = let rest = first_rest s.context (line_from room t) cs is in later t rest.0 rest.1
      go later (Err e) steps is = absurd cc

  pub line_failed : (room : ℕ) (s : Stepped) (e : DeliverError) → e ≢ FrameLimit → line_from room s ≡ Err e →
      step_of space (reached_by (caller_from space) room s).state.context (reached_by (caller_from space) room s).state.signal ≡ Err e
  line_failed zero s e other is = let same : e ≡ FrameLimit = cc in absurd (other same)
  line_failed (suc room) s e other is = go (λ t of_rest. line_failed room t e other of_rest) (step_of space s.context s.signal) refl is
    where
      go : ((t : Stepped) → line_from room t ≡ Err e → step_of space (reached_by (caller_from space) room t).state.context (reached_by (caller_from space) room t).state.signal ≡ Err e) →
          (r : Result (Option Stepped) DeliverError) → step_of space s.context s.signal ≡ r → line_after s.context r (line_of space room) ≡ Err e →
          step_of space (after room s (caller_in r)).context (after room s (caller_in r)).signal ≡ Err e
      go later (Ok None) steps is = absurd cc
      go later (Ok (Some t)) steps is = later t (first_fails s.context (line_from room t) e is)
      go later (Err x) steps is = let same : x ≡ e = cc in steps ∙ ap (λ (f : DeliverError). refused f) same
        where
          refused : DeliverError → Result (Option Stepped) DeliverError
          refused f = Err f

  -- a line that has room for a shorter front begins with it
  pub line_front : (room longer : ℕ) (s : Stepped) (cs : List Context) → room ≤ longer → line_from longer s ≡ Ok cs → (reached_by (caller_from space) room s).contexts ≡ take room cs
  line_front zero longer s cs less is = refl
  line_front (suc room) zero s cs less is = absurd (omega arith)
  line_front (suc room) (suc longer) s cs less is = go (λ t rest of_rest. line_front room longer t rest (omega arith) of_rest) (step_of space s.context s.signal) is
    where
      alone : (n : ℕ) → s.context ∷ [] ≡ take (suc n) (s.context ∷ [])
      alone zero = refl
      alone (suc n) = refl

      go : ((t : Stepped) (rest : List Context) → line_from longer t ≡ Ok rest → (reached_by (caller_from space) room t).contexts ≡ take room rest) →
          (r : Result (Option Stepped) DeliverError) → line_after s.context r (line_of space longer) ≡ Ok cs → (reached_after s (caller_in r) (reached_by (caller_from space) room)).contexts ≡ take (suc room) cs
      go later (Ok None) is = let same : s.context ∷ [] ≡ cs = cc in subst (λ (l : List Context). s.context ∷ [] ≡ take (suc room) l) same (alone room)
      go later (Ok (Some t)) is =
          let rest = first_rest s.context (line_from longer t) cs is in
          rw rest.2 (ap (λ (l : List Context). s.context ∷ l) (later t rest.0 rest.1))
      go later (Err e) is = absurd cc

  -- a line is its whole front
  pub line_whole : (room : ℕ) (s : Stepped) (cs : List Context) → line_from room s ≡ Ok cs → (reached_by (caller_from space) room s).contexts ≡ cs
  line_whole zero s cs is = absurd cc
  line_whole (suc room) s cs is = go (λ t rest of_rest. line_whole room t rest of_rest) (step_of space s.context s.signal) is
    where
      go : ((t : Stepped) (rest : List Context) → line_from room t ≡ Ok rest → (reached_by (caller_from space) room t).contexts ≡ rest) →
          (r : Result (Option Stepped) DeliverError) → line_after s.context r (line_of space room) ≡ Ok cs → (reached_after s (caller_in r) (reached_by (caller_from space) room)).contexts ≡ cs
      go later (Ok None) is = cc
      go later (Ok (Some t)) is =
          let rest = first_rest s.context (line_from room t) cs is in
          rw rest.2 (ap (λ (l : List Context). s.context ∷ l) (later t rest.0 rest.1))
      go later (Err e) is = absurd cc

  -- where each of so many has a caller none is without one
  needs_none : (P : Context → Bool → Type 0) → ((t : Stepped) → P t.context t.signal → caller_from space t ≡ None) → (room : ℕ) (s : Stepped) → NeedsMore space room s.context s.signal → Meets space P room s.context s.signal → ⊥
  needs_none P ends zero s more met = met
  needs_none P ends (suc room) s more (inl is) =
      let none : caller_from space s ≡ None = ends s is in
      let some : caller_from space s ≡ Some more.0 = ap caller_in more.1 in
      let bad : ◌≡◌ {A = Option Stepped} None (Some more.0) = sym none ∙ some in absurd cc
  needs_none P ends (suc room) s more (inr met) =
      let same : ◌≡◌ {A = Result (Option Stepped) DeliverError} (Ok (Some met.0)) (Ok (Some more.0)) = sym met.1 ∙ more.1 in
      let next : met.0 ≡ more.0 = cc in
      needs_none P ends room more.0 more.2 (subst (λ (t : Stepped). Meets space P room t.context t.signal) next met.2)

-- ---- a reason is one

-- why nothing is known of an address, by its shape
abbrev Unlisted : Bases → Input → ℕ → EndReason → Type 0
Unlisted bases table a why = ((why ≡ NoDescription a) × NoneContains bases table a 0) ⊎ ((offset : ℕ) × (e : Fault) × (why ≡ UnreadableTable a offset e) × IsUnreadableAt bases table a 0 offset e)

unlisted : (bases : Bases) (table : Input) (a : ℕ) (why : EndReason) → IsUndescribedIn bases table a why → Unlisted bases table a why
unlisted bases table a Outermost is = absurd is
unlisted bases table a (NoModule b) is = absurd is
unlisted bases table a (NoDescription b) is = inl (ap (λ (n : ℕ). none n) is.0, is.1)
  where
    none : ℕ → EndReason
    none n = NoDescription n
unlisted bases table a (UnreadableTable b offset e) is = inr (offset, e, ap (λ (n : ℕ). unread n) is.0, is.1)
  where
    unread : ℕ → EndReason
    unread n = UnreadableTable n offset e
unlisted bases table a (Refused b e) is = absurd is
unlisted bases table a Limit is = absurd is

one_unlisted : (bases : Bases) (table : Input) (a : ℕ) (x y : EndReason) → Unlisted bases table a x → Unlisted bases table a y → x ≡ y
one_unlisted bases table a x y (inl p) (inl q) = p.0 ∙ sym q.0
one_unlisted bases table a x y (inl p) (inr q) = absurd (none_unread bases table 0 p.1.entries q.3.0.before q.3.0.offset q.1 p.1.are q.3.0.precede q.3.0.unread)
one_unlisted bases table a x y (inr p) (inl q) = absurd (none_unread bases table 0 q.1.entries p.3.0.before p.3.0.offset p.1 q.1.are p.3.0.precede p.3.0.unread)
one_unlisted bases table a x y (inr p) (inr q) =
    let one = one_unread bases table 0 p.3.0.before q.3.0.before p.3.0.offset q.3.0.offset p.1 q.1 p.3.0.precede p.3.0.unread q.3.0.precede q.3.0.unread in
    let place : p.0 ≡ q.0 = sym p.3.1 ∙ one.0 ∙ q.3.1 in
    p.2 ∙ ap (λ (n : ℕ). unread n p.1) place ∙ ap (λ (f : Fault). unread q.0 f) one.1 ∙ sym q.2
  where
    unread : ℕ → Fault → EndReason
    unread n f = UnreadableTable a n f

by_header : (bases : Bases) (image : List Span) (header a : ℕ) (why : EndReason) → IsUnlisted bases image header a why → why ≡ NoDescription a
by_header bases image header a Outermost is = absurd is
by_header bases image header a (NoModule b) is = absurd is
by_header bases image header a (NoDescription b) is = ap (λ (n : ℕ). none n) is.0
  where
    none : ℕ → EndReason
    none n = NoDescription n
by_header bases image header a (UnreadableTable b offset e) is = absurd is
by_header bases image header a (Refused b e) is = absurd is
by_header bases image header a Limit is = absurd is

one_undescribed : (image : List Span) (text : Option ℕ) (kind : FrameInfoKind) (a : ℕ) (x y : EndReason) → IsUndescribed image text kind a x → IsUndescribed image text kind a y → x ≡ y
one_undescribed image text (EhFrame frame) a x y p q =
    one_unlisted (table_bases text frame) (input_at image frame) a x y (unlisted (table_bases text frame) (input_at image frame) a x p) (unlisted (table_bases text frame) (input_at image frame) a y q)
one_undescribed image text (EhFrameHdr header) a x y p q = by_header (relative_to text None) image header a x p ∙ sym (by_header (relative_to text None) image header a y q)

unheld : (a : ℕ) (why : EndReason) → IsUnheld a why → why ≡ NoModule a
unheld a Outermost is = absurd is
unheld a (NoModule b) is = ap (λ (n : ℕ). none n) is
  where
    none : ℕ → EndReason
    none n = NoModule n
unheld a (NoDescription b) is = absurd is
unheld a (UnreadableTable b offset e) is = absurd is
unheld a (Refused b e) is = absurd is
unheld a Limit is = absurd is

one_unknown : (image : List Span) (o : Option Module) (a : ℕ) (x y : EndReason) → IsUnknown image o a x → IsUnknown image o a y → x ≡ y
one_unknown image None a x y p q = unheld a x p ∙ sym (unheld a y q)
one_unknown image (Some m) a x y p q = by_tables m.tables p q
  where
    unlisted_at : (n : MachoModule) (why : EndReason) → IsUnlistedIn image n a why → why ≡ NoDescription a
    unlisted_at n Outermost is = absurd is
    unlisted_at n (NoModule b) is = absurd is
    unlisted_at n (NoDescription b) is = ap (λ (k : ℕ). none k) is.0
      where
        none : ℕ → EndReason
        none k = NoDescription k
    unlisted_at n (UnreadableTable b offset e) is = absurd is
    unlisted_at n (Refused b e) is = absurd is
    unlisted_at n Limit is = absurd is

    by_tables : (tables : ModuleTables) → IsUnknownIn image m tables a x → IsUnknownIn image m tables a y → x ≡ y
    by_tables (Elf tables) p q = one_undescribed image tables.text_base tables.kind a x y p q
    by_tables (Macho tables) p q = unlisted_at (macho_of m tables) x p ∙ sym (unlisted_at (macho_of m tables) y q)
    by_tables (Pe tables) p q = absurd p

-- ---- a context has one end

-- the reasons by what they say of a context
abbrev Unframed : SpaceValue → Context → Bool → EndReason → Type 0
Unframed space c interrupted why = (c.ra ≢ 0) × (step_of space c interrupted ≡ Ok None) ×
    IsUnknown space.image (module_at space.modules (address_of_call c.ra interrupted)) (address_of_call c.ra interrupted) why

abbrev refused_at : Context → Bool → DeliverError → EndReason
refused_at c interrupted e = Refused (address_of_call c.ra interrupted) e

abbrev End : SpaceValue → Context → Bool → EndReason → Type 0
End space c interrupted why = ((why ≡ Outermost) × (c.ra ≡ 0)) ⊎ (Unframed space c interrupted why ⊎ ((e : DeliverError) × (why ≡ refused_at c interrupted e) × (step_of space c interrupted ≡ Err e)))

end_of : (why : EndReason) (space : SpaceValue) (c : Context) (interrupted : Bool) → EndsFor why space c interrupted → End space c interrupted why
end_of Outermost space c interrupted is = inl (refl, is)
end_of (NoModule a) space c interrupted is = inr (inl is)
end_of (NoDescription a) space c interrupted is = inr (inl is)
end_of (UnreadableTable a offset e) space c interrupted is = inr (inl is)
end_of (Refused a e) space c interrupted is = inr (inr (e, ap (λ (n : ℕ). refused n) is.0, is.1))
  where
    refused : ℕ → EndReason
    refused n = Refused n e
end_of Limit space c interrupted is = absurd is

end_steps : (space : SpaceValue) (c : Context) (interrupted : Bool) (why : EndReason) → End space c interrupted why →
    (step_of space c interrupted ≡ Ok None) ⊎ ((e : DeliverError) × (step_of space c interrupted ≡ Err e))
end_steps space c interrupted why (inl end) = inl (ends_step space c interrupted (inl end.1))
end_steps space c interrupted why (inr (inl end)) = inl end.1
end_steps space c interrupted why (inr (inr end)) = inr (end.0, end.2)

-- there is no caller
pub ends_for : (why : EndReason) (space : SpaceValue) (s : Stepped) → EndsFor why space s.context s.signal → caller_from space s ≡ None
ends_for why space s is = go (end_steps space s.context s.signal why (end_of why space s.context s.signal is))
  where
    go : (step_of space s.context s.signal ≡ Ok None) ⊎ ((e : DeliverError) × (step_of space s.context s.signal ≡ Err e)) → caller_from space s ≡ None
    go (inl none) = rw none refl
    go (inr fails) = rw fails.1 refl

no_fault : (space : SpaceValue) (c : Context) (interrupted : Bool) (e : DeliverError) → step_of space c interrupted ≡ Ok None → step_of space c interrupted ≡ Err e → ⊥
no_fault space c interrupted e none fails = let bad : ◌≡◌ {A = Result (Option Stepped) DeliverError} (Ok None) (Err e) = sym none ∙ fails in absurd cc

one_end : (space : SpaceValue) (c : Context) (interrupted : Bool) (x y : EndReason) → End space c interrupted x → End space c interrupted y → x ≡ y
one_end space c interrupted x y (inl p) (inl q) = p.0 ∙ sym q.0
one_end space c interrupted x y (inl p) (inr (inl q)) = absurd (q.0 p.1)
one_end space c interrupted x y (inl p) (inr (inr q)) = absurd (no_fault space c interrupted q.0 (ends_step space c interrupted (inl p.1)) q.2)
one_end space c interrupted x y (inr (inl p)) (inl q) = absurd (p.0 q.1)
one_end space c interrupted x y (inr (inl p)) (inr (inl q)) = one_unknown space.image (module_at space.modules (address_of_call c.ra interrupted)) (address_of_call c.ra interrupted) x y p.2 q.2
one_end space c interrupted x y (inr (inl p)) (inr (inr q)) = absurd (no_fault space c interrupted q.0 p.1 q.2)
one_end space c interrupted x y (inr (inr p)) (inl q) = absurd (no_fault space c interrupted p.0 (ends_step space c interrupted (inl q.1)) p.2)
one_end space c interrupted x y (inr (inr p)) (inr (inl q)) = absurd (no_fault space c interrupted p.0 q.1 p.2)
one_end space c interrupted x y (inr (inr p)) (inr (inr q)) =
    let both : ◌≡◌ {A = Result (Option Stepped) DeliverError} (Err p.0) (Err q.0) = sym p.2 ∙ q.2 in
    let same : p.0 ≡ q.0 = cc in
    p.1 ∙ ap (λ (e : DeliverError). refused_at c interrupted e) same ∙ sym q.1

-- ---- a walk has one end

-- it meets a limit, or a context where it ends
abbrev Come : EndReason → SpaceValue → ℕ → Stepped → Type 0
Come why space limit s = ((why ≡ Limit) × NeedsMore space limit s.context s.signal) ⊎ Meets space (EndsFor why space) limit s.context s.signal

come : (why : EndReason) (space : SpaceValue) (limit : ℕ) (s : Stepped) → ComesTo why space limit s.context s.signal → Come why space limit s
come Outermost space limit s is = inr is
come (NoModule a) space limit s is = inr is
come (NoDescription a) space limit s is = inr is
come (UnreadableTable a offset e) space limit s is = inr is
come (Refused a e) space limit s is = inr is
come Limit space limit s is = inl (refl, is)

pub one_front : (space : SpaceValue) (limit : ℕ) (s : Stepped) (x y : EndReason) → ComesTo x space limit s.context s.signal → ComesTo y space limit s.context s.signal → x ≡ y
one_front space limit s x y p q = go (come x space limit s p) (come y space limit s q)
  where
    ended : (why : EndReason) → Meets space (EndsFor why space) limit s.context s.signal →
        End space (reached_by (caller_from space) limit s).state.context (reached_by (caller_from space) limit s).state.signal why
    ended why met = end_of why space _ _ (meets_last space (EndsFor why space) (λ t is. ends_for why space t is) limit s met)

    go : Come x space limit s → Come y space limit s → x ≡ y
    go (inl p) (inl q) = p.0 ∙ sym q.0
    go (inl p) (inr q) = absurd (needs_none space (EndsFor y space) (λ t is. ends_for y space t is) limit s p.1 q)
    go (inr p) (inl q) = absurd (needs_none space (EndsFor x space) (λ t is. ends_for x space t is) limit s q.1 p)
    go (inr p) (inr q) = one_end space _ _ x y (ended x p) (ended y q)

-- what ends it is met, unless the limit is
pub comes : (why : EndReason) (space : SpaceValue) (limit : ℕ) (s : Stepped) → line_of space limit s.context s.signal ≢ Err FrameLimit →
    EndsFor why space (reached_by (caller_from space) limit s).state.context (reached_by (caller_from space) limit s).state.signal → ComesTo why space limit s.context s.signal
comes Outermost space limit s more is = last_meets space (EndsFor Outermost space) limit s more is
comes (NoModule a) space limit s more is = last_meets space (EndsFor (NoModule a) space) limit s more is
comes (NoDescription a) space limit s more is = last_meets space (EndsFor (NoDescription a) space) limit s more is
comes (UnreadableTable a offset e) space limit s more is = last_meets space (EndsFor (UnreadableTable a offset e) space) limit s more is
comes (Refused a e) space limit s more is = last_meets space (EndsFor (Refused a e) space) limit s more is
comes Limit space limit s more is = absurd is

-- ---- what the way outwards leaves of a walk

-- where a step finds no frame at an address that a module holds, its tables find nothing
pub held_finds_none : (space : SpaceValue) (c : Context) (interrupted : Bool) (m : Module) (a : ℕ) → c.ra ≢ 0 → step_of space c interrupted ≡ Ok None → a ≡ address_of_call c.ra interrupted →
    Some m ≡ module_at space.modules a → FindsNoneIn space.image m m.tables a
held_finds_none space c interrupted m a returns none at_call holds = go (step_ends space c interrupted none)
  where
    go : EndsAt space c interrupted → FindsNoneIn space.image m m.tables a
    go (inl outermost) = absurd (returns outermost)
    go (inr ends) =
        let held : Some m ≡ module_at space.modules (address_of_call c.ra interrupted) = rw at_call at holds in
        let found : FindsNoneIn space.image m m.tables (address_of_call c.ra interrupted) = rw (← held) at ends.1 in
        rw at_call found

module _ (space : SpaceValue) (limit : ℕ) (c : Context) (interrupted : Bool) (room : RoomValue) (state : Stepped)
    (reached : IsReached true room state (reached_by (turned_from None space) limit (start_state c interrupted))) where
  walk_reached : IsReached true room state (reached_by (caller_from space) limit (start_state c interrupted))
  walk_reached = subst (IsReached true room state) (same_reached (turned_from None space) (caller_from space) (turned_called space) limit (start_state c interrupted)) reached

  -- the contexts
  pub walk_states : room.visited ≡ contexts_to_end space limit c interrupted
  walk_states = walk_reached.0

  module _ (result : Result (Option CodeStop) DeliverError) (out : IsUnwinding true result room state (line_for None space limit c interrupted)) where
    line : IsWalked result room (line_of space limit c interrupted)
    line = walked_by result room state (line_for None space limit c interrupted) (line_of space limit c interrupted) out (walk_line space limit c interrupted)

    -- the end of the stack
    pub walk_ends : (stop : Option CodeStop) → result ≡ Ok stop → step_of space state.context state.signal ≡ Ok None
    walk_ends stop is =
        let ended : line_of space limit c interrupted ≡ Ok room.visited = rw is at line in
        rw walk_reached.1 (line_ended space limit (start_state c interrupted) room.visited ended)

    pub walk_ends_for : (stop : Option CodeStop) → result ≡ Ok stop → (why : EndReason) → EndsFor why space state.context state.signal → ComesTo why space limit c interrupted
    walk_ends_for stop is why ends =
        let ended : line_of space limit c interrupted ≡ Ok room.visited = rw is at line in
        comes why space limit (start_state c interrupted) (λ h. never (sym ended ∙ h)) (rw walk_reached.1 at ends)
      where
        never : ◌≡◌ {A = Result (List Context) DeliverError} (Ok room.visited) (Err FrameLimit) → ⊥
        never bad = absurd cc

    -- the limit
    pub walk_limit : result ≡ Err FrameLimit → NeedsMore space limit c interrupted
    walk_limit is =
        let met : line_of space limit c interrupted ≡ Err FrameLimit = rw is at line in
        line_limit space limit c interrupted met

    -- a fault
    pub walk_fails : (e : DeliverError) → result ≡ Err e → e ≢ FrameLimit → (a : ℕ) → a ≡ address_of_call state.context.ra state.signal → Meets space (EndsFor (Refused a e) space) limit c interrupted
    walk_fails e is other a at_call =
        let failed : line_of space limit c interrupted ≡ Err e = rw is at line in
        let steps : step_of space state.context state.signal ≡ Err e = rw walk_reached.1 (line_failed space limit (start_state c interrupted) e other failed) in
        let ends : EndsFor (Refused a e) space state.context state.signal = (at_call, steps) in
        comes (Refused a e) space limit (start_state c interrupted) (λ h. other (same (sym failed ∙ h))) (rw walk_reached.1 at ends)
      where
        same : ◌≡◌ {A = Result (List Context) DeliverError} (Err e) (Err FrameLimit) → e ≡ FrameLimit
        same h = cc

    -- either
    pub walk_stops : (e : DeliverError) → result ≡ Err e → (a : ℕ) → a ≡ address_of_call state.context.ra state.signal → ComesTo (stopped_by a e) space limit c interrupted
    walk_stops FrameLimit is a at_call = walk_limit is
    walk_stops NoMemory is a at_call = walk_fails NoMemory is (λ h. cc) a at_call
    walk_stops (Unmapped b) is a at_call = walk_fails (Unmapped b) is (λ h. cc) a at_call
    walk_stops PassLimit is a at_call = walk_fails PassLimit is (λ h. cc) a at_call
    walk_stops (NoResume pad) is a at_call = walk_fails (NoResume pad) is (λ h. cc) a at_call
    walk_stops (Table f) is a at_call = walk_fails (Table f) is (λ h. cc) a at_call
    walk_stops (MachO f) is a at_call = walk_fails (MachO f) is (λ h. cc) a at_call
    walk_stops CompactForm is a at_call = walk_fails CompactForm is (λ h. cc) a at_call
    walk_stops PeInfo is a at_call = walk_fails PeInfo is (λ h. cc) a at_call
    walk_stops ChainLimit is a at_call = walk_fails ChainLimit is (λ h. cc) a at_call
