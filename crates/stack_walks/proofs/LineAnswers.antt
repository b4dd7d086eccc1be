-- When a line answers that the limit is met, and when that a slot isn't mapped.
use Rattle.std.proofs.Common.{inl, inr, ◌≡◌, ◌≢◌, ℕ, zero, suc, Bool, List, Option, Some, None, Result, Ok, Err, refl, ap, subst, ◌∙◌}
use Rattle.memory_image.specs.Image.{word_at}
use Rattle.unwind_arch.specs.declared.x86_64.Context.{Context}
use Rattle.format_frames.specs.declared.machine.Stepped.{Stepped}
use Rattle.stack_steps.specs.declared.error.DeliverError.{DeliverError}
use Rattle.stack_steps.specs.declared.error.DeliverError.TheVariants.{NoMemory, Unmapped, FrameLimit, PassLimit, NoResume, Table, MachO, CompactForm, PeInfo, ChainLimit}
use Rattle.stack_steps.specs.Modules.{SpaceValue}
use Rattle.stack_steps.specs.Stepping.{step_of}
use Rattle.stack_walks.specs.Lines.{with_first, line_after, line_of, NeedsMore}
use Rattle.stack_walks.specs.Walking.{StepFails}
use Rattle.stack_steps.proofs.StepAnswers.{IsStepError, step_errors, step_unmapped}

-- the faults that a walk or a pass may meet at a frame
abbrev pub IsStepFault : DeliverError → Type 0
IsStepFault (Table e) = Unit {0}
IsStepFault (Unmapped a) = Unit {0}
IsStepFault (MachO e) = Unit {0}
IsStepFault CompactForm = Unit {0}
IsStepFault PeInfo = Unit {0}
IsStepFault ChainLimit = Unit {0}
IsStepFault _ = ⊥

abbrev pub OnStepFault : {A : Type 0} → Result A DeliverError → Type 0
OnStepFault (Ok v) = Unit {0}
OnStepFault (Err e) = IsStepFault e

of_step : (e : DeliverError) → IsStepError e → IsStepFault e
of_step (Table e) is = tt
of_step (Unmapped a) is = tt
of_step (MachO e) is = tt
of_step CompactForm is = tt
of_step PeInfo is = tt
of_step ChainLimit is = tt
of_step NoMemory is = absurd is
of_step FrameLimit is = absurd is
of_step PassLimit is = absurd is
of_step (NoResume pad) is = absurd is

-- a step answers no other
pub step_faults : (space : SpaceValue) (c : Context) (interrupted : Bool) → OnStepFault (step_of space c interrupted)
step_faults space c interrupted = go (step_of space c interrupted) refl
  where
    go : (r : Result (Option Stepped) DeliverError) → step_of space c interrupted ≡ r → OnStepFault r
    go (Ok v) is = tt
    go (Err e) is = of_step e (step_errors space c interrupted e is)

first_limit : (c : Context) (r : Result (List Context) DeliverError) → with_first c r ≡ Err FrameLimit → r ≡ Err FrameLimit
first_limit c (Ok cs) e = absurd cc
first_limit c (Err x) e = cc

limit_first : (c : Context) (r : Result (List Context) DeliverError) → r ≡ Err FrameLimit → with_first c r ≡ Err FrameLimit
limit_first c r e = rw e refl

-- the limit is met exactly where more states are needed
pub line_limit : (space : SpaceValue) (room : ℕ) (c : Context) (interrupted : Bool) → line_of space room c interrupted ≡ Err FrameLimit → NeedsMore space room c interrupted
line_limit space zero c interrupted e = tt
line_limit space (suc room) c interrupted e = go (step_of space c interrupted) refl (step_faults space c interrupted) (λ s. line_limit space room s.context s.signal) e
  where
    go : (r : Result (Option Stepped) DeliverError) → step_of space c interrupted ≡ r → OnStepFault r → ((s : Stepped) → line_of space room s.context s.signal ≡ Err FrameLimit → NeedsMore space room s.context s.signal) →
        line_after c r (line_of space room) ≡ Err FrameLimit → NeedsMore space (suc room) c interrupted
    go (Ok None) is faults later e = absurd cc
    go (Ok (Some s)) is faults later e = (s, is, later s (first_limit c (line_of space room s.context s.signal) e))
    go (Err x) is faults later e = let same : x ≡ FrameLimit = cc in absurd (subst (λ (f : DeliverError). IsStepFault f) same faults)

pub limit_line : (space : SpaceValue) (room : ℕ) (c : Context) (interrupted : Bool) → NeedsMore space room c interrupted → line_of space room c interrupted ≡ Err FrameLimit
limit_line space zero c interrupted more = refl
limit_line space (suc room) c interrupted more = rw more.1 (limit_first c (line_of space room more.0.context more.0.signal) (limit_line space room more.0.context more.0.signal more.2))

first_unmapped : (c : Context) (r : Result (List Context) DeliverError) (b : ℕ) → with_first c r ≡ Err (Unmapped b) → r ≡ Err (Unmapped b)
first_unmapped c (Ok cs) b e = absurd cc
first_unmapped c (Err x) b e = cc

-- a line that answers an unmapped slot names one
pub line_unmapped : (space : SpaceValue) (room : ℕ) (c : Context) (interrupted : Bool) (b : ℕ) → line_of space room c interrupted ≡ Err (Unmapped b) → word_at space.image b ≡ None
line_unmapped space zero c interrupted b e = absurd cc
line_unmapped space (suc room) c interrupted b e = go (step_of space c interrupted) refl (λ s. line_unmapped space room s.context s.signal b) e
  where
    go : (r : Result (Option Stepped) DeliverError) → step_of space c interrupted ≡ r → ((s : Stepped) → line_of space room s.context s.signal ≡ Err (Unmapped b) → word_at space.image b ≡ None) →
        line_after c r (line_of space room) ≡ Err (Unmapped b) → word_at space.image b ≡ None
    go (Ok None) is later e = absurd cc
    go (Ok (Some s)) is later e = later s (first_unmapped c (line_of space room s.context s.signal) b e)
    go (Err x) is later e = let at : step_of space c interrupted ≡ Err (Unmapped b) = cc in step_unmapped space c interrupted b at

first_fault : (c : Context) (r : Result (List Context) DeliverError) (e : DeliverError) → with_first c r ≡ Err e → r ≡ Err e
first_fault c (Ok cs) e is = absurd cc
first_fault c (Err x) e is = cc

fault_first : (c : Context) (r : Result (List Context) DeliverError) (e : DeliverError) → r ≡ Err e → with_first c r ≡ Err e
fault_first c r e is = rw is refl

-- any other fault is that of the step from one of the states
pub line_fault : (space : SpaceValue) (room : ℕ) (c : Context) (interrupted : Bool) (e : DeliverError) → e ≢ FrameLimit → line_of space room c interrupted ≡ Err e → StepFails space room c interrupted e
line_fault space zero c interrupted e other is = let same : e ≡ FrameLimit = cc in absurd (other same)
line_fault space (suc room) c interrupted e other is = go (step_of space c interrupted) refl (λ s. line_fault space room s.context s.signal e other) is
  where
    go : (r : Result (Option Stepped) DeliverError) → step_of space c interrupted ≡ r → ((s : Stepped) → line_of space room s.context s.signal ≡ Err e → StepFails space room s.context s.signal e) →
        line_after c r (line_of space room) ≡ Err e → StepFails space (suc room) c interrupted e
    go (Ok None) steps later fails = absurd cc
    go (Ok (Some s)) steps later fails = inr (s, steps, later s (first_fault c (line_of space room s.context s.signal) e fails))
    go (Err x) steps later fails = let same : x ≡ e = cc in inl (steps ∙ ap Err same)

pub fault_line : (space : SpaceValue) (room : ℕ) (c : Context) (interrupted : Bool) (e : DeliverError) → StepFails space room c interrupted e → line_of space room c interrupted ≡ Err e
fault_line space zero c interrupted e fails = absurd fails
fault_line space (suc room) c interrupted e (inl fails) = rw fails refl
fault_line space (suc room) c interrupted e (inr later) = rw later.1 (fault_first c (line_of space room later.0.context later.0.signal) e (fault_line space room later.0.context later.0.signal e later.2))

-- no line is refused where memory runs out
fails_memory : (space : SpaceValue) (room : ℕ) (c : Context) (interrupted : Bool) → StepFails space room c interrupted NoMemory → ⊥
fails_memory space zero c interrupted fails = fails
fails_memory space (suc room) c interrupted (inl fails) = go (step_of space c interrupted) fails (step_faults space c interrupted)
  where
    go : (r : Result (Option Stepped) DeliverError) → r ≡ Err NoMemory → OnStepFault r → ⊥
    go (Ok v) e faults = absurd cc
    go (Err x) e faults = let same : x ≡ NoMemory = cc in subst (λ (f : DeliverError). IsStepFault f) same faults
fails_memory space (suc room) c interrupted (inr later) = fails_memory space room later.0.context later.0.signal later.2

pub line_memory : (space : SpaceValue) (room : ℕ) (c : Context) (interrupted : Bool) → line_of space room c interrupted ≢ Err NoMemory
line_memory space room c interrupted is = fails_memory space room c interrupted (line_fault space room c interrupted NoMemory (λ e. cc) is)
