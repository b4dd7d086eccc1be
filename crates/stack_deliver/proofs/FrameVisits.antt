-- The end of a pass at a described chain's end, and the contexts that enter a landing pad.
use Rattle.std.proofs.Common.{◌≡◌, ◌≢◌, ℕ, zero, suc, ◌<◌, false, List, [], ◌∷◌, length, get_or, set, Option, Some, None, Ok, refl, ap, ◌∙◌, arith}
use Rattle.std.proofs.lemmas.List.{get_or-set_same, get_or-set_other}
use Rattle.std.proofs.Math.ListN.{length-set}
use Rattle.memory_image.specs.Image.{IsLaidOut}
use Rattle.unwind_definitions.specs.State.{CalleeSaved, RBX, RBP, R12, R13, R14, R15, State, value_of, column_of, Shows}
use Rattle.unwind_definitions.specs.Function.{Function}
use Rattle.unwind_definitions.specs.Chain.{IsEnd}
use Rattle.format_definitions.specs.Modules.{IsUncoveredBy}
use Rattle.unwind_arch.specs.declared.x86_64.Context.{Context}
use Rattle.unwind_arch.specs.ContextViews.{columns_of}
use Rattle.stack_steps.specs.Modules.{AreApart, SpaceValue}
use Rattle.stack_steps.specs.SpaceViews.{formats_of}
use Rattle.stack_walks.specs.FrameVisits.{Pass, pass_of, enters, visit_for}
use Rattle.stack_steps.proofs.ContextLemmas.{IsWhole}
use Rattle.stack_walks.proofs.LineShows.{ends}

-- ---- the end of the stack

-- a pass ends there
pub pass_ends_at : (space : SpaceValue) → AreApart 0 space.modules → IsLaidOut 0 space.image → (functions : List Function) (c : Context) (s : State) (p : Pass) (room : ℕ) → 0 < room → Shows (columns_of c) s →
    IsEnd space.image (IsUncoveredBy space.image (formats_of space)) functions s →
    pass_of p space room c false ≡ Ok (record { contexts = c ∷ []; stop = None })
unfolding visit_for
pass_ends_at space apart laid functions c s p zero some shows end = absurd (omega arith)
pass_ends_at space apart laid functions c s p (suc n) some shows end =
    rw (ends space apart laid functions c s shows end) refl

-- ---- calls of a chain

-- at another return address
abbrev pub returning : State → ℕ → State
returning s ret = record s { ra = ret }

-- ---- contexts that enter a landing pad

module _ (c : Context) (s : State) (exception number pad : ℕ) (shows : Shows (columns_of c) s) where
  entered_at : (k : ℕ) → k ≢ 0 → k ≢ 1 → get_or (set (set c.registers 0 exception) 1 number) k 0 ≡ get_or c.registers k 0
  entered_at k not_rax not_rdx = get_or-set_other (set c.registers 0 exception) 1 k number 0 not_rdx ∙ get_or-set_other c.registers 0 k exception 0 not_rax

  abbrev some_number : ℕ → Option ℕ
  some_number n = Some n

  -- the state of the frame, at whatever return address
  pub entered_shows : (ret : ℕ) → Shows (columns_of (record (enters c exception number pad) { ra = ret })) (returning s ret)
  entered_shows ret = record {
    ra = refl;
    sp = ap some_number (entered_at 7 (λ e. cc) (λ e. cc)) ∙ shows.sp;
    saved = each;
  }
    where
      each : (r : CalleeSaved) → columns_of (record (enters c exception number pad) { ra = ret }) (column_of r) ≡ Some (value_of r (returning s ret))
      each RBX = ap some_number (entered_at 3 (λ e. cc) (λ e. cc)) ∙ shows.saved RBX
      each RBP = ap some_number (entered_at 6 (λ e. cc) (λ e. cc)) ∙ shows.saved RBP
      each R12 = ap some_number (entered_at 12 (λ e. cc) (λ e. cc)) ∙ shows.saved R12
      each R13 = ap some_number (entered_at 13 (λ e. cc) (λ e. cc)) ∙ shows.saved R13
      each R14 = ap some_number (entered_at 14 (λ e. cc) (λ e. cc)) ∙ shows.saved R14
      each R15 = ap some_number (entered_at 15 (λ e. cc) (λ e. cc)) ∙ shows.saved R15

  pub entered_sp : get_or (enters c exception number pad).registers 7 0 ≡ s.sp
  entered_sp = let e : Some (get_or c.registers 7 0) ≡ Some s.sp = shows.sp in let sp : get_or c.registers 7 0 ≡ s.sp = cc in entered_at 7 (λ e. cc) (λ e. cc) ∙ sp

  pub entered_rax : IsWhole c → get_or (enters c exception number pad).registers 0 0 ≡ exception
  entered_rax whole = get_or-set_other (set c.registers 0 exception) 1 0 number 0 (λ e. cc) ∙ get_or-set_same c.registers 0 exception 0 (omega arith)

  pub entered_rdx : IsWhole c → get_or (enters c exception number pad).registers 1 0 ≡ number
  entered_rdx whole = let long : length (set c.registers 0 exception) ≡ length c.registers = length-set c.registers 0 exception in get_or-set_same (set c.registers 0 exception) 1 number 0 (omega arith)
