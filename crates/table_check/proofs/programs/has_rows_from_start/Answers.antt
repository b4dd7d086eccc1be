use Rattle.std.proofs.Common.{ℕ, ◌-◌, ◌≤◌, Option, sym, subst, ◌∙◌, inl, inr, arith}
use Rattle.std.specs.Prelude.{MatchOption}
use Rattle.std.proofs.lemmas.Bool.{cases_lt}
use Rattle.unwind_definitions.specs.Entries.{coding_of}
use Rattle.encoded_pointers.specs.PointerViews.{bases_of}
use Rattle.eh_frame.specs.EntryViews.{fde_of}
use Rattle.eh_frame.specs.Walked.{due_row}
use Rattle.frame_rows.specs.Walks.{IsBefore, end_of}
use Rattle.table_check.specs.ClaimViews.{function_of}
use Rattle.table_check.specs.Running.{IsRunning, next_end_of}
use Rattle.table_check.proofs.Deciding.{decides_no, decides_not, decides_yes}
use Rattle.table_check.proofs.Quiet.{all_fit, fit_all, fits_on}
use Rattle.table_check.proofs.Runs.{runs_longer}
use Rattle.table_check.proofs.WalkEnds.{before_end, before_next, before_other, is_end}
use Rattle.table_check.proofs.programs.has_rows_from_start.Goals as goal

pub loop-pc-init : goal.loop-pc-init
loop-pc-init c =
    let fde = fde_of c.args.fde.now in
    let coding = coding_of (bases_of c.args.bases.now) fde.cie in
    let due = due_row (bases_of c.args.bases.now) fde in
    let walking = c.begin_rows.ensures in
    let start = c.requires.start in let end = c.requires.end in
    let first : ℕ = c.args.claim.now.start in (
      fde.start,
      walking,
      omega (arith, start),
      subst (λ n. IsBefore n (end_of c.begin_rows.new.walk)) start (before_end c.begin_rows.new.walk coding fde.start due walking),
      omega arith,
      omega (arith, start, end),
      runs_longer c.args.running.now 0 (first - first) c.args.claim.now.steps.items (omega arith) c.requires.running,
      λ a low high. absurd (omega (arith, low, high)),
    )

pub returns-then-not-fits_at : goal.returns-then-not-fits_at
returns-then-not-fits_at c =
    let bases = bases_of c.args.bases.now in
    let f = function_of c.args.claim.now in
    let fde = fde_of c.args.fde.now in
    let inv = c.loop-pc.invariant in
    decides_no (λ rows. decides_not c.fits_at.result (c.fits_at.ensures (coding_of bases fde.cie) inv.0 c.loop-pc.pc (due_row bases fde) inv.1 inv.2 inv.3) c.if-not-fits_at.true
    (fit_all bases f fde c.requires.start c.requires.end c.requires.function rows c.loop-pc.pc inv.4 c.loop-pc-test.true))

pub returns : goal.returns
returns c =
    let bases = bases_of c.args.bases.now in
    let f = function_of c.args.claim.now in
    let fde = fde_of c.args.fde.now in
    let inv = c.loop-pc.invariant in
    let done = c.loop-pc-test.false in
    decides_yes (all_fit bases f fde c.requires.start c.requires.end c.requires.function (λ pc low high. inv.7 pc low (omega (arith, high, done))))

pub loop-pc-preserved-then-eq : goal.loop-pc-preserved-then-eq
loop-pc-preserved-then-eq c =
    let bases = bases_of c.args.bases.now in
    let f = function_of c.args.claim.now in
    let fde = fde_of c.args.fde.now in
    let inv = c.loop-pc.invariant in
    let pc = c.loop-pc.pc in
    let next = c.next_change-pc.result in
    let ahead = c.next_change-pc.ensures.ahead in
    let low = inv.4 in
    let from = inv.2 in
    let end = sym c.end.ensures.end ∙ is_end c.end.result next (sym c.eq.ensures ∙ c.if-eq.true) in
    let walking = c.go_on.ensures inv.0 next (due_row bases fde) inv.1 end in (
      next,
      walking,
      omega arith,
      before_end c.go_on.new.walk (coding_of bases fde.cie) next (due_row bases fde) walking,
      omega (arith, ahead, low),
      c.next_change-pc.ensures.inside,
      runs_longer c.run_to.new.self (pc - c.args.claim.now.start) (next - c.args.claim.now.start) c.args.claim.now.steps.items (omega (arith, ahead))
          (subst (IsRunning c.run_to.new.self (pc - c.args.claim.now.start)) c.deref.ensures.value c.run_to.ensures.running),
      λ a start below. elim (cases_lt a pc) [
        | inl before ↦ inv.7 a start before
        | inr after ↦ fits_on f pc next a (due_row bases fde a) after below low c.next_change-pc.ensures.inside c.next_change-pc.ensures.quiet
            ((c.fits_at.ensures (coding_of bases fde.cie) inv.0 a (due_row bases fde) inv.1 (omega (arith, from, after)) (before_next (end_of c.loop-pc.walk) a next below c.next_change-pc.ensures.row)).0 c.if-not-fits_at.false)
      ],
    )

pub loop-pc-preserved : goal.loop-pc-preserved
loop-pc-preserved c =
    let bases = bases_of c.args.bases.now in
    let f = function_of c.args.claim.now in
    let fde = fde_of c.args.fde.now in
    let inv = c.loop-pc.invariant in
    let pc = c.loop-pc.pc in
    let next = c.next_change-pc.result in
    let ahead = c.next_change-pc.ensures.ahead in
    let low = inv.4 in
    let from = inv.2 in (
      inv.0,
      inv.1,
      omega (arith, from, ahead),
      subst (IsBefore next) c.end.ensures.end (before_other c.end.result next (subst (λ (e : Option ℕ). MatchOption e (Unit {0}) (λ x. next ≤ x)) (sym c.end.ensures.end) c.next_change-pc.ensures.row) (sym c.eq.ensures ∙ c.if-eq.false)),
      omega (arith, ahead, low),
      c.next_change-pc.ensures.inside,
      runs_longer c.run_to.new.self (pc - c.args.claim.now.start) (next - c.args.claim.now.start) c.args.claim.now.steps.items (omega (arith, ahead))
          (subst (IsRunning c.run_to.new.self (pc - c.args.claim.now.start)) c.deref.ensures.value c.run_to.ensures.running),
      λ a start below. elim (cases_lt a pc) [
        | inl before ↦ inv.7 a start before
        | inr after ↦ fits_on f pc next a (due_row bases fde a) after below low c.next_change-pc.ensures.inside c.next_change-pc.ensures.quiet
            ((c.fits_at.ensures (coding_of bases fde.cie) inv.0 a (due_row bases fde) inv.1 (omega (arith, from, after)) (before_next (end_of c.loop-pc.walk) a next below c.next_change-pc.ensures.row)).0 c.if-not-fits_at.false)
      ],
    )

pub next_change-pc-requires-clause-running : goal.next_change-pc-requires-clause-running
next_change-pc-requires-clause-running c = subst (IsRunning c.run_to.new.self (c.loop-pc.pc - c.args.claim.now.start)) c.deref.ensures.value c.run_to.ensures.running

pub next_change-pc-requires-clause-step : goal.next_change-pc-requires-clause-step
next_change-pc-requires-clause-step c = subst (λ steps. IsBefore (c.loop-pc.pc - c.args.claim.now.start) (next_end_of c.run_to.new.self steps)) c.deref.ensures.value c.run_to.ensures.ahead
