use Rattle.std.proofs.Common.{◌≡◌, ◌∙◌, ◌+◌, ◌≤◌, length, sym, ap, arith, suc, drop}
use Rattle.std.proofs.lemmas.Option.{slice_get_past}
use Rattle.fde_finders.specs.ProgramHeaders.{plt_got}
use Rattle.fde_finders.proofs.Lasts.{got_ends, got_here, got_null, got_plt, got_other}
use Rattle.fde_finders.proofs.phdr.plt_got.Goals as goal

pub returns-then-entry-eq-DT_NULL : goal.returns-then-entry-eq-DT_NULL
returns-then-entry-eq-DT_NULL c =
    sym (ap plt_got (sym c.in_ok-entries.ensures.value) ∙ c.loop-i.invariant ∙ got_here c.in_ok-entries.entries c.loop-i.i c.in_ok-entry.entry (sym c.in_ok-entry.ensures)
    ∙ got_null c.in_ok-entry.entry (drop (suc c.loop-i.i) c.in_ok-entries.entries) c.if-entry-eq-DT_NULL.true)

pub returns-then-entry-eq-DT_PLTGOT : goal.returns-then-entry-eq-DT_PLTGOT
returns-then-entry-eq-DT_PLTGOT c =
    sym (ap plt_got (sym c.in_ok-entries.ensures.value) ∙ c.loop-i.invariant ∙ got_here c.in_ok-entries.entries c.loop-i.i c.in_ok-entry.entry (sym c.in_ok-entry.ensures)
    ∙ got_plt c.in_ok-entry.entry (drop (suc c.loop-i.i) c.in_ok-entries.entries) c.if-entry-eq-DT_PLTGOT.true)

pub loop-i-preserved : goal.loop-i-preserved
loop-i-preserved c =
    let one : suc c.loop-i.i ≡ c.loop-i.i + 1 = omega arith in
    c.loop-i.invariant ∙ got_here c.in_ok-entries.entries c.loop-i.i c.in_ok-entry.entry (sym c.in_ok-entry.ensures)
    ∙ got_other c.in_ok-entry.entry (drop (suc c.loop-i.i) c.in_ok-entries.entries) c.if-entry-eq-DT_NULL.false c.if-entry-eq-DT_PLTGOT.false
    ∙ ap (λ n. plt_got (drop n c.in_ok-entries.entries)) one

pub returns : goal.returns
returns c =
    let le : length c.in_ok-entries.entries ≤ c.loop-i.i = omega arith in
    sym (ap plt_got (sym c.in_ok-entries.ensures.value) ∙ c.loop-i.invariant ∙ got_ends c.in_ok-entries.entries c.loop-i.i (slice_get_past c.in_ok-entries.entries c.loop-i.i le))
