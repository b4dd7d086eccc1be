use Rattle.std.proofs.Common.{ℕ, None, length, map, take, refl, sym, ap, ◌∙◌, subst, arith}
use Rattle.unwind_definitions.specs.Instructions.{Coding, Program, program}
use Rattle.encoded_pointers.specs.CursorViews.{at}
use Rattle.frame_rows.specs.FirstRows.{IsRowAt}
use Rattle.frame_rows.specs.InstructionViews.{coding_in}
use Rattle.frame_rows.specs.KeptRows.{IsLonger, KeptRows}
use Rattle.frame_rows.specs.TableRows.{kept_in}
use Rattle.frame_rows.specs.declared.body_run.BodyRun.{BodyRun as Walker}
use Rattle.frame_rows.proofs.Parts.{as_long}
use Rattle.frame_rows.proofs.RunAdds.{begins_run, fits_in, longer_by, none_added, whole_in}
use Rattle.frame_rows.proofs.RunSteps.{bodied_longer, grows_on}
use Rattle.frame_rows.proofs.row_table.RowTable.add_run.Goals as goal

pub returns-in_err-place-clause-grows : goal.returns-in_err-place-clause-grows
returns-in_err-place-clause-grows c = rw (sym c.self.view_is)
    (longer_by c.self.inside.bodies c.place_of.new.bodies c.in_err-place.ensures.grows c.self.inside.rows.items c.self.invariant.bodied c.self.inside.row_count c.self.inside.rule_count c.self.inside.rows.items refl)

pub run_bodies-ended-requires-clause-bodied : goal.run_bodies-ended-requires-clause-bodied
run_bodies-ended-requires-clause-bodied c = bodied_longer c.self.inside.bodies c.place_of.new.bodies c.in_ok-place.ensures.grows c.self.inside.rows.items c.self.invariant.bodied

pub returns-in-Ok-Past-clause-grows : goal.returns-in-Ok-Past-clause-grows
returns-in-Ok-Past-clause-grows c =
    let g = grows_on c.self.inside.bodies c.place_of.new.bodies c.run_bodies-ended.new.bodies c.in_ok-place.ensures.grows c.run_bodies-ended.ensures.grows in
    rw (sym c.self.view_is)
    (longer_by c.self.inside.bodies c.run_bodies-ended.new.bodies g c.self.inside.rows.items c.self.invariant.bodied c.self.inside.row_count c.self.inside.rule_count c.run_bodies-ended.new.rows.items (c.run_bodies-ended.ensures.before (length c.self.inside.rows.items) (omega arith)))

pub returns-in-Ok-Ended-clause-grows : goal.returns-in-Ok-Ended-clause-grows
returns-in-Ok-Ended-clause-grows c =
    let g = grows_on c.self.inside.bodies c.place_of.new.bodies c.run_bodies-ended.new.bodies c.in_ok-place.ensures.grows c.run_bodies-ended.ensures.grows in
    rw (sym c.self.view_is)
    (longer_by c.self.inside.bodies c.run_bodies-ended.new.bodies g c.self.inside.rows.items c.self.invariant.bodied c.self.inside.row_count c.self.inside.rule_count c.run_bodies-ended.new.rows.items (c.run_bodies-ended.ensures.before (length c.self.inside.rows.items) (omega arith)))

pub returns-in-Ok-Past-clause-runs : goal.returns-in-Ok-Past-clause-runs
returns-in-Ok-Past-clause-runs c common first m ran rep isrow isat =
    let k : Coding = coding_in c.args.coding in
    let own : Program = program k (at c.args.own) in
    let b = c.self.inside.bodies in
    let old : KeptRows = record { rows = map (kept_in b) c.self.inside.rows.items; row_count = c.self.inside.row_count; rule_count = c.self.inside.rule_count } in
    let run : Walker = record { rest = c.bytes.result; location = c.args.start; place = c.in_ok-place.place; first = c.in_ok-place.place; remembered = None; rule_count = c.self.inside.rule_count } in
    let there : IsRowAt old.rows c.args.first_row c.args.row = subst (λ (t : KeptRows). IsRowAt t.rows c.args.first_row c.args.row) (sym c.self.view_is) isat in
    let says = c.in_ok-place.ensures.says (rw c.deref.ensures.value there) in
    let begun = begins_run b c.place_of.new.bodies c.in_ok-place.ensures.grows c.self.inside.rows.items c.self.invariant.bodied c.self.inside.row_count c.self.inside.rule_count c.args.start c.args.end common k (at c.args.own) first ran c.requires m rep c.args.row isrow run says refl refl refl c.bytes.ensures refl in
    let past = rw c.in-Ok-Past.is at c.in-Ok-Past.field-0-is in
    let ended = rw (c.in-Ok-Past.is, past) at (c.run_bodies-ended.ensures.runs common own old first ran begun) in
    let g = grows_on b c.place_of.new.bodies c.run_bodies-ended.new.bodies c.in_ok-place.ensures.grows c.run_bodies-ended.ensures.grows in
    let before = c.len-before.ensures ∙ c.self.inside.rows.ok.0 in
    let after = c.len.ensures ∙ c.run_bodies-ended.new.rows.ok.0 in
    rw (sym c.self.view_is)
    (fits_in b c.run_bodies-ended.new.bodies g c.self.inside.rows.items c.self.invariant.bodied c.self.inside.row_count c.self.inside.rule_count c.args.start c.args.end common own c.args.limits c.run_bodies-ended.new.rows.items _ c.run_bodies-ended.new.run.rule_count ended (omega arith) (c.fit.ensures.rows c.if-fit.true) (c.fit.ensures.rules c.if-fit.true))

pub returns-in-Ok-Ended-clause-runs : goal.returns-in-Ok-Ended-clause-runs
returns-in-Ok-Ended-clause-runs c common first m ran rep isrow isat =
    let k : Coding = coding_in c.args.coding in
    let own : Program = program k (at c.args.own) in
    let b = c.self.inside.bodies in
    let old : KeptRows = record { rows = map (kept_in b) c.self.inside.rows.items; row_count = c.self.inside.row_count; rule_count = c.self.inside.rule_count } in
    let run : Walker = record { rest = c.bytes.result; location = c.args.start; place = c.in_ok-place.place; first = c.in_ok-place.place; remembered = None; rule_count = c.self.inside.rule_count } in
    let there : IsRowAt old.rows c.args.first_row c.args.row = subst (λ (t : KeptRows). IsRowAt t.rows c.args.first_row c.args.row) (sym c.self.view_is) isat in
    let says = c.in_ok-place.ensures.says (rw c.deref.ensures.value there) in
    let begun = begins_run b c.place_of.new.bodies c.in_ok-place.ensures.grows c.self.inside.rows.items c.self.invariant.bodied c.self.inside.row_count c.self.inside.rule_count c.args.start c.args.end common k (at c.args.own) first ran c.requires m rep c.args.row isrow run says refl refl refl c.bytes.ensures refl in
    let over = rw c.in-Ok-Ended.is at c.in-Ok-Ended.field-0-is in
    let ended = rw (c.in-Ok-Ended.is, over) at (c.run_bodies-ended.ensures.runs common own old first ran begun) in
    let g = grows_on b c.place_of.new.bodies c.run_bodies-ended.new.bodies c.in_ok-place.ensures.grows c.run_bodies-ended.ensures.grows in
    let before = c.len-before.ensures ∙ c.self.inside.rows.ok.0 in
    let after = c.len.ensures ∙ c.run_bodies-ended.new.rows.ok.0 in
    rw (sym c.self.view_is) (
      fits_in b c.run_bodies-ended.new.bodies g c.self.inside.rows.items c.self.invariant.bodied c.self.inside.row_count c.self.inside.rule_count c.args.start c.args.end common own c.args.limits c.run_bodies-ended.new.rows.items _ c.run_bodies-ended.new.run.rule_count ended.0 (omega arith) (c.if-fit-2.ensures.rows refl) (c.if-fit-2.ensures.rules refl),
      whole_in b c.run_bodies-ended.new.bodies g c.self.inside.rows.items c.self.invariant.bodied c.self.inside.row_count c.self.inside.rule_count c.args.start c.args.end common own c.run_bodies-ended.new.run.location c.run_bodies-ended.new.rows.items _ c.run_bodies-ended.new.run.rule_count ended.1,
      ended.2,
      ended.3,
    )

pub returns-in_default-clause-grows : goal.returns-in_default-clause-grows
returns-in_default-clause-grows c =
    let g = grows_on c.self.inside.bodies c.place_of.new.bodies c.run_bodies-ended.new.bodies c.in_ok-place.ensures.grows c.run_bodies-ended.ensures.grows in
    let before = c.len-before.ensures ∙ c.self.inside.rows.ok.0 in
    let cut = c.truncate.ensures.items ∙ ap (λ (n : ℕ). take n c.run_bodies-ended.new.rows.items) before ∙ c.run_bodies-ended.ensures.before (length c.self.inside.rows.items) (omega arith) in
    let old : KeptRows = record { rows = map (kept_in c.self.inside.bodies) c.self.inside.rows.items; row_count = c.self.inside.row_count; rule_count = c.self.inside.rule_count } in
    rw (sym c.self.view_is)
    (subst (λ (t : KeptRows). IsLonger old.rows t.rows) (sym (none_added c.self.inside.bodies c.run_bodies-ended.new.bodies g c.self.inside.rows.items c.self.invariant.bodied c.self.inside.row_count c.self.inside.rule_count c.truncate.new.self.items cut)) (as_long old.rows))

pub returns-in_default-clause-runs : goal.returns-in_default-clause-runs
returns-in_default-clause-runs c common first m ran rep isrow isat =
    let g = grows_on c.self.inside.bodies c.place_of.new.bodies c.run_bodies-ended.new.bodies c.in_ok-place.ensures.grows c.run_bodies-ended.ensures.grows in
    let before = c.len-before.ensures ∙ c.self.inside.rows.ok.0 in
    let cut = c.truncate.ensures.items ∙ ap (λ (n : ℕ). take n c.run_bodies-ended.new.rows.items) before ∙ c.run_bodies-ended.ensures.before (length c.self.inside.rows.items) (omega arith) in
    rw (sym c.self.view_is)
    (none_added c.self.inside.bodies c.run_bodies-ended.new.bodies g c.self.inside.rows.items c.self.invariant.bodied c.self.inside.row_count c.self.inside.rule_count c.truncate.new.self.items cut)
