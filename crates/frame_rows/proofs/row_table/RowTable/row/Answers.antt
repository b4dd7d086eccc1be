use Rattle.std.proofs.Common.{◌≡◌, ◌+◌, ◌≤◌, map, get_or, sym, ap, subst, ◌∙◌, List, Err}
use Rattle.unwind_definitions.specs.declared.error.Error.TheVariants.{NoCfaRegister}
use Rattle.std.specs.Prelude.{slice_range}
use Rattle.frame_rows.specs.KeptRows.{Kept, KeptRows, location_of, kept_at_distance}
use Rattle.frame_rows.specs.TableRows.{HoldsAt, kept_in}
use Rattle.frame_rows.proofs.LookedUp.{part_of, first_begun, holds, holds_placed, due_there}
use Rattle.frame_rows.proofs.row_table.RowTable.row.Goals as goal

pub last_at-requires-clause-begun : goal.last_at-requires-clause-begun
last_at-requires-clause-begun c =
    let rows : List Kept = map (kept_in c.self.inside.bodies) c.self.inside.rows.items in
    let same : c.args.self.now.rows ≡ rows = ap (λ (k : KeptRows). k.rows) (sym c.self.view_is) in
    let begun = subst (λ (ks : List Kept). (d : Kept) → location_of (get_or ks c.args.rows.first d) ≤ c.args.distance) same c.requires.begun in
    rw c.deref.ensures.value (first_begun c.self.inside.bodies c.self.inside.rows.items c.args.rows.first c.args.rows.end c.args.distance c.requires.some begun)

pub returns-clause-last : goal.returns-clause-last
returns-clause-last c =
    let rows : List Kept = map (kept_in c.self.inside.bodies) c.self.inside.rows.items in
    let same : c.args.self.now.rows ≡ rows = ap (λ (k : KeptRows). k.rows) (sym c.self.view_is) in
    let part = ap (λ (ks : List Kept). slice_range ks c.args.rows.first c.args.rows.end) same ∙ part_of c.self.inside.bodies c.self.inside.rows.items c.args.rows.first c.args.rows.end in
    let last = rw c.deref.ensures.value at c.last_at.ensures in
    let is = (rw c.deref.ensures.value at c.get.ensures) (Err NoCfaRegister) in
    subst (λ (ks : List Kept). HoldsAt ks c.args.distance c.get.result) (sym part) (holds c.self.inside.bodies (slice_range c.self.inside.rows.items c.args.rows.first c.args.rows.end) c.args.distance c.last_at.result _ c.get.result last is)

pub returns-clause-due : goal.returns-clause-due
returns-clause-due c due start bound rows below =
    let part : List Kept = slice_range c.args.self.now.rows c.args.rows.first c.args.rows.end in
    due_there due bound (start + c.args.distance) (map (kept_at_distance start) part) c.get.result rows below (holds_placed start c.args.distance part c.get.result (returns-clause-last c))
