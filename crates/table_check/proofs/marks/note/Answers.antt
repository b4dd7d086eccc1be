use Rattle.std.proofs.Common.{◌≡◌, ◌<◌, true, length, refl, sym, subst, ◌∙◌, inl, inr, arith}
use Rattle.std.specs.Bool.{Decides}
use Rattle.unwind_definitions.specs.Function.{IsFunction}
use Rattle.unwind_definitions.specs.FrameTable.{DescribesCode, has_range_of}
use Rattle.unwind_definitions.specs.LanguageTable.{LeadsToLanguage}
use Rattle.unwind_definitions.specs.Prologue.{SystemV}
use Rattle.encoded_pointers.specs.PointerViews.{bases_of}
use Rattle.eh_frame.specs.EntryViews.{fde_of}
use Rattle.table_check.specs.declared.claims.Claim.{Claim}
use Rattle.table_check.specs.ClaimViews.{function_of}
use Rattle.table_check.proofs.GoneThrough.{all_at}
use Rattle.table_check.proofs.InOrder.{same_default}
use Rattle.table_check.proofs.Marking.{notes, notes_none, set_same}
use Rattle.table_check.proofs.marks.note.Goals as goal

pub returns-then-index-claims-clause-marks : goal.returns-then-index-claims-clause-marks
returns-then-index-claims-clause-marks c before marked =
    let cs = c.args.claims.now in
    let over = c.if-index-claims.true in
    notes_none cs c.requires.order (fde_of c.args.fde.now) c.args.index
    c.requires.before
    c.requires.after
    c.args.image.now (bases_of c.args.bases.now) before (inl (omega (arith, over))) marked

pub returns-then-not-has_range-clause-marks : goal.returns-then-not-has_range-clause-marks
returns-then-not-has_range-clause-marks c before marked =
    let cs = c.args.claims.now in
    let this : Claim = c.index-claims-index.result in
    let other = sym c.has_range.ensures ∙ c.if-not-has_range.true in
    notes_none cs c.requires.order (fde_of c.args.fde.now) c.args.index
    c.requires.before
    c.requires.after
    c.args.image.now (bases_of c.args.bases.now) before (inr (this, other)) marked

pub describe-described-requires-clause-function : goal.describe-described-requires-clause-function
describe-described-requires-clause-function c =
    let there = c.if-index-claims.false in let within = c.requires.within in
    all_at function_of (IsFunction SystemV) c.args.claims.now c.args.index c.index-claims-index-2.result (omega (arith, there, within)) c.requires.functions

pub returns-clause-same : goal.returns-clause-same
returns-clause-same c =
    let there = c.if-index-claims.false in let within = c.requires.within in
    set_same c.args.claims.now c.args.index _ c.index-claims-index-3.result (omega (arith, there, within)) refl

pub returns-clause-marks : goal.returns-clause-marks
returns-clause-marks c before marked =
    let image = c.args.image.now in
    let bases = bases_of c.args.bases.now in
    let cs = c.args.claims.now in
    let i = c.args.index in
    let fde = fde_of c.args.fde.now in
    let says = c.describe-described.result in
    let here : Claim = c.index-claims-index-3.result in
    let there = c.if-index-claims.false in let within = c.requires.within in
    let lies : i < length cs = omega (arith, there, within) in
    let range = subst (λ (x : Claim). has_range_of (function_of x) fde ≡ true) (same_default cs i c.index-claims-index.result here lies) (sym c.has_range.ensures ∙ c.if-not-has_range.false) in
    let same = same_default cs i c.index-claims-index-2.result here lies in
    notes cs c.requires.order fde i
    c.requires.before
    c.requires.after
    image bases before here says range
    (subst (λ (x : Claim). Decides says.has_code (DescribesCode image bases (function_of x) fde)) same c.describe-described.ensures.code)
    (subst (λ (x : Claim). Decides says.has_language (LeadsToLanguage image (function_of x) fde.language)) same c.describe-described.ensures.language)
    marked
