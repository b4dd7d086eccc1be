use Rattle.std.proofs.Common.{sym, ap, ◌∙◌}
use Rattle.std.specs.Prelude.{is_some}
use Rattle.table_check.proofs.Deciding.{decides_no, decides_not}
use Rattle.table_check.proofs.RowRules.{outermost_fits, outermost_value}
use Rattle.table_check.proofs.rows.is_outermost_row.Goals as goal

pub returns-then-not-read : goal.returns-then-not-read
returns-then-not-read c = decides_no (λ v. decides_not c.read.result c.read.ensures.fits c.if-not-read.true (outermost_fits c.new-frame.result c.new-frame.ensures c.args.row.now c.read.ensures.ascending v))

pub returns : goal.returns
returns c =
    let read = c.if-not-read.false in
    let ret = c.read.ensures.ret read in (
      λ there. outermost_value c.new-frame.result c.new-frame.ensures c.args.row.now c.read.ensures.ascending (c.read.ensures.fits.0 read) (c.has_cfa.ensures.decides.0 c.if-not-has_cfa.false) (sym c.saved_args_size.ensures ∙ c.if-saved_args_size-ne0.false)
          (sym ret ∙ sym c.has_return_address.ensures ∙ there),
      λ v. c.has_return_address.ensures ∙ ret ∙ ap is_some v.ret,
    )
