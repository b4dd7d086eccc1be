use Rattle.std.proofs.Common.{◌≡◌, ◌-◌, ◌<◌, length, eqb, true, false, sym, ◌∙◌, arith}
use Rattle.std.specs.Option.{option_map}
use Rattle.std.proofs.lemmas.Result.{err_from_is_err_and}
use Rattle.encoded_pointers.specs.PointerViews.{bases_of}
use Rattle.encoded_pointers.specs.CursorViews.{at}
use Rattle.unwinding_frames.specs.Calling.{fault_of}
use Rattle.unwinding_frames.specs.LanguageViews.{site_of}
use Rattle.unwinding_frames.proofs.Taken.{site_takes}
use Rattle.unwinding_frames.proofs.Sites.{nonempty}
use Rattle.unwinding_frames.proofs.CxxSites.{site_end, site_fault, decision_fault, decided, passed}
use Rattle.unwinding_frames.proofs.cxx.table.CxxTable.deciding_site.Goals as goal

pub returns-in_err-site : goal.returns-in_err-site
returns-in_err-site c =
    let p = err_from_is_err_and c.from_residual.result c.from_residual.ensures.1 in
    let turns = c.loop-sites.invariant.0 in let enough = c.loop-sites.invariant.1 in
    let some : eqb (length c.loop-sites.sites.bytes.now) 0 ≡ false = sym c.is_empty.ensures ∙ c.loop-sites-test.true in
    let positive : 0 < length c.loop-sites.sites.bytes.now = nonempty _ some in
    rw (p.1, p.2) (sym (c.loop-sites.invariant.2 ∙ site_fault c.args.image.now (bases_of c.args.bases.now) c.args.start c.args.address c.args.self.now.site_encoding.0 (turns - 1) turns (at c.loop-sites.sites) (omega arith) some
    (fault_of c.in_err-site.field-0.0) c.in_err-site.ensures))

pub returns-in_err-decided : goal.returns-in_err-decided
returns-in_err-decided c =
    let p = err_from_is_err_and c.from_residual-in_err-decided.result c.from_residual-in_err-decided.ensures.1 in
    let turns = c.loop-sites.invariant.0 in let enough = c.loop-sites.invariant.1 in
    let some : eqb (length c.loop-sites.sites.bytes.now) 0 ≡ false = sym c.is_empty.ensures ∙ c.loop-sites-test.true in
    let positive : 0 < length c.loop-sites.sites.bytes.now = nonempty _ some in
    rw (p.1, p.2) (sym (c.loop-sites.invariant.2 ∙ decision_fault c.args.image.now (bases_of c.args.bases.now) c.args.start c.args.address c.args.self.now.site_encoding.0 (turns - 1) turns (at c.loop-sites.sites) (omega arith) some
    (site_of c.in_ok-site.site) (at c.read_call_site.new.input) c.in_ok-site.ensures (fault_of c.in_err-decided.field-0.0) (sym c.in_err-decided.ensures)))

pub returns-in-Some : goal.returns-in-Some
returns-in-Some c =
    let turns = c.loop-sites.invariant.0 in let enough = c.loop-sites.invariant.1 in
    let some : eqb (length c.loop-sites.sites.bytes.now) 0 ≡ false = sym c.is_empty.ensures ∙ c.loop-sites-test.true in
    let positive : 0 < length c.loop-sites.sites.bytes.now = nonempty _ some in
    sym (c.loop-sites.invariant.2 ∙ decided c.args.image.now (bases_of c.args.bases.now) c.args.start c.args.address c.args.self.now.site_encoding.0 (turns - 1) turns (at c.loop-sites.sites) (omega arith) some
    (site_of c.in_ok-site.site) (at c.read_call_site.new.input) c.in_ok-site.ensures (option_map site_of c.in-Some.decided) (sym (rw c.in-Some.is at c.in_ok-decided.ensures)))

pub loop-sites-smaller : goal.loop-sites-smaller
loop-sites-smaller c =
    site_takes c.args.image.now (bases_of c.args.bases.now) c.args.self.now.site_encoding.0 (at c.loop-sites.sites) (at c.read_call_site.new.input) (site_of c.in_ok-site.site) c.in_ok-site.ensures

pub loop-sites-preserved : goal.loop-sites-preserved
loop-sites-preserved c =
    let turns = c.loop-sites.invariant.0 in let enough = c.loop-sites.invariant.1 in
    let some : eqb (length c.loop-sites.sites.bytes.now) 0 ≡ false = sym c.is_empty.ensures ∙ c.loop-sites-test.true in
    let positive : 0 < length c.loop-sites.sites.bytes.now = nonempty _ some in
    let less = site_takes c.args.image.now (bases_of c.args.bases.now) c.args.self.now.site_encoding.0 (at c.loop-sites.sites) (at c.read_call_site.new.input) (site_of c.in_ok-site.site) c.in_ok-site.ensures in (
      turns - 1,
      omega arith,
      c.loop-sites.invariant.2 ∙ passed c.args.image.now (bases_of c.args.bases.now) c.args.start c.args.address c.args.self.now.site_encoding.0 (turns - 1) turns (at c.loop-sites.sites) (omega arith) some
          (site_of c.in_ok-site.site) (at c.read_call_site.new.input) c.in_ok-site.ensures (sym (rw c.in_default.is at c.in_ok-decided.ensures)),
    )

pub returns : goal.returns
returns c =
    let none : eqb (length c.loop-sites.sites.bytes.now) 0 ≡ true = sym c.is_empty.ensures ∙ c.loop-sites-test.false in
    sym (c.loop-sites.invariant.2 ∙ site_end c.args.image.now (bases_of c.args.bases.now) c.args.start c.args.address c.args.self.now.site_encoding.0 c.loop-sites.invariant.0 (at c.loop-sites.sites) none)
