use Rattle.std.proofs.Common.{◌≡◌, ◌≤◌, ◌<◌, ◌^◌, ◌∙◌, ℕ, drop, max, sym, ap, arith, length, Some}
use Rattle.std.proofs.lemmas.List.{drop_all}
use Rattle.core_file.specs.Fronts.{end_of, last_end}
use Rattle.core_file.proofs.EndLemmas.{fits_so, fits_not, fitted, unfitted, last_step}
use Rattle.core_file.proofs.program_header.last_end.Goals as goal

pub returns-in_err-end_of : goal.returns-in_err-end_of
returns-in_err-end_of c =
    let kind = c.args.kind in
    let hs = c.args.headers.now in
    let large : 2 ^ 64 ≤ end_of kind c.at.result = unfitted (end_of kind c.at.result) c.in_err-end_of.ensures in
    let step = last_step kind hs c.loop-i.i c.at.result c.at.ensures in
    let kept : max c.loop-i.end (last_end kind (drop c.loop-i.i hs)) ≡ last_end kind hs = c.loop-i.invariant.greatest in
    let all : 2 ^ 64 ≤ last_end kind hs = omega arith in
    c.from_residual.ensures ∙ sym (fits_not (last_end kind hs) all)

pub loop-i-preserved : goal.loop-i-preserved
loop-i-preserved c =
    let kind = c.args.kind in
    let hs = c.args.headers.now in
    let here = fitted (end_of kind c.at.result) c.in_ok-end_of.field-0 c.in_ok-end_of.ensures in
    let same : c.in_ok-end_of.field-0 ≡ end_of kind c.at.result = here.0 in
    let step = last_step kind hs c.loop-i.i c.at.result c.at.ensures in
    let kept : max c.loop-i.end (last_end kind (drop c.loop-i.i hs)) ≡ last_end kind hs = c.loop-i.invariant.greatest in
    let greater = c.max-end.ensures in
    let few : c.in_ok-end_of.field-0 < 2 ^ 64 = omega (arith, here.1) in
    let before = c.loop-i.invariant.fits in
    record { fits = omega arith; greatest = omega arith }

pub returns : goal.returns
returns c =
    let kind = c.args.kind in
    let hs = c.args.headers.now in
    let kept : max c.loop-i.end (last_end kind (drop c.loop-i.i hs)) ≡ last_end kind hs = c.loop-i.invariant.greatest in
    let past : length hs ≤ c.loop-i.i = omega arith in
    let none : last_end kind (drop c.loop-i.i hs) ≡ 0 = ap (last_end kind) (drop_all c.loop-i.i hs past) in
    let same : c.loop-i.end ≡ last_end kind hs = omega arith in
    let few : last_end kind hs < 2 ^ 64 = omega (arith, c.loop-i.invariant.fits) in
    ap (λ (n : ℕ). Some n) same ∙ sym (fits_so (last_end kind hs) few)
