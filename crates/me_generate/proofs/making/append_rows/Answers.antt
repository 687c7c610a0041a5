use Rattle.std.proofs.Common.{◌≡◌, ◌+◌, ◌≤◌, ◌++◌, length, rules, arith, ap, Err, length-append}
use Rattle.me_generate.specs.Rows.{rows}
use Rattle.me_generate.specs.declared.making.MakeFault.TheVariants as fault
use Rattle.me_generate.proofs.Growth.{adds_memory, adds_stopped, fits_more}
use Rattle.me_generate.proofs.Lengths.{fewer_rows}
use Rattle.me_generate.proofs.making.append_rows.Goals as goal

pub returns-in_err-put_rows : goal.returns-in_err-put_rows
returns-in_err-put_rows g c =
    let none : c.from_residual.result ≡ Err fault.Memory = search rules in
    adds_memory (rows c.args.row c.pages.first) (rows c.args.row c.args.n) _ _ c.from_residual.result none c.pages.invariant.grown
    (fewer_rows c.args.row c.pages.first c.args.n c.pages.invariant.inside)

pub append-requires-clause-fits : goal.append-requires-clause-fits
append-requires-clause-fits g c =
    let so_far = rows c.args.row c.pages.first in
    let end = c.pages.first + c.min.result in
    let page : so_far ++ c.deref.result.now ≡ rows c.args.row end = search rules in
    let few : end ≤ c.args.n = omega arith in
    fits_more so_far c.deref.result.now (rows c.args.row c.args.n) _ _ c.pages.invariant.grown
    (omega (arith, ap length page, length-append so_far c.deref.result.now, fewer_rows c.args.row end c.args.n few)) c.requires.fits

pub returns-in_err-append : goal.returns-in_err-append
returns-in_err-append g c =
    let so_far = rows c.args.row c.pages.first in
    let end = c.pages.first + c.min.result in
    let page : so_far ++ c.deref.result.now ≡ rows c.args.row end = search rules in
    let few : end ≤ c.args.n = omega arith in
    let e = c.in_err-append.field-0.0 in
    let is : c.append.result ≡ Err e = search rules in
    let same : c.from_residual-in_err-append.result ≡ Err e = search rules in
    adds_stopped so_far c.deref.result.now (rows c.args.row c.args.n) _ _ _ c.append.result c.from_residual-in_err-append.result e is same c.pages.invariant.grown c.append.ensures
    (omega (arith, ap length page, length-append so_far c.deref.result.now, fewer_rows c.args.row end c.args.n few))
