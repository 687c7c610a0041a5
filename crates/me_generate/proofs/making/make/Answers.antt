use Rattle.std.proofs.Common.{◌≡◌, ◌<◌, ◌^◌, List, ℕ, length, rules, sym, subst, Ok, Err}
use Rattle.me_disk.specs.Calls.Call.{BeginWork}
use Rattle.me_disk.specs.Steps.{Does}
use Rattle.me_generate.specs.Makes.{Adds, Grows}
use Rattle.me_generate.specs.Stated.{stated, whole}
use Rattle.me_generate.proofs.Growth.{begun_fits, grows_as, made, make_failed, make_stopped}
use Rattle.me_generate.proofs.Lengths.{few, whole_is}
use Rattle.me_generate.proofs.making.make.Goals as goal

pub append_all-requires-clause-fits : goal.append_all-requires-clause-fits
append_all-requires-clause-fits g c =
    let disk = g.D.Depot.disk in
    let begun : Does BeginWork (disk c.args.depot.now) (disk c.begin_work.new.self) (Ok (tt {0})) = search rules in
    let same = whole_is c.in_ok-shape.shape c.args.kind c.args.n c.in_ok-shape.ensures in
    let short = subst (λ (bytes : List ℕ). length bytes < 2 ^ 63) (sym same) (few c.args.kind c.args.n c.requires.number) in
    begun_fits (whole c.in_ok-shape.shape c.args.n) _ _ begun short

pub returns-in_err-append_all : goal.returns-in_err-append_all
returns-in_err-append_all g c =
    let disk = g.D.Depot.disk in
    let begun : Does BeginWork (disk c.args.depot.now) (disk c.begin_work.new.self) (Ok (tt {0})) = search rules in
    let e = c.in_err-append_all.field-0.0 in
    let is : c.append_all.result ≡ Err e = search rules in
    let same : c.from_residual-in_err-append_all.result ≡ Err e = search rules in
    let file = whole_is c.in_ok-shape.shape c.args.kind c.args.n c.in_ok-shape.ensures in
    let adds = subst (λ (bytes : List ℕ). Adds bytes (disk c.begin_work.new.self) (disk c.append_all.new.depot) c.append_all.result) file c.append_all.ensures in
    make_stopped (stated c.args.kind c.args.n) _ _ _ c.append_all.result c.from_residual-in_err-append_all.result e is same begun adds

pub returns-in_err-install : goal.returns-in_err-install
returns-in_err-install g c =
    let disk = g.D.Depot.disk in
    let begun : Does BeginWork (disk c.args.depot.now) (disk c.begin_work.new.self) (Ok (tt {0})) = search rules in
    let e = c.in_err-install.field-0.0 in
    let is : c.install.result ≡ Err e = search rules in
    let same : c.from_residual-in_err-install.result ≡ Err e = search rules in
    let file = whole_is c.in_ok-shape.shape c.args.kind c.args.n c.in_ok-shape.ensures in
    let grown : Grows (whole c.in_ok-shape.shape c.args.n) (disk c.begin_work.new.self) (disk c.append_all.new.depot) = search rules in
    make_failed (stated c.args.kind c.args.n) _ _ _ _ c.install.result c.from_residual-in_err-install.result e is same begun (grows_as _ _ _ _ file grown) c.install.ensures

pub returns : goal.returns
returns g c =
    let disk = g.D.Depot.disk in
    let begun : Does BeginWork (disk c.args.depot.now) (disk c.begin_work.new.self) (Ok (tt {0})) = search rules in
    let is : c.install.result ≡ Ok (tt {0}) = search rules in
    let file = whole_is c.in_ok-shape.shape c.args.kind c.args.n c.in_ok-shape.ensures in
    let grown : Grows (whole c.in_ok-shape.shape c.args.n) (disk c.begin_work.new.self) (disk c.append_all.new.depot) = search rules in
    made (stated c.args.kind c.args.n) _ _ _ _ c.install.result (tt {0}) c.len_of.result is c.len_of.ensures begun (grows_as _ _ _ _ file grown) c.install.ensures
