use Rattle.std.proofs.Common.{◌++◌, refl, rules}
use Rattle.me_generate.specs.Makes.{Grows}
use Rattle.me_generate.specs.Rows.{rows}
use Rattle.me_generate.specs.Stated.{whole}
use Rattle.me_generate.proofs.Growth.{adds_then, grows_then}
use Rattle.me_generate.proofs.making.append_all.Goals as goal

pub returns : goal.returns
returns g c =
    let disk = g.D.Depot.disk in
    let s = c.args.shape.now in
    let first = rows s.first c.args.n in
    let one : Grows s.head (disk c.args.depot.now) (disk c.append.new.depot) = search rules in
    let two : Grows first (disk c.append.new.depot) (disk c.append_rows.new.depot) = search rules in
    let three : Grows s.middle (disk c.append_rows.new.depot) (disk c.append-2.new.depot) = search rules in
    let both = grows_then s.head first _ _ _ one two in
    adds_then (s.head ++ first ++ s.middle) (rows s.last s.lasts) (whole s c.args.n) _ _ _ c.append_rows-2.result (grows_then (s.head ++ first) s.middle _ _ _ both three) c.append_rows-2.ensures refl
