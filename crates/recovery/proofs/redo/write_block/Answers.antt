use Rattle.std.proofs.Common.{◌≡◌, sym, subst, ℕ, length, take, arith, length-take}
use Rattle.me_disk.proofs.Runs.{ReadsOnly-refl}
use Rattle.recovery.specs.Redo.{IsInside}
use Rattle.recovery.proofs.Lays.{block_leaves, block_on}
use Rattle.recovery.proofs.redo.write_block.Goals as goal

pub returns-clause-laying : goal.returns-clause-laying
returns-clause-laying g c =
    let d0 = g.D.Depot.disk c.args.depot.now in
    block_on g.redo c.args.at (take c.args.n c.args.buffer.now) d0 (g.D.Depot.disk c.write_main.new.self) c.write_main.result c.requires.1.1.1 c.write_main.ensures.does

pub returns-clause-crash : goal.returns-clause-crash
returns-clause-crash g c =
    let d0 = g.D.Depot.disk c.args.depot.now in
    let size : length (take c.args.n c.args.buffer.now) ≡ c.args.n = omega (arith, c.told-buffer, c.requires.1.0, length-take c.args.n c.args.buffer.now) in
    block_leaves g.redo c.args.at (take c.args.n c.args.buffer.now) d0 d0 (g.D.Depot.disk c.write_main.new.self) c.write_main.result (g.met.D.Depot.lawful c.args.depot.now)
    (λ tells. subst (λ (n : ℕ). IsInside g.redo c.args.at n) (sym size) (c.requires.1.1.0 tells).1) (ReadsOnly-refl d0) c.write_main.ensures.does
