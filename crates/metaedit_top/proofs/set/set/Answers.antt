use Rattle.std.proofs.Common.{rules, ◌≡◌, Err, refl, sym, ap, subst}
use Rattle.std.specs.Prelude.{IsTrue}
use Rattle.me_disk.specs.Disk.{bytes_of}
use Rattle.part_tree.specs.Plans.{Belongs}
use Rattle.metaedit_top.specs.declared.outcome.Prepared.{Prepared}
use Rattle.metaedit_top.specs.declared.outcome.Stop.TheVariants as stop
use Rattle.metaedit_top.specs.Changed.{CarriedBy, IsFresh, OnSwap}
use Rattle.metaedit_top.specs.Stage.{Acts}
use Rattle.metaedit_top.proofs.Acted.{no_memory}
use Rattle.metaedit_top.proofs.Sets.{carried, not_prepared, settled_on}
use Rattle.metaedit_top.proofs.set.set.Goals as goal

pub returns-in_err-prepared : goal.returns-in_err-prepared
returns-in_err-prepared g c = λ stood.
    let q = c.args.request.now in
    let a = g.D.Depot.disk c.args.depot.now in
    let b = g.D.Depot.disk c.prepare.new.depot in
    let s = c.in_err-prepared.field-0.0 in
    let same : c.from_residual.result ≡ Err s = search rules in
    subst (Acts q stood a b) (sym same)
    (not_prepared q c.requires.command c.args.front.now stood a b c.requires.front s s refl c.in_err-prepared.ensures)

pub returns-in_err-told : goal.returns-in_err-told
returns-in_err-told g c = λ stood.
    let q = c.args.request.now in
    let a = g.D.Depot.disk c.args.depot.now in
    let b = g.D.Depot.disk c.prepare.new.depot in
    let same : c.from_residual-in_err-told.result ≡ Err stop.Memory = search rules in
    subst (Acts q stood a b) (sym same) (no_memory q stood a b c.in_ok-prepared.ensures.reads stop.Memory refl)

pub carry_out-requires-clause-fresh : goal.carry_out-requires-clause-fresh
carry_out-requires-clause-fresh g c =
    subst (λ (x : Prepared). OnSwap x.swap IsFresh) (sym c.in_ok-told.ensures) c.in_ok-prepared.ensures.fresh

pub carry_out-requires-clause-stands : goal.carry_out-requires-clause-stands
carry_out-requires-clause-stands g c = settled_on (g.D.Depot.disk c.args.depot.now) (g.D.Depot.disk c.prepare.new.depot) c.requires.settled c.in_ok-prepared.ensures.reads

pub carry_out-requires-clause-belongs : goal.carry_out-requires-clause-belongs
carry_out-requires-clause-belongs g c = λ tells.
    let b = g.D.Depot.disk c.prepare.new.depot in
    let h = c.in_ok-prepared.ensures in
    subst (λ (x : Prepared). OnSwap x.swap (λ s. Belongs s.plan (bytes_of b.slots.main))) (sym c.in_ok-told.ensures)
    (h.belongs (bytes_of b.slots.main) (record { tells = subst IsTrue h.reads.tells tells; bytes = sym (ap bytes_of h.reads.main) }))

pub returns : goal.returns
returns g c = λ stood.
    let q = c.args.request.now in
    let a = g.D.Depot.disk c.args.depot.now in
    let b = g.D.Depot.disk c.prepare.new.depot in
    let d = g.D.Depot.disk c.carry_out.new.depot in
    carried q c.requires.command c.args.front.now stood a b c.requires.front d (g.met.D.Depot.lawful c.prepare.new.depot) (g.met.D.Depot.lawful c.carry_out.new.depot) c.requires.settled
    c.in_ok-prepared.prepared c.in_ok-prepared.ensures c.carry_out.result
    (subst (λ (x : Prepared). CarriedBy x.swap x.finished (bytes_of b.slots.main) b d c.carry_out.result) c.in_ok-told.ensures c.carry_out.ensures)
