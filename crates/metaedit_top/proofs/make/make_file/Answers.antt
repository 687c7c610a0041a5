use Rattle.std.proofs.Common.{rules, ◌≡◌, Err, refl, sym, subst, ap, ◌∙◌}
use Rattle.std.specs.Prelude.{IsTrue}
use Rattle.me_disk.proofs.Runs.{ReadsOnly-refl}
use Rattle.me_generate.proofs.Below.{stated_bytes}
use Rattle.metaedit_top.specs.declared.outcome.Stop.TheVariants as stop
use Rattle.metaedit_top.specs.Begun.{MakesFile, stop_of_make}
use Rattle.metaedit_top.proofs.Acted.{no_memory}
use Rattle.metaedit_top.proofs.Makes.{edited, front_told, makes_edits, not_begun, not_made, settled_c}
use Rattle.metaedit_top.proofs.make.make_file.Goals as goal

pub returns-in_err-find_none : goal.returns-in_err-find_none
returns-in_err-find_none g c =
    let q = c.args.request.now in
    let a = g.D.Depot.disk c.args.depot.now in
    let b = g.D.Depot.disk c.find_none.new.depot in
    let s = c.in_err-find_none.field-0.0 in
    let same : c.from_residual.result ≡ Err s = search rules in
    let h = c.in_err-find_none.ensures in
    subst (MakesFile q a b) (sym same) (not_begun q a b (g.met.D.Depot.lawful c.args.depot.now) h.reads s s refl h.stops h.leaves)

pub make-requires-clause-absent : goal.make-requires-clause-absent
make-requires-clause-absent g c = λ tells.
    let h = c.in_ok-find_none.ensures in
    h.reads.main ∙ (h.clear (subst IsTrue h.reads.tells tells)).main

pub returns-in_err-len : goal.returns-in_err-len
returns-in_err-len g c =
    let q = c.args.request.now in
    let a = g.D.Depot.disk c.args.depot.now in
    let b = g.D.Depot.disk c.find_none.new.depot in
    let d = g.D.Depot.disk c.make.new.depot in
    let fault = c.in_err-len.field-0.0 in
    let same : c.from_residual-in_err-len.result ≡ Err (stop_of_make fault) = search rules in
    let h = c.in_ok-find_none.ensures in
    subst (MakesFile q a d) (sym same)
    (not_made q c.requires.makes (stated_bytes q.kind q.n c.requires.number) a b (g.met.D.Depot.lawful c.args.depot.now) h.reads h.clear
    d (g.met.D.Depot.lawful c.make.new.depot) (Err fault) c.in_err-len.ensures fault (stop_of_make fault) refl refl)

pub returns-in_err-line : goal.returns-in_err-line
returns-in_err-line g c =
    let q = c.args.request.now in
    let a = g.D.Depot.disk c.args.depot.now in
    let b = g.D.Depot.disk c.find_none.new.depot in
    let d = g.D.Depot.disk c.make.new.depot in
    let lawful = g.met.D.Depot.lawful c.make.new.depot in
    let same : c.from_residual-in_err-line.result ≡ Err stop.Memory = search rules in
    let h = c.in_ok-find_none.ensures in
    let m = c.in_ok-len.ensures in
    subst (MakesFile q a d) (sym same)
    (edited q c.requires.makes (stated_bytes q.kind q.n c.requires.number) a b (g.met.D.Depot.lawful c.args.depot.now) h.reads h.clear
    d lawful _ m m.stands m.exact d (Err stop.Memory) (no_memory q _ d d (ReadsOnly-refl d) stop.Memory refl))

pub set-requires-clause-command : goal.set-requires-clause-command
set-requires-clause-command g c = makes_edits c.args.request.now c.requires.makes

pub set-requires-clause-front : goal.set-requires-clause-front
set-requires-clause-front g c =
    let q = c.args.request.now in
    let b = g.D.Depot.disk c.find_none.new.depot in
    let d = g.D.Depot.disk c.make.new.depot in
    let m = c.in_ok-len.ensures in
    front_told q c.requires.makes d c.as_slice.result.now c.in_ok-len.len (c.as_slice.ensures ∙ c.in_ok-line.ensures) m.len
    (λ tells. m.stands.main (subst IsTrue m.tells tells))

pub set-requires-clause-settled : goal.set-requires-clause-settled
set-requires-clause-settled g c =
    let q = c.args.request.now in
    let a = g.D.Depot.disk c.args.depot.now in
    let b = g.D.Depot.disk c.find_none.new.depot in
    let d = g.D.Depot.disk c.make.new.depot in
    let h = c.in_ok-find_none.ensures in
    let m = c.in_ok-len.ensures in
    settled_c q c.requires.makes (stated_bytes q.kind q.n c.requires.number) a b (g.met.D.Depot.lawful c.args.depot.now) h.reads h.clear
    d (g.met.D.Depot.lawful c.make.new.depot) _ m m.stands m.exact

pub returns : goal.returns
returns g c =
    let q = c.args.request.now in
    let a = g.D.Depot.disk c.args.depot.now in
    let b = g.D.Depot.disk c.find_none.new.depot in
    let d = g.D.Depot.disk c.make.new.depot in
    let h = c.in_ok-find_none.ensures in
    let m = c.in_ok-len.ensures in
    edited q c.requires.makes (stated_bytes q.kind q.n c.requires.number) a b (g.met.D.Depot.lawful c.args.depot.now) h.reads h.clear
    d (g.met.D.Depot.lawful c.make.new.depot) _ m m.stands m.exact (g.D.Depot.disk c.set.new.depot) c.set.result (c.set.ensures _)
