use Rattle.std.proofs.Common.{sym, subst, map}
use Rattle.container_model.specs.Written.{slice}
use Rattle.container_model.specs.Atoms.{atom}
use Rattle.qt_atoms.specs.Walk.{atom_in}
use Rattle.mov_file.specs.Tables.{AreReferences}
use Rattle.mov_file.specs.declared.tables.References.TheVariants.{Short, External, Local}
use Rattle.mov_file.proofs.Heads.{dinf_external, dinf_fine, dinf_short}
use Rattle.mov_file.proofs.tables.track_why.Goals as goal

pub returns-in-Short-clause-why : goal.returns-in-Short-clause-why
returns-in-Short-clause-why g c = λ b before holds knows.
    let k = c.args.atom.now in
    let found : AreReferences (atom k.kind.0 (slice b k.body.at k.body.len)) Short = subst (AreReferences (atom k.kind.0 (slice b k.body.at k.body.len))) c.in-Short.is (c.in_ok-read_references-in-Dinf.ensures.references b holds) in
    dinf_short c.args.holder before k.at (atom_in b k) c.args.reading.now.track (map (λ n. n.0) c.args.reading.now.names.items) c.in-Dinf.is knows.track knows.names (sym c.if-stands_twice.ensures) found

pub returns-in-External-clause-why : goal.returns-in-External-clause-why
returns-in-External-clause-why g c = λ b before holds knows.
    let k = c.args.atom.now in
    let found : AreReferences (atom k.kind.0 (slice b k.body.at k.body.len)) External = subst (AreReferences (atom k.kind.0 (slice b k.body.at k.body.len))) c.in-External.is (c.in_ok-read_references-in-Dinf.ensures.references b holds) in
    dinf_external c.args.holder before k.at (atom_in b k) c.args.reading.now.track (map (λ n. n.0) c.args.reading.now.names.items) c.in-Dinf.is knows.track knows.names (sym c.if-stands_twice.ensures) found.0 found.1

pub returns-in-Local-clause-why : goal.returns-in-Local-clause-why
returns-in-Local-clause-why g c = λ b before holds knows.
    let k = c.args.atom.now in
    let found : AreReferences (atom k.kind.0 (slice b k.body.at k.body.len)) Local = subst (AreReferences (atom k.kind.0 (slice b k.body.at k.body.len))) c.in-Local.is (c.in_ok-read_references-in-Dinf.ensures.references b holds) in
    dinf_fine c.args.holder before k.at (atom_in b k) c.args.reading.now.track (map (λ n. n.0) c.args.reading.now.names.items) c.in-Dinf.is knows.track knows.names (sym c.if-stands_twice.ensures) found.0 found.1
