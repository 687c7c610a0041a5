use Rattle.std.proofs.Common.{arith, subst, ◌≡◌, ◌<◌, Option}
use Rattle.std.specs.Prelude.{IfOk}
use Rattle.part_tree.specs.declared.why.Why.{Why}
use Rattle.container_model.proofs.Windows.{length_slice}
use Rattle.qt_atoms.specs.Walk.{atom_in}
use Rattle.mov_file.proofs.Walks.{moov_refused, track_refused, when_none}
use Rattle.mov_file.proofs.walk.why_not.Goals as goal

pub returns-in-Moov-clause-why : goal.returns-in-Moov-clause-why
returns-in-Moov-clause-why g c = λ b before holds place knows.
    let k = c.args.atom.now in
    let inside = c.requires.inside b holds in
    moov_refused c.args.holder before b k c.args.reading.now c.moov_why.result c.in-Moov.is knows (omega arith) (length_slice b k.body.at k.body.len (omega (arith, inside, c.requires.order.behind, c.requires.order.last))) c.moov_why.ensures

pub returns-in_default : goal.returns-in_default
returns-in_default g c =
    let k = c.args.atom.now in
    record {
      why = λ b before holds place knows.
          subst (λ (v : Option Why). IfOk c.track_why.result (λ w. w ≡ v))
          (track_refused c.args.holder before k.at (atom_in b k) c.args.reading.now knows (omega arith) c.in_default.not-File c.in_default.not-UserData c.in_default.not-Moov)
          (c.track_why.ensures.why b before holds knows);
      room = when_none c.track_why.result (c.args.reading.now.count < 65536) (omega arith);
      reads = c.track_why.ensures.reads;
      cause = c.track_why.ensures.cause;
    }
