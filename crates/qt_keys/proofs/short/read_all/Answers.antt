use Rattle.std.proofs.Common.{◌∙◌, ap, sym, arith}
use Rattle.qt_keys.proofs.Atoms.{left_cut, left_end, left_push, left_refused, same_atom}
use Rattle.qt_keys.proofs.short.read_all.Goals as goal

pub returns-in_default : goal.returns-in_default
returns-in_default g c = left_cut g.T.FromAtom.reads c.args.bytes.now c.atoms.at c.atoms.all.items (omega arith) c.in_default.ensures.none c.atoms.invariant.left

pub returns-in-None : goal.returns-in-None
returns-in-None g c =
    let same = same_atom c.args.bytes.now c.kind_of-kind.result.0 c.atoms.at c.in-Some.size c.in-Some.ensures.size c.in-Some.ensures.low c.kind_of-kind.ensures in
    left_refused g.T.FromAtom.reads c.args.bytes.now c.atoms.at c.atoms.all.items (omega arith) c.in-Some.ensures.whole (sym c.in-None.is ∙ c.in_ok-from_atom.ensures ∙ ap g.T.FromAtom.reads same) c.atoms.invariant.left

pub atoms-preserved : goal.atoms-preserved
atoms-preserved g c =
    let same = same_atom c.args.bytes.now c.kind_of-kind.result.0 c.atoms.at c.in-Some.size c.in-Some.ensures.size c.in-Some.ensures.low c.kind_of-kind.ensures in
    record {
      inside = c.in-Some.ensures.inside;
      left = left_push g.T.FromAtom.reads c.args.bytes.now c.atoms.at c.in-Some.size c.atoms.all.items c.push.new.self.items c.in-Some-2.one (omega arith) c.in-Some.ensures.whole c.in-Some.ensures.size (sym c.in-Some-2.is ∙ c.in_ok-from_atom.ensures ∙ ap g.T.FromAtom.reads same) c.in-Ok.ensures.items c.atoms.invariant.left;
    }

pub returns : goal.returns
returns g c = left_end g.T.FromAtom.reads c.args.bytes.now c.atoms.at c.atoms.all.items (omega arith) c.atoms.invariant.left
