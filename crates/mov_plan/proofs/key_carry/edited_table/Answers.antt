use Rattle.std.proofs.Common.{◌∙◌, ap, arith, length}
use Rattle.mov_plan.specs.Keyed.{changes_of}
use Rattle.mov_plan.proofs.NewAtoms.{meta_now}
use Rattle.mov_plan.proofs.key_carry.edited_table.Goals as goal

pub returns-clause-made : goal.returns-clause-made
returns-clause-made c = λ d f i p k.
    let e = changes_of c.args.changes.now in
    let atom = c.in-Ok-spelled in
    let long = ap length c.as_slice.ensures in
    meta_now e c.args.form c.args.table.now c.as_slice.result.now d f i p k (c.as_slice.ensures ∙ c.in-Ok.ensures.0) (omega (arith, long, c.in-Ok.ensures.1)) atom.now atom.ensures.bytes atom.ensures.parts
