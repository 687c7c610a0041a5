use Rattle.std.proofs.Common.{◌∙◌, ap, set}
use Rattle.edit_planner.specs.declared.cells.CellAt.{CellAt}
use Rattle.edit_planner.proofs.AviRow.{with_pad_is}
use Rattle.edit_planner.proofs.cells.set_pad.Goals as goal

pub returns : goal.returns
returns c =
    let xs = c.args.cells.now.items in
    ap (λ (x : CellAt). set xs c.args.k (record x { lacks_pad = c.args.lacks_pad })) c.index_mut.ensures.value ∙ with_pad_is c.args.lacks_pad c.args.k xs c.index_mut.result.now c.requires
