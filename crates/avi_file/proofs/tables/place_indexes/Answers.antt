use Rattle.std.proofs.Common.{◌∙◌, ap}
use Rattle.avi_model.specs.Index.{indexes}
use Rattle.avi_file.proofs.Staged.{find_fails, indexes_placed, order_fails}
use Rattle.avi_file.proofs.Tabled.{all_named}
use Rattle.avi_file.proofs.tables.place_indexes.Goals as goal

pub returns-in-Err-clause-indexes : goal.returns-in-Err-clause-indexes
returns-in-Err-clause-indexes g c b holds = find_fails b c.in-Err.fault (c.in-Err.ensures.indexes b holds)

pub returns-in-Err-by_place-clause-indexes : goal.returns-in-Err-by_place-clause-indexes
returns-in-Err-by_place-clause-indexes g c b holds =
    let found = c.in-Ok.ensures.indexes b holds in
    order_fails b c.in-Err-by_place.fault found.0 (c.in-Err-by_place.ensures.order b (indexes b) (all_named b) (c.deref.ensures.value ∙ found.1))

pub returns-in-Ok-bodies_of-clause-indexes : goal.returns-in-Ok-bodies_of-clause-indexes
returns-in-Ok-bodies_of-clause-indexes g c b holds =
    let found = c.in-Ok.ensures.indexes b holds in
    indexes_placed b _ found.0 found.1 (c.in-Ok-by_place.ensures.order b (indexes b) (all_named b) (c.deref.ensures.value ∙ found.1)) (c.in-Ok-bodies_of.ensures ∙ ap Rattle.avi_file.specs.Order.bodies_in c.deref-2.ensures.value)
