use Rattle.avi_model.proofs.Ordered.{olds_sorted, entries_sorted, bases_sorted, counts_sorted, indexes_ascend}
use Rattle.avi_model.proofs.Rising.{movis_ascend}
use Rattle.avi_model.proofs.indexes_are_searched_by_place.Goals as goal

pub returns : goal.returns
returns c = record { rows = olds_sorted; entries = entries_sorted; based = bases_sorted; counted = counts_sorted; ascend = indexes_ascend; movis = movis_ascend }
