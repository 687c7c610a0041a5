use Rattle.std.proofs.Common.{◌∙◌, ap}
use Rattle.std.specs.Ordering.{eq_by_cmp}
use Rattle.qt_keys.specs.Table.{all_differ}
use Rattle.qt_keys.proofs.Twins.{sorted_same}
use Rattle.qt_keys.proofs.differ.differ.Goals as goal

pub returns : goal.returns
returns g c = c.neighbours_differ.ensures ∙ ap (all_differ (eq_by_cmp g.T.Ord.cmp)) c.as_slice.ensures.value ∙ sorted_same g.T.Ord.cmp g.met.T.Ord.total _ _ c.sort_unstable.ensures.permutation
