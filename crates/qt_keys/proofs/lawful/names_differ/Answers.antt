use Rattle.std.proofs.Common.{◌∙◌, ap}
use Rattle.std.specs.Str.{bytes_eq}
use Rattle.qt_keys.specs.Table.{all_differ}
use Rattle.qt_keys.proofs.Twins.{texts_differ}
use Rattle.qt_keys.proofs.lawful.names_differ.Goals as goal

pub returns : goal.returns
returns c = c.differ.ensures ∙ texts_differ c.in_ok-names.names.items ∙ ap (all_differ bytes_eq) c.in_ok-names.ensures
