use Rattle.std.proofs.Common.{◌≡◌, ◌++◌}
use Rattle.std.specs.List.{flat_map}
use Rattle.qt_text.specs.User.{text_bytes}
use Rattle.qt_text.proofs.Texts.{bytes_from}
use Rattle.qt_text.proofs.spell_texts.Given as goal

-- what is spelled so far and the texts that are left are the whole
abbrev pub invariant-loop-value : goal.invariant-loop-value
invariant-loop-value l = l.body.items ++ bytes_from l.value-index l.values ≡ flat_map text_bytes l.values
