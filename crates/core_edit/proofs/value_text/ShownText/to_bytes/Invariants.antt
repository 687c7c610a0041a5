use Rattle.std.proofs.Common.{◌≡◌, take}
use Rattle.core_edit.specs.Shown.{text_of}
use Rattle.core_edit.proofs.value_text.ShownText.to_bytes.Given as goal

-- the bytes so far
abbrev pub invariant-loop-i : goal.invariant-loop-i
invariant-loop-i l = l.text.items ≡ take l.i (text_of l.self)
