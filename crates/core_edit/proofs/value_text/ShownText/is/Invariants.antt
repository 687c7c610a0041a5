use Rattle.std.proofs.Common.{◌≡◌, drop, length}
use Rattle.std.specs.Str.{bytes_eq}
use Rattle.core_edit.specs.Shown.{text_of}
use Rattle.core_edit.proofs.value_text.ShownText.is.Given as goal

-- the bytes from here on decide
abbrev pub invariant-loop-i : goal.invariant-loop-i
invariant-loop-i l = record {
  same : bytes_eq (drop l.i (text_of l.self)) (drop l.i (text_of l.other)) ≡ bytes_eq (text_of l.self) (text_of l.other);
  long : length (text_of l.self) ≡ length (text_of l.other);
}
