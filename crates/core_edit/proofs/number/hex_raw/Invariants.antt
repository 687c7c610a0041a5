use Rattle.std.proofs.Common.{◌≡◌, ◌++◌, ◌*◌, drop, take, length, true}
use Rattle.std.specs.List.{list_all}
use Rattle.std.specs.Char.{is_ascii_hexdigit}
use Rattle.field_model.specs.Numbers.{hex_bytes}
use Rattle.core_edit.proofs.number.hex_raw.Given as goal

-- the bytes so far, and those of the digits that are left
abbrev pub invariant-loop-i : goal.invariant-loop-i
invariant-loop-i l = record {
  so_far : take l.i l.bytes ++ hex_bytes (drop (2 * l.i) l.text) ≡ hex_bytes l.text;
  long : length l.text ≡ l.len;
  room : length l.bytes ≡ 64;
  digits : list_all is_ascii_hexdigit l.text ≡ true;
}
