-- Hundredths of a loudness text.
use Rattle.std.specs.Prelude.{ℕ, List, Option, Some, None, ◌&&◌, nat_le, if◌then◌else◌}
use Rattle.field_model.specs.Numbers.{is_hundredths, hundredths_of}

-- the number of hundredths that a text writes, up to 32,768
abbrev pub up_to_32768 : List ℕ → Option ℕ
up_to_32768 text = if is_hundredths text && nat_le (hundredths_of text) 32768 then Some (hundredths_of text) else None
