-- What is read of the body of a user item (QuickTime File Format, user data).
use Rattle.std.specs.Prelude.{◌≡◌, ◌≢◌, ℕ, ◌+◌, List, [], length, nat_lt, Option, Some, None, if◌then◌else◌}
use Rattle.part_tree.specs.declared.field.Value.{Value}
use Rattle.qt_text.specs.User.{text_size, texts}

-- these are the texts that fill the body, and there is one
pub record AreTexts (body : List ℕ) (values : List Value) : Type 0 where
  pub all : values ≡ texts body
  pub some : values ≢ []

-- the length of the text at the front, where it is there
abbrev pub text_len_of : List ℕ → Option ℕ
text_len_of b = if nat_lt (length b) (4 + text_size b) then None else Some (text_size b)
