-- The names of QuickTime metadata keys that are fields (this project's own), and how the code keeps them.
use Rattle.std.specs.Prelude.{◌≡◌, ℕ, ◌-◌, List, ◌++◌, length, take, replicate, Bool, not, ◌&&◌, ◌==◌, nat_lt, nat_le, IsTrue}
use Rattle.std.specs.List.{list_all}

-- a printable byte that is no blank and no `=`
abbrev pub is_key_letter : ℕ → Bool
is_key_letter x = nat_lt 32 x && (nat_le x 126 && not (x == 61))

-- 1 to 255 such bytes
abbrev pub is_key_name : List ℕ → Bool
is_key_name name = nat_lt 0 (length name) && (nat_le (length name) 255 && list_all is_key_letter name)

-- a name, filled up with zeros to 255 bytes
abbrev pub filled : List ℕ → List ℕ
filled name = name ++ replicate (255 - length name) 0

-- 255 bytes keep a name of this length: the name, and zeros behind it
pub record Keeps (bytes : List ℕ) (len : ℕ) : Type 0 where
  pub long : length (take len bytes) ≡ len
  pub zeros : filled (take len bytes) ≡ bytes
  pub name : IsTrue (is_key_name (take len bytes))
