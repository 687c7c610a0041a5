-- RF64 and BW64, which differ in their identifier alone (EBU Tech 3306; ITU-R BS.2088).
use Rattle.std.specs.Prelude.{ℕ, List, ◌++◌, take, drop, codes, if◌then◌else◌}
use Rattle.std.specs.Str.{bytes_eq}

-- the other identifier of the two
abbrev pub twin_id : List ℕ → List ℕ
twin_id id = if bytes_eq (codes "RF64") id then codes "BW64" else (if bytes_eq (codes "BW64") id then codes "RF64" else id)

-- a file with the other identifier
abbrev pub twin : List ℕ → List ℕ
twin b = twin_id (take 4 b) ++ drop 4 b
