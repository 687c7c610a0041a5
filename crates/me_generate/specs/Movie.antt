-- What stands round the samples of a movie that is made (QuickTime File Format; the file is this project's own).
use Rattle.std.specs.Prelude.{ℕ, ◌+◌, ◌*◌, List, [], ◌∷◌, ◌++◌, codes}
use Rattle.me_bytes.specs.Bytes.{be_bytes}
use Rattle.me_generate.specs.Bytes.{atom, numbers, zeros}

abbrev pub file_type : List ℕ
file_type = atom 20 (codes "ftyp") ++ codes "qt  " ++ be_bytes 4 0 ++ codes "qt  "

-- the atoms that lead from a track to its tables
abbrev pub media : ℕ → List ℕ
media n = atom (88 + 4 * n) (codes "mdia") ++ atom (80 + 4 * n) (codes "minf") ++ atom (72 + 4 * n) (codes "stbl")

abbrev pub track : ℕ → List ℕ
track n = atom (128 + 4 * n) (codes "moov") ++ atom (96 + 4 * n) (codes "trak") ++ media n

-- one row: from the first chunk on, one sample a chunk
abbrev pub chunks : List ℕ
chunks = atom 28 (codes "stsc") ++ numbers (0 ∷ 1 ∷ 1 ∷ 1 ∷ 1 ∷ [])

-- all samples have eight bytes
abbrev pub sizes : ℕ → List ℕ
sizes n = atom 20 (codes "stsz") ++ numbers (0 ∷ 8 ∷ n ∷ [])

-- a place for each chunk follows
abbrev pub places : ℕ → List ℕ
places n = atom (16 + 4 * n) (codes "stco") ++ numbers (0 ∷ n ∷ [])

abbrev pub tables : ℕ → List ℕ
tables n = chunks ++ sizes n ++ places n

abbrev pub movie_head : ℕ → List ℕ
movie_head n = file_type ++ track n ++ tables n

-- a title of four bytes, in the language code 15C7
abbrev pub title : List ℕ
title = atom 16 (169 ∷ codes "nam") ++ be_bytes 2 4 ++ be_bytes 2 5575 ++ codes "Reel"

abbrev pub user : List ℕ
user = atom 24 (codes "udta") ++ title

abbrev pub padding : List ℕ
padding = atom 24 (codes "free") ++ zeros 16

abbrev pub movie_middle : ℕ → List ℕ
movie_middle n = user ++ padding ++ atom (8 + 8 * n) (codes "mdat")
