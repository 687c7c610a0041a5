-- The kind of a file, by its first 12 bytes (RIFF; EBU Tech 3306; ITU-R BS.2088; QuickTime File Format).
use Rattle.std.specs.Prelude.{ℕ, List, [], ◌∷◌, take, drop, Bool, ◌&&◌, if◌then◌else◌, Option, Some, None, codes}
use Rattle.std.specs.Str.{bytes_eq}
use Rattle.std.specs.List.{list_any}
use Rattle.part_tree.specs.declared.names.Kind.{Kind}
use Rattle.part_tree.specs.declared.names.Kind.TheVariants.{Wave, Rf64, Bw64, Avi, Mov}

-- a form of an identifier and a type
abbrev pub is_form_of : List ℕ → List ℕ → List ℕ → Bool
is_form_of id word first = bytes_eq (take 4 first) id && bytes_eq (take 4 (drop 8 first)) word

-- the types of atoms with which a movie begins
abbrev pub movie_types : List (List ℕ)
movie_types = codes "ftyp" ∷ codes "moov" ∷ codes "mdat" ∷ codes "free" ∷ codes "skip" ∷ codes "wide" ∷ codes "pnot" ∷ []

-- whether the bytes begin a QuickTime movie
abbrev pub is_movie : List ℕ → Bool
is_movie first = list_any (bytes_eq (take 4 (drop 4 first))) movie_types

-- the forms of RIFF are tested before the types of atoms
abbrev pub kind : List ℕ → Option Kind
kind first =
    if is_form_of (codes "RIFF") (codes "WAVE") first then Some Wave
    else (if is_form_of (codes "RF64") (codes "WAVE") first then Some Rf64
    else (if is_form_of (codes "BW64") (codes "WAVE") first then Some Bw64
    else (if is_form_of (codes "RIFF") (codes "AVI ") first then Some Avi
    else (if is_movie first then Some Mov else None))))
