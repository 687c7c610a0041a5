-- What an atom stands in, in code and in the definitions.
use Rattle.container_model.specs.Sizes.{Level}
use Rattle.mov_model.specs.Atoms.{Place, file, user_data, moov, trak, mdia, minf, stbl, dinf}
use Rattle.qt_atoms.specs.declared.header.Parent.{Parent}
use Rattle.qt_atoms.specs.declared.header.Parent.TheVariants as parent
use Rattle.qt_atoms.specs.Walk.{level_of}
use Rattle.mov_file.specs.declared.holder.Holder.{Holder}
use Rattle.mov_file.specs.declared.holder.Holder.TheVariants.{File, UserData, Moov, Trak, Mdia, Minf, Stbl, Dinf}

-- the place of the definitions
abbrev pub place_of : Holder → Place
place_of File = file
place_of UserData = user_data
place_of Moov = moov
place_of Trak = trak
place_of Mdia = mdia
place_of Minf = minf
place_of Stbl = stbl
place_of Dinf = dinf

-- what a walker takes it for
abbrev pub parent_of : Holder → Parent
parent_of File = parent.File
parent_of UserData = parent.UserData
parent_of _ = parent.Atom

-- how its atoms are read
abbrev pub level_in : Holder → Level
level_in h = level_of (parent_of h)
