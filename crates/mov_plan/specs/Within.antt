-- What an atom in `moov` stands in, in code and in the definitions.
use Rattle.container_model.specs.Sizes.{Level}
use Rattle.mov_model.specs.Atoms.{Place, user_data, moov, trak, mdia, minf, stbl, dinf}
use Rattle.qt_atoms.specs.Walk.{level_of}
use Rattle.qt_atoms.specs.declared.header.Parent.{Parent}
use Rattle.qt_atoms.specs.declared.header.Parent.TheVariants as parents
use Rattle.mov_plan.specs.declared.within.Within.{Within}
use Rattle.mov_plan.specs.declared.within.Within.TheVariants.{UserData, Moov, Trak, Mdia, Minf, Stbl, Dinf}

-- the place of the definitions
abbrev pub place_in : Within → Place
place_in UserData = user_data
place_in Moov = moov
place_in Trak = trak
place_in Mdia = mdia
place_in Minf = minf
place_in Stbl = stbl
place_in Dinf = dinf

-- what a walker takes it for
abbrev pub parent_in : Within → Parent
parent_in UserData = parents.UserData
parent_in _ = parents.Atom

-- how its atoms are read
abbrev pub level_in : Within → Level
level_in w = level_of (parent_in w)
