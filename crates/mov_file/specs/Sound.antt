-- Where all that is met lies, whatever the depot tells.
use Rattle.std.specs.Prelude.{◌≡◌, ◌≤◌, ℕ, List, length}
use Rattle.std.specs.List.{AllByRecursion}
use Rattle.part_tree.specs.Ranges.{Ascends}
use Rattle.mov_file.specs.Map.{EndsBy, MayEndBy, PartEndsBy}
use Rattle.mov_file.specs.declared.holder.Holder.{Holder}
use Rattle.mov_file.specs.declared.holder.Holder.TheVariants.{File}
use Rattle.mov_file.specs.declared.reading.Reading.{Reading}
use Rattle.mov_file.specs.declared.track.TablesAt.{TablesAt}

-- the tables of a track
pub record TablesEndBy (end : ℕ) (t : TablesAt) : Type 0 where
  pub narrow : MayEndBy end t.narrow
  pub wide : MayEndBy end t.wide
  pub runs : MayEndBy end t.runs
  pub sizes : MayEndBy end t.sizes

-- all parts and tables end at a place or before it, and no more tracks have tables than were met
pub record AllEndBy (end : ℕ) (r : Reading) : Type 0 where
  pub parts : AllByRecursion (PartEndsBy end) r.parts.items
  pub tables : AllByRecursion (TablesEndBy end) r.tracks.items
  pub tracks : length r.tracks.items ≤ r.track

-- the ranges of the essence are in order, and end at a place or before it
pub record EssenceBy (end : ℕ) (r : Reading) : Type 0 where
  pub order : Ascends 0 r.mdats.items
  pub ends : AllByRecursion (EndsBy end) r.mdats.items

-- the essence stands among the atoms of the file alone
abbrev pub EssenceGrows : Holder → ℕ → ℕ → Reading → Reading → Type 0
EssenceGrows File from to old new = EssenceBy from old → EssenceBy to new
EssenceGrows h from to old new = new.mdats.items ≡ old.mdats.items

-- what is met between two places lies there
pub record LiesIn (h : Holder) (from to : ℕ) (old new : Reading) : Type 0 where
  pub all : (end : ℕ) → to ≤ end → AllEndBy end old → AllEndBy end new
  pub essence : EssenceGrows h from to old new
