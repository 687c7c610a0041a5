-- QuickTime movies as a kind of files.
use Rattle.std.specs.Prelude.{List, None}
use Rattle.part_tree.specs.declared.names.Kind.TheVariants.{Mov}
use Rattle.field_model.specs.Kind.{KindModel}
use Rattle.mov_model.specs.After.{file_after, large_after, placed_after, room_after}
use Rattle.mov_model.specs.Edited.{changes, fields, new_file}
use Rattle.mov_model.specs.Kept.{Kept, kept, placed}
use Rattle.mov_model.specs.Large.{too_large}
use Rattle.mov_model.specs.Map.{essence, parts_of, tracks_of}
use Rattle.mov_model.specs.Pieces.{Pieces, pieces}
use Rattle.mov_model.specs.Room.{has_room, patches}
use Rattle.mov_model.specs.Why.{why}

-- The kind where each table of chunk places keeps its width, so that a place past it is too large. The essence is what the `mdat`
-- atoms hold. Nothing of it has a checksum of its own.
abbrev pub narrow_kind : KindModel
narrow_kind = record {
  Kept = Kept;
  Pieces = List Pieces;
  kind = λ o. Mov;
  why = why;
  fields = fields;
  streams = λ o. 0;
  parts = parts_of;
  essence = essence;
  hashed = λ o. None;
  entries = λ o. None;
  tracks = tracks_of;
  new_file = new_file;
  too_large = too_large;
  has_room = has_room;
  patches = patches;
  kept = kept;
  placed = λ o e k. placed k (changes o e);
  pieces = pieces;
  Also = λ o e n. Unit {0};
}

-- The kind: a movie of which a place passes 32 bits gets wide tables.
abbrev pub mov_kind : KindModel
mov_kind = record narrow_kind { new_file = file_after; too_large = large_after; has_room = room_after; placed = placed_after }
