-- AVI files as a kind of files.
use Rattle.std.specs.Prelude.{◌+◌, ◌-◌, [], length, map, Some, None}
use Rattle.part_tree.specs.declared.names.Kind.TheVariants.{Avi}
use Rattle.part_tree.specs.declared.names.Span.{Span}
use Rattle.field_model.specs.Kind.{KindModel}
use Rattle.avi_model.specs.After.{all_changes, all_fields, file_after, large_after}
use Rattle.avi_model.specs.Avi.{avi_of, strls}
use Rattle.avi_model.specs.Edited.{changes, fields, new_file}
use Rattle.avi_model.specs.Kept.{Kept, kept, placed}
use Rattle.avi_model.specs.KeptAfter.{KeptAll, all_kept, all_placed}
use Rattle.avi_model.specs.Large.{too_large}
use Rattle.avi_model.specs.Map.{parts_of, essence_spans, counted_entries}
use Rattle.avi_model.specs.Pieces.{Pieces, pieces}
use Rattle.avi_model.specs.Room.{has_room, patches}
use Rattle.avi_model.specs.RoomAfter.{patches_after, room_after}
use Rattle.avi_model.specs.Why.{why, why_named}

-- a body behind its type word
abbrev pub behind_word : Span → Span
behind_word s = record { at = s.at + 4; len = s.len - 4 }

-- The kind whose fields are those of the lists of fields alone. The essence is what the movi lists hold behind their type words.
-- Nothing of it has a checksum of its own.
abbrev pub listed_kind : KindModel
listed_kind = record {
  Kept = Kept;
  Pieces = Pieces;
  kind = λ o. Avi;
  why = why;
  fields = fields;
  streams = λ o. 0;
  parts = parts_of;
  essence = λ o. map behind_word (essence_spans o);
  hashed = λ o. None;
  entries = λ o. Some (counted_entries o);
  tracks = λ o. [];
  new_file = new_file;
  too_large = too_large;
  has_room = has_room;
  patches = patches;
  kept = kept;
  placed = λ o e k. placed k (changes o e);
  pieces = pieces;
  Also = λ o e n. Unit {0};
}

-- The kind: each stream has its names too.
abbrev pub avi_kind : KindModel
avi_kind = record listed_kind {
  Kept = KeptAll;
  why = why_named;
  fields = all_fields;
  streams = λ o. length (strls (avi_of o));
  new_file = file_after;
  too_large = large_after;
  has_room = room_after;
  patches = patches_after;
  kept = all_kept;
  placed = λ o e k. all_placed k (all_changes o e);
}
