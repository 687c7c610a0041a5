-- WAVE files with RF64 as a kind of files.
use Rattle.std.specs.Prelude.{◌≡◌, List, [], ◌∷◌, ℕ, Some, None}
use Rattle.field_model.specs.Kind.{KindModel}
use Rattle.field_model.specs.Update.{raw_items}
use Rattle.container_model.specs.Chunk.{Chunk}
use Rattle.wave_model.specs.Wave.{wave_of, kind_of}
use Rattle.wave_model.specs.Fields.{fields}
use Rattle.wave_model.specs.Why.{why}
use Rattle.wave_model.specs.Map.{parts_of_file, sound}
use Rattle.wave_model.specs.New.{new_file}
use Rattle.wave_model.specs.Large.{too_large}
use Rattle.wave_model.specs.Room.{has_room, patches}
use Rattle.wave_model.specs.Edited.{Kept, kept_of, placed_in, pieces, first_junk}
use Rattle.wave_model.specs.Widen.{file_after, large_after, room_after, placed_after, JunkStays}

-- The kind: a RIFF form that grows past 32 bits becomes RF64.
abbrev pub wave_kind : KindModel
wave_kind = record {
  Kept = Kept;
  Pieces = List (List (List ℕ));
  kind = kind_of;
  why = why;
  fields = fields;
  streams = λ o. 0;
  parts = parts_of_file;
  essence = λ o. sound o ∷ [];
  hashed = λ o. Some (sound o);
  entries = λ o. None;
  tracks = λ o. [];
  new_file = file_after;
  too_large = large_after;
  has_room = room_after;
  patches = patches;
  kept = kept_of;
  placed = placed_after;
  pieces = pieces;
  Also = JunkStays;
}

-- The same kind where each form keeps its width, so that one past 32 bits is too large: what the planner makes until it widens.
abbrev pub narrow_kind : KindModel
narrow_kind = record wave_kind {
  new_file = new_file;
  too_large = too_large;
  has_room = λ o e. has_room (wave_of o) (raw_items (fields o) e);
  placed = λ o e k. placed_in (raw_items (fields o) e) k;
  Also = λ o e n. (c : Chunk) → first_junk (wave_of o) ≡ c ∷ [] → first_junk (wave_of n) ≡ c ∷ [];
}
