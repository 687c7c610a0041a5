-- A form of RIFF and what an edit of its chunks makes of it: its body, size and pad, the spans that are replaced, and the patches
-- in place. (Microsoft and IBM, Multimedia Programming Interface and Data Specifications 1.0; EBU Tech 3306 for a size in ds64;
-- pads and room are this project's own.)
use Rattle.std.specs.Prelude.{ℕ, ◌+◌, ◌%◌, ◌^◌, List, [], ◌∷◌, ◌++◌, length, take, drop, Bool, ◌&&◌, not, nat_le, ◌==◌, if◌then◌else◌}
use Rattle.std.specs.Int.{w32, w64, to_le_bytes}
use Rattle.std.specs.Str.{bytes_eq}
use Rattle.part_tree.specs.declared.plan.Patch.{Patch}
use Rattle.part_tree.specs.Patches.{all_bytes}
use Rattle.container_model.specs.Chunk.{Form, wide, Chunk, spell, spell_all}
use Rattle.container_model.specs.Items.{is_nil}
use Rattle.container_model.specs.Splice.{Cut}
use Rattle.container_model.specs.Units.{Cell, shut, Fill, units, lay, cuts}
use Rattle.carrier_model.specs.Info.{riff_fill}
use Rattle.carrier_model.specs.Room.{units_fit, patch, unit_patches}

-- A form at the front of a file: its header, what its body has before the chunks (its type, and ds64 where it has one), the
-- chunks, the form's rest and pad, and the tail behind the form.
pub record RiffForm : Type 0 where
  pub form : Form
  pub id : List ℕ
  pub front : List ℕ
  pub children : List Chunk
  pub left : List ℕ
  pub pad : List ℕ
  pub tail : List ℕ

-- its body
abbrev pub body_of : RiffForm → List ℕ
body_of r = r.front ++ (spell_all r.children ++ r.left)

-- the form as a chunk
abbrev pub chunk_of : RiffForm → Chunk
chunk_of r = record { form = r.form; id = r.id; body = body_of r; pad = r.pad }

-- the file as bytes
abbrev pub spelled : RiffForm → List ℕ
spelled r = spell (chunk_of r) ++ r.tail

-- ---- an edit: the cells of its chunks

-- The last slot ends the file where no rest, no pad of the form and no tail follow it.
abbrev pub ends_file : RiffForm → Bool
ends_file r = is_nil r.left && (is_nil r.pad && is_nil r.tail)

-- the padding of units in the file
abbrev pub fill_of : RiffForm → Fill
fill_of r = riff_fill (ends_file r)

-- the chunks of the new form
abbrev pub new_children : RiffForm → List Cell → List Chunk
new_children r xs = lay (fill_of r) (units shut xs)

-- the size that the new form has
abbrev pub new_size : RiffForm → List Cell → ℕ
new_size r xs = length (body_of (record r { children = new_children r xs }))

-- A form's pad stays where its size does; else it is there exactly where the size is odd and a tail follows.
abbrev pub new_pad : ℕ → ℕ → List ℕ → List ℕ → List ℕ
new_pad old new pad tail = if old == new then pad else (if (new % 2 == 1) && not (is_nil tail) then 0 ∷ [] else [])

-- the pad of the new form
abbrev pub pad_after : RiffForm → List Cell → List ℕ
pad_after r xs = new_pad (length (body_of r)) (new_size r xs) r.pad r.tail

-- riffSize stands first in the body of ds64, which is the form's first chunk, behind its type
abbrev pub sized_front : Form → ℕ → List ℕ → List ℕ
sized_front wide n front = take 12 front ++ (to_le_bytes w64 n ++ drop 20 front)
sized_front _ n front = front

-- the new form
abbrev pub new_form : RiffForm → List Cell → RiffForm
new_form r xs = record r { front = sized_front r.form (new_size r xs) r.front; children = new_children r xs; pad = pad_after r xs }

-- ---- the same as spans of the old file

-- where the chunks begin
abbrev pub children_at : RiffForm → ℕ
children_at r = 8 + length r.front

-- the form's pad, where it comes, goes or changes
abbrev pub pad_cut : ℕ → List ℕ → List ℕ → List Cut
pad_cut at old new = if bytes_eq old new then [] else record { at = at; len = length old; bytes = new } ∷ []

-- the spans that an edit replaces: the slots of its units, and the pad of the form
abbrev pub form_cuts : RiffForm → List Cell → List Cut
form_cuts r xs = cuts (fill_of r) (children_at r) (units shut xs) ++ pad_cut (8 + length (body_of r)) r.pad (pad_after r xs)

-- a file with its form's size set: in the form's own field at 4, or in ds64 at 20
abbrev pub with_size : Form → ℕ → List ℕ → List ℕ
with_size wide n b = take 20 b ++ (to_le_bytes w64 n ++ drop 28 b)
with_size _ n b = take 4 b ++ (to_le_bytes w32 n ++ drop 8 b)

-- ---- in place

-- the form's size, where it changes
abbrev pub size_patch : Form → ℕ → ℕ → List Patch
size_patch wide old new = if old == new then [] else patch 20 (to_le_bytes w64 new)
size_patch _ old new = if old == new then [] else patch 4 (to_le_bytes w32 new)

-- by place: the form's size, then each unit
abbrev pub form_patches : RiffForm → List Cell → List Patch
form_patches r xs = size_patch r.form (length (body_of r)) (new_size r xs) ++ unit_patches (fill_of r) (children_at r) (units shut xs)

-- each unit fits its slot, and the patches have at most 16 MiB
abbrev pub form_room : RiffForm → List Cell → Bool
form_room r xs = units_fit (ends_file r) (units shut xs) && nat_le (all_bytes (form_patches r xs)) (2 ^ 24)
