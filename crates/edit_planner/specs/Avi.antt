-- The first form of an AVI file as a planner knows it, and what an edit of lists makes of its cells (this project's own).
use Rattle.std.specs.Prelude.{◌≡◌, ◌≤◌, ◌<◌, ℕ, ◌+◌, List, length, map, Bool, Some, if◌then◌else◌}
use Rattle.std.specs.List.{flat_map, AllByRecursion}
use Rattle.part_tree.specs.Letters.{four}
use Rattle.part_tree.specs.declared.part.Role.TheVariants.{Opaque}
use Rattle.container_model.specs.Chunk.{Chunk}
use Rattle.container_model.specs.Units.{Cell, live}
use Rattle.carrier_model.specs.Info.{info, info_items}
use Rattle.carrier_model.specs.Lists.{edit_list_cells, edit_lists}
use Rattle.avi_model.specs.Avi.{avi_of}
use Rattle.avi_model.specs.Named.{cell_of}
use Rattle.avi_model.specs.NewFile.{Items, home}
use Rattle.avi_plan.specs.Form.{IsFormOf, IsSoundForm}
use Rattle.wave_file.specs.Map.{Ascend}
use Rattle.wave_model.specs.Fields.{is_info}
use Rattle.edit_planner.specs.Cells.{list_in, told_row_by}
use Rattle.edit_planner.specs.Row.{with_pad}
use Rattle.edit_planner.specs.Stand.{parts_from}
use Rattle.edit_planner.specs.Tops.{IsRiff, StandsIn, avi_role, head_from}
use Rattle.edit_planner.specs.declared.avi.AviForm.{AviForm}
use Rattle.edit_planner.specs.declared.cells.CellAt.{CellAt}
use Rattle.edit_planner.specs.declared.head.Head.{Head}
use Rattle.edit_planner.specs.declared.cells.Content.{Content}
use Rattle.edit_planner.specs.declared.cells.Content.TheVariants.{Kept, Listed}

-- ---- the first form

-- what is told of the first form is that of the file
pub record TellsForm (b : List ℕ) (f : AviForm) : Type 0 where
  pub form : IsFormOf b f.form
  pub chunks_are : f.chunks.items ≡ parts_from avi_role 12 (avi_of b).children
  pub head : head_from 0 12 (avi_of b).children ≡ Some f.head

-- whatever the file: the chunks follow each other in the form, and `hdrl` is one of them
pub record SoundForm (f : AviForm) : Type 0 where
  pub form : IsSoundForm f.form
  pub ascend : Ascend 12 f.chunks.items f.end
  pub inside : f.end ≤ 8 + f.form.size
  pub number : f.head.number < length f.chunks.items
  pub head : StandsIn 12 f.end f.head

-- ---- the cells

-- what a planner holds of a chunk that is kept: a list by its items, and any other by its identifier
abbrev pub avi_held : ℕ → Chunk → Content
avi_held at c = if is_info c then Listed (list_in c) else Kept (four c.id) Opaque

-- the cells of chunks
abbrev pub avi_cells : List Chunk → List Cell
avi_cells cs = map cell_of cs

-- those after an edit of lists, and the chunks that stand then, without padding
abbrev pub cells_after : Items → List Chunk → List Cell
cells_after e cs = edit_list_cells info info_items home e (avi_cells cs)

abbrev pub lists_after : Items → List Chunk → List Chunk
lists_after e cs = edit_lists info info_items home e (flat_map live (avi_cells cs))

-- the row of some chunks, of which that of a number is the first `hdrl`, after an edit of lists
abbrev pub EditsLists : List Chunk → ℕ → Bool → Items → List CellAt → List CellAt → Type 0
EditsLists cs k lacks e old new =
    (h : Head) → head_from 0 12 cs ≡ Some h → h.number ≡ k → AllByRecursion IsRiff cs → old ≡ told_row_by avi_held 12 (avi_cells cs)
    → new ≡ with_pad lacks k (told_row_by avi_held 12 (cells_after e cs))
