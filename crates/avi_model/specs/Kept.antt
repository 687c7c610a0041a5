-- What an edit keeps, in order, and where the edited fields stand in it.
use Rattle.std.specs.Prelude.{ℕ, List, [], ◌∷◌, if◌then◌else◌}
use Rattle.std.specs.List.{flat_map}
use Rattle.container_model.specs.Chunk.{Chunk}
use Rattle.carrier_model.specs.Lists.{Node, other, nodes_in, place_lists}
use Rattle.carrier_model.specs.Info.{info, info_items, is_padding}
use Rattle.avi_model.specs.Avi.{Avi, avi_of}
use Rattle.opendml_index.specs.Index.{blank}
use Rattle.avi_model.specs.Index.{renumbered}
use Rattle.avi_model.specs.NewFile.{Items, home}

-- Padding has no node. A list of fields has the marks of its fields, its other chunks and its rest; every other chunk its whole body.
abbrev pub other_node : Chunk → List Node
other_node c = if is_padding c then [] else other c.form c.id c.body ∷ []

-- the node of a chunk, if it has one
abbrev pub nodes_of : Chunk → List Node
nodes_of c = nodes_in info info_items other_node c

-- the nodes of the first form and its rest, the further forms, and the tail
pub record Kept : Type 0 where
  pub nodes : List Node
  pub left : List ℕ
  pub others : List Chunk
  pub tail : List ℕ

-- what is kept of the parts of a file
abbrev pub kept_in : Avi → Kept
kept_in a = record { nodes = flat_map nodes_of a.children; left = a.left; others = a.others; tail = a.tail }

-- what is kept of a file, with zeros for the numbers of its tables that move
abbrev pub kept : List ℕ → Kept
kept b = kept_in (avi_of (renumbered blank b))

-- what is kept, with the edited fields where they stand
abbrev pub placed : Kept → Items → Kept
placed k e = record k { nodes = place_lists home e k.nodes }
