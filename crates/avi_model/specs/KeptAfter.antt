-- What an edit of fields and names keeps, in order, and where the edited fields stand in it.
use Rattle.std.specs.Prelude.{ℕ, List, [], ◌∷◌, map, take, filter, if◌then◌else◌}
use Rattle.std.specs.List.{flat_map}
use Rattle.container_model.specs.Chunk.{Chunk}
use Rattle.carrier_model.specs.Lists.{Node, other}
use Rattle.opendml_index.specs.Index.{blank}
use Rattle.avi_model.specs.After.{Changes}
use Rattle.avi_model.specs.Avi.{Avi, avi_of, but_first}
use Rattle.avi_model.specs.Heads.{Head, head_of, head_with}
use Rattle.avi_model.specs.Index.{renumbered}
use Rattle.avi_model.specs.Kept.{Kept, nodes_of, placed}
use Rattle.avi_model.specs.Named.{is_hdrl}

-- Of a list hdrl the type alone stands among the nodes of the first form.
abbrev pub outer_nodes : Chunk → List Node
outer_nodes c = if is_hdrl c then other c.form c.id (take 4 c.body) ∷ [] else nodes_of c

-- the first of some lists, opened
abbrev pub first_head : List Chunk → List Head
first_head [] = []
first_head (c ∷ cs) = head_of c ∷ []

-- the nodes of the first form, the first hdrl opened, the bodies of the others, and the rest, the further forms and the tail
pub record KeptAll : Type 0 where
  pub file : Kept
  pub heads : List Head
  pub closed : List (List ℕ)

-- what is kept of the parts of a file
abbrev pub all_kept_in : Avi → KeptAll
all_kept_in a =
    let hdrls = filter is_hdrl a.children in
    record {
      file = record { nodes = flat_map outer_nodes a.children; left = a.left; others = a.others; tail = a.tail };
      heads = first_head hdrls;
      closed = map (λ (c : Chunk). c.body) (but_first hdrls);
    }

-- what is kept of a file, with zeros for the numbers of its tables that move
abbrev pub all_kept : List ℕ → KeptAll
all_kept b = all_kept_in (avi_of (renumbered blank b))

-- what is kept, with the edited fields where they stand
abbrev pub all_placed : KeptAll → Changes → KeptAll
all_placed k e = record k { file = placed k.file e.infos; heads = map (head_with e.names) k.heads }
