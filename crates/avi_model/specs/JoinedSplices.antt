-- The new file after an edit of fields and names as one splice of the old one (this project's own).
use Rattle.std.specs.Prelude.{◌≡◌, ◌<◌, ℕ, ◌+◌, ◌-◌, nat_lt, List, [], ◌∷◌, length, map, Bool, false, Some, if◌then◌else◌}
use Rattle.part_tree.specs.Moves.{place}
use Rattle.container_model.specs.Chunk.{spell_all}
use Rattle.container_model.specs.Splice.{Cut, splice, Ascend, Outside}
use Rattle.carrier_model.specs.Gaps.{moves_of}
use Rattle.opendml_index.specs.Index.{move}
use Rattle.avi_model.specs.After.{Changes, children_after, goes, list_cuts}
use Rattle.avi_model.specs.Avi.{Avi, avi_of, inner}
use Rattle.avi_model.specs.Named.{Names, Site, hdrl_site, name_cuts, named}
use Rattle.avi_model.specs.NewFile.{put_cuts, size_cut, table_cuts}

-- whether a place is behind the first byte of the first of some lists
abbrev pub is_behind : List Site → ℕ → Bool
is_behind [] p = false
is_behind (s ∷ ss) p = nat_lt s.at p

-- Where a place of the file with other names stood before: what stands behind hdrl by what the chunks grew.
abbrev pub old_place : Avi → Names → ℕ → ℕ
old_place a e p = if is_behind (hdrl_site a) p then (p + length (spell_all a.children)) - length (spell_all (named a e).children) else p

-- the spans that the lists of fields replace, in the old file
abbrev pub old_list_cuts : Avi → Changes → List Cut
old_list_cuts a e = map (λ (c : Cut). record c { at = old_place a e.names c.at }) (list_cuts a e)

-- the spans that an edit of fields and names replaces, by place
abbrev pub joined_cuts : Avi → Changes → List Cut
joined_cuts a e = put_cuts (name_cuts a e.names) (old_list_cuts a e)

-- All spans, by place: the form's size, the bodies of tables with their numbers moved, the sizes of hdrl and of the streams' lists, the
-- slots of units and pads.
abbrev pub after_cuts : List ℕ → Changes → List Cut
after_cuts o e =
    size_cut (length (inner (children_after (avi_of o) e) (avi_of o).left)) ∷ put_cuts (table_cuts (move (goes (avi_of o) e)) o) (joined_cuts (avi_of o) e)

-- It is the old file with the spans of one list replaced; these ascend, are disjoint and lie in it; and the ranges between them put
-- each place where the numbers of tables are moved.
pub record IsJoinedSplice (o : List ℕ) (e : Changes) (n : List ℕ) : Type 0 where
  pub spliced : n ≡ splice o (after_cuts o e)
  pub ascend : Ascend 0 (after_cuts o e) (length o)
  pub put : (p : ℕ) → Outside (after_cuts o e) p → p < length o → place (moves_of (after_cuts o e) (length o)) p ≡ Some (goes (avi_of o) e p)
