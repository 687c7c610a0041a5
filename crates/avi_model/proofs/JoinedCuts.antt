-- Numbers written over the tables of a supported file leave the spans of an edit of fields and names, and what is laid is read again.
use Rattle.std.proofs.Common.{◌≡◌, ℕ, ◌+◌, ◌^◌, ◌<◌, Bool, List, ◌++◌, length, map, sym, ap, subst, ◌∙◌, arith}
use Rattle.std.specs.List.{AllByRecursion}
use Rattle.std.proofs.lemmas.List.{length-append}
use Rattle.me_bytes.specs.Bytes.{IsBytes}
use Rattle.container_model.specs.Chunk.{spell_all}
use Rattle.container_model.specs.Splice.{Cut}
use Rattle.container_model.specs.Units.{shut, units, lay, cuts}
use Rattle.container_model.specs.Written.{Write}
use Rattle.container_model.proofs.Written.{renewed_length}
use Rattle.carrier_model.specs.Info.{riff_fill}
use Rattle.carrier_model.specs.RiffForm.{new_pad, pad_cut}
use Rattle.opendml_index.specs.Index.{How}
use Rattle.avi_model.specs.After.{Changes, children_after, joined, list_cuts, pad_after}
use Rattle.avi_model.specs.Avi.{Avi, avi_of, behind, inner}
use Rattle.avi_model.specs.Index.{writes}
use Rattle.avi_model.specs.Named.{cell_of, children_named, ends_file, name_cuts, named}
use Rattle.avi_model.specs.NewFile.{new_cells}
use Rattle.avi_model.specs.Support.{Supported}
use Rattle.avi_model.proofs.Alike.{Alike, Told, alike_told, edit_alike}
use Rattle.avi_model.proofs.Children.{AreChildren, children_pads, children_plain}
use Rattle.avi_model.proofs.Cuts.{behind_length, ends_same, pad_same}
use Rattle.avi_model.proofs.Edit.{new_padded, new_plain, pad_stands}
use Rattle.avi_model.proofs.Frames.{alone, readable}
use Rattle.avi_model.proofs.Levels.{Ended}
use Rattle.avi_model.proofs.Lies.{Lies}
use Rattle.avi_model.proofs.NamedAlike.{children_alike, children_long}
use Rattle.avi_model.proofs.NamesClear.{children_stay, first_opens_again, names_cuts_stay}
use Rattle.avi_model.proofs.NamesSet.{supported_children}
use Rattle.avi_model.proofs.NamesStay.{ChildrenStay}
use Rattle.avi_model.proofs.Read.{Readable, renewed_avi}
use Rattle.avi_model.proofs.Sound.{ended, writes_lie}

module _ (o : List ℕ) (bytes : IsBytes o) (s : Supported o) (how : How) (e : Changes) where
  abbrev a : Avi
  a = avi_of o

  abbrev ws : List Write
  ws = writes how o

  abbrev b : Avi
  b = renewed_avi (writes how o) (avi_of o)

  abbrev na : Avi
  na = named (avi_of o) e.names

  abbrev nb : Avi
  nb = named (renewed_avi (writes how o) (avi_of o)) e.names

  g : Ended (avi_of o)
  g = ended o bytes s

  lie : AllByRecursion (λ w. Lies (avi_of o) w.at (length w.bytes)) (writes how o)
  lie = writes_lie o bytes s how

  old_children : AreChildren (avi_of o).children
  old_children = supported_children o bytes s

  stay : ChildrenStay (writes how o) e.names 12 (avi_of o).children
  stay = children_stay a g ws lie e.names 12 a.children (λ y j. j) (λ y j. j)

  -- the chunks with the numbers
  pub chunks_again : AreChildren (renewed_avi (writes how o) (avi_of o)).children
  chunks_again = ((readable o bytes s how).plain_chunks, first_opens_again a g ws lie e.names old_children.1)

  -- ---- the spans

  pub names_same : name_cuts (renewed_avi (writes how o) (avi_of o)) e.names ≡ name_cuts (avi_of o) e.names
  names_same = names_cuts_stay a g ws lie e.names

  cells_alike : Alike (map cell_of nb.children) (map cell_of na.children)
  cells_alike =
      subst (λ (t : Bool). Alike (map cell_of (children_named e.names t b.children)) (map cell_of na.children)) (sym (ends_same ws a))
      (children_alike ws e.names (ends_file a) 12 a.children (alone o bytes s how) stay old_children.1 chunks_again.1)

  told : Told (riff_fill (ends_file a)) (units shut (new_cells nb e.infos)) (units shut (new_cells na e.infos))
  told = alike_told (riff_fill (ends_file a)) (new_cells nb e.infos) (new_cells na e.infos) (edit_alike e.infos (map cell_of nb.children) (map cell_of na.children) cells_alike)

  pub named_long : length (spell_all nb.children) ≡ length (spell_all na.children)
  named_long = ap (λ (t : Bool). length (spell_all (children_named e.names t b.children))) (ends_same ws a) ∙ children_long ws e.names (ends_file a) 12 a.children stay

  laid_long : length (spell_all (children_after b e)) ≡ length (spell_all (children_after a e))
  laid_long = ap (λ (t : Bool). length (spell_all (lay (riff_fill t) (units shut (new_cells nb e.infos))))) (ends_same ws a) ∙ told.1

  old_long : length (inner b.children a.left) ≡ length (inner a.children a.left)
  old_long = omega (arith, renewed_length ws 12 a.children, length-append (spell_all b.children) a.left, length-append (spell_all a.children) a.left)

  -- the new form is as long
  pub size_stays : length (inner (children_after (renewed_avi (writes how o) (avi_of o)) e) (avi_of o).left) ≡ length (inner (children_after (avi_of o) e) (avi_of o).left)
  size_stays = omega (arith, laid_long, length-append (spell_all (children_after b e)) a.left, length-append (spell_all (children_after a e)) a.left)

  pub pad_stays : pad_after (renewed_avi (writes how o) (avi_of o)) e ≡ pad_after (avi_of o) e
  pad_stays =
      ap (λ (k : ℕ). new_pad k (length (inner (children_after b e) a.left)) a.pad (behind b)) old_long ∙ ap (λ (k : ℕ). new_pad (length (inner a.children a.left)) k a.pad (behind b)) size_stays
      ∙ pad_same ws (length (inner a.children a.left)) (length (inner (children_after a e) a.left)) a.pad (behind b) (behind a) (behind_length ws a)

  pub lists_same : list_cuts (renewed_avi (writes how o) (avi_of o)) e ≡ list_cuts (avi_of o) e
  lists_same =
      let old : length (inner nb.children a.left) ≡ length (inner na.children a.left) = omega (arith, named_long, length-append (spell_all nb.children) a.left, length-append (spell_all na.children) a.left) in
      ap (λ (t : Bool). cuts (riff_fill t) 12 (units shut (new_cells nb e.infos)) ++ pad_cut (8 + length (inner nb.children a.left)) a.pad (pad_after b e)) (ends_same ws a)
      ∙ ap (λ (x : List Cut). x ++ pad_cut (8 + length (inner nb.children a.left)) a.pad (pad_after b e)) (told.0 12)
      ∙ ap (λ (k : ℕ). cuts (riff_fill (ends_file a)) 12 (units shut (new_cells na e.infos)) ++ pad_cut (8 + k) a.pad (pad_after b e)) old
      ∙ ap (λ (p : List ℕ). cuts (riff_fill (ends_file a)) 12 (units shut (new_cells na e.infos)) ++ pad_cut (8 + length (inner na.children a.left)) a.pad p) pad_stays

  -- ---- what is laid is read again

  pub joined_readable : length (inner (children_after (renewed_avi (writes how o) (avi_of o)) e) (avi_of o).left) < 2 ^ 32 → Readable (joined (renewed_avi (writes how o) (avi_of o)) e)
  joined_readable small =
      let r = readable o bytes s how in
      record {
        plain_chunks = new_plain nb e.infos (children_plain e.names (ends_file b) b.children chunks_again);
        pads = new_padded nb e.infos (children_pads e.names (ends_file b) b.children b.left chunks_again r.pads);
        few_left = r.few_left;
        form_pad = pad_stands (length (inner b.children b.left)) (length (inner (children_after b e) b.left)) b.pad (behind b) r.form_pad;
        small = small;
        others_are = r.others_are;
        others_pads = r.others_pads;
        no_form = r.no_form;
      }
