-- The lists that are opened in the new file end, after an edit of fields and names.
use Rattle.std.proofs.Common.{◌≡◌, ℕ, ◌+◌, ◌^◌, ◌<◌, Bool, true, false, cond, List, [], ◌∷◌, length, map, refl, sym, ap, subst, ◌∙◌}
use Rattle.std.specs.Prelude.{◌&&◌, codes}
use Rattle.std.specs.List.{AllByRecursion}
use Rattle.std.proofs.lemmas.List.{length-map}
use Rattle.me_bytes.specs.Bytes.{IsBytes}
use Rattle.container_model.specs.Chunk.{Chunk, spell}
use Rattle.container_model.specs.Items.{is_nil}
use Rattle.container_model.specs.Splice.{shift}
use Rattle.container_model.specs.Stood.{Stood, bare, stood, only, first_of}
use Rattle.container_model.proofs.Copied.{moved_to}
use Rattle.container_model.proofs.Stood.{renew_at}
use Rattle.carrier_model.specs.Info.{info, SetsInfo}
use Rattle.opendml_index.specs.Index.{move}
use Rattle.avi_model.specs.After.{Changes, children_after, goes, joined, list_cuts}
use Rattle.avi_model.specs.Avi.{Avi, avi_of, hdrls, inner, strls}
use Rattle.avi_model.specs.Index.{writes}
use Rattle.avi_model.specs.Named.{children_named, ends_file, hdrl_named, is_hdrl, named}
use Rattle.avi_model.specs.Support.{ListEnds, Supported}
use Rattle.avi_model.proofs.Children.{AreChildren, behind_one, kids_of}
use Rattle.avi_model.proofs.Edit.{EndsList, Ready, ready_of}
use Rattle.avi_model.proofs.Fields.{lists_end}
use Rattle.avi_model.proofs.Frames.{alone}
use Rattle.avi_model.proofs.InfosEnd.{infos_laid}
use Rattle.avi_model.proofs.JoinedCuts.{chunks_again}
use Rattle.avi_model.proofs.JoinedLaid.{hdrl_small, hdrls_listed, hdrls_still, nb_listed, strls_listed}
use Rattle.avi_model.proofs.Kept.{lists_of}
use Rattle.avi_model.proofs.Laid.{ListsStay}
use Rattle.avi_model.proofs.NamedAlike.{not_info}
use Rattle.avi_model.proofs.NamedLists.{AreListed}
use Rattle.avi_model.proofs.Read.{renewed_avi}
use Rattle.avi_model.proofs.Respelled.{list_type}

module _ (o : List ℕ) (bytes : IsBytes o) (s : Supported o) (e : Changes) where
  abbrev a : Avi
  a = avi_of o

  abbrev b : Avi
  b = renewed_avi (writes (move (goes (avi_of o) e)) o) (avi_of o)

  abbrev nb : Avi
  nb = named b e.names

  again : AreChildren b.children
  again = chunks_again o bytes s (move (goes (avi_of o) e)) e

  -- what is read to its end is, wherever it goes
  ends_moved : (f : ℕ → ℕ) (xs : List Stood) → AreListed e.names xs → AllByRecursion ListEnds (map (moved_to f) xs)
  ends_moved f [] h = tt
  ends_moved f (x ∷ xs) h = (h.0.is.all_read, ends_moved f xs h.1)

  -- hdrl stays, as the first one
  first_stays : (last : Bool) (at to : ℕ) (cs : List Chunk) → AreChildren cs → length (first_of (only is_hdrl (stood to (children_named e.names last cs)))) ≡ length (first_of (only is_hdrl (stood at cs)))
  first_stays last at to [] h = refl
  first_stays last at to (c ∷ cs) h = go (is_hdrl c) refl (λ i. first_stays last (at + length (spell c)) (to + length (spell c)) cs (behind_one c cs h i))
    where
      go : (t : Bool) → is_hdrl c ≡ t → (is_hdrl c ≡ false → length (first_of (only is_hdrl (stood (to + length (spell c)) (children_named e.names last cs)))) ≡ length (first_of (only is_hdrl (stood (at + length (spell c)) cs))))
          → length (first_of (only is_hdrl (stood to (cond t (hdrl_named e.names (last && is_nil cs) c ∷ cs) (c ∷ children_named e.names last cs)))))
          ≡ length (first_of (cond t (record { at = at; chunk = bare c } ∷ only is_hdrl (stood (at + length (spell c)) cs)) (only is_hdrl (stood (at + length (spell c)) cs))))
      go true i g =
          let new = hdrl_named e.names (last && is_nil cs) c in
          let typed : is_hdrl new ≡ true = list_type (codes "hdrl") c (kids_of e.names (last && is_nil cs) c) (h.1.0 i).0 ∙ i in
          ap (λ (t : Bool). length (first_of (cond t (record { at = to; chunk = bare new } ∷ only is_hdrl (stood (to + length (spell new)) cs)) (only is_hdrl (stood (to + length (spell new)) cs))))) typed
      go false i g =
          let more = children_named e.names last cs in
          ap (λ (t : Bool). length (first_of (cond t (record { at = to; chunk = bare c } ∷ only is_hdrl (stood (to + length (spell c)) more)) (only is_hdrl (stood (to + length (spell c)) more))))) i ∙ g i

  -- the lists of fields are left alone
  pub infos_named : (last : Bool) (cs : List Chunk) → AreChildren cs → AllByRecursion EndsList cs → AllByRecursion EndsList (children_named e.names last cs)
  infos_named last [] h k = tt
  infos_named last (c ∷ cs) h k = go (is_hdrl c) refl (λ i. infos_named last cs (behind_one c cs h i) k.1)
    where
      go : (t : Bool) → is_hdrl c ≡ t → (is_hdrl c ≡ false → AllByRecursion EndsList (children_named e.names last cs)) → AllByRecursion EndsList (cond t (hdrl_named e.names (last && is_nil cs) c ∷ cs) (c ∷ children_named e.names last cs))
      go true i g =
          let new = hdrl_named e.names (last && is_nil cs) c in
          let typed : is_hdrl new ≡ true = list_type (codes "hdrl") c (kids_of e.names (last && is_nil cs) c) (h.1.0 i).0 ∙ i in
          ((λ t. let no_list : info.is new ≡ false = not_info new typed in absurd cc), k.1)
      go false i g = (k.0, g i)

  old_infos : AllByRecursion EndsList b.children
  old_infos = lists_end (writes (move (goes (avi_of o) e)) o) 12 a.children (alone o bytes s (move (goes (avi_of o) e))) (lists_of o s)

  new_infos : AllByRecursion EndsList nb.children
  new_infos = infos_named (ends_file b) b.children again old_infos

  pub joined_ready : length (inner (children_after (renewed_avi (writes (move (goes (avi_of o) e)) o) (avi_of o)) e) (avi_of o).left) < 2 ^ 32 → Ready (named (renewed_avi (writes (move (goes (avi_of o) e)) o) (avi_of o)) e.names) e.infos
  joined_ready small = ready_of nb e.infos small new_infos

  pub joined_lists : length (inner (children_after (renewed_avi (writes (move (goes (avi_of o) e)) o) (avi_of o)) e) (avi_of o).left) < 2 ^ 32 → SetsInfo e.infos → ListsStay o (joined (renewed_avi (writes (move (goes (avi_of o) e)) o) (avi_of o)) e)
  joined_lists small sets =
      let hs = hdrl_small o bytes s e small in
      let is = nb_listed o bytes s e hs in
      let hdrl = hdrls_listed o bytes s e hs in
      let strl = strls_listed o bytes s e hs in
      record {
        hdrls_end = subst (AllByRecursion ListEnds) (sym hdrl.0) (ends_moved (shift (list_cuts a e)) (hdrls nb) is.0);
        strls_end = subst (AllByRecursion ListEnds) (sym strl.0) (ends_moved (shift (list_cuts a e)) (strls nb) is.1);
        infos_end = infos_laid nb e.infos sets (joined_ready small) new_infos;
        hdrls_stay =
            ap length hdrl.0 ∙ length-map (hdrls nb) (moved_to (shift (list_cuts a e))) ∙ first_stays (ends_file b) 12 12 b.children again ∙ ap length (hdrls_still o bytes s e)
            ∙ length-map (hdrls a) (renew_at (writes (move (goes (avi_of o) e)) o));
      }
