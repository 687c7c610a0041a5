-- AVI files whose streams have names have the laws of a kind of files.
use Rattle.std.proofs.Common.{◌≡◌, ℕ, ◌+◌, ◌^◌, ◌<◌, ◌≤◌, Bool, true, false, cond, List, [], ◌∷◌, ◌++◌, length, map, None, refl, sym, ap, subst, ◌∙◌, arith}
use Rattle.std.specs.Prelude.{◌&&◌, nat_le}
use Rattle.std.specs.List.{flat_map}
use Rattle.std.proofs.lemmas.Bool.{and_parts, leb-true}
use Rattle.std.proofs.lemmas.List.{length-append, take_all}
use Rattle.me_bytes.specs.Bytes.{IsBytes}
use Rattle.part_tree.specs.Patches.{all_bytes}
use Rattle.part_tree.specs.declared.field.EditItem.{EditItem}
use Rattle.part_tree.specs.declared.field.RuleSet.TheVariants.{Base}
use Rattle.part_tree.specs.declared.names.Kind.TheVariants.{Avi as avi}
use Rattle.part_tree.specs.declared.plan.Patch.{Patch}
use Rattle.field_model.specs.Broken.{broken}
use Rattle.field_model.specs.Kind.{Edited, IsKind, MakeInPlace}
use Rattle.container_model.specs.Chunk.{riff}
use Rattle.container_model.specs.Splice.{shift}
use Rattle.container_model.specs.Units.{shut, units}
use Rattle.carrier_model.specs.Info.{riff_fill}
use Rattle.carrier_model.specs.RiffForm.{size_patch}
use Rattle.carrier_model.specs.Room.{unit_patches}
use Rattle.carrier_model.proofs.RiffForm.{size_few}
use Rattle.opendml_index.specs.Index.{move}
use Rattle.avi_model.specs.After.{Changes, all_changes, all_fields, children_after, file_after, goes, is_idle, joined, joined_file, large_after, list_cuts}
use Rattle.avi_model.specs.Avi.{Avi, avi_of, hdrls, inner, strls}
use Rattle.avi_model.specs.Index.{writes}
use Rattle.avi_model.specs.Kind.{avi_kind}
use Rattle.avi_model.specs.Named.{ends_file, hdrl_site, named}
use Rattle.avi_model.specs.NewFile.{new_cells}
use Rattle.avi_model.specs.RoomAfter.{hdrl_patches, lists_fit, names_fit, patches_after, patches_of, put_patch, put_patches, room_after}
use Rattle.avi_model.specs.Support.{Supported, SupportedNames, count_kids, infos}
use Rattle.avi_model.proofs.AfterKind.{idle_file, idle_size, lawful, no_larger, same_edit}
use Rattle.avi_model.proofs.Children.{HdrlSmall, children_pads}
use Rattle.avi_model.proofs.Frames.{again as read_again}
use Rattle.avi_model.proofs.JoinedFew.{kids_go, names_few, units_few}
use Rattle.avi_model.proofs.JoinedGoes.{children}
use Rattle.avi_model.proofs.JoinedInPlace.{joined_made, joined_sound, joined_stays}
use Rattle.avi_model.proofs.JoinedLaid.{hdrl_small, hdrls_listed, strls_listed}
use Rattle.avi_model.proofs.JoinedParts.{kids_both}
use Rattle.avi_model.proofs.NamedKind.{LaidFits, laid_fits, made}
use Rattle.avi_model.proofs.NamesExact.{names_exact}
use Rattle.avi_model.proofs.Read.{renewed_avi}
use Rattle.avi_model.proofs.Sound.{ended}

-- ---- how many patches

put_one : (p : Patch) (qs : List Patch) → length (put_patch p qs) ≡ 1 + length qs
put_one p [] = refl
put_one p (q ∷ qs) = go (Rattle.std.proofs.Common.ltb q.at p.at) (put_one p qs)
  where
    go : (t : Bool) → length (put_patch p qs) ≡ 1 + length qs → length (cond t (q ∷ put_patch p qs) (p ∷ (q ∷ qs))) ≡ 1 + length (q ∷ qs)
    go true again = omega (arith, again)
    go false again = omega arith

put_all : (ps qs : List Patch) → length (put_patches ps qs) ≡ length ps + length qs
put_all [] qs = omega arith
put_all (p ∷ ps) qs = omega (arith, put_one p (put_patches ps qs), put_all ps qs)

module _ (o : List ℕ) (bytes : IsBytes o) (s : Supported o) (e : Changes) (fits : LaidFits o e) (names : names_fit (avi_of o) e.names ≡ true) (lists : lists_fit (avi_of o) e ≡ true) where
  abbrev a : Avi
  a = avi_of o

  abbrev b : Avi
  b = renewed_avi (writes (move (goes (avi_of o) e)) o) (avi_of o)

  same : b ≡ a
  same = sym (read_again o bytes s (move (goes a e))) ∙ ap avi_of (joined_stays o bytes s e names lists)

  small : HdrlSmall e.names (ends_file (avi_of o)) (avi_of o).children
  small = subst (λ (x : Avi). HdrlSmall e.names (ends_file x) x.children) same (hdrl_small o bytes s e fits.short)

  hdrl_kids : count_kids (hdrls (joined b e)) ≡ count_kids (hdrls (named a e.names))
  hdrl_kids =
      ap count_kids (hdrls_listed o bytes s e (hdrl_small o bytes s e fits.short)).0 ∙ kids_go (shift (list_cuts a e)) (hdrls (named b e.names)) ∙ ap (λ (x : Avi). count_kids (hdrls (named x e.names))) same

  strl_kids : count_kids (strls (joined b e)) ≡ count_kids (strls (named a e.names))
  strl_kids =
      ap count_kids (strls_listed o bytes s e (hdrl_small o bytes s e fits.short)).0 ∙ kids_go (shift (list_cuts a e)) (strls (named b e.names)) ∙ ap (λ (x : Avi). count_kids (strls (named x e.names))) same

  few_of : length (patches_of (avi_of o) e) ≤ 65536
  few_of =
      let ns = flat_map (hdrl_patches e.names) (hdrl_site a) in
      let us = unit_patches (riff_fill (ends_file a)) 12 (units shut (new_cells (named a e.names) e.infos)) in
      let size = size_patch riff (length (inner a.children a.left)) (length (inner (children_after a e) a.left)) in
      let one = names_few e.names (ends_file a) 12 12 a.children (children o bytes s e) small in
      let two = units_few a e (children o bytes s e) (children_pads e.names (ends_file a) a.children a.left (children o bytes s e) (ended o bytes s).readable.pads) s.some_hdrl s.some_movi in
      let long : length (children_after b e) ≡ length (children_after a e) = ap (λ (x : Avi). length (children_after x e)) same in
      omega (
        arith,
        one,
        two,
        long,
        fits.fit.few_parts,
        hdrl_kids,
        strl_kids,
        size_few riff (length (inner a.children a.left)) (length (inner (children_after a e) a.left)),
        put_all ns us,
        length-append size (put_patches ns us),
        kids_both (hdrls (joined b e)) (strls (joined b e) ++ infos (joined b e)),
        kids_both (strls (joined b e)) (infos (joined b e)),
      )

-- ---- in place

in_place : (o : List ℕ) (e : List EditItem) → IsBytes o → Supported o → large_after o e ≡ None → room_after o e ≡ true → MakeInPlace o (file_after o e) (patches_after o e)
in_place o e bytes s small room = go (is_idle c) refl
  where
    c : Changes
    c = all_changes o e

    fit : (names_fit (avi_of o) c.names && lists_fit (avi_of o) c) ≡ true
    fit = (and_parts (names_fit (avi_of o) c.names && lists_fit (avi_of o) c) (nat_le (all_bytes (patches_of (avi_of o) c)) (2 ^ 24)) room).0

    few : all_bytes (patches_of (avi_of o) c) ≤ 2 ^ 24
    few = leb-true (all_bytes (patches_of (avi_of o) c)) (2 ^ 24) (and_parts (names_fit (avi_of o) c.names && lists_fit (avi_of o) c) (nat_le (all_bytes (patches_of (avi_of o) c)) (2 ^ 24)) room).1

    go : (t : Bool) → is_idle (all_changes o e) ≡ t → MakeInPlace o (cond t o (joined_file o (all_changes o e))) (cond t [] (patches_of (avi_of o) (all_changes o e)))
    go true i = record { makes = take_all (length o) o (omega arith); sound = record { in_order = tt; few_bytes = omega arith; cover = λ q low high. absurd (omega (arith, low, high)) }; few = omega arith }
    go false i =
        let p = and_parts (names_fit (avi_of o) c.names) (lists_fit (avi_of o) c) fit in
        record { makes = joined_made o bytes s c p.0 p.1; sound = joined_sound o bytes s c p.0 p.1 few; few = few_of o bytes s c (laid_fits o e bytes s small i) p.0 p.1 }

-- ---- the laws

edited : (o : List ℕ) (e : List EditItem) → IsBytes o → SupportedNames o → broken avi (length (strls (avi_of o))) (all_fields o) e Base ≡ None → large_after o e ≡ None → Edited avi_kind o e (file_after o e)
edited o e bytes s rules small =
    let by = made o e bytes s rules small in
    record {
      supported = (names_exact (file_after o e)).1 by.supported;
      reads_back = by.reads;
      kept_in_order = by.kept;
      same_pieces = by.same;
      also = tt;
      no_effect = λ none. idle_file o e none;
    }

pub is_avi_kind : IsKind avi_kind
is_avi_kind = record {
  edited = λ o e bytes w rules small. edited o e bytes ((names_exact o).0 w) rules small;
  idle = λ o e bytes w none. (idle_file o e none, idle_size o e none);
  in_place = λ o e bytes w small room. in_place o e bytes ((names_exact o).0 w).file small room;
  no_larger = λ o e bytes w small. no_larger o e small;
  by_effect = λ o e all is. same_edit o e all is;
  lawful = λ o bytes w. lawful o;
}
