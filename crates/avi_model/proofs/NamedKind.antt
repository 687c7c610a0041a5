-- AVI files whose streams have names, after an accepted edit that isn't too large: they are supported, their fields are the old ones
-- updated, and their tables find the same.
use Rattle.std.proofs.Common.{◌≡◌, ℕ, ◌^◌, ◌<◌, ◌≤◌, Bool, true, false, cond, List, [], ◌∷◌, length, None, refl, sym, ap, subst, ◌∙◌, arith, inl, inr}
use Rattle.std.specs.Prelude.{◌⊎◌, ◌&&◌}
use Rattle.me_bytes.specs.Bytes.{IsBytes}
use Rattle.part_tree.specs.Names.{IsFieldName}
use Rattle.part_tree.specs.declared.field.EditItem.{EditItem}
use Rattle.part_tree.specs.declared.field.FieldName.{FieldName}
use Rattle.part_tree.specs.declared.field.RuleSet.TheVariants.{Base}
use Rattle.part_tree.specs.declared.names.Kind.TheVariants.{Avi as avi}
use Rattle.field_model.specs.Broken.{broken}
use Rattle.field_model.specs.Kind.{NamesFields}
use Rattle.field_model.specs.Update.{effective, raw_items, update}
use Rattle.container_model.specs.Items.{is_nil, updated}
use Rattle.container_model.specs.Tests.{first}
use Rattle.opendml_index.specs.Index.{move}
use Rattle.avi_model.specs.After.{Changes, all_changes, all_fields, changed_file, checks_after, children_after, file_after, goes, is_idle, joined, joined_file, large_after, parts_after}
use Rattle.avi_model.specs.Avi.{Avi, avi_of, inner, spell_avi, strls}
use Rattle.avi_model.specs.Edited.{info_values}
use Rattle.avi_model.specs.Heads.{nth_names}
use Rattle.avi_model.specs.Index.{writes}
use Rattle.avi_model.specs.KeptAfter.{all_kept, all_placed}
use Rattle.avi_model.specs.Large.{checks_of}
use Rattle.avi_model.specs.Named.{Names, names_after}
use Rattle.avi_model.specs.NewFile.{Items}
use Rattle.avi_model.specs.Pieces.{pieces}
use Rattle.avi_model.specs.JoinedSplices.{IsJoinedSplice}
use Rattle.avi_model.specs.Support.{Supported, SupportedNames, part_limit, parts}
use Rattle.avi_model.proofs.AfterFields.{items_give, read_back}
use Rattle.avi_model.proofs.AfterKind.{checked, none_changed}
use Rattle.avi_model.proofs.Fit.{FitsBy, checks_fit, few_counted, form_fits}
use Rattle.avi_model.proofs.Frames.{again as read_again}
use Rattle.avi_model.proofs.JoinedEdited.{are_below, joined_again, joined_named, joined_pieces, joined_reads}
use Rattle.avi_model.proofs.JoinedGrows.{essence_grows}
use Rattle.avi_model.proofs.JoinedKept.{joined_kept}
use Rattle.avi_model.proofs.JoinedLaid.{hdrl_small}
use Rattle.avi_model.proofs.JoinedNodes.{placed_nothing}
use Rattle.avi_model.proofs.JoinedOne.{joined_splice}
use Rattle.avi_model.proofs.JoinedParts.{parts_told}
use Rattle.avi_model.proofs.Read.{renewed_avi}

pub record Made (o : List ℕ) (e : List EditItem) (n : List ℕ) : Type 0 where
  pub supported : SupportedNames n
  pub reads : (name : FieldName) → IsFieldName name ⊎ NamesFields e → all_fields n name ≡ update (all_fields o) e name
  pub same : pieces n ≡ pieces o
  pub kept : all_kept n ≡ all_placed (all_kept o) (all_changes o e)

nil_is : {X : Type 0} (xs : List X) → is_nil xs ≡ true → xs ≡ []
nil_is [] i = refl
nil_is (x ∷ xs) i = absurd cc

both_are : (t u : Bool) → (t && u) ≡ true → (t ≡ true) × (u ≡ true)
both_are true true i = (refl, refl)
both_are true false i = absurd cc
both_are false u i = absurd cc

-- the new form is short, and what is laid fits
pub record LaidFits (o : List ℕ) (c : Changes) : Type 0 where
  pub short : length (inner (children_after (renewed_avi (writes (move (goes (avi_of o) c)) o) (avi_of o)) c) (avi_of o).left) < 2 ^ 32
  pub fit : FitsBy (joined (renewed_avi (writes (move (goes (avi_of o) c)) o) (avi_of o)) c) (goes (avi_of o) c) o (spell_avi (joined (renewed_avi (writes (move (goes (avi_of o) c)) o) (avi_of o)) c))

-- where something changes
pub laid_fits : (o : List ℕ) (e : List EditItem) → IsBytes o → Supported o → large_after o e ≡ None → is_idle (all_changes o e) ≡ false → LaidFits o (all_changes o e)
laid_fits o e bytes s small i =
    let c = all_changes o e in
    let b = renewed_avi (writes (move (goes (avi_of o) c)) o) (avi_of o) in
    let f = goes (avi_of o) c in
    let new = changed_file o c in
    let told : changed_file o c ≡ joined_file o c = ap (λ (t : Bool). cond t o (joined_file o c)) i in
    let none : first (checks_of (joined b c) (parts_after b c) (goes (avi_of o) c) o (changed_file o c)) ≡ None = subst (λ (x : Avi). first (checks_of (joined x c) (parts_after x c) (goes (avi_of o) c) o (changed_file o c)) ≡ None) (read_again o bytes s (move f)) (fits (checked o e small)) in
    let short : length (inner (children_after b c) (avi_of o).left) < 2 ^ 32 = omega (arith, form_fits (joined b c) (parts_after b c) f o new none) in
    let few : parts (joined b c) ≤ part_limit = omega (arith, few_counted (joined b c) (parts_after b c) f o new none, parts_told o bytes s c (hdrl_small o bytes s c short)) in
    let one = checks_fit (joined b c) (parts_after b c) f o new none few in
    record { short = short; fit = subst (λ (n : List ℕ). FitsBy (joined b c) (goes (avi_of o) c) o n) (told ∙ joined_again o bytes s c short) one }
  where
    fits : (effective (all_fields o) e ≡ []) ⊎ (first (checks_after o (all_changes o e)) ≡ None) → first (checks_after o (all_changes o e)) ≡ None
    fits (inl none) = let yes : is_idle (all_changes o e) ≡ true = ap is_idle (none_changed o e none) in absurd cc
    fits (inr all) = all

module _ (o : List ℕ) (e : List EditItem) (bytes : IsBytes o) (s : SupportedNames o) (rules : broken avi (length (strls (avi_of o))) (all_fields o) e Base ≡ None) where
  abbrev c : Changes
  c = all_changes o e

  -- where nothing changes
  nothing_made : is_idle (all_changes o e) ≡ true → Made o e o
  nothing_made i =
      let both = both_are (is_nil c.infos) (is_nil c.names) i in
      let g = items_give (length (strls (avi_of o))) (all_fields o) e rules in
      record {
        supported = s;
        reads = λ name h. read_back o o e (length (strls (avi_of o))) g.names (λ id. sym (ap (λ (x : Items). updated x id (info_values o id)) (nil_is c.infos both.0))) (λ k. sym (ap (λ (x : Names). names_after x k (nth_names k (strls (avi_of o)))) (nil_is c.names both.1))) name h;
        same = refl;
        kept = sym (ap (all_placed (all_kept o)) (nothing_changes (nil_is c.infos both.0) (nil_is c.names both.1)) ∙ placed_nothing (all_kept o));
      }
    where
      nothing_changes : (all_changes o e).infos ≡ [] → (all_changes o e).names ≡ [] → all_changes o e ≡ record { infos = []; names = [] }
      nothing_changes i n = ap (λ (x : Items). record { infos = x; names = c.names }) i ∙ ap (λ (x : Names). record { infos = []; names = x }) n

  -- where something does
  something_made : large_after o e ≡ None → is_idle (all_changes o e) ≡ false → Made o e (joined_file o (all_changes o e))
  something_made small i =
      let g = items_give (length (strls (avi_of o))) (all_fields o) e rules in
      let l = laid_fits o e bytes s.file small i in
      let short = l.short in
      let fit = l.fit in
      let file = joined_again o bytes s.file c short in
      let grows = essence_grows o bytes s.file c short in
      let below = are_below (length (strls (avi_of o))) (raw_items (all_fields o) e) g.names in
      record {
        supported = subst SupportedNames (sym file) (joined_named o bytes s.file c short grows g.sets fit s.names_small below g.short);
        reads = joined_reads o bytes s.file e short rules;
        same = ap pieces file ∙ joined_pieces o bytes s.file c short grows g.sets fit;
        kept = joined_kept o bytes s.file c short grows fit g.sets;
      }

  pub made : large_after o e ≡ None → Made o e (file_after o e)
  made small = go (is_idle c) refl
    where
      go : (t : Bool) → is_idle (all_changes o e) ≡ t → Made o e (cond t o (joined_file o (all_changes o e)))
      go true i = nothing_made i
      go false i = something_made small i

-- ---- one splice

pub spliced_as_one : (o : List ℕ) (e : List EditItem) → IsBytes o → Supported o → large_after o e ≡ None → (is_idle (all_changes o e) ≡ true) ⊎ IsJoinedSplice o (all_changes o e) (file_after o e)
spliced_as_one o e bytes s small = go (is_idle c) refl
  where
    c : Changes
    c = all_changes o e

    go : (t : Bool) → is_idle (all_changes o e) ≡ t → (is_idle (all_changes o e) ≡ true) ⊎ IsJoinedSplice o (all_changes o e) (cond t o (joined_file o (all_changes o e)))
    go true i = inl i
    go false i = let l = laid_fits o e bytes s small i in inr (joined_splice o bytes s c l.short (essence_grows o bytes s c l.short) l.fit)
