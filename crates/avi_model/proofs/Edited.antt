-- The law: for every edit that keeps the rules, after which nothing is too large, the new file is the old one edited.
use Rattle.std.proofs.Common.{◌≡◌, ℕ, suc, ◌^◌, ◌<◌, Bool, true, false, cond, List, [], ◌∷◌, ◌++◌, length, map, Option, Some, None, refl, sym, ap, subst, ◌∙◌, arith, inl, inr}
use Rattle.std.specs.Prelude.{◌||◌, ◌⊎◌, option_map}
use Rattle.std.specs.Str.{bytes_eq}
use Rattle.std.specs.List.{list_any, AllByRecursion}
use Rattle.me_bytes.specs.Bytes.{IsBytes}
use Rattle.part_tree.specs.Names.{IsFieldName, info_ids, same_name}
use Rattle.part_tree.specs.declared.names.FourCc.{FourCc}
use Rattle.part_tree.specs.declared.field.EditItem.{EditItem}
use Rattle.part_tree.specs.declared.field.FieldName.{FieldName}
use Rattle.part_tree.specs.declared.field.FieldName.TheVariants.{Bext, Info, Whole, User, Key, Stream}
use Rattle.part_tree.specs.declared.field.RuleSet.TheVariants.{Base}
use Rattle.part_tree.specs.declared.field.Value.{Value}
use Rattle.part_tree.specs.declared.names.Kind.TheVariants.{Avi}
use Rattle.field_model.specs.Broken.{broken}
use Rattle.field_model.specs.Fields.{plain}
use Rattle.field_model.specs.Kind.{NamesFields}
use Rattle.field_model.specs.Update.{RawItem, raw_items, updated_values, is_bext, update}
use Rattle.field_model.proofs.Changed.{raws_named}
use Rattle.field_model.proofs.Same.{same_either}
use Rattle.container_model.specs.Chunk.{riff, Chunk}
use Rattle.container_model.specs.Items.{updated, values}
use Rattle.container_model.specs.Tests.{first}
use Rattle.container_model.specs.Splice.{Cut, splice, Ascend, Outside, shift}
use Rattle.container_model.proofs.Items.{same_true}
use Rattle.carrier_model.specs.Info.{one_of, info, info_items, SetsInfo}
use Rattle.carrier_model.specs.Lists.{list_values, Node, place_by, place_nth, has_list}
use Rattle.avi_model.specs.Avi.{Avi as AviFile, avi_of, inner, spell_avi}
use Rattle.opendml_index.specs.Index.{move}
use Rattle.avi_model.specs.Index.{writes, renumbered}
use Rattle.avi_model.specs.Pieces.{pieces}
use Rattle.avi_model.specs.Support.{Supported}
use Rattle.avi_model.specs.NewFile.{Items, home, new_children, edit_cuts, laid, moves, laid_file, edited_file}
use Rattle.carrier_model.specs.RiffForm.{with_size}
use Rattle.avi_model.specs.Kept.{Kept, kept, placed}
use Rattle.avi_model.specs.Edited.{info_values, fields, info_item, info_edit, changes}
use Rattle.avi_model.specs.Large.{new_avi, all_checks}
use Rattle.avi_model.proofs.Read.{renewed_avi}
use Rattle.avi_model.proofs.Frames.{same_cuts, ascends, over, again as read_again}
use Rattle.avi_model.proofs.Spans.{laid_spliced}
use Rattle.avi_model.proofs.Fit.{Fits, fits_of}
use Rattle.avi_model.proofs.Kept.{fields_updated}
use Rattle.avi_model.proofs.Blanked.{pieces_same}
use Rattle.avi_model.proofs.Listed.{fits_after, kept_placed, listed_laid, lists_stay, new_is as laid_is}
use Rattle.avi_model.proofs.LaidSupported.{laid_supported}
use Rattle.avi_model.proofs.Rules.{IsInfoName, HasNoLanguage, AreInfo, items_give}

-- what an edit of items is to the old file
pub record EditedBy (o : List ℕ) (e : Items) (n : List ℕ) : Type 0 where
  pub supported : Supported n
  pub values : (id : List ℕ) → info_values n id ≡ updated e id (info_values o id)
  pub kept_in_order : kept n ≡ placed (kept o) e
  pub same_pieces : pieces n ≡ pieces o

-- ---- without an item

place_none : (h : List ℕ → ℕ) (n : ℕ) (k : List Node) → place_nth {V = List ℕ} h [] n k ≡ k
place_none h n [] = refl
place_none h n (Node.list ts rest ∷ k) = ap (λ (x : List Node). Node.list ts rest ∷ x) (place_none h (suc n) k)
place_none h n (Node.sign id ∷ k) = ap (λ (x : List Node). Node.sign id ∷ x) (place_none h n k)
place_none h n (Node.other form id body ∷ k) = ap (λ (x : List Node). Node.other form id body ∷ x) (place_none h n k)

pub placed_none : (k : Kept) → placed k [] ≡ k
placed_none k = ap (λ (x : List Node). record k { nodes = x }) (go (has_list k.nodes))
  where
    go : (t : Bool) → place_by {V = List ℕ} home [] k.nodes t ≡ k.nodes
    go true = place_none (Rattle.carrier_model.specs.Lists.home (Rattle.carrier_model.specs.Lists.node_items k.nodes)) 0 k.nodes
    go false = refl

pub nothing_done : (o : List ℕ) → Supported o → EditedBy o [] o
nothing_done o s = record { supported = s; values = λ id. refl; kept_in_order = sym (placed_none (kept o)); same_pieces = refl }

-- ---- with items

module _ (o : List ℕ) (bytes : IsBytes o) (s : Supported o) (e : Items) (fit : Fits o e) (sets : SetsInfo e) where
  new_is : new_avi o e ≡ laid (renewed_avi (writes (move (shift (edit_cuts (avi_of o) e))) o) (avi_of o)) e
  new_is = ap (λ (x : AviFile). laid x e) (read_again o bytes s (move (shift (edit_cuts (avi_of o) e))))

  small : length (inner (new_children (renewed_avi (writes (move (shift (edit_cuts (avi_of o) e))) o) (avi_of o)) e) (avi_of o).left) < 2 ^ 32
  small = omega (arith, fit.form_short, ap (λ (x : AviFile). length (inner x.children x.left)) new_is)

  is : laid_file o e ≡ spell_avi (laid (renewed_avi (writes (move (shift (edit_cuts (avi_of o) e))) o) (avi_of o)) e)
  is = laid_is o bytes s e small

  some_done : EditedBy o e (laid_file o e)
  some_done =
      let f = shift (edit_cuts (avi_of o) e) in
      let Free = λ (p : ℕ). Outside (edit_cuts (avi_of o) e) p in
      let after = laid (renewed_avi (writes (move (shift (edit_cuts (avi_of o) e))) o) (avi_of o)) e in
      let facts = listed_laid o bytes s e small in
      let fits = fits_after o bytes s e small fit in
      record {
        supported = subst Supported (sym is) (laid_supported o bytes s f Free after facts (lists_stay o bytes s e small sets) fits);
        values = λ id. fields_updated o bytes s e small sets id;
        kept_in_order = kept_placed o bytes s e small fit sets;
        same_pieces = ap pieces is ∙ pieces_same o bytes s f Free after facts fits;
      }

pub items_law : (o : List ℕ) (e : Items) → IsBytes o → Supported o → SetsInfo e → first (all_checks o e) ≡ None → EditedBy o e (edited_file o e)
items_law o [] bytes s sets none = nothing_done o s
items_law o (i ∷ e) bytes s sets none = some_done o bytes s (i ∷ e) (fits_of o i e none) sets

-- ---- the fields

-- the values of an INFO field
values_same : (rs : List RawItem) (id : FourCc) (vs : List (List ℕ)) → one_of info_ids id.0 ≡ true → AreInfo rs → map plain (updated (info_edit rs) id.0 vs) ≡ updated_values rs (Info id) (map plain vs)
values_same [] id vs n u = refl
values_same (r ∷ rs) id vs n u = go r.name r.value u.0.0 u.0.1 (λ ws. values_same rs id ws n u.1)
  where
    choose : (t : Bool) (xs : List (List ℕ)) → map plain (cond t xs vs) ≡ cond t (map plain xs) (map plain vs)
    choose true xs = refl
    choose false xs = refl

    go : (name : FieldName) (value : Option Value) → IsInfoName name → HasNoLanguage value → ((ws : List (List ℕ)) → map plain (updated (info_edit rs) id.0 ws) ≡ updated_values rs (Info id) (map plain ws))
        → map plain (updated (info_item name value ++ info_edit rs) id.0 vs) ≡ updated_values rs (Info id) (cond (same_name name (Info id)) (Rattle.field_model.specs.Update.listed value) (map plain vs))
    go (Info j) value u l again = typed (one_of info_ids j.0) refl
      where
        apart : one_of info_ids j.0 ≡ false → (t : Bool) → bytes_eq j.0 id.0 ≡ t → t ≡ false
        apart e true i = let yes : one_of info_ids j.0 ≡ true = ap (one_of info_ids) (same_true j.0 id.0 i) ∙ n in absurd cc
        apart e false i = refl

        set : (v : Option Value) → HasNoLanguage v
            → map plain (updated (record { name = j.0; value = option_map (λ (v : Value). v.raw) v } ∷ info_edit rs) id.0 vs) ≡ updated_values rs (Info id) (cond (bytes_eq j.0 id.0) (Rattle.field_model.specs.Update.listed v) (map plain vs))
        set None l = again (cond (bytes_eq id.0 j.0) [] vs) ∙ ap (updated_values rs (Info id)) (choose (bytes_eq id.0 j.0) []) ∙ ap (λ (t : Bool). updated_values rs (Info id) (cond t [] (map plain vs))) (same_either id.0 j.0)
        set (Some v) l =
            again (cond (bytes_eq id.0 j.0) (v.raw ∷ []) vs) ∙ ap (updated_values rs (Info id)) (choose (bytes_eq id.0 j.0) (v.raw ∷ [])) ∙ ap (λ (t : Bool). updated_values rs (Info id) (cond t (plain v.raw ∷ []) (map plain vs))) (same_either id.0 j.0)
            ∙ ap (λ (x : Value). updated_values rs (Info id) (cond (bytes_eq j.0 id.0) (x ∷ []) (map plain vs))) (sym l)

        typed : (t : Bool) → one_of info_ids j.0 ≡ t
            → map plain (updated (cond t (record { name = j.0; value = option_map (λ (v : Value). v.raw) value } ∷ []) [] ++ info_edit rs) id.0 vs) ≡ updated_values rs (Info id) (cond (bytes_eq j.0 id.0) (Rattle.field_model.specs.Update.listed value) (map plain vs))
        typed true e = set value l
        typed false e = again vs ∙ ap (λ (t : Bool). updated_values rs (Info id) (cond t (Rattle.field_model.specs.Update.listed value) (map plain vs))) (sym (apart e (bytes_eq j.0 id.0) refl))
    go name value u l again = absurd u

-- no other name has values
other_name : (name : FieldName) → (IsInfoName name → ⊥) → (rs : List RawItem) → AreInfo rs → updated_values rs name [] ≡ []
other_name name n [] u = refl
other_name name n (r ∷ rs) u = ap (λ (t : Bool). updated_values rs name (cond t (Rattle.field_model.specs.Update.listed r.value) [])) (apart r.name name u.0.0 n) ∙ other_name name n rs u.1
  where
    apart : (a b : FieldName) → IsInfoName a → (IsInfoName b → ⊥) → same_name a b ≡ false
    apart (Info a) (Info b) u n = absurd (n tt)
    apart (Info a) b u n = refl
    apart a b u n = absurd u

no_bext : (rs : List RawItem) → AreInfo rs → list_any (λ (i : RawItem). is_bext i.name) rs ≡ false
no_bext [] u = refl
no_bext (r ∷ rs) u = go r.name u.0.0 (no_bext rs u.1)
  where
    go : (name : FieldName) → IsInfoName name → list_any (λ (i : RawItem). is_bext i.name) rs ≡ false → (is_bext name || list_any (λ (i : RawItem). is_bext i.name) rs) ≡ false
    go (Info id) u again = again
    go name u again = absurd u

-- ---- a name that no file has

-- a name that isn't of INFO has no values
unheld : (id : List ℕ) → one_of info_ids id ≡ false → (cs : List Chunk) → values info_items id cs ≡ []
unheld id n [] = refl
unheld id n (c ∷ cs) = ap (λ (x : List (List ℕ)). x ++ values info_items id cs) (one (bytes_eq id c.id) refl) ∙ unheld id n cs
  where
    one : (t : Bool) → bytes_eq id c.id ≡ t → cond t (cond (one_of info_ids c.id) (c.body ∷ []) []) [] ≡ []
    one false e = refl
    one true e = ap (λ (u : Bool). cond u (c.body ∷ []) []) (ap (one_of info_ids) (sym (same_true id c.id e)) ∙ n)

pub unheld_lists : (id : List ℕ) → one_of info_ids id ≡ false → (cs : List Chunk) → list_values info info_items id cs ≡ []
unheld_lists id n [] = refl
unheld_lists id n (c ∷ cs) = ap (λ (x : List (List ℕ)). x ++ list_values info info_items id cs) (one (info.is c)) ∙ unheld_lists id n cs
  where
    one : (t : Bool) → cond t (values info_items id (info.opening c).chunks) [] ≡ []
    one true = unheld id n (info.opening c).chunks
    one false = refl

-- no item of an edit that names fields names it
abbrev pub NameFields : List RawItem → Type 0
NameFields rs = AllByRecursion (λ (r : RawItem). IsFieldName r.name) rs

pub unnamed : (id : FourCc) → one_of info_ids id.0 ≡ false → (rs : List RawItem) → NameFields rs → updated_values rs (Info id) [] ≡ []
unnamed id n [] h = refl
unnamed id n (r ∷ rs) h = ap (λ (t : Bool). updated_values rs (Info id) (cond t (Rattle.field_model.specs.Update.listed r.value) [])) (apart r.name h.0) ∙ unnamed id n rs h.1
  where
    apart : (name : FieldName) → IsFieldName name → same_name name (Info id) ≡ false
    apart (Info j) g = go (bytes_eq j.0 id.0) refl
      where
        go : (t : Bool) → bytes_eq j.0 id.0 ≡ t → t ≡ false
        go false e = refl
        go true e = let yes : one_of info_ids id.0 ≡ true = ap (one_of info_ids) (sym (same_true j.0 id.0 e)) ∙ g in absurd cc
    apart (Bext field) g = refl
    apart (User j) g = refl
    apart (Whole j) g = refl
    apart (Key j) g = refl
    apart (Stream j) g = refl

-- The fields of the new file are the old ones updated.
pub read_back : (o n : List ℕ) (e : List EditItem) → broken Avi 0 (fields o) e Base ≡ None → ((id : List ℕ) → info_values n id ≡ updated (changes o e) id (info_values o id)) → (name : FieldName) → IsFieldName name ⊎ NamesFields e
    → fields n name ≡ update (fields o) e name
read_back o n e rules v (Info id) h = go (one_of info_ids id.0) refl h
  where
    g : AreInfo (raw_items (fields o) e)
    g = (items_give (fields o) e rules).0

    known : one_of info_ids id.0 ≡ true → fields n (Info id) ≡ update (fields o) e (Info id)
    known i = ap (map plain) (v id.0) ∙ values_same (raw_items (fields o) e) id (info_values o id.0) i g

    go : (t : Bool) → one_of info_ids id.0 ≡ t → IsFieldName (Info id) ⊎ NamesFields e → fields n (Info id) ≡ update (fields o) e (Info id)
    go true i h = known i
    go false i (inl k) = known k
    go false i (inr names) =
        ap (map plain) (unheld_lists id.0 i (avi_of n).children)
        ∙ sym (ap (λ (x : List (List ℕ)). updated_values (raw_items (fields o) e) (Info id) (map plain x)) (unheld_lists id.0 i (avi_of o).children) ∙ unnamed id i (raw_items (fields o) e) (raws_named IsFieldName (fields o) e names))
read_back o n e rules v (Whole id) h = sym (other_name (Whole id) (λ x. x) (raw_items (fields o) e) (items_give (fields o) e rules).0)
read_back o n e rules v (User id) h = sym (other_name (User id) (λ x. x) (raw_items (fields o) e) (items_give (fields o) e rules).0)
read_back o n e rules v (Key k) h = sym (other_name (Key k) (λ x. x) (raw_items (fields o) e) (items_give (fields o) e rules).0)
read_back o n e rules v (Stream k) h = sym (other_name (Stream k) (λ x. x) (raw_items (fields o) e) (items_give (fields o) e rules).0)
read_back o n e rules v (Bext field) h = sym (Rattle.std.proofs.lemmas.Bool.cond-false (list_any (λ (i : RawItem). is_bext i.name) (raw_items (fields o) e)) _ _ (no_bext (raw_items (fields o) e) (items_give (fields o) e rules).0))

-- The file that is laid is the old one with its numbers moved, then spliced, then its form's size set.
pub spliced_law : (o : List ℕ) (e : Items) → IsBytes o → Supported o
    → (laid_file o e ≡ with_size riff (length (inner (new_avi o e).children (new_avi o e).left)) (splice (renumbered (move (moves o e)) o) (edit_cuts (avi_of o) e))) × Ascend 0 (edit_cuts (avi_of o) e) (length o)
unfolding laid_file
spliced_law o e bytes s =
    let how = move (shift (edit_cuts (avi_of o) e)) in
    let b = renewed_avi (writes how o) (avi_of o) in
    let is : new_avi o e ≡ laid b e = ap (λ (x : AviFile). laid x e) (read_again o bytes s how) in
    let size : length (inner (new_children b e) (avi_of o).left) ≡ length (inner (new_avi o e).children (new_avi o e).left) = ap (λ (x : AviFile). length (inner x.children x.left)) (sym is) in (
      ap spell_avi is ∙ laid_spliced b e ∙ ap (λ (c : List Cut). with_size riff (length (inner (new_children b e) (avi_of o).left)) (splice (spell_avi b) c)) (same_cuts o bytes s how e)
          ∙ ap (λ (y : List ℕ). with_size riff (length (inner (new_children b e) (avi_of o).left)) (splice y (edit_cuts (avi_of o) e))) (sym (over o bytes s how))
          ∙ ap (λ (k : ℕ). with_size riff k (splice (renumbered how o) (edit_cuts (avi_of o) e))) size,
      ascends o bytes s how e,
    )
