-- The values of a map, one chunk more.
use Rattle.std.proofs.Common.{◌≡◌, ◌∙◌, ℕ, ◌+◌, ◌<◌, ◌≤◌, Bool, true, false, eqb, ltb, List, [], ◌∷◌, ◌++◌, length, map, refl, sym, ap, subst, arith}
use Rattle.std.specs.Prelude.{if◌then◌else◌, ◌&&◌, ◌==◌, nat_lt}
use Rattle.std.specs.Str.{bytes_eq}
use Rattle.std.specs.List.{flat_map}
use Rattle.std.proofs.lemmas.Bool.{lt-ltb, le-ltb, eqb-true, eqb-false, cases_lt}
use Rattle.std.proofs.lemmas.List.{append-nil}
use Rattle.container_model.specs.Chunk.{Chunk}
use Rattle.container_model.specs.Items as items
use Rattle.carrier_model.specs.Info.{own_size, one_of, info_items, list_run}
use Rattle.part_tree.specs.declared.names.FourCc.{FourCc}
use Rattle.part_tree.specs.declared.field.BextField.{BextField}
use Rattle.part_tree.specs.declared.field.FieldName.{FieldName}
use Rattle.part_tree.specs.declared.field.FieldName.TheVariants.{Bext, Info, Whole, Key}
use Rattle.part_tree.specs.declared.field.Value.{Value}
use Rattle.part_tree.specs.declared.fields.Entry.{Entry}
use Rattle.part_tree.specs.Fields.{values, Adds}
use Rattle.part_tree.specs.Names.{same_name, whole_ids, info_ids, bext_row}
use Rattle.part_tree.proofs.Places.{same_is_equal, bytes_same, row_small}
use Rattle.field_model.specs.Bext.{range_of}
use Rattle.field_model.specs.Fields.{FieldMap, plain}
use Rattle.field_model.proofs.Fills.{range_fills}
use Rattle.info_list.specs.declared.InfoItem.{InfoItem}
use Rattle.info_list.specs.Info.{item_of}
use Rattle.info_list.proofs.Grown.{added, grown_as, grown_on, held_values, not_grown, one}
use Rattle.wave_model.specs.Fields.{is_bext, is_info, is_whole, fields_of}
use Rattle.wave_model.proofs.Values.{eq_sym}
use Rattle.wave_file.specs.Lawful.{HasNoBext, HasBext}
use Rattle.wave_file.specs.Map.{is_field}
use Rattle.info_list.specs.Fields.{Grows, item_value, items_held}
use Rattle.wave_file.specs.Reads.{KeepsKeys, ranges_below}

-- ---- the ranges of `bext`

next_range : (k r : ℕ) (v : ℕ → Value) → (if nat_lt r k then v r ∷ [] else []) ++ (if k == r then v k ∷ [] else []) ≡ (if nat_lt r (k + 1) then v r ∷ [] else [])
next_range k r v = go (eqb k r) refl (ltb r k) refl (ltb r (k + 1)) refl
  where
    go : (t : Bool) → eqb k r ≡ t → (u : Bool) → ltb r k ≡ u → (w : Bool) → ltb r (k + 1) ≡ w → (if u then v r ∷ [] else []) ++ (if t then v k ∷ [] else []) ≡ (if w then v r ∷ [] else [])
    go true e true f w h = absurd (omega (arith, eqb-true k r e, Rattle.std.proofs.lemmas.Bool.ltb-true r k f))
    go true e false f true h = ap (λ (n : ℕ). v n ∷ []) (eqb-true k r e)
    go true e false f false h = absurd (omega (arith, eqb-true k r e, Rattle.std.proofs.lemmas.Bool.ltb-false r (k + 1) h))
    go false e true f true h = refl
    go false e true f false h = absurd (omega (arith, Rattle.std.proofs.lemmas.Bool.ltb-true r k f, Rattle.std.proofs.lemmas.Bool.ltb-false r (k + 1) h))
    go false e false f true h = absurd (eqb-false k r e (omega (arith, Rattle.std.proofs.lemmas.Bool.ltb-false r k f, Rattle.std.proofs.lemmas.Bool.ltb-true r (k + 1) h)))
    go false e false f false h = refl

pub range_added : (old mid new : List Entry) (k : ℕ) (field : BextField) (v : Value) (body : List ℕ) → bext_row field ≡ k → v ≡ plain (range_of k body) → Grows old mid (ranges_below k body) → Adds mid new (Bext field) v
    → Grows old new (ranges_below (k + 1) body)
range_added old mid new k field v body row is so_far a = grown_on old mid new (ranges_below k body) (one (Bext field) v) (ranges_below (k + 1) body) so_far (added mid new (Bext field) v a) next
  where
    next : (n : FieldName) → ranges_below k body n ++ one (Bext field) v n ≡ ranges_below (k + 1) body n
    next (Bext f) =
        ap (λ (x : ℕ). ranges_below k body (Bext f) ++ (if x == bext_row f then v ∷ [] else [])) row
        ∙ ap (λ (x : Value). ranges_below k body (Bext f) ++ (if k == bext_row f then x ∷ [] else [])) is
        ∙ next_range k (bext_row f) (λ r. plain (range_of r body))
    next (Info id) = refl
    next (Whole id) = refl
    next other = refl

pub none_below : (old : List Entry) (body : List ℕ) → Grows old old (ranges_below 0 body)
none_below old body = not_grown old (ranges_below 0 body) none
  where
    none : (n : FieldName) → ranges_below 0 body n ≡ []
    none (Bext f) = ap (λ (t : Bool). if t then plain (range_of (bext_row f) body) ∷ [] else []) (le-ltb (bext_row f) 0 (omega arith))
    none (Info id) = refl
    none (Whole id) = refl
    none other = refl

all_below : (field : BextField) (body : List ℕ) → ranges_below 15 body (Bext field) ≡ plain (range_of (bext_row field) body) ∷ []
all_below field body = ap (λ (t : Bool). if t then plain (range_of (bext_row field) body) ∷ [] else []) (lt-ltb (bext_row field) 15 (row_small field))

pub bext_keeps_keys : (old new : List Entry) (body : List ℕ) → Grows old new (ranges_below 15 body) → KeepsKeys old new
bext_keeps_keys old new body grown key = grown (Key key) ∙ append-nil (values old (Key key))

pub has_bext : (old new : List Entry) (body : List ℕ) → 602 ≤ length body → Grows old new (ranges_below 15 body) → HasNoBext old → HasBext new
has_bext old new body long grown none field = (
  plain (range_of (bext_row field) body),
  grown (Bext field) ∙ ap (λ (vs : List Value). vs ++ ranges_below 15 body (Bext field)) (none field) ∙ all_below field body,
  range_fills field body long,
)

-- ---- the fields of a chunk

-- what a chunk holds
pub record Holding (c : Chunk) (list whole ranges : Bool) : Type 0 where
  pub list_is : is_info c ≡ list
  pub whole_is : is_field c ≡ whole
  pub ranges_is : is_bext c ≡ ranges

no_whole : (c : Chunk) (w : List ℕ) → is_field c ≡ false → is_whole w c ≡ false
no_whole c w e = go (own_size c.form) (bytes_eq w c.id) refl e
  where
    go : (o t : Bool) → bytes_eq w c.id ≡ t → (o && one_of whole_ids c.id) ≡ false → (o && (one_of whole_ids w && t)) ≡ false
    go false t h i = refl
    go true true h i = ap (λ (x : Bool). x && true) (ap (one_of whole_ids) (bytes_same w c.id h) ∙ i)
    go true false h i = go_false (one_of whole_ids w)
      where
        go_false : (x : Bool) → (x && false) ≡ false
        go_false true = refl
        go_false false = refl

holds_none : (c : Chunk) (n : FieldName) → Holding c false false false → fields_of (c ∷ []) n ≡ []
holds_none c (Bext f) h = rw h.ranges_is refl
holds_none c (Info id) h = rw h.list_is refl
holds_none c (Whole id) h = rw (no_whole c id.0 h.whole_is) refl
holds_none c other h = refl

pub none_grown : (c : Chunk) (old : List Entry) → Holding c false false false → Grows old old (fields_of (c ∷ []))
none_grown c old h = not_grown old (fields_of (c ∷ [])) (λ n. holds_none c n h)

pub bext_grown : (c : Chunk) (old new : List Entry) → Holding c false false true → Grows old new (ranges_below 15 c.body) → Grows old new (fields_of (c ∷ []))
bext_grown c old new h grown = grown_as old new (ranges_below 15 c.body) (fields_of (c ∷ [])) grown same
  where
    same : (n : FieldName) → ranges_below 15 c.body n ≡ fields_of (c ∷ []) n
    same (Bext f) = all_below f c.body ∙ rw h.ranges_is refl
    same (Info id) = rw h.list_is refl
    same (Whole id) = rw (no_whole c id.0 h.whole_is) refl
    same other = refl

pub list_grown : (c : Chunk) (old new : List Entry) (is : List InfoItem) → Holding c true false false → is ≡ map item_of (list_run c).chunks → Grows old new (items_held is) → Grows old new (fields_of (c ∷ []))
list_grown c old new is h e grown = grown_as old new (items_held is) (fields_of (c ∷ [])) grown same
  where
    same : (n : FieldName) → items_held is n ≡ fields_of (c ∷ []) n
    same (Bext f) = rw h.ranges_is refl
    same (Info id) =
        ap (λ (x : List InfoItem). map plain (flat_map (item_value id.0) x)) e
        ∙ ap (map plain) (held_values id.0 (list_run c).chunks ∙ sym (append-nil (items.values info_items id.0 (list_run c).chunks)))
        ∙ ap (λ (t : Bool). map plain ((if t then items.values info_items id.0 (list_run c).chunks else []) ++ [])) (sym h.list_is)
    same (Whole id) = rw (no_whole c id.0 h.whole_is) refl
    same other = refl

pub whole_grown : (c : Chunk) (id : FourCc) (old new : List Entry) → Holding c false true false → c.id ≡ id.0 → Adds old new (Whole id) (plain c.body) → Grows old new (fields_of (c ∷ []))
whole_grown c id old new h same_id a = grown_as old new (one (Whole id) (plain c.body)) (fields_of (c ∷ [])) (added old new (Whole id) (plain c.body) a) same
  where
    same : (n : FieldName) → one (Whole id) (plain c.body) n ≡ fields_of (c ∷ []) n
    same (Bext f) = rw h.ranges_is refl
    same (Info i) = rw h.list_is refl
    same (Whole w) = ap (λ (x : List ℕ). if bytes_eq x w.0 then plain c.body ∷ [] else []) (sym same_id) ∙ ap (λ (t : Bool). if t then plain c.body ∷ [] else []) (eq_sym c.id w.0) ∙ go (own_size c.form) (bytes_eq w.0 c.id) refl h.whole_is
      where
        go : (o t : Bool) → bytes_eq w.0 c.id ≡ t → (o && one_of whole_ids c.id) ≡ true → (if t then plain c.body ∷ [] else []) ≡ map plain ((if o && (one_of whole_ids w.0 && t) then c.body ∷ [] else []) ++ [])
        go false t e i = absurd cc
        go true true e i = ap (λ (x : Bool). map plain ((if x && true then c.body ∷ [] else []) ++ [])) (sym (ap (one_of whole_ids) (bytes_same w.0 c.id e) ∙ i))
        go true false e i = no (one_of whole_ids w.0)
          where
            no : (x : Bool) → [] ≡ map plain ((if x && false then c.body ∷ [] else []) ++ [])
            no true = refl
            no false = refl
    same other = refl
