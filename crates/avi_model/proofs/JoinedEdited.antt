-- What an edit of fields and names makes of an AVI file: the new file is supported, its fields and names are the old ones updated, and
-- its tables find the same, as long as no size is too large and no byte of the essence moves towards the start.
use Rattle.std.proofs.Common.{◌≡◌, ℕ, zero, suc, ◌+◌, ◌^◌, ◌<◌, ◌≤◌, Bool, true, false, cond, eqb, List, [], ◌∷◌, ◌++◌, length, map, Option, Some, None, refl, sym, ap, subst, ◌∙◌, arith, inl, inr}
use Rattle.std.specs.Prelude.{◌⊎◌, ◌&&◌, filter, codes}
use Rattle.std.specs.List.{flat_map, AllByRecursion}
use Rattle.std.proofs.lemmas.Bool.{cases_lt, eqb-true}
use Rattle.std.proofs.lemmas.List.{length-map, append-nil}
use Rattle.me_bytes.specs.Bytes.{IsBytes}
use Rattle.part_tree.specs.Names.{IsFieldName}
use Rattle.part_tree.specs.declared.field.EditItem.{EditItem}
use Rattle.part_tree.specs.declared.field.FieldName.{FieldName}
use Rattle.part_tree.specs.declared.field.FieldName.TheVariants.{Info, Stream}
use Rattle.part_tree.specs.declared.field.RuleSet.TheVariants.{Base}
use Rattle.part_tree.specs.declared.field.Value.{Value}
use Rattle.part_tree.specs.declared.names.Kind.TheVariants.{Avi as avi}
use Rattle.field_model.specs.Broken.{broken}
use Rattle.field_model.specs.Kind.{NamesFields}
use Rattle.field_model.specs.Update.{RawItem, raw_items, update}
use Rattle.container_model.specs.Chunk.{Chunk, Run, spell}
use Rattle.container_model.specs.Items.{is_nil, updated}
use Rattle.container_model.specs.Splice.{shift, Outside}
use Rattle.container_model.specs.Stood.{Stood, bare, stood, only, first_of}
use Rattle.container_model.specs.Written.{Write}
use Rattle.container_model.proofs.Copied.{moved_to}
use Rattle.container_model.proofs.Stood.{renew_at}
use Rattle.carrier_model.specs.Cells.{counted}
use Rattle.carrier_model.specs.Info.{info, info_items, list_run, SetsInfo}
use Rattle.carrier_model.specs.Lists.{list_values, values_held}
use Rattle.carrier_model.specs.Names.{is_name}
use Rattle.container_model.specs.Items.{values}
use Rattle.opendml_index.specs.Index.{move}
use Rattle.avi_model.specs.After.{Changes, all_changes, all_fields, children_after, goes, joined, joined_file, list_cuts, name_item}
use Rattle.avi_model.specs.Avi.{Avi, avi_of, inner, kids, spell_avi, strls}
use Rattle.avi_model.specs.Edited.{info_values}
use Rattle.avi_model.specs.Heads.{nth_names}
use Rattle.avi_model.specs.Index.{writes}
use Rattle.avi_model.specs.Named.{Name, Names, children_named, ends_file, ends_list, hdrl_named, is_hdrl, is_strl, kid_named, kids_named, named, name_cuts, names_after}
use Rattle.avi_model.specs.Pieces.{pieces}
use Rattle.avi_model.specs.Support.{NamesSmall, Supported, SupportedNames, list_limit}
use Rattle.avi_model.proofs.AfterFields.{AreAvi, IsAviName, ShortName, ShortNames, items_give, name_edit, read_back}
use Rattle.avi_model.proofs.Blanked.{pieces_same}
use Rattle.avi_model.proofs.Children.{AreChildren, HdrlSmall, behind_one, kids_of}
use Rattle.avi_model.proofs.Edit.{values_updated}
use Rattle.avi_model.proofs.Fields.{values_same}
use Rattle.avi_model.proofs.Fit.{FitsBy}
use Rattle.avi_model.proofs.Frames.{again as read_again, alone}
use Rattle.avi_model.proofs.JoinedCuts.{chunks_again, joined_readable}
use Rattle.avi_model.proofs.JoinedIs.{Grows, joined_laid}
use Rattle.avi_model.proofs.JoinedLaid.{hdrl_small, strls_listed, strls_still}
use Rattle.avi_model.proofs.JoinedLists.{joined_lists, joined_ready}
use Rattle.avi_model.proofs.JoinedNames.{joined_names}
use Rattle.avi_model.proofs.LaidSupported.{laid_supported}
use Rattle.avi_model.proofs.NamedAlike.{not_info}
use Rattle.avi_model.proofs.Read.{avi_again, renewed_avi}
use Rattle.avi_model.proofs.Respelled.{list_type}
use Rattle.avi_model.proofs.Streams.{AreKids, hdrl_run, kid_strl}
use Rattle.avi_model.proofs.NamesSet.{kids_small}

-- ---- the lists of fields are those of the file with other names

values_named : (e : Names) (name : List ℕ) (last : Bool) (cs : List Chunk) → AreChildren cs → list_values info info_items name (children_named e last cs) ≡ list_values info info_items name cs
values_named e name last [] h = refl
values_named e name last (c ∷ cs) h = go (is_hdrl c) refl (λ i. values_named e name last cs (behind_one c cs h i))
  where
    go : (t : Bool) → is_hdrl c ≡ t → (is_hdrl c ≡ false → list_values info info_items name (children_named e last cs) ≡ list_values info info_items name cs)
        → list_values info info_items name (cond t (hdrl_named e (last && is_nil cs) c ∷ cs) (c ∷ children_named e last cs)) ≡ list_values info info_items name (c ∷ cs)
    go true i again =
        let new = hdrl_named e (last && is_nil cs) c in
        let typed : is_hdrl new ≡ true = list_type (codes "hdrl") c (kids_of e (last && is_nil cs) c) (h.1.0 i).0 ∙ i in
        ap (λ (t : Bool). cond t (values info_items name (list_run new).chunks) [] ++ list_values info info_items name cs) (not_info new typed)
        ∙ sym (ap (λ (t : Bool). cond t (values info_items name (list_run c).chunks) [] ++ list_values info info_items name cs) (not_info c i))
    go false i again = ap (λ (x : List (List ℕ)). values_held info info_items name c ++ x) (again i)

-- ---- as many streams

kids_count : (e : Names) (last : Bool) (n at to : ℕ) (cs : List Chunk) → AreKids cs → length (only is_strl (stood to (kids_named e last n cs))) ≡ length (only is_strl (stood at cs))
kids_count e last n at to [] h = refl
kids_count e last n at to (c ∷ cs) h =
    let one = kid_named e (last && is_nil cs) n c in
    let more = kids_named e last (counted is_strl n c) cs in
    ap (λ (b : Bool). length (cond b (record { at = to; chunk = bare one } ∷ only is_strl (stood (to + length (spell one)) more)) (only is_strl (stood (to + length (spell one)) more)))) (kid_strl e (last && is_nil cs) n c h.0)
    ∙ go (is_strl c) (kids_count e last (counted is_strl n c) (at + length (spell c)) (to + length (spell one)) cs h.1)
  where
    go : (t : Bool) → length (only is_strl (stood (to + length (spell (kid_named e (last && is_nil cs) n c))) (kids_named e last (counted is_strl n c) cs))) ≡ length (only is_strl (stood (at + length (spell c)) cs))
        → length (cond t (record { at = to; chunk = bare (kid_named e (last && is_nil cs) n c) } ∷ only is_strl (stood (to + length (spell (kid_named e (last && is_nil cs) n c))) (kids_named e last (counted is_strl n c) cs))) (only is_strl (stood (to + length (spell (kid_named e (last && is_nil cs) n c))) (kids_named e last (counted is_strl n c) cs))))
        ≡ length (cond t (record { at = at; chunk = bare c } ∷ only is_strl (stood (at + length (spell c)) cs)) (only is_strl (stood (at + length (spell c)) cs)))
    go true again = ap suc again
    go false again = again

abbrev strls_of : List Stood → List Stood
strls_of xs = only is_strl (flat_map kids (first_of (only is_hdrl xs)))

children_count : (e : Names) (last : Bool) (at to : ℕ) (cs : List Chunk) → AreChildren cs → HdrlSmall e last cs → length (strls_of (stood to (children_named e last cs))) ≡ length (strls_of (stood at cs))
children_count e last at to [] h lt = refl
children_count e last at to (c ∷ cs) h lt = go (is_hdrl c) refl (λ i. children_count e last (at + length (spell c)) (to + length (spell c)) cs (behind_one c cs h i) (lt.1 i))
  where
    go : (t : Bool) → is_hdrl c ≡ t → (is_hdrl c ≡ false → length (strls_of (stood (to + length (spell c)) (children_named e last cs))) ≡ length (strls_of (stood (at + length (spell c)) cs)))
        → length (strls_of (stood to (cond t (hdrl_named e (last && is_nil cs) c ∷ cs) (c ∷ children_named e last cs))))
        ≡ length (only is_strl (flat_map kids (first_of (cond t (record { at = at; chunk = bare c } ∷ only is_hdrl (stood (at + length (spell c)) cs)) (only is_hdrl (stood (at + length (spell c)) cs))))))
    go true i again =
        let o = h.1.0 i in
        let new = hdrl_named e (last && is_nil cs) c in
        let x : Stood = record { at = at; chunk = bare c } in
        let y : Stood = record { at = to; chunk = bare new } in
        let typed : is_hdrl new ≡ true = list_type (codes "hdrl") c (kids_of e (last && is_nil cs) c) o.0 ∙ i in
        let small = kids_small e (last && is_nil cs) c o.0 (lt.0 i) in
        let one : strls_of (stood to (new ∷ cs)) ≡ only is_strl (kids y) = ap (λ (b : Bool). only is_strl (flat_map kids (first_of (cond b (y ∷ only is_hdrl (stood (to + length (spell new)) cs)) (only is_hdrl (stood (to + length (spell new)) cs)))))) typed ∙ ap (only is_strl) (append-nil (kids y)) in
        let read : only is_strl (kids y) ≡ only is_strl (stood (to + 12) (kids_of e (last && is_nil cs) c)) = ap (λ (r : Run). only is_strl (stood (to + 12) r.chunks)) (hdrl_run e (last && is_nil cs) c o.0 o.1 small) in
        let old : only is_strl (kids x ++ []) ≡ only is_strl (kids x) = ap (only is_strl) (append-nil (kids x)) in
        ap length (one ∙ read) ∙ kids_count e ((last && is_nil cs) && ends_list c) 0 (at + 12) (to + 12) (list_run c).chunks o.1 ∙ ap length (sym old)
    go false i again =
        let more = children_named e last cs in
        ap (λ (b : Bool). length (only is_strl (flat_map kids (first_of (cond b (record { at = to; chunk = bare c } ∷ only is_hdrl (stood (to + length (spell c)) more)) (only is_hdrl (stood (to + length (spell c)) more))))))) i ∙ again i

-- ---- names

nth_beyond : (k : ℕ) (xs : List Stood) → length xs ≤ k → nth_names k xs ≡ []
nth_beyond k [] le = refl
nth_beyond zero (x ∷ xs) le = absurd (omega arith)
nth_beyond (suc k) (x ∷ xs) le = nth_beyond k xs (omega arith)

-- each name that is set is one of a stream that is there
abbrev Below : ℕ → Names → Type 0
Below n e = AllByRecursion (λ (i : Name). i.stream < n) e

pub are_below : (n : ℕ) (rs : List RawItem) → AreAvi n rs → Below n (name_edit rs)
are_below n [] h = tt
are_below n (r ∷ rs) h = go r.name r.value h.0.0 (are_below n rs h.1)
  where
    go : (name : FieldName) (value : Option Value) → IsAviName n name → Below n (name_edit rs) → Below n (name_item name value ++ name_edit rs)
    go (Info id) value u again = again
    go (Stream m) value u again = (u, again)
    go name value u again = absurd u

after_beyond : (n : ℕ) (e : Names) (k : ℕ) (vs : List (List ℕ)) → Below n e → n ≤ k → names_after e k vs ≡ vs
after_beyond n [] k vs h le = refl
after_beyond n (i ∷ e) k vs h le = go (eqb i.stream k) refl (λ ws. after_beyond n e k ws h.1 le)
  where
    go : (t : Bool) → eqb i.stream k ≡ t → ((ws : List (List ℕ)) → names_after e k ws ≡ ws) → names_after e k (cond t (Rattle.container_model.specs.Items.listed i.value) vs) ≡ vs
    go true j again = let same : i.stream ≡ k = eqb-true i.stream k j in absurd (omega (arith, same, h.0, le))
    go false j again = again vs

-- small names stay so
abbrev AreSmall : List (List ℕ) → Type 0
AreSmall vs = AllByRecursion (λ (v : List ℕ). length v ≤ list_limit) vs

after_small : (e : Names) (k : ℕ) (vs : List (List ℕ)) → ShortNames e → AreSmall vs → AreSmall (names_after e k vs)
after_small [] k vs h s = s
after_small (i ∷ e) k vs h s = after_small e k (cond (eqb i.stream k) (Rattle.container_model.specs.Items.listed i.value) vs) h.1 (go (eqb i.stream k) i.value h.0)
  where
    go : (t : Bool) (value : Option (List ℕ)) → ShortName value → AreSmall (cond t (Rattle.container_model.specs.Items.listed value) vs)
    go false value k = s
    go true None k = tt
    go true (Some v) k = (omega arith, tt)

to_bodies : (at : ℕ) (cs : List Chunk) → AllByRecursion (λ (c : Stood). is_name c.chunk ≡ true → length c.chunk.body ≤ list_limit) (stood at cs) → AreSmall (map (λ (c : Chunk). c.body) (filter is_name cs))
to_bodies at [] h = tt
to_bodies at (c ∷ cs) h = go (is_name c) refl (to_bodies (at + length (spell c)) cs h.1)
  where
    go : (t : Bool) → is_name c ≡ t → AreSmall (map (λ (c : Chunk). c.body) (filter is_name cs)) → AreSmall (map (λ (c : Chunk). c.body) (cond t (c ∷ filter is_name cs) (filter is_name cs)))
    go true i again = (h.0 i, again)
    go false i again = again

of_bodies : (at : ℕ) (cs : List Chunk) → AreSmall (map (λ (c : Chunk). c.body) (filter is_name cs)) → AllByRecursion (λ (c : Stood). is_name c.chunk ≡ true → length c.chunk.body ≤ list_limit) (stood at cs)
of_bodies at [] h = tt
of_bodies at (c ∷ cs) h = go (is_name c) refl h (λ k. of_bodies (at + length (spell c)) cs k)
  where
    go : (t : Bool) → is_name c ≡ t → AreSmall (map (λ (c : Chunk). c.body) (cond t (c ∷ filter is_name cs) (filter is_name cs)))
        → (AreSmall (map (λ (c : Chunk). c.body) (filter is_name cs)) → AllByRecursion (λ (c : Stood). is_name c.chunk ≡ true → length c.chunk.body ≤ list_limit) (stood (at + length (spell c)) cs))
        → AllByRecursion (λ (c : Stood). is_name c.chunk ≡ true → length c.chunk.body ≤ list_limit) (stood at (c ∷ cs))
    go true i h again = ((λ j. h.0), again h.1)
    go false i h again = ((λ j. absurd cc), again h)

nth_small : (k : ℕ) (xs : List Stood) → AllByRecursion NamesSmall xs → AreSmall (nth_names k xs)
nth_small k [] h = tt
nth_small zero (x ∷ xs) h = to_bodies (x.at + 12) (list_run x.chunk).chunks h.0
nth_small (suc k) (x ∷ xs) h = nth_small k xs h.1

small_nth : (xs : List Stood) → ((k : ℕ) → AreSmall (nth_names k xs)) → AllByRecursion NamesSmall xs
small_nth [] h = tt
small_nth (x ∷ xs) h = (of_bodies (x.at + 12) (list_run x.chunk).chunks (h 0), small_nth xs (λ k. h (suc k)))

-- ---- the edit

module _ (o : List ℕ) (bytes : IsBytes o) (s : Supported o) (e : Changes) (small : length (inner (children_after (renewed_avi (writes (move (goes (avi_of o) e)) o) (avi_of o)) e) (avi_of o).left) < 2 ^ 32) where
  abbrev a : Avi
  a = avi_of o

  abbrev ws : List Write
  ws = writes (move (goes (avi_of o) e)) o

  abbrev b : Avi
  b = renewed_avi (writes (move (goes (avi_of o) e)) o) (avi_of o)

  abbrev nb : Avi
  nb = named b e.names

  abbrev after : Avi
  after = joined b e

  abbrev Free : ℕ → Type 0
  Free p = Outside (name_cuts (avi_of o) e.names) p × Outside (list_cuts (avi_of o) e) (shift (name_cuts (avi_of o) e.names) p)

  pub joined_again : joined_file o e ≡ spell_avi (joined (renewed_avi (writes (move (goes (avi_of o) e)) o) (avi_of o)) e)
  unfolding joined_file
  joined_again = ap (λ (x : Avi). spell_avi (joined x e)) (read_again o bytes s (move (goes (avi_of o) e)))

  read : avi_of (spell_avi after) ≡ after
  read = avi_again (joined b e) (joined_readable o bytes s (move (goes (avi_of o) e)) e small)

  pub infos_updated : SetsInfo e.infos → (name : List ℕ) → info_values (spell_avi (joined (renewed_avi (writes (move (goes (avi_of o) e)) o) (avi_of o)) e)) name ≡ updated e.infos name (info_values o name)
  infos_updated sets name =
      ap (λ (x : Avi). list_values info info_items name x.children) read ∙ values_updated nb e.infos name sets (joined_ready o bytes s e small)
      ∙ ap (updated e.infos name) (values_named e.names name (ends_file b) b.children (chunks_again o bytes s (move (goes (avi_of o) e)) e) ∙ values_same ws name 12 a.children (alone o bytes s (move (goes (avi_of o) e))))

  count : length (strls after) ≡ length (strls a)
  count =
      let hs = hdrl_small o bytes s e small in
      ap length (strls_listed o bytes s e hs).0 ∙ length-map (strls nb) (moved_to (shift (list_cuts a e)))
      ∙ children_count e.names (ends_file b) 12 12 b.children (chunks_again o bytes s (move (goes (avi_of o) e)) e) hs
      ∙ ap length (strls_still o bytes s e) ∙ length-map (strls a) (renew_at ws)

  pub names_updated : Below (length (strls (avi_of o))) e.names → (k : ℕ)
      → nth_names k (strls (avi_of (spell_avi (joined (renewed_avi (writes (move (goes (avi_of o) e)) o) (avi_of o)) e)))) ≡ names_after e.names k (nth_names k (strls (avi_of o)))
  names_updated below k = ap (λ (x : Avi). nth_names k (strls x)) read ∙ go (cases_lt k (length (strls a)))
    where
      go : (k < length (strls a)) ⊎ (length (strls a) ≤ k) → nth_names k (strls after) ≡ names_after e.names k (nth_names k (strls a))
      go (inl lt) = joined_names o bytes s e (hdrl_small o bytes s e small) k lt
      go (inr le) =
          nth_beyond k (strls after) (omega (arith, count, le)) ∙ sym (after_beyond (length (strls a)) e.names k [] below le) ∙ ap (names_after e.names k) (sym (nth_beyond k (strls a) le))

  module _ (grows : Grows o bytes s e) (sets : SetsInfo e.infos) (fit : FitsBy (joined (renewed_avi (writes (move (goes (avi_of o) e)) o) (avi_of o)) e) (goes (avi_of o) e) o (spell_avi (joined (renewed_avi (writes (move (goes (avi_of o) e)) o) (avi_of o)) e))) where
    pub joined_supported : Supported (spell_avi (joined (renewed_avi (writes (move (goes (avi_of o) e)) o) (avi_of o)) e))
    joined_supported = laid_supported o bytes s (goes a e) Free after (joined_laid o bytes s e small grows) (joined_lists o bytes s e small sets) fit

    pub joined_pieces : pieces (spell_avi (joined (renewed_avi (writes (move (goes (avi_of o) e)) o) (avi_of o)) e)) ≡ pieces o
    joined_pieces = pieces_same o bytes s (goes a e) Free after (joined_laid o bytes s e small grows) fit

    -- with names as small as they were, or as those that are set
    pub joined_named : AllByRecursion NamesSmall (strls (avi_of o)) → Below (length (strls (avi_of o))) e.names → ShortNames e.names → SupportedNames (spell_avi (joined (renewed_avi (writes (move (goes (avi_of o) e)) o) (avi_of o)) e))
    joined_named names below short = record {
      file = joined_supported;
      names_small = small_nth (strls (avi_of (spell_avi after))) (λ k. subst AreSmall (sym (names_updated below k)) (after_small e.names k (nth_names k (strls a)) short (nth_small k (strls a) names)));
    }

-- ---- the fields

-- The fields of the new file are the old ones updated.
pub joined_reads : (o : List ℕ) (bytes : IsBytes o) (s : Supported o) (e : List EditItem)
    → length (inner (children_after (renewed_avi (writes (move (goes (avi_of o) (all_changes o e))) o) (avi_of o)) (all_changes o e)) (avi_of o).left) < 2 ^ 32
    → broken avi (length (strls (avi_of o))) (all_fields o) e Base ≡ None
    → (name : FieldName) → IsFieldName name ⊎ NamesFields e → all_fields (joined_file o (all_changes o e)) name ≡ update (all_fields o) e name
joined_reads o bytes s e small rules name h =
    let g = items_give (length (strls (avi_of o))) (all_fields o) e rules in
    let c = all_changes o e in
    let new = spell_avi (joined (renewed_avi (writes (move (goes (avi_of o) c)) o) (avi_of o)) c) in
    ap (λ (n : List ℕ). all_fields n name) (joined_again o bytes s c small)
    ∙ read_back o new e (length (strls (avi_of o))) g.names (infos_updated o bytes s c small g.sets) (names_updated o bytes s c small (are_below (length (strls (avi_of o))) (raw_items (all_fields o) e) g.names)) name h
