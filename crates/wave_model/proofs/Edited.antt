-- The new file of a supported one: it is read again, supported, and the old one edited.
use Rattle.std.proofs.Common.{◌≡◌, ℕ, ◌-◌, ◌^◌, ◌<◌, ◌≤◌, Bool, true, false, cond, List, [], ◌∷◌, ◌++◌, length, map, take, drop, replicate, Option, refl, sym, ap, subst, ◌∙◌, append_assoc, arith, inl, inr}
use Rattle.std.specs.Prelude.{◌&&◌, ◌||◌, codes}
use Rattle.std.specs.Int.{w64, to_le_bytes, from_le_bytes}
use Rattle.std.specs.Str.{bytes_eq}
use Rattle.std.specs.List.{flat_map, AllByRecursion}
use Rattle.std.proofs.lemmas.Bool.{cond-true, cond-false, le-ltb}
use Rattle.std.proofs.lemmas.Nat.{from_le_bytes-to_le_bytes_8}
use Rattle.std.proofs.lemmas.List.{length-append, length-drop, take_at, drop_at, drop-drop}
use Rattle.part_tree.specs.declared.field.BextField.{BextField}
use Rattle.part_tree.specs.declared.field.FieldName.{FieldName}
use Rattle.part_tree.specs.declared.field.FieldName.TheVariants.{Bext, Info, Whole, User, Key, Stream}
use Rattle.part_tree.specs.declared.field.Value.{Value}
use Rattle.part_tree.specs.Names.{bext_row, same_name, IsFieldName}
use Rattle.field_model.specs.Bext.{range_of}
use Rattle.field_model.specs.Fields.{FieldMap, plain}
use Rattle.field_model.specs.Update.{RawItem, updated, updated_values, raised_values, needed, made}
use Rattle.container_model.specs.Chunk.{Form, riff, wide, short, long, to_end, Chunk, spell, spell_all, header_bytes, ends, Run, Heads, Pads, PadStands, Reads}
use Rattle.container_model.specs.Sizes.{plain as plain_sizes, riff_front}
use Rattle.container_model.specs.Units.{live, lacks_pad}
use Rattle.container_model.proofs.Codec.{IsBytes, reads_from}
use Rattle.container_model.proofs.Plain.{rest_is}
use Rattle.container_model.proofs.Reread.{Neutral}
use Rattle.container_model.proofs.Units.{lay_all}
use Rattle.container_model.proofs.Items.{same_true}
use Rattle.carrier_model.specs.Info.{own_size, is_padding, made as made_chunk, one_of, info, info_items}
use Rattle.carrier_model.specs.Lists.{list_values, values_held, Node}
use Rattle.carrier_model.proofs.Cells.{cells_from}
use Rattle.carrier_model.proofs.Info.{fill_all, padding_no_list}
use Rattle.container_model.specs.Ds64.{le32, le64, table_of}
use Rattle.wave_model.specs.Wave.{is_big, is_wide, form_kind, form_size, sizes_of, form_run, firsts, others, Wave, wave_of, inner, spell_wave, cells_of, cells_behind}
use Rattle.wave_model.specs.Fields.{has_id, is_bext, is_whole, is_info, is_marked, body_in, bodies, fields_of, fields, plain_nodes, nodes_of, nodes}
use Rattle.wave_model.specs.Carry.{edits_bext, steps, placed}
use Rattle.carrier_model.specs.Steps.{carried, stepped}
use Rattle.wave_model.specs.New.{ends_file, fill_of, new_children, new_size, with_riff_size, sized_ds64, new_wave}
use Rattle.wave_model.specs.Edited.{blocks_by, formats, sounds, pieces_in, ds64_node, is_carrier, ChunkFine, IsFormat, parts, ChildrenFine, Ds64Fine, is_kind, Supported, junk_first, first_junk}
use Rattle.wave_model.specs.Large.{FormSmall}
use Rattle.wave_model.proofs.Read.{neutral}
use Rattle.carrier_model.proofs.Steps.{live_carried, gaps_carried, first_carried}
use Rattle.wave_model.proofs.Acts.{all_pass, bext_after, other_id, whole_after}
use Rattle.wave_model.proofs.Ready.{ListEnds}
use Rattle.wave_model.proofs.Values.{ItemFine, ItemsFine, format_bodies, sound_bodies, all_bext, all_whole, all_info, all_nodes, info_updated, whole_updated}
use Rattle.field_model.proofs.Raised.{bext_edited, bext_made}
use Rattle.wave_model.proofs.Bext.{IsBody, fit_bext}
use Rattle.wave_model.proofs.Again.{FormFine, is_form, Readable, id_at, body_at, wave_again, run_is, size_is, id_is}
use Rattle.wave_model.proofs.Ds64.{IsDs64, HasDs64, first_id, first_size, first_rows, at_twenty, table_same}
use Rattle.wave_model.proofs.Form.{form_fine, old_form, behind_body, old_pad, old_pads, old_left, has_ds64}
use Rattle.wave_model.proofs.Cells.{no_chunks, Ignores, gaps_cells, FirstIs, first_laid}
use Rattle.wave_model.proofs.New.{Fits, ListsSmall, pad_stands, ignores_body, ignores_bext, ignores_whole, CarrierSmall, old_live, seen, old_seen, old_bexts, new_bexts, new_small, ready, pads_behind, new_ends, new_heads, new_pads}

pub apart : (t : Bool) → t ≡ false → t ≡ true → ⊥
apart true x y = absurd cc
apart false x y = absurd cc

-- ---- ds64 with another riffSize

abbrev sized_one : Form → ℕ → Chunk → Chunk
sized_one wide n d = with_riff_size n d
sized_one riff n d = d
sized_one short n d = d
sized_one long n d = d
sized_one to_end n d = d

pub record SameButSize (d x : Chunk) : Type 0 where
  pub form_is : x.form ≡ d.form
  pub id_is : x.id ≡ d.id
  pub pad_is : x.pad ≡ d.pad
  pub len : length x.body ≡ length d.body
  pub behind : drop 8 x.body ≡ drop 8 d.body

one_same : (form : Form) (n : ℕ) (d : Chunk) → 8 ≤ length d.body → SameButSize d (sized_one form n d)
one_same wide n d h = record { form_is = refl; id_is = refl; pad_is = refl; len = omega (arith, length-append (to_le_bytes w64 n) (drop 8 d.body), length-drop 8 d.body); behind = drop_at (to_le_bytes w64 n) (drop 8 d.body) 8 refl }
one_same riff n d h = record { form_is = refl; id_is = refl; pad_is = refl; len = refl; behind = refl }
one_same short n d h = record { form_is = refl; id_is = refl; pad_is = refl; len = refl; behind = refl }
one_same long n d h = record { form_is = refl; id_is = refl; pad_is = refl; len = refl; behind = refl }
one_same to_end n d h = record { form_is = refl; id_is = refl; pad_is = refl; len = refl; behind = refl }

sized_is : (form : Form) (n : ℕ) (d : Chunk) → sized_ds64 form n (d ∷ []) ≡ sized_one form n d ∷ []
sized_is wide n d = refl
sized_is riff n d = refl
sized_is short n d = refl
sized_is long n d = refl
sized_is to_end n d = refl

sized_none : (form : Form) (n : ℕ) → sized_ds64 form n [] ≡ []
sized_none wide n = refl
sized_none riff n = refl
sized_none short n = refl
sized_none long n = refl
sized_none to_end n = refl

-- the table that it holds is the same
same_ds64 : (d x : Chunk) → IsDs64 d → SameButSize d x → IsDs64 x
same_ds64 d x h s =
    let behind : drop 24 x.body ≡ drop 24 d.body = sym (drop-drop 16 8 x.body) ∙ ap (drop 16) s.behind ∙ drop-drop 16 8 d.body in
    record {
      form_is = s.form_is ∙ h.form_is;
      id_is = s.id_is ∙ h.id_is;
      long = omega (arith, s.len, h.long);
      small = omega (arith, s.len, h.small);
      holds_rows = omega (arith, s.len, ap le32 behind, h.holds_rows);
    }

sized_len : (d x : Chunk) → SameButSize d x → length (spell x) ≡ length (spell d)
sized_len d x s =
    let head : header_bytes x.form x.id (length x.body) ≡ header_bytes d.form d.id (length d.body)
    = ap (λ (f : Form). header_bytes f x.id (length x.body)) s.form_is ∙ ap (λ (i : List ℕ). header_bytes d.form i (length x.body)) s.id_is ∙ ap (header_bytes d.form d.id) s.len in
    omega (arith, ap length head, s.len, ap length s.pad_is, length-append (header_bytes x.form x.id (length x.body)) (x.body ++ x.pad), length-append x.body x.pad, length-append (header_bytes d.form d.id (length d.body)) (d.body ++ d.pad), length-append d.body d.pad)

-- where ds64 is, the new one is the old one but for riffSize
abbrev pub Sized : Bool → Form → ℕ → List Chunk → Type 0
Sized false form n ds = (ds ≡ []) × (sized_ds64 form n ds ≡ [])
Sized true form n ds = (d : Chunk) × (ds ≡ d ∷ []) × IsDs64 d × (sized_ds64 form n ds ≡ sized_one form n d ∷ [])

sized_from : (t : Bool) (form : Form) (n : ℕ) (ds : List Chunk) → HasDs64 t ds → Sized t form n ds
sized_from false form n ds h = (h, ap (sized_ds64 form n) h ∙ sized_none form n)
sized_from true form n ds h = (h.0, h.1, h.2, ap (sized_ds64 form n) h.1 ∙ sized_is form n h.0)

pub total_len : (t : Bool) (form : Form) (n : ℕ) (ds : List Chunk) → Sized t form n ds → length (spell_all (sized_ds64 form n ds)) ≡ length (spell_all ds)
total_len false form n ds h = ap (λ (x : List Chunk). length (spell_all x)) (h.1 ∙ sym h.0)
total_len true form n ds h =
    let d = h.0 in
    let x = sized_one form n d in
    let s = one_same form n d (omega (arith, h.2.long)) in
    ap (λ (y : List Chunk). length (spell_all y)) h.3 ∙ omega (arith, sized_len d x s, length-append (spell x) [], length-append (spell d) []) ∙ sym (ap (λ (y : List Chunk). length (spell_all y)) h.1)

new_has : (t : Bool) (form : Form) (n : ℕ) (ds : List Chunk) → Sized t form n ds → HasDs64 t (sized_ds64 form n ds)
new_has false form n ds h = h.1
new_has true form n ds h = (sized_one form n h.0, h.3, same_ds64 h.0 (sized_one form n h.0) h.2 (one_same form n h.0 (omega (arith, h.2.long))))

pub sized_nodes : (form : Form) (n : ℕ) (ds : List Chunk) → map (ds64_node form) (sized_ds64 form n ds) ≡ map (ds64_node form) ds
sized_nodes wide n [] = refl
sized_nodes wide n (d ∷ ds) = ap (λ (x : List ℕ). Node.other d.form d.id (replicate 8 0 ++ x) ∷ map (ds64_node wide) (map (with_riff_size n) ds)) (drop_at (to_le_bytes w64 n) (drop 8 d.body) 8 refl) ∙ ap (λ (k : List Node). ds64_node wide d ∷ k) (sized_nodes wide n ds)
sized_nodes riff n ds = refl
sized_nodes short n ds = refl
sized_nodes long n ds = refl
sized_nodes to_end n ds = refl

first_of : (t : Bool) (ds cs : List Chunk) → HasDs64 t ds → (firsts t (ds ++ cs) ≡ ds) × (others t (ds ++ cs) ≡ cs)
first_of false ds cs h = (sym h, ap (λ (x : List Chunk). x ++ cs) h)
first_of true ds cs h = (ap (λ (x : List Chunk). firsts true (x ++ cs)) h.1 ∙ sym h.1, ap (λ (x : List Chunk). others true (x ++ cs)) h.1)

pub kind_len : (id : List ℕ) → is_kind id ≡ true → length id ≡ 4
kind_len id e = go (bytes_eq id (codes "RIFF")) (bytes_eq id (codes "RF64")) (bytes_eq id (codes "BW64")) refl refl refl e
  where
    go : (t u v : Bool) → bytes_eq id (codes "RIFF") ≡ t → bytes_eq id (codes "RF64") ≡ u → bytes_eq id (codes "BW64") ≡ v → ((t || false) || (u || (v || false))) ≡ true → length id ≡ 4
    go true u v x y z e = ap length (same_true id (codes "RIFF") x)
    go false true v x y z e = ap length (same_true id (codes "RF64") y)
    go false false true x y z e = ap length (same_true id (codes "BW64") z)
    go false false false x y z e = absurd cc

-- ---- a file that is read again is supported, where its chunks are fine

pub supported_again : (w : Wave) → Readable w → is_kind w.id ≡ true → HasDs64 (is_big w.id) w.ds64 → ChildrenFine w.children → parts w ≤ 65536 → Supported (spell_wave w)
supported_again w h k d c p =
    let b = spell_wave w in
    let again = wave_again w h in
    let eight = body_at w (is_form w.form w.id (length (inner w)) h.form_fine) h.id_len in
    record {
      form_id = ap is_kind (id_is w h) ∙ k;
      form_type = ap (take 4) eight;
      with_ds64 = λ big. with_it (is_big w.id) refl (sym (ap is_big (id_is w h)) ∙ big) d eight;
      long = omega (arith, size_is w h, length-append (codes "WAVE") (spell_all w.ds64 ++ (spell_all w.children ++ w.left)));
      inside = omega (arith, size_is w h, ap length eight, length-drop 8 b, length-append (inner w) (w.pad ++ w.tail), some (length (inner w)));
      chunks_end = ap (λ (r : Run). r.stop) (run_is w h);
      children = subst (λ (v : Wave). ChildrenFine v.children) (sym again) c;
      few_parts = subst (λ (v : Wave). parts v ≤ 65536) (sym again) p;
    }
  where
    some : (n : ℕ) → 0 ≤ n
    some n = omega arith

    with_it : (t : Bool) → is_big w.id ≡ t → is_big w.id ≡ true → HasDs64 t w.ds64 → drop 8 (spell_wave w) ≡ inner w ++ (w.pad ++ w.tail) → Ds64Fine (spell_wave w)
    with_it false x y g eight = absurd cc
    with_it true x y g eight =
        let i = g.2 in
        let low : length g.0.body < 2 ^ 32 = omega (arith, i.small) in
        let four : length g.0.id ≡ 4 = ap length i.id_is in
        let size = first_size (spell_wave w) w eight g.0 g.1 i.form_is four low in
        let count = first_rows (spell_wave w) w eight g.0 g.1 i.form_is four low i.long in
        let twenty = at_twenty (spell_wave w) w eight g.0 g.1 i.form_is four low in
        record {
          ds64_id = first_id (spell_wave w) w eight g.0 g.1 i.form_is four low ∙ i.id_is;
          small = omega (arith, size, i.small);
          long = omega (arith, size, i.long);
          holds_rows = omega (arith, size, count, i.holds_rows);
          inside = omega (arith, size, ap length twenty, length-drop 20 (spell_wave w), i.long, length-append g.0.body (Rattle.wave_model.proofs.Ds64.behind_first (spell_wave w) w eight g.0 g.1));
        }

-- ---- values of `bext` after an edit

bext_none : (field : BextField) (e : List RawItem) (f : FieldMap) (bs : List (List ℕ)) → ((g : BextField) → f (Bext g) ≡ map plain (map (range_of (bext_row g)) bs)) → edits_bext e ≡ false
    → map plain (map (range_of (bext_row field)) bs) ≡ updated e f (Bext field)
bext_none field e f bs h n = sym (cond-false (edits_bext e) _ (f (Bext field)) n ∙ h field)

bext_some : (field : BextField) (e : List RawItem) (f : FieldMap) (bs : List (List ℕ)) → ItemsFine e → ((g : BextField) → f (Bext g) ≡ map plain (map (range_of (bext_row g)) bs)) → edits_bext e ≡ true
    → length bs ≤ 1 → AllByRecursion IsBody bs → map plain (map (range_of (bext_row field)) (bext_after e true bs)) ≡ updated e f (Bext field)
bext_some field e f [] i h n l b = sym (bext_made e f field (fit_bext e i) n h)
bext_some field e f (x ∷ []) i h n l b = sym (bext_edited e f x field b.0.0 (fit_bext e i) h)
bext_some field e f (x ∷ (y ∷ bs)) i h n l b = absurd (omega arith)

-- a name that no sound file can have
abbrev IsStrange : FieldName → Type 0
IsStrange (Bext field) = ⊥
IsStrange (Info id) = ⊥
IsStrange (Whole id) = ⊥
IsStrange name = Unit {0}

strange_none : (e : List RawItem) → ItemsFine e → (name : FieldName) → IsStrange name → [] ≡ updated_values e name []
strange_none [] f name s = refl
strange_none (i ∷ e) f name s = strange_none e f.1 name s ∙ ap (updated_values e name) (one i.name name i.value f.0 s)
  where
    one : (a b : FieldName) (v : Option Value) → ItemFine a v → IsStrange b → [] ≡ cond (same_name a b) (Rattle.field_model.specs.Update.listed v) []
    one (Bext field) (User y) v h s = refl
    one (Bext field) (Key y) v h s = refl
    one (Bext field) (Stream y) v h s = refl
    one (Info x) (User y) v h s = refl
    one (Info x) (Key y) v h s = refl
    one (Info x) (Stream y) v h s = refl
    one (Whole x) (User y) v h s = refl
    one (Whole x) (Key y) v h s = refl
    one (Whole x) (Stream y) v h s = refl
    one (User x) b v h s = absurd h
    one (Key x) b v h s = absurd h
    one (Stream x) b v h s = absurd h
    one a (Bext field) v h s = absurd s
    one a (Info y) v h s = absurd s
    one a (Whole y) v h s = absurd s

-- ---- a first JUNK

abbrev first_bytes : List ℕ → List (List ℕ) → List ℕ
first_bytes d [] = d
first_bytes d (x ∷ xs) = x

pub first_one : (x : List ℕ) (xs : List (List ℕ)) (y : List ℕ) → x ∷ xs ≡ y ∷ [] → x ≡ y
first_one x xs y q = ap (first_bytes x) q

abbrev first_chunk : Chunk → List Chunk → Chunk
first_chunk d [] = d
first_chunk d (c ∷ cs) = c

pub one_chunk : (x y : Chunk) → x ∷ [] ≡ y ∷ [] → x ≡ y
one_chunk x y q = ap (first_chunk x) q

junk_of : (c : Chunk) (cs : List Chunk) → FirstIs c cs → is_padding c ≡ true → junk_first cs ≡ c ∷ []
junk_of c [] h j = absurd h
junk_of c (d ∷ ds) h j = subst (λ (x : Chunk). junk_first (x ∷ ds) ≡ c ∷ []) (sym h) (cond-true (is_padding c) (c ∷ []) [] j)

-- ---- the new file

module _ (o : List ℕ) (bytes : IsBytes o) (sup : Supported o) (e : List RawItem) where
  pub sized : Sized (is_big (take 4 o)) (wave_of o).form (new_size (wave_of o) e) (wave_of o).ds64
  sized = sized_from (is_big (take 4 o)) (wave_of o).form (new_size (wave_of o) e) (wave_of o).ds64 (has_ds64 o bytes sup)

  pub length_new : length (inner (new_wave (wave_of o) e)) ≡ new_size (wave_of o) e
  length_new =
      let rest = spell_all (new_children (wave_of o) e) ++ (wave_of o).left in
      omega (arith, total_len (is_big (take 4 o)) (wave_of o).form (new_size (wave_of o) e) (wave_of o).ds64 sized, length-append (spell_all (sized_ds64 (wave_of o).form (new_size (wave_of o) e) (wave_of o).ds64)) rest, length-append (spell_all (wave_of o).ds64) rest)

  -- ---- the first chunk

  -- the pad of padding that comes first stands, for a format comes behind it
  pub first_whole : (c : Chunk) (cs : List Chunk) → (wave_of o).children ≡ c ∷ cs → is_padding c ≡ true → lacks_pad c ≡ false
  first_whole c cs b j = go (subst (λ (xs : List Chunk). Pads xs (wave_of o).left) b (pads_behind o bytes sup)).0
    where
      silent : (xs : List Chunk) → xs ≡ [] → length (formats (c ∷ xs)) ≡ 0
      silent xs i = ap (λ (ys : List Chunk). length (formats (c ∷ ys))) i ∙ rw (other_id (codes "fmt ") c refl j) refl

      go : PadStands c.form (length c.body) c.pad (spell_all cs ++ (wave_of o).left) → lacks_pad c ≡ false
      go (inl l) = le-ltb (length c.pad) (Rattle.container_model.specs.Chunk.pad_len c.form (length c.body)) (omega arith)
      go (inr r) =
          let one : length (formats (c ∷ cs)) ≡ 1 = sym (ap (λ (xs : List Chunk). length (formats xs)) b) ∙ sup.children.one_format in
          absurd (omega (arith, one, silent cs (no_chunks cs (wave_of o).left r.1)))

  pub new_junk : (c : Chunk) → first_junk (wave_of o) ≡ c ∷ [] → first_junk (new_wave (wave_of o) e) ≡ c ∷ []
  new_junk c h = go (is_big (take 4 o)) sized
    where
      w : Wave
      w = wave_of o

      plain_first : (cs : List Chunk) → w.ds64 ≡ [] → w.children ≡ cs → junk_first cs ≡ c ∷ [] → junk_first (new_children w e) ≡ c ∷ []
      plain_first [] a b j = absurd cc
      plain_first (d ∷ cs) a b j = by (is_padding d) refl
        where
          cells : cells_of w ≡ Rattle.container_model.specs.Units.kept d ∷ map Rattle.wave_model.specs.Wave.cell_of cs
          cells = ap (λ (ds : List Chunk). cells_behind ds w.children) a ∙ ap (cells_behind []) b

          by : (t : Bool) → is_padding d ≡ t → junk_first (new_children w e) ≡ c ∷ []
          by true p =
              let same : d ∷ [] ≡ c ∷ [] = sym (cond-true (is_padding d) (d ∷ []) [] p) ∙ j in
              junk_of d (new_children w e) (first_laid (fill_of w) d (carried (steps e) (cells_of w)) (first_whole d cs b p) (first_carried d (steps e) (all_pass e d p) (cells_of w) (map Rattle.wave_model.specs.Wave.cell_of cs, cells))) p ∙ same
          by false p = let none : junk_first (d ∷ cs) ≡ [] = cond-false (is_padding d) _ _ p in absurd cc

      go : (t : Bool) → Sized t w.form (new_size w e) w.ds64 → first_junk (new_wave w e) ≡ c ∷ []
      go false s =
          let old : junk_first w.children ≡ c ∷ [] = sym (ap (λ (ds : List Chunk). junk_first (ds ++ w.children)) s.0) ∙ h in
          ap (λ (ds : List Chunk). junk_first (ds ++ new_children w e)) s.1 ∙ plain_first w.children s.0 refl old
      go true s =
          let no : is_padding s.0 ≡ false = ap (λ (i : List ℕ). own_size s.0.form && bytes_eq i (codes "JUNK")) s.2.id_is ∙ both (own_size s.0.form) in
          let none : first_junk w ≡ [] = ap (λ (ds : List Chunk). junk_first (ds ++ w.children)) s.1 ∙ cond-false (is_padding s.0) _ _ no in
          absurd cc
        where
          both : (t : Bool) → (t && false) ≡ false
          both true = refl
          both false = refl

module _ (o : List ℕ) (bytes : IsBytes o) (sup : Supported o) (e : List RawItem) (f : ItemsFine e) (small : ListsSmall (wave_of o) e) where
  abbrev w : Wave
  w = wave_of o

  abbrev n : Wave
  n = new_wave (wave_of o) e

  new_len : length (inner (new_wave (wave_of o) e)) ≡ new_size (wave_of o) e
  new_len = length_new o bytes sup e

  all_sized : Sized (is_big (take 4 o)) (wave_of o).form (new_size (wave_of o) e) (wave_of o).ds64
  all_sized = sized o bytes sup e

  new_fine : Fits (wave_of o) e → FormFine (new_wave (wave_of o) e).form (new_wave (wave_of o) e).id (length (inner (new_wave (wave_of o) e)))
  new_fine fits = rw new_len (go w.form (form_fine o bytes sup) fits.form)
    where
      go : (form : Form) → FormFine form w.id (length (inner w)) → FormSmall form w.id (new_size w e) → FormFine form w.id (new_size w e)
      go riff g s = by (is_big w.id) refl s
        where
          by : (t : Bool) → is_big w.id ≡ t → new_size w e ≤ Rattle.wave_model.specs.Large.most_by t → (new_size w e < 2 ^ 32) × (is_big w.id ≡ true → new_size w e < 2 ^ 32 - 1)
          by true x s = (omega (arith, s), λ y. omega (arith, s))
          by false x s = (omega (arith, s), λ y. absurd cc)
      go wide g s = g
      go short g s = absurd g
      go long g s = absurd g
      go to_end g s = absurd g

  pub id_len : length (take 4 o) ≡ 4
  id_len = kind_len (take 4 o) sup.form_id

  new_eight : drop 8 (spell_wave (new_wave (wave_of o) e)) ≡ inner (new_wave (wave_of o) e) ++ ((new_wave (wave_of o) e).pad ++ (new_wave (wave_of o) e).tail)
  new_eight = body_at (new_wave (wave_of o) e) (old_form o bytes sup) id_len

  new_ds64 : HasDs64 (is_big (take 4 o)) (new_wave (wave_of o) e).ds64
  new_ds64 = new_has (is_big (take 4 o)) w.form (new_size w e) w.ds64 all_sized

  same_sizes : sizes_of (spell_wave (new_wave (wave_of o) e)) ≡ sizes_of o
  same_sizes = ap (λ (x : List ℕ). cond (is_big x) (table_of (drop 20 (spell_wave n))) plain_sizes) (id_at n (old_form o bytes sup) id_len) ∙ go (is_big (take 4 o)) all_sized
    where
      go : (t : Bool) → Sized t w.form (new_size w e) w.ds64 → cond t (table_of (drop 20 (spell_wave n))) plain_sizes ≡ cond t (table_of (drop 20 o)) plain_sizes
      go false h = refl
      go true h =
          let d = h.0 in
          let x = sized_one w.form (new_size w e) d in
          let s = one_same w.form (new_size w e) d (omega (arith, h.2.long)) in
          let i = same_ds64 d x h.2 s in
          let new = at_twenty (spell_wave n) n new_eight x h.3 i.form_is (ap length i.id_is) (omega (arith, i.small)) in
          let old = at_twenty o w (behind_body o bytes sup) d h.1 h.2.form_is (ap length h.2.id_is) (omega (arith, h.2.small)) in
          ap table_of new ∙ table_same x.body d.body _ _ s.behind s.len i.long i.holds_rows ∙ sym (ap table_of old)

  riff_size_is : Fits (wave_of o) e → (new_wave (wave_of o) e).form ≡ wide → le64 (drop 20 (spell_wave (new_wave (wave_of o) e))) ≡ length (inner (new_wave (wave_of o) e))
  riff_size_is fits form = go (is_big (take 4 o)) refl all_sized
    where
      big : is_big (take 4 o) ≡ true
      big = let g : FormFine wide w.id (length (inner w)) = rw form at (form_fine o bytes sup) in g

      size : new_size w e < 2 ^ 64
      size =
          let b = spell_wave n in
          omega (arith, fits.file, new_len, ap length new_eight, length-drop 8 b, length-append (inner n) (n.pad ++ n.tail))

      go : (t : Bool) → is_big (take 4 o) ≡ t → Sized t w.form (new_size w e) w.ds64 → le64 (drop 20 (spell_wave n)) ≡ length (inner n)
      go false x h = absurd (apart (is_big (take 4 o)) x big)
      go true x h =
          let d = h.0 in
          let y = sized_one w.form (new_size w e) d in
          let s = one_same w.form (new_size w e) d (omega (arith, h.2.long)) in
          let i = same_ds64 d y h.2 s in
          let new = at_twenty (spell_wave n) n new_eight y h.3 i.form_is (ap length i.id_is) (omega (arith, i.small)) in
          let body : y.body ≡ to_le_bytes w64 (new_size w e) ++ drop 8 d.body = ap (λ (g : Form). (sized_one g (new_size w e) d).body) form in
          ap le64 new ∙ ap (λ (z : List ℕ). le64 (z ++ Rattle.wave_model.proofs.Ds64.behind_first (spell_wave n) n new_eight y h.3)) body ∙ ap (from_le_bytes w64) (first_eight (new_size w e) (drop 8 d.body) (Rattle.wave_model.proofs.Ds64.behind_first (spell_wave n) n new_eight y h.3))
          ∙ from_le_bytes-to_le_bytes_8 (new_size w e) size ∙ sym new_len
        where
          first_eight : (k : ℕ) (a b : List ℕ) → take 8 ((to_le_bytes w64 k ++ a) ++ b) ≡ to_le_bytes w64 k
          first_eight k a b = ap (take 8) (append_assoc (to_le_bytes w64 k) a b) ∙ take_at (to_le_bytes w64 k) (a ++ b) 8 refl

  all_heads : Heads riff_front (sizes_of o) ((new_wave (wave_of o) e).ds64 ++ (new_wave (wave_of o) e).children)
  all_heads = go (is_big (take 4 o)) new_ds64
    where
      go : (t : Bool) → HasDs64 t n.ds64 → Heads riff_front (sizes_of o) (n.ds64 ++ new_children w e)
      go false h = subst (λ (ds : List Chunk). Heads riff_front (sizes_of o) (ds ++ new_children w e)) (sym h) (new_heads o bytes sup e f small)
      go true h =
          let i = h.2 in
          let m : Neutral riff_front h.0 = neutral h.0 (ap length i.id_is) i.form_is (omega (arith, i.small)) in
          subst (λ (ds : List Chunk). Heads riff_front (sizes_of o) (ds ++ new_children w e)) (sym h.1) (sizes_of o, m (sizes_of o), new_heads o bytes sup e f small)

  some_child : spell_all (wave_of o).children ++ (wave_of o).left ≡ [] → ⊥
  some_child none = go (wave_of o).children sup.children.one_format none
    where
      go : (cs : List Chunk) → length (formats cs) ≡ 1 → spell_all cs ++ (wave_of o).left ≡ [] → ⊥
      go [] l x = omega arith
      go (c ∷ cs) l x = omega (arith, Rattle.container_model.proofs.Codec.as_many (c ∷ cs), length-append (spell_all (c ∷ cs)) (wave_of o).left, ap length x)

  all_pads : Pads ((new_wave (wave_of o) e).ds64 ++ (new_wave (wave_of o) e).children) (wave_of o).left
  all_pads = go (is_big (take 4 o)) all_sized (old_pads o bytes sup)
    where
      go : (t : Bool) → Sized t w.form (new_size w e) w.ds64 → Pads (w.ds64 ++ w.children) w.left → Pads (n.ds64 ++ new_children w e) w.left
      go false h p = subst (λ (ds : List Chunk). Pads (ds ++ new_children w e) w.left) (sym h.1) (new_pads o bytes sup e f small)
      go true h p =
          let d = h.0 in
          let x = sized_one w.form (new_size w e) d in
          let s = one_same w.form (new_size w e) d (omega (arith, h.2.long)) in
          let old : Pads ((d ∷ []) ++ w.children) w.left = subst (λ (ds : List Chunk). Pads (ds ++ w.children) w.left) h.1 p in
          subst (λ (ds : List Chunk). Pads (ds ++ new_children w e) w.left) (sym h.3) (pad d x s old.0, new_pads o bytes sup e f small)
        where
          pad : (d x : Chunk) → SameButSize d x → PadStands d.form (length d.body) d.pad (spell_all w.children ++ w.left) → PadStands x.form (length x.body) x.pad (spell_all (new_children w e) ++ w.left)
          pad d x s (inl l) =
              inl (ap length s.pad_is ∙ l ∙ ap (λ (g : Form). Rattle.container_model.specs.Chunk.pad_len g (length d.body)) (sym s.form_is) ∙ ap (Rattle.container_model.specs.Chunk.pad_len x.form) (sym s.len))
          pad d x s (inr r) = absurd (some_child r.1)

  new_readable : Fits (wave_of o) e → Readable (new_wave (wave_of o) e)
  new_readable fits =
      let first = first_of (is_big (take 4 o)) n.ds64 (new_children w e) new_ds64 in
      record {
        id_len = id_len;
        form_fine = new_fine fits;
        riff_size = riff_size_is fits;
        state = sizes_of o;
        state_is = same_sizes;
        reads = reads_from riff_front (sizes_of o) (n.ds64 ++ new_children w e) w.left all_heads all_pads (rest_is w.left (old_left o bytes sup));
        ds64_first = first.0;
        ds64_behind = first.1;
        form_pad = rw new_len (pad_stands (length (inner w)) (new_size w e) w.pad w.tail (old_pad o bytes sup));
      }

  pub new_again : Fits (wave_of o) e → wave_of (spell_wave (new_wave (wave_of o) e)) ≡ new_wave (wave_of o) e
  new_again fits = wave_again (new_wave (wave_of o) e) (new_readable fits)

  -- ---- fields

  new_bodies : (p : Chunk → Bool) → Ignores (body_in p) → bodies p (new_children (wave_of o) e) ≡ bodies p (stepped (steps e) (old_live o bytes sup e f small))
  new_bodies p h = seen o bytes sup e f small (body_in p) h

  pub not_padding : (id : List ℕ) → bytes_eq id (codes "JUNK") ≡ false → Ignores (body_in (has_id id))
  not_padding id x = ignores_body (has_id id) (λ c j. other_id id c x j) (λ c. refl)

  ignores_held : (name : List ℕ) → Ignores (values_held info info_items name)
  ignores_held name = record { padding = λ c j. cond-false (is_info c) _ [] (padding_no_list (codes "INFO") c j); pads = λ c. refl }

  pub new_fields : (name : FieldName) → IsFieldName name → fields_of (new_children (wave_of o) e) name ≡ updated e (fields o) name
  new_fields (Bext field) k =
      let bs = bodies is_bext w.children in
      let same : bodies is_bext (new_children w e) ≡ bext_after e (edits_bext e) bs
      = new_bodies is_bext ignores_bext ∙ all_bext e (old_live o bytes sup e f small) ∙ ap (bext_after e (edits_bext e)) (old_seen o bytes sup e f small (body_in is_bext) ignores_bext) in
      ap (λ (x : List (List ℕ)). map plain (map (range_of (bext_row field)) x)) same ∙ go (edits_bext e) refl
    where
      go : (t : Bool) → edits_bext e ≡ t → map plain (map (range_of (bext_row field)) (bext_after e t (bodies is_bext w.children))) ≡ updated e (fields o) (Bext field)
      go false x = bext_none field e (fields o) (bodies is_bext w.children) (λ g. refl) x
      go true x = bext_some field e (fields o) (bodies is_bext w.children) f (λ g. refl) x sup.children.one_bext (old_bexts o bytes sup e f small)
  new_fields (Info id) k =
      ap (map plain)
      (seen o bytes sup e f small (values_held info info_items id.0) (ignores_held id.0) ∙ all_info e (old_live o bytes sup e f small) (ready o bytes sup e f small) id.0
      ∙ ap (Rattle.container_model.specs.Items.updated (Rattle.wave_model.specs.Carry.info_part e) id.0) (old_seen o bytes sup e f small (values_held info info_items id.0) (ignores_held id.0)))
      ∙ info_updated e f id.0 k (list_values info info_items id.0 w.children)
  new_fields (Whole id) k =
      ap (map plain)
      (new_bodies (is_whole id.0) (ignores_whole id.0 k) ∙ all_whole id.0 k e (old_live o bytes sup e f small)
      ∙ ap (whole_after (Rattle.wave_model.specs.Carry.whole_part id.0 e)) (old_seen o bytes sup e f small (body_in (is_whole id.0)) (ignores_whole id.0 k)))
      ∙ whole_updated e f id.0 (bodies (is_whole id.0) w.children)
  new_fields (User id) k = strange_none e f (User id) tt
  new_fields (Key name) k = strange_none e f (Key name) tt
  new_fields (Stream n) k = strange_none e f (Stream n) tt

  -- ---- nodes and pieces

  ignores_nodes : Ignores nodes_of
  ignores_nodes = record { padding = λ c j. cond-false (is_info c) _ (plain_nodes c) (padding_no_list (codes "INFO") c j) ∙ cond-true (is_padding c) [] _ j; pads = λ c. refl }

  pub new_nodes : nodes (new_children (wave_of o) e) ≡ placed e (nodes (wave_of o).children)
  new_nodes =
      seen o bytes sup e f small nodes_of ignores_nodes ∙ all_nodes e (old_live o bytes sup e f small) (ready o bytes sup e f small) ∙ ap (placed e) (old_seen o bytes sup e f small nodes_of ignores_nodes)

  pub same_formats : formats (new_children (wave_of o) e) ≡ formats (wave_of o).children
  same_formats = new_bodies (has_id (codes "fmt ")) (not_padding (codes "fmt ") refl) ∙ format_bodies e (old_live o bytes sup e f small) ∙ old_seen o bytes sup e f small (body_in (has_id (codes "fmt "))) (not_padding (codes "fmt ") refl)

  pub same_sounds : sounds (new_children (wave_of o) e) ≡ sounds (wave_of o).children
  same_sounds = new_bodies (has_id (codes "data")) (not_padding (codes "data") refl) ∙ sound_bodies e (old_live o bytes sup e f small) ∙ old_seen o bytes sup e f small (body_in (has_id (codes "data"))) (not_padding (codes "data") refl)

  pub new_pieces : pieces_in (new_children (wave_of o) e) ≡ pieces_in (wave_of o).children
  new_pieces = ap (λ (x : List (List ℕ)). blocks_by x (sounds (new_children w e))) same_formats ∙ ap (blocks_by (formats w.children)) same_sounds

  -- ---- support

  padding_fine : (c : Chunk) → is_padding c ≡ true → ChunkFine c
  padding_fine c j =
      let no_list : is_info c ≡ false = padding_no_list (codes "INFO") c j in
      let mark : is_marked c ≡ false = go (own_size c.form) (Rattle.wave_model.proofs.Acts.junk_id c j) in
      let none : is_carrier c ≡ false = rw (no_list, mark) refl in
      record { list_ends = λ x. absurd cc; carrier_small = λ x. absurd cc }
    where
      go : (t : Bool) → c.id ≡ codes "JUNK" → (t && one_of (codes "bext" ∷ Rattle.part_tree.specs.Names.whole_ids) c.id) ≡ false
      go true i = ap (one_of (codes "bext" ∷ Rattle.part_tree.specs.Names.whole_ids)) i
      go false i = refl

  live_fine : AllByRecursion ChunkFine (stepped (steps e) (old_live o bytes sup e f small))
  live_fine = both (stepped (steps e) (old_live o bytes sup e f small)) (new_ends o bytes sup e f small) (new_small o bytes sup e f small)
    where
      both : (cs : List Chunk) → AllByRecursion ListEnds cs → AllByRecursion CarrierSmall cs → AllByRecursion ChunkFine cs
      both [] h g = tt
      both (c ∷ cs) h g = (record { list_ends = h.0; carrier_small = g.0 }, both cs h.1 g.1)

  new_each : AllByRecursion ChunkFine (new_children (wave_of o) e)
  new_each =
      let xs = cells_of w in
      let ys = carried (steps e) xs in
      let now : AllByRecursion ChunkFine (flat_map live ys) = rw (live_carried (steps e) xs) live_fine in
      lay_all ChunkFine (fill_of w)
      (record { on_pads = λ c h. record { list_ends = h.list_ends; carrier_small = h.carrier_small }; on_fill = λ last slot k. fill_all ChunkFine (λ body. padding_fine (made_chunk (codes "JUNK") body) refl) (ends_file w) last slot k })
      Rattle.container_model.specs.Units.shut ys tt (cells_from ChunkFine ys (gaps_carried ChunkFine (steps e) xs (gaps_cells ChunkFine padding_fine w.ds64 w.children)) now)

  pub new_children_fine : ChildrenFine (new_children (wave_of o) e)
  new_children_fine =
      let bext = new_bodies is_bext ignores_bext in
      record {
        each = new_each;
        one_format = ap length same_formats ∙ sup.children.one_format;
        are_formats = subst (λ (x : List (List ℕ)). AllByRecursion IsFormat x) (sym same_formats) sup.children.are_formats;
        one_sound = ap length same_sounds ∙ sup.children.one_sound;
        one_bext = one;
        long_bext = subst (λ (x : List (List ℕ)). AllByRecursion (λ b. 602 ≤ length b) x) (sym bext) (longs (bodies is_bext (stepped (steps e) (old_live o bytes sup e f small))) (new_bexts o bytes sup e f small));
      }
    where
      longs : (bs : List (List ℕ)) → AllByRecursion IsBody bs → AllByRecursion (λ b. 602 ≤ length b) bs
      longs [] h = tt
      longs (b ∷ bs) h = (h.0.0, longs bs h.1)

      few : (t : Bool) (bs : List (List ℕ)) → length bs ≤ 1 → length (bext_after e t bs) ≤ 1
      few false bs l = l
      few true [] l = omega arith
      few true (b ∷ []) l = omega arith
      few true (b ∷ (c ∷ bs)) l = absurd (omega arith)

      one : length (bodies is_bext (new_children w e)) ≤ 1
      one =
          let same : bodies is_bext (new_children w e) ≡ bext_after e (edits_bext e) (bodies is_bext w.children)
          = new_bodies is_bext ignores_bext ∙ all_bext e (old_live o bytes sup e f small) ∙ ap (bext_after e (edits_bext e)) (old_seen o bytes sup e f small (body_in is_bext) ignores_bext) in
          omega (arith, ap length same, few (edits_bext e) (bodies is_bext w.children) sup.children.one_bext)

  pub new_supported : Fits (wave_of o) e → Supported (spell_wave (new_wave (wave_of o) e))
  new_supported fits = supported_again (new_wave (wave_of o) e) (new_readable fits) sup.form_id new_ds64 new_children_fine fits.few_parts
