-- The law of an edit that makes a RIFF form RF64.
use Rattle.std.proofs.Common.{◌≡◌, ℕ, ◌-◌, ◌/◌, ◌^◌, ◌≤◌, Bool, true, false, cond, List, [], ◌∷◌, ◌++◌, length, map, take, drop, replicate, None, refl, sym, ap, subst, ◌∙◌}
use Rattle.std.specs.Prelude.{codes, nat_le}
use Rattle.std.specs.Int.{w32, w64, to_le_bytes}
use Rattle.std.specs.Str.{bytes_eq}
use Rattle.std.specs.List.{AllByRecursion}
use Rattle.std.proofs.lemmas.Bool.{cond-true, cond-false, and_parts, leb-true}
use Rattle.part_tree.specs.Large.{limited, first_above}
use Rattle.part_tree.specs.Names.{bext_row, IsFieldName}
use Rattle.part_tree.specs.declared.field.FieldName.{FieldName}
use Rattle.part_tree.specs.declared.field.FieldName.TheVariants.{Bext, Info, Whole, User, Key, Stream}
use Rattle.field_model.specs.Bext.{range_of}
use Rattle.field_model.specs.Fields.{plain}
use Rattle.field_model.specs.Update.{RawItem, updated}
use Rattle.container_model.specs.Chunk.{Form, riff, wide, Chunk, spell_all}
use Rattle.container_model.proofs.Codec.{IsBytes}
use Rattle.carrier_model.specs.Info.{is_padding, info, info_items}
use Rattle.carrier_model.specs.Lists.{values_held, Node}
use Rattle.carrier_model.proofs.Info.{padding_no_list}
use Rattle.wave_model.specs.Wave.{is_big, Wave, wave_of, inner, spell_wave}
use Rattle.wave_model.specs.Fields.{has_id, is_bext, is_whole, is_info, body_in, bodies, fields_of, fields, plain_nodes, nodes_of, nodes}
use Rattle.wave_model.specs.Carry.{placed}
use Rattle.wave_model.specs.New.{new_children, new_size, sized_ds64, new_wave}
use Rattle.wave_model.specs.Edited.{blocks_by, formats, sounds, first_size, pieces_in, ds64_node, kept_in, kept_of, placed_in, parts, ChunkFine, IsFormat, ChildrenFine, Supported, junk_first, first_junk}
use Rattle.wave_model.specs.Large.{form_sizes}
use Rattle.wave_model.specs.Widen.{is_reserved, reserved, first_len, new_ds64, widened_data, widened_to, widened_wave, sizes_in, widened, WidenedJunk}
use Rattle.wave_model.proofs.Acts.{other_id}
use Rattle.wave_model.proofs.Values.{ItemsFine}
use Rattle.wave_model.proofs.New.{ListsSmall, none_above, sizes_parts, body_sizes, ignores_info, ignores_bext, ignores_whole}
use Rattle.wave_model.proofs.Edited.{supported_again, new_junk, new_children_fine, same_formats, same_sounds, new_fields, new_nodes}
use Rattle.wave_model.proofs.Seen.{see_id, see_info, see_bext, see_whole, see_held, see_nodes}
use Rattle.wave_model.proofs.Widened.{ds64_len, all_drop, no_ds64, junk_then, view_kids, ds64_is, readable, wide_again}

-- ---- what passes no limit

pub record FitsWide (v : Wave) : Type 0 where
  pub lists : AllByRecursion (λ b. length b ≤ 2 ^ 24) (bodies is_info v.children)
  pub few_parts : parts v ≤ 65536
  pub file : length (spell_wave v) ≤ 2 ^ 63 - 1

pub fits_wide : (v : Wave) → first_above (sizes_in v) ≡ None → FitsWide v
fits_wide v h =
    let all = none_above (sizes_in v) h in
    let lists = map (λ b. limited (2 ^ 24) (length b)) (bodies is_info v.children) in
    let sizes = form_sizes v.form v.id (length (inner v)) in
    let a = sizes_parts lists (limited 65536 (parts v) ∷ (sizes ++ limited (2 ^ 63 - 1) (length (spell_wave v)) ∷ [])) all in
    let b = sizes_parts sizes (limited (2 ^ 63 - 1) (length (spell_wave v)) ∷ []) a.1.1 in
    record { lists = body_sizes (bodies is_info v.children) a.0; few_parts = a.1.0; file = b.1.0 }

-- ---- what padding is to a view

pub no_id : (id : List ℕ) → bytes_eq id (codes "JUNK") ≡ false → (c : Chunk) → is_padding c ≡ true → body_in (has_id id) c ≡ []
no_id id x c j = cond-false (has_id id c) _ [] (other_id id c x j)

no_held : (name : List ℕ) (c : Chunk) → is_padding c ≡ true → values_held info info_items name c ≡ []
no_held name c j = cond-false (is_info c) _ [] (padding_no_list (codes "INFO") c j)

no_nodes : (c : Chunk) → is_padding c ≡ true → nodes_of c ≡ []
no_nodes c j = cond-false (is_info c) _ (plain_nodes c) (padding_no_list (codes "INFO") c j) ∙ cond-true (is_padding c) [] _ j

fine_widened : (c : Chunk) → ChunkFine c → ChunkFine (widened_data c)
fine_widened c h = go (has_id (codes "data") c)
  where
    go : (t : Bool) → ChunkFine (cond t (record c { form = wide }) c)
    go true = record { list_ends = λ x. absurd cc; carrier_small = λ x. absurd cc }
    go false = h

all_widened : (cs : List Chunk) → AllByRecursion ChunkFine cs → AllByRecursion ChunkFine (map widened_data cs)
all_widened [] h = tt
all_widened (c ∷ cs) h = (fine_widened c h.0, all_widened cs h.1)

module _ (o : List ℕ) (bytes : IsBytes o) (sup : Supported o) (narrow : is_big (take 4 o) ≡ false) (e : List RawItem) where
  abbrev w : Wave
  w = wave_of o

  abbrev js : List Chunk
  js = reserved (wave_of o).children

  abbrev cs : List Chunk
  cs = new_children (wave_of o) e

  abbrev v : Wave
  v = widened_wave (reserved (wave_of o).children) (new_wave (wave_of o) e)

  -- the lists of the widened form are those of the plain one
  pub lists_from : FitsWide v → ListsSmall w e
  lists_from h = subst (λ (x : List (List ℕ)). AllByRecursion (λ b. length b ≤ 2 ^ 24) x) (view_kids o bytes sup narrow e (body_in is_info) see_info ignores_info.padding) h.lists

  module _ (f : ItemsFine e) (fits : FitsWide v) where
    abbrev small : ListsSmall w e
    small = lists_from fits

    wide_formats : formats v.children ≡ formats w.children
    wide_formats = view_kids o bytes sup narrow e (body_in (has_id (codes "fmt "))) (see_id (codes "fmt ")) (no_id (codes "fmt ") refl) ∙ same_formats o bytes sup e f small

    wide_sounds : sounds v.children ≡ sounds w.children
    wide_sounds = view_kids o bytes sup narrow e (body_in (has_id (codes "data"))) (see_id (codes "data")) (no_id (codes "data") refl) ∙ same_sounds o bytes sup e f small

    pub wide_pieces : pieces_in v.children ≡ pieces_in w.children
    wide_pieces = ap (λ (x : List (List ℕ)). blocks_by x (sounds v.children)) wide_formats ∙ ap (blocks_by (formats w.children)) wide_sounds

    wide_fine : ChildrenFine v.children
    wide_fine =
        let h = new_children_fine o bytes sup e f small in
        let bext : bodies is_bext v.children ≡ bodies is_bext cs = view_kids o bytes sup narrow e (body_in is_bext) see_bext ignores_bext.padding in
        record {
          each = all_widened (drop (length js) cs) (all_drop ChunkFine (length js) cs h.each);
          one_format = ap length wide_formats ∙ sup.children.one_format;
          are_formats = subst (λ (x : List (List ℕ)). AllByRecursion IsFormat x) (sym wide_formats) sup.children.are_formats;
          one_sound = ap length wide_sounds ∙ sup.children.one_sound;
          one_bext = subst (λ (x : List (List ℕ)). length x ≤ 1) (sym bext) h.one_bext;
          long_bext = subst (λ (x : List (List ℕ)). AllByRecursion (λ b. 602 ≤ length b) x) (sym bext) h.long_bext;
        }

    pub wide_reads : wave_of (spell_wave v) ≡ v
    wide_reads = wide_again o bytes sup narrow e f small fits.file

    pub wide_supported : Supported (spell_wave v)
    wide_supported =
        supported_again v (readable o bytes sup narrow e f small fits.file) refl (new_ds64 js (length (inner (widened_to js 0 (new_wave w e)))) cs, refl, ds64_is o bytes sup narrow e f small) wide_fine fits.few_parts

    -- ---- fields

    same_fields : (name : FieldName) → IsFieldName name → fields_of v.children name ≡ fields_of cs name
    same_fields (Bext field) k = ap (λ (x : List (List ℕ)). map plain (map (range_of (bext_row field)) x)) (view_kids o bytes sup narrow e (body_in is_bext) see_bext ignores_bext.padding)
    same_fields (Info id) k = ap (map plain) (view_kids o bytes sup narrow e (values_held info info_items id.0) (see_held id.0) (no_held id.0))
    same_fields (Whole id) k = ap (map plain) (view_kids o bytes sup narrow e (body_in (is_whole id.0)) (see_whole id.0) (ignores_whole id.0 k).padding)
    same_fields (User id) k = refl
    same_fields (Key name) k = refl
    same_fields (Stream number) k = refl

    pub wide_fields : (name : FieldName) → IsFieldName name → fields_of v.children name ≡ updated e (fields o) name
    wide_fields name k = same_fields name k ∙ new_fields o bytes sup e f small name k

    -- ---- what is kept

    wide_nodes : nodes v.children ≡ placed e (nodes w.children)
    wide_nodes = view_kids o bytes sup narrow e nodes_of see_nodes no_nodes ∙ new_nodes o bytes sup e f small

    abbrev node_of : ℕ → List (List ℕ) → List (List ℕ) → Node
    node_of len ss fs = Node.other riff (codes "ds64") (replicate 8 0 ++ (to_le_bytes w64 (first_len ss) ++ (to_le_bytes w64 (first_len ss / first_size fs) ++ (to_le_bytes w32 0 ++ replicate (len - 28) 0))))

    same_node : (ys : List Chunk) (k : ℕ) → ds64_node wide (new_ds64 ys k cs) ≡ ds64_node wide (new_ds64 ys 0 w.children)
    same_node [] k = ap (λ (ss : List (List ℕ)). node_of 28 ss (formats cs)) (same_sounds o bytes sup e f small) ∙ ap (node_of 28 (sounds w.children)) (same_formats o bytes sup e f small)
    same_node (j ∷ ys) k = ap (λ (ss : List (List ℕ)). node_of (length j.body) ss (formats cs)) (same_sounds o bytes sup e f small) ∙ ap (node_of (length j.body) (sounds w.children)) (same_formats o bytes sup e f small)

    pub wide_kept : kept_in v ≡ widened w.children (placed_in e (kept_of o))
    wide_kept =
        ap (λ (x : Node). record { kind = codes "RF64"; form = wide; ds64 = x ∷ []; nodes = nodes v.children; left = w.left; tail = w.tail }) (same_node js (length (inner (widened_to js 0 (new_wave w e)))))
        ∙ ap (λ (x : List Node). record { kind = codes "RF64"; form = wide; ds64 = ds64_node wide (new_ds64 js 0 w.children) ∷ []; nodes = x; left = w.left; tail = w.tail }) wide_nodes

  -- ---- the first JUNK

  pub wide_junk : (c : Chunk) → first_junk w ≡ c ∷ [] → WidenedJunk (is_reserved c) c v
  wide_junk c h = go (is_reserved c) refl
    where
      first : (rest : List Chunk) × (w.children ≡ c ∷ rest)
      first = junk_then o bytes sup narrow c w.children (sym (ap (λ (ds : List Chunk). junk_first (ds ++ w.children)) (no_ds64 o bytes sup narrow)) ∙ h)

      sized_none : (form : Form) (k : ℕ) → sized_ds64 form k [] ≡ []
      sized_none wide k = refl
      sized_none riff k = refl
      sized_none Rattle.container_model.specs.Chunk.short k = refl
      sized_none Rattle.container_model.specs.Chunk.long k = refl
      sized_none Rattle.container_model.specs.Chunk.to_end k = refl

      gone : sized_ds64 w.form (new_size w e) w.ds64 ≡ []
      gone = ap (sized_ds64 w.form (new_size w e)) (no_ds64 o bytes sup narrow) ∙ sized_none w.form (new_size w e)

      is_junk : is_padding c ≡ true
      is_junk = by (is_padding c) refl
        where
          by : (t : Bool) → is_padding c ≡ t → is_padding c ≡ true
          by true x = x
          by false x = let none : first_junk w ≡ [] = ap (λ (ds : List Chunk). junk_first (ds ++ w.children)) (no_ds64 o bytes sup narrow) ∙ ap junk_first first.1 ∙ cond-false (is_padding c) (c ∷ []) [] x in absurd cc

      size_of : (ys : List Chunk) (k : ℕ) → ys ≡ c ∷ [] → is_reserved c ≡ true → length (new_ds64 ys k cs).body ≡ length c.body
      size_of ys k i x =
          let p = and_parts (is_padding c) _ x in
          let q = and_parts (nat_le 28 (length c.body)) (nat_le (length c.body) (2 ^ 24)) p.1 in
          ap (λ (zs : List Chunk). length (new_ds64 zs k cs).body) i ∙ ds64_len (length c.body) k (first_len (sounds cs)) (first_len (sounds cs) / first_size (formats cs)) (leb-true 28 (length c.body) q.0)

      go : (t : Bool) → is_reserved c ≡ t → WidenedJunk t c v
      go true x =
          let one : js ≡ c ∷ [] = ap reserved first.1 ∙ cond-true (is_reserved c) (c ∷ []) [] x in
          let k = length (inner (widened_to js 0 (new_wave w e))) in
          (new_ds64 js k cs, refl, size_of js k one x)
      go false x =
          let none : js ≡ [] = ap reserved first.1 ∙ cond-false (is_reserved c) (c ∷ []) [] x in
          let new : junk_first cs ≡ c ∷ [] = sym (ap (λ (ds : List Chunk). junk_first (ds ++ cs)) gone) ∙ new_junk o bytes sup e c h in
          let r = junk_then o bytes sup narrow c cs new in
          let same : widened_data c ≡ c = cond-false (has_id (codes "data") c) (record c { form = wide }) c (other_id (codes "data") c refl is_junk) in
          ap (λ (ys : List Chunk). junk_first (map widened_data (drop (length ys) cs))) none ∙ ap (λ (xs : List Chunk). junk_first (map widened_data xs)) r.1
          ∙ ap (λ (x : Chunk). junk_first (x ∷ map widened_data r.0)) same ∙ cond-true (is_padding c) (c ∷ []) [] is_junk
