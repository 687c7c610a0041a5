-- The chunks of the new file: how large they are, and that they are read again.
use Rattle.std.proofs.Common.{◌≡◌, ℕ, ◌+◌, ◌-◌, ◌%◌, ◌^◌, ◌<◌, ◌≤◌, Bool, true, false, cond, leb, ltb, eqb, List, [], ◌∷◌, ◌++◌, length, map, take, drop, Option, Some, None, refl, sym, ap, subst, ◌∙◌, arith, inl, inr}
use Rattle.std.specs.Prelude.{◌&&◌, ◌||◌, not, codes}
use Rattle.std.specs.Str.{bytes_eq}
use Rattle.std.specs.List.{flat_map, AllByRecursion}
use Rattle.std.proofs.lemmas.Bool.{and_parts, cond-false, ltb-true, ltb-false, eqb-true, eqb-false}
use Rattle.std.proofs.lemmas.List.{length-append, length-drop}
use Rattle.part_tree.specs.declared.field.FieldName.{FieldName}
use Rattle.part_tree.specs.declared.field.FieldName.TheVariants.{Bext, Info, Whole}
use Rattle.part_tree.specs.declared.field.Value.{Value}
use Rattle.part_tree.specs.Names.{whole_ids}
use Rattle.field_model.specs.Bext.{new_body}
use Rattle.field_model.specs.Body.{edited_bext}
use Rattle.field_model.specs.Update.{RawItem}
use Rattle.container_model.specs.Chunk.{Form, riff, wide, short, long, to_end, Chunk, spell, spell_all, header_bytes, Heads, Pads, PadStands}
use Rattle.container_model.specs.Sizes.{Sizes, plain, riff_front}
use Rattle.container_model.specs.Units.{live, shut}
use Rattle.container_model.proofs.Codec.{IsBytes}
use Rattle.container_model.proofs.Reread.{Neutral, Neutrals, IsPadded, lay_heads, lay_pads}
use Rattle.container_model.proofs.Items.{same_true}
use Rattle.carrier_model.specs.Info.{own_size, is_padding, made, one_of, room, fill_by, riff_fill, info, info_items, InfoReady, ItemsSmall}
use Rattle.carrier_model.specs.Lists.{ActReady}
use Rattle.part_tree.specs.Large.{Size, limited, first_above}
use Rattle.carrier_model.specs.Cells.{acted}
use Rattle.carrier_model.proofs.Cells.{Makes, all_acted}
use Rattle.carrier_model.proofs.Info.{made_padded, fill_all, padding_no_list}
use Rattle.container_model.specs.Ds64.{table_of}
use Rattle.wave_model.specs.Wave.{is_big, sizes_of, Wave, wave_of, inner, spell_wave, cells_of}
use Rattle.wave_model.specs.Fields.{has_id, is_bext, is_whole, is_info, is_marked, body_in, bodies}
use Rattle.wave_model.specs.Carry.{info_part, edits_bext, names_whole, or_last, whole_part, bext_act, steps}
use Rattle.carrier_model.specs.Steps.{carried, stepped}
use Rattle.wave_model.specs.New.{ends_file, fill_of, new_children, new_size, new_wave}
use Rattle.carrier_model.specs.RiffForm.{new_pad}
use Rattle.container_model.specs.Items.{is_nil}
use Rattle.wave_model.specs.Edited.{is_carrier, parts, Supported}
use Rattle.wave_model.specs.Large.{form_sizes, FormSmall, all_sizes}
use Rattle.wave_model.proofs.Read.{most, OfRiff, IsRead, neutral}
use Rattle.carrier_model.proofs.Steps.{AllMake, live_carried, gaps_carried, pads_carried, NowCells, now_carried, now_live, now_both, Own, heads_carried, cell_heads, same_state}
use Rattle.wave_model.proofs.Acts.{IsMade, all_made, all_own, bext_after, whole_after, junk_bext, junk_whole}
use Rattle.wave_model.proofs.Ready.{bodies_each, each_body, ListEnds, act_ready}
use Rattle.wave_model.proofs.Values.{ItemFine, ItemsFine, after_bext, after_info, all_bext, info_bodies, all_whole, eq_sym, all_ends}
use Rattle.wave_model.proofs.Bext.{IsBody, edited_body, new_is_body}
use Rattle.wave_model.proofs.Again.{FormFine}
use Rattle.wave_model.proofs.Ds64.{HasDs64}
use Rattle.wave_model.proofs.Form.{form_fine, old_heads, old_fine, old_pads, has_ds64}
use Rattle.wave_model.proofs.Cells.{gaps_cells, all_cells, pads_cells, now_cells, heads_cells, Ignores, view_cells, view_laid}

-- ---- what isn't too large

pub record Fits (w : Wave) (e : List RawItem) : Type 0 where
  pub lists : AllByRecursion (λ b. length b ≤ 2 ^ 24) (bodies is_info (new_children w e))
  pub few_parts : parts (new_wave w e) ≤ 65536
  pub form : FormSmall w.form w.id (new_size w e)
  pub file : length (spell_wave (new_wave w e)) ≤ 2 ^ 63 - 1

-- the lists of the new form have at most 16 MiB each
abbrev pub ListsSmall : Wave → List RawItem → Type 0
ListsSmall w e = AllByRecursion (λ b. length b ≤ 2 ^ 24) (bodies is_info (new_children w e))

pub none_above : (ss : List Size) → first_above ss ≡ None → AllByRecursion (λ s. s.size ≤ s.limit) ss
none_above [] e = tt
none_above (s ∷ ss) e = go (ltb s.limit s.size) refl e (none_above ss)
  where
    go : (t : Bool) → ltb s.limit s.size ≡ t → cond t (Some s) (first_above ss) ≡ None → (first_above ss ≡ None → AllByRecursion (λ s. s.size ≤ s.limit) ss) → AllByRecursion (λ s. s.size ≤ s.limit) (s ∷ ss)
    go true i e again = absurd cc
    go false i e again = (ltb-false s.limit s.size i, again e)

pub sizes_parts : (a b : List Size) → AllByRecursion (λ s. s.size ≤ s.limit) (a ++ b) → AllByRecursion (λ s. s.size ≤ s.limit) a × AllByRecursion (λ s. s.size ≤ s.limit) b
sizes_parts [] b h = (tt, h)
sizes_parts (s ∷ a) b h = let g = sizes_parts a b h.1 in ((h.0, g.0), g.1)

pub body_sizes : (bs : List (List ℕ)) → AllByRecursion (λ s. s.size ≤ s.limit) (map (λ b. limited (2 ^ 24) (length b)) bs) → AllByRecursion (λ b. length b ≤ 2 ^ 24) bs
body_sizes [] h = tt
body_sizes (b ∷ bs) h = (h.0, body_sizes bs h.1)

pub form_small : (form : Form) (id : List ℕ) (n : ℕ) → AllByRecursion (λ s. s.size ≤ s.limit) (form_sizes form id n) → FormSmall form id n
form_small wide id n h = tt
form_small riff id n h = h.0
form_small short id n h = h.0
form_small long id n h = h.0
form_small to_end id n h = h.0

-- What passes no limit fits.
pub fits_from : (w : Wave) (e : List RawItem) → first_above (all_sizes w e) ≡ None → Fits w e
fits_from w e h =
    let all = none_above (all_sizes w e) h in
    let lists = map (λ b. limited (2 ^ 24) (length b)) (bodies is_info (new_children w e)) in
    let sizes = form_sizes w.form w.id (new_size w e) in
    let a = sizes_parts lists (limited 65536 (parts (new_wave w e)) ∷ (sizes ++ limited (2 ^ 63 - 1) (length (spell_wave (new_wave w e))) ∷ [])) all in
    let b = sizes_parts sizes (limited (2 ^ 63 - 1) (length (spell_wave (new_wave w e))) ∷ []) a.1.1 in
    record { lists = body_sizes (bodies is_info (new_children w e)) a.0; few_parts = a.1.0; form = form_small w.form w.id (new_size w e) b.0; file = b.1.0 }

-- ---- the padding of units

pub room_small : (slot : List ℕ) (s : ℕ) → length (room (length slot - s) slot s) < 2 ^ 32 - 1
room_small slot s = go ((eqb ((length slot - s) % 2) 0) && (leb 8 (length slot - s) && ltb (length slot - s) (2 ^ 32))) ((eqb ((length slot - s) % 2) 1) && (leb 9 (length slot - s) && ltb (length slot - s) (2 ^ 32))) refl refl
  where
    low : (d : ℕ) → (leb d (length slot - s) && ltb (length slot - s) (2 ^ 32)) ≡ true → length slot - s < 2 ^ 32
    low d e = ltb-true (length slot - s) (2 ^ 32) (and_parts (leb d (length slot - s)) (ltb (length slot - s) (2 ^ 32)) e).1

    go : (t u : Bool) → ((eqb ((length slot - s) % 2) 0) && (leb 8 (length slot - s) && ltb (length slot - s) (2 ^ 32))) ≡ t → ((eqb ((length slot - s) % 2) 1) && (leb 9 (length slot - s) && ltb (length slot - s) (2 ^ 32))) ≡ u
        → length (cond t (drop (s + 8) slot) (cond u (drop (s + 7) slot) [])) < 2 ^ 32 - 1
    go true u e i =
        let lt : length slot - s < 2 ^ 32 = low 8 (and_parts (eqb ((length slot - s) % 2) 0) (leb 8 (length slot - s) && ltb (length slot - s) (2 ^ 32)) e).1 in
        omega (arith, lt, length-drop (s + 8) slot)
    go false true e i =
        let lt : length slot - s < 2 ^ 32 = low 9 (and_parts (eqb ((length slot - s) % 2) 1) (leb 9 (length slot - s) && ltb (length slot - s) (2 ^ 32)) i).1 in
        omega (arith, lt, length-drop (s + 7) slot)
    go false false e i = omega arith

fill_neutral : (end last : Bool) (slot : List ℕ) (n : ℕ) → Neutrals riff_front (riff_fill end last slot n)
fill_neutral end last slot n = go (leb (length slot) n || (end && last))
  where
    go : (t : Bool) → Neutrals riff_front (fill_by slot n t)
    go true = tt
    go false = (neutral (made (codes "JUNK") (room (length slot - n) slot n)) refl refl (room_small slot n), tt)

-- ---- sizes of carriers

abbrev pub CarrierSmall : Chunk → Type 0
CarrierSmall c = is_carrier c ≡ true → length c.body ≤ 2 ^ 24

abbrev pub Small : List ℕ → Type 0
Small b = length b ≤ 2 ^ 24

both_small : (c : Chunk) → (is_info c ≡ true → Small c.body) → (is_bext c ≡ true → Small c.body) → AllByRecursion (λ w. is_whole w c ≡ true → Small c.body) whole_ids → CarrierSmall c
both_small c i b ws e = go (is_info c) (own_size c.form) (one_of (codes "bext" ∷ whole_ids) c.id) refl refl refl e
  where
    whole_small : (xs : List (List ℕ)) → AllByRecursion (λ w. one_of whole_ids w ≡ true) xs → AllByRecursion (λ w. is_whole w c ≡ true → Small c.body) xs → own_size c.form ≡ true → one_of xs c.id ≡ true → Small c.body
    whole_small [] f h o x = absurd cc
    whole_small (w ∷ xs) f h o x = by (bytes_eq c.id w) refl x (whole_small xs f.1 h.1 o)
      where
        by : (t : Bool) → bytes_eq c.id w ≡ t → (t || one_of xs c.id) ≡ true → (one_of xs c.id ≡ true → Small c.body) → Small c.body
        by true y x again = h.0 (rw (o, f.0, eq_sym w c.id, y) refl)
        by false y x again = again x

    marked : (t : Bool) → bytes_eq c.id (codes "bext") ≡ t → own_size c.form ≡ true → (t || one_of whole_ids c.id) ≡ true → Small c.body
    marked true x o y = b (rw (o, eq_sym (codes "bext") c.id, x) refl)
    marked false x o y = whole_small whole_ids (refl, (refl, (refl, (refl, tt)))) ws o y

    go : (t u v : Bool) → is_info c ≡ t → own_size c.form ≡ u → one_of (codes "bext" ∷ whole_ids) c.id ≡ v → (t || (u && v)) ≡ true → Small c.body
    go true u v x y z e = i x
    go false true true x y z e = marked (bytes_eq c.id (codes "bext")) refl y z
    go false true false x y z e = absurd cc
    go false false v x y z e = absurd cc

all_small : (cs : List Chunk) → AllByRecursion (λ c. is_info c ≡ true → Small c.body) cs → AllByRecursion (λ c. is_bext c ≡ true → Small c.body) cs
    → AllByRecursion (λ w. AllByRecursion (λ c. is_whole w c ≡ true → Small c.body) cs) whole_ids → AllByRecursion CarrierSmall cs
all_small [] i b ws = tt
all_small (c ∷ cs) i b ws =
    (both_small c i.0 b.0 (ws.0.0, (ws.1.0.0, (ws.1.1.0.0, (ws.1.1.1.0.0, tt)))), all_small cs i.1 b.1 (ws.0.1, (ws.1.0.1, (ws.1.1.0.1, (ws.1.1.1.0.1, tt)))))

-- what an item sets of a whole chunk is small
abbrev WholeSmall : Option (Option Value) → Type 0
WholeSmall None = Unit {0}
WholeSmall (Some None) = Unit {0}
WholeSmall (Some (Some v)) = Small v.raw

or_small : (a b : Option (Option Value)) → WholeSmall a → WholeSmall b → WholeSmall (or_last a b)
or_small a None h g = h
or_small a (Some b) h g = g

part_small : (w : List ℕ) (e : List RawItem) → ItemsFine e → WholeSmall (whole_part w e)
part_small w [] f = tt
part_small w (i ∷ e) f = or_small (cond (names_whole w i.name) (Some i.value) None) (whole_part w e) (one i.name i.value f.0) (part_small w e f.1)
  where
    set : (v : Option Value) (name : List ℕ) → ItemFine (Whole (record { 0 = name })) v → WholeSmall (Some v)
    set None name h = tt
    set (Some v) name h = h.1

    by : (t : Bool) (v : Option Value) → WholeSmall (Some v) → WholeSmall (cond t (Some v) None)
    by true v h = h
    by false v h = tt

    one : (name : FieldName) (v : Option Value) → ItemFine name v → WholeSmall (cond (names_whole w name) (Some v) None)
    one (Bext field) v h = tt
    one (Info id) v h = tt
    one (Whole id) v h = by (bytes_eq id.0 w) v (set v id.0 h)
    one name v h = tt

after_small : (a : Option (Option Value)) (bs : List (List ℕ)) → WholeSmall a → AllByRecursion Small bs → AllByRecursion Small (whole_after a bs)
after_small None bs h g = g
after_small (Some None) bs h g = tt
after_small (Some (Some v)) bs h g = (h, tt)

after_bodies : (e : List RawItem) (t : Bool) (bs : List (List ℕ)) → ItemsFine e → AllByRecursion IsBody bs → AllByRecursion IsBody (bext_after e t bs)
after_bodies e false bs f h = h
after_bodies e true [] f h = (edited_body e new_body f new_is_body, tt)
after_bodies e true (b ∷ bs) f h = (edited_body e b f h.0, each bs h.1)
  where
    each : (bs : List (List ℕ)) → AllByRecursion IsBody bs → AllByRecursion IsBody (map (edited_bext e) bs)
    each [] h = tt
    each (b ∷ bs) h = (edited_body e b f h.0, each bs h.1)

body_small : (bs : List (List ℕ)) → AllByRecursion IsBody bs → AllByRecursion Small bs
body_small [] h = tt
body_small (b ∷ bs) h = (h.0.1, body_small bs h.1)

pub All-map : {P Q : Chunk → Type 0} → ((c : Chunk) → P c → Q c) → (cs : List Chunk) → AllByRecursion P cs → AllByRecursion Q cs
All-map f [] h = tt
All-map f (c ∷ cs) h = (f c h.0, All-map f cs h.1)

bodies_both : (a b : List (List ℕ)) → AllByRecursion (λ x. 602 ≤ length x) a → AllByRecursion Small a → AllByRecursion IsBody a
bodies_both [] b h g = tt
bodies_both (x ∷ a) b h g = ((h.0, g.0), bodies_both a b h.1 g.1)

-- ---- bodies of chunks that are no padding

pub ignores_body : (p : Chunk → Bool) → ((c : Chunk) → is_padding c ≡ true → p c ≡ false) → ((c : Chunk) → p (record c { pad = [] }) ≡ p c) → Ignores (body_in p)
ignores_body p h g = record { padding = λ c e. cond-false (p c) (c.body ∷ []) [] (h c e); pads = λ c. ap (λ (t : Bool). cond t (c.body ∷ []) []) (g c) }

pub ignores_info : Ignores (body_in is_info)
ignores_info = ignores_body is_info (λ c e. padding_no_list (codes "INFO") c e) (λ c. refl)

pub ignores_bext : Ignores (body_in is_bext)
ignores_bext = ignores_body is_bext (λ c e. junk_bext c e) (λ c. refl)

pub ignores_whole : (w : List ℕ) → one_of whole_ids w ≡ true → Ignores (body_in (is_whole w))
ignores_whole w f = ignores_body (is_whole w) (λ c e. junk_whole w c f e) (λ c. refl)

-- ---- the form's pad

pub pad_stands : (old n : ℕ) (pad tail : List ℕ) → PadStands riff old pad tail → PadStands riff n (new_pad old n pad tail) tail
pad_stands old n pad tail h = go (eqb old n) refl
  where
    none : (x : List ℕ) → is_nil x ≡ true → x ≡ []
    none [] i = refl
    none (y ∷ x) i = absurd cc

    odd : (t u : Bool) → eqb (n % 2) 1 ≡ t → is_nil tail ≡ u → PadStands riff n (cond (t && not u) (0 ∷ []) []) tail
    odd true false e i = inl (sym (eqb-true (n % 2) 1 e))
    odd true true e i = inr (omega arith, none tail i)
    odd false u e i = inl (even e)
      where
        even : eqb (n % 2) 1 ≡ false → 0 ≡ n % 2
        even e = omega (arith, eqb-false (n % 2) 1 e)

    go : (t : Bool) → eqb old n ≡ t → PadStands riff n (cond t pad (cond (eqb (n % 2) 1 && not (is_nil tail)) (0 ∷ []) [])) tail
    go true e = rw (← eqb-true old n e) h
    go false e = odd (eqb (n % 2) 1) (is_nil tail) refl refl

-- ---- no chunk is longer than what is spelled of all

pub low_bodies : (n : ℕ) (cs : List Chunk) → length (spell_all cs) ≤ n → AllByRecursion (λ c. length c.body ≤ n) cs
low_bodies n [] h = tt
low_bodies n (c ∷ cs) h =
    let a = length-append (spell c) (spell_all cs) in
    (omega (arith, a, h, length-append (header_bytes c.form c.id (length c.body)) (c.body ++ c.pad), length-append c.body c.pad), low_bodies n cs (omega (arith, a, h)))

-- ---- the new file of a supported one

pub made_padded_all : (ss : List (List Chunk → Rattle.carrier_model.specs.Cells.Act)) → AllMake IsMade ss → AllMake IsPadded ss
made_padded_all [] h = tt
made_padded_all (s ∷ ss) h = ((λ cs. one (s cs) (h.0 cs)), made_padded_all ss h.1)
  where
    one : (a : Rattle.carrier_model.specs.Cells.Act) → Makes IsMade a → Makes IsPadded a
    one Rattle.carrier_model.specs.Cells.nothing m = tt
    one (Rattle.carrier_model.specs.Cells.change p g) m = λ n c. All-map (λ d h. h.padded) _ (m n c)
    one (Rattle.carrier_model.specs.Cells.add s t c) m = m.padded

pub pads_behind : (o : List ℕ) → IsBytes o → Supported o → Pads (wave_of o).children (wave_of o).left
pads_behind o bytes sup = behind (wave_of o).ds64 (old_pads o bytes sup)
  where
    behind : (a : List Chunk) → Pads (a ++ (wave_of o).children) (wave_of o).left → Pads (wave_of o).children (wave_of o).left
    behind [] h = h
    behind (c ∷ a) h = behind a h.1

module _ (o : List ℕ) (bytes : IsBytes o) (sup : Supported o) (e : List RawItem) (f : ItemsFine e) (small : ListsSmall (wave_of o) e) where
  old_own : AllByRecursion Own (wave_of o).children
  old_own = go (is_big (take 4 o)) refl
    where
      fine : AllByRecursion (IsRead (most (sizes_of o))) (wave_of o).children
      fine = behind (wave_of o).ds64 (old_fine o bytes sup)
        where
          behind : (a : List Chunk) → AllByRecursion (IsRead (most (sizes_of o))) (a ++ (wave_of o).children) → AllByRecursion (IsRead (most (sizes_of o))) (wave_of o).children
          behind [] h = h
          behind (c ∷ a) h = behind a h.1

      one : (c : Chunk) (n : ℕ) → IsRead n c → length c.body < 2 ^ 32 - 1 → Own c
      one c n r lt own = by r.form_is
        where
          by : OfRiff c.form → Neutral riff_front c
          by (inl i) = neutral c r.id_len i lt
          by (inr i) = let no : own_size c.form ≡ false = ap own_size i in absurd cc

      each : (n : ℕ) (cs : List Chunk) → n ≤ 2 ^ 32 - 1 → AllByRecursion (IsRead n) cs → AllByRecursion Own cs
      each n [] l h = tt
      each n (c ∷ cs) l h = ((λ own. one c n h.0 (omega (arith, l, h.0.small own)) own), each n cs l h.1)

      short_each : (n : ℕ) (cs : List Chunk) → AllByRecursion (IsRead n) cs → AllByRecursion (λ c. length c.body ≤ 2 ^ 32 - 5) cs → AllByRecursion Own cs
      short_each n [] h g = tt
      short_each n (c ∷ cs) h g = (one c n h.0 (omega (arith, g.0)), short_each n cs h.1 g.1)

      riff_small : (form : Form) → FormFine form (wave_of o).id (length (inner (wave_of o))) → is_big (take 4 o) ≡ false → length (inner (wave_of o)) < 2 ^ 32
      riff_small riff g b = g.0
      riff_small wide g b = absurd cc
      riff_small short g b = absurd g
      riff_small long g b = absurd g
      riff_small to_end g b = absurd g

      go : (t : Bool) → is_big (take 4 o) ≡ t → AllByRecursion Own (wave_of o).children
      go true b =
          let limit : most (sizes_of o) ≡ 2 ^ 32 - 1 = ap (λ (x : Bool). most (cond x (table_of (drop 20 o)) plain)) b in
          each (most (sizes_of o)) (wave_of o).children (omega (arith, limit)) fine
      go false b =
          let low = riff_small (wave_of o).form (form_fine o bytes sup) b in
          let w = wave_of o in
          let total : length (spell_all w.children) ≤ 2 ^ 32 - 5 = omega (arith, low, length-append (spell_all w.ds64) (spell_all w.children ++ w.left), length-append (spell_all w.children) w.left) in
          short_each (most (sizes_of o)) w.children fine (low_bodies (2 ^ 32 - 5) w.children total)

  -- ---- views

  gaps : Rattle.carrier_model.proofs.Cells.Gaps (λ c. is_padding c ≡ true) (carried (steps e) (cells_of (wave_of o)))
  gaps = gaps_carried (λ c. is_padding c ≡ true) (steps e) (cells_of (wave_of o)) (gaps_cells (λ c. is_padding c ≡ true) (λ c i. i) (wave_of o).ds64 (wave_of o).children)

  abbrev pub old_live : List Chunk
  old_live = flat_map live (cells_of (wave_of o))

  -- what a view sees of the new chunks is what it sees of the old ones after all steps
  pub seen : {X : Type 0} (v : Chunk → List X) → Ignores v → flat_map v (new_children (wave_of o) e) ≡ flat_map v (stepped (steps e) old_live)
  seen v h = view_laid v h (ends_file (wave_of o)) (carried (steps e) (cells_of (wave_of o))) gaps ∙ ap (flat_map v) (live_carried (steps e) (cells_of (wave_of o)))

  pub old_seen : {X : Type 0} (v : Chunk → List X) → Ignores v → flat_map v old_live ≡ flat_map v (wave_of o).children
  old_seen v h = view_cells v h (wave_of o).ds64 (wave_of o).children

  -- ---- carriers are small

  old_carriers : AllByRecursion CarrierSmall (wave_of o).children
  old_carriers = All-map (λ c h. h.carrier_small) (wave_of o).children sup.children.each

  or_true : (a : Bool) → (a || true) ≡ true
  or_true true = refl
  or_true false = refl

  bext_carrier : (c : Chunk) → is_bext c ≡ true → is_carrier c ≡ true
  bext_carrier c b =
      let p = and_parts (own_size c.form) (has_id (codes "bext") c) b in
      let m : is_marked c ≡ true = rw (p.0, eq_sym c.id (codes "bext"), p.1) refl in
      rw m (or_true (is_info c))

  whole_carrier : (w : List ℕ) (c : Chunk) → one_of whole_ids w ≡ true → is_whole w c ≡ true → is_carrier c ≡ true
  whole_carrier w c g b =
      let p = and_parts (own_size c.form) _ b in
      let id : w ≡ c.id = same_true w c.id (and_parts _ _ p.1).1 in
      let here : one_of whole_ids c.id ≡ true = sym (ap (one_of whole_ids) id) ∙ g in
      let m : is_marked c ≡ true = rw (p.0, here) (or_true (bytes_eq c.id (codes "bext"))) in
      rw m (or_true (is_info c))

  pub old_bexts : AllByRecursion IsBody (bodies is_bext (wave_of o).children)
  old_bexts =
      bodies_both (bodies is_bext (wave_of o).children) [] sup.children.long_bext
      (each_body is_bext Small (wave_of o).children (All-map (λ c h. λ b. h (bext_carrier c b)) (wave_of o).children old_carriers))

  pub new_bexts : AllByRecursion IsBody (bodies is_bext (stepped (steps e) old_live))
  new_bexts = rw (all_bext e old_live, old_seen (body_in is_bext) ignores_bext) (after_bodies e (edits_bext e) (bodies is_bext (wave_of o).children) f old_bexts)

  new_wholes : (w : List ℕ) → one_of whole_ids w ≡ true → AllByRecursion (λ c. is_whole w c ≡ true → Small c.body) (stepped (steps e) old_live)
  new_wholes w g =
      let old : AllByRecursion Small (bodies (is_whole w) (wave_of o).children)
      = each_body (is_whole w) Small (wave_of o).children (All-map (λ c h. λ b. h (whole_carrier w c g b)) (wave_of o).children old_carriers) in
      bodies_each (is_whole w) Small (stepped (steps e) old_live)
      (rw (all_whole w g e old_live, old_seen (body_in (is_whole w)) (ignores_whole w g)) (after_small (whole_part w e) (bodies (is_whole w) (wave_of o).children) (part_small w e f) old))

  new_lists : AllByRecursion Small (bodies is_info (stepped (steps e) old_live))
  new_lists = rw (← seen (body_in is_info) ignores_info) small

  pub new_small : AllByRecursion CarrierSmall (stepped (steps e) old_live)
  new_small =
      all_small (stepped (steps e) old_live) (bodies_each is_info Small (stepped (steps e) old_live) new_lists)
      (bodies_each is_bext Small (stepped (steps e) old_live) (body_small (bodies is_bext (stepped (steps e) old_live)) new_bexts))
      (new_wholes (codes "axml") refl, (new_wholes (codes "iXML") refl, (new_wholes (codes "_PMX") refl, (new_wholes (codes "MD5 ") refl, tt))))

  -- ---- lists are ready

  old_ends : AllByRecursion ListEnds old_live
  old_ends =
      Rattle.carrier_model.proofs.Cells.live_from ListEnds (cells_of (wave_of o)) (all_cells ListEnds (wave_of o).ds64 (wave_of o).children (All-map (λ c h. h.list_ends) (wave_of o).children sup.children.each))

  bext_ends : AllByRecursion ListEnds (after_bext e old_live)
  bext_ends = all_acted ListEnds (bext_act e old_live) (makes (edits_bext e) (Rattle.wave_model.specs.Carry.some_chunk is_bext old_live)) old_live old_ends
    where
      not_list : (body : List ℕ) → ListEnds (made (codes "bext") body)
      not_list body i = absurd cc

      makes : (t u : Bool) → Makes ListEnds (Rattle.wave_model.specs.Carry.bext_by e t u)
      makes false u = tt
      makes true true = λ n c. (not_list (edited_bext e c.body), tt)
      makes true false = not_list (edited_bext e new_body)

  pub ready : ActReady info info_items InfoReady ItemsSmall (info_part e) (after_bext e old_live)
  ready =
      act_ready (info_part e) (after_bext e old_live) bext_ends (bodies_each is_info Small (after_info e old_live) (rw (← info_bodies e old_live) new_lists))

  -- ---- the new chunks are read again

  new_neutral : NowCells (Neutral riff_front) (carried (steps e) (cells_of (wave_of o)))
  new_neutral =
      let xs = cells_of (wave_of o) in
      let ys = carried (steps e) xs in
      let made_ones : NowCells IsMade ys = now_carried IsMade (steps e) (all_made e) xs (now_cells IsMade (wave_of o).ds64 (wave_of o).children) in
      let small_ones : NowCells CarrierSmall ys = now_live CarrierSmall ys (rw (live_carried (steps e) xs) new_small) in
      now_both IsMade CarrierSmall (Neutral riff_front) (λ c m s. neutral c m.plain.id_len m.plain.form_is (omega (arith, s m.carrier))) ys made_ones small_ones

  pub old_state : Heads riff_front (sizes_of o) (wave_of o).children
  old_state = go (is_big (take 4 o)) (has_ds64 o bytes sup) (old_heads o bytes sup)
    where
      go : (t : Bool) → HasDs64 t (wave_of o).ds64 → Heads riff_front (sizes_of o) ((wave_of o).ds64 ++ (wave_of o).children) → Heads riff_front (sizes_of o) (wave_of o).children
      go false n h = subst (λ (ds : List Chunk). Heads riff_front (sizes_of o) (ds ++ (wave_of o).children)) n h
      go true d h =
          let g : Heads riff_front (sizes_of o) ((d.0 ∷ []) ++ (wave_of o).children) = subst (λ (ds : List Chunk). Heads riff_front (sizes_of o) (ds ++ (wave_of o).children)) d.1 h in
          let n : Neutral riff_front d.0 = neutral d.0 (ap length d.2.id_is) d.2.form_is (omega (arith, d.2.small)) in
          subst (λ (s : Sizes). Heads riff_front s (wave_of o).children) (same_state (sizes_of o) g.0 d.0 g.1 n) g.2

  pub new_heads : Heads riff_front (sizes_of o) (new_children (wave_of o) e)
  new_heads =
      let xs = cells_of (wave_of o) in
      lay_heads riff_front (fill_of (wave_of o)) (λ last slot k. fill_neutral (ends_file (wave_of o)) last slot k) (sizes_of o) (sizes_of o) shut (carried (steps e) xs) refl
      (cell_heads (sizes_of o) (carried (steps e) xs) (heads_carried (steps e) (all_own e) (sizes_of o) xs (heads_cells (sizes_of o) (wave_of o).ds64 (wave_of o).children old_own old_state)) new_neutral)

  pub old_cell_pads : Rattle.container_model.proofs.Reread.CellPads (cells_of (wave_of o)) (wave_of o).left
  old_cell_pads = pads_cells (wave_of o).ds64 (wave_of o).children (wave_of o).left (pads_behind o bytes sup)

  pub new_pads : Pads (new_children (wave_of o) e) (wave_of o).left
  new_pads =
      lay_pads (fill_of (wave_of o)) (λ last slot k. fill_all IsPadded (λ body. made_padded (codes "JUNK") body) (ends_file (wave_of o)) last slot k) (wave_of o).left shut
      (carried (steps e) (cells_of (wave_of o))) tt (pads_carried (steps e) (made_padded_all (steps e) (all_made e)) (cells_of (wave_of o)) (wave_of o).left old_cell_pads)

  -- ---- lists are read to their end

  pub new_ends : AllByRecursion ListEnds (stepped (steps e) old_live)
  new_ends = all_ends e old_live ready bext_ends
