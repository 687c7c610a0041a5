-- The title of a WAVE file that is made can be set: the edit breaks no basic rule, and nothing of the new file is too large.
use Rattle.std.proofs.Common.{◌≡◌, ℕ, ◌+◌, ◌-◌, ◌*◌, ◌%◌, ◌^◌, ◌≤◌, List, [], ◌∷◌, ◌++◌, length, Bool, true, false, cond, None, Some, Option, refl, ap, ◌∙◌, arith}
use Rattle.std.specs.Prelude.{◌&&◌, ◌==◌, codes, nat_lt, not}
use Rattle.std.proofs.lemmas.Bool.{le-ltb}
use Rattle.std.specs.Str.{chars, is_utf8}
use lib.Utf8.{encode}
use Rattle.part_tree.specs.Large.{Size, first_above, limited}
use Rattle.part_tree.specs.Letters.{four}
use Rattle.part_tree.specs.declared.field.EditItem.{EditItem}
use Rattle.part_tree.specs.declared.field.FieldName.TheVariants.{Info}
use Rattle.part_tree.specs.declared.field.RuleSet.TheVariants.{Base}
use Rattle.part_tree.specs.declared.names.Kind.{Kind}
use Rattle.part_tree.specs.declared.names.Kind.TheVariants as kind
use Rattle.field_model.specs.Broken.{broken}
use Rattle.field_model.specs.Update.{RawItem, effective, raw_items}
use Rattle.container_model.specs.Chunk.{Chunk, chunks, read, spell, spell_all}
use Rattle.container_model.specs.Units.{Cell, Piece, Slot, begun, closed, copied, edited, gap, is_empty, kept, kept_next, lacks_pad, lay, replaced, shut, units}
use Rattle.carrier_model.specs.RiffForm.{body_of as form_body, new_size as form_size, pad_after}
use Rattle.wave_model.specs.Fields.{fields, fields_of}
use Rattle.wave_model.specs.New.{edited_cells, fill_of, new_children, new_size, new_wave, riff_of}
use Rattle.wave_model.specs.Wave.{Wave, inner, is_big, kind_of, spell_wave}
use Rattle.wave_model.specs.Widen.{large_after, large_after_by, sizes_in, wave_by, widens_by}
use Rattle.me_generate.specs.Rows.{rows}
use Rattle.me_generate.specs.Stated.{IsMade, stated}
use Rattle.me_generate.specs.Titled.{set_title}
use Rattle.me_generate.specs.declared.rows.Row.TheVariants.{Second}
use Rattle.me_generate.proofs.Lengths.{all_rows}
use Rattle.me_generate.proofs.Waves.{bext, body_len, body_of, fmt, inner_len, is_made, ixml, junk, reads_as, reel, six, sound, titled, wave_for, waved, whole_len}

-- the title that is set
abbrev made : List ℕ
made = codes "Made\0\0"

-- the edit in raw bytes
abbrev raw_title : List RawItem
raw_title = record { name = Info (four (codes "INAM")); value = Some (record { lang = 0; raw = codes "Made\0" }) } ∷ []

-- ---- the rules

module _ (body d : List ℕ) where
  unbroken_by : broken kind.Wave 0 (fields_of (six body reel d)) set_title Base ≡ None
  unfolding chunks read is_utf8 chars encode
  unbroken_by = refl

  all_effect : effective (fields_of (six body reel d)) set_title ≡ set_title
  unfolding chunks read
  all_effect = refl

  raw_is : raw_items (fields_of (six body reel d)) set_title ≡ raw_title
  unfolding chunks read
  raw_is = refl

pub unbroken : (n : ℕ) → IsMade kind.Wave n → broken (kind_of (stated kind.Wave n)) 0 (fields (stated kind.Wave n)) set_title Base ≡ None
unfolding unbroken_by
unbroken n is =
    ap (λ (k : Kind). broken k 0 (fields (stated kind.Wave n)) set_title Base) (ap kind_of (is_made n is.1))
    ∙ ap (λ (w : Wave). broken kind.Wave 0 (fields_of w.children) set_title Base) (reads_as n is.1)
    ∙ unbroken_by (body_of n) (rows Second n)

-- ---- the new chunks

kept_step : (s : Slot) (c : Chunk) (xs : List Cell) → lacks_pad c ≡ false → units s (kept c ∷ xs) ≡ closed false s ++ (copied c ∷ units shut xs)
unfolding units
kept_step s c xs h = ap (λ (t : Bool). closed false s ++ kept_next (t && not (is_empty xs)) c (λ u. units u xs)) h

no_pad : (t u : Bool) → cond {A = List ℕ} t [] (cond {A = List ℕ} (u && false) (0 ∷ []) []) ≡ []
no_pad true u = refl
no_pad false true = refl
no_pad false false = refl

-- the slot of the list, with the padding behind it
abbrev slot : List ℕ
slot = spell_all (titled reel ∷ []) ++ spell junk

module _ (body d : List ℕ) (n : ℕ) (long : length body ≡ 631) (sounds : length d ≡ 288000 * n) (most : n ≤ 14000) where
  abbrev cells : List Cell
  cells = kept (bext body) ∷ kept fmt ∷ kept ixml ∷ edited (titled reel ∷ []) (titled made ∷ []) ∷ gap junk ∷ kept (sound d) ∷ []

  cells_are : edited_cells (waved body reel d) raw_title ≡ cells
  unfolding chunks read
  cells_are = refl

  has_pad : lacks_pad (bext body) ≡ false
  has_pad = le-ltb _ _ (omega (arith, long))

  needs_none : lacks_pad (sound d) ≡ false
  needs_none = le-ltb _ _ (omega (arith, sounds))

  middle : units shut (kept fmt ∷ kept ixml ∷ edited (titled reel ∷ []) (titled made ∷ []) ∷ gap junk ∷ kept (sound d) ∷ [])
      ≡ copied fmt ∷ copied ixml ∷ units (begun [] slot (titled made ∷ [])) (kept (sound d) ∷ [])
  unfolding units
  middle = refl

  none_left : units shut [] ≡ []
  unfolding units
  none_left = refl

  pieces_are : units shut cells ≡ copied (bext body) ∷ copied fmt ∷ copied ixml ∷ replaced [] slot (titled made ∷ []) false ∷ copied (sound d) ∷ []
  unfolding has_pad needs_none middle none_left
  pieces_are =
      kept_step shut (bext body) (kept fmt ∷ kept ixml ∷ edited (titled reel ∷ []) (titled made ∷ []) ∷ gap junk ∷ kept (sound d) ∷ []) has_pad
      ∙ ap (λ (ps : List Piece). copied (bext body) ∷ ps) middle
      ∙ ap (λ (ps : List Piece). copied (bext body) ∷ copied fmt ∷ copied ixml ∷ ps)
      (kept_step (begun [] slot (titled made ∷ [])) (sound d) [] needs_none
      ∙ ap (λ (ps : List Piece). replaced [] slot (titled made ∷ []) false ∷ copied (sound d) ∷ ps) none_left)

  laid_are : lay (fill_of (waved body reel d)) (copied (bext body) ∷ copied fmt ∷ copied ixml ∷ replaced [] slot (titled made ∷ []) false ∷ copied (sound d) ∷ []) ≡ six body made d
  laid_are = refl

  children_are : new_children (waved body reel d) raw_title ≡ six body made d
  unfolding cells_are pieces_are laid_are
  children_are =
      let w = waved body reel d in
      ap (λ (xs : List Cell). lay (fill_of w) (units shut xs)) cells_are ∙ ap (lay (fill_of w)) pieces_are ∙ laid_are

  size_is : new_size (waved body reel d) raw_title ≡ 1024 + 288000 * n
  unfolding children_are
  size_is =
      ap (λ (cs : List Chunk). length (codes "WAVE" ++ (spell_all cs ++ []))) children_are
      ∙ inner_len body d n long sounds most made refl

  pad_is : pad_after (riff_of (waved body reel d)) (edited_cells (waved body reel d) raw_title) ≡ []
  pad_is =
      let r = riff_of (waved body reel d) in
      let xs = edited_cells (waved body reel d) raw_title in
      no_pad (length (form_body r) == form_size r xs) ((form_size r xs % 2) == 1)

  new_is : new_wave (waved body reel d) raw_title ≡ waved body made d
  unfolding children_are pad_is
  new_is =
      ap (λ (cs : List Chunk). with_chunks cs (pad_after (riff_of (waved body reel d)) (edited_cells (waved body reel d) raw_title))) children_are
      ∙ ap (with_chunks (six body made d)) pad_is
    where
      with_chunks : List Chunk → List ℕ → Wave
      with_chunks cs pad = record (waved body reel d) { children = cs; pad = pad }

  -- ---- its sizes

  two_fit : (l m : ℕ) → l ≤ 2 ^ 32 - 1 → m ≤ 2 ^ 63 - 1 → first_above (limited (2 ^ 24) 18 ∷ limited 65536 7 ∷ limited (2 ^ 32 - 1) l ∷ limited (2 ^ 63 - 1) m ∷ []) ≡ None
  two_fit l m small few =
      ap (λ (t : Bool). cond t (Some (limited (2 ^ 32 - 1) l)) (cond (nat_lt (2 ^ 63 - 1) m) (Some (limited (2 ^ 63 - 1) m)) None)) (le-ltb _ _ small)
      ∙ ap (λ (t : Bool). cond t (Some (limited (2 ^ 63 - 1) m)) None) (le-ltb _ _ few)

  fits : first_above (sizes_in (waved body made d)) ≡ None
  unfolding two_fit chunks read
  fits =
      let w = waved body made d in
      let size = inner_len body d n long sounds most made refl in
      let whole = whole_len body d n long sounds most made in
      two_fit (length (inner w)) (length (spell_wave w)) (omega (arith, size, most)) (omega (arith, size, whole, most))

  stays_narrow : (not (is_big (codes "RIFF")) && nat_lt (2 ^ 32 - 1) (new_size (waved body reel d) raw_title)) ≡ false
  unfolding size_is
  stays_narrow = le-ltb _ _ (omega (arith, size_is, most))

  small_by : large_after_by set_title (wave_by (widens_by set_title (waved body reel d) raw_title) (waved body reel d) raw_title) ≡ None
  unfolding stays_narrow new_is fits
  small_by =
      let w = waved body reel d in
      ap (λ (t : Bool). first_above (sizes_in (wave_by t w raw_title))) stays_narrow
      ∙ ap (λ (x : Wave). first_above (sizes_in x)) new_is
      ∙ fits

-- what is too large of a form, by its edit's items with an effect
large_of : Wave → List EditItem → List RawItem → Option Size
large_of w e r = large_after_by e (wave_by (widens_by e w r) w r)

pub small : (n : ℕ) → IsMade kind.Wave n → large_after (stated kind.Wave n) set_title ≡ None
unfolding large_of all_effect raw_is small_by
small n is =
    let w = wave_for n in
    let b = body_of n in
    let d = rows Second n in
    ap (λ (x : Wave). large_of x (effective (fields_of x.children) set_title) (raw_items (fields_of x.children) set_title)) (reads_as n is.1)
    ∙ ap (λ (e : List EditItem). large_of w e (raw_items (fields_of w.children) set_title)) (all_effect b d)
    ∙ ap (large_of w set_title) (raw_is b d)
    ∙ small_by b d n (body_len n) (all_rows Second n) is.1
