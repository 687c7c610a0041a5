-- A form that becomes RF64: what a planner tells makes the new file, and what is too large in it.
use Rattle.std.proofs.Common.{◌≡◌, ◌∙◌, ℕ, ◌+◌, ◌-◌, ◌/◌, ◌%◌, ◌^◌, ◌<◌, ◌≤◌, Bool, true, false, cond, eqb, List, [], ◌∷◌, ◌++◌, length, map, take, drop, refl, sym, ap, arith, append_assoc, append-nil, length-append}
use Rattle.std.specs.Prelude.{Option, Some, None, ◌&&◌, codes, replicate}
use Rattle.std.specs.Int.{w32, to_le_bytes}
use Rattle.std.specs.List.{flat_map}
use Rattle.std.proofs.lemmas.Bool.{cond-true, cond-false, eqb-true, le-ltb, lt-ltb, ltb-true}
use Rattle.std.proofs.lemmas.List.{drop-drop, drop_at, take_at}
use Rattle.part_tree.specs.declared.field.EditItem.{EditItem}
use Rattle.part_tree.specs.declared.names.Span.{Span}
use Rattle.part_tree.specs.declared.plan.Plan.{Plan}
use Rattle.part_tree.specs.declared.plan.Plan.TheVariants.{InPlace, Rewrite}
use Rattle.part_tree.specs.Large.{Size, limited, is_above, first_above}
use Rattle.field_model.specs.KindReads.{IsForm}
use Rattle.field_model.specs.Update.{raw_items}
use Rattle.container_model.specs.Chunk.{riff, Chunk, header_bytes, spell, spell_all}
use Rattle.container_model.specs.Splice.{Ascend, Cut, splice}
use Rattle.container_model.proofs.Codec.{IsBytes}
use Rattle.carrier_model.specs.RiffForm.{pad_cut}
use Rattle.wave_model.specs.Wave.{is_big, Wave, wave_of, inner, kind_of, spell_wave}
use Rattle.wave_model.specs.Fields.{bodies, body_in, fields, is_info}
use Rattle.wave_model.specs.Edited.{Supported, first_size, formats, parts, parts_of, sounds}
use Rattle.wave_model.specs.Kind.{wave_kind}
use Rattle.wave_model.specs.Map.{sound}
use Rattle.wave_model.specs.New.{children_at, fill_of, new_children, new_size, new_wave, pieces_of}
use Rattle.wave_model.specs.Widen.{cuts_widened, ds64_body, ds64_for, file_after, first_len, large_after, new_ds64, reserved, room_after, wide_cuts, widened_to, widened_wave, widens}
use Rattle.wave_model.proofs.Edited.{same_formats}
use Rattle.wave_model.proofs.Form.{spelled_is}
use Rattle.wave_model.proofs.Items.{items_fine}
use Rattle.wave_model.proofs.Kind.{wide_file, wide_large, widening}
use Rattle.wave_model.proofs.Law.{kind_is}
use Rattle.wave_model.proofs.New.{ListsSmall, body_sizes, ignores_info, none_above}
use Rattle.wave_model.proofs.Seen.{see_info}
use Rattle.wave_model.proofs.Values.{ItemsFine}
use Rattle.wave_model.proofs.WideCuts.{heads_ascend, widened_spliced}
use Rattle.wave_model.proofs.WideField.{field_placed, put_cut, sound_len}
use Rattle.wave_model.proofs.WideTold.{reserved_first, reserves, wide_parts}
use Rattle.wave_model.proofs.Widened.{ds64_len, no_ds64, riff_small, view_kids, wide_size}
use Rattle.wave_model.proofs.Widened as wider
use Rattle.unit_plan.specs.declared.row.UnitCuts.{UnitCuts}
use Rattle.unit_plan.specs.Cuts.{cut_in, SpansAscend}
use Rattle.unit_plan.specs.Planned as Units
use Rattle.unit_plan.specs.Sized.{spliced_len}
use Rattle.unit_plan.proofs.Overlaid.{spliced_length}
use Rattle.wave_plan.specs.declared.frame.Frame.{Frame}
use Rattle.wave_plan.specs.declared.widen.Widening.{Widening}
use Rattle.wave_plan.specs.Frame.{IsFrame, pad_after}
use Rattle.wave_plan.specs.Framed.{pad_cuts}
use Rattle.wave_plan.specs.Planned.{ComesTo, IsListed, StandsIn, list_sizes}
use Rattle.wave_plan.specs.Widened.{IsReserved, IsWideningOf, ds64_at, ds64_by, ds64_spelled, field_at, more_bytes, more_parts, widened, with_cut}
use Rattle.wave_plan.proofs.Answered.{above_none}
use Rattle.wave_plan.proofs.Placed.{with_cut_in}
use Rattle.wave_plan.proofs.Told.{behind_chunks, counted, cuts_are, file_long, map-append, new_pad_by, pad_stood, pad_told, pads_same, parts_are}

-- ---- the sizes that pass their limits

passes : (s : Size) (more : List Size) → s.limit < s.size → first_above (s ∷ more) ≡ Some s
passes s more h = cond-true (is_above s) (Some s) (first_above more) (lt-ltb s.limit s.size h)

fits : (s : Size) (more : List Size) → s.size ≤ s.limit → first_above (s ∷ more) ≡ first_above more
fits s more h = cond-false (is_above s) (Some s) (first_above more) (le-ltb s.limit s.size h)

pub parts_pass : (m len : ℕ) → 65536 < m → first_above (limited 65536 m ∷ (limited (2 ^ 63 - 1) len ∷ [])) ≡ Some (limited 65536 m)
parts_pass m len h = passes (limited 65536 m) (limited (2 ^ 63 - 1) len ∷ []) h

pub file_passes : (m len : ℕ) → m ≤ 65536 → 2 ^ 63 - 1 < len → first_above (limited 65536 m ∷ (limited (2 ^ 63 - 1) len ∷ [])) ≡ Some (limited (2 ^ 63 - 1) len)
file_passes m len l h = fits (limited 65536 m) (limited (2 ^ 63 - 1) len ∷ []) l ∙ passes (limited (2 ^ 63 - 1) len) [] h

pub both_fit : (m len : ℕ) → m ≤ 65536 → len ≤ 2 ^ 63 - 1 → first_above (limited 65536 m ∷ (limited (2 ^ 63 - 1) len ∷ [])) ≡ None
both_fit m len l h = fits (limited 65536 m) (limited (2 ^ 63 - 1) len ∷ []) l ∙ fits (limited (2 ^ 63 - 1) len) [] h

module _ (b : List ℕ) (e : List EditItem) (bytes : IsBytes b) (sup : Supported b) (w : Widening) (known : IsWideningOf b w) (listed : IsListed b e) (wide : widens b e ≡ true) where
  narrow : is_big (take 4 b) ≡ false
  narrow = (widening b e wide).narrow

  fine : ItemsFine (raw_items (fields b) e)
  fine = items_fine (kind_of b) (fields b) e (kind_is b bytes sup) listed.accepted

  small : ListsSmall (wave_of b) (raw_items (fields b) e)
  small = body_sizes (bodies is_info (new_children (wave_of b) (raw_items (fields b) e))) (none_above (list_sizes b e) listed.lists)

  abbrev v0 : Wave
  v0 = wave_of b

  abbrev js : List Chunk
  js = reserved (wave_of b).children

  abbrev cs : List Chunk
  cs = new_children (wave_of b) (raw_items (fields b) e)

  abbrev v : Wave
  v = widened_wave (reserved (wave_of b).children) (new_wave (wave_of b) (raw_items (fields b) e))

  abbrev size : ℕ
  size = length (inner (widened_to (reserved (wave_of b).children) 0 (new_wave (wave_of b) (raw_items (fields b) e))))

  -- ---- the size of the form

  pub size_is : (n : ℕ) → n ≡ new_size v0 (raw_items (fields b) e) → n + more_bytes w.reserved ≡ size
  size_is n is = ap (λ (k : ℕ). k + more_bytes w.reserved) is ∙ go js w.reserved (known.room narrow) ∙ sym (wide_size b bytes sup narrow (raw_items (fields b) e) fine small)
    where
      go : (ks : List Chunk) (r : Option ℕ) → IsReserved ks r → new_size v0 (raw_items (fields b) e) + more_bytes r ≡ new_size v0 (raw_items (fields b) e) + wider.more_bytes ks
      go ks None h = ap (λ (x : List Chunk). new_size v0 (raw_items (fields b) e) + wider.more_bytes x) (sym h)
      go ks (Some n) h = ap (λ (x : List Chunk). new_size v0 (raw_items (fields b) e) + wider.more_bytes x) (sym h.1)

  -- ---- ds64

  body_is : (len k : ℕ) → ds64_for len k cs ≡ ds64_body len k w.sound.len (w.sound.len / w.align)
  body_is len k =
      let long : first_len (sounds cs) ≡ w.sound.len = sound_len b bytes sup narrow (raw_items (fields b) e) fine small ∙ sym (ap (λ (s : Span). s.len) known.sound_is) in
      let block : first_size (formats cs) ≡ w.align = ap first_size (same_formats b bytes sup (raw_items (fields b) e) fine small) ∙ sym known.align_is in
      ap (λ (n : ℕ). ds64_body len k n (n / first_size (formats cs))) long ∙ ap (λ (n : ℕ). ds64_body len k w.sound.len (w.sound.len / n)) block

  -- what stands behind the header of the reserved JUNK
  pad_at : (j : Chunk) → js ≡ j ∷ [] → take (length j.body % 2) (drop (20 + length j.body) b) ≡ j.pad
  pad_at j i =
      let r = reserves b bytes sup narrow (raw_items (fields b) e) fine small j i in
      let first = reserved_first v0.children j i in
      let rest = v0.left ++ (v0.pad ++ v0.tail) in
      let twelve : children_at v0 ≡ 12 = ap (λ (ds : List Chunk). 8 + length (codes "WAVE" ++ spell_all ds)) (no_ds64 b bytes sup narrow) in
      let behind : drop 12 b ≡ (header_bytes j.form j.id (length j.body) ++ j.body) ++ (j.pad ++ (spell_all first.0 ++ rest))
      = sym (ap (λ (k : ℕ). drop k b) twelve) ∙ behind_children ∙ ap (λ (xs : List Chunk). spell_all xs ++ rest) first.1 ∙ regroup (header_bytes j.form j.id (length j.body)) j.body j.pad (spell_all first.0) rest in
      let head : length (header_bytes j.form j.id (length j.body) ++ j.body) ≡ 8 + length j.body = omega (arith, r.header, length-append (header_bytes j.form j.id (length j.body)) j.body) in
      let place : drop (20 + length j.body) b ≡ drop (8 + length j.body) (drop 12 b) = ap (λ (k : ℕ). drop k b) (omega arith) ∙ sym (drop-drop (8 + length j.body) 12 b) in
      ap (λ (x : List ℕ). take (length j.body % 2) x) (place ∙ ap (drop (8 + length j.body)) behind ∙ drop_at (header_bytes j.form j.id (length j.body) ++ j.body) (j.pad ++ (spell_all first.0 ++ rest)) (8 + length j.body) head)
      ∙ take_at j.pad (spell_all first.0 ++ rest) (length j.body % 2) r.pad
    where
      regroup : (h d p s t : List ℕ) → ((h ++ (d ++ p)) ++ s) ++ t ≡ (h ++ d) ++ (p ++ (s ++ t))
      regroup h d p s t = simp append_assoc

      behind_children : drop (children_at v0) b ≡ spell_all v0.children ++ (v0.left ++ (v0.pad ++ v0.tail))
      behind_children = behind_chunks b bytes sup

  spelled : (d : Chunk) (n : ℕ) → d.form ≡ riff → d.id ≡ codes "ds64" → length d.body ≡ n → spell_all (d ∷ []) ≡ (codes "ds64" ++ (to_le_bytes w32 n ++ d.body)) ++ d.pad
  spelled d n f i l =
      ap (λ (g : _). (header_bytes g d.id (length d.body) ++ (d.body ++ d.pad)) ++ []) f ∙ ap (λ (x : List ℕ). ((x ++ to_le_bytes w32 (length d.body)) ++ (d.body ++ d.pad)) ++ []) i
      ∙ ap (λ (k : ℕ). ((codes "ds64" ++ to_le_bytes w32 k) ++ (d.body ++ d.pad)) ++ []) l ∙ regroup (codes "ds64") (to_le_bytes w32 n) d.body d.pad
    where
      regroup : (i g d p : List ℕ) → ((i ++ g) ++ (d ++ p)) ++ [] ≡ (i ++ (g ++ d)) ++ p
      regroup i g d p = append-nil ((i ++ g) ++ (d ++ p)) ∙ simp append_assoc

  ds64_in : (k : ℕ) → cut_in b (ds64_at w k) ≡ record { at = 12; len = length (spell_all js); bytes = spell_all (new_ds64 js k cs ∷ []) }
  ds64_in k = go js refl w.reserved (known.room narrow)
    where
      go : (ks : List Chunk) → js ≡ ks → (r : Option ℕ) → IsReserved ks r → cut_in b (ds64_by w r k) ≡ record { at = 12; len = length (spell_all ks); bytes = spell_all (new_ds64 ks k cs ∷ []) }
      go ks i None h =
          let d = new_ds64 [] k cs in
          let body : length d.body ≡ 28 = ds64_len 28 k (first_len (sounds cs)) (first_len (sounds cs) / first_size (formats cs)) (omega arith) in
          let now : spell_all (d ∷ []) ≡ ds64_spelled w 28 k ++ [] = spelled d 28 refl refl body ∙ ap (λ (x : List ℕ). (codes "ds64" ++ (to_le_bytes w32 28 ++ x)) ++ []) (body_is 28 k) in
          ap (λ (x : List ℕ). record { at = 12; len = 0; bytes = x }) (sym now)
          ∙ sym (ap (λ (xs : List Chunk). record { at = 12; len = length (spell_all xs); bytes = spell_all (new_ds64 xs k cs ∷ []) }) h)
      go ks i (Some n) h =
          let j = h.0 in
          let one : js ≡ j ∷ [] = i ∙ h.1 in
          let m = length j.body in
          let r = reserves b bytes sup narrow (raw_items (fields b) e) fine small j one in
          let d = new_ds64 (j ∷ []) k cs in
          let body : length d.body ≡ m = ds64_len m k (first_len (sounds cs)) (first_len (sounds cs) / first_size (formats cs)) r.low in
          let now : spell_all (d ∷ []) ≡ ds64_spelled w m k ++ j.pad = spelled d m refl refl body ∙ ap (λ (x : List ℕ). (codes "ds64" ++ (to_le_bytes w32 m ++ x)) ++ j.pad) (body_is m k) in
          let from : (12 + (8 + m + m % 2)) - m % 2 ≡ 20 + m = omega arith in
          let pad : take (m % 2) (drop ((12 + (8 + m + m % 2)) - m % 2) b) ≡ j.pad = ap (λ (x : ℕ). take (m % 2) (drop x b)) from ∙ pad_at j one in
          let long : 8 + m + m % 2 ≡ length (spell_all (j ∷ [])) = omega (arith, r.header, r.pad, length-append (spell j) [], length-append (header_bytes j.form j.id m) (j.body ++ j.pad), length-append j.body j.pad) in
          ap (λ (x : ℕ). cut_in b (ds64_by w (Some x) k)) h.2
          ∙ ap (λ (x : List ℕ). record { at = 12; len = 8 + m + m % 2; bytes = ds64_spelled w m k ++ x }) pad
          ∙ ap (λ (x : List ℕ). record { at = 12; len = 8 + m + m % 2; bytes = x }) (sym now)
          ∙ ap (λ (x : ℕ). record { at = 12; len = x; bytes = spell_all (d ∷ []) }) long
          ∙ sym (ap (λ (xs : List Chunk). record { at = 12; len = length (spell_all xs); bytes = spell_all (new_ds64 xs k cs ∷ []) }) h.1)

  -- ---- all spans

  module _ (f : Frame) (fr : IsFrame b f) (u : UnitCuts) (comes : ComesTo b e u) (st : StandsIn f u) where
    units_in : map (cut_in b) (with_cut (field_at w) u.cuts.items) ≡ wide_cuts (fill_of v0) (12 + length (spell_all js)) (drop (length js) (pieces_of v0 (raw_items (fields b) e)))
    units_in =
        let field : cut_in b (field_at w) ≡ record { at = (sound b).at - 4; len = 4; bytes = 255 ∷ 255 ∷ 255 ∷ 255 ∷ [] } = ap (λ (s : Span). record { at = s.at - 4; len = 4; bytes = 255 ∷ 255 ∷ 255 ∷ 255 ∷ [] }) known.sound_is in
        with_cut_in b (field_at w) u.cuts.items ∙ ap (λ (k : Cut). put_cut k (map (cut_in b) u.cuts.items)) field
        ∙ ap (put_cut (record { at = (sound b).at - 4; len = 4; bytes = 255 ∷ 255 ∷ 255 ∷ 255 ∷ [] })) (cuts_are b e bytes sup f fr u comes st)
        ∙ sym (field_placed b bytes sup narrow (raw_items (fields b) e) fine small)

    pad_is : v.pad ≡ replicate (pad_after f (new_size v0 (raw_items (fields b) e))) 0
    pad_is =
        let old = length (inner v0) in
        let n = new_size v0 (raw_items (fields b) e) in
        cond-false (eqb old n) v0.pad (new_pad_by v0 n) (unlike (eqb old n) refl) ∙ pad_told b e bytes sup f fr u comes st n
      where
        unlike : (t : Bool) → eqb (length (inner v0)) (new_size v0 (raw_items (fields b) e)) ≡ t → t ≡ false
        unlike false i = refl
        unlike true i = absurd (omega (arith, eqb-true (length (inner v0)) (new_size v0 (raw_items (fields b) e)) i, riff_small b bytes sup narrow, ltb-true (2 ^ 32 - 1) (new_size v0 (raw_items (fields b) e)) (widening b e wide).large))

    -- the file with these spans replaced is the new one
    pub makes_wide : (n k : ℕ) → n ≡ new_size v0 (raw_items (fields b) e) → k ≡ n + more_bytes w.reserved → splice b (map (cut_in b) (widened f w n k u.cuts.items)) ≡ file_after b e
    makes_wide n k is sum =
        let r = raw_items (fields b) e in
        let same : k ≡ size = sum ∙ size_is n is in
        let front : Cut = record { at = 0; len = 8; bytes = codes "RF64" ++ (255 ∷ 255 ∷ 255 ∷ 255 ∷ []) } in
        let table : Cut = record { at = 12; len = length (spell_all js); bytes = spell_all v.ds64 } in
        let units = wide_cuts (fill_of v0) (12 + length (spell_all js)) (drop (length js) (pieces_of v0 r)) in
        let heads = front ∷ (table ∷ units) in
        let at = 8 + length (inner v0) in
        let ascend : Ascend 0 (heads ++ record { at = at; len = length v0.pad; bytes = v.pad } ∷ []) (length b)
        = heads_ascend b bytes sup narrow r fine small (record { at = at; len = length v0.pad; bytes = v.pad } ∷ []) (omega arith, omega (arith, file_long b bytes sup)) in
        let first : map (cut_in b) (widened f w n k u.cuts.items) ≡ heads ++ map (cut_in b) (pad_cuts f n)
        = ap (λ (x : Cut). front ∷ (x ∷ map (cut_in b) (with_cut (field_at w) u.cuts.items ++ pad_cuts f n))) (ds64_in k ∙ ap (λ (x : ℕ). record { at = 12; len = length (spell_all js); bytes = spell_all (new_ds64 js x cs ∷ []) }) same)
        ∙ ap (λ (x : List Cut). front ∷ (table ∷ x)) (map-append b (with_cut (field_at w) u.cuts.items) (pad_cuts f n))
        ∙ ap (λ (x : List Cut). front ∷ (table ∷ (x ++ map (cut_in b) (pad_cuts f n)))) units_in in
        let q = pad_after f n in
        let new : v.pad ≡ replicate q 0 = pad_is ∙ ap (λ (m : ℕ). replicate (pad_after f m) 0) (sym is) in
        let pads : splice b (heads ++ map (cut_in b) (pad_cuts f n)) ≡ splice b (heads ++ pad_cut at v0.pad v.pad)
        = ap (λ (m : ℕ). splice b (heads ++ map (cut_in b) (cond (eqb f.pad 0 && eqb q 0) [] (record { span = record { at = 8 + m; len = f.pad }; bytes = replicate q 0; keep = 0 } ∷ [])))) fr.size
        ∙ ap (λ (m : ℕ). splice b (heads ++ map (cut_in b) (cond (eqb m 0 && eqb q 0) [] (record { span = record { at = at; len = m }; bytes = replicate q 0; keep = 0 } ∷ [])))) fr.pad
        ∙ pads_same b heads at q v0.pad v.pad new (pad_stood b e bytes sup f fr u comes st) ascend in
        ap (splice b) first ∙ pads ∙ ap (λ (x : List ℕ). splice x (cuts_widened b e)) (spelled_is b bytes sup) ∙ widened_spliced b bytes sup narrow r fine small ∙ sym (wide_file b e wide)

    -- ---- what is too large

    parts_wide : (m : ℕ) → m ≡ u.parts + more_parts w.reserved → m ≡ parts v
    parts_wide m is = go js w.reserved (known.room narrow) is (wide_parts b bytes sup narrow (raw_items (fields b) e) fine small)
      where
        all : u.parts ≡ length (flat_map parts_of cs)
        all = parts_are b e bytes sup f fr u comes st ∙ counted b e bytes sup f fr u comes st cs

        go : (ks : List Chunk) (r : Option ℕ) → IsReserved ks r → m ≡ u.parts + more_parts r → parts v + length ks ≡ 1 + length (flat_map parts_of cs) → m ≡ parts v
        go ks None h s p = omega (arith, s, p, all, ap (λ (xs : List Chunk). length xs) h)
        go ks (Some n) h s p = omega (arith, s, p, all, ap (λ (xs : List Chunk). length xs) h.1)

    pub wide_told : (m : ℕ) → m ≡ u.parts + more_parts w.reserved → large_after b e ≡ first_above (limited 65536 m ∷ (limited (2 ^ 63 - 1) (length (file_after b e)) ∷ []))
    wide_told m is =
        let lists = list_sizes b e in
        let same : bodies is_info v.children ≡ bodies is_info cs = view_kids b bytes sup narrow (raw_items (fields b) e) (body_in is_info) see_info ignores_info.padding in
        let file = limited (2 ^ 63 - 1) (length (spell_wave v)) ∷ [] in
        wide_large b e wide ∙ ap (λ (xs : List (List ℕ)). first_above (map (λ x. limited (2 ^ 24) (length x)) xs ++ (limited 65536 (parts v) ∷ file))) same
        ∙ above_none lists (limited 65536 (parts v) ∷ file) listed.lists
        ∙ ap (λ (k : ℕ). first_above (limited 65536 k ∷ file)) (sym (parts_wide m is))
        ∙ ap (λ (x : List ℕ). first_above (limited 65536 m ∷ (limited (2 ^ 63 - 1) (length x) ∷ []))) (sym (wide_file b e wide))

    -- how long the new file is
    pub wide_long : (n k : ℕ) → n ≡ new_size v0 (raw_items (fields b) e) → k ≡ n + more_bytes w.reserved → SpansAscend 0 (widened f w n k u.cuts.items) f.len → length (file_after b e) ≡ spliced_len f.len (widened f w n k u.cuts.items)
    wide_long n k is sum ascend = sym (ap length (makes_wide n k is sum)) ∙ spliced_length b f.len (widened f w n k u.cuts.items) (sym fr.len) ascend

  -- it doesn't fit in place
  pub wide_form : (new : ℕ) (f : Frame) (ps : _) (p : Plan) → new ≡ length (file_after b e) → Units.IsPlanOf false f.len new ps p → IsForm wave_kind b e p
  wide_form new f ps (InPlace old m qs) long h = absurd cc
  wide_form new f ps (Rewrite m moves segments) long h = ((λ room. none room), h.1 ∙ long)
    where
      none : room_after b e ≡ true → ⊥
      none room = by (widens b e) wide room
        where
          by : (t : Bool) → t ≡ true → (Rattle.std.specs.Prelude.not t && Rattle.wave_model.specs.Room.has_room (wave_of b) (raw_items (fields b) e)) ≡ true → ⊥
          by true i r = absurd cc
          by false i r = absurd cc
