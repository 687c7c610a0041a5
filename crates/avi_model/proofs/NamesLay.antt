-- The patches of an edit of names in place: where they fit, the lists keep their length, unless the last slot ends the file.
use Rattle.std.proofs.Common.{◌≡◌, ℕ, ◌+◌, ◌%◌, ◌<◌, ◌≤◌, Bool, true, false, cond, eqb, List, [], ◌∷◌, ◌++◌, length, map, take, replicate, refl, sym, ap, subst, ◌∙◌, append_assoc, arith, inl, inr}
use Rattle.std.specs.Prelude.{◌⊎◌, ◌&&◌, codes}
use Rattle.std.specs.Int.{w32, to_le_bytes}
use Rattle.std.specs.List.{flat_map, list_all}
use Rattle.std.proofs.lemmas.Bool.{and_parts, cond-true, eq-eqb, eqb-false, eqb-true}
use Rattle.std.proofs.lemmas.List.{append-nil, length-append, length-drop, length-replicate}
use Rattle.std.proofs.lemmas.List.Concat.{flat_map-append}
use Rattle.part_tree.specs.declared.plan.Patch.{Patch}
use Rattle.container_model.specs.Chunk.{Form, riff, Chunk, PadStands, Pads, header_bytes, pad_len, spell, spell_all}
use Rattle.container_model.specs.Items.{is_nil}
use Rattle.container_model.specs.Units.{Piece, padded, shut, lay, old_bytes}
use Rattle.container_model.proofs.Plain.{ArePlain, IsPlain}
use Rattle.container_model.proofs.Reread.{ArePadded, IsPadded}
use Rattle.container_model.proofs.Units.{BringsPad, lay_all, units_bring, units_old}
use Rattle.carrier_model.specs.Cells.{counted}
use Rattle.carrier_model.specs.Info.{list_run}
use Rattle.carrier_model.specs.Names.{name_cells}
use Rattle.carrier_model.specs.Room.{patch, unit_patches}
use Rattle.carrier_model.proofs.Fitted.{AllFit, last_units}
use Rattle.carrier_model.proofs.Info.{fill_all, made_padded}
use Rattle.carrier_model.proofs.Names.{cells_names}
use Rattle.carrier_model.proofs.RiffForm.{none_is}
use Rattle.carrier_model.proofs.Room.{riff_fits}
use Rattle.avi_model.specs.Named.{Names, Site, cell_of, ends_list, hdrl_named, is_named, is_strl, kid_named, kids_named, list_with, names_after, new_names, respelled, sites_from, sites_in, strl_fill, strl_named, strl_pieces}
use Rattle.avi_model.specs.RoomAfter.{hdrl_patches, list_patch, strl_fits, strl_patches}
use Rattle.avi_model.proofs.Edit.{cells_all}
use Rattle.avi_model.proofs.Lays.{Exactly, Lastly, both, last_told, put, stays, then_last, told, units_exactly, units_lastly, weaker}
use Rattle.avi_model.proofs.NamesSpliced.{list_is, list_then}
use Rattle.avi_model.proofs.Respelled.{IsList, all_names, laid_chunks, list_length, list_plain, made_names, respelled_body, respelled_form, respelled_stands, strl_plain, word_long}
use Rattle.avi_model.proofs.Streams.{AreKids, IsKid, kids_plain, none_after}
use Rattle.avi_model.proofs.StreamsGo.{was_is}

-- ---- chunks with their pads are even

even_one : (c : Chunk) → IsPlain c → IsPadded c → length (spell c) % 2 ≡ 0
even_one c p h =
    let pad : length c.pad ≡ length c.body % 2 = h ∙ ap (λ (f : Form). pad_len f (length c.body)) p.form_is in
    let head : length (header_bytes c.form c.id (length c.body)) ≡ 8 = ap (λ (f : Form). length (header_bytes f c.id (length c.body))) p.form_is ∙ omega (arith, p.id_len, length-append c.id (to_le_bytes w32 (length c.body))) in
    omega (arith, pad, head, length-append (header_bytes c.form c.id (length c.body)) (c.body ++ c.pad), length-append c.body c.pad)

even_all : (cs : List Chunk) → ArePlain cs → ArePadded cs → length (spell_all cs) % 2 ≡ 0
even_all [] p h = refl
even_all (c ∷ cs) p h = omega (arith, even_one c p.0 h.0, even_all cs p.1 h.1, length-append (spell c) (spell_all cs))

-- where they are even together and nothing follows them, each has its pad
all_padded : (cs : List Chunk) → ArePlain cs → Pads cs [] → length (spell_all cs) % 2 ≡ 0 → ArePadded cs
all_padded [] p h e = tt
all_padded (c ∷ cs) p h e = go h.0 (λ k. all_padded cs p.1 h.1 k)
  where
    long : length (spell_all (c ∷ cs)) ≡ length (spell c) + length (spell_all cs)
    long = length-append (spell c) (spell_all cs)

    spelled : length (spell c) ≡ 8 + (length c.body + length c.pad)
    spelled =
        let head : length (header_bytes c.form c.id (length c.body)) ≡ 8 = ap (λ (f : Form). length (header_bytes f c.id (length c.body))) p.0.form_is ∙ omega (arith, p.0.id_len, length-append c.id (to_le_bytes w32 (length c.body))) in
        omega (arith, head, length-append (header_bytes c.form c.id (length c.body)) (c.body ++ c.pad), length-append c.body c.pad)

    len : pad_len c.form (length c.body) ≡ length c.body % 2
    len = ap (λ (f : Form). pad_len f (length c.body)) p.0.form_is

    go : PadStands c.form (length c.body) c.pad (spell_all cs ++ []) → (length (spell_all cs) % 2 ≡ 0 → ArePadded cs) → ArePadded (c ∷ cs)
    go (inl s) again = (s, again (omega (arith, e, long, even_one c p.0 s)))
    go (inr s) again =
        let none = (none_after cs [] s.1).0 in
        let zero : length (spell_all cs) ≡ 0 = ap (λ (x : List Chunk). length (spell_all x)) none in
        (omega (arith, s.0, len, spelled, long, zero, e), subst ArePadded (sym none) tt)

-- ---- a list with other chunks

keeps_pad : (c : Chunk) (b : List ℕ) → length b ≡ length c.body → (respelled c b).pad ≡ c.pad
keeps_pad c b e = ap (λ (t : Bool). (cond t (record c { body = b }) (padded (record c { body = b }))).pad) (eq-eqb (length b % 2) (length c.body % 2) (ap (λ (n : ℕ). n % 2) e))

no_pad : (c : Chunk) (b : List ℕ) → c.form ≡ riff → c.pad ≡ [] → (length c.body % 2 ≡ 0 → length b % 2 ≡ 0) → (respelled c b).pad ≡ []
no_pad c b form none even = go (eqb (length b % 2) (length c.body % 2)) refl
  where
    go : (t : Bool) → eqb (length b % 2) (length c.body % 2) ≡ t → (cond t (record c { body = b }) (padded (record c { body = b }))).pad ≡ []
    go true e = none
    go false e = ap (λ (n : ℕ). replicate n 0) (ap (λ (f : Form). pad_len f (length b)) form ∙ zero (Rattle.std.proofs.lemmas.Bool.cases_lt 0 (length c.body % 2)))
      where
        zero : (0 < length c.body % 2) ⊎ (length c.body % 2 ≤ 0) → length b % 2 ≡ 0
        zero (inl odd) = omega (arith, odd, eqb-false (length b % 2) (length c.body % 2) e)
        zero (inr le) = even (omega (arith, le))

respelled_padded : (c : Chunk) (b : List ℕ) → c.form ≡ riff → IsPadded c → IsPadded (respelled c b)
respelled_padded c b form h = go (respelled_stands c b (0 ∷ []) (0 ∷ []) form (λ e. e) (inl (h ∙ ap (λ (f : Form). pad_len f (length c.body)) form)))
  where
    go : PadStands riff (length b) (respelled c b).pad (0 ∷ []) → IsPadded (respelled c b)
    go (inl e) = e ∙ ap (λ (f : Form). pad_len f (length b)) (sym (respelled_form c b ∙ form)) ∙ ap (λ (x : List ℕ). pad_len (respelled c b).form (length x)) (sym (respelled_body c b))
    go (inr e) = absurd cc

pub size_lies : (at k m : ℕ) → Exactly at (to_le_bytes w32 k) (to_le_bytes w32 m) (cond (eqb k m) [] (patch at (to_le_bytes w32 m)))
size_lies at k m = go (eqb k m) refl
  where
    go : (t : Bool) → eqb k m ≡ t → Exactly at (to_le_bytes w32 k) (to_le_bytes w32 m) (cond t [] (patch at (to_le_bytes w32 m)))
    go true e = told at at (to_le_bytes w32 k) (to_le_bytes w32 k) (to_le_bytes w32 k) (to_le_bytes w32 m) [] refl refl (ap (to_le_bytes w32) (sym (eqb-true k m e))) (stays at (to_le_bytes w32 k))
    go false e = put at (to_le_bytes w32 k) (to_le_bytes w32 m) refl

module _ (c : Chunk) (cs : List Chunk) (plain : IsPlain c) (is : IsList c) (at : ℕ) (ks : List Patch) where
  abbrev new_list : Chunk
  new_list = list_with c cs

  abbrev kids : List ℕ
  kids = spell_all (list_run c).chunks

  abbrev left : List ℕ
  left = (list_run c).left

  abbrev word : List ℕ
  word = take 4 c.body

  body_length : length c.body ≡ 4 + (length kids + length left)
  body_length = omega (arith, is.long, ap length is.spelled, length-append kids left, length-drop 4 c.body)

  new_length : length (list_with c cs).body ≡ 4 + (length (spell_all cs) + length left)
  new_length = list_length c cs is

  -- where its chunks keep their length
  list_keeps_pad : length (spell_all cs) ≡ length (spell_all (list_run c).chunks) → (list_with c cs).pad ≡ c.pad
  list_keeps_pad same =
      let b = word ++ (spell_all cs ++ left) in
      keeps_pad c b (ap length (sym (respelled_body c b)) ∙ omega (arith, body_length, new_length, same))

  pub list_exactly : Exactly (at + 12) (spell_all (list_run c).chunks) (spell_all cs) ks → Exactly at (spell c) (spell (list_with c cs)) (list_patch at c (list_with c cs) ++ ks)
  list_exactly k =
      let same : length new_list.body ≡ length c.body = omega (arith, body_length, new_length, k.long) in
      let none : list_patch at c new_list ≡ [] = cond-true (eqb (length c.body) (length new_list.body)) [] (patch (at + 4) (to_le_bytes w32 (length new_list.body))) (eq-eqb (length c.body) (length new_list.body) (sym same)) in
      let pad : new_list.pad ≡ c.pad = list_keeps_pad k.long in
      let head = c.id ++ (to_le_bytes w32 (length c.body) ++ word) in
      let t = left ++ c.pad in
      let long : at + length head ≡ at + 12 = omega (arith, plain.id_len, word_long c is, length-append c.id (to_le_bytes w32 (length c.body) ++ word), length-append (to_le_bytes w32 (length c.body)) word) in
      let old : spell c ≡ head ++ (kids ++ t) = list_is c cs plain is ∙ regroup c.id (to_le_bytes w32 (length c.body)) word (kids ++ t) in
      let new : spell new_list ≡ head ++ (spell_all cs ++ t)
      = list_then c cs plain is ∙ ap (λ (m : ℕ). c.id ++ (to_le_bytes w32 m ++ (word ++ (spell_all cs ++ (left ++ new_list.pad))))) same ∙ ap (λ (p : List ℕ). c.id ++ (to_le_bytes w32 (length c.body) ++ (word ++ (spell_all cs ++ (left ++ p))))) pad
      ∙ regroup c.id (to_le_bytes w32 (length c.body)) word (spell_all cs ++ t) in
      let inner = both (at + length head) kids (spell_all cs) t t ks [] (told (at + 12) (at + length head) kids (spell_all cs) kids (spell_all cs) ks (sym long) refl refl k) (stays ((at + length head) + length kids) t) in
      let whole : Exactly at (spell c) (spell new_list) ([] ++ (ks ++ [])) = told at at (head ++ (kids ++ t)) (head ++ (spell_all cs ++ t)) (spell c) (spell new_list) ([] ++ (ks ++ [])) refl old new (both at head head (kids ++ t) (spell_all cs ++ t) [] (ks ++ []) (stays at head) inner) in
      subst (Exactly at (spell c) (spell new_list)) (append-nil ks ∙ ap (λ (p : List Patch). p ++ ks) (sym none)) whole
    where
      regroup : (a b d z : List ℕ) → a ++ (b ++ (d ++ z)) ≡ (a ++ (b ++ d)) ++ z
      regroup a b d z = simp append_assoc

  -- where they end the file
  pub list_lastly : (list_run c).left ≡ [] → c.pad ≡ [] → (list_with c cs).pad ≡ [] → Lastly (at + 12) (spell_all (list_run c).chunks) (spell_all cs) ks → Lastly at (spell c) (spell (list_with c cs)) (list_patch at c (list_with c cs) ++ ks)
  list_lastly no_left old_pad new_pad k =
      let field = to_le_bytes w32 (length c.body) in
      let then = to_le_bytes w32 (length new_list.body) in
      let size = list_patch at c new_list in
      let p3 : (at + 8) + length word ≡ at + 12 = omega (arith, word_long c is) in
      let p2 : (at + 4) + length field ≡ at + 8 = omega arith in
      let p1 : at + length c.id ≡ at + 4 = omega (arith, plain.id_len) in
      let old : spell c ≡ c.id ++ (field ++ (word ++ kids)) = list_is c cs plain is ∙ ap (λ (z : List ℕ). c.id ++ (field ++ (word ++ (kids ++ (z ++ c.pad))))) no_left ∙ ap (λ (z : List ℕ). c.id ++ (field ++ (word ++ (kids ++ z)))) old_pad ∙ ap (λ (z : List ℕ). c.id ++ (field ++ (word ++ z))) (append-nil kids) in
      let new : spell new_list ≡ c.id ++ (then ++ (word ++ spell_all cs)) = list_then c cs plain is ∙ ap (λ (z : List ℕ). c.id ++ (then ++ (word ++ (spell_all cs ++ (z ++ new_list.pad))))) no_left ∙ ap (λ (z : List ℕ). c.id ++ (then ++ (word ++ (spell_all cs ++ z)))) new_pad ∙ ap (λ (z : List ℕ). c.id ++ (then ++ (word ++ z))) (append-nil (spell_all cs)) in
      let l3 = then_last (at + 8) word word kids (spell_all cs) [] ks (stays (at + 8) word) (last_told (at + 12) ((at + 8) + length word) kids (spell_all cs) kids (spell_all cs) ks (sym p3) refl refl k) in
      let l2 = then_last (at + 4) field then (word ++ kids) (word ++ spell_all cs) size ks (size_lies (at + 4) (length c.body) (length new_list.body)) (last_told (at + 8) ((at + 4) + length field) (word ++ kids) (word ++ spell_all cs) (word ++ kids) (word ++ spell_all cs) ks (sym p2) refl refl l3) in
      let l1 = then_last at c.id c.id (field ++ (word ++ kids)) (then ++ (word ++ spell_all cs)) [] (size ++ ks) (stays at c.id) (last_told (at + 4) (at + length c.id) (field ++ (word ++ kids)) (then ++ (word ++ spell_all cs)) (field ++ (word ++ kids)) (then ++ (word ++ spell_all cs)) (size ++ ks) (sym p1) refl refl l2) in
      last_told at at (c.id ++ (field ++ (word ++ kids))) (c.id ++ (then ++ (word ++ spell_all cs))) (spell c) (spell new_list) (size ++ ks) refl old new l1

  -- it needs no pad where it needed none
  pub list_no_pad : (list_run c).left ≡ [] → c.pad ≡ [] → (length (spell_all (list_run c).chunks) % 2 ≡ 0 → length (spell_all cs) % 2 ≡ 0) → (list_with c cs).pad ≡ []
  list_no_pad no_left none even =
      let b = word ++ (spell_all cs ++ left) in
      let zero : length left ≡ 0 = ap length no_left in
      no_pad c b plain.form_is none (λ h. let k = even (omega (arith, h, body_length, zero)) in omega (arith, k, zero, new_length, ap length (respelled_body c b)))

-- nothing stands behind its chunks, and no pad
ends_are : (ends : Bool) (c : Chunk) → (ends && ends_list c) ≡ true → ((list_run c).left ≡ []) × (c.pad ≡ [])
ends_are ends c t =
    let p = and_parts ends (ends_list c) t in
    let q = and_parts (is_nil (list_run c).left) (is_nil c.pad) p.1 in
    (none_is (list_run c).left q.0, none_is c.pad q.1)

-- ---- the list of a stream

module _ (e : Names) where
  module _ (s : Site) (plain : IsPlain s.chunk) (is : IsList s.chunk) (fit : strl_fits e s ≡ true) where
    abbrev vs : List (List ℕ)
    vs = names_after e s.stream []

    abbrev ps : List Piece
    ps = strl_pieces (new_names e s.stream) s.chunk

    abbrev last_slot : Bool
    last_slot = s.ends && ends_list s.chunk

    brings : BringsPad (strl_pieces (new_names e s.stream) s.chunk)
    brings = units_bring shut (name_cells (new_names e s.stream) (map cell_of (list_run s.chunk).chunks)) tt

    fits : AllFit (strl_fill s.ends s.chunk) (s.ends && ends_list s.chunk) (strl_pieces (new_names e s.stream) s.chunk)
    fits = riff_fits last_slot ps fit

    old : spell_all (list_run s.chunk).chunks ≡ flat_map old_bytes (strl_pieces (new_names e s.stream) s.chunk)
    old = sym (units_old shut (name_cells (made_names vs) (map cell_of (list_run s.chunk).chunks)) ∙ ap spell_all (was_is s.ends vs s.chunk plain is))

    pub strl_exactly : (s.ends && ends_list s.chunk) ≡ false → Exactly s.at (spell s.chunk) (spell (strl_named s.ends (new_names e s.stream) s.chunk)) (strl_patches e s)
    strl_exactly n =
        let cs = lay (strl_fill s.ends s.chunk) ps in
        list_exactly s.chunk cs plain is s.at (unit_patches (strl_fill s.ends s.chunk) (s.at + 12) ps)
        (told (s.at + 12) (s.at + 12) (flat_map old_bytes ps) (spell_all cs) (spell_all (list_run s.chunk).chunks) (spell_all cs) (unit_patches (strl_fill s.ends s.chunk) (s.at + 12) ps) refl old refl (units_exactly (strl_fill s.ends s.chunk) last_slot (s.at + 12) ps n brings fits))

    -- its chunks are even where they were
    padded_then : ArePadded (list_run s.chunk).chunks → ArePadded (laid_chunks s.ends vs s.chunk)
    padded_then h =
        lay_all IsPadded (strl_fill s.ends s.chunk) (record { on_pads = λ d k. length-replicate (pad_len d.form (length d.body)) 0; on_fill = λ last slot k. fill_all IsPadded (λ body. made_padded (codes "JUNK") body) (s.ends && ends_list s.chunk) last slot k }) shut
        (name_cells (made_names vs) (map cell_of (list_run s.chunk).chunks)) tt (cells_names IsPadded (made_names vs) (all_names IsPadded (λ body. made_padded (codes "strn") body) vs) (map cell_of (list_run s.chunk).chunks) (cells_all IsPadded (list_run s.chunk).chunks h))

    even_then : ((list_run s.chunk).left ≡ []) → length (spell_all (list_run s.chunk).chunks) % 2 ≡ 0 → length (spell_all (lay (strl_fill s.ends s.chunk) (strl_pieces (new_names e s.stream) s.chunk))) % 2 ≡ 0
    even_then none h = even_all (lay (strl_fill s.ends s.chunk) ps) (strl_plain s.ends vs s.chunk is) (padded_then (all_padded (list_run s.chunk).chunks (list_plain s.chunk) (subst (λ (l : List ℕ). Pads (list_run s.chunk).chunks l) none is.pads) h))

    pub strl_lastly : (s.ends && ends_list s.chunk) ≡ true → Lastly s.at (spell s.chunk) (spell (strl_named s.ends (new_names e s.stream) s.chunk)) (strl_patches e s)
    strl_lastly t =
        let cs = lay (strl_fill s.ends s.chunk) ps in
        let none = ends_are s.ends s.chunk t in
        list_lastly s.chunk cs plain is s.at (unit_patches (strl_fill s.ends s.chunk) (s.at + 12) ps) none.0 none.1 (list_no_pad s.chunk cs plain is s.at (unit_patches (strl_fill s.ends s.chunk) (s.at + 12) ps) none.0 none.1 (even_then none.0))
        (last_told (s.at + 12) (s.at + 12) (flat_map old_bytes ps) (spell_all cs) (spell_all (list_run s.chunk).chunks) (spell_all cs) (unit_patches (strl_fill s.ends s.chunk) (s.at + 12) ps) refl old refl
        (units_lastly (strl_fill s.ends s.chunk) last_slot (s.at + 12) ps (last_units shut (name_cells (new_names e s.stream) (map cell_of (list_run s.chunk).chunks))) brings fits))

    -- it keeps its pad
    pub strl_pad : (strl_named s.ends (new_names e s.stream) s.chunk).pad ≡ s.chunk.pad
    strl_pad = go (s.ends && ends_list s.chunk) refl
      where
        go : (t : Bool) → (s.ends && ends_list s.chunk) ≡ t → (strl_named s.ends (new_names e s.stream) s.chunk).pad ≡ s.chunk.pad
        go false n =
            let cs = lay (strl_fill s.ends s.chunk) ps in
            list_keeps_pad s.chunk cs plain is s.at [] (omega (arith, (units_exactly (strl_fill s.ends s.chunk) last_slot (s.at + 12) ps n brings fits).long, ap length old))
        go true t =
            let none = ends_are s.ends s.chunk t in
            list_no_pad s.chunk (lay (strl_fill s.ends s.chunk) ps) plain is s.at [] none.0 none.1 (even_then none.0) ∙ sym none.1

  -- ---- the chunks of hdrl

  abbrev site : Bool → ℕ → ℕ → Chunk → Site
  site ends n at c = record { at = at; ends = ends; stream = n; chunk = c }

  -- the site of one that is named
  abbrev one : Bool → ℕ → ℕ → Chunk → List Site
  one ends n at c = cond (is_strl c && is_named e n) (record { at = at; ends = ends; stream = n; chunk = c } ∷ []) []

  all_both : (xs ys : List Site) → list_all (strl_fits e) (xs ++ ys) ≡ true → (list_all (strl_fits e) xs ≡ true) × (list_all (strl_fits e) ys ≡ true)
  all_both [] ys h = (refl, h)
  all_both (x ∷ xs) ys h =
      let p = and_parts (strl_fits e x) (list_all (strl_fits e) (xs ++ ys)) h in
      let q = all_both xs ys p.1 in
      (ap (λ (t : Bool). t && list_all (strl_fits e) xs) p.0 ∙ q.0, q.1)

  kid_exactly : (ends : Bool) (n at : ℕ) (c : Chunk) → ends ≡ false → IsKid c → list_all (strl_fits e) (one ends n at c) ≡ true → Exactly at (spell c) (spell (kid_named e ends n c)) (flat_map (strl_patches e) (one ends n at c))
  kid_exactly ends n at c between h fit = go (is_strl c) refl (is_named e n) fit
    where
      go : (t : Bool) → is_strl c ≡ t → (u : Bool) → list_all (strl_fits e) (cond (t && u) (record { at = at; ends = ends; stream = n; chunk = c } ∷ []) []) ≡ true
          → Exactly at (spell c) (spell (cond (t && u) (strl_named ends (new_names e n) c) c)) (flat_map (strl_patches e) (cond (t && u) (record { at = at; ends = ends; stream = n; chunk = c } ∷ []) []))
      go true i true fit =
          let s = site ends n at c in
          subst (Exactly at (spell c) (spell (strl_named ends (new_names e n) c))) (sym (append-nil (strl_patches e s))) (strl_exactly s h.plain (h.opens i) (and_parts (strl_fits e s) true fit).0 (ap (λ (t : Bool). t && ends_list c) between))
      go true i false fit = stays at (spell c)
      go false i u fit = stays at (spell c)

  kid_lastly : (ends : Bool) (n at : ℕ) (c : Chunk) → IsKid c → list_all (strl_fits e) (one ends n at c) ≡ true → Lastly at (spell c) (spell (kid_named e ends n c)) (flat_map (strl_patches e) (one ends n at c))
  kid_lastly ends n at c h fit = go (is_strl c) refl (is_named e n) fit
    where
      strl : (i : is_strl c ≡ true) → strl_fits e (record { at = at; ends = ends; stream = n; chunk = c }) ≡ true → (t : Bool) → (ends && ends_list c) ≡ t
          → Lastly at (spell c) (spell (strl_named ends (new_names e n) c)) (strl_patches e (record { at = at; ends = ends; stream = n; chunk = c }))
      strl i f true t = strl_lastly (site ends n at c) h.plain (h.opens i) f t
      strl i f false t = weaker at (spell c) (spell (strl_named ends (new_names e n) c)) (strl_patches e (site ends n at c)) (strl_exactly (site ends n at c) h.plain (h.opens i) f t)

      go : (t : Bool) → is_strl c ≡ t → (u : Bool) → list_all (strl_fits e) (cond (t && u) (record { at = at; ends = ends; stream = n; chunk = c } ∷ []) []) ≡ true
          → Lastly at (spell c) (spell (cond (t && u) (strl_named ends (new_names e n) c) c)) (flat_map (strl_patches e) (cond (t && u) (record { at = at; ends = ends; stream = n; chunk = c } ∷ []) []))
      go true i true fit =
          let s = site ends n at c in
          subst (Lastly at (spell c) (spell (strl_named ends (new_names e n) c))) (sym (append-nil (strl_patches e s))) (strl i (and_parts (strl_fits e s) true fit).0 (ends && ends_list c) refl)
      go true i false fit = weaker at (spell c) (spell c) [] (stays at (spell c))
      go false i u fit = weaker at (spell c) (spell c) [] (stays at (spell c))

  patches_split : (ends last : Bool) (n at : ℕ) (c : Chunk) (cs : List Chunk)
      → flat_map (strl_patches e) (one last n at c ++ sites_from e ends (counted is_strl n c) (at + length (spell c)) cs) ≡ flat_map (strl_patches e) (one last n at c) ++ flat_map (strl_patches e) (sites_from e ends (counted is_strl n c) (at + length (spell c)) cs)
  patches_split ends last n at c cs = flat_map-append (strl_patches e) (one last n at c) (sites_from e ends (counted is_strl n c) (at + length (spell c)) cs)

  kids_exactly : (ends : Bool) (n at : ℕ) (cs : List Chunk) → ends ≡ false → AreKids cs → list_all (strl_fits e) (sites_from e ends n at cs) ≡ true → Exactly at (spell_all cs) (spell_all (kids_named e ends n cs)) (flat_map (strl_patches e) (sites_from e ends n at cs))
  kids_exactly ends n at [] between h fit = stays at []
  kids_exactly ends n at (c ∷ cs) between h fit =
      let last = ends && is_nil cs in
      let k = counted is_strl n c in
      let next = at + length (spell c) in
      let f = all_both (one last n at c) (sites_from e ends k next cs) fit in
      subst (Exactly at (spell_all (c ∷ cs)) (spell_all (kids_named e ends n (c ∷ cs)))) (sym (patches_split ends last n at c cs))
      (both at (spell c) (spell (kid_named e last n c)) (spell_all cs) (spell_all (kids_named e ends k cs)) (flat_map (strl_patches e) (one last n at c)) (flat_map (strl_patches e) (sites_from e ends k next cs)) (kid_exactly last n at c (ap (λ (t : Bool). t && is_nil cs) between) h.0 f.0) (kids_exactly ends k next cs between h.1 f.1))

  kids_lastly : (ends : Bool) (n at : ℕ) (cs : List Chunk) → AreKids cs → list_all (strl_fits e) (sites_from e ends n at cs) ≡ true → Lastly at (spell_all cs) (spell_all (kids_named e ends n cs)) (flat_map (strl_patches e) (sites_from e ends n at cs))
  kids_lastly ends n at [] h fit = weaker at [] [] [] (stays at [])
  kids_lastly ends n at (c ∷ []) h fit =
      let last = ends && true in
      let k = counted is_strl n c in
      let next = at + length (spell c) in
      let f = all_both (one last n at c) [] fit in
      subst (Lastly at (spell_all (c ∷ [])) (spell_all (kid_named e last n c ∷ []))) (sym (patches_split ends last n at c []))
      (last_told at at (spell c) (spell (kid_named e last n c)) (spell c ++ []) (spell (kid_named e last n c) ++ []) (flat_map (strl_patches e) (one last n at c) ++ []) refl (append-nil (spell c)) (append-nil (spell (kid_named e last n c)))
      (subst (Lastly at (spell c) (spell (kid_named e last n c))) (sym (append-nil (flat_map (strl_patches e) (one last n at c)))) (kid_lastly last n at c h.0 f.0)))
  kids_lastly ends n at (c ∷ (d ∷ ds)) h fit =
      let last = ends && false in
      let k = counted is_strl n c in
      let next = at + length (spell c) in
      let cs = d ∷ ds in
      let f = all_both (one last n at c) (sites_from e ends k next cs) fit in
      subst (Lastly at (spell_all (c ∷ cs)) (spell_all (kids_named e ends n (c ∷ cs)))) (sym (patches_split ends last n at c cs))
      (then_last at (spell c) (spell (kid_named e last n c)) (spell_all cs) (spell_all (kids_named e ends k cs)) (flat_map (strl_patches e) (one last n at c)) (flat_map (strl_patches e) (sites_from e ends k next cs)) (kid_exactly last n at c (off ends) h.0 f.0) (kids_lastly ends k next (d ∷ ds) h.1 f.1))
    where
      off : (t : Bool) → (t && false) ≡ false
      off true = refl
      off false = refl

  -- they are even where they were
  kids_padded : (ends : Bool) (n : ℕ) (cs : List Chunk) → AreKids cs → ArePadded cs → ArePadded (kids_named e ends n cs)
  kids_padded ends n [] h p = tt
  kids_padded ends n (c ∷ cs) h p = (go (is_strl c && is_named e n), kids_padded ends (counted is_strl n c) cs h.1 p.1)
    where
      go : (t : Bool) → IsPadded (cond t (strl_named (ends && is_nil cs) (new_names e n) c) c)
      go true = respelled_padded c (take 4 c.body ++ (spell_all (lay (strl_fill (ends && is_nil cs) c) (strl_pieces (new_names e n) c)) ++ (list_run c).left)) h.0.plain.form_is p.0
      go false = p.0

  -- ---- hdrl

  module _ (s : Site) (plain : IsPlain s.chunk) (is : IsList s.chunk) (kids : AreKids (list_run s.chunk).chunks) (fit : list_all (strl_fits e) (sites_in e s) ≡ true) where
    abbrev new : List Chunk
    new = kids_named e (s.ends && ends_list s.chunk) 0 (list_run s.chunk).chunks

    pub hdrl_exactly : (s.ends && ends_list s.chunk) ≡ false → Exactly s.at (spell s.chunk) (spell (hdrl_named e s.ends s.chunk)) (hdrl_patches e s)
    hdrl_exactly n = list_exactly s.chunk new plain is s.at (flat_map (strl_patches e) (sites_in e s)) (kids_exactly (s.ends && ends_list s.chunk) 0 (s.at + 12) (list_run s.chunk).chunks n kids fit)

    evens : ((list_run s.chunk).left ≡ []) → length (spell_all (list_run s.chunk).chunks) % 2 ≡ 0 → length (spell_all (kids_named e (s.ends && ends_list s.chunk) 0 (list_run s.chunk).chunks)) % 2 ≡ 0
    evens none h = even_all new (kids_plain e (s.ends && ends_list s.chunk) 0 (list_run s.chunk).chunks kids) (kids_padded (s.ends && ends_list s.chunk) 0 (list_run s.chunk).chunks kids (all_padded (list_run s.chunk).chunks (list_plain s.chunk) (subst (λ (l : List ℕ). Pads (list_run s.chunk).chunks l) none is.pads) h))

    pub hdrl_lastly : (s.ends && ends_list s.chunk) ≡ true → Lastly s.at (spell s.chunk) (spell (hdrl_named e s.ends s.chunk)) (hdrl_patches e s)
    hdrl_lastly t =
        let none = ends_are s.ends s.chunk t in
        list_lastly s.chunk new plain is s.at (flat_map (strl_patches e) (sites_in e s)) none.0 none.1 (list_no_pad s.chunk new plain is s.at (flat_map (strl_patches e) (sites_in e s)) none.0 none.1 (evens none.0))
        (kids_lastly (s.ends && ends_list s.chunk) 0 (s.at + 12) (list_run s.chunk).chunks kids fit)

    -- it keeps its pad
    pub hdrl_pad : (hdrl_named e s.ends s.chunk).pad ≡ s.chunk.pad
    hdrl_pad = go (s.ends && ends_list s.chunk) refl
      where
        go : (t : Bool) → (s.ends && ends_list s.chunk) ≡ t → (hdrl_named e s.ends s.chunk).pad ≡ s.chunk.pad
        go false n = list_keeps_pad s.chunk new plain is s.at [] (kids_exactly (s.ends && ends_list s.chunk) 0 (s.at + 12) (list_run s.chunk).chunks n kids fit).long
        go true t =
            let none = ends_are s.ends s.chunk t in
            list_no_pad s.chunk new plain is s.at [] none.0 none.1 (evens none.0) ∙ sym none.1
