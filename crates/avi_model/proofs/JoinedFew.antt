-- The patches of an edit of fields and names in place are no more than the parts of the new file.
use Rattle.std.proofs.Common.{◌≡◌, ℕ, suc, ◌+◌, ◌^◌, ◌<◌, ◌≤◌, Bool, true, false, cond, eqb, List, [], ◌∷◌, ◌++◌, length, map, refl, sym, ap, subst, ◌∙◌, arith, inl, inr}
use Rattle.std.specs.Prelude.{◌⊎◌, ◌&&◌, not, codes}
use Rattle.std.specs.Int.{w32, to_le_bytes}
use Rattle.std.specs.List.{flat_map}
use Rattle.std.proofs.lemmas.Bool.{ltb-true}
use Rattle.std.proofs.lemmas.List.{append-nil, length-append, length-map}
use Rattle.std.proofs.lemmas.List.Concat.{flat_map-append}
use Rattle.container_model.specs.Chunk.{Chunk, PadStands, Pads, spell, spell_all}
use Rattle.container_model.specs.Items.{is_nil}
use Rattle.container_model.specs.Stood.{Stood, bare, stood, only, first_of}
use Rattle.container_model.specs.Units.{Cell, kept, gap, edited, was, lacks_pad, padded, Piece, copied, replaced, Slot, shut, begun, is_empty, closed, kept_next, units, lay, lead_pad, Fill}
use Rattle.container_model.proofs.Copied.{moved_to}
use Rattle.container_model.proofs.Reread.{CellPads, IsPadded}
use Rattle.carrier_model.specs.Cells.{counted}
use Rattle.carrier_model.specs.Info.{is_type, list_run, riff_fill}
use Rattle.carrier_model.specs.Room.{patch, unit_patches}
use Rattle.carrier_model.proofs.Cells.{pads_acted}
use Rattle.carrier_model.proofs.Few.{copies, pieces_few}
use Rattle.carrier_model.proofs.Info.{made_padded}
use Rattle.carrier_model.proofs.Patches.{one_patch}
use Rattle.avi_model.specs.After.{Changes, children_after}
use Rattle.avi_model.specs.Avi.{Avi, kids, is_movi, top}
use Rattle.avi_model.specs.Named.{Names, Site, cell_by, cell_of, children_named, ends_file, ends_list, hdrl_from, hdrl_named, is_hdrl, is_named, is_strl, kid_named, kids_named, named, new_names, sites_from, sites_in, strl_fill, strl_named, strl_pieces}
use Rattle.avi_model.specs.NewFile.{new_cells}
use Rattle.avi_model.specs.RoomAfter.{hdrl_patches, list_patch, strl_patches}
use Rattle.avi_model.specs.Support.{count_kids}
use Rattle.avi_model.proofs.Children.{AreChildren, HdrlSmall, behind_one, kids_of}
use Rattle.avi_model.proofs.Edit.{act_of, cells_pads, makes_lists, solid}
use Rattle.avi_model.proofs.Few.{kept_weight, weight, weight_count, weight_new, weight_one}
use Rattle.avi_model.proofs.NamedAlike.{not_padding}
use Rattle.avi_model.proofs.NamesSet.{kids_small}
use Rattle.avi_model.proofs.OneSplice.{AllReal, real_new}
use Rattle.avi_model.proofs.Respelled.{IsList, list_type, strl_run}
use Rattle.avi_model.proofs.Streams.{AreKids, hdrl_run, kid_strl, laid_small, none_after}

-- ---- a chunk that a unit brings has new chunks behind it

-- the chunks before units
abbrev leads : List Piece → ℕ
leads [] = 0
leads (copied c ∷ ps) = leads ps
leads (replaced lead slot now last ∷ ps) = length lead + leads ps

-- a unit with a chunk before it has new chunks
abbrev AllGood : List Piece → Type 0
AllGood [] = Unit {0}
AllGood (copied c ∷ ps) = AllGood ps
AllGood (replaced lead slot now last ∷ ps) = ((length lead ≡ 0) ⊎ (0 < length now)) × AllGood ps

good_few : (at : ℕ) (lead now more : List Chunk) → (length lead ≡ 0) ⊎ (0 < length now) → length (patch at ((lead_pad lead ++ spell_all now) ++ Rattle.std.proofs.Common.take 8 (spell_all more))) + length lead ≤ length (map padded lead ++ (now ++ more))
good_few at [] [] [] g = omega arith
good_few at [] [] (c ∷ more) g = omega (arith, one_patch at ((lead_pad [] ++ spell_all []) ++ Rattle.std.proofs.Common.take 8 (spell_all (c ∷ more))))
good_few at [] (c ∷ now) more g = omega (arith, one_patch at ((lead_pad [] ++ spell_all (c ∷ now)) ++ Rattle.std.proofs.Common.take 8 (spell_all more)))
good_few at (c ∷ lead) now more (inl g) = absurd (omega (arith, g))
good_few at (c ∷ lead) now more (inr g) =
    omega (
      arith,
      g,
      one_patch at ((lead_pad (c ∷ lead) ++ spell_all now) ++ Rattle.std.proofs.Common.take 8 (spell_all more)),
      length-append (map padded (c ∷ lead)) (now ++ more),
      length-append now more,
      length-map (c ∷ lead) padded,
    )

good_pieces : (fill : Fill) (at : ℕ) (ps : List Piece) → AllGood ps → length (unit_patches fill at ps) + (copies ps + leads ps) ≤ length (lay fill ps)
good_pieces fill at [] g = omega arith
good_pieces fill at (copied c ∷ ps) g = omega (arith, good_pieces fill (at + length (spell c)) ps g)
good_pieces fill at (replaced lead slot now last ∷ ps) g =
    let u = lead_pad lead ++ spell_all now in
    let f = fill last slot (length u) in
    let here = at + length (spell_all lead) in
    let next = at + length (spell_all lead ++ slot) in
    omega (arith, good_pieces fill next ps g.1, good_few here lead now f g.0, length-append (patch here (u ++ Rattle.std.proofs.Common.take 8 (spell_all f))) (unit_patches fill next ps), length-append (map padded lead ++ (now ++ f)) (lay fill ps))

-- an edited place with new chunks comes next
abbrev Starts : List Cell → Type 0
Starts [] = ⊥
Starts (kept c ∷ xs) = ⊥
Starts (gap c ∷ xs) = ⊥
Starts (edited old now ∷ xs) = 0 < length now

abbrev SlotGood : Slot → List Cell → Type 0
SlotGood shut xs = Unit {0}
SlotGood (begun lead slot now) xs = (length lead ≡ 0) ⊎ ((0 < length now) ⊎ Starts xs)

closed_good : (last : Bool) (s : Slot) (ps : List Piece) (xs : List Cell) → (Starts xs → ⊥) → SlotGood s xs → AllGood ps → AllGood (closed last s ++ ps)
closed_good last shut ps xs n g h = h
closed_good last (begun lead slot now) ps xs n (inl g) h = (inl g, h)
closed_good last (begun lead slot now) ps xs n (inr (inl g)) h = (inr g, h)
closed_good last (begun lead slot now) ps xs n (inr (inr g)) h = absurd (n g)

-- behind a chunk that lacks its pad nothing stood
starts_behind : (c : Chunk) (xs : List Cell) (left : List ℕ) → PadStands c.form (length c.body) c.pad (spell_all (flat_map was xs) ++ left) → AllReal xs → (lacks_pad c && not (is_empty xs)) ≡ true → Starts xs
starts_behind c xs left s r t = go (lacks_pad c) refl xs s r t
  where
    none : (xs : List Cell) → flat_map was xs ≡ [] → AllReal xs → not (is_empty xs) ≡ true → Starts xs
    none [] n r t = absurd cc
    none (kept c ∷ xs) n r t = absurd cc
    none (gap c ∷ xs) n r t = absurd cc
    none (edited [] now ∷ xs) n r t = omega (arith, r.0)
    none (edited (d ∷ old) now ∷ xs) n r t = absurd cc

    go : (u : Bool) → lacks_pad c ≡ u → (xs : List Cell) → PadStands c.form (length c.body) c.pad (spell_all (flat_map was xs) ++ left) → AllReal xs → (u && not (is_empty xs)) ≡ true → Starts xs
    go false l xs s r t = absurd cc
    go true l xs (inl s) r t = absurd (omega (arith, s, ltb-true _ _ l))
    go true l xs (inr s) r t = none xs (none_after (flat_map was xs) left s.1).0 r t

next_good : (t : Bool) (c : Chunk) (xs : List Cell) → (t ≡ true → Starts xs) → ((s : Slot) → SlotGood s xs → AllGood (units s xs)) → AllGood (kept_next t c (λ s. units s xs))
next_good true c xs h again = again (begun (c ∷ []) [] []) (inr (inr (h refl)))
next_good false c xs h again = again shut tt

units_good : (s : Slot) (xs : List Cell) (left : List ℕ) → CellPads xs left → AllReal xs → SlotGood s xs → AllGood (units s xs)
unfolding units
units_good shut [] left p r g = tt
units_good (begun lead slot now) [] left p r g = closed_good true (begun lead slot now) [] [] (λ h. h) g tt
units_good s (kept c ∷ xs) left p r g =
    let t = lacks_pad c && not (is_empty xs) in
    closed_good false s (kept_next t c (λ u. units u xs)) (kept c ∷ xs) (λ h. h) g (next_good t c xs (starts_behind c xs left p.0 r) (λ u k. units_good u xs left p.1 r k))
units_good shut (gap c ∷ xs) left p r g =
    next_good (lacks_pad c && not (is_empty xs)) c xs (starts_behind c xs left p.0 r) (λ u k. units_good u xs left p.1 r k)
units_good (begun lead slot now) (gap c ∷ xs) left p r g = units_good (begun lead (slot ++ spell c) now) xs left p.1 r (pass g)
  where
    pass : (length lead ≡ 0) ⊎ ((0 < length now) ⊎ ⊥) → SlotGood (begun lead (slot ++ spell c) now) xs
    pass (inl h) = inl h
    pass (inr (inl h)) = inr (inl h)
    pass (inr (inr h)) = absurd h
units_good shut (edited old new ∷ xs) left p r g = units_good (begun [] (spell_all old) new) xs left p.1 r.1 (inl refl)
units_good (begun lead slot now) (edited old new ∷ xs) left p r g = units_good (begun lead (slot ++ spell_all old) (now ++ new)) xs left p.1 r.1 (pass g)
  where
    pass : (length lead ≡ 0) ⊎ ((0 < length now) ⊎ (0 < length new)) → SlotGood (begun lead (slot ++ spell_all old) (now ++ new)) xs
    pass (inl h) = inl h
    pass (inr (inl h)) = inr (inl (omega (arith, h, length-append now new)))
    pass (inr (inr h)) = inr (inl (omega (arith, h, length-append now new)))

-- each chunk that is kept is copied, or stands before a unit
abbrev lead_count : Slot → ℕ
lead_count shut = 0
lead_count (begun lead slot now) = length lead

closed_held : (last : Bool) (s : Slot) (ps : List Piece) → copies (closed last s ++ ps) + leads (closed last s ++ ps) ≡ lead_count s + (copies ps + leads ps)
closed_held last shut ps = omega arith
closed_held last (begun lead slot now) ps = omega arith

next_held : (t : Bool) (c : Chunk) (xs : List Cell) (n : ℕ) → ((s : Slot) → n + lead_count s ≤ copies (units s xs) + leads (units s xs)) → 1 + n ≤ copies (kept_next t c (λ s. units s xs)) + leads (kept_next t c (λ s. units s xs))
next_held true c xs n again = omega (arith, again (begun (c ∷ []) [] []))
next_held false c xs n again = omega (arith, again shut)

units_held : (s : Slot) (xs : List Cell) → kept_weight xs + lead_count s ≤ copies (units s xs) + leads (units s xs)
unfolding units
units_held shut [] = omega arith
units_held (begun lead slot now) [] = omega arith
units_held s (kept c ∷ xs) =
    let t = lacks_pad c && not (is_empty xs) in
    omega (arith, closed_held false s (kept_next t c (λ u. units u xs)), next_held t c xs (kept_weight xs) (λ u. units_held u xs), weight_one c)
units_held shut (gap c ∷ xs) = omega (arith, next_held (lacks_pad c && not (is_empty xs)) c xs (kept_weight xs) (λ u. units_held u xs))
units_held (begun lead slot now) (gap c ∷ xs) = units_held (begun lead (slot ++ spell c) now) xs
units_held shut (edited old new ∷ xs) = omega (arith, units_held (begun [] (spell_all old) new) xs)
units_held (begun lead slot now) (edited old new ∷ xs) = units_held (begun lead (slot ++ spell_all old) (now ++ new)) xs

-- ---- hdrl and a movi list are kept

named_weight : (e : Names) (last : Bool) (cs : List Chunk) → AreChildren cs → kept_weight (map cell_of (children_named e last cs)) ≡ kept_weight (map cell_of cs)
named_weight e last [] h = refl
named_weight e last (c ∷ cs) h = go (is_hdrl c) refl (λ i. named_weight e last cs (behind_one c cs h i))
  where
    one : (d : Chunk) → kept_weight (cell_of d ∷ map cell_of cs) ≡ kept_weight (cell_by d (Rattle.carrier_model.specs.Info.is_padding d) ∷ map cell_of cs)
    one d = refl

    same : (d : Chunk) (xs ys : List Cell) → kept_weight xs ≡ kept_weight ys → kept_weight (cell_of d ∷ xs) ≡ kept_weight (cell_of d ∷ ys)
    same d xs ys g = by (Rattle.carrier_model.specs.Info.is_padding d)
      where
        by : (t : Bool) → kept_weight (cell_by d t ∷ xs) ≡ kept_weight (cell_by d t ∷ ys)
        by true = g
        by false = ap (λ (k : ℕ). weight d + k) g

    go : (t : Bool) → is_hdrl c ≡ t → (is_hdrl c ≡ false → kept_weight (map cell_of (children_named e last cs)) ≡ kept_weight (map cell_of cs))
        → kept_weight (map cell_of (cond t (hdrl_named e (last && is_nil cs) c ∷ cs) (c ∷ children_named e last cs))) ≡ kept_weight (map cell_of (c ∷ cs))
    go false i again = same c (map cell_of (children_named e last cs)) (map cell_of cs) (again i)
    go true i again =
        let n = hdrl_named e (last && is_nil cs) c in
        let ks = kids_of e (last && is_nil cs) c in
        let o = (h.1.0 i).0 in
        let hdrl = list_type (codes "hdrl") c ks o in
        let movi = list_type (codes "movi") c ks o in
        let weights : weight n ≡ weight c = ap (λ (t : Bool). cond t 1 0 + cond (is_movi n) 1 0) hdrl ∙ ap (λ (t : Bool). cond (is_hdrl c) 1 0 + cond t 1 0) movi in
        ap (λ (t : Bool). kept_weight (cell_by n t ∷ map cell_of cs)) (not_padding n (hdrl ∙ i)) ∙ ap (λ (k : ℕ). k + kept_weight (map cell_of cs)) weights ∙ sym (ap (λ (t : Bool). kept_weight (cell_by c t ∷ map cell_of cs)) (not_padding c i))

first_some : (xs : List Stood) → 0 < length (first_of xs) → 0 < length xs
first_some [] h = h
first_some (x ∷ xs) h = omega arith

-- The patches of the units, and two more, are no more than the new chunks of the form.
pub units_few : (a : Avi) (e : Changes) → AreChildren a.children → Pads (named a e.names).children a.left → 0 < length (first_of (only is_hdrl (top a))) → 0 < length (only is_movi (top a))
    → length (unit_patches (riff_fill (ends_file a)) 12 (units shut (new_cells (named a e.names) e.infos))) + 2 ≤ length (children_after a e)
units_few a e h pads hdrl movi =
    let n = named a e.names in
    let xs = new_cells n e.infos in
    let ps = units shut xs in
    let cells : CellPads xs a.left = pads_acted (act_of e.infos (solid n e.infos)) (makes_lists IsPadded (λ b. made_padded (codes "LIST") b) e.infos (solid n e.infos)) (map cell_of n.children) a.left (cells_pads n.children a.left pads) in
    let good = good_pieces (riff_fill (ends_file a)) 12 ps (units_good shut xs a.left cells (real_new n e.infos) tt) in
    let held = units_held shut xs in
    let two : 2 ≤ kept_weight xs = omega (arith, weight_new n e.infos, named_weight e.names (ends_file a) a.children h, weight_count 12 a.children, first_some (only is_hdrl (top a)) hdrl, movi) in
    omega (arith, good, held, two)

-- ---- the patches of the names

list_few : (at : ℕ) (old new : Chunk) → length (list_patch at old new) ≤ 1
list_few at old new = go (eqb (length old.body) (length new.body))
  where
    go : (t : Bool) → length (cond t [] (patch (at + 4) (to_le_bytes w32 (length new.body)))) ≤ 1
    go true = omega arith
    go false = one_patch (at + 4) (to_le_bytes w32 (length new.body))

module _ (e : Names) where
  strl_few : (s : Site) → IsList s.chunk → length (spell (strl_named s.ends (new_names e s.stream) s.chunk)) < 2 ^ 32 → length (strl_patches e s) ≤ 1 + length (list_run (strl_named s.ends (new_names e s.stream) s.chunk)).chunks
  strl_few s is lt =
      let vs = Rattle.avi_model.specs.Named.names_after e s.stream [] in
      let new = strl_named s.ends (new_names e s.stream) s.chunk in
      let ps = strl_pieces (new_names e s.stream) s.chunk in
      let run = strl_run s.ends vs s.chunk is (laid_small e s.ends s.stream s.chunk is lt) in
      let list = list_patch s.at s.chunk new in
      omega (
        arith,
        list_few s.at s.chunk new,
        pieces_few (strl_fill s.ends s.chunk) (s.at + 12) ps,
        ap (λ (r : Rattle.container_model.specs.Chunk.Run). length r.chunks) run,
        length-append list (unit_patches (strl_fill s.ends s.chunk) (s.at + 12) ps),
      )

  -- the streams' lists among the chunks of hdrl
  abbrev strls_in : ℕ → List Chunk → List Stood
  strls_in at cs = only is_strl (stood at cs)

  kids_few : (ends : Bool) (n at to : ℕ) (cs : List Chunk) → AreKids cs → length (spell_all (kids_named e ends n cs)) < 2 ^ 32
      → length (flat_map (strl_patches e) (sites_from e ends n at cs)) ≤ length (kids_named e ends n cs) + count_kids (strls_in to (kids_named e ends n cs))
  kids_few ends n at to [] h lt = omega arith
  kids_few ends n at to (c ∷ cs) h lt =
      let last = ends && is_nil cs in
      let k = counted is_strl n c in
      let next = at + length (spell c) in
      let now = kid_named e last n c in
      let more = kids_named e ends k cs in
      let goal = to + length (spell now) in
      let long = length-append (spell now) (spell_all more) in
      let again = kids_few ends k next goal cs h.1 (omega (arith, lt, long)) in
      let site : Site = record { at = at; ends = last; stream = n; chunk = c } in
      let here : List Site = cond (is_strl c && is_named e n) (site ∷ []) [] in
      let one = kid_few last n at to c h.0 (strls_in goal more) (omega (arith, lt, long)) in
      let split = flat_map-append (strl_patches e) here (sites_from e ends k next cs) in
      omega (arith, again, one, ap length split, length-append (flat_map (strl_patches e) here) (flat_map (strl_patches e) (sites_from e ends k next cs)))
    where
      kid_few : (last : Bool) (n at to : ℕ) (c : Chunk) → Rattle.avi_model.proofs.Streams.IsKid c → (more : List Stood) → length (spell (kid_named e last n c)) < 2 ^ 32
          → length (flat_map (strl_patches e) (cond (is_strl c && is_named e n) (record { at = at; ends = last; stream = n; chunk = c } ∷ []) [])) + count_kids more
          ≤ 1 + count_kids (cond (is_strl (bare (kid_named e last n c))) (record { at = to; chunk = bare (kid_named e last n c) } ∷ more) more)
      kid_few last n at to c h more lt =
          subst (λ (t : Bool). length (flat_map (strl_patches e) (cond (is_strl c && is_named e n) (record { at = at; ends = last; stream = n; chunk = c } ∷ []) [])) + count_kids more ≤ 1 + count_kids (cond t (record { at = to; chunk = bare (kid_named e last n c) } ∷ more) more)) (sym (kid_strl e last n c h))
          (go (is_strl c) refl (is_named e n) lt)
        where
          go : (t : Bool) → is_strl c ≡ t → (u : Bool) → length (spell (cond (t && u) (strl_named last (new_names e n) c) c)) < 2 ^ 32
              → length (flat_map (strl_patches e) (cond (t && u) (record { at = at; ends = last; stream = n; chunk = c } ∷ []) [])) + count_kids more
              ≤ 1 + count_kids (cond t (record { at = to; chunk = bare (cond (t && u) (strl_named last (new_names e n) c) c) } ∷ more) more)
          go true i true lt =
              let s : Site = record { at = at; ends = last; stream = n; chunk = c } in
              omega (arith, strl_few s (h.opens i) lt, ap length (append-nil (strl_patches e s)))
          go true i false lt = omega arith
          go false i u lt = omega arith

  -- the first hdrl and the streams' lists in it
  abbrev strls_of : List Stood → List Stood
  strls_of xs = only is_strl (flat_map kids (first_of (only is_hdrl xs)))

  -- The patches of the names, but for one, are no more than the chunks of hdrl and those of the streams' lists.
  pub names_few : (last : Bool) (at to : ℕ) (cs : List Chunk) → AreChildren cs → HdrlSmall e last cs
      → length (flat_map (hdrl_patches e) (hdrl_from last at cs)) ≤ 1 + (count_kids (first_of (only is_hdrl (stood to (children_named e last cs)))) + count_kids (strls_of (stood to (children_named e last cs))))
  names_few last at to [] h lt = omega arith
  names_few last at to (c ∷ cs) h lt = go (is_hdrl c) refl (λ i. names_few last (at + length (spell c)) (to + length (spell c)) cs (behind_one c cs h i) (lt.1 i))
    where
      go : (t : Bool) → is_hdrl c ≡ t
          → (is_hdrl c ≡ false → length (flat_map (hdrl_patches e) (hdrl_from last (at + length (spell c)) cs)) ≤ 1 + (count_kids (first_of (only is_hdrl (stood (to + length (spell c)) (children_named e last cs)))) + count_kids (strls_of (stood (to + length (spell c)) (children_named e last cs)))))
          → length (flat_map (hdrl_patches e) (cond t (record { at = at; ends = last && is_nil cs; stream = 0; chunk = c } ∷ []) (hdrl_from last (at + length (spell c)) cs)))
          ≤ 1 + (count_kids (first_of (only is_hdrl (stood to (cond t (hdrl_named e (last && is_nil cs) c ∷ cs) (c ∷ children_named e last cs))))) + count_kids (strls_of (stood to (cond t (hdrl_named e (last && is_nil cs) c ∷ cs) (c ∷ children_named e last cs)))))
      go true i again =
          let o = h.1.0 i in
          let t = last && is_nil cs in
          let new = hdrl_named e t c in
          let y : Stood = record { at = to; chunk = bare new } in
          let s : Site = record { at = at; ends = t; stream = 0; chunk = c } in
          let typed : is_hdrl new ≡ true = list_type (codes "hdrl") c (kids_of e t c) o.0 ∙ i in
          let small = kids_small e t c o.0 (lt.0 i) in
          let run = hdrl_run e t c o.0 o.1 small in
          let behind = only is_hdrl (stood (to + length (spell new)) cs) in
          let hdrls : first_of (only is_hdrl (stood to (new ∷ cs))) ≡ y ∷ [] = ap (λ (b : Bool). first_of (cond b (y ∷ behind) behind)) typed in
          let one : count_kids (first_of (only is_hdrl (stood to (new ∷ cs)))) ≡ length (kids_of e t c) = ap count_kids hdrls ∙ omega (arith, ap (λ (r : Rattle.container_model.specs.Chunk.Run). length r.chunks) run) in
          let two : count_kids (strls_of (stood to (new ∷ cs))) ≡ count_kids (strls_in (to + 12) (kids_of e t c)) = ap (λ (xs : List Stood). count_kids (only is_strl (flat_map kids xs))) hdrls ∙ ap (λ (xs : List Stood). count_kids (only is_strl xs)) (append-nil (kids y)) ∙ ap (λ (r : Rattle.container_model.specs.Chunk.Run). count_kids (only is_strl (stood (to + 12) r.chunks))) run in
          let few = kids_few (t && ends_list c) 0 (at + 12) (to + 12) (list_run c).chunks o.1 small in
          let list = list_patch at c new in
          let inner = flat_map (strl_patches e) (sites_in e s) in
          omega (arith, one, two, few, list_few at c new, ap length (append-nil (hdrl_patches e s)), length-append list inner)
      go false i again =
          let more = children_named e last cs in
          let behind = only is_hdrl (stood (to + length (spell c)) more) in
          let skip : first_of (only is_hdrl (stood to (c ∷ more))) ≡ first_of behind = ap (λ (b : Bool). first_of (cond b (record { at = to; chunk = bare c } ∷ behind) behind)) i in
          omega (arith, again i, ap count_kids skip, ap (λ (xs : List Stood). count_kids (only is_strl (flat_map kids xs))) skip)

pub kids_go : (f : ℕ → ℕ) (xs : List Stood) → count_kids (map (moved_to f) xs) ≡ count_kids xs
kids_go f [] = refl
kids_go f (x ∷ xs) = ap (λ (k : ℕ). length (list_run x.chunk).chunks + k) (kids_go f xs)
