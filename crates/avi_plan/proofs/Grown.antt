-- How long lists are whose spans are replaced.
use Rattle.std.proofs.Common.{◌≡◌, ◌∙◌, ℕ, ◌+◌, ◌-◌, ◌≤◌, Bool, true, false, cond, eqb, List, [], ◌∷◌, ◌++◌, length, map, take, drop, refl, sym, ap, arith, append-nil, length-append}
use Rattle.std.specs.Prelude.{◌&&◌}
use Rattle.std.specs.Str.{bytes_eq}
use Rattle.std.specs.List.{flat_map}
use Rattle.std.proofs.lemmas.List.Concat.{flat_map-append}
use Rattle.container_model.specs.Chunk.{Chunk, spell, spell_all}
use Rattle.container_model.specs.Items.{is_nil}
use Rattle.container_model.specs.Splice.{Cut}
use Rattle.container_model.specs.Units.{Fill, Piece, copied, replaced, cuts, lay, lead_pad, old_bytes, padded, shut, unit_bytes}
use Rattle.container_model.proofs.Items.{same_true}
use Rattle.container_model.proofs.Plain.{IsPlain}
use Rattle.container_model.proofs.Units.{BringsPad, spell_all-append, units_bring, units_old}
use Rattle.container_model.proofs.Written.{length-slice}
use Rattle.carrier_model.specs.Cells.{counted}
use Rattle.carrier_model.specs.Info.{list_run}
use Rattle.carrier_model.specs.Names.{name_cells}
use Rattle.carrier_model.specs.RiffForm.{pad_cut}
use Rattle.unit_plan.specs.Cuts.{SpansAscend, cut_in}
use Rattle.unit_plan.specs.Sized.{gained, lost}
use Rattle.unit_plan.specs.declared.cut.CutAt.{CutAt}
use Rattle.avi_model.specs.Named.{Names, Site, cell_of, is_named, is_strl, kid_named, kids_named, list_pad, list_size, list_with, names_after, new_names, sites_from, strl_fill, strl_named, strl_pieces}
use Rattle.avi_model.proofs.Respelled.{IsList, list_length, made_names, respelled_form, respelled_id}
use Rattle.avi_model.proofs.Streams.{AreKids, IsKid}
use Rattle.avi_model.proofs.StreamsGo.{was_is}
use Rattle.avi_plan.specs.NamesAt.{size_needed, strl_needed}
use Rattle.avi_plan.proofs.Around.{spelled_long}

abbrev pub grow : List Cut → ℕ
grow [] = 0
grow (c ∷ cs) = length c.bytes + grow cs

abbrev pub lose : List Cut → ℕ
lose [] = 0
lose (c ∷ cs) = c.len + lose cs

pub grow-append : (a b : List Cut) → grow (a ++ b) ≡ grow a + grow b
grow-append [] b = omega arith
grow-append (c ∷ a) b = omega (arith, grow-append a b)

pub lose-append : (a b : List Cut) → lose (a ++ b) ≡ lose a + lose b
lose-append [] b = omega arith
lose-append (c ∷ a) b = omega (arith, lose-append a b)

-- ---- as a planner holds them

pub told_grow : (b : List ℕ) (from end : ℕ) (ks : List CutAt) → end ≤ length b → SpansAscend from ks end → grow (map (cut_in b) ks) ≡ gained ks
told_grow b from end [] le h = refl
told_grow b from end (k ∷ ks) le h =
    let last = k.span.at + k.span.len in
    let high : last ≤ end = up last ks h.2 in
    omega (arith, told_grow b last end ks le h.2, length-append k.bytes (take k.keep (drop (last - k.keep) b)), length-slice b (last - k.keep) k.keep (omega (arith, high, le, h.1)))
  where
    up : (p : ℕ) (ks : List CutAt) → SpansAscend p ks end → p ≤ end
    up p [] h = h
    up p (j ∷ ks) h = omega (arith, h.0, up (j.span.at + j.span.len) ks h.2)

pub told_lose : (b : List ℕ) (ks : List CutAt) → lose (map (cut_in b) ks) ≡ lost ks
told_lose b [] = refl
told_lose b (k ∷ ks) = omega (arith, told_lose b ks)

-- ---- units

pub pieces_grow : (fill : Fill) (at : ℕ) (ps : List Piece) → BringsPad ps → grow (cuts fill at ps) + length (flat_map old_bytes ps) ≡ lose (cuts fill at ps) + length (spell_all (lay fill ps))
pieces_grow fill at [] h = refl
pieces_grow fill at (copied c ∷ ps) h = omega (arith, pieces_grow fill (at + length (spell c)) ps h, length-append (spell c) (flat_map old_bytes ps), length-append (spell c) (spell_all (lay fill ps)))
pieces_grow fill at (replaced lead slot now last ∷ ps) h =
    let u = unit_bytes lead now in
    let f = fill last slot (length u) in
    let l = spell_all lead in
    let next = at + length (l ++ slot) in
    omega (
      arith,
      pieces_grow fill next ps h.1,
      length-append u (spell_all f),
      length-append (lead_pad lead) (spell_all now),
      length-append (l ++ slot) (flat_map old_bytes ps),
      length-append l slot,
      ap length (spell_all-append (map padded lead ++ (now ++ f)) (lay fill ps)),
      length-append (spell_all (map padded lead ++ (now ++ f))) (spell_all (lay fill ps)),
      ap length (spell_all-append (map padded lead) (now ++ f)),
      length-append (spell_all (map padded lead)) (spell_all (now ++ f)),
      ap length (spell_all-append now f),
      length-append (spell_all now) (spell_all f),
      ap length h.0,
      length-append l (lead_pad lead),
    )

pad_grows : (at : ℕ) (old new : List ℕ) → grow (pad_cut at old new) + length old ≡ lose (pad_cut at old new) + length new
pad_grows at old new = go (bytes_eq old new) refl
  where
    go : (t : Bool) → bytes_eq old new ≡ t → grow (cond t [] (record { at = at; len = length old; bytes = new } ∷ [])) + length old ≡ lose (cond t [] (record { at = at; len = length old; bytes = new } ∷ [])) + length new
    go true e = omega (arith, ap length (same_true old new e))
    go false e = omega arith

size_grows : (s : Site) (new : Chunk) → grow (size_needed s new) ≡ lose (size_needed s new)
size_grows s new = go (eqb (length s.chunk.body) (length new.body))
  where
    go : (t : Bool) → grow (cond t [] (list_size s new ∷ [])) ≡ lose (cond t [] (list_size s new ∷ []))
    go true = refl
    go false = refl

-- ---- a list with other chunks

pub list_long : (c : Chunk) (cs : List Chunk) → IsPlain c → IsList c → length (spell (list_with c cs)) + length c.pad + length (spell_all (list_run c).chunks) ≡ length (spell c) + length (list_with c cs).pad + length (spell_all cs)
list_long c cs plain is =
    let b = take 4 c.body ++ (spell_all cs ++ (list_run c).left) in
    let new = list_with c cs in
    let body : length c.body ≡ 4 + (length (spell_all (list_run c).chunks) + length (list_run c).left)
    = omega (arith, ap length is.spelled, length-append (spell_all (list_run c).chunks) (list_run c).left, Rattle.std.proofs.lemmas.List.length-drop 4 c.body, is.long) in
    omega (arith, body, list_length c cs is, spelled_long c plain.form_is plain.id_len, spelled_long new (respelled_form c b ∙ plain.form_is) (ap length (respelled_id c b) ∙ plain.id_len))

module _ (e : Names) where
  -- the slots of a stream's list
  pub slots_grow : (s : Site) → IsPlain s.chunk → IsList s.chunk → (fill : Fill) (at : ℕ)
      → grow (cuts fill at (strl_pieces (new_names e s.stream) s.chunk)) + length (spell_all (list_run s.chunk).chunks) ≡ lose (cuts fill at (strl_pieces (new_names e s.stream) s.chunk)) + length (spell_all (lay fill (strl_pieces (new_names e s.stream) s.chunk)))
  slots_grow s plain is fill at =
      let vs = names_after e s.stream [] in
      let xs = name_cells (made_names vs) (map cell_of (list_run s.chunk).chunks) in
      let ps = strl_pieces (made_names vs) s.chunk in
      let old : spell_all (list_run s.chunk).chunks ≡ flat_map old_bytes ps = sym (units_old shut xs ∙ ap spell_all (was_is s.ends vs s.chunk plain is)) in
      omega (arith, pieces_grow fill at ps (units_bring shut xs tt), ap length old)

  pub strl_grows : (s : Site) → IsPlain s.chunk → IsList s.chunk → grow (strl_needed e s) + length (spell s.chunk) ≡ lose (strl_needed e s) + length (spell (strl_named s.ends (new_names e s.stream) s.chunk))
  strl_grows s plain is =
      let fill = strl_fill s.ends s.chunk in
      let ps = strl_pieces (new_names e s.stream) s.chunk in
      let new = strl_named s.ends (new_names e s.stream) s.chunk in
      let slots = cuts fill (s.at + 12) ps in
      let pad = list_pad s new in
      let size = size_needed s new in
      omega (
        arith,
        size_grows s new,
        slots_grow s plain is fill (s.at + 12),
        pad_grows (s.at + 8 + length s.chunk.body) s.chunk.pad new.pad,
        list_long s.chunk (lay fill ps) plain is,
        grow-append size (slots ++ pad),
        grow-append slots pad,
        lose-append size (slots ++ pad),
        lose-append slots pad,
      )

  -- the chunks of hdrl
  kid_grows : (ends : Bool) (n at : ℕ) (c : Chunk) → IsKid c
      → grow (flat_map (strl_needed e) (cond (is_strl c && is_named e n) (record { at = at; ends = ends; stream = n; chunk = c } ∷ []) [])) + length (spell c)
      ≡ lose (flat_map (strl_needed e) (cond (is_strl c && is_named e n) (record { at = at; ends = ends; stream = n; chunk = c } ∷ []) [])) + length (spell (kid_named e ends n c))
  kid_grows ends n at c h = go (is_strl c) refl (is_named e n)
    where
      go : (t : Bool) → is_strl c ≡ t → (u : Bool)
          → grow (flat_map (strl_needed e) (cond (t && u) (record { at = at; ends = ends; stream = n; chunk = c } ∷ []) [])) + length (spell c)
          ≡ lose (flat_map (strl_needed e) (cond (t && u) (record { at = at; ends = ends; stream = n; chunk = c } ∷ []) [])) + length (spell (cond (t && u) (strl_named ends (new_names e n) c) c))
      go true i true =
          let s : Site = record { at = at; ends = ends; stream = n; chunk = c } in
          let none : strl_needed e s ++ [] ≡ strl_needed e s = append-nil (strl_needed e s) in
          omega (arith, strl_grows s h.plain (h.opens i), ap grow none, ap lose none)
      go true i false = refl
      go false i u = refl

  pub kids_grow : (ends : Bool) (n at : ℕ) (cs : List Chunk) → AreKids cs → grow (flat_map (strl_needed e) (sites_from e ends n at cs)) + length (spell_all cs) ≡ lose (flat_map (strl_needed e) (sites_from e ends n at cs)) + length (spell_all (kids_named e ends n cs))
  kids_grow ends n at [] h = refl
  kids_grow ends n at (c ∷ cs) h =
      let t = ends && is_nil cs in
      let k = counted is_strl n c in
      let to = at + length (spell c) in
      let here : List Site = cond (is_strl c && is_named e n) (record { at = at; ends = t; stream = n; chunk = c } ∷ []) [] in
      let there = sites_from e ends k to cs in
      let split = flat_map-append (strl_needed e) here there in
      let a = flat_map (strl_needed e) here in
      let z = flat_map (strl_needed e) there in
      omega (
        arith,
        kid_grows t n at c h.0,
        kids_grow ends k to cs h.1,
        ap grow split,
        ap lose split,
        grow-append a z,
        lose-append a z,
        length-append (spell c) (spell_all cs),
        length-append (spell (kid_named e t n c)) (spell_all (kids_named e ends k cs)),
      )
