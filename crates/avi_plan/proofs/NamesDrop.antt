-- The spans of an edit of names, of which those are left out that put a list's size back.
use Rattle.std.proofs.Common.{◌≡◌, ◌∙◌, ℕ, ◌+◌, ◌-◌, Bool, true, false, cond, eqb, List, [], ◌∷◌, ◌++◌, length, map, take, drop, refl, sym, ap, subst, arith, inl, inr, append_assoc}
use Rattle.std.specs.Prelude.{◌&&◌}
use Rattle.std.specs.Int.{w32, to_le_bytes}
use Rattle.std.specs.List.{flat_map}
use Rattle.std.proofs.lemmas.Bool.{eqb-true}
use Rattle.std.proofs.lemmas.List.Concat.{flat_map-append}
use Rattle.me_bytes.specs.Bytes.{IsBytes}
use Rattle.part_tree.specs.declared.names.Span.{Span}
use Rattle.container_model.specs.Chunk.{Chunk, Form, header_bytes, spell, spell_all}
use Rattle.container_model.specs.Items.{is_nil}
use Rattle.container_model.specs.Splice.{Cut}
use Rattle.container_model.specs.Units.{cuts}
use Rattle.container_model.proofs.Plain.{IsPlain}
use Rattle.carrier_model.specs.Cells.{counted}
use Rattle.carrier_model.specs.Info.{list_run}
use Rattle.avi_model.specs.Avi.{Avi, avi_of, body_span, hdrls, inner, others_at, strls}
use Rattle.avi_model.specs.Named.{Names, Site, ends_file, ends_list, hdrl_cuts, hdrl_named, is_named, is_strl, list_pad, list_size, name_cuts, new_names, sites_from, sites_in, strl_cuts, strl_fill, strl_named, strl_pieces}
use Rattle.avi_model.specs.Support.{Supported, count_kids}
use Rattle.avi_model.proofs.NamesHdrl.{FirstHdrl, first_hdrl}
use Rattle.avi_model.proofs.NamesSet.{supported_children}
use Rattle.avi_model.proofs.Streams.{AreKids, IsKid}
use Rattle.avi_plan.specs.NamesAt.{hdrl_needed, name_needed, size_needed, strl_needed}
use Rattle.avi_plan.specs.Streams.{TellsStreams, behind_type}
use Rattle.avi_plan.specs.declared.form.FormAt.{FormAt}
use Rattle.avi_plan.specs.Drops.{Drops}
use Rattle.avi_plan.proofs.Drops.{drops_both, drops_same}
use Rattle.avi_plan.proofs.Hdrled.{hdrl_stands, r, site, site_is}
use Rattle.avi_plan.proofs.Sited.{StandAt, first_part, hdrl_found, inside_stands, other_part, stand_as, window_is}

-- a list's size
size_stands : (b : List ℕ) (at : ℕ) (c : Chunk) → IsPlain c → StandAt b at (spell c) → to_le_bytes w32 (length c.body) ≡ take 4 (drop (at + 4) b)
size_stands b at c plain s =
    let size = to_le_bytes w32 (length c.body) in
    let parts : spell c ≡ c.id ++ (size ++ (c.body ++ c.pad)) = ap (λ (f : Form). header_bytes f c.id (length c.body) ++ (c.body ++ c.pad)) plain.form_is ∙ append_assoc c.id size (c.body ++ c.pad) in
    let there : StandAt b (at + 4) size
    = stand_as b (at + length c.id) (at + 4) size size (omega (arith, plain.id_len)) refl (first_part b (at + length c.id) size (c.body ++ c.pad) (other_part b at c.id (size ++ (c.body ++ c.pad)) (stand_as b at at (spell c) (c.id ++ (size ++ (c.body ++ c.pad))) refl parts s))) in
    let four : (at + 4 + length size) - (at + 4) ≡ 4 = omega arith in
    sym (ap (λ (n : ℕ). take n (drop (at + 4) b)) (sym four) ∙ window_is b (at + 4) size there)

size_drops : (b : List ℕ) (s : Site) (new : Chunk) → IsPlain s.chunk → StandAt b s.at (spell s.chunk) → Drops b (list_size s new ∷ []) (size_needed s new)
size_drops b s new plain stands = go (eqb (length s.chunk.body) (length new.body)) refl
  where
    go : (t : Bool) → eqb (length s.chunk.body) (length new.body) ≡ t → Drops b (list_size s new ∷ []) (cond t [] (list_size s new ∷ []))
    go true e = inl (ap (to_le_bytes w32) (sym (eqb-true (length s.chunk.body) (length new.body) e)) ∙ size_stands b s.at s.chunk plain stands, refl)
    go false e = inr ([], refl, refl)

module _ (b : List ℕ) (e : Names) where
  strl_drops : (s : Site) → IsPlain s.chunk → StandAt b s.at (spell s.chunk) → Drops b (strl_cuts e s) (strl_needed e s)
  strl_drops s plain stands =
      let new = strl_named s.ends (new_names e s.stream) s.chunk in
      let rest = cuts (strl_fill s.ends s.chunk) (s.at + 12) (strl_pieces (new_names e s.stream) s.chunk) ++ list_pad s new in
      drops_both b (list_size s new ∷ []) (size_needed s new) rest rest (size_drops b s new plain stands) (drops_same b rest)

  kid_drops : (t : Bool) (n at : ℕ) (c : Chunk) → IsKid c → StandAt b at (spell c)
      → Drops b (flat_map (strl_cuts e) (cond (is_strl c && is_named e n) (record { at = at; ends = t; stream = n; chunk = c } ∷ []) [])) (flat_map (strl_needed e) (cond (is_strl c && is_named e n) (record { at = at; ends = t; stream = n; chunk = c } ∷ []) []))
  kid_drops t n at c h stands = go (is_strl c && is_named e n)
    where
      go : (u : Bool) → Drops b (flat_map (strl_cuts e) (cond u (record { at = at; ends = t; stream = n; chunk = c } ∷ []) [])) (flat_map (strl_needed e) (cond u (record { at = at; ends = t; stream = n; chunk = c } ∷ []) []))
      go true =
          let s : Site = record { at = at; ends = t; stream = n; chunk = c } in
          drops_both b (strl_cuts e s) (strl_needed e s) [] [] (strl_drops s h.plain stands) refl
      go false = refl

  kids_drop : (t : Bool) (n at : ℕ) (cs : List Chunk) → AreKids cs → StandAt b at (spell_all cs) → Drops b (flat_map (strl_cuts e) (sites_from e t n at cs)) (flat_map (strl_needed e) (sites_from e t n at cs))
  kids_drop t n at [] h stands = refl
  kids_drop t n at (c ∷ cs) h stands =
      let u = t && is_nil cs in
      let here : List Site = cond (is_strl c && is_named e n) (record { at = at; ends = u; stream = n; chunk = c } ∷ []) [] in
      let there = sites_from e t (counted is_strl n c) (at + length (spell c)) cs in
      subst (λ (x : List Cut). Drops b x (flat_map (strl_needed e) (here ++ there))) (sym (flat_map-append (strl_cuts e) here there))
      (subst (Drops b (flat_map (strl_cuts e) here ++ flat_map (strl_cuts e) there)) (sym (flat_map-append (strl_needed e) here there))
      (drops_both b (flat_map (strl_cuts e) here) (flat_map (strl_needed e) here) (flat_map (strl_cuts e) there) (flat_map (strl_needed e) there) (kid_drops u n at c h.0 (first_part b at (spell c) (spell_all cs) stands))
      (kids_drop t (counted is_strl n c) (at + length (spell c)) cs h.1 (other_part b at (spell c) (spell_all cs) stands))))

-- ---- of a supported file

module _ (o : List ℕ) (bytes : IsBytes o) (s : Supported o) (e : Names) where
  abbrev a : Avi
  a = avi_of o

  first : FirstHdrl e (ends_file (avi_of o)) 12 (avi_of o).children
  first = first_hdrl e (ends_file a) 12 12 a.children (supported_children o bytes s) s.some_hdrl

  abbrev form : FormAt
  form = record { len = length o; size = length (inner (avi_of o).children (avi_of o).left); others = count_kids (hdrls (avi_of o)) + (count_kids (strls (avi_of o)) + count_kids (others_at (avi_of o))) }

  abbrev span : Span
  span = record { at = 12 + length (spell_all first.front) + 8; len = length first.hdrl.body }

  tells : TellsStreams o form span (map behind_type (strls (avi_of o)))
  tells = record {
    form = record { supported = s; len = refl; size = refl; others = refl };
    hdrl_is = sym (ap (map body_span) (hdrl_found (ends_file a) 12 a.children (record { at = 12 + length (spell_all first.front); ends = ends_file a && is_nil first.rest; stream = 0; chunk = first.hdrl }) first.site));
    streams_are = refl;
  }

  abbrev it : FirstHdrl e (ends_file (avi_of o)) 12 (avi_of o).children
  it = r o bytes e form span (map behind_type (strls (avi_of o))) tells

  abbrev h : Site
  h = site o bytes e form span (map behind_type (strls (avi_of o))) tells

  -- The model's spans are those that are needed, and sizes that stay.
  pub names_drop : Drops o (name_cuts (avi_of o) e) (name_needed (avi_of o) e)
  names_drop =
      let new = hdrl_named e h.ends it.hdrl in
      let kids = flat_map (strl_cuts e) (sites_in e h) in
      let needed = flat_map (strl_needed e) (sites_in e h) in
      let pad = list_pad h new in
      let list = it.opens.0 in
      let cs = (list_run it.hdrl).chunks in
      let left = (list_run it.hdrl).left in
      let stands = hdrl_stands o bytes e form span (map behind_type (strls a)) tells in
      let inside : StandAt o (h.at + 12) (spell_all cs)
      = first_part o (h.at + 12) (spell_all cs) left (stand_as o (h.at + 12) (h.at + 12) (drop 4 it.hdrl.body) (spell_all cs ++ left) refl (sym list.spelled) (inside_stands o h.at it.hdrl it.plain list stands)) in
      let one : Drops o (hdrl_cuts e h) (hdrl_needed e h)
      = drops_both o (list_size h new ∷ []) (size_needed h new) (kids ++ pad) (needed ++ pad) (size_drops o h new it.plain stands)
      (drops_both o kids needed pad pad (kids_drop o e (h.ends && ends_list it.hdrl) 0 (h.at + 12) cs it.opens.1 inside) (drops_same o pad)) in
      subst (λ (ss : List Site). Drops o (flat_map (hdrl_cuts e) ss) (flat_map (hdrl_needed e) ss)) (sym (site_is o bytes e form span (map behind_type (strls a)) tells)) (drops_both o (hdrl_cuts e h) (hdrl_needed e h) [] [] one refl)
