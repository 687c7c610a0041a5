-- The first form with other names is the old one with spans replaced.
use Rattle.std.proofs.Common.{◌≡◌, ℕ, ◌+◌, ◌-◌, Bool, true, false, cond, List, [], ◌∷◌, ◌++◌, length, map, take, refl, sym, ap, subst, ◌∙◌, append_assoc, arith}
use Rattle.std.specs.Prelude.{◌&&◌}
use Rattle.std.specs.Int.{w32, to_le_bytes}
use Rattle.std.specs.Str.{bytes_eq}
use Rattle.std.specs.List.{flat_map}
use Rattle.std.proofs.lemmas.List.{length-append, length-take, drop_at, append-nil, take-append-drop}
use Rattle.std.proofs.lemmas.List.Concat.{flat_map-append}
use Rattle.container_model.specs.Chunk.{Form, Chunk, header_bytes, spell, spell_all}
use Rattle.container_model.specs.Items.{is_nil}
use Rattle.container_model.specs.Splice.{Cut, end_of, splice_from}
use Rattle.container_model.specs.Units.{Piece, Fill, shut, lay, cuts, old_bytes}
use Rattle.container_model.proofs.Items.{same_true}
use Rattle.container_model.proofs.Plain.{IsPlain}
use Rattle.container_model.proofs.Units.{From, From-low, BringsPad, splice_past, cuts_from, lay_splices_more, units_old, units_bring}
use Rattle.carrier_model.specs.Cells.{counted}
use Rattle.carrier_model.specs.Info.{list_run}
use Rattle.carrier_model.specs.Names.{name_cells}
use Rattle.carrier_model.specs.RiffForm.{pad_cut}
use Rattle.avi_model.specs.Named.{Names, is_named, names_after, new_names, cell_of, list_with, ends_list, is_strl, is_hdrl, strl_pieces, strl_fill, strl_named, kid_named, kids_named, hdrl_named, children_named, Site, sites_from, hdrl_from, strl_cuts, hdrl_cuts}
use Rattle.avi_model.proofs.Children.{AreChildren, behind_one, kids_of, cuts_from as cuts_among}
use Rattle.avi_model.proofs.Respelled.{IsList, respelled_form, respelled_id, respelled_body, made_names, laid_chunks}
use Rattle.avi_model.proofs.Streams.{IsKid, AreKids}
use Rattle.avi_model.proofs.StreamsGo.{was_is}

-- ---- bytes with spans replaced, whatever follows

-- Bytes that stand at a place become others by these spans, whatever bytes and spans follow.
pub record Splices (at : ℕ) (x y : List ℕ) (cs : List Cut) : Type 0 where
  pub from : (more : List Cut) → From (at + length x) more → From at (cs ++ more)
  pub replaced : (rest : List ℕ) (more : List Cut) → From (at + length x) more → splice_from at (x ++ rest) (cs ++ more) ≡ y ++ splice_from (at + length x) rest more

copies : (at : ℕ) (x : List ℕ) → Splices at x x []
copies at x = record { from = λ more h. From-low at (at + length x) more (omega arith) h; replaced = λ rest more h. splice_past at x rest more h }

joins : (at : ℕ) (x y u v : List ℕ) (a b : List Cut) → Splices at x y a → Splices (at + length x) u v b → Splices at (x ++ u) (y ++ v) (a ++ b)
joins at x y u v a b p q =
    let long : at + length (x ++ u) ≡ (at + length x) + length u = omega (arith, length-append x u) in
    record {
      from = λ more h. subst (From at) (sym (append_assoc a b more)) (p.from (b ++ more) (q.from more (subst (λ (k : ℕ). From k more) long h)));
      replaced = λ rest more h.
          let g = subst (λ (k : ℕ). From k more) long h in
          ap (λ (z : List ℕ). splice_from at z ((a ++ b) ++ more)) (append_assoc x u rest) ∙ ap (splice_from at (x ++ (u ++ rest))) (append_assoc a b more)
          ∙ p.replaced (u ++ rest) (b ++ more) (q.from more g) ∙ ap (λ (z : List ℕ). y ++ z) (q.replaced rest more g) ∙ ap (λ (k : ℕ). y ++ (v ++ splice_from k rest more)) (sym long) ∙ sym (append_assoc y v (splice_from (at + length (x ++ u)) rest more));
    }

-- at another place that is the same, and of bytes that are the same
told : (at to : ℕ) (x y u v : List ℕ) (cs : List Cut) → at ≡ to → u ≡ x → v ≡ y → Splices at x y cs → Splices to u v cs
told at to x y u v cs e f g s = subst (λ (k : ℕ). Splices k u v cs) e (subst (λ (z : List ℕ). Splices at z v cs) (sym f) (subst (λ (z : List ℕ). Splices at x z cs) (sym g) s))

one_cut : (c : Cut) (x : List ℕ) → length x ≡ c.len → Splices c.at x c.bytes (c ∷ [])
one_cut c x long =
    let a : c.at - c.at ≡ 0 = omega arith in
    let b : end_of c - c.at ≡ length x = omega (arith, long) in
    let end : end_of c ≡ c.at + length x = omega (arith, long) in
    record {
      from = λ more h. omega arith;
      replaced = λ rest more h. rw (a, b, drop_at x rest (length x) refl, end) refl;
    }

pads : (at : ℕ) (old new : List ℕ) → Splices at old new (pad_cut at old new)
pads at old new = go (bytes_eq old new) refl
  where
    go : (t : Bool) → bytes_eq old new ≡ t → Splices at old new (cond t [] (record { at = at; len = length old; bytes = new } ∷ []))
    go true e = told at at old old old new [] refl refl (sym (same_true old new e)) (copies at old)
    go false e = one_cut (record { at = at; len = length old; bytes = new }) old refl

pub from_pieces : (fill : Fill) (at : ℕ) (ps : List Piece) (more : List Cut) → From (at + length (flat_map old_bytes ps)) more → From at (cuts fill at ps ++ more)
from_pieces fill at ps more h = go (cuts fill at ps) (cuts_from fill at ps at (omega arith))
  where
    go : (cs : List Cut) → From at cs → From at (cs ++ more)
    go [] g = From-low at (at + length (flat_map old_bytes ps)) more (omega arith) h
    go (c ∷ cs) g = g

pieces : (fill : Fill) (at : ℕ) (ps : List Piece) → BringsPad ps → Splices at (flat_map old_bytes ps) (spell_all (lay fill ps)) (cuts fill at ps)
pieces fill at ps brings = record { from = λ more h. from_pieces fill at ps more h; replaced = λ rest more h. lay_splices_more fill at ps rest more brings h }

-- ---- a list

head_is : (c : Chunk) → IsPlain c → spell c ≡ (c.id ++ to_le_bytes w32 (length c.body)) ++ (c.body ++ c.pad)
head_is c h = ap (λ (f : Form). header_bytes f c.id (length c.body) ++ (c.body ++ c.pad)) h.form_is

parts_of : (id size word kids left pad body : List ℕ) → body ≡ word ++ (kids ++ left) → (id ++ size) ++ (body ++ pad) ≡ id ++ (size ++ (word ++ (kids ++ (left ++ pad))))
parts_of id size word kids left pad body e = ap (λ (b : List ℕ). (id ++ size) ++ (b ++ pad)) e ∙ simp append_assoc

module _ (c : Chunk) (cs : List Chunk) (plain : IsPlain c) (is : IsList c) where
  body_is : c.body ≡ take 4 c.body ++ (spell_all (list_run c).chunks ++ (list_run c).left)
  body_is = sym (take-append-drop 4 c.body) ∙ ap (λ (x : List ℕ). take 4 c.body ++ x) (sym is.spelled)

  pub list_is : spell c ≡ c.id ++ (to_le_bytes w32 (length c.body) ++ (take 4 c.body ++ (spell_all (list_run c).chunks ++ ((list_run c).left ++ c.pad))))
  list_is = head_is c plain ∙ parts_of c.id (to_le_bytes w32 (length c.body)) (take 4 c.body) (spell_all (list_run c).chunks) (list_run c).left c.pad c.body body_is

  pub list_then : spell (list_with c cs) ≡ c.id ++ (to_le_bytes w32 (length (list_with c cs).body) ++ (take 4 c.body ++ (spell_all cs ++ ((list_run c).left ++ (list_with c cs).pad))))
  list_then =
      let b = take 4 c.body ++ (spell_all cs ++ (list_run c).left) in
      let n = list_with c cs in
      head_is n (record { form_is = respelled_form c b ∙ plain.form_is; id_len = ap length (respelled_id c b) ∙ plain.id_len })
      ∙ ap (λ (x : List ℕ). (x ++ to_le_bytes w32 (length n.body)) ++ (n.body ++ n.pad)) (respelled_id c b)
      ∙ parts_of c.id (to_le_bytes w32 (length n.body)) (take 4 c.body) (spell_all cs) (list_run c).left n.pad n.body (respelled_body c b)

  pub list_splices : (at : ℕ) (k : List Cut) → Splices (at + 12) (spell_all (list_run c).chunks) (spell_all cs) k
      → Splices at (spell c) (spell (list_with c cs)) (record { at = at + 4; len = 4; bytes = to_le_bytes w32 (length (list_with c cs).body) } ∷ (k ++ pad_cut (at + 8 + length c.body) c.pad (list_with c cs).pad))
  list_splices at k s =
      let n = list_with c cs in
      let size : Cut = record { at = at + 4; len = 4; bytes = to_le_bytes w32 (length n.body) } in
      let ks = spell_all (list_run c).chunks in
      let word = take 4 c.body in
      let left = (list_run c).left in
      let four : length word ≡ 4 = omega (arith, length-take 4 c.body, is.long) in
      let pad = pad_cut (at + 8 + length c.body) c.pad n.pad in
      let behind : at + 12 + length ks + length left ≡ at + 8 + length c.body = omega (arith, ap length body_is, length-append word (ks ++ left), length-append ks left, four) in
      let p6 = told (at + 8 + length c.body) (at + 12 + length ks + length left) c.pad n.pad c.pad n.pad pad (sym behind) refl refl (pads (at + 8 + length c.body) c.pad n.pad) in
      let p5 = joins (at + 12 + length ks) left left c.pad n.pad [] pad (copies (at + 12 + length ks) left) p6 in
      let p4 = joins (at + 12) ks (spell_all cs) (left ++ c.pad) (left ++ n.pad) k pad s p5 in
      let p3 = joins (at + 8) word word (ks ++ (left ++ c.pad)) (spell_all cs ++ (left ++ n.pad)) [] (k ++ pad) (copies (at + 8) word) (told (at + 12) (at + 8 + length word) (ks ++ (left ++ c.pad)) (spell_all cs ++ (left ++ n.pad)) (ks ++ (left ++ c.pad)) (spell_all cs ++ (left ++ n.pad)) (k ++ pad) (omega (arith, four)) refl refl p4) in
      let field = to_le_bytes w32 (length c.body) in
      let p2 = joins (at + 4) field size.bytes (word ++ (ks ++ (left ++ c.pad))) (word ++ (spell_all cs ++ (left ++ n.pad))) (size ∷ []) (k ++ pad) (one_cut size field refl)
      (told (at + 8) (at + 4 + length field) (word ++ (ks ++ (left ++ c.pad))) (word ++ (spell_all cs ++ (left ++ n.pad))) (word ++ (ks ++ (left ++ c.pad))) (word ++ (spell_all cs ++ (left ++ n.pad))) (k ++ pad) (omega arith) refl refl p3) in
      let p1 = joins at c.id c.id (field ++ (word ++ (ks ++ (left ++ c.pad)))) (size.bytes ++ (word ++ (spell_all cs ++ (left ++ n.pad)))) [] (size ∷ (k ++ pad)) (copies at c.id)
      (told (at + 4) (at + length c.id) (field ++ (word ++ (ks ++ (left ++ c.pad)))) (size.bytes ++ (word ++ (spell_all cs ++ (left ++ n.pad)))) (field ++ (word ++ (ks ++ (left ++ c.pad)))) (size.bytes ++ (word ++ (spell_all cs ++ (left ++ n.pad)))) (size ∷ (k ++ pad)) (omega (arith, plain.id_len)) refl refl p2) in
      told at at (c.id ++ (field ++ (word ++ (ks ++ (left ++ c.pad))))) (c.id ++ (size.bytes ++ (word ++ (spell_all cs ++ (left ++ n.pad))))) (spell c) (spell n) (size ∷ (k ++ pad)) refl list_is list_then p1

-- the list of a stream
strl_splices : (ends_too : Bool) (vs : List (List ℕ)) (c : Chunk) (plain : IsPlain c) (is : IsList c) (at : ℕ) → Splices at (spell c) (spell (strl_named ends_too (made_names vs) c))
    (record { at = at + 4; len = 4; bytes = to_le_bytes w32 (length (strl_named ends_too (made_names vs) c).body) } ∷ (cuts (strl_fill ends_too c) (at + 12) (strl_pieces (made_names vs) c) ++ pad_cut (at + 8 + length c.body) c.pad (strl_named ends_too (made_names vs) c).pad))
strl_splices ends_too vs c plain is at =
    let xs = name_cells (made_names vs) (map cell_of (list_run c).chunks) in
    let ps = strl_pieces (made_names vs) c in
    let fill = strl_fill ends_too c in
    let old : spell_all (list_run c).chunks ≡ flat_map old_bytes ps = sym (units_old shut xs ∙ ap spell_all (was_is ends_too vs c plain is)) in
    list_splices c (laid_chunks ends_too vs c) plain is at (cuts fill (at + 12) ps)
    (told (at + 12) (at + 12) (flat_map old_bytes ps) (spell_all (laid_chunks ends_too vs c)) (spell_all (list_run c).chunks) (spell_all (laid_chunks ends_too vs c)) (cuts fill (at + 12) ps) refl old refl (pieces fill (at + 12) ps (units_bring shut xs tt)))

-- ---- hdrl

module _ (e : Names) where
  kid_splices : (ends_too : Bool) (n at : ℕ) (c : Chunk) → IsKid c → Splices at (spell c) (spell (kid_named e ends_too n c)) (flat_map (strl_cuts e) (cond (is_strl c && is_named e n) (record { at = at; ends = ends_too; stream = n; chunk = c } ∷ []) []))
  kid_splices ends_too n at c h = go (is_strl c) refl (is_named e n)
    where
      go : (t : Bool) → is_strl c ≡ t → (u : Bool) → Splices at (spell c) (spell (cond (t && u) (strl_named ends_too (new_names e n) c) c)) (flat_map (strl_cuts e) (cond (t && u) (record { at = at; ends = ends_too; stream = n; chunk = c } ∷ []) []))
      go true i true = subst (Splices at (spell c) (spell (strl_named ends_too (new_names e n) c))) (sym (append-nil _)) (strl_splices ends_too (names_after e n []) c h.plain (h.opens i) at)
      go true i false = copies at (spell c)
      go false i u = copies at (spell c)

  kids_splices : (ends_too : Bool) (n at : ℕ) (cs : List Chunk) → AreKids cs → Splices at (spell_all cs) (spell_all (kids_named e ends_too n cs)) (flat_map (strl_cuts e) (sites_from e ends_too n at cs))
  kids_splices ends_too n at [] h = copies at []
  kids_splices ends_too n at (c ∷ cs) h =
      let one = kid_named e (ends_too && is_nil cs) n c in
      let more = kids_named e ends_too (counted is_strl n c) cs in
      let here = flat_map (strl_cuts e) (cond (is_strl c && is_named e n) (record { at = at; ends = ends_too && is_nil cs; stream = n; chunk = c } ∷ []) []) in
      let there = flat_map (strl_cuts e) (sites_from e ends_too (counted is_strl n c) (at + length (spell c)) cs) in
      subst (Splices at (spell_all (c ∷ cs)) (spell_all (one ∷ more))) (sym (flat_map-append (strl_cuts e) (cond (is_strl c && is_named e n) (record { at = at; ends = ends_too && is_nil cs; stream = n; chunk = c } ∷ []) []) (sites_from e ends_too (counted is_strl n c) (at + length (spell c)) cs)))
      (joins at (spell c) (spell one) (spell_all cs) (spell_all more) here there (kid_splices (ends_too && is_nil cs) n at c h.0) (kids_splices ends_too (counted is_strl n c) (at + length (spell c)) cs h.1))

  pub hdrl_splices : (ends_too : Bool) (at : ℕ) (c : Chunk) → IsPlain c → IsList c → AreKids (list_run c).chunks → Splices at (spell c) (spell (hdrl_named e ends_too c)) (hdrl_cuts e (record { at = at; ends = ends_too; stream = 0; chunk = c }))
  hdrl_splices ends_too at c plain is kids =
      let site : Site = record { at = at; ends = ends_too; stream = 0; chunk = c } in
      list_splices c (kids_of e ends_too c) plain is at (flat_map (strl_cuts e) (Rattle.avi_model.specs.Named.sites_in e site)) (kids_splices (ends_too && ends_list c) 0 (at + 12) (list_run c).chunks kids)

  pub children_splices : (ends_too : Bool) (at : ℕ) (cs : List Chunk) → AreChildren cs → Splices at (spell_all cs) (spell_all (children_named e ends_too cs)) (cuts_among e ends_too at cs)
  children_splices ends_too at [] h = copies at []
  children_splices ends_too at (c ∷ cs) h = go (is_hdrl c) refl (λ i. children_splices ends_too (at + length (spell c)) cs (behind_one c cs h i))
    where
      go : (t : Bool) → is_hdrl c ≡ t → (is_hdrl c ≡ false → Splices (at + length (spell c)) (spell_all cs) (spell_all (children_named e ends_too cs)) (cuts_among e ends_too (at + length (spell c)) cs))
          → Splices at (spell_all (c ∷ cs)) (spell_all (cond t (hdrl_named e (ends_too && is_nil cs) c ∷ cs) (c ∷ children_named e ends_too cs))) (flat_map (hdrl_cuts e) (cond t (record { at = at; ends = ends_too && is_nil cs; stream = 0; chunk = c } ∷ []) (hdrl_from ends_too (at + length (spell c)) cs)))
      go true i g =
          let o = h.1.0 i in
          let t = ends_too && is_nil cs in
          let site : Site = record { at = at; ends = t; stream = 0; chunk = c } in
          joins at (spell c) (spell (hdrl_named e t c)) (spell_all cs) (spell_all cs) (hdrl_cuts e site) [] (hdrl_splices t at c h.0.0 o.0 o.1) (copies (at + length (spell c)) (spell_all cs))
      go false i g = joins at (spell c) (spell c) (spell_all cs) (spell_all (children_named e ends_too cs)) [] (cuts_among e ends_too (at + length (spell c)) cs) (copies at (spell c)) (g i)

  -- The chunks of the form are spelled as the old ones with the spans replaced.
  pub children_spliced : (ends_too : Bool) (at : ℕ) (cs : List Chunk) → AreChildren cs → spell_all (children_named e ends_too cs) ≡ splice_from at (spell_all cs) (cuts_among e ends_too at cs)
  children_spliced ends_too at cs h =
      let s = (children_splices ends_too at cs h).replaced [] [] tt in
      sym (ap (λ (x : List ℕ). splice_from at x (cuts_among e ends_too at cs)) (sym (append-nil (spell_all cs))) ∙ ap (splice_from at (spell_all cs ++ [])) (sym (append-nil (cuts_among e ends_too at cs))) ∙ s ∙ append-nil (spell_all (children_named e ends_too cs)))
