-- The lists that are opened in a first form with other names are lists again.
use Rattle.std.proofs.Common.{◌≡◌, ℕ, ◌+◌, ◌^◌, ◌<◌, Bool, true, false, cond, List, [], ◌∷◌, ◌++◌, length, take, drop, refl, sym, ap, subst, ◌∙◌, arith}
use Rattle.std.specs.Prelude.{◌&&◌, codes}
use Rattle.std.specs.Int.{w32, to_le_bytes}
use Rattle.std.specs.List.{flat_map, AllByRecursion}
use Rattle.std.proofs.lemmas.List.{append-nil, drop_at, length-append, length-drop}
use Rattle.container_model.specs.Chunk.{Chunk, Run, Pads, ends, header_bytes, spell, spell_all}
use Rattle.container_model.specs.Items.{is_nil}
use Rattle.container_model.specs.Stood.{Stood, bare, stood, only, first_of}
use Rattle.container_model.proofs.Plain.{IsPlain}
use Rattle.carrier_model.specs.Cells.{counted}
use Rattle.carrier_model.specs.Info.{list_run}
use Rattle.avi_model.specs.Avi.{kids}
use Rattle.avi_model.specs.Named.{Names, children_named, ends_list, hdrl_named, is_hdrl, is_named, is_strl, kid_named, kids_named, list_with, names_after, new_names, strl_named}
use Rattle.avi_model.proofs.Carries.{KidsFit}
use Rattle.avi_model.proofs.Children.{AreChildren, HdrlSmall, behind_one, kids_of}
use Rattle.avi_model.proofs.Respelled.{IsList, laid_chunks, list_length, list_type, respelled_body, respelled_form, strl_pads, strl_run, word_long}
use Rattle.avi_model.proofs.Streams.{AreKids, IsKid, hdrl_run, kid_strl, kids_pads, laid_small, list_with_plain}

-- a list, read to its end, with its header
pub record Listed (c : Chunk) : Type 0 where
  pub is : IsList c
  pub plain : IsPlain c

-- its chunks fit in it
pub listed_fit : (at : ℕ) (c : Chunk) → Listed c → KidsFit (record { at = at; chunk = bare c })
listed_fit at c h =
    let head : length (header_bytes c.form c.id (length c.body)) ≡ 8 = rw h.plain.form_is (omega (arith, length-append c.id (to_le_bytes w32 (length c.body)), h.plain.id_len)) in
    omega (
      arith,
      head,
      h.is.long,
      ap length h.is.spelled,
      length-drop 4 c.body,
      length-append (spell_all (list_run c).chunks) (list_run c).left,
      length-append (header_bytes c.form c.id (length c.body)) (c.body ++ []),
      length-append c.body [],
    )

-- a list with other chunks, which are read again
list_anew : (c : Chunk) (cs : List Chunk) → IsList c → Pads cs (list_run c).left → list_run (list_with c cs) ≡ record { chunks = cs; stop = ends; left = (list_run c).left } → IsList (list_with c cs)
list_anew c cs is pads run =
    let more = spell_all cs ++ (list_run c).left in
    record {
      form_is = respelled_form c (take 4 c.body ++ more) ∙ is.form_is;
      long = omega (arith, list_length c cs is);
      all_read = ap (λ (r : Run). r.stop) run;
      pads = subst (λ (r : Run). Pads r.chunks r.left) (sym run) pads;
      spelled = ap (λ (r : Run). spell_all r.chunks ++ r.left) run ∙ sym (ap (drop 4) (respelled_body c (take 4 c.body ++ more)) ∙ drop_at (take 4 c.body) more 4 (word_long c is));
    }

module _ (e : Names) where
  -- ---- a stream's list

  strl_listed : (ends_too : Bool) (n : ℕ) (c : Chunk) → Listed c → length (spell (strl_named ends_too (new_names e n) c)) < 2 ^ 32 → Listed (strl_named ends_too (new_names e n) c)
  strl_listed ends_too n c h lt =
      let vs = names_after e n [] in
      record {
        is = list_anew c (laid_chunks ends_too vs c) h.is (strl_pads ends_too vs c h.is) (strl_run ends_too vs c h.is (laid_small e ends_too n c h.is lt));
        plain = list_with_plain c (laid_chunks ends_too vs c) h.plain;
      }

  kid_listed : (ends_too : Bool) (n : ℕ) (c : Chunk) → IsKid c → is_strl c ≡ true → length (spell (kid_named e ends_too n c)) < 2 ^ 32 → Listed (kid_named e ends_too n c)
  kid_listed ends_too n c h i lt = go (is_strl c && is_named e n) lt
    where
      old : Listed c
      old = record { is = h.opens i; plain = h.plain }

      go : (t : Bool) → length (spell (cond t (strl_named ends_too (new_names e n) c) c)) < 2 ^ 32 → Listed (cond t (strl_named ends_too (new_names e n) c) c)
      go true l = strl_listed ends_too n c old l
      go false l = old

  abbrev pub AreListed : List Stood → Type 0
  AreListed xs = AllByRecursion (λ (x : Stood). Listed x.chunk) xs

  -- without its pad a list is the same
  bare_listed : (c : Chunk) → Listed c → Listed (bare c)
  bare_listed c h = record { is = record { form_is = h.is.form_is; long = h.is.long; all_read = h.is.all_read; pads = h.is.pads; spelled = h.is.spelled }; plain = record { form_is = h.plain.form_is; id_len = h.plain.id_len } }

  kids_listed : (ends_too : Bool) (n to : ℕ) (cs : List Chunk) → AreKids cs → length (spell_all (kids_named e ends_too n cs)) < 2 ^ 32 → AreListed (only is_strl (stood to (kids_named e ends_too n cs)))
  kids_listed ends_too n to [] h lt = tt
  kids_listed ends_too n to (c ∷ cs) h lt =
      let one = kid_named e (ends_too && is_nil cs) n c in
      let more = kids_named e ends_too (counted is_strl n c) cs in
      let long = length-append (spell one) (spell_all more) in
      let again = kids_listed ends_too (counted is_strl n c) (to + length (spell one)) cs h.1 (omega (arith, lt, long)) in
      subst (λ (t : Bool). AreListed (cond t (record { at = to; chunk = bare one } ∷ only is_strl (stood (to + length (spell one)) more)) (only is_strl (stood (to + length (spell one)) more)))) (sym (kid_strl e (ends_too && is_nil cs) n c h.0))
      (go (is_strl c) refl again (λ i. bare_listed one (kid_listed (ends_too && is_nil cs) n c h.0 i (omega (arith, lt, long)))))
    where
      go : (t : Bool) → is_strl c ≡ t → AreListed (only is_strl (stood (to + length (spell (kid_named e (ends_too && is_nil cs) n c))) (kids_named e ends_too (counted is_strl n c) cs)))
          → (is_strl c ≡ true → Listed (bare (kid_named e (ends_too && is_nil cs) n c)))
          → AreListed (cond t (record { at = to; chunk = bare (kid_named e (ends_too && is_nil cs) n c) } ∷ only is_strl (stood (to + length (spell (kid_named e (ends_too && is_nil cs) n c))) (kids_named e ends_too (counted is_strl n c) cs))) (only is_strl (stood (to + length (spell (kid_named e (ends_too && is_nil cs) n c))) (kids_named e ends_too (counted is_strl n c) cs))))
      go true i again one = (one i, again)
      go false i again one = again

  -- ---- hdrl

  kids_short : (ends_too : Bool) (c : Chunk) → IsList c → length (hdrl_named e ends_too c).body < 2 ^ 32 → length (spell_all (kids_of e ends_too c)) < 2 ^ 32
  kids_short ends_too c is lt = omega (arith, lt, list_length c (kids_of e ends_too c) is)

  hdrl_listed : (ends_too : Bool) (c : Chunk) → Listed c → AreKids (list_run c).chunks → length (hdrl_named e ends_too c).body < 2 ^ 32 → Listed (hdrl_named e ends_too c)
  hdrl_listed ends_too c h k lt =
      let t = ends_too && ends_list c in
      record {
        is = list_anew c (kids_of e ends_too c) h.is (kids_pads e t 0 (list_run c).chunks (list_run c).left k h.is.pads) (hdrl_run e ends_too c h.is k (kids_short ends_too c h.is lt));
        plain = list_with_plain c (kids_of e ends_too c) h.plain;
      }

  -- ---- the first form

  abbrev pub hdrls_of : List Stood → List Stood
  hdrls_of xs = first_of (only is_hdrl xs)

  abbrev pub OpenListed : List Stood → Type 0
  OpenListed xs = AreListed (hdrls_of xs) × AreListed (only is_strl (flat_map kids (hdrls_of xs)))

  -- The first hdrl and the streams' lists in it are lists.
  pub children_listed : (ends_too : Bool) (to : ℕ) (cs : List Chunk) → AreChildren cs → HdrlSmall e ends_too cs
      → AreListed (hdrls_of (stood to (children_named e ends_too cs))) × AreListed (only is_strl (flat_map kids (hdrls_of (stood to (children_named e ends_too cs)))))
  children_listed ends_too to [] h s = (tt, tt)
  children_listed ends_too to (c ∷ cs) h s = go (is_hdrl c) refl (λ i. children_listed ends_too (to + length (spell c)) cs (behind_one c cs h i) (s.1 i))
    where
      go : (t : Bool) → is_hdrl c ≡ t → (is_hdrl c ≡ false → OpenListed (stood (to + length (spell c)) (children_named e ends_too cs))) → OpenListed (stood to (cond t (hdrl_named e (ends_too && is_nil cs) c ∷ cs) (c ∷ children_named e ends_too cs)))
      go true i again =
          let o = h.1.0 i in
          let t = ends_too && is_nil cs in
          let new = hdrl_named e t c in
          let y : Stood = record { at = to; chunk = bare new } in
          let rest = only is_hdrl (stood (to + length (spell new)) cs) in
          let typed : is_hdrl new ≡ true = list_type (codes "hdrl") c (kids_of e t c) o.0 ∙ i in
          let old : Listed c = record { is = o.0; plain = h.0.0 } in
          let one : Listed (bare new) = bare_listed new (hdrl_listed t c old o.1 (s.0 i)) in
          let run : kids y ≡ stood (to + 12) (kids_of e t c) = ap (λ (r : Run). stood (to + 12) r.chunks) (hdrl_run e t c o.0 o.1 (kids_short t c o.0 (s.0 i))) in
          let two : AreListed (only is_strl (kids y ++ [])) = subst (λ (xs : List Stood). AreListed (only is_strl xs)) (sym (append-nil (kids y) ∙ run)) (kids_listed (t && ends_list c) 0 (to + 12) (list_run c).chunks o.1 (kids_short t c o.0 (s.0 i))) in
          subst (λ (b : Bool). AreListed (first_of (cond b (y ∷ rest) rest)) × AreListed (only is_strl (flat_map kids (first_of (cond b (y ∷ rest) rest))))) (sym typed) ((one, tt), two)
      go false i again =
          let rest = only is_hdrl (stood (to + length (spell c)) (children_named e ends_too cs)) in
          let y : Stood = record { at = to; chunk = bare c } in
          subst (λ (b : Bool). AreListed (first_of (cond b (y ∷ rest) rest)) × AreListed (only is_strl (flat_map kids (first_of (cond b (y ∷ rest) rest))))) (sym i) (again i)
