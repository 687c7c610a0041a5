-- hdrl with other names: it is read again, with each stream's list where it stood, and all else.
use Rattle.std.proofs.Common.{◌≡◌, ℕ, zero, suc, ◌+◌, ◌^◌, ◌<◌, ◌≤◌, Bool, true, false, cond, List, [], ◌∷◌, ◌++◌, length, map, take, refl, sym, ap, subst, ◌∙◌, arith, inl, inr}
use Rattle.std.specs.Prelude.{◌&&◌, filter, codes}
use Rattle.std.specs.List.{flat_map, AllByRecursion}
use Rattle.std.proofs.lemmas.List.{length-append}
use Rattle.container_model.specs.Chunk.{Form, riff, Chunk, Run, ends, header_bytes, spell, spell_all, Pads, PadStands}
use Rattle.container_model.specs.Deep.{Token}
use Rattle.container_model.specs.Items.{is_nil}
use Rattle.container_model.specs.Stood.{bare, stood, only}
use Rattle.container_model.proofs.Codec.{as_many}
use Rattle.container_model.proofs.Plain.{IsPlain, ArePlain}
use Rattle.carrier_model.specs.Cells.{counted}
use Rattle.carrier_model.specs.Info.{is_padding, list_run}
use Rattle.carrier_model.specs.Lists.{Node, list, other}
use Rattle.carrier_model.specs.Names.{is_name}
use Rattle.avi_model.specs.Heads.{name_token, strl_tokens, kid_node, head_of, place_name, name_marks, place_names, head_with, names_in, nth_names}
use Rattle.avi_model.specs.Named.{Names, is_named, names_after, new_names, respelled, list_with, ends_list, is_strl, is_hdrl, strl_named, kid_named, kids_named, hdrl_named}
use Rattle.avi_model.proofs.Placed.{name_body, bodies_seen, names_set, names_placed}
use Rattle.avi_model.proofs.Respelled.{IsList, list_pads, respelled_form, respelled_id, respelled_body, respelled_stands, list_read, list_type, list_length, made_names, laid_chunks, strl_seen, strl_run}

-- the chunks of hdrl, of which the streams' lists are read to their end
pub record IsKid (c : Chunk) : Type 0 where
  pub plain : IsPlain c
  pub opens : is_strl c ≡ true → IsList c

abbrev pub AreKids : List Chunk → Type 0
AreKids cs = AllByRecursion IsKid cs

-- ---- one list of a stream

pub list_with_plain : (c : Chunk) (cs : List Chunk) → IsPlain c → IsPlain (list_with c cs)
list_with_plain c cs h =
    let b = take 4 c.body ++ (spell_all cs ++ (list_run c).left) in
    record { form_is = respelled_form c b ∙ h.form_is; id_len = ap length (respelled_id c b) ∙ h.id_len }

-- its names, and what else stands in it
pub strl_names : (ends_too : Bool) (vs : List (List ℕ)) (c : Chunk) → IsList c → length (spell_all (laid_chunks ends_too vs c)) < 2 ^ 32 → map (λ (d : Chunk). d.body) (filter is_name (list_run (strl_named ends_too (made_names vs) c)).chunks) ≡ vs
strl_names ends_too vs c is lt =
    ap (λ (r : Run). map (λ (d : Chunk). d.body) (filter is_name r.chunks)) (strl_run ends_too vs c is lt) ∙ bodies_seen (laid_chunks ends_too vs c)
    ∙ strl_seen ends_too vs c is name_body (λ d. refl) padding ∙ names_set vs (map Rattle.avi_model.specs.Named.cell_of (list_run c).chunks)
  where
    padding : (d : Chunk) → is_padding d ≡ true → name_body d ≡ []
    padding d e = ap (λ (b : Bool). cond b (d.body ∷ []) []) (Rattle.avi_model.proofs.Placed.padding_not_name d e)

pub strl_node : (ends_too : Bool) (vs : List (List ℕ)) (c : Chunk) → IsList c → is_strl c ≡ true → length (spell_all (laid_chunks ends_too vs c)) < 2 ^ 32
    → kid_node (strl_named ends_too (made_names vs) c) ≡ list (place_name (name_marks vs) (strl_tokens c)) (list_run c).left
strl_node ends_too vs c is typed lt =
    let new = strl_named ends_too (made_names vs) c in
    ap (λ (b : Bool). cond b (list (strl_tokens new) (list_run new).left) (other new.form new.id new.body)) (list_type (codes "strl") c (laid_chunks ends_too vs c) is ∙ typed)
    ∙ ap (λ (r : Run). list (flat_map name_token r.chunks) r.left) (strl_run ends_too vs c is lt)
    ∙ ap (λ (ts : List Token). list ts (list_run c).left) (strl_seen ends_too vs c is name_token (λ d. refl) padding ∙ names_placed vs (list_run c).chunks)
  where
    padding : (d : Chunk) → is_padding d ≡ true → name_token d ≡ []
    padding d e = ap (λ (b : Bool). cond b [] (cond (is_name d) (Rattle.container_model.specs.Deep.mark d.id) (Rattle.container_model.specs.Deep.leaf d.form d.id d.body) ∷ [])) e

-- ---- the chunks of hdrl

pub spell_long : (c : Chunk) → length c.body ≤ length (spell c)
spell_long c = omega (arith, length-append (header_bytes c.form c.id (length c.body)) (c.body ++ c.pad), length-append c.body c.pad)

-- nothing follows a chunk
pub none_after : (cs : List Chunk) (left : List ℕ) → spell_all cs ++ left ≡ [] → (cs ≡ []) × (left ≡ [])
none_after [] left h = (refl, h)
none_after (c ∷ cs) left h = absurd (omega (arith, ap length h, length-append (spell_all (c ∷ cs)) left, as_many (c ∷ cs)))

module _ (e : Names) where
  -- a list that is named, in a short enough hdrl
  pub laid_small : (ends_too : Bool) (n : ℕ) (c : Chunk) → IsList c → length (spell (strl_named ends_too (new_names e n) c)) < 2 ^ 32 → length (spell_all (laid_chunks ends_too (names_after e n []) c)) < 2 ^ 32
  laid_small ends_too n c is lt =
      let new = strl_named ends_too (new_names e n) c in
      omega (arith, lt, spell_long new, list_length c (laid_chunks ends_too (names_after e n []) c) is)

  kid_plain : (ends_too : Bool) (n : ℕ) (c : Chunk) → IsKid c → IsPlain (kid_named e ends_too n c)
  kid_plain ends_too n c h = go (is_strl c && is_named e n)
    where
      go : (t : Bool) → IsPlain (cond t (strl_named ends_too (new_names e n) c) c)
      go true = list_with_plain c (laid_chunks ends_too (names_after e n []) c) h.plain
      go false = h.plain

  pub kids_plain : (ends_too : Bool) (n : ℕ) (cs : List Chunk) → AreKids cs → ArePlain (kids_named e ends_too n cs)
  kids_plain ends_too n [] h = tt
  kids_plain ends_too n (c ∷ cs) h = (kid_plain (ends_too && is_nil cs) n c h.0, kids_plain ends_too (counted is_strl n c) cs h.1)

  kid_stands : (ends_too : Bool) (n : ℕ) (c : Chunk) (more now : List ℕ) → IsKid c → (more ≡ [] → now ≡ []) → PadStands c.form (length c.body) c.pad more → PadStands (kid_named e ends_too n c).form (length (kid_named e ends_too n c).body) (kid_named e ends_too n c).pad now
  kid_stands ends_too n c more now h none p = go (is_strl c && is_named e n)
    where
      same : PadStands c.form (length c.body) c.pad more → PadStands c.form (length c.body) c.pad now
      same (inl q) = inl q
      same (inr q) = inr (q.0, none q.1)

      go : (t : Bool) → PadStands (cond t (strl_named ends_too (new_names e n) c) c).form (length (cond t (strl_named ends_too (new_names e n) c) c).body) (cond t (strl_named ends_too (new_names e n) c) c).pad now
      go true =
          let b = take 4 c.body ++ (spell_all (laid_chunks ends_too (names_after e n []) c) ++ (list_run c).left) in
          let old : PadStands riff (length c.body) c.pad more = subst (λ (f : Form). PadStands f (length c.body) c.pad more) h.plain.form_is p in
          let new = respelled_stands c b more now h.plain.form_is none old in
          subst (λ (f : Form). PadStands f (length (respelled c b).body) (respelled c b).pad now) (sym (respelled_form c b ∙ h.plain.form_is)) (subst (λ (x : List ℕ). PadStands riff (length x) (respelled c b).pad now) (sym (respelled_body c b)) new)
      go false = same p

  pub kids_pads : (ends_too : Bool) (n : ℕ) (cs : List Chunk) (left : List ℕ) → AreKids cs → Pads cs left → Pads (kids_named e ends_too n cs) left
  kids_pads ends_too n [] left h p = tt
  kids_pads ends_too n (c ∷ cs) left h p = (
    kid_stands (ends_too && is_nil cs) n c (spell_all cs ++ left) (spell_all (kids_named e ends_too (counted is_strl n c) cs) ++ left) h.0 none p.0,
    kids_pads ends_too (counted is_strl n c) cs left h.1 p.1,
  )
    where
      none : spell_all cs ++ left ≡ [] → spell_all (kids_named e ends_too (counted is_strl n c) cs) ++ left ≡ []
      none g = let z = none_after cs left g in ap (λ (xs : List Chunk). spell_all (kids_named e ends_too (counted is_strl n c) xs) ++ left) z.0 ∙ z.1

  -- a list stays one
  pub kid_strl : (ends_too : Bool) (n : ℕ) (c : Chunk) → IsKid c → is_strl (kid_named e ends_too n c) ≡ is_strl c
  kid_strl ends_too n c h = go (is_strl c) refl (is_named e n)
    where
      go : (t : Bool) → is_strl c ≡ t → (u : Bool) → is_strl (cond (t && u) (strl_named ends_too (new_names e n) c) c) ≡ t
      go true i true = list_type (codes "strl") c (laid_chunks ends_too (names_after e n []) c) (h.opens i) ∙ i
      go true i false = i
      go false i u = i

  kid_placed : (ends_too : Bool) (n : ℕ) (c : Chunk) (k : List Node) → IsKid c → length (spell (kid_named e ends_too n c)) < 2 ^ 32
      → kid_node (kid_named e ends_too n c) ∷ place_names e (counted is_strl n c) k ≡ place_names e n (kid_node c ∷ k)
  kid_placed ends_too n c k h lt = go (is_strl c) refl (is_named e n) refl lt
    where
      go : (t : Bool) → is_strl c ≡ t → (u : Bool) → is_named e n ≡ u → length (spell (cond (t && u) (strl_named ends_too (new_names e n) c) c)) < 2 ^ 32
          → kid_node (cond (t && u) (strl_named ends_too (new_names e n) c) c) ∷ place_names e (cond t (suc n) n) k ≡ place_names e n (cond t (list (strl_tokens c) (list_run c).left) (other c.form c.id c.body) ∷ k)
      go true i true j lt =
          ap (λ (x : Node). x ∷ place_names e (suc n) k) (strl_node ends_too (names_after e n []) c (h.opens i) i (laid_small ends_too n c (h.opens i) lt))
          ∙ sym (ap (λ (b : Bool). list (cond b (place_name (name_marks (names_after e n [])) (strl_tokens c)) (strl_tokens c)) (list_run c).left ∷ place_names e (suc n) k) j)
      go true i false j lt =
          ap (λ (b : Bool). cond b (list (strl_tokens c) (list_run c).left) (other c.form c.id c.body) ∷ place_names e (suc n) k) i
          ∙ sym (ap (λ (b : Bool). list (cond b (place_name (name_marks (names_after e n [])) (strl_tokens c)) (strl_tokens c)) (list_run c).left ∷ place_names e (suc n) k) j)
      go false i u j lt = ap (λ (b : Bool). cond b (list (strl_tokens c) (list_run c).left) (other c.form c.id c.body) ∷ place_names e n k) i

  -- What hdrl holds stands where it stood, with the names where they are at home.
  pub kids_placed : (ends_too : Bool) (n : ℕ) (cs : List Chunk) → AreKids cs → length (spell_all (kids_named e ends_too n cs)) < 2 ^ 32 → map kid_node (kids_named e ends_too n cs) ≡ place_names e n (map kid_node cs)
  kids_placed ends_too n [] h lt = refl
  kids_placed ends_too n (c ∷ cs) h lt =
      let one = kid_named e (ends_too && is_nil cs) n c in
      let more = kids_named e ends_too (counted is_strl n c) cs in
      let long = length-append (spell one) (spell_all more) in
      ap (λ (k : List Node). kid_node one ∷ k) (kids_placed ends_too (counted is_strl n c) cs h.1 (omega (arith, lt, long)))
      ∙ kid_placed (ends_too && is_nil cs) n c (map kid_node cs) h.0 (omega (arith, lt, long))

  -- ---- the names of each stream

  -- the names of a stream after the edit
  abbrev pub after : ℕ → List (List ℕ) → List (List ℕ)
  after n vs = cond (is_named e n) (names_after e n []) vs

  kid_names : (ends_too : Bool) (n at to : ℕ) (c : Chunk) → IsKid c → is_strl c ≡ true → length (spell (kid_named e ends_too n c)) < 2 ^ 32
      → names_in (record { at = to; chunk = bare (kid_named e ends_too n c) }) ≡ after n (names_in (record { at = at; chunk = bare c }))
  kid_names ends_too n at to c h i lt = go (is_strl c) i (is_named e n) refl lt
    where
      go : (t : Bool) → t ≡ true → (u : Bool) → is_named e n ≡ u → length (spell (cond (t && u) (strl_named ends_too (new_names e n) c) c)) < 2 ^ 32
          → map (λ (d : Chunk). d.body) (filter is_name (list_run (cond (t && u) (strl_named ends_too (new_names e n) c) c)).chunks) ≡ cond (is_named e n) (names_after e n []) (map (λ (d : Chunk). d.body) (filter is_name (list_run c).chunks))
      go false i u j lt = absurd cc
      go true d true j lt =
          strl_names ends_too (names_after e n []) c (h.opens i) (laid_small ends_too n c (h.opens i) lt) ∙ sym (ap (λ (b : Bool). cond b (names_after e n []) (map (λ (d : Chunk). d.body) (filter is_name (list_run c).chunks))) j)
      go true d false j lt = sym (ap (λ (b : Bool). cond b (names_after e n []) (map (λ (d : Chunk). d.body) (filter is_name (list_run c).chunks))) j)

  pub kids_names : (ends_too : Bool) (n at to : ℕ) (cs : List Chunk) → AreKids cs → length (spell_all (kids_named e ends_too n cs)) < 2 ^ 32 → (m : ℕ) → m < length (only is_strl (stood at cs))
      → nth_names m (only is_strl (stood to (kids_named e ends_too n cs))) ≡ after (n + m) (nth_names m (only is_strl (stood at cs)))
  kids_names ends_too n at to [] h lt m less = absurd (omega arith)
  kids_names ends_too n at to (c ∷ cs) h lt m less =
      let one = kid_named e (ends_too && is_nil cs) n c in
      let more = kids_named e ends_too (counted is_strl n c) cs in
      let long = length-append (spell one) (spell_all more) in
      ap (λ (b : Bool). nth_names m (cond b (record { at = to; chunk = bare one } ∷ only is_strl (stood (to + length (spell one)) more)) (only is_strl (stood (to + length (spell one)) more)))) (kid_strl (ends_too && is_nil cs) n c h.0)
      ∙ go (is_strl c) refl m less (λ k l. kids_names ends_too (counted is_strl n c) (at + length (spell c)) (to + length (spell one)) cs h.1 (omega (arith, lt, long)) k l)
      (λ i. kid_names (ends_too && is_nil cs) n at to c h.0 i (omega (arith, lt, long)))
    where
      go : (t : Bool) → is_strl c ≡ t → (m : ℕ) → m < length (cond t (record { at = at; chunk = bare c } ∷ only is_strl (stood (at + length (spell c)) cs)) (only is_strl (stood (at + length (spell c)) cs)))
          → ((k : ℕ) → k < length (only is_strl (stood (at + length (spell c)) cs)) → nth_names k (only is_strl (stood (to + length (spell (kid_named e (ends_too && is_nil cs) n c))) (kids_named e ends_too (counted is_strl n c) cs))) ≡ after (counted is_strl n c + k) (nth_names k (only is_strl (stood (at + length (spell c)) cs))))
          → (is_strl c ≡ true → names_in (record { at = to; chunk = bare (kid_named e (ends_too && is_nil cs) n c) }) ≡ after n (names_in (record { at = at; chunk = bare c })))
          → nth_names m (cond t (record { at = to; chunk = bare (kid_named e (ends_too && is_nil cs) n c) } ∷ only is_strl (stood (to + length (spell (kid_named e (ends_too && is_nil cs) n c))) (kids_named e ends_too (counted is_strl n c) cs))) (only is_strl (stood (to + length (spell (kid_named e (ends_too && is_nil cs) n c))) (kids_named e ends_too (counted is_strl n c) cs))))
          ≡ after (n + m) (nth_names m (cond t (record { at = at; chunk = bare c } ∷ only is_strl (stood (at + length (spell c)) cs)) (only is_strl (stood (at + length (spell c)) cs))))
      go true i zero less again first = let z : n + 0 ≡ n = omega arith in first i ∙ ap (λ (k : ℕ). after k (names_in (record { at = at; chunk = bare c }))) (sym z)
      go true i (suc m) less again first =
          let next : counted is_strl n c + m ≡ n + suc m = omega (arith, ap (λ (b : Bool). cond b (suc n) n) i) in
          again m (omega (arith, less)) ∙ ap (λ (k : ℕ). after k (nth_names m (only is_strl (stood (at + length (spell c)) cs)))) next
      go false i m less again first =
          let next : counted is_strl n c + m ≡ n + m = omega (arith, ap (λ (b : Bool). cond b (suc n) n) i) in
          again m less ∙ ap (λ (k : ℕ). after k (nth_names m (only is_strl (stood (at + length (spell c)) cs)))) next

-- ---- hdrl

-- it is read again
pub hdrl_run : (e : Names) (ends_too : Bool) (c : Chunk) → IsList c → AreKids (list_run c).chunks → length (spell_all (kids_named e (ends_too && ends_list c) 0 (list_run c).chunks)) < 2 ^ 32
    → list_run (hdrl_named e ends_too c) ≡ record { chunks = kids_named e (ends_too && ends_list c) 0 (list_run c).chunks; stop = ends; left = (list_run c).left }
hdrl_run e ends_too c is kids lt =
    let cs = (list_run c).chunks in
    let t = ends_too && ends_list c in
    list_read c (kids_named e t 0 cs) is (kids_plain e t 0 cs kids) (kids_pads e t 0 cs (list_run c).left kids (list_pads c is)) lt

-- with the names where they are at home
pub head_placed : (e : Names) (ends_too : Bool) (c : Chunk) → IsList c → AreKids (list_run c).chunks → length (spell_all (kids_named e (ends_too && ends_list c) 0 (list_run c).chunks)) < 2 ^ 32
    → head_of (hdrl_named e ends_too c) ≡ head_with e (head_of c)
head_placed e ends_too c is kids lt =
    ap (λ (r : Run). record { nodes = map kid_node r.chunks; left = r.left }) (hdrl_run e ends_too c is kids lt)
    ∙ ap (λ (k : List Node). record { nodes = k; left = (list_run c).left }) (kids_placed e (ends_too && ends_list c) 0 (list_run c).chunks kids lt)
