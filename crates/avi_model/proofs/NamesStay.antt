-- What is written into the tables of a file changes no span of an edit of names, and not how long what is laid is.
use Rattle.std.proofs.Common.{◌≡◌, ℕ, suc, ◌+◌, ◌%◌, ◌≤◌, Bool, true, false, cond, eqb, List, [], ◌∷◌, ◌++◌, length, map, take, replicate, refl, sym, ap, ◌∙◌, arith}
use Rattle.std.specs.Prelude.{◌&&◌}
use Rattle.std.specs.Int.{w32, to_le_bytes}
use Rattle.std.specs.List.{flat_map}
use Rattle.std.proofs.lemmas.List.{length-append, length-take}
use Rattle.std.proofs.lemmas.List.Concat.{flat_map-append}
use Rattle.container_model.specs.Chunk.{Chunk, Run, ends, header_bytes, pad_len, spell, spell_all}
use Rattle.container_model.specs.Items.{is_nil}
use Rattle.container_model.specs.Splice.{Cut}
use Rattle.container_model.specs.Units.{padded, shut, units, lay, cuts, Fill}
use Rattle.container_model.specs.Written.{Write}
use Rattle.container_model.proofs.Deep.{alike_len}
use Rattle.container_model.proofs.Written.{renew, renewed, renew_alike, length-written, head_length}
use Rattle.carrier_model.specs.Cells.{counted}
use Rattle.carrier_model.specs.Info.{list_run}
use Rattle.carrier_model.specs.Names.{name_cells}
use Rattle.carrier_model.specs.RiffForm.{pad_cut}
use Rattle.carrier_model.proofs.Renewed.{cuts_shut, laid_shut, renewed_cells}
use Rattle.avi_model.specs.Named.{Site, Names, cell_of, ends_list, is_hdrl, is_named, is_strl, kids_named, kid_named, new_names, respelled, strl_cuts, strl_fill, strl_named, strl_pieces, hdrl_cuts, hdrl_from, hdrl_named, sites_from}
use Rattle.avi_model.proofs.NamesRenewed.{NamesAlone, names_renewed}
use Rattle.avi_model.proofs.Respelled.{respelled_body, respelled_form, respelled_id}

-- ---- a chunk with another body

-- it has the same pad where the bodies are as long
pad_alike : (c d : Chunk) (x y : List ℕ) → d.form ≡ c.form → d.pad ≡ c.pad → length d.body ≡ length c.body → length y ≡ length x → (respelled d y).pad ≡ (respelled c x).pad
pad_alike c d x y form pad body long =
    ap (λ (k : ℕ). (cond (eqb (k % 2) (length d.body % 2)) (record d { body = y }) (padded (record d { body = y }))).pad) long
    ∙ ap (λ (k : ℕ). (cond (eqb (length x % 2) (k % 2)) (record d { body = y }) (padded (record d { body = y }))).pad) body ∙ go (eqb (length x % 2) (length c.body % 2))
  where
    go : (t : Bool) → (cond t (record d { body = y }) (padded (record d { body = y }))).pad ≡ (cond t (record c { body = x }) (padded (record c { body = x }))).pad
    go true = pad
    go false = ap (λ (k : ℕ). replicate (pad_len d.form k) 0) long ∙ ap (λ (f : Rattle.container_model.specs.Chunk.Form). replicate (pad_len f (length x)) 0) form

-- how long it is
pub spell_alike : (c d : Chunk) → d.form ≡ c.form → d.id ≡ c.id → d.pad ≡ c.pad → length d.body ≡ length c.body → length (spell d) ≡ length (spell c)
spell_alike c d form id pad body =
    let head : header_bytes d.form d.id (length d.body) ≡ header_bytes c.form c.id (length c.body)
    = ap (λ (f : Rattle.container_model.specs.Chunk.Form). header_bytes f d.id (length d.body)) form ∙ ap (λ (i : List ℕ). header_bytes c.form i (length d.body)) id ∙ ap (header_bytes c.form c.id) body in
    omega (
      arith,
      ap length head,
      ap length pad,
      body,
      length-append (header_bytes d.form d.id (length d.body)) (d.body ++ d.pad),
      length-append d.body d.pad,
      length-append (header_bytes c.form c.id (length c.body)) (c.body ++ c.pad),
      length-append c.body c.pad,
    )

respelled_alike : (c d : Chunk) (x y : List ℕ) → d.form ≡ c.form → d.id ≡ c.id → d.pad ≡ c.pad → length d.body ≡ length c.body → length y ≡ length x → length (spell (respelled d y)) ≡ length (spell (respelled c x))
respelled_alike c d x y form id pad body long =
    spell_alike (respelled c x) (respelled d y) (respelled_form d y ∙ form ∙ sym (respelled_form c x)) (respelled_id d y ∙ id ∙ sym (respelled_id c x)) (pad_alike c d x y form pad body long)
    (ap length (respelled_body d y) ∙ long ∙ sym (ap length (respelled_body c x)))

module _ (ws : List Write) where
  pub renew_long : (at : ℕ) (c : Chunk) → length (renew ws at c).body ≡ length c.body
  renew_long at c = length-written ws (at + head_length c) c.body

  pub renew_spell : (at : ℕ) (c : Chunk) → length (spell (renew ws at c)) ≡ length (spell c)
  renew_spell at c = alike_len c (renew ws at c) (renew_alike ws at c)

  -- a list into which numbers are written is read as its chunks with these, and its rest
  abbrev pub RunStays : ℕ → Chunk → Type 0
  RunStays at c = list_run (renew ws at c) ≡ record { chunks = renewed ws (at + 12) (list_run c).chunks; stop = ends; left = (list_run c).left }

  ends_stay : (at : ℕ) (c : Chunk) → RunStays at c → ends_list (renew ws at c) ≡ ends_list c
  ends_stay at c run = ap (λ (r : Run). is_nil r.left && is_nil c.pad) run

  word_long : (at : ℕ) (c : Chunk) → 4 ≤ length c.body → length (take 4 (renew ws at c).body) ≡ length (take 4 c.body)
  word_long at c long = omega (arith, long, renew_long at c, length-take 4 (renew ws at c).body, length-take 4 c.body)

  -- a list with other chunks of the same length
  with_long : (at : ℕ) (c : Chunk) (xs ys : List Chunk) → RunStays at c → 4 ≤ length c.body → length (spell_all ys) ≡ length (spell_all xs)
      → length (take 4 (renew ws at c).body ++ (spell_all ys ++ (list_run (renew ws at c)).left)) ≡ length (take 4 c.body ++ (spell_all xs ++ (list_run c).left))
  with_long at c xs ys run long same =
      let left : length (list_run (renew ws at c)).left ≡ length (list_run c).left = ap (λ (r : Run). length r.left) run in
      omega (
        arith,
        left,
        same,
        word_long at c long,
        length-append (take 4 (renew ws at c).body) (spell_all ys ++ (list_run (renew ws at c)).left),
        length-append (spell_all ys) (list_run (renew ws at c)).left,
        length-append (take 4 c.body) (spell_all xs ++ (list_run c).left),
        length-append (spell_all xs) (list_run c).left,
      )

  -- ---- the list of a stream

  pieces_stay : (new : List Chunk) (at : ℕ) (c : Chunk) → RunStays at c → NamesAlone ws (at + 12) (list_run c).chunks → strl_pieces new (renew ws at c) ≡ units shut (renewed_cells ws (at + 12) (name_cells new (map cell_of (list_run c).chunks)))
  pieces_stay new at c run alone = ap (λ (r : Run). units shut (name_cells new (map cell_of r.chunks))) run ∙ ap (units shut) (names_renewed ws new (at + 12) (list_run c).chunks alone)

  fill_stays : (last : Bool) (at : ℕ) (c : Chunk) → RunStays at c → strl_fill last (renew ws at c) ≡ strl_fill last c
  fill_stays last at c run = ap (λ (t : Bool). Rattle.carrier_model.specs.Info.riff_fill (last && t)) (ends_stay at c run)

  laid_stays : (last : Bool) (new : List Chunk) (at : ℕ) (c : Chunk) → RunStays at c → NamesAlone ws (at + 12) (list_run c).chunks
      → length (spell_all (lay (strl_fill last (renew ws at c)) (strl_pieces new (renew ws at c)))) ≡ length (spell_all (lay (strl_fill last c) (strl_pieces new c)))
  laid_stays last new at c run alone =
      ap (λ (f : Fill). length (spell_all (lay f (strl_pieces new (renew ws at c))))) (fill_stays last at c run)
      ∙ ap (λ (ps : List Rattle.container_model.specs.Units.Piece). length (spell_all (lay (strl_fill last c) ps))) (pieces_stay new at c run alone)
      ∙ laid_shut ws (strl_fill last c) (name_cells new (map cell_of (list_run c).chunks)) (at + 12)

  strl_long : (last : Bool) (new : List Chunk) (at : ℕ) (c : Chunk) → RunStays at c → NamesAlone ws (at + 12) (list_run c).chunks → 4 ≤ length c.body
      → length (strl_named last new (renew ws at c)).body ≡ length (strl_named last new c).body
  strl_long last new at c run alone long =
      let x = take 4 c.body ++ (spell_all (lay (strl_fill last c) (strl_pieces new c)) ++ (list_run c).left) in
      let y = take 4 (renew ws at c).body ++ (spell_all (lay (strl_fill last (renew ws at c)) (strl_pieces new (renew ws at c))) ++ (list_run (renew ws at c)).left) in
      ap length (respelled_body (renew ws at c) y) ∙ with_long at c (lay (strl_fill last c) (strl_pieces new c)) (lay (strl_fill last (renew ws at c)) (strl_pieces new (renew ws at c))) run long (laid_stays last new at c run alone)
      ∙ sym (ap length (respelled_body c x))

  strl_pad : (last : Bool) (new : List Chunk) (at : ℕ) (c : Chunk) → RunStays at c → NamesAlone ws (at + 12) (list_run c).chunks → 4 ≤ length c.body → (strl_named last new (renew ws at c)).pad ≡ (strl_named last new c).pad
  strl_pad last new at c run alone long =
      pad_alike c (renew ws at c) (take 4 c.body ++ (spell_all (lay (strl_fill last c) (strl_pieces new c)) ++ (list_run c).left))
      (take 4 (renew ws at c).body ++ (spell_all (lay (strl_fill last (renew ws at c)) (strl_pieces new (renew ws at c))) ++ (list_run (renew ws at c)).left)) refl refl (renew_long at c)
      (with_long at c (lay (strl_fill last c) (strl_pieces new c)) (lay (strl_fill last (renew ws at c)) (strl_pieces new (renew ws at c))) run long (laid_stays last new at c run alone))

  strl_spell : (last : Bool) (new : List Chunk) (at : ℕ) (c : Chunk) → RunStays at c → NamesAlone ws (at + 12) (list_run c).chunks → 4 ≤ length c.body
      → length (spell (strl_named last new (renew ws at c))) ≡ length (spell (strl_named last new c))
  strl_spell last new at c run alone long =
      respelled_alike c (renew ws at c) (take 4 c.body ++ (spell_all (lay (strl_fill last c) (strl_pieces new c)) ++ (list_run c).left))
      (take 4 (renew ws at c).body ++ (spell_all (lay (strl_fill last (renew ws at c)) (strl_pieces new (renew ws at c))) ++ (list_run (renew ws at c)).left)) refl refl refl (renew_long at c)
      (with_long at c (lay (strl_fill last c) (strl_pieces new c)) (lay (strl_fill last (renew ws at c)) (strl_pieces new (renew ws at c))) run long (laid_stays last new at c run alone))

  -- ---- hdrl

  module _ (e : Names) where
    strl_cuts_stay : (last : Bool) (n at : ℕ) (c : Chunk) → RunStays at c → NamesAlone ws (at + 12) (list_run c).chunks → 4 ≤ length c.body
        → strl_cuts e (record { at = at; ends = last; stream = n; chunk = renew ws at c }) ≡ strl_cuts e (record { at = at; ends = last; stream = n; chunk = c })
    strl_cuts_stay last n at c run alone long =
        let d = renew ws at c in
        let new = new_names e n in
        let fill = strl_fill last c in
        let tail = λ (cs : List Cut) (k : ℕ) (pad : List ℕ). record { at = at + 4; len = 4; bytes = to_le_bytes w32 (length (strl_named last new c).body) } ∷ (cs ++ pad_cut (at + 8 + k) c.pad pad) in
        ap (λ (k : ℕ). record { at = at + 4; len = 4; bytes = to_le_bytes w32 k } ∷ (cuts (strl_fill last d) (at + 12) (strl_pieces new d) ++ pad_cut (at + 8 + length d.body) c.pad (strl_named last new d).pad)) (strl_long last new at c run alone long)
        ∙ ap (λ (f : Fill). tail (cuts f (at + 12) (strl_pieces new d)) (length d.body) (strl_named last new d).pad) (fill_stays last at c run)
        ∙ ap (λ (ps : List Rattle.container_model.specs.Units.Piece). tail (cuts fill (at + 12) ps) (length d.body) (strl_named last new d).pad) (pieces_stay new at c run alone)
        ∙ ap (λ (cs : List Cut). tail cs (length d.body) (strl_named last new d).pad) (cuts_shut ws fill (name_cells new (map cell_of (list_run c).chunks)) (at + 12) (at + 12))
        ∙ ap (λ (k : ℕ). tail (cuts fill (at + 12) (strl_pieces new c)) k (strl_named last new d).pad) (renew_long at c)
        ∙ ap (λ (pad : List ℕ). tail (cuts fill (at + 12) (strl_pieces new c)) (length c.body) pad) (strl_pad last new at c run alone long)

    -- a chunk of hdrl
    pub record KidStays (at : ℕ) (c : Chunk) : Type 0 where
      pub typed : is_strl (renew ws at c) ≡ is_strl c
      pub opens : is_strl c ≡ true → RunStays at c × (NamesAlone ws (at + 12) (list_run c).chunks × (4 ≤ length c.body))

    abbrev pub KidsStay : ℕ → List Chunk → Type 0
    KidsStay at [] = Unit {0}
    KidsStay at (c ∷ cs) = KidStays at c × KidsStay (at + length (spell c)) cs

    pub nil_stays : (at : ℕ) (cs : List Chunk) → is_nil (renewed ws at cs) ≡ is_nil cs
    nil_stays at [] = refl
    nil_stays at (c ∷ cs) = refl

    count_stays : (n at : ℕ) (c : Chunk) → KidStays at c → counted is_strl n (renew ws at c) ≡ counted is_strl n c
    count_stays n at c h = ap (λ (t : Bool). cond t (suc n) n) h.typed

    kid_spell : (last : Bool) (n at : ℕ) (c : Chunk) → KidStays at c → length (spell (kid_named e last n (renew ws at c))) ≡ length (spell (kid_named e last n c))
    kid_spell last n at c h = ap (λ (t : Bool). length (spell (cond (t && is_named e n) (strl_named last (new_names e n) (renew ws at c)) (renew ws at c)))) h.typed ∙ go (is_strl c) refl (is_named e n)
      where
        go : (t : Bool) → is_strl c ≡ t → (u : Bool) → length (spell (cond (t && u) (strl_named last (new_names e n) (renew ws at c)) (renew ws at c))) ≡ length (spell (cond (t && u) (strl_named last (new_names e n) c) c))
        go true i true = let o = h.opens i in strl_spell last (new_names e n) at c o.0 o.1.0 o.1.1
        go true i false = renew_spell at c
        go false i u = renew_spell at c

    kids_spell : (last : Bool) (n at : ℕ) (cs : List Chunk) → KidsStay at cs → length (spell_all (kids_named e last n (renewed ws at cs))) ≡ length (spell_all (kids_named e last n cs))
    kids_spell last n at [] h = refl
    kids_spell last n at (c ∷ cs) h =
        let next = at + length (spell c) in
        let d = renew ws at c in
        let t = last && is_nil cs in
        let one : length (spell (kid_named e (last && is_nil (renewed ws next cs)) n d)) ≡ length (spell (kid_named e t n c)) = ap (λ (b : Bool). length (spell (kid_named e (last && b) n d))) (nil_stays next cs) ∙ kid_spell t n at c h.0 in
        let more : length (spell_all (kids_named e last (counted is_strl n d) (renewed ws next cs))) ≡ length (spell_all (kids_named e last (counted is_strl n c) cs))
        = ap (λ (k : ℕ). length (spell_all (kids_named e last k (renewed ws next cs)))) (count_stays n at c h.0) ∙ kids_spell last (counted is_strl n c) next cs h.1 in
        omega (
          arith,
          one,
          more,
          length-append (spell (kid_named e (last && is_nil (renewed ws next cs)) n d)) (spell_all (kids_named e last (counted is_strl n d) (renewed ws next cs))),
          length-append (spell (kid_named e t n c)) (spell_all (kids_named e last (counted is_strl n c) cs)),
        )

    -- the spans of the streams' lists
    kids_cuts : (last : Bool) (n at : ℕ) (cs : List Chunk) → KidsStay at cs → flat_map (strl_cuts e) (sites_from e last n at (renewed ws at cs)) ≡ flat_map (strl_cuts e) (sites_from e last n at cs)
    kids_cuts last n at [] h = refl
    kids_cuts last n at (c ∷ cs) h =
        let next = at + length (spell c) in
        let d = renew ws at c in
        let t = last && is_nil cs in
        let here : Chunk → Bool → Bool → List Site = λ x b u. cond b (record { at = at; ends = u; stream = n; chunk = x } ∷ []) [] in
        let one : flat_map (strl_cuts e) (here d (is_strl d && is_named e n) (last && is_nil (renewed ws next cs))) ≡ flat_map (strl_cuts e) (here c (is_strl c && is_named e n) t)
        = ap (λ (b : Bool). flat_map (strl_cuts e) (here d (is_strl d && is_named e n) (last && b))) (nil_stays next cs) ∙ ap (λ (b : Bool). flat_map (strl_cuts e) (here d (b && is_named e n) t)) h.0.typed ∙ go (is_strl c) refl (is_named e n) in
        let more : flat_map (strl_cuts e) (sites_from e last (counted is_strl n d) (at + length (spell d)) (renewed ws next cs)) ≡ flat_map (strl_cuts e) (sites_from e last (counted is_strl n c) next cs)
        = ap (λ (k : ℕ). flat_map (strl_cuts e) (sites_from e last k (at + length (spell d)) (renewed ws next cs))) (count_stays n at c h.0)
        ∙ ap (λ (k : ℕ). flat_map (strl_cuts e) (sites_from e last (counted is_strl n c) (at + k) (renewed ws next cs))) (renew_spell at c) ∙ kids_cuts last (counted is_strl n c) next cs h.1 in
        flat_map-append (strl_cuts e) (here d (is_strl d && is_named e n) (last && is_nil (renewed ws next cs))) (sites_from e last (counted is_strl n d) (at + length (spell d)) (renewed ws next cs))
        ∙ ap (λ (x : List Cut). x ++ flat_map (strl_cuts e) (sites_from e last (counted is_strl n d) (at + length (spell d)) (renewed ws next cs))) one
        ∙ ap (λ (x : List Cut). flat_map (strl_cuts e) (here c (is_strl c && is_named e n) t) ++ x) more
        ∙ sym (flat_map-append (strl_cuts e) (here c (is_strl c && is_named e n) t) (sites_from e last (counted is_strl n c) next cs))
      where
        go : (t : Bool) → is_strl c ≡ t → (u : Bool) → flat_map (strl_cuts e) (cond (t && u) (record { at = at; ends = last && is_nil cs; stream = n; chunk = renew ws at c } ∷ []) []) ≡ flat_map (strl_cuts e) (cond (t && u) (record { at = at; ends = last && is_nil cs; stream = n; chunk = c } ∷ []) [])
        go true i true = let o = h.0.opens i in ap (λ (x : List Cut). x ++ []) (strl_cuts_stay (last && is_nil cs) n at c o.0 o.1.0 o.1.1)
        go true i false = refl
        go false i u = refl

    -- what hdrl needs
    pub record HdrlStays (at : ℕ) (c : Chunk) : Type 0 where
      pub run : RunStays at c
      pub long : 4 ≤ length c.body
      pub kids : KidsStay (at + 12) (list_run c).chunks

    hdrl_kids : (last : Bool) (at : ℕ) (c : Chunk) → HdrlStays at c
        → length (spell_all (kids_named e (last && ends_list (renew ws at c)) 0 (list_run (renew ws at c)).chunks)) ≡ length (spell_all (kids_named e (last && ends_list c) 0 (list_run c).chunks))
    hdrl_kids last at c h =
        ap (λ (t : Bool). length (spell_all (kids_named e (last && t) 0 (list_run (renew ws at c)).chunks))) (ends_stay at c h.run)
        ∙ ap (λ (r : Run). length (spell_all (kids_named e (last && ends_list c) 0 r.chunks))) h.run ∙ kids_spell (last && ends_list c) 0 (at + 12) (list_run c).chunks h.kids

    pub hdrl_spell : (last : Bool) (at : ℕ) (c : Chunk) → HdrlStays at c → length (spell (hdrl_named e last (renew ws at c))) ≡ length (spell (hdrl_named e last c))
    hdrl_spell last at c h =
        let xs = kids_named e (last && ends_list c) 0 (list_run c).chunks in
        let ys = kids_named e (last && ends_list (renew ws at c)) 0 (list_run (renew ws at c)).chunks in
        respelled_alike c (renew ws at c) (take 4 c.body ++ (spell_all xs ++ (list_run c).left)) (take 4 (renew ws at c).body ++ (spell_all ys ++ (list_run (renew ws at c)).left)) refl refl refl (renew_long at c)
        (with_long at c xs ys h.run h.long (hdrl_kids last at c h))

    pub hdrl_long : (last : Bool) (at : ℕ) (c : Chunk) → HdrlStays at c → length (hdrl_named e last (renew ws at c)).body ≡ length (hdrl_named e last c).body
    hdrl_long last at c h =
        let d = renew ws at c in
        let xs = kids_named e (last && ends_list c) 0 (list_run c).chunks in
        let ys = kids_named e (last && ends_list d) 0 (list_run d).chunks in
        ap length (respelled_body d (take 4 d.body ++ (spell_all ys ++ (list_run d).left))) ∙ with_long at c xs ys h.run h.long (hdrl_kids last at c h)
        ∙ sym (ap length (respelled_body c (take 4 c.body ++ (spell_all xs ++ (list_run c).left))))

    pub hdrl_pad : (last : Bool) (at : ℕ) (c : Chunk) → HdrlStays at c → (hdrl_named e last (renew ws at c)).pad ≡ (hdrl_named e last c).pad
    hdrl_pad last at c h =
        let d = renew ws at c in
        let xs = kids_named e (last && ends_list c) 0 (list_run c).chunks in
        let ys = kids_named e (last && ends_list d) 0 (list_run d).chunks in
        pad_alike c d (take 4 c.body ++ (spell_all xs ++ (list_run c).left)) (take 4 d.body ++ (spell_all ys ++ (list_run d).left)) refl refl (renew_long at c) (with_long at c xs ys h.run h.long (hdrl_kids last at c h))

    pub hdrl_cuts_stay : (last : Bool) (at : ℕ) (c : Chunk) → HdrlStays at c → hdrl_cuts e (record { at = at; ends = last; stream = 0; chunk = renew ws at c }) ≡ hdrl_cuts e (record { at = at; ends = last; stream = 0; chunk = c })
    hdrl_cuts_stay last at c h =
        let d = renew ws at c in
        let xs = kids_named e (last && ends_list c) 0 (list_run c).chunks in
        let ys = kids_named e (last && ends_list d) 0 (list_run d).chunks in
        let x = take 4 c.body ++ (spell_all xs ++ (list_run c).left) in
        let y = take 4 d.body ++ (spell_all ys ++ (list_run d).left) in
        let same = with_long at c xs ys h.run h.long (hdrl_kids last at c h) in
        let size : length (hdrl_named e last d).body ≡ length (hdrl_named e last c).body = ap length (respelled_body d y) ∙ same ∙ sym (ap length (respelled_body c x)) in
        let pad : (hdrl_named e last d).pad ≡ (hdrl_named e last c).pad = pad_alike c d x y refl refl (renew_long at c) same in
        let sites : flat_map (strl_cuts e) (sites_from e (last && ends_list d) 0 (at + 12) (list_run d).chunks) ≡ flat_map (strl_cuts e) (sites_from e (last && ends_list c) 0 (at + 12) (list_run c).chunks)
        = ap (λ (t : Bool). flat_map (strl_cuts e) (sites_from e (last && t) 0 (at + 12) (list_run d).chunks)) (ends_stay at c h.run)
        ∙ ap (λ (r : Run). flat_map (strl_cuts e) (sites_from e (last && ends_list c) 0 (at + 12) r.chunks)) h.run ∙ kids_cuts (last && ends_list c) 0 (at + 12) (list_run c).chunks h.kids in
        let tail = λ (cs : List Cut) (k : ℕ) (p : List ℕ). record { at = at + 4; len = 4; bytes = to_le_bytes w32 (length (hdrl_named e last c).body) } ∷ (cs ++ pad_cut (at + 8 + k) c.pad p) in
        ap (λ (k : ℕ). record { at = at + 4; len = 4; bytes = to_le_bytes w32 k } ∷ (flat_map (strl_cuts e) (sites_from e (last && ends_list d) 0 (at + 12) (list_run d).chunks) ++ pad_cut (at + 8 + length d.body) c.pad (hdrl_named e last d).pad)) size
        ∙ ap (λ (cs : List Cut). tail cs (length d.body) (hdrl_named e last d).pad) sites ∙ ap (λ (k : ℕ). tail (flat_map (strl_cuts e) (sites_from e (last && ends_list c) 0 (at + 12) (list_run c).chunks)) k (hdrl_named e last d).pad) (renew_long at c)
        ∙ ap (λ (p : List ℕ). tail (flat_map (strl_cuts e) (sites_from e (last && ends_list c) 0 (at + 12) (list_run c).chunks)) (length c.body) p) pad

    -- ---- the first form

    -- the chunks up to the first hdrl
    abbrev pub ChildrenStay : ℕ → List Chunk → Type 0
    ChildrenStay at [] = Unit {0}
    ChildrenStay at (c ∷ cs) = (is_hdrl (renew ws at c) ≡ is_hdrl c) × ((is_hdrl c ≡ true → HdrlStays at c) × (is_hdrl c ≡ false → ChildrenStay (at + length (spell c)) cs))

    -- The spans of the names are the same.
    pub children_cuts : (last : Bool) (at : ℕ) (cs : List Chunk) → ChildrenStay at cs → flat_map (hdrl_cuts e) (hdrl_from last at (renewed ws at cs)) ≡ flat_map (hdrl_cuts e) (hdrl_from last at cs)
    children_cuts last at [] h = refl
    children_cuts last at (c ∷ cs) h =
        let next = at + length (spell c) in
        let d = renew ws at c in
        ap (λ (b : Bool). flat_map (hdrl_cuts e) (cond b (record { at = at; ends = last && is_nil (renewed ws next cs); stream = 0; chunk = d } ∷ []) (hdrl_from last (at + length (spell d)) (renewed ws next cs)))) h.0
        ∙ ap (λ (b : Bool). flat_map (hdrl_cuts e) (cond (is_hdrl c) (record { at = at; ends = last && b; stream = 0; chunk = d } ∷ []) (hdrl_from last (at + length (spell d)) (renewed ws next cs)))) (nil_stays next cs)
        ∙ ap (λ (k : ℕ). flat_map (hdrl_cuts e) (cond (is_hdrl c) (record { at = at; ends = last && is_nil cs; stream = 0; chunk = d } ∷ []) (hdrl_from last (at + k) (renewed ws next cs)))) (renew_spell at c) ∙ go (is_hdrl c) refl (λ i. children_cuts last next cs (h.1.1 i))
      where
        go : (t : Bool) → is_hdrl c ≡ t → (is_hdrl c ≡ false → flat_map (hdrl_cuts e) (hdrl_from last (at + length (spell c)) (renewed ws (at + length (spell c)) cs)) ≡ flat_map (hdrl_cuts e) (hdrl_from last (at + length (spell c)) cs))
            → flat_map (hdrl_cuts e) (cond t (record { at = at; ends = last && is_nil cs; stream = 0; chunk = renew ws at c } ∷ []) (hdrl_from last (at + length (spell c)) (renewed ws (at + length (spell c)) cs)))
            ≡ flat_map (hdrl_cuts e) (cond t (record { at = at; ends = last && is_nil cs; stream = 0; chunk = c } ∷ []) (hdrl_from last (at + length (spell c)) cs))
        go true i again = ap (λ (x : List Cut). x ++ []) (hdrl_cuts_stay (last && is_nil cs) at c (h.1.0 i))
        go false i again = again i
