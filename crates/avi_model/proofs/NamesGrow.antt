-- A list with another name is no shorter than it was, unless its last slot ends the file; so no byte of the essence moves towards the
-- start by an edit of names.
use Rattle.std.proofs.Common.{◌≡◌, ℕ, ◌+◌, ◌%◌, ◌^◌, ◌<◌, ◌≤◌, Bool, true, false, cond, eqb, List, [], ◌∷◌, ◌++◌, length, map, take, refl, sym, ap, subst, ◌∙◌, arith, inl, inr}
use Rattle.std.specs.Prelude.{◌⊎◌, ◌&&◌, codes}
use Rattle.std.specs.List.{flat_map, AllByRecursion}
use Rattle.std.proofs.lemmas.Bool.{eqb-false}
use Rattle.std.proofs.lemmas.List.{length-append, length-replicate}
use Rattle.container_model.specs.Chunk.{Chunk, Form, PadStands, Pads, header_bytes, riff, spell, spell_all}
use Rattle.container_model.specs.Items.{is_nil}
use Rattle.container_model.specs.Splice.{Cut, gained, lost}
use Rattle.container_model.specs.Stood.{Stood, bare, stood, only}
use Rattle.container_model.specs.Units.{Piece, Fill, copied, replaced, lay, old_bytes, padded, shut, unit_bytes, units}
use Rattle.container_model.proofs.Goes.{before_later}
use Rattle.container_model.proofs.Copied.{before_none}
use Rattle.container_model.proofs.Places.{old_length}
use Rattle.container_model.proofs.Plain.{IsPlain}
use Rattle.container_model.proofs.Units.{BringsPad, spell_all-append, units_bring}
use Rattle.carrier_model.specs.Cells.{counted}
use Rattle.carrier_model.specs.Info.{is_type, list_run, riff_fill}
use Rattle.carrier_model.specs.Names.{name_cells}
use Rattle.avi_model.specs.Avi.{is_movi}
use Rattle.avi_model.specs.Named.{Names, cell_of, hdrl_from, hdrl_cuts, hdrl_named, is_hdrl, is_named, is_strl, kid_named, kids_named, new_names, respelled, strl_named, names_after}
use Rattle.avi_model.proofs.Among.{Among, among_only, stood_inside}
use Rattle.avi_model.proofs.Children.{AreChildren, behind_one, children_block, cuts_from, kids_of}
use Rattle.avi_model.proofs.Grows.{riff_grows}
use Rattle.avi_model.proofs.Respelled.{IsList, laid_chunks, list_length, made_names, respelled_body, respelled_form, respelled_id}
use Rattle.avi_model.proofs.Streams.{AreKids, IsKid}
use Rattle.avi_model.proofs.StreamsGo.{hdrl_block, old_is}
use Rattle.avi_model.proofs.Types.{and_none, type_is}

-- ---- units

-- a fill that leaves no unit shorter than its slot
abbrev AlwaysGrows : Fill → Type 0
AlwaysGrows fill = (last : Bool) (slot : List ℕ) (s : ℕ) → length slot < 2 ^ 32 → length slot ≤ s + length (spell_all (fill last slot s))

fill_grows : AlwaysGrows (riff_fill false)
fill_grows last slot s low = riff_grows false slot s low

lay_grows : (fill : Fill) → AlwaysGrows fill → (ps : List Piece) → BringsPad ps → old_length ps < 2 ^ 32 → old_length ps ≤ length (spell_all (lay fill ps))
lay_grows fill g [] b low = omega arith
lay_grows fill g (copied c ∷ ps) b low =
    let old = length-append (spell c) (flat_map old_bytes ps) in
    omega (arith, lay_grows fill g ps b (omega (arith, low, old)), old, length-append (spell c) (spell_all (lay fill ps)))
lay_grows fill g (replaced lead slot now last ∷ ps) b low =
    let old = length-append (spell_all lead ++ slot) (flat_map old_bytes ps) in
    let two = length-append (spell_all lead) slot in
    let f = fill last slot (length (unit_bytes lead now)) in
    let len : length (spell_all (lay fill (replaced lead slot now last ∷ ps))) ≡ length (spell_all lead) + (length (unit_bytes lead now) + length (spell_all f)) + length (spell_all (lay fill ps))
    = rw (spell_all-append (map padded lead ++ (now ++ f)) (lay fill ps), spell_all-append (map padded lead) (now ++ f), spell_all-append now f, b.0)
    (omega (
      arith,
      length-append ((spell_all lead ++ Rattle.container_model.specs.Units.lead_pad lead) ++ (spell_all now ++ spell_all f)) (spell_all (lay fill ps)),
      length-append (spell_all lead ++ Rattle.container_model.specs.Units.lead_pad lead) (spell_all now ++ spell_all f),
      length-append (spell_all lead) (Rattle.container_model.specs.Units.lead_pad lead),
      length-append (spell_all now) (spell_all f),
      length-append (Rattle.container_model.specs.Units.lead_pad lead) (spell_all now),
    )) in
    omega (arith, len, old, two, g last slot (length (unit_bytes lead now)) (omega (arith, low, old, two)), lay_grows fill g ps b.1 (omega (arith, low, old)))

-- ---- a list with longer chunks

-- with a longer body, and its old pad, of a byte at most, or one that its size wants
respelled_grows : (c : Chunk) (body : List ℕ) → c.form ≡ riff → length c.pad ≤ 1 → length c.body ≤ length body → length (spell c) ≤ length (spell (respelled c body))
respelled_grows c body riffs pad le =
    let d = respelled c body in
    let id = respelled_id c body in
    let b = respelled_body c body in
    let head : length (header_bytes d.form d.id (length d.body)) ≡ length (header_bytes c.form c.id (length c.body)) = ap (λ (f : Form). length (header_bytes f d.id (length d.body))) (respelled_form c body ∙ riffs)
    ∙ omega (arith, ap length id, length-append d.id (Rattle.std.specs.Int.to_le_bytes Rattle.std.specs.Int.w32 (length d.body)), length-append c.id (Rattle.std.specs.Int.to_le_bytes Rattle.std.specs.Int.w32 (length c.body)))
    ∙ sym (ap (λ (f : Form). length (header_bytes f c.id (length c.body))) riffs) in
    omega (
      arith,
      head,
      ap length b,
      pads (eqb (length body % 2) (length c.body % 2)) refl,
      length-append (header_bytes d.form d.id (length d.body)) (d.body ++ d.pad),
      length-append d.body d.pad,
      length-append (header_bytes c.form c.id (length c.body)) (c.body ++ c.pad),
      length-append c.body c.pad,
    )
  where
    pads : (t : Bool) → eqb (length body % 2) (length c.body % 2) ≡ t → length c.body + length c.pad ≤ length body + length (cond t (record c { body = body }) (padded (record c { body = body }))).pad
    pads true e = omega (arith, le)
    pads false e = omega (arith, le, pad, eqb-false (length body % 2) (length c.body % 2) e)

short_pad : (c : Chunk) (more : List ℕ) → c.form ≡ riff → PadStands c.form (length c.body) c.pad more → length c.pad ≤ 1
short_pad c more i p = go (subst (λ (f : Form). PadStands f (length c.body) c.pad more) i p)
  where
    go : PadStands riff (length c.body) c.pad more → length c.pad ≤ 1
    go (inl e) = omega (arith, e)
    go (inr e) = omega (arith, e.0)

module _ (e : Names) where
  strl_grows : (n : ℕ) (c : Chunk) → IsPlain c → IsList c → length c.pad ≤ 1 → length c.body < 2 ^ 32 → length (spell c) ≤ length (spell (strl_named false (new_names e n) c))
  strl_grows n c plain is pad low =
      let vs = names_after e n [] in
      let cells = name_cells (made_names vs) (map cell_of (list_run c).chunks) in
      let ps = units shut cells in
      let new = strl_named false (new_names e n) c in
      let inside : length (spell_all (list_run c).chunks) + length (list_run c).left + 4 ≡ length c.body = omega (arith, ap length is.spelled, is.long, length-append (spell_all (list_run c).chunks) (list_run c).left, Rattle.std.proofs.lemmas.List.length-drop 4 c.body) in
      let old : old_length ps ≡ length (spell_all (list_run c).chunks) = old_is false vs c plain is in
      let grown = lay_grows (riff_fill false) fill_grows ps (units_bring shut cells tt) (omega (arith, old, inside, low)) in
      let long = list_length c (laid_chunks false vs c) is in
      respelled_grows c _ is.form_is pad (omega (arith, inside, old, grown, long, ap length (respelled_body c (take 4 c.body ++ (spell_all (laid_chunks false vs c) ++ (list_run c).left)))))

  kid_grows : (n : ℕ) (c : Chunk) → IsKid c → length c.pad ≤ 1 → length c.body < 2 ^ 32 → length (spell c) ≤ length (spell (kid_named e false n c))
  kid_grows n c h pad low = go (is_strl c) refl (is_named e n)
    where
      go : (t : Bool) → is_strl c ≡ t → (u : Bool) → length (spell c) ≤ length (spell (cond (t && u) (strl_named false (new_names e n) c) c))
      go true i true = strl_grows n c h.plain (h.opens i) pad low
      go true i false = omega arith
      go false i u = omega arith

  kids_grow : (n : ℕ) (cs : List Chunk) (left : List ℕ) → AreKids cs → Pads cs left → length (spell_all cs) < 2 ^ 32 → length (spell_all cs) ≤ length (spell_all (kids_named e false n cs))
  kids_grow n [] left h p low = omega arith
  kids_grow n (c ∷ cs) left h p low =
      let long = length-append (spell c) (spell_all cs) in
      let body : length c.body ≤ length (spell c) = Rattle.avi_model.proofs.Streams.spell_long c in
      omega (
        arith,
        kid_grows n c h.0 (short_pad c (spell_all cs ++ left) h.0.plain.form_is p.0) (omega (arith, low, long, body)),
        kids_grow (counted is_strl n c) cs left h.1 p.1 (omega (arith, low, long)),
        long,
        length-append (spell (kid_named e false n c)) (spell_all (kids_named e false (counted is_strl n c) cs)),
      )

  hdrl_grows : (c : Chunk) → IsList c → AreKids (list_run c).chunks → length c.pad ≤ 1 → length c.body < 2 ^ 32 → length (spell c) ≤ length (spell (hdrl_named e false c))
  hdrl_grows c is kids pad low =
      let ks = (list_run c).chunks in
      let inside : length (spell_all ks) + length (list_run c).left + 4 ≡ length c.body = omega (arith, ap length is.spelled, is.long, length-append (spell_all ks) (list_run c).left, Rattle.std.proofs.lemmas.List.length-drop 4 c.body) in
      let grown = kids_grow 0 ks (list_run c).left kids is.pads (omega (arith, inside, low)) in
      let long = list_length c (kids_of e false c) is in
      respelled_grows c _ is.form_is pad (omega (arith, inside, grown, long, ap length (respelled_body c (take 4 c.body ++ (spell_all (kids_of e false c) ++ (list_run c).left)))))

  -- ---- the first form

  -- What the names put into the file before a movi list is no less than what they take away.
  pub names_grow : (last : Bool) (at : ℕ) (cs : List Chunk) (left : List ℕ) → AreChildren cs → Pads cs left → length (spell_all cs) < 2 ^ 32 → (m : Stood) → Among m (only is_movi (stood at cs)) → (p : ℕ) → m.at ≤ p → p < m.at + length (spell m.chunk)
      → lost (cuts_from e last at cs) p ≤ gained (cuts_from e last at cs) p
  names_grow last at [] left h q low m i p from to = absurd i
  names_grow last at (c ∷ cs) left h q low m i p from to = go (is_hdrl c) refl (λ j k. names_grow last (at + length (spell c)) cs left (behind_one c cs h j) q.1 (omega (arith, low, long)) m k p from to)
    where
      long : length (spell_all (c ∷ cs)) ≡ length (spell c) + length (spell_all cs)
      long = length-append (spell c) (spell_all cs)

      next : ℕ
      next = at + length (spell c)

      rest : Among m (cond (is_movi c) (record { at = at; chunk = bare c } ∷ only is_movi (stood (at + length (spell c)) cs)) (only is_movi (stood (at + length (spell c)) cs)))
      rest = i

      behind : (t : Bool) → is_movi c ≡ t → Among m (cond t (record { at = at; chunk = bare c } ∷ only is_movi (stood (at + length (spell c)) cs)) (only is_movi (stood (at + length (spell c)) cs)))
          → ((m.at ≡ at) × (length (spell m.chunk) ≤ length (spell c))) ⊎ Among m (only is_movi (stood (at + length (spell c)) cs))
      behind true t (inl e) = inl (sym (ap (λ (x : Stood). x.at) e), omega (arith, ap (λ (x : Stood). length (spell x.chunk)) e, Rattle.container_model.proofs.Copied.bare_short c))
      behind true t (inr k) = inr k
      behind false t k = inr k

      go : (t : Bool) → is_hdrl c ≡ t → (is_hdrl c ≡ false → Among m (only is_movi (stood (at + length (spell c)) cs)) → lost (cuts_from e last (at + length (spell c)) cs) p ≤ gained (cuts_from e last (at + length (spell c)) cs) p)
          → lost (flat_map (hdrl_cuts e) (cond t (record { at = at; ends = last && is_nil cs; stream = 0; chunk = c } ∷ []) (hdrl_from last (at + length (spell c)) cs))) p
          ≤ gained (flat_map (hdrl_cuts e) (cond t (record { at = at; ends = last && is_nil cs; stream = 0; chunk = c } ∷ []) (hdrl_from last (at + length (spell c)) cs))) p
      go true j again = some (behind (is_movi c) refl rest)
        where
          not_movi : is_movi c ≡ false
          not_movi = let t = type_is (codes "hdrl") c j in rw (t.id_is, t.type_is) (and_none (Rattle.carrier_model.specs.Info.own_size c.form))

          more : (xs : List Chunk) → cs ≡ xs → Among m (only is_movi (stood (at + length (spell c)) xs)) → (last && is_nil cs) ≡ false
          more [] e k = absurd k
          more (x ∷ xs) e k = ap (λ (ys : List Chunk). last && is_nil ys) e ∙ none last
            where
              none : (b : Bool) → (b && false) ≡ false
              none true = refl
              none false = refl

          in_rest : Among m (only is_movi (stood (at + length (spell c)) cs))
          in_rest = subst (λ (t : Bool). Among m (cond t (record { at = at; chunk = bare c } ∷ only is_movi (stood (at + length (spell c)) cs)) (only is_movi (stood (at + length (spell c)) cs)))) not_movi rest

          some : ((m.at ≡ at) × (length (spell m.chunk) ≤ length (spell c))) ⊎ Among m (only is_movi (stood (at + length (spell c)) cs))
              → lost (hdrl_cuts e (record { at = at; ends = last && is_nil cs; stream = 0; chunk = c }) ++ []) p ≤ gained (hdrl_cuts e (record { at = at; ends = last && is_nil cs; stream = 0; chunk = c }) ++ []) p
          some k =
              let o = h.1.0 j in
              let far = (stood_inside (at + length (spell c)) cs m (among_only is_movi (stood (at + length (spell c)) cs) m in_rest).0).0 in
              let block = hdrl_block e (last && is_nil cs) c h.0.0 o.0 o.1 at at in
              let not_last : (last && is_nil cs) ≡ false = more cs refl in_rest in
              let size : length (spell c) ≤ length (spell (hdrl_named e (last && is_nil cs) c)) = subst (λ (t : Bool). length (spell c) ≤ length (spell (hdrl_named e t c))) (sym not_last)
              (hdrl_grows c o.0 o.1 (short_pad c (spell_all cs ++ left) h.0.0.form_is q.0) (omega (arith, low, long, Rattle.avi_model.proofs.Streams.spell_long c))) in
              let past = block.past p (omega (arith, far, from)) in
              let nil = Rattle.std.proofs.lemmas.List.append-nil (hdrl_cuts e (record { at = at; ends = last && is_nil cs; stream = 0; chunk = c })) in
              omega (arith, past, size, ap (λ (cs : List Cut). lost cs p) nil, ap (λ (cs : List Cut). gained cs p) nil)
      go false j again = some (behind (is_movi c) refl rest)
        where
          some : ((m.at ≡ at) × (length (spell m.chunk) ≤ length (spell c))) ⊎ Among m (only is_movi (stood (at + length (spell c)) cs))
              → lost (flat_map (hdrl_cuts e) (hdrl_from last (at + length (spell c)) cs)) p ≤ gained (flat_map (hdrl_cuts e) (hdrl_from last (at + length (spell c)) cs)) p
          some (inr k) = again j k
          some (inl k) =
              let block = children_block e last (at + length (spell c)) (at + length (spell c)) cs (behind_one c cs h j) in
              let none = before_none (cuts_from e last (at + length (spell c)) cs) p (before_later (at + length (spell c)) (at + length (spell c) + length (spell_all cs)) p (cuts_from e last (at + length (spell c)) cs) block.ascend (omega (arith, to, k.0, k.1))) in
              omega (arith, none.1, none.2)
