-- Where the chunks of streams' lists stand when other names are set.
use Rattle.std.proofs.Common.{◌≡◌, ℕ, ◌+◌, ◌^◌, ◌<◌, ◌≤◌, Bool, true, false, cond, leb, List, [], ◌∷◌, ◌++◌, length, map, refl, sym, ap, subst, ◌∙◌, arith}
use Rattle.std.specs.Prelude.{◌&&◌, ◌||◌, codes}
use Rattle.std.specs.Int.{w32, to_le_bytes}
use Rattle.std.specs.Str.{bytes_eq}
use Rattle.std.specs.List.{flat_map}
use Rattle.std.proofs.lemmas.List.{length-append, length-drop}
use Rattle.std.proofs.lemmas.List.Concat.{flat_map-append}
use Rattle.container_model.specs.Chunk.{Chunk, Run, header_bytes, spell, spell_all}
use Rattle.container_model.specs.Items.{is_nil}
use Rattle.container_model.specs.Splice.{Cut}
use Rattle.container_model.specs.Stood.{Stood, bare, stood, only}
use Rattle.container_model.specs.Units.{Cell, was, shut, cuts}
use Rattle.container_model.proofs.Copied.{Unseen, Quiet, Later, only-append}
use Rattle.container_model.proofs.Goes.{Block, block_copy, block_both, block_pieces, block_cut}
use Rattle.container_model.proofs.Places.{old_length, Before}
use Rattle.container_model.proofs.Plain.{IsPlain}
use Rattle.container_model.proofs.Units.{units_old, units_bring}
use Rattle.carrier_model.specs.Cells.{counted}
use Rattle.carrier_model.specs.Info.{is_padding, list_run, fill_by, riff_fill}
use Rattle.carrier_model.specs.Names.{name_cells}
use Rattle.carrier_model.specs.RiffForm.{pad_cut}
use Rattle.carrier_model.proofs.Names.{was_names, quiet_names}
use Rattle.avi_model.specs.Avi.{has_id, kids}
use Rattle.avi_model.specs.Named.{Names, is_named, names_after, new_names, cell_by, cell_of, list_with, ends_list, is_strl, strl_pieces, strl_fill, strl_named, kid_named, kids_named, hdrl_named, Site, sites_from, sites_in, strl_cuts, hdrl_cuts}
use Rattle.avi_model.proofs.Blocks.{block_same, block_pad, Follows, follow_none, follow_same, follow_further, follow_behind, follow_both, follow_before, follow_copied, follow_pieces}
use Rattle.avi_model.proofs.Respelled.{IsList, list_length, made_names, all_names, laid_chunks, strl_run}
use Rattle.avi_model.proofs.Streams.{IsKid, AreKids, kid_strl, laid_small, list_with_plain, hdrl_run}
use Rattle.avi_model.proofs.Tables.{was_cells}
use Rattle.avi_model.proofs.Types.{padding_id}

-- the index chunks
abbrev pub is_index : Chunk → Bool
is_index c = has_id (codes "indx") c

spell_is : (c : Chunk) → IsPlain c → length (spell c) ≡ 8 + length c.body + length c.pad
spell_is c h =
    let head : length (header_bytes c.form c.id (length c.body)) ≡ 8 = rw h.form_is (omega (arith, h.id_len, length-append c.id (to_le_bytes w32 (length c.body)))) in
    omega (arith, head, length-append (header_bytes c.form c.id (length c.body)) (c.body ++ c.pad), length-append c.body c.pad)

-- how long a list is
list_is : (c : Chunk) → IsList c → length c.body ≡ 4 + (length (spell_all (list_run c).chunks) + length (list_run c).left)
list_is c h =
    omega (arith, ap length h.spelled, length-append (spell_all (list_run c).chunks) (list_run c).left, length-drop 4 c.body, h.long)

quiet_cells : (cs : List Chunk) → Quiet is_index (map cell_of cs)
quiet_cells [] = tt
quiet_cells (c ∷ cs) = go (is_padding c) refl (quiet_cells cs)
  where
    go : (t : Bool) → is_padding c ≡ t → Quiet is_index (map cell_of cs) → Quiet is_index (cell_by c t ∷ map cell_of cs)
    go true e h = (ap (λ (x : List ℕ). bytes_eq x (codes "indx")) (padding_id c e), h)
    go false e h = h

fill_unseen : (b last : Bool) (slot : List ℕ) (k : ℕ) → Unseen is_index (riff_fill b last slot k)
fill_unseen b last slot k = go (leb (length slot) k || (b && last))
  where
    go : (t : Bool) → Unseen is_index (fill_by slot k t)
    go true = tt
    go false = (refl, tt)

pad_later : (end at : ℕ) (old new : List ℕ) → end ≤ at → Later end (pad_cut at old new)
pad_later end at old new le q lt = go (bytes_eq old new)
  where
    go : (t : Bool) → Before q (cond t [] (record { at = at; len = length old; bytes = new } ∷ []))
    go true = tt
    go false = (omega (arith, le, lt), tt)

-- a list with other chunks, whose spans are told
module _ (c : Chunk) (cs : List Chunk) (plain : IsPlain c) (is : IsList c) where
  abbrev with_pad : ℕ → List Cut → List Cut
  with_pad at k = k ++ pad_cut (at + 8 + length c.body) c.pad (list_with c cs).pad

  abbrev size : ℕ → Cut
  size at = record { at = at + 4; len = 4; bytes = to_le_bytes w32 (length (list_with c cs).body) }

  -- the header and the type
  pub head_block : (at to : ℕ) → Block at to (at + 12) (to + 12) (size at ∷ [])
  head_block at to =
      block_both at to (at + 4) (to + 4) (at + 12) (to + 12) [] (size at ∷ []) (block_copy at to 4)
      (block_both (at + 4) (to + 4) (at + 8) (to + 8) (at + 12) (to + 12) (size at ∷ []) []
      (block_same (at + 4) (to + 4) (at + 4 + 4) (to + 4 + 4) (at + 4) (to + 4) (at + 8) (to + 8) (size at ∷ []) refl refl (omega arith) (omega arith) (block_cut (size at) (to + 4)))
      (block_same (at + 8) (to + 8) (at + 8 + 4) (to + 8 + 4) (at + 8) (to + 8) (at + 12) (to + 12) [] refl refl (omega arith) (omega arith) (block_copy (at + 8) (to + 8) 4)))

  pub old_long : length (spell c) ≡ 12 + length (spell_all (list_run c).chunks) + length (list_run c).left + length c.pad
  old_long = omega (arith, spell_is c plain, list_is c is)

  new_long : length (spell (list_with c cs)) ≡ 12 + length (spell_all cs) + length (list_run c).left + length (list_with c cs).pad
  new_long = omega (arith, spell_is (list_with c cs) (list_with_plain c cs plain), list_length c cs is)

  -- the rest and the pad
  pub tail_block : (at to : ℕ) → Block (at + 12 + length (spell_all (list_run c).chunks)) (to + 12 + length (spell_all cs)) (at + length (spell c)) (to + length (spell (list_with c cs))) (pad_cut (at + 8 + length c.body) c.pad (list_with c cs).pad)
  tail_block at to =
      let l = length (list_run c).left in
      let mid = at + 12 + length (spell_all (list_run c).chunks) in
      let half = to + 12 + length (spell_all cs) in
      let pad = pad_cut (at + 8 + length c.body) c.pad (list_with c cs).pad in
      block_both mid half (mid + l) (half + l) (at + length (spell c)) (to + length (spell (list_with c cs))) [] pad (block_copy mid half l)
      (block_same (at + 8 + length c.body) (half + l) (at + 8 + length c.body + length c.pad) (half + l + length (list_with c cs).pad) (mid + l) (half + l) (at + length (spell c)) (to + length (spell (list_with c cs))) pad
      (omega (arith, list_is c is)) refl (omega (arith, old_long, list_is c is)) (omega (arith, new_long)) (block_pad (at + 8 + length c.body) (half + l) c.pad (list_with c cs).pad))

  pub list_block : (at to : ℕ) (k : List Cut) → Block (at + 12) (to + 12) (at + 12 + length (spell_all (list_run c).chunks)) (to + 12 + length (spell_all cs)) k → Block at to (at + length (spell c)) (to + length (spell (list_with c cs))) (size at ∷ with_pad at k)
  list_block at to k b =
      block_both at to (at + 12) (to + 12) (at + length (spell c)) (to + length (spell (list_with c cs))) (size at ∷ []) (with_pad at k) (head_block at to)
      (block_both (at + 12) (to + 12) (at + 12 + length (spell_all (list_run c).chunks)) (to + 12 + length (spell_all cs)) (at + length (spell c)) (to + length (spell (list_with c cs))) k (pad_cut (at + 8 + length c.body) c.pad (list_with c cs).pad) b (tail_block at to))

-- ---- one list

module _ (ends_too : Bool) (vs : List (List ℕ)) (c : Chunk) (plain : IsPlain c) (is : IsList c) where
  abbrev xs : List Cell
  xs = name_cells (made_names vs) (map cell_of (list_run c).chunks)

  abbrev new : Chunk
  new = strl_named ends_too (made_names vs) c

  pub was_is : flat_map was (name_cells (made_names vs) (map cell_of (list_run c).chunks)) ≡ (list_run c).chunks
  was_is = was_names (made_names vs) (map cell_of (list_run c).chunks) ∙ was_cells (list_run c).chunks

  pub old_is : old_length (strl_pieces (made_names vs) c) ≡ length (spell_all (list_run c).chunks)
  old_is = ap length (units_old shut (name_cells (made_names vs) (map cell_of (list_run c).chunks))) ∙ ap (λ (cs : List Chunk). length (spell_all cs)) was_is

  abbrev slots_in : ℕ → List Cut
  slots_in at = cuts (strl_fill ends_too c) (at + 12) (strl_pieces (made_names vs) c) ++ pad_cut (at + 8 + length c.body) c.pad (strl_named ends_too (made_names vs) c).pad

  abbrev cuts_in : ℕ → List Cut
  cuts_in at = record { at = at + 4; len = 4; bytes = to_le_bytes w32 (length (strl_named ends_too (made_names vs) c).body) } ∷ slots_in at

  pub strl_block : (at to : ℕ) → Block at to (at + length (spell c)) (to + length (spell (strl_named ends_too (made_names vs) c))) (cuts_in at)
  strl_block at to =
      let fill = strl_fill ends_too c in
      let ps = strl_pieces (made_names vs) c in
      let m = length (spell_all (laid_chunks ends_too vs c)) in
      list_block c (laid_chunks ends_too vs c) plain is at to (cuts fill (at + 12) ps)
      (block_same (at + 12) (to + 12) (at + 12 + old_length ps) (to + 12 + m) (at + 12) (to + 12) (at + 12 + length (spell_all (list_run c).chunks)) (to + 12 + m) (cuts fill (at + 12) ps) refl refl (omega (arith, old_is)) refl
      (block_pieces fill (at + 12) (to + 12) ps (units_bring shut xs tt)))

  pub strl_follows : (at to : ℕ) → length (spell_all (laid_chunks ends_too vs c)) < 2 ^ 32
      → Follows (cuts_in at) at to (at + length (spell c)) (only is_index (kids (record { at = at; chunk = bare c }))) (only is_index (kids (record { at = to; chunk = bare (strl_named ends_too (made_names vs) c) })))
  strl_follows at to lt =
      let fill = strl_fill ends_too c in
      let ps = strl_pieces (made_names vs) c in
      let pad = pad_cut (at + 8 + length c.body) c.pad new.pad in
      let quiet : Quiet is_index xs = quiet_names is_index (λ d e. ap (λ (x : List ℕ). bytes_eq x (codes "indx")) (Rattle.container_model.proofs.Items.same_true d.id (codes "strn") e)) (made_names vs) (all_names (λ d. is_index (bare d) ≡ false) (λ body. refl) vs) (map cell_of (list_run c).chunks) (quiet_cells (list_run c).chunks) in
      let f = follow_pieces is_index fill (λ last slot k. fill_unseen (ends_too && ends_list c) last slot k) (at + 12) (to + 12) xs quiet pad (pad_later (at + 12 + old_length ps) (at + 8 + length c.body) c.pad new.pad (omega (arith, old_is, list_is c is))) in
      let news : only is_index (kids (record { at = to; chunk = bare new })) ≡ only is_index (stood (to + 12) (laid_chunks ends_too vs c)) = ap (λ (r : Run). only is_index (stood (to + 12) r.chunks)) (strl_run ends_too vs c is lt) in
      let olds : only is_index (kids (record { at = at; chunk = bare c })) ≡ only is_index (stood (at + 12) (flat_map was xs)) = ap (λ (cs : List Chunk). only is_index (stood (at + 12) cs)) (sym was_is) in
      let end : at + 12 + length (spell_all (flat_map was xs)) ≤ at + length (spell c) = omega (arith, old_long c (laid_chunks ends_too vs c) plain is, ap (λ (cs : List Chunk). length (spell_all cs)) was_is) in
      follow_same (cuts_in at) at to (at + length (spell c)) (only is_index (stood (at + 12) (flat_map was xs))) (only is_index (stood (to + 12) (laid_chunks ends_too vs c))) (only is_index (kids (record { at = at; chunk = bare c }))) (only is_index (kids (record { at = to; chunk = bare new }))) olds news
      (follow_behind (record { at = at + 4; len = 4; bytes = to_le_bytes w32 (length new.body) } ∷ []) (slots_in at) at to (at + 12) (to + 12) (at + length (spell c)) (only is_index (stood (at + 12) (flat_map was xs))) (only is_index (stood (to + 12) (laid_chunks ends_too vs c)))
      (head_block c (laid_chunks ends_too vs c) plain is at to) (follow_further (slots_in at) (at + 12) (to + 12) (at + 12 + length (spell_all (flat_map was xs))) (at + length (spell c)) (only is_index (stood (at + 12) (flat_map was xs))) (only is_index (stood (to + 12) (laid_chunks ends_too vs c))) end f))

-- ---- the chunks of hdrl

-- the spans of a chunk of hdrl
abbrev kid_cuts : Names → Bool → ℕ → ℕ → Chunk → List Cut
kid_cuts e ends_too n at c = flat_map (strl_cuts e) (cond (is_strl c && is_named e n) (record { at = at; ends = ends_too; stream = n; chunk = c } ∷ []) [])

-- the index chunks in it, if it is a stream's list
abbrev indexes_in : ℕ → Chunk → List Stood
indexes_in at c = cond (is_strl c) (only is_index (kids (record { at = at; chunk = bare c }))) []

module _ (e : Names) where
  cuts_split : (ends_too : Bool) (n at : ℕ) (c : Chunk) (cs : List Chunk) → flat_map (strl_cuts e) (sites_from e ends_too n at (c ∷ cs)) ≡ kid_cuts e (ends_too && is_nil cs) n at c ++ flat_map (strl_cuts e) (sites_from e ends_too (counted is_strl n c) (at + length (spell c)) cs)
  cuts_split ends_too n at c cs = flat_map-append (strl_cuts e) (cond (is_strl c && is_named e n) (record { at = at; ends = ends_too && is_nil cs; stream = n; chunk = c } ∷ []) []) (sites_from e ends_too (counted is_strl n c) (at + length (spell c)) cs)

  kid_block : (ends_too : Bool) (n at to : ℕ) (c : Chunk) → IsKid c → Block at to (at + length (spell c)) (to + length (spell (kid_named e ends_too n c))) (kid_cuts e ends_too n at c)
  kid_block ends_too n at to c h = go (is_strl c) refl (is_named e n)
    where
      go : (t : Bool) → is_strl c ≡ t → (u : Bool) → Block at to (at + length (spell c)) (to + length (spell (cond (t && u) (strl_named ends_too (new_names e n) c) c))) (flat_map (strl_cuts e) (cond (t && u) (record { at = at; ends = ends_too; stream = n; chunk = c } ∷ []) []))
      go true i true = subst (Block at to (at + length (spell c)) (to + length (spell (strl_named ends_too (new_names e n) c)))) (sym (Rattle.std.proofs.lemmas.List.append-nil _)) (strl_block ends_too (names_after e n []) c h.plain (h.opens i) at to)
      go true i false = block_copy at to (length (spell c))
      go false i u = block_copy at to (length (spell c))

  kid_follows : (ends_too : Bool) (n at to : ℕ) (c : Chunk) → IsKid c → length (spell (kid_named e ends_too n c)) < 2 ^ 32
      → Follows (kid_cuts e ends_too n at c) at to (at + length (spell c)) (indexes_in at c) (cond (is_strl c) (only is_index (kids (record { at = to; chunk = bare (kid_named e ends_too n c) }))) [])
  kid_follows ends_too n at to c h lt = go (is_strl c) refl (is_named e n) lt
    where
      go : (t : Bool) → is_strl c ≡ t → (u : Bool) → length (spell (cond (t && u) (strl_named ends_too (new_names e n) c) c)) < 2 ^ 32
          → Follows (flat_map (strl_cuts e) (cond (t && u) (record { at = at; ends = ends_too; stream = n; chunk = c } ∷ []) [])) at to (at + length (spell c)) (cond t (only is_index (kids (record { at = at; chunk = bare c }))) [])
          (cond t (only is_index (kids (record { at = to; chunk = bare (cond (t && u) (strl_named ends_too (new_names e n) c) c) }))) [])
      go true i true lt =
          subst (λ (cs : List Cut). Follows cs at to (at + length (spell c)) (only is_index (kids (record { at = at; chunk = bare c }))) (only is_index (kids (record { at = to; chunk = bare (strl_named ends_too (new_names e n) c) })))) (sym (Rattle.std.proofs.lemmas.List.append-nil _))
          (strl_follows ends_too (names_after e n []) c h.plain (h.opens i) at to (laid_small e ends_too n c (h.opens i) lt))
      go true i false lt =
          let is = h.opens i in
          let f = follow_copied is_index at to 12 (list_run c).chunks in
          record { found = f.found; news_are = f.news_are; olds_are = f.olds_are; go = f.go; fits = Rattle.avi_model.proofs.Blocks.both_fit (at + 12 + length (spell_all (list_run c).chunks)) 0 (at + length (spell c)) f.found (omega (arith, spell_is c h.plain, list_is c is)) f.fits }
      go false i u lt = follow_none [] at to (at + length (spell c))

  pub kids_block : (ends_too : Bool) (n at to : ℕ) (cs : List Chunk) → AreKids cs → Block at to (at + length (spell_all cs)) (to + length (spell_all (kids_named e ends_too n cs))) (flat_map (strl_cuts e) (sites_from e ends_too n at cs))
  kids_block ends_too n at to [] h = block_same at to (at + 0) (to + 0) at to (at + 0) (to + 0) [] refl refl refl refl (block_copy at to 0)
  kids_block ends_too n at to (c ∷ cs) h =
      let one = kid_named e (ends_too && is_nil cs) n c in
      let more = kids_named e ends_too (counted is_strl n c) cs in
      let next = at + length (spell c) in
      let goal = to + length (spell one) in
      let rest = kids_block ends_too (counted is_strl n c) next goal cs h.1 in
      let last = block_same next goal (next + length (spell_all cs)) (goal + length (spell_all more)) next goal (at + length (spell_all (c ∷ cs))) (to + length (spell_all (one ∷ more))) (flat_map (strl_cuts e) (sites_from e ends_too (counted is_strl n c) next cs)) refl refl (omega (arith, length-append (spell c) (spell_all cs))) (omega (arith, length-append (spell one) (spell_all more))) rest in
      subst (Block at to (at + length (spell_all (c ∷ cs))) (to + length (spell_all (one ∷ more)))) (sym (cuts_split ends_too n at c cs))
      (block_both at to next goal (at + length (spell_all (c ∷ cs))) (to + length (spell_all (one ∷ more))) (kid_cuts e (ends_too && is_nil cs) n at c) (flat_map (strl_cuts e) (sites_from e ends_too (counted is_strl n c) next cs)) (kid_block (ends_too && is_nil cs) n at to c h.0) last)

  -- the index chunks of the streams' lists
  abbrev pub all_in : List Stood → List Stood
  all_in xs = only is_index (flat_map kids (only is_strl xs))

  in_first : (x : Stood) (xs : List Stood) (t : Bool) → is_strl x.chunk ≡ t → all_in (x ∷ xs) ≡ cond t (only is_index (kids x)) [] ++ all_in xs
  in_first x xs true i = ap (λ (b : Bool). only is_index (flat_map kids (cond b (x ∷ only is_strl xs) (only is_strl xs)))) i ∙ only-append is_index (kids x) (flat_map kids (only is_strl xs))
  in_first x xs false i = ap (λ (b : Bool). only is_index (flat_map kids (cond b (x ∷ only is_strl xs) (only is_strl xs)))) i

  pub kids_follows : (ends_too : Bool) (n at to : ℕ) (cs : List Chunk) → AreKids cs → length (spell_all (kids_named e ends_too n cs)) < 2 ^ 32
      → Follows (flat_map (strl_cuts e) (sites_from e ends_too n at cs)) at to (at + length (spell_all cs)) (all_in (stood at cs)) (all_in (stood to (kids_named e ends_too n cs)))
  kids_follows ends_too n at to [] h lt = follow_none [] at to (at + 0)
  kids_follows ends_too n at to (c ∷ cs) h lt =
      let one = kid_named e (ends_too && is_nil cs) n c in
      let more = kids_named e ends_too (counted is_strl n c) cs in
      let next = at + length (spell c) in
      let goal = to + length (spell one) in
      let long = length-append (spell one) (spell_all more) in
      let here = kid_cuts e (ends_too && is_nil cs) n at c in
      let there = flat_map (strl_cuts e) (sites_from e ends_too (counted is_strl n c) next cs) in
      let first = kid_follows (ends_too && is_nil cs) n at to c h.0 (omega (arith, lt, long)) in
      let rest = kids_follows ends_too (counted is_strl n c) next goal cs h.1 (omega (arith, lt, long)) in
      let end : next + length (spell_all cs) ≡ at + length (spell_all (c ∷ cs)) = omega (arith, length-append (spell c) (spell_all cs)) in
      let both = follow_both here there at to next goal (next + length (spell_all cs)) (goal + length (spell_all more)) (indexes_in at c) (cond (is_strl c) (only is_index (kids (record { at = to; chunk = bare one }))) []) (all_in (stood next cs)) (all_in (stood goal more)) (omega arith)
      (kid_block (ends_too && is_nil cs) n at to c h.0) (kids_block ends_too (counted is_strl n c) next goal cs h.1) first rest in
      subst (λ (k : ℕ). Follows (flat_map (strl_cuts e) (sites_from e ends_too n at (c ∷ cs))) at to k (all_in (stood at (c ∷ cs))) (all_in (stood to (one ∷ more)))) end
      (subst (λ (ks : List Cut). Follows ks at to (next + length (spell_all cs)) (all_in (stood at (c ∷ cs))) (all_in (stood to (one ∷ more)))) (sym (cuts_split ends_too n at c cs))
      (follow_same (here ++ there) at to (next + length (spell_all cs)) (indexes_in at c ++ all_in (stood next cs)) (cond (is_strl c) (only is_index (kids (record { at = to; chunk = bare one }))) [] ++ all_in (stood goal more)) (all_in (stood at (c ∷ cs))) (all_in (stood to (one ∷ more)))
      (in_first (record { at = at; chunk = bare c }) (stood next cs) (is_strl c) refl) (in_first (record { at = to; chunk = bare one }) (stood goal more) (is_strl c) (kid_strl e (ends_too && is_nil cs) n c h.0)) both))

  -- ---- hdrl

  module _ (ends_too : Bool) (c : Chunk) (plain : IsPlain c) (is : IsList c) (kids_are : AreKids (list_run c).chunks) where
    abbrev site : ℕ → Site
    site at = record { at = at; ends = ends_too; stream = 0; chunk = c }

    abbrev kids_then : List Chunk
    kids_then = kids_named e (ends_too && ends_list c) 0 (list_run c).chunks

    pub hdrl_block : (at to : ℕ) → Block at to (at + length (spell c)) (to + length (spell (hdrl_named e ends_too c))) (hdrl_cuts e (site at))
    hdrl_block at to =
        list_block c kids_then plain is at to (flat_map (strl_cuts e) (sites_in e (site at))) (kids_block (ends_too && ends_list c) 0 (at + 12) (to + 12) (list_run c).chunks kids_are)

    pub hdrl_follows : (at to : ℕ) → length (spell_all kids_then) < 2 ^ 32
        → Follows (hdrl_cuts e (site at)) at to (at + length (spell c)) (all_in (kids (record { at = at; chunk = bare c }))) (all_in (kids (record { at = to; chunk = bare (hdrl_named e ends_too c) })))
    hdrl_follows at to lt =
        let cs = (list_run c).chunks in
        let inner = flat_map (strl_cuts e) (sites_in e (site at)) in
        let pad = pad_cut (at + 8 + length c.body) c.pad (hdrl_named e ends_too c).pad in
        let f = kids_follows (ends_too && ends_list c) 0 (at + 12) (to + 12) cs kids_are lt in
        let news : all_in (kids (record { at = to; chunk = bare (hdrl_named e ends_too c) })) ≡ all_in (stood (to + 12) kids_then) = ap (λ (r : Run). all_in (stood (to + 12) r.chunks)) (hdrl_run e ends_too c is kids_are lt) in
        let long = old_long c kids_then plain is in
        follow_same (hdrl_cuts e (site at)) at to (at + length (spell c)) (all_in (stood (at + 12) cs)) (all_in (stood (to + 12) kids_then)) (all_in (kids (record { at = at; chunk = bare c }))) (all_in (kids (record { at = to; chunk = bare (hdrl_named e ends_too c) }))) refl news
        (follow_behind (record { at = at + 4; len = 4; bytes = to_le_bytes w32 (length (hdrl_named e ends_too c).body) } ∷ []) (inner ++ pad) at to (at + 12) (to + 12) (at + length (spell c)) (all_in (stood (at + 12) cs)) (all_in (stood (to + 12) kids_then)) (head_block c kids_then plain is at to)
        (follow_before inner pad (at + 12) (to + 12) (at + 12 + length (spell_all cs)) (to + 12 + length (spell_all kids_then)) (at + length (spell c)) (to + length (spell (hdrl_named e ends_too c))) (all_in (stood (at + 12) cs)) (all_in (stood (to + 12) kids_then)) (omega (arith, long)) (tail_block c kids_then plain is at to) f))
