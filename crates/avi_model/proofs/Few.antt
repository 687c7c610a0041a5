-- The patches of an edit in place are no more than the chunks of the new form, for hdrl or a movi is copied.
use Rattle.std.proofs.Common.{◌≡◌, ℕ, suc, ◌+◌, ◌<◌, ◌≤◌, Bool, true, false, cond, List, [], ◌∷◌, ◌++◌, length, map, refl, sym, ap, ◌∙◌, arith, inl, inr}
use Rattle.std.specs.Prelude.{◌&&◌, not, codes}
use Rattle.std.specs.Str.{bytes_eq}
use Rattle.std.specs.List.{flat_map}
use Rattle.std.proofs.lemmas.Bool.{ltb-true}
use Rattle.std.proofs.lemmas.List.{length-append}
use Rattle.container_model.specs.Chunk.{Chunk, spell, spell_all, PadStands, Pads}
use Rattle.container_model.specs.Stood.{Stood, stood, only, first_of}
use Rattle.container_model.specs.Units.{Cell, kept, gap, edited, was, live, lacks_pad, is_empty}
use Rattle.container_model.proofs.Codec.{as_many}
use Rattle.container_model.proofs.Reread.{CellPads, IsPadded}
use Rattle.carrier_model.specs.Cells.{Change, leave, become, changed_cell, count_all, settle_cells, Test, Side, behind, before, meets, some_meets, beside, insert, only_gaps, new_cell, insert_cell, acted_cells}
use Rattle.carrier_model.specs.Info.{info, info_items, is_padding, is_type}
use Rattle.carrier_model.specs.Lists.{edit_nth, home as home_of, all_items, has_carrier, sets_some, new_carrier, lists_act_by}
use Rattle.carrier_model.proofs.Cells.{pads_acted}
use Rattle.carrier_model.proofs.Few.{copied_cells, form_few}
use Rattle.carrier_model.proofs.Info.{made_padded}
use Rattle.avi_model.specs.Avi.{Avi, top, hdrls, is_movi}
use Rattle.avi_model.specs.NewFile.{Items, home, new_cells, new_children}
use Rattle.avi_model.specs.Named.{cell_by, cell_of, riff_of}
use Rattle.avi_model.specs.Room.{patches_of}
use Rattle.avi_model.specs.Support.{movis}
use Rattle.avi_model.proofs.Edit.{act_of, makes_lists, cells_pads}
use Rattle.avi_model.proofs.Types.{type_is, padding_id}

-- ---- hdrl and the movi lists

-- one for hdrl, and one for a movi list
abbrev pub weight : Chunk → ℕ
weight c = cond (is_type (codes "hdrl") c) 1 0 + cond (is_movi c) 1 0

apart : (v w : List ℕ) → bytes_eq v w ≡ false → bytes_eq v v ≡ true → (c : Chunk) → is_type v c ≡ true → is_type w c ≡ true → ⊥
apart v w un own c h m =
    let same : v ≡ w = sym (type_is v c h).type_is ∙ (type_is w c m).type_is in
    let clash : false ≡ true = sym un ∙ ap (bytes_eq v) (sym same) ∙ own in
    absurd cc

pub weight_one : (c : Chunk) → weight c ≤ 1
weight_one c = go (is_type (codes "hdrl") c) (is_movi c) refl refl
  where
    go : (t u : Bool) → is_type (codes "hdrl") c ≡ t → is_movi c ≡ u → cond t 1 0 + cond u 1 0 ≤ 1
    go true true h m = absurd (apart (codes "hdrl") (codes "movi") refl refl c h m)
    go true false h m = omega arith
    go false true h m = omega arith
    go false false h m = omega arith

-- a list of fields is neither
list_weight : (c : Chunk) → info.is c ≡ true → weight c ≡ 0
list_weight c i = go (is_type (codes "hdrl") c) (is_movi c) refl refl
  where
    go : (t u : Bool) → is_type (codes "hdrl") c ≡ t → is_movi c ≡ u → cond t 1 0 + cond u 1 0 ≡ 0
    go true u h m = absurd (apart (codes "hdrl") (codes "INFO") refl refl c h i)
    go false true h m = absurd (apart (codes "movi") (codes "INFO") refl refl c m i)
    go false false h m = refl

-- nor is padding
gap_weight : (c : Chunk) → is_padding c ≡ true → weight c ≡ 0
gap_weight c p = go (is_type (codes "hdrl") c) (is_movi c) refl refl
  where
    clash : (w : List ℕ) → is_type w c ≡ true → false ≡ true
    clash w h = let t = type_is w c h in ap (bytes_eq (codes "LIST")) (sym (padding_id c p) ∙ t.id_is)

    go : (t u : Bool) → is_type (codes "hdrl") c ≡ t → is_movi c ≡ u → cond t 1 0 + cond u 1 0 ≡ 0
    go true u h m = let x = clash (codes "hdrl") h in absurd cc
    go false true h m = let x = clash (codes "movi") m in absurd cc
    go false false h m = refl

-- ---- the cells that are kept

abbrev pub kept_weight : List Cell → ℕ
kept_weight [] = 0
kept_weight (kept c ∷ xs) = weight c + kept_weight xs
kept_weight (gap c ∷ xs) = kept_weight xs
kept_weight (edited old now ∷ xs) = kept_weight xs

no_chunks : (cs : List Chunk) (left : List ℕ) → spell_all cs ++ left ≡ [] → cs ≡ []
no_chunks [] left n = refl
no_chunks (c ∷ cs) left n = absurd (omega (arith, as_many (c ∷ cs), length-append (spell_all (c ∷ cs)) left, ap length n))

no_weight : (xs : List Cell) → flat_map was xs ≡ [] → kept_weight xs ≡ 0
no_weight [] n = refl
no_weight (kept c ∷ xs) n = absurd cc
no_weight (gap c ∷ xs) n = absurd cc
no_weight (edited [] now ∷ xs) n = no_weight xs n
no_weight (edited (c ∷ old) now ∷ xs) n = absurd cc

weight_copied : (xs : List Cell) (left : List ℕ) → CellPads xs left → kept_weight xs ≤ copied_cells xs + 1
weight_copied [] left p = omega arith
weight_copied (kept c ∷ xs) left p = go (lacks_pad c) (is_empty xs) refl p.0 (weight_copied xs left p.1)
  where
    go : (t u : Bool) → lacks_pad c ≡ t → PadStands c.form (length c.body) c.pad (spell_all (flat_map was xs) ++ left) → kept_weight xs ≤ copied_cells xs + 1 → weight c + kept_weight xs ≤ (cond (t && not u) 0 1 + copied_cells xs) + 1
    go true true i s again = omega (arith, again, weight_one c)
    go true false i (inl s) again = absurd (omega (arith, ltb-true _ _ i))
    go true false i (inr s) again = omega (arith, no_weight xs (no_chunks (flat_map was xs) left s.1), weight_one c)
    go false u i s again = omega (arith, again, weight_one c)
weight_copied (gap c ∷ xs) left p = weight_copied xs left p.1
weight_copied (edited old now ∷ xs) left p = weight_copied xs left p.1

-- ---- an edit of lists keeps them

weight_changed : (d : Change) (c : Chunk) (xs : List Cell) → weight c ≡ 0 → kept_weight (changed_cell d c ∷ xs) ≡ kept_weight xs
weight_changed leave c xs w = omega (arith, w)
weight_changed (become cs) c xs w = refl

weight_settled : (f : ℕ → Chunk → Change) (n : ℕ) (xs : List Cell) → kept_weight (settle_cells info.is f n xs) ≡ kept_weight xs
weight_settled f n [] = refl
weight_settled f n (kept c ∷ xs) = go (info.is c) refl (λ k. weight_settled f k xs)
  where
    go : (t : Bool) → info.is c ≡ t → ((k : ℕ) → kept_weight (settle_cells info.is f k xs) ≡ kept_weight xs) → kept_weight (changed_cell (cond t (f n c) leave) c ∷ settle_cells info.is f (cond t (suc n) n) xs) ≡ weight c + kept_weight xs
    go true i more = let w = list_weight c i in omega (arith, w, weight_changed (f n c) c (settle_cells info.is f (suc n) xs) w, more (suc n))
    go false i more = omega (arith, more n)
weight_settled f n (gap c ∷ xs) = weight_settled f n xs
weight_settled f n (edited old now ∷ xs) = weight_settled f (count_all info.is n now) xs

weight_beside : (s : Side) (c d : Chunk) (xs : List Cell) → kept_weight (beside s (new_cell c) (kept d) ++ xs) ≡ weight d + kept_weight xs
weight_beside behind c d xs = refl
weight_beside before c d xs = refl

weight_inserted : (s : Side) (t : Test) (c : Chunk) (xs : List Cell) → kept_weight (insert_cell s t c xs) ≡ kept_weight xs
weight_inserted s t c [] = refl
weight_inserted s t c (kept d ∷ xs) = go (meets t d) (weight_inserted s t c xs)
  where
    go : (b : Bool) → kept_weight (insert_cell s t c xs) ≡ kept_weight xs → kept_weight (cond b (beside s (new_cell c) (kept d) ++ xs) (kept d ∷ insert_cell s t c xs)) ≡ weight d + kept_weight xs
    go true again = weight_beside s c d xs
    go false again = ap (λ (k : ℕ). weight d + k) again
weight_inserted s t c (gap d ∷ xs) = go (only_gaps xs) (weight_inserted s t c xs)
  where
    go : (b : Bool) → kept_weight (insert_cell s t c xs) ≡ kept_weight xs → kept_weight (cond b (new_cell c ∷ (gap d ∷ xs)) (gap d ∷ insert_cell s t c xs)) ≡ kept_weight xs
    go true again = refl
    go false again = again
weight_inserted s t c (edited old now ∷ xs) = go (some_meets t now) (weight_inserted s t c xs)
  where
    go : (b : Bool) → kept_weight (insert_cell s t c xs) ≡ kept_weight xs → kept_weight (cond b (edited old (insert s t c now) ∷ xs) (edited old now ∷ insert_cell s t c xs)) ≡ kept_weight xs
    go true again = refl
    go false again = again

pub weight_new : (a : Avi) (e : Items) → kept_weight (new_cells a e) ≡ kept_weight (map cell_of a.children)
weight_new a e = go (has_carrier info cs)
  where
    xs : List Cell
    xs = map cell_of a.children

    cs : List Chunk
    cs = flat_map live (map cell_of a.children)

    fresh : (b : Bool) → kept_weight (acted_cells (new_carrier info info_items home e b) (map cell_of a.children)) ≡ kept_weight (map cell_of a.children)
    fresh true = weight_inserted behind home _ (map cell_of a.children)
    fresh false = refl

    go : (b : Bool) → kept_weight (acted_cells (lists_act_by info info_items home e cs b) (map cell_of a.children)) ≡ kept_weight (map cell_of a.children)
    go false = fresh (sets_some e)
    go true = weight_settled (edit_nth info info_items (home_of (all_items info info_items cs)) e) 0 (map cell_of a.children)

-- ---- counted

only_one : (p : Chunk → Bool) (at : ℕ) (c : Chunk) (cs : List Chunk) → length (only p (stood at (c ∷ cs))) ≡ cond (p (record c { pad = [] })) 1 0 + length (only p (stood (at + length (spell c)) cs))
only_one p at c cs = go (p (record c { pad = [] }))
  where
    go : (t : Bool) → length (cond t (record { at = at; chunk = record c { pad = [] } } ∷ only p (stood (at + length (spell c)) cs)) (only p (stood (at + length (spell c)) cs))) ≡ cond t 1 0 + length (only p (stood (at + length (spell c)) cs))
    go true = omega arith
    go false = omega arith

pub weight_count : (at : ℕ) (cs : List Chunk) → length (only (is_type (codes "hdrl")) (stood at cs)) + length (only is_movi (stood at cs)) ≡ kept_weight (map cell_of cs)
weight_count at [] = refl
weight_count at (c ∷ cs) =
    let more = weight_count (at + length (spell c)) cs in
    omega (arith, more, only_one (is_type (codes "hdrl")) at c cs, only_one is_movi at c cs, cell (is_padding c) refl)
  where
    cell : (t : Bool) → is_padding c ≡ t → kept_weight (cell_by c t ∷ map cell_of cs) ≡ weight c + kept_weight (map cell_of cs)
    cell true p = omega (arith, gap_weight c p)
    cell false p = refl

first_some : (xs : List Stood) → 0 < length (first_of xs) → 0 < length xs
first_some [] h = h
first_some (x ∷ xs) h = omega arith

-- At most as many patches as chunks.
pub few_patches : (a : Avi) (e : Items) → Pads a.children a.left → 0 < length (hdrls a) → 0 < length (movis a) → length (patches_of a e) ≤ length (new_children a e)
few_patches a e pads h m =
    let ys = new_cells a e in
    let cells : CellPads ys a.left = pads_acted (act_of e (flat_map live (map cell_of a.children))) (makes_lists IsPadded (λ b. made_padded (codes "LIST") b) e (flat_map live (map cell_of a.children))) (map cell_of a.children) a.left (cells_pads a.children a.left pads) in
    let some : 1 ≤ copied_cells ys = omega (arith, weight_copied ys a.left cells, weight_new a e, weight_count 12 a.children, first_some (only (is_type (codes "hdrl")) (top a)) h, m) in
    form_few (riff_of a) ys some
