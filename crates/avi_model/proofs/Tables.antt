-- Where the tables and the essence of the first form stand after an edit.
use Rattle.std.proofs.Common.{◌≡◌, ℕ, ◌+◌, ◌-◌, ◌<◌, Bool, true, false, cond, leb, List, [], ◌∷◌, length, map, refl, ap, ◌∙◌, arith}
use Rattle.std.specs.Prelude.{◌&&◌, ◌||◌, codes}
use Rattle.std.specs.Str.{bytes_eq}
use Rattle.std.specs.List.{flat_map, AllByRecursion}
use Rattle.std.proofs.lemmas.List.{length-append}
use Rattle.container_model.specs.Chunk.{Chunk, spell_all}
use Rattle.container_model.specs.Splice.{shift, Outside}
use Rattle.container_model.specs.Stood.{Stood, bare, stood, only, first_of}
use Rattle.container_model.specs.Written.{Write}
use Rattle.container_model.specs.Units.{was, shut, units}
use Rattle.container_model.proofs.Units.{units_old}
use Rattle.container_model.proofs.Places.{old_length, Before}
use Rattle.container_model.proofs.Written.{renewed, renewed_length, renew_alike}
use Rattle.container_model.proofs.Deep.{alike_len}
use Rattle.container_model.proofs.Copied.{Unseen, Quiet, Later, moved_to, Moves_as_one, copied_move}
use Rattle.container_model.proofs.Stood.{renew_at, renewed_stood, moved_renewed, carried_to, first_all, first_map, only_all}
use Rattle.carrier_model.specs.Info.{own_size, info, info_items, is_padding, is_type, made, list_of, fill_by, room, riff_fill}
use Rattle.carrier_model.specs.Lists.{lists_act}
use Rattle.carrier_model.proofs.Cells.{was_acted}
use Rattle.carrier_model.proofs.Quiet.{quiet_lists}
use Rattle.avi_model.specs.Avi.{Avi, inner, has_id, kids, top, stream_indexes, old_indexes, is_movi}
use Rattle.avi_model.specs.NewFile.{Items, home, new_cells, pad_after, laid, edit_cuts}
use Rattle.avi_model.specs.Named.{cell_by, cell_of, ends_file}
use Rattle.carrier_model.specs.RiffForm.{pad_cut}
use Rattle.avi_model.proofs.Types.{type_is, padding_id, and_none}
use Rattle.avi_model.proofs.Read.{renewed_avi}
use Rattle.avi_model.proofs.Walk.{Open, TypeStays, IsRiffHead, kids_all, lists_carried, ids_carried}

-- ---- tests that see no LIST INFO and no padding

pub record Apart (p : Chunk → Bool) : Type 0 where
  pub on_list : (c : Chunk) → is_type (codes "INFO") c ≡ true → p (bare c) ≡ false
  pub on_new : (items : List Chunk) (rest : List ℕ) → p (bare (list_of items rest)) ≡ false
  pub on_padding : (c : Chunk) → is_padding c ≡ true → p (bare c) ≡ false
  pub on_junk : (body : List ℕ) → p (bare (made (codes "JUNK") body)) ≡ false

type_apart : (w : List ℕ) → bytes_eq (codes "INFO") w ≡ false → Apart (is_type w)
type_apart w n = record {
  on_list = λ c h. let t = type_is (codes "INFO") c h in rw (t.id_is, t.type_is, n) (and_none (own_size c.form));
  on_new = λ items rest. n;
  on_padding = λ c h. rw (padding_id c h) (and_none (own_size c.form));
  on_junk = λ body. refl;
}

pub hdrl_apart : Apart (is_type (codes "hdrl"))
hdrl_apart = type_apart (codes "hdrl") refl

pub movi_apart : Apart is_movi
movi_apart = type_apart (codes "movi") refl

pub index_apart : Apart (has_id (codes "idx1"))
index_apart = record {
  on_list = λ c h. rw (type_is (codes "INFO") c h).id_is refl;
  on_new = λ items rest. refl;
  on_padding = λ c h. rw (padding_id c h) refl;
  on_junk = λ body. refl;
}

module _ (p : Chunk → Bool) (apart : Apart p) where
  pub quiet_edit : (e : Items) (xs : List Rattle.container_model.specs.Units.Cell) → Quiet p xs → Quiet p (Rattle.carrier_model.specs.Lists.edit_list_cells info info_items home e xs)
  quiet_edit e xs h = quiet_lists p info info_items apart.on_list (λ c items rest. apart.on_new items rest) (λ items. apart.on_new items []) home e xs h

  pub quiet_cells : (cs : List Chunk) → Quiet p (map cell_of cs)
  quiet_cells [] = tt
  quiet_cells (c ∷ cs) = go (is_padding c) refl (quiet_cells cs)
    where
      go : (t : Bool) → is_padding c ≡ t → Quiet p (map cell_of cs) → Quiet p (cell_by c t ∷ map cell_of cs)
      go true e h = (apart.on_padding c e, h)
      go false e h = h

  pub fill_unseen : (b last : Bool) (slot : List ℕ) (k : ℕ) → Unseen p (riff_fill b last slot k)
  fill_unseen b last slot k = go (leb (length slot) k || (b && last))
    where
      go : (t : Bool) → Unseen p (fill_by slot k t)
      go true = tt
      go false = (apart.on_junk (room (length slot - k) slot k), tt)

pub was_cells : (cs : List Chunk) → flat_map was (map cell_of cs) ≡ cs
was_cells [] = refl
was_cells (c ∷ cs) = rw (one (is_padding c), was_cells cs) refl
  where
    one : (t : Bool) → was (cell_by c t) ≡ c ∷ []
    one true = refl
    one false = refl

pub was_new : (a : Avi) (e : Items) → flat_map was (new_cells a e) ≡ a.children
was_new a e = was_acted (lists_act info info_items home e (flat_map Rattle.container_model.specs.Units.live (map cell_of a.children))) (map cell_of a.children) ∙ was_cells a.children

-- the spans of the units end before the form's pad
pub pad_later : (a : Avi) (e : Items) → Later (12 + old_length (units shut (new_cells a e))) (pad_cut (8 + length (inner a.children a.left)) a.pad (pad_after a e))
pad_later a e q lt = go (bytes_eq a.pad (pad_after a e))
  where
    low : q < 8 + length (inner a.children a.left)
    low = omega (arith, lt, ap length (units_old shut (new_cells a e)), ap (λ (cs : List Chunk). length (spell_all cs)) (was_new a e), length-append (spell_all a.children) a.left)

    go : (t : Bool) → Before q (cond t [] (record { at = 8 + length (inner a.children a.left); len = length a.pad; bytes = pad_after a e } ∷ []))
    go true = tt
    go false = (low, tt)

-- ---- the first form

module _ (a : Avi) (e : Items) (ws : List Write) where
  abbrev edited_avi : Avi
  edited_avi = laid (renewed_avi ws a) e

  abbrev places : ℕ → ℕ
  places = shift (edit_cuts (renewed_avi ws a) e)

  abbrev Free : ℕ → Type 0
  Free p = Outside (edit_cuts (renewed_avi ws a) e) p

  pub renewed_as_one : (xs : List Stood) → AllByRecursion (Moves_as_one places Free) (map (renew_at ws) xs) → AllByRecursion (Moves_as_one places Free) xs
  renewed_as_one [] h = tt
  renewed_as_one (x ∷ xs) h = ((λ i lt. h.0 i (omega (arith, lt, alike_len x.chunk (Rattle.container_model.proofs.Written.renew ws x.at x.chunk) (renew_alike ws x.at x.chunk)))), renewed_as_one xs h.1)

  abbrev pub Carried : List Stood → List Stood → Type 0
  Carried xs ys = (ys ≡ map (carried_to places ws) xs) × AllByRecursion (Moves_as_one places Free) xs

  -- what is looked for among the chunks of the form stands where it stood, moved, with what is written into it
  pub top_carried : (p : Chunk → Bool) → Apart p → (only p (map (renew_at ws) (top a)) ≡ map (renew_at ws) (only p (top a))) → Carried (only p (top a)) (only p (top edited_avi))
  top_carried p apart same =
      let b = renewed_avi ws a in
      let xs = new_cells b e in
      let m = copied_move p (riff_fill (ends_file b)) (fill_unseen p apart (ends_file b)) 12 xs (quiet_edit p apart e (map cell_of b.children) (quiet_cells p apart b.children)) (pad_cut (8 + length (inner b.children b.left)) b.pad (pad_after b e)) (pad_later b e) in
      let old : only p (stood 12 (flat_map was xs)) ≡ map (renew_at ws) (only p (top a)) = ap (λ (cs : List Chunk). only p (stood 12 cs)) (was_new b e) ∙ ap (only p) (renewed_stood ws 12 a.children) ∙ same in
      (m.0 ∙ ap (map (moved_to places)) old ∙ moved_renewed places ws (only p (top a)), renewed_as_one (only p (top a)) (rw old at m.1))

  -- ---- the streams' indexes and idx1

  pub all_types : (w : List ℕ) (xs : List Stood) → AllByRecursion IsRiffHead xs → AllByRecursion (TypeStays ws) xs → only (is_type w) (map (renew_at ws) xs) ≡ map (renew_at ws) (only (is_type w) xs)
  all_types w xs h t = lists_carried (λ q. q) Free ws w xs h t

  -- what is opened, and what no write touches
  pub record Opened : Type 0 where
    pub top_heads : AllByRecursion IsRiffHead (top a)
    pub top_types : AllByRecursion (TypeStays ws) (top a)
    pub hdrl_opens : AllByRecursion (Open ws) (first_of (only (is_type (codes "hdrl")) (top a)))
    pub hdrl_heads : AllByRecursion IsRiffHead (flat_map kids (first_of (only (is_type (codes "hdrl")) (top a))))
    pub hdrl_types : AllByRecursion (TypeStays ws) (flat_map kids (first_of (only (is_type (codes "hdrl")) (top a))))
    pub strl_opens : AllByRecursion (Open ws) (only (is_type (codes "strl")) (flat_map kids (first_of (only (is_type (codes "hdrl")) (top a)))))

  pub first_carried : (xs ys : List Stood) → Carried xs ys → Carried (first_of xs) (first_of ys)
  first_carried xs ys h = (ap first_of h.0 ∙ first_map (carried_to places ws) xs, first_all (Moves_as_one places Free) xs h.1)

  pub kids_follow : (xs ys : List Stood) → AllByRecursion IsRiffHead xs → AllByRecursion (Open ws) xs → Carried xs ys → Carried (flat_map kids xs) (flat_map kids ys)
  kids_follow xs ys h o c = let k = kids_all places Free ws xs h o c.1 in (ap (flat_map kids) c.0 ∙ k.0, k.1)

  pub types_follow : (w : List ℕ) (xs ys : List Stood) → AllByRecursion IsRiffHead xs → AllByRecursion (TypeStays ws) xs → Carried xs ys → Carried (only (is_type w) xs) (only (is_type w) ys)
  types_follow w xs ys h t c = (ap (only (is_type w)) c.0 ∙ lists_carried places Free ws w xs h t, only_all (Moves_as_one places Free) (is_type w) xs c.1)

  pub streams_carried : Opened → Carried (stream_indexes a) (stream_indexes edited_avi)
  streams_carried h =
      let hdrl = only (is_type (codes "hdrl")) (top a) in
      let one = first_carried hdrl (only (is_type (codes "hdrl")) (top edited_avi)) (top_carried (is_type (codes "hdrl")) hdrl_apart (all_types (codes "hdrl") (top a) h.top_heads h.top_types)) in
      let heads = first_all IsRiffHead hdrl (only_all IsRiffHead (is_type (codes "hdrl")) (top a) h.top_heads) in
      let two = kids_follow (first_of hdrl) (first_of (only (is_type (codes "hdrl")) (top edited_avi))) heads h.hdrl_opens one in
      let lists = flat_map kids (first_of hdrl) in
      let lists2 = flat_map kids (first_of (only (is_type (codes "hdrl")) (top edited_avi))) in
      let three = types_follow (codes "strl") lists lists2 h.hdrl_heads h.hdrl_types two in
      let four = kids_follow (only (is_type (codes "strl")) lists) (only (is_type (codes "strl")) lists2) (only_all IsRiffHead (is_type (codes "strl")) lists h.hdrl_heads) h.strl_opens three in
      let parts = flat_map kids (only (is_type (codes "strl")) lists) in
      (ap (only (has_id (codes "indx"))) four.0 ∙ ids_carried places Free ws (codes "indx") parts, only_all (Moves_as_one places Free) (has_id (codes "indx")) parts four.1)

  pub olds_carried : Carried (old_indexes a) (old_indexes edited_avi)
  olds_carried =
      first_carried (only (has_id (codes "idx1")) (top a)) (only (has_id (codes "idx1")) (top edited_avi)) (top_carried (has_id (codes "idx1")) index_apart (ids_carried (λ q. q) Free ws (codes "idx1") (top a)))

  pub movi_carried : Opened → Carried (only is_movi (top a)) (only is_movi (top edited_avi))
  movi_carried h = top_carried is_movi movi_apart (all_types (codes "movi") (top a) h.top_heads h.top_types)
