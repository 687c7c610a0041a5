-- A list with other chunks is read again, and so is the list of a stream with another name.
use Rattle.std.proofs.Common.{◌≡◌, ℕ, ◌+◌, ◌-◌, ◌%◌, ◌^◌, ◌<◌, ◌≤◌, Bool, true, false, cond, leb, eqb, List, [], ◌∷◌, ◌++◌, length, map, take, drop, refl, sym, ap, ◌∙◌, arith, inl, inr}
use Rattle.std.specs.Prelude.{◌&&◌, ◌||◌, codes}
use Rattle.std.specs.Str.{bytes_eq}
use Rattle.std.specs.List.{flat_map, AllByRecursion}
use Rattle.std.proofs.lemmas.Bool.{eqb-true}
use Rattle.std.proofs.lemmas.List.{length-append, length-take, length-replicate, drop_at, take_at, append-nil}
use Rattle.container_model.specs.Chunk.{Form, riff, pad_len, Chunk, ends, spell_all, chunks, Pads, PadStands}
use Rattle.container_model.specs.Sizes.{plain, riff_front}
use Rattle.container_model.specs.Units.{Cell, live, padded, shut, lay}
use Rattle.container_model.proofs.Plain.{IsPlain, ArePlain, plain_again, plain_chunks, plain_left}
use Rattle.container_model.proofs.Reread.{IsPadded, lay_pads}
use Rattle.container_model.proofs.Units.{lay_all}
use Rattle.carrier_model.specs.Info.{own_size, is_padding, is_type, list_run, made, fill_by, room, riff_fill}
use Rattle.carrier_model.specs.Names.{name_cells}
use Rattle.carrier_model.proofs.Info.{made_plain, made_padded, fill_all}
use Rattle.carrier_model.proofs.Names.{gaps_names, cells_names, pads_names}
use Rattle.carrier_model.proofs.Views.{laid_view}
use Rattle.avi_model.specs.Named.{cell_of, respelled, list_with, ends_list, strl_pieces, strl_fill, strl_named}
use Rattle.avi_model.proofs.Edit.{cells_all, cells_gaps, cells_pads}

-- ---- a chunk with another body

pub respelled_body : (c : Chunk) (b : List ℕ) → (respelled c b).body ≡ b
respelled_body c b = go (eqb (length b % 2) (length c.body % 2))
  where
    go : (t : Bool) → (cond t (record c { body = b }) (padded (record c { body = b }))).body ≡ b
    go true = refl
    go false = refl

pub respelled_form : (c : Chunk) (b : List ℕ) → (respelled c b).form ≡ c.form
respelled_form c b = go (eqb (length b % 2) (length c.body % 2))
  where
    go : (t : Bool) → (cond t (record c { body = b }) (padded (record c { body = b }))).form ≡ c.form
    go true = refl
    go false = refl

pub respelled_id : (c : Chunk) (b : List ℕ) → (respelled c b).id ≡ c.id
respelled_id c b = go (eqb (length b % 2) (length c.body % 2))
  where
    go : (t : Bool) → (cond t (record c { body = b }) (padded (record c { body = b }))).id ≡ c.id
    go true = refl
    go false = refl

-- its pad stands where the old one does
pub respelled_stands : (c : Chunk) (b more now : List ℕ) → c.form ≡ riff → (more ≡ [] → now ≡ []) → PadStands riff (length c.body) c.pad more → PadStands riff (length b) (respelled c b).pad now
respelled_stands c b more now is none h = go (eqb (length b % 2) (length c.body % 2)) refl h
  where
    go : (t : Bool) → eqb (length b % 2) (length c.body % 2) ≡ t → PadStands riff (length c.body) c.pad more → PadStands riff (length b) (cond t (record c { body = b }) (padded (record c { body = b }))).pad now
    go true e (inl p) = inl (p ∙ sym (eqb-true (length b % 2) (length c.body % 2) e))
    go true e (inr p) = inr (omega (arith, p.0, eqb-true (length b % 2) (length c.body % 2) e), none p.1)
    go false e p = inl (length-replicate (pad_len c.form (length b)) 0 ∙ ap (λ (f : Form). pad_len f (length b)) is)

-- ---- a list with other chunks

-- a list that is read to its end
pub record IsList (c : Chunk) : Type 0 where
  pub form_is : c.form ≡ riff
  pub long : 4 ≤ length c.body
  pub all_read : (list_run c).stop ≡ ends
  pub pads : Pads (list_run c).chunks (list_run c).left
  pub spelled : spell_all (list_run c).chunks ++ (list_run c).left ≡ drop 4 c.body

pub list_plain : (c : Chunk) → ArePlain (list_run c).chunks
list_plain c = plain_chunks (drop 4 c.body)

pub list_pads : (c : Chunk) → IsList c → Pads (list_run c).chunks (list_run c).left
list_pads c h = h.pads

pub list_short : (c : Chunk) → IsList c → length (list_run c).left < 8
list_short c h = plain_left (drop 4 c.body) h.all_read

pub word_long : (c : Chunk) → IsList c → length (take 4 c.body) ≡ 4
word_long c h = omega (arith, length-take 4 c.body, h.long)

-- its chunks and its rest are read again
pub list_read : (c : Chunk) (cs : List Chunk) → IsList c → ArePlain cs → Pads cs (list_run c).left → length (spell_all cs) < 2 ^ 32 → list_run (list_with c cs) ≡ record { chunks = cs; stop = ends; left = (list_run c).left }
list_read c cs h p q lt =
    let more = spell_all cs ++ (list_run c).left in
    ap (λ (b : List ℕ). chunks riff_front plain (drop 4 b)) (respelled_body c (take 4 c.body ++ more))
    ∙ ap (chunks riff_front plain) (drop_at (take 4 c.body) more 4 (word_long c h)) ∙ plain_again cs (list_run c).left p q (list_short c h) lt

-- its type stays
pub list_type : (w : List ℕ) (c : Chunk) (cs : List Chunk) → IsList c → is_type w (list_with c cs) ≡ is_type w c
list_type w c cs h =
    let more = spell_all cs ++ (list_run c).left in
    let new = list_with c cs in
    let word : take 4 new.body ≡ take 4 c.body = ap (take 4) (respelled_body c (take 4 c.body ++ more)) ∙ take_at (take 4 c.body) more 4 (word_long c h) in
    ap (λ (f : Form). own_size f && (bytes_eq new.id (codes "LIST") && bytes_eq (take 4 new.body) w)) (respelled_form c (take 4 c.body ++ more))
    ∙ ap (λ (x : List ℕ). own_size c.form && (bytes_eq x (codes "LIST") && bytes_eq (take 4 new.body) w)) (respelled_id c (take 4 c.body ++ more))
    ∙ ap (λ (x : List ℕ). own_size c.form && (bytes_eq c.id (codes "LIST") && bytes_eq x w)) word

-- how long it is
pub list_length : (c : Chunk) (cs : List Chunk) → IsList c → length (list_with c cs).body ≡ 4 + (length (spell_all cs) + length (list_run c).left)
list_length c cs h =
    let more = spell_all cs ++ (list_run c).left in
    ap length (respelled_body c (take 4 c.body ++ more)) ∙ omega (arith, length-append (take 4 c.body) more, length-append (spell_all cs) (list_run c).left, word_long c h)

-- ---- the list of a stream with these names

abbrev pub made_names : List (List ℕ) → List Chunk
made_names vs = map (made (codes "strn")) vs

pub all_names : (P : Chunk → Type 0) → ((body : List ℕ) → P (made (codes "strn") body)) → (vs : List (List ℕ)) → AllByRecursion P (made_names vs)
all_names P h [] = tt
all_names P h (v ∷ vs) = (h v, all_names P h vs)

-- its chunks
abbrev pub laid_chunks : Bool → List (List ℕ) → Chunk → List Chunk
laid_chunks ends_too vs c = lay (strl_fill ends_too c) (strl_pieces (made_names vs) c)

module _ (ends_too : Bool) (vs : List (List ℕ)) (c : Chunk) (is : IsList c) where
  abbrev cells : List Cell
  cells = map cell_of (list_run c).chunks

  pub strl_plain : ArePlain (laid_chunks ends_too vs c)
  strl_plain =
      lay_all IsPlain (strl_fill ends_too c) (record { on_pads = λ c h. record { form_is = h.form_is; id_len = h.id_len }; on_fill = λ last slot k. fill_all IsPlain (λ body. made_plain (codes "JUNK") body refl) (ends_too && ends_list c) last slot k }) shut
      (name_cells (made_names vs) cells) tt (cells_names IsPlain (made_names vs) (all_names IsPlain (λ body. made_plain (codes "strn") body refl) vs) cells (cells_all IsPlain (list_run c).chunks (list_plain c)))

  pub strl_pads : Pads (laid_chunks ends_too vs c) (list_run c).left
  strl_pads =
      lay_pads (strl_fill ends_too c) (λ last slot k. fill_all IsPadded (λ body. made_padded (codes "JUNK") body) (ends_too && ends_list c) last slot k) (list_run c).left shut
      (name_cells (made_names vs) cells) tt
      (pads_names (made_names vs) (all_names IsPadded (λ body. made_padded (codes "strn") body) vs) cells (list_run c).left (cells_pads (list_run c).chunks (list_run c).left (list_pads c is)))

  -- what a view that sees neither padding nor pads sees of its chunks
  pub strl_seen : {X : Type 0} (v : Chunk → List X) → ((d : Chunk) → v (record d { pad = [] }) ≡ v d) → ((d : Chunk) → is_padding d ≡ true → v d ≡ []) → flat_map v (laid_chunks ends_too vs c) ≡ flat_map v (flat_map live (name_cells (made_names vs) cells))
  strl_seen v pads padding =
      laid_view v pads (strl_fill ends_too c) (λ last slot n. fills last slot n) (name_cells (made_names vs) cells)
      (gaps_names (λ d. v d ≡ []) (made_names vs) cells (cells_gaps (λ d. v d ≡ []) padding (list_run c).chunks))
    where
      fills : (last : Bool) (slot : List ℕ) (n : ℕ) → flat_map v (riff_fill (ends_too && ends_list c) last slot n) ≡ []
      fills last slot n = go (leb (length slot) n || ((ends_too && ends_list c) && last))
        where
          go : (t : Bool) → flat_map v (fill_by slot n t) ≡ []
          go true = refl
          go false = append-nil (v (made (codes "JUNK") (room (length slot - n) slot n))) ∙ padding (made (codes "JUNK") (room (length slot - n) slot n)) refl

  pub strl_run : length (spell_all (laid_chunks ends_too vs c)) < 2 ^ 32 → list_run (strl_named ends_too (made_names vs) c) ≡ record { chunks = (laid_chunks ends_too vs c); stop = ends; left = (list_run c).left }
  strl_run lt = list_read c (laid_chunks ends_too vs c) is strl_plain strl_pads lt
