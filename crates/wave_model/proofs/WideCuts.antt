-- The file of an edit that widens is the old one with spans replaced.
use Rattle.std.proofs.Common.{◌≡◌, ℕ, zero, suc, ◌+◌, ◌-◌, ◌^◌, ◌≤◌, Bool, true, false, cond, ltb, List, [], ◌∷◌, ◌++◌, length, map, take, drop, replicate, refl, sym, ap, subst, ◌∙◌, append_assoc, arith, inl, inr}
use Rattle.std.specs.Prelude.{◌&&◌, ◌||◌, ◌⊎◌, not, codes}
use Rattle.std.specs.Int.{w32, to_le_bytes}
use Rattle.std.specs.List.{flat_map, AllByRecursion}
use Rattle.std.proofs.lemmas.Bool.{cond-false, ltb-true, and_parts}
use Rattle.std.proofs.lemmas.List.{length-append, nil_from_length, take_at, drop_at, map-append, append-nil}
use Rattle.field_model.specs.Update.{RawItem}
use Rattle.container_model.specs.Chunk.{Form, riff, wide, Chunk, spell, spell_all, header_bytes, pad_len}
use Rattle.container_model.specs.Splice.{Cut, end_of, splice, splice_from, Ascend}
use Rattle.container_model.specs.Units.{Cell, kept, gap, edited, Piece, copied, replaced, Slot, shut, begun, closed, units, kept_next, is_empty, lacks_pad, padded, Fill, lay, old_bytes, lead_pad, unit_bytes, cut_of}
use Rattle.container_model.proofs.Codec.{IsBytes}
use Rattle.container_model.proofs.Units.{AllCells, From, From-low, spell_all-append, splice_past, units_old}
use Rattle.carrier_model.specs.Info.{riff_fill, fill_by}
use Rattle.carrier_model.specs.RiffForm.{pad_cut}
use Rattle.carrier_model.specs.Steps.{carried}
use Rattle.carrier_model.proofs.RiffForm.{field_of, field_len, pad_from, pad_spliced, pad_ascends}
use Rattle.carrier_model.proofs.Steps.{FirstKept, NowCells, was_carried, now_carried, now_both, first_carried}
use Rattle.wave_model.specs.Wave.{is_big, Wave, wave_of, inner, spell_wave, cells_of, cells_behind, cell_of}
use Rattle.wave_model.specs.Fields.{has_id}
use Rattle.wave_model.specs.Carry.{steps}
use Rattle.wave_model.specs.New.{ends_file, fill_of, pieces_of, new_children, new_wave}
use Rattle.wave_model.specs.Edited.{Supported}
use Rattle.wave_model.specs.Widen.{reserved, widened_data, widened_wave, field_cut, field_cuts, wide_cuts, widened_cuts}
use Rattle.wave_model.proofs.Again.{spelled}
use Rattle.wave_model.proofs.Acts.{IsMade, all_made, all_pass, other_id}
use Rattle.wave_model.proofs.Cells.{was_cells, now_cells}
use Rattle.wave_model.proofs.Edited.{kind_len}
use Rattle.wave_model.proofs.Few.{Silent, made_silent}
use Rattle.wave_model.proofs.Form.{old_form, spelled_is}
use Rattle.wave_model.proofs.New.{ListsSmall}
use Rattle.wave_model.proofs.Values.{ItemsFine}
use Rattle.wave_model.proofs.Widened.{PlainChunk, no_ds64, Stays, reserved_stays, cells_plain}

-- FFFFFFFF
abbrev ones : List ℕ
ones = 255 ∷ 255 ∷ 255 ∷ 255 ∷ []

-- ---- one chunk

module _ (at : ℕ) (c : Chunk) (p : PlainChunk c) where
  head_is : header_bytes c.form c.id (length c.body) ≡ c.id ++ to_le_bytes w32 (length c.body)
  head_is = ap (λ (f : Form). header_bytes f c.id (length c.body)) p.form_is

  pub head_len : length (header_bytes c.form c.id (length c.body)) ≡ 8
  head_len = ap length head_is ∙ omega (arith, p.id_len, length-append c.id (to_le_bytes w32 (length c.body)))

  field_from : (more : List Cut) → From (at + length (spell c)) more → From at (field_cut at c ++ more)
  field_from more h = go (has_id (codes "data") c)
    where
      go : (t : Bool) → From at (cond t (record { at = at + 4; len = 4; bytes = ones } ∷ []) [] ++ more)
      go true = omega arith
      go false = From-low at (at + length (spell c)) more (omega arith) h

  field_ascends : (more : List Cut) (end : ℕ) → Ascend (at + length (spell c)) more end → Ascend at (field_cut at c ++ more) end
  field_ascends more end h = go (has_id (codes "data") c)
    where
      low : (ds : List Cut) (a b : ℕ) → a ≤ b → Ascend b ds end → Ascend a ds end
      low [] a b l g = omega arith
      low (d ∷ ds) a b l g = (omega (arith, g.0), g.1)

      long : 8 ≤ length (spell c)
      long = omega (arith, head_len, length-append (header_bytes c.form c.id (length c.body)) (c.body ++ c.pad))

      go : (t : Bool) → Ascend at (cond t (record { at = at + 4; len = 4; bytes = ones } ∷ []) [] ++ more) end
      go true = (omega arith, low more (at + 4 + 4) (at + length (spell c)) (omega (arith, long)) h)
      go false = low more at (at + length (spell c)) (omega arith) h

  -- with its field replaced it is the widened chunk
  field_made : (rest : List ℕ) (more : List Cut) → From (at + length (spell c)) more
      → splice_from at (spell c ++ rest) (field_cut at c ++ more) ≡ spell (widened_data c) ++ splice_from (at + length (spell c)) rest more
  field_made rest more h = go (has_id (codes "data") c)
    where
      n : ℕ
      n = length c.body

      parts : spell c ++ rest ≡ c.id ++ (to_le_bytes w32 n ++ ((c.body ++ c.pad) ++ rest))
      parts = ap (λ (x : List ℕ). (x ++ (c.body ++ c.pad)) ++ rest) head_is ∙ regroup c.id (to_le_bytes w32 n) (c.body ++ c.pad) rest
        where
          regroup : (i g b r : List ℕ) → ((i ++ g) ++ b) ++ r ≡ i ++ (g ++ (b ++ r))
          regroup i g b r = simp append_assoc

      whole : at + 4 + 4 + length (c.body ++ c.pad) ≡ at + length (spell c)
      whole = omega (arith, head_len, length-append (header_bytes c.form c.id n) (c.body ++ c.pad))

      wide_case : splice_from at (c.id ++ (to_le_bytes w32 n ++ ((c.body ++ c.pad) ++ rest))) (record { at = at + 4; len = 4; bytes = ones } ∷ more) ≡ c.id ++ (ones ++ ((c.body ++ c.pad) ++ splice_from (at + length (spell c)) rest more))
      wide_case =
          let b = (c.body ++ c.pad) ++ rest in
          let four : (at + 4) - at ≡ 4 = omega arith in
          let eight : (at + 4 + 4) - at ≡ 8 = omega arith in
          let front : take 4 (c.id ++ (to_le_bytes w32 n ++ b)) ≡ c.id = take_at c.id (to_le_bytes w32 n ++ b) 4 p.id_len in
          let len : length (c.id ++ to_le_bytes w32 n) ≡ 8 = omega (arith, p.id_len, length-append c.id (to_le_bytes w32 n)) in
          let back : drop 8 (c.id ++ (to_le_bytes w32 n ++ b)) ≡ b = ap (drop 8) (sym (append_assoc c.id (to_le_bytes w32 n) b)) ∙ drop_at (c.id ++ to_le_bytes w32 n) b 8 len in
          let behind : splice_from (at + 4 + 4) b more ≡ (c.body ++ c.pad) ++ splice_from (at + length (spell c)) rest more
          = splice_past (at + 4 + 4) (c.body ++ c.pad) rest more (rw whole h) ∙ ap (λ (k : ℕ). (c.body ++ c.pad) ++ splice_from k rest more) whole in
          rw (four, eight, front, back, behind) refl

      spelled_wide : spell (record c { form = wide }) ++ splice_from (at + length (spell c)) rest more ≡ c.id ++ (ones ++ ((c.body ++ c.pad) ++ splice_from (at + length (spell c)) rest more))
      spelled_wide = regroup c.id ones (c.body ++ c.pad) (splice_from (at + length (spell c)) rest more)
        where
          regroup : (i g b r : List ℕ) → ((i ++ g) ++ b) ++ r ≡ i ++ (g ++ (b ++ r))
          regroup i g b r = simp append_assoc

      go : (t : Bool) → splice_from at (spell c ++ rest) (cond t (record { at = at + 4; len = 4; bytes = ones } ∷ []) [] ++ more) ≡ spell (cond t (record c { form = wide }) c) ++ splice_from (at + length (spell c)) rest more
      go true = ap (λ (x : List ℕ). splice_from at x (record { at = at + 4; len = 4; bytes = ones } ∷ more)) parts ∙ wide_case ∙ sym spelled_wide
      go false = splice_past at (spell c) rest more h

-- ---- chunks before a unit

from_chunks : (at : ℕ) (cs : List Chunk) (more : List Cut) → AllByRecursion PlainChunk cs → From (at + length (spell_all cs)) more → From at (field_cuts at cs ++ more)
from_chunks at [] more p h = From-low at (at + 0) more (omega arith) h
from_chunks at (c ∷ cs) more p h =
    let len : (at + length (spell c)) + length (spell_all cs) ≡ at + length (spell c ++ spell_all cs) = omega (arith, length-append (spell c) (spell_all cs)) in
    rw (append_assoc (field_cut at c) (field_cuts (at + length (spell c)) cs) more) (field_from at c p.0 (field_cuts (at + length (spell c)) cs ++ more) (from_chunks (at + length (spell c)) cs more p.1 (rw len h)))

chunks_ascend : (at : ℕ) (cs : List Chunk) (more : List Cut) (end : ℕ) → AllByRecursion PlainChunk cs → Ascend (at + length (spell_all cs)) more end → Ascend at (field_cuts at cs ++ more) end
chunks_ascend at [] more end p h = let e : at + 0 ≡ at = omega arith in rw e at h
chunks_ascend at (c ∷ cs) more end p h =
    let len : (at + length (spell c)) + length (spell_all cs) ≡ at + length (spell c ++ spell_all cs) = omega (arith, length-append (spell c) (spell_all cs)) in
    rw (append_assoc (field_cut at c) (field_cuts (at + length (spell c)) cs) more)
    (field_ascends at c p.0 (field_cuts (at + length (spell c)) cs ++ more) end (chunks_ascend (at + length (spell c)) cs more end p.1 (rw len h)))

chunks_made : (at : ℕ) (cs : List Chunk) (rest : List ℕ) (more : List Cut) → AllByRecursion PlainChunk cs → From (at + length (spell_all cs)) more
    → splice_from at (spell_all cs ++ rest) (field_cuts at cs ++ more) ≡ spell_all (map widened_data cs) ++ splice_from (at + length (spell_all cs)) rest more
chunks_made at [] rest more p h = let e : at + 0 ≡ at = omega arith in rw e refl
chunks_made at (c ∷ cs) rest more p h =
    let next = at + length (spell c) in
    let len : next + length (spell_all cs) ≡ at + length (spell c ++ spell_all cs) = omega (arith, length-append (spell c) (spell_all cs)) in
    let cuts : field_cuts at (c ∷ cs) ++ more ≡ field_cut at c ++ (field_cuts next cs ++ more) = append_assoc (field_cut at c) (field_cuts next cs) more in
    ap (λ (x : List ℕ). splice_from at x (field_cuts at (c ∷ cs) ++ more)) (append_assoc (spell c) (spell_all cs) rest) ∙ ap (splice_from at (spell c ++ (spell_all cs ++ rest))) cuts
    ∙ field_made at c p.0 (spell_all cs ++ rest) (field_cuts next cs ++ more) (from_chunks next cs more p.1 (rw len h))
    ∙ ap (λ (x : List ℕ). spell (widened_data c) ++ x) (chunks_made next cs rest more p.1 (rw len h) ∙ ap (λ (k : ℕ). spell_all (map widened_data cs) ++ splice_from k rest more) len)
    ∙ sym (append_assoc (spell (widened_data c)) (spell_all (map widened_data cs)) (splice_from (at + length (spell c ++ spell_all cs)) rest more))

-- ---- pieces

abbrev pub NoData : Chunk → Type 0
NoData c = has_id (codes "data") c ≡ false

-- a chunk before a unit lacks its pad, and there is at most one
abbrev LeadFine : List Chunk → Type 0
LeadFine [] = Unit {0}
LeadFine (c ∷ []) = PlainChunk c × (lacks_pad c ≡ true)
LeadFine (c ∷ d ∷ cs) = ⊥

abbrev PiecesFine : List Piece → Type 0
PiecesFine [] = Unit {0}
PiecesFine (copied c ∷ ps) = PlainChunk c × PiecesFine ps
PiecesFine (replaced lead slot now last ∷ ps) = LeadFine lead × AllByRecursion NoData now × PiecesFine ps

lead_plain : (lead : List Chunk) → LeadFine lead → AllByRecursion PlainChunk lead
lead_plain [] h = tt
lead_plain (c ∷ []) h = (h.0, tt)
lead_plain (c ∷ d ∷ cs) h = absurd h

-- the pad that a unit brings stands behind the widened chunk too
lead_brings : (lead : List Chunk) → LeadFine lead → spell_all (map widened_data (map padded lead)) ≡ spell_all (map widened_data lead) ++ lead_pad lead
lead_brings [] h = refl
lead_brings (c ∷ []) h = go (has_id (codes "data") c)
  where
    less : length c.pad + 1 ≤ pad_len c.form (length c.body)
    less = omega (arith, ltb-true (length c.pad) (pad_len c.form (length c.body)) h.1)

    odd : pad_len c.form (length c.body) ≤ 1
    odd = let e : pad_len c.form (length c.body) ≡ pad_len riff (length c.body) = ap (λ (f : Form). pad_len f (length c.body)) h.0.form_is in omega (arith, e)

    none : c.pad ≡ []
    none = nil_from_length c.pad (omega (arith, less, odd))

    one : pad_len c.form (length c.body) ≡ 1
    one = omega (arith, less, odd)

    put : (h b p : List ℕ) → p ≡ [] → (h ++ (b ++ (0 ∷ []))) ++ [] ≡ ((h ++ (b ++ p)) ++ []) ++ (0 ∷ [])
    put h b p e = rw e (simp append_assoc)

    go : (t : Bool) → spell (cond t (record (padded c) { form = wide }) (padded c)) ++ [] ≡ (spell (cond t (record c { form = wide }) c) ++ []) ++ (0 ∷ [])
    go true = ap (λ (k : ℕ). (header_bytes wide c.id (length c.body) ++ (c.body ++ replicate k 0)) ++ []) one ∙ put (header_bytes wide c.id (length c.body)) c.body c.pad none
    go false = ap (λ (k : ℕ). (header_bytes c.form c.id (length c.body) ++ (c.body ++ replicate k 0)) ++ []) one ∙ put (header_bytes c.form c.id (length c.body)) c.body c.pad none
lead_brings (c ∷ d ∷ cs) h = absurd h

-- chunks without `data` stay
same_all : (cs : List Chunk) → AllByRecursion NoData cs → map widened_data cs ≡ cs
same_all [] h = refl
same_all (c ∷ cs) h = rw (cond-false (has_id (codes "data") c) (record c { form = wide }) c h.0, same_all cs h.1) refl

fill_silent : (ends last : Bool) (slot : List ℕ) (n : ℕ) → AllByRecursion NoData (riff_fill ends last slot n)
fill_silent ends last slot n = go (Rattle.std.proofs.Common.leb (length slot) n || (ends && last))
  where
    go : (t : Bool) → AllByRecursion NoData (fill_by slot n t)
    go true = tt
    go false = (refl, tt)

module _ (ends : Bool) where
  abbrev fill : Fill
  fill = riff_fill ends

  wide_from : (at : ℕ) (ps : List Piece) (more : List Cut) → PiecesFine ps → From (at + length (flat_map old_bytes ps)) more → From at (wide_cuts (riff_fill ends) at ps ++ more)
  wide_from at [] more p h = From-low at (at + 0) more (omega arith) h
  wide_from at (copied c ∷ ps) more p h =
      let next = at + length (spell c) in
      let len : next + length (flat_map old_bytes ps) ≡ at + length (spell c ++ flat_map old_bytes ps) = omega (arith, length-append (spell c) (flat_map old_bytes ps)) in
      rw (append_assoc (field_cut at c) (wide_cuts fill next ps) more) (field_from at c p.0 (wide_cuts fill next ps ++ more) (wide_from next ps more p.1 (rw len h)))
  wide_from at (replaced lead slot now last ∷ ps) more p h =
      let next = at + length (spell_all lead ++ slot) in
      rw (append_assoc (field_cuts at lead) (cut_of fill at lead slot now last ∷ wide_cuts fill next ps) more)
      (from_chunks at lead (cut_of fill at lead slot now last ∷ (wide_cuts fill next ps ++ more)) (lead_plain lead p.0) (omega arith))

  wide_ascends : (at : ℕ) (ps : List Piece) (more : List Cut) (end : ℕ) → PiecesFine ps → Ascend (at + length (flat_map old_bytes ps)) more end → Ascend at (wide_cuts (riff_fill ends) at ps ++ more) end
  wide_ascends at [] more end p h = let e : at + 0 ≡ at = omega arith in rw e at h
  wide_ascends at (copied c ∷ ps) more end p h =
      let next = at + length (spell c) in
      let len : next + length (flat_map old_bytes ps) ≡ at + length (spell c ++ flat_map old_bytes ps) = omega (arith, length-append (spell c) (flat_map old_bytes ps)) in
      rw (append_assoc (field_cut at c) (wide_cuts fill next ps) more) (field_ascends at c p.0 (wide_cuts fill next ps ++ more) end (wide_ascends next ps more end p.1 (rw len h)))
  wide_ascends at (replaced lead slot now last ∷ ps) more end p h =
      let l = spell_all lead in
      let next = at + length (l ++ slot) in
      let len : next + length (flat_map old_bytes ps) ≡ at + length ((l ++ slot) ++ flat_map old_bytes ps) = omega (arith, length-append (l ++ slot) (flat_map old_bytes ps)) in
      let e : next ≡ at + length l + length slot = omega (arith, length-append l slot) in
      let behind : Ascend (at + length l + length slot) (wide_cuts fill next ps ++ more) end = subst (λ (k : ℕ). Ascend k (wide_cuts fill next ps ++ more) end) e (wide_ascends next ps more end p.2 (rw len h)) in
      rw (append_assoc (field_cuts at lead) (cut_of fill at lead slot now last ∷ wide_cuts fill next ps) more)
      (chunks_ascend at lead (cut_of fill at lead slot now last ∷ (wide_cuts fill next ps ++ more)) end (lead_plain lead p.0) (omega arith, behind))

  -- The widened chunks that are laid are spelled as the old bytes with these spans replaced.
  wide_splices : (at : ℕ) (ps : List Piece) (rest : List ℕ) (more : List Cut) → PiecesFine ps → From (at + length (flat_map old_bytes ps)) more
      → splice_from at (flat_map old_bytes ps ++ rest) (wide_cuts (riff_fill ends) at ps ++ more) ≡ spell_all (map widened_data (lay (riff_fill ends) ps)) ++ splice_from (at + length (flat_map old_bytes ps)) rest more
  wide_splices at [] rest more p h = let e : at + 0 ≡ at = omega arith in rw e refl
  wide_splices at (copied c ∷ ps) rest more p h =
      let b = flat_map old_bytes ps ++ rest in
      let next = at + length (spell c) in
      let len : next + length (flat_map old_bytes ps) ≡ at + length (spell c ++ flat_map old_bytes ps) = omega (arith, length-append (spell c) (flat_map old_bytes ps)) in
      let tail = splice_from (at + length (spell c ++ flat_map old_bytes ps)) rest more in
      ap (λ (x : List ℕ). splice_from at x (wide_cuts fill at (copied c ∷ ps) ++ more)) (append_assoc (spell c) (flat_map old_bytes ps) rest)
      ∙ ap (splice_from at (spell c ++ b)) (append_assoc (field_cut at c) (wide_cuts fill next ps) more)
      ∙ field_made at c p.0 b (wide_cuts fill next ps ++ more) (wide_from next ps more p.1 (rw len h))
      ∙ ap (λ (x : List ℕ). spell (widened_data c) ++ x) (wide_splices next ps rest more p.1 (rw len h) ∙ ap (λ (k : ℕ). spell_all (map widened_data (lay fill ps)) ++ splice_from k rest more) len)
      ∙ sym (append_assoc (spell (widened_data c)) (spell_all (map widened_data (lay fill ps))) tail)
  wide_splices at (replaced lead slot now last ∷ ps) rest more p h =
      let b = flat_map old_bytes ps ++ rest in
      let l = spell_all lead in
      let c = cut_of fill at lead slot now last in
      let next = at + length (l ++ slot) in
      let f = fill last slot (length (unit_bytes lead now)) in
      let len : next + length (flat_map old_bytes ps) ≡ at + length ((l ++ slot) ++ flat_map old_bytes ps) = omega (arith, length-append (l ++ slot) (flat_map old_bytes ps)) in
      let tail = splice_from (at + length ((l ++ slot) ++ flat_map old_bytes ps)) rest more in
      let e1 : c.at - (at + length l) ≡ 0 = omega arith in
      let e2 : end_of c - (at + length l) ≡ length slot = omega arith in
      let e3 : end_of c ≡ next = omega (arith, length-append l slot) in
      let back : drop (end_of c - (at + length l)) (slot ++ b) ≡ b = rw e2 (drop_at slot b (length slot) refl) in
      let front : take (c.at - (at + length l)) (slot ++ b) ≡ [] = ap (λ (k : ℕ). take k (slot ++ b)) e1 in
      let again : splice_from (end_of c) b (wide_cuts fill next ps ++ more) ≡ spell_all (map widened_data (lay fill ps)) ++ tail = rw (e3, ← len) (wide_splices next ps rest more p.2 (rw len h)) in
      let unit : splice_from (at + length l) (slot ++ b) (c ∷ (wide_cuts fill next ps ++ more)) ≡ c.bytes ++ (spell_all (map widened_data (lay fill ps)) ++ tail) = rw (front, back, again) refl in
      let laid : map widened_data (lay fill (replaced lead slot now last ∷ ps)) ≡ map widened_data (map padded lead) ++ ((now ++ f) ++ map widened_data (lay fill ps))
      = map-append widened_data (map padded lead ++ (now ++ f)) (lay fill ps) ∙ ap (λ (x : List Chunk). x ++ map widened_data (lay fill ps)) (map-append widened_data (map padded lead) (now ++ f))
      ∙ ap (λ (x : List Chunk). (map widened_data (map padded lead) ++ x) ++ map widened_data (lay fill ps)) (map-append widened_data now f ∙ ap (λ (x : List Chunk). x ++ map widened_data f) (same_all now p.1) ∙ ap (λ (x : List Chunk). now ++ x) (same_all f (fill_silent ends last slot (length (unit_bytes lead now)))))
      ∙ append_assoc (map widened_data (map padded lead)) (now ++ f) (map widened_data (lay fill ps)) in
      let new : spell_all (map widened_data (lay fill (replaced lead slot now last ∷ ps))) ≡ (spell_all (map widened_data lead) ++ lead_pad lead) ++ ((spell_all now ++ spell_all f) ++ spell_all (map widened_data (lay fill ps)))
      = ap spell_all laid ∙ spell_all-append (map widened_data (map padded lead)) ((now ++ f) ++ map widened_data (lay fill ps))
      ∙ ap (λ (x : List ℕ). x ++ spell_all ((now ++ f) ++ map widened_data (lay fill ps))) (lead_brings lead p.0)
      ∙ ap (λ (x : List ℕ). (spell_all (map widened_data lead) ++ lead_pad lead) ++ x) (spell_all-append (now ++ f) (map widened_data (lay fill ps)) ∙ ap (λ (x : List ℕ). x ++ spell_all (map widened_data (lay fill ps))) (spell_all-append now f)) in
      ap (λ (x : List ℕ). splice_from at x (wide_cuts fill at (replaced lead slot now last ∷ ps) ++ more)) (append_assoc (l ++ slot) (flat_map old_bytes ps) rest ∙ append_assoc l slot b)
      ∙ ap (splice_from at (l ++ (slot ++ b))) (append_assoc (field_cuts at lead) (c ∷ wide_cuts fill next ps) more)
      ∙ chunks_made at lead (slot ++ b) (c ∷ (wide_cuts fill next ps ++ more)) (lead_plain lead p.0) (omega arith)
      ∙ ap (λ (x : List ℕ). spell_all (map widened_data lead) ++ x) unit
      ∙ sym (ap (λ (x : List ℕ). x ++ tail) new ∙ regroup (spell_all (map widened_data lead)) (lead_pad lead) (spell_all now) (spell_all f) (spell_all (map widened_data (lay fill ps))) tail)
    where
      regroup : (a b c d e t : List ℕ) → ((a ++ b) ++ ((c ++ d) ++ e)) ++ t ≡ a ++ (((b ++ c) ++ d) ++ (e ++ t))
      regroup a b c d e t = simp append_assoc

-- ---- the pieces of an edit are fine

abbrev CellsFine : List Cell → Type 0
CellsFine [] = Unit {0}
CellsFine (kept c ∷ xs) = PlainChunk c × CellsFine xs
CellsFine (gap c ∷ xs) = PlainChunk c × CellsFine xs
CellsFine (edited old now ∷ xs) = AllByRecursion NoData now × CellsFine xs

cells_fine : (xs : List Cell) → AllCells PlainChunk xs → NowCells Silent xs → CellsFine xs
cells_fine [] h n = tt
cells_fine (kept c ∷ xs) h n = (h.0, cells_fine xs h.1 n)
cells_fine (gap c ∷ xs) h n = (h.0, cells_fine xs h.1 n)
cells_fine (edited old now ∷ xs) h n = (each now n.0, cells_fine xs h.1 n.1)
  where
    each : (cs : List Chunk) → AllByRecursion Silent cs → AllByRecursion NoData cs
    each [] h = tt
    each (c ∷ cs) h = (h.0.1, each cs h.1)

abbrev SlotFine : Slot → Type 0
SlotFine shut = Unit {0}
SlotFine (begun lead slot now) = LeadFine lead × AllByRecursion NoData now

no_data_both : (a b : List Chunk) → AllByRecursion NoData a → AllByRecursion NoData b → AllByRecursion NoData (a ++ b)
no_data_both [] b h g = g
no_data_both (c ∷ a) b h g = (h.0, no_data_both a b h.1 g)

closed_fine : (last : Bool) (s : Slot) (ps : List Piece) → SlotFine s → PiecesFine ps → PiecesFine (closed last s ++ ps)
closed_fine last shut ps h g = g
closed_fine last (begun lead slot now) ps h g = (h.0, h.1, g)

next_fine : (r : Bool) (c : Chunk) (more : Slot → List Piece) → PlainChunk c → (r ≡ true → lacks_pad c ≡ true) → ((s : Slot) → SlotFine s → PiecesFine (more s)) → PiecesFine (kept_next r c more)
next_fine true c more p l h = h (begun (c ∷ []) [] []) ((p, l refl), tt)
next_fine false c more p l h = (p, h shut tt)

units_fine : (s : Slot) (xs : List Cell) → SlotFine s → CellsFine xs → PiecesFine (units s xs)
unfolding units
units_fine shut [] h g = tt
units_fine (begun lead slot now) [] h g = (h.0, h.1, tt)
units_fine s (kept c ∷ xs) h g =
    closed_fine false s _ h (next_fine (lacks_pad c && not (is_empty xs)) c (λ t. units t xs) g.0 (λ e. (and_parts (lacks_pad c) (not (is_empty xs)) e).0) (λ t k. units_fine t xs k g.1))
units_fine shut (gap c ∷ xs) h g = next_fine (lacks_pad c && not (is_empty xs)) c (λ t. units t xs) g.0 (λ e. (and_parts (lacks_pad c) (not (is_empty xs)) e).0) (λ t k. units_fine t xs k g.1)
units_fine (begun lead slot now) (gap c ∷ xs) h g = units_fine (begun lead (slot ++ spell c) now) xs h g.1
units_fine shut (edited old new ∷ xs) h g = units_fine (begun [] (spell_all old) new) xs (tt, g.0) g.1
units_fine (begun lead slot now) (edited old new ∷ xs) h g = units_fine (begun lead (slot ++ spell_all old) (now ++ new)) xs (h.0, no_data_both now new h.1 g.0) g.1

-- a kept chunk whose pad stands is the first piece
first_piece : (c : Chunk) (ys xs : List Cell) → ys ≡ kept c ∷ xs → lacks_pad c ≡ false → units shut ys ≡ copied c ∷ units shut xs
unfolding units
first_piece c ys xs e whole = ap (λ (zs : List Cell). units shut zs) e ∙ ap (λ (t : Bool). kept_next (t && not (is_empty xs)) c (λ s. units s xs)) whole

module _ (o : List ℕ) (bytes : IsBytes o) (sup : Supported o) (narrow : is_big (take 4 o) ≡ false) (e : List RawItem) (f : ItemsFine e) (small : ListsSmall (wave_of o) e) where
  abbrev w : Wave
  w = wave_of o

  abbrev js : List Chunk
  js = reserved (wave_of o).children

  abbrev ys : List Cell
  ys = carried (steps e) (cells_of (wave_of o))

  abbrev v : Wave
  v = widened_wave (reserved (wave_of o).children) (new_wave (wave_of o) e)

  all_fine : PiecesFine (pieces_of w e)
  all_fine =
      let made_ones : NowCells IsMade ys = now_carried IsMade (steps e) (all_made e) (cells_of w) (now_cells IsMade w.ds64 w.children) in
      let silent : NowCells Silent ys = now_both IsMade IsMade Silent (λ c m n. made_silent c m) ys made_ones made_ones in
      units_fine shut ys tt (cells_fine ys (cells_plain o bytes sup narrow e f small) silent)

  old_is : flat_map old_bytes (pieces_of w e) ≡ spell_all w.children
  old_is = units_old shut ys ∙ ap spell_all (was_carried (steps e) (cells_of w) ∙ was_cells w.ds64 w.children)

  -- the pieces behind a reserved JUNK
  record Behind (js : List Chunk) : Type 0 where
    fine : PiecesFine (drop (length js) (pieces_of w e))
    old : flat_map old_bytes (pieces_of w e) ≡ spell_all js ++ flat_map old_bytes (drop (length js) (pieces_of w e))
    new : drop (length js) (new_children w e) ≡ lay (fill_of w) (drop (length js) (pieces_of w e))
    same : wide_cuts (fill_of w) (12 + length (spell_all js)) (drop (length js) (pieces_of w e)) ≡ wide_cuts (fill_of w) 12 (pieces_of w e)

  behind : Behind js
  behind = go (reserved_stays o bytes sup narrow e)
    where
      go : (js ≡ []) ⊎ Stays o bytes sup narrow js (new_children w e) → Behind js
      go (inl i) = subst Behind (sym i) (record { fine = all_fine; old = refl; new = refl; same = refl })
      go (inr s) =
          let j = s.junk in
          let first : FirstKept j ys = first_kept (wave_of o).children refl s.js_is in
          let ps : pieces_of w e ≡ copied j ∷ units shut first.0 = first_piece j ys first.0 first.1 s.whole in
          let fine : PlainChunk j × PiecesFine (units shut first.0) = subst PiecesFine ps all_fine in
          subst Behind (sym s.js_is) (record {
            fine = subst (λ (qs : List Piece). PiecesFine (drop 1 qs)) (sym ps) fine.1;
            old = ap (flat_map old_bytes) ps ∙ ap (λ (x : List ℕ). x ++ flat_map old_bytes (units shut first.0)) (sym (append-nil (spell j))) ∙ ap (λ (qs : List Piece). (spell j ++ []) ++ flat_map old_bytes (drop 1 qs)) (sym ps);
            new = ap (λ (qs : List Piece). drop 1 (lay (fill_of w) qs)) ps ∙ ap (λ (qs : List Piece). lay (fill_of w) (drop 1 qs)) (sym ps);
            same = ap (λ (qs : List Piece). wide_cuts (fill_of w) (12 + length (spell j ++ [])) (drop 1 qs)) ps
                ∙ ap (λ (x : List ℕ). wide_cuts (fill_of w) (12 + length x) (units shut first.0)) (append-nil (spell j))
                ∙ sym (ap (λ (cs : List Cut). cs ++ wide_cuts (fill_of w) (12 + length (spell j)) (units shut first.0)) (no_field j s.is_junk))
                ∙ sym (ap (wide_cuts (fill_of w) 12) ps);
          })
        where
          no_field : (j : Chunk) → Rattle.wave_model.specs.Widen.is_reserved j ≡ true → field_cut 12 j ≡ []
          no_field j r = cond-false (has_id (codes "data") j) _ [] (other_id (codes "data") j refl (and_parts (Rattle.carrier_model.specs.Info.is_padding j) _ r).0)

          first_kept : (cs : List Chunk) → w.children ≡ cs → reserved cs ≡ s.junk ∷ [] → FirstKept s.junk ys
          first_kept [] i r = absurd cc
          first_kept (c ∷ cs) i r = by (Rattle.wave_model.specs.Widen.is_reserved c) refl r
            where
              by : (t : Bool) → Rattle.wave_model.specs.Widen.is_reserved c ≡ t → cond t (c ∷ []) [] ≡ s.junk ∷ [] → FirstKept s.junk ys
              by false x r = absurd cc
              by true x r =
                  let same : c ≡ s.junk = Rattle.wave_model.proofs.Edited.one_chunk c s.junk r in
                  let p : Rattle.carrier_model.specs.Info.is_padding c ≡ true = (and_parts (Rattle.carrier_model.specs.Info.is_padding c) _ x).0 in
                  let cells : cells_of w ≡ kept c ∷ map cell_of cs = ap (λ (ds : List Chunk). cells_behind ds w.children) (no_ds64 o bytes sup narrow) ∙ ap (cells_behind []) i in
                  subst (λ (d : Chunk). FirstKept d ys) same (first_carried c (steps e) (all_pass e c p) (cells_of w) (map cell_of cs, cells))

  -- Behind a reserved JUNK the spans are those of all pieces.
  pub behind_same : wide_cuts (fill_of w) (12 + length (spell_all js)) (drop (length js) (pieces_of w e)) ≡ wide_cuts (fill_of w) 12 (pieces_of w e)
  behind_same = behind.same

  abbrev ps : List Piece
  ps = drop (length (reserved (wave_of o).children)) (pieces_of (wave_of o) e)

  abbrev at : ℕ
  at = 12 + length (spell_all (reserved (wave_of o).children))

  abbrev last : List Cut
  last = pad_cut (8 + length (inner (wave_of o))) (wave_of o).pad v.pad

  -- where the last unit ends, and the form
  ends : (at + length (flat_map old_bytes ps)) + length w.left ≡ 8 + length (inner w)
  ends =
      let none : length (spell_all w.ds64) ≡ 0 = ap (λ (ds : List Chunk). length (spell_all ds)) (no_ds64 o bytes sup narrow) in
      let children : length (spell_all w.children) ≡ length (spell_all js) + length (flat_map old_bytes ps) = ap length (sym old_is ∙ behind.old) ∙ length-append (spell_all js) (flat_map old_bytes ps) in
      omega (arith, none, children, length-append (spell_all w.ds64) (spell_all w.children ++ w.left), length-append (spell_all w.children) w.left)

  last_from : From (at + length (flat_map old_bytes ps)) last
  last_from = From-low _ (8 + length (inner w)) last (omega (arith, ends)) (pad_from (8 + length (inner w)) w.pad v.pad)

  -- The file that widens is the old one with its spans replaced.
  pub widened_spliced : splice (spell_wave w) (widened_cuts js w e) ≡ spell_wave v
  widened_spliced =
      let rest = w.left ++ (w.pad ++ w.tail) in
      let tail : splice_from (at + length (flat_map old_bytes ps)) rest last ≡ w.left ++ (v.pad ++ w.tail)
      = splice_past (at + length (flat_map old_bytes ps)) w.left (w.pad ++ w.tail) last (rw ends (pad_from (8 + length (inner w)) w.pad v.pad))
      ∙ rw ends (ap (λ (x : List ℕ). w.left ++ x) (pad_spliced (8 + length (inner w)) w.pad v.pad w.tail)) in
      let cs = wide_cuts (fill_of w) at ps ++ last in
      let units_laid : splice_from at (flat_map old_bytes ps ++ rest) cs ≡ spell_all v.children ++ (w.left ++ (v.pad ++ w.tail))
      = wide_splices (ends_file w) at ps rest last behind.fine last_from
      ∙ ap (λ (x : List ℕ). spell_all (map widened_data (lay (fill_of w) ps)) ++ x) tail ∙ ap (λ (xs : List Chunk). spell_all (map widened_data xs) ++ (w.left ++ (v.pad ++ w.tail))) (sym behind.new) in
      let k = length (inner w) in
      let y = flat_map old_bytes ps ++ rest in
      let whole : spell_wave w ≡ (w.id ++ field_of w.form k) ++ (codes "WAVE" ++ (spell_all js ++ y))
      = spelled w (old_form o bytes sup) ∙ ap (λ (ds : List Chunk). w.id ++ (field_of w.form k ++ ((codes "WAVE" ++ (spell_all ds ++ (spell_all w.children ++ w.left))) ++ (w.pad ++ w.tail)))) (no_ds64 o bytes sup narrow)
      ∙ ap (λ (x : List ℕ). w.id ++ (field_of w.form k ++ ((codes "WAVE" ++ (x ++ w.left)) ++ (w.pad ++ w.tail)))) (sym old_is ∙ behind.old)
      ∙ regroup w.id (field_of w.form k) (spell_all js) (flat_map old_bytes ps) w.left (w.pad ++ w.tail) in
      let eight : length (w.id ++ field_of w.form k) ≡ 8 = omega (arith, kind_len (take 4 o) sup.form_id, field_len w.form k, length-append w.id (field_of w.form k)) in
      ap (λ (x : List ℕ). splice x (widened_cuts js w e)) whole
      ∙ heads (w.id ++ field_of w.form k) (spell_all js) y (spell_all v.ds64) cs eight
      ∙ ap (λ (x : List ℕ). (codes "RF64" ++ ones) ++ (codes "WAVE" ++ (spell_all v.ds64 ++ x))) units_laid
      ∙ together (spell_all v.ds64) (spell_all v.children) w.left v.pad w.tail
    where
      regroup : (i g j b l r : List ℕ) → i ++ (g ++ ((codes "WAVE" ++ ((j ++ b) ++ l)) ++ r)) ≡ (i ++ g) ++ (codes "WAVE" ++ (j ++ (b ++ (l ++ r))))
      regroup i g j b l r = simp append_assoc

      -- the spans at 0 and at 12
      heads : (h j y d : List ℕ) (cs : List Cut) → length h ≡ 8
          → splice (h ++ (codes "WAVE" ++ (j ++ y))) (record { at = 0; len = 8; bytes = codes "RF64" ++ ones } ∷ (record { at = 12; len = length j; bytes = d } ∷ cs)) ≡ (codes "RF64" ++ ones) ++ (codes "WAVE" ++ (d ++ splice_from (12 + length j) y cs))
      heads h j y d cs l =
          let first : drop 8 (h ++ (codes "WAVE" ++ (j ++ y))) ≡ codes "WAVE" ++ (j ++ y) = drop_at h (codes "WAVE" ++ (j ++ y)) 8 l in
          let off : (12 + length j) - 8 ≡ 4 + length j = omega arith in
          let word : length (codes "WAVE" ++ j) ≡ 4 + length j = length-append (codes "WAVE") j in
          let second : drop ((12 + length j) - 8) (codes "WAVE" ++ (j ++ y)) ≡ y = ap (λ (k : ℕ). drop k (codes "WAVE" ++ (j ++ y))) off ∙ drop_at (codes "WAVE" ++ j) y (4 + length j) word in
          ap (λ (x : List ℕ). (codes "RF64" ++ ones) ++ splice_from 8 x (record { at = 12; len = length j; bytes = d } ∷ cs)) first
          ∙ ap (λ (x : List ℕ). (codes "RF64" ++ ones) ++ (codes "WAVE" ++ (d ++ splice_from (12 + length j) x cs))) second

      together : (d c l p t : List ℕ) → (codes "RF64" ++ ones) ++ (codes "WAVE" ++ (d ++ (c ++ (l ++ (p ++ t))))) ≡ ((codes "RF64" ++ ones) ++ ((codes "WAVE" ++ (d ++ (c ++ l))) ++ p)) ++ t
      together d c l p t = simp append_assoc

  -- The spans of the header, of ds64 and of the units ascend with those behind the form.
  pub heads_ascend : (more : List Cut) → Ascend (8 + length (inner w)) more (length o)
      → Ascend 0 (record { at = 0; len = 8; bytes = codes "RF64" ++ ones } ∷ (record { at = 12; len = length (spell_all js); bytes = spell_all v.ds64 } ∷ (wide_cuts (fill_of w) at ps ++ more))) (length o)
  heads_ascend more h = (omega arith, (omega arith, wide_ascends (ends_file w) at ps more (length o) behind.fine (low more h)))
    where
      low : (cs : List Cut) → Ascend (8 + length (inner w)) cs (length o) → Ascend (at + length (flat_map old_bytes ps)) cs (length o)
      low [] g = omega (arith, ends, g)
      low (c ∷ cs) g = (omega (arith, ends, g.0), g.1)

  -- These spans ascend, are disjoint and lie in the old file.
  pub widened_ascend : Ascend 0 (widened_cuts js w e) (length o)
  widened_ascend =
      let k = length (inner w) in
      let size : length o ≡ 8 + (k + (length w.pad + length w.tail))
      = ap length (spelled_is o bytes sup ∙ spelled w (old_form o bytes sup))
      ∙ omega (arith, kind_len (take 4 o) sup.form_id, field_len w.form k, length-append w.id (field_of w.form k ++ (inner w ++ (w.pad ++ w.tail))), length-append (field_of w.form k) (inner w ++ (w.pad ++ w.tail)), length-append (inner w) (w.pad ++ w.tail), length-append w.pad w.tail) in
      heads_ascend last (pad_ascends (8 + k) (8 + k) (length o) w.pad v.pad (omega arith) (omega (arith, size)))
