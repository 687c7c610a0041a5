-- What a planner tells of a form that becomes RF64: the reserved JUNK, and the parts.
use Rattle.std.proofs.Common.{◌≡◌, ℕ, ◌+◌, ◌%◌, ◌^◌, ◌≤◌, Bool, true, false, List, [], ◌∷◌, ◌++◌, length, map, drop, refl, sym, ap, subst, ◌∙◌, arith, inl, inr, length-append}
use Rattle.std.specs.Prelude.{◌⊎◌, codes, nat_le, take}
use Rattle.std.specs.Int.{w32, to_le_bytes}
use Rattle.std.specs.List.{flat_map, AllByRecursion}
use Rattle.std.proofs.lemmas.Bool.{cond-true, cond-false, and_parts, leb-true, ltb-false}
use Rattle.field_model.specs.Update.{RawItem}
use Rattle.container_model.specs.Chunk.{Form, wide, Chunk, spell_all, header_bytes, pad_len, Pads, PadStands}
use Rattle.container_model.proofs.Codec.{IsBytes}
use Rattle.carrier_model.specs.Info.{is_padding, list_run}
use Rattle.carrier_model.proofs.Info.{padding_no_list}
use Rattle.wave_model.specs.Wave.{is_big, Wave, wave_of}
use Rattle.wave_model.specs.Fields.{has_id, is_info}
use Rattle.wave_model.specs.New.{new_children, new_wave}
use Rattle.wave_model.specs.Edited.{Supported, parts_of, parts}
use Rattle.wave_model.specs.Widen.{is_reserved, reserved, widened_data, widened_wave}
use Rattle.wave_model.proofs.Edited.{one_chunk}
use Rattle.wave_model.proofs.New.{ListsSmall, new_pads}
use Rattle.wave_model.proofs.Seen.{data_no_info}
use Rattle.wave_model.proofs.Values.{ItemsFine}
use Rattle.wave_model.proofs.Widened.{PlainChunk, Stays, reserved_stays, new_plain}

-- a reserved JUNK comes first
pub reserved_first : (cs : List Chunk) (j : Chunk) → reserved cs ≡ j ∷ [] → (rest : List Chunk) × (cs ≡ j ∷ rest)
reserved_first [] j h = absurd cc
reserved_first (c ∷ cs) j h = go (is_reserved c) refl
  where
    go : (t : Bool) → is_reserved c ≡ t → (rest : List Chunk) × (c ∷ cs ≡ j ∷ rest)
    go true x = (cs, ap (λ (d : Chunk). d ∷ cs) (one_chunk c j (sym (cond-true (is_reserved c) (c ∷ []) [] x) ∙ h)))
    go false x = let none : [] ≡ j ∷ [] = sym (cond-false (is_reserved c) (c ∷ []) [] x) ∙ h in absurd cc

one_parts : (c : Chunk) → length (parts_of (widened_data c)) ≡ length (parts_of c)
one_parts c = go (has_id (codes "data") c) refl
  where
    bare : (d : Chunk) → is_info d ≡ false → length (parts_of d) ≡ 1
    bare d x = ap (λ (x : List Chunk). length x) (cond-false (is_info d) (d ∷ (list_run d).chunks) (d ∷ []) x)

    go : (t : Bool) → has_id (codes "data") c ≡ t → length (parts_of (widened_data c)) ≡ length (parts_of c)
    go true e =
        ap (λ (d : Chunk). length (parts_of d)) (cond-true (has_id (codes "data") c) (record c { form = wide }) c e) ∙ bare (record c { form = wide }) (data_no_info (record c { form = wide }) e)
        ∙ sym (bare c (data_no_info c e))
    go false e = ap (λ (d : Chunk). length (parts_of d)) (cond-false (has_id (codes "data") c) (record c { form = wide }) c e)

all_parts : (cs : List Chunk) → length (flat_map parts_of (map widened_data cs)) ≡ length (flat_map parts_of cs)
all_parts [] = refl
all_parts (c ∷ cs) = omega (arith, one_parts c, all_parts cs, length-append (parts_of (widened_data c)) (flat_map parts_of (map widened_data cs)), length-append (parts_of c) (flat_map parts_of cs))

-- a reserved JUNK, with its pad
pub record Reserves (j : Chunk) : Type 0 where
  pub low : 28 ≤ length j.body
  pub high : length j.body ≤ 2 ^ 24
  pub header : length (header_bytes j.form j.id (length j.body)) ≡ 8
  pub pad : length j.pad ≡ length j.body % 2

module _ (o : List ℕ) (bytes : IsBytes o) (sup : Supported o) (narrow : is_big (take 4 o) ≡ false) (e : List RawItem) (f : ItemsFine e) (small : ListsSmall (wave_of o) e) where
  abbrev w : Wave
  w = wave_of o

  abbrev js : List Chunk
  js = reserved (wave_of o).children

  abbrev cs : List Chunk
  cs = new_children (wave_of o) e

  pub reserves : (j : Chunk) → js ≡ j ∷ [] → Reserves j
  reserves j i = go (reserved_stays o bytes sup narrow e)
    where
      go : (js ≡ []) ⊎ Stays o bytes sup narrow js cs → Reserves j
      go (inl n) = let none : [] ≡ j ∷ [] = sym n ∙ i in absurd cc
      go (inr s) = subst Reserves (one_chunk s.junk j (sym s.js_is ∙ i)) all
        where
          k : Chunk
          k = s.junk

          whole_pad : PadStands s.junk.form (length s.junk.body) s.junk.pad (spell_all s.rest ++ w.left) → length s.junk.pad ≡ pad_len s.junk.form (length s.junk.body)
          whole_pad (inl l) = l
          whole_pad (inr r) = omega (arith, ltb-false (length s.junk.pad) (pad_len s.junk.form (length s.junk.body)) s.whole, r.0)

          all : Reserves s.junk
          all =
              let j = s.junk in
              let p = and_parts (is_padding j) _ s.is_junk in
              let q = and_parts (nat_le 28 (length j.body)) (nat_le (length j.body) (2 ^ 24)) p.1 in
              let first : PlainChunk j × AllByRecursion PlainChunk s.rest = subst (λ (xs : List Chunk). AllByRecursion PlainChunk xs) s.cs_is (new_plain o bytes sup narrow e f small) in
              let stands : PadStands j.form (length j.body) j.pad (spell_all s.rest ++ w.left) = (subst (λ (xs : List Chunk). Pads xs w.left) s.cs_is (new_pads o bytes sup e f small)).0 in
              record {
                low = leb-true 28 (length j.body) q.0;
                high = leb-true (length j.body) (2 ^ 24) q.1;
                header = ap (λ (g : Form). length (header_bytes g j.id (length j.body))) first.0.form_is ∙ omega (arith, first.0.id_len, length-append j.id (to_le_bytes w32 (length j.body)));
                pad = whole_pad stands ∙ ap (λ (g : Form). pad_len g (length j.body)) first.0.form_is;
              }

  -- how many parts there are: ds64 for the reserved JUNK, or one more
  pub wide_parts : parts (widened_wave js (new_wave w e)) + length js ≡ 1 + length (flat_map parts_of cs)
  wide_parts = go (reserved_stays o bytes sup narrow e)
    where
      go : (js ≡ []) ⊎ Stays o bytes sup narrow js cs → parts (widened_wave js (new_wave w e)) + length js ≡ 1 + length (flat_map parts_of cs)
      go (inl n) = omega (arith, all_parts (drop (length js) cs), ap (λ (ys : List Chunk). length (flat_map parts_of (drop (length ys) cs))) n, ap (λ (ys : List Chunk). length ys) n)
      go (inr s) =
          let p : is_padding s.junk ≡ true = (and_parts (is_padding s.junk) _ s.is_junk).0 in
          let bare : length (parts_of s.junk) ≡ 1 = ap (λ (x : List Chunk). length x) (cond-false (is_info s.junk) (s.junk ∷ (list_run s.junk).chunks) (s.junk ∷ []) (padding_no_list (codes "INFO") s.junk p)) in
          omega (
            arith,
            all_parts (drop (length js) cs),
            ap (λ (ys : List Chunk). length (flat_map parts_of (drop (length ys) cs))) s.js_is ∙ ap (λ (xs : List Chunk). length (flat_map parts_of (drop 1 xs))) s.cs_is,
            ap (λ (ys : List Chunk). length ys) s.js_is,
            ap (λ (xs : List Chunk). length (flat_map parts_of xs)) s.cs_is,
            bare,
            length-append (parts_of s.junk) (flat_map parts_of s.rest),
          )
