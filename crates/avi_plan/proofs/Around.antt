-- A list of RIFF where spans in it are replaced, and the model's list with other chunks.
use Rattle.std.proofs.Common.{◌≡◌, ◌∙◌, ◌⊎◌, ℕ, zero, suc, ◌+◌, ◌%◌, ◌≤◌, ◌<◌, Bool, true, false, cond, eqb, ltb, List, [], ◌∷◌, ◌++◌, length, map, replicate, refl, sym, ap, subst, arith, inl, inr, append-nil, length-append}
use Rattle.std.specs.Prelude.{◌&&◌, ◌||◌}
use Rattle.std.specs.Int.{w32, to_le_bytes}
use Rattle.std.specs.Str.{bytes_eq}
use Rattle.std.specs.List.{flat_map, AllByRecursion}
use Rattle.std.proofs.lemmas.Bool.{and_parts, cases_lt, eq-eqb, ne_eqb, eqb-true, eqb-false, le-ltb}
use Rattle.std.proofs.lemmas.List.{length-replicate}
use Rattle.std.proofs.lemmas.List.{map-append}
use Rattle.std.proofs.lemmas.List.Concat.{flat_map-append}
use Rattle.part_tree.specs.declared.plan.Patch.{Patch}
use Rattle.part_tree.proofs.Places.{bytes_refl}
use Rattle.container_model.specs.Chunk.{Chunk, Form, riff, header_bytes, pad_len, spell}
use Rattle.container_model.specs.Splice.{Cut}
use Rattle.container_model.specs.Units.{lacks_pad, padded}
use Rattle.carrier_model.specs.RiffForm.{pad_cut}
use Rattle.carrier_model.specs.Room.{patch}
use Rattle.unit_plan.specs.Cuts.{FitsIn, IsExact, SpansAscend, cut_in, patch_of}
use Rattle.unit_plan.specs.Sized.{gained, lost}
use Rattle.unit_plan.specs.declared.cut.CutAt.{CutAt}
use Rattle.avi_model.specs.Named.{respelled}
use Rattle.avi_plan.specs.Lists.{IsSoundList, around, keeps_pad, lacks_then, len_then, pad_in, pads_of, size_at, sizes_of}
use Rattle.avi_plan.specs.declared.list.ListAt.{ListAt}

-- a list and the chunk that it is
pub record IsListOf (l : ListAt) (at : ℕ) (c : Chunk) : Type 0 where
  pub form_is : c.form ≡ riff
  pub id_len : length c.id ≡ 4
  pub at_is : l.at ≡ at
  pub size_is : l.size ≡ length c.body
  pub next_is : l.next ≡ at + length (spell c)
  pub padded : length c.pad ≤ length c.body % 2

pub spelled_long : (c : Chunk) → c.form ≡ riff → length c.id ≡ 4 → length (spell c) ≡ 8 + length c.body + length c.pad
spelled_long c form id =
    let head = header_bytes c.form c.id (length c.body) in
    let eight : length head ≡ 8 = ap (λ (f : Form). length (header_bytes f c.id (length c.body))) form ∙ omega (arith, id, length-append c.id (to_le_bytes w32 (length c.body))) in
    omega (arith, eight, length-append head (c.body ++ c.pad), length-append c.body c.pad)

-- ---- one byte of pad, or none

none_long : (x : List ℕ) → length x ≡ 0 → x ≡ []
none_long [] e = refl
none_long (y ∷ x) e = absurd cc

one_byte : (x : List ℕ) → length x ≡ 1 → bytes_eq x [] ≡ false
one_byte [] e = absurd cc
one_byte (y ∷ x) e = refl

module _ (b : List ℕ) (l : ListAt) (at : ℕ) (c : Chunk) (of : IsListOf l at c) (body : List ℕ) (n : ℕ) (long : n ≡ length body) where
  abbrev new : Chunk
  new = respelled c body

  abbrev old_odd : ℕ
  old_odd = length c.body % 2

  pad_is : pad_in l ≡ length c.pad
  pad_is = omega (arith, of.next_is, of.at_is, of.size_is, spelled_long c of.form_is of.id_len)

  ends_there : eqb l.next (l.at + 8 + l.size) ≡ eqb (length c.pad) 0
  ends_there = go (length c.pad) refl
    where
      place : l.next ≡ l.at + 8 + l.size + length c.pad
      place = omega (arith, of.next_is, of.at_is, of.size_is, spelled_long c of.form_is of.id_len)

      go : (p : ℕ) → length c.pad ≡ p → eqb l.next (l.at + 8 + l.size) ≡ eqb p 0
      go zero e = eq-eqb l.next (l.at + 8 + l.size) (omega (arith, place, e))
      go (suc p) e = ne_eqb l.next (l.at + 8 + l.size) (λ f. omega (arith, place, e, f)) ∙ sym (ne_eqb (suc p) 0 (λ f. omega (arith, f)))

  keeps_is : keeps_pad l n ≡ (eqb (length body % 2) (length c.body % 2) || (eqb (length body % 2) 0 && eqb (length c.pad) 0))
  keeps_is =
      ap (λ (k : ℕ). eqb (k % 2) (l.size % 2) || (eqb (k % 2) 0 && eqb l.next (l.at + 8 + l.size))) long
      ∙ ap (λ (k : ℕ). eqb (length body % 2) (k % 2) || (eqb (length body % 2) 0 && eqb l.next (l.at + 8 + l.size))) of.size_is
      ∙ ap (λ (t : Bool). eqb (length body % 2) (length c.body % 2) || (eqb (length body % 2) 0 && t)) ends_there

  -- the pad then
  pad_then : eqb (length body % 2) (length c.body % 2) ≡ false → new.pad ≡ replicate (length body % 2) 0
  pad_then e =
      ap (λ (t : Bool). (cond t (record c { body = body }) (padded (record c { body = body }))).pad) e
      ∙ ap (λ (f : Form). replicate (pad_len f (length body)) 0) of.form_is

  pad_same : eqb (length body % 2) (length c.body % 2) ≡ true → new.pad ≡ c.pad
  pad_same e = ap (λ (t : Bool). (cond t (record c { body = body }) (padded (record c { body = body }))).pad) e

  -- ---- the spans

  abbrev pad_span : CutAt
  pad_span = record { span = record { at = l.at + 8 + l.size; len = pad_in l }; bytes = cond (eqb (n % 2) 1) (0 ∷ []) []; keep = 0 }

  -- the same with its numbers told
  pad_told : (bytes : List ℕ) → cond (eqb (n % 2) 1) (0 ∷ []) [] ≡ bytes → cut_in b pad_span ≡ record { at = at + 8 + length c.body; len = length c.pad; bytes = bytes ++ [] }
  pad_told bytes e =
      let place : l.at + 8 + l.size ≡ at + 8 + length c.body = omega (arith, of.at_is, of.size_is) in
      ap (λ (x : List ℕ). record { at = l.at + 8 + l.size; len = pad_in l; bytes = x ++ [] }) e
      ∙ ap (λ (k : ℕ). record { at = k; len = pad_in l; bytes = bytes ++ [] }) place
      ∙ ap (λ (k : ℕ). record { at = at + 8 + length c.body; len = k; bytes = bytes ++ [] }) pad_is

  pads_are : map (cut_in b) (pads_of l n) ≡ pad_cut (at + 8 + length c.body) c.pad new.pad
  pads_are = ap (λ (t : Bool). map (cut_in b) (cond t [] (pad_span ∷ []))) keeps_is ∙ by (eqb (length body % 2) (length c.body % 2)) refl
    where
      place : ℕ
      place = at + 8 + length c.body

      odd_one : (k : ℕ) → k ≡ length body % 2 → eqb (n % 2) 1 ≡ eqb k 1
      odd_one k e = ap (λ (m : ℕ). eqb m 1) (ap (λ (m : ℕ). m % 2) long ∙ sym e)

      by : (t : Bool) → eqb (length body % 2) (length c.body % 2) ≡ t → map (cut_in b) (cond (t || (eqb (length body % 2) 0 && eqb (length c.pad) 0)) [] (pad_span ∷ [])) ≡ pad_cut place c.pad new.pad
      by true e = sym (ap (pad_cut place c.pad) (pad_same e) ∙ ap (λ (t : Bool). cond t [] (record { at = place; len = length c.pad; bytes = c.pad } ∷ [])) (bytes_refl c.pad))
      by false e = even (cases_lt 0 (length body % 2)) ∙ ap (pad_cut place c.pad) (sym (pad_then e))
        where
          differ : (length body % 2 ≡ length c.body % 2) → ⊥
          differ = eqb-false (length body % 2) (length c.body % 2) e

          even : (0 < length body % 2) ⊎ (length body % 2 ≤ 0) → map (cut_in b) (cond (eqb (length body % 2) 0 && eqb (length c.pad) 0) [] (pad_span ∷ [])) ≡ pad_cut place c.pad (replicate (length body % 2) 0)
          even (inl odd) =
              let one : length body % 2 ≡ 1 = omega (arith, odd) in
              let none : c.pad ≡ [] = none_long c.pad (omega (arith, of.padded, differ, one)) in
              ap (λ (t : Bool). map (cut_in b) (cond (t && eqb (length c.pad) 0) [] (pad_span ∷ []))) (ne_eqb (length body % 2) 0 (λ z. omega (arith, z, odd)))
              ∙ ap (λ (x : Cut). x ∷ []) (pad_told (0 ∷ []) (ap (λ (t : Bool). cond t (0 ∷ []) []) (odd_one 1 (sym one))))
              ∙ ap (λ (p : List ℕ). record { at = place; len = length p; bytes = 0 ∷ [] } ∷ []) none
              ∙ sym (ap (λ (k : ℕ). pad_cut place c.pad (replicate k 0)) one ∙ ap (λ (p : List ℕ). pad_cut place p (0 ∷ [])) none)
          even (inr le) = pads (length c.pad) refl
            where
              zero_left : length body % 2 ≡ 0
              zero_left = omega (arith, le)

              new_none : replicate {A = ℕ} (length body % 2) 0 ≡ []
              new_none = ap (λ (k : ℕ). replicate {A = ℕ} k 0) zero_left

              pads : (p : ℕ) → length c.pad ≡ p → map (cut_in b) (cond (eqb (length body % 2) 0 && eqb (length c.pad) 0) [] (pad_span ∷ [])) ≡ pad_cut place c.pad (replicate (length body % 2) 0)
              pads zero f =
                  ap (λ (t : Bool). map (cut_in b) (cond (t && eqb (length c.pad) 0) [] (pad_span ∷ []))) (eq-eqb (length body % 2) 0 zero_left)
                  ∙ ap (λ (k : ℕ). map (cut_in b) (cond (eqb k 0) [] (pad_span ∷ []))) f
                  ∙ sym (ap (pad_cut place c.pad) new_none ∙ ap (λ (x : List ℕ). pad_cut place x []) (none_long c.pad f))
              pads (suc p) f =
                  ap (λ (t : Bool). map (cut_in b) (cond (t && eqb (length c.pad) 0) [] (pad_span ∷ []))) (eq-eqb (length body % 2) 0 zero_left)
                  ∙ ap (λ (t : Bool). map (cut_in b) (cond t [] (pad_span ∷ []))) (ne_eqb (length c.pad) 0 (λ z. omega (arith, z, f)))
                  ∙ ap (λ (x : Cut). x ∷ []) (pad_told [] (ap (λ (t : Bool). cond t (0 ∷ []) []) (odd_one 0 (sym zero_left))))
                  ∙ sym (ap (pad_cut place c.pad) new_none ∙ ap (λ (t : Bool). cond t [] (record { at = place; len = length c.pad; bytes = [] } ∷ [])) (one_byte c.pad (omega (arith, f, of.padded))))

  abbrev size_needed : List Cut
  size_needed = cond (eqb (length c.body) (length new.body)) [] (record { at = at + 4; len = 4; bytes = to_le_bytes w32 (length new.body) } ∷ [])

  sizes_are : n ≡ length new.body → map (cut_in b) (sizes_of l n) ≡ cond (eqb (length c.body) (length new.body)) [] (record { at = at + 4; len = 4; bytes = to_le_bytes w32 (length new.body) } ∷ [])
  sizes_are same =
      ap (λ (k : ℕ). map (cut_in b) (cond (eqb l.size k) [] (size_at l k ∷ []))) same
      ∙ ap (λ (k : ℕ). map (cut_in b) (cond (eqb k (length new.body)) [] (size_at l (length new.body) ∷ []))) of.size_is
      ∙ go (eqb (length c.body) (length new.body))
    where
      go : (t : Bool) → map (cut_in b) (cond t [] (size_at l (length new.body) ∷ [])) ≡ cond t [] (record { at = at + 4; len = 4; bytes = to_le_bytes w32 (length new.body) } ∷ [])
      go true = refl
      go false = ap (λ (k : ℕ). record { at = k + 4; len = 4; bytes = to_le_bytes w32 (length new.body) } ∷ []) of.at_is

  pub around_is : n ≡ length (respelled c body).body → (ks : List CutAt) → map (cut_in b) (around l n ks)
      ≡ cond (eqb (length c.body) (length (respelled c body).body)) [] (record { at = at + 4; len = 4; bytes = to_le_bytes w32 (length (respelled c body).body) } ∷ []) ++ (map (cut_in b) ks ++ pad_cut (at + 8 + length c.body) c.pad (respelled c body).pad)
  around_is same ks =
      map-append (cut_in b) (sizes_of l n) (ks ++ pads_of l n)
      ∙ ap (λ (x : List Cut). x ++ map (cut_in b) (ks ++ pads_of l n)) (sizes_are same)
      ∙ ap (λ (x : List Cut). size_needed ++ x) (map-append (cut_in b) ks (pads_of l n) ∙ ap (λ (x : List Cut). map (cut_in b) ks ++ x) pads_are)

  -- ---- patches where its pad stays

  pub around_patches : n ≡ length (respelled c body).body → keeps_pad l n ≡ true → (ks : List CutAt) → flat_map patch_of (around l n ks)
      ≡ cond (eqb (length c.body) (length (respelled c body).body)) [] (patch (at + 4) (to_le_bytes w32 (length (respelled c body).body))) ++ flat_map patch_of ks
  around_patches same stays ks =
      flat_map-append patch_of (sizes_of l n) (ks ++ pads_of l n)
      ∙ ap (λ (x : List Patch). x ++ flat_map patch_of (ks ++ pads_of l n)) sizes
      ∙ ap (λ (x : List CutAt). size_patch ++ flat_map patch_of (ks ++ x)) (ap (λ (t : Bool). cond t [] (pad_span ∷ [])) stays)
      ∙ ap (λ (x : List CutAt). size_patch ++ flat_map patch_of x) (append-nil ks)
    where
      size_patch : List Patch
      size_patch = cond (eqb (length c.body) (length new.body)) [] (patch (at + 4) (to_le_bytes w32 (length new.body)))

      go : (t : Bool) → flat_map patch_of (cond t [] (size_at l (length new.body) ∷ [])) ≡ cond t [] (patch (at + 4) (to_le_bytes w32 (length new.body)))
      go true = refl
      go false = append-nil (patch (l.at + 4) (to_le_bytes w32 (length new.body))) ∙ ap (λ (k : ℕ). patch (k + 4) (to_le_bytes w32 (length new.body))) of.at_is

      sizes : flat_map patch_of (sizes_of l n) ≡ size_patch
      sizes =
          ap (λ (k : ℕ). flat_map patch_of (cond (eqb l.size k) [] (size_at l k ∷ []))) same
          ∙ ap (λ (k : ℕ). flat_map patch_of (cond (eqb k (length new.body)) [] (size_at l (length new.body) ∷ []))) of.size_is
          ∙ go (eqb (length c.body) (length new.body))

  -- ---- whether it lacks its pad then

  pub lacks_is : (respelled c body).form ≡ riff → n ≡ length (respelled c body).body → lacks_pad (respelled c body) ≡ lacks_then l n
  lacks_is form same =
      ap (λ (f : Form). ltb (length new.pad) (pad_len f (length new.body))) form ∙ ap (λ (k : ℕ). ltb (length new.pad) (k % 2)) (sym same) ∙ go (eqb (length body % 2) (length c.body % 2)) refl
      ∙ ap (λ (k : ℕ). eqb (k % 2) 1 && (eqb (n % 2) 1 && eqb (pad_in l) 0)) (sym of.size_is)
    where
      same_odd : n % 2 ≡ length body % 2
      same_odd = ap (λ (k : ℕ). k % 2) long

      both_no : (t : Bool) → (t && false) ≡ false
      both_no true = refl
      both_no false = refl

      go : (t : Bool) → eqb (length body % 2) (length c.body % 2) ≡ t → ltb (length new.pad) (n % 2) ≡ (eqb (length c.body % 2) 1 && (eqb (n % 2) 1 && eqb (pad_in l) 0))
      go true e =
          let parity = eqb-true (length body % 2) (length c.body % 2) e in
          ap (λ (p : List ℕ). ltb (length p) (n % 2)) (pad_same e) ∙ by (cases_lt 0 (n % 2)) parity
        where
          by : (0 < n % 2) ⊎ (n % 2 ≤ 0) → length body % 2 ≡ length c.body % 2 → ltb (length c.pad) (n % 2) ≡ (eqb (length c.body % 2) 1 && (eqb (n % 2) 1 && eqb (pad_in l) 0))
          by (inr le) parity =
              le-ltb (length c.pad) (n % 2) (omega (arith, le)) ∙ sym (ap (λ (t : Bool). t && (eqb (n % 2) 1 && eqb (pad_in l) 0)) (ne_eqb (length c.body % 2) 1 (λ z. omega (arith, z, le, parity, same_odd))))
          by (inl odd) parity =
              ap (λ (k : ℕ). ltb (length c.pad) k) (omega (arith, odd)) ∙ less (length c.pad)
              ∙ sym (ap (λ (t : Bool). t && (eqb (n % 2) 1 && eqb (pad_in l) 0)) (eq-eqb (length c.body % 2) 1 (omega (arith, odd, parity, same_odd))) ∙ ap (λ (t : Bool). t && eqb (pad_in l) 0) (eq-eqb (n % 2) 1 (omega (arith, odd))) ∙ ap (λ (k : ℕ). eqb k 0) pad_is)
            where
              less : (p : ℕ) → ltb p 1 ≡ eqb p 0
              less zero = refl
              less (suc p) = le-ltb (suc p) 1 (omega arith) ∙ sym (ne_eqb (suc p) 0 (λ z. omega (arith, z)))
      go false e =
          let differ = eqb-false (length body % 2) (length c.body % 2) e in
          ap (λ (p : List ℕ). ltb (length p) (n % 2)) (pad_then e) ∙ ap (λ (k : ℕ). ltb k (n % 2)) (length-replicate {A = ℕ} (length body % 2) 0) ∙ le-ltb (length body % 2) (n % 2) (omega (arith, same_odd))
          ∙ none (cases_lt 0 (n % 2)) differ
        where
          none : (0 < n % 2) ⊎ (n % 2 ≤ 0) → (length body % 2 ≡ length c.body % 2 → ⊥) → false ≡ (eqb (length c.body % 2) 1 && (eqb (n % 2) 1 && eqb (pad_in l) 0))
          none (inl odd) differ = sym (ap (λ (t : Bool). t && (eqb (n % 2) 1 && eqb (pad_in l) 0)) (ne_eqb (length c.body % 2) 1 (λ z. differ (omega (arith, z, odd, same_odd)))))
          none (inr le) differ = sym (ap (λ (t : Bool). eqb (length c.body % 2) 1 && (t && eqb (pad_in l) 0)) (ne_eqb (n % 2) 1 (λ z. omega (arith, z, le))) ∙ both_no (eqb (length c.body % 2) 1))

  -- it keeps its pad where the model leaves it
  pub keeps_where : (respelled c body).pad ≡ c.pad → keeps_pad l n ≡ true
  keeps_where same = keeps_is ∙ go (eqb (length body % 2) (length c.body % 2)) refl
    where
      go : (t : Bool) → eqb (length body % 2) (length c.body % 2) ≡ t → (t || (eqb (length body % 2) 0 && eqb (length c.pad) 0)) ≡ true
      go true e = refl
      go false e =
          let differ = eqb-false (length body % 2) (length c.body % 2) e in
          let pads : length c.pad ≡ length body % 2 = ap length (sym same ∙ pad_then e) ∙ length-replicate {A = ℕ} (length body % 2) 0 in
          let none : length body % 2 ≡ 0 = even (cases_lt 0 (length body % 2)) differ pads in
          ap (λ (t : Bool). t && eqb (length c.pad) 0) (eq-eqb (length body % 2) 0 none) ∙ eq-eqb (length c.pad) 0 (omega (arith, pads, none))
        where
          even : (0 < length body % 2) ⊎ (length body % 2 ≤ 0) → (length body % 2 ≡ length c.body % 2 → ⊥) → length c.pad ≡ length body % 2 → length body % 2 ≡ 0
          even (inl odd) differ pads = absurd (differ (omega (arith, odd, pads, of.padded)))
          even (inr le) differ pads = omega (arith, le)

  -- the length of its pad then
  pub pad_long : length (respelled c body).pad ≡ cond (keeps_pad l n) (pad_in l) (n % 2)
  pad_long = go (keeps_pad l n) refl (eqb (length body % 2) (length c.body % 2)) refl
    where
      same_odd : n % 2 ≡ length body % 2
      same_odd = ap (λ (k : ℕ). k % 2) long

      go : (t : Bool) → keeps_pad l n ≡ t → (u : Bool) → eqb (length body % 2) (length c.body % 2) ≡ u → length (respelled c body).pad ≡ cond t (pad_in l) (n % 2)
      go true k true e = ap length (pad_same e) ∙ sym pad_is
      go true k false e =
          let both : (false || (eqb (length body % 2) 0 && eqb (length c.pad) 0)) ≡ true = ap (λ (u : Bool). u || (eqb (length body % 2) 0 && eqb (length c.pad) 0)) (sym e) ∙ sym keeps_is ∙ k in
          let p = and_parts (eqb (length body % 2) 0) (eqb (length c.pad) 0) both in
          omega (arith, ap length (pad_then e), length-replicate {A = ℕ} (length body % 2) 0, eqb-true (length body % 2) 0 p.0, eqb-true (length c.pad) 0 p.1, pad_is)
      go false k true e = absurd (clash (sym k ∙ keeps_is ∙ ap (λ (u : Bool). u || (eqb (length body % 2) 0 && eqb (length c.pad) 0)) e))
        where
          clash : false ≡ true → ⊥
          clash h = absurd cc
      go false k false e = ap length (pad_then e) ∙ length-replicate {A = ℕ} (length body % 2) 0 ∙ sym same_odd

-- ---- by numbers alone

pub spans_up : (from low end : ℕ) (ks ms : List CutAt) → SpansAscend from ks low → SpansAscend low ms end → SpansAscend from (ks ++ ms) end
spans_up from low end [] ms h g = go ms g
  where
    go : (ms : List CutAt) → SpansAscend low ms end → SpansAscend from ms end
    go [] g = omega (arith, h, g)
    go (m ∷ ms) g = (omega (arith, h, g.0), g.1, g.2)
spans_up from low end (k ∷ ks) ms h g = (h.0, h.1, spans_up (k.span.at + k.span.len) low end ks ms h.2 g)

module _ (l : ListAt) (sound : IsSoundList l) (n : ℕ) where
  pads_ascend : SpansAscend (l.at + 8 + l.size) (pads_of l n) l.next
  pads_ascend = go (keeps_pad l n)
    where
      go : (t : Bool) → SpansAscend (l.at + 8 + l.size) (cond t [] (record { span = record { at = l.at + 8 + l.size; len = pad_in l }; bytes = cond (eqb (n % 2) 1) (0 ∷ []) []; keep = 0 } ∷ [])) l.next
      go true = sound.whole
      go false = (omega arith, omega arith, omega (arith, sound.whole))

  pub around_ascend : (ks : List CutAt) → SpansAscend (l.at + 12) ks (l.at + 8 + l.size) → SpansAscend (l.at + 1) (around l n ks) l.next
  around_ascend ks h = go (eqb l.size n) (spans_up (l.at + 12) (l.at + 8 + l.size) l.next ks (pads_of l n) h pads_ascend)
    where
      lower : (p q : ℕ) (ms : List CutAt) → p ≤ q → SpansAscend q ms l.next → SpansAscend p ms l.next
      lower p q [] le g = omega (arith, le, g)
      lower p q (m ∷ ms) le g = (omega (arith, le, g.0), g.1, g.2)

      go : (t : Bool) → SpansAscend (l.at + 12) (ks ++ pads_of l n) l.next → SpansAscend (l.at + 1) (cond t [] (size_at l n ∷ []) ++ (ks ++ pads_of l n)) l.next
      go true g = lower (l.at + 1) (l.at + 12) (ks ++ pads_of l n) (omega arith) g
      go false g = (omega arith, omega arith, lower (l.at + 4 + 4) (l.at + 12) (ks ++ pads_of l n) (omega arith) g)

  kept_around : keeps_pad l n ≡ true → (ks : List CutAt) → around l n ks ≡ sizes_of l n ++ ks
  kept_around stays ks =
      ap (λ (t : Bool). sizes_of l n ++ (ks ++ cond t [] (record { span = record { at = l.at + 8 + l.size; len = pad_in l }; bytes = cond (eqb (n % 2) 1) (0 ∷ []) []; keep = 0 } ∷ []))) stays
      ∙ ap (λ (x : List CutAt). sizes_of l n ++ x) (append-nil ks)

  pub around_exact : keeps_pad l n ≡ true → (ks : List CutAt) → AllByRecursion IsExact ks → AllByRecursion IsExact (around l n ks)
  around_exact stays ks h = subst (AllByRecursion IsExact) (sym (kept_around stays ks)) (go (eqb l.size n))
    where
      go : (t : Bool) → AllByRecursion IsExact (cond t [] (size_at l n ∷ []) ++ ks)
      go true = h
      go false = (refl, h)

  pub around_fits : keeps_pad l n ≡ true → (len : ℕ) (ks : List CutAt) → FitsIn len ks → FitsIn len (around l n ks)
  around_fits stays len ks h = subst (FitsIn len) (sym (kept_around stays ks)) (go (eqb l.size n))
    where
      go : (t : Bool) → FitsIn len (cond t [] (size_at l n ∷ []) ++ ks)
      go true = h
      go false = (inl refl, h)

  -- what is gained and lost with its size and its pad
  pub around_sum : (ks : List CutAt) → lost ks + n ≡ l.size + gained ks → len_then l n + lost (around l n ks) + l.at ≡ l.next + gained (around l n ks)
  around_sum ks h = omega (arith, h, sizes, pads (keeps_pad l n), sound.whole, lost-append (sizes_of l n) (ks ++ pads_of l n), lost-append ks (pads_of l n), gained-append (sizes_of l n) (ks ++ pads_of l n), gained-append ks (pads_of l n))
    where
      lost-append : (a c : List CutAt) → lost (a ++ c) ≡ lost a + lost c
      lost-append [] c = omega arith
      lost-append (k ∷ a) c = omega (arith, lost-append a c)

      gained-append : (a c : List CutAt) → gained (a ++ c) ≡ gained a + gained c
      gained-append [] c = omega arith
      gained-append (k ∷ a) c = omega (arith, gained-append a c)

      sizes : lost (sizes_of l n) ≡ gained (sizes_of l n)
      sizes = go (eqb l.size n)
        where
          go : (t : Bool) → lost (cond t [] (size_at l n ∷ [])) ≡ gained (cond t [] (size_at l n ∷ []))
          go true = refl
          go false = refl

      odd : (k : ℕ) → length (cond {A = List ℕ} (eqb (k % 2) 1) (0 ∷ []) []) ≡ k % 2
      odd k = go (eqb (k % 2) 1) refl
        where
          go : (t : Bool) → eqb (k % 2) 1 ≡ t → length (cond {A = List ℕ} t (0 ∷ []) []) ≡ k % 2
          go true e = sym (eqb-true (k % 2) 1 e)
          go false e = let no_one = eqb-false (k % 2) 1 e in small (cases_lt 0 (k % 2)) no_one
            where
              small : (0 < k % 2) ⊎ (k % 2 ≤ 0) → (k % 2 ≡ 1 → ⊥) → 0 ≡ k % 2
              small (inl lt) no_one = absurd (no_one (omega (arith, lt)))
              small (inr le) no_one = omega (arith, le)

      pads : (t : Bool) → cond t (pad_in l) (n % 2) + lost (cond t [] (record { span = record { at = l.at + 8 + l.size; len = pad_in l }; bytes = cond (eqb (n % 2) 1) (0 ∷ []) []; keep = 0 } ∷ []))
          ≡ pad_in l + gained (cond t [] (record { span = record { at = l.at + 8 + l.size; len = pad_in l }; bytes = cond (eqb (n % 2) 1) (0 ∷ []) []; keep = 0 } ∷ []))
      pads true = omega arith
      pads false = omega (arith, odd n)
