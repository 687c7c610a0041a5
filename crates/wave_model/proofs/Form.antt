-- What is known of a supported file: its bytes are spelled by its parts, and its chunks are read in their turn.
use Rattle.std.proofs.Common.{◌≡◌, ℕ, ◌-◌, ◌^◌, ◌<◌, ◌≤◌, Bool, true, false, eqb, List, [], ◌∷◌, ◌++◌, length, take, drop, refl, sym, ap, subst, ◌∙◌, append_assoc, arith, inl, inr}
use Rattle.std.specs.Prelude.{◌&&◌, codes}
use Rattle.std.specs.Int.{w32, to_le_bytes, from_le_bytes}
use Rattle.std.specs.List.{AllByRecursion}
use Rattle.std.proofs.lemmas.Bool.{eqb-true, eqb-false, cond-false, and_parts, cases_lt}
use Rattle.std.proofs.lemmas.Nat.{le_bytes_4}
use Rattle.std.proofs.lemmas.List.{length-take, length-drop, take-append-drop, take-take, drop_all}
use Rattle.container_model.specs.Chunk.{riff, Chunk, pad_len, spell_all, Heads, Pads, PadStands}
use Rattle.container_model.specs.Sizes.{Sizes, plain, table, riff_front}
use Rattle.container_model.proofs.Codec.{IsBytes, IsBytes-drop, chunks_pads, chunks_joined}
use Rattle.container_model.proofs.Fronts.{IsBytes-take, riff_gives_back, eight}
use Rattle.container_model.proofs.Units.{spell_all-append}
use Rattle.carrier_model.specs.Info.{own_size}
use Rattle.container_model.specs.Ds64.{le32, le64, rows}
use Rattle.wave_model.specs.Wave.{is_big, is_wide, form_kind, form_size, form_body, behind_form, sizes_of, form_run, firsts, others, wave_of, inner, spell_wave}
use Rattle.wave_model.specs.Edited.{Ds64Fine, Supported, formats}
use Rattle.wave_model.proofs.Read.{most, OfRiff, IsRead, chunks_fine, read_heads, short_rest}
use Rattle.wave_model.proofs.Again.{FormFine, is_form, spelled}
use Rattle.carrier_model.proofs.RiffForm.{field_of, IsForm}
use Rattle.wave_model.proofs.Ds64.{IsDs64, HasDs64, first_id, first_size, first_rows, wide_size}

-- ---- the first chunk and the others

pub firsts_others : (t : Bool) (cs : List Chunk) → firsts t cs ++ others t cs ≡ cs
firsts_others true [] = refl
firsts_others true (c ∷ cs) = refl
firsts_others false cs = refl

-- ---- a supported file

low_le : (b : List ℕ) → IsBytes b → from_le_bytes w32 b < 2 ^ 32
low_le b fits = omega (arith, fits 0, fits 1, fits 2, fits 3)

module _ (o : List ℕ) (bytes : IsBytes o) (sup : Supported o) where
  body_len : length (form_body o) ≡ form_size o
  body_len = omega (arith, sup.inside, length-take (form_size o) (drop 8 o), length-drop 8 o)

  body_bytes : IsBytes (drop 4 (form_body o))
  body_bytes = IsBytes-drop 4 (form_body o) (IsBytes-take (form_size o) (drop 8 o) (IsBytes-drop 8 o bytes))

  pub run_chunks : (wave_of o).ds64 ++ (wave_of o).children ≡ (form_run o).chunks
  run_chunks = firsts_others (is_big (take 4 o)) (form_run o).chunks

  pub inner_is : inner (wave_of o) ≡ form_body o
  inner_is =
      let word : take 4 (form_body o) ≡ codes "WAVE" = take-take 4 (form_size o) (drop 8 o) sup.long ∙ sup.form_type in
      ap (λ (x : List ℕ). codes "WAVE" ++ x)
      (sym (append_assoc (spell_all (wave_of o).ds64) (spell_all (wave_of o).children) (wave_of o).left) ∙ ap (λ (x : List ℕ). x ++ (wave_of o).left) (sym (spell_all-append (wave_of o).ds64 (wave_of o).children) ∙ ap spell_all run_chunks)
      ∙ chunks_joined riff_front riff_gives_back (sizes_of o) (drop 4 (form_body o)) body_bytes)
      ∙ ap (λ (x : List ℕ). x ++ drop 4 (form_body o)) (sym word) ∙ take-append-drop 4 (form_body o)

  pub inner_len : length (inner (wave_of o)) ≡ form_size o
  inner_len = ap length inner_is ∙ body_len

  field_low : le32 (drop 4 o) < 2 ^ 32
  field_low = low_le (take 4 (drop 4 o)) (IsBytes-take 4 (drop 4 o) (IsBytes-drop 4 o bytes))

  long_file : 12 ≤ length o
  long_file = omega (arith, sup.long, sup.inside)

  field_bytes : to_le_bytes w32 (le32 (drop 4 o)) ≡ take 4 (drop 4 o)
  field_bytes = le_bytes_4 (take 4 (drop 4 o)) _ (omega (arith, long_file, length-take 4 (drop 4 o), length-drop 4 o)) (IsBytes-take 4 (drop 4 o) (IsBytes-drop 4 o bytes)) refl

  -- the header's field
  form_by : (t : Bool) → is_wide o ≡ t → (FormFine (form_kind t) (take 4 o) (form_size o)) × (take 4 (drop 4 o) ≡ field_of (form_kind t) (form_size o))
  form_by true e =
      let p = and_parts (is_big (take 4 o)) (eqb (le32 (drop 4 o)) 4294967295) e in
      (p.0, sym field_bytes ∙ ap (to_le_bytes w32) (eqb-true (le32 (drop 4 o)) 4294967295 p.1))
  form_by false e =
      let size : form_size o ≡ le32 (drop 4 o) = cond-false (is_wide o) (le64 (drop 20 o)) (le32 (drop 4 o)) e in
      ((omega (arith, size, field_low), λ b. below b size), sym field_bytes ∙ ap (to_le_bytes w32) (sym size))
    where
      apart : (n : ℕ) → n < 2 ^ 32 → (n ≡ 4294967295 → ⊥) → n < 2 ^ 32 - 1
      apart n lt unlike = elim (cases_lt n 4294967295) [ inl l ↦ omega arith | inr le ↦ absurd (unlike (omega arith)) ]

      below : is_big (take 4 o) ≡ true → form_size o ≡ le32 (drop 4 o) → form_size o < 2 ^ 32 - 1
      below b size =
          let no : eqb (le32 (drop 4 o)) 4294967295 ≡ false = sym (ap (λ (t : Bool). t && eqb (le32 (drop 4 o)) 4294967295) b) ∙ e in
          omega (arith, size, apart (le32 (drop 4 o)) field_low (eqb-false (le32 (drop 4 o)) 4294967295 no))

  pub form_fine : FormFine (wave_of o).form (wave_of o).id (length (inner (wave_of o)))
  form_fine = rw inner_len (form_by (is_wide o) refl).0

  pub old_form : IsForm (wave_of o).form
  old_form = is_form (wave_of o).form (wave_of o).id (length (inner (wave_of o))) form_fine

  pub behind_body : drop 8 o ≡ inner (wave_of o) ++ ((wave_of o).pad ++ (wave_of o).tail)
  behind_body =
      sym (take-append-drop (form_size o) (drop 8 o)) ∙ ap (λ (x : List ℕ). x ++ behind_form o) (sym inner_is)
      ∙ ap (λ (x : List ℕ). inner (wave_of o) ++ x) (sym (take-append-drop (pad_len riff (form_size o)) (behind_form o)))

  -- A supported file is spelled by its parts.
  pub spelled_is : o ≡ spell_wave (wave_of o)
  spelled_is =
      let w = wave_of o in
      let field : take 4 (drop 4 o) ≡ field_of w.form (length (inner w)) = (form_by (is_wide o) refl).1 ∙ ap (field_of w.form) (sym inner_len) in
      eight o ∙ ap (λ (x : List ℕ). take 4 o ++ (x ++ drop 8 o)) field ∙ ap (λ (x : List ℕ). take 4 o ++ (field_of w.form (length (inner w)) ++ x)) behind_body ∙ sym (spelled w old_form)

  pub old_pad : PadStands riff (length (inner (wave_of o))) (wave_of o).pad (wave_of o).tail
  old_pad =
      rw inner_len (elim (cases_lt (length (behind_form o)) (pad_len riff (form_size o))) [
        | inl lt ↦ inr (omega (arith, length-take (pad_len riff (form_size o)) (behind_form o)), drop_all (pad_len riff (form_size o)) (behind_form o) (omega arith))
        | inr le ↦ inl (omega (arith, length-take (pad_len riff (form_size o)) (behind_form o)))
      ])

  -- ---- its chunks

  pub old_heads : Heads riff_front (sizes_of o) ((wave_of o).ds64 ++ (wave_of o).children)
  old_heads = rw run_chunks (read_heads (sizes_of o) (drop 4 (form_body o)) body_bytes sup.chunks_end)

  pub old_fine : AllByRecursion (IsRead (most (sizes_of o))) ((wave_of o).ds64 ++ (wave_of o).children)
  old_fine = rw run_chunks (chunks_fine (sizes_of o) (drop 4 (form_body o)) body_bytes)

  pub old_pads : Pads ((wave_of o).ds64 ++ (wave_of o).children) (wave_of o).left
  old_pads = rw run_chunks (chunks_pads riff_front riff_gives_back (sizes_of o) (drop 4 (form_body o)) body_bytes)

  pub old_left : length (wave_of o).left < 8
  old_left = short_rest (sizes_of o) (drop 4 (form_body o)) body_bytes sup.chunks_end

  -- ---- ds64

  some_children : (wave_of o).children ≡ [] → ⊥
  some_children e = let none : length (formats (wave_of o).children) ≡ 0 = ap (λ (cs : List Chunk). length (formats cs)) e in omega (arith, none, sup.children.one_format)

  firsts_some : (cs : List Chunk) → (others true cs ≡ [] → ⊥) → (d : Chunk) × (firsts true cs ≡ d ∷ [])
  firsts_some [] n = absurd (n refl)
  firsts_some (c ∷ cs) n = (c, refl)

  ds64_is : is_big (take 4 o) ≡ true → (d : Chunk) → (wave_of o).ds64 ≡ d ∷ [] → IsRead (most (sizes_of o)) d → IsDs64 d
  ds64_is b d e r = go r.form_is
    where
      f : Ds64Fine o
      f = sup.with_ds64 b

      limit : (s : Sizes) → most s ≤ 2 ^ 32
      limit plain = omega arith
      limit (table main rows) = omega arith

      go : OfRiff d.form → IsDs64 d
      go (inl i) =
          let low : length d.body < 2 ^ 32 = omega (arith, r.small (ap own_size i), limit (sizes_of o)) in
          let size = first_size o (wave_of o) behind_body d e i r.id_len low in
          let count = first_rows o (wave_of o) behind_body d e i r.id_len low (omega (arith, size, f.long)) in
          record {
            form_is = i;
            id_is = sym (first_id o (wave_of o) behind_body d e i r.id_len low) ∙ f.ds64_id;
            long = omega (arith, size, f.long);
            small = omega (arith, size, f.small);
            holds_rows = omega (arith, size, count, f.holds_rows);
          }
      go (inr i) = absurd (omega (arith, wide_size o (wave_of o) behind_body d e i r.id_len, f.small))

  pub has_ds64 : HasDs64 (is_big (take 4 o)) (wave_of o).ds64
  has_ds64 = go (is_big (take 4 o)) refl
    where
      go : (t : Bool) → is_big (take 4 o) ≡ t → HasDs64 t (wave_of o).ds64
      go false b = ap (λ (t : Bool). firsts t (form_run o).chunks) b
      go true b =
          let s = firsts_some (form_run o).chunks (λ e. some_children (ap (λ (t : Bool). others t (form_run o).chunks) b ∙ e)) in
          let one : (wave_of o).ds64 ≡ s.0 ∷ [] = ap (λ (t : Bool). firsts t (form_run o).chunks) b ∙ s.1 in
          let fine : AllByRecursion (IsRead (most (sizes_of o))) ((s.0 ∷ []) ++ (wave_of o).children) = subst (λ (ds : List Chunk). AllByRecursion (IsRead (most (sizes_of o))) (ds ++ (wave_of o).children)) one old_fine in
          (s.0, one, ds64_is b s.0 one fine.0)
