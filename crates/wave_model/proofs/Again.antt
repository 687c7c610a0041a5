-- A WAVE file that is spelled is read again.
use Rattle.std.proofs.Common.{◌≡◌, ℕ, ◌-◌, ◌%◌, ◌^◌, ◌<◌, Bool, true, false, eqb, List, ◌++◌, length, take, drop, refl, sym, ap, ◌∙◌, append_assoc, arith, inl, inr}
use Rattle.std.specs.Prelude.{◌&&◌}
use Rattle.std.specs.Int.{w32, to_le_bytes, from_le_bytes}
use Rattle.std.proofs.lemmas.Bool.{ne_eqb, cond-true, cond-false}
use Rattle.std.proofs.lemmas.Nat.{from_le_bytes-to_le_bytes_4}
use Rattle.std.proofs.lemmas.List.{take_at, drop_at, length-append, take_all, drop_all, append-nil}
use Rattle.container_model.specs.Chunk.{Form, riff, wide, Chunk, pad_len, spell, spell_all, header_bytes, Run, ends, chunks, Reads, PadStands}
use Rattle.container_model.specs.Sizes.{Sizes, riff_front}
use Rattle.container_model.proofs.Codec.{chunks_spelled}
use Rattle.container_model.proofs.Units.{spell_all-append}
use Rattle.carrier_model.proofs.RiffForm.{IsForm, field_of, header_is, field_len}
use Rattle.container_model.specs.Ds64.{le32, le64}
use Rattle.wave_model.specs.Wave.{is_big, is_wide, form_kind, form_size, form_body, behind_form, sizes_of, form_run, firsts, others, Wave, wave_of, inner, spell_wave}

-- A form's size stands in its own field, or in ds64.
abbrev pub FormFine : Form → List ℕ → ℕ → Type 0
FormFine riff id n = (n < 2 ^ 32) × (is_big id ≡ true → n < 2 ^ 32 - 1)
FormFine wide id n = is_big id ≡ true
FormFine _ id n = ⊥

pub is_form : (form : Form) (id : List ℕ) (n : ℕ) → FormFine form id n → IsForm form
is_form riff id n f = tt
is_form wide id n f = tt
is_form Rattle.container_model.specs.Chunk.short id n f = f
is_form Rattle.container_model.specs.Chunk.long id n f = f
is_form Rattle.container_model.specs.Chunk.to_end id n f = f

pub record Readable (w : Wave) : Type 0 where
  pub id_len : length w.id ≡ 4
  pub form_fine : FormFine w.form w.id (length (inner w))
  pub riff_size : w.form ≡ wide → le64 (drop 20 (spell_wave w)) ≡ length (inner w)
  pub state : Sizes
  pub state_is : sizes_of (spell_wave w) ≡ state
  pub reads : Reads riff_front state (w.ds64 ++ w.children) w.left
  pub ds64_first : firsts (is_big w.id) (w.ds64 ++ w.children) ≡ w.ds64
  pub ds64_behind : others (is_big w.id) (w.ds64 ++ w.children) ≡ w.children
  pub form_pad : PadStands riff (length (inner w)) w.pad w.tail

pad_taken : (n : ℕ) (pad more : List ℕ) → PadStands riff n pad more → (take (n % 2) (pad ++ more) ≡ pad) × (drop (n % 2) (pad ++ more) ≡ more)
pad_taken n pad more (inl e) = (take_at pad more (n % 2) e, drop_at pad more (n % 2) e)
pad_taken n pad more (inr h) =
    (rw (h.1, append-nil) (take_all (n % 2) pad h.0), rw (h.1, append-nil) (drop_all (n % 2) pad h.0))

pub spelled : (w : Wave) → IsForm w.form → spell_wave w ≡ w.id ++ (field_of w.form (length (inner w)) ++ (inner w ++ (w.pad ++ w.tail)))
spelled w f = ap (λ (x : List ℕ). (x ++ (inner w ++ w.pad)) ++ w.tail) (header_is w.form w.id (length (inner w)) f) ∙ regroup w.id (field_of w.form (length (inner w))) (inner w) w.pad w.tail
  where
    regroup : (x y z p t : List ℕ) → ((x ++ y) ++ (z ++ p)) ++ t ≡ x ++ (y ++ (z ++ (p ++ t)))
    regroup x y z p t = simp append_assoc

module _ (w : Wave) (f : IsForm w.form) (id_len : length w.id ≡ 4) where
  pub id_at : take 4 (spell_wave w) ≡ w.id
  id_at = ap (take 4) (spelled w f) ∙ take_at w.id (field_of w.form (length (inner w)) ++ (inner w ++ (w.pad ++ w.tail))) 4 id_len

  pub field_at : take 4 (drop 4 (spell_wave w)) ≡ field_of w.form (length (inner w))
  field_at =
      ap (take 4) (ap (drop 4) (spelled w f) ∙ drop_at w.id (field_of w.form (length (inner w)) ++ (inner w ++ (w.pad ++ w.tail))) 4 id_len)
      ∙ take_at (field_of w.form (length (inner w))) (inner w ++ (w.pad ++ w.tail)) 4 (field_len w.form (length (inner w)))

  pub body_at : drop 8 (spell_wave w) ≡ inner w ++ (w.pad ++ w.tail)
  body_at =
      let front = w.id ++ field_of w.form (length (inner w)) in
      let eight : length front ≡ 8 = omega (arith, id_len, field_len w.form (length (inner w)), length-append w.id (field_of w.form (length (inner w)))) in
      ap (drop 8) (spelled w f ∙ sym (append_assoc w.id (field_of w.form (length (inner w))) (inner w ++ (w.pad ++ w.tail)))) ∙ drop_at front (inner w ++ (w.pad ++ w.tail)) 8 eight

module _ (w : Wave) (h : Readable w) where
  pub id_is : take 4 (spell_wave w) ≡ w.id
  id_is = id_at w (is_form w.form w.id (length (inner w)) h.form_fine) h.id_len

  field_is : take 4 (drop 4 (spell_wave w)) ≡ field_of w.form (length (inner w))
  field_is = field_at w (is_form w.form w.id (length (inner w)) h.form_fine) h.id_len

  pub wide_is : form_kind (is_wide (spell_wave w)) ≡ w.form
  wide_is = ap (λ (x : List ℕ). form_kind (is_big x && eqb (le32 (drop 4 (spell_wave w))) 4294967295)) id_is ∙ ap (λ (x : List ℕ). form_kind (is_big w.id && eqb (from_le_bytes w32 x) 4294967295)) field_is ∙ go w.form h.form_fine
    where
      riffs : (t : Bool) → is_big w.id ≡ t → (length (inner w) < 2 ^ 32) × (is_big w.id ≡ true → length (inner w) < 2 ^ 32 - 1) → (t && eqb (from_le_bytes w32 (to_le_bytes w32 (length (inner w)))) 4294967295) ≡ false
      riffs true e g =
          let n = length (inner w) in
          let lt = g.1 e in
          ap (λ (k : ℕ). eqb k 4294967295) (from_le_bytes-to_le_bytes_4 n g.0) ∙ ne_eqb n 4294967295 (λ (x : n ≡ 4294967295). omega arith)
      riffs false e g = refl

      go : (form : Form) → FormFine form w.id (length (inner w)) → form_kind (is_big w.id && eqb (from_le_bytes w32 (field_of form (length (inner w)))) 4294967295) ≡ form
      go riff g = ap form_kind (riffs (is_big w.id) refl g)
      go wide g = ap (λ (t : Bool). form_kind (t && true)) g
      go Rattle.container_model.specs.Chunk.short g = absurd g
      go Rattle.container_model.specs.Chunk.long g = absurd g
      go Rattle.container_model.specs.Chunk.to_end g = absurd g

  kind_wide : (t : Bool) → form_kind t ≡ wide → t ≡ true
  kind_wide true e = refl
  kind_wide false e = absurd cc

  kind_riff : (t : Bool) → form_kind t ≡ riff → t ≡ false
  kind_riff true e = absurd cc
  kind_riff false e = refl

  pub size_is : form_size (spell_wave w) ≡ length (inner w)
  size_is = go w.form refl h.form_fine
    where
      go : (form : Form) → w.form ≡ form → FormFine form w.id (length (inner w)) → form_size (spell_wave w) ≡ length (inner w)
      go riff e g =
          cond-false (is_wide (spell_wave w)) (le64 (drop 20 (spell_wave w))) (le32 (drop 4 (spell_wave w))) (kind_riff (is_wide (spell_wave w)) (wide_is ∙ e))
          ∙ ap (from_le_bytes w32) (field_is ∙ ap (λ (x : Form). field_of x (length (inner w))) e) ∙ from_le_bytes-to_le_bytes_4 (length (inner w)) g.0
      go wide e g = cond-true (is_wide (spell_wave w)) (le64 (drop 20 (spell_wave w))) (le32 (drop 4 (spell_wave w))) (kind_wide (is_wide (spell_wave w)) (wide_is ∙ e)) ∙ h.riff_size e
      go Rattle.container_model.specs.Chunk.short e g = absurd g
      go Rattle.container_model.specs.Chunk.long e g = absurd g
      go Rattle.container_model.specs.Chunk.to_end e g = absurd g

  pub body_is : form_body (spell_wave w) ≡ inner w
  body_is = ap (λ (n : ℕ). take n (drop 8 (spell_wave w))) size_is ∙ ap (take (length (inner w))) (body_at w (is_form w.form w.id (length (inner w)) h.form_fine) h.id_len) ∙ take_at (inner w) (w.pad ++ w.tail) (length (inner w)) refl

  behind_is : behind_form (spell_wave w) ≡ w.pad ++ w.tail
  behind_is = ap (λ (n : ℕ). drop n (drop 8 (spell_wave w))) size_is ∙ ap (drop (length (inner w))) (body_at w (is_form w.form w.id (length (inner w)) h.form_fine) h.id_len) ∙ drop_at (inner w) (w.pad ++ w.tail) (length (inner w)) refl

  pad_is : take (pad_len riff (form_size (spell_wave w))) (behind_form (spell_wave w)) ≡ w.pad
  pad_is = ap (λ (n : ℕ). take (n % 2) (behind_form (spell_wave w))) size_is ∙ ap (take (length (inner w) % 2)) behind_is ∙ (pad_taken (length (inner w)) w.pad w.tail h.form_pad).0

  tail_is : drop (pad_len riff (form_size (spell_wave w))) (behind_form (spell_wave w)) ≡ w.tail
  tail_is = ap (λ (n : ℕ). drop (n % 2) (behind_form (spell_wave w))) size_is ∙ ap (drop (length (inner w) % 2)) behind_is ∙ (pad_taken (length (inner w)) w.pad w.tail h.form_pad).1

  pub run_is : form_run (spell_wave w) ≡ record { chunks = w.ds64 ++ w.children; stop = ends; left = w.left }
  run_is =
      ap (λ (s : Sizes). chunks riff_front s (drop 4 (form_body (spell_wave w)))) h.state_is ∙ ap (λ (x : List ℕ). chunks riff_front h.state (drop 4 x)) body_is
      ∙ ap (chunks riff_front h.state) (sym (append_assoc (spell_all w.ds64) (spell_all w.children) w.left) ∙ ap (λ (x : List ℕ). x ++ w.left) (sym (spell_all-append w.ds64 w.children)))
      ∙ chunks_spelled riff_front h.state (w.ds64 ++ w.children) w.left h.reads

  build : Form → List ℕ → Bool → Run → List ℕ → List ℕ → Wave
  build form id t r pad tail = record { form = form; id = id; ds64 = firsts t r.chunks; children = others t r.chunks; left = r.left; pad = pad; tail = tail }

  pub wave_again : wave_of (spell_wave w) ≡ w
  unfolding build
  wave_again =
      let b = spell_wave w in
      let run = form_run b in
      ap (λ (x : Form). build x (take 4 b) (is_big (take 4 b)) run (take (pad_len riff (form_size b)) (behind_form b)) (drop (pad_len riff (form_size b)) (behind_form b))) wide_is
      ∙ ap (λ (x : List ℕ). build w.form x (is_big x) run (take (pad_len riff (form_size b)) (behind_form b)) (drop (pad_len riff (form_size b)) (behind_form b))) id_is
      ∙ ap (λ (x : List ℕ). build w.form w.id (is_big w.id) run x (drop (pad_len riff (form_size b)) (behind_form b))) pad_is
      ∙ ap (build w.form w.id (is_big w.id) run w.pad) tail_is
      ∙ ap (λ (r : Run). build w.form w.id (is_big w.id) r w.pad w.tail) run_is
      ∙ ap (λ (x : List Chunk). record { form = w.form; id = w.id; ds64 = x; children = others (is_big w.id) (w.ds64 ++ w.children); left = w.left; pad = w.pad; tail = w.tail }) h.ds64_first
      ∙ ap (λ (x : List Chunk). record { form = w.form; id = w.id; ds64 = w.ds64; children = x; left = w.left; pad = w.pad; tail = w.tail }) h.ds64_behind
