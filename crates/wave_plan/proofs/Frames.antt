-- What stands round the chunks of a form, by where the form stands.
use Rattle.std.proofs.Common.{◌≡◌, ◌∙◌, ℕ, ◌+◌, ◌-◌, ◌%◌, ◌≤◌, min, Bool, true, false, List, [], ◌∷◌, ◌++◌, length, take, drop, sym, ap, subst, arith, length-append, length-drop, length-take, eqb}
use Rattle.std.specs.Prelude.{◌&&◌}
use Rattle.me_bytes.specs.Bytes.{IsBytes}
use Rattle.container_model.specs.Chunk.{Chunk, riff, header_bytes, pad_len, spell_all}
use Rattle.container_model.specs.Ds64.{le32}
use Rattle.wave_model.specs.Wave.{is_big, is_wide, wave_of, form_size, behind_form}
use Rattle.wave_model.specs.New.{children_at}
use Rattle.wave_model.specs.Edited.{Supported}
use Rattle.wave_model.proofs.Ds64.{HasDs64}
use Rattle.wave_model.proofs.Form.{has_ds64, inner_len}
use Rattle.wave_plan.specs.declared.frame.FormAt.{FormAt}
use Rattle.wave_plan.specs.Frame.{IsFormOf, IsFrame}

pub narrow : (b : List ℕ) → is_big (take 4 b) ≡ false → false ≡ is_wide b
narrow b e = sym (ap (λ (t : Bool). t && eqb (le32 (drop 4 b)) 4294967295) e)

-- ds64 ends at 48 or behind it
pub behind_sizes : (b : List ℕ) → IsBytes b → Supported b → is_big (take 4 b) ≡ true → 28 ≤ children_at (wave_of b)
behind_sizes b bytes sup big =
    let has : HasDs64 true (wave_of b).ds64 = subst (λ (t : Bool). HasDs64 t (wave_of b).ds64) big (has_ds64 b bytes sup) in
    let d = has.0 in
    let len : length (spell_all (wave_of b).ds64) ≡ length (spell_all (d ∷ [])) = ap (λ (ds : List Chunk). length (spell_all ds)) has.1 in
    omega (arith, len, has.2.long, length-append (header_bytes d.form d.id (length d.body) ++ (d.body ++ d.pad)) [], length-append (header_bytes d.form d.id (length d.body)) (d.body ++ d.pad), length-append d.body d.pad)

pub wide_low : (b : List ℕ) → IsBytes b → Supported b → (from : ℕ) → from ≡ children_at (wave_of b) → is_wide b ≡ true → 28 ≤ from
wide_low b bytes sup from is wide =
    let big = (Rattle.std.proofs.lemmas.Bool.and_parts (is_big (take 4 b)) (eqb (le32 (drop 4 b)) 4294967295) wide).0 in
    omega (arith, is, behind_sizes b bytes sup big)

pub long_file : (b : List ℕ) → Supported b → 12 ≤ length b
long_file b sup = omega (arith, sup.long, sup.inside)

-- the pad of the form
pub pad_len_is : (b : List ℕ) → length (wave_of b).pad ≡ min (form_size b % 2) (length b - (8 + form_size b))
pad_len_is b =
    let behind : length (behind_form b) ≡ length b - (8 + form_size b) = omega (arith, length-drop (form_size b) (drop 8 b), length-drop 8 b) in
    length-take (pad_len riff (form_size b)) (behind_form b) ∙ ap (min (form_size b % 2)) behind

pub frame_is : (b : List ℕ) (f : FormAt) (wide : Bool) (pad : ℕ) → IsBytes b → IsFormOf b f → wide ≡ is_wide b → pad ≡ min ((f.end - 8) % 2) (f.len - f.end)
    → IsFrame b (record { big = f.big; wide = wide; len = f.len; size = f.end - 8; pad = pad })
frame_is b f wide pad bytes known wide_is pad_is =
    let size : f.end - 8 ≡ form_size b = omega (arith, known.end) in
    let behind : f.len - f.end ≡ length b - (8 + form_size b) = omega (arith, known.end, known.len) in
    record {
      big = known.big;
      wide = wide_is;
      len = known.len;
      size = size ∙ sym (inner_len b bytes known.supported);
      pad = pad_is ∙ ap (λ (n : ℕ). min (n % 2) (f.len - f.end)) size ∙ ap (min (form_size b % 2)) behind ∙ sym (pad_len_is b);
    }
