-- What stands in chunks that are opened.
use Rattle.std.proofs.Common.{◌≡◌, ◌∙◌, ℕ, ◌+◌, ◌-◌, ◌≤◌, Bool, true, false, List, [], ◌∷◌, ◌++◌, length, map, refl, sym, ap, arith}
use Rattle.std.specs.Prelude.{codes, if◌then◌else◌, ◌&&◌, ◌||◌, not}
use Rattle.std.specs.List.{flat_map}
use Rattle.part_tree.specs.declared.names.Span.{Span}
use Rattle.part_tree.specs.declared.part.Part.{Part}
use Rattle.part_tree.specs.declared.part.Role.TheVariants.{Opaque}
use Rattle.container_model.specs.Chunk.{Chunk, Run, Stop, and_then, stopped, riff, spell}
use Rattle.container_model.proofs.Written.{length-slice}
use Rattle.riff_form.specs.declared.ChunkAt.{ChunkAt}
use Rattle.riff_form.specs.Walk.{chunk_in, row}
use Rattle.container_model.specs.Stood.{Stood, stood, bare, only}
use Rattle.carrier_model.specs.Info.{is_type, list_run}
use Rattle.avi_model.specs.Avi.{has_id}
use Rattle.avi_model.specs.Map.{part, kid_parts, list_rest, stream_role, stream_parts, inside_parts, top_parts, top_role}
use Rattle.avi_model.specs.Reading.{Step, part_at, name_steps, stream_steps_by, inside_steps_by, top_steps_by}
use Rattle.avi_file.specs.Walk.{Told, both, chunk_told, run_told, behind_type, stream_told, strl_told, opened_strl, inside_told, top_streams, top_told, opened_top, has_hdrl}
use Rattle.avi_file.proofs.Left.{list_is, of_three}

-- ---- lists

-- the chunks of a list that is opened
pub open_run : (told : ℕ → List Chunk → Told) (b : List ℕ) (k : ChunkAt) → 4 ≤ k.body.len → k.body.at + k.body.len ≤ length b → k.body.at ≡ k.at + 8
    → run_told told (k.body.at + 4) (row b (k.body.at + 4) (k.body.at + k.body.len)) ≡ run_told told (k.at + 12) (list_run (chunk_in b riff k))
open_run told b k long inside place =
    let start : k.body.at + 4 ≡ k.at + 12 = omega arith in
    ap (λ (r : Run). run_told told (k.body.at + 4) r) (sym (list_is b k long inside)) ∙ ap (λ (p : ℕ). run_told told p (list_run (chunk_in b riff k))) start

abbrev pub span_of : ℕ → ℕ → Span
span_of at len = record { at = at; len = len }

pub behind_is : (b : List ℕ) (k : ChunkAt) → k.body.at + k.body.len ≤ length b → k.body.at ≡ k.at + 8 → span_of (k.body.at + 4) (k.body.len - 4) ≡ behind_type (record { at = k.at; chunk = bare (chunk_in b riff k) })
behind_is b k inside place =
    let start : k.body.at + 4 ≡ k.at + 12 = omega arith in
    ap (λ (p : ℕ). span_of p (k.body.len - 4)) start ∙ ap (λ (n : ℕ). span_of (k.at + 12) (n - 4)) (sym (length-slice b k.body.at k.body.len inside))

-- ---- hdrl

strl_next : (t : Bool) (at to : ℕ) (c : Chunk) (cs : List Chunk)
    → record {
      steps = (part_at false (record { at = at; chunk = bare c }) ∷ (if t then name_steps (record { at = at; chunk = bare c }) else [])) ++ flat_map (stream_steps_by name_steps) (stood to cs);
      parts = part Opaque at c ∷ ((if t then kid_parts stream_role at c ++ list_rest at c else []) ++ stream_parts to cs);
      streams = map behind_type (if t then record { at = at; chunk = bare c } ∷ only (is_type (codes "strl")) (stood to cs) else only (is_type (codes "strl")) (stood to cs));
    }
    ≡ both (both (chunk_told false Opaque at c) (strl_told t at c)) (stream_told to cs)
strl_next true at to c cs = refl
strl_next false at to c cs = refl

pub stream_next : (at to : ℕ) (c : Chunk) (r : Run) → at + length (spell c) ≡ to → stream_told at (c ∷ r.chunks) ≡ both (opened_strl at c) (stream_told to r.chunks)
stream_next at to c r place =
    ap (λ (p : ℕ). record {
      steps = stream_steps_by name_steps (record { at = at; chunk = bare c }) ++ flat_map (stream_steps_by name_steps) (stood p r.chunks);
      parts = part Opaque at c ∷ ((if is_type (codes "strl") c then kid_parts stream_role at c ++ list_rest at c else []) ++ stream_parts p r.chunks);
      streams = map behind_type (if is_type (codes "strl") c then record { at = at; chunk = bare c } ∷ only (is_type (codes "strl")) (stood p r.chunks) else only (is_type (codes "strl")) (stood p r.chunks));
    }) place
    ∙ strl_next (is_type (codes "strl") c) at to c r.chunks

-- ---- the first form

inside_is : (h i : Bool) (at : ℕ) (c : Chunk) → (inside_steps_by name_steps h i (record { at = at; chunk = bare c }) ≡ (inside_told h i at c).steps) × (inside_parts h i at c ≡ (inside_told h i at c).parts)
inside_is true i at c = (refl, refl)
inside_is false true at c = (refl, refl)
inside_is false false at c = (refl, refl)

pub top_next : (seen indexed : Bool) (at to : ℕ) (c : Chunk) (r : Run) → at + length (spell c) ≡ to
    → top_told seen indexed at (c ∷ r.chunks) ≡ both (opened_top seen indexed at c) (top_told (seen || is_type (codes "hdrl") c) (indexed || has_id (codes "idx1") c) to r.chunks)
top_next seen indexed at to c r place =
    let h = not seen && is_type (codes "hdrl") c in
    let i = is_type (codes "INFO") c in
    let x : Stood = record { at = at; chunk = bare c } in
    let seen_then = seen || is_type (codes "hdrl") c in
    let indexed_then = indexed || has_id (codes "idx1") c in
    let is = inside_is h i at c in
    ap (λ (p : ℕ). of_three (part_at i x ∷ (inside_steps_by name_steps h i x ++ top_steps_by name_steps seen_then (stood p r.chunks))) (part (top_role indexed c) at c ∷ (inside_parts h i at c ++ top_parts seen_then indexed_then p r.chunks)) ((inside_told h i at c).streams ++ top_streams seen_then p r.chunks)) place
    ∙ ap (λ (ss : List Step). of_three (part_at i x ∷ (ss ++ top_steps_by name_steps seen_then (stood to r.chunks))) (part (top_role indexed c) at c ∷ (inside_parts h i at c ++ top_parts seen_then indexed_then to r.chunks)) ((inside_told h i at c).streams ++ top_streams seen_then to r.chunks)) is.0
    ∙ ap (λ (ps : List Part). of_three (part_at i x ∷ ((inside_told h i at c).steps ++ top_steps_by name_steps seen_then (stood to r.chunks))) (part (top_role indexed c) at c ∷ (ps ++ top_parts seen_then indexed_then to r.chunks)) ((inside_told h i at c).streams ++ top_streams seen_then to r.chunks)) is.1

pub hdrl_next : (seen : Bool) (c : Chunk) (rest r : Run) → rest ≡ and_then c r → (seen || has_hdrl rest.chunks) ≡ ((seen || is_type (codes "hdrl") c) || has_hdrl r.chunks)
hdrl_next seen c rest r step = ap (λ (x : Run). seen || has_hdrl x.chunks) step ∙ or_assoc seen (is_type (codes "hdrl") c) (has_hdrl r.chunks)
  where
    or_assoc : (a b d : Bool) → (a || (b || d)) ≡ ((a || b) || d)
    or_assoc true b d = refl
    or_assoc false b d = refl

pub hdrl_last : (seen : Bool) (rest : Run) (stop : Stop) (left : List ℕ) → rest ≡ stopped stop left → seen ≡ (seen || has_hdrl rest.chunks)
hdrl_last seen rest stop left step = sym (ap (λ (x : Run). seen || has_hdrl x.chunks) step ∙ or_none seen)
  where
    or_none : (a : Bool) → (a || false) ≡ a
    or_none true = refl
    or_none false = refl
