-- Forms that stand one behind the other.
use Rattle.std.proofs.Common.{◌≡◌, ◌∙◌, ℕ, ◌+◌, ◌-◌, ◌%◌, ◌<◌, ◌≤◌, min, Bool, true, false, List, [], ◌∷◌, ◌++◌, length, map, take, drop, refl, sym, ap, inl, inr, arith, append_assoc, length-append, length-drop, length-take}
use Rattle.std.specs.Prelude.{codes, if◌then◌else◌, ◌&&◌, ◌||◌, not}
use Rattle.std.specs.Int.{w32, to_le_bytes}
use Rattle.std.specs.List.{flat_map}
use Rattle.std.proofs.lemmas.List.{append-nil, drop-drop, drop_all, take_all}
use Rattle.std.proofs.lemmas.Bool.{cases_lt}
use Rattle.part_tree.specs.declared.names.Span.{Span}
use Rattle.part_tree.specs.declared.part.Part.{Part}
use Rattle.part_tree.specs.Parts.{rest_parts}
use Rattle.container_model.specs.Chunk.{Form, riff, header_bytes, Chunk, Run, Stop, Header, full_header, too_short, and_then, stopped, passes, behind, spell, spell_all, chunks}
use Rattle.container_model.specs.Stood.{Stood, stood, bare, only, first_of}
use Rattle.container_model.specs.Written.{slice}
use Rattle.container_model.specs.Sizes.{plain, riff_front}
use Rattle.container_model.proofs.Windows.{take_least}
use Rattle.carrier_model.specs.Info.{is_type, list_run}
use Rattle.riff_form.specs.declared.ChunkAt.{ChunkAt}
use Rattle.riff_form.specs.Walk.{InOrder, chunk_in}
use Rattle.avi_model.specs.Avi.{avi_by, avi_front, avi_of, body_span, first_body, form_run, forms, kids, strls}
use Rattle.avi_model.specs.Map.{kid_parts, list_rest, further_role, further_parts, form_parts, top_parts}
use Rattle.avi_model.specs.Reading.{Step, form_at, end_at, name_steps, further_steps, form_steps_by, top_steps_by}
use Rattle.avi_model.specs.Support.{begins}
use Rattle.avi_model.proofs.Turns.{form_ahead, form_cut}
use Rattle.avi_file.specs.Walk.{both, run_told, top_streams, inside_told, behind_type, streams_in}
use Rattle.avi_file.specs.Forms.{forms_from, further_told, others_told, first_told, file_told}
use Rattle.container_model.proofs.Written.{length-slice}
use Rattle.avi_file.proofs.Left.{of_three}
use Rattle.avi_file.proofs.Opened.{span_of}

-- ---- one form

drop_least : (p : ℕ) (b : List ℕ) → drop p b ≡ drop (min (length b) p) b
drop_least p b = elim (cases_lt (length b) p) [
  | inl lt ↦ let same : min (length b) p ≡ length b = omega arith in drop_all p b (omega arith) ∙ sym (ap (λ (n : ℕ). drop n b) same ∙ drop_all (length b) b (omega arith))
  | inr le ↦ let same : min (length b) p ≡ p = omega arith in ap (λ (n : ℕ). drop n b) (sym same)
]

take_room : (p q : ℕ) (x : List ℕ) → q ≡ min p (length x) → take p x ≡ take q x
take_room p q x same = ap (take p) (sym (take_all (length x) x (omega arith))) ∙ take_least p (length x) x ∙ ap (λ (n : ℕ). take n x) (sym same)

abbrev chunk_from : Form → List ℕ → List ℕ → List ℕ → Chunk
chunk_from form id body pad = record { form = form; id = id; body = body; pad = pad }

pub form_step : (s : Bool) (b id : List ℕ) (at n next : ℕ) → at + 8 + n ≤ length b → next ≡ min (length b) (at + 8 + n + n % 2) → avi_front s (drop at b) ≡ full_header riff id n (drop 8 (drop at b)) false
    → forms_from s b at ≡ and_then (chunk_from riff id (slice b (at + 8) n) (slice b (at + 8 + n) (next - (at + 8 + n)))) (forms_from false b next)
form_step s b id at n next inside is e =
    let first : drop 8 (drop at b) ≡ drop (at + 8) b = drop-drop 8 at b in
    let second : drop n (drop 8 (drop at b)) ≡ drop (at + 8 + n) b = ap (drop n) first ∙ drop-drop n (at + 8) b in
    let third : behind riff n (drop 8 (drop at b)) ≡ drop next b =
    ap (drop (n % 2)) second ∙ drop-drop (n % 2) (at + 8 + n) b ∙ drop_least (at + 8 + n + n % 2) b ∙ ap (λ (k : ℕ). drop k b) (sym is)
    in
    let room : next - (at + 8 + n) ≡ min (n % 2) (length (drop (at + 8 + n) b)) = omega (arith, length-drop (at + 8 + n) b, is) in
    let pad : take (n % 2) (drop n (drop 8 (drop at b))) ≡ slice b (at + 8 + n) (next - (at + 8 + n)) = ap (take (n % 2)) second ∙ take_room (n % 2) (next - (at + 8 + n)) (drop (at + 8 + n) b) room in
    form_ahead s false (drop at b) riff id n (drop 8 (drop at b)) e (omega (arith, ap length first, length-drop (at + 8) b))
    ∙ ap (λ (x : List ℕ). and_then (chunk_from riff id (take n x) (take (n % 2) (drop n (drop 8 (drop at b))))) (chunks avi_front false (behind riff n (drop 8 (drop at b))))) first
    ∙ ap (λ (x : List ℕ). and_then (chunk_from riff id (slice b (at + 8) n) x) (chunks avi_front false (behind riff n (drop 8 (drop at b))))) pad
    ∙ ap (λ (x : List ℕ). and_then (chunk_from riff id (slice b (at + 8) n) (slice b (at + 8 + n) (next - (at + 8 + n)))) (chunks avi_front false x)) third

pub form_spelled : (b : List ℕ) (at end : ℕ) (k : ChunkAt) → end ≡ length b → InOrder at end k → at + length (spell (chunk_in b riff k)) ≡ k.next
form_spelled b at end k same order =
    let c = chunk_in b riff k in
    let one = length-append (header_bytes riff c.id (length c.body)) (c.body ++ c.pad) in
    let two = length-append c.id (to_le_bytes w32 (length c.body)) in
    let three = length-append c.body c.pad in
    let four = length-take k.body.len (drop k.body.at b) in
    let five = length-take (k.next - (k.body.at + k.body.len)) (drop (k.body.at + k.body.len) b) in
    let six = length-drop k.body.at b in
    let seven = length-drop (k.body.at + k.body.len) b in
    omega (arith, one, two, three, four, five, six, seven, order.letters, order.body, order.whole, order.last, same)

pub form_passes : (s : Bool) (b id : List ℕ) (at n : ℕ) → length b < at + 8 + n → at + 8 ≤ length b → avi_front s (drop at b) ≡ full_header riff id n (drop 8 (drop at b)) false → forms_from s b at ≡ stopped passes (drop at b)
form_passes s b id at n lt room e = form_cut s false (drop at b) riff id n (drop 8 (drop at b)) e (omega (arith, ap length (drop-drop 8 at b), length-drop (at + 8) b))

-- ---- the kind

is_short : (b : List ℕ) (t : Bool) → avi_by b t ≡ too_short → t ≡ false
is_short b true e = absurd cc
is_short b false e = refl

is_long : (b : List ℕ) (t : Bool) → (avi_by b t ≡ too_short → ⊥) → t ≡ true
is_long b true e = refl
is_long b false e = absurd (e refl)

pub not_begun : (b : List ℕ) → avi_front true b ≡ too_short → begins b ≡ false
not_begun b e = is_short b (begins b) e

pub begun : (b : List ℕ) → (avi_front true b ≡ too_short → ⊥) → begins b ≡ true
begun b e = is_long b (begins b) e

pub full_long : {n : ℕ} {id after : List ℕ} (h : Header Bool) → h ≡ full_header riff id n after false → h ≡ too_short → ⊥
full_long h e f = absurd cc

-- ---- further forms

four_apart : {X : Type 0} (a b c d : List X) → (a ++ (b ++ c)) ++ d ≡ (a ++ b) ++ (c ++ d)
four_apart a b c d = ap (λ x. x ++ d) (sym (append_assoc a b c)) ∙ append_assoc (a ++ b) c d

pub further_next : (at to : ℕ) (c : Chunk) (r : Run) → at + length (spell c) ≡ to → others_told at (c ∷ r.chunks) ≡ both (further_told at c) (others_told to r.chunks)
further_next at to c r place =
    ap (λ (p : ℕ). of_three (further_steps (record { at = at; chunk = bare c }) ++ flat_map further_steps (stood p r.chunks)) (kid_parts further_role at c ++ (list_rest at c ++ further_parts p r.chunks)) []) place
    ∙ ap (λ (ps : List Part). of_three (further_steps (record { at = at; chunk = bare c }) ++ flat_map further_steps (stood to r.chunks)) ps []) (sym (append_assoc (kid_parts further_role at c) (list_rest at c) (further_parts to r.chunks)))

-- the bodies of forms, so far and from here on
pub body_is : (b : List ℕ) (at : ℕ) (k : ChunkAt) → k.body.at ≡ at + 8 → k.body.at + k.body.len ≤ length b → k.body ≡ body_span (record { at = at; chunk = bare (chunk_in b riff k) })
body_is b at k place inside = ap (λ (p : ℕ). span_of p k.body.len) place ∙ ap (span_of (at + 8)) (sym (length-slice b k.body.at k.body.len inside))

pub spans_next : (ss : List Span) (s : Span) (at to : ℕ) (c : Chunk) (rest r : Run) → rest ≡ and_then c r → at + length (spell c) ≡ to → s ≡ body_span (record { at = at; chunk = bare c })
    → (ss ++ s ∷ []) ++ map body_span (stood to r.chunks) ≡ ss ++ map body_span (stood at rest.chunks)
spans_next ss s at to c rest r step place same =
    append_assoc ss (s ∷ []) (map body_span (stood to r.chunks))
    ∙ ap (λ (t : Span). ss ++ (t ∷ map body_span (stood to r.chunks))) same
    ∙ ap (λ (p : ℕ). ss ++ (body_span (record { at = at; chunk = bare c }) ∷ map body_span (stood p r.chunks))) (sym place)
    ∙ ap (λ (x : Run). ss ++ map body_span (stood at x.chunks)) (sym step)

pub spans_last : (ss : List Span) (rest : Run) (at : ℕ) (stop : Stop) (left : List ℕ) → rest ≡ stopped stop left → ss ≡ ss ++ map body_span (stood at rest.chunks)
spans_last ss rest at stop left step = sym (append-nil ss) ∙ ap (λ (x : Run). ss ++ map body_span (stood at x.chunks)) (sym step)

-- ---- the streams' lists

streams_top : (seen : Bool) (at : ℕ) (cs : List Chunk) → top_streams seen at cs ≡ (if seen then [] else streams_in (flat_map kids (first_of (only (is_type (codes "hdrl")) (stood at cs)))))
streams_top true at [] = refl
streams_top false at [] = refl
streams_top seen at (c ∷ cs) = go seen (is_type (codes "hdrl") c) (is_type (codes "INFO") c) (λ (t : Bool). streams_top t (at + length (spell c)) cs)
  where
    go : (s h i : Bool) → ((t : Bool) → top_streams t (at + length (spell c)) cs ≡ (if t then [] else streams_in (flat_map kids (first_of (only (is_type (codes "hdrl")) (stood (at + length (spell c)) cs))))))
        → (inside_told (not s && h) i at c).streams ++ top_streams (s || h) (at + length (spell c)) cs
        ≡ (if s then [] else streams_in (flat_map kids (first_of (if h then record { at = at; chunk = bare c } ∷ only (is_type (codes "hdrl")) (stood (at + length (spell c)) cs) else only (is_type (codes "hdrl")) (stood (at + length (spell c)) cs)))))
    go true h true later = later true
    go true h false later = later true
    go false true i later =
        ap (λ (ss : List Span). (streams_in (stood (at + 12) (list_run c).chunks) ++ []) ++ ss) (later true)
        ∙ append-nil (streams_in (stood (at + 12) (list_run c).chunks) ++ [])
        ∙ append-nil (streams_in (stood (at + 12) (list_run c).chunks))
        ∙ ap streams_in (sym (append-nil (stood (at + 12) (list_run c).chunks)))
    go false false true later = later false
    go false false false later = later false

-- ---- the whole file

pub form_is : (b : List ℕ) (c : Chunk) (r : Run) → forms b ≡ and_then c r → form_run b ≡ list_run c
form_is b c r is = ap (λ (x : Run). chunks riff_front plain (drop 4 (first_body x.chunks))) is

pub file_streams : (b : List ℕ) (c : Chunk) (r : Run) → forms b ≡ and_then c r → map behind_type (strls (avi_of b)) ≡ top_streams false 12 (list_run c).chunks
file_streams b c r is =
    ap (λ (x : Run). streams_in (flat_map kids (first_of (only (is_type (codes "hdrl")) (stood 12 x.chunks))))) (form_is b c r is) ∙ sym (streams_top false 12 (list_run c).chunks)

pub file_next : (b : List ℕ) (c : Chunk) (r : Run) → forms b ≡ and_then c r → file_told b ≡ both (first_told c) (run_told others_told (length (spell c)) r)
file_next b c r is =
    let n = length (spell c) in
    let x : Stood = record { at = 0; chunk = bare c } in
    let told = map behind_type (strls (avi_of b)) in
    let top = top_steps_by name_steps false (stood 12 (list_run c).chunks) ++ end_at (12 + length (spell_all (list_run c).chunks)) (list_run c).stop ∷ [] in
    let tops = top_parts false false 12 (list_run c).chunks in
    let rest = rest_parts (12 + length (spell_all (list_run c).chunks)) (list_run c).left in
    let end = n + length (spell_all r.chunks) in
    let place : length (spell c ++ spell_all r.chunks) ≡ end = length-append (spell c) (spell_all r.chunks) in
    let zero : 0 + n ≡ n = omega arith in
    ap (λ (y : Run). of_three (form_steps_by name_steps (stood 0 y.chunks) ++ end_at (length (spell_all y.chunks)) y.stop ∷ []) (form_parts y.chunks ++ rest_parts (length (spell_all y.chunks)) y.left) told) is
    ∙ ap (λ (p : ℕ). of_three (form_steps_by name_steps (stood 0 (c ∷ r.chunks)) ++ end_at p r.stop ∷ []) (form_parts (c ∷ r.chunks) ++ rest_parts p r.left) told) place
    ∙ ap (λ (q : ℕ). of_three (((form_at x ∷ top) ++ flat_map further_steps (stood q r.chunks)) ++ end_at end r.stop ∷ []) (form_parts (c ∷ r.chunks) ++ rest_parts end r.left) told) zero
    ∙ ap (λ (ss : List Step). of_three ss (form_parts (c ∷ r.chunks) ++ rest_parts end r.left) told) (append_assoc (form_at x ∷ top) (flat_map further_steps (stood n r.chunks)) (end_at end r.stop ∷ []))
    ∙ ap (λ (ps : List Part). of_three ((form_at x ∷ top) ++ (flat_map further_steps (stood n r.chunks) ++ end_at end r.stop ∷ [])) ps told) (four_apart tops rest (further_parts n r.chunks) (rest_parts end r.left))
    ∙ ap (λ (ss : List Span). of_three ((form_at x ∷ top) ++ (flat_map further_steps (stood n r.chunks) ++ end_at end r.stop ∷ [])) ((tops ++ rest) ++ (further_parts n r.chunks ++ rest_parts end r.left)) ss) (file_streams b c r is ∙ sym (append-nil (top_streams false 12 (list_run c).chunks)) ∙ sym (append-nil (top_streams false 12 (list_run c).chunks ++ [])))
