-- A walker's answers, and the chunks of the bytes that it goes over.
use Rattle.std.proofs.Common.{◌≡◌, ℕ, ◌+◌, ◌-◌, ◌%◌, ◌<◌, ◌≤◌, true, false, ltb, min, List, ◌++◌, length, take, drop, refl, sym, ap, ◌∙◌, arith, length-drop, length-append}
use Rattle.std.proofs.lemmas.List.{drop-take, length-take, take-take}
use Rattle.std.proofs.lemmas.Bool.{le-ltb, lt-ltb}
use Rattle.std.specs.Int.{w32, from_le_bytes, to_le_bytes}
use Rattle.std.specs.declared.option.Option.TheVariants.{Some, None}
use Rattle.part_tree.specs.declared.names.FourCc.{FourCc}
use Rattle.riff_form.specs.declared.Head.{Head}
use Rattle.riff_form.specs.declared.ChunkAt.{ChunkAt}
use Rattle.riff_form.specs.declared.StepFault.TheVariants as StepFault
use Rattle.container_model.specs.Chunk.{Form, riff, header_bytes, Chunk, full_header, too_short, pad_len, behind, chunks, stopped, passes, and_then}
use Rattle.container_model.specs.Sizes.{plain, Sizes, sized, riff_front}
use Rattle.container_model.specs.Written.{slice}
use Rattle.container_model.specs.Windows.{window}
use Rattle.container_model.proofs.Windows.{length-window, window-drop, window-take, take_least}
use Rattle.container_model.proofs.Steps.{chunks_ahead, chunks_cut, chunks_few, riff_eats}
use Rattle.riff_form.specs.Walk.{IsRiff, FrontIs, InOrder, Passed, Cut, Stepped, Stuck, chunk_in}

pub front_read : (b : List ℕ) (at end : ℕ) (s : Sizes) (bytes id : List ℕ) (field : ℕ) → end ≤ length b → at + 8 ≤ end → bytes ≡ slice b at 8
    → id ≡ take 4 bytes → field ≡ from_le_bytes w32 (take 4 (drop 4 bytes)) → riff_front s (window b at end) ≡ sized s id field (drop 8 (window b at end))
front_read b at end s bytes id field inside room is i f =
    let w = window b at end in
    let long : ltb (length w) 8 ≡ false = le-ltb (length w) 8 (omega (arith, length-window b at end inside)) in
    let front : take 8 w ≡ bytes = window-take b at end 8 (omega arith) ∙ sym is in
    let letters : take 4 w ≡ id = sym (take-take 4 8 w (omega arith)) ∙ ap (take 4) front ∙ sym i in
    let digits : take 4 (drop 4 w) ≡ take 4 (drop 4 bytes) = sym (take-take 4 4 (drop 4 w) (omega arith)) ∙ sym (ap (take 4) (drop-take 4 4 w)) ∙ ap (λ (x : List ℕ). take 4 (drop 4 x)) front in
    rw (long, letters, digits, ← f) refl

pub front_few : (b : List ℕ) (at end : ℕ) (s : Sizes) → end ≤ length b → end < at + 8 → riff_front s (window b at end) ≡ too_short
front_few b at end s inside few_left =
    let w = window b at end in
    let long : ltb (length w) 8 ≡ true = lt-ltb (length w) 8 (omega (arith, length-window b at end inside)) in
    rw long refl

abbrev chunk_from : Form → List ℕ → List ℕ → List ℕ → Chunk
chunk_from form id body pad = record { form = form; id = id; body = body; pad = pad }

-- the chunk at the front of a window, and the window behind it
pub pass_step : (b : List ℕ) (at end n next : ℕ) (s after : Sizes) (form : Form) (id : List ℕ) → end ≤ length b → at + 8 + n ≤ end → next ≡ min end (at + 8 + n + n % 2) → IsRiff form
    → riff_front s (window b at end) ≡ full_header form id n (drop 8 (window b at end)) after
    → chunks riff_front s (window b at end)
    ≡ and_then (chunk_from form id (slice b (at + 8) n) (slice b (at + 8 + n) (next - (at + 8 + n)))) (chunks riff_front after (window b next end))
pass_step b at end n next s after form id inside room is pads e =
    let w = window b at end in
    let p : pad_len form n ≡ n % 2 = pads n in
    let first : drop 8 w ≡ window b (at + 8) end = window-drop b at end 8 inside ∙ ap (λ (k : ℕ). window b k end) (omega arith) in
    let second : drop n (drop 8 w) ≡ window b (at + 8 + n) end = ap (drop n) first ∙ window-drop b (at + 8) end n inside ∙ ap (λ (k : ℕ). window b k end) (omega arith) in
    let third : behind form n (drop 8 w) ≡ window b next end = ap (drop (pad_len form n)) second ∙ window-drop b (at + 8 + n) end (pad_len form n) inside ∙ ap (λ (k : ℕ). window b k end) (omega (arith, is, p)) in
    let body : take n (drop 8 w) ≡ slice b (at + 8) n = ap (take n) first ∙ window-take b (at + 8) end n (omega arith) in
    let pad : take (pad_len form n) (drop n (drop 8 w)) ≡ slice b (at + 8 + n) (next - (at + 8 + n)) =
    ap (take (pad_len form n)) second ∙ take_least (pad_len form n) (end - (at + 8 + n)) (drop (at + 8 + n) b) ∙ ap (λ (k : ℕ). take k (drop (at + 8 + n) b)) (omega (arith, is, p))
    in
    chunks_ahead riff_front riff_eats s after w form id n (drop 8 w) e (omega (arith, ap length first, length-window b (at + 8) end inside))
    ∙ ap (λ (x : List ℕ). and_then (chunk_from form id x (take (pad_len form n) (drop n (drop 8 w)))) (chunks riff_front after (behind form n (drop 8 w)))) body
    ∙ ap (λ (x : List ℕ). and_then (chunk_from form id (slice b (at + 8) n) x) (chunks riff_front after (behind form n (drop 8 w)))) pad
    ∙ ap (λ (x : List ℕ). and_then (chunk_from form id (slice b (at + 8) n) (slice b (at + 8 + n) (next - (at + 8 + n)))) (chunks riff_front after x)) third

pub cut_step : (b : List ℕ) (at end n : ℕ) (s after : Sizes) (form : Form) (id : List ℕ) → end ≤ length b → end < at + 8 + n → at + 8 ≤ end
    → riff_front s (window b at end) ≡ full_header form id n (drop 8 (window b at end)) after → chunks riff_front s (window b at end) ≡ stopped passes (window b at end)
cut_step b at end n s after form id inside gt room e =
    let w = window b at end in
    chunks_cut riff_front riff_eats s after w form id n (drop 8 w) e (omega (arith, length-drop 8 w, length-window b at end inside))

-- ---- the walker's answers

pub few_stepped : (b : List ℕ) (at end : ℕ) → ((s : Sizes) → riff_front s (window b at end) ≡ too_short) → Stepped b at end None
few_stepped b at end front = chunks_few riff_front riff_eats plain (window b at end) (front plain)

pub stepped : (b : List ℕ) (at end : ℕ) (h : Head) (k : ChunkAt) → end ≤ length b → FrontIs (window b at end) (Some h) → k.id ≡ h.id → k.body.len ≡ h.field
    → InOrder at end k → k.next ≡ min end (at + 8 + k.body.len + k.body.len % 2) → Passed b at end k → Stepped b at end (Some k)
stepped b at end h k inside front id len order next passed =
    let w = window b at end in
    let e : riff_front plain w ≡ full_header riff k.id.0 k.body.len (drop 8 w) plain =
    front plain ∙ ap (λ (i : FourCc). full_header riff i.0 h.field (drop 8 w) plain) (sym id) ∙ ap (λ (n : ℕ). full_header riff k.id.0 n (drop 8 w) plain) (sym len)
    in
    let c = chunk_in b riff k in
    let one = length-append (header_bytes riff c.id (length c.body)) (c.body ++ c.pad) in
    let two = length-append c.id (to_le_bytes w32 (length c.body)) in
    let three = length-append c.body c.pad in
    let four = length-take k.body.len (drop k.body.at b) in
    let five = length-take (k.next - (k.body.at + k.body.len)) (drop (k.body.at + k.body.len) b) in
    let six = length-drop k.body.at b in
    let seven = length-drop (k.body.at + k.body.len) b in
    (passed plain plain riff (λ n. refl) e, omega (arith, one, two, three, four, five, six, seven, order.letters, order.body, order.whole, order.last, inside))

pub stuck : (b : List ℕ) (at end : ℕ) (h : Head) (size p : ℕ) → FrontIs (window b at end) (Some h) → size ≡ h.field → Cut b at end size → p ≡ at → Stuck b at end (StepFault.Truncated p)
stuck b at end h size p front is cut place =
    let w = window b at end in
    (cut plain plain riff h.id.0 (front plain ∙ ap (λ (n : ℕ). full_header riff h.id.0 n (drop 8 w) plain) (sym is)), place)
