-- One step over the chunks of a form, with the sizes that stand in a table.
use Rattle.std.proofs.Common.{◌≡◌, ◌∙◌, ℕ, ◌+◌, ◌-◌, ◌≤◌, Bool, true, false, eqb, ltb, List, [], ◌∷◌, ◌++◌, length, map, take, drop, refl, sym, ap, arith, length-append, length-take, length-drop}
use Rattle.std.specs.Prelude.{Option, Some, None, if◌then◌else◌, codes, ◌==◌}
use Rattle.std.specs.Str.{bytes_eq}
use Rattle.std.specs.Int.{w32, to_le_bytes}
use Rattle.std.specs.declared.result.Result.TheVariants.{Ok, Err}
use Rattle.std.proofs.lemmas.Bool.{eqb-true}
use Rattle.part_tree.specs.Letters.{four}
use Rattle.part_tree.specs.declared.names.FourCc.{FourCc}
use Rattle.part_tree.specs.declared.why.Why.TheVariants.{RowMissing as NoRow, Truncated}
use Rattle.container_model.specs.Chunk.{Form, riff, wide, Chunk, header_bytes, full_header, no_header, too_short, Header, Run, Stop, chunks, read, stopped, ends, bad_header, passes, and_then, pad_len}
use Rattle.container_model.specs.Sizes.{Row, Sizes, plain, table, sized, riff_front}
use Rattle.container_model.specs.Windows.{window}
use Rattle.container_model.proofs.Steps.{chunks_few, riff_eats}
use Rattle.riff_form.specs.declared.Head.{Head}
use Rattle.riff_form.specs.declared.ChunkAt.{ChunkAt}
use Rattle.riff_form.specs.Walk.{FrontIs, IsRiff, Passed, Cut, InOrder, chunk_in}
use Rattle.rf64_ds64.specs.declared.Ds64.{Ds64}
use Rattle.rf64_ds64.specs.declared.RowMissing.{RowMissing}
use Rattle.rf64_ds64.specs.Ds64.{nth_size, row_of, true_size}
use Rattle.wave_model.specs.Wave.{form_kind}
use Rattle.wave_model.specs.Why.{Seen, last_why}
use Rattle.wave_file.specs.declared.sizing.Sizing.{Sizing}
use Rattle.wave_file.specs.declared.sizing.Size.{Size}
use Rattle.wave_file.specs.declared.sizing.Found.{Found}
use Rattle.wave_file.specs.Sized.{taken, all_taken, sizes_in, state_of, state_next, TellsSize, run_at, times, IsStuck}
use Rattle.wave_file.proofs.Rows.{rows_after, table_after, plain_after, nth_after, all_more, sized_own, sized_main, sized_row, sized_none}

-- ---- the sizes that headers tell

pub pass_state : (ids new : List FourCc) (id : FourCc) (t : Bool) (s : Sizes) → t ≡ true → new ≡ ids ++ id ∷ [] → all_taken new s ≡ state_next t id.0 (all_taken ids s)
pass_state ids new id true s h is = ap (λ (x : List FourCc). all_taken x s) is ∙ all_more ids id s
pass_state ids new id false s h is = absurd cc

pub plain_state : (z : Sizing) → z.ds64 ≡ None → state_of z ≡ plain
plain_state z e = ap (λ (d : Option Ds64). all_taken z.wides.items (sizes_in d)) e ∙ plain_after z.wides.items

pub tells_field : (z : Sizing) (id : FourCc) (field n : ℕ) → z.ds64 ≡ None → n ≡ field → (after : List ℕ) → sized (state_of z) id.0 field after ≡ full_header riff id.0 n after (state_of z)
tells_field z id field n e is after = sized_own (state_of z) id.0 field after (λ _. plain_state z e) ∙ ap (λ (k : ℕ). full_header riff id.0 k after (state_of z)) (sym is)

-- the table of ds64
module _ (z : Sizing) (ds : Ds64) (id : FourCc) (field nth : ℕ) (is : z.ds64 ≡ Some ds) (number : nth ≡ times id.0 z.wides.items) where
  abbrev ids : List FourCc
  ids = z.wides.items

  abbrev rows : List Row
  rows = map row_of ds.rows

  abbrev left : Sizes
  left = table ds.data_size (rows_after ids rows)

  state : state_of z ≡ left
  state = ap (λ (d : Option Ds64). all_taken ids (sizes_in d)) is ∙ table_after ids ds.data_size rows

  row_left : bytes_eq id.0 (codes "data") ≡ false → nth_size id.0 0 (rows_after ids rows) ≡ nth_size id.0 nth rows
  row_left other = nth_after ids id.0 0 rows other ∙ ap (λ (k : ℕ). nth_size id.0 k rows) (omega (arith, number))

  pub tells_size : (size : ℕ) → true_size ds id field nth ≡ Some size
      → (after : List ℕ) → sized (state_of z) id.0 field after ≡ full_header (form_kind (field == 4294967295)) id.0 size after (state_next (field == 4294967295) id.0 (state_of z))
  tells_size size h after = rw state (go (eqb field 4294967295) refl (bytes_eq id.0 (codes "data")) refl h)
    where
      go : (t : Bool) → eqb field 4294967295 ≡ t → (u : Bool) → bytes_eq id.0 (codes "data") ≡ u
          → (if t then (if u then Some ds.data_size else nth_size id.0 nth rows) else Some field) ≡ Some size
          → sized left id.0 field after ≡ full_header (form_kind t) id.0 size after (state_next t id.0 left)
      go false e u f i =
          let same : field ≡ size = cc in
          sized_own left id.0 field after (λ k. absurd (let yes : eqb field 4294967295 ≡ true = rw k refl in cc)) ∙ ap (λ (k : ℕ). full_header riff id.0 k after left) same
      go true e true f i =
          let same : ds.data_size ≡ size = cc in
          ap (λ (k : ℕ). sized left id.0 k after) (eqb-true field 4294967295 e) ∙ sized_main ds.data_size (rows_after ids rows) id.0 after f ∙ ap (λ (k : ℕ). full_header wide id.0 k after (taken id.0 left)) same
      go true e false f i =
          ap (λ (k : ℕ). sized left id.0 k after) (eqb-true field 4294967295 e) ∙ sized_row ds.data_size size (rows_after ids rows) id.0 after f (row_left f ∙ i)

  pub tells_none : true_size ds id field nth ≡ None → (after : List ℕ) → sized (state_of z) id.0 field after ≡ no_header
  tells_none h after = rw state (go (eqb field 4294967295) refl (bytes_eq id.0 (codes "data")) refl h)
    where
      go : (t : Bool) → eqb field 4294967295 ≡ t → (u : Bool) → bytes_eq id.0 (codes "data") ≡ u
          → (if t then (if u then Some ds.data_size else nth_size id.0 nth rows) else Some field) ≡ None
          → sized left id.0 field after ≡ no_header
      go false e u f i = absurd cc
      go true e true f i = absurd cc
      go true e false f i = ap (λ (k : ℕ). sized left id.0 k after) (eqb-true field 4294967295 e) ∙ sized_none ds.data_size (rows_after ids rows) id.0 after f (row_left f ∙ i)

-- ---- one step

chunks_wrong : (s : Sizes) (w : List ℕ) → riff_front s w ≡ no_header → chunks riff_front s w ≡ stopped bad_header w
unfolding chunks read
chunks_wrong s w e = rw e refl

pub none_left : (b : List ℕ) (at end : ℕ) (s : Sizes) → FrontIs (window b at end) None → run_at s b at end ≡ stopped ends (window b at end)
none_left b at end s front = chunks_few riff_front riff_eats s (window b at end) (front s)

front_id : (w id x : List ℕ) (n : ℕ) → riff_front plain w ≡ full_header riff id n x plain → take 4 w ≡ id
front_id w id x n e = go (ltb (length w) 8) e
  where
    go : (t : Bool) → Rattle.container_model.specs.Sizes.riff_ahead plain w t ≡ full_header riff id n x plain → take 4 w ≡ id
    go true i = absurd cc
    go false i = cc

stuck_is : (run : Run) (stop : Stop) (over : List ℕ) (at : ℕ) (w : Rattle.part_tree.specs.declared.why.Why.Why) → run ≡ stopped stop over → ((seen : Seen) → last_why stop over at seen ≡ Some w) → IsStuck run at w
stuck_is run stop over at w e told = record {
  none = ap (λ (r : Run). r.chunks) e;
  told = λ seen. ap (λ (r : Run). last_why r.stop r.left at seen) e ∙ told seen;
}

pub stuck_row : (b : List ℕ) (at end : ℕ) (z : Sizing) (h : Head) (fault : RowMissing) → FrontIs (window b at end) (Some h) → TellsSize z h.id h.field (Err fault)
    → IsStuck (run_at (state_of z) b at end) at (NoRow fault.id)
stuck_row b at end z h fault front tells =
    let w = window b at end in
    let letters : take 4 w ≡ h.id.0 = front_id w h.id.0 (drop 8 w) h.field (front plain) in
    stuck_is (run_at (state_of z) b at end) bad_header w at (NoRow fault.id) (chunks_wrong (state_of z) w (front (state_of z) ∙ tells.0 (drop 8 w)))
    (λ seen. ap (λ (x : List ℕ). Some (NoRow (four x))) letters ∙ ap (λ (x : FourCc). Some (NoRow x)) (sym tells.1))

pub stuck_cut : (b : List ℕ) (at end : ℕ) (z : Sizing) (h : Head) (size : Size) (p : ℕ) → FrontIs (window b at end) (Some h) → TellsSize z h.id h.field (Ok size) → Cut b at end size.len → p ≡ at
    → IsStuck (run_at (state_of z) b at end) at (Truncated p)
stuck_cut b at end z h size p front tells cut place =
    let w = window b at end in
    let header = front (state_of z) ∙ tells (drop 8 w) in
    stuck_is (run_at (state_of z) b at end) passes w at (Truncated p) (cut (state_of z) (state_next size.wide h.id.0 (state_of z)) (form_kind size.wide) h.id.0 header)
    (λ seen. ap (λ (x : ℕ). Some (Truncated x)) (sym place))

of_riff : (t : Bool) → IsRiff (form_kind t)
of_riff true n = refl
of_riff false n = refl

header_len : (t : Bool) (id : List ℕ) (n : ℕ) → length id ≡ 4 → length (header_bytes (form_kind t) id n) ≡ 8
header_len true id n h = omega (arith, h, length-append id (255 ∷ 255 ∷ 255 ∷ 255 ∷ []))
header_len false id n h = omega (arith, h, length-append id (to_le_bytes w32 n))

found_record : ChunkAt → Bool → Found
found_record k t = record { chunk = k; wide = t }

pub found_at : (b : List ℕ) (at end : ℕ) (z new : Sizing) (h : Head) (size : Size) (k : ChunkAt) → end ≤ length b → FrontIs (window b at end) (Some h) → TellsSize z h.id h.field (Ok size)
    → state_of new ≡ state_next size.wide h.id.0 (state_of z) → k.id ≡ h.id → k.body.len ≡ size.len → InOrder at end k → Passed b at end k
    → (run_at (state_of z) b at end ≡ and_then (chunk_in b (form_kind size.wide) k) (run_at (state_of new) b k.next end))
    × (at + length (Rattle.container_model.specs.Chunk.spell (chunk_in b (form_kind size.wide) k)) ≡ k.next)
found_at b at end z new h size k inside front tells state id len order passed =
    let w = window b at end in
    let next = state_next size.wide h.id.0 (state_of z) in
    let header : riff_front (state_of z) w ≡ full_header (form_kind size.wide) k.id.0 k.body.len (drop 8 w) next =
    front (state_of z) ∙ tells (drop 8 w) ∙ ap (λ (i : FourCc). full_header (form_kind size.wide) i.0 size.len (drop 8 w) next) (sym id) ∙ ap (λ (n : ℕ). full_header (form_kind size.wide) k.id.0 n (drop 8 w) next) (sym len)
    in
    let c = chunk_in b (form_kind size.wide) k in
    let one = length-append (header_bytes c.form c.id (length c.body)) (c.body ++ c.pad) in
    let two = header_len size.wide c.id (length c.body) order.letters in
    let three = length-append c.body c.pad in
    let four = length-take k.body.len (drop k.body.at b) in
    let five = length-take (k.next - (k.body.at + k.body.len)) (drop (k.body.at + k.body.len) b) in
    let six = length-drop k.body.at b in
    let seven = length-drop (k.body.at + k.body.len) b in (
      passed (state_of z) next (form_kind size.wide) (of_riff size.wide) header ∙ ap (λ (s : Sizes). and_then c (run_at s b k.next end)) (sym state),
      omega (arith, one, two, three, four, five, six, seven, order.begins, order.body, order.whole, order.last, inside),
    )
