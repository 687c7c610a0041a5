-- A RIFF form that is made RF64 is read again, and supported.
use Rattle.std.proofs.Common.{◌≡◌, ℕ, zero, suc, ◌+◌, ◌-◌, ◌/◌, ◌%◌, ◌^◌, ◌<◌, ◌≤◌, Bool, true, false, cond, leb, ltb, List, [], ◌∷◌, ◌++◌, length, map, take, drop, refl, sym, ap, subst, ◌∙◌, arith, inl, inr}
use Rattle.std.specs.Prelude.{◌&&◌, ◌||◌, ◌⊎◌, codes, nat_le}
use Rattle.std.specs.Int.{w32, to_le_bytes}
use Rattle.std.specs.List.{flat_map, AllByRecursion}
use Rattle.std.proofs.lemmas.Bool.{cond-true, cond-false, and_parts, leb-true, ltb-false}
use Rattle.std.proofs.lemmas.Nat.{from_le_bytes-to_le_bytes_8}
use Rattle.std.proofs.lemmas.List.{length-append, length-replicate}
use Rattle.field_model.specs.Update.{RawItem}
use Rattle.container_model.specs.Chunk.{Form, riff, wide, short, long, to_end, Chunk, spell, spell_all, header_bytes, pad_len, Header, too_short, no_header, past_end, full_header, Head, Heads, Pads, PadStands}
use Rattle.container_model.specs.Ds64.{le32, le64, table_of}
use Rattle.container_model.specs.Sizes.{Sizes, plain, table, riff_ahead, riff_front}
use Rattle.container_model.specs.Units.{Cell, live, lacks_pad, shut}
use Rattle.container_model.proofs.Codec.{IsBytes, reads_from}
use Rattle.container_model.proofs.Fronts.{data_head}
use Rattle.container_model.proofs.Items.{same_true}
use Rattle.container_model.proofs.Plain.{rest_is}
use Rattle.container_model.proofs.Units.{AllCells, lay_all}
use Rattle.carrier_model.specs.Info.{is_padding, fill_by, riff_fill}
use Rattle.carrier_model.specs.Steps.{carried}
use Rattle.carrier_model.proofs.Cells.{Makes, cells_acted, cells_from, live_from}
use Rattle.carrier_model.specs.Cells.{Act, nothing, change, add, acted_cells}
use Rattle.carrier_model.specs.Steps.{Step}
use Rattle.carrier_model.proofs.Steps.{AllMake, live_carried, gaps_carried}
use Rattle.wave_model.specs.Wave.{is_big, sizes_of, Wave, wave_of, inner, spell_wave, cells_of}
use Rattle.wave_model.specs.Fields.{has_id}
use Rattle.wave_model.specs.Carry.{steps}
use Rattle.wave_model.specs.New.{ends_file, fill_of, new_children, new_size, sized_ds64, new_wave}
use Rattle.wave_model.specs.Edited.{formats, sounds, first_size, Supported, junk_first, first_junk}
use Rattle.wave_model.specs.Widen.{is_reserved, reserved, first_len, ds64_body, ds64_for, new_ds64, widened_data, widened_to, widened_wave}
use Rattle.wave_model.proofs.Read.{most, IsRead, neutral}
use Rattle.wave_model.proofs.Again.{FormFine, Readable, body_at, id_at, wave_again}
use Rattle.wave_model.proofs.Acts.{IsMade, all_made}
use Rattle.wave_model.proofs.Ready.{bodies_each, each_body}
use Rattle.wave_model.proofs.Values.{ItemsFine}
use Rattle.wave_model.proofs.Ds64.{IsDs64, HasDs64, at_twenty}
use Rattle.wave_model.proofs.Form.{form_fine, old_fine, old_pad, old_left, has_ds64}
use Rattle.wave_model.proofs.Cells.{no_chunks, all_cells, gaps_from}
use Rattle.wave_model.proofs.New.{ListsSmall, CarrierSmall, low_bodies, room_small, new_small, old_state, new_pads, pad_stands}
use Rattle.wave_model.proofs.Edited.{kind_len, supported_again, length_new, new_junk, first_whole, new_children_fine, same_formats, same_sounds}
use Rattle.wave_model.proofs.Seen.{Formless, view_widened}

-- ---- chunks of their own size, that no field of FFFFFFFF tells

pub record PlainChunk (c : Chunk) : Type 0 where
  pub id_len : length c.id ≡ 4
  pub form_is : c.form ≡ riff
  pub small : length c.body < 2 ^ 32 - 1

abbrev header_form : Form → Header Sizes → Form
header_form f too_short = f
header_form f no_header = f
header_form f past_end = f
header_form f (full_header form id n after next) = form

abbrev header_state : Sizes → Header Sizes → Sizes
header_state s too_short = s
header_state s no_header = s
header_state s past_end = s
header_state s (full_header form id n after next) = next

-- where no table stands, each size is its own
plain_head : (next : Sizes) (c : Chunk) → Head riff_front plain next c → (c.form ≡ riff) × (next ≡ plain)
plain_head next c h =
    let b = header_bytes c.form c.id (length c.body) ++ [] in
    go b (ltb (length b) 8) (h [])
  where
    go : (b : List ℕ) (t : Bool) → riff_ahead plain b t ≡ full_header c.form c.id (length c.body) [] next → (c.form ≡ riff) × (next ≡ plain)
    go b true e = absurd cc
    go b false e = (sym (ap (header_form c.form) e), sym (ap (header_state next) e))

plain_forms : (s : Sizes) → s ≡ plain → (cs : List Chunk) → Heads riff_front s cs → AllByRecursion (λ c. c.form ≡ riff) cs
plain_forms s i [] h = tt
plain_forms s i (c ∷ cs) h =
    let p = plain_head h.0 c (subst (λ (x : Sizes). Head riff_front x h.0 c) i h.1) in
    (p.0, plain_forms h.0 p.1 cs h.2)

all_three : (n : ℕ) (cs : List Chunk) → AllByRecursion (IsRead n) cs → AllByRecursion (λ c. c.form ≡ riff) cs → AllByRecursion (λ c. length c.body ≤ 2 ^ 32 - 5) cs → AllByRecursion PlainChunk cs
all_three n [] h g l = tt
all_three n (c ∷ cs) h g l = (record { id_len = h.0.id_len; form_is = g.0; small = omega (arith, l.0) }, all_three n cs h.1 g.1 l.1)

cells_carried : (P : Chunk → Type 0) (ss : List Step) → AllMake P ss → (xs : List Cell) → AllCells P xs → AllCells P (carried ss xs)
cells_carried P [] m xs h = h
cells_carried P (s ∷ ss) m xs h = cells_carried P ss m.1 (acted_cells (s (flat_map live xs)) xs) (cells_acted P (s (flat_map live xs)) (m.0 (flat_map live xs)) xs h)

-- what a step makes has a weaker property too
weaker_make : (P Q : Chunk → Type 0) → ((c : Chunk) → P c → Q c) → (ss : List Step) → AllMake P ss → AllMake Q ss
weaker_make P Q f [] h = tt
weaker_make P Q f (s ∷ ss) h = ((λ cs. one (s cs) (h.0 cs)), weaker_make P Q f ss h.1)
  where
    each : (cs : List Chunk) → AllByRecursion P cs → AllByRecursion Q cs
    each [] h = tt
    each (c ∷ cs) h = (f c h.0, each cs h.1)

    one : (a : Act) → Makes P a → Makes Q a
    one nothing m = tt
    one (change p g) m = λ n c. each _ (m n c)
    one (add s t c) m = f c m

-- ---- lists of which the first is dropped, and `data` widened

pub all_drop : (P : Chunk → Type 0) (k : ℕ) (cs : List Chunk) → AllByRecursion P cs → AllByRecursion P (drop k cs)
all_drop P zero cs h = h
all_drop P (suc k) [] h = tt
all_drop P (suc k) (c ∷ cs) h = all_drop P k cs h.1

pads_drop : (k : ℕ) (cs : List Chunk) (left : List ℕ) → Pads cs left → Pads (drop k cs) left
pads_drop zero cs left h = h
pads_drop (suc k) [] left h = tt
pads_drop (suc k) (c ∷ cs) left h = pads_drop k cs left h.1

heads_wide : (main : ℕ) (cs : List Chunk) → AllByRecursion PlainChunk cs → AllByRecursion (λ c. has_id (codes "data") c ≡ true → length c.body ≡ main) cs → Heads riff_front (table main []) (map widened_data cs)
heads_wide main [] p d = tt
heads_wide main (c ∷ cs) p d = go (has_id (codes "data") c) refl (heads_wide main cs p.1 d.1)
  where
    data_here : has_id (codes "data") c ≡ true → Head riff_front (table main []) (table main []) (record c { form = wide })
    data_here e =
        let id : codes "data" ≡ c.id = same_true (codes "data") c.id e in
        subst (λ (m : ℕ). Head riff_front (table m []) (table m []) (record c { form = wide })) (d.0 e)
        (subst (λ (i : List ℕ). Head riff_front (table (length c.body) []) (table (length c.body) []) (record { form = wide; id = i; body = c.body; pad = c.pad })) id (data_head c.body c.pad []))

    go : (t : Bool) → has_id (codes "data") c ≡ t → Heads riff_front (table main []) (map widened_data cs) → Heads riff_front (table main []) (cond t (record c { form = wide }) c ∷ map widened_data cs)
    go true e more = (table main [], data_here e, more)
    go false e more = (table main [], neutral c p.0.id_len p.0.form_is p.0.small (table main []), more)

pads_wide : (cs : List Chunk) (left : List ℕ) → AllByRecursion PlainChunk cs → Pads cs left → Pads (map widened_data cs) left
pads_wide [] left p h = tt
pads_wide (c ∷ cs) left p h = go (has_id (codes "data") c) (pads_wide cs left p.1 h.1)
  where
    behind : (xs : List Chunk) → xs ≡ [] → spell_all xs ++ left ≡ [] → spell_all (map widened_data xs) ++ left ≡ []
    behind xs i e = ap (λ (ys : List Chunk). spell_all (map widened_data ys) ++ left) i ∙ sym (ap (λ (ys : List Chunk). spell_all ys ++ left) i) ∙ e

    same_pad : pad_len c.form (length c.body) ≡ length c.body % 2
    same_pad = ap (λ (f : Form). pad_len f (length c.body)) p.0.form_is

    stands : PadStands c.form (length c.body) c.pad (spell_all cs ++ left) → PadStands wide (length c.body) c.pad (spell_all (map widened_data cs) ++ left)
    stands (inl l) = inl (l ∙ same_pad)
    stands (inr r) = inr (omega (arith, r.0, same_pad), behind cs (no_chunks cs left r.1) r.1)

    keeps : PadStands c.form (length c.body) c.pad (spell_all cs ++ left) → PadStands c.form (length c.body) c.pad (spell_all (map widened_data cs) ++ left)
    keeps (inl l) = inl l
    keeps (inr r) = inr (r.0, behind cs (no_chunks cs left r.1) r.1)

    go : (t : Bool) → Pads (map widened_data cs) left → Pads (cond t (record c { form = wide }) c ∷ map widened_data cs) left
    go true more = (stands h.0, more)
    go false more = (keeps h.0, more)

wide_length : (cs : List Chunk) → AllByRecursion PlainChunk cs → length (spell_all (map widened_data cs)) ≡ length (spell_all cs)
wide_length [] p = refl
wide_length (c ∷ cs) p = go (has_id (codes "data") c) (wide_length cs p.1)
  where
    n : ℕ
    n = length c.body

    old_head : length (header_bytes c.form c.id n) ≡ 8
    old_head = ap (λ (f : Form). length (header_bytes f c.id n)) p.0.form_is ∙ omega (arith, p.0.id_len, length-append c.id (to_le_bytes w32 n))

    wide_head : length (header_bytes wide c.id n) ≡ 8
    wide_head = omega (arith, p.0.id_len, length-append c.id (255 ∷ 255 ∷ 255 ∷ 255 ∷ []))

    go : (t : Bool) → length (spell_all (map widened_data cs)) ≡ length (spell_all cs) → length (spell_all (cond t (record c { form = wide }) c ∷ map widened_data cs)) ≡ length (spell_all (c ∷ cs))
    go true more =
        omega (
          arith,
          old_head,
          wide_head,
          more,
          length-append (spell (record c { form = wide })) (spell_all (map widened_data cs)),
          length-append (header_bytes wide c.id n) (c.body ++ c.pad),
          length-append (spell c) (spell_all cs),
          length-append (header_bytes c.form c.id n) (c.body ++ c.pad),
        )
    go false more = omega (arith, more, length-append (spell c) (spell_all (map widened_data cs)), length-append (spell c) (spell_all cs))

-- ---- the new ds64

pub ds64_len : (len size sound count : ℕ) → 28 ≤ len → length (ds64_body len size sound count) ≡ len
ds64_len len size sound count l = let zero_byte : ℕ = 0 in omega (arith, l, length-replicate (len - 28) zero_byte)

one_len : (bs : List (List ℕ)) → length bs ≡ 1 → AllByRecursion (λ b. length b ≡ first_len bs) bs
one_len [] l = absurd (omega arith)
one_len (b ∷ []) l = (refl, tt)
one_len (b ∷ c ∷ bs) l = absurd (omega arith)

first_small : (limit : ℕ) (bs : List (List ℕ)) → length bs ≡ 1 → AllByRecursion (λ b. length b < limit) bs → first_len bs < limit
first_small limit [] l h = absurd (omega arith)
first_small limit (b ∷ bs) l h = h.0

-- how much larger a form is with its ds64, where these are reserved
abbrev pub more_bytes : List Chunk → ℕ
more_bytes [] = 36
more_bytes (j ∷ js) = 0

module _ (o : List ℕ) (bytes : IsBytes o) (sup : Supported o) (narrow : is_big (take 4 o) ≡ false) where
  pub no_ds64 : (wave_of o).ds64 ≡ []
  no_ds64 = subst (λ (t : Bool). HasDs64 t (wave_of o).ds64) narrow (has_ds64 o bytes sup)

  no_table : sizes_of o ≡ plain
  no_table = cond-false (is_big (take 4 o)) _ plain narrow

  pub riff_small : length (inner (wave_of o)) < 2 ^ 32
  riff_small = go (wave_of o).form (form_fine o bytes sup)
    where
      go : (form : Form) → FormFine form (wave_of o).id (length (inner (wave_of o))) → length (inner (wave_of o)) < 2 ^ 32
      go riff g = g.0
      go wide g = absurd (Rattle.wave_model.proofs.Edited.apart (is_big (take 4 o)) narrow g)
      go short g = absurd g
      go long g = absurd g
      go to_end g = absurd g

  old_read : AllByRecursion (IsRead (most (sizes_of o))) (wave_of o).children
  old_read = subst (λ (ds : List Chunk). AllByRecursion (IsRead (most (sizes_of o))) (ds ++ (wave_of o).children)) no_ds64 (old_fine o bytes sup)

  small_bodies : AllByRecursion (λ c. length c.body ≤ 2 ^ 32 - 5) (wave_of o).children
  small_bodies =
      let w = wave_of o in
      low_bodies (2 ^ 32 - 5) w.children (omega (arith, riff_small, length-append (spell_all w.ds64) (spell_all w.children ++ w.left), length-append (spell_all w.children) w.left))

  -- a reserved JUNK is still first in the new form
  pub record Stays (js cs : List Chunk) : Type 0 where
    pub junk : Chunk
    pub rest : List Chunk
    pub js_is : js ≡ junk ∷ []
    pub cs_is : cs ≡ junk ∷ rest
    pub is_junk : is_reserved junk ≡ true
    pub whole : lacks_pad junk ≡ false

  pub junk_then : (c : Chunk) (cs : List Chunk) → junk_first cs ≡ c ∷ [] → (rest : List Chunk) × (cs ≡ c ∷ rest)
  junk_then c [] h = absurd cc
  junk_then c (d ∷ cs) h = go (is_padding d) refl
    where
      go : (t : Bool) → is_padding d ≡ t → (rest : List Chunk) × (d ∷ cs ≡ c ∷ rest)
      go true e = (cs, ap (λ (x : Chunk). x ∷ cs) (Rattle.wave_model.proofs.Edited.one_chunk d c (sym (cond-true (is_padding d) (d ∷ []) [] e) ∙ h)))
      go false e = let none : junk_first (d ∷ cs) ≡ [] = cond-false (is_padding d) (d ∷ []) [] e in absurd cc

  pub reserved_stays : (e : List RawItem) → (reserved (wave_of o).children ≡ []) ⊎ Stays (reserved (wave_of o).children) (new_children (wave_of o) e)
  reserved_stays e = go (wave_of o).children refl
    where
      sized_none : (form : Form) (n : ℕ) → sized_ds64 form n [] ≡ []
      sized_none wide n = refl
      sized_none riff n = refl
      sized_none short n = refl
      sized_none long n = refl
      sized_none to_end n = refl

      go : (cs : List Chunk) → (wave_of o).children ≡ cs → (reserved cs ≡ []) ⊎ Stays (reserved cs) (new_children (wave_of o) e)
      go [] i = inl refl
      go (c ∷ cs) i = by (is_reserved c) refl
        where
          by : (t : Bool) → is_reserved c ≡ t → (cond t (c ∷ []) [] ≡ []) ⊎ Stays (cond t (c ∷ []) []) (new_children (wave_of o) e)
          by false x = inl refl
          by true x =
              let w = wave_of o in
              let p : is_padding c ≡ true = (and_parts (is_padding c) _ x).0 in
              let old : first_junk w ≡ c ∷ [] = ap (λ (ds : List Chunk). junk_first (ds ++ w.children)) no_ds64 ∙ ap junk_first i ∙ cond-true (is_padding c) (c ∷ []) [] p in
              let gone : sized_ds64 w.form (new_size w e) w.ds64 ≡ [] = ap (sized_ds64 w.form (new_size w e)) no_ds64 ∙ sized_none w.form (new_size w e) in
              let new : junk_first (new_children w e) ≡ c ∷ [] = sym (ap (λ (ds : List Chunk). junk_first (ds ++ new_children w e)) gone) ∙ new_junk o bytes sup e c old in
              let r = junk_then c (new_children w e) new in
              inr (record { junk = c; rest = r.0; js_is = refl; cs_is = r.1; is_junk = x; whole = first_whole o bytes sup e c cs i p })

  -- what a view to which padding is nothing sees of the chunks of the widened form is what it sees of the plain one's
  pub view_kids : {X : Type 0} (e : List RawItem) (h : Chunk → List X) → Formless h → ((c : Chunk) → is_padding c ≡ true → h c ≡ [])
      → flat_map h (map widened_data (drop (length (reserved (wave_of o).children)) (new_children (wave_of o) e))) ≡ flat_map h (new_children (wave_of o) e)
  view_kids {X} e h g k = view_widened h g (drop (length (reserved (wave_of o).children)) (new_children (wave_of o) e)) ∙ go (reserved_stays e)
    where
      go : (reserved (wave_of o).children ≡ []) ⊎ Stays (reserved (wave_of o).children) (new_children (wave_of o) e) → flat_map h (drop (length (reserved (wave_of o).children)) (new_children (wave_of o) e)) ≡ flat_map h (new_children (wave_of o) e)
      go (inl i) = ap (λ (ys : List Chunk). flat_map h (drop (length ys) (new_children (wave_of o) e))) i
      go (inr s) =
          let p : is_padding s.junk ≡ true = (and_parts (is_padding s.junk) _ s.is_junk).0 in
          ap (λ (ys : List Chunk). flat_map h (drop (length ys) (new_children (wave_of o) e))) s.js_is ∙ ap (λ (xs : List Chunk). flat_map h (drop 1 xs)) s.cs_is
          ∙ sym (ap (flat_map h) s.cs_is ∙ ap (λ (x : List X). x ++ flat_map h s.rest) (k s.junk p))

  -- ---- all new chunks are of their own size

  module _ (e : List RawItem) (f : ItemsFine e) (small : ListsSmall (wave_of o) e) where
    pub old_plain : AllByRecursion PlainChunk (wave_of o).children
    old_plain = all_three (most (sizes_of o)) (wave_of o).children old_read (plain_forms (sizes_of o) no_table (wave_of o).children (old_state o bytes sup e f small)) small_bodies

    filled : (end last : Bool) (slot : List ℕ) (n : ℕ) → AllByRecursion PlainChunk (riff_fill end last slot n)
    filled end last slot n = go (leb (length slot) n || (end && last))
      where
        go : (t : Bool) → AllByRecursion PlainChunk (fill_by slot n t)
        go true = tt
        go false = (record { id_len = refl; form_is = refl; small = room_small slot n }, tt)

    -- the cells after the edit
    pub cells_plain : AllCells PlainChunk (carried (steps e) (cells_of (wave_of o)))
    cells_plain =
        let w = wave_of o in
        let xs = cells_of w in
        let ys = carried (steps e) xs in
        let Q : Chunk → Type 0 = λ c. PlainChunk c ⊎ IsMade c in
        let cells : AllCells Q ys = cells_carried Q (steps e) (weaker_make IsMade Q (λ c m. inr m) (steps e) (all_made e)) xs (all_cells Q w.ds64 w.children (each Q (λ c p. inl p) w.children old_plain)) in
        let lives : AllByRecursion PlainChunk (flat_map live ys) = both (flat_map live ys) (live_from Q ys cells) (rw (live_carried (steps e) xs) (new_small o bytes sup e f small)) in
        cells_from PlainChunk ys (gaps_carried PlainChunk (steps e) xs (gaps_from PlainChunk w.ds64 w.children old_plain)) lives
      where
        each : (Q : Chunk → Type 0) → ((c : Chunk) → PlainChunk c → Q c) → (cs : List Chunk) → AllByRecursion PlainChunk cs → AllByRecursion Q cs
        each Q g [] h = tt
        each Q g (c ∷ cs) h = (g c h.0, each Q g cs h.1)

        one : (c : Chunk) → PlainChunk c ⊎ IsMade c → CarrierSmall c → PlainChunk c
        one c (inl p) s = p
        one c (inr m) s = record { id_len = m.plain.id_len; form_is = m.plain.form_is; small = omega (arith, s m.carrier) }

        both : (cs : List Chunk) → AllByRecursion (λ c. PlainChunk c ⊎ IsMade c) cs → AllByRecursion CarrierSmall cs → AllByRecursion PlainChunk cs
        both [] h g = tt
        both (c ∷ cs) h g = (one c h.0 g.0, both cs h.1 g.1)

    pub new_plain : AllByRecursion PlainChunk (new_children (wave_of o) e)
    new_plain =
        let w = wave_of o in
        lay_all PlainChunk (fill_of w) (record { on_pads = λ c h. record { id_len = h.id_len; form_is = h.form_is; small = h.small }; on_fill = λ last slot k. filled (ends_file w) last slot k }) shut
        (carried (steps e) (cells_of w)) tt cells_plain

    -- ---- the form made RF64

    abbrev w : Wave
    w = wave_of o

    abbrev js : List Chunk
    js = reserved (wave_of o).children

    abbrev cs : List Chunk
    cs = new_children (wave_of o) e

    abbrev n : Wave
    n = new_wave (wave_of o) e

    abbrev v : Wave
    v = widened_wave (reserved (wave_of o).children) (new_wave (wave_of o) e)

    abbrev kids : List Chunk
    kids = drop (length (reserved (wave_of o).children)) (new_children (wave_of o) e)

    pub kids_plain : AllByRecursion PlainChunk kids
    kids_plain = all_drop PlainChunk (length js) cs new_plain

    one_sound : length (sounds cs) ≡ 1
    one_sound = ap length (same_sounds o bytes sup e f small) ∙ sup.children.one_sound

    abbrev main : ℕ
    main = first_len (sounds cs)

    main_small : main < 2 ^ 32 - 1
    main_small = first_small (2 ^ 32 - 1) (sounds cs) one_sound (each_body (has_id (codes "data")) (λ b. length b < 2 ^ 32 - 1) cs (each cs new_plain))
      where
        each : (xs : List Chunk) → AllByRecursion PlainChunk xs → AllByRecursion (λ c. has_id (codes "data") c ≡ true → length c.body < 2 ^ 32 - 1) xs
        each [] h = tt
        each (c ∷ xs) h = ((λ x. h.0.small), each xs h.1)

    data_main : AllByRecursion (λ c. has_id (codes "data") c ≡ true → length c.body ≡ main) kids
    data_main = all_drop (λ c. has_id (codes "data") c ≡ true → length c.body ≡ main) (length js) cs (bodies_each (has_id (codes "data")) (λ b. length b ≡ main) cs (one_len (sounds cs) one_sound))

    -- what its ds64 is, where these are reserved
    record NewDs64 (ys : List Chunk) (d : Chunk) (size : ℕ) : Type 0 where
      len : ℕ
      low : 28 ≤ len
      high : len ≤ 2 ^ 24
      form_is : d.form ≡ riff
      id_is : d.id ≡ codes "ds64"
      body_is : d.body ≡ ds64_for len size cs
      pad_is : length d.pad ≡ pad_len riff len
      more : length (spell_all (d ∷ [])) + length (spell_all kids) ≡ length (spell_all cs) + more_bytes ys

    spell_ds64 : (d : Chunk) (m : ℕ) → d.form ≡ riff → d.id ≡ codes "ds64" → length d.body ≡ m → length (spell_all (d ∷ [])) ≡ 8 + (m + length d.pad)
    spell_ds64 d m a b c =
        let head : length (header_bytes d.form d.id (length d.body)) ≡ 8
        = ap (λ (g : Form). length (header_bytes g d.id (length d.body))) a ∙ omega (arith, ap length b, length-append d.id (to_le_bytes w32 (length d.body))) in
        omega (arith, head, c, length-append (spell d) [], length-append (header_bytes d.form d.id (length d.body)) (d.body ++ d.pad), length-append d.body d.pad)

    new_is : (size : ℕ) → NewDs64 js (new_ds64 js size cs) size
    new_is size = go (reserved_stays e)
      where
        go : (js ≡ []) ⊎ Stays js cs → NewDs64 js (new_ds64 js size cs) size
        go (inl i) =
            let d = new_ds64 [] size cs in
            let body : length d.body ≡ 28 = ds64_len 28 size main (main / first_size (formats cs)) (omega arith) in
            let all : length (spell_all kids) ≡ length (spell_all cs) = ap (λ (ys : List Chunk). length (spell_all (drop (length ys) cs))) i in
            subst (λ (ys : List Chunk). NewDs64 ys (new_ds64 ys size cs) size) (sym i) (record {
              len = 28;
              low = omega arith;
              high = omega arith;
              form_is = refl;
              id_is = refl;
              body_is = refl;
              pad_is = refl;
              more = omega (arith, all, spell_ds64 d 28 refl refl body);
            })
        go (inr s) =
            let j = s.junk in
            let p = and_parts (is_padding j) _ s.is_junk in
            let q = and_parts (nat_le 28 (length j.body)) (nat_le (length j.body) (2 ^ 24)) p.1 in
            let low = leb-true 28 (length j.body) q.0 in
            let high = leb-true (length j.body) (2 ^ 24) q.1 in
            let d = new_ds64 (j ∷ []) size cs in
            let body : length d.body ≡ length j.body = ds64_len (length j.body) size main (main / first_size (formats cs)) low in
            let first : PlainChunk j × AllByRecursion PlainChunk s.rest = subst (λ (xs : List Chunk). AllByRecursion PlainChunk xs) s.cs_is new_plain in
            let stands : PadStands j.form (length j.body) j.pad (spell_all s.rest ++ n.left) = (subst (λ (xs : List Chunk). Pads xs w.left) s.cs_is (new_pads o bytes sup e f small)).0 in
            let pad : length j.pad ≡ pad_len riff (length j.body) = whole_pad j s.whole stands ∙ ap (λ (g : Form). pad_len g (length j.body)) first.0.form_is in
            let all : length (spell_all kids) ≡ length (spell_all s.rest) = ap (λ (ys : List Chunk). length (spell_all (drop (length ys) cs))) s.js_is ∙ ap (λ (xs : List Chunk). length (spell_all (drop 1 xs))) s.cs_is in
            let head : length (header_bytes j.form j.id (length j.body)) ≡ 8
            = ap (λ (g : Form). length (header_bytes g j.id (length j.body))) first.0.form_is ∙ omega (arith, first.0.id_len, length-append j.id (to_le_bytes w32 (length j.body))) in
            let old : length (spell_all cs) ≡ (8 + (length j.body + length j.pad)) + length (spell_all s.rest)
            = ap (λ (xs : List Chunk). length (spell_all xs)) s.cs_is
            ∙ omega (arith, head, length-append (spell j) (spell_all s.rest), length-append (header_bytes j.form j.id (length j.body)) (j.body ++ j.pad), length-append j.body j.pad) in
            subst (λ (ys : List Chunk). NewDs64 ys (new_ds64 ys size cs) size) (sym s.js_is) (record {
              len = length j.body;
              low = low;
              high = high;
              form_is = refl;
              id_is = refl;
              body_is = refl;
              pad_is = pad;
              more = omega (arith, all, old, spell_ds64 d (length j.body) refl refl body);
            })
          where
            whole_pad : (j : Chunk) → lacks_pad j ≡ false → PadStands j.form (length j.body) j.pad (spell_all s.rest ++ n.left) → length j.pad ≡ pad_len j.form (length j.body)
            whole_pad j x (inl l) = l
            whole_pad j x (inr r) = omega (arith, ltb-false (length j.pad) (pad_len j.form (length j.body)) x, r.0)

    -- ---- it is read again

    abbrev size : ℕ
    size = length (inner (widened_to (reserved (wave_of o).children) 0 (new_wave (wave_of o) e)))

    abbrev d : Chunk
    d = new_ds64 (reserved (wave_of o).children) size (new_children (wave_of o) e)

    any_len : (ys : List Chunk) (k : ℕ) → length (spell_all (new_ds64 ys k cs ∷ [])) ≡ length (spell_all (new_ds64 ys 0 cs ∷ []))
    any_len [] k = spell_ds64 (new_ds64 [] k cs) 28 refl refl (ds64_len 28 k main (main / first_size (formats cs)) (omega arith)) ∙ sym (spell_ds64 (new_ds64 [] 0 cs) 28 refl refl (ds64_len 28 0 main (main / first_size (formats cs)) (omega arith)))
    any_len (j ∷ ys) k =
        let m = length j.body in
        let zero_byte : ℕ = 0 in
        let body : (i : ℕ) → length (ds64_for m i cs) ≡ 28 + (m - 28) = λ i. omega (arith, length-replicate (m - 28) zero_byte) in
        spell_ds64 (new_ds64 (j ∷ ys) k cs) (28 + (m - 28)) refl refl (body k) ∙ sym (spell_ds64 (new_ds64 (j ∷ ys) 0 cs) (28 + (m - 28)) refl refl (body 0))

    inner_is : (k : ℕ) → length (inner (widened_to js k n)) ≡ 4 + (length (spell_all (new_ds64 js 0 cs ∷ [])) + (length (spell_all kids) + length w.left))
    inner_is k =
        let ds = spell_all (new_ds64 js k cs ∷ []) in
        let ks = spell_all (map widened_data kids) in
        omega (arith, any_len js k, wide_length kids kids_plain, length-append ds (ks ++ w.left), length-append ks w.left)

    pub size_is : length (inner v) ≡ size
    size_is = inner_is size ∙ sym (inner_is 0)

    plain_size : new_size w e ≡ 4 + (length (spell_all cs) + length w.left)
    plain_size =
        let none : length (spell_all w.ds64) ≡ 0 = ap (λ (ds : List Chunk). length (spell_all ds)) (no_ds64) in
        omega (arith, none, length-append (spell_all w.ds64) (spell_all cs ++ w.left), length-append (spell_all cs) w.left)

    parity : length (inner v) % 2 ≡ new_size w e % 2
    parity = go js (new_is size).more
      where
        go : (ys : List Chunk) → length (spell_all (d ∷ [])) + length (spell_all kids) ≡ length (spell_all cs) + more_bytes ys → length (inner v) % 2 ≡ new_size w e % 2
        go [] x = omega (arith, x, any_len js size, inner_is size, plain_size)
        go (j ∷ ys) x = omega (arith, x, any_len js size, inner_is size, plain_size)

    -- how large it is
    pub wide_size : size ≡ new_size w e + more_bytes js
    wide_size = omega (arith, (new_is size).more, any_len js size, inner_is 0, plain_size)

    wide_pad : PadStands riff (length (inner v)) v.pad v.tail
    wide_pad = go (pad_stands (length (inner w)) (new_size w e) w.pad w.tail (old_pad o bytes sup))
      where
        go : PadStands riff (new_size w e) v.pad v.tail → PadStands riff (length (inner v)) v.pad v.tail
        go (inl l) = inl (l ∙ sym parity)
        go (inr r) = inr (omega (arith, r.0, parity), r.1)

    eight : drop 8 (spell_wave v) ≡ inner v ++ (v.pad ++ v.tail)
    eight = body_at v tt refl

    body_len : length d.body ≡ (new_is size).len
    body_len = let h = new_is size in ap length h.body_is ∙ ds64_len h.len size main (main / first_size (formats cs)) h.low

    no_rows : (len k sound count : ℕ) → le32 (drop 24 (ds64_body len k sound count)) ≡ 0
    no_rows len k sound count = refl

    pub ds64_is : IsDs64 d
    ds64_is =
        let h = new_is size in
        let none : le32 (drop 24 d.body) ≡ 0 = ap (λ (b : List ℕ). le32 (drop 24 b)) h.body_is ∙ no_rows h.len size main (main / first_size (formats cs)) in
        record { form_is = h.form_is; id_is = h.id_is; long = omega (arith, body_len, h.low); small = omega (arith, body_len, h.high); holds_rows = omega (arith, body_len, h.low, none) }

    twenty : drop 20 (spell_wave v) ≡ d.body ++ Rattle.wave_model.proofs.Ds64.behind_first (spell_wave v) v eight d refl
    twenty = let i = ds64_is in at_twenty (spell_wave v) v eight d refl i.form_is (ap length i.id_is) (omega (arith, i.small))

    table_new : (len k sound count : ℕ) (more : List ℕ) → sound < 2 ^ 64 → table_of (ds64_body len k sound count ++ more) ≡ table sound []
    table_new len k sound count more l = ap (λ (m : ℕ). table m []) (from_le_bytes-to_le_bytes_8 sound l)

    table_is : sizes_of (spell_wave v) ≡ table main []
    table_is =
        let h = new_is size in
        let more = Rattle.wave_model.proofs.Ds64.behind_first (spell_wave v) v eight d refl in
        ap (λ (x : List ℕ). cond (is_big x) (table_of (drop 20 (spell_wave v))) plain) (id_at v tt refl) ∙ ap table_of (twenty ∙ ap (λ (b : List ℕ). b ++ more) h.body_is)
        ∙ table_new h.len size main (main / first_size (formats cs)) more (omega (arith, main_small))

    first_number : (len k sound count : ℕ) (more : List ℕ) → k < 2 ^ 64 → le64 (ds64_body len k sound count ++ more) ≡ k
    first_number len k sound count more l = from_le_bytes-to_le_bytes_8 k l

    file_len : length (spell_wave v) ≡ 8 + (length (inner v) + length (v.pad ++ v.tail))
    file_len = omega (arith, length-append ((codes "RF64" ++ (255 ∷ 255 ∷ 255 ∷ 255 ∷ [])) ++ (inner v ++ v.pad)) v.tail, length-append (inner v) v.pad, length-append v.pad v.tail)

    all_heads : Heads riff_front (table main []) (v.ds64 ++ v.children)
    all_heads =
        let i = ds64_is in
        (table main [], neutral d (ap length i.id_is) i.form_is (omega (arith, i.small)) (table main []), heads_wide main kids kids_plain data_main)

    all_pads : Pads (v.ds64 ++ v.children) v.left
    all_pads =
        let h = new_is size in
        let pad : length d.pad ≡ pad_len d.form (length d.body) = h.pad_is ∙ ap (pad_len riff) (sym body_len) ∙ ap (λ (g : Form). pad_len g (length d.body)) (sym h.form_is) in
        (inl pad, pads_wide kids w.left kids_plain (pads_drop (length js) cs w.left (new_pads o bytes sup e f small)))

    module _ (fits : length (spell_wave v) ≤ 2 ^ 63 - 1) where
      riff_size : le64 (drop 20 (spell_wave v)) ≡ length (inner v)
      riff_size =
          let h = new_is size in
          let more = Rattle.wave_model.proofs.Ds64.behind_first (spell_wave v) v eight d refl in
          ap le64 (twenty ∙ ap (λ (b : List ℕ). b ++ more) h.body_is) ∙ first_number h.len size main (main / first_size (formats cs)) more (omega (arith, fits, file_len, size_is)) ∙ sym size_is

      pub readable : Readable v
      readable = record {
        id_len = refl;
        form_fine = refl;
        riff_size = λ x. riff_size;
        state = table main [];
        state_is = table_is;
        reads = reads_from riff_front (table main []) (v.ds64 ++ v.children) v.left all_heads all_pads (rest_is w.left (old_left o bytes sup));
        ds64_first = refl;
        ds64_behind = refl;
        form_pad = wide_pad;
      }

      pub wide_again : wave_of (spell_wave v) ≡ v
      wide_again = wave_again v readable
