-- One chunk more.
use Rattle.std.proofs.Common.{◌≡◌, ◌∙◌, ℕ, ◌+◌, ◌≤◌, Bool, true, false, List, [], ◌∷◌, ◌++◌, length, map, refl, sym, ap, arith, length-append}
use Rattle.std.specs.Prelude.{None, if◌then◌else◌, ◌||◌, ◌&&◌, codes, nat_lt}
use Rattle.std.specs.Str.{bytes_eq}
use Rattle.std.specs.declared.result.Result.TheVariants.{Err}
use Rattle.std.proofs.lemmas.List.{length-map}
use Rattle.part_tree.specs.Letters.{four}
use Rattle.part_tree.specs.declared.names.FourCc.{FourCc}
use Rattle.part_tree.specs.declared.names.Span.{Span}
use Rattle.part_tree.specs.declared.part.Part.{Part}
use Rattle.part_tree.specs.declared.part.Role.{Role}
use Rattle.part_tree.specs.declared.part.Role.TheVariants.{Opaque, Padding, Bext, Info, Whole, Sizes, Tables, UserData, Essence, Rest}
use Rattle.part_tree.specs.declared.field.BextField.{BextField}
use Rattle.part_tree.specs.declared.field.FieldName.TheVariants as name
use Rattle.part_tree.specs.declared.fields.Entry.{Entry}
use Rattle.part_tree.specs.declared.why.Why.TheVariants as W
use Rattle.part_tree.specs.declared.why.ReadFault.{ReadFault}
use Rattle.part_tree.specs.declared.why.ReadFault.TheVariants as Fault
use Rattle.part_tree.specs.Fields.{values}
use Rattle.container_model.specs.Chunk.{Chunk, spell}
use Rattle.container_model.specs.Items.{listed}
use Rattle.wave_model.specs.Fields.{is_bext, body_in}
use Rattle.wave_model.specs.Edited.{block_size, parts_of}
use Rattle.wave_model.specs.Why.{Seen, is_fmt, is_data, see, chunk_tests}
use Rattle.container_model.specs.Tests.{first}
use Rattle.wave_file.specs.Lawful.{HasRanges}
use Rattle.wave_file.specs.Map.{Ascend, part_as, sound_at}
use Rattle.wave_file.specs.Tests.{early_tests, late_tests}
use Rattle.wave_file.specs.Reads.{is_ranges, KeepsRanges, ReadsFields, ReadsSound, Takes, AddsSound, one_if, seen_of}
use Rattle.wave_file.specs.declared.chunk.Reading.{Reading}
use Rattle.wave_file.specs.declared.chunk.Essence.{Essence as Sound}
use Rattle.wave_file.proofs.Firsts.{Kinds, essence_fails}

-- the early tests as they are written in the code
pub early_same : (s : Seen) (id : FourCc) (len : ℕ) (carrier bext has format some carrier_is bext_is : Bool) → carrier ≡ carrier_is → bext ≡ bext_is → has ≡ nat_lt 0 s.bexts → format ≡ bytes_eq (codes "fmt ") id.0 → some ≡ nat_lt 0 s.formats
    → first (
    (nat_lt 65536 (s.parts + 1), W.TooManyParts)
    ∷ ((carrier && nat_lt 16777216 len, W.CarrierBig id len)
    ∷ ((bext && has, W.TwoBext) ∷ ((bext && nat_lt len 602, W.ShortBext len) ∷ ((format && some, W.TwoFmt) ∷ ((format && nat_lt len 16, W.ShortFmt len) ∷ [])))))
    ) ≡ first (early_tests s id.0 len carrier_is bext_is)
early_same s id len carrier bext has format some carrier_is bext_is a b c d e = rw (a, b, c, d, e) refl

-- ---- refusals

pub sound_fails : (c : Chunk) (at : ℕ) (carrier bext : Bool) (before after : Reading) (fault : ReadFault) → Kinds c carrier bext → first (early_tests (seen_of before) c.id (length c.body) carrier bext) ≡ None
    → ReadsSound c at before (Err fault) → Takes c at before after (Err fault)
sound_fails c at carrier bext before after (Fault.Why w) k e h = essence_fails at (seen_of before) c carrier bext w k e h
sound_fails c at carrier bext before after Fault.Depot k e h = tt
sound_fails c at carrier bext before after Fault.Memory k e h = tt

pub late_fails : (c : Chunk) (at parts : ℕ) (old new : List Entry) (before after : Reading) (fault : ReadFault) → first (chunk_tests at (seen_of before) c) ≡ first (late_tests at parts c)
    → ReadsFields c at parts old new (Err fault) → Takes c at before after (Err fault)
late_fails c at parts old new before after (Fault.Why w) e h = e ∙ h
late_fails c at parts old new before after Fault.Depot e h = tt
late_fails c at parts old new before after Fault.Memory e h = tt

-- ---- what is seen then

bext_seen : (has bext : Bool) (body : List ℕ) → (bext ≡ true → one_if has ≤ 0) → one_if (has || bext) ≡ one_if has + length (if bext then body ∷ [] else [])
bext_seen true true body h = absurd (omega (arith, h refl))
bext_seen true false body h = refl
bext_seen false true body h = refl
bext_seen false false body h = refl

sound_seen : (c : Chunk) (at : ℕ) → length (sound_at at c) ≡ length (body_in is_data c)
sound_seen c at = go (is_data c)
  where
    go : (t : Bool) → length {A = Span} (if t then record { at = at + 8; len = length c.body } ∷ [] else []) ≡ length (if t then c.body ∷ [] else [])
    go true = refl
    go false = refl

abbrev pub seen_from : ℕ → ℕ → ℕ → ℕ → Seen
seen_from p f s b = record { parts = p; formats = f; sounds = s; bexts = b }

pub seen_is : (c : Chunk) (at n : ℕ) (r : Reading) (e : Sound) (bext : Bool) → n ≡ length (parts_of c) → AddsSound c at r e → bext ≡ is_bext c → (bext ≡ true → one_if r.has_bext ≤ 0)
    → seen_from (r.count + n) (length (listed e.align)) (length (listed e.sound)) (one_if (r.has_bext || bext)) ≡ see (seen_of r) c
seen_is c at n r e bext number adds is one =
    let f : length (listed e.align) ≡ length (listed r.align) + length (body_in is_fmt c)
    = ap length adds.formats ∙ length-append (listed r.align) (map block_size (body_in is_fmt c)) ∙ ap (λ (k : ℕ). length (listed r.align) + k) (length-map (body_in is_fmt c) block_size) in
    let s : length (listed e.sound) ≡ length (listed r.sound) + length (body_in is_data c)
    = ap length adds.sounds ∙ length-append (listed r.sound) (sound_at at c) ∙ ap (λ (k : ℕ). length (listed r.sound) + k) (sound_seen c at) in
    let b : one_if (r.has_bext || bext) ≡ one_if r.has_bext + length (body_in is_bext c)
    = bext_seen r.has_bext bext c.body one ∙ ap (λ (t : Bool). one_if r.has_bext + length (if t then c.body ∷ [] else [])) is in
    ap (λ (p : ℕ). seen_from (r.count + p) (length (listed e.align)) (length (listed e.sound)) (one_if (r.has_bext || bext))) number
    ∙ ap (λ (p : ℕ). seen_from (r.count + length (parts_of c)) p (length (listed e.sound)) (one_if (r.has_bext || bext))) f
    ∙ ap (λ (p : ℕ). seen_from (r.count + length (parts_of c)) (length (listed r.align) + length (body_in is_fmt c)) p (one_if (r.has_bext || bext))) s
    ∙ ap (λ (p : ℕ). seen_from (r.count + length (parts_of c)) (length (listed r.align) + length (body_in is_fmt c)) (length (listed r.sound) + length (body_in is_data c)) p) b

-- ---- the part

abbrev pub part_from : FourCc → ℕ → ℕ → ℕ → ℕ → Role → Part
part_from id at start len next role = record { id = id; at = at; body = record { at = start; len = len }; next = next; role = role }

pub part_is : (c : Chunk) (id : FourCc) (at start len next : ℕ) (role told : Role) → c.id ≡ id.0 → start ≡ at + 8 → length c.body ≡ len → at + length (spell c) ≡ next → role ≡ told
    → part_from id at start len next role ≡ part_as told at c
part_is c id at start len next role told i s l n r =
    ap (λ (x : List ℕ). part_from (four x) at start len next role) (sym i)
    ∙ ap (λ (x : ℕ). part_from (four c.id) at x len next role) s
    ∙ ap (λ (x : ℕ). part_from (four c.id) at (at + 8) x next role) (sym l)
    ∙ ap (λ (x : ℕ). part_from (four c.id) at (at + 8) (length c.body) x role) (sym n)
    ∙ ap (λ (x : Role). part_from (four c.id) at (at + 8) (length c.body) (at + length (spell c)) x) r

-- ---- on every depot

pub ascend_more : (low mid end : ℕ) (ps : List Part) (p : Part) → Ascend low ps mid → mid ≤ p.at → p.body.at ≡ p.at + 8 → p.body.at + p.body.len ≤ p.next → p.next ≤ end → Ascend low (ps ++ p ∷ []) end
ascend_more low mid end [] p h a b c d = (omega arith, b, c, d)
ascend_more low mid end (q ∷ ps) p h a b c d = (h.0, h.1, h.2, ascend_more q.next mid end ps p h.3 a b c d)

pub ascend_to : (low mid end : ℕ) (ps : List Part) → mid ≤ end → Ascend low ps mid → Ascend low ps end
ascend_to low mid end [] le h = omega arith
ascend_to low mid end (q ∷ ps) le h = (h.0, h.1, h.2, ascend_to q.next mid end ps le h.3)

same_ranges : (has : Bool) (old new : List Entry) → HasRanges has old → ((field : BextField) → values new (name.Bext field) ≡ values old (name.Bext field)) → HasRanges has new
same_ranges true old new h e = λ f. ((h f).0, e f ∙ (h f).1, (h f).2)
same_ranges false old new h e = λ f. e f ∙ h f

or_no : (t : Bool) → (t || false) ≡ t
or_no true = refl
or_no false = refl

pub ranges_on : (role : Role) (has : Bool) (old new : List Entry) → (is_ranges role ≡ true → one_if has ≤ 0) → HasRanges has old → KeepsRanges role old new → HasRanges (has || is_ranges role) new
ranges_on Bext true old new one h keeps = absurd (omega (arith, one refl))
ranges_on Bext false old new one h keeps = keeps h
ranges_on Opaque has old new one h keeps = rw (or_no has) (same_ranges has old new h keeps)
ranges_on Padding has old new one h keeps = rw (or_no has) (same_ranges has old new h keeps)
ranges_on Info has old new one h keeps = rw (or_no has) (same_ranges has old new h keeps)
ranges_on Whole has old new one h keeps = rw (or_no has) (same_ranges has old new h keeps)
ranges_on Sizes has old new one h keeps = rw (or_no has) (same_ranges has old new h keeps)
ranges_on Tables has old new one h keeps = rw (or_no has) (same_ranges has old new h keeps)
ranges_on UserData has old new one h keeps = rw (or_no has) (same_ranges has old new h keeps)
ranges_on Essence has old new one h keeps = rw (or_no has) (same_ranges has old new h keeps)
ranges_on Rest has old new one h keeps = rw (or_no has) (same_ranges has old new h keeps)
