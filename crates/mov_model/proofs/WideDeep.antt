-- A track with wide tables is read again: its atoms in their nesting, with the tables made wide.
use Rattle.std.proofs.Common.{◌≡◌, ℕ, zero, suc, ◌+◌, ◌*◌, ◌^◌, ◌<◌, ◌≤◌, Bool, true, false, cond, List, [], ◌∷◌, ◌++◌, length, map, take, Option, Some, None, refl, sym, ap, subst, ◌∙◌, append_assoc, arith, inl, inr}
use Rattle.std.specs.Prelude.{codes, ◌⊎◌}
use Rattle.std.specs.Int.{to_be_bytes, w32, w64}
use Rattle.std.specs.List.{AllByRecursion, flat_map}
use Rattle.std.proofs.lemmas.List.{length-append}
use Rattle.std.proofs.lemmas.List.Concat.{flat_map-append}
use Rattle.container_model.proofs.Atoms.{atoms_give_back}
use Rattle.container_model.proofs.Codec.{IsBytes, IsBytes-behind, chunks_joined, chunks_read, chunks_spelled}
use Rattle.container_model.proofs.Deep.{IsBytes-front}
use Rattle.container_model.proofs.Moved.{long_number, short_number}
use Rattle.container_model.proofs.Read.{Atom, atoms_again, atoms_read}
use Rattle.container_model.proofs.Items.{same_true}
use Rattle.container_model.specs.Atoms.{is}
use Rattle.container_model.specs.Chunk.{Chunk, Form, Head, Run, ends, header_bytes, long, pad_len, short, spell, spell_all, too_short}
use Rattle.container_model.specs.Deep.{Leaf, Token, Whole, closed, kids, leaves, opened, stands, tokens, with_kids}
use Rattle.container_model.specs.Sizes.{atom_front, inside}
use Rattle.container_model.proofs.Walk.{all_join}
use Rattle.container_model.specs.Walk.{nested}
use Rattle.mov_model.specs.Atoms.{Place, dinf, file, format, mdia, minf, moov, opens, stbl, trak, user_data}
use Rattle.mov_model.specs.Kept.{look}
use Rattle.mov_model.specs.Reading.{names_of}
use Rattle.mov_model.specs.Tables.{in_stbl}
use Rattle.mov_model.specs.Widen.{enter, entered, wide_at, wide_in, wide_leaf, wide_table, wide_token, wide_tokens}
use Rattle.mov_model.proofs.Wide.{eight_bytes, four_bytes, join, none_bytes, token_wide, wide_tables}
use Rattle.sample_tables.specs.Tables.{is_short_table}

-- ---- bytes of an atom

head_bytes : (form : Form) (id : List ℕ) (n : ℕ) → (form ≡ short) ⊎ (form ≡ long) → IsBytes id → IsBytes (header_bytes form id n)
head_bytes form id n (inl e) h = subst (λ (g : Form). IsBytes (header_bytes g id n)) (sym e) (join (to_be_bytes w32 (n + 8)) id (four_bytes (n + 8)) h)
head_bytes form id n (inr e) h = subst (λ (g : Form). IsBytes (header_bytes g id n)) (sym e) (join (to_be_bytes w32 1) (id ++ to_be_bytes w64 (n + 16)) (four_bytes 1) (join id (to_be_bytes w64 (n + 16)) h (eight_bytes (n + 16))))

id_bytes : (form : Form) (id : List ℕ) (n : ℕ) → (form ≡ short) ⊎ (form ≡ long) → IsBytes (header_bytes form id n) → IsBytes id
id_bytes form id n (inl e) h = IsBytes-behind (to_be_bytes w32 (n + 8)) id (subst (λ (g : Form). IsBytes (header_bytes g id n)) e h)
id_bytes form id n (inr e) h = IsBytes-front id (to_be_bytes w64 (n + 16)) (IsBytes-behind (to_be_bytes w32 1) (id ++ to_be_bytes w64 (n + 16)) (subst (λ (g : Form). IsBytes (header_bytes g id n)) e h))

pub head_length : (form : Form) (a b : List ℕ) (n k : ℕ) → (form ≡ short) ⊎ (form ≡ long) → length a ≡ length b → length (header_bytes form a n) ≡ length (header_bytes form b k)
head_length form a b n k (inl e) l = rw e (omega (arith, l))
head_length form a b n k (inr e) l =
    rw e (omega (arith, l, length-append a (to_be_bytes w64 (n + 16)), length-append b (to_be_bytes w64 (k + 16)), length-append (to_be_bytes w32 1) (a ++ to_be_bytes w64 (n + 16)), length-append (to_be_bytes w32 1) (b ++ to_be_bytes w64 (k + 16))))

-- the parts of an atom's bytes
pub body_bytes : (c : Chunk) → IsBytes (spell c) → IsBytes c.body
body_bytes c h = IsBytes-front c.body c.pad (IsBytes-behind (header_bytes c.form c.id (length c.body)) (c.body ++ c.pad) h)

type_bytes : (c : Chunk) → Atom inside c → IsBytes (spell c) → IsBytes c.id
type_bytes c a h = id_bytes c.form c.id (length c.body) a.short_or_long (IsBytes-front (header_bytes c.form c.id (length c.body)) (c.body ++ c.pad) h)

-- an atom of another type and another body is read as the first was
atom_typed : (c : Chunk) (id body : List ℕ) → Atom inside c → length id ≡ 4 → length body + 16 < 2 ^ 32 → Atom inside (record c { id = id; body = body })
atom_typed c id body h four lt = record { head = head h.short_or_long; no_pad = h.no_pad; pad_none = none h.short_or_long; id_len = four; short_or_long = h.short_or_long }
  where
    head : (c.form ≡ short) ⊎ (c.form ≡ long) → Head atom_front inside inside (record c { id = id; body = body })
    head (inl e) after = rw e (short_number inside id (length body) after four (omega arith))
    head (inr e) after = rw e (long_number inside id (length body) after four (omega arith))

    none : (c.form ≡ short) ⊎ (c.form ≡ long) → pad_len c.form (length body) ≡ 0
    none (inl e) = rw e refl
    none (inr e) = rw e refl

-- an atom with another body and perhaps another type, in the same form
pub record Respelled (c d : Chunk) : Type 0 where
  pub read : Atom inside d
  pub bytes : IsBytes (spell d)
  pub longer : length (spell c) ≤ length (spell d)
  pub shorter : length (spell d) ≤ 2 * length (spell c)

respelled : (c d : Chunk) → Atom inside c → IsBytes (spell c) → d.form ≡ c.form → d.pad ≡ c.pad → length d.id ≡ length c.id → IsBytes d.id → IsBytes d.body → length c.body ≤ length d.body → length d.body ≤ 2 * length c.body → length c.body ≤ 2 ^ 26 → Respelled c d
respelled c d a h form pad id_len idb body low high small =
    let same_id : Atom inside (record c { id = d.id; body = d.body }) = sized in
    let is : record c { id = d.id; body = d.body } ≡ d = ap (λ (f : Form). record { form = f; id = d.id; body = d.body; pad = c.pad }) (sym form) ∙ ap (λ (p : List ℕ). record d { pad = p }) (sym pad) in
    let one : Atom inside d = subst (Atom inside) is same_id in
    let len = head_length c.form d.id c.id (length d.body) (length c.body) a.short_or_long id_len in
    let head_d = header_bytes d.form d.id (length d.body) in
    let head_c = header_bytes c.form c.id (length c.body) in
    let same_head : length head_d ≡ length head_c = ap (λ (f : Form). length (header_bytes f d.id (length d.body))) form ∙ len in
    record {
      read = one;
      bytes = join head_d (d.body ++ d.pad) (head_bytes d.form d.id (length d.body) one.short_or_long idb) (subst (λ (p : List ℕ). IsBytes (d.body ++ p)) (sym one.no_pad) (join d.body [] body none_bytes));
      longer = omega (arith, low, same_head, length-append head_d (d.body ++ d.pad), length-append d.body d.pad, length-append head_c (c.body ++ c.pad), length-append c.body c.pad, ap length pad);
      shorter = omega (arith, high, same_head, length-append head_d (d.body ++ d.pad), length-append d.body d.pad, length-append head_c (c.body ++ c.pad), length-append c.body c.pad, ap length pad);
    }
  where
    sized : Atom inside (record c { id = d.id; body = d.body })
    sized = atom_typed c d.id d.body a (id_len ∙ a.id_len) (omega (arith, high, small))

-- ---- a leaf

-- the tables among some leaves
abbrev pub tables_of : List (Leaf Place) → List Chunk
tables_of ls = flat_map (λ (l : Leaf Place). in_stbl l.place l.chunk) ls

abbrev pub LongLeaves : List (Leaf Place) → Type 0
LongLeaves ls = AllByRecursion (λ c. is_short_table c ≡ false) (tables_of ls)

abbrev pub wide_of : Leaf Place → Leaf Place
wide_of l = stands l.place (wide_leaf l.place l.chunk)

same_spelled : (c : Chunk) → Atom inside c → IsBytes (spell c) → Respelled c c
same_spelled c a h = record { read = a; bytes = h; longer = omega arith; shorter = omega arith }

table_spelled : (c : Chunk) → Atom inside c → IsBytes (spell c) → length c.body ≤ 2 ^ 26 → is_short_table c ≡ false → Respelled c (wide_table c)
table_spelled c a h small rows =
    let w = wide_tables c rows (body_bytes c h) in
    respelled c (wide_table c) a h w.form_is w.pad_is w.id_len (ids w.id_bytes) w.bytes w.longer w.shorter small
  where
    ids : IsBytes (wide_table c).id ⊎ ((wide_table c).id ≡ c.id) → IsBytes (wide_table c).id
    ids (inl b) = b
    ids (inr e) = subst IsBytes (sym e) (type_bytes c a h)

-- what a leaf becomes
pub record WideLeaf (p : Place) (c : Chunk) : Type 0 where
  pub respelled : Respelled c (wide_leaf p c)
  pub opens_same : opens p (wide_leaf p c).id (take 4 (wide_leaf p c).body) ≡ opens p c.id (take 4 c.body)
  pub name_same : names_of (stands p (wide_leaf p c)) ≡ names_of (stands p c)
  pub table_bytes : AllByRecursion (λ c. IsBytes c.body) (in_stbl p c)
  pub token_is : wide_token p c.form c.id (look p c) ≡ Rattle.container_model.specs.Deep.leaf (wide_leaf p c).form (wide_leaf p c).id (look p (wide_leaf p c))

name_wide : (c : Chunk) → names_of (stands stbl (wide_table c)) ≡ names_of (stands stbl c)
name_wide c = go (is c (codes "stco")) refl
  where
    go : (t : Bool) → is c (codes "stco") ≡ t → names_of (stands stbl (cond t (record c { id = codes "co64"; body = Rattle.mov_model.specs.Widen.wide_body c }) c)) ≡ names_of (stands stbl c)
    go true e = sym (rw (same_true c.id (codes "stco") e) refl)
    go false e = refl

leaf_wide : (p : Place) (c : Chunk) → Atom inside c → IsBytes (spell c) → length c.body ≤ 2 ^ 26 → AllByRecursion (λ c. is_short_table c ≡ false) (in_stbl p c) → WideLeaf p c
leaf_wide stbl c a h small l = record { respelled = table_spelled c a h small l.0; opens_same = refl; name_same = name_wide c; table_bytes = (body_bytes c h, tt); token_is = token_wide c l.0 (body_bytes c h) }
leaf_wide file c a h small l = record { respelled = same_spelled c a h; opens_same = refl; name_same = refl; table_bytes = tt; token_is = refl }
leaf_wide user_data c a h small l = record { respelled = same_spelled c a h; opens_same = refl; name_same = refl; table_bytes = tt; token_is = refl }
leaf_wide moov c a h small l = record { respelled = same_spelled c a h; opens_same = refl; name_same = refl; table_bytes = tt; token_is = refl }
leaf_wide trak c a h small l = record { respelled = same_spelled c a h; opens_same = refl; name_same = refl; table_bytes = tt; token_is = refl }
leaf_wide mdia c a h small l = record { respelled = same_spelled c a h; opens_same = refl; name_same = refl; table_bytes = tt; token_is = refl }
leaf_wide minf c a h small l = record { respelled = same_spelled c a h; opens_same = refl; name_same = refl; table_bytes = tt; token_is = refl }
leaf_wide dinf c a h small l = record { respelled = same_spelled c a h; opens_same = refl; name_same = refl; table_bytes = tt; token_is = refl }

-- ---- atoms that follow each other

pub all_two : {A : Type 0} (P : A → Type 0) (a b : List A) → AllByRecursion P (a ++ b) → AllByRecursion P a × AllByRecursion P b
all_two P [] b h = (tt, h)
all_two P (x ∷ a) b h = let r = all_two P a b h.1 in ((h.0, r.0), r.1)

long_two : (a b : List (Leaf Place)) → LongLeaves (a ++ b) → LongLeaves a × LongLeaves b
long_two a b h = all_two (λ c. is_short_table c ≡ false) (tables_of a) (tables_of b) (subst (AllByRecursion (λ c. is_short_table c ≡ false)) (flat_map-append (λ (l : Leaf Place). in_stbl l.place l.chunk) a b) h)

map-wide : (a b : List (Leaf Place)) → map wide_of (a ++ b) ≡ map wide_of a ++ map wide_of b
map-wide [] b = refl
map-wide (l ∷ a) b = ap (λ (x : List (Leaf Place)). wide_of l ∷ x) (map-wide a b)

-- an atom that can be made wide
pub record Ready (d : ℕ) (p : Place) (c : Chunk) : Type 0 where
  pub read : Atom inside c
  pub bytes : IsBytes (spell c)
  pub whole : Whole format d p c
  pub tables : LongLeaves (leaves format d p c)
  pub small : length c.body ≤ 2 ^ 26

-- and what it then is
pub record Wide (d : ℕ) (p : Place) (c e : Chunk) : Type 0 where
  pub respelled : Respelled c e
  pub opens_same : opens p e.id (take 4 e.body) ≡ opens p c.id (take 4 c.body)
  pub whole : Whole format d p e
  pub leaves_are : leaves format d p e ≡ map wide_of (leaves format d p c)
  pub table_bytes : AllByRecursion (λ c. IsBytes c.body) (tables_of (leaves format d p c))
  pub names_same : flat_map names_of (nested format d p e) ≡ flat_map names_of (nested format d p c)
  pub tokens_are : (ps : List Place) (ts : List Token) → wide_tokens (p ∷ ps) (tokens format look d p c ++ ts) ≡ tokens format look d p e ++ wide_tokens (p ∷ ps) ts

pub record AllReady (d : ℕ) (q : Place) (cs : List Chunk) : Type 0 where
  pub read : AllByRecursion (Atom inside) cs
  pub bytes : IsBytes (spell_all cs)
  pub whole : AllByRecursion (Whole format d q) cs
  pub tables : LongLeaves (flat_map (leaves format d q) cs)
  pub small : length (spell_all cs) ≤ 2 ^ 26

pub record AllWide (d : ℕ) (q : Place) (cs es : List Chunk) : Type 0 where
  pub read : AllByRecursion (Atom inside) es
  pub bytes : IsBytes (spell_all es)
  pub longer : length (spell_all cs) ≤ length (spell_all es)
  pub shorter : length (spell_all es) ≤ 2 * length (spell_all cs)
  pub whole : AllByRecursion (Whole format d q) es
  pub leaves_are : flat_map (leaves format d q) es ≡ map wide_of (flat_map (leaves format d q) cs)
  pub table_bytes : AllByRecursion (λ c. IsBytes c.body) (tables_of (flat_map (leaves format d q) cs))
  pub names_same : flat_map names_of (flat_map (nested format d q) es) ≡ flat_map names_of (flat_map (nested format d q) cs)
  pub tokens_are : (ps : List Place) (ts : List Token) → wide_tokens (q ∷ ps) (flat_map (tokens format look d q) cs ++ ts) ≡ flat_map (tokens format look d q) es ++ wide_tokens (q ∷ ps) ts

body_shorter : (c : Chunk) → length c.body ≤ length (spell c)
body_shorter c = omega (arith, length-append (header_bytes c.form c.id (length c.body)) (c.body ++ c.pad), length-append c.body c.pad)

pub all_wide : (d : ℕ) (q : Place) (g : Chunk → Chunk) → ((c : Chunk) → Ready d q c → Wide d q c (g c)) → (cs : List Chunk) → AllReady d q cs → AllWide d q cs (map g cs)
all_wide d q g each [] r = record { read = tt; bytes = none_bytes; longer = omega arith; shorter = omega arith; whole = tt; leaves_are = refl; table_bytes = tt; names_same = refl; tokens_are = λ ps ts. refl }
all_wide d q g each (c ∷ cs) r =
    let t = long_two (leaves format d q c) (flat_map (leaves format d q) cs) r.tables in
    let len = length-append (spell c) (spell_all cs) in
    let one = each c (record { read = r.read.0; bytes = IsBytes-front (spell c) (spell_all cs) r.bytes; whole = r.whole.0; tables = t.0; small = omega (arith, r.small, len, body_shorter c) }) in
    let more = all_wide d q g each cs (record { read = r.read.1; bytes = IsBytes-behind (spell c) (spell_all cs) r.bytes; whole = r.whole.1; tables = t.1; small = omega (arith, r.small, len) }) in
    let es = map g cs in
    record {
      read = (one.respelled.read, more.read);
      bytes = join (spell (g c)) (spell_all es) one.respelled.bytes more.bytes;
      longer = omega (arith, len, length-append (spell (g c)) (spell_all es), one.respelled.longer, more.longer);
      shorter = omega (arith, len, length-append (spell (g c)) (spell_all es), one.respelled.shorter, more.shorter);
      whole = (one.whole, more.whole);
      leaves_are = rw (one.leaves_are, more.leaves_are) (sym (map-wide (leaves format d q c) (flat_map (leaves format d q) cs)));
      table_bytes = subst (AllByRecursion (λ c. IsBytes c.body)) (sym (flat_map-append (λ (l : Leaf Place). in_stbl l.place l.chunk) (leaves format d q c) (flat_map (leaves format d q) cs)))
          (all_join (λ c. IsBytes c.body) (tables_of (leaves format d q c)) (tables_of (flat_map (leaves format d q) cs)) one.table_bytes more.table_bytes);
      names_same =
          flat_map-append names_of (nested format d q (g c)) (flat_map (nested format d q) es) ∙ rw (one.names_same, more.names_same) (sym (flat_map-append names_of (nested format d q c) (flat_map (nested format d q) cs)));
      tokens_are = λ ps ts.
          let a = tokens format look d q c in
          let b = flat_map (tokens format look d q) cs in
          ap (wide_tokens (q ∷ ps)) (append_assoc a b ts) ∙ one.tokens_are ps (b ++ ts) ∙ ap (λ (x : List Token). tokens format look d q (g c) ++ x) (more.tokens_are ps ts)
          ∙ sym (append_assoc (tokens format look d q (g c)) (flat_map (tokens format look d q) es) (wide_tokens (q ∷ ps) ts));
    }

-- ---- an atom, by what it opens

record WideAt (d : ℕ) (p : Place) (c e : Chunk) (o : Option Place) : Type 0 where
  respelled : Respelled c e
  opens_same : opens p e.id (take 4 e.body) ≡ opens p c.id (take 4 c.body)
  whole : Rattle.container_model.specs.Deep.Whole_at format (Whole format d) e o
  leaves_are : Rattle.container_model.specs.Deep.leaves_at format (leaves format d) p e o ≡ map wide_of (Rattle.container_model.specs.Deep.leaves_at format (leaves format d) p c o)
  table_bytes : AllByRecursion (λ c. IsBytes c.body) (tables_of (Rattle.container_model.specs.Deep.leaves_at format (leaves format d) p c o))
  name_same : names_of (stands p e) ≡ names_of (stands p c)
  names_same : flat_map names_of (Rattle.container_model.specs.Walk.nested_at format (nested format d) e o) ≡ flat_map names_of (Rattle.container_model.specs.Walk.nested_at format (nested format d) c o)
  tokens_are : (ps : List Place) (ts : List Token) → wide_tokens (p ∷ ps) (Rattle.container_model.specs.Deep.tokens_at format look (tokens format look d) p c o ++ ts) ≡ Rattle.container_model.specs.Deep.tokens_at format look (tokens format look d) p e o ++ wide_tokens (p ∷ ps) ts

opens_word : (p : Place) (id x y : List ℕ) → opens p id x ≡ opens p id y
opens_word file id x y = refl
opens_word user_data id x y = refl
opens_word moov id x y = refl
opens_word trak id x y = refl
opens_word mdia id x y = refl
opens_word minf id x y = refl
opens_word stbl id x y = refl
opens_word dinf id x y = refl

-- what was read inside an atom
pub kids_ready : (d : ℕ) (q : Place) (c : Chunk) → IsBytes c.body → (kids format q c).stop ≡ ends → AllByRecursion (Whole format d q) (kids format q c).chunks → LongLeaves (flat_map (leaves format d q) (kids format q c).chunks) → length c.body ≤ 2 ^ 26
    → AllReady d q (kids format q c).chunks × (atom_front inside (kids format q c).left ≡ too_short) × (spell_all (kids format q c).chunks ++ (kids format q c).left ≡ c.body)
kids_ready d q c bytes stop w t small =
    let k = kids format q c in
    let joined : spell_all k.chunks ++ k.left ≡ c.body = chunks_joined atom_front atoms_give_back inside c.body bytes in
    let all : IsBytes (spell_all k.chunks ++ k.left) = subst IsBytes (sym joined) bytes in
    let r = atoms_read inside k.chunks k.left (λ e. absurd cc) all (chunks_read atom_front atoms_give_back inside c.body bytes stop) in
    (record { read = r.0; bytes = IsBytes-front (spell_all k.chunks) k.left all; whole = w; tables = t; small = omega (arith, small, ap length joined, length-append (spell_all k.chunks) k.left) }, r.1, joined)

opened_wide : (d : ℕ) (p q : Place) (c : Chunk) (es : List Chunk) → Atom inside c → IsBytes (spell c) → length c.body ≤ 2 ^ 26 → opens p c.id (take 4 c.body) ≡ Some q → (kids format q c).stop ≡ ends
    → atom_front inside (kids format q c).left ≡ too_short → spell_all (kids format q c).chunks ++ (kids format q c).left ≡ c.body → IsBytes (kids format q c).left
    → AllWide d q (kids format q c).chunks es → WideAt d p c (with_kids format q c es) (Some q)
opened_wide d p q c es a h small o stop last joined left_bytes w =
    let k = kids format q c in
    let e = with_kids format q c es in
    let old_len = length-append (spell_all k.chunks) k.left in
    let new_len = length-append (spell_all es) k.left in
    let again : kids format q e ≡ record { chunks = es; stop = ends; left = k.left } = chunks_spelled atom_front inside es k.left (atoms_again inside es k.left w.read last) in
    record {
      respelled = respelled c e a h refl refl refl (type_bytes c a h) (join (spell_all es) k.left w.bytes left_bytes)
          (omega (arith, w.longer, old_len, new_len, ap length joined)) (omega (arith, w.shorter, old_len, new_len, ap length joined)) small;
      opens_same = opens_word p c.id (take 4 e.body) (take 4 c.body);
      whole = (ap (λ (r : Run). r.stop) again, omega arith, subst (λ (r : Run). AllByRecursion (Whole format d q) r.chunks) (sym again) w.whole);
      leaves_are = ap (λ (r : Run). flat_map (leaves format d q) r.chunks) again ∙ w.leaves_are;
      table_bytes = w.table_bytes;
      name_same = refl;
      names_same = ap (λ (r : Run). flat_map names_of (flat_map (nested format d q) r.chunks)) again ∙ w.names_same;
      tokens_are = λ ps ts.
          let inside_ts = flat_map (tokens format look d q) k.chunks in
          let enters : enter (p ∷ ps) c.id ≡ q ∷ (p ∷ ps) = ap (λ (x : Option Place). entered x (p ∷ ps)) (opens_word p c.id [] (take 4 c.body) ∙ o) in
          let now = flat_map (tokens format look d q) es in
          ap (λ (xs : List Token). opened c.form c.id [] ∷ wide_tokens (enter (p ∷ ps) c.id) xs) (append_assoc inside_ts (closed k.left ∷ []) ts)
          ∙ ap (λ (x : List Place). opened c.form c.id [] ∷ wide_tokens x (inside_ts ++ (closed k.left ∷ ts))) enters
          ∙ ap (λ (xs : List Token). opened c.form c.id [] ∷ xs) (w.tokens_are (p ∷ ps) (closed k.left ∷ ts) ∙ sym (append_assoc now (closed k.left ∷ []) (wide_tokens (p ∷ ps) ts)))
          ∙ ap (λ (r : Run). opened c.form c.id [] ∷ ((flat_map (tokens format look d q) r.chunks ++ (closed r.left ∷ [])) ++ wide_tokens (p ∷ ps) ts)) (sym again);
    }

at_wide : (d : ℕ) → ((q : Place) (c : Chunk) → Ready d q c → Wide d q c (wide_in d q c)) → (p : Place) (c : Chunk) (o : Option Place) → opens p c.id (take 4 c.body) ≡ o → Atom inside c → IsBytes (spell c) → length c.body ≤ 2 ^ 26
    → Rattle.container_model.specs.Deep.Whole_at format (Whole format d) c o → LongLeaves (Rattle.container_model.specs.Deep.leaves_at format (leaves format d) p c o) → WideAt d p c (wide_at (wide_in d) p c o) o
at_wide d each p c None o a h small w t =
    let l = leaf_wide p c a h small (all_two (λ c. is_short_table c ≡ false) (in_stbl p c) [] t).0 in
    record {
      respelled = l.respelled;
      opens_same = l.opens_same;
      whole = tt;
      leaves_are = refl;
      table_bytes = all_join (λ c. IsBytes c.body) (in_stbl p c) [] l.table_bytes tt;
      name_same = l.name_same;
      names_same = refl;
      tokens_are = λ ps ts. ap (λ (x : Token). x ∷ wide_tokens (p ∷ ps) ts) l.token_is;
    }
at_wide d each p c (Some q) o a h small w t =
    let bytes = body_bytes c h in
    let r = kids_ready d q c bytes w.0 w.2 t small in
    let left = IsBytes-behind (spell_all (kids format q c).chunks) (kids format q c).left (subst IsBytes (sym r.2) bytes) in
    opened_wide d p q c (map (wide_in d q) (kids format q c).chunks) a h small o w.0 r.1 r.2 left (all_wide d q (wide_in d q) (each q) (kids format q c).chunks r.0)

-- What is read of an atom of moov with wide tables.
pub wide_deep : (d : ℕ) (p : Place) (c : Chunk) → Ready d p c → Wide d p c (wide_in d p c)
unfolding wide_in Whole leaves nested tokens
wide_deep zero p c r =
    let l = leaf_wide p c r.read r.bytes r.small (all_two (λ c. is_short_table c ≡ false) (in_stbl p c) [] r.tables).0 in
    record {
      respelled = l.respelled;
      opens_same = l.opens_same;
      whole = tt;
      leaves_are = refl;
      table_bytes = all_join (λ c. IsBytes c.body) (in_stbl p c) [] l.table_bytes tt;
      names_same = ap (λ (x : List (List ℕ)). x ++ []) l.name_same;
      tokens_are = λ ps ts. ap (λ (x : Token). x ∷ wide_tokens (p ∷ ps) ts) l.token_is;
    }
wide_deep (suc d) p c r =
    let o = opens p c.id (take 4 c.body) in
    let e = wide_at (wide_in d) p c o in
    let w = at_wide d (λ q k x. wide_deep d q k x) p c o refl r.read r.bytes r.small r.whole r.tables in
    let back = sym w.opens_same in
    record {
      respelled = w.respelled;
      opens_same = w.opens_same;
      whole = subst (Rattle.container_model.specs.Deep.Whole_at format (Whole format d) e) back w.whole;
      leaves_are = ap (Rattle.container_model.specs.Deep.leaves_at format (leaves format d) p e) (sym back) ∙ w.leaves_are;
      table_bytes = w.table_bytes;
      names_same = ap (λ (x : Option Place). names_of (stands p e) ++ flat_map names_of (Rattle.container_model.specs.Walk.nested_at format (nested format d) e x)) (sym back) ∙ rw (w.name_same, w.names_same) refl;
      tokens_are = λ ps ts. w.tokens_are ps ts ∙ ap (λ (x : Option Place). Rattle.container_model.specs.Deep.tokens_at format look (tokens format look d) p e x ++ wide_tokens (p ∷ ps) ts) back;
    }
