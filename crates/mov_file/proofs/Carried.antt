-- The carriers of fields among the atoms of moov.
use Rattle.std.proofs.Common.{◌≡◌, ◌∙◌, ℕ, ◌+◌, ◌<◌, ◌≤◌, ◌^◌, Bool, true, false, cond, List, [], ◌∷◌, ◌++◌, length, map, take, drop, refl, sym, ap, subst, arith, append_assoc, Option, Some, None}
use Rattle.std.specs.Prelude.{IfSome, codes, is_some, ◌&&◌}
use Rattle.std.specs.List.{AllByRecursion}
use Rattle.std.specs.Str.{bytes_eq}
use Rattle.std.proofs.lemmas.List.{append-nil}
use Rattle.part_tree.specs.Fields.{values}
use Rattle.part_tree.specs.Keys.{is_key_name}
use Rattle.part_tree.specs.declared.field.FieldName.{FieldName}
use Rattle.part_tree.specs.declared.field.FieldName.TheVariants.{Bext, Info, Whole, User, Key, Stream}
use Rattle.part_tree.specs.declared.field.Value.{Value}
use Rattle.part_tree.specs.declared.fields.Entry.{Entry}
use Rattle.part_tree.specs.declared.names.Span.{Span}
use Rattle.container_model.specs.Atoms.{is}
use Rattle.container_model.specs.Chunk.{Chunk, Run, Stop, and_then, chunks, ends, spell, stopped}
use Rattle.container_model.specs.Items as items
use Rattle.container_model.specs.Sizes.{atom_front, inside, user}
use Rattle.container_model.specs.Units.{solids}
use Rattle.container_model.specs.Walk.{along, body_at}
use Rattle.container_model.specs.Windows.{window}
use Rattle.container_model.specs.Written.{slice}
use Rattle.container_model.proofs.Items.{same_true}
use Rattle.container_model.proofs.Windows.{length_slice}
use Rattle.field_model.specs.Fields.{FieldMap, plain}
use Rattle.mov_model.specs.Atoms.{is_padding}
use Rattle.mov_model.specs.Keys.{first_table, is_meta, no_table, table_in, table_or}
use Rattle.mov_model.specs.Map.{Kid, body_span}
use Rattle.mov_model.specs.Parts.{first_items, first_user}
use Rattle.mov_model.proofs.Kids.{UserOk}
use Rattle.qt_atoms.specs.Walk.{InOrder, atom_in, row}
use Rattle.qt_atoms.specs.declared.walker.AtomAt.{AtomAt}
use Rattle.qt_keys.proofs.Whole.{no_large_table}
use Rattle.qt_keys.specs.Read.{key_table}
use Rattle.qt_keys.specs.Set.{key_values}
use Rattle.qt_keys.specs.declared.table.KeyTable.{KeyTable}
use Rattle.qt_text.specs.User.{udta, user_items}
use Rattle.mov_file.specs.Carriers.{IsTable, kid_at, kids_in, table_of}
use Rattle.mov_file.specs.Fields.{Grows, texts_held}
use Rattle.mov_file.specs.Keys.{keys_held}
use Rattle.mov_file.specs.Map.{IsAtom, IsKid, first_that}
use Rattle.mov_file.specs.Whole.{UserEnds, fields_in, meta_atom, meta_held, user_held}
use Rattle.mov_file.specs.declared.carriers.Meta.{Meta}
use Rattle.mov_file.proofs.Grown.{no_texts}
use Rattle.mov_file.proofs.Walks.{stands}

-- ---- an atom as it is told

pub span_is : (at len : ℕ) (s : Span) → at ≡ s.at → len ≡ s.len → record { at = at; len = len } ≡ s
span_is at len s e f = ap (λ (a : ℕ). record { at = a; len = len }) e ∙ ap (λ (n : ℕ). record { at = s.at; len = n }) f

pub atom_told : (b : List ℕ) (at end : ℕ) (k : AtomAt) → InOrder at end k → end ≤ length b → at + length (spell (atom_in b k)) ≡ k.next → IsAtom b at (atom_in b k) k
atom_told b at end k order fits place =
    let c = atom_in b k in
    let len : length (slice b k.body.at k.body.len) ≡ k.body.len = length_slice b k.body.at k.body.len (omega (arith, fits, order.behind, order.last)) in
    let here : InOrder k.at end k = subst (λ (i : ℕ). InOrder i end k) (sym order.begins) order in
    let st = stands b k end here len (ap (λ (i : ℕ). i + length (spell c)) order.begins ∙ place) in
    record {
      atom = refl;
      place = sym order.begins;
      body = span_is (body_at at c) (length c.body) k.body (ap (λ (i : ℕ). body_at i c) (sym order.begins) ∙ st.body) len;
      behind = place;
    }

-- ---- the first one that meets a test

pub record KidsLeft (p : Chunk → Bool) (b : List ℕ) (start at end : ℕ) : Type 0 where
  pub left : first_that p (kids_in b start end) ≡ first_that p (kids_in b at end)
  pub stop : (row inside b at end).stop ≡ (row inside b start end).stop

module _ (p : Chunk → Bool) (b : List ℕ) (start at end : ℕ) where
  pub kids_begun : start ≡ at → KidsLeft p b start at end
  kids_begun e = record { left = ap (λ (i : ℕ). first_that p (kids_in b i end)) e; stop = ap (λ (i : ℕ). (row inside b i end).stop) (sym e) }

  pub kid_none : (stop : Stop) (w : List ℕ) → row inside b at end ≡ stopped stop w → KidsLeft p b start at end → first_that p (kids_in b start end) ≡ None
  kid_none stop w step left = left.left ∙ ap (λ (r : Run). first_that p (along kid_at at r.chunks)) step

  pub kids_stop : (stop : Stop) (w : List ℕ) → row inside b at end ≡ stopped stop w → KidsLeft p b start at end → stop ≡ (row inside b start end).stop
  kids_stop stop w step left = sym (ap (λ (r : Run). r.stop) step) ∙ left.stop

  module _ (next : ℕ) (c : Chunk) (step : row inside b at end ≡ and_then c (row inside b next end)) (place : at + length (spell c) ≡ next) where
    kids_more : kids_in b at end ≡ record { at = at; atom = c } ∷ kids_in b next end
    kids_more = ap (λ (r : Run). along kid_at at r.chunks) step ∙ ap (λ (i : ℕ). record { at = at; atom = c } ∷ along kid_at i (row inside b next end).chunks) place

    one_first : (t : Bool) → p c ≡ t → first_that p (kids_in b at end) ≡ cond t (Some (record { at = at; atom = c })) (first_that p (kids_in b next end))
    one_first t e = ap (first_that p) kids_more ∙ ap (λ (u : Bool). cond u (Some (record { at = at; atom = c })) (first_that p (kids_in b next end))) e

    pub kid_passed : p c ≡ false → KidsLeft p b start at end → KidsLeft p b start next end
    kid_passed other left = record { left = left.left ∙ one_first false other; stop = sym (ap (λ (r : Run). r.stop) step) ∙ left.stop }

    pub kid_found : p c ≡ true → KidsLeft p b start at end → first_that p (kids_in b start end) ≡ Some (record { at = at; atom = c })
    kid_found this left = left.left ∙ one_first true this

-- ---- key tables

pub no_meta : (c : Chunk) → table_of c ≡ None → is_meta c ≡ false
no_meta c e = go (is c (codes "meta")) (key_table c.body) e
  where
    go : (t : Bool) (o : Option KeyTable) → cond t o None ≡ None → (t && is_some o) ≡ false
    go true None e = refl
    go true (Some t) e = absurd cc
    go false o e = refl

pub some_meta : (c : Chunk) (t : KeyTable) → table_of c ≡ Some t → (is_meta c ≡ true) × (key_table c.body ≡ Some t)
some_meta c t e = go (is c (codes "meta")) (key_table c.body) e
  where
    go : (u : Bool) (o : Option KeyTable) → cond u o None ≡ Some t → ((u && is_some o) ≡ true) × (o ≡ Some t)
    go true None e = absurd cc
    go true (Some x) e = (refl, e)
    go false o e = absurd cc

-- ---- the fields of the carriers

-- a type that is none of padding
solid_first : (c : Chunk) (x : List ℕ) → is_padding x ≡ false → is c x ≡ true → is_padding c.id ≡ false
solid_first c x n e = ap is_padding (same_true c.id x e) ∙ n

abbrev items_of : Option Kid → List Chunk
items_of None = []
items_of (Some k) = (udta.opening k.atom).chunks

pub items_found : (at : ℕ) (cs : List Chunk) → first_items (solids is_padding cs) ≡ items_of (first_that udta.is (along kid_at at cs))
items_found at [] = refl
items_found at (c ∷ cs) = go (udta.is c) (is_padding c.id) refl refl (items_found (at + length (spell c)) cs)
  where
    kid : Kid
    kid = record { at = at; atom = c }

    rest : List Kid
    rest = along kid_at (at + length (spell c)) cs

    go : (t q : Bool) → udta.is c ≡ t → is_padding c.id ≡ q → first_items (solids is_padding cs) ≡ items_of (first_that udta.is rest)
        → first_items (cond q [] (record c { pad = [] } ∷ []) ++ solids is_padding cs) ≡ items_of (cond t (Some kid) (first_that udta.is rest))
    go true true e f again = absurd (let no = solid_first c (codes "udta") refl e in cc)
    go true false e f again = ap (λ (u : Bool). cond u (udta.opening c).chunks (first_items (solids is_padding cs))) e
    go false true e f again = again
    go false false e f again = ap (λ (u : Bool). cond u (udta.opening c).chunks (first_items (solids is_padding cs))) e ∙ again

abbrev table_found : Option Kid → KeyTable
table_found None = no_table
table_found (Some k) = table_in k.atom

pub tables_found : (at : ℕ) (cs : List Chunk) → first_table (solids is_padding cs) ≡ table_found (first_that is_meta (along kid_at at cs))
tables_found at [] = refl
tables_found at (c ∷ cs) = go (is_meta c) (is_padding c.id) refl refl (tables_found (at + length (spell c)) cs)
  where
    kid : Kid
    kid = record { at = at; atom = c }

    rest : List Kid
    rest = along kid_at (at + length (spell c)) cs

    go : (t q : Bool) → is_meta c ≡ t → is_padding c.id ≡ q → first_table (solids is_padding cs) ≡ table_found (first_that is_meta rest)
        → first_table (cond q [] (record c { pad = [] } ∷ []) ++ solids is_padding cs) ≡ table_found (cond t (Some kid) (first_that is_meta rest))
    go true true e f again = absurd (let no = solid_first c (codes "meta") refl (Rattle.std.proofs.lemmas.Bool.and_parts (is c (codes "meta")) (is_some (key_table c.body)) e).0 in cc)
    go true false e f again = ap (λ (u : Bool). cond u (table_in c) (first_table (solids is_padding cs))) e
    go false true e f again = again
    go false false e f again = ap (λ (u : Bool). cond u (table_in c) (first_table (solids is_padding cs))) e ∙ again

-- the user data ends as it should
pub user_ends : (at : ℕ) (cs : List Chunk) → AllByRecursion UserOk (first_user (solids is_padding cs)) → UserEnds (first_that udta.is (along kid_at at cs))
user_ends at [] h = tt
user_ends at (c ∷ cs) h = go (udta.is c) (is_padding c.id) refl refl h (user_ends (at + length (spell c)) cs)
  where
    kid : Kid
    kid = record { at = at; atom = c }

    rest : List Kid
    rest = along kid_at (at + length (spell c)) cs

    go : (t q : Bool) → udta.is c ≡ t → is_padding c.id ≡ q → AllByRecursion UserOk (first_user (cond q [] (record c { pad = [] } ∷ []) ++ solids is_padding cs))
        → (AllByRecursion UserOk (first_user (solids is_padding cs)) → UserEnds (first_that udta.is rest)) → UserEnds (cond t (Some kid) (first_that udta.is rest))
    go true true e f h again = absurd (let no = solid_first c (codes "udta") refl e in cc)
    go true false e f h again =
        let here : AllByRecursion UserOk (record c { pad = [] } ∷ []) = subst (λ (u : Bool). AllByRecursion UserOk (cond u (record c { pad = [] } ∷ []) (first_user (solids is_padding cs)))) e h in
        here.0.1
    go false true e f h again = again h
    go false false e f h again = again (subst (λ (u : Bool). AllByRecursion UserOk (cond u (record c { pad = [] } ∷ []) (first_user (solids is_padding cs)))) e h)

-- the user data that is told is opened as it is read
pub told_user : (b : List ℕ) (kid : Kid) (k : AtomAt) → IsAtom b kid.at kid.atom k → udta.opening kid.atom ≡ row user b k.body.at (k.body.at + k.body.len)
told_user b kid k is = ap udta.opening is.atom ∙ ap (λ (n : ℕ). chunks atom_front user (take n (drop k.body.at b))) (omega arith)

user_texts : (b : List ℕ) (o : Option Kid) (u : Option AtomAt) → IsKid b o u → (n : FieldName) → user_held b u n ≡ texts_held (items_of o) n
user_texts b None None is n = sym (no_texts n)
user_texts b None (Some k) is n = absurd is
user_texts b (Some kid) None is n = absurd is
user_texts b (Some kid) (Some k) is n = ap (λ (r : Run). texts_held r.chunks n) (sym (told_user b kid k is))

no_keys : (n : FieldName) → [] ≡ keys_held no_table n
no_keys (Key name) = go (is_key_name name)
  where
    go : (t : Bool) → [] ≡ cond t (map plain (key_values name no_table)) []
    go true = refl
    go false = refl
no_keys (Bext x) = refl
no_keys (Info x) = refl
no_keys (Whole x) = refl
no_keys (User x) = refl
no_keys (Stream x) = refl

meta_keys : (b : List ℕ) (o : Option Kid) (m : Option Meta) → IsTable b o m → (n : FieldName) → meta_held m n ≡ keys_held (table_found o) n
meta_keys b None None is n = no_keys n
meta_keys b None (Some m) is n = absurd is
meta_keys b (Some kid) None is n = absurd is
meta_keys b (Some kid) (Some m) is n = ap (λ (o : Option KeyTable). keys_held (table_or o) n) (sym is.1)

pub table_kid : (b : List ℕ) (o : Option Kid) (m : Option Meta) → IsTable b o m → IsKid b o (meta_atom m)
table_kid b None None is = tt
table_kid b None (Some m) is = absurd is
table_kid b (Some kid) None is = absurd is
table_kid b (Some kid) (Some m) is = is.0

-- the texts and then the values of keys are the fields
pub all_fields : (b : List ℕ) (at end : ℕ) (one two : List Entry) (u : Option AtomAt) (m : Option Meta) → IsKid b (first_that udta.is (kids_in b at end)) u → IsTable b (first_that is_meta (kids_in b at end)) m
    → Grows [] one (user_held b u) → Grows one two (meta_held m) → (n : FieldName) → values two n ≡ fields_in (row inside b at end).chunks n
all_fields b at end one two u m there held g h n =
    let cs = (row inside b at end).chunks in
    h n ∙ ap (λ (vs : List Value). vs ++ meta_held m n) (g n)
    ∙ ap (λ (vs : List Value). vs ++ meta_held m n) (user_texts b (first_that udta.is (kids_in b at end)) u there n)
    ∙ ap (λ (vs : List Value). texts_held (items_of (first_that udta.is (kids_in b at end))) n ++ vs) (meta_keys b (first_that is_meta (kids_in b at end)) m held n)
    ∙ ap (λ (is : List Chunk). texts_held is n ++ keys_held (table_found (first_that is_meta (kids_in b at end))) n) (sym (items_found at cs))
    ∙ ap (λ (t : KeyTable). texts_held (first_items (solids is_padding cs)) n ++ keys_held t n) (sym (tables_found at cs))
    ∙ both n
  where
    both : (n : FieldName) → texts_held (first_items (solids is_padding (row inside b at end).chunks)) n ++ keys_held (first_table (solids is_padding (row inside b at end).chunks)) n ≡ fields_in (row inside b at end).chunks n
    both (Key name) = refl
    both (User id) = append-nil (items.values user_items id.0 (first_items (solids is_padding (row inside b at end).chunks)))
    both (Bext x) = refl
    both (Info x) = refl
    both (Whole x) = refl
    both (Stream x) = refl

-- a body that is too large is no key table
pub no_large : (b : List ℕ) (k : AtomAt) → 2 ^ 24 < length (slice b k.body.at k.body.len) → None ≡ table_of (atom_in b k)
no_large b k large = go (is (atom_in b k) (codes "meta"))
  where
    go : (t : Bool) → None ≡ cond t (key_table (slice b k.body.at k.body.len)) None
    go true = sym (no_large_table (slice b k.body.at k.body.len) large)
    go false = refl

-- the user data that is told ends as it should
pub user_stop : (b : List ℕ) (o : Option Kid) (u : Option AtomAt) → IsKid b o u → UserEnds o → IfSome u (λ k. (row user b k.body.at (k.body.at + k.body.len)).stop ≡ ends)
user_stop b None None is e = tt
user_stop b None (Some k) is e = absurd is
user_stop b (Some kid) None is e = absurd is
user_stop b (Some kid) (Some k) is e = sym (ap (λ (r : Run). r.stop) (told_user b kid k is)) ∙ e
