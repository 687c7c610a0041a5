-- The bodies of atoms that follow each other, and the first atom that meets a test.
use Rattle.std.proofs.Common.{◌≡◌, ◌∙◌, ◌≤◌, ◌<◌, ◌^◌, ℕ, zero, suc, ◌+◌, Bool, true, false, cond, List, [], ◌∷◌, length, map, drop, Option, Some, None, refl, sym, ap, subst, arith, get_or}
use Rattle.std.proofs.lemmas.List.{drop_all, drop_more, length-drop, length-take-le}
use Rattle.std.specs.Prelude.{◌||◌, ◌&&◌, codes, is_some, not}
use Rattle.std.specs.List.{AllByRecursion, flat_map, list_any, position_or_len}
use Rattle.std.specs.Str.{bytes_eq}
use Rattle.container_model.specs.Atoms.{is}
use Rattle.container_model.specs.Chunk.{Chunk}
use Rattle.container_model.specs.Units.{Cell, edited, gap, kept, live, solids}
use Rattle.mov_model.specs.Atoms.{cell_by, cell_of, is_padding}
use Rattle.mov_model.specs.Keys.{is_meta}
use Rattle.mov_model.specs.Parts.{first_of}
use Rattle.mov_model.proofs.Carry.{Sort, any_solids, first_solids, padding_not, strip}
use Rattle.mov_model.proofs.Cells.{meta_sort}
use Rattle.qt_atoms.specs.Walk.{atom_in, form_of}
use Rattle.qt_atoms.specs.declared.header.SizeForm.{SizeForm}
use Rattle.qt_atoms.specs.declared.header.SizeForm.TheVariants.{Short}
use Rattle.qt_atoms.specs.declared.walker.AtomAt.{AtomAt}
use Rattle.qt_keys.specs.Read.{key_table}
use Rattle.qt_keys.specs.declared.table.KeyTable.{KeyTable}
use Rattle.qt_keys.proofs.Whole.{no_large_table}
use Rattle.container_model.proofs.Items.{same_true}
use Rattle.mov_plan.specs.Atoms.{AllFollow, AreRow}
use Rattle.mov_plan.specs.Carriers.{EndsBy, found_from, or_found, table_of}
use Rattle.mov_plan.specs.Carry.{IsFirst, IsNone}
use Rattle.mov_plan.specs.declared.key_carry.TableFound.{TableFound}

-- The bodies of atoms that follow each other up to an end end by it.
pub follow_ends : (at end : ℕ) (ks : List AtomAt) → AllFollow at ks end → AllByRecursion (EndsBy end) ks
follow_ends at end [] h = tt
follow_ends at end (k ∷ ks) h = (omega (arith, h.0.behind, h.0.last), follow_ends k.next end ks h.1)

-- one of them
pub ends_at : (end : ℕ) (ks : List AtomAt) (n : ℕ) (d : AtomAt) → AllByRecursion (EndsBy end) ks → n < length ks → EndsBy end (get_or ks n d)
ends_at end [] n d h lt = absurd (omega (arith, lt))
ends_at end (k ∷ ks) zero d h lt = h.0
ends_at end (k ∷ ks) (suc n) d h lt = ends_at end ks n d h.1 (omega (arith, lt))

or_off : (a b : Bool) → (a || b) ≡ false → (a ≡ false) × (b ≡ false)
or_off true b e = absurd cc
or_off false b e = (refl, e)

-- how long the body of one is
pub body_long : (b : List ℕ) (end : ℕ) (k : AtomAt) → EndsBy end k → end ≤ length b → length (atom_in b k).body ≡ k.body.len
body_long b end k h le = length-take-le k.body.len (drop k.body.at b) (omega (arith, h, le, length-drop k.body.at b))

-- the number of the first user data
abbrev pub user_place : List AtomAt → ℕ
user_place ks = position_or_len (λ (k : AtomAt). bytes_eq k.kind.0 (codes "udta")) ks

-- ---- among cells

module _ (sort : Chunk → Bool) (s : Sort sort) where
  -- an atom of a sort that isn't met before others
  first_past : (n : ℕ) (c d : Chunk) (xs : List Cell) → sort d ≡ false → IsFirst sort n c xs → IsFirst sort (suc n) c (cell_of d ∷ xs)
  first_past n c d xs off f = go (is_padding d.id)
    where
      go : (t : Bool) → IsFirst sort (suc n) c (cell_by d t ∷ xs)
      go true = f
      go false = (off, f)

  -- an atom of the sort
  first_here : (c : Chunk) (xs : List Cell) → sort c ≡ true → IsFirst sort zero c (cell_of c ∷ xs)
  first_here c xs on = go (is_padding c.id) refl
    where
      go : (t : Bool) → is_padding c.id ≡ t → IsFirst sort zero c (cell_by c t ∷ xs)
      go true e = let no = s.no_padding c on in absurd cc
      go false e = (refl, on)

  none_past : (d : Chunk) (xs : List Cell) → sort d ≡ false → IsNone sort xs → IsNone sort (cell_of d ∷ xs)
  none_past d xs off h = go (is_padding d.id)
    where
      go : (t : Bool) → IsNone sort (cell_by d t ∷ xs)
      go true = h
      go false = ap (λ (t : Bool). t || list_any sort (flat_map live xs)) off ∙ h

  -- the first of some chunks
  pub first_chunk : (n : ℕ) (c : Chunk) (cs : List Chunk) → IsFirst sort n c (map cell_of cs) → (first_of sort cs ≡ c ∷ []) × (list_any sort cs ≡ true)
  first_chunk n c [] f = absurd f
  first_chunk n c (d ∷ cs) f = go n (is_padding d.id) refl f (λ m g. first_chunk m c cs g)
    where
      here : (c : Chunk) → d ≡ c → sort c ≡ true → (cond (sort d) (d ∷ []) (first_of sort cs) ≡ c ∷ []) × ((sort d || list_any sort cs) ≡ true)
      here c e on = let at : sort d ≡ true = ap sort e ∙ on in (ap (λ (t : Bool). cond t (d ∷ []) (first_of sort cs)) at ∙ ap (λ (x : Chunk). x ∷ []) e, ap (λ (t : Bool). t || list_any sort cs) at)

      there : sort d ≡ false → (first_of sort cs ≡ c ∷ []) × (list_any sort cs ≡ true) → (cond (sort d) (d ∷ []) (first_of sort cs) ≡ c ∷ []) × ((sort d || list_any sort cs) ≡ true)
      there off h = (ap (λ (t : Bool). cond t (d ∷ []) (first_of sort cs)) off ∙ h.0, ap (λ (t : Bool). t || list_any sort cs) off ∙ h.1)

      go : (n : ℕ) (t : Bool) → is_padding d.id ≡ t → IsFirst sort n c (cell_by d t ∷ map cell_of cs)
          → ((m : ℕ) → IsFirst sort m c (map cell_of cs) → (first_of sort cs ≡ c ∷ []) × (list_any sort cs ≡ true))
          → (cond (sort d) (d ∷ []) (first_of sort cs) ≡ c ∷ []) × ((sort d || list_any sort cs) ≡ true)
      go zero true e f again = absurd f
      go zero false e f again = here c f.0 f.1
      go (suc m) true e f again = there (padding_not sort s d e) (again m f)
      go (suc m) false e f again = there f.0 (again m f.1)

  pub no_chunk : (cs : List Chunk) → IsNone sort (map cell_of cs) → (first_of sort cs ≡ []) × (list_any sort cs ≡ false)
  no_chunk [] h = (refl, refl)
  no_chunk (d ∷ cs) h = go (is_padding d.id) refl h (no_chunk cs)
    where
      there : sort d ≡ false → (first_of sort cs ≡ []) × (list_any sort cs ≡ false) → (cond (sort d) (d ∷ []) (first_of sort cs) ≡ []) × ((sort d || list_any sort cs) ≡ false)
      there off h = (ap (λ (t : Bool). cond t (d ∷ []) (first_of sort cs)) off ∙ h.0, ap (λ (t : Bool). t || list_any sort cs) off ∙ h.1)

      go : (t : Bool) → is_padding d.id ≡ t → IsNone sort (cell_by d t ∷ map cell_of cs) → (IsNone sort (map cell_of cs) → (first_of sort cs ≡ []) × (list_any sort cs ≡ false))
          → (cond (sort d) (d ∷ []) (first_of sort cs) ≡ []) × ((sort d || list_any sort cs) ≡ false)
      go true e h again = there (padding_not sort s d e) (again h)
      go false e h again = let o = or_off (sort d) (list_any sort (flat_map live (map cell_of cs))) h in there o.0 (again o.1)

  pub first_meets : (n : ℕ) (c : Chunk) (xs : List Cell) → IsFirst sort n c xs → sort c ≡ true
  first_meets n c [] f = absurd f
  first_meets zero c (kept d ∷ xs) f = f.1
  first_meets zero c (gap d ∷ xs) f = absurd f
  first_meets zero c (edited old now ∷ xs) f = absurd f
  first_meets (suc n) c (kept d ∷ xs) f = first_meets n c xs f.1
  first_meets (suc n) c (gap d ∷ xs) f = first_meets n c xs f
  first_meets (suc n) c (edited old now ∷ xs) f = first_meets n c xs f.1

  -- the same without padding and pads
  bare : (c : Chunk) → c.pad ≡ [] → strip c ≡ c
  bare c e = ap (λ (p : List ℕ). record c { pad = p }) (sym e)

  pub first_solid : (n : ℕ) (c : Chunk) (cs : List Chunk) → c.pad ≡ [] → IsFirst sort n c (map cell_of cs) → (first_of sort (solids is_padding cs) ≡ c ∷ []) × (list_any sort (solids is_padding cs) ≡ true)
  first_solid n c cs e f =
      let h = first_chunk n c cs f in
      (first_solids sort s cs ∙ ap (map strip) h.0 ∙ ap (λ (x : Chunk). x ∷ []) (bare c e), any_solids sort s cs ∙ h.1)

  pub no_solid : (cs : List Chunk) → IsNone sort (map cell_of cs) → (first_of sort (solids is_padding cs) ≡ []) × (list_any sort (solids is_padding cs) ≡ false)
  no_solid cs f = let h = no_chunk cs f in (first_solids sort s cs ∙ ap (map strip) h.0, any_solids sort s cs ∙ h.1)

  -- ---- among atoms of a file

  module _ (b : List ℕ) where
    abbrev sees : AtomAt → Bool
    sees k = sort (atom_in b k)

    one_more : (t : Bool) (n m : ℕ) → cond (not t) (1 + n) 0 ≡ suc m → (t ≡ false) × (n ≡ m)
    one_more true n m e = absurd (omega (arith, e))
    one_more false n m e = (refl, omega (arith, e))

    not_one : (t : Bool) (n : ℕ) → cond (not t) (1 + n) 0 ≡ 0 → t ≡ true
    not_one true n e = refl
    not_one false n e = absurd (omega (arith, e))

    pub first_in : (at : ℕ) (ks : List AtomAt) (cs : List Chunk) (n : ℕ) (d : AtomAt) → AreRow b at ks cs → n ≡ position_or_len sees ks → n < length ks
        → IsFirst sort n (atom_in b (get_or ks n d)) (map cell_of cs)
    first_in at [] cs n d row e lt = absurd (omega (arith, lt))
    first_in at (k ∷ ks) [] n d row e lt = absurd row
    first_in at (k ∷ ks) (c ∷ cs) zero d row e lt =
        let on : sort (atom_in b k) ≡ true = not_one (sees k) (position_or_len sees ks) (sym e) in
        subst (λ (x : Chunk). IsFirst sort zero (atom_in b k) (cell_of x ∷ map cell_of cs)) row.1 (first_here (atom_in b k) (map cell_of cs) on)
    first_in at (k ∷ ks) (c ∷ cs) (suc n) d row e lt =
        let o = one_more (sees k) (position_or_len sees ks) n (sym e) in
        first_past n (atom_in b (get_or ks n d)) c (map cell_of cs) (ap sort (sym row.1) ∙ o.0) (first_in k.next ks cs n d row.3 (sym o.1) (omega (arith, lt)))

    pub none_in : (at : ℕ) (ks : List AtomAt) (cs : List Chunk) → AreRow b at ks cs → position_or_len sees ks ≡ length ks → IsNone sort (map cell_of cs)
    none_in at [] [] row e = refl
    none_in at [] (c ∷ cs) row e = absurd row
    none_in at (k ∷ ks) [] row e = absurd row
    none_in at (k ∷ ks) (c ∷ cs) row e =
        let o = one_more (sees k) (position_or_len sees ks) (length ks) e in
        none_past c (map cell_of cs) (ap sort (sym row.1) ∙ o.0) (none_in k.next ks cs row.3 o.1)

-- ---- the key table

meta_by : (c : Chunk) → is_meta c ≡ is_some (table_of c)
meta_by c = go (is c (codes "meta"))
  where
    go : (t : Bool) → (t && is_some (key_table c.body)) ≡ is_some (cond t (key_table c.body) None)
    go true = refl
    go false = refl

-- an atom with a table
pub record HasTable (c : Chunk) (head : SizeForm) (t : KeyTable) : Type 0 where
  pub form : c.form ≡ form_of head
  pub id : c.id ≡ codes "meta"
  pub pad : c.pad ≡ []
  pub table : key_table c.body ≡ Some t

has_table : (b : List ℕ) (k : AtomAt) (t : KeyTable) → table_of (atom_in b k) ≡ Some t → HasTable (atom_in b k) k.form t
has_table b k t e = go (is (atom_in b k) (codes "meta")) refl e
  where
    go : (u : Bool) → is (atom_in b k) (codes "meta") ≡ u → cond u (key_table (atom_in b k).body) None ≡ Some t → HasTable (atom_in b k) k.form t
    go true i h = record { form = refl; id = same_true k.kind.0 (codes "meta") i; pad = refl; table = h }
    go false i h = absurd cc

-- the first of atoms that has one
pub record IsFound (cs : List Chunk) (n : ℕ) (f : TableFound) : Type 0 where
  pub place : ℕ
  pub chunk : Chunk
  pub number : f.number ≡ n + place
  pub first : IsFirst is_meta place chunk (map cell_of cs)
  pub has : HasTable chunk f.form f.table

some_is : (x y : TableFound) → Some x ≡ Some y → x ≡ y
some_is x y e = ap (λ (o : Option TableFound). elim o [ Some z ↦ z | None ↦ x ]) e

module _ (b : List ℕ) where
  pub table_found : (n at : ℕ) (ks : List AtomAt) (cs : List Chunk) (f : TableFound) → AreRow b at ks cs → found_from b n ks ≡ Some f → IsFound cs n f
  table_found n at [] cs f row e = absurd cc
  table_found n at (k ∷ ks) [] f row e = absurd row
  table_found n at (k ∷ ks) (c ∷ cs) f row e = go (table_of (atom_in b k)) refl e (table_found (suc n) k.next ks cs f row.3)
    where
      go : (o : Option KeyTable) → table_of (atom_in b k) ≡ o → or_found n k.form o (found_from b (suc n) ks) ≡ Some f → (found_from b (suc n) ks ≡ Some f → IsFound cs (suc n) f) → IsFound (c ∷ cs) n f
      go None i h again =
          let later = again h in
          let off : is_meta c ≡ false = ap is_meta (sym row.1) ∙ (meta_by (atom_in b k) ∙ ap is_some i) in
          record { place = suc later.place; chunk = later.chunk; number = omega (arith, later.number); first = first_past is_meta meta_sort later.place later.chunk c (map cell_of cs) off later.first; has = later.has }
      go (Some t) i h again =
          let on : is_meta (atom_in b k) ≡ true = meta_by (atom_in b k) ∙ ap is_some i in
          let same = some_is (record { number = n; form = k.form; table = t }) f h in
          record {
            place = 0;
            chunk = atom_in b k;
            number = omega (arith, ap (λ (g : TableFound). g.number) same);
            first = subst (λ (x : Chunk). IsFirst is_meta zero (atom_in b k) (cell_of x ∷ map cell_of cs)) row.1 (first_here is_meta meta_sort (atom_in b k) (map cell_of cs) on);
            has = subst (λ (g : TableFound). HasTable (atom_in b k) g.form g.table) same (has_table b k t i);
          }

  pub no_table_found : (n at : ℕ) (ks : List AtomAt) (cs : List Chunk) → AreRow b at ks cs → found_from b n ks ≡ None → IsNone is_meta (map cell_of cs)
  no_table_found n at [] [] row e = refl
  no_table_found n at [] (c ∷ cs) row e = absurd row
  no_table_found n at (k ∷ ks) [] row e = absurd row
  no_table_found n at (k ∷ ks) (c ∷ cs) row e = go (table_of (atom_in b k)) refl e (no_table_found (suc n) k.next ks cs row.3)
    where
      go : (o : Option KeyTable) → table_of (atom_in b k) ≡ o → or_found n k.form o (found_from b (suc n) ks) ≡ None → (found_from b (suc n) ks ≡ None → IsNone is_meta (map cell_of cs)) → IsNone is_meta (cell_of c ∷ map cell_of cs)
      go None i h again =
          let off : is_meta c ≡ false = ap is_meta (sym row.1) ∙ (meta_by (atom_in b k) ∙ ap is_some i) in
          none_past is_meta meta_sort c (map cell_of cs) off (again h)
      go (Some t) i h again = absurd cc

-- what an atom is no table of
pub no_type : (c : Chunk) → is c (codes "meta") ≡ false → table_of c ≡ None
no_type c e = ap (λ (t : Bool). cond t (key_table c.body) None) e

pub no_size : (c : Chunk) → 2 ^ 24 < length c.body → table_of c ≡ None
no_size c lt = go (is c (codes "meta"))
  where
    go : (t : Bool) → cond t (key_table c.body) None ≡ None
    go true = no_large_table c.body lt
    go false = refl

pub has_type : (c : Chunk) (body : List ℕ) (o : Option KeyTable) → is c (codes "meta") ≡ true → body ≡ c.body → o ≡ key_table body → o ≡ table_of c
has_type c body o e same read = read ∙ ap key_table same ∙ sym (ap (λ (t : Bool). cond t (key_table c.body) None) e)

-- ---- the first table, atom by atom

-- what is read past the end
abbrev pub no_atom : AtomAt
no_atom = record { kind = record { 0 = [] }; at = 0; body = record { at = 0; len = 0 }; form = Short; next = 0 }

module _ (b : List ℕ) (ks : List AtomAt) (n : ℕ) (lt : n < length ks) where
  abbrev pub one : AtomAt
  one = get_or ks n no_atom

  by_table : (o : Option KeyTable) → o ≡ table_of (atom_in b one) → found_from b n (drop n ks) ≡ or_found n one.form o (found_from b (n + 1) (drop (n + 1) ks))
  by_table o e =
      let next : suc n ≡ n + 1 = omega arith in
      ap (found_from b n) (drop_more ks n no_atom lt)
      ∙ ap (λ (m : ℕ). or_found n one.form (table_of (atom_in b one)) (found_from b m (drop (n + 1) ks))) next
      ∙ ap (λ (p : Option KeyTable). or_found n one.form p (found_from b (n + 1) (drop (n + 1) ks))) (sym e)

  -- one that has no table
  pub next_found : None ≡ table_of (atom_in b one) → found_from b n (drop n ks) ≡ found_from b 0 ks → found_from b (n + 1) (drop (n + 1) ks) ≡ found_from b 0 ks
  next_found e inv = sym (by_table None e) ∙ inv

  -- one that has
  pub here_found : (t : KeyTable) → Some t ≡ table_of (atom_in b one) → found_from b n (drop n ks) ≡ found_from b 0 ks → Some (record { number = n; form = one.form; table = t }) ≡ found_from b 0 ks
  here_found t e inv = sym (by_table (Some t) e) ∙ inv

-- none is left
pub end_found : (b : List ℕ) (ks : List AtomAt) (n : ℕ) → length ks ≤ n → found_from b n (drop n ks) ≡ found_from b 0 ks → None ≡ found_from b 0 ks
end_found b ks n le inv = sym (ap (found_from b n) (drop_all n ks le)) ∙ inv
