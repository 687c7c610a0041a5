-- What a chunk is to an edit, and what it holds.
use Rattle.std.proofs.Common.{◌≡◌, ◌≢◌, ◌∙◌, ℕ, ◌<◌, Bool, true, false, List, length, take, refl, sym, ap, arith, length-take}
use Rattle.std.specs.Prelude.{if◌then◌else◌, codes, ◌&&◌, ◌||◌, not, OnOk, Result, Ok, Err}
use Rattle.std.specs.Str.{bytes_eq}
use Rattle.part_tree.specs.declared.part.Role.{Role}
use Rattle.part_tree.specs.declared.part.Role.TheVariants.{Opaque, Padding, Bext, Info, Whole, Sizes, Tables, UserData, Essence, Rest}
use Rattle.part_tree.specs.declared.fields.Entry.{Entry}
use Rattle.part_tree.specs.Names.{whole_ids}
use Rattle.part_tree.proofs.Places.{bytes_same}
use Rattle.container_model.specs.Chunk.{Chunk}
use Rattle.carrier_model.specs.Info.{own_size, is_padding, one_of}
use Rattle.riff_form.specs.declared.ChunkAt.{ChunkAt}
use Rattle.riff_form.specs.Walk.{chunk_in}
use Rattle.wave_model.specs.Wave.{form_kind}
use Rattle.wave_model.specs.Fields.{is_bext, is_info, is_marked}
use Rattle.wave_model.specs.Edited.{is_carrier}
use Rattle.wave_model.specs.Why.{is_data}
use Rattle.wave_model.proofs.Values.{eq_sym}
use Rattle.wave_file.specs.Map.{is_field, role_of}
use Rattle.wave_file.specs.Reads.{carries, is_ranges, role_from, KeepsRanges}
use Rattle.wave_file.proofs.Grown.{Holding}

pub ok_map : {T E A B : Type 0} (r : Result T E) → (A → B) → OnOk r A → OnOk r B
ok_map (Ok x) f h = f h
ok_map (Err e) f h = tt

-- ---- a chunk is of one kind

and_false : (a b : Bool) → b ≡ false → (a && b) ≡ false
and_false true b e = e
and_false false b e = refl

-- an identifier that is in a list isn't one that is not
not_one : (xs : List (List ℕ)) (id w : List ℕ) → one_of xs w ≡ false → one_of xs id ≡ true → bytes_eq id w ≡ false
not_one xs id w e h = go (bytes_eq id w) refl
  where
    go : (t : Bool) → bytes_eq id w ≡ t → t ≡ false
    go true i = let yes : one_of xs w ≡ true = ap (one_of xs) (sym (bytes_same id w i)) ∙ h in absurd cc
    go false i = refl

both : (a b : Bool) → (a && b) ≡ true → (a ≡ true) × (b ≡ true)
both true b e = (refl, e)
both false b e = absurd cc

pub list_holds : (c : Chunk) → is_info c ≡ true → Holding c true false false
list_holds c e =
    let id : c.id ≡ codes "LIST" = bytes_same c.id (codes "LIST") (both (bytes_eq c.id (codes "LIST")) (bytes_eq (take 4 c.body) (codes "INFO")) (both (own_size c.form) _ e).1).0 in
    record {
      list_is = e;
      whole_is = and_false (own_size c.form) (one_of whole_ids c.id) (ap (one_of whole_ids) id);
      ranges_is = and_false (own_size c.form) (bytes_eq (codes "bext") c.id) (ap (bytes_eq (codes "bext")) id);
    }

pub whole_holds : (c : Chunk) → is_field c ≡ true → Holding c false true false
whole_holds c e =
    let there : one_of whole_ids c.id ≡ true = (both (own_size c.form) (one_of whole_ids c.id) e).1 in
    let list : bytes_eq c.id (codes "LIST") ≡ false = not_one whole_ids c.id (codes "LIST") refl there in
    let ranges : bytes_eq c.id (codes "bext") ≡ false = not_one whole_ids c.id (codes "bext") refl there in
    record {
      list_is = and_false (own_size c.form) (bytes_eq c.id (codes "LIST") && bytes_eq (take 4 c.body) (codes "INFO")) (ap (λ (t : Bool). t && bytes_eq (take 4 c.body) (codes "INFO")) list);
      whole_is = e;
      ranges_is = and_false (own_size c.form) (bytes_eq (codes "bext") c.id) (eq_sym (codes "bext") c.id ∙ ranges);
    }

pub bext_holds : (c : Chunk) → is_bext c ≡ true → Holding c false false true
bext_holds c e =
    let id : codes "bext" ≡ c.id = bytes_same (codes "bext") c.id (both (own_size c.form) (bytes_eq (codes "bext") c.id) e).1 in
    record {
      list_is = and_false (own_size c.form) (bytes_eq c.id (codes "LIST") && bytes_eq (take 4 c.body) (codes "INFO")) (ap (λ (x : List ℕ). bytes_eq x (codes "LIST") && bytes_eq (take 4 c.body) (codes "INFO")) (sym id));
      whole_is = and_false (own_size c.form) (one_of whole_ids c.id) (ap (one_of whole_ids) (sym id));
      ranges_is = e;
    }

-- ---- roles

abbrev role_by : Bool → Bool → Bool → Bool → Bool → Role
role_by l w e d p = if l then Info else (if w then Whole else (if e then Bext else (if d then Essence else (if p then Padding else Opaque))))

by_list : (l w e d p : Bool) → role_by l w e d p ≡ Info → l ≡ true
by_list true w e d p h = refl
by_list false true e d p h = absurd cc
by_list false false true d p h = absurd cc
by_list false false false true p h = absurd cc
by_list false false false false true h = absurd cc
by_list false false false false false h = absurd cc

by_whole : (l w e d p : Bool) → role_by l w e d p ≡ Whole → w ≡ true
by_whole true w e d p h = absurd cc
by_whole false true e d p h = refl
by_whole false false true d p h = absurd cc
by_whole false false false true p h = absurd cc
by_whole false false false false true h = absurd cc
by_whole false false false false false h = absurd cc

by_bext : (l w e d p : Bool) → role_by l w e d p ≡ Bext → e ≡ true
by_bext true w e d p h = absurd cc
by_bext false true e d p h = absurd cc
by_bext false false true d p h = refl
by_bext false false false true p h = absurd cc
by_bext false false false false true h = absurd cc
by_bext false false false false false h = absurd cc

record NoneOf (l w e : Bool) : Type 0 where
  first : l ≡ false
  second : w ≡ false
  third : e ≡ false

by_other : (l w e d p : Bool) (r : Role) → r ≡ role_by l w e d p → r ≢ Info → r ≢ Whole → r ≢ Bext → NoneOf l w e
by_other true w e d p r h i j k = absurd (i h)
by_other false true e d p r h i j k = absurd (j h)
by_other false false true d p r h i j k = absurd (k h)
by_other false false false d p r h i j k = record { first = refl; second = refl; third = refl }

pub role_list : (c : Chunk) → role_of c ≡ Info → is_info c ≡ true
role_list c h = by_list (is_info c) (is_field c) (is_bext c) (is_data c) (is_padding c) h

pub role_whole : (c : Chunk) → role_of c ≡ Whole → is_field c ≡ true
role_whole c h = by_whole (is_info c) (is_field c) (is_bext c) (is_data c) (is_padding c) h

pub role_bext : (c : Chunk) → role_of c ≡ Bext → is_bext c ≡ true
role_bext c h = by_bext (is_info c) (is_field c) (is_bext c) (is_data c) (is_padding c) h

pub role_other : (c : Chunk) (r : Role) → r ≡ role_of c → r ≢ Info → r ≢ Whole → r ≢ Bext → Holding c false false false
role_other c r h i j k =
    let none = by_other (is_info c) (is_field c) (is_bext c) (is_data c) (is_padding c) r h i j k in
    record { list_is = none.first; whole_is = none.second; ranges_is = none.third }

-- the carriers, and `bext`
marks : (c : Chunk) → is_marked c ≡ (is_bext c || is_field c)
marks c = go (own_size c.form) (eq_sym c.id (codes "bext"))
  where
    go : (o : Bool) → bytes_eq c.id (codes "bext") ≡ bytes_eq (codes "bext") c.id
        → (o && (bytes_eq c.id (codes "bext") || one_of whole_ids c.id)) ≡ ((o && bytes_eq (codes "bext") c.id) || (o && one_of whole_ids c.id))
    go true e = ap (λ (t : Bool). t || one_of whole_ids c.id) e
    go false e = refl

carried : (l w e d p : Bool) → carries (role_by l w e d p) ≡ (l || (e || w))
carried true w e d p = refl
carried false true true d p = refl
carried false true false d p = refl
carried false false true d p = refl
carried false false false true p = refl
carried false false false false true = refl
carried false false false false false = refl

pub role_carries : (c : Chunk) → carries (role_of c) ≡ is_carrier c
role_carries c = carried (is_info c) (is_field c) (is_bext c) (is_data c) (is_padding c) ∙ ap (λ (t : Bool). is_info c || t) (sym (marks c))

ranged : (l w e d p : Bool) → (e ≡ true → (l ≡ false) × (w ≡ false)) → is_ranges (role_by l w e d p) ≡ e
ranged true w true d p h = absurd (let no = (h refl).0 in cc)
ranged true w false d p h = refl
ranged false true true d p h = absurd (let no = (h refl).1 in cc)
ranged false true false d p h = refl
ranged false false true d p h = refl
ranged false false false true p h = refl
ranged false false false false true h = refl
ranged false false false false false h = refl

pub role_ranges : (c : Chunk) → is_ranges (role_of c) ≡ is_bext c
role_ranges c = ranged (is_info c) (is_field c) (is_bext c) (is_data c) (is_padding c) (λ e. let h = bext_holds c e in (h.list_is, h.whole_is))

-- ---- what is read of a chunk

-- fewer than four bytes are no word
pub short_word : (w : List ℕ) → length w < 4 → bytes_eq w (codes "INFO") ≡ false
short_word w h = go (bytes_eq w (codes "INFO")) refl
  where
    go : (t : Bool) → bytes_eq w (codes "INFO") ≡ t → t ≡ false
    go true e = absurd (omega (arith, h, ap length (bytes_same w (codes "INFO") e)))
    go false e = refl

pub short_list : (c : Chunk) → length c.body < 4 → is_info c ≡ false
short_list c h =
    and_false (own_size c.form) (bytes_eq c.id (codes "LIST") && bytes_eq (take 4 c.body) (codes "INFO"))
    (and_false (bytes_eq c.id (codes "LIST")) (bytes_eq (take 4 c.body) (codes "INFO")) (short_word (take 4 c.body) (omega (arith, length-take 4 c.body))))

pub role_read : (b : List ℕ) (k : ChunkAt) (t : Bool) → role_from (not t) k.id.0 (take 4 (chunk_in b (form_kind t) k).body) ≡ role_of (chunk_in b (form_kind t) k)
role_read b k true = refl
role_read b k false = refl

-- where there is no list, the first word does not matter
pub role_same : (own : Bool) (id v w : List ℕ) → (bytes_eq id (codes "LIST") && bytes_eq v (codes "INFO")) ≡ (bytes_eq id (codes "LIST") && bytes_eq w (codes "INFO")) → role_from own id v ≡ role_from own id w
role_same own id v w e =
    ap (λ (t : Bool). if own && t then Info else (if own && one_of whole_ids id then Whole else (if own && bytes_eq (codes "bext") id then Bext else (if bytes_eq (codes "data") id then Essence else (if own && bytes_eq id (codes "JUNK") then Padding else Opaque))))) e

pub role_no_list : (own : Bool) (id v w : List ℕ) → bytes_eq id (codes "LIST") ≡ false → role_from own id v ≡ role_from own id w
role_no_list own id v w e = role_same own id v w (ap (λ (t : Bool). t && bytes_eq v (codes "INFO")) e ∙ sym (ap (λ (t : Bool). t && bytes_eq w (codes "INFO")) e))

pub role_short : (own : Bool) (id v w : List ℕ) → bytes_eq v (codes "INFO") ≡ false → length w < 4 → role_from own id v ≡ role_from own id w
role_short own id v w e h = role_same own id v w (ap (λ (t : Bool). bytes_eq id (codes "LIST") && t) (e ∙ sym (short_word w h)))

from_whole : (a o w b d p : Bool) → (if o && a then Info else (if o && w then Whole else (if o && b then Bext else (if d then Essence else (if o && p then Padding else Opaque))))) ≡ Whole → w ≡ true
from_whole a true true b d p h = refl
from_whole true true false b d p h = absurd cc
from_whole false true false true d p h = absurd cc
from_whole false true false false true p h = absurd cc
from_whole false true false false false true h = absurd cc
from_whole false true false false false false h = absurd cc
from_whole a false w b true p h = absurd cc
from_whole a false w b false p h = absurd cc

pub whole_named : (own : Bool) (id word : List ℕ) (r : Role) → r ≡ role_from own id word → r ≡ Whole → one_of whole_ids id ≡ true
whole_named own id word r e h =
    from_whole (bytes_eq id (codes "LIST") && bytes_eq word (codes "INFO")) own (one_of whole_ids id) (bytes_eq (codes "bext") id) (bytes_eq (codes "data") id) (bytes_eq id (codes "JUNK")) (sym e ∙ h)

pub keeps_other : (r : Role) (es : List Entry) → r ≢ Bext → KeepsRanges r es es
keeps_other Opaque es h = λ f. refl
keeps_other Padding es h = λ f. refl
keeps_other Bext es h = absurd (h refl)
keeps_other Info es h = λ f. refl
keeps_other Whole es h = λ f. refl
keeps_other Sizes es h = λ f. refl
keeps_other Tables es h = λ f. refl
keeps_other UserData es h = λ f. refl
keeps_other Essence es h = λ f. refl
keeps_other Rest es h = λ f. refl
