-- A list of INFO items keeps the law of carriers, and the padding of units is JUNK.
use Rattle.std.proofs.Common.{◌≡◌, ℕ, ◌-◌, ◌^◌, ◌<◌, Bool, true, false, leb, List, [], ◌∷◌, length, map, drop, Option, Some, None, refl, ap, ◌∙◌, arith}
use Rattle.std.specs.Prelude.{◌||◌, ◌&&◌, codes}
use Rattle.std.specs.Str.{bytes_eq}
use Rattle.std.specs.List.{AllByRecursion}
use Rattle.std.proofs.lemmas.Bool.{and_parts}
use Rattle.std.proofs.lemmas.List.{append-nil, length-replicate, length-append}
use Rattle.container_model.specs.Chunk.{riff, Chunk, Run, ends, pad_len, spell_all, Pads}
use Rattle.container_model.specs.Items.{Item, values, put_all, item_token, AreMade, IsMade, edit_carrier, OpensAs, Rereads}
use Rattle.container_model.proofs.Items.{all_after, MakesGood, same_true}
use Rattle.container_model.proofs.Reread.{IsPadded, ArePadded, Pads-padded}
use Rattle.container_model.proofs.Plain.{IsPlain, ArePlain, plain_again, plain_chunks, plain_left}
use Rattle.part_tree.specs.Names.{info_ids}
use Rattle.carrier_model.specs.Lists.{part_of}
use Rattle.carrier_model.specs.Info.{is_type, is_padding, list_run, made, remade, list_of, one_of, info_items, info, fill_by, room, riff_fill, SetsInfo, ItemsSmall, InfoReady}

pub made_padded : (id body : List ℕ) → IsPadded (made id body)
made_padded id body = length-replicate (pad_len riff (length body)) 0

pub made_plain : (id body : List ℕ) → length id ≡ 4 → IsPlain (made id body)
made_plain id body h = record { form_is = refl; id_len = h }

remade_padded : (cs : List Chunk) → ArePadded (map remade cs)
remade_padded [] = tt
remade_padded (c ∷ cs) = (made_padded c.id c.body, remade_padded cs)

remade_plain : (cs : List Chunk) → ArePlain cs → ArePlain (map remade cs)
remade_plain [] h = tt
remade_plain (c ∷ cs) h = (made_plain c.id c.body h.0.id_len, remade_plain cs h.1)

-- a list that is made anew is read as its items and its rest
pub list_again : (items : List Chunk) (rest : List ℕ) → ArePlain items → length rest < 8 → length (spell_all (map remade items)) < 2 ^ 32
    → list_run (list_of items rest) ≡ record { chunks = map remade items; stop = ends; left = rest }
list_again items rest h r lt =
    let p : Pads (map remade items) rest = rw (← append-nil (map remade items)) (Pads-padded (map remade items) [] rest (remade_padded items) tt) in
    plain_again (map remade items) rest (remade_plain items h) p r lt

-- ---- identifiers

-- each of the identifiers has four bytes
abbrev pub OfFour : List (List ℕ) → Type 0
OfFour xs = AllByRecursion (λ x. length x ≡ 4) xs

pub id_of_four : (xs : List (List ℕ)) (id : List ℕ) → OfFour xs → one_of xs id ≡ true → length id ≡ 4
id_of_four [] id h e = absurd cc
id_of_four (x ∷ xs) id h e = go (bytes_eq id x) refl e (id_of_four xs id h.1)
  where
    go : (t : Bool) → bytes_eq id x ≡ t → (t || one_of xs id) ≡ true → (one_of xs id ≡ true → length id ≡ 4) → length id ≡ 4
    go true is e ih = ap length (same_true id x is) ∙ h.0
    go false is e ih = ih e

pub info_len : (id : List ℕ) → one_of info_ids id ≡ true → length id ≡ 4
info_len id e = id_of_four info_ids id (refl, (refl, (refl, (refl, (refl, (refl, (refl, (refl, (refl, (refl, (refl, (refl, (refl, (refl, (refl, (refl, (refl, tt))))))))))))))))) e

-- ---- the law of carriers

info_made : (e : List (Item (List ℕ))) → SetsInfo e → AreMade info_items e
info_made [] h = tt
info_made (i ∷ e) h = (one i.name i.value h.0, info_made e h.1)
  where
    one : (name : List ℕ) (value : Option (List ℕ)) → one_of info_ids name ≡ true → IsMade info_items name value
    one name None h = tt
    one name (Some v) h = (refl, rw h refl)

info_good : (e : List (Item (List ℕ))) → SetsInfo e → AllByRecursion (λ i. MakesGood info_items IsPlain i.name i.value) e
info_good [] h = tt
info_good (i ∷ e) h = (one i.name i.value h.0, info_good e h.1)
  where
    one : (name : List ℕ) (value : Option (List ℕ)) → one_of info_ids name ≡ true → MakesGood info_items IsPlain name value
    one name None h = tt
    one name (Some v) h = made_plain name v (info_len name h)

remade_values : (name : List ℕ) (cs : List Chunk) → values info_items name (map remade cs) ≡ values info_items name cs
remade_values name [] = refl
remade_values name (c ∷ cs) = rw (remade_values name cs) refl

remade_tokens : (cs : List Chunk) → ArePlain cs → map (item_token info_items) (map remade cs) ≡ map (item_token info_items) cs
remade_tokens [] h = refl
remade_tokens (c ∷ cs) h = rw (h.0.form_is, remade_tokens cs h.1) refl

opens_as : (c : Chunk) (items : List Chunk) (rest : List ℕ) → ArePlain items → list_run c ≡ record { chunks = map remade items; stop = ends; left = rest } → OpensAs info info_items c items rest
opens_as c items rest h e =
    record {
      whole = ap (λ (r : Run). r.stop) e;
      items_same = (λ name. ap (λ (r : Run). values info_items name r.chunks) e ∙ remade_values name items, ap (λ (r : Run). map (item_token info_items) r.chunks) e ∙ remade_tokens items h);
      rest_same = ap (λ (r : Run). r.left) e;
    }

pub info_rereads : Rereads info info_items SetsInfo InfoReady ItemsSmall
info_rereads = record {
  sets_made = info_made;
  edited_again = λ e c h r.
      let items = put_all info_items e (list_run c).chunks in
      let plain = all_after info_items IsPlain e (list_run c).chunks (info_good e h) (plain_chunks (drop 4 c.body)) in
      opens_as (edit_carrier info info_items e c) items (list_run c).left plain (list_again items (list_run c).left plain (plain_left (drop 4 c.body) r.0) r.1);
  fresh_again = λ e h s.
      let items = put_all info_items e [] in
      let plain = all_after info_items IsPlain e [] (info_good e h) tt in
      opens_as (list_of items []) items [] plain (list_again items [] plain (omega arith) s);
}

pub part_sets : (h : List ℕ → ℕ) (n : ℕ) (e : List (Item (List ℕ))) → SetsInfo e → SetsInfo (part_of h n e)
part_sets h n [] s = tt
part_sets h n (i ∷ e) s = (s.0, part_sets h n e s.1)

pub closed_is : (c : Chunk) (items : List Chunk) (rest : List ℕ) → info.is (info.closing c items rest) ≡ true
closed_is c items rest = refl

pub fresh_is : (items : List Chunk) → info.is (info.fresh items) ≡ true
fresh_is items = refl

-- a list that is short enough, edited, has items that are
pub small_items : (items : List Chunk) (rest : List ℕ) → length (list_of items rest).body < 2 ^ 32 → ItemsSmall items
small_items items rest h = omega (arith, h, length-append (spell_all (map remade items)) rest)

-- ---- padding

pub fill_all : (P : Chunk → Type 0) → ((body : List ℕ) → P (made (codes "JUNK") body)) → (ends_file last : Bool) (slot : List ℕ) (n : ℕ) → AllByRecursion P (riff_fill ends_file last slot n)
fill_all P h ends_file last slot n = go (leb (length slot) n || (ends_file && last))
  where
    go : (t : Bool) → AllByRecursion P (fill_by slot n t)
    go true = tt
    go false = (h (room (length slot - n) slot n), tt)

pub padding_no_list : (w : List ℕ) (c : Chunk) → is_padding c ≡ true → is_type w c ≡ false
padding_no_list w c e =
    let p = and_parts _ (bytes_eq c.id (codes "JUNK")) e in
    rw (p.0, same_true c.id (codes "JUNK") p.1) refl
