-- What all steps leave of the values of each field, and what an update makes of them.
use Rattle.std.proofs.Common.{◌≡◌, ℕ, zero, suc, ◌^◌, ◌≤◌, Bool, true, false, cond, List, [], ◌∷◌, ◌++◌, length, map, Option, Some, None, refl, sym, ap, ◌∙◌}
use Rattle.std.specs.Prelude.{◌||◌, ◌&&◌, codes, option_map}
use Rattle.std.specs.Str.{bytes_eq}
use Rattle.std.specs.List.{flat_map, list_any, AllByRecursion}
use Rattle.std.proofs.lemmas.Bool.{cond-true, cond-false}
use Rattle.part_tree.specs.declared.field.FieldName.{FieldName}
use Rattle.part_tree.specs.declared.field.FieldName.TheVariants.{Bext, Info, Whole}
use Rattle.part_tree.specs.declared.field.Value.{Value}
use Rattle.part_tree.specs.Letters.{four}
use Rattle.part_tree.specs.Names.{bext_row, info_ids, whole_ids, same_name}
use Rattle.field_model.specs.Body.{FillsRange}
use Rattle.field_model.specs.Fields.{plain}
use Rattle.field_model.specs.Update.{RawItem, updated_values}
use Rattle.field_model.specs.Update as update
use Rattle.field_model.proofs.Same.{same_either}
use Rattle.container_model.specs.Chunk.{Chunk, ends}
use Rattle.container_model.specs.Items.{Item, updated, listed}
use Rattle.container_model.proofs.Items.{same_true}
use Rattle.carrier_model.specs.Cells.{never, acted}
use Rattle.carrier_model.specs.Lists.{list_values, values_held, lists_act, ActReady, place_lists}
use Rattle.carrier_model.specs.Info.{own_size, list_run, made, one_of, info, info_items, SetsInfo, InfoReady, ItemsSmall}
use Rattle.carrier_model.proofs.Cells.{Unseen, acted_unseen, Makes, made_by, all_acted}
use Rattle.carrier_model.proofs.Lists.{lists_values, lists_nodes, lists_end}
use Rattle.carrier_model.proofs.Info.{info_rereads, part_sets, closed_is, fresh_is}
use Rattle.wave_model.specs.Fields.{has_id, is_bext, is_whole, is_info, body_in, bodies, plain_nodes, nodes}
use Rattle.wave_model.specs.Carry.{raw, info_item, info_part, edits_bext, names_whole, or_last, whole_part, bext_act, some_chunk, first_becomes, whole_by, whole_act, steps, placed, place_wholes}
use Rattle.carrier_model.specs.Steps.{stepped}
use Rattle.carrier_model.proofs.Steps.{steps_unseen}
use Rattle.wave_model.proofs.Acts.{wholes_on, Blind, bext_unseen, info_unseen, whole_unseen, bext_after, bext_bodies, whole_after, whole_bodies}
use Rattle.wave_model.proofs.Nodes.{bext_nodes, wholes_nodes, no_lists, sees_never}

-- ---- views that see no chunk of an identifier

blind_body : (p : Chunk → Bool) (id : List ℕ) → ((c : Chunk) → c.id ≡ id → p c ≡ false) → Blind id (body_in p)
blind_body p id h c e = cond-false (p c) (c.body ∷ []) [] (h c e)

and_false : (a b : Bool) → b ≡ false → (a && b) ≡ false
and_false true b e = e
and_false false b e = refl

not_bext : (id : List ℕ) → bytes_eq (codes "bext") id ≡ false → (c : Chunk) → c.id ≡ id → is_bext c ≡ false
not_bext id n c e = and_false (own_size c.form) _ (ap (bytes_eq (codes "bext")) e ∙ n)

not_whole : (w id : List ℕ) → bytes_eq w id ≡ false → (c : Chunk) → c.id ≡ id → is_whole w c ≡ false
not_whole w id n c e = and_false (own_size c.form) _ (and_false (one_of whole_ids w) _ (ap (bytes_eq w) e ∙ n))

not_info : (id : List ℕ) → bytes_eq id (codes "LIST") ≡ false → (c : Chunk) → c.id ≡ id → is_info c ≡ false
not_info id n c e =
    let no : bytes_eq c.id (codes "LIST") ≡ false = ap (λ (x : List ℕ). bytes_eq x (codes "LIST")) e ∙ n in
    and_false (own_size c.form) _ (rw no refl)

not_id : (x id : List ℕ) → bytes_eq x id ≡ false → (c : Chunk) → c.id ≡ id → has_id x c ≡ false
not_id x id n c e = ap (bytes_eq x) e ∙ n

blind_held : (name id : List ℕ) → bytes_eq id (codes "LIST") ≡ false → Blind id (values_held info info_items name)
blind_held name id n c e = cond-false (is_info c) _ [] (not_info id n c e)

-- a word that is none of the identifiers of whole fields
apart : (x : List ℕ) → one_of whole_ids x ≡ false → (w : List ℕ) → one_of whole_ids w ≡ true → bytes_eq x w ≡ false
apart x n w f = go (bytes_eq x w) refl
  where
    go : (t : Bool) → bytes_eq x w ≡ t → t ≡ false
    go true i = let here : one_of whole_ids x ≡ true = ap (one_of whole_ids) (same_true x w i) ∙ f in absurd cc
    go false i = refl

apart_right : (x : List ℕ) → one_of whole_ids x ≡ false → (w : List ℕ) → one_of whole_ids w ≡ true → bytes_eq w x ≡ false
apart_right x n w f = go (bytes_eq w x) refl
  where
    go : (t : Bool) → bytes_eq w x ≡ t → t ≡ false
    go true i = let here : one_of whole_ids x ≡ true = ap (one_of whole_ids) (sym (same_true w x i)) ∙ f in absurd cc
    go false i = refl

-- ---- all steps

abbrev pub after_bext : List RawItem → List Chunk → List Chunk
after_bext e cs = acted (bext_act e cs) cs

abbrev pub after_info : List RawItem → List Chunk → List Chunk
after_info e cs = acted (lists_act info info_items never (info_part e) (after_bext e cs)) (after_bext e cs)

wholes_unseen : {X : Type 0} (v : Chunk → List X) → ((w : List ℕ) → one_of whole_ids w ≡ true → Blind w v) → (e : List RawItem) (cs : List Chunk) → flat_map v (stepped (map (λ w. whole_act w e) whole_ids) cs) ≡ flat_map v cs
wholes_unseen v b e cs = steps_unseen v (map (λ w. whole_act w e) whole_ids) (wholes_on (Unseen v) e (λ w ds f. whole_unseen v w (b w f) e ds)) cs

-- a view that sees no chunk of a field
pub unseen_all : {X : Type 0} (v : Chunk → List X) → Blind (codes "bext") v → Blind (codes "LIST") v → ((w : List ℕ) → one_of whole_ids w ≡ true → Blind w v) → (e : List RawItem) (cs : List Chunk) → flat_map v (stepped (steps e) cs) ≡ flat_map v cs
unseen_all v b l ws e cs =
    wholes_unseen v ws e (after_info e cs) ∙ acted_unseen v (lists_act info info_items never (info_part e) (after_bext e cs)) (info_unseen v l (info_part e) (after_bext e cs)) (after_bext e cs)
    ∙ acted_unseen v (bext_act e cs) (bext_unseen v b e cs) cs

pub format_bodies : (e : List RawItem) (cs : List Chunk) → bodies (has_id (codes "fmt ")) (stepped (steps e) cs) ≡ bodies (has_id (codes "fmt ")) cs
format_bodies e cs = unseen_all (body_in (has_id (codes "fmt "))) (blind_body _ _ (not_id (codes "fmt ") (codes "bext") refl)) (blind_body _ _ (not_id (codes "fmt ") (codes "LIST") refl)) (λ w f. blind_body _ w (not_id (codes "fmt ") w (apart (codes "fmt ") refl w f))) e cs

pub sound_bodies : (e : List RawItem) (cs : List Chunk) → bodies (has_id (codes "data")) (stepped (steps e) cs) ≡ bodies (has_id (codes "data")) cs
sound_bodies e cs = unseen_all (body_in (has_id (codes "data"))) (blind_body _ _ (not_id (codes "data") (codes "bext") refl)) (blind_body _ _ (not_id (codes "data") (codes "LIST") refl)) (λ w f. blind_body _ w (not_id (codes "data") w (apart (codes "data") refl w f))) e cs

-- `bext`
pub all_bext : (e : List RawItem) (cs : List Chunk) → bodies is_bext (stepped (steps e) cs) ≡ bext_after e (edits_bext e) (bodies is_bext cs)
all_bext e cs =
    wholes_unseen (body_in is_bext) (λ w f. blind_body is_bext w (not_bext w (apart (codes "bext") refl w f))) e (after_info e cs)
    ∙ acted_unseen (body_in is_bext) (lists_act info info_items never (info_part e) (after_bext e cs)) (info_unseen (body_in is_bext) (blind_body is_bext (codes "LIST") (not_bext (codes "LIST") refl)) (info_part e) (after_bext e cs)) (after_bext e cs)
    ∙ bext_bodies e cs

-- the lists
pub info_bodies : (e : List RawItem) (cs : List Chunk) → bodies is_info (stepped (steps e) cs) ≡ bodies is_info (after_info e cs)
info_bodies e cs = wholes_unseen (body_in is_info) (λ w f. blind_body is_info w (not_info w (apart_right (codes "LIST") refl w f))) e (after_info e cs)

-- ---- whole chunks

after_both : (a b : Option (Option Value)) (bs : List (List ℕ)) → whole_after (or_last a b) bs ≡ whole_after b (whole_after a bs)
after_both a None bs = refl
after_both a (Some None) bs = refl
after_both a (Some (Some v)) bs = refl

after_twice : (a : Option (Option Value)) (bs : List (List ℕ)) → whole_after a (whole_after a bs) ≡ whole_after a bs
after_twice None bs = refl
after_twice (Some None) bs = refl
after_twice (Some (Some v)) bs = refl

wholes_bodies : (w : List ℕ) → one_of whole_ids w ≡ true → (e : List RawItem) (ws : List (List ℕ)) → AllByRecursion (λ x. one_of whole_ids x ≡ true) ws → (cs : List Chunk)
    → bodies (is_whole w) (stepped (map (λ x. whole_act x e) ws) cs) ≡ cond (list_any (bytes_eq w) ws) (whole_after (whole_part w e) (bodies (is_whole w) cs)) (bodies (is_whole w) cs)
wholes_bodies w f e [] g cs = refl
wholes_bodies w f e (x ∷ ws) g cs = wholes_bodies w f e ws g.1 (acted (whole_act x e cs) cs) ∙ go (bytes_eq w x) refl (list_any (bytes_eq w) ws)
  where
    bs : List (List ℕ)
    bs = bodies (is_whole w) cs

    go : (t : Bool) → bytes_eq w x ≡ t → (u : Bool)
        → cond u (whole_after (whole_part w e) (bodies (is_whole w) (acted (whole_act x e cs) cs))) (bodies (is_whole w) (acted (whole_act x e cs) cs))
        ≡ cond (t || u) (whole_after (whole_part w e) (bodies (is_whole w) cs)) (bodies (is_whole w) cs)
    go true i u =
        let one : bodies (is_whole w) (acted (whole_act x e cs) cs) ≡ whole_after (whole_part w e) (bodies (is_whole w) cs)
        = ap (λ (y : List ℕ). bodies (is_whole w) (acted (whole_act y e cs) cs)) (sym (same_true w x i)) ∙ whole_bodies w e cs f in
        ap (λ (b : List (List ℕ)). cond u (whole_after (whole_part w e) b) b) one ∙ both u
      where
        both : (u : Bool) → cond u (whole_after (whole_part w e) (whole_after (whole_part w e) (bodies (is_whole w) cs))) (whole_after (whole_part w e) (bodies (is_whole w) cs)) ≡ whole_after (whole_part w e) (bodies (is_whole w) cs)
        both true = after_twice (whole_part w e) (bodies (is_whole w) cs)
        both false = refl
    go false i u =
        ap (λ (b : List (List ℕ)). cond u (whole_after (whole_part w e) b) b) (acted_unseen (body_in (is_whole w)) (whole_act x e cs) (whole_unseen (body_in (is_whole w)) x (blind_body (is_whole w) x (not_whole w x i)) e cs) cs)

pub all_whole : (w : List ℕ) → one_of whole_ids w ≡ true → (e : List RawItem) (cs : List Chunk) → bodies (is_whole w) (stepped (steps e) cs) ≡ whole_after (whole_part w e) (bodies (is_whole w) cs)
all_whole w f e cs =
    wholes_bodies w f e whole_ids (refl, (refl, (refl, (refl, tt)))) (after_info e cs)
    ∙ cond-true (list_any (bytes_eq w) whole_ids) (whole_after (whole_part w e) (bodies (is_whole w) (after_info e cs))) (bodies (is_whole w) (after_info e cs)) f
    ∙ ap (whole_after (whole_part w e))
    (acted_unseen (body_in (is_whole w)) (lists_act info info_items never (info_part e) (after_bext e cs)) (info_unseen (body_in (is_whole w)) (blind_body (is_whole w) (codes "LIST") (not_whole w (codes "LIST") (apart_right (codes "LIST") refl w f))) (info_part e) (after_bext e cs)) (after_bext e cs)
    ∙ acted_unseen (body_in (is_whole w)) (bext_act e cs) (bext_unseen (body_in (is_whole w)) (blind_body (is_whole w) (codes "bext") (not_whole w (codes "bext") (apart_right (codes "bext") refl w f))) e cs) cs)

-- ---- INFO

info_sets : (e : List RawItem) → SetsInfo (info_part e)
info_sets [] = tt
info_sets (i ∷ e) = both (info_item i.name i.value) (one i.name i.value) (info_sets e)
  where
    both : (a : List (Item (List ℕ))) → SetsInfo a → SetsInfo (info_part e) → SetsInfo (a ++ info_part e)
    both [] h g = g
    both (x ∷ a) h g = (h.0, both a h.1 g)

    one : (name : FieldName) (value : Option Value) → SetsInfo (info_item name value)
    one (Bext field) value = tt
    one (Info id) value = go (one_of info_ids id.0) refl
      where
        go : (t : Bool) → one_of info_ids id.0 ≡ t → SetsInfo (cond t (record { name = id.0; value = option_map raw value } ∷ []) [])
        go true e = (e, tt)
        go false e = tt
    one (Whole id) value = tt
    one name value = tt

module _ (e : List RawItem) (cs : List Chunk) (ready : ActReady info info_items InfoReady ItemsSmall (info_part e) (after_bext e cs)) where
  pub all_info : (name : List ℕ) → list_values info info_items name (stepped (steps e) cs) ≡ updated (info_part e) name (list_values info info_items name cs)
  all_info name =
      wholes_unseen (values_held info info_items name) (λ w f. blind_held name w (apart_right (codes "LIST") refl w f)) e (after_info e cs)
      ∙ lists_values info info_items SetsInfo InfoReady ItemsSmall info_rereads part_sets closed_is fresh_is never (info_part e) name (after_bext e cs) (info_sets e) ready
      ∙ ap (updated (info_part e) name) (acted_unseen (values_held info info_items name) (bext_act e cs) (bext_unseen (values_held info info_items name) (blind_held name (codes "bext") refl) e cs) cs)

  -- the nodes stand where the edit places them
  pub all_nodes : nodes (stepped (steps e) cs) ≡ placed e (nodes cs)
  all_nodes =
      wholes_nodes e whole_ids (refl, (refl, (refl, (refl, tt)))) (after_info e cs)
      ∙ ap (place_wholes e whole_ids)
      (lists_nodes info info_items SetsInfo InfoReady ItemsSmall info_rereads part_sets closed_is fresh_is plain_nodes no_lists never (info_part e) (after_bext e cs) (info_sets e) ready sees_never
      ∙ ap (place_lists never (info_part e)) (bext_nodes e cs))

-- lists are read to their end
abbrev ListEnd : Chunk → Type 0
ListEnd c = is_info c ≡ true → (list_run c).stop ≡ ends

whole_ends : (w : List ℕ) → one_of whole_ids w ≡ true → (e : List RawItem) (cs : List Chunk) → AllByRecursion ListEnd cs → AllByRecursion ListEnd (acted (whole_act w e cs) cs)
whole_ends w f e cs h = all_acted ListEnd (whole_act w e cs) (go (whole_part w e) (some_chunk (is_whole w) cs)) cs h
  where
    one : (raw : List ℕ) → ListEnd (made w raw)
    one raw i = let no : is_info (made w raw) ≡ false = not_info w (apart_right (codes "LIST") refl w f) (made w raw) refl in absurd cc

    first : (new : List Chunk) → AllByRecursion ListEnd new → (n : ℕ) (c : Chunk) → AllByRecursion ListEnd (made_by (first_becomes new n c))
    first new h zero c = h
    first new h (suc n) c = tt

    go : (v : Option (Option Value)) (t : Bool) → Makes ListEnd (whole_by w v t)
    go None t = tt
    go (Some None) t = λ n c. first [] tt n c
    go (Some (Some v)) true = λ n c. first (made w v.raw ∷ []) (one v.raw, tt) n c
    go (Some (Some v)) false = one v.raw

wholes_end : (e : List RawItem) (ws : List (List ℕ)) → AllByRecursion (λ x. one_of whole_ids x ≡ true) ws → (cs : List Chunk) → AllByRecursion ListEnd cs → AllByRecursion ListEnd (stepped (map (λ x. whole_act x e) ws) cs)
wholes_end e [] f cs h = h
wholes_end e (w ∷ ws) f cs h = wholes_end e ws f.1 (acted (whole_act w e cs) cs) (whole_ends w f.0 e cs h)

pub all_ends : (e : List RawItem) (cs : List Chunk) → ActReady info info_items InfoReady ItemsSmall (info_part e) (after_bext e cs) → AllByRecursion ListEnd (after_bext e cs) → AllByRecursion ListEnd (stepped (steps e) cs)
all_ends e cs ready h =
    wholes_end e whole_ids (refl, (refl, (refl, (refl, tt)))) (after_info e cs)
    (lists_end info info_items SetsInfo InfoReady ItemsSmall info_rereads part_sets closed_is fresh_is never (info_part e) (after_bext e cs) (info_sets e) ready h)

-- ---- what an update makes of values

-- an item that its field can have
abbrev pub ItemFine : FieldName → Option Value → Type 0
ItemFine (Bext field) None = ⊥
ItemFine (Bext field) (Some v) = (v.lang ≡ 0) × FillsRange field v.raw × (bext_row field ≡ 14 → length v.raw ≤ 2 ^ 20)
ItemFine (Info id) None = Unit {0}
ItemFine (Info id) (Some v) = v.lang ≡ 0
ItemFine (Whole id) None = Unit {0}
ItemFine (Whole id) (Some v) = (v.lang ≡ 0) × (length v.raw ≤ 2 ^ 24)
ItemFine name value = ⊥

abbrev pub ItemsFine : List RawItem → Type 0
ItemsFine e = AllByRecursion (λ i. ItemFine i.name i.value) e

pub plain_is : (v : Value) → v.lang ≡ 0 → plain v.raw ≡ v
plain_is v e = ap (λ (l : ℕ). record { lang = l; raw = v.raw }) (sym e)

pub eq_sym : (a b : List ℕ) → bytes_eq a b ≡ bytes_eq b a
eq_sym a b = same_either a b

updated_part : (a b : List (Item (List ℕ))) (name : List ℕ) (vs : List (List ℕ)) → updated (a ++ b) name vs ≡ updated b name (updated a name vs)
updated_part [] b name vs = refl
updated_part (i ∷ a) b name vs = updated_part a b name (cond (bytes_eq name i.name) (listed i.value) vs)

pub info_updated : (e : List RawItem) → ItemsFine e → (id : List ℕ) → one_of info_ids id ≡ true → (vs : List (List ℕ)) → map plain (updated (info_part e) id vs) ≡ updated_values e (Info (four id)) (map plain vs)
info_updated [] f id k vs = refl
info_updated (i ∷ e) f id k vs =
    ap (map plain) (updated_part (info_item i.name i.value) (info_part e) id vs) ∙ info_updated e f.1 id k (updated (info_item i.name i.value) id vs) ∙ ap (updated_values e (Info (four id))) (one i.name i.value f.0)
  where
    set : (v : Option Value) (name : List ℕ) → ItemFine (Info (four name)) v → map plain (listed (option_map raw v)) ≡ update.listed v
    set None name h = refl
    set (Some v) name h = ap (λ (x : Value). x ∷ []) (plain_is v h)

    by : (name : List ℕ) (value : Option Value) → ItemFine (Info (four name)) value → (t u : Bool) → one_of info_ids name ≡ t → bytes_eq id name ≡ u
        → map plain (updated (cond t (record { name = name; value = option_map raw value } ∷ []) []) id vs) ≡ cond u (update.listed value) (map plain vs)
    by name value h true true a b = ap (λ (x : Bool). map plain (cond x (listed (option_map raw value)) vs)) b ∙ set value name h
    by name value h true false a b = ap (λ (x : Bool). map plain (cond x (listed (option_map raw value)) vs)) b
    by name value h false true a b = let z : one_of info_ids name ≡ true = sym (ap (one_of info_ids) (same_true id name b)) ∙ k in absurd cc
    by name value h false false a b = refl

    one : (name : FieldName) (value : Option Value) → ItemFine name value → map plain (updated (info_item name value) id vs) ≡ cond (same_name name (Info (four id))) (update.listed value) (map plain vs)
    one (Bext field) value h = refl
    one (Info x) value h = by x.0 value h (one_of info_ids x.0) (bytes_eq id x.0) refl refl ∙ ap (λ (b : Bool). cond b (update.listed value) (map plain vs)) (eq_sym id x.0)
    one (Whole x) value h = refl
    one name value h = refl

pub whole_updated : (e : List RawItem) → ItemsFine e → (w : List ℕ) (bs : List (List ℕ)) → map plain (whole_after (whole_part w e) bs) ≡ updated_values e (Whole (four w)) (map plain bs)
whole_updated [] f w bs = refl
whole_updated (i ∷ e) f w bs =
    let first = cond (names_whole w i.name) (Some i.value) None in
    ap (map plain) (after_both first (whole_part w e) bs) ∙ whole_updated e f.1 w (whole_after first bs) ∙ ap (updated_values e (Whole (four w))) (one i.name i.value f.0)
  where
    set : (v : Option Value) (name : List ℕ) → ItemFine (Whole (four name)) v → map plain (whole_after (Some v) bs) ≡ update.listed v
    set None name h = refl
    set (Some v) name h = ap (λ (x : Value). x ∷ []) (plain_is v h.0)

    by : (name : List ℕ) (value : Option Value) → ItemFine (Whole (four name)) value → (t : Bool) → map plain (whole_after (cond t (Some value) None) bs) ≡ cond t (update.listed value) (map plain bs)
    by name value h true = set value name h
    by name value h false = refl

    one : (name : FieldName) (value : Option Value) → ItemFine name value → map plain (whole_after (cond (names_whole w name) (Some value) None) bs) ≡ cond (same_name name (Whole (four w))) (update.listed value) (map plain bs)
    one (Bext field) value h = refl
    one (Info x) value h = refl
    one (Whole x) value h = by x.0 value h (bytes_eq x.0 w)
    one name value h = refl
