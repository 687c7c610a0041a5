-- What each step of an edit makes, what it changes, and the bodies that it leaves.
use Rattle.std.proofs.Common.{◌≡◌, ℕ, zero, suc, Bool, true, false, cond, List, [], ◌∷◌, ◌++◌, length, map, Option, Some, None, refl, sym, ap, ◌∙◌}
use Rattle.std.specs.Prelude.{◌||◌, ◌&&◌, codes}
use Rattle.std.specs.Str.{bytes_eq}
use Rattle.std.specs.List.{flat_map, list_any, AllByRecursion}
use Rattle.std.proofs.lemmas.Bool.{and_parts}
use Rattle.std.proofs.lemmas.List.{append-nil}
use Rattle.std.proofs.lemmas.List.Concat.{flat_map-append}
use Rattle.part_tree.specs.declared.field.Value.{Value}
use Rattle.part_tree.specs.Names.{whole_ids}
use Rattle.field_model.specs.Bext.{new_body}
use Rattle.field_model.specs.Body.{edited_bext}
use Rattle.field_model.specs.Update.{RawItem}
use Rattle.container_model.specs.Chunk.{Chunk, spell_all}
use Rattle.container_model.specs.Items.{Item, put_all, edit_carrier}
use Rattle.container_model.proofs.Items.{same_true, same_refl}
use Rattle.container_model.proofs.Reread.{IsPadded}
use Rattle.container_model.proofs.Plain.{IsPlain}
use Rattle.carrier_model.specs.Cells.{Change, leave, become, changed, settle, Side, behind, before, Test, never, meets, beside, insert, Act, acted}
use Rattle.carrier_model.specs.Lists.{part_of, concerns, items_of, all_items, home, has_carrier, sets_some, new_carrier, lists_act_by, lists_act}
use Rattle.carrier_model.specs.Info.{own_size, is_padding, list_run, made, remade, list_of, one_of, info, info_items}
use Rattle.carrier_model.proofs.Cells.{Makes, made_by, Unseen}
use Rattle.carrier_model.proofs.Info.{made_padded, made_plain, id_of_four, padding_no_list}
use Rattle.wave_model.specs.Fields.{has_id, is_bext, is_whole, is_info, is_marked, body_in, bodies}
use Rattle.wave_model.specs.Carry.{info_part, edits_bext, whole_part, some_chunk, is_format, bext_by, bext_act, first_becomes, whole_by, whole_act, steps}
use Rattle.carrier_model.specs.Steps.{Step}
use Rattle.carrier_model.proofs.Steps.{AllMake, OwnAct, AllOwn, Passes, AllPass}

-- ---- a property of all steps

abbrev pub OnActs : (Act → Type 0) → List Step → Type 0
OnActs P ss = AllByRecursion (λ s. (cs : List Chunk) → P (s cs)) ss

pub wholes_on : (P : Act → Type 0) (e : List RawItem) → ((w : List ℕ) (cs : List Chunk) → one_of whole_ids w ≡ true → P (whole_act w e cs)) → OnActs P (map (λ w. whole_act w e) whole_ids)
wholes_on P e h = ((λ cs. h (codes "axml") cs refl), ((λ cs. h (codes "iXML") cs refl), ((λ cs. h (codes "_PMX") cs refl), ((λ cs. h (codes "MD5 ") cs refl), tt))))

pub steps_on : (P : Act → Type 0) (e : List RawItem) → ((cs : List Chunk) → P (bext_act e cs)) → ((cs : List Chunk) → P (lists_act info info_items never (info_part e) cs))
    → ((w : List ℕ) (cs : List Chunk) → one_of whole_ids w ≡ true → P (whole_act w e cs)) → OnActs P (steps e)
steps_on P e b i h = (b, (i, wholes_on P e h))

-- ---- what a step makes: a chunk of an identifier that holds fields, spelled anew

pub record IsMade (c : Chunk) : Type 0 where
  pub padded : IsPadded c
  pub plain : IsPlain c
  pub carrier : (is_info c || is_marked c) ≡ true

or_right : (a : Bool) → (a || true) ≡ true
or_right true = refl
or_right false = refl

pub whole_len : (w : List ℕ) → one_of whole_ids w ≡ true → length w ≡ 4
whole_len w e = id_of_four whole_ids w (refl, (refl, (refl, (refl, tt)))) e

bext_made : (body : List ℕ) → IsMade (made (codes "bext") body)
bext_made body = record { padded = made_padded (codes "bext") body; plain = made_plain (codes "bext") body refl; carrier = or_right (is_info (made (codes "bext") body)) }

list_made : (items : List Chunk) (rest : List ℕ) → IsMade (list_of items rest)
list_made items rest = record { padded = made_padded (codes "LIST") (codes "INFO" ++ (spell_all (map remade items) ++ rest)); plain = made_plain (codes "LIST") (codes "INFO" ++ (spell_all (map remade items) ++ rest)) refl; carrier = refl }

whole_made : (w body : List ℕ) → one_of whole_ids w ≡ true → IsMade (made w body)
whole_made w body e = record {
  padded = made_padded w body;
  plain = made_plain w body (whole_len w e);
  carrier = ap (λ (b : Bool). is_info (made w body) || (bytes_eq w (codes "bext") || b)) e ∙ ap (λ (b : Bool). is_info (made w body) || b) (or_right (bytes_eq w (codes "bext"))) ∙ or_right (is_info (made w body));
}

one_made : (P : Chunk → Type 0) (t : Bool) (c : Chunk) → P c → AllByRecursion P (made_by (cond t (become (c ∷ [])) leave))
one_made P true c h = (h, tt)
one_made P false c h = tt

made_bext : (e : List RawItem) (cs : List Chunk) → Makes IsMade (bext_act e cs)
made_bext e cs = go (edits_bext e) (some_chunk is_bext cs)
  where
    go : (t u : Bool) → Makes IsMade (bext_by e t u)
    go false u = tt
    go true true = λ n c. (bext_made (edited_bext e c.body), tt)
    go true false = bext_made (edited_bext e new_body)

made_info : (e : List (Item (List ℕ))) (cs : List Chunk) → Makes IsMade (lists_act info info_items never e cs)
made_info e cs = go (has_carrier info cs)
  where
    fresh : (b : Bool) → Makes IsMade (new_carrier info info_items never e b)
    fresh true = list_made (put_all info_items e []) []
    fresh false = tt

    go : (b : Bool) → Makes IsMade (lists_act_by info info_items never e cs b)
    go false = fresh (sets_some e)
    go true = λ n c. one_made IsMade (concerns (home (all_items info info_items cs)) n (items_of info info_items c) e) (edit_carrier info info_items (part_of (home (all_items info info_items cs)) n e) c) (list_made (put_all info_items (part_of (home (all_items info info_items cs)) n e) (list_run c).chunks) (list_run c).left)

made_first : (P : Chunk → Type 0) (new : List Chunk) → AllByRecursion P new → (n : ℕ) (c : Chunk) → AllByRecursion P (made_by (first_becomes new n c))
made_first P new h zero c = h
made_first P new h (suc n) c = tt

made_whole : (e : List RawItem) (w : List ℕ) (cs : List Chunk) → one_of whole_ids w ≡ true → Makes IsMade (whole_act w e cs)
made_whole e w cs f = go (whole_part w e) (some_chunk (is_whole w) cs)
  where
    go : (v : Option (Option Value)) (t : Bool) → Makes IsMade (whole_by w v t)
    go None t = tt
    go (Some None) t = λ n c. made_first IsMade [] tt n c
    go (Some (Some v)) true = λ n c. made_first IsMade (made w v.raw ∷ []) (whole_made w v.raw f, tt) n c
    go (Some (Some v)) false = whole_made w v.raw f

pub all_made : (e : List RawItem) → AllMake IsMade (steps e)
all_made e = steps_on (Makes IsMade) e (made_bext e) (made_info (info_part e)) (λ w cs f. made_whole e w cs f)

-- ---- it changes chunks of their own size alone

own_bext : (e : List RawItem) (cs : List Chunk) → OwnAct (bext_act e cs)
own_bext e cs = go (edits_bext e) (some_chunk is_bext cs)
  where
    go : (t u : Bool) → OwnAct (bext_by e t u)
    go false u = tt
    go true true = λ c h. (and_parts (own_size c.form) (has_id (codes "bext") c) h).0
    go true false = tt

own_info : (e : List (Item (List ℕ))) (cs : List Chunk) → OwnAct (lists_act info info_items never e cs)
own_info e cs = go (has_carrier info cs)
  where
    fresh : (b : Bool) → OwnAct (new_carrier info info_items never e b)
    fresh true = tt
    fresh false = tt

    go : (b : Bool) → OwnAct (lists_act_by info info_items never e cs b)
    go false = fresh (sets_some e)
    go true = λ c h. (and_parts (own_size c.form) _ h).0

own_whole : (e : List RawItem) (w : List ℕ) (cs : List Chunk) → OwnAct (whole_act w e cs)
own_whole e w cs = go (whole_part w e) (some_chunk (is_whole w) cs)
  where
    one : (c : Chunk) → is_whole w c ≡ true → own_size c.form ≡ true
    one c h = (and_parts (own_size c.form) _ h).0

    go : (v : Option (Option Value)) (t : Bool) → OwnAct (whole_by w v t)
    go None t = tt
    go (Some None) t = one
    go (Some (Some v)) true = one
    go (Some (Some v)) false = tt

pub all_own : (e : List RawItem) → AllOwn (steps e)
all_own e = steps_on OwnAct e (own_bext e) (own_info (info_part e)) (λ w cs f. own_whole e w cs)

-- ---- it leaves a first padding

pub junk_id : (c : Chunk) → is_padding c ≡ true → c.id ≡ codes "JUNK"
junk_id c e = same_true c.id (codes "JUNK") (and_parts (own_size c.form) _ e).1

and_no : (a : Bool) → (a && false) ≡ false
and_no true = refl
and_no false = refl

pub other_id : (w : List ℕ) (c : Chunk) → bytes_eq w (codes "JUNK") ≡ false → is_padding c ≡ true → has_id w c ≡ false
other_id w c n e = ap (bytes_eq w) (junk_id c e) ∙ n

pub junk_bext : (c : Chunk) → is_padding c ≡ true → is_bext c ≡ false
junk_bext c e = ap (λ (b : Bool). own_size c.form && b) (other_id (codes "bext") c refl e) ∙ and_no (own_size c.form)

among_no : (w : List ℕ) → one_of whole_ids w ≡ true → bytes_eq w (codes "JUNK") ≡ false
among_no w e = go (bytes_eq w (codes "JUNK")) refl
  where
    go : (t : Bool) → bytes_eq w (codes "JUNK") ≡ t → t ≡ false
    go true i = let here : one_of whole_ids (codes "JUNK") ≡ true = sym (ap (one_of whole_ids) (same_true w (codes "JUNK") i)) ∙ e in absurd cc
    go false i = refl

pub junk_whole : (w : List ℕ) (c : Chunk) → one_of whole_ids w ≡ true → is_padding c ≡ true → is_whole w c ≡ false
junk_whole w c f e = ap (λ (b : Bool). own_size c.form && (one_of whole_ids w && b)) (other_id w c (among_no w f) e) ∙ ap (λ (b : Bool). own_size c.form && b) (and_no (one_of whole_ids w)) ∙ and_no (own_size c.form)

pass_bext : (e : List RawItem) (c : Chunk) → is_padding c ≡ true → (cs : List Chunk) → Passes c (bext_act e cs)
pass_bext e c j cs = go (edits_bext e) (some_chunk is_bext cs)
  where
    go : (t u : Bool) → Passes c (bext_by e t u)
    go false u = tt
    go true true = junk_bext c j
    go true false = rw (junk_id c j) refl

pass_info : (e : List (Item (List ℕ))) (c : Chunk) → is_padding c ≡ true → (cs : List Chunk) → Passes c (lists_act info info_items never e cs)
pass_info e c j cs = go (has_carrier info cs)
  where
    fresh : (b : Bool) → Passes c (new_carrier info info_items never e b)
    fresh true = tt
    fresh false = tt

    go : (b : Bool) → Passes c (lists_act_by info info_items never e cs b)
    go false = fresh (sets_some e)
    go true = padding_no_list (codes "INFO") c j

pass_whole : (e : List RawItem) (c : Chunk) → is_padding c ≡ true → (w : List ℕ) (cs : List Chunk) → one_of whole_ids w ≡ true → Passes c (whole_act w e cs)
pass_whole e c j w cs f = go (whole_part w e) (some_chunk (is_whole w) cs)
  where
    go : (v : Option (Option Value)) (t : Bool) → Passes c (whole_by w v t)
    go None t = tt
    go (Some None) t = junk_whole w c f j
    go (Some (Some v)) true = junk_whole w c f j
    go (Some (Some v)) false = tt

pub all_pass : (e : List RawItem) (c : Chunk) → is_padding c ≡ true → AllPass c (steps e)
all_pass e c j = steps_on (Passes c) e (pass_bext e c j) (pass_info (info_part e) c j) (pass_whole e c j)

-- ---- chunks of an identifier, and a view that sees only others

abbrev pub Blind : {X : Type 0} → List ℕ → (Chunk → List X) → Type 0
Blind id v = (c : Chunk) → c.id ≡ id → v c ≡ []

blind_all : {X : Type 0} (id : List ℕ) (v : Chunk → List X) → Blind id v → (cs : List Chunk) → AllByRecursion (λ c. c.id ≡ id) cs → flat_map v cs ≡ []
blind_all id v b [] h = refl
blind_all id v b (c ∷ cs) h = rw (b c h.0, blind_all id v b cs h.1) refl

blind_first : {X : Type 0} (id : List ℕ) (v : Chunk → List X) → Blind id v → (new : List Chunk) → AllByRecursion (λ c. c.id ≡ id) new → (n : ℕ) (c : Chunk) → flat_map v (changed (first_becomes new n c) c) ≡ []
blind_first id v b new h zero c = blind_all id v b new h
blind_first id v b new h (suc n) c = refl

pub bext_unseen : {X : Type 0} (v : Chunk → List X) → Blind (codes "bext") v → (e : List RawItem) (cs : List Chunk) → Unseen v (bext_act e cs)
bext_unseen v b e cs = go (edits_bext e) (some_chunk is_bext cs)
  where
    id_is : (c : Chunk) → is_bext c ≡ true → c.id ≡ codes "bext"
    id_is c h = sym (same_true (codes "bext") c.id (and_parts (own_size c.form) _ h).1)

    go : (t u : Bool) → Unseen v (bext_by e t u)
    go false u = tt
    go true true = λ n c h. append-nil (v (made (codes "bext") (edited_bext e c.body))) ∙ b (made (codes "bext") (edited_bext e c.body)) refl ∙ sym (b c (id_is c h))
    go true false = b (made (codes "bext") (edited_bext e new_body)) refl

pub info_unseen : {X : Type 0} (v : Chunk → List X) → Blind (codes "LIST") v → (e : List (Item (List ℕ))) (cs : List Chunk) → Unseen v (lists_act info info_items never e cs)
info_unseen v b e cs = go (has_carrier info cs)
  where
    fresh : (t : Bool) → Unseen v (new_carrier info info_items never e t)
    fresh true = b (list_of (put_all info_items e []) []) refl
    fresh false = tt

    id_is : (c : Chunk) → is_info c ≡ true → c.id ≡ codes "LIST"
    id_is c h = same_true c.id (codes "LIST") (and_parts _ _ (and_parts (own_size c.form) _ h).1).0

    one : (t : Bool) (c d : Chunk) → d.id ≡ codes "LIST" → is_info c ≡ true → flat_map v (changed (cond t (become (d ∷ [])) leave) c) ≡ v c
    one true c d i h = append-nil (v d) ∙ b d i ∙ sym (b c (id_is c h))
    one false c d i h = append-nil (v c)

    go : (t : Bool) → Unseen v (lists_act_by info info_items never e cs t)
    go false = fresh (sets_some e)
    go true = λ n c h. one (concerns (home (all_items info info_items cs)) n (items_of info info_items c) e) c (edit_carrier info info_items (part_of (home (all_items info info_items cs)) n e) c) refl h

pub whole_id : (w : List ℕ) (c : Chunk) → is_whole w c ≡ true → c.id ≡ w
whole_id w c h = sym (same_true w c.id (and_parts _ _ (and_parts (own_size c.form) _ h).1).1)

pub whole_unseen : {X : Type 0} (v : Chunk → List X) (w : List ℕ) → Blind w v → (e : List RawItem) (cs : List Chunk) → Unseen v (whole_act w e cs)
whole_unseen v w b e cs = go (whole_part w e) (some_chunk (is_whole w) cs)
  where
    go : (x : Option (Option Value)) (t : Bool) → Unseen v (whole_by w x t)
    go None t = tt
    go (Some None) t = λ n c h. blind_first w v b [] tt n c ∙ sym (b c (whole_id w c h))
    go (Some (Some x)) true = λ n c h. blind_first w v b (made w x.raw ∷ []) (refl, tt) n c ∙ sym (b c (whole_id w c h))
    go (Some (Some x)) false = b (made w x.raw) refl

-- ---- bodies after a step

any_bodies : (p : Chunk → Bool) (cs : List Chunk) → some_chunk p cs ≡ false → bodies p cs ≡ []
any_bodies p [] e = refl
any_bodies p (c ∷ cs) e = go (p c) e (any_bodies p cs)
  where
    go : (t : Bool) → (t || list_any p cs) ≡ false → (list_any p cs ≡ false → bodies p cs ≡ []) → cond t (c.body ∷ []) [] ++ bodies p cs ≡ []
    go true e again = absurd cc
    go false e again = again e

some_bodies : (p : Chunk → Bool) (cs : List Chunk) → some_chunk p cs ≡ true → (b : List ℕ) × (bs : List (List ℕ)) × (bodies p cs ≡ b ∷ bs)
some_bodies p [] e = absurd cc
some_bodies p (c ∷ cs) e = go (p c) e (some_bodies p cs)
  where
    go : (t : Bool) → (t || list_any p cs) ≡ true → (list_any p cs ≡ true → (b : List ℕ) × (bs : List (List ℕ)) × (bodies p cs ≡ b ∷ bs)) → (b : List ℕ) × (bs : List (List ℕ)) × (cond t (c.body ∷ []) [] ++ bodies p cs ≡ b ∷ bs)
    go true e again = (c.body, bodies p cs, refl)
    go false e again = again e

-- a new chunk where none was
pub insert_bodies : (p : Chunk → Bool) (s : Side) (t : Test) (x : Chunk) → p x ≡ true → (cs : List Chunk) → some_chunk p cs ≡ false → bodies p (insert s t x cs) ≡ x.body ∷ []
insert_bodies p s t x i [] e = rw i refl
insert_bodies p s t x i (c ∷ cs) e = go (p c) refl e (meets t c) (insert_bodies p s t x i cs)
  where
    both : (s : Side) → p c ≡ false → bodies p cs ≡ [] → bodies p (beside s x c ++ cs) ≡ x.body ∷ []
    both behind n none = rw (n, i, none) refl
    both before n none = rw (n, i, none) refl

    go : (u : Bool) → p c ≡ u → (u || list_any p cs) ≡ false → (m : Bool) → (list_any p cs ≡ false → bodies p (insert s t x cs) ≡ x.body ∷ [])
        → bodies p (cond m (beside s x c ++ cs) (c ∷ insert s t x cs)) ≡ x.body ∷ []
    go true n e m again = absurd cc
    go false n e true again = both s n (any_bodies p cs e)
    go false n e false again = rw n (again e)

abbrev pub bext_after : List RawItem → Bool → List (List ℕ) → List (List ℕ)
bext_after e false bs = bs
bext_after e true [] = edited_bext e new_body ∷ []
bext_after e true (b ∷ bs) = map (edited_bext e) (b ∷ bs)

map_after : (e : List RawItem) (b : List ℕ) (bs cs : List (List ℕ)) → cs ≡ b ∷ bs → bext_after e true cs ≡ map (edited_bext e) cs
map_after e b bs [] i = absurd cc
map_after e b bs (c ∷ cs) i = refl

settle_bext : (e : List RawItem) (n : ℕ) (cs : List Chunk) → bodies is_bext (settle is_bext (λ n c. become (made (codes "bext") (edited_bext e c.body) ∷ [])) n cs) ≡ map (edited_bext e) (bodies is_bext cs)
settle_bext e n [] = refl
settle_bext e n (c ∷ cs) = go (is_bext c) refl (λ m. settle_bext e m cs)
  where
    f : ℕ → Chunk → Change
    f n d = become (made (codes "bext") (edited_bext e d.body) ∷ [])

    go : (t : Bool) → is_bext c ≡ t → ((m : ℕ) → bodies is_bext (settle is_bext (λ n c. become (made (codes "bext") (edited_bext e c.body) ∷ [])) m cs) ≡ map (edited_bext e) (bodies is_bext cs))
        → bodies is_bext (changed (cond t (become (made (codes "bext") (edited_bext e c.body) ∷ [])) leave) c ++ settle is_bext (λ n c. become (made (codes "bext") (edited_bext e c.body) ∷ [])) (cond t (suc n) n) cs)
        ≡ map (edited_bext e) (cond t (c.body ∷ []) [] ++ bodies is_bext cs)
    go true i again = ap (λ (x : List (List ℕ)). edited_bext e c.body ∷ x) (again (suc n))
    go false i again = rw i (again n)

pub bext_bodies : (e : List RawItem) (cs : List Chunk) → bodies is_bext (acted (bext_act e cs) cs) ≡ bext_after e (edits_bext e) (bodies is_bext cs)
bext_bodies e cs = go (edits_bext e) (some_chunk is_bext cs) refl
  where
    go : (t u : Bool) → some_chunk is_bext cs ≡ u → bodies is_bext (acted (bext_by e t u) cs) ≡ bext_after e t (bodies is_bext cs)
    go false u i = refl
    go true true i = let s = some_bodies is_bext cs i in settle_bext e 0 cs ∙ sym (map_after e s.0 s.1 (bodies is_bext cs) s.2)
    go true false i = insert_bodies is_bext before is_format (made (codes "bext") (edited_bext e new_body)) refl cs i ∙ ap (bext_after e true) (sym (any_bodies is_bext cs i))

abbrev pub whole_after : Option (Option Value) → List (List ℕ) → List (List ℕ)
whole_after None bs = bs
whole_after (Some None) bs = []
whole_after (Some (Some v)) bs = v.raw ∷ []

-- a chunk that is made of an identifier among those of whole fields is one
pub made_is : (w raw : List ℕ) → one_of whole_ids w ≡ true → is_whole w (made w raw) ≡ true
made_is w raw f = rw (f, same_refl w) refl

settle_later : (w : List ℕ) (new : List Chunk) (n : ℕ) (cs : List Chunk) → bodies (is_whole w) (settle (is_whole w) (first_becomes new) (suc n) cs) ≡ []
settle_later w new n [] = refl
settle_later w new n (c ∷ cs) = go (is_whole w c) refl (λ m. settle_later w new m cs)
  where
    go : (t : Bool) → is_whole w c ≡ t → ((m : ℕ) → bodies (is_whole w) (settle (is_whole w) (first_becomes new) (suc m) cs) ≡ [])
        → bodies (is_whole w) (changed (cond t (become []) leave) c ++ settle (is_whole w) (first_becomes new) (cond t (suc (suc n)) (suc n)) cs) ≡ []
    go true i again = again (suc n)
    go false i again = rw i (again n)

settle_first : (w : List ℕ) (new : List Chunk) (cs : List Chunk) → some_chunk (is_whole w) cs ≡ true → bodies (is_whole w) (settle (is_whole w) (first_becomes new) 0 cs) ≡ bodies (is_whole w) new
settle_first w new [] e = absurd cc
settle_first w new (c ∷ cs) e = go (is_whole w c) refl e (settle_first w new cs)
  where
    go : (t : Bool) → is_whole w c ≡ t → (t || list_any (is_whole w) cs) ≡ true → (list_any (is_whole w) cs ≡ true → bodies (is_whole w) (settle (is_whole w) (first_becomes new) 0 cs) ≡ bodies (is_whole w) new)
        → bodies (is_whole w) (changed (cond t (become new) leave) c ++ settle (is_whole w) (first_becomes new) (cond t 1 0) cs) ≡ bodies (is_whole w) new
    go true i e again = flat_map-append (body_in (is_whole w)) new (settle (is_whole w) (first_becomes new) 1 cs) ∙ rw (settle_later w new 0 cs) (append-nil (bodies (is_whole w) new))
    go false i e again = rw i (again e)

settle_none : (w : List ℕ) (n : ℕ) (cs : List Chunk) → bodies (is_whole w) (settle (is_whole w) (first_becomes []) n cs) ≡ []
settle_none w n [] = refl
settle_none w n (c ∷ cs) = go (is_whole w c) refl (λ m. settle_none w m cs)
  where
    none : (n : ℕ) → changed (first_becomes [] n c) c ≡ []
    none zero = refl
    none (suc n) = refl

    go : (t : Bool) → is_whole w c ≡ t → ((m : ℕ) → bodies (is_whole w) (settle (is_whole w) (first_becomes []) m cs) ≡ [])
        → bodies (is_whole w) (changed (cond t (first_becomes [] n c) leave) c ++ settle (is_whole w) (first_becomes []) (cond t (suc n) n) cs) ≡ []
    go true i again = rw (none n) (again (suc n))
    go false i again = rw i (again n)

pub whole_bodies : (w : List ℕ) (e : List RawItem) (cs : List Chunk) → one_of whole_ids w ≡ true → bodies (is_whole w) (acted (whole_act w e cs) cs) ≡ whole_after (whole_part w e) (bodies (is_whole w) cs)
whole_bodies w e cs f = go (whole_part w e) (some_chunk (is_whole w) cs) refl
  where
    go : (v : Option (Option Value)) (t : Bool) → some_chunk (is_whole w) cs ≡ t → bodies (is_whole w) (acted (whole_by w v t) cs) ≡ whole_after v (bodies (is_whole w) cs)
    go None t i = refl
    go (Some None) t i = settle_none w 0 cs
    go (Some (Some v)) true i = settle_first w (made w v.raw ∷ []) cs i ∙ rw (made_is w v.raw f) refl
    go (Some (Some v)) false i = insert_bodies (is_whole w) behind never (made w v.raw) (made_is w v.raw f) cs i
