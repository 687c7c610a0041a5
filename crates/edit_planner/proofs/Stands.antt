-- Chunks in the bytes of a file, and what is told of them.
use Rattle.std.proofs.Common.{◌≡◌, ◌≢◌, ◌∙◌, ◌<◌, ◌≤◌, ℕ, zero, suc, ◌+◌, ◌-◌, ◌%◌, ◌^◌, Bool, true, false, eqb, ltb, List, [], ◌∷◌, ◌++◌, length, take, drop, map, refl, sym, ap, arith, subst, append_assoc, inl, inr}
use Rattle.std.specs.Prelude.{◌&&◌, not, ◌==◌, nat_lt, if◌then◌else◌, codes, ◌⊎◌}
use Rattle.std.specs.Str.{bytes_eq}
use Rattle.std.specs.List.{AllByRecursion}
use Rattle.std.proofs.lemmas.Bool.{and_parts, lt-ltb, le-ltb}
use Rattle.std.proofs.lemmas.List.{length-append}
use Rattle.part_tree.specs.Letters.{four}
use Rattle.part_tree.specs.declared.part.Part.{Part}
use Rattle.part_tree.specs.declared.part.Role.{Role}
use Rattle.part_tree.specs.declared.part.Role.TheVariants.{Opaque, Padding, Bext, Info, Whole, Sizes, Tables, UserData, Essence, Rest}
use Rattle.container_model.specs.Chunk.{Chunk, header_bytes, pad_len, spell}
use Rattle.container_model.specs.Units.{lacks_pad}
use Rattle.container_model.specs.Written.{slice}
use Rattle.container_model.proofs.Plain.{ArePlain, plain_chunks, plain_left}
use Rattle.carrier_model.specs.Info.{own_size, is_padding, list_run}
use Rattle.carrier_model.proofs.Info.{padding_no_list}
use Rattle.info_list.specs.Info.{IsInfo, item_of, items_run}
use Rattle.info_list.specs.declared.InfoItem.{InfoItem}
use Rattle.info_list.specs.declared.InfoList.{InfoList}
use Rattle.wave_model.specs.Wave.{cell_by}
use Rattle.wave_model.specs.Fields.{is_bext, is_info}
use Rattle.wave_model.specs.Why.{is_data}
use Rattle.wave_model.proofs.Acts.{junk_id, junk_bext}
use Rattle.wave_file.specs.Map.{is_field, role_of, at_front, part_as}
use Rattle.wave_file.proofs.Roles.{bext_holds}
use Rattle.edit_planner.specs.declared.cells.CellAt.{CellAt}
use Rattle.edit_planner.specs.declared.cells.Content.{Content}
use Rattle.edit_planner.specs.declared.cells.Content.TheVariants.{Kept, Body, Listed, Gap}
use Rattle.edit_planner.specs.Cells.{IsReadable, content_of, list_in, told}
use Rattle.edit_planner.specs.Stand.{StandsAt, cell_at, held_at, held_by, held_from, told_chunks, wave_role}

-- ---- a list that is read

item_ids : (cs : List Chunk) → ArePlain cs → AllByRecursion (λ i. length i.id.0 ≡ 4) (map item_of cs)
item_ids [] h = tt
item_ids (c ∷ cs) h = (h.0.id_len, item_ids cs h.1)

pub read_readable : (body : List ℕ) (list : InfoList) → IsInfo body list → IsReadable (Listed list)
read_readable body list h =
    (subst (AllByRecursion (λ (i : InfoItem). length i.id.0 ≡ 4)) (sym h.items) (item_ids (items_run body).chunks (plain_chunks body)), omega (arith, ap length h.rest, plain_left body h.stop))

pub read_same : (body : List ℕ) (c : Chunk) (list : InfoList) → body ≡ drop 4 c.body → IsInfo body list → Listed list ≡ Listed (list_in c)
read_same body c list e h =
    let g : IsInfo (drop 4 c.body) list = subst (λ (x : List ℕ). IsInfo x list) e h in
    ap (λ (is : List InfoItem). Listed (record { items = is; rest = list.rest })) g.items ∙ ap (λ (r : List ℕ). Listed (record { items = map item_of (list_run c).chunks; rest = r })) g.rest

-- ---- what is told of a chunk, by its role

abbrev role_by : Bool → Bool → Bool → Bool → Bool → Role
role_by l w e d p = if l then Info else (if w then Whole else (if e then Bext else (if d then Essence else (if p then Padding else Opaque))))

abbrev content_by : Chunk → Bool → Bool → Role → Content
content_by c l e r = if l then Listed (list_in c) else (if e then Body c.body else Kept (four c.id) r)

abbrev at_front_by : Bool → Role → Role
at_front_by f Padding = if f then Opaque else Padding
at_front_by f Opaque = Opaque
at_front_by f Bext = Bext
at_front_by f Info = Info
at_front_by f Whole = Whole
at_front_by f Sizes = Sizes
at_front_by f Tables = Tables
at_front_by f UserData = UserData
at_front_by f Essence = Essence
at_front_by f Rest = Rest

front_by : (at : ℕ) (r : Role) → at_front at r ≡ at_front_by (at == 12) r
front_by at Padding = refl
front_by at Opaque = refl
front_by at Bext = refl
front_by at Info = refl
front_by at Whole = refl
front_by at Sizes = refl
front_by at Tables = refl
front_by at UserData = refl
front_by at Essence = refl
front_by at Rest = refl

-- padding is nothing else
pub record Kinds (c : Chunk) : Type 0 where
  pub no_list : is_padding c ≡ true → is_info c ≡ false
  pub no_field : is_padding c ≡ true → is_field c ≡ false
  pub no_bext : is_padding c ≡ true → is_bext c ≡ false
  pub no_data : is_padding c ≡ true → is_data c ≡ false
  pub bext_no_field : is_bext c ≡ true → is_field c ≡ false

and_no : (a : Bool) → (a && false) ≡ false
and_no true = refl
and_no false = refl

kinds : (c : Chunk) → Kinds c
kinds c = record {
  no_list = λ e. padding_no_list (codes "INFO") c e;
  no_field = λ e. ap (λ (x : List ℕ). own_size c.form && Rattle.carrier_model.specs.Info.one_of Rattle.part_tree.specs.Names.whole_ids x) (junk_id c e) ∙ and_no (own_size c.form);
  no_bext = λ e. junk_bext c e;
  no_data = λ e. ap (λ (x : List ℕ). bytes_eq (codes "data") x) (junk_id c e);
  bext_no_field = λ e. (bext_holds c e).whole_is;
}

content_at : (at : ℕ) (c : Chunk) (t : Bool) → (told at (cell_by c t)).content ≡ (if t then Gap else content_of at c)
content_at at c true = refl
content_at at c false = refl

-- what is told where the role is this
wave_list : (at : ℕ) (c : Chunk) → Info ≡ at_front at (role_of c) → (told at (cell_at at c)).content ≡ Listed (list_in c)
wave_list at c e = content_at at c (is_padding c && not (at == 12)) ∙ go (is_info c) (is_field c) (is_bext c) (is_data c) (is_padding c) (at == 12) refl refl (e ∙ front_by at (role_of c))
  where
    go : (l w b d p f : Bool) → is_info c ≡ l → is_padding c ≡ p → Info ≡ at_front_by f (role_by l w b d p) → (if p && not f then Gap else content_by c l b (at_front at (role_of c))) ≡ Listed (list_in c)
    go true w b d true f i j e = let n = (kinds c).no_list j in absurd cc
    go true w b d false f i j e = refl
    go false true b d p f i j e = absurd cc
    go false false true d p f i j e = absurd cc
    go false false false true p f i j e = absurd cc
    go false false false false true true i j e = absurd cc
    go false false false false true false i j e = absurd cc
    go false false false false false f i j e = absurd cc

wave_bext : (at : ℕ) (c : Chunk) → Bext ≡ at_front at (role_of c) → (told at (cell_at at c)).content ≡ Body c.body
wave_bext at c e = content_at at c (is_padding c && not (at == 12)) ∙ go (is_info c) (is_field c) (is_bext c) (is_data c) (is_padding c) (at == 12) refl refl (e ∙ front_by at (role_of c))
  where
    go : (l w b d p f : Bool) → is_bext c ≡ b → is_padding c ≡ p → Bext ≡ at_front_by f (role_by l w b d p) → (if p && not f then Gap else content_by c l b (at_front at (role_of c))) ≡ Body c.body
    go true w b d p f i j e = absurd cc
    go false true b d p f i j e = absurd cc
    go false false true d true f i j e = let n = (kinds c).no_bext j in absurd cc
    go false false true d false f i j e = refl
    go false false false true p f i j e = absurd cc
    go false false false false true true i j e = absurd cc
    go false false false false true false i j e = absurd cc
    go false false false false false f i j e = absurd cc

wave_gap : (at : ℕ) (c : Chunk) → Padding ≡ at_front at (role_of c) → (told at (cell_at at c)).content ≡ Gap
wave_gap at c e = content_at at c (is_padding c && not (at == 12)) ∙ go (is_info c) (is_field c) (is_bext c) (is_data c) (is_padding c) (at == 12) (e ∙ front_by at (role_of c))
  where
    go : (l w b d p f : Bool) → Padding ≡ at_front_by f (role_by l w b d p) → (if p && not f then Gap else content_by c l b (at_front at (role_of c))) ≡ Gap
    go true w b d p f e = absurd cc
    go false true b d p f e = absurd cc
    go false false true d p f e = absurd cc
    go false false false true p f e = absurd cc
    go false false false false true true e = absurd cc
    go false false false false true false e = refl
    go false false false false false f e = absurd cc

wave_other : (at : ℕ) (c : Chunk) (r : Role) → r ≡ at_front at (role_of c) → r ≢ Info → r ≢ Bext → r ≢ Padding → (told at (cell_at at c)).content ≡ Kept (four c.id) r
wave_other at c r e x y z = content_at at c (is_padding c && not (at == 12)) ∙ go (is_info c) (is_field c) (is_bext c) (is_data c) (is_padding c) (at == 12) refl refl refl refl (e ∙ front_by at (role_of c)) ∙ ap (Kept (four c.id)) (sym e)
  where
    go : (l w b d p f : Bool) → is_field c ≡ w → is_bext c ≡ b → is_data c ≡ d → is_padding c ≡ p → r ≡ at_front_by f (role_by l w b d p) → (if p && not f then Gap else content_by c l b (at_front at (role_of c))) ≡ Kept (four c.id) (at_front at (role_of c))
    go true w b d p f h i k j e = absurd (x e)
    go false true b d true f h i k j e = let n = (kinds c).no_field j in absurd cc
    go false true true d false f h i k j e = let n = (kinds c).bext_no_field i in absurd cc
    go false true false d false f h i k j e = refl
    go false false true d p f h i k j e = absurd (y e)
    go false false false true true f h i k j e = let n = (kinds c).no_data j in absurd cc
    go false false false true false f h i k j e = refl
    go false false false false true true h i k j e = refl
    go false false false false true false h i k j e = absurd (z e)
    go false false false false false f h i k j e = refl

-- what is held of a chunk of its role
wave_held : (at : ℕ) (c : Chunk) → held_by (wave_role at c) c ≡ (told at (cell_at at c)).content
wave_held at c = go (wave_role at c) refl
  where
    go : (r : Role) → r ≡ wave_role at c → held_by r c ≡ (told at (cell_at at c)).content
    go Info e = sym (wave_list at c e)
    go Bext e = sym (wave_bext at c e)
    go Padding e = sym (wave_gap at c e)
    go Opaque e = sym (wave_other at c Opaque e (λ i. absurd cc) (λ i. absurd cc) (λ i. absurd cc))
    go Whole e = sym (wave_other at c Whole e (λ i. absurd cc) (λ i. absurd cc) (λ i. absurd cc))
    go Sizes e = sym (wave_other at c Sizes e (λ i. absurd cc) (λ i. absurd cc) (λ i. absurd cc))
    go Tables e = sym (wave_other at c Tables e (λ i. absurd cc) (λ i. absurd cc) (λ i. absurd cc))
    go UserData e = sym (wave_other at c UserData e (λ i. absurd cc) (λ i. absurd cc) (λ i. absurd cc))
    go Essence e = sym (wave_other at c Essence e (λ i. absurd cc) (λ i. absurd cc) (λ i. absurd cc))
    go Rest e = sym (wave_other at c Rest e (λ i. absurd cc) (λ i. absurd cc) (λ i. absurd cc))

-- and of all chunks of a form
pub wave_cells : (at : ℕ) (cs : List Chunk) → held_from wave_role at cs ≡ told_chunks at cs
wave_cells at [] = refl
wave_cells at (c ∷ cs) = ap (λ (x : CellAt). x ∷ held_from wave_role (at + length (spell c)) cs) (one (is_padding c && not (at == 12)) (wave_held at c)) ∙ ap (λ (xs : List CellAt). told at (cell_at at c) ∷ xs) (wave_cells (at + length (spell c)) cs)
  where
    one : (t : Bool) → held_by (wave_role at c) c ≡ (told at (cell_by c t)).content → held_at (wave_role at c) at c ≡ told at (cell_by c t)
    one true h = ap (λ (x : Content). record { at = at; next = at + length (spell c); lacks_pad = lacks_pad c; content = x }) h
    one false h = ap (λ (x : Content). record { at = at; next = at + length (spell c); lacks_pad = lacks_pad c; content = x }) h

-- what is held of a chunk that is no list, no `bext` and no padding
pub by_other : (c : Chunk) (r : Role) → r ≢ Info → r ≢ Bext → r ≢ Padding → held_by r c ≡ Kept (four c.id) r
by_other c Info x y z = absurd (x refl)
by_other c Bext x y z = absurd (y refl)
by_other c Padding x y z = absurd (z refl)
by_other c Opaque x y z = refl
by_other c Whole x y z = refl
by_other c Sizes x y z = refl
by_other c Tables x y z = refl
by_other c UserData x y z = refl
by_other c Essence x y z = refl
by_other c Rest x y z = refl

-- ---- a pad that lacks

next_is : (b : List ℕ) (at : ℕ) (c : Chunk) → StandsAt b at c → at + length (spell c) ≡ (at + 8 + length c.body) + length c.pad
next_is b at c s =
    let h = header_bytes c.form c.id (length c.body) in
    omega (arith, s.header, length-append h (c.body ++ c.pad), length-append c.body c.pad)

same_pad : (n p : ℕ) → eqb (n + p) n ≡ ltb p 1
same_pad n p = go (Rattle.std.proofs.lemmas.Bool.cases_lt p 1)
  where
    go : (p < 1) ⊎ (1 ≤ p) → eqb (n + p) n ≡ ltb p 1
    go (inl lt) = let e : n + p ≡ n = omega arith in Rattle.std.proofs.Common.eq-eqb (n + p) n e ∙ sym (lt-ltb p 1 lt)
    go (inr le) = Rattle.std.proofs.lemmas.Bool.ne_eqb (n + p) n (λ e. omega arith) ∙ sym (le-ltb p 1 le)

pub odd_pad : (b : List ℕ) (at : ℕ) (c : Chunk) (part : Part) (r : Role) → part ≡ part_as r at c → StandsAt b at c → part.body.len % 2 ≡ 1 → eqb part.next (part.body.at + part.body.len) ≡ lacks_pad c
odd_pad b at c part r e s odd =
    let len : part.body.len ≡ length c.body = ap (λ (p : Part). p.body.len) e in
    let place : part.body.at ≡ at + 8 = ap (λ (p : Part). p.body.at) e in
    let next : part.next ≡ at + length (spell c) = ap (λ (p : Part). p.next) e in
    let ends_at : part.next ≡ (at + 8 + length c.body) + length c.pad = next ∙ next_is b at c s in
    let here : part.body.at + part.body.len ≡ at + 8 + length c.body = omega arith in
    let one : length c.body % 2 ≡ 1 = sym (ap (λ (n : ℕ). n % 2) len) ∙ odd in
    ap (λ (n : ℕ). eqb n (part.body.at + part.body.len)) ends_at ∙ ap (eqb ((at + 8 + length c.body) + length c.pad)) here ∙ same_pad (at + 8 + length c.body) (length c.pad)
    ∙ ap (ltb (length c.pad)) (sym (s.padded ∙ one))

pub even_pad : (b : List ℕ) (at : ℕ) (c : Chunk) (part : Part) (r : Role) → part ≡ part_as r at c → StandsAt b at c → (part.body.len % 2 ≡ 1 → ⊥) → eqb (part.body.len % 2) 1 ≡ lacks_pad c
even_pad b at c part r e s even =
    let len : part.body.len ≡ length c.body = ap (λ (p : Part). p.body.len) e in
    let same : length c.body % 2 ≡ part.body.len % 2 = sym (ap (λ (n : ℕ). n % 2) len) in
    let none : pad_len c.form (length c.body) ≡ 0 = omega (arith, s.padded, same, even) in
    Rattle.std.proofs.lemmas.Bool.ne_eqb (part.body.len % 2) 1 even ∙ sym (le-ltb (length c.pad) 0 (omega arith)) ∙ ap (ltb (length c.pad)) (sym none)

-- ---- a cell

pub cell_is : (at : ℕ) (c : Chunk) (part : Part) (r : Role) (lacks : Bool) (content : Content) → part ≡ part_as r at c → lacks ≡ lacks_pad c → content ≡ held_by r c
    → record { at = at; next = part.next; lacks_pad = lacks; content = content } ≡ held_at r at c
cell_is at c part r lacks content e l k =
    let next : part.next ≡ at + length (spell c) = ap (λ (p : Part). p.next) e in
    rw (next, l, k) refl

pub body_is : (b : List ℕ) (at : ℕ) (c : Chunk) (part : Part) (r : Role) → part ≡ part_as r at c → StandsAt b at c → c.body ≡ slice b part.body.at part.body.len
body_is b at c part r e s = s.body ∙ ap (λ (p : Part). slice b p.body.at p.body.len) (sym e)

pub if_ok : {T E : Type 0} (P Q : T → Type 0) (r : Rattle.std.specs.Prelude.Result T E) → ((x : T) → P x → Q x) → Rattle.std.specs.Prelude.IfOk r P → Rattle.std.specs.Prelude.IfOk r Q
if_ok P Q (Rattle.std.specs.declared.result.Result.TheVariants.Ok x) f h = f x h
if_ok P Q (Rattle.std.specs.declared.result.Result.TheVariants.Err e) f h = tt
