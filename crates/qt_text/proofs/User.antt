-- User items and user data are read as they are made.
use Rattle.std.proofs.Common.{drop_at, ◌≤◌, take_at, Bool, List, None, Option, Some, [], ap, arith, cond, drop, false, inl, length, ltb, map, refl, suc, sym, take, true, zero, ℕ, ◌++◌, ◌+◌, ◌<◌, ◌^◌, ◌∙◌, ◌∷◌, ◌≡◌}
use Rattle.std.specs.Prelude.{◌&&◌, ◌==◌}
use Rattle.std.proofs.lemmas.Bool.{and_parts, eqb-true, le-ltb}
use Rattle.std.proofs.lemmas.List.{append-nil, length-append}
use Rattle.std.proofs.lemmas.Nat.{from_be_bytes-to_be_bytes_2}
use Rattle.std.specs.Char.{is_ascii_alphanumeric}
use Rattle.std.specs.Int.{to_be_bytes, w16}
use Rattle.std.specs.List.{flat_map, AllByRecursion, list_all}
use Rattle.std.specs.Str.{bytes_eq}
use Rattle.part_tree.specs.Names.{is_user_type}
use Rattle.part_tree.specs.declared.field.Value.{Value}
use Rattle.container_model.proofs.Atoms.{atoms_give_back, short_head}
use Rattle.container_model.proofs.Codec.{IsBytes, chunks_joined, chunks_read, chunks_spelled}
use Rattle.container_model.proofs.Items.{all_after}
use Rattle.container_model.proofs.Read.{Atom, atoms_again, atoms_read}
use Rattle.container_model.specs.Chunk.{Chunk, Run, chunks, ends, spell_all, too_short}
use Rattle.container_model.specs.Items.{AreMade, IsMade, Item, OpensAs, Rereads, edit_carrier, item_token, put_all, values}
use Rattle.container_model.specs.Sizes.{Level, atom_front, user}
use Rattle.container_model.specs.Atoms.{atom}
use Rattle.qt_text.specs.User.{IsUserValue, TextFits, text_language, found, text_bytes, text_size, text_then, texts, texts_in, udta, user_items, with_text}

-- a text at the front is read as it is written
text_step : (k : ℕ) (t : Value) (more : List ℕ) → t.lang < 2 ^ 16 → length t.raw < 2 ^ 16 → texts_in (suc k) (text_bytes t ++ more) ≡ with_text t (texts_in k more)
text_step k t more l lt =
    let b = text_bytes t ++ more in
    let size : text_size b ≡ length t.raw = from_be_bytes-to_be_bytes_2 (length t.raw) lt in
    let lang : text_language b ≡ t.lang = from_be_bytes-to_be_bytes_2 t.lang l in
    let len : length b ≡ 4 + length (t.raw ++ more) = omega arith in
    let fits : ltb (length b) (4 + text_size b) ≡ false = le-ltb _ _ (omega (arith, len, size, length-append t.raw more)) in
    let text : take (text_size b) (t.raw ++ more) ≡ t.raw = ap (λ (n : ℕ). take n (t.raw ++ more)) size ∙ take_at t.raw more (length t.raw) refl in
    let rest : drop (text_size b) (t.raw ++ more) ≡ more = ap (λ (n : ℕ). drop n (t.raw ++ more)) size ∙ drop_at t.raw more (length t.raw) refl in
    ap (λ (u : Bool). text_then (texts_in k) b u) fits ∙ made (text_language b) (take (text_size b) (t.raw ++ more)) (drop (text_size b) (t.raw ++ more)) lang text rest
  where
    made : (lang : ℕ) (text rest : List ℕ) → lang ≡ t.lang → text ≡ t.raw → rest ≡ more → with_text (record { lang = lang; raw = text }) (texts_in k rest) ≡ with_text t (texts_in k more)
    made lang text rest e i j = rw (e, i, j) refl

texts_step : (k : ℕ) (ts : List Value) → length ts ≤ k → AllByRecursion TextFits ts → texts_in k (flat_map text_bytes ts) ≡ Some ts
texts_step zero [] le h = refl
texts_step (suc k) [] le h = refl
texts_step zero (t ∷ ts) le h = absurd (omega arith)
texts_step (suc k) (t ∷ ts) le h = text_step k t (flat_map text_bytes ts) h.0.0 h.0.1 ∙ ap (with_text t) (texts_step k ts (omega arith) h.1)

as_many : (ts : List Value) → length ts ≤ length (flat_map text_bytes ts)
as_many [] = omega arith
as_many (t ∷ ts) = omega (arith, as_many ts, length-append (text_bytes t) (flat_map text_bytes ts))

-- Texts are read as they are written.
pub texts_read : (ts : List Value) → AllByRecursion TextFits ts → texts (flat_map text_bytes ts) ≡ ts
texts_read ts h = ap found (texts_step (length (flat_map text_bytes ts)) ts (as_many ts) h)

text_read : (t : Value) → t.lang < 2 ^ 16 → length t.raw < 2 ^ 16 → texts (text_bytes t) ≡ t ∷ []
text_read t l lt = ap texts (sym (append-nil (text_bytes t))) ∙ texts_read (t ∷ []) ((l, lt), tt)

-- ---- what an edit may set

-- a type of user items, a language of two bytes, and a text whose length fits
abbrev pub SetsUser : Item Value → Type 0
SetsUser i = IsUserValue i.name i.value

pub user_made : (name : List ℕ) (value : Option Value) → IsUserValue name value → IsMade user_items name value
user_made name None h = tt
user_made name (Some t) h = (refl, cond_is (is_user_type name) h.0 (text_read t h.1 h.2))
  where
    cond_is : (b : Bool) → b ≡ true → texts (text_bytes t) ≡ t ∷ [] → cond b (texts (text_bytes t)) [] ≡ t ∷ []
    cond_is true e h = h
    cond_is false e h = absurd cc

user_len : (id : List ℕ) → is_user_type id ≡ true → length id ≡ 4
user_len id h =
    let p = and_parts (bytes_eq (take 1 id) (169 ∷ [])) ((length id == 4) && list_all is_ascii_alphanumeric (drop 1 id)) h in
    eqb-true (length id) 4 (and_parts (length id == 4) (list_all is_ascii_alphanumeric (drop 1 id)) p.1).0

-- a new atom is read in every place
pub atom_made : (s : Level) (id body : List ℕ) → length id ≡ 4 → length body + 8 < 2 ^ 32 → Atom s (atom id body)
atom_made s id body l lt = record { head = short_head s (atom id body) refl l lt; no_pad = refl; pad_none = refl; id_len = l; short_or_long = inl refl }

pub user_atom : (name : List ℕ) (t : Value) → IsUserValue name (Some t) → Atom user (atom name (text_bytes t))
user_atom name t h =
    atom_made user name (text_bytes t) (user_len name h.0) (omega (arith, length-append (to_be_bytes w16 (length t.raw)) (to_be_bytes w16 t.lang ++ t.raw), length-append (to_be_bytes w16 t.lang) t.raw, h.2))

pub all_made : (e : List (Item Value)) → AllByRecursion SetsUser e → AreMade user_items e
all_made [] h = tt
all_made (i ∷ e) h = (user_made i.name i.value h.0, all_made e h.1)

-- ---- user data

good_items : (e : List (Item Value)) → AllByRecursion SetsUser e → AllByRecursion (λ i. Rattle.container_model.proofs.Items.MakesGood user_items (Atom user) i.name i.value) e
good_items [] h = tt
good_items (i ∷ e) h = (one i.name i.value h.0, good_items e h.1)
  where
    one : (name : List ℕ) (value : Option Value) → IsUserValue name value → Rattle.container_model.proofs.Items.MakesGood user_items (Atom user) name value
    one name None h = tt
    one name (Some t) h = user_atom name t h

-- the items of user data that was read, and its rest
pub items_read : (c : Chunk) → IsBytes c.body → (udta.opening c).stop ≡ ends → AllByRecursion (Atom user) (udta.opening c).chunks × (atom_front user (udta.opening c).left ≡ too_short)
items_read c bytes whole =
    let r = udta.opening c in
    let joined : spell_all r.chunks ++ r.left ≡ c.body = chunks_joined atom_front atoms_give_back user c.body bytes in
    atoms_read user r.chunks r.left (λ e. absurd cc) (rw joined bytes) (chunks_read atom_front atoms_give_back user c.body bytes whole)

pub items_again : (items : List Chunk) (rest : List ℕ) → AllByRecursion (Atom user) items → atom_front user rest ≡ too_short → chunks atom_front user (spell_all items ++ rest) ≡ record { chunks = items; stop = ends; left = rest }
items_again items rest h r = chunks_spelled atom_front user items rest (atoms_again user items rest h r)

-- edited user data is read as its items with the edit, and its rest
pub edited_again : (e : List (Item Value)) (c : Chunk) → AllByRecursion SetsUser e → IsBytes c.body → (udta.opening c).stop ≡ ends
    → udta.opening (edit_carrier udta user_items e c) ≡ record { chunks = put_all user_items e (udta.opening c).chunks; stop = ends; left = (udta.opening c).left }
edited_again e c h bytes whole =
    let r = items_read c bytes whole in
    items_again (put_all user_items e (udta.opening c).chunks) (udta.opening c).left (all_after user_items (Atom user) e (udta.opening c).chunks (good_items e h) r.0) r.1

pub fresh_again : (e : List (Item Value)) → AllByRecursion SetsUser e
    → udta.opening (udta.fresh (put_all user_items e [])) ≡ record { chunks = put_all user_items e []; stop = ends; left = [] }
fresh_again e h =
    let items = put_all user_items e [] in
    ap (chunks atom_front user) (sym (append-nil (spell_all items))) ∙ items_again items [] (all_after user_items (Atom user) e [] (good_items e h) tt) refl

-- User data keeps the law of carriers.
pub udta_rereads : Rereads udta user_items (AllByRecursion SetsUser) (λ e c. ((udta.opening c).stop ≡ ends) × IsBytes c.body) (λ items. Unit {0})
udta_rereads = record {
  sets_made = all_made;
  edited_again = λ e c h r. as_run (edit_carrier udta user_items e c) (put_all user_items e (udta.opening c).chunks) (udta.opening c).left (edited_again e c h r.1 r.0);
  fresh_again = λ e h s. as_run (udta.fresh (put_all user_items e [])) (put_all user_items e []) [] (fresh_again e h);
}
  where
    as_run : (c : Chunk) (items : List Chunk) (rest : List ℕ) → udta.opening c ≡ record { chunks = items; stop = ends; left = rest } → OpensAs udta user_items c items rest
    as_run c items rest e =
        record {
          whole = ap (λ (r : Run). r.stop) e;
          items_same = (λ name. ap (λ (r : Run). values user_items name r.chunks) e, ap (λ (r : Run). map (item_token user_items) r.chunks) e);
          rest_same = ap (λ (r : Run). r.left) e;
        }
