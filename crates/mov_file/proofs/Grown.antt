-- Fields that grow by the values of one name after the other.
use Rattle.std.proofs.Common.{◌≡◌, ◌∙◌, ℕ, ◌+◌, ◌<◌, ◌≤◌, ◌⊎◌, inl, inr, Bool, true, false, List, [], ◌∷◌, ◌++◌, length, map, drop, get_or, refl, sym, ap, subst, arith, append_assoc}
use Rattle.std.specs.Prelude.{if◌then◌else◌}
use Rattle.std.specs.Str.{bytes_eq}
use Rattle.std.specs.List.{AllByRecursion}
use Rattle.std.proofs.lemmas.List.{append-nil, at_drop_more, at_drop_all}
use Rattle.container_model.specs.Chunk.{Chunk, Run, Stop, and_then, stopped}
use Rattle.container_model.specs.Items as items
use Rattle.container_model.specs.Sizes.{user}
use Rattle.part_tree.specs.Fields.{Adds, values}
use Rattle.part_tree.specs.Names.{is_user_type, same_name}
use Rattle.part_tree.specs.declared.names.FourCc.{FourCc}
use Rattle.part_tree.specs.declared.field.BextField.{BextField}
use Rattle.part_tree.specs.declared.field.FieldName.{FieldName}
use Rattle.part_tree.specs.declared.field.FieldName.TheVariants.{Bext, Info, Whole, User, Key, Stream}
use Rattle.part_tree.specs.declared.field.Value.{Value}
use Rattle.part_tree.specs.declared.fields.Entry.{Entry}
use Rattle.part_tree.proofs.Places.{bytes_refl, bytes_same, same_is_equal}
use Rattle.field_model.specs.Fields.{FieldMap, plain}
use Rattle.field_model.specs.Lawful.{HasKeyHead, HasOne, IsLawful}
use Rattle.qt_atoms.specs.Walk.{row}
use Rattle.qt_text.specs.User.{texts, user_items}
use Rattle.mov_file.specs.Fields.{Grows, StayLawful, texts_held, under}

-- ---- one value more

pub added : (old new : List Entry) (name : FieldName) (v : Value) → Adds old new name v → Grows old new (under name (v ∷ []))
added old new name v a n = go (same_name name n) refl
  where
    go : (t : Bool) → same_name name n ≡ t → values new n ≡ values old n ++ (if t then v ∷ [] else [])
    go true e = let P : FieldName → Type 0 = λ m. values new m ≡ values old m ++ v ∷ [] in subst P (same_is_equal name n e) a.last
    go false e = a.others n e ∙ sym (append-nil (values old n))

pub grown_as : (a b : List Entry) (f g : FieldMap) → Grows a b f → ((n : FieldName) → f n ≡ g n) → Grows a b g
grown_as a b f g x e n = x n ∙ ap (λ (vs : List Value). values a n ++ vs) (e n)

pub not_grown : (a : List Entry) (f : FieldMap) → ((n : FieldName) → f n ≡ []) → Grows a a f
not_grown a f e n = sym (append-nil (values a n)) ∙ ap (λ (vs : List Value). values a n ++ vs) (sym (e n))

-- ---- values one after the other

-- the values that are there and those that are left are the whole
abbrev pub ValuesLeft : List Entry → List Entry → FieldName → List Value → List Value → Type 0
ValuesLeft now old name rest whole = (n : FieldName) → values now n ++ under name rest n ≡ values old n ++ under name whole n

one_under : (name n : FieldName) (v : Value) (vs : List Value) → under name (v ∷ []) n ++ under name vs n ≡ under name (v ∷ vs) n
one_under name n v vs = go (same_name name n)
  where
    go : (t : Bool) → (if t then v ∷ [] else []) ++ (if t then vs else []) ≡ (if t then v ∷ vs else [])
    go true = refl
    go false = refl

value_next : (old now new : List Entry) (name : FieldName) (v : Value) (vs whole : List Value) → Adds now new name v → ValuesLeft now old name (v ∷ vs) whole → ValuesLeft new old name vs whole
value_next old now new name v vs whole a left n =
    ap (λ (x : List Value). x ++ under name vs n) (added now new name v a n)
    ∙ append_assoc (values now n) (under name (v ∷ []) n) (under name vs n)
    ∙ ap (λ (x : List Value). values now n ++ x) (one_under name n v vs) ∙ left n

pub text_next : (old now new : List Entry) (name : FieldName) (vs whole : List Value) (k : ℕ) (v : Value) → k < length vs → v ≡ get_or vs k v → Adds now new name v → ValuesLeft now old name (drop k vs) whole → ValuesLeft new old name (drop (k + 1) vs) whole
text_next old now new name vs whole k v lt here a left =
    value_next old now new name v (drop (k + 1) vs) whole a (λ n.
    let step : under name (drop k vs) n ≡ under name (v ∷ drop (k + 1) vs) n
    = at_drop_more (λ (xs : List Value). under name xs n) vs k v lt ∙ ap (λ (x : Value). under name (x ∷ drop (k + 1) vs) n) (sym here) in
    ap (λ (xs : List Value). values now n ++ xs) (sym step) ∙ left n)

pub plain_next : (old now new : List Entry) (name : FieldName) (vs : List (List ℕ)) (whole : List Value) (k : ℕ) (v : List ℕ) → k < length vs → v ≡ get_or vs k v → Adds now new name (plain v) → ValuesLeft now old name (map plain (drop k vs)) whole
    → ValuesLeft new old name (map plain (drop (k + 1) vs)) whole
plain_next old now new name vs whole k v lt here a left =
    value_next old now new name (plain v) (map plain (drop (k + 1) vs)) whole a (λ n.
    let step : under name (map plain (drop k vs)) n ≡ under name (plain v ∷ map plain (drop (k + 1) vs)) n
    = at_drop_more (λ (xs : List (List ℕ)). under name (map plain xs) n) vs k v lt ∙ ap (λ (x : List ℕ). under name (plain x ∷ map plain (drop (k + 1) vs)) n) (sym here) in
    ap (λ (xs : List Value). values now n ++ xs) (sym step) ∙ left n)

none_under : (name n : FieldName) → under name [] n ≡ []
none_under name n = go (same_name name n) [] refl
  where
    go : (t : Bool) (vs : List Value) → vs ≡ [] → (if t then vs else []) ≡ []
    go true vs e = e
    go false vs e = refl

pub texts_end : (old now : List Entry) (name : FieldName) (vs whole : List Value) (k : ℕ) → length vs ≤ k → ValuesLeft now old name (drop k vs) whole → Grows old now (under name whole)
texts_end old now name vs whole k le left n =
    sym (append-nil (values now n)) ∙ ap (λ (xs : List Value). values now n ++ xs) (sym (at_drop_all (λ (xs : List Value). under name xs n) vs k le ∙ none_under name n)) ∙ left n

pub plain_end : (old now : List Entry) (name : FieldName) (vs : List (List ℕ)) (whole : List Value) (k : ℕ) → length vs ≤ k → ValuesLeft now old name (map plain (drop k vs)) whole → Grows old now (under name whole)
plain_end old now name vs whole k le left n =
    sym (append-nil (values now n)) ∙ ap (λ (xs : List Value). values now n ++ xs) (sym (at_drop_all (λ (xs : List (List ℕ)). under name (map plain xs) n) vs k le ∙ none_under name n)) ∙ left n

-- ---- what is read step by step

-- the values that are there and those that are still to come are the whole
abbrev pub Owes : List Entry → List Entry → FieldMap → FieldMap → Type 0
Owes now old rest whole = (n : FieldName) → values now n ++ rest n ≡ values old n ++ whole n

pub owes_next : (old now new : List Entry) (one rest more whole : FieldMap) → Grows now new one → ((n : FieldName) → rest n ≡ one n ++ more n) → Owes now old rest whole → Owes new old more whole
owes_next old now new one rest more whole grown step owes n =
    ap (λ (x : List Value). x ++ more n) (grown n) ∙ append_assoc (values now n) (one n) (more n) ∙ ap (λ (x : List Value). values now n ++ x) (sym (step n)) ∙ owes n

pub owes_end : (old now : List Entry) (rest whole : FieldMap) → ((n : FieldName) → rest n ≡ []) → Owes now old rest whole → Grows old now whole
owes_end old now rest whole none owes n = sym (append-nil (values now n)) ∙ ap (λ (x : List Value). values now n ++ x) (sym (none n)) ∙ owes n

-- ---- lawful fields

pub user_lawful : (old new : List Entry) (kind : FourCc) (vs : List Value) → Grows old new (under (User kind) vs) → StayLawful old new
user_lawful old new kind vs grown law =
    let bext : (field : BextField) → values new (Bext field) ≡ values old (Bext field) = λ field. grown (Bext field) ∙ append-nil (values old (Bext field)) in
    let keys : (key : List ℕ) → values new (Key key) ≡ values old (Key key) = λ key. grown (Key key) ∙ append-nil (values old (Key key)) in
    record {
      bext = elim law.bext [
        | inl all ↦ inl (λ field. let x = all field in (x.0, bext field ∙ x.1, x.2))
        | inr none ↦ inr (λ field. bext field ∙ none field)
      ];
      keys = λ key. subst (AllByRecursion HasKeyHead) (sym (keys key)) (law.keys key);
    }

-- ---- the texts of an item

eq_sym : (a b : List ℕ) → bytes_eq a b ≡ bytes_eq b a
eq_sym a b = go (bytes_eq a b) (bytes_eq b a) refl refl
  where
    go : (x y : Bool) → bytes_eq a b ≡ x → bytes_eq b a ≡ y → x ≡ y
    go true true e f = refl
    go false false e f = refl
    go true false e f = let z : bytes_eq b a ≡ true = ap (λ (k : List ℕ). bytes_eq b k) (bytes_same a b e) ∙ bytes_refl b in absurd cc
    go false true e f = let z : bytes_eq a b ≡ true = ap (λ (k : List ℕ). bytes_eq a k) (bytes_same b a f) ∙ bytes_refl a in absurd cc

pub item_grown : (c : Chunk) (kind : FourCc) (old new : List Entry) (vs : List Value) → c.id ≡ kind.0 → is_user_type kind.0 ≡ true → vs ≡ texts c.body → Grows old new (under (User kind) vs) → Grows old new (texts_held (c ∷ []))
item_grown c kind old new vs id text is grown = grown_as old new (under (User kind) vs) (texts_held (c ∷ [])) grown same
  where
    same : (n : FieldName) → under (User kind) vs n ≡ texts_held (c ∷ []) n
    same (User i) =
        ap (λ (t : Bool). if t then vs else []) (eq_sym kind.0 i.0)
        ∙ ap (λ (x : List Value). if bytes_eq i.0 kind.0 then x else []) is
        ∙ go (bytes_eq i.0 kind.0) (is_user_type kind.0) text
        ∙ ap (λ (x : List ℕ). (if bytes_eq i.0 x then (if is_user_type x then texts c.body else []) else []) ++ []) (sym id)
      where
        go : (t u : Bool) → u ≡ true → (if t then texts c.body else []) ≡ (if t then (if u then texts c.body else []) else []) ++ []
        go true true e = sym (append-nil (texts c.body))
        go false true e = refl
        go t false e = absurd cc
    same (Key x) = refl
    same (Bext x) = refl
    same (Info x) = refl
    same (Whole x) = refl
    same (Stream x) = refl

pub item_passed : (c : Chunk) (kind : FourCc) (old : List Entry) → c.id ≡ kind.0 → (is_user_type kind.0 ≡ false) ⊎ (texts c.body ≡ []) → Grows old old (texts_held (c ∷ []))
item_passed c kind old id none = not_grown old (texts_held (c ∷ [])) nothing
  where
    nothing : (n : FieldName) → texts_held (c ∷ []) n ≡ []
    nothing (User i) = ap (λ (x : List ℕ). (if bytes_eq i.0 x then (if is_user_type x then texts c.body else []) else []) ++ []) id ∙ go (bytes_eq i.0 kind.0) (is_user_type kind.0) none
      where
        go : (t u : Bool) → (u ≡ false) ⊎ (texts c.body ≡ []) → (if t then (if u then texts c.body else []) else []) ++ [] ≡ []
        go false u e = refl
        go true false e = refl
        go true true (inl e) = absurd cc
        go true true (inr e) = append-nil (texts c.body) ∙ e
    nothing (Key x) = refl
    nothing (Bext x) = refl
    nothing (Info x) = refl
    nothing (Whole x) = refl
    nothing (Stream x) = refl

-- ---- user data, item by item

pub texts_more : (c : Chunk) (cs : List Chunk) (n : FieldName) → texts_held (c ∷ cs) n ≡ texts_held (c ∷ []) n ++ texts_held cs n
texts_more c cs (User id) = ap (λ (x : List Value). x ++ items.values user_items id.0 cs) (sym (append-nil (items.values_in user_items id.0 c)))
texts_more c cs (Key x) = refl
texts_more c cs (Bext x) = refl
texts_more c cs (Info x) = refl
texts_more c cs (Whole x) = refl
texts_more c cs (Stream x) = refl

pub no_texts : (n : FieldName) → texts_held [] n ≡ []
no_texts (User id) = refl
no_texts (Key x) = refl
no_texts (Bext x) = refl
no_texts (Info x) = refl
no_texts (Whole x) = refl
no_texts (Stream x) = refl

module _ (b : List ℕ) (start end : ℕ) (old now : List Entry) where
  -- what is read of user data from a place on
  pub record UserLeft (at : ℕ) : Type 0 where
    pub owes : Owes now old (texts_held (row user b at end).chunks) (texts_held (row user b start end).chunks)
    pub stop : (row user b at end).stop ≡ (row user b start end).stop

  pub user_stopped : (at : ℕ) (stop : Stop) (w : List ℕ) → row user b at end ≡ stopped stop w → UserLeft at → stop ≡ (row user b start end).stop
  user_stopped at stop w step left = sym (ap (λ (r : Run). r.stop) step) ∙ left.stop

  pub user_end : (at : ℕ) (stop : Stop) (w : List ℕ) → row user b at end ≡ stopped stop w → UserLeft at → Grows old now (texts_held (row user b start end).chunks)
  user_end at stop w step left = owes_end old now (texts_held (row user b at end).chunks) (texts_held (row user b start end).chunks) (λ n. ap (λ (r : Run). texts_held r.chunks n) step ∙ no_texts n) left.owes

pub user_next : (b : List ℕ) (start at next end : ℕ) (old now new : List Entry) (c : Chunk) → row user b at end ≡ and_then c (row user b next end) → Grows now new (texts_held (c ∷ [])) → UserLeft b start end old now at → UserLeft b start end old new next
user_next b start at next end old now new c step grown left = record {
  owes = owes_next old now new (texts_held (c ∷ [])) (texts_held (row user b at end).chunks) (texts_held (row user b next end).chunks) (texts_held (row user b start end).chunks) grown
      (λ n. ap (λ (r : Run). texts_held r.chunks n) step ∙ texts_more c (row user b next end).chunks n) left.owes;
  stop = sym (ap (λ (r : Run). r.stop) step) ∙ left.stop;
}
