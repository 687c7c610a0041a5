-- What an edit of items does to their values, to their order, and to what holds of each.
use Rattle.std.proofs.Common.{◌≡◌, ℕ, Bool, true, false, cond, List, [], ◌∷◌, ◌++◌, map, Option, Some, None, refl, ap, ◌∙◌}
use Rattle.std.specs.Prelude.{◌||◌, not}
use Rattle.std.specs.Str.{bytes_eq}
use Rattle.std.specs.List.{AllByRecursion}
use Rattle.std.proofs.lemmas.List.{append-nil}
use Rattle.std.proofs.lemmas.List.Concat.{flat_map-append}
use Rattle.std.proofs.lemmas.Slice.Eq.{bytes_eq-Decides}
use Rattle.container_model.specs.Chunk.{Chunk}
use Rattle.container_model.specs.Deep.{Token, mark, leaf}
use Rattle.container_model.specs.Items.{Items, Item, is_nil, values_in, values, hits, has, settled, put_value, put_all, listed, updated, item_token, is_mark, has_mark, settled_marks, put_mark, put_marks, IsMade, AreMade, Carrier, edit_carrier, Rereads}
use Rattle.container_model.proofs.Units.{All-both}

pub same_true : (a b : List ℕ) → bytes_eq a b ≡ true → a ≡ b
same_true a b e = (bytes_eq-Decides a b).0 e

pub same_refl : (a : List ℕ) → bytes_eq a a ≡ true
same_refl a = (bytes_eq-Decides a a).1 refl

module _ {V : Type 0} (it : Items V) where
  -- ---- values

  hit_none : (name : List ℕ) (c : Chunk) → hits it name c ≡ false → values_in it name c ≡ []
  hit_none name c e = go (values_in it name c) e
    where
      go : (vs : List V) → not (is_nil vs) ≡ false → vs ≡ []
      go [] e = refl
      go (v ∷ vs) e = absurd cc

  -- an item with a value of a name has that name
  hit_name : (name : List ℕ) (c : Chunk) → hits it name c ≡ true → bytes_eq name (it.name_of c) ≡ true
  hit_name name c e = go (bytes_eq name (it.name_of c)) e
    where
      go : (t : Bool) → not (is_nil (cond t (it.holds c) [])) ≡ true → t ≡ true
      go true e = refl
      go false e = absurd cc

  -- an item of one name has no value of another
  hit_other : (other name : List ℕ) (c : Chunk) → bytes_eq other name ≡ false → hits it name c ≡ true → values_in it other c ≡ []
  hit_other other name c n e =
      let same : name ≡ it.name_of c = same_true name (it.name_of c) (hit_name name c e) in
      let no : bytes_eq other (it.name_of c) ≡ false = rw (← same) n in
      rw no refl

  values_none : (name : List ℕ) (cs : List Chunk) → has it name cs ≡ false → values it name cs ≡ []
  values_none name [] e = refl
  values_none name (c ∷ cs) e = go (hits it name c) refl e (values_none name cs)
    where
      go : (t : Bool) → hits it name c ≡ t → (t || has it name cs) ≡ false → (has it name cs ≡ false → values it name cs ≡ []) → values it name (c ∷ cs) ≡ []
      go true h e again = absurd cc
      go false h e again = rw (hit_none name c h) (again e)

  gone : (name : List ℕ) (cs : List Chunk) → values it name (settled it name [] cs) ≡ []
  gone name [] = refl
  gone name (c ∷ cs) = go (hits it name c) refl (gone name cs)
    where
      go : (t : Bool) → hits it name c ≡ t → values it name (settled it name [] cs) ≡ [] → values it name (cond t (settled it name [] cs) (c ∷ settled it name [] cs)) ≡ []
      go true h ih = ih
      go false h ih = rw (hit_none name c h) ih

  settled_same : (name : List ℕ) (new cs : List Chunk) → has it name cs ≡ true → values it name (settled it name new cs) ≡ values it name new
  settled_same name new [] e = absurd cc
  settled_same name new (c ∷ cs) e = go (hits it name c) refl e (settled_same name new cs)
    where
      go : (t : Bool) → hits it name c ≡ t → (t || has it name cs) ≡ true → (has it name cs ≡ true → values it name (settled it name new cs) ≡ values it name new) → values it name (cond t (new ++ settled it name [] cs) (c ∷ settled it name new cs)) ≡ values it name new
      go true h e again = flat_map-append (values_in it name) new (settled it name [] cs) ∙ rw (gone name cs) (append-nil (values it name new))
      go false h e again = rw (hit_none name c h) (again e)

  settled_other : (other name : List ℕ) (new cs : List Chunk) → bytes_eq other name ≡ false → values it other new ≡ [] → values it other (settled it name new cs) ≡ values it other cs
  settled_other other name new [] n e = refl
  settled_other other name new (c ∷ cs) n e = go (hits it name c) refl (settled_other other name [] cs n refl) (settled_other other name new cs n e)
    where
      go : (t : Bool) → hits it name c ≡ t → values it other (settled it name [] cs) ≡ values it other cs → values it other (settled it name new cs) ≡ values it other cs
          → values it other (cond t (new ++ settled it name [] cs) (c ∷ settled it name new cs)) ≡ values it other (c ∷ cs)
      go true h none again = flat_map-append (values_in it other) new (settled it name [] cs) ∙ rw (e, none, hit_other other name c n h) refl
      go false h none again = ap (λ (x : List V). values_in it other c ++ x) again

  made_values : (name : List ℕ) (v : V) → IsMade it name (Some v) → values it name (it.make name v ∷ []) ≡ v ∷ []
  made_values name v m = rw (m.0, same_refl name, m.1) refl

  made_other : (other name : List ℕ) (v : V) → IsMade it name (Some v) → bytes_eq other name ≡ false → values it other (it.make name v ∷ []) ≡ []
  made_other other name v m n = rw (m.0, n) refl

  gone_all : (name : List ℕ) (cs : List Chunk) → values it name (put_value it name None cs) ≡ []
  gone_all name cs = gone name cs

  values_same : (name : List ℕ) (value : Option V) (cs : List Chunk) → IsMade it name value → values it name (put_value it name value cs) ≡ listed value
  values_same name None cs m = gone name cs
  values_same name (Some v) cs m = go (has it name cs) refl
    where
      go : (t : Bool) → has it name cs ≡ t → values it name (cond t (settled it name (it.make name v ∷ []) cs) (cs ++ it.make name v ∷ [])) ≡ v ∷ []
      go true e = settled_same name (it.make name v ∷ []) cs e ∙ made_values name v m
      go false e = flat_map-append (values_in it name) cs (it.make name v ∷ []) ∙ rw (values_none name cs e) (made_values name v m)

  values_other : (other name : List ℕ) (value : Option V) (cs : List Chunk) → IsMade it name value → bytes_eq other name ≡ false → values it other (put_value it name value cs) ≡ values it other cs
  values_other other name None cs m n = settled_other other name [] cs n refl
  values_other other name (Some v) cs m n = go (has it name cs)
    where
      go : (t : Bool) → values it other (cond t (settled it name (it.make name v ∷ []) cs) (cs ++ it.make name v ∷ [])) ≡ values it other cs
      go true = settled_other other name (it.make name v ∷ []) cs n (made_other other name v m n)
      go false = flat_map-append (values_in it other) cs (it.make name v ∷ []) ∙ rw (made_other other name v m n) (append-nil (values it other cs))

  values_put : (other name : List ℕ) (value : Option V) (cs : List Chunk) → IsMade it name value → values it other (put_value it name value cs) ≡ cond (bytes_eq other name) (listed value) (values it other cs)
  values_put other name value cs m = go (bytes_eq other name) refl
    where
      go : (t : Bool) → bytes_eq other name ≡ t → values it other (put_value it name value cs) ≡ cond t (listed value) (values it other cs)
      go true e = rw (same_true other name e) (values_same name value cs m)
      go false e = values_other other name value cs m e

  -- The values after an edit are the old ones updated.
  pub values_after : (e : List (Item V)) (name : List ℕ) (cs : List Chunk) → AreMade it e → values it name (put_all it e cs) ≡ updated e name (values it name cs)
  values_after [] name cs m = refl
  values_after (i ∷ e) name cs m = values_after e name (put_value it i.name i.value cs) m.1 ∙ ap (updated e name) (values_put name i.name i.value cs m.0)

  -- ---- order

  token_hit : (name : List ℕ) (c : Chunk) → is_mark name (item_token it c) ≡ hits it name c
  token_hit name c = go (it.holds c) (bytes_eq name (it.name_of c)) refl
    where
      go : (vs : List V) (t : Bool) → bytes_eq name (it.name_of c) ≡ t → is_mark name (cond (is_nil vs) (leaf c.form c.id c.body) (mark (it.name_of c))) ≡ not (is_nil (cond t vs []))
      go [] true e = refl
      go [] false e = refl
      go (v ∷ vs) true e = e
      go (v ∷ vs) false e = e

  pub has_token : (name : List ℕ) (cs : List Chunk) → has_mark name (map (item_token it) cs) ≡ has it name cs
  has_token name [] = refl
  has_token name (c ∷ cs) = rw (token_hit name c, has_token name cs) refl

  map-append : (a b : List Chunk) → map (item_token it) (a ++ b) ≡ map (item_token it) a ++ map (item_token it) b
  map-append [] b = refl
  map-append (c ∷ a) b = ap (λ (x : List Token). item_token it c ∷ x) (map-append a b)

  tokens_settled : (name : List ℕ) (new cs : List Chunk) → map (item_token it) (settled it name new cs) ≡ settled_marks name (map (item_token it) new) (map (item_token it) cs)
  tokens_settled name new [] = refl
  tokens_settled name new (c ∷ cs) = rw (token_hit name c) (go (hits it name c) (tokens_settled name [] cs) (tokens_settled name new cs))
    where
      go : (t : Bool) → map (item_token it) (settled it name [] cs) ≡ settled_marks name [] (map (item_token it) cs) → map (item_token it) (settled it name new cs) ≡ settled_marks name (map (item_token it) new) (map (item_token it) cs)
          → map (item_token it) (cond t (new ++ settled it name [] cs) (c ∷ settled it name new cs))
          ≡ cond t (map (item_token it) new ++ settled_marks name [] (map (item_token it) cs)) (item_token it c ∷ settled_marks name (map (item_token it) new) (map (item_token it) cs))
      go true none again = map-append new (settled it name [] cs) ∙ ap (λ (x : List Token). map (item_token it) new ++ x) none
      go false none again = ap (λ (x : List Token). item_token it c ∷ x) again

  made_token : (name : List ℕ) (v : V) → IsMade it name (Some v) → map (item_token it) (it.make name v ∷ []) ≡ mark name ∷ []
  made_token name v m = rw (m.1, m.0) refl

  tokens_put : (name : List ℕ) (value : Option V) (cs : List Chunk) → IsMade it name value → map (item_token it) (put_value it name value cs) ≡ put_mark name value (map (item_token it) cs)
  tokens_put name None cs m = tokens_settled name [] cs
  tokens_put name (Some v) cs m = rw (has_token name cs) (go (has it name cs))
    where
      go : (t : Bool) → map (item_token it) (cond t (settled it name (it.make name v ∷ []) cs) (cs ++ it.make name v ∷ []))
          ≡ cond t (settled_marks name (mark name ∷ []) (map (item_token it) cs)) (map (item_token it) cs ++ mark name ∷ [])
      go true = tokens_settled name (it.make name v ∷ []) cs ∙ ap (λ (x : List Token). settled_marks name x (map (item_token it) cs)) (made_token name v m)
      go false = map-append cs (it.make name v ∷ []) ∙ ap (λ (x : List Token). map (item_token it) cs ++ x) (made_token name v m)

  -- The items stand after an edit where the edit places them.
  pub tokens_after : (e : List (Item V)) (cs : List Chunk) → AreMade it e → map (item_token it) (put_all it e cs) ≡ put_marks e (map (item_token it) cs)
  tokens_after [] cs m = refl
  tokens_after (i ∷ e) cs m = tokens_after e (put_value it i.name i.value cs) m.1 ∙ ap (put_marks e) (tokens_put i.name i.value cs m.0)

  -- ---- what holds of each item

  module _ (P : Chunk → Type 0) where
    all_settled : (name : List ℕ) (new cs : List Chunk) → AllByRecursion P new → AllByRecursion P cs → AllByRecursion P (settled it name new cs)
    all_settled name new [] n h = tt
    all_settled name new (c ∷ cs) n h = go (hits it name c) (all_settled name [] cs tt h.1) (all_settled name new cs n h.1)
      where
        go : (t : Bool) → AllByRecursion P (settled it name [] cs) → AllByRecursion P (settled it name new cs) → AllByRecursion P (cond t (new ++ settled it name [] cs) (c ∷ settled it name new cs))
        go true none again = All-both P new (settled it name [] cs) n none
        go false none again = (h.0, again)

    abbrev pub MakesGood : List ℕ → Option V → Type 0
    MakesGood name None = Unit {0}
    MakesGood name (Some v) = P (it.make name v)

    all_put : (name : List ℕ) (value : Option V) (cs : List Chunk) → MakesGood name value → AllByRecursion P cs → AllByRecursion P (put_value it name value cs)
    all_put name None cs m h = all_settled name [] cs tt h
    all_put name (Some v) cs m h = go (has it name cs)
      where
        go : (t : Bool) → AllByRecursion P (cond t (settled it name (it.make name v ∷ []) cs) (cs ++ it.make name v ∷ []))
        go true = all_settled name (it.make name v ∷ []) cs (m, tt) h
        go false = All-both P cs (it.make name v ∷ []) h (m, tt)

    pub all_after : (e : List (Item V)) (cs : List Chunk) → AllByRecursion (λ i. MakesGood i.name i.value) e → AllByRecursion P cs → AllByRecursion P (put_all it e cs)
    all_after [] cs m h = h
    all_after (i ∷ e) cs m h = all_after e (put_value it i.name i.value cs) m.1 (all_put i.name i.value cs m.0 h)

-- ---- any carrier that keeps its law

module _ {V : Type 0} (k : Carrier) (it : Items V) (Sets : List (Item V) → Type 0) (Ready : List (Item V) → Chunk → Type 0) (Small : List Chunk → Type 0) (law : Rereads k it Sets Ready Small) where
  -- the values of an edited carrier are updated
  pub carrier_values : (e : List (Item V)) (c : Chunk) (name : List ℕ) → Sets e → Ready e c → values it name (k.opening (edit_carrier k it e c)).chunks ≡ updated e name (values it name (k.opening c).chunks)
  carrier_values e c name s r = (law.edited_again e c s r).items_same.0 name ∙ values_after it e name (k.opening c).chunks (law.sets_made e s)

  -- and its items stand where the edit places them
  pub carrier_marks : (e : List (Item V)) (c : Chunk) → Sets e → Ready e c → map (item_token it) (k.opening (edit_carrier k it e c)).chunks ≡ put_marks e (map (item_token it) (k.opening c).chunks)
  carrier_marks e c s r = (law.edited_again e c s r).items_same.1 ∙ tokens_after it e (k.opening c).chunks (law.sets_made e s)

  pub fresh_values : (e : List (Item V)) (name : List ℕ) → Sets e → Small (put_all it e []) → values it name (k.opening (k.fresh (put_all it e []))).chunks ≡ updated e name []
  fresh_values e name s r = (law.fresh_again e s r).items_same.0 name ∙ values_after it e name [] (law.sets_made e s)

  pub fresh_marks : (e : List (Item V)) → Sets e → Small (put_all it e []) → map (item_token it) (k.opening (k.fresh (put_all it e []))).chunks ≡ put_marks e []
  fresh_marks e s r = (law.fresh_again e s r).items_same.1 ∙ tokens_after it e [] (law.sets_made e s)
