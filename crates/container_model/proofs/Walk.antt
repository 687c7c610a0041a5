-- What is met in a tree of chunks: the chunks that are nested in it, and the ends of what is opened.
use Rattle.std.proofs.Common.{◌≡◌, ℕ, zero, suc, ◌+◌, ◌≤◌, List, [], ◌∷◌, ◌++◌, length, map, take, Option, Some, None, refl, sym, ap, ◌∙◌}
use Rattle.std.specs.List.{flat_map, AllByRecursion}
use Rattle.std.proofs.lemmas.List.{append-nil, take-append-drop}
use Rattle.std.proofs.lemmas.List.Concat.{flat_map-append}
use Rattle.container_model.specs.Chunk.{Chunk, spell, spell_all, Run, ends, GivesBack}
use Rattle.container_model.specs.Deep.{Format, kids, with_kids, mend_at, mend, Whole_at, Whole, Leaf, stands, leaves_at, leaves}
use Rattle.container_model.specs.Walk.{Step, chunk_at, end_at, body_at, along, walk_at, walk, chunk_met, nested_at, nested}
use Rattle.container_model.proofs.Codec.{IsBytes}
use Rattle.container_model.proofs.Deep.{Moves, bytes_of, kids_joined, kids_bytes, each_alike, kids_again, mend_alike}

-- ---- lists

pub flat_flat : {A B C : Type 0} (g : B → List C) (h : A → List B) (xs : List A) → flat_map g (flat_map h xs) ≡ flat_map (λ x. flat_map g (h x)) xs
flat_flat g h [] = refl
flat_flat g h (x ∷ xs) = flat_map-append g (h x) (flat_map h xs) ∙ ap (λ y. flat_map g (h x) ++ y) (flat_flat g h xs)

pub flat_along : {A B : Type 0} (h : A → List B) (g : ℕ → Chunk → List A) (t : Chunk → List B) → ((at : ℕ) (c : Chunk) → flat_map h (g at c) ≡ t c) → (at : ℕ) (cs : List Chunk) → flat_map h (along g at cs) ≡ flat_map t cs
flat_along h g t same at [] = refl
flat_along h g t same at (c ∷ cs) =
    flat_map-append h (g at c) (along g (at + length (spell c)) cs) ∙ ap (λ y. y ++ flat_map h (along g (at + length (spell c)) cs)) (same at c) ∙ ap (λ y. t c ++ y) (flat_along h g t same (at + length (spell c)) cs)

pub all_parts : {A : Type 0} (P : A → Type 0) (a b : List A) → AllByRecursion P (a ++ b) → AllByRecursion P a × AllByRecursion P b
all_parts P [] b h = (tt, h)
all_parts P (x ∷ a) b h = let r = all_parts P a b h.1 in ((h.0, r.0), r.1)

pub all_join : {A : Type 0} (P : A → Type 0) (a b : List A) → AllByRecursion P a → AllByRecursion P b → AllByRecursion P (a ++ b)
all_join P [] b h g = g
all_join P (x ∷ a) b h g = (h.0, all_join P a b h.1 g)

-- ---- what is met, without places

module _ {P S : Type 0} (f : Format P S) where
  walk_by : (d : ℕ) → ((q : P) (at : ℕ) (c : Chunk) → flat_map chunk_met (walk f d q at c) ≡ nested f d q c) → (at : ℕ) (c : Chunk) (o : Option P)
      → flat_map chunk_met (walk_at f (walk f d) at c o) ≡ nested_at f (nested f d) c o
  walk_by d again at c None = refl
  walk_by d again at c (Some q) =
      flat_map-append chunk_met (along (walk f d q) (body_at at c + f.prefix q) (kids f q c).chunks) _
      ∙ append-nil _ ∙ flat_along chunk_met (walk f d q) (nested f d q) (again q) (body_at at c + f.prefix q) (kids f q c).chunks

  pub walk_nested : (d : ℕ) (p : P) (at : ℕ) (c : Chunk) → flat_map chunk_met (walk f d p at c) ≡ nested f d p c
  unfolding walk nested
  walk_nested zero p at c = refl
  walk_nested (suc d) p at c = ap (λ (x : List (Leaf P)). stands p c ∷ x) (walk_by d (λ q at c. walk_nested d q at c) at c (f.opens p c.id (take 4 c.body)))

  -- ---- what holds of all that is met

  module _ (R : P → Chunk → Type 0) (low : (q : P) (c : Chunk) → f.prefix q ≤ length c.body) where
    abbrev pub OfStep : Step P → Type 0
    OfStep (chunk_at p at c) = R p c
    OfStep (end_at p at stop) = stop ≡ ends

    abbrev pub OfLeaf : Leaf P → Type 0
    OfLeaf l = R l.place l.chunk

    -- each chunk, and what is opened is read to its end
    abbrev pub Sound : ℕ → P → Chunk → Type 0
    Sound d p c = Whole f d p c × AllByRecursion OfLeaf (nested f d p c)

    along_from : (d : ℕ) (q : P) → ((at : ℕ) (c : Chunk) → AllByRecursion OfStep (walk f d q at c) → Sound d q c) → (at : ℕ) (cs : List Chunk) → AllByRecursion OfStep (along (walk f d q) at cs)
        → AllByRecursion (Whole f d q) cs × AllByRecursion OfLeaf (flat_map (nested f d q) cs)
    along_from d q again at [] h = (tt, tt)
    along_from d q again at (c ∷ cs) h =
        let p = all_parts OfStep (walk f d q at c) (along (walk f d q) (at + length (spell c)) cs) h in
        let here = again at c p.0 in
        let more = along_from d q again (at + length (spell c)) cs p.1 in
        ((here.0, more.0), all_join OfLeaf (nested f d q c) (flat_map (nested f d q) cs) here.1 more.1)

    along_to : (d : ℕ) (q : P) → ((at : ℕ) (c : Chunk) → Sound d q c → AllByRecursion OfStep (walk f d q at c)) → (at : ℕ) (cs : List Chunk)
        → AllByRecursion (Whole f d q) cs → AllByRecursion OfLeaf (flat_map (nested f d q) cs) → AllByRecursion OfStep (along (walk f d q) at cs)
    along_to d q again at [] w h = tt
    along_to d q again at (c ∷ cs) w h =
        let p = all_parts OfLeaf (nested f d q c) (flat_map (nested f d q) cs) h in
        all_join OfStep (walk f d q at c) (along (walk f d q) (at + length (spell c)) cs) (again at c (w.0, p.0)) (along_to d q again (at + length (spell c)) cs w.1 p.1)

    opened_from : (d : ℕ) → ((q : P) (at : ℕ) (c : Chunk) → AllByRecursion OfStep (walk f d q at c) → Sound d q c) → (at : ℕ) (c : Chunk) (o : Option P) → AllByRecursion OfStep (walk_at f (walk f d) at c o)
        → Whole_at f (Whole f d) c o × AllByRecursion OfLeaf (nested_at f (nested f d) c o)
    opened_from d again at c None h = (tt, tt)
    opened_from d again at c (Some q) h =
        let p = all_parts OfStep (along (walk f d q) (body_at at c + f.prefix q) (kids f q c).chunks) _ h in
        let r = along_from d q (again q) (body_at at c + f.prefix q) (kids f q c).chunks p.0 in
        ((p.1.0, low q c, r.0), r.1)

    opened_to : (d : ℕ) → ((q : P) (at : ℕ) (c : Chunk) → Sound d q c → AllByRecursion OfStep (walk f d q at c)) → (at : ℕ) (c : Chunk) (o : Option P)
        → Whole_at f (Whole f d) c o → AllByRecursion OfLeaf (nested_at f (nested f d) c o) → AllByRecursion OfStep (walk_at f (walk f d) at c o)
    opened_to d again at c None w h = tt
    opened_to d again at c (Some q) w h =
        all_join OfStep (along (walk f d q) (body_at at c + f.prefix q) (kids f q c).chunks) _ (along_to d q (again q) (body_at at c + f.prefix q) (kids f q c).chunks w.2 h) (w.0, tt)

    pub sound_from : (d : ℕ) (p : P) (at : ℕ) (c : Chunk) → AllByRecursion OfStep (walk f d p at c) → Sound d p c
    unfolding walk nested Whole
    sound_from zero p at c h = (tt, h)
    sound_from (suc d) p at c h = let r = opened_from d (λ q at c x. sound_from d q at c x) at c (f.opens p c.id (take 4 c.body)) h.1 in (r.0, (h.0, r.1))

    pub sound_to : (d : ℕ) (p : P) (at : ℕ) (c : Chunk) → Sound d p c → AllByRecursion OfStep (walk f d p at c)
    unfolding walk nested Whole
    sound_to zero p at c h = h.1
    sound_to (suc d) p at c h = (h.1.0, opened_to d (λ q at c x. sound_to d q at c x) at c (f.opens p c.id (take 4 c.body)) h.0 h.1.1)

  -- ---- the leaves among the nested chunks

  module _ {A : Type 0} (t : P → Chunk → List A) (closed : (p q : P) (c : Chunk) → f.opens p c.id (take 4 c.body) ≡ Some q → t p c ≡ []) where
    abbrev pub of_leaf : Leaf P → List A
    of_leaf l = t l.place l.chunk

    each_nested : (d : ℕ) (q : P) → ((c : Chunk) → flat_map of_leaf (nested f d q c) ≡ flat_map of_leaf (leaves f d q c)) → (cs : List Chunk) → flat_map of_leaf (flat_map (nested f d q) cs) ≡ flat_map of_leaf (flat_map (leaves f d q) cs)
    each_nested d q again [] = refl
    each_nested d q again (c ∷ cs) =
        flat_map-append of_leaf (nested f d q c) (flat_map (nested f d q) cs) ∙ ap (λ y. y ++ flat_map of_leaf (flat_map (nested f d q) cs)) (again c)
        ∙ ap (λ y. flat_map of_leaf (leaves f d q c) ++ y) (each_nested d q again cs) ∙ sym (flat_map-append of_leaf (leaves f d q c) (flat_map (leaves f d q) cs))

    opened_leaves : (d : ℕ) → ((q : P) (c : Chunk) → flat_map of_leaf (nested f d q c) ≡ flat_map of_leaf (leaves f d q c)) → (p : P) (c : Chunk) (o : Option P) → f.opens p c.id (take 4 c.body) ≡ o
        → t p c ++ flat_map of_leaf (nested_at f (nested f d) c o) ≡ flat_map of_leaf (leaves_at f (leaves f d) p c o)
    opened_leaves d again p c None e = refl
    opened_leaves d again p c (Some q) e = ap (λ y. y ++ flat_map of_leaf (flat_map (nested f d q) (kids f q c).chunks)) (closed p q c e) ∙ each_nested d q (again q) (kids f q c).chunks

    -- what no opened chunk holds is held by leaves
    pub nested_leaves : (d : ℕ) (p : P) (c : Chunk) → flat_map of_leaf (nested f d p c) ≡ flat_map of_leaf (leaves f d p c)
    unfolding nested leaves
    nested_leaves zero p c = refl
    nested_leaves (suc d) p c = opened_leaves d (λ q c. nested_leaves d q c) p c (f.opens p c.id (take 4 c.body)) refl

-- ---- a change of leaves that keeps their lengths

module _ {P S : Type 0} (f : Format P S) (good : GivesBack f.front) (moves : Moves f.front) (m : P → Chunk → List ℕ) (keeps : (p : P) (c : Chunk) → length (m p c) ≡ length c.body) where
  module _ {A : Type 0} (g : Leaf P → List A) (by_id : (p : P) (c d : Chunk) → d.id ≡ c.id → g (stands p d) ≡ g (stands p c)) where
    each_kid : (h : Chunk → Chunk) (t : Chunk → List (Leaf P)) (W : Chunk → Type 0) → ((k : Chunk) → W k → IsBytes k.body → flat_map g (t (h k)) ≡ flat_map g (t k)) → (cs : List Chunk)
        → AllByRecursion W cs → AllByRecursion (λ c. IsBytes c.body) cs → flat_map g (flat_map t (map h cs)) ≡ flat_map g (flat_map t cs)
    each_kid h t W same [] w b = refl
    each_kid h t W same (c ∷ cs) w b =
        flat_map-append g (t (h c)) (flat_map t (map h cs)) ∙ ap (λ y. y ++ flat_map g (flat_map t (map h cs))) (same c w.0 b.0)
        ∙ ap (λ y. flat_map g (t c) ++ y) (each_kid h t W same cs w.1 b.1) ∙ sym (flat_map-append g (t c) (flat_map t cs))

    at_nested : (d : ℕ) → ((q : P) (k : Chunk) → Whole f d q k → IsBytes k.body → flat_map g (nested f d q (mend f m d q k)) ≡ flat_map g (nested f d q k))
        → (p : P) (c : Chunk) (o : Option P) → Whole_at f (Whole f d) c o → IsBytes c.body
        → g (stands p (mend_at f m (mend f m d) p c o)) ++ flat_map g (nested_at f (nested f d) (mend_at f m (mend f m d) p c o) o) ≡ g (stands p c) ++ flat_map g (nested_at f (nested f d) c o)
    at_nested d h p c None w bytes = ap (λ y. y ++ []) (by_id p c (mend_at f m (mend f m d) p c None) refl)
    at_nested d h p c (Some q) w bytes =
        let k = kids f q c in
        let bs = bytes_of k.chunks k.left (kids_bytes f good moves m keeps q c bytes) in
        let all = each_alike f good moves m keeps (mend f m d q) (Whole f d q) (λ x y z. mend_alike f good moves m keeps d q x y z) k.chunks w.2 bs in
        let r = kids_again f good moves m keeps (mend f m d q) q c bytes w.0 w.1 all in
        ap (λ y. y ++ flat_map g (nested_at f (nested f d) (mend_at f m (mend f m d) p c (Some q)) (Some q))) (by_id p c (mend_at f m (mend f m d) p c (Some q)) refl)
        ∙ ap (λ (x : Run). g (stands p c) ++ flat_map g (flat_map (nested f d q) x.chunks)) r.0
        ∙ ap (λ y. g (stands p c) ++ y) (each_kid (mend f m d q) (nested f d q) (Whole f d q) (h q) k.chunks w.2 bs)

    -- What is told by identifiers alone, and by what chunks stand in, stays.
    pub mend_nested : ((d : ℕ) (p : P) (c : Chunk) → Whole f d p c → IsBytes c.body → f.opens p (mend f m d p c).id (take 4 (mend f m d p c).body) ≡ f.opens p c.id (take 4 c.body))
        → (d : ℕ) (p : P) (c : Chunk) → Whole f d p c → IsBytes c.body → flat_map g (nested f d p (mend f m d p c)) ≡ flat_map g (nested f d p c)
    unfolding mend Whole nested
    mend_nested same zero p c w bytes = ap (λ y. y ++ []) (by_id p c (mend f m zero p c) refl)
    mend_nested same (suc d) p c w bytes =
        ap (λ o. g (stands p (mend f m (suc d) p c)) ++ flat_map g (nested_at f (nested f d) (mend f m (suc d) p c) o)) (same (suc d) p c w bytes)
        ∙ at_nested d (λ q k x b. mend_nested same d q k x b) p c (f.opens p c.id (take 4 c.body)) w bytes

  -- where no leaf changes, nothing does
  abbrev pub StillLeaf : Leaf P → Type 0
  StillLeaf l = IsBytes l.chunk.body → m l.place l.chunk ≡ l.chunk.body

  kids_still : (d : ℕ) (q : P) → ((c : Chunk) → AllByRecursion StillLeaf (leaves f d q c) → Whole f d q c → IsBytes c.body → mend f m d q c ≡ c) → (cs : List Chunk)
      → AllByRecursion StillLeaf (flat_map (leaves f d q) cs) → AllByRecursion (Whole f d q) cs → AllByRecursion (λ c. IsBytes c.body) cs → map (mend f m d q) cs ≡ cs
  kids_still d q again [] h w b = refl
  kids_still d q again (c ∷ cs) h w b =
      let p = all_parts StillLeaf (leaves f d q c) (flat_map (leaves f d q) cs) h in
      rw (again c p.0 w.0 b.0, kids_still d q again cs p.1 w.1 b.1) refl

  at_still : (d : ℕ) → ((q : P) (c : Chunk) → AllByRecursion StillLeaf (leaves f d q c) → Whole f d q c → IsBytes c.body → mend f m d q c ≡ c)
      → (p : P) (c : Chunk) (o : Option P) → AllByRecursion StillLeaf (leaves_at f (leaves f d) p c o) → Whole_at f (Whole f d) c o → IsBytes c.body → mend_at f m (mend f m d) p c o ≡ c
  at_still d again p c None h w bytes = ap (λ (x : List ℕ). record c { body = x }) (h.0 bytes)
  at_still d again p c (Some q) h w bytes =
      let k = kids f q c in
      let same = kids_still d q (again q) k.chunks h w.2 (bytes_of k.chunks k.left (kids_bytes f good moves m keeps q c bytes)) in
      let body : take (f.prefix q) c.body ++ (spell_all k.chunks ++ k.left) ≡ c.body = ap (λ (x : List ℕ). take (f.prefix q) c.body ++ x) (kids_joined f good moves m keeps q c bytes) ∙ take-append-drop (f.prefix q) c.body in
      ap (λ (cs : List Chunk). with_kids f q c cs) same ∙ ap (λ (x : List ℕ). record c { body = x }) body

  pub mend_still : (d : ℕ) (p : P) (c : Chunk) → AllByRecursion StillLeaf (leaves f d p c) → Whole f d p c → IsBytes c.body → mend f m d p c ≡ c
  unfolding mend Whole leaves
  mend_still zero p c h w bytes = ap (λ (x : List ℕ). record c { body = x }) (h.0 bytes)
  mend_still (suc d) p c h w bytes = at_still d (λ q k x y z. mend_still d q k x y z) p c (f.opens p c.id (take 4 c.body)) h w bytes
