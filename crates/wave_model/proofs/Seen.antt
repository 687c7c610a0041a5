-- What is seen of chunks of which `data` has its size in ds64.
use Rattle.std.proofs.Common.{◌≡◌, ℕ, Bool, true, false, List, [], ◌∷◌, map, refl, sym, ap, ◌∙◌}
use Rattle.std.specs.Prelude.{◌&&◌, codes}
use Rattle.std.specs.Str.{bytes_eq}
use Rattle.std.specs.List.{flat_map, AllByRecursion}
use Rattle.std.proofs.lemmas.Bool.{cond-true, cond-false}
use Rattle.part_tree.specs.Names.{whole_ids}
use Rattle.container_model.specs.Chunk.{riff, wide, Chunk}
use Rattle.container_model.proofs.Items.{same_true}
use Rattle.carrier_model.specs.Info.{own_size, is_padding, one_of, info, info_items}
use Rattle.carrier_model.specs.Lists.{values_held, Node}
use Rattle.wave_model.specs.Fields.{has_id, is_bext, is_whole, is_info, is_marked, body_in, plain_nodes, nodes_of}
use Rattle.wave_model.specs.Widen.{widened_data}

-- a view of `data` is the same, wherever its size stands
abbrev pub Formless : {X : Type 0} → (Chunk → List X) → Type 0
Formless v = (c : Chunk) → has_id (codes "data") c ≡ true → v (record c { form = wide }) ≡ v c

pub one_widened : {X : Type 0} (v : Chunk → List X) → Formless v → (c : Chunk) → v (widened_data c) ≡ v c
one_widened v f c = go (has_id (codes "data") c) refl
  where
    go : (t : Bool) → has_id (codes "data") c ≡ t → v (widened_data c) ≡ v c
    go true e = ap v (cond-true (has_id (codes "data") c) (record c { form = wide }) c e) ∙ f c e
    go false e = ap v (cond-false (has_id (codes "data") c) (record c { form = wide }) c e)

pub view_widened : {X : Type 0} (v : Chunk → List X) → Formless v → (cs : List Chunk) → flat_map v (map widened_data cs) ≡ flat_map v cs
view_widened v f [] = refl
view_widened v f (c ∷ cs) = rw (one_widened v f c, view_widened v f cs) refl

-- ---- views that are the same

data_id : (c : Chunk) → has_id (codes "data") c ≡ true → c.id ≡ codes "data"
data_id c e = sym (same_true (codes "data") c.id e)

and_false : (a b : Bool) → b ≡ false → (a && b) ≡ false
and_false true b e = e
and_false false b e = refl

-- `data` holds no fields and is no padding
pub data_no_info : (c : Chunk) → has_id (codes "data") c ≡ true → is_info c ≡ false
data_no_info c e = and_false (own_size c.form) _ (ap (λ (x : List ℕ). bytes_eq x (codes "LIST") && bytes_eq (Rattle.std.specs.Prelude.take 4 c.body) (codes "INFO")) (data_id c e))

data_no_padding : (c : Chunk) → has_id (codes "data") c ≡ true → is_padding c ≡ false
data_no_padding c e = and_false (own_size c.form) _ (ap (λ (x : List ℕ). bytes_eq x (codes "JUNK")) (data_id c e))

data_no_mark : (c : Chunk) → has_id (codes "data") c ≡ true → is_marked c ≡ false
data_no_mark c e = and_false (own_size c.form) _ (ap (one_of (codes "bext" ∷ whole_ids)) (data_id c e))

data_no_bext : (c : Chunk) → has_id (codes "data") c ≡ true → is_bext c ≡ false
data_no_bext c e = and_false (own_size c.form) _ (ap (bytes_eq (codes "bext")) (data_id c e))

data_no_whole : (w : List ℕ) → (c : Chunk) → has_id (codes "data") c ≡ true → is_whole w c ≡ false
data_no_whole w c e = and_false (own_size c.form) _ (go (one_of whole_ids w) (bytes_eq w c.id) refl refl)
  where
    go : (t u : Bool) → one_of whole_ids w ≡ t → bytes_eq w c.id ≡ u → (t && u) ≡ false
    go true true x y = let no : one_of whole_ids (codes "data") ≡ true = sym (ap (one_of whole_ids) (same_true w c.id y ∙ data_id c e)) ∙ x in absurd cc
    go true false x y = refl
    go false u x y = refl

pub see_id : (id : List ℕ) → Formless (body_in (has_id id))
see_id id c e = refl

-- a test that `data` doesn't meet
see_test : (p : Chunk → Bool) → ((c : Chunk) → p (record c { form = wide }) ≡ false) → ((c : Chunk) → has_id (codes "data") c ≡ true → p c ≡ false) → Formless (body_in p)
see_test p w n c e = cond-false (p (record c { form = wide })) _ _ (w c) ∙ sym (cond-false (p c) _ _ (n c e))

pub see_info : Formless (body_in is_info)
see_info = see_test is_info (λ c. refl) data_no_info

pub see_bext : Formless (body_in is_bext)
see_bext = see_test is_bext (λ c. refl) data_no_bext

pub see_whole : (w : List ℕ) → Formless (body_in (is_whole w))
see_whole w = see_test (is_whole w) (λ c. refl) (data_no_whole w)

pub see_held : (name : List ℕ) → Formless (values_held info info_items name)
see_held name c e = sym (cond-false (is_info c) _ [] (data_no_info c e))

pub see_nodes : Formless nodes_of
see_nodes c e =
    sym (cond-false (is_info c) _ (plain_nodes c) (data_no_info c e) ∙ cond-false (is_padding c) [] _ (data_no_padding c e)
    ∙ cond-false (is_marked c) _ (Node.other riff c.id c.body ∷ []) (data_no_mark c e))
