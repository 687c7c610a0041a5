-- What each step of an edit does to the nodes.
use Rattle.std.proofs.Common.{◌≡◌, ℕ, zero, suc, Bool, true, false, cond, List, [], ◌∷◌, ◌++◌, map, Option, Some, None, refl, sym, ap, ◌∙◌, inl, inr}
use Rattle.std.specs.Prelude.{◌||◌, ◌&&◌, ◌⊎◌, codes}
use Rattle.std.specs.Str.{bytes_eq}
use Rattle.std.specs.List.{list_any, AllByRecursion}
use Rattle.std.proofs.lemmas.Bool.{and_parts, cond-true, cond-false}
use Rattle.std.proofs.lemmas.List.Folds.{list_any-append}
use Rattle.part_tree.specs.declared.field.Value.{Value}
use Rattle.part_tree.specs.Names.{whole_ids}
use Rattle.field_model.specs.Bext.{new_body}
use Rattle.field_model.specs.Body.{edited_bext}
use Rattle.field_model.specs.Update.{RawItem}
use Rattle.container_model.specs.Chunk.{Chunk}
use Rattle.container_model.proofs.Items.{same_true, same_refl}
use Rattle.carrier_model.specs.Cells.{leave, become, changed, settle, Side, behind, before, Test, never, meets, insert, acted}
use Rattle.carrier_model.specs.Lists.{items_of, Node, list, sign, other, has_list, node_meets, insert_node}
use Rattle.carrier_model.specs.Info.{own_size, is_padding, list_run, made, one_of, info, info_items, SetsInfo, InfoReady, ItemsSmall}
use Rattle.carrier_model.proofs.Cells.{acted_unseen}
use Rattle.carrier_model.proofs.Lists.{insert_nodes}
use Rattle.carrier_model.proofs.Info.{info_rereads, part_sets, closed_is, fresh_is}
use Rattle.wave_model.specs.Fields.{has_id, is_bext, is_whole, is_info, is_marked, plain_nodes, nodes_of, nodes}
use Rattle.wave_model.specs.Carry.{edits_bext, whole_part, some_chunk, is_format, bext_by, bext_act, first_becomes, whole_by, whole_act, is_sign, has_sign, without_sign, first_sign, place_bext_by, place_bext, place_whole_by, place_whole, place_wholes}
use Rattle.carrier_model.specs.Steps.{stepped}
use Rattle.wave_model.proofs.Acts.{made_is}

-- ---- the identifiers of marks

abbrev marks : List (List ℕ)
marks = codes "bext" ∷ whole_ids

among_not : (w id : List ℕ) → one_of marks w ≡ true → one_of marks id ≡ false → bytes_eq w id ≡ false
among_not w id e n = go (bytes_eq w id) refl
  where
    go : (t : Bool) → bytes_eq w id ≡ t → t ≡ false
    go true i = let here : one_of marks id ≡ true = sym (ap (one_of marks) (same_true w id i)) ∙ e in absurd cc
    go false i = refl

whole_mark : (w : List ℕ) → one_of whole_ids w ≡ true → one_of marks w ≡ true
whole_mark w e = ap (λ (b : Bool). bytes_eq w (codes "bext") || b) e ∙ go (bytes_eq w (codes "bext"))
  where
    go : (a : Bool) → (a || true) ≡ true
    go true = refl
    go false = refl

-- what a chunk is, seen by its nodes
data Kind (c : Chunk) : Type 0 where
  a_list : c.id ≡ codes "LIST" → nodes_of c ≡ list (items_of info info_items c) (list_run c).left ∷ [] → Kind c
  a_padding : c.id ≡ codes "JUNK" → nodes_of c ≡ [] → Kind c
  a_mark : own_size c.form ≡ true → one_of marks c.id ≡ true → nodes_of c ≡ sign c.id ∷ [] → Kind c
  a_leaf : (own_size c.form && one_of marks c.id) ≡ false → nodes_of c ≡ other Rattle.container_model.specs.Chunk.riff c.id c.body ∷ [] → Kind c

kind_of : (c : Chunk) → Kind c
kind_of c = go (is_info c) refl (is_padding c) refl (is_marked c) refl
  where
    go : (t : Bool) → is_info c ≡ t → (u : Bool) → is_padding c ≡ u → (v : Bool) → is_marked c ≡ v → Kind c
    go true i u j v k = a_list (same_true c.id (codes "LIST") (and_parts _ _ (and_parts (own_size c.form) _ i).1).0) (cond-true (is_info c) (list (items_of info info_items c) (list_run c).left ∷ []) (plain_nodes c) i)
    go false i true j v k = a_padding (same_true c.id (codes "JUNK") (and_parts (own_size c.form) _ j).1) (cond-false (is_info c) (list (items_of info info_items c) (list_run c).left ∷ []) (plain_nodes c) i ∙ cond-true (is_padding c) _ _ j)
    go false i false j true k =
        let p = and_parts (own_size c.form) (one_of marks c.id) k in
        a_mark p.0 p.1 (cond-false (is_info c) (list (items_of info info_items c) (list_run c).left ∷ []) (plain_nodes c) i ∙ cond-false (is_padding c) _ _ j ∙ cond-true (is_marked c) _ _ k)
    go false i false j false k = a_leaf k (cond-false (is_info c) (list (items_of info info_items c) (list_run c).left ∷ []) (plain_nodes c) i ∙ cond-false (is_padding c) _ _ j ∙ cond-false (is_marked c) _ _ k)

abbrev marked_by : List ℕ → Chunk → Bool
marked_by w c = own_size c.form && has_id w c

false_and : (a : Bool) → (a && false) ≡ false
false_and true = refl
false_and false = refl

-- a chunk's nodes have a mark exactly where it is a field's chunk
sign_is : (w : List ℕ) (c : Chunk) → one_of marks w ≡ true → has_sign w (nodes_of c) ≡ marked_by w c
sign_is w c e = go (kind_of c)
  where
    go : Kind c → has_sign w (nodes_of c) ≡ marked_by w c
    go (a_list i n) = ap (has_sign w) n ∙ sym (ap (λ (x : List ℕ). own_size c.form && bytes_eq w x) i ∙ ap (λ (b : Bool). own_size c.form && b) (among_not w (codes "LIST") e refl) ∙ false_and (own_size c.form))
    go (a_padding i n) = ap (has_sign w) n ∙ sym (ap (λ (x : List ℕ). own_size c.form && bytes_eq w x) i ∙ ap (λ (b : Bool). own_size c.form && b) (among_not w (codes "JUNK") e refl) ∙ false_and (own_size c.form))
    go (a_mark o m n) = ap (has_sign w) n ∙ or_none (bytes_eq w c.id) ∙ ap (λ (b : Bool). b && bytes_eq w c.id) (sym o)
      where
        or_none : (b : Bool) → (b || false) ≡ (true && b)
        or_none true = refl
        or_none false = refl
    go (a_leaf m n) = ap (has_sign w) n ∙ sym (by (own_size c.form) (bytes_eq w c.id) refl refl)
      where
        by : (o b : Bool) → own_size c.form ≡ o → bytes_eq w c.id ≡ b → (o && b) ≡ false
        by true true x y =
            let here : one_of marks c.id ≡ true = sym (ap (one_of marks) (same_true w c.id y)) ∙ e in
            let both : (own_size c.form && one_of marks c.id) ≡ true = rw (x, here) refl in
            absurd cc
        by true false x y = refl
        by false b x y = refl

signs_are : (w : List ℕ) (cs : List Chunk) → one_of marks w ≡ true → has_sign w (nodes cs) ≡ list_any (marked_by w) cs
signs_are w [] e = refl
signs_are w (c ∷ cs) e = list_any-append (is_sign w) (nodes_of c) (nodes cs) ∙ ap (λ (b : Bool). b || has_sign w (nodes cs)) (sign_is w c e) ∙ ap (λ (b : Bool). marked_by w c || b) (signs_are w cs e)

-- the chunk of a mark
sign_node : (w : List ℕ) (c : Chunk) → one_of marks w ≡ true → marked_by w c ≡ true → nodes_of c ≡ sign w ∷ []
sign_node w c e m = go (kind_of c)
  where
    same : w ≡ c.id
    same = same_true w c.id (and_parts (own_size c.form) _ m).1

    go : Kind c → nodes_of c ≡ sign w ∷ []
    go (a_list i n) = let no : bytes_eq w (codes "LIST") ≡ false = among_not w (codes "LIST") e refl in let yes : bytes_eq w (codes "LIST") ≡ true = ap (bytes_eq w) (sym (same ∙ i)) ∙ same_refl w in absurd cc
    go (a_padding i n) = let no : bytes_eq w (codes "JUNK") ≡ false = among_not w (codes "JUNK") e refl in let yes : bytes_eq w (codes "JUNK") ≡ true = ap (bytes_eq w) (sym (same ∙ i)) ∙ same_refl w in absurd cc
    go (a_mark o k n) = n ∙ ap (λ (x : List ℕ). sign x ∷ []) (sym same)
    go (a_leaf k n) =
        let here : one_of marks c.id ≡ true = sym (ap (one_of marks) same) ∙ e in
        let both : (own_size c.form && one_of marks c.id) ≡ true = rw ((and_parts (own_size c.form) (has_id w c) m).0, here) refl in
        absurd cc

same_whole : (w : List ℕ) → one_of whole_ids w ≡ true → (c : Chunk) → is_whole w c ≡ marked_by w c
same_whole w e c = ap (λ (b : Bool). own_size c.form && (b && has_id w c)) e

any_whole : (w : List ℕ) → one_of whole_ids w ≡ true → (cs : List Chunk) → some_chunk (is_whole w) cs ≡ list_any (marked_by w) cs
any_whole w e [] = refl
any_whole w e (c ∷ cs) = ap (λ (b : Bool). b || list_any (is_whole w) cs) (same_whole w e c) ∙ ap (λ (b : Bool). marked_by w c || b) (any_whole w e cs)

-- ---- a test that sees no carrier

pub no_lists : (c : Chunk) → AllByRecursion (λ x. has_list (x ∷ []) ≡ false) (plain_nodes c)
no_lists c = go (is_padding c) (is_marked c)
  where
    go : (t u : Bool) → AllByRecursion (λ x. has_list (x ∷ []) ≡ false) (cond t [] (cond u (sign c.id ∷ []) (other Rattle.container_model.specs.Chunk.riff c.id c.body ∷ [])))
    go true u = tt
    go false true = (refl, tt)
    go false false = (refl, tt)

abbrev pub Sees : Test → Type 0
Sees t = (c : Chunk) → ((x : Node) × (nodes_of c ≡ x ∷ []) × (node_meets t x ≡ meets t c)) ⊎ ((nodes_of c ≡ []) × (meets t c ≡ false))

pub sees_never : Sees never
sees_never c = go (kind_of c)
  where
    go : Kind c → ((x : Node) × (nodes_of c ≡ x ∷ []) × (node_meets never x ≡ meets never c)) ⊎ ((nodes_of c ≡ []) × (meets never c ≡ false))
    go (a_list i n) = inl (list (items_of info info_items c) (list_run c).left, n, refl)
    go (a_padding i n) = inr (n, refl)
    go (a_mark o m n) = inl (sign c.id, n, refl)
    go (a_leaf m n) = inl (other Rattle.container_model.specs.Chunk.riff c.id c.body, n, refl)

sees_format : Sees is_format
sees_format c = go (kind_of c)
  where
    go : Kind c → ((x : Node) × (nodes_of c ≡ x ∷ []) × (node_meets is_format x ≡ meets is_format c)) ⊎ ((nodes_of c ≡ []) × (meets is_format c ≡ false))
    go (a_list i n) = inl (list (items_of info info_items c) (list_run c).left, n, sym (ap (λ (x : List ℕ). is_format x c.body) i))
    go (a_padding i n) = inr (n, ap (λ (x : List ℕ). is_format x c.body) i)
    go (a_mark o m n) = inl (sign c.id, n, sym (among_not c.id (codes "fmt ") m refl))
    go (a_leaf m n) = inl (other Rattle.container_model.specs.Chunk.riff c.id c.body, n, refl)

insert_seen : (s : Side) (t : Test) (x : Chunk) (y : Node) (cs : List Chunk) → Sees t → nodes_of x ≡ y ∷ [] → nodes (insert s t x cs) ≡ insert_node s t y (nodes cs)
insert_seen s t x y cs sees e = insert_nodes info info_items SetsInfo InfoReady ItemsSmall info_rereads part_sets closed_is fresh_is plain_nodes no_lists s t x y cs sees e

-- ---- `bext`

pub bext_nodes : (e : List RawItem) (cs : List Chunk) → nodes (acted (bext_act e cs) cs) ≡ place_bext e (nodes cs)
bext_nodes e cs = go (edits_bext e) (some_chunk is_bext cs) ∙ ap (place_bext_by (nodes cs) (edits_bext e)) (sym (signs_are (codes "bext") cs refl))
  where
    go : (t u : Bool) → nodes (acted (bext_by e t u) cs) ≡ place_bext_by (nodes cs) t u
    go false u = refl
    go true true = acted_unseen nodes_of (bext_by e true true) (λ n c h. sym (sign_node (codes "bext") c refl h)) cs
    go true false = insert_seen before is_format (made (codes "bext") (edited_bext e new_body)) (sign (codes "bext")) cs sees_format refl

-- ---- whole chunks

without_pass : (w : List ℕ) (a k : List Node) → has_sign w a ≡ false → without_sign w (a ++ k) ≡ a ++ without_sign w k
without_pass w [] k e = refl
without_pass w (x ∷ a) k e = go (is_sign w x) e (without_pass w a k)
  where
    go : (t : Bool) → (t || list_any (is_sign w) a) ≡ false → (list_any (is_sign w) a ≡ false → without_sign w (a ++ k) ≡ a ++ without_sign w k) → cond t (without_sign w (a ++ k)) (x ∷ without_sign w (a ++ k)) ≡ x ∷ (a ++ without_sign w k)
    go true e again = absurd cc
    go false e again = ap (λ (y : List Node). x ∷ y) (again e)

first_pass : (w : List ℕ) (a k : List Node) → has_sign w a ≡ false → first_sign w (a ++ k) ≡ a ++ first_sign w k
first_pass w [] k e = refl
first_pass w (x ∷ a) k e = go (is_sign w x) e (first_pass w a k)
  where
    go : (t : Bool) → (t || list_any (is_sign w) a) ≡ false → (list_any (is_sign w) a ≡ false → first_sign w (a ++ k) ≡ a ++ first_sign w k) → cond t (x ∷ without_sign w (a ++ k)) (x ∷ first_sign w (a ++ k)) ≡ x ∷ (a ++ first_sign w k)
    go true e again = absurd cc
    go false e again = ap (λ (y : List Node). x ∷ y) (again e)

module _ (w : List ℕ) (f : one_of whole_ids w ≡ true) where
  hit : (c : Chunk) → is_whole w c ≡ true → nodes_of c ≡ sign w ∷ []
  hit c i = sign_node w c (whole_mark w f) (sym (same_whole w f c) ∙ i)

  miss : (c : Chunk) → is_whole w c ≡ false → has_sign w (nodes_of c) ≡ false
  miss c i = sign_is w c (whole_mark w f) ∙ sym (same_whole w f c) ∙ i

  without_hit : (k : List Node) → without_sign w (sign w ∷ k) ≡ without_sign w k
  without_hit k = cond-true (bytes_eq w w) (without_sign w k) (sign w ∷ without_sign w k) (same_refl w)

  first_hit : (k : List Node) → first_sign w (sign w ∷ k) ≡ sign w ∷ without_sign w k
  first_hit k = cond-true (bytes_eq w w) (sign w ∷ without_sign w k) (sign w ∷ first_sign w k) (same_refl w)

  none_left : (new : List Chunk) (n : ℕ) (c : Chunk) → changed (first_becomes new (suc n) c) c ≡ []
  none_left new n c = refl

  later_nodes : (new : List Chunk) (n : ℕ) (cs : List Chunk) → nodes (settle (is_whole w) (first_becomes new) (suc n) cs) ≡ without_sign w (nodes cs)
  later_nodes new n [] = refl
  later_nodes new n (c ∷ cs) = go (is_whole w c) refl (λ m. later_nodes new m cs)
    where
      go : (t : Bool) → is_whole w c ≡ t → ((m : ℕ) → nodes (settle (is_whole w) (first_becomes new) (suc m) cs) ≡ without_sign w (nodes cs))
          → nodes (changed (cond t (become []) leave) c ++ settle (is_whole w) (first_becomes new) (cond t (suc (suc n)) (suc n)) cs) ≡ without_sign w (nodes_of c ++ nodes cs)
      go true i again = again (suc n) ∙ sym (ap (λ (x : List Node). without_sign w (x ++ nodes cs)) (hit c i) ∙ without_hit (nodes cs))
      go false i again = ap (λ (x : List Node). nodes_of c ++ x) (again n) ∙ sym (without_pass w (nodes_of c) (nodes cs) (miss c i))

  gone_nodes : (n : ℕ) (cs : List Chunk) → nodes (settle (is_whole w) (first_becomes []) n cs) ≡ without_sign w (nodes cs)
  gone_nodes n [] = refl
  gone_nodes n (c ∷ cs) = go (is_whole w c) refl (λ m. gone_nodes m cs)
    where
      empty : (n : ℕ) → changed (first_becomes [] n c) c ≡ []
      empty zero = refl
      empty (suc n) = refl

      go : (t : Bool) → is_whole w c ≡ t → ((m : ℕ) → nodes (settle (is_whole w) (first_becomes []) m cs) ≡ without_sign w (nodes cs))
          → nodes (changed (cond t (first_becomes [] n c) leave) c ++ settle (is_whole w) (first_becomes []) (cond t (suc n) n) cs) ≡ without_sign w (nodes_of c ++ nodes cs)
      go true i again =
          ap (λ (x : List Chunk). nodes (x ++ settle (is_whole w) (first_becomes []) (suc n) cs)) (empty n) ∙ again (suc n) ∙ sym (ap (λ (x : List Node). without_sign w (x ++ nodes cs)) (hit c i) ∙ without_hit (nodes cs))
      go false i again = ap (λ (x : List Node). nodes_of c ++ x) (again n) ∙ sym (without_pass w (nodes_of c) (nodes cs) (miss c i))

  made_node : (raw : List ℕ) → nodes_of (made w raw) ≡ sign w ∷ []
  made_node raw = hit (made w raw) (made_is w raw f)

  set_nodes : (raw : List ℕ) (cs : List Chunk) → nodes (settle (is_whole w) (first_becomes (made w raw ∷ [])) 0 cs) ≡ first_sign w (nodes cs)
  set_nodes raw [] = refl
  set_nodes raw (c ∷ cs) = go (is_whole w c) refl (set_nodes raw cs)
    where
      go : (t : Bool) → is_whole w c ≡ t → nodes (settle (is_whole w) (first_becomes (made w raw ∷ [])) 0 cs) ≡ first_sign w (nodes cs)
          → nodes (changed (cond t (become (made w raw ∷ [])) leave) c ++ settle (is_whole w) (first_becomes (made w raw ∷ [])) (cond t 1 0) cs) ≡ first_sign w (nodes_of c ++ nodes cs)
      go true i again =
          ap (λ (x : List Node). x ++ nodes (settle (is_whole w) (first_becomes (made w raw ∷ [])) 1 cs)) (made_node raw) ∙ ap (λ (x : List Node). sign w ∷ x) (later_nodes (made w raw ∷ []) 0 cs)
          ∙ sym (ap (λ (x : List Node). first_sign w (x ++ nodes cs)) (hit c i) ∙ first_hit (nodes cs))
      go false i again = ap (λ (x : List Node). nodes_of c ++ x) again ∙ sym (first_pass w (nodes_of c) (nodes cs) (miss c i))

  pub whole_nodes : (e : List RawItem) (cs : List Chunk) → nodes (acted (whole_act w e cs) cs) ≡ place_whole e w (nodes cs)
  whole_nodes e cs =
      go (whole_part w e) (some_chunk (is_whole w) cs) ∙ ap (place_whole_by w (nodes cs) (whole_part w e)) (any_whole w f cs ∙ sym (signs_are w cs (whole_mark w f)))
    where
      go : (v : Option (Option Value)) (t : Bool) → nodes (acted (whole_by w v t) cs) ≡ place_whole_by w (nodes cs) v t
      go None t = refl
      go (Some None) t = gone_nodes 0 cs
      go (Some (Some v)) true = set_nodes v.raw cs
      go (Some (Some v)) false = insert_seen behind never (made w v.raw) (sign w) cs sees_never (made_node v.raw)

abbrev OfWhole : List (List ℕ) → Type 0
OfWhole ws = AllByRecursion (λ w. one_of whole_ids w ≡ true) ws

pub wholes_nodes : (e : List RawItem) (ws : List (List ℕ)) → OfWhole ws → (cs : List Chunk) → nodes (stepped (map (λ w. whole_act w e) ws) cs) ≡ place_wholes e ws (nodes cs)
wholes_nodes e [] f cs = refl
wholes_nodes e (w ∷ ws) f cs = wholes_nodes e ws f.1 (acted (whole_act w e cs) cs) ∙ ap (place_wholes e ws) (whole_nodes w f.0 e cs)
