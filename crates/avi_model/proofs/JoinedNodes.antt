-- What is kept of the first form after an edit of fields and names, without its tables.
use Rattle.std.proofs.Common.{◌≡◌, ℕ, suc, ◌+◌, ◌^◌, ◌<◌, Bool, true, false, cond, List, [], ◌∷◌, ◌++◌, length, map, take, refl, sym, ap, subst, ◌∙◌, arith, inl, inr}
use Rattle.std.specs.Prelude.{◌⊎◌, ◌&&◌, filter, codes}
use Rattle.std.specs.List.{flat_map, AllByRecursion}
use Rattle.std.proofs.lemmas.Bool.{cond-true}
use Rattle.std.proofs.lemmas.List.{length-append, take_at}
use Rattle.container_model.specs.Chunk.{Form, Chunk, spell, spell_all}
use Rattle.container_model.specs.Items.{is_nil}
use Rattle.container_model.specs.Splice.{shift}
use Rattle.container_model.specs.Stood.{Stood, bare, stood, only, first_of}
use Rattle.container_model.specs.Units.{shut, units, cuts}
use Rattle.container_model.proofs.Copied.{moved_to, copied_move}
use Rattle.carrier_model.specs.Cells.{meets}
use Rattle.carrier_model.specs.Info.{info, info_items, is_padding, list_run, riff_fill, SetsInfo, InfoReady, ItemsSmall}
use Rattle.carrier_model.specs.Lists.{items_of, Node, list, other, has_list, node_meets, nodes_in, place_lists}
use Rattle.carrier_model.proofs.Info.{info_rereads, part_sets, closed_is, fresh_is, padding_no_list}
use Rattle.carrier_model.proofs.Lists.{lists_nodes}
use Rattle.avi_model.specs.After.{Changes, children_after, joined}
use Rattle.avi_model.specs.Avi.{Avi, inner, but_first, top}
use Rattle.avi_model.specs.Heads.{Head, head_of, head_with, place_names}
use Rattle.avi_model.specs.Kept.{Kept, nodes_of, other_node}
use Rattle.avi_model.specs.KeptAfter.{KeptAll, outer_nodes, first_head, all_kept_in, all_placed}
use Rattle.avi_model.specs.Named.{Names, cell_of, ends_file, children_named, hdrl_named, is_hdrl, named}
use Rattle.avi_model.specs.NewFile.{Items, home as behind_hdrl, new_cells, new_children}
use Rattle.avi_model.proofs.Among.{Among, among_first, among_only, map_among, stood_inside}
use Rattle.avi_model.proofs.Children.{AreChildren, HdrlSmall, Opens, behind_one, children_seen, kids_of}
use Rattle.avi_model.proofs.Edited.{placed_none}
use Rattle.avi_model.proofs.Edit.{Ready, seen, sees_nodes, solid, view_cells}
use Rattle.avi_model.proofs.NamedAlike.{not_info}
use Rattle.avi_model.proofs.NamesSet.{children_heads}
use Rattle.avi_model.proofs.Respelled.{list_type, respelled_body, respelled_form, respelled_id, word_long}
use Rattle.avi_model.proofs.Streams.{spell_long}
use Rattle.avi_model.proofs.Tables.{fill_unseen, hdrl_apart, quiet_cells, quiet_edit, was_new}
use Rattle.avi_model.proofs.Types.{type_is}

-- ---- nodes: of hdrl the type alone

-- the nodes of a chunk that is no list of fields
abbrev more_nodes : Chunk → List Node
more_nodes c = cond (is_hdrl c) (other c.form c.id (take 4 c.body) ∷ []) (other_node c)

abbrev view : Chunk → List Node
view c = nodes_in info info_items more_nodes c

outer_same : (c : Chunk) → outer_nodes c ≡ view c
outer_same c = go (is_hdrl c) (info.is c) refl refl
  where
    go : (h i : Bool) → is_hdrl c ≡ h → info.is c ≡ i
        → cond h (other c.form c.id (take 4 c.body) ∷ []) (cond i (list (items_of info info_items c) (list_run c).left ∷ []) (other_node c))
        ≡ cond i (list (items_of info info_items c) (list_run c).left ∷ []) (cond h (other c.form c.id (take 4 c.body) ∷ []) (other_node c))
    go true true h i = let no : info.is c ≡ false = not_info c h in absurd cc
    go true false h i = refl
    go false i h j = refl

outer_all : (cs : List Chunk) → flat_map outer_nodes cs ≡ flat_map view cs
outer_all [] = refl
outer_all (c ∷ cs) = ap (λ (x : List Node). x ++ flat_map outer_nodes cs) (outer_same c) ∙ ap (λ (x : List Node). view c ++ x) (outer_all cs)

-- of a chunk that is no hdrl
plain_view : (c : Chunk) → is_hdrl c ≡ false → view c ≡ nodes_of c
plain_view c i = sym (outer_same c) ∙ ap (λ (t : Bool). cond t (other c.form c.id (take 4 c.body) ∷ []) (nodes_of c)) i

padding_view : (c : Chunk) → is_padding c ≡ true → view c ≡ []
padding_view c p =
    plain_view c (padding_no_list (codes "hdrl") c p)
    ∙ ap (λ (b : Bool). cond b (list (items_of info info_items c) (list_run c).left ∷ []) (other_node c)) (padding_no_list (codes "INFO") c p)
    ∙ cond-true (is_padding c) [] (other c.form c.id c.body ∷ []) p

no_lists : (c : Chunk) → AllByRecursion (λ x. has_list (x ∷ []) ≡ false) (more_nodes c)
no_lists c = go (is_hdrl c) (is_padding c)
  where
    go : (t u : Bool) → AllByRecursion (λ x. has_list (x ∷ []) ≡ false) (cond t (other c.form c.id (take 4 c.body) ∷ []) (cond u [] (other c.form c.id c.body ∷ [])))
    go true u = (refl, tt)
    go false true = tt
    go false false = (refl, tt)

sees_outer : (a : Avi) (e : Items) (c : Chunk) → ((x : Node) × (view c ≡ x ∷ []) × (node_meets behind_hdrl x ≡ meets behind_hdrl c)) ⊎ ((view c ≡ []) × (meets behind_hdrl c ≡ false))
sees_outer a e c = go (is_hdrl c) refl
  where
    same : is_hdrl c ≡ true → node_meets behind_hdrl (other c.form c.id (take 4 c.body)) ≡ meets behind_hdrl c
    same i = let t = type_is (codes "hdrl") c i in rw (t.id_is, t.type_is) refl

    told : is_hdrl c ≡ false → ((x : Node) × (nodes_of c ≡ x ∷ []) × (node_meets behind_hdrl x ≡ meets behind_hdrl c)) ⊎ ((nodes_of c ≡ []) × (meets behind_hdrl c ≡ false))
        → ((x : Node) × (view c ≡ x ∷ []) × (node_meets behind_hdrl x ≡ meets behind_hdrl c)) ⊎ ((view c ≡ []) × (meets behind_hdrl c ≡ false))
    told i (inl s) = inl (s.0, plain_view c i ∙ s.1, s.2)
    told i (inr s) = inr (plain_view c i ∙ s.0, s.1)

    go : (t : Bool) → is_hdrl c ≡ t → ((x : Node) × (view c ≡ x ∷ []) × (node_meets behind_hdrl x ≡ meets behind_hdrl c)) ⊎ ((view c ≡ []) × (meets behind_hdrl c ≡ false))
    go true i = inl (other c.form c.id (take 4 c.body), sym (outer_same c) ∙ ap (λ (t : Bool). cond t (other c.form c.id (take 4 c.body) ∷ []) (nodes_of c)) i, same i)
    go false i = told i (sees_nodes a e c)

nodes_laid : (a : Avi) (e : Items) → SetsInfo e → Ready a e → flat_map outer_nodes (new_children a e) ≡ place_lists behind_hdrl e (flat_map outer_nodes a.children)
nodes_laid a e sets ready =
    outer_all (new_children a e) ∙ seen a e view (λ c. refl) padding_view
    ∙ lists_nodes info info_items SetsInfo InfoReady ItemsSmall info_rereads part_sets closed_is fresh_is more_nodes no_lists behind_hdrl e (solid a e) sets ready (sees_outer a e)
    ∙ ap (place_lists behind_hdrl e) (view_cells view padding_view a.children ∙ sym (outer_all a.children))

nodes_named : (e : Names) (last : Bool) (cs : List Chunk) → AreChildren cs → flat_map outer_nodes (children_named e last cs) ≡ flat_map outer_nodes cs
nodes_named e last cs h = children_seen e outer_nodes hidden last cs h
  where
    hidden : (u : Bool) (c : Chunk) → Opens c → is_hdrl c ≡ true → outer_nodes (hdrl_named e u c) ≡ outer_nodes c
    hidden u c o i =
        let n = hdrl_named e u c in
        let more = spell_all (kids_of e u c) ++ (list_run c).left in
        let b = take 4 c.body ++ more in
        let typed : is_hdrl n ≡ true = list_type (codes "hdrl") c (kids_of e u c) o.0 ∙ i in
        let word : take 4 n.body ≡ take 4 c.body = ap (take 4) (respelled_body c b) ∙ take_at (take 4 c.body) more 4 (word_long c o.0) in
        ap (λ (t : Bool). cond t (other n.form n.id (take 4 n.body) ∷ []) (nodes_of n)) typed
        ∙ ap (λ (f : Form). other f n.id (take 4 n.body) ∷ []) (respelled_form c b) ∙ ap (λ (x : List ℕ). other c.form x (take 4 n.body) ∷ []) (respelled_id c b)
        ∙ ap (λ (x : List ℕ). other c.form c.id x ∷ []) word ∙ sym (ap (λ (t : Bool). cond t (other c.form c.id (take 4 c.body) ∷ []) (nodes_of c)) i)

-- ---- the lists hdrl

-- those behind the first one
abbrev rest_of : List Stood → List Stood
rest_of [] = []
rest_of (x ∷ xs) = xs

abbrev head_at : Stood → Head
head_at x = head_of x.chunk

abbrev body_at : Stood → List ℕ
body_at x = x.chunk.body

abbrev body_of : Chunk → List ℕ
body_of c = c.body

heads_stood : (at : ℕ) (cs : List Chunk) → first_head (filter is_hdrl cs) ≡ map head_at (first_of (only is_hdrl (stood at cs)))
heads_stood at [] = refl
heads_stood at (c ∷ cs) = go (is_hdrl c) (heads_stood (at + length (spell c)) cs)
  where
    go : (t : Bool) → first_head (filter is_hdrl cs) ≡ map head_at (first_of (only is_hdrl (stood (at + length (spell c)) cs)))
        → first_head (cond t (c ∷ filter is_hdrl cs) (filter is_hdrl cs))
        ≡ map head_at (first_of (cond t (record { at = at; chunk = bare c } ∷ only is_hdrl (stood (at + length (spell c)) cs)) (only is_hdrl (stood (at + length (spell c)) cs))))
    go true again = refl
    go false again = again

bodies_stood : (at : ℕ) (cs : List Chunk) → map body_of (filter is_hdrl cs) ≡ map body_at (only is_hdrl (stood at cs))
bodies_stood at [] = refl
bodies_stood at (c ∷ cs) = go (is_hdrl c) (bodies_stood (at + length (spell c)) cs)
  where
    go : (t : Bool) → map body_of (filter is_hdrl cs) ≡ map body_at (only is_hdrl (stood (at + length (spell c)) cs))
        → map body_of (cond t (c ∷ filter is_hdrl cs) (filter is_hdrl cs))
        ≡ map body_at (cond t (record { at = at; chunk = bare c } ∷ only is_hdrl (stood (at + length (spell c)) cs)) (only is_hdrl (stood (at + length (spell c)) cs)))
    go true again = ap (λ (x : List (List ℕ)). c.body ∷ x) again
    go false again = again

closed_stood : (at : ℕ) (cs : List Chunk) → map body_of (but_first (filter is_hdrl cs)) ≡ map body_at (rest_of (only is_hdrl (stood at cs)))
closed_stood at [] = refl
closed_stood at (c ∷ cs) = go (is_hdrl c) (closed_stood (at + length (spell c)) cs)
  where
    go : (t : Bool) → map body_of (but_first (filter is_hdrl cs)) ≡ map body_at (rest_of (only is_hdrl (stood (at + length (spell c)) cs)))
        → map body_of (but_first (cond t (c ∷ filter is_hdrl cs) (filter is_hdrl cs)))
        ≡ map body_at (rest_of (cond t (record { at = at; chunk = bare c } ∷ only is_hdrl (stood (at + length (spell c)) cs)) (only is_hdrl (stood (at + length (spell c)) cs))))
    go true again = bodies_stood (at + length (spell c)) cs
    go false again = again

-- an edit of the lists of fields puts them elsewhere
pub hdrl_moved : (a : Avi) (e : Items)
    → only is_hdrl (stood 12 (new_children a e)) ≡ map (moved_to (shift (cuts (riff_fill (ends_file a)) 12 (units shut (new_cells a e)) ++ []))) (only is_hdrl (top a))
hdrl_moved a e =
    let xs = new_cells a e in
    let m = copied_move is_hdrl (riff_fill (ends_file a)) (fill_unseen is_hdrl hdrl_apart (ends_file a)) 12 xs (quiet_edit is_hdrl hdrl_apart e (map cell_of a.children) (quiet_cells is_hdrl hdrl_apart a.children)) [] (λ q lt. tt) in
    m.0 ∙ ap (λ (cs : List Chunk). map (moved_to (shift (cuts (riff_fill (ends_file a)) 12 (units shut xs) ++ []))) (only is_hdrl (stood 12 cs))) (was_new a e)

heads_moved : (f : ℕ → ℕ) (xs : List Stood) → map head_at (first_of (map (moved_to f) xs)) ≡ map head_at (first_of xs)
heads_moved f [] = refl
heads_moved f (x ∷ xs) = refl

bodies_moved : (f : ℕ → ℕ) (xs : List Stood) → map body_at (map (moved_to f) xs) ≡ map body_at xs
bodies_moved f [] = refl
bodies_moved f (x ∷ xs) = ap (λ (y : List (List ℕ)). x.chunk.body ∷ y) (bodies_moved f xs)

closed_moved : (f : ℕ → ℕ) (xs : List Stood) → map body_at (rest_of (map (moved_to f) xs)) ≡ map body_at (rest_of xs)
closed_moved f [] = refl
closed_moved f (x ∷ xs) = bodies_moved f xs

heads_with : (e : Names) (xs : List Stood) → map (λ (x : Stood). head_with e (head_of x.chunk)) (first_of xs) ≡ map (head_with e) (map head_at (first_of xs))
heads_with e [] = refl
heads_with e (x ∷ xs) = refl

closed_named : (e : Names) (last : Bool) (cs : List Chunk) → AreChildren cs → map body_of (but_first (filter is_hdrl (children_named e last cs))) ≡ map body_of (but_first (filter is_hdrl cs))
closed_named e last [] h = refl
closed_named e last (c ∷ cs) h = go (is_hdrl c) refl (λ i. closed_named e last cs (behind_one c cs h i))
  where
    go : (t : Bool) → is_hdrl c ≡ t → (is_hdrl c ≡ false → map body_of (but_first (filter is_hdrl (children_named e last cs))) ≡ map body_of (but_first (filter is_hdrl cs)))
        → map body_of (but_first (filter is_hdrl (cond t (hdrl_named e (last && is_nil cs) c ∷ cs) (c ∷ children_named e last cs)))) ≡ map body_of (but_first (cond t (c ∷ filter is_hdrl cs) (filter is_hdrl cs)))
    go true i again =
        let n = hdrl_named e (last && is_nil cs) c in
        let typed : is_hdrl n ≡ true = list_type (codes "hdrl") c (kids_of e (last && is_nil cs) c) (h.1.0 i).0 ∙ i in
        ap (λ (t : Bool). map body_of (but_first (cond t (n ∷ filter is_hdrl cs) (filter is_hdrl cs)))) typed
    go false i again =
        let more = children_named e last cs in
        ap (λ (t : Bool). map body_of (but_first (cond t (c ∷ filter is_hdrl more) (filter is_hdrl more)))) i ∙ again i

-- ---- hdrl is short enough where the new form is

first_small : (e : Names) (last : Bool) (at : ℕ) (cs : List Chunk) → AreChildren cs → ((x : Stood) → Among x (first_of (only is_hdrl (stood at (children_named e last cs)))) → length x.chunk.body < 2 ^ 32) → HdrlSmall e last cs
first_small e last at [] h k = tt
first_small e last at (c ∷ cs) h k = (
  (λ i.
      let new = hdrl_named e (last && is_nil cs) c in
      let y : Stood = record { at = at; chunk = bare new } in
      let rest = only is_hdrl (stood (at + length (spell new)) cs) in
      let typed : is_hdrl new ≡ true = list_type (codes "hdrl") c (kids_of e (last && is_nil cs) c) (h.1.0 i).0 ∙ i in
      k y (subst (λ (b : Bool). Among y (first_of (only is_hdrl (stood at (cond b (new ∷ cs) (c ∷ children_named e last cs)))))) (sym i) (subst (λ (b : Bool). Among y (first_of (cond b (y ∷ rest) rest))) (sym typed) (inl refl)))),
  (λ i.
      let more = children_named e last cs in
      let rest = only is_hdrl (stood (at + length (spell c)) more) in
      first_small e last (at + length (spell c)) cs (behind_one c cs h i)
      (λ x j. k x (subst (λ (b : Bool). Among x (first_of (only is_hdrl (stood at (cond b (hdrl_named e (last && is_nil cs) c ∷ cs) (c ∷ more)))))) (sym i) (subst (λ (b : Bool). Among x (first_of (cond b (record { at = at; chunk = bare c } ∷ rest) rest))) (sym i) j)))),
)

pub named_small : (a : Avi) (e : Changes) → AreChildren a.children → length (inner (children_after a e) a.left) < 2 ^ 32 → HdrlSmall e.names (ends_file a) a.children
named_small a e h lt = first_small e.names (ends_file a) 12 a.children h one
  where
    n : Avi
    n = named a e.names

    one : (x : Stood) → Among x (first_of (only is_hdrl (stood 12 (named a e.names).children))) → length x.chunk.body < 2 ^ 32
    one x i =
        let n = named a e.names in
        let f = shift (cuts (riff_fill (ends_file n)) 12 (units shut (new_cells n e.infos)) ++ []) in
        let j : Among x (only is_hdrl (top n)) = among_first (only is_hdrl (top n)) x i in
        let moved : Among (moved_to f x) (only is_hdrl (stood 12 (children_after a e))) = subst (λ (xs : List Stood). Among (moved_to f x) xs) (sym (hdrl_moved n e.infos)) (map_among (moved_to f) (only is_hdrl (top n)) x j) in
        let k = among_only is_hdrl (stood 12 (children_after a e)) (moved_to f x) moved in
        let inside = stood_inside 12 (children_after a e) (moved_to f x) k.0 in
        omega (arith, lt, inside.0, inside.1, spell_long x.chunk, length-append (spell_all (children_after a e)) a.left)

-- ---- all that is kept

abbrev kept_of : Avi → List Node → List Head → List (List ℕ) → KeptAll
kept_of a nodes heads closed = record { file = record { nodes = nodes; left = a.left; others = a.others; tail = a.tail }; heads = heads; closed = closed }

-- What is kept of the parts stands where the edit places it.
pub parts_placed : (a : Avi) (e : Changes) → AreChildren a.children → length (inner (children_after a e) a.left) < 2 ^ 32 → SetsInfo e.infos → Ready (named a e.names) e.infos → all_kept_in (joined a e) ≡ all_placed (all_kept_in a) e
parts_placed a e h small sets ready =
    let n = named a e.names in
    let t = ends_file a in
    let new = children_after a e in
    let f = shift (cuts (riff_fill (ends_file n)) 12 (units shut (new_cells n e.infos)) ++ []) in
    let nodes : flat_map outer_nodes new ≡ place_lists behind_hdrl e.infos (flat_map outer_nodes a.children)
    = nodes_laid n e.infos sets ready ∙ ap (place_lists behind_hdrl e.infos) (nodes_named e.names t a.children h) in
    let heads : first_head (filter is_hdrl new) ≡ map (head_with e.names) (first_head (filter is_hdrl a.children))
    = heads_stood 12 new ∙ ap (λ (xs : List Stood). map head_at (first_of xs)) (hdrl_moved n e.infos) ∙ heads_moved f (only is_hdrl (top n))
    ∙ children_heads e.names t 12 12 a.children h (named_small a e h small) ∙ heads_with e.names (only is_hdrl (stood 12 a.children)) ∙ ap (map (head_with e.names)) (sym (heads_stood 12 a.children)) in
    let closed : map body_of (but_first (filter is_hdrl new)) ≡ map body_of (but_first (filter is_hdrl a.children))
    = closed_stood 12 new ∙ ap (λ (xs : List Stood). map body_at (rest_of xs)) (hdrl_moved n e.infos) ∙ closed_moved f (only is_hdrl (top n))
    ∙ sym (closed_stood 12 n.children) ∙ closed_named e.names t a.children h in
    ap (λ (x : List Node). kept_of a x (first_head (filter is_hdrl new)) (map body_of (but_first (filter is_hdrl new)))) nodes
    ∙ ap (λ (x : List Head). kept_of a (place_lists behind_hdrl e.infos (flat_map outer_nodes a.children)) x (map body_of (but_first (filter is_hdrl new)))) heads
    ∙ ap (kept_of a (place_lists behind_hdrl e.infos (flat_map outer_nodes a.children)) (map (head_with e.names) (first_head (filter is_hdrl a.children)))) closed

-- ---- an edit of nothing

names_none : (n : ℕ) (k : List Node) → place_names [] n k ≡ k
names_none n [] = refl
names_none n (Node.list ts rest ∷ k) = ap (λ (x : List Node). Node.list ts rest ∷ x) (names_none (suc n) k)
names_none n (Node.sign id ∷ k) = ap (λ (x : List Node). Node.sign id ∷ x) (names_none n k)
names_none n (Node.other form id body ∷ k) = ap (λ (x : List Node). Node.other form id body ∷ x) (names_none n k)

heads_none : (hs : List Head) → map (head_with []) hs ≡ hs
heads_none [] = refl
heads_none (h ∷ hs) = ap (λ (x : List Node). record h { nodes = x } ∷ map (head_with []) hs) (names_none 0 h.nodes) ∙ ap (λ (x : List Head). h ∷ x) (heads_none hs)

pub placed_nothing : (k : KeptAll) → all_placed k (record { infos = []; names = [] }) ≡ k
placed_nothing k =
    ap (λ (x : Kept). record k { file = x; heads = map (head_with []) k.heads }) (placed_none k.file) ∙ ap (λ (x : List Head). record k { heads = x }) (heads_none k.heads)
