-- What an edit does to the first user data and the first key table of moov, and to the nodes of its atoms.
use Rattle.std.proofs.Common.{Bool, List, None, Option, Some, [], ap, cond, false, map, refl, subst, sym, true, ℕ, ◌++◌, ◌∙◌, ◌∷◌, ◌≡◌}
use Rattle.std.specs.Prelude.{IfSome, codes, not, ◌&&◌, ◌||◌}
use Rattle.std.specs.List.{AllByRecursion, list_any}
use Rattle.part_tree.specs.declared.field.Value.{Value}
use Rattle.carrier_model.specs.Lists.{sets_some}
use Rattle.container_model.proofs.Codec.{IsBytes}
use Rattle.container_model.proofs.Items.{tokens_after}
use Rattle.container_model.specs.Atoms.{atom}
use Rattle.container_model.specs.Chunk.{Chunk, Run, ends, short}
use Rattle.container_model.specs.Deep.{Token, Whole}
use Rattle.container_model.specs.Items.{Item, edit_carrier, item_token, listed, put_all, put_marks, updated}
use Rattle.mov_model.specs.Atoms.{format, moov}
use Rattle.mov_model.specs.Carried.{Changes, fresh}
use Rattle.mov_model.specs.Keys.{bare, edit_meta, first_table, is_meta, new_meta, new_table, table_in, with_keys}
use Rattle.mov_model.specs.Kept.{Node, key_node, keyed, new_user, node_by, nodes, nodes_from, other, placed_keys, placed_users, plain_node, user, user_node}
use Rattle.mov_model.specs.Parts.{first_items, first_of}
use Rattle.mov_model.specs.Tables.{relocated}
use Rattle.mov_model.proofs.Carry.{edit_by, first_both, first_edited, first_one, firsts}
use Rattle.mov_model.proofs.Cells.{edited_chunks, first_meta_relocated, first_user_relocated, is_user, keys_edited, keys_keep_user, meta_no_user, meta_sort, user_edited, user_keeps_meta, user_no_meta, user_sort}
use Rattle.mov_model.proofs.Fits.{KeyItems, SmallBody}
use Rattle.mov_model.proofs.Keys.{bare_keys, edited_meta, first_table_is, fresh_meta, keys_values, new_well, nothing_set, table_among, table_well}
use Rattle.mov_model.proofs.Tables.{relocated_other, relocated_tokens}
use Rattle.qt_keys.specs.Set.{key_values}
use Rattle.qt_keys.specs.Table.{table_bytes}
use Rattle.qt_keys.specs.declared.table.KeyTable.{KeyTable}
use Rattle.qt_text.proofs.User.{SetsUser, all_made, edited_again, fresh_again}
use Rattle.qt_text.specs.User.{udta, user_items}

-- an atom of moov that is read to its end
abbrev pub KidWhole : Chunk → Type 0
KidWhole c = Whole format 5 moov c × IsBytes c.body

-- the first user data is read to its end
abbrev pub UserWhole : Chunk → Type 0
UserWhole c = ((udta.opening c).stop ≡ ends) × IsBytes c.body

-- ---- the items of the first user data

-- the items of the first of a list
abbrev pub items_among : List Chunk → List Chunk
items_among [] = []
items_among (c ∷ cs) = (udta.opening c).chunks

pub first_items_are : (cs : List Chunk) → first_items cs ≡ items_among (first_of is_user cs)
first_items_are [] = refl
first_items_are (c ∷ cs) = go (is_user c) (first_items_are cs)
  where
    go : (t : Bool) → first_items cs ≡ items_among (first_of is_user cs) → cond t (udta.opening c).chunks (first_items cs) ≡ items_among (cond t (c ∷ []) (first_of is_user cs))
    go true e = refl
    go false e = e

-- none is the first where none is there
none_first : (is : Chunk → Bool) (cs : List Chunk) → list_any is cs ≡ false → first_of is cs ≡ []
none_first is [] e = refl
none_first is (c ∷ cs) e = go (is c) e (none_first is cs)
  where
    go : (t : Bool) → (t || list_any is cs) ≡ false → (list_any is cs ≡ false → first_of is cs ≡ []) → cond t (c ∷ []) (first_of is cs) ≡ []
    go true e again = absurd cc
    go false e again = again e

-- one is the first where one is there
some_first : (is : Chunk → Bool) (cs : List Chunk) → list_any is cs ≡ true → (c : Chunk) × (first_of is cs ≡ c ∷ []) × (is c ≡ true)
some_first is [] e = absurd cc
some_first is (c ∷ cs) e = go (is c) refl e (some_first is cs)
  where
    go : (t : Bool) → is c ≡ t → (t || list_any is cs) ≡ true → (list_any is cs ≡ true → (d : Chunk) × (first_of is cs ≡ d ∷ []) × (is d ≡ true)) → (d : Chunk) × (cond t (c ∷ []) (first_of is cs) ≡ d ∷ []) × (is d ≡ true)
    go true u e again = (c, refl, u)
    go false u e again = again e

pub always : (is : Chunk → Bool) (cs : List Chunk) → AllByRecursion (λ c. is c ≡ true) (first_of is cs)
always is [] = tt
always is (c ∷ cs) = go (is c) refl (always is cs)
  where
    go : (t : Bool) → is c ≡ t → AllByRecursion (λ c. is c ≡ true) (first_of is cs) → AllByRecursion (λ c. is c ≡ true) (cond t (c ∷ []) (first_of is cs))
    go true u again = (u, tt)
    go false u again = again

pub user_new_is : (items : List Chunk) → IfSome (fresh udta items) (λ c. is_user c ≡ true)
user_new_is [] = tt
user_new_is (c ∷ cs) = refl

module _ (e : List (Item Value)) (h : AllByRecursion SetsUser e) where
  new_items : (items : List Chunk) → udta.opening (udta.fresh items) ≡ record { chunks = items; stop = ends; left = [] } → items_among (listed (fresh udta items)) ≡ items
  new_items [] r = refl
  new_items (c ∷ cs) r = ap (λ (r : Run). r.chunks) r

  items_by : (cs : List Chunk) → AllByRecursion UserWhole (first_of is_user cs) → first_items (Rattle.mov_model.proofs.Carry.edited_by is_user (edit_carrier udta user_items e) (fresh udta (put_all user_items e [])) cs) ≡ put_all user_items e (first_items cs)
  items_by cs w =
      first_items_are (Rattle.mov_model.proofs.Carry.edited_by is_user g new cs) ∙ ap items_among (first_edited is_user g new cs (always is_user cs) (user_new_is (put_all user_items e []))) ∙ go (list_any is_user cs) refl
    where
      g : Chunk → Chunk
      g = edit_carrier udta user_items e

      new : Option Chunk
      new = fresh udta (put_all user_items e [])

      edited_one : (ds : List Chunk) → AllByRecursion UserWhole ds → (c : Chunk) × (ds ≡ c ∷ []) × (is_user c ≡ true) → items_among (map (edit_carrier udta user_items e) ds) ≡ put_all user_items e (items_among ds)
      edited_one [] w s = let no = s.1 in absurd cc
      edited_one (d ∷ ds) w s = ap (λ (r : Run). r.chunks) (edited_again e d h w.0.1 w.0.0)

      go : (t : Bool) → list_any is_user cs ≡ t → items_among (firsts is_user (edit_carrier udta user_items e) (fresh udta (put_all user_items e [])) cs t) ≡ put_all user_items e (first_items cs)
      go true u = edited_one (first_of is_user cs) w (some_first is_user cs u) ∙ ap (put_all user_items e) (sym (first_items_are cs))
      go false u = new_items (put_all user_items e []) (fresh_again e h) ∙ ap (λ (ds : List Chunk). put_all user_items e (items_among ds)) (sym (none_first is_user cs u)) ∙ ap (put_all user_items e) (sym (first_items_are cs))

items_user : (e : List (Item Value)) (cs : List Chunk) → AllByRecursion SetsUser e → AllByRecursion UserWhole (first_of is_user cs) → first_items (user_edited e cs) ≡ put_all user_items e (first_items cs)
items_user [] cs h w = refl
items_user (i ∷ e) cs h w = items_by (i ∷ e) h cs w

pub items_all : (e : Changes) (cs : List Chunk) → AllByRecursion SetsUser e.users → AllByRecursion UserWhole (first_of is_user cs) → first_items (edited_chunks e cs) ≡ put_all user_items e.users (first_items cs)
items_all e cs h w =
    let mid = user_edited e.users cs in
    first_items_are (keys_edited e.keys mid) ∙ ap items_among (keys_keep_user e.keys mid).0 ∙ sym (first_items_are mid) ∙ items_user e.users cs h w

pub items_relocated : (f : ℕ → ℕ) (cs : List Chunk) → first_items (map (relocated f) cs) ≡ first_items cs
items_relocated f cs = first_items_are (map (relocated f) cs) ∙ ap items_among (first_user_relocated f cs) ∙ sym (first_items_are cs)

-- ---- the first key table

module _ (e : List (Item (List ℕ))) (k : KeyItems e) where
  meta_new_is : (t : Bool) → IfSome (cond t (Some (atom (codes "meta") (table_bytes (with_keys e new_table)))) None) SmallBody → IfSome (cond t (Some (atom (codes "meta") (table_bytes (with_keys e new_table)))) None) (λ c. is_meta c ≡ true)
  meta_new_is true s = (fresh_meta e k s).0
  meta_new_is false s = tt

  metas_stay : (ds : List Chunk) → AllByRecursion (λ c. is_meta c ≡ true) ds → AllByRecursion (λ c. IsBytes c.body) ds → AllByRecursion (λ c. SmallBody (edit_meta e c)) ds → AllByRecursion (λ c. is_meta (edit_meta e c) ≡ true) ds
  metas_stay [] m b s = tt
  metas_stay (d ∷ ds) m b s = ((edited_meta e d m.0 b.0 k s.0).0, metas_stay ds m.1 b.1 s.1)

  -- the table after an edit
  after : List Chunk → Bool → KeyTable
  after cs true = with_keys e (first_table cs)
  after cs false = cond (sets_some e) (with_keys e new_table) Rattle.mov_model.specs.Keys.no_table

  table_by : (cs : List Chunk) → AllByRecursion (λ c. IsBytes c.body) (first_of is_meta cs) → AllByRecursion (λ c. SmallBody (edit_meta e c)) (first_of is_meta cs) → (list_any is_meta cs ≡ false → IfSome (new_meta e) SmallBody)
      → first_table (Rattle.mov_model.proofs.Carry.edited_by is_meta (edit_meta e) (new_meta e) cs) ≡ after cs (list_any is_meta cs)
  unfolding after
  table_by cs b s n =
      first_table_is (Rattle.mov_model.proofs.Carry.edited_by is_meta (edit_meta e) (new_meta e) cs) ∙ go (list_any is_meta cs) refl
    where
      one : (ds : List Chunk) → AllByRecursion (λ c. IsBytes c.body) ds → AllByRecursion (λ c. SmallBody (edit_meta e c)) ds → (c : Chunk) × (ds ≡ c ∷ []) × (is_meta c ≡ true) → AllByRecursion (λ c. is_meta c ≡ true) ds → table_among (map (edit_meta e) ds) ≡ with_keys e (table_among ds)
      one [] b s u m = let no = u.1 in absurd cc
      one (d ∷ ds) b s u m = (edited_meta e d m.0 b.0 k s.0).1

      new_one : (t : Bool) → IfSome (cond t (Some (atom (codes "meta") (table_bytes (with_keys e new_table)))) None) SmallBody → table_among (listed (cond t (Some (atom (codes "meta") (table_bytes (with_keys e new_table)))) None)) ≡ cond t (with_keys e new_table) Rattle.mov_model.specs.Keys.no_table
      new_one true s = (fresh_meta e k s).1
      new_one false s = refl

      go : (t : Bool) → list_any is_meta cs ≡ t → table_among (first_of is_meta (edit_by is_meta (edit_meta e) (new_meta e) cs (list_any is_meta cs))) ≡ after cs t
      go true u =
          ap (λ (t : Bool). table_among (first_of is_meta (edit_by is_meta (edit_meta e) (new_meta e) cs t))) u
          ∙ ap table_among (Rattle.mov_model.proofs.Carry.first_first is_meta (edit_meta e) (new_meta e) cs (metas_stay (first_of is_meta cs) (always is_meta cs) b s))
          ∙ one (first_of is_meta cs) b s (some_first is_meta cs u) (always is_meta cs) ∙ ap (with_keys e) (sym (first_table_is cs))
      go false u =
          ap (λ (t : Bool). table_among (first_of is_meta (edit_by is_meta (edit_meta e) (new_meta e) cs t))) u
          ∙ ap table_among (Rattle.mov_model.proofs.Carry.first_behind is_meta (edit_meta e) (new_meta e) cs (listed (new_meta e)) u ∙ Rattle.mov_model.proofs.Carry.first_new is_meta (edit_meta e) (new_meta e) (new_meta e) (meta_new_is (sets_some e) (n u)))
          ∙ new_one (sets_some e) (n u)

  values_by : (cs : List Chunk) (name : List ℕ) → AllByRecursion (λ c. IsBytes c.body) (first_of is_meta cs) → (t : Bool) → list_any is_meta cs ≡ t → key_values name (after cs t) ≡ updated e name (key_values name (first_table cs))
  unfolding after
  values_by cs name b true u =
      ap (λ (x : KeyTable). key_values name (with_keys e x)) (first_table_is cs) ∙ well_one (first_of is_meta cs) (some_first is_meta cs u) (always is_meta cs) b ∙ ap (λ (x : KeyTable). updated e name (key_values name x)) (sym (first_table_is cs))
    where
      well_one : (ds : List Chunk) → (c : Chunk) × (ds ≡ c ∷ []) × (is_meta c ≡ true) → AllByRecursion (λ c. is_meta c ≡ true) ds → AllByRecursion (λ c. IsBytes c.body) ds → key_values name (with_keys e (table_among ds)) ≡ updated e name (key_values name (table_among ds))
      well_one [] s m b = let no = s.1 in absurd cc
      well_one (d ∷ ds) s m b = keys_values e (table_in d) name k (table_well d m.0 b.0)
  values_by cs name b false u =
      go (sets_some e) refl ∙ ap (λ (x : KeyTable). updated e name (key_values name x)) (sym (first_table_is cs ∙ ap table_among (none_first is_meta cs u)))
    where
      go : (t : Bool) → sets_some e ≡ t → key_values name (cond t (with_keys e new_table) Rattle.mov_model.specs.Keys.no_table) ≡ updated e name []
      go true s = keys_values e new_table name k new_well
      go false s = sym (nothing_set e name s)

values_keys : (e : List (Item (List ℕ))) (cs : List Chunk) (name : List ℕ) → KeyItems e → AllByRecursion (λ c. IsBytes c.body) (first_of is_meta cs) → AllByRecursion (λ c. SmallBody (edit_meta e c)) (first_of is_meta cs)
    → (list_any is_meta cs ≡ false → IfSome (new_meta e) SmallBody) → key_values name (first_table (keys_edited e cs)) ≡ updated e name (key_values name (first_table cs))
values_keys [] cs name k b s n = refl
values_keys (i ∷ e) cs name k b s n = ap (key_values name) (table_by (i ∷ e) k cs b s n) ∙ values_by (i ∷ e) k cs name b (list_any is_meta cs) refl

-- what is asked of the key table
pub record KeysFit (e : List (Item (List ℕ))) (cs : List Chunk) : Type 0 where
  pub bytes : AllByRecursion (λ c. IsBytes c.body) (first_of is_meta cs)
  pub small : AllByRecursion (λ c. SmallBody (edit_meta e c)) (first_of is_meta cs)
  pub new_small : list_any is_meta cs ≡ false → IfSome (new_meta e) SmallBody

-- the same after the edit of the user data
pub keys_fit : (users : List (Item Value)) (e : List (Item (List ℕ))) (cs : List Chunk) → KeysFit e cs → KeysFit e (user_edited users cs)
keys_fit users e cs f =
    let k = user_keeps_meta users cs in
    record {
      bytes = subst (AllByRecursion (λ c. IsBytes c.body)) (sym k.0) f.bytes;
      small = subst (AllByRecursion (λ c. SmallBody (edit_meta e c))) (sym k.0) f.small;
      new_small = λ none. f.new_small (sym k.1 ∙ none);
    }

pub values_all : (e : Changes) (cs : List Chunk) (name : List ℕ) → KeyItems e.keys → KeysFit e.keys cs → key_values name (first_table (edited_chunks e cs)) ≡ updated e.keys name (key_values name (first_table cs))
values_all e cs name k f =
    let mid = user_edited e.users cs in
    let g = keys_fit e.users e.keys cs f in
    values_keys e.keys mid name k g.bytes g.small g.new_small
    ∙ ap (λ (t : KeyTable). updated e.keys name (key_values name t)) (first_table_is mid ∙ ap table_among (user_keeps_meta e.users cs).0 ∙ sym (first_table_is cs))

pub table_relocated : (f : ℕ → ℕ) (cs : List Chunk) → first_table (map (relocated f) cs) ≡ first_table cs
table_relocated f cs = first_table_is (map (relocated f) cs) ∙ ap table_among (first_meta_relocated f cs) ∙ sym (first_table_is cs)

-- ---- nodes

pub placed_users_none : (ns : List Node) → placed_users [] ns ≡ ns
placed_users_none [] = refl
placed_users_none (other ts ∷ ns) = ap (λ (x : List Node). other ts ∷ x) (placed_users_none ns)
placed_users_none (keyed form t ∷ ns) = ap (λ (x : List Node). keyed form t ∷ x) (placed_users_none ns)
placed_users_none (user form ts rest ∷ ns) = refl

-- what a node of an atom is by what it is opened as
module _ (f : ℕ → ℕ) where
  nodes_moved : (users keys : Bool) (cs : List Chunk) → AllByRecursion KidWhole cs → nodes_from users keys (map (relocated f) cs) ≡ nodes_from users keys cs
  nodes_moved users keys [] h = refl
  nodes_moved users keys (c ∷ cs) h =
      ap (λ (u : Bool). node_by (not users && u) (not keys && is_meta (relocated f c)) (relocated f c) ∷ nodes_from (users || u) (keys || is_meta (relocated f c)) (map (relocated f) cs)) (user_same c)
      ∙ ap (λ (m : Bool). node_by (not users && is_user c) (not keys && m) (relocated f c) ∷ nodes_from (users || is_user c) (keys || m) (map (relocated f) cs)) (meta_same c)
      ∙ ap (λ (ns : List Node). node_by (not users && is_user c) (not keys && is_meta c) (relocated f c) ∷ ns) (nodes_moved (users || is_user c) (keys || is_meta c) cs h.1)
      ∙ ap (λ (n : Node). n ∷ nodes_from (users || is_user c) (keys || is_meta c) cs) (one (not users && is_user c) (not keys && is_meta c) (sound (not users) (is_user c)) (sound (not keys) (is_meta c)))
    where
      user_same : (d : Chunk) → is_user (relocated f d) ≡ is_user d
      user_same d = Rattle.mov_model.proofs.Carry.relocated_sort is_user (λ x. x) None user_sort (record { same_id = λ x. refl; no_pad = λ x. refl }) tt f d

      meta_same : (d : Chunk) → is_meta (relocated f d) ≡ is_meta d
      meta_same d = Rattle.mov_model.proofs.Carry.relocated_sort is_meta (λ x. x) None meta_sort (record { same_id = λ x. refl; no_pad = λ x. refl }) tt f d

      sound : (a b : Bool) → (a && b) ≡ true → b ≡ true
      sound true b e = e
      sound false b e = absurd cc

      one : (u m : Bool) → (u ≡ true → is_user c ≡ true) → (m ≡ true → is_meta c ≡ true) → node_by u m (relocated f c) ≡ node_by u m c
      one true m a b = ap user_node (relocated_other f c (user_sort.no_track c (a refl)))
      one false true a b = ap key_node (relocated_other f c (meta_sort.no_track c (b refl)))
      one false false a b = ap other (relocated_tokens f c h.0.0 h.0.1)

  pub nodes_relocated : (cs : List Chunk) → AllByRecursion KidWhole cs → nodes (map (relocated f) cs) ≡ nodes cs
  nodes_relocated cs h = nodes_moved false false cs h

module _ (e : List (Item Value)) (h : AllByRecursion SetsUser e) where
  edited_node : (c : Chunk) → UserWhole c → user_node (edit_carrier udta user_items e c) ≡ user c.form (put_marks e (map (item_token user_items) (udta.opening c).chunks)) (udta.opening c).left
  edited_node c w =
      ap (λ (r : Run). user c.form (map (item_token user_items) r.chunks) r.left) (edited_again e c h w.1 w.0)
      ∙ ap (λ (ts : List Token). user c.form ts (udta.opening c).left) (tokens_after user_items e (udta.opening c).chunks (all_made e h))

  -- what is no user data is passed
  pass : (keys : Bool) (c : Chunk) (ns : List Node) → placed_users e (node_by false keys c ∷ ns) ≡ node_by false keys c ∷ placed_users e ns
  pass true c ns = refl
  pass false c ns = refl

  nodes_first : (keys : Bool) (cs : List Chunk) → list_any is_user cs ≡ true → AllByRecursion UserWhole (first_of is_user cs) → nodes_from false keys (first_one is_user (edit_carrier udta user_items e) cs) ≡ placed_users e (nodes_from false keys cs)
  nodes_first keys [] t w = absurd cc
  nodes_first keys (c ∷ cs) t w = go (is_user c) refl t w (λ k. nodes_first k cs)
    where
      go : (t : Bool) → is_user c ≡ t → (t || list_any is_user cs) ≡ true → AllByRecursion UserWhole (cond t (c ∷ []) (first_of is_user cs))
          → ((k : Bool) → list_any is_user cs ≡ true → AllByRecursion UserWhole (first_of is_user cs) → nodes_from false k (first_one is_user (edit_carrier udta user_items e) cs) ≡ placed_users e (nodes_from false k cs))
          → nodes_from false keys (cond t (edit_carrier udta user_items e c ∷ cs) (c ∷ first_one is_user (edit_carrier udta user_items e) cs)) ≡ placed_users e (nodes_from false keys (c ∷ cs))
      go true u t w again =
          let no = user_no_meta c u in
          let now = user_no_meta (edit_carrier udta user_items e c) u in
          rw (u, no, now) (ap (λ (n : Node). n ∷ nodes_from true (keys || false) cs) (edited_node c w.0))
      go false u t w again =
          rw u (ap (λ (ns : List Node). node_by false (not keys && is_meta c) c ∷ ns) (again (keys || is_meta c) t w) ∙ sym (pass (not keys && is_meta c) c (nodes_from false (keys || is_meta c) cs)))

  nodes_behind : (keys : Bool) (cs new : List Chunk) → list_any is_user cs ≡ false → ((k : Bool) → nodes_from false k new ≡ new_user (put_marks e [])) → nodes_from false keys (cs ++ new) ≡ placed_users e (nodes_from false keys cs)
  nodes_behind keys [] new t n = n keys
  nodes_behind keys (c ∷ cs) new t n = go (is_user c) refl t (λ k. nodes_behind k cs new)
    where
      go : (t : Bool) → is_user c ≡ t → (t || list_any is_user cs) ≡ false
          → ((k : Bool) → list_any is_user cs ≡ false → ((k : Bool) → nodes_from false k new ≡ new_user (put_marks e [])) → nodes_from false k (cs ++ new) ≡ placed_users e (nodes_from false k cs))
          → nodes_from false keys (c ∷ (cs ++ new)) ≡ placed_users e (nodes_from false keys (c ∷ cs))
      go true u t again = absurd cc
      go false u t again =
          rw u (ap (λ (ns : List Node). node_by false (not keys && is_meta c) c ∷ ns) (again (keys || is_meta c) t n) ∙ sym (pass (not keys && is_meta c) c (nodes_from false (keys || is_meta c) cs)))

  nodes_fresh : (items : List Chunk) → udta.opening (udta.fresh items) ≡ record { chunks = items; stop = ends; left = [] } → (k : Bool) → nodes_from false k (listed (fresh udta items)) ≡ new_user (map (item_token user_items) items)
  nodes_fresh [] r k = refl
  nodes_fresh (c ∷ cs) r k = ap (λ (r : Run). user short (map (item_token user_items) r.chunks) r.left ∷ []) r

  users_by : (cs : List Chunk) (t : Bool) → list_any is_user cs ≡ t → AllByRecursion UserWhole (first_of is_user cs) → nodes (edit_by is_user (edit_carrier udta user_items e) (fresh udta (put_all user_items e [])) cs t) ≡ placed_users e (nodes cs)
  users_by cs true t w = nodes_first false cs t w
  users_by cs false t w =
      nodes_behind false cs (listed (fresh udta (put_all user_items e []))) t (λ k. nodes_fresh (put_all user_items e []) (fresh_again e h) k ∙ ap new_user (tokens_after user_items e [] (all_made e h)))

nodes_user : (e : List (Item Value)) (cs : List Chunk) → AllByRecursion SetsUser e → AllByRecursion UserWhole (first_of is_user cs) → nodes (user_edited e cs) ≡ placed_users e (nodes cs)
nodes_user [] cs h w = sym (placed_users_none (nodes cs))
nodes_user (i ∷ e) cs h w = users_by (i ∷ e) h cs (list_any is_user cs) refl w

-- ---- the nodes after the edit of the key table

module _ (e : List (Item (List ℕ))) (k : KeyItems e) where
  pass_keys : (users : Bool) (c : Chunk) (ns : List Node) → placed_keys e (node_by users false c ∷ ns) ≡ node_by users false c ∷ placed_keys e ns
  pass_keys true c ns = refl
  pass_keys false c ns = refl

  keyed_node : (c : Chunk) → is_meta c ≡ true → IsBytes c.body → SmallBody (edit_meta e c) → key_node (edit_meta e c) ≡ keyed c.form (bare (with_keys e (bare (table_in c))))
  keyed_node c m b s = ap (λ (t : KeyTable). keyed c.form (bare t)) (edited_meta e c m b k s).1 ∙ ap (keyed c.form) (sym (bare_keys e (table_in c)))

  metas_first : (users : Bool) (cs : List Chunk) → list_any is_meta cs ≡ true → AllByRecursion (λ c. IsBytes c.body) (first_of is_meta cs) → AllByRecursion (λ c. SmallBody (edit_meta e c)) (first_of is_meta cs)
      → nodes_from users false (first_one is_meta (edit_meta e) cs) ≡ placed_keys e (nodes_from users false cs)
  metas_first users [] t b s = absurd cc
  metas_first users (c ∷ cs) t b s = go (is_meta c) refl t b s (λ u. metas_first u cs)
    where
      go : (t : Bool) → is_meta c ≡ t → (t || list_any is_meta cs) ≡ true → AllByRecursion (λ c. IsBytes c.body) (cond t (c ∷ []) (first_of is_meta cs)) → AllByRecursion (λ c. SmallBody (edit_meta e c)) (cond t (c ∷ []) (first_of is_meta cs))
          → ((u : Bool) → list_any is_meta cs ≡ true → AllByRecursion (λ c. IsBytes c.body) (first_of is_meta cs) → AllByRecursion (λ c. SmallBody (edit_meta e c)) (first_of is_meta cs) → nodes_from u false (first_one is_meta (edit_meta e) cs) ≡ placed_keys e (nodes_from u false cs))
          → nodes_from users false (cond t (edit_meta e c ∷ cs) (c ∷ first_one is_meta (edit_meta e) cs)) ≡ placed_keys e (nodes_from users false (c ∷ cs))
      go true m t b s again =
          let no = meta_no_user c m in
          let now = (edited_meta e c m b.0 k s.0).0 in
          let none = meta_no_user (edit_meta e c) now in
          let one = keyed_node c m b.0 s.0 in
          meta_here users (is_user c) (is_user (edit_meta e c)) no none now m one
        where
          meta_here : (users x y : Bool) → x ≡ false → y ≡ false → is_meta (edit_meta e c) ≡ true → is_meta c ≡ true → key_node (edit_meta e c) ≡ keyed c.form (bare (with_keys e (bare (table_in c))))
              → node_by (not users && y) (true && is_meta (edit_meta e c)) (edit_meta e c) ∷ nodes_from (users || y) (false || is_meta (edit_meta e c)) cs
              ≡ placed_keys e (node_by (not users && x) (true && is_meta c) c ∷ nodes_from (users || x) (false || is_meta c) cs)
          meta_here true x y p q now m one = rw (now, m) (ap (λ (n : Node). n ∷ nodes_from true true cs) one)
          meta_here false x y p q now m one = rw (p, q, now, m) (ap (λ (n : Node). n ∷ nodes_from false true cs) one)
      go false m t b s again =
          rw m (ap (λ (ns : List Node). node_by (not users && is_user c) false c ∷ ns) (again (users || is_user c) t b s) ∙ sym (pass_keys (not users && is_user c) c (nodes_from (users || is_user c) false cs)))

  metas_behind : (users : Bool) (cs new : List Chunk) → list_any is_meta cs ≡ false → ((u : Bool) → nodes_from u false new ≡ placed_keys e []) → nodes_from users false (cs ++ new) ≡ placed_keys e (nodes_from users false cs)
  metas_behind users [] new t n = n users
  metas_behind users (c ∷ cs) new t n = go (is_meta c) refl t (λ u. metas_behind u cs new)
    where
      go : (t : Bool) → is_meta c ≡ t → (t || list_any is_meta cs) ≡ false
          → ((u : Bool) → list_any is_meta cs ≡ false → ((u : Bool) → nodes_from u false new ≡ placed_keys e []) → nodes_from u false (cs ++ new) ≡ placed_keys e (nodes_from u false cs))
          → nodes_from users false (c ∷ (cs ++ new)) ≡ placed_keys e (nodes_from users false (c ∷ cs))
      go true m t again = absurd cc
      go false m t again =
          rw m (ap (λ (ns : List Node). node_by (not users && is_user c) false c ∷ ns) (again (users || is_user c) t n) ∙ sym (pass_keys (not users && is_user c) c (nodes_from (users || is_user c) false cs)))

  metas_fresh : (t : Bool) → IfSome (cond t (Some (atom (codes "meta") (table_bytes (with_keys e new_table)))) None) SmallBody → (u : Bool)
      → nodes_from u false (listed (cond t (Some (atom (codes "meta") (table_bytes (with_keys e new_table)))) None)) ≡ cond t (keyed short (bare (with_keys e new_table)) ∷ []) []
  metas_fresh true s u =
      let f = fresh_meta e k s in
      made_node u (is_meta (atom (codes "meta") (table_bytes (with_keys e new_table)))) f.0 ∙ ap (λ (t : KeyTable). keyed short (bare t) ∷ []) f.1
    where
      made_node : (u m : Bool) → m ≡ true → node_by (not u && false) (true && m) (atom (codes "meta") (table_bytes (with_keys e new_table))) ∷ [] ≡ keyed short (bare (table_in (atom (codes "meta") (table_bytes (with_keys e new_table))))) ∷ []
      made_node true m i = rw i refl
      made_node false m i = rw i refl
  metas_fresh false s u = refl

  metas_by : (cs : List Chunk) (t : Bool) → list_any is_meta cs ≡ t → KeysFit e cs → nodes (edit_by is_meta (edit_meta e) (new_meta e) cs t) ≡ placed_keys e (nodes cs)
  metas_by cs true t f = metas_first false cs t f.bytes f.small
  metas_by cs false t f = metas_behind false cs (listed (new_meta e)) t (λ u. metas_fresh (sets_some e) (f.new_small t) u)

-- nothing is placed of no items, where each table is bare
placed_keys_none : (users keys : Bool) (cs : List Chunk) → placed_keys [] (nodes_from users keys cs) ≡ nodes_from users keys cs
placed_keys_none users keys [] = refl
placed_keys_none users keys (c ∷ cs) = go (not users && udta.is c) (not keys && is_meta c) (placed_keys_none (users || udta.is c) (keys || is_meta c) cs)
  where
    go : (u m : Bool) → placed_keys [] (nodes_from (users || udta.is c) (keys || is_meta c) cs) ≡ nodes_from (users || udta.is c) (keys || is_meta c) cs
        → placed_keys [] (node_by u m c ∷ nodes_from (users || udta.is c) (keys || is_meta c) cs) ≡ node_by u m c ∷ nodes_from (users || udta.is c) (keys || is_meta c) cs
    go true m again = ap (λ (ns : List Node). user_node c ∷ ns) again
    go false true again = ap (λ (t : KeyTable). keyed c.form t ∷ nodes_from (users || udta.is c) (keys || is_meta c) cs) (bare_keys [] (table_in c))
    go false false again = ap (λ (ns : List Node). plain_node c ∷ ns) again

nodes_keys : (e : List (Item (List ℕ))) (cs : List Chunk) → KeyItems e → KeysFit e cs → nodes (keys_edited e cs) ≡ placed_keys e (nodes cs)
nodes_keys [] cs k f = sym (placed_keys_none false false cs)
nodes_keys (i ∷ e) cs k f = metas_by (i ∷ e) k cs (list_any is_meta cs) refl f

pub nodes_all : (e : Changes) (cs : List Chunk) → AllByRecursion SetsUser e.users → AllByRecursion UserWhole (first_of is_user cs) → KeyItems e.keys → KeysFit e.keys cs → nodes (edited_chunks e cs) ≡ placed_keys e.keys (placed_users e.users (nodes cs))
nodes_all e cs h w k f = nodes_keys e.keys (user_edited e.users cs) k (keys_fit e.users e.keys cs f) ∙ ap (placed_keys e.keys) (nodes_user e.users cs h w)

-- nothing is placed without items
pub placed_nothing : (cs : List Chunk) → placed_keys [] (placed_users [] (nodes cs)) ≡ nodes cs
placed_nothing cs = ap (placed_keys []) (placed_users_none (nodes cs)) ∙ placed_keys_none false false cs
