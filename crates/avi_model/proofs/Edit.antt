-- An edit of the lists of the first form, without its tables: what is laid is read again, the fields are the old ones updated, and
-- what is kept is placed.
use Rattle.std.proofs.Common.{◌≡◌, ℕ, ◌+◌, ◌-◌, ◌%◌, ◌^◌, ◌<◌, ◌≤◌, Bool, true, false, cond, leb, eqb, List, [], ◌∷◌, ◌++◌, length, map, refl, sym, ap, ◌∙◌, arith, inl, inr}
use Rattle.std.specs.Prelude.{◌⊎◌, ◌||◌, ◌&&◌, not, codes}
use Rattle.std.specs.List.{flat_map, AllByRecursion}
use Rattle.std.proofs.lemmas.Bool.{cond-true, eqb-true, eqb-false}
use Rattle.std.proofs.lemmas.List.{append-nil}
use Rattle.std.proofs.lemmas.List.Concat.{flat_map-append}
use Rattle.container_model.specs.Chunk.{riff, Chunk, ends, spell_all, Pads, PadStands}
use Rattle.container_model.specs.Items.{Item, values, put_all, edit_carrier}
use Rattle.container_model.specs.Units.{live, shut}
use Rattle.container_model.proofs.Plain.{IsPlain, ArePlain}
use Rattle.container_model.proofs.Units.{AllCells, lay_all}
use Rattle.container_model.proofs.Reread.{IsPadded, CellPads, lay_pads}
use Rattle.carrier_model.specs.Cells.{Act, nothing, change, add, leave, become, changed, change_at, counted, settle, meets, some_meets, insert, beside, behind}
use Rattle.carrier_model.specs.Lists.{values_held, list_values, items_of, all_items, home, part_of, concerns, edit_nth, has_carrier, sets_some, new_carrier, lists_act_by, lists_act, edit_lists, Node, list, other, node_meets, place_lists, ReadyFrom, ActReady}
use Rattle.carrier_model.specs.Info.{info, info_items, is_padding, list_run, made, list_of, room, fill_by, riff_fill, SetsInfo, ItemsSmall, InfoReady}
use Rattle.carrier_model.proofs.Cells.{Gaps, gaps_acted, live_acted, Makes, cells_acted, pads_acted, All-parts}
use Rattle.carrier_model.proofs.Info.{made_padded, made_plain, info_rereads, part_sets, closed_is, fresh_is, small_items, fill_all}
use Rattle.carrier_model.proofs.Lists.{lists_values, lists_end, lists_nodes}
use Rattle.carrier_model.proofs.Views.{laid_view}
use Rattle.avi_model.specs.Avi.{Avi, inner, behind as after_form, spell_avi, avi_of}
use Rattle.avi_model.specs.NewFile.{Items, home as behind_hdrl, new_cells, new_children, laid}
use Rattle.avi_model.specs.Named.{cell_by, cell_of, ends_file}
use Rattle.carrier_model.specs.RiffForm.{new_pad}
use Rattle.container_model.specs.Items.{is_nil}
use Rattle.avi_model.specs.Edited.{info_values}
use Rattle.avi_model.specs.Kept.{other_node, nodes_of, kept_in, placed}
use Rattle.avi_model.proofs.Read.{Readable, avi_again}
use Rattle.avi_model.proofs.Types.{type_is, padding_id}
use Rattle.avi_model.proofs.Tables.{was_cells}

-- ---- each chunk that is made is a list

abbrev pub act_of : Items → List Chunk → Act
act_of e cs = lists_act info info_items behind_hdrl e cs

pub makes_lists : (P : Chunk → Type 0) → ((body : List ℕ) → P (made (codes "LIST") body)) → (e : Items) (cs : List Chunk) → Makes P (act_of e cs)
makes_lists P good e cs = go (has_carrier info cs)
  where
    fresh : (b : Bool) → Makes P (new_carrier info info_items behind_hdrl e b)
    fresh true = good _
    fresh false = tt

    one : (h : List ℕ → ℕ) (n : ℕ) (c : Chunk) (b : Bool) → AllByRecursion P (Rattle.carrier_model.proofs.Cells.made_by (cond b (become (edit_carrier info info_items (part_of h n e) c ∷ [])) leave))
    one h n c true = (good _, tt)
    one h n c false = tt

    go : (b : Bool) → Makes P (lists_act_by info info_items behind_hdrl e cs b)
    go false = fresh (sets_some e)
    go true = λ n c. one (home (all_items info info_items cs)) n c (concerns (home (all_items info info_items cs)) n (items_of info info_items c) e)

-- ---- the cells of the form

pub cells_all : (P : Chunk → Type 0) (cs : List Chunk) → AllByRecursion P cs → AllCells P (map cell_of cs)
cells_all P [] h = tt
cells_all P (c ∷ cs) h = go (is_padding c) (cells_all P cs h.1)
  where
    go : (t : Bool) → AllCells P (map cell_of cs) → AllCells P (cell_by c t ∷ map cell_of cs)
    go true g = (h.0, g)
    go false g = (h.0, g)

pub cells_gaps : (P : Chunk → Type 0) → ((c : Chunk) → is_padding c ≡ true → P c) → (cs : List Chunk) → Gaps P (map cell_of cs)
cells_gaps P f [] = tt
cells_gaps P f (c ∷ cs) = go (is_padding c) refl (cells_gaps P f cs)
  where
    go : (t : Bool) → is_padding c ≡ t → Gaps P (map cell_of cs) → Gaps P (cell_by c t ∷ map cell_of cs)
    go true e g = (f c e, g)
    go false e g = g

pub cells_pads : (cs : List Chunk) (left : List ℕ) → Pads cs left → CellPads (map cell_of cs) left
cells_pads [] left h = tt
cells_pads (c ∷ cs) left h = go (is_padding c) (cells_pads cs left h.1)
  where
    go : (t : Bool) → CellPads (map cell_of cs) left → CellPads (cell_by c t ∷ map cell_of cs) left
    go true g = (rw (was_cells cs) h.0, g)
    go false g = (rw (was_cells cs) h.0, g)

-- what a view that passes padding by sees of the cells
pub view_cells : {X : Type 0} (v : Chunk → List X) → ((c : Chunk) → is_padding c ≡ true → v c ≡ []) → (cs : List Chunk) → flat_map v (flat_map live (map cell_of cs)) ≡ flat_map v cs
view_cells v h [] = refl
view_cells v h (c ∷ cs) = flat_map-append v (live (cell_of c)) (flat_map live (map cell_of cs)) ∙ rw (one (is_padding c) refl, view_cells v h cs) refl
  where
    one : (t : Bool) → is_padding c ≡ t → flat_map v (live (cell_by c t)) ≡ v c
    one true e = sym (h c e)
    one false e = append-nil (v c)

pub live_all : (P : Chunk → Type 0) (cs : List Chunk) → AllByRecursion P cs → AllByRecursion P (flat_map live (map cell_of cs))
live_all P [] h = tt
live_all P (c ∷ cs) h = go (is_padding c) (live_all P cs h.1)
  where
    go : (t : Bool) → AllByRecursion P (flat_map live (map cell_of cs)) → AllByRecursion P (live (cell_by c t) ++ flat_map live (map cell_of cs))
    go true g = g
    go false g = (h.0, g)

pub pad_stands : (old n : ℕ) (pad more : List ℕ) → PadStands riff old pad more → PadStands riff n (new_pad old n pad more) more
pad_stands old n pad more h = go (eqb old n) refl
  where
    odd : (t u : Bool) → eqb (n % 2) 1 ≡ t → is_nil more ≡ u → PadStands riff n (cond (t && not u) (0 ∷ []) []) more
    odd true false e i = inl (sym (eqb-true (n % 2) 1 e))
    odd true true e i = inr (omega arith, none more i)
      where
        none : (x : List ℕ) → is_nil x ≡ true → x ≡ []
        none [] i = refl
        none (y ∷ x) i = absurd cc
    odd false u e i = inl (even e)
      where
        even : eqb (n % 2) 1 ≡ false → 0 ≡ n % 2
        even e = omega (arith, eqb-false (n % 2) 1 e)

    go : (t : Bool) → eqb old n ≡ t → PadStands riff n (cond t pad (cond (eqb (n % 2) 1 && not (is_nil more)) (0 ∷ []) [])) more
    go true e = rw (← eqb-true old n e) h
    go false e = odd (eqb (n % 2) 1) (is_nil more) refl refl

-- ---- what an edit needs of the lists

abbrev pub EndsList : Chunk → Type 0
EndsList c = info.is c ≡ true → (list_run c).stop ≡ ends

-- a list that isn't too long for its size
abbrev pub ShortList : Chunk → Type 0
ShortList c = info.is c ≡ true → length c.body < 2 ^ 32

settle_ready : (h : List ℕ → ℕ) (e : Items) (n : ℕ) (cs : List Chunk) → AllByRecursion EndsList cs → AllByRecursion ShortList (settle info.is (edit_nth info info_items h e) n cs) → ReadyFrom info info_items InfoReady h e n cs
settle_ready h e n [] w s = tt
settle_ready h e n (c ∷ cs) w s =
    let p = All-parts ShortList (changed (change_at info.is (edit_nth info info_items h e) n c) c) _ s in
    (one (info.is c) refl p.0, settle_ready h e (counted info.is n c) cs w.1 p.1)
  where
    two : (b : Bool) → concerns h n (items_of info info_items c) e ≡ b → AllByRecursion ShortList (changed (cond b (become (edit_carrier info info_items (part_of h n e) c ∷ [])) leave) c) → info.is c ≡ true → b ≡ true → InfoReady (part_of h n e) c
    two true d g is t = (w.0 is, small_items (put_all info_items (part_of h n e) (list_run c).chunks) (list_run c).left (g.0 refl))
    two false d g is t = absurd cc

    one : (t : Bool) → info.is c ≡ t → AllByRecursion ShortList (changed (cond t (edit_nth info info_items h e n c) leave) c) → info.is c ≡ true → concerns h n (items_of info info_items c) e ≡ true → InfoReady (part_of h n e) c
    one true is g i k = two (concerns h n (items_of info info_items c) e) refl g i k
    one false is g i k = absurd cc

insert_one : (P : Chunk → Type 0) (x : Chunk) (cs : List Chunk) → AllByRecursion P (insert behind behind_hdrl x cs) → P x
insert_one P x [] h = h.0
insert_one P x (c ∷ cs) h = go (meets behind_hdrl c) h (λ g. insert_one P x cs g)
  where
    go : (t : Bool) → AllByRecursion P (cond t (beside behind x c ++ cs) (c ∷ insert behind behind_hdrl x cs)) → (AllByRecursion P (insert behind behind_hdrl x cs) → P x) → P x
    go true h again = h.1.0
    go false h again = again h.1

-- Where the lists end, and those after the edit are short enough, the edit is ready.
pub lists_ready : (e : Items) (cs : List Chunk) → AllByRecursion EndsList cs → AllByRecursion ShortList (edit_lists info info_items behind_hdrl e cs) → ActReady info info_items InfoReady ItemsSmall e cs
lists_ready e cs w s = go (has_carrier info cs) refl s
  where
    none : (b : Bool) → sets_some e ≡ b → AllByRecursion ShortList (Rattle.carrier_model.specs.Cells.acted (new_carrier info info_items behind_hdrl e b) cs) → sets_some e ≡ true → ItemsSmall (put_all info_items e [])
    none true d g t = small_items (put_all info_items e []) [] (insert_one ShortList (list_of (put_all info_items e []) []) cs g refl)
    none false d g t = absurd cc

    go : (b : Bool) → has_carrier info cs ≡ b → AllByRecursion ShortList (Rattle.carrier_model.specs.Cells.acted (lists_act_by info info_items behind_hdrl e cs b) cs) → ActReady info info_items InfoReady ItemsSmall e cs
    go true d g = ((λ t. settle_ready (home (all_items info info_items cs)) e 0 cs w g), (λ t. absurd cc))
    go false d g = ((λ t. absurd cc), (λ t i. none (sets_some e) refl g i))

module _ (a : Avi) (e : Items) where
  abbrev pub solid : List Chunk
  solid = flat_map live (map cell_of a.children)

  pub new_plain : ArePlain a.children → ArePlain (new_children a e)
  new_plain h =
      lay_all IsPlain (riff_fill (ends_file a)) (record { on_pads = λ c h. record { form_is = h.form_is; id_len = h.id_len }; on_fill = λ last slot k. fill_all IsPlain (λ body. made_plain (codes "JUNK") body refl) (ends_file a) last slot k }) shut
      (new_cells a e) tt (cells_acted IsPlain (act_of e solid) (makes_lists IsPlain (λ body. made_plain (codes "LIST") body refl) e solid) (map cell_of a.children) (cells_all IsPlain a.children h))

  pub new_padded : Pads a.children a.left → Pads (new_children a e) a.left
  new_padded h =
      lay_pads (riff_fill (ends_file a)) (λ last slot k. fill_all IsPadded (λ body. made_padded (codes "JUNK") body) (ends_file a) last slot k) a.left shut (new_cells a e) tt
      (pads_acted (act_of e solid) (makes_lists IsPadded (λ body. made_padded (codes "LIST") body) e solid) (map cell_of a.children) a.left (cells_pads a.children a.left h))

  -- what is laid is read again
  pub laid_readable : Readable a → length (inner (new_children a e) a.left) < 2 ^ 32 → Readable (laid a e)
  laid_readable r lt = record {
    plain_chunks = new_plain r.plain_chunks;
    pads = new_padded r.pads;
    few_left = r.few_left;
    form_pad = pad_stands (length (inner a.children a.left)) (length (inner (new_children a e) a.left)) a.pad (after_form a) r.form_pad;
    small = lt;
    others_are = r.others_are;
    others_pads = r.others_pads;
    no_form = r.no_form;
  }

  -- what a view that sees neither padding nor pads sees of the new chunks
  pub seen : {X : Type 0} (v : Chunk → List X) → ((c : Chunk) → v (record c { pad = [] }) ≡ v c) → ((c : Chunk) → is_padding c ≡ true → v c ≡ []) → flat_map v (new_children a e) ≡ flat_map v (edit_lists info info_items behind_hdrl e solid)
  seen v pads padding =
      laid_view v pads (riff_fill (ends_file a)) (λ last slot n. fills last slot n) (new_cells a e) (gaps_acted (λ c. v c ≡ []) (act_of e solid) (map cell_of a.children) (cells_gaps (λ c. v c ≡ []) padding a.children))
      ∙ ap (flat_map v) (live_acted (act_of e solid) (map cell_of a.children))
    where
      fills : (last : Bool) (slot : List ℕ) (n : ℕ) → flat_map v (riff_fill (ends_file a) last slot n) ≡ []
      fills last slot n = go (leb (length slot) n || (ends_file a && last))
        where
          go : (t : Bool) → flat_map v (fill_by slot n t) ≡ []
          go true = refl
          go false = append-nil (v (made (codes "JUNK") (room (length slot - n) slot n))) ∙ padding (made (codes "JUNK") (room (length slot - n) slot n)) refl

  abbrev pub Ready : Type 0
  Ready = ActReady info info_items InfoReady ItemsSmall e solid

  -- ---- fields

  pub values_updated : (name : List ℕ) → SetsInfo e → Ready → list_values info info_items name (new_children a e) ≡ Rattle.container_model.specs.Items.updated e name (list_values info info_items name a.children)
  values_updated name sets ready =
      let v = values_held info info_items name in
      seen v (λ c. refl) padding
      ∙ lists_values info info_items SetsInfo InfoReady ItemsSmall info_rereads part_sets closed_is fresh_is behind_hdrl e name solid sets ready
      ∙ ap (Rattle.container_model.specs.Items.updated e name) (view_cells v padding a.children)
    where
      padding : (c : Chunk) → is_padding c ≡ true → values_held info info_items name c ≡ []
      padding c p = ap (λ (b : Bool). cond b (values info_items name (list_run c).chunks) []) (Rattle.carrier_model.proofs.Info.padding_no_list (codes "INFO") c p)

  pub laid_fields : (name : List ℕ) → Readable a → length (inner (new_children a e) a.left) < 2 ^ 32 → SetsInfo e → Ready
      → info_values (spell_avi (laid a e)) name ≡ Rattle.container_model.specs.Items.updated e name (list_values info info_items name a.children)
  laid_fields name r lt sets ready = ap (λ (x : Avi). list_values info info_items name x.children) (avi_again (laid a e) (laid_readable r lt)) ∙ values_updated name sets ready

  -- ---- nodes

  pub sees_nodes : (c : Chunk) → ((x : Node) × (nodes_of c ≡ x ∷ []) × (node_meets behind_hdrl x ≡ meets behind_hdrl c)) ⊎ ((nodes_of c ≡ []) × (meets behind_hdrl c ≡ false))
  sees_nodes c = go (info.is c) (is_padding c) refl refl
    where
      list_not : info.is c ≡ true → meets behind_hdrl c ≡ false
      list_not h = let t = type_is (codes "INFO") c h in rw (t.id_is, t.type_is) refl

      padding_not : is_padding c ≡ true → meets behind_hdrl c ≡ false
      padding_not h = rw (padding_id c h) refl

      go : (i p : Bool) → info.is c ≡ i → is_padding c ≡ p
          → ((x : Node) × (cond i (list (items_of info info_items c) (list_run c).left ∷ []) (cond p [] (other c.form c.id c.body ∷ [])) ≡ x ∷ []) × (node_meets behind_hdrl x ≡ meets behind_hdrl c))
          ⊎ ((cond i (list (items_of info info_items c) (list_run c).left ∷ []) (cond p [] (other c.form c.id c.body ∷ [])) ≡ []) × (meets behind_hdrl c ≡ false))
      go true p i j = inl (list (items_of info info_items c) (list_run c).left, refl, sym (list_not i))
      go false true i j = inr (refl, padding_not j)
      go false false i j = inl (other c.form c.id c.body, refl, refl)

  no_lists : (c : Chunk) → AllByRecursion (λ x. Rattle.carrier_model.specs.Lists.has_list (x ∷ []) ≡ false) (other_node c)
  no_lists c = go (is_padding c)
    where
      go : (t : Bool) → AllByRecursion (λ x. Rattle.carrier_model.specs.Lists.has_list (x ∷ []) ≡ false) (cond t [] (other c.form c.id c.body ∷ []))
      go true = tt
      go false = (refl, tt)

  pub laid_kept : Readable a → length (inner (new_children a e) a.left) < 2 ^ 32 → SetsInfo e → Ready → kept_in (avi_of (spell_avi (laid a e))) ≡ placed (kept_in a) e
  laid_kept r lt sets ready =
      let same : flat_map nodes_of (new_children a e) ≡ place_lists behind_hdrl e (flat_map nodes_of a.children)
      = seen nodes_of (λ c. refl) padding
      ∙ lists_nodes info info_items SetsInfo InfoReady ItemsSmall info_rereads part_sets closed_is fresh_is other_node no_lists behind_hdrl e solid sets ready sees_nodes
      ∙ ap (place_lists behind_hdrl e) (view_cells nodes_of padding a.children) in
      ap kept_in (avi_again (laid a e) (laid_readable r lt)) ∙ ap (λ (k : List Node). record { nodes = k; left = a.left; others = a.others; tail = a.tail }) same
    where
      padding : (c : Chunk) → is_padding c ≡ true → nodes_of c ≡ []
      padding c p =
          ap (λ (b : Bool). cond b (list (items_of info info_items c) (list_run c).left ∷ []) (other_node c)) (Rattle.carrier_model.proofs.Info.padding_no_list (codes "INFO") c p)
          ∙ cond-true (is_padding c) [] (other c.form c.id c.body ∷ []) p

  -- ---- the lists end again

  pub laid_ends : SetsInfo e → Ready → AllByRecursion EndsList a.children → AllByRecursion EndsList (edit_lists info info_items behind_hdrl e solid)
  laid_ends sets ready h = lists_end info info_items SetsInfo InfoReady ItemsSmall info_rereads part_sets closed_is fresh_is behind_hdrl e solid sets ready (live_all EndsList a.children h)

-- ---- an edit is ready where the new form is short enough

short_lists : (cs : List Chunk) → length (spell_all cs) < 2 ^ 32 → AllByRecursion (λ (k : ℕ). k < 2 ^ 32) (flat_map (λ (c : Chunk). cond (info.is c) (length c.body ∷ []) []) cs)
short_lists [] h = tt
short_lists (c ∷ cs) h = go (info.is c) (short_lists cs (omega (arith, long)))
  where
    long : length (spell_all (c ∷ cs)) ≡ length (Rattle.container_model.specs.Chunk.spell c) + length (spell_all cs)
    long = Rattle.std.proofs.lemmas.List.length-append (Rattle.container_model.specs.Chunk.spell c) (spell_all cs)

    body : length c.body ≤ length (Rattle.container_model.specs.Chunk.spell c)
    body = omega (arith, Rattle.std.proofs.lemmas.List.length-append (Rattle.container_model.specs.Chunk.header_bytes c.form c.id (length c.body)) (c.body ++ c.pad), Rattle.std.proofs.lemmas.List.length-append c.body c.pad)

    go : (t : Bool) → AllByRecursion (λ (k : ℕ). k < 2 ^ 32) (flat_map (λ (c : Chunk). cond (info.is c) (length c.body ∷ []) []) cs) → AllByRecursion (λ (k : ℕ). k < 2 ^ 32) (cond t (length c.body ∷ []) [] ++ flat_map (λ (c : Chunk). cond (info.is c) (length c.body ∷ []) []) cs)
    go true g = (omega (arith, h, long, body), g)
    go false g = g

from_short : (cs : List Chunk) → AllByRecursion (λ (k : ℕ). k < 2 ^ 32) (flat_map (λ (c : Chunk). cond (info.is c) (length c.body ∷ []) []) cs) → AllByRecursion ShortList cs
from_short [] h = tt
from_short (c ∷ cs) h = go (info.is c) refl h (λ g. from_short cs g)
  where
    go : (t : Bool) → info.is c ≡ t → AllByRecursion (λ (k : ℕ). k < 2 ^ 32) (cond t (length c.body ∷ []) [] ++ flat_map (λ (c : Chunk). cond (info.is c) (length c.body ∷ []) []) cs) → (AllByRecursion (λ (k : ℕ). k < 2 ^ 32) (flat_map (λ (c : Chunk). cond (info.is c) (length c.body ∷ []) []) cs) → AllByRecursion ShortList cs) → AllByRecursion ShortList (c ∷ cs)
    go true e h again = ((λ t. h.0), again h.1)
    go false e h again = ((λ t. absurd cc), again h)

pub ready_of : (x : Avi) (e : Items) → length (inner (new_children x e) x.left) < 2 ^ 32 → AllByRecursion EndsList x.children → Ready x e
ready_of x e small whole =
    let v = λ (c : Chunk). cond (info.is c) (length c.body ∷ []) [] in
    let same = seen x e v (λ c. refl) (λ c p. ap (λ (b : Bool). cond b (length c.body ∷ []) []) (Rattle.carrier_model.proofs.Info.padding_no_list (codes "INFO") c p)) in
    let short = short_lists (new_children x e) (omega (arith, small, Rattle.std.proofs.lemmas.List.length-append (spell_all (new_children x e)) x.left)) in
    lists_ready e (solid x e) (live_all EndsList x.children whole) (from_short (edit_lists info info_items behind_hdrl e (solid x e)) (rw same at short))
