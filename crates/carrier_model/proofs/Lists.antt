-- What an edit does to the values and the nodes of carriers, each opened once.
use Rattle.std.proofs.Common.{◌≡◌, ℕ, suc, ◌+◌, ◌<◌, ◌≤◌, Bool, true, false, cond, eqb, List, [], ◌∷◌, ◌++◌, length, map, Option, Some, None, refl, sym, ap, ◌∙◌, arith, inl, inr}
use Rattle.std.specs.Prelude.{◌||◌, ◌⊎◌}
use Rattle.std.specs.Str.{bytes_eq}
use Rattle.std.specs.List.{flat_map, AllByRecursion}
use Rattle.std.proofs.lemmas.Bool.{cond-true, cond-false, eqb-true, eqb-false, eq-eqb, ne_eqb}
use Rattle.std.proofs.lemmas.List.{append-nil}
use Rattle.std.proofs.lemmas.List.Concat.{flat_map-append}
use Rattle.container_model.specs.Chunk.{Chunk, ends}
use Rattle.container_model.specs.Deep.{Token}
use Rattle.container_model.specs.Items.{Items, Item, values, item_token, has_mark, has, settled, put_all, listed, updated, put_marks, Carrier, edit_carrier, Rereads}
use Rattle.container_model.proofs.Items.{has_token, values_after, tokens_after, carrier_values, carrier_marks, fresh_values, fresh_marks}
use Rattle.carrier_model.specs.Cells.{leave, become, changed, change_at, counted, settle, Test, Side, behind, before, meets, beside, insert, acted}
use Rattle.carrier_model.specs.Lists.{values_held, list_values, items_of, all_items, some_hold, first_holder, home, part_of, concerns, edit_nth, has_carrier, sets_some, new_carrier, lists_act_by, edit_lists, Node, list, sign, other, nodes_in, node_items, has_list, place_nth, node_meets, insert_node, place_new, place_by, place_lists, ReadyFrom, ActReady}

or_parts : (a b : Bool) → (a || b) ≡ false → (a ≡ false) × (b ≡ false)
or_parts true b e = absurd cc
or_parts false b e = (refl, e)

-- ---- the values of all carriers, where each item is set at its home

abbrev joined : {V : Type 0} → List (List V) → List V
joined [] = []
joined (vs ∷ vss) = vs ++ joined vss

module _ {V : Type 0} where
  -- an item on the values of each carrier
  abbrev step_nth : (List ℕ → ℕ) → List ℕ → Item V → ℕ → List (List V) → List (List V)
  step_nth h name i n [] = []
  step_nth h name i n (vs ∷ vss) = cond (bytes_eq name i.name) (listed (cond (eqb (h i.name) n) i.value None)) vs ∷ step_nth h name i (suc n) vss

  abbrev updated_nth : (List ℕ → ℕ) → List (Item V) → List ℕ → ℕ → List (List V) → List V
  updated_nth h e name n [] = []
  updated_nth h e name n (vs ∷ vss) = updated (part_of h n e) name vs ++ updated_nth h e name (suc n) vss

  updated_first : (h : List ℕ → ℕ) (i : Item V) (e : List (Item V)) (name : List ℕ) (n : ℕ) (vss : List (List V)) → updated_nth h (i ∷ e) name n vss ≡ updated_nth h e name n (step_nth h name i n vss)
  updated_first h i e name n [] = refl
  updated_first h i e name n (vs ∷ vss) =
      ap (λ (x : List V). updated (part_of h n e) name (cond (bytes_eq name i.name) (listed (cond (eqb (h i.name) n) i.value None)) vs) ++ x) (updated_first h i e name (suc n) vss)

  updated_none : (h : List ℕ → ℕ) (name : List ℕ) (n : ℕ) (vss : List (List V)) → updated_nth h [] name n vss ≡ joined vss
  updated_none h name n [] = refl
  updated_none h name n (vs ∷ vss) = ap (λ (x : List V). vs ++ x) (updated_none h name (suc n) vss)

  -- behind its home an item is nowhere
  step_gone : (h : List ℕ → ℕ) (name : List ℕ) (i : Item V) (n : ℕ) (vss : List (List V)) → bytes_eq name i.name ≡ true → h i.name < n → joined (step_nth h name i n vss) ≡ []
  step_gone h name i n [] e lt = refl
  step_gone h name i n (vs ∷ vss) e lt =
      let no : eqb (h i.name) n ≡ false = ne_eqb (h i.name) n (λ (x : h i.name ≡ n). omega arith) in
      rw (e, no) (step_gone h name i (suc n) vss e (omega arith))

  step_same : (h : List ℕ → ℕ) (name : List ℕ) (i : Item V) (n : ℕ) (vss : List (List V)) → bytes_eq name i.name ≡ true → n ≤ h i.name → h i.name < n + length vss → joined (step_nth h name i n vss) ≡ listed i.value
  step_same h name i n [] e low high = absurd (omega arith)
  step_same h name i n (vs ∷ vss) e low high = go (eqb (h i.name) n) refl (λ l r. step_same h name i (suc n) vss e l r)
    where
      further : (a b : ℕ) → a ≤ b → (b ≡ a → ⊥) → suc a ≤ b
      further a b l apart = elim (Rattle.std.proofs.lemmas.Bool.cases_lt a b) [ inl lt ↦ omega arith | inr le ↦ absurd (apart (omega arith)) ]

      go : (t : Bool) → eqb (h i.name) n ≡ t → (suc n ≤ h i.name → h i.name < suc n + length vss → joined (step_nth h name i (suc n) vss) ≡ listed i.value)
          → cond (bytes_eq name i.name) (listed (cond t i.value None)) vs ++ joined (step_nth h name i (suc n) vss) ≡ listed i.value
      go true s again = let here : h i.name ≡ n = eqb-true (h i.name) n s in rw (e, step_gone h name i (suc n) vss e (omega arith)) (append-nil (listed i.value))
      go false s again = rw e (again (further n (h i.name) low (eqb-false (h i.name) n s)) (omega arith))

  step_other : (h : List ℕ → ℕ) (name : List ℕ) (i : Item V) (n : ℕ) (vss : List (List V)) → bytes_eq name i.name ≡ false → step_nth h name i n vss ≡ vss
  step_other h name i n [] e = refl
  step_other h name i n (vs ∷ vss) e = rw (e, step_other h name i (suc n) vss e) refl

  step_len : (h : List ℕ → ℕ) (name : List ℕ) (i : Item V) (n : ℕ) (vss : List (List V)) → length (step_nth h name i n vss) ≡ length vss
  step_len h name i n [] = refl
  step_len h name i n (vs ∷ vss) = ap suc (step_len h name i (suc n) vss)

  -- each item is set once, wherever its home is
  updated_joined : (h : List ℕ → ℕ) (e : List (Item V)) (name : List ℕ) (vss : List (List V)) → ((x : List ℕ) → h x < length vss) → updated_nth h e name 0 vss ≡ updated e name (joined vss)
  updated_joined h [] name vss inside = updated_none h name 0 vss
  updated_joined h (i ∷ e) name vss inside =
      let again = updated_joined h e name (step_nth h name i 0 vss) (λ x. rw (step_len h name i 0 vss) (inside x)) in
      updated_first h i e name 0 vss ∙ again ∙ ap (updated e name) (go (bytes_eq name i.name) refl)
    where
      go : (t : Bool) → bytes_eq name i.name ≡ t → joined (step_nth h name i 0 vss) ≡ cond t (listed i.value) (joined vss)
      go true s = step_same h name i 0 vss s (omega arith) (omega (arith, inside i.name))
      go false s = ap joined (step_other h name i 0 vss s)

  updated_unset : (e : List (Item V)) (name : List ℕ) → sets_some e ≡ false → updated e name [] ≡ []
  updated_unset [] name s = refl
  updated_unset (i ∷ e) name s = go i.value s (updated_unset e name)
    where
      empty : (t : Bool) → updated e name (cond t [] []) ≡ updated e name []
      empty true = refl
      empty false = refl

      go : (v : Option V) → (elim v [ None ↦ sets_some e | Some x ↦ true ]) ≡ false → (sets_some e ≡ false → updated e name [] ≡ []) → updated e name (cond (bytes_eq name i.name) (listed v) []) ≡ []
      go None s again = empty (bytes_eq name i.name) ∙ again s
      go (Some x) s again = absurd cc

-- ---- homes

some_first : (name : List ℕ) (tss : List (List Token)) → some_hold name tss ≡ true → first_holder name tss < length tss
some_first name [] e = absurd cc
some_first name (ts ∷ tss) e = go (has_mark name ts) e (some_first name tss)
  where
    go : (t : Bool) → (t || some_hold name tss) ≡ true → (some_hold name tss ≡ true → first_holder name tss < length tss) → cond t 0 (suc (first_holder name tss)) < length (ts ∷ tss)
    go true e again = omega arith
    go false e again = omega (arith, again e)

home_inside : (tss : List (List Token)) (name : List ℕ) → 0 < length tss → home tss name < length tss
home_inside tss name some = go (some_hold name tss) refl
  where
    go : (t : Bool) → some_hold name tss ≡ t → cond t (first_holder name tss) 0 < length tss
    go true e = some_first name tss e
    go false e = some

-- ---- any carrier that keeps its law

module _ {V : Type 0} (k : Carrier) (it : Items V) where
  -- where an edit doesn't concern a carrier it changes no item
  settled_idle : (name : List ℕ) (cs : List Chunk) → has it name cs ≡ false → settled it name [] cs ≡ cs
  settled_idle name [] e = refl
  settled_idle name (c ∷ cs) e = let p = or_parts _ (has it name cs) e in rw p.0 (ap (λ (x : List Chunk). c ∷ x) (settled_idle name cs p.1))

  idle : (h : List ℕ → ℕ) (n : ℕ) (e : List (Item V)) (cs : List Chunk) → concerns h n (map (item_token it) cs) e ≡ false → put_all it (part_of h n e) cs ≡ cs
  idle h n [] cs s = refl
  idle h n (i ∷ e) cs s =
      let p = or_parts _ (concerns h n (map (item_token it) cs) e) s in
      let q = or_parts (has_mark i.name (map (item_token it) cs)) (eqb (h i.name) n) p.0 in
      let none : has it i.name cs ≡ false = sym (has_token it i.name cs) ∙ q.0 in
      rw q.1 (ap (put_all it (part_of h n e)) (settled_idle i.name cs none) ∙ idle h n e cs p.1)

  module _ (Sets : List (Item V) → Type 0) (Ready : List (Item V) → Chunk → Type 0) (Small : List Chunk → Type 0) (law : Rereads k it Sets Ready Small)
      (still_set : (h : List ℕ → ℕ) (n : ℕ) (e : List (Item V)) → Sets e → Sets (part_of h n e))
      (closed_is : (c : Chunk) (items : List Chunk) (rest : List ℕ) → k.is (k.closing c items rest) ≡ true) (fresh_is : (items : List Chunk) → k.is (k.fresh items) ≡ true) where
    abbrev now_of : (List ℕ → ℕ) → List (Item V) → ℕ → Chunk → List Chunk
    now_of h e n c = changed (edit_nth k it h e n c) c

    -- what stands in place of a carrier
    record Edits (h : List ℕ → ℕ) (e : List (Item V)) (n : ℕ) (c : Chunk) : Type 0 where
      now : Chunk
      alone : now_of h e n c ≡ now ∷ []
      is_one : k.is now ≡ true
      values_are : (name : List ℕ) → values it name (k.opening now).chunks ≡ updated (part_of h n e) name (values it name (k.opening c).chunks)
      items_are : items_of k it now ≡ put_marks (part_of h n e) (items_of k it c)
      rest_is : (k.opening now).left ≡ (k.opening c).left
      ended : (k.opening c).stop ≡ ends → (k.opening now).stop ≡ ends

    edits : (h : List ℕ → ℕ) (e : List (Item V)) (n : ℕ) (c : Chunk) → Sets e → k.is c ≡ true → (concerns h n (items_of k it c) e ≡ true → Ready (part_of h n e) c) → Edits h e n c
    edits h e n c s is ready = go (concerns h n (items_of k it c) e) refl
      where
        go : (t : Bool) → concerns h n (items_of k it c) e ≡ t → Edits h e n c
        go true t =
            let p = part_of h n e in
            let o = law.edited_again p c (still_set h n e s) (ready t) in
            record {
              now = edit_carrier k it p c;
              alone = ap (λ (b : Bool). changed (cond b (become (edit_carrier k it p c ∷ [])) leave) c) t;
              is_one = closed_is c (put_all it p (k.opening c).chunks) (k.opening c).left;
              values_are = λ name. carrier_values k it Sets Ready Small law p c name (still_set h n e s) (ready t);
              items_are = carrier_marks k it Sets Ready Small law p c (still_set h n e s) (ready t);
              rest_is = o.rest_same;
              ended = λ x. o.whole;
            }
        go false t =
            let p = part_of h n e in
            let made = law.sets_made p (still_set h n e s) in
            let same = idle h n e (k.opening c).chunks t in
            record {
              now = c;
              alone = ap (λ (b : Bool). changed (cond b (become (edit_carrier k it p c ∷ [])) leave) c) t;
              is_one = is;
              values_are = λ name. sym (ap (values it name) same) ∙ values_after it p name (k.opening c).chunks made;
              items_are = sym (ap (map (item_token it)) same) ∙ tokens_after it p (k.opening c).chunks made;
              rest_is = refl;
              ended = λ x. x;
            }

    -- ---- values

    abbrev all_values : List ℕ → List Chunk → List (List V)
    all_values name [] = []
    all_values name (c ∷ cs) = cond (k.is c) (values it name (k.opening c).chunks ∷ all_values name cs) (all_values name cs)

    joined_values : (name : List ℕ) (cs : List Chunk) → joined (all_values name cs) ≡ list_values k it name cs
    joined_values name [] = refl
    joined_values name (c ∷ cs) = go (k.is c) (joined_values name cs)
      where
        go : (t : Bool) → joined (all_values name cs) ≡ list_values k it name cs
            → joined (cond t (values it name (k.opening c).chunks ∷ all_values name cs) (all_values name cs)) ≡ cond t (values it name (k.opening c).chunks) [] ++ list_values k it name cs
        go true h = ap (λ (x : List V). values it name (k.opening c).chunks ++ x) h
        go false h = h

    as_many : (name : List ℕ) (cs : List Chunk) → length (all_values name cs) ≡ length (all_items k it cs)
    as_many name [] = refl
    as_many name (c ∷ cs) = go (k.is c) (as_many name cs)
      where
        go : (t : Bool) → length (all_values name cs) ≡ length (all_items k it cs)
            → length (cond t (values it name (k.opening c).chunks ∷ all_values name cs) (all_values name cs)) ≡ length (cond t (items_of k it c ∷ all_items k it cs) (all_items k it cs))
        go true h = ap suc h
        go false h = h

    held_one : (name : List ℕ) (c : Chunk) → k.is c ≡ true → list_values k it name (c ∷ []) ≡ values it name (k.opening c).chunks
    held_one name c is = append-nil (values_held k it name c) ∙ cond-true (k.is c) (values it name (k.opening c).chunks) [] is

    settle_values : (h : List ℕ → ℕ) (e : List (Item V)) (name : List ℕ) (n : ℕ) (cs : List Chunk) → Sets e → ReadyFrom k it Ready h e n cs
        → list_values k it name (settle k.is (edit_nth k it h e) n cs) ≡ updated_nth h e name n (all_values name cs)
    settle_values h e name n [] s r = refl
    settle_values h e name n (c ∷ cs) s r =
        flat_map-append (values_held k it name) (changed (change_at k.is (edit_nth k it h e) n c) c) (settle k.is (edit_nth k it h e) (counted k.is n c) cs)
        ∙ ap (λ (x : List V). list_values k it name (changed (change_at k.is (edit_nth k it h e) n c) c) ++ x) (settle_values h e name (counted k.is n c) cs s r.1) ∙ go (k.is c) refl
      where
        go : (t : Bool) → k.is c ≡ t
            → list_values k it name (changed (cond t (edit_nth k it h e n c) leave) c) ++ updated_nth h e name (cond t (suc n) n) (all_values name cs)
            ≡ updated_nth h e name n (cond t (values it name (k.opening c).chunks ∷ all_values name cs) (all_values name cs))
        go true is =
            let d = edits h e n c s is (r.0 is) in
            ap (λ (x : List V). x ++ updated_nth h e name (suc n) (all_values name cs)) (ap (list_values k it name) d.alone ∙ held_one name d.now d.is_one ∙ d.values_are name)
        go false is = ap (λ (b : Bool). (cond b (values it name (k.opening c).chunks) [] ++ []) ++ updated_nth h e name n (all_values name cs)) is

    some_values : (cs : List Chunk) → has_carrier k cs ≡ true → 0 < length (all_items k it cs)
    some_values [] e = absurd cc
    some_values (c ∷ cs) e = go (k.is c) e (some_values cs)
      where
        go : (t : Bool) → (t || has_carrier k cs) ≡ true → (has_carrier k cs ≡ true → 0 < length (all_items k it cs)) → 0 < length (cond t (items_of k it c ∷ all_items k it cs) (all_items k it cs))
        go true e again = omega arith
        go false e again = again e

    no_values : (name : List ℕ) (cs : List Chunk) → has_carrier k cs ≡ false → list_values k it name cs ≡ []
    no_values name [] e = refl
    no_values name (c ∷ cs) e = let p = or_parts (k.is c) (has_carrier k cs) e in rw (p.0, no_values name cs p.1) refl

    insert_values : (s : Side) (t : Test) (name : List ℕ) (x : Chunk) (cs : List Chunk) → list_values k it name cs ≡ [] → list_values k it name (insert s t x cs) ≡ list_values k it name (x ∷ [])
    insert_values s t name x [] none = refl
    insert_values s t name x (c ∷ cs) none = go (meets t c) (nil_parts (values_held k it name c) (list_values k it name cs) none) (insert_values s t name x cs)
      where
        nil_parts : (a b : List V) → a ++ b ≡ [] → (a ≡ []) × (b ≡ [])
        nil_parts [] b e = (refl, e)
        nil_parts (y ∷ a) b e = absurd cc

        both : (s : Side) → values_held k it name c ≡ [] → list_values k it name cs ≡ [] → list_values k it name (beside s x c ++ cs) ≡ list_values k it name (x ∷ [])
        both behind e f = rw (e, f) refl
        both before e f = rw (e, f) refl

        go : (m : Bool) → (values_held k it name c ≡ []) × (list_values k it name cs ≡ []) → (list_values k it name cs ≡ [] → list_values k it name (insert s t x cs) ≡ list_values k it name (x ∷ []))
            → list_values k it name (cond m (beside s x c ++ cs) (c ∷ insert s t x cs)) ≡ list_values k it name (x ∷ [])
        go true p again = both s p.0 p.1
        go false p again = rw p.0 (again p.1)

    -- The values after an edit are the old ones updated.
    pub lists_values : (t : Test) (e : List (Item V)) (name : List ℕ) (cs : List Chunk) → Sets e → ActReady k it Ready Small e cs → list_values k it name (edit_lists k it t e cs) ≡ updated e name (list_values k it name cs)
    lists_values t e name cs s r = go (has_carrier k cs) refl
      where
        fresh : (b : Bool) → sets_some e ≡ b → has_carrier k cs ≡ false → list_values k it name (acted (new_carrier k it t e b) cs) ≡ updated e name []
        fresh true b none =
            insert_values behind t name (k.fresh (put_all it e [])) cs (no_values name cs none) ∙ held_one name (k.fresh (put_all it e [])) (fresh_is (put_all it e []))
            ∙ fresh_values k it Sets Ready Small law e name s (r.1 none b)
        fresh false b none = no_values name cs none ∙ sym (updated_unset e name b)

        go : (b : Bool) → has_carrier k cs ≡ b → list_values k it name (acted (lists_act_by k it t e cs b) cs) ≡ updated e name (list_values k it name cs)
        go false b = fresh (sets_some e) refl b ∙ ap (updated e name) (sym (no_values name cs b))
        go true b =
            let h = home (all_items k it cs) in
            settle_values h e name 0 cs s (r.0 b)
            ∙ updated_joined h e name (all_values name cs) (λ x. rw (as_many name cs) (home_inside (all_items k it cs) x (some_values cs b)))
            ∙ ap (updated e name) (joined_values name cs)

    -- ---- carriers stay whole

    abbrev pub Ends : Chunk → Type 0
    Ends c = k.is c ≡ true → (k.opening c).stop ≡ ends

    settle_ends : (h : List ℕ → ℕ) (e : List (Item V)) (n : ℕ) (cs : List Chunk) → Sets e → ReadyFrom k it Ready h e n cs → AllByRecursion Ends cs → AllByRecursion Ends (settle k.is (edit_nth k it h e) n cs)
    settle_ends h e n [] s r w = tt
    settle_ends h e n (c ∷ cs) s r w = Rattle.container_model.proofs.Units.All-both Ends (changed (change_at k.is (edit_nth k it h e) n c) c) _ (go (k.is c) refl) (settle_ends h e (counted k.is n c) cs s r.1 w.1)
      where
        go : (t : Bool) → k.is c ≡ t → AllByRecursion Ends (changed (cond t (edit_nth k it h e n c) leave) c)
        go true is =
            let d = edits h e n c s is (r.0 is) in
            rw d.alone (λ x. d.ended (w.0 is), tt)
        go false is = (w.0, tt)

    pub lists_end : (t : Test) (e : List (Item V)) (cs : List Chunk) → Sets e → ActReady k it Ready Small e cs → AllByRecursion Ends cs → AllByRecursion Ends (edit_lists k it t e cs)
    lists_end t e cs s r w = go (has_carrier k cs) refl
      where
        fresh : (b : Bool) → sets_some e ≡ b → has_carrier k cs ≡ false → AllByRecursion Ends (acted (new_carrier k it t e b) cs)
        fresh true b none = Rattle.carrier_model.proofs.Cells.all_insert Ends behind t (k.fresh (put_all it e [])) (λ x. (law.fresh_again e s (r.1 none b)).whole) cs w
        fresh false b none = w

        go : (b : Bool) → has_carrier k cs ≡ b → AllByRecursion Ends (acted (lists_act_by k it t e cs b) cs)
        go false b = fresh (sets_some e) refl b
        go true b = settle_ends (home (all_items k it cs)) e 0 cs s (r.0 b) w

    -- ---- nodes

    module _ (more : Chunk → List Node) (no_lists : (c : Chunk) → AllByRecursion (λ x. has_list (x ∷ []) ≡ false) (more c)) where
      abbrev node_view : Chunk → List Node
      node_view c = nodes_in k it more c

      items_none : (a b : List Node) → AllByRecursion (λ x. has_list (x ∷ []) ≡ false) a → (node_items (a ++ b) ≡ node_items b) × (has_list (a ++ b) ≡ has_list b)
      items_none [] b n = (refl, refl)
      items_none (list ts rest ∷ a) b n = absurd cc
      items_none (sign id ∷ a) b n = items_none a b n.1
      items_none (other form id body ∷ a) b n = items_none a b n.1

      place_none : (h : List ℕ → ℕ) (e : List (Item V)) (n : ℕ) (a b : List Node) → AllByRecursion (λ x. has_list (x ∷ []) ≡ false) a → place_nth h e n (a ++ b) ≡ a ++ place_nth h e n b
      place_none h e n [] b g = refl
      place_none h e n (list ts rest ∷ a) b g = absurd cc
      place_none h e n (sign id ∷ a) b g = ap (λ (x : List Node). sign id ∷ x) (place_none h e n a b g.1)
      place_none h e n (other form id body ∷ a) b g = ap (λ (x : List Node). other form id body ∷ x) (place_none h e n a b g.1)

      same_items : (cs : List Chunk) → (node_items (flat_map node_view cs) ≡ all_items k it cs) × (has_list (flat_map node_view cs) ≡ has_carrier k cs)
      same_items [] = (refl, refl)
      same_items (c ∷ cs) = go (k.is c) (same_items cs)
        where
          go : (t : Bool) → (node_items (flat_map node_view cs) ≡ all_items k it cs) × (has_list (flat_map node_view cs) ≡ has_carrier k cs)
              → (node_items (cond t (list (items_of k it c) (k.opening c).left ∷ []) (more c) ++ flat_map node_view cs) ≡ cond t (items_of k it c ∷ all_items k it cs) (all_items k it cs))
              × (has_list (cond t (list (items_of k it c) (k.opening c).left ∷ []) (more c) ++ flat_map node_view cs) ≡ (t || has_carrier k cs))
          go true h = (ap (λ (x : List (List Token)). items_of k it c ∷ x) h.0, refl)
          go false h = let n = items_none (more c) (flat_map node_view cs) (no_lists c) in (n.0 ∙ h.0, n.1 ∙ h.1)

      view_one : (c : Chunk) → k.is c ≡ true → flat_map node_view (c ∷ []) ≡ list (items_of k it c) (k.opening c).left ∷ []
      view_one c is = append-nil (node_view c) ∙ cond-true (k.is c) (list (items_of k it c) (k.opening c).left ∷ []) (more c) is

      settle_nodes : (h : List ℕ → ℕ) (e : List (Item V)) (n : ℕ) (cs : List Chunk) → Sets e → ReadyFrom k it Ready h e n cs → flat_map node_view (settle k.is (edit_nth k it h e) n cs) ≡ place_nth h e n (flat_map node_view cs)
      settle_nodes h e n [] s r = refl
      settle_nodes h e n (c ∷ cs) s r =
          flat_map-append node_view (changed (change_at k.is (edit_nth k it h e) n c) c) (settle k.is (edit_nth k it h e) (counted k.is n c) cs)
          ∙ ap (λ (x : List Node). flat_map node_view (changed (change_at k.is (edit_nth k it h e) n c) c) ++ x) (settle_nodes h e (counted k.is n c) cs s r.1) ∙ go (k.is c) refl
        where
          go : (t : Bool) → k.is c ≡ t
              → flat_map node_view (changed (cond t (edit_nth k it h e n c) leave) c) ++ place_nth h e (cond t (suc n) n) (flat_map node_view cs)
              ≡ place_nth h e n (cond t (list (items_of k it c) (k.opening c).left ∷ []) (more c) ++ flat_map node_view cs)
          go true is =
              let d = edits h e n c s is (r.0 is) in
              ap (λ (x : List Node). x ++ place_nth h e (suc n) (flat_map node_view cs))
              (ap (flat_map node_view) d.alone ∙ view_one d.now d.is_one ∙ ap (λ (ts : List Token). list ts (k.opening d.now).left ∷ []) d.items_are ∙ ap (λ (x : List ℕ). list (put_marks (part_of h n e) (items_of k it c)) x ∷ []) d.rest_is)
          go false is =
              ap (λ (b : Bool). (cond b (list (items_of k it c) (k.opening c).left ∷ []) (more c) ++ []) ++ place_nth h e n (flat_map node_view cs)) is
              ∙ ap (λ (x : List Node). x ++ place_nth h e n (flat_map node_view cs)) (append-nil (more c)) ∙ sym (place_none h e n (more c) (flat_map node_view cs) (no_lists c))

      -- a test sees of a chunk's nodes what it sees of the chunk
      abbrev pub SeesNodes : Test → Type 0
      SeesNodes t = (c : Chunk) → ((x : Node) × (node_view c ≡ x ∷ []) × (node_meets t x ≡ meets t c)) ⊎ ((node_view c ≡ []) × (meets t c ≡ false))

      beside_nodes : (s : Side) (x c : Chunk) (y z : Node) (cs : List Chunk) → node_view x ≡ y ∷ [] → node_view c ≡ z ∷ [] → flat_map node_view (beside s x c ++ cs) ≡ beside s y z ++ flat_map node_view cs
      beside_nodes behind x c y z cs e f = ap (λ (a : List Node). a ++ (node_view x ++ flat_map node_view cs)) f ∙ ap (λ (a : List Node). z ∷ (a ++ flat_map node_view cs)) e
      beside_nodes before x c y z cs e f = ap (λ (a : List Node). a ++ (node_view c ++ flat_map node_view cs)) e ∙ ap (λ (a : List Node). y ∷ (a ++ flat_map node_view cs)) f

      -- a new chunk stands among the nodes where it stands among the chunks
      pub insert_nodes : (s : Side) (t : Test) (x : Chunk) (y : Node) (cs : List Chunk) → SeesNodes t → node_view x ≡ y ∷ [] → flat_map node_view (insert s t x cs) ≡ insert_node s t y (flat_map node_view cs)
      insert_nodes s t x y [] sees e = append-nil (node_view x) ∙ e
      insert_nodes s t x y (c ∷ cs) sees e = go (sees c) (insert_nodes s t x y cs sees e)
        where
          hit : (z : Node) (b : Bool) → node_view c ≡ z ∷ [] → node_meets t z ≡ b → flat_map node_view (insert s t x cs) ≡ insert_node s t y (flat_map node_view cs)
              → flat_map node_view (cond b (beside s x c ++ cs) (c ∷ insert s t x cs)) ≡ insert_node s t y (z ∷ flat_map node_view cs)
          hit z true f m ih = beside_nodes s x c y z cs e f ∙ sym (cond-true (node_meets t z) (beside s y z ++ flat_map node_view cs) (z ∷ insert_node s t y (flat_map node_view cs)) m)
          hit z false f m ih = ap (λ (a : List Node). a ++ flat_map node_view (insert s t x cs)) f ∙ ap (λ (a : List Node). z ∷ a) ih ∙ sym (cond-false (node_meets t z) (beside s y z ++ flat_map node_view cs) (z ∷ insert_node s t y (flat_map node_view cs)) m)

          go : ((z : Node) × (node_view c ≡ z ∷ []) × (node_meets t z ≡ meets t c)) ⊎ ((node_view c ≡ []) × (meets t c ≡ false))
              → flat_map node_view (insert s t x cs) ≡ insert_node s t y (flat_map node_view cs)
              → flat_map node_view (cond (meets t c) (beside s x c ++ cs) (c ∷ insert s t x cs)) ≡ insert_node s t y (node_view c ++ flat_map node_view cs)
          go (inl p) ih = hit p.0 (meets t c) p.1 p.2 ih ∙ ap (λ (a : List Node). insert_node s t y (a ++ flat_map node_view cs)) (sym p.1)
          go (inr p) ih =
              ap (λ (b : Bool). flat_map node_view (cond b (beside s x c ++ cs) (c ∷ insert s t x cs))) p.1 ∙ ap (λ (a : List Node). a ++ flat_map node_view (insert s t x cs)) p.0 ∙ ih
              ∙ ap (λ (a : List Node). insert_node s t y (a ++ flat_map node_view cs)) (sym p.0)

      -- The nodes stand after an edit where the edit places them.
      pub lists_nodes : (t : Test) (e : List (Item V)) (cs : List Chunk) → Sets e → ActReady k it Ready Small e cs → SeesNodes t → flat_map node_view (edit_lists k it t e cs) ≡ place_lists t e (flat_map node_view cs)
      lists_nodes t e cs s r sees = go (has_carrier k cs) refl ∙ ap (place_by t e (flat_map node_view cs)) (sym (same_items cs).1)
        where
          fresh : (b : Bool) → sets_some e ≡ b → has_carrier k cs ≡ false → flat_map node_view (acted (new_carrier k it t e b) cs) ≡ place_new t e (flat_map node_view cs) b
          fresh true b none =
              let x = k.fresh (put_all it e []) in
              let marks = fresh_marks k it Sets Ready Small law e s (r.1 none b) in
              let rest = (law.fresh_again e s (r.1 none b)).rest_same in
              insert_nodes behind t x (list (put_marks e []) []) cs sees
              (cond-true (k.is x) (list (items_of k it x) (k.opening x).left ∷ []) (more x) (fresh_is (put_all it e [])) ∙ ap (λ (ts : List Token). list ts (k.opening x).left ∷ []) marks ∙ ap (λ (y : List ℕ). list (put_marks e []) y ∷ []) rest)
          fresh false b none = refl

          go : (b : Bool) → has_carrier k cs ≡ b → flat_map node_view (acted (lists_act_by k it t e cs b) cs) ≡ place_by t e (flat_map node_view cs) b
          go false b = fresh (sets_some e) refl b
          go true b = settle_nodes (home (all_items k it cs)) e 0 cs s (r.0 b) ∙ ap (λ (tss : List (List Token)). place_nth (home tss) e 0 (flat_map node_view cs)) (sym (same_items cs).0)
