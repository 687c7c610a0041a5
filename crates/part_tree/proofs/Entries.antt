-- Adding a value to the entries of fields.
use Rattle.std.proofs.Common.{◌≡◌, ℕ, zero, suc, ◌+◌, ◌<◌, ◌≤◌, List, [], ◌∷◌, ◌++◌, length, get_or, set, Bool, true, false, refl, sym, ap, ◌∙◌, arith, nat_le, subst, inl, inr, if◌then◌else◌, cond, not, length-append}
use Rattle.std.specs.Prelude.{◌⊎◌, insert, remove, Result, is_ok, Ok, Err, OnOk}
use Rattle.std.specs.List.{position_or_len}
use Rattle.std.proofs.lemmas.Bool.{leb-true, leb-false, cond-true, cond-false, cases_order}
use Rattle.std.proofs.lemmas.List.{get_or_default}
use Rattle.std.proofs.lemmas.List.Sums.{fails_before_first}
use Rattle.part_tree.specs.declared.field.FieldName.{FieldName}
use Rattle.part_tree.specs.declared.field.Value.{Value}
use Rattle.part_tree.specs.declared.fields.Entry.{Entry}
use Rattle.part_tree.specs.Fields.{values, Ascends, IsMap, Adds, Replaces}
use Rattle.part_tree.specs.Names.{IsFieldName, field_place, same_name}
use Rattle.part_tree.proofs.Places.{same_is_equal, same_refl, place_is_same}

abbrev pub entry : FieldName → List Value → Entry
entry name vs = record { name = name; values = vs }

-- whether an entry doesn't stand before a place
abbrev pub stands_at : ℕ → Entry → Bool
stands_at p e = nat_le p (field_place e.name)

-- ---- a name that is there

-- names of other places are others
other_place : (a b : FieldName) → field_place a < field_place b → same_name a b ≡ false
other_place a b lt = go (same_name a b) refl
  where
    go : (t : Bool) → same_name a b ≡ t → t ≡ false
    go true h = absurd (omega (arith, ap field_place (same_is_equal a b h)))
    go false h = refl

other_after : (a b : FieldName) → field_place b < field_place a → same_name a b ≡ false
other_after a b lt = go (same_name a b) refl
  where
    go : (t : Bool) → same_name a b ≡ t → t ≡ false
    go true h = absurd (omega (arith, ap field_place (same_is_equal a b h)))
    go false h = refl

-- with other values in an entry, all entries stay in order
pub ascends_set : (low : ℕ) (es : List Entry) (k : ℕ) (vs : List Value) (d : Entry) → Ascends low es → k < length es → 0 < length vs → Ascends low (set es k (entry (get_or es k d).name vs))
ascends_set low [] k vs d h lt some = absurd (omega arith)
ascends_set low (e ∷ es) zero vs d h lt some = (h.0, h.1, some, h.3)
ascends_set low (e ∷ es) (suc k) vs d h lt some = (h.0, h.1, h.2, ascends_set (suc (field_place e.name)) es k vs d h.3 (omega arith) some)

-- the values of the name that is set
pub values_set : (es : List Entry) (k : ℕ) (vs : List Value) (name : FieldName) (d : Entry) → k < length es → (get_or es k d).name ≡ name
    → ((j : ℕ) → j < k → field_place (get_or es j d).name < field_place name) → (values (set es k (entry (get_or es k d).name vs)) name ≡ vs) × (values es name ≡ (get_or es k d).values)
values_set [] k vs name d lt same before = absurd (omega arith)
values_set (e ∷ es) zero vs name d lt same before =
    let hit : same_name e.name name ≡ true = ap (λ n. same_name n name) same ∙ same_refl name in
    (cond-true (same_name e.name name) vs (values es name) hit, cond-true (same_name e.name name) e.values (values es name) hit)
values_set (e ∷ es) (suc k) vs name d lt same before =
    let miss = other_place e.name name (before 0 (omega arith)) in
    let rest = values_set es k vs name d (omega arith) same (λ j less. before (suc j) (omega arith)) in
    (cond-false (same_name e.name name) e.values _ miss ∙ rest.0, cond-false (same_name e.name name) e.values _ miss ∙ rest.1)

-- the values of another name
pub values_set_other : (es : List Entry) (k : ℕ) (vs : List Value) (other : FieldName) (d : Entry) → k < length es → same_name (get_or es k d).name other ≡ false
    → values (set es k (entry (get_or es k d).name vs)) other ≡ values es other
values_set_other [] k vs other d lt miss = absurd (omega arith)
values_set_other (e ∷ es) zero vs other d lt miss = cond-false (same_name e.name other) vs _ miss ∙ sym (cond-false (same_name e.name other) e.values _ miss)
values_set_other (e ∷ es) (suc k) vs other d lt miss = ap (λ (ws : List Value). if same_name e.name other then e.values else ws) (values_set_other es k vs other d (omega arith) miss)

-- ---- a new name

-- a name that comes before all entries has no values
values_none : (es : List Entry) (name : FieldName) (low : ℕ) → Ascends low es → field_place name < low → values es name ≡ []
values_none [] name low h lt = refl
values_none (e ∷ es) name low h lt =
    cond-false (same_name e.name name) e.values _ (other_after e.name name (omega (arith, h.0))) ∙ values_none es name (suc (field_place e.name)) h.3 (omega (arith, h.0))

abbrev pub front_len : ℕ → List Entry → ℕ
front_len p es = position_or_len (stands_at p) es

-- the entry of a new name, put in at a place of the list
pub record PutsAt (low : ℕ) (es : List Entry) (k : ℕ) (name : FieldName) (vs : List Value) : Type 0 where
  pub ascends : Ascends low (insert es k (entry name vs))
  pub was : values es name ≡ []
  pub now : values (insert es k (entry name vs)) name ≡ vs
  pub others : (other : FieldName) → same_name name other ≡ false → values (insert es k (entry name vs)) other ≡ values es other

abbrev pub Absent : List Entry → ℕ → FieldName → Type 0
Absent es k name = (d : Entry) → k < length es → same_name (get_or es k d).name name ≡ false

first_put : (low : ℕ) (e : Entry) (es : List Entry) (name : FieldName) (vs : List Value) → Ascends low (e ∷ es) → low ≤ field_place name → IsFieldName name → 0 < length vs
    → same_name e.name name ≡ false → field_place name ≤ field_place e.name → PutsAt low (e ∷ es) 0 name vs
first_put low e es name vs h le is some miss behind =
    let less : field_place name < field_place e.name = go (cases_order (field_place name) (field_place e.name)) in
    record {
      ascends = (le, is, some, (less, h.1, h.2, h.3));
      was = values_none (e ∷ es) name (field_place e.name) (omega arith, h.1, h.2, h.3) less;
      now = cond-true (same_name name name) vs _ (same_refl name);
      others = λ other no. cond-false (same_name name other) vs _ no;
    }
  where
    go : (field_place name ≡ field_place e.name) ⊎ ((field_place name < field_place e.name) ⊎ (field_place e.name < field_place name)) → field_place name < field_place e.name
    go (inl same) =
        let hit = place_is_same e.name name h.1 is (sym same) in
        absurd cc
    go (inr (inl lt)) = lt
    go (inr (inr gt)) = absurd (omega arith)

later_put : (low : ℕ) (e : Entry) (es : List Entry) (k : ℕ) (name : FieldName) (vs : List Value) → Ascends low (e ∷ es) → field_place e.name < field_place name
    → PutsAt (suc (field_place e.name)) es k name vs → PutsAt low (e ∷ es) (suc k) name vs
later_put low e es k name vs h lt rest =
    let miss = other_place e.name name lt in
    record {
      ascends = (h.0, h.1, h.2, rest.ascends);
      was = cond-false (same_name e.name name) e.values _ miss ∙ rest.was;
      now = cond-false (same_name e.name name) e.values _ miss ∙ rest.now;
      others = λ other no. ap (λ (ws : List Value). if same_name e.name other then e.values else ws) (rest.others other no);
    }

front_zero : (p : ℕ) (e : Entry) (es : List Entry) → stands_at p e ≡ true → front_len p (e ∷ es) ≡ 0
front_zero p e es h = ap (λ (t : Bool). cond (not t) (1 + front_len p es) 0) h

front_more : (p : ℕ) (e : Entry) (es : List Entry) → stands_at p e ≡ false → front_len p (e ∷ es) ≡ suc (front_len p es)
front_more p e es h = ap (λ (t : Bool). cond (not t) (1 + front_len p es) 0) h ∙ omega arith

pub puts_in : (low : ℕ) (es : List Entry) (name : FieldName) (vs : List Value) → Ascends low es → low ≤ field_place name → IsFieldName name → 0 < length vs
    → Absent es (front_len (field_place name) es) name → PutsAt low es (front_len (field_place name) es) name vs
puts_in low [] name vs h le is some absent = record {
  ascends = (le, is, some, tt);
  was = refl;
  now = cond-true (same_name name name) vs [] (same_refl name);
  others = λ other miss. cond-false (same_name name other) vs [] miss;
}
puts_in low (e ∷ es) name vs h le is some absent = go (stands_at (field_place name) e) refl (λ up none. puts_in (suc (field_place e.name)) es name vs h.3 up is some none)
  where
    go : (t : Bool) → stands_at (field_place name) e ≡ t
        → (suc (field_place e.name) ≤ field_place name → Absent es (front_len (field_place name) es) name → PutsAt (suc (field_place e.name)) es (front_len (field_place name) es) name vs)
        → PutsAt low (e ∷ es) (front_len (field_place name) (e ∷ es)) name vs
    go true h' again =
        let zero_front = front_zero (field_place name) e es h' in
        let P : ℕ → Type 0 = λ k. PutsAt low (e ∷ es) k name vs in
        let A : ℕ → Type 0 = λ k. Absent (e ∷ es) k name in
        let here : Absent (e ∷ es) 0 name = subst A zero_front absent in
        subst P (sym zero_front) (first_put low e es name vs h le is some (here e (omega arith)) (leb-true (field_place name) (field_place e.name) h'))
    go false h' again =
        let more = front_more (field_place name) e es h' in
        let P : ℕ → Type 0 = λ k. PutsAt low (e ∷ es) k name vs in
        let A : ℕ → Type 0 = λ k. Absent (e ∷ es) k name in
        let there : Absent (e ∷ es) (suc (front_len (field_place name) es)) name = subst A more absent in
        let lt = leb-false (field_place name) (field_place e.name) h' in
        subst P (sym more) (later_put low e es (front_len (field_place name) es) name vs h lt (again (omega arith) (λ d inside. there d (omega arith))))

-- ---- the two ways of adding

pub adds_new : (es : List Entry) (name : FieldName) (v : Value) (k : ℕ) → IsMap es → IsFieldName name → k ≡ front_len (field_place name) es → Absent es k name
    → IsMap (insert es k (entry name (v ∷ []))) × Adds es (insert es k (entry name (v ∷ []))) name v
adds_new es name v k h is at absent =
    let A : ℕ → Type 0 = λ k. Absent es k name in
    let put = puts_in 0 es name (v ∷ []) h (omega arith) is (omega arith) (subst A at absent) in
    let G : ℕ → Type 0 = λ k. IsMap (insert es k (entry name (v ∷ []))) × Adds es (insert es k (entry name (v ∷ []))) name v in
    subst G (sym at) (put.ascends, record { last = put.now ∙ ap (λ (ws : List Value). ws ++ v ∷ []) (sym put.was); others = put.others })

pub adds_more : (es : List Entry) (name : FieldName) (v : Value) (k : ℕ) (d : Entry) → k < length es → k ≡ front_len (field_place name) es → same_name (get_or es k d).name name ≡ true
    → Adds es (set es k (entry (get_or es k d).name ((get_or es k d).values ++ v ∷ []))) name v
adds_more es name v k d inside at hit =
    let same = same_is_equal (get_or es k d).name name hit in
    let vs = (get_or es k d).values ++ v ∷ [] in
    let there = values_set es k vs name d inside same (λ j less. leb-false (field_place name) (field_place (get_or es j d).name) (fails_before_first (stands_at (field_place name)) es j d (omega (arith, at)))) in
    record {
      last = there.0 ∙ ap (λ (ws : List Value). ws ++ v ∷ []) (sym there.1);
      others = λ other miss. values_set_other es k vs other d inside (ap (λ n. same_name n other) same ∙ miss);
    }

-- an entry has a value
some_at : (low : ℕ) (es : List Entry) (k : ℕ) (d : Entry) → Ascends low es → k < length es → 0 < length (get_or es k d).values
some_at low [] k d h lt = absurd (omega arith)
some_at low (e ∷ es) zero d h lt = h.2
some_at low (e ∷ es) (suc k) d h lt = some_at (suc (field_place e.name)) es k d h.3 (omega arith)

abbrev pub after_push : {E : Type 0} → Result (Unit {0}) E → List Value → Value → List Value
after_push r vs v = if is_ok r then vs ++ v ∷ [] else vs

pub add_there : {E : Type 0} (es : List Entry) (k : ℕ) (name : FieldName) (v : Value) (here : Entry) (vs : List Value) (r : Result (Unit {0}) E)
    → IsMap es → k < length es → k ≡ front_len (field_place name) es → here ≡ get_or es k here → same_name here.name name ≡ true → vs ≡ after_push r here.values v
    → IsMap (set es k (entry here.name vs)) × OnOk r (Adds es (set es k (entry here.name vs)) name v)
add_there {E = E} es k name v here vs r h inside at is hit pushed =
    let n : here.name ≡ (get_or es k here).name = ap (λ (e : Entry). e.name) is in
    let G : FieldName → Type 0 = λ m. IsMap (set es k (entry m vs)) in
    let some : 0 < length here.values = let N : Entry → Type 0 = λ e. 0 < length e.values in subst N (sym is) (some_at 0 es k here h inside) in
    (subst G (sym n) (ascends_set 0 es k vs here h inside (longer r some pushed)), told r pushed)
  where
    longer : (r : Result (Unit {0}) E) → 0 < length here.values → vs ≡ after_push r here.values v → 0 < length vs
    longer (Ok u) some pushed = omega (arith, ap length pushed, length-append here.values (v ∷ []))
    longer (Err e) some pushed = omega (arith, some, ap length pushed)

    told : (r : Result (Unit {0}) E) → vs ≡ after_push r here.values v → OnOk r (Adds es (set es k (entry here.name vs)) name v)
    told (Ok u) pushed =
        let A : Entry → Type 0 = λ e. Adds es (set es k (entry e.name (e.values ++ v ∷ []))) name v in
        let B : List Value → Type 0 = λ ws. Adds es (set es k (entry here.name ws)) name v in
        subst B (sym pushed) (subst A (sym is) (adds_more es name v k here inside at (ap (λ (e : Entry). same_name e.name name) (sym is) ∙ hit)))
    told (Err e) pushed = tt

pub add_beside : (es : List Entry) (k : ℕ) (name : FieldName) (v : Value) (vs : List Value) (items : List Entry) (ok : Bool)
    → IsMap es → IsFieldName name → k ≡ front_len (field_place name) es → Absent es k name → vs ≡ v ∷ [] → items ≡ (if ok then insert es k (entry name vs) else es)
    → IsMap items × (ok ≡ true → Adds es items name v)
add_beside es k name v vs items true h is at absent one made =
    let z = adds_new es name v k h is at absent in
    let same : items ≡ insert es k (entry name (v ∷ [])) = made ∙ ap (λ (ws : List Value). insert es k (entry name ws)) one in
    let M : List Entry → Type 0 = λ xs. IsMap xs in
    let A : List Entry → Type 0 = λ xs. Adds es xs name v in
    (subst M (sym same) z.0, λ yes. subst A (sym same) z.1)
add_beside es k name v vs items false h is at absent one made = let M : List Entry → Type 0 = λ xs. IsMap xs in (subst M (sym made) h, λ no. absurd cc)

-- the entry at a place is another, whatever stands there past the end
pub absent_at : (es : List Entry) (k : ℕ) (name : FieldName) (here : Entry) → here ≡ get_or es k here → same_name here.name name ≡ false → Absent es k name
absent_at es k name here is miss d inside = ap (λ (e : Entry). same_name e.name name) (get_or_default es k d here inside ∙ sym is) ∙ miss

-- an entry is read twice
pub same_item : (es : List Entry) (k : ℕ) (a b : Entry) → a ≡ get_or es k a → b ≡ get_or es k b → k < length es → a ≡ b
same_item es k a b ha hb inside = ha ∙ get_or_default es k a b inside ∙ sym hb

-- ---- one value for a name, or none

ascends_weak : (low more : ℕ) (es : List Entry) → low ≤ more → Ascends more es → Ascends low es
ascends_weak low more [] le h = tt
ascends_weak low more (e ∷ es) le h = (omega (arith, h.0), h.1, h.2, h.3)

ascends_remove : (low : ℕ) (es : List Entry) (k : ℕ) → Ascends low es → k < length es → Ascends low (remove es k)
ascends_remove low [] k h lt = absurd (omega arith)
ascends_remove low (e ∷ es) zero h lt = ascends_weak low (suc (field_place e.name)) es (omega (arith, h.0)) h.3
ascends_remove low (e ∷ es) (suc k) h lt = (h.0, h.1, h.2, ascends_remove (suc (field_place e.name)) es k h.3 (omega arith))

-- the name that is taken away has no values then
remove_only : (low : ℕ) (es : List Entry) (k : ℕ) (name : FieldName) (d : Entry) → Ascends low es → k < length es → (get_or es k d).name ≡ name
    → ((j : ℕ) → j < k → field_place (get_or es j d).name < field_place name) → values (remove es k) name ≡ []
remove_only low [] k name d h lt same before = absurd (omega arith)
remove_only low (e ∷ es) zero name d h lt same before = values_none es name (suc (field_place e.name)) h.3 (omega (arith, ap field_place same))
remove_only low (e ∷ es) (suc k) name d h lt same before =
    cond-false (same_name e.name name) e.values _ (other_place e.name name (before 0 (omega arith)))
    ∙ remove_only (suc (field_place e.name)) es k name d h.3 (omega arith) same (λ j less. before (suc j) (omega arith))

remove_others : (es : List Entry) (k : ℕ) (other : FieldName) (d : Entry) → k < length es → same_name (get_or es k d).name other ≡ false → values (remove es k) other ≡ values es other
remove_others [] k other d lt miss = absurd (omega arith)
remove_others (e ∷ es) zero other d lt miss = sym (cond-false (same_name e.name other) e.values _ miss)
remove_others (e ∷ es) (suc k) other d lt miss = ap (λ (ws : List Value). if same_name e.name other then e.values else ws) (remove_others es k other d (omega arith) miss)

-- all entries before the place of a name stand before it
before_front : (es : List Entry) (k : ℕ) (name : FieldName) (d : Entry) → k ≡ front_len (field_place name) es → (j : ℕ) → j < k → field_place (get_or es j d).name < field_place name
before_front es k name d at j less = leb-false (field_place name) (field_place (get_or es j d).name) (fails_before_first (stands_at (field_place name)) es j d (omega (arith, at)))

pub removed_entry : (es : List Entry) (k : ℕ) (name : FieldName) (here : Entry) → IsMap es → k < length es → k ≡ front_len (field_place name) es → here ≡ get_or es k here → same_name here.name name ≡ true
    → IsMap (remove es k) × Replaces es (remove es k) name []
removed_entry es k name here h inside at is hit =
    let same = ap (λ (e : Entry). e.name) (sym is) ∙ same_is_equal here.name name hit in (
      ascends_remove 0 es k h inside,
      record {
        only = remove_only 0 es k name here h inside same (before_front es k name here at);
        others = λ other miss. remove_others es k other here inside (ap (λ n. same_name n other) same ∙ miss);
      },
    )

pub only_entry : (es : List Entry) (k : ℕ) (name : FieldName) (vs : List Value) (here : Entry) → IsMap es → k < length es → 0 < length vs → k ≡ front_len (field_place name) es → here ≡ get_or es k here → same_name here.name name ≡ true
    → IsMap (set es k (entry name vs)) × Replaces es (set es k (entry name vs)) name vs
only_entry es k name vs here h inside some at is hit =
    let same = ap (λ (e : Entry). e.name) (sym is) ∙ same_is_equal here.name name hit in
    let G : FieldName → Type 0 = λ n. IsMap (set es k (entry n vs)) × Replaces es (set es k (entry n vs)) name vs in
    subst G same (
      ascends_set 0 es k vs here h inside some,
      record {
        only = (values_set es k vs name here inside same (before_front es k name here at)).0;
        others = λ other miss. values_set_other es k vs other here inside (ap (λ n. same_name n other) same ∙ miss);
      },
    )

pub new_entry : (es : List Entry) (k : ℕ) (name : FieldName) (vs : List Value) → IsMap es → IsFieldName name → 0 < length vs → k ≡ front_len (field_place name) es → Absent es k name
    → IsMap (insert es k (entry name vs)) × Replaces es (insert es k (entry name vs)) name vs
new_entry es k name vs h is some at absent =
    let A : ℕ → Type 0 = λ k. Absent es k name in
    let put = puts_in 0 es name vs h (omega arith) is some (subst A at absent) in
    let G : ℕ → Type 0 = λ k. IsMap (insert es k (entry name vs)) × Replaces es (insert es k (entry name vs)) name vs in
    subst G (sym at) (put.ascends, record { only = put.now; others = put.others })

-- a name that isn't there has no values
pub absent_entry : (es : List Entry) (k : ℕ) (name : FieldName) → IsMap es → IsFieldName name → k ≡ front_len (field_place name) es → Absent es k name → Replaces es es name []
absent_entry es k name h is at absent =
    let A : ℕ → Type 0 = λ k. Absent es k name in
    let v : Value = record { lang = 0; raw = [] } in
    record { only = (puts_in 0 es name (v ∷ []) h (omega arith) is (omega arith) (subst A at absent)).was; others = λ other miss. refl }

-- the same, where the entry was put in or there was no memory
pub new_beside : (es : List Entry) (k : ℕ) (name : FieldName) (vs : List Value) (items : List Entry) (ok : Bool)
    → IsMap es → IsFieldName name → 0 < length vs → k ≡ front_len (field_place name) es → Absent es k name → items ≡ (if ok then insert es k (entry name vs) else es)
    → IsMap items × (ok ≡ true → Replaces es items name vs)
new_beside es k name vs items true h is some at absent made =
    let z = new_entry es k name vs h is some at absent in
    let M : List Entry → Type 0 = λ xs. IsMap xs in
    let R : List Entry → Type 0 = λ xs. Replaces es xs name vs in
    (subst M (sym made) z.0, λ yes. subst R (sym made) z.1)
new_beside es k name vs items false h is some at absent made = let M : List Entry → Type 0 = λ xs. IsMap xs in (subst M (sym made) h, λ no. absurd cc)

-- ---- the values of a name, by the entry at its place

pub values_there : (es : List Entry) (k : ℕ) (name : FieldName) (here : Entry) → k < length es → k ≡ front_len (field_place name) es → here ≡ get_or es k here → same_name here.name name ≡ true
    → here.values ≡ values es name
values_there es k name here inside at is hit =
    let same = ap (λ (e : Entry). e.name) (sym is) ∙ same_is_equal here.name name hit in
    ap (λ (e : Entry). e.values) is ∙ sym (values_set es k [] name here inside same (before_front es k name here at)).1

values_absent : (low : ℕ) (es : List Entry) (name : FieldName) → Ascends low es → Absent es (front_len (field_place name) es) name → [] ≡ values es name
values_absent low [] name h absent = refl
values_absent low (e ∷ es) name h absent = go (stands_at (field_place name) e) refl (λ none. values_absent (suc (field_place e.name)) es name h.3 none)
  where
    go : (t : Bool) → stands_at (field_place name) e ≡ t → (Absent es (front_len (field_place name) es) name → [] ≡ values es name) → [] ≡ values (e ∷ es) name
    go true up again =
        let A : ℕ → Type 0 = λ k. Absent (e ∷ es) k name in
        let here : Absent (e ∷ es) 0 name = subst A (front_zero (field_place name) e es up) absent in
        sym (cond-false (same_name e.name name) e.values _ (here e (omega arith))
        ∙ values_none es name (suc (field_place e.name)) h.3 (omega (arith, leb-true (field_place name) (field_place e.name) up)))
    go false up again =
        let A : ℕ → Type 0 = λ k. Absent (e ∷ es) k name in
        let there : Absent (e ∷ es) (suc (front_len (field_place name) es)) name = subst A (front_more (field_place name) e es up) absent in
        again (λ d inside. there d (omega arith)) ∙ sym (cond-false (same_name e.name name) e.values _ (other_place e.name name (leb-false (field_place name) (field_place e.name) up)))

pub values_missing : (es : List Entry) (k : ℕ) (name : FieldName) → IsMap es → k ≡ front_len (field_place name) es → Absent es k name → [] ≡ values es name
values_missing es k name h at absent =
    let A : ℕ → Type 0 = λ k. Absent es k name in
    values_absent 0 es name h (subst A at absent)
